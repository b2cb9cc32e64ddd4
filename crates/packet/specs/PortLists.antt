-- Ports as lists of numbers: which lists are ports, one port more, and how often a port stands in a list.
use Rattle.std.specs.Prelude.{◌≡◌, ℕ, ◌+◌, min, max, Bool, true, false, cond, ◌&&◌, List, [], ◌∷◌, length, Ok, Err, Result, ◌==◌, nat_le, nat_lt}
use Rattle.packet.specs.declared.ports.PortError.{PortError}
use Rattle.packet.specs.declared.ports.PortError.TheVariants.{NoPort, Full}

-- a switch has the ports 1 to 48
abbrev pub is_port : ℕ → Bool
is_port n = nat_le 1 n && nat_le n 48

-- whether numbers rise, copies allowed, from a lowest to a highest
abbrev pub rising_within : ℕ → ℕ → List ℕ → Bool
rising_within low high [] = true
rising_within low high (x ∷ xs) = (nat_le low x && nat_le x high) && rising_within x high xs

-- ports in rising order, copies allowed
abbrev pub are_ports : List ℕ → Bool
are_ports xs = rising_within 1 48 xs

-- how often n stands in a list
abbrev pub times : ℕ → List ℕ → ℕ
times n [] = 0
times n (x ∷ xs) = cond (x == n) 1 0 + times n xs

-- one number more, put at its place in a rising list
abbrev pub placed : ℕ → List ℕ → List ℕ
placed x [] = x ∷ []
placed x (y ∷ ys) = min y x ∷ placed (max y x) ys

-- a port is added to fewer than eight, at its place; any other number, and a ninth port, is refused and changes nothing
abbrev pub Added : {U : Type 0} → List ℕ → ℕ → Result U PortError → List ℕ → Type 0
Added old n (Ok u) new = ((is_port n && nat_lt (length old) 8) ≡ true) × (new ≡ placed n old)
Added old n (Err NoPort) new = (is_port n ≡ false) × (new ≡ old)
Added old n (Err Full) new = (is_port n ≡ true) × (length old ≡ 8) × (new ≡ old)
