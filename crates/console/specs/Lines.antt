-- The lines that the program answers.
use Rattle.std.specs.List.{repeat}
use Rattle.std.specs.Prelude.{ℕ, ◌+◌, List, [], ◌∷◌, ◌++◌, codes, decimal}

-- ports in rising order from one on, each after a space and as often as it is counted
abbrev pub listed : ℕ → List ℕ → List ℕ
listed port [] = []
listed port (count ∷ counts) = repeat count (codes " " ++ decimal port) ++ listed (port + 1) counts

abbrev pub or_none : List ℕ → List ℕ
or_none [] = codes " none"
or_none (byte ∷ bytes) = byte ∷ bytes

-- what `ports` prints of 48 counts, and `check` of a number of nodes
abbrev pub ports_line : List ℕ → List ℕ
ports_line counts = codes "ports" ++ or_none (listed 1 counts)

abbrev pub nodes_line : ℕ → List ℕ
nodes_line n = decimal n ++ codes " nodes"
