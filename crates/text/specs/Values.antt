-- Numbers, addresses and the tests of fields, as words write them.
use Rattle.std.specs.Prelude.{ℕ, ◌+◌, ◌-◌, ◌*◌, ◌%◌, ◌^◌, cond, List, [], ◌∷◌, length, Some, None, Option, ◌==◌, nat_le, nat_lt}
use Rattle.packet.specs.Fields.{width}
use Rattle.packet.specs.PortLists.{is_port}
use Rattle.packet.specs.Tests.{tested}
use Rattle.packet.specs.declared.field.Field.{Field}
use Rattle.packet.specs.declared.field.Field.TheVariants.{DlSrc, DlDst, DlTyp, NwSrc, NwDst, NwProto, TpSrc, TpDst}
use Rattle.packet.specs.declared.test.Test.{Test}
use Rattle.text.specs.Bytes.{between}

abbrev pub and_some : {A B : Type 0} → Option A → (A → Option B) → Option B
and_some None f = None
and_some (Some a) f = f a

-- a digit 0 to 9
abbrev pub digit : ℕ → Option ℕ
digit b = cond (between 48 57 b) (Some (b - 48)) None

-- a digit 0 to 9 or a to f
abbrev pub nibble : ℕ → Option ℕ
nibble b = cond (between 97 102 b) (Some (b - 87)) (digit b)

-- a digit of any base of at most 36: 0 to 9, then small letters from a on
abbrev pub below : ℕ → ℕ → Option ℕ
below base d = cond (nat_lt d base) (Some d) None

abbrev pub digit_in : ℕ → ℕ → Option ℕ
digit_in base b = cond (between 97 122 b) (below base (b - 87)) (cond (between 48 57 b) (below base (b - 48)) None)

-- digits of a base read on from a value n, or none where another byte stands among them
abbrev pub digits : ℕ → (ℕ → Option ℕ) → ℕ → List ℕ → Option ℕ
digits base one n [] = Some n
digits base one n (b ∷ bs) = and_some (one b) (λ d. digits base one (n * base + d) bs)

-- a decimal: one or more digits, the first no 0 unless it is alone
abbrev pub decimal : List ℕ → Option ℕ
decimal [] = None
decimal (b ∷ []) = digits 10 digit 0 (b ∷ [])
decimal (b ∷ c ∷ bs) = cond (b == 48) None (digits 10 digit 0 (b ∷ c ∷ bs))

abbrev pub at_most : ℕ → Option ℕ → Option ℕ
at_most limit None = None
at_most limit (Some n) = cond (nat_le n limit) (Some n) None

-- a decimal of at most a limit
abbrev pub numeral : ℕ → List ℕ → Option ℕ
numeral limit w = at_most limit (decimal w)

-- a number of 16 bits
abbrev pub sixteen_bits : List ℕ → Option ℕ
sixteen_bits w = numeral 65535 w

-- a decimal that is a port of a switch
abbrev pub port_from : List ℕ → Option ℕ
port_from w = and_some (numeral 255 w) (λ n. cond (is_port n) (Some n) None)

-- a hardware address
abbrev pub hardware : List ℕ → Option ℕ
hardware w = cond (length w == 12) (digits 16 nibble 0 w) None

-- what stands before and after the first byte sep
pub record Cut : Type 0 where
  pub front : List ℕ
  pub back : List ℕ

abbrev pub longer : ℕ → Option Cut → Option Cut
longer b None = None
longer b (Some c) = Some (record { front = b ∷ c.front; back = c.back })

abbrev pub cut : ℕ → List ℕ → Option Cut
cut sep [] = None
cut sep (b ∷ bs) = cond (b == sep) (Some (record { front = []; back = bs })) (longer b (cut sep bs))

-- four numbers with points between them
abbrev pub quad : List ℕ → Option ℕ
quad w =
    and_some (cut 46 w) (λ a. and_some (cut 46 a.back) (λ b. and_some (cut 46 b.back) (λ c.
    and_some (numeral 255 a.front) (λ i. and_some (numeral 255 b.front) (λ j.
    and_some (numeral 255 c.front) (λ k. and_some (numeral 255 c.back) (λ l.
    Some (((i * 256 + j) * 256 + k) * 256 + l))))))))

-- an address to a length, no bit past it set
abbrev pub cut_off : Field → ℕ → ℕ → Option Test
cut_off f n l = cond (n % 2 ^ (width f - l) == 0) (tested f n l) None

abbrev pub network_on : Field → List ℕ → Option Cut → Option Test
network_on f w None = and_some (quad w) (λ n. cut_off f n (width f))
network_on f w (Some c) = and_some (quad c.front) (λ n. and_some (numeral (width f) c.back) (λ l. cut_off f n l))

-- an address, alone or with a stroke and a length
abbrev pub network : Field → List ℕ → Option Test
network f w = network_on f w (cut 47 w)

-- the test of a field's whole number, where the field has room for it
abbrev pub full : Field → Option ℕ → Option Test
full f o = and_some o (λ n. tested f n (width f))

-- the test of a field that a word writes
abbrev pub test_from : Field → List ℕ → Option Test
test_from DlSrc w = full DlSrc (hardware w)
test_from DlDst w = full DlDst (hardware w)
test_from DlTyp w = full DlTyp (sixteen_bits w)
test_from NwSrc w = network NwSrc w
test_from NwDst w = network NwDst w
test_from NwProto w = full NwProto (sixteen_bits w)
test_from TpSrc w = full TpSrc (sixteen_bits w)
test_from TpDst w = full TpDst (sixteen_bits w)

-- the value of a test of a field's whole width
abbrev pub full_value : Field → Option Test → Option ℕ
full_value f o = and_some o (λ t. cond (t.length == width f) (Some t.value) None)
