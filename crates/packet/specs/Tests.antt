-- When a test is true of a packet.
use Rattle.std.specs.Prelude.{◌≡◌, ℕ, ◌-◌, ◌/◌, ◌^◌, Bool, true, false, ◌&&◌, Some, None, Option, ◌==◌, refl}
use Rattle.packet.specs.Fields.{width, exists, fits}
use Rattle.packet.specs.Packets.{number}
use Rattle.packet.specs.declared.field.Field.{Field}
use Rattle.packet.specs.declared.packet.Packet.{Packet}
use Rattle.packet.specs.declared.test.Test.{Test}

-- the first bits of a field's number, to a length
abbrev pub first_bits : Field → ℕ → ℕ → ℕ
first_bits f length n = n / 2 ^ (width f - length)

-- a number of the test's field has the value's first bits
abbrev pub accepts : Test → ℕ → Bool
accepts t x = first_bits t.field t.length x == first_bits t.field t.length t.value

-- the field exists, and its number is accepted
abbrev pub true_of : Test → Packet → Bool
true_of t p = exists (number p) t.field && accepts t (number p t.field)

abbrev pub tested_if : (f : Field) (value length : ℕ) (room : Bool) → fits f value length ≡ room → Option Test
tested_if f value length true e = Some (record { field = f; value = value; length = length; fit = e })
tested_if f value length false e = None

-- the test of these parts, or none exactly where the field has no room for them
abbrev pub tested : Field → ℕ → ℕ → Option Test
tested f value length = tested_if f value length (fits f value length) refl
