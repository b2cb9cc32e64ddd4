-- The first item of a text, as the code has it.
use Rattle.std.specs.Prelude.{◌≡◌, ℕ, ◌<◌, List, [], length, take, Some, None, Option, slice_index}
use denote.Ref.{Bor}
use Rattle.text.specs.Bytes.{byte_class}
use Rattle.text.specs.Text.{item_size}
use Rattle.text.specs.declared.class.Class.{Class}

-- its bytes, with the class of the first; there is none only where there is no byte
abbrev pub FirstItem : List ℕ → Option (Class × Bor (List ℕ)) → Type 0
FirstItem bs None = bs ≡ []
FirstItem bs (Some p) = (0 < length bs) × (p.0 ≡ byte_class (slice_index bs 0)) × (p.1.now ≡ take (item_size bs) bs)
