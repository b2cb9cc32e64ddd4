-- Where a refused text is refused: at its first wrong item.
use Rattle.std.specs.Prelude.{◌≡◌, ℕ, ◌+◌, List, [], ◌∷◌, ◌++◌, Ok, Err, Result}
use Rattle.packet.specs.declared.fault.Fault.{Fault}
use Rattle.packet.specs.declared.fault.ReaderCause.{ReaderCause}
use Rattle.packet.specs.declared.fault.ReaderCause.TheVariants.{Word}
use Rattle.policy.specs.Shapes.{Shape}
use Rattle.text.specs.Steps.{Reading, start}
use Rattle.text.specs.Text.{Token, fault, lines, read_on, size}

-- the line ends among some items, and their bytes
abbrev pub ends_in : List Token → ℕ
ends_in [] = 0
ends_in (t ∷ ts) = lines t + ends_in ts

abbrev pub bytes_in : List Token → ℕ
bytes_in [] = 0
bytes_in (t ∷ ts) = size t + bytes_in ts

-- items that are read, or of which only the end comes too soon
abbrev pub NothingWrong : ℕ → ℕ → Result (List Shape) Fault → Type 0
NothingWrong line byte (Ok ns) = Unit {0}
NothingWrong line byte (Err f) = f ≡ fault line byte Word

-- after some items the next is wrong, whatever follows it; where none is left, the end is
abbrev pub WrongNext : (List Token → Result (List Shape) Fault) → Fault → List Token → List Token → Type 0
WrongNext reads f before [] = reads before ≡ Err f
WrongNext reads f before (t ∷ ts) = (more : List Token) → reads (before ++ t ∷ more) ≡ Err f

-- the fault's place is the start of an item or the end, nothing before it is wrong, and that item is
pub record Stops (line byte : ℕ) (s : Reading) (items : List Token) (f : Fault) : Type 0 where
  pub before : List Token
  pub rest : List Token
  pub cut : items ≡ before ++ rest
  pub at_line : ℕ
  pub at_byte : ℕ
  pub cause : ReaderCause
  pub is : f ≡ fault at_line at_byte cause
  pub line_is : at_line ≡ line + ends_in before
  pub byte_is : at_byte ≡ byte + bytes_in before
  pub fine : NothingWrong at_line at_byte (read_on line byte s before)
  pub wrong : WrongNext (read_on line byte s) f before rest

-- a text begins on line 1, at byte 0
abbrev pub FirstWrong : List Token → Fault → Type 0
FirstWrong items f = Stops 1 0 start items f
