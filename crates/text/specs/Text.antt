-- A text as tokens, and what reading it answers.
use Rattle.std.specs.Prelude.{ℕ, suc, ◌+◌, Bool, true, false, cond, List, [], ◌∷◌, reverse, length, Ok, Err, Result, ◌==◌, slice_index}
use Rattle.text.specs.declared.class.Class.{Class}
use Rattle.text.specs.declared.class.Class.TheVariants.{Opening, Closing, Space, LineEnd, Letter, Digit, Point, Stroke, Other}
use Rattle.packet.specs.declared.fault.ReaderCause.{ReaderCause}
use Rattle.packet.specs.declared.fault.ReaderCause.TheVariants.{Byte, Word}
use Rattle.packet.specs.declared.fault.Fault.{Fault}
use Rattle.packet.specs.declared.fault.Fault.TheVariants.{Reader}
use Rattle.text.specs.Bytes.{byte_class}
use Rattle.policy.specs.Shapes.{Shape}
use Rattle.policy.specs.Finishing.{empty_tree}
use Rattle.text.specs.Numbered.{numbered}
use Rattle.text.specs.Dues.{Due}
use Rattle.text.specs.Steps.{Reading, start, and_then, opening, closing, line_ending, wording}

pub data Token : Type 0 where
  t_open t_close t_space t_line t_other : Token
  t_word : List ℕ → Token

-- the token of a first byte's class, with its bytes
abbrev pub token : Class → List ℕ → Token
token Opening w = t_open
token Closing w = t_close
token Space w = t_space
token LineEnd w = t_line
token Letter w = t_word w
token Digit w = t_word w
token Point w = t_word w
token Stroke w = t_word w
token Other w = t_other

abbrev pub in_word : Class → Bool
in_word Opening = false
in_word Closing = false
in_word Space = false
in_word LineEnd = false
in_word Letter = true
in_word Digit = true
in_word Point = true
in_word Stroke = true
in_word Other = false

-- a byte of a word before the tokens of what follows: the word that stands there has one byte more, or a word begins
abbrev pub grow : ℕ → List Token → List Token
grow b [] = t_word (b ∷ []) ∷ []
grow b (t_word w ∷ ts) = t_word (b ∷ w) ∷ ts
grow b (t_open ∷ ts) = t_word (b ∷ []) ∷ t_open ∷ ts
grow b (t_close ∷ ts) = t_word (b ∷ []) ∷ t_close ∷ ts
grow b (t_space ∷ ts) = t_word (b ∷ []) ∷ t_space ∷ ts
grow b (t_line ∷ ts) = t_word (b ∷ []) ∷ t_line ∷ ts
grow b (t_other ∷ ts) = t_word (b ∷ []) ∷ t_other ∷ ts

-- words are longest runs of letters, digits, points and strokes; any other byte stands alone
abbrev pub tokens : List ℕ → List Token
tokens [] = []
tokens (b ∷ bs) = cond (in_word (byte_class b)) (grow b (tokens bs)) (token (byte_class b) [] ∷ tokens bs)

-- how many bytes at the front stand in a word
abbrev pub run : List ℕ → ℕ
run [] = 0
run (b ∷ bs) = cond (in_word (byte_class b)) (suc (run bs)) 0

abbrev pub on_token : Reading → Token → Result Reading ReaderCause
on_token s t_open = opening s
on_token s t_close = closing s
on_token s t_space = Ok s
on_token s t_line = line_ending s
on_token s t_other = Err Byte
on_token s (t_word w) = wording s w

-- the nodes in their order, or what is wrong with the end of the text; a text without forms is the empty policy
abbrev pub ending_on : Reading → List Due → Result (List Shape) ReaderCause
ending_on s [] = Ok (cond s.joins (reverse s.nodes) (numbered empty_tree))
ending_on s (d ∷ ds) = Err Word

unfoldable pub ending : Reading → Result (List Shape) ReaderCause
ending s = ending_on s s.brackets

abbrev pub fault : ℕ → ℕ → ReaderCause → Fault
fault line byte e = Reader e (record { line = line; byte = byte })

abbrev pub at_place : {A : Type 0} → ℕ → ℕ → Result A ReaderCause → Result A Fault
at_place line byte (Ok a) = Ok a
at_place line byte (Err e) = Err (fault line byte e)

abbrev pub size : Token → ℕ
size t_open = 1
size t_close = 1
size t_space = 1
size t_line = 1
size t_other = 1
size (t_word w) = length w

abbrev pub lines : Token → ℕ
lines t_open = 0
lines t_close = 0
lines t_space = 0
lines t_line = 1
lines t_other = 0
lines (t_word w) = 0

-- the rest of a text, from a line and a byte on
abbrev pub read_on : ℕ → ℕ → Reading → List Token → Result (List Shape) Fault
read_on line byte s [] = at_place line byte (ending s)
read_on line byte s (t ∷ ts) = and_then (at_place line byte (on_token s t)) (λ r. read_on (line + lines t) (byte + size t) r ts)

-- the bytes of the first token of a text
abbrev pub item_size : List ℕ → ℕ
item_size bs = cond (in_word (byte_class (slice_index bs 0))) (run bs) 1

-- the line ends in an item
abbrev pub item_lines : List ℕ → ℕ
item_lines bs = cond (slice_index bs 0 == 10) 1 0

-- the nodes of a text, or its first fault
unfoldable pub read_text : List ℕ → Result (List Shape) Fault
read_text text = read_on 1 0 start (tokens text)
