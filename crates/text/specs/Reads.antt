-- What reading a text into a place answers, and what it means in terms of the grammar.
use Rattle.std.specs.Prelude.{◌≡◌, ℕ, ◌≤◌, List, Ok, Err, Result}
use Rattle.packet.specs.Faults.{number_of}
use Rattle.packet.specs.declared.fault.Fault.{Fault}
use Rattle.policy.specs.Roots.{shapes_of, tree_of}
use Rattle.policy.specs.Trees.{Pol}
use Rattle.policy.specs.declared.policy.Policy.{Policy}
use Rattle.text.specs.Grammar.{Writes}
use Rattle.text.specs.Numbered.{numbered}
use Rattle.text.specs.Places.{FirstWrong}
use Rattle.text.specs.Text.{read_text, tokens}

-- the text's first fault, of number 1 to 6, at its first wrong item; the place is as it was
pub record Refused (text : List ℕ) (f : Fault) (old new : Policy) : Type 0 where
  pub first : read_text text ≡ Err f
  pub stops : FirstWrong (tokens text) f
  pub lowest : 1 ≤ number_of f
  pub highest : number_of f ≤ 6
  pub unchanged : new ≡ old

-- the place holds the nodes of the text, or the text is refused
abbrev pub Answer : {U : Type 0} → List ℕ → Result U Fault → Policy → Policy → Type 0
Answer text (Ok u) old new = read_text text ≡ Ok (shapes_of new)
Answer text (Err f) old new = Refused text f old new

-- the policy is the one that the text writes, node for node in the order in which brackets close
pub record ReadsAs (text : List ℕ) (p : Policy) : Type 0 where
  pub writes : Writes text (tree_of p)
  pub only : (q : Pol) → Writes text q → q ≡ tree_of p
  pub order : shapes_of p ≡ numbered (tree_of p)

-- what is read is written, and a text that is refused writes nothing
abbrev pub Grammatical : {U : Type 0} → List ℕ → Result U Fault → Policy → Type 0
Grammatical text (Ok u) new = ReadsAs text new
Grammatical text (Err f) new = (q : Pol) → Writes text q → ⊥
