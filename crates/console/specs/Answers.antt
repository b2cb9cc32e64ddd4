-- What the answers of the program promise, in terms of the grammar and the meaning of policies.
use Rattle.std.specs.Prelude.{◌≡◌, ℕ, List, length, Err, string_bytes}
use Rattle.packet.specs.declared.fault.Fault.{Fault}
use Rattle.packet.specs.declared.packet.Packet.{Packet}
use Rattle.policy.specs.Meaning.{Counts}
use Rattle.policy.specs.Trees.{Pol}
use Rattle.text.specs.Grammar.{Writes}
use Rattle.text.specs.Numbered.{numbered}
use Rattle.text.specs.Text.{read_text}
use Rattle.console.specs.Lines.{ports_line, nodes_line}
use Rattle.console.specs.Texts.{Tells, text_of}
use Rattle.console.specs.declared.failure.Failure.{Failure}
use Rattle.console.specs.declared.failure.Failure.TheVariants.{Told, System, Memory}
use Rattle.console.specs.declared.sources.Sources.{Sources}

-- the line tells the text's first fault, and the text writes no policy
pub record Refusal (s : Sources) (line : List ℕ) : Type 0 where
  pub first_fault : Fault
  pub read_so : read_text (text_of s) ≡ Err first_fault
  pub tells : Tells s first_fault line
  pub nothing : (q : Pol) → Writes (text_of s) q → ⊥

-- no answer: the text is refused, or memory was wanting; no file is touched, so the system has no say
abbrev pub Fails : Sources → Failure → Type 0
Fails s (Told line) = Refusal s (string_bytes line)
Fails s (System e) = ⊥
Fails s Memory = Unit {0}

-- the text writes a policy, and the line says how many nodes it has
abbrev pub SaysNodes : List ℕ → List ℕ → Type 0
SaysNodes text line = (q : Pol) × Writes text q × (line ≡ nodes_line (length (numbered q)))

-- the text writes a policy, and the line lists its copies of the packet at the switch
abbrev pub SaysPorts : List ℕ → ℕ → Packet → List ℕ → Type 0
SaysPorts text switch packet line = (q : Pol) × Writes text q × (counts : List ℕ) × Counts q switch packet counts × (line ≡ ports_line counts)
