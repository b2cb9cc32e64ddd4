-- A text that is refused writes no policy, and its first fault is told.
use Rattle.std.proofs.Common.{◌≡◌, ℕ, List, Ok, Err, Result, MatchResult, IsErrAnd, string_bytes, subst, sym, ap, ◌∙◌, arith}
use Rattle.packet.specs.declared.fault.Fault.{Fault}
use Rattle.policy.specs.declared.policy.Policy.{Policy}
use Rattle.text.specs.Grammar.{Writes}
use Rattle.text.specs.Reads.{Answer, Grammatical}
use Rattle.text.specs.Text.{read_text}
use Rattle.console.specs.Answers.{Fails}
use Rattle.console.specs.Texts.{Tells, text_of}
use Rattle.console.specs.declared.failure.Failure.{Failure}
use Rattle.console.specs.declared.failure.Failure.TheVariants.{Told, System, Memory}
use Rattle.console.specs.declared.sources.Sources.{Sources}

-- a line tells the fault, or memory was wanting
abbrev pub TellsFault : Sources → Fault → Failure → Type 0
TellsFault s fault (Told line) = Tells s fault (string_bytes line)
TellsFault s fault (System e) = ⊥
TellsFault s fault Memory = Unit {0}

fails : (s : Sources) (fault : Fault) (f : Failure) → read_text (text_of s) ≡ Err fault → ((q : _) → Writes (text_of s) q → ⊥) → TellsFault s fault f → Fails s f
fails s fault (Told line) read_so nothing tells = record { first_fault = fault; read_so = read_so; tells = tells; nothing = nothing }
fails s fault (System e) read_so nothing tells = tells
fails s fault Memory read_so nothing tells = tt

pub refused : {U : Type 0} (Post : Fault → Failure → Type 0) (s : Sources) (text : List ℕ) (r : Result U Fault) (m : Result U Failure) (f : Failure) (old new : Policy) → text ≡ text_of s → Answer text r old new → Grammatical text r new → MatchResult r (λ u. m ≡ Ok u) (λ e. IsErrAnd m (Post e)) → m ≡ Err f → ((e : Fault) → Post e f → TellsFault s e f) → Fails s f
refused Post s text (Ok u) m f old new whole answer grammar same failed told = let z : ◌≡◌ {A = ℕ} 0 1 = cc in absurd (omega arith)
refused Post s text (Err e) m f old new whole answer grammar same failed told =
    fails s e f (ap read_text (sym whole) ∙ answer.first) (λ q w. grammar q (subst (λ t. Writes t q) (sym whole) w))
    (told e (subst (λ x. IsErrAnd x (Post e)) failed same))
