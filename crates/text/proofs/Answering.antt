-- What an answer of the reader's definition means: the policy in the place, or the refusal.
use Rattle.std.proofs.Common.{◌≡◌, ℕ, ◌≤◌, true, List, Ok, Err, sym, refl, ap, ◌∙◌, subst, arith}
use Rattle.packet.specs.Faults.{number_of}
use Rattle.packet.specs.declared.fault.Fault.{Fault}
use Rattle.packet.specs.declared.fault.ReaderCause.{ReaderCause}
use Rattle.packet.specs.declared.fault.ReaderCause.TheVariants.{Byte, Head, Word, Value, Depth, Nodes}
use Rattle.policy.specs.Roots.{shapes_of, tree_of}
use Rattle.policy.specs.Shapes.{Shape}
use Rattle.policy.specs.Trees.{Pol, stack_of, only_policy}
use Rattle.policy.specs.declared.policy.Policy.{Policy}
use Rattle.policy.proofs.Rooting.{tree_from}
use Rattle.text.specs.Grammar.{Writes}
use Rattle.text.specs.Numbered.{numbered}
use Rattle.text.specs.Reads.{Refused, ReadsAs}
use Rattle.text.specs.Text.{fault, read_text, tokens}
use Rattle.text.proofs.Clash.{err_ok}
use Rattle.text.proofs.Complete.{complete}
use Rattle.text.proofs.Leaves.{leaves, policy_numbered, same_tree}
use Rattle.text.proofs.Sound.{sound}
use Rattle.text.proofs.Stopping.{stops}

-- the numbers of the reader's faults
abbrev Ours : Fault → Type 0
Ours f = (1 ≤ number_of f) × (number_of f ≤ 6)

ours : (line byte : ℕ) (e : ReaderCause) → Ours (fault line byte e)
ours line byte Byte = (omega arith, omega arith)
ours line byte Head = (omega arith, omega arith)
ours line byte Word = (omega arith, omega arith)
ours line byte Value = (omega arith, omega arith)
ours line byte Depth = (omega arith, omega arith)
ours line byte Nodes = (omega arith, omega arith)

module _ (f : Fault) where
  pub refused : (text : List ℕ) (p : Policy) → read_text text ≡ Err f → Refused text f p p
  unfolding read_text
  refused text p e =
      let st = stops f 1 0 _ (tokens text) e in
      let o = subst Ours (sym st.is) (ours st.at_line st.at_byte st.cause) in
      record { first = e; stops = st; lowest = o.0; highest = o.1; unchanged = refl }

  pub writes_nothing : (text : List ℕ) → read_text text ≡ Err f → (q : Pol) → Writes text q → ⊥
  writes_nothing text e q w = err_ok (sym e ∙ complete text q w)

-- what is read makes a policy
pub makes_policy : (text : List ℕ) (ns : List Shape) → read_text text ≡ Ok ns → only_policy (stack_of ns) ≡ true
makes_policy text ns e = let s = sound text ns e in ap (λ l. only_policy (stack_of l)) s.2 ∙ ap only_policy (leaves s.0)

pub reads_as : (text : List ℕ) (p : Policy) → read_text text ≡ Ok (shapes_of p) → ReadsAs text p
reads_as text p e =
    let s = sound text (shapes_of p) e in
    let q = s.0 in
    let is : tree_of p ≡ q = tree_from p q (ap stack_of s.2 ∙ leaves q) in
    let order : shapes_of p ≡ numbered (tree_of p) = policy_numbered p in
    let again : (r : Pol) → Writes text r → Ok (numbered r) ≡ Ok (numbered (tree_of p)) = λ r w. sym (complete text r w) ∙ (e ∙ ap Ok order) in
    record {
      writes = subst (Writes text) (sym is) s.1;
      only = λ r w. same_tree r (tree_of p) (let h = again r w in cc);
      order = order;
    }
