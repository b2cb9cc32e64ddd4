-- The nodes of a policy one by one: what those still to come make of the trees untaken so far.
use Rattle.std.proofs.Common.{◌≡◌, ℕ, ◌+◌, ◌<◌, ◌≤◌, false, List, [], map, length, get_or, drop, is_some, Some, None, Option, sym, refl, ap, ◌∙◌, arith}
use Rattle.std.proofs.lemmas.List.{drop_more, drop_all}
use Rattle.policy.specs.Roots.{shapes_of}
use Rattle.policy.specs.Shapes.{shape}
use Rattle.policy.specs.Trees.{Untaken, add, on, stack_of}
use Rattle.policy.specs.declared.node.Node.{Node}
use Rattle.policy.specs.declared.policy.Policy.{Policy}
use Rattle.policy.proofs.Adding.{on_none}

-- the nodes from the i-th on leave of r what all of them leave
pub record Leads (nodes : List Node) (i : ℕ) (r : Option Untaken) : Type 0 where
  pub leaves : on (map shape (drop i nodes)) r ≡ stack_of (map shape nodes)

pub first : (nodes : List Node) → Leads nodes 0 (Some [])
first nodes = record { leaves = refl }

pub stuck : {nodes : List Node} {i : ℕ} {r : Option Untaken} → Leads nodes i r → is_some r ≡ false → stack_of (map shape nodes) ≡ None
stuck {nodes} {i} {r = None} l e = sym l.leaves ∙ on_none (map shape (drop i nodes))
stuck {r = Some ts} l e = cc

pub all : {nodes : List Node} {i : ℕ} {r : Option Untaken} → Leads nodes i r → length nodes ≤ i → r ≡ stack_of (map shape nodes)
all {nodes} {i} {r} l past = ap (λ ns. on (map shape ns) r) (sym (drop_all i nodes past)) ∙ l.leaves

-- the i-th node on the trees before it
module _ {nodes : List Node} {i : ℕ} {ts : Untaken} {node : Node} (h : i < length nodes) (is : node ≡ get_or nodes i node) (l : Leads nodes i (Some ts)) where
  pub next : Leads nodes (i + 1) (add (shape node) ts)
  next = record {
    leaves = ap (λ n. on (map shape (drop (i + 1) nodes)) (add (shape n) ts)) is ∙ ap (λ ns. on (map shape ns) (Some ts)) (sym (drop_more nodes i node h)) ∙ l.leaves;
  }

  -- those of a policy go on to its root
  pub goes_on : (p : Policy) → map shape nodes ≡ shapes_of p → (us : Untaken) × (add (shape node) ts ≡ Some us) × Leads nodes (i + 1) (Some us)
  goes_on p same = go (add (shape node) ts) next
    where
      go : (r : Option Untaken) → Leads nodes (i + 1) r → (us : Untaken) × (r ≡ Some us) × Leads nodes (i + 1) (Some us)
      go None m = let nothing = stuck m refl in let sound = p.sound in absurd (grind arith)
      go (Some us) m = (us, refl, m)
