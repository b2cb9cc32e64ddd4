-- The tree of a policy is the one that its nodes leave untaken.
use Rattle.std.proofs.Common.{◌≡◌, [], ◌∷◌, Some, sym}
use Rattle.policy.specs.Roots.{shapes_of, tree_of}
use Rattle.policy.specs.Trees.{Pol, stack_of}
use Rattle.policy.specs.Trees.Tree.{pol}
use Rattle.policy.specs.declared.policy.Policy.{Policy}
use Rattle.policy.proofs.Counting.{one_root}

pub tree_from : (p : Policy) (q : Pol) → stack_of (shapes_of p) ≡ Some (pol q ∷ []) → tree_of p ≡ q
tree_from p q e = let root = one_root p (sym e) in cc
