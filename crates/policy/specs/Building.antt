-- The kinds of the trees that no node has taken, and what a node does to them.
use Rattle.std.specs.Prelude.{◌≡◌, true, false, Some, None, Option, List, [], ◌∷◌, ◌++◌, is_some}
use Rattle.policy.specs.Shapes.{Shape}
use Rattle.policy.specs.Trees.{Untaken, add, trees}
use Rattle.policy.specs.Trees.Tree.{pred, pol}
use Rattle.policy.specs.declared.node.Kind.{Kind}
use Rattle.policy.specs.declared.node.Kind.TheVariants.{Predicate, Policy}

-- the kinds of the untaken trees, the oldest first
abbrev pub kinds_of : Untaken → List Kind
kinds_of [] = []
kinds_of (pred p ∷ ts) = kinds_of ts ++ Predicate ∷ []
kinds_of (pol q ∷ ts) = kinds_of ts ++ Policy ∷ []

-- a node finds its parts and stands in their place, or does not
abbrev pub Takes : Shape → Untaken → Option Unit → List Kind → Type 0
Takes n ts (Some u) ks = (is_some (add n ts) ≡ true) × (ks ≡ kinds_of (trees (add n ts)))
Takes n ts None ks = is_some (add n ts) ≡ false
