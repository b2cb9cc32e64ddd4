-- The nodes of a policy, and the tree that it stands for.
use Rattle.std.specs.Prelude.{◌≡◌, true, List, [], ◌∷◌, map, Some, None, Option}
use Rattle.std.proofs.lemmas.Bool.{false≢true}
use Rattle.packet.specs.Items.{items_of}
use Rattle.policy.specs.Shapes.{Shape, shape}
use Rattle.policy.specs.Trees.{Pol, Untaken, stack_of, only_policy}
use Rattle.policy.specs.Trees.Tree.{pred, pol}
use Rattle.policy.specs.declared.policy.Policy.{Policy}

-- the one tree that stays
abbrev pub root_of : (o : Option Untaken) → only_policy o ≡ true → Pol
root_of None e = absurd (false≢true e)
root_of (Some []) e = absurd (false≢true e)
root_of (Some (pred p ∷ ts)) e = absurd (false≢true e)
root_of (Some (pol q ∷ [])) e = q
root_of (Some (pol q ∷ t ∷ ts)) e = absurd (false≢true e)

abbrev pub shapes_of : Policy → List Shape
shapes_of p = map shape (items_of p.nodes)

abbrev pub tree_of : Policy → Pol
tree_of p = root_of (stack_of (shapes_of p)) p.sound
