-- Nodes put one after another on what is untaken.
use Rattle.std.proofs.Common.{◌≡◌, List, [], ◌∷◌, ◌++◌, Some, None, Option, sym, refl}
use Rattle.policy.specs.Shapes.{Shape}
use Rattle.policy.specs.Trees.{Untaken, add, on}

pub on_none : (ns : List Shape) → on ns None ≡ None
on_none [] = refl
on_none (n ∷ ns) = refl

pub on_append : (ns ms : List Shape) (r : Option Untaken) → on (ns ++ ms) r ≡ on ms (on ns r)
on_append [] ms r = refl
on_append (n ∷ ns) ms None = sym (on_none ms)
on_append (n ∷ ns) ms (Some ts) = on_append ns ms (add n ts)
