-- The nodes of a tree, in the order in which its brackets close.
use Rattle.std.specs.Prelude.{List, [], ◌∷◌, ◌++◌}
use Rattle.policy.specs.Shapes.{Shape}
use Rattle.policy.specs.Shapes.Shape.{n_any, n_at, n_is, n_and, n_or, n_not, n_send, n_both, n_keep}
use Rattle.policy.specs.Trees.{Pred, Pol}
use Rattle.policy.specs.Trees.Pred.{any, at, test, and, or, not}
use Rattle.policy.specs.Trees.Pol.{send, both, keep}

abbrev pub pred_numbered : Pred → List Shape
pred_numbered any = n_any ∷ []
pred_numbered (at n) = n_at n ∷ []
pred_numbered (test t) = n_is t ∷ []
pred_numbered (and a b) = pred_numbered a ++ pred_numbered b ++ n_and ∷ []
pred_numbered (or a b) = pred_numbered a ++ pred_numbered b ++ n_or ∷ []
pred_numbered (not a) = pred_numbered a ++ n_not ∷ []

abbrev pub numbered : Pol → List Shape
numbered (send p ps) = pred_numbered p ++ n_send ps ∷ []
numbered (both a b) = numbered a ++ numbered b ++ n_both ∷ []
numbered (keep p q) = pred_numbered p ++ numbered q ++ n_keep ∷ []
