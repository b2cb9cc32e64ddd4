-- The nodes that a tree's brackets make as they close, the newest first, are its numbered nodes from the last to the first.
use Rattle.std.proofs.Common.{◌≡◌, List, [], ◌∷◌, ◌++◌, reverse, ap, ◌∙◌, append_assoc}
use mathlib.Core.List.{reverse-cons}
use Rattle.policy.specs.Shapes.{Shape}
use Rattle.policy.specs.Shapes.Shape.{n_any, n_at, n_is, n_and, n_or, n_not, n_send, n_both, n_keep}
use Rattle.policy.specs.Trees.{Pred, Pol}
use Rattle.policy.specs.Trees.Pred.{any, at, test, and, or, not}
use Rattle.policy.specs.Trees.Pol.{send, both, keep}
use Rattle.text.specs.Numbered.{pred_numbered, numbered}

-- the nodes as brackets close, the newest first, after those in ns
abbrev pub root : Pred → Shape
root any = n_any
root (at n) = n_at n
root (test t) = n_is t
root (and a b) = n_and
root (or a b) = n_or
root (not a) = n_not

-- the nodes of a predicate's parts, after those in ns; then its own
abbrev pub parts : Pred → List Shape → List Shape
parts any ns = ns
parts (at n) ns = ns
parts (test t) ns = ns
parts (and a b) ns = root b ∷ parts b (root a ∷ parts a ns)
parts (or a b) ns = root b ∷ parts b (root a ∷ parts a ns)
parts (not a) ns = root a ∷ parts a ns

abbrev pub push : Pred → List Shape → List Shape
push p ns = root p ∷ parts p ns

abbrev pub pol_root : Pol → Shape
pol_root (send p ps) = n_send ps
pol_root (both a b) = n_both
pol_root (keep p q) = n_keep

abbrev pub pol_parts : Pol → List Shape → List Shape
pol_parts (send p ps) ns = push p ns
pol_parts (both a b) ns = pol_root b ∷ pol_parts b (pol_root a ∷ pol_parts a ns)
pol_parts (keep p q) ns = pol_root q ∷ pol_parts q (push p ns)

abbrev pub push_pol : Pol → List Shape → List Shape
push_pol q ns = pol_root q ∷ pol_parts q ns

-- the newest node stands last, after those of its parts
after_one : (before : List Shape) (n : Shape) (ms xs : List Shape) → reverse ms ≡ before ++ xs → reverse (n ∷ ms) ≡ before ++ (xs ++ n ∷ [])
after_one before n ms xs e = reverse-cons n ms ∙ (ap (λ l. l ++ n ∷ []) e ∙ append_assoc before xs (n ∷ []))

after_two : (before : List Shape) (n : Shape) (ms xs ys : List Shape) → reverse ms ≡ (before ++ xs) ++ ys → reverse (n ∷ ms) ≡ before ++ (xs ++ ys ++ n ∷ [])
after_two before n ms xs ys e = after_one before n ms (xs ++ ys) (e ∙ append_assoc before xs ys)

pred_order : (p : Pred) (ns : List Shape) → reverse (push p ns) ≡ reverse ns ++ pred_numbered p
pred_order any ns = reverse-cons n_any ns
pred_order (at n) ns = reverse-cons (n_at n) ns
pred_order (test t) ns = reverse-cons (n_is t) ns
pred_order (and a b) ns = after_two (reverse ns) n_and (push b (push a ns)) (pred_numbered a) (pred_numbered b) (pred_order b (push a ns) ∙ ap (λ l. l ++ pred_numbered b) (pred_order a ns))
pred_order (or a b) ns = after_two (reverse ns) n_or (push b (push a ns)) (pred_numbered a) (pred_numbered b) (pred_order b (push a ns) ∙ ap (λ l. l ++ pred_numbered b) (pred_order a ns))
pred_order (not a) ns = after_one (reverse ns) n_not (push a ns) (pred_numbered a) (pred_order a ns)

pol_order : (q : Pol) (ns : List Shape) → reverse (push_pol q ns) ≡ reverse ns ++ numbered q
pol_order (send p ps) ns = after_one (reverse ns) (n_send ps) (push p ns) (pred_numbered p) (pred_order p ns)
pol_order (both a b) ns = after_two (reverse ns) n_both (push_pol b (push_pol a ns)) (numbered a) (numbered b) (pol_order b (push_pol a ns) ∙ ap (λ l. l ++ numbered b) (pol_order a ns))
pol_order (keep p q) ns = after_two (reverse ns) n_keep (push_pol q (push p ns)) (pred_numbered p) (numbered q) (pol_order q (push p ns) ∙ ap (λ l. l ++ numbered q) (pred_order p ns))

pub in_order : (q : Pol) → reverse (push_pol q []) ≡ numbered q
in_order q = pol_order q []
