-- The nodes of a policy's tree leave that tree untaken, and so tell it from every other.
use Rattle.std.proofs.Common.{◌≡◌, List, [], ◌∷◌, ◌++◌, Some, None, Option, sym, refl, ap, ◌∙◌, append_assoc}
use Rattle.std.proofs.lemmas.List.{append-nil}
use Rattle.policy.specs.Roots.{shapes_of, tree_of}
use Rattle.policy.specs.Shapes.{Shape}
use Rattle.policy.specs.Shapes.Shape.{n_any, n_at, n_is, n_and, n_or, n_not, n_send, n_both, n_keep}
use Rattle.policy.specs.Trees.{Pred, Pol, Tree, Untaken, add, on, stack_of}
use Rattle.policy.specs.Trees.Pred.{any, at, test, and, or, not}
use Rattle.policy.specs.Trees.Pol.{send, both, keep}
use Rattle.policy.specs.Trees.Tree.{pred, pol}
use Rattle.policy.specs.declared.policy.Policy.{Policy}
use Rattle.policy.proofs.Adding.{on_append, on_none}
use Rattle.policy.proofs.Counting.{only_some, root_stays}
use Rattle.policy.proofs.Taking.{some_is}
use Rattle.text.specs.Numbered.{pred_numbered, numbered}
use Rattle.text.proofs.Clash.{none_some}

-- nodes that leave a tree more, whatever was untaken before
abbrev Leaves : List Shape → Tree → Type 0
Leaves ns t = (ts : Untaken) → on ns (Some ts) ≡ Some (t ∷ ts)

one_part : (xs : List Shape) (a : Tree) (n : Shape) (ts : Untaken) → Leaves xs a → on (xs ++ n ∷ []) (Some ts) ≡ on (n ∷ []) (Some (a ∷ ts))
one_part xs a n ts la = on_append xs (n ∷ []) (Some ts) ∙ ap (on (n ∷ [])) (la ts)

two_parts : (xs ys : List Shape) (a b : Tree) (n : Shape) (ts : Untaken) → Leaves xs a → Leaves ys b → on (xs ++ ys ++ n ∷ []) (Some ts) ≡ on (n ∷ []) (Some (b ∷ a ∷ ts))
two_parts xs ys a b n ts la lb =
    on_append (xs ++ ys) (n ∷ []) (Some ts) ∙ ap (on (n ∷ [])) (on_append xs ys (Some ts) ∙ (ap (on ys) (la ts) ∙ lb (a ∷ ts)))

pred_leaves : (p : Pred) → Leaves (pred_numbered p) (pred p)
pred_leaves any ts = refl
pred_leaves (at n) ts = refl
pred_leaves (test t) ts = refl
pred_leaves (and a b) ts = two_parts (pred_numbered a) (pred_numbered b) (pred a) (pred b) n_and ts (pred_leaves a) (pred_leaves b)
pred_leaves (or a b) ts = two_parts (pred_numbered a) (pred_numbered b) (pred a) (pred b) n_or ts (pred_leaves a) (pred_leaves b)
pred_leaves (not a) ts = one_part (pred_numbered a) (pred a) n_not ts (pred_leaves a)

pol_leaves : (q : Pol) → Leaves (numbered q) (pol q)
pol_leaves (send p ps) ts = one_part (pred_numbered p) (pred p) (n_send ps) ts (pred_leaves p)
pol_leaves (both a b) ts = two_parts (numbered a) (numbered b) (pol a) (pol b) n_both ts (pol_leaves a) (pol_leaves b)
pol_leaves (keep p q) ts = two_parts (pred_numbered p) (numbered q) (pred p) (pol q) n_keep ts (pred_leaves p) (pol_leaves q)

pub leaves : (q : Pol) → stack_of (numbered q) ≡ Some (pol q ∷ [])
leaves q = pol_leaves q []

pub same_tree : (p q : Pol) → numbered p ≡ numbered q → p ≡ q
same_tree p q e = let k : Some (pol p ∷ []) ≡ Some (pol q ∷ []) = sym (leaves p) ∙ (ap stack_of e ∙ leaves q) in cc

-- the nodes of the trees untaken, the oldest first
abbrev tree_numbered : Tree → List Shape
tree_numbered (pred p) = pred_numbered p
tree_numbered (pol q) = numbered q

abbrev laid : Untaken → List Shape
laid [] = []
laid (t ∷ ts) = laid ts ++ tree_numbered t

two_laid : (before xs ys zs : List Shape) → ((before ++ xs) ++ ys) ++ zs ≡ before ++ (xs ++ ys ++ zs)
two_laid before xs ys zs = ap (λ l. l ++ zs) (append_assoc before xs ys) ∙ append_assoc before (xs ++ ys) zs

-- a node stands after those of its parts
one_more : (n : Shape) (ts us : Untaken) → add n ts ≡ Some us → laid us ≡ laid ts ++ n ∷ []
one_more n_any ts us e = let z : pred any ∷ ts ≡ us = cc in ap laid (sym z)
one_more (n_at k) ts us e = let z : pred (at k) ∷ ts ≡ us = cc in ap laid (sym z)
one_more (n_is t) ts us e = let z : pred (test t) ∷ ts ≡ us = cc in ap laid (sym z)
one_more n_and [] us e = absurd (none_some e)
one_more n_and (pol q ∷ ts) us e = absurd (none_some e)
one_more n_and (pred b ∷ []) us e = absurd (none_some e)
one_more n_and (pred b ∷ pol q ∷ ts) us e = absurd (none_some e)
one_more n_and (pred b ∷ pred a ∷ ts) us e = let z : pred (and a b) ∷ ts ≡ us = cc in ap laid (sym z) ∙ sym (two_laid (laid ts) (pred_numbered a) (pred_numbered b) (n_and ∷ []))
one_more n_or [] us e = absurd (none_some e)
one_more n_or (pol q ∷ ts) us e = absurd (none_some e)
one_more n_or (pred b ∷ []) us e = absurd (none_some e)
one_more n_or (pred b ∷ pol q ∷ ts) us e = absurd (none_some e)
one_more n_or (pred b ∷ pred a ∷ ts) us e = let z : pred (or a b) ∷ ts ≡ us = cc in ap laid (sym z) ∙ sym (two_laid (laid ts) (pred_numbered a) (pred_numbered b) (n_or ∷ []))
one_more n_not [] us e = absurd (none_some e)
one_more n_not (pol q ∷ ts) us e = absurd (none_some e)
one_more n_not (pred a ∷ ts) us e = let z : pred (not a) ∷ ts ≡ us = cc in ap laid (sym z) ∙ sym (append_assoc (laid ts) (pred_numbered a) (n_not ∷ []))
one_more (n_send ps) [] us e = absurd (none_some e)
one_more (n_send ps) (pol q ∷ ts) us e = absurd (none_some e)
one_more (n_send ps) (pred a ∷ ts) us e = let z : pol (send a ps) ∷ ts ≡ us = cc in ap laid (sym z) ∙ sym (append_assoc (laid ts) (pred_numbered a) (n_send ps ∷ []))
one_more n_both [] us e = absurd (none_some e)
one_more n_both (pred p ∷ ts) us e = absurd (none_some e)
one_more n_both (pol b ∷ []) us e = absurd (none_some e)
one_more n_both (pol b ∷ pred p ∷ ts) us e = absurd (none_some e)
one_more n_both (pol b ∷ pol a ∷ ts) us e = let z : pol (both a b) ∷ ts ≡ us = cc in ap laid (sym z) ∙ sym (two_laid (laid ts) (numbered a) (numbered b) (n_both ∷ []))
one_more n_keep [] us e = absurd (none_some e)
one_more n_keep (pred p ∷ ts) us e = absurd (none_some e)
one_more n_keep (pol b ∷ []) us e = absurd (none_some e)
one_more n_keep (pol b ∷ pol q ∷ ts) us e = absurd (none_some e)
one_more n_keep (pol b ∷ pred a ∷ ts) us e = let z : pol (keep a b) ∷ ts ≡ us = cc in ap laid (sym z) ∙ sym (two_laid (laid ts) (pred_numbered a) (numbered b) (n_keep ∷ []))

all_laid : (ns : List Shape) (ts us : Untaken) → on ns (Some ts) ≡ Some us → laid us ≡ laid ts ++ ns
all_laid [] ts us e = let z : ts ≡ us = cc in ap laid (sym z) ∙ sym (append-nil (laid ts))
all_laid (n ∷ ns) ts us e = go (add n ts) refl e (λ vs h. all_laid ns vs us h)
  where
    go : (r : Option Untaken) → add n ts ≡ r → on ns r ≡ Some us → ((vs : Untaken) → on ns (Some vs) ≡ Some us → laid us ≡ laid vs ++ ns) → laid us ≡ laid ts ++ n ∷ ns
    go None q h ih = absurd (none_some (sym (on_none ns) ∙ h))
    go (Some vs) q h ih = ih vs h ∙ (ap (λ l. l ++ ns) (one_more n ts vs q) ∙ append_assoc (laid ts) (n ∷ []) ns)

-- a policy's nodes are its tree's, numbered
pub policy_numbered : (p : Policy) → shapes_of p ≡ numbered (tree_of p)
policy_numbered p =
    let o : Option Untaken = stack_of (shapes_of p) in
    sym (all_laid (shapes_of p) [] (pol (tree_of p) ∷ []) (some_is o (only_some o p.sound) ∙ ap Some (root_stays o p.sound)))
