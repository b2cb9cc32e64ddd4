-- The numbers of the parts follow from the stack discipline.
use Rattle.std.proofs.Common.{◌≡◌, ℕ, zero, suc, ◌+◌, ◌-◌, ◌<◌, ◌≤◌, true, List, [], ◌∷◌, ◌++◌, map, reverse, length, get_or, take, drop, is_some, Some, None, Option, sym, refl, ap, ◌∙◌, subst, append_assoc, arith}
use Rattle.std.specs.List.{range_with_len}
use Rattle.std.proofs.lemmas.List.{take-append-drop, take-map, drop-map, get_or_at, length_push}
use Rattle.std.proofs.lemmas.Bool.Decides.{nat_tests}
use Rattle.policy.specs.declared.node.Kind.TheVariants.{Policy}
use Rattle.policy.specs.Shapes.{Shape}
use Rattle.policy.specs.Shapes.Shape.{n_any}
use Rattle.policy.specs.Kinds.{kind_of, wanted}
use Rattle.packet.specs.PortLists.{times}
use Rattle.policy.specs.Parts.{arity, left_after, parts_from, owners, kinds_at, PartsRight}
use Rattle.policy.specs.Trees.{Untaken, add, on, stack_of, trees, only_policy}
use Rattle.policy.proofs.Adding.{on_none}
use Rattle.policy.proofs.Taking.{newest_kinds, some_is, took}
use Rattle.policy.proofs.Counting.{only_some, root_stays, times_append}

times_cut : (j a : ℕ) (free : List ℕ) → times j (take a free) + times j (drop a free) ≡ times j free
times_cut j a free = sym (times_append j (take a free) (drop a free)) ∙ ap (times j) (take-append-drop a free)

-- parts are numbered below their node
next_below : (i a j : ℕ) (free : List ℕ) → ((k : ℕ) → 0 < times k free → k < i) → 0 < times j (i ∷ drop a free) → j < i + 1
next_below i a j free low h =
    let parted = times_cut j a free in
    let known = low j in
    grind (arith, nat_tests)

below_from : (ns : List Shape) (first : ℕ) (free : List ℕ) → ((k : ℕ) → 0 < times k free → k < first) → (i j : ℕ) → i < length ns → 0 < times j (get_or (parts_from ns first free) i []) → j < first + i
below_from [] first free low i j within h = absurd (omega arith)
below_from (n ∷ ns) first free low zero j within h = omega (arith, low j (omega (arith, times_cut j (arity n) free)))
below_from (n ∷ ns) first free low (suc i) j within h =
    omega (arith, below_from ns (first + 1) (first ∷ drop (arity n) free) (λ k. next_below first (arity n) k free low) i j (omega arith) h)

-- each number is a part of a node or still untaken
owned : (ns : List Shape) (first : ℕ) (free : List ℕ) (j : ℕ) → owners j (parts_from ns first free) + times j (left_after ns first free) ≡ times j free + times j (range_with_len first (length ns))
owned [] first free j = omega arith
owned (n ∷ ns) first free j = omega (arith, owned ns (first + 1) (first ∷ drop (arity n) free) j, times_cut j (arity n) free)

times_past : (j a n : ℕ) → j < a → times j (range_with_len a n) ≡ 0
times_past j a zero h = refl
times_past j a (suc n) h = let past = times_past j (a + 1) n (omega arith) in grind (arith, nat_tests)

times_counting : (j a n : ℕ) → a ≤ j → j < a + n → times j (range_with_len a n) ≡ 1
times_counting j a zero h l = absurd (omega arith)
times_counting j a (suc n) h l =
    let here = times_past j (a + 1) n in
    let later = times_counting j (a + 1) n in
    grind (arith, nat_tests)

-- the last is untaken
last_left : (n : Shape) (ns : List Shape) (first : ℕ) (free : List ℕ) → (rest : List ℕ) × (left_after (n ∷ ns) first free ≡ (first + length ns) ∷ rest)
last_left n [] first free = (drop (arity n) free, ap (λ m. m ∷ drop (arity n) free) (omega arith))
last_left n (m ∷ ns) first free =
    let r = last_left m ns (first + 1) (first ∷ drop (arity n) free) in
    (r.0, r.1 ∙ ap (λ k. k ∷ r.0) (omega arith))

-- the numbers of the untaken nodes and the untaken trees are of the same kinds
pub record KindsRight (all ns : List Shape) (first : ℕ) (free : List ℕ) (ts : Untaken) : Type 0 where
  pub parts : map (kinds_at all) (parts_from ns first free) ≡ map (λ n. reverse (wanted n)) ns
  pub left : kinds_at all (left_after ns first free) ≡ newest_kinds (trees (on ns (Some ts)))

-- what comes to something later is something now
some_before : (ns : List Shape) (r : Option Untaken) → is_some (on ns r) ≡ true → is_some r ≡ true
some_before ns (Some ts) e = refl
some_before ns None e = let nothing = on_none ns in cc

kinds_from : (all done ns : List Shape) (first : ℕ) (free : List ℕ) (ts : Untaken) → all ≡ done ++ ns → length done ≡ first → kinds_at all free ≡ newest_kinds ts → is_some (on ns (Some ts)) ≡ true → KindsRight all ns first free ts
kinds_from all done [] first free ts e l same sound = record { parts = refl; left = same }
kinds_from all done (n ∷ ns) first free ts e l same sound =
    let kind = λ (j : ℕ). kind_of (get_or all j n_any) in
    let us = trees (add n ts) in
    let some = some_is (add n ts) (some_before ns (add n ts) sound) in
    let t = took n ts us some in
    let here : get_or all first n_any ≡ n = ap (λ m. get_or m first n_any) e ∙ get_or_at done n ns n_any first l in
    let next : kinds_at all (first ∷ drop (arity n) free) ≡ newest_kinds us =
    (λ j. kind_of (here j) ∷ (sym (drop-map kind (arity n) free) ∙ ap (drop (arity n)) same) j) ∙ sym t.1 in
    let rest = kinds_from all (done ++ n ∷ []) ns (first + 1) (first ∷ drop (arity n) free) us (e ∙ sym (append_assoc done (n ∷ []) ns)) (length_push done n ∙ ap (λ m. m + 1) l) next (subst (λ o. is_some (on ns o) ≡ true) some sound) in
    record {
      parts = λ j. (sym (take-map kind (arity n) free) ∙ ap (take (arity n)) same ∙ t.0) j ∷ rest.parts j;
      left = rest.left ∙ ap (λ o. newest_kinds (trees (on ns o))) (sym some);
    }

root_left : (all : List Shape) (m : ℕ) (rest : List ℕ) → kinds_at all (m ∷ rest) ≡ Policy ∷ [] → (m ∷ rest ≡ m ∷ []) × (kind_of (get_or all m n_any) ≡ Policy)
root_left all m [] e = (refl, cc)
root_left all m (r ∷ rest) e = absurd (omega (arith, ap length e))

pub parts_right : (ns : List Shape) → only_policy (stack_of ns) ≡ true → PartsRight ns
parts_right [] sound = cc
parts_right (n ∷ ns) sound =
    let all = n ∷ ns in
    let k = kinds_from all [] all 0 [] [] refl refl refl (only_some (stack_of all) sound) in
    let last = last_left n ns 0 [] in
    let root = root_left all (0 + length ns) last.0 (ap (kinds_at all) (sym last.1) ∙ k.left ∙ ap newest_kinds (root_stays (stack_of all) sound)) in
    let left : left_after all 0 [] ≡ (0 + length ns) ∷ [] = last.1 ∙ root.0 in
    let at_root : length all - 1 ≡ 0 + length ns = omega arith in
    let count : (j : ℕ) → j < length all → owners j (parts_from all 0 []) + times j ((0 + length ns) ∷ []) ≡ 1 =
    λ j h. omega (arith, owned all 0 [] j, ap (times j) left, times_counting j 0 (length all) (omega arith) (omega arith)) in
    record {
      below = λ i j h m. omega (arith, below_from all 0 [] (λ k q. absurd (omega arith)) i j h m);
      once = λ j h. let counted = count j (omega arith) in grind (arith, nat_tests);
      kinds = k.parts;
      root = (let counted = count (length all - 1) (omega arith) in grind (arith, nat_tests), ap (λ m. kind_of (get_or all m n_any)) at_root ∙ root.1);
    }
