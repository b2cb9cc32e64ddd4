-- A node finds its parts exactly where the kinds of the newest trees are those that it wants.
use Rattle.std.proofs.Common.{◌≡◌, true, List, [], ◌∷◌, ◌++◌, map, reverse, take, drop, is_some, Some, Option, Decides, refl, ap, ◌∙◌, sym, arith}
use Rattle.std.proofs.lemmas.List.{reverse-append, reverse-reverse, take_at, drop_at, length-reverse}
use Rattle.policy.specs.declared.node.Kind.{Kind}
use Rattle.policy.specs.declared.node.Kind.TheVariants.{Predicate, Policy}
use Rattle.policy.specs.contracts.node.KindPartialEq.TheImpl as kind_eq
use Rattle.policy.specs.Building.{kinds_of}
use Rattle.policy.specs.Kinds.{kind_of, wanted}
use Rattle.policy.specs.Parts.{arity}
use Rattle.policy.specs.Shapes.{Shape}
use Rattle.policy.specs.Trees.{Tree, Untaken, add, trees}
use Rattle.policy.specs.Trees.Tree.{pred, pol}

-- a derived `==` decides
pub kind_decided : (a b : Kind) → Decides (kind_eq.eq-value.it a b) (a ≡ b)
kind_decided Predicate Predicate = (λ _. refl, λ _. refl)
kind_decided Predicate Policy = (λ e. cc, λ e. cc)
kind_decided Policy Predicate = (λ e. cc, λ e. cc)
kind_decided Policy Policy = (λ _. refl, λ _. refl)

abbrev pub tree_kind : Tree → Kind
tree_kind (pred p) = Predicate
tree_kind (pol q) = Policy

abbrev pub newest_kinds : Untaken → List Kind
newest_kinds ts = map tree_kind ts

-- what a node takes and leaves, by kinds, the newest first
pub took : (n : Shape) (ts us : Untaken) → add n ts ≡ Some us → (take (arity n) (newest_kinds ts) ≡ reverse (wanted n)) × (newest_kinds us ≡ kind_of n ∷ drop (arity n) (newest_kinds ts))
took n ts us e = grind arith

takes : (n : Shape) (ts : Untaken) → take (arity n) (newest_kinds ts) ≡ reverse (wanted n) → is_some (add n ts) ≡ true
takes n ts e = grind arith

pub oldest_first : (ts : Untaken) → kinds_of ts ≡ reverse (newest_kinds ts)
oldest_first [] = refl
oldest_first (pred p ∷ ts) = ap (λ ks. ks ++ Predicate ∷ []) (oldest_first ts) ∙ sym (reverse-append (Predicate ∷ []) (newest_kinds ts))
oldest_first (pol q ∷ ts) = ap (λ ks. ks ++ Policy ∷ []) (oldest_first ts) ∙ sym (reverse-append (Policy ∷ []) (newest_kinds ts))

pub some_is : (r : Option Untaken) → is_some r ≡ true → r ≡ Some (trees r)
some_is r e = grind arith

module _ (n : Shape) (ts : Untaken) where
  -- the oldest kinds, where the newest are those wanted
  pub fits : (front : List Kind) → kinds_of ts ≡ front ++ wanted n → (is_some (add n ts) ≡ true) × (front ++ kind_of n ∷ [] ≡ kinds_of (trees (add n ts)))
  fits front e =
      let newest : newest_kinds ts ≡ reverse (wanted n) ++ reverse front = sym (reverse-reverse (newest_kinds ts)) ∙ ap reverse (sym (oldest_first ts) ∙ e) ∙ reverse-append front (wanted n) in
      let some = takes n ts (ap (take (arity n)) newest ∙ take_at (reverse (wanted n)) (reverse front) (arity n) (length-reverse (wanted n))) in
      let left = (took n ts (trees (add n ts)) (some_is (add n ts) some)).1 in
      let rest = drop_at (reverse (wanted n)) (reverse front) (arity n) (length-reverse (wanted n)) in
      let back = reverse-append (kind_of n ∷ []) (reverse front) in
      let again = reverse-reverse front in
      (some, cc (oldest_first (trees (add n ts))))
