-- What `ends_with` and `==` say of the kinds of the untaken trees: whether a node finds its parts, and whether one policy is left.
use Rattle.std.proofs.Common.{◌≡◌, ◌≢◌, ◌-◌, Bool, true, false, List, [], ◌∷◌, ◌++◌, reverse, length, take, drop, is_some, Some, None, Decides, Option, sym, refl, ap, ◌∙◌, true≢false, take-append-drop, arith}
use mathlib.Core.Bool.{false≢true}
use Rattle.std.specs.Cmp.Lexicographic.{pointwise}
use Rattle.std.proofs.lemmas.Slice.Eq.{ends_is, slice_eq-Decides}
use Rattle.std.proofs.lemmas.List.{same_from_push, length_push, reverse-append, reverse-reverse}
use Rattle.policy.specs.declared.node.Kind.{Kind}
use Rattle.policy.specs.declared.node.Kind.TheVariants.{Predicate, Policy}
use Rattle.policy.specs.Building.{kinds_of}
use Rattle.policy.specs.Kinds.{kind_of, wanted}
use Rattle.policy.specs.Parts.{arity}
use Rattle.policy.specs.Shapes.{Shape}
use Rattle.policy.specs.Trees.{Untaken, add, trees, only_policy}
use Rattle.policy.specs.Trees.Tree.{pred, pol}
use Rattle.policy.proofs.Taking.{fits, newest_kinds, oldest_first, some_is, took}

-- a node after trees whose newest are its parts
abbrev pub Fit : Shape → Untaken → List Kind → Type 0
Fit n ts ks = (is_some (add n ts) ≡ true) × (kinds_of (trees (add n ts)) ≡ ks ++ kind_of n ∷ [])

pub fits_when : (n : Shape) (ts : Untaken) (ks : List Kind) → kinds_of ts ≡ ks ++ wanted n → Fit n ts ks
fits_when n ts ks e = let f = fits n ts ks e in (f.0, sym f.1)

-- the other way round
pub fits_only : (n : Shape) (ts : Untaken) → is_some (add n ts) ≡ true → (ks : List Kind) × (kinds_of ts ≡ ks ++ wanted n)
fits_only n ts some =
    let newest = newest_kinds ts in
    let front = drop (arity n) newest in
    let parts = (took n ts (trees (add n ts)) (some_is (add n ts) some)).0 in (
      reverse front,
      oldest_first ts ∙ ap reverse (sym (take-append-drop (arity n) newest)) ∙ reverse-append (take (arity n) newest) front
          ∙ ap (λ l. reverse front ++ reverse l) parts ∙ ap (λ l. reverse front ++ l) (reverse-reverse (wanted n)),
    )

never : Policy ≢ Predicate
never e = cc

refuted : (b : Bool) → (b ≡ true → ⊥) → b ≡ false
refuted true h = absurd (h refl)
refuted false h = refl

-- what `ends_with` says of the kinds of the untaken trees
module _ (n : Shape) (ts : Untaken) (kinds parts : List Kind) (r : Bool) (known : kinds ≡ kinds_of ts) (want : parts ≡ wanted n) {E : Kind → Kind → Bool} (decides : (a b : Kind) → Decides (E a b) (a ≡ b)) (said : r ≡ pointwise E parts (drop (length kinds - length parts) kinds)) where
  pub found : r ≡ true → Fit n ts (take (length kinds - length parts) kinds)
  found e = fits_when n ts (take (length kinds - length parts) kinds) (sym known ∙ (ends_is decides kinds parts r said).0 e ∙ ap (λ l. take (length kinds - length parts) kinds ++ l) want)

  pub missed : r ≡ false → is_some (add n ts) ≡ false
  missed e = refuted (is_some (add n ts)) (λ some. let front = fits_only n ts some in true≢false (sym ((ends_is decides kinds parts r said).1 front.0 (known ∙ front.1 ∙ ap (λ l. front.0 ++ l) (sym want))) ∙ e))

-- one policy is left exactly where the kinds say so
only_from_kinds : (o : Option Untaken) → is_some o ≡ true → kinds_of (trees o) ≡ Policy ∷ [] → only_policy o ≡ true
only_from_kinds None s e = absurd (false≢true s)
only_from_kinds (Some []) s e = absurd (omega (arith, ap length e))
only_from_kinds (Some (pred p ∷ ts)) s e = absurd (never (sym (same_from_push (kinds_of ts) [] Predicate Policy e).1))
only_from_kinds (Some (pol q ∷ [])) s e = refl
only_from_kinds (Some (pol q ∷ pred p ∷ ts)) s e = absurd (omega (arith, ap length e, length_push (kinds_of (pred p ∷ ts)) Policy, length_push (kinds_of ts) Predicate))
only_from_kinds (Some (pol q ∷ pol p ∷ ts)) s e = absurd (omega (arith, ap length e, length_push (kinds_of (pol p ∷ ts)) Policy, length_push (kinds_of ts) Policy))

kinds_from_only : (o : Option Untaken) → only_policy o ≡ true → kinds_of (trees o) ≡ Policy ∷ []
kinds_from_only None e = absurd (false≢true e)
kinds_from_only (Some []) e = absurd (false≢true e)
kinds_from_only (Some (pred p ∷ ts)) e = absurd (false≢true e)
kinds_from_only (Some (pol q ∷ [])) e = refl
kinds_from_only (Some (pol q ∷ t ∷ ts)) e = absurd (false≢true e)

module _ (o : Option Untaken) (kinds : List Kind) (r : Bool) (some : is_some o ≡ true) (known : kinds ≡ kinds_of (trees o)) {E : Kind → Kind → Bool} (decides : (a b : Kind) → Decides (E a b) (a ≡ b)) (said : r ≡ pointwise E kinds (Policy ∷ [])) where
  pub whole : r ≡ true → only_policy o ≡ true
  whole e = only_from_kinds o some (sym known ∙ (slice_eq-Decides decides kinds (Policy ∷ []) r said).0 e)

  pub unfinished : r ≡ false → only_policy o ≡ false
  unfinished e = refuted (only_policy o) (λ only. true≢false (sym ((slice_eq-Decides decides kinds (Policy ∷ []) r said).1 (known ∙ kinds_from_only o only)) ∙ e))
