-- What a field needs to exist is said of other fields, each once, with a number that it may have, and says all that those fields need in turn.
use Rattle.std.proofs.Common.{◌≡◌, Bool, true, false, not, ◌&&◌, ◌||◌, eqb, List, [], ◌∷◌, refl, subst, inl, inr}
use Rattle.std.proofs.lemmas.Bool.{and_parts, not-true, false≢true, or_cases}
use Rattle.packet.proofs.Every.{every_at}
use Rattle.packet.proofs.Put.{same_true}
use Rattle.packet.proofs.Same.{same_sym}
use Rattle.packet.specs.Fields.{Numbers, Need, allowed, same, way, ways, meets, exists}
use Rattle.packet.specs.declared.field.Field.{Field}
use Rattle.packet.specs.declared.field.Field.TheVariants.{DlSrc, DlDst, DlTyp, NwSrc, NwDst, NwProto, TpSrc, TpDst}

-- no need of the list is of the field f
abbrev pub spares : Field → List Need → Bool
spares f [] = true
spares f (w ∷ ws) = spares f ws && not (same w.field f)

-- the needs are of different fields, and of numbers that these may have
abbrev pub apart : List Need → Bool
apart [] = true
apart (w ∷ ws) = (apart ws && spares w.field ws) && allowed w.field w.number

-- a need is in the list
abbrev pub has : List Need → Need → Bool
has [] v = false
has (w ∷ ws) v = has ws v || (same w.field v.field && eqb w.number v.number)

abbrev pub has_all : List Need → List Need → Bool
has_all ws [] = true
has_all ws (v ∷ vs) = has_all ws vs && has ws v

abbrev pub has_one : List Need → List (List Need) → Bool
has_one ws [] = false
has_one ws (v ∷ vs) = has_one ws vs || has_all ws v

-- whatever the field of a need in the list needs itself is among `all`
abbrev pub closed : List Need → List Need → Bool
closed all [] = true
closed all (w ∷ ws) = closed all ws && has_one all (ways w.field)

module _ (w : Need) (ws : List Need) where
  pub spares_parts : (f : Field) → spares f (w ∷ ws) ≡ true → (spares f ws ≡ true) × (same w.field f ≡ false)
  spares_parts f e = let parts = and_parts (spares f ws) (not (same w.field f)) e in (parts.0, not-true _ parts.1)

  pub apart_parts : apart (w ∷ ws) ≡ true → (apart ws ≡ true) × (spares w.field ws ≡ true) × (allowed w.field w.number ≡ true)
  apart_parts e =
      let parts = and_parts (apart ws && spares w.field ws) (allowed w.field w.number) e in
      let rest = and_parts (apart ws) (spares w.field ws) parts.0 in
      (rest.0, rest.1, parts.1)

-- a field that the list spares is not that of a need in it
pub spares_has : (f : Field) (ws : List Need) (v : Need) → spares f ws ≡ true → has ws v ≡ true → same f v.field ≡ false
spares_has f [] v s h = absurd (false≢true h)
spares_has f (w ∷ ws) v s h =
    let parts = spares_parts w ws f s in
    elim (or_cases (has ws v) (same w.field v.field && eqb w.number v.number) h) [
      | inl later ↦ spares_has f ws v parts.0 later
      | inr here ↦ subst (λ g. same f g ≡ false) (same_true w.field v.field (and_parts (same w.field v.field) _ here).0) (same_sym w.field f parts.1)
    ]

-- a way of the field f to exist
pub record Way (f : Field) (ws : List Need) : Type 0 where
  pub others : spares f ws ≡ true
  pub once : apart ws ≡ true
  pub complete : closed ws ws ≡ true
  pub own : has_one ws (ways f) ≡ true

-- the way of each field, by a test of every field
pub way_of : (f : Field) → Way f (way f)
way_of f =
    record {
      others = every_at (λ g. spares g (way g)) refl f;
      once = every_at (λ g. apart (way g)) refl f;
      complete = every_at (λ g. closed (way g) (way g)) refl f;
      own = every_at (λ g. has_one (way g) (ways g)) refl f;
    }

-- a field exists where the needs of its one way are met
pub exists_way : (n : Numbers) (f : Field) → exists n f ≡ meets n (way f)
exists_way n DlSrc = refl
exists_way n DlDst = refl
exists_way n DlTyp = refl
exists_way n NwSrc = refl
exists_way n NwDst = refl
exists_way n NwProto = refl
exists_way n TpSrc = refl
exists_way n TpDst = refl
