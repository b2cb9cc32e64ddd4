-- The pattern of a test, by its cells, is hit exactly where the field exists in the test's way and its own cell takes the number, and it is well made.
use Rattle.std.specs.Prelude.{◌≡◌, ℕ, Bool, true, false, not, ◌&&◌, ◌||◌, List, [], ◌∷◌, ◌==◌, refl}
use Rattle.std.proofs.Common.{sym, subst, ◌∙◌, inl, inr}
use Rattle.std.proofs.lemmas.Bool.{and_parts, and_from, both_ways, false≢true, eqb-true, or_cases, or_left, or_right, cond-true, cond-false, cond_both, cases_Bool}
use Rattle.packet.proofs.Every.{every_at, every_from, number_allowed}
use Rattle.packet.proofs.Put.{same_true}
use Rattle.packet.proofs.Same.{same_self, same_sym}
use Rattle.packet.proofs.Ways.{Way, spares, apart, has, has_all, has_one, closed, spares_parts, apart_parts, spares_has}
use Rattle.packet.specs.Fields.{Numbers, Need, allowed, lawful, meets, same, ways}
use Rattle.packet.specs.declared.field.Field.{Field}
use Rattle.header.specs.Cells.{Cell, hits_all, needed, test_cells, fixes_all, fixes_one, grounded, well_made}
use Rattle.header.specs.CellLaws.{CellLaws}
use Rattle.header.specs.Truth.{same_truth}

module _ {C : Type 0} (cell : Cell C) (laws : CellLaws cell) where
  pub blank_takes : (f : Field) (x : ℕ) → allowed f x ≡ true → cell.takes f cell.blank x ≡ true
  blank_takes f x small = laws.unstated_takes f cell.blank x (laws.blank_sized f) small laws.blank_unstated

  -- nothing is asked of a field that the needs spare
  needed_blank : (ws : List Need) (g : Field) → spares g ws ≡ true → needed cell ws g ≡ cell.blank
  needed_blank [] g e = refl
  needed_blank (w ∷ ws) g e =
      let parts = spares_parts w ws g e in
      cond-false (same w.field g) _ _ parts.1 ∙ needed_blank ws g parts.0

  -- the first need's own number is asked of its field
  needed_first : (w : Need) (ws : List Need) → needed cell (w ∷ ws) w.field ≡ cell.full w.field w.number
  needed_first w ws = cond-true (same w.field w.field) _ _ (same_self w.field)

  needed_sized : (ws : List Need) (g : Field) → apart ws ≡ true → cell.sized g (needed cell ws g) ≡ true
  needed_sized [] g e = laws.blank_sized g
  needed_sized (w ∷ ws) g e =
      let parts = apart_parts w ws e in
      cond_both (same w.field g) (cell.full g w.number) (needed cell ws g) (λ c. cell.sized g c ≡ true)
      (λ here. laws.full_sized g w.number (subst (λ h. allowed h w.number ≡ true) (same_true w.field g here) parts.2))
      (λ past. needed_sized ws g parts.0)

  -- a need in the list is fixed
  needed_fixes : (ws : List Need) → apart ws ≡ true → (v : Need) → has ws v ≡ true → cell.fixes v.field (needed cell ws v.field) v.number ≡ true
  needed_fixes [] e v h = absurd (false≢true h)
  needed_fixes (w ∷ ws) e v h =
      let g = v.field in
      let parts = apart_parts w ws e in
      cond_both (same w.field g) (cell.full g w.number) (needed cell ws g) (λ c. cell.fixes g c v.number ≡ true)
      (λ here. elim (or_cases (has ws v) (same w.field g && w.number == v.number) h) [
        | inl later ↦ absurd (both_ways _ (spares_has w.field ws v parts.1 later) here)
        | inr this ↦ subst (λ x. cell.fixes g (cell.full g w.number) x ≡ true) (eqb-true w.number v.number (and_parts (same w.field g) _ this).1) (laws.full_fixes g w.number)
      ])
      (λ past. elim (or_cases (has ws v) (same w.field g && w.number == v.number) h) [
        | inl later ↦ needed_fixes ws parts.0 v later
        | inr this ↦ absurd (both_ways _ past (and_parts (same w.field g) _ this).0)
      ])

  -- a field of which something is needed finds its own needs in a list that is closed
  needed_closed : (all ws : List Need) → closed all ws ≡ true → (g : Field) → cell.stated (needed cell ws g) ≡ true → has_one all (ways g) ≡ true
  needed_closed all [] e g s = absurd (both_ways _ laws.blank_unstated s)
  needed_closed all (w ∷ ws) e g s =
      let parts = and_parts (closed all ws) (has_one all (ways w.field)) e in
      elim (cases_Bool (same w.field g)) [
        | inl here ↦ subst (λ h. has_one all (ways h) ≡ true) (same_true w.field g here) parts.1
        | inr past ↦ needed_closed all ws parts.0 g (subst (λ c. cell.stated c ≡ true) (cond-false (same w.field g) _ _ past) s)
      ]

  module _ (n : Numbers) (small : (f : Field) → allowed f (n f) ≡ true) where
    -- numbers that meet the needs are taken
    met_taken : (ws : List Need) → apart ws ≡ true → meets n ws ≡ true → (g : Field) → cell.takes g (needed cell ws g) (n g) ≡ true
    met_taken [] e h g = blank_takes g (n g) (small g)
    met_taken (w ∷ ws) e h g =
        let parts = apart_parts w ws e in
        let met = and_parts (meets n ws) (n w.field == w.number) h in
        cond_both (same w.field g) (cell.full g w.number) (needed cell ws g) (λ c. cell.takes g c (n g) ≡ true)
        (λ here. subst (λ f. cell.takes f (cell.full f w.number) (n f) ≡ true) (same_true w.field g here) (laws.full_takes w.field w.number (n w.field) parts.2 (small w.field) ∙ met.1))
        (λ past. met_taken ws parts.0 met.0 g)

    -- and numbers that are taken at every field but f meet needs that spare f
    taken_met : (f : Field) (ws : List Need) → spares f ws ≡ true → apart ws ≡ true → ((g : Field) → same f g ≡ false → cell.takes g (needed cell ws g) (n g) ≡ true) → meets n ws ≡ true
    taken_met f [] s e h = refl
    taken_met f (w ∷ ws) s e h =
        let parts = apart_parts w ws e in
        let other = spares_parts w ws f s in
        let here : cell.takes w.field (cell.full w.field w.number) (n w.field) ≡ true =
        subst (λ c. cell.takes w.field c (n w.field) ≡ true) (needed_first w ws) (h w.field (same_sym w.field f other.1)) in
        let later : (g : Field) → same f g ≡ false → cell.takes g (needed cell ws g) (n g) ≡ true =
        λ g d. elim (cases_Bool (same w.field g)) [
          | inl i ↦ subst (λ c. cell.takes g c (n g) ≡ true) (sym (needed_blank ws g (subst (λ k. spares k ws ≡ true) (same_true w.field g i) parts.1))) (blank_takes g (n g) (small g))
          | inr o ↦ subst (λ c. cell.takes g c (n g) ≡ true) (cond-false (same w.field g) _ _ o) (h g d)
        ] in
        and_from _ _ (taken_met f ws other.0 parts.0 later) (sym (laws.full_takes w.field w.number (n w.field) parts.2 (small w.field)) ∙ here)

  module _ (f : Field) (ws : List Need) (way : Way f ws) (own : C) where
    own_cell : test_cells cell ws f own f ≡ own
    own_cell = cond-true (same f f) _ _ (same_self f)

    other_cell : (g : Field) → same f g ≡ false → test_cells cell ws f own g ≡ needed cell ws g
    other_cell g d = cond-false (same f g) _ _ d

    -- what holds of the test's own cell at f, and of what is needed at each field, holds at each field
    each_cell : (P : Field → C → Type 0) → P f own → ((g : Field) → same f g ≡ false → P g (needed cell ws g)) → (g : Field) → P g (test_cells cell ws f own g)
    each_cell P here there g =
        cond_both (same f g) own (needed cell ws g) (P g) (λ i. subst (λ h. P h own) (same_true f g i) here) (there g)

    pub test_hit : (n : Numbers) → lawful n ≡ true → hits_all cell (test_cells cell ws f own) n ≡ (meets n ws && cell.takes f own (n f))
    test_hit n e =
        let small = number_allowed n e in
        let cells : Field → C = test_cells cell ws f own in
        same_truth _ _
        (λ h.
        let taken = every_at (λ g. cell.takes g (cells g) (n g)) h in
        and_from _ _
        (taken_met n small f ws way.others way.once (λ g d. subst (λ c. cell.takes g c (n g) ≡ true) (other_cell g d) (taken g)))
        (subst (λ c. cell.takes f c (n f) ≡ true) own_cell (taken f)))
        (λ h.
        let parts = and_parts (meets n ws) (cell.takes f own (n f)) h in
        every_from (λ g. cell.takes g (cells g) (n g))
        (each_cell (λ g c. cell.takes g c (n g) ≡ true) parts.1 (λ g d. met_taken n small ws way.once parts.0 g)))

    -- the needs in the list are fixed
    test_fixes_all : (vs : List Need) → has_all ws vs ≡ true → fixes_all cell (test_cells cell ws f own) vs ≡ true
    test_fixes_all [] h = refl
    test_fixes_all (v ∷ vs) h =
        let parts = and_parts (has_all ws vs) (has ws v) h in
        and_from _ _ (test_fixes_all vs parts.0)
        (subst (λ c. cell.fixes v.field c v.number ≡ true) (sym (other_cell v.field (spares_has f ws v way.others parts.1))) (needed_fixes ws way.once v parts.1))

    test_fixes_one : (vs : List (List Need)) → has_one ws vs ≡ true → fixes_one cell (test_cells cell ws f own) vs ≡ true
    test_fixes_one [] h = h
    test_fixes_one (v ∷ vs) h =
        elim (or_cases (has_one ws vs) (has_all ws v) h) [ inl i ↦ or_left _ _ (test_fixes_one vs i) | inr i ↦ or_right _ _ (test_fixes_all v i) ]

    -- whatever is stated finds what its field needs
    test_grounded : (g : Field) → cell.stated (test_cells cell ws f own g) ≡ true → has_one ws (ways g) ≡ true
    test_grounded = each_cell (λ g c. cell.stated c ≡ true → has_one ws (ways g) ≡ true) (λ _. way.own) (λ g d. needed_closed ws ws way.complete g)

    pub test_made : cell.sized f own ≡ true → well_made cell (test_cells cell ws f own) ≡ true
    test_made s =
        every_from (λ g. cell.sized g (test_cells cell ws f own g) && grounded cell (test_cells cell ws f own) g)
        (λ g. and_from _ _ (each_cell (λ h c. cell.sized h c ≡ true) s (λ h d. needed_sized ws h way.once) g) (ground g (cell.stated (test_cells cell ws f own g)) refl))
      where
        ground : (g : Field) (b : Bool) → cell.stated (test_cells cell ws f own g) ≡ b → (not b || fixes_one cell (test_cells cell ws f own) (ways g)) ≡ true
        ground g true e = test_fixes_one (ways g) (test_grounded g e)
        ground g false e = refl
