-- The laws of patterns with a cell for each field, from those of their cells.
use Rattle.std.specs.Prelude.{◌≡◌, ℕ, Bool, true, false, not, ◌&&◌, ◌||◌, ◌⊎◌, List, [], ◌∷◌, refl}
use Rattle.std.proofs.Common.{sym, ap, subst, ◌∙◌, inl, inr}
use Rattle.std.proofs.lemmas.Bool.{and_parts, and_from, both_ways, eq-eqb, or_cases, or_left, or_right, cases_Bool, false_from_ne_true}
use Rattle.packet.proofs.Every.{every_at, every_from, every_fails, number_allowed, lawful_from}
use Rattle.packet.proofs.Put.{put, put_same, put_exists, put_each}
use Rattle.packet.proofs.Witness.{packet_of, lawful_number}
use Rattle.packet.specs.Fields.{Numbers, Need, allowed, ways, meets, meets_one, exists, every, lawful}
use Rattle.packet.specs.Packets.{number}
use Rattle.packet.specs.declared.field.Field.{Field}
use Rattle.packet.specs.declared.packet.Packet.{Packet}
use Rattle.header.specs.Cells.{Cell, hits_all, agrees_all, both_all, covers_all, fixes_all, fixes_one, grounded, well_made}
use Rattle.header.specs.CellLaws.{CellLaws}
use Rattle.header.specs.Truth.{same_truth, and_true}

-- a test that fails at one field fails of every field
pub every_not : (P : Field → Bool) (f : Field) → P f ≡ false → every P ≡ false
every_not P f h = false_from_ne_true (every P) (λ e. both_ways (P f) h (every_at P e f))

module _ {C : Type 0} (cell : Cell C) (laws : CellLaws cell) where
  well_sized : (p : Field → C) → well_made cell p ≡ true → (f : Field) → cell.sized f (p f) ≡ true
  well_sized p m f = (and_parts _ (grounded cell p f) (every_at (λ g. cell.sized g (p g) && grounded cell p g) m f)).0

  well_grounded : (p : Field → C) → well_made cell p ≡ true → (f : Field) → cell.stated (p f) ≡ true → fixes_one cell p (ways f) ≡ true
  well_grounded p m f s = subst (λ b. (not b || fixes_one cell p (ways f)) ≡ true) s (and_parts (cell.sized f (p f)) _ (every_at (λ g. cell.sized g (p g) && grounded cell p g) m f)).1

  pub hit_at : (p : Field → C) (n : Numbers) → hits_all cell p n ≡ true → (f : Field) → cell.takes f (p f) (n f) ≡ true
  hit_at p n = every_at (λ g. cell.takes g (p g) (n g))

  -- numbers, allowed in their fields, that a well made pattern takes
  module _ (p : Field → C) (m : well_made cell p ≡ true) (n : Numbers) (small : (f : Field) → allowed f (n f) ≡ true) (taken : (f : Field) → cell.takes f (p f) (n f) ≡ true) where
    -- what the pattern fixes stands in them
    fixed_met : (ws : List Need) → fixes_all cell p ws ≡ true → meets n ws ≡ true
    fixed_met [] e = refl
    fixed_met (w ∷ ws) e =
        let g = w.field in
        let parts = and_parts (fixes_all cell p ws) (cell.fixes g (p g) w.number) e in
        and_from _ _ (fixed_met ws parts.0) (eq-eqb _ _ (laws.fixed g (p g) w.number (n g) (well_sized p m g) parts.1 (small g) (taken g)))

    fixed_met_one : (ws : List (List Need)) → fixes_one cell p ws ≡ true → meets_one n ws ≡ true
    fixed_met_one [] e = e
    fixed_met_one (w ∷ ws) e =
        elim (or_cases (fixes_one cell p ws) (fixes_all cell p w) e)
        [ inl h ↦ or_left _ _ (fixed_met_one ws h) | inr h ↦ or_right _ _ (fixed_met w h) ]

    -- so whatever is stated exists
    stated_exists : (f : Field) → cell.stated (p f) ≡ true → exists n f ≡ true
    stated_exists f s = fixed_met_one (ways f) (well_grounded p m f s)

    -- and they are a packet's if they are 0 where nothing is asked and nothing exists
    lawful_taken : ((f : Field) → cell.stated (p f) ≡ false → exists n f ≡ false → n f ≡ 0) → lawful n ≡ true
    lawful_taken zero-else =
        lawful_from n small (λ f none. elim (cases_Bool (cell.stated (p f))) [ inl s ↦ absurd (both_ways (exists n f) none (stated_exists f s)) | inr s ↦ zero-else f s none ])

  -- numbers that hit a pattern, and are 0 where it asks nothing
  picked : (Field → C) → Numbers
  picked p f = laws.pick f (p f)

  picked_allowed : (p : Field → C) → well_made cell p ≡ true → (f : Field) → allowed f (picked p f) ≡ true
  unfolding picked
  picked_allowed p m f = laws.pick_allowed f (p f) (well_sized p m f)

  picked_taken : (p : Field → C) → well_made cell p ≡ true → (f : Field) → cell.takes f (p f) (picked p f) ≡ true
  unfolding picked
  picked_taken p m f = laws.pick_taken f (p f) (well_sized p m f)

  picked_lawful : (p : Field → C) → well_made cell p ≡ true → lawful (picked p) ≡ true
  unfolding picked
  picked_lawful p m = lawful_taken p m (picked p) (picked_allowed p m) (picked_taken p m) (λ f s none. laws.pick_blank f (p f) s)

  -- every well made pattern is hit
  pub witness : (p : Field → C) → well_made cell p ≡ true → (k : Packet) × (hits_all cell p (number k) ≡ true)
  witness p m = (packet_of (picked p) (picked_lawful p m), every_from (λ f. cell.takes f (p f) (picked p f)) (picked_taken p m))

  module _ (p q : Field → C) (mp : well_made cell p ≡ true) (mq : well_made cell q ≡ true) where
    both_fixes_all : agrees_all cell p q ≡ true → (ws : List Need) → (fixes_all cell p ws ≡ true) ⊎ (fixes_all cell q ws ≡ true) → fixes_all cell (both_all cell p q) ws ≡ true
    both_fixes_all a [] e = refl
    both_fixes_all a (w ∷ ws) e =
        let g = w.field in
        let v = w.number in
        let split : ((fixes_all cell p ws ≡ true) ⊎ (fixes_all cell q ws ≡ true)) × ((cell.fixes g (p g) v ≡ true) ⊎ (cell.fixes g (q g) v ≡ true)) =
        elim e [
          | inl h ↦ (let h2 = and_parts (fixes_all cell p ws) (cell.fixes g (p g) v) h in (inl h2.0, inl h2.1))
          | inr h ↦ (let h2 = and_parts (fixes_all cell q ws) (cell.fixes g (q g) v) h in (inr h2.0, inr h2.1))
        ] in
        and_from _ _ (both_fixes_all a ws split.0) (laws.both_fixes g (p g) (q g) v (well_sized p mp g) (well_sized q mq g) (every_at (λ f. cell.agree f (p f) (q f)) a g) split.1)

    both_fixes_one : agrees_all cell p q ≡ true → (ws : List (List Need)) → (fixes_one cell p ws ≡ true) ⊎ (fixes_one cell q ws ≡ true) → fixes_one cell (both_all cell p q) ws ≡ true
    both_fixes_one a [] e = elim e [ inl h ↦ h | inr h ↦ h ]
    both_fixes_one a (w ∷ ws) (inl e) =
        elim (or_cases (fixes_one cell p ws) (fixes_all cell p w) e)
        [ inl h ↦ or_left _ _ (both_fixes_one a ws (inl h)) | inr h ↦ or_right _ _ (both_fixes_all a w (inl h)) ]
    both_fixes_one a (w ∷ ws) (inr e) =
        elim (or_cases (fixes_one cell q ws) (fixes_all cell q w) e)
        [ inl h ↦ or_left _ _ (both_fixes_one a ws (inr h)) | inr h ↦ or_right _ _ (both_fixes_all a w (inr h)) ]

    both_grounded : agrees_all cell p q ≡ true → (f : Field) (b : Bool) → cell.stated (cell.both f (p f) (q f)) ≡ b → (not b || fixes_one cell (both_all cell p q) (ways f)) ≡ true
    both_grounded a f false s = refl
    both_grounded a f true s =
        both_fixes_one a (ways f) (elim (laws.both_stated f (p f) (q f) s) [ inl h ↦ inl (well_grounded p mp f h) | inr h ↦ inr (well_grounded q mq f h) ])

    pub both_made : agrees_all cell p q ≡ true → well_made cell (both_all cell p q) ≡ true
    both_made a =
        every_from (λ f. cell.sized f (cell.both f (p f) (q f)) && grounded cell (both_all cell p q) f)
        (λ f. and_from _ _ (laws.both_sized f (p f) (q f) (well_sized p mp f) (well_sized q mq f) (every_at (λ g. cell.agree g (p g) (q g)) a f)) (both_grounded a f (cell.stated (cell.both f (p f) (q f))) refl))

    pub both_hit : agrees_all cell p q ≡ true → (k : Packet) → hits_all cell (both_all cell p q) (number k) ≡ (hits_all cell p (number k) && hits_all cell q (number k))
    both_hit a k =
        let n = number k in
        let each : (f : Field) → cell.takes f (cell.both f (p f) (q f)) (n f) ≡ (cell.takes f (p f) (n f) && cell.takes f (q f) (n f)) =
        λ f. laws.both_takes f (p f) (q f) (n f) (well_sized p mp f) (well_sized q mq f) (every_at (λ g. cell.agree g (p g) (q g)) a f) (number_allowed n (lawful_number k) f) in
        same_truth _ _
        (λ h. and_from _ _
        (every_from (λ f. cell.takes f (p f) (n f)) (λ f. (and_parts _ (cell.takes f (q f) (n f)) (sym (each f) ∙ hit_at (both_all cell p q) n h f)).0))
        (every_from (λ f. cell.takes f (q f) (n f)) (λ f. (and_parts (cell.takes f (p f) (n f)) _ (sym (each f) ∙ hit_at (both_all cell p q) n h f)).1)))
        (λ h. let h2 = and_parts (hits_all cell p n) (hits_all cell q n) h in
        every_from (λ f. cell.takes f (cell.both f (p f) (q f)) (n f)) (λ f. each f ∙ and_from _ _ (hit_at p n h2.0 f) (hit_at q n h2.1 f)))

    pub clash_hit : agrees_all cell p q ≡ false → (k : Packet) → (hits_all cell p (number k) && hits_all cell q (number k)) ≡ false
    clash_hit a k =
        let n = number k in
        let at = every_fails (λ f. cell.agree f (p f) (q f)) a in
        let f = at.0 in
        and_true (hits_all cell p n) (hits_all cell q n)
        (λ h i. both_ways _ (laws.clash f (p f) (q f) (n f) (well_sized p mp f) (well_sized q mq f) at.1 (number_allowed n (lawful_number k) f)) (and_from _ _ (hit_at p n h f) (hit_at q n i f)))

    pub cover_hit : covers_all cell p q ≡ true → (k : Packet) → hits_all cell q (number k) ≡ true → hits_all cell p (number k) ≡ true
    cover_hit c k h =
        let n = number k in
        every_from (λ f. cell.takes f (p f) (n f))
        (λ f. laws.covered f (p f) (q f) (n f) (well_sized p mp f) (well_sized q mq f) (every_at (λ g. cell.covers g (p g) (q g)) c f) (number_allowed n (lawful_number k) f) (hit_at q n h f))

    -- a packet that hits the second and not the first
    abbrev Escaped : Type 0
    Escaped = (k : Packet) × (hits_all cell q (number k) ≡ true) × (hits_all cell p (number k) ≡ false)

    -- where the field exists in the second's own numbers, the number that escapes can stand there
    escaped_there : (f : Field) (x : ℕ) → allowed f x ≡ true → cell.takes f (q f) x ≡ true → cell.takes f (p f) x ≡ false → exists (picked q) f ≡ true → Escaped
    escaped_there f x small into out there =
        let n : Numbers = put (picked q) f x in
        let allowed_n : (g : Field) → allowed g (n g) ≡ true = put_each (λ g y. allowed g y ≡ true) (picked q) f x small (picked_allowed q mq) in
        let taken_n : (g : Field) → cell.takes g (q g) (n g) ≡ true = put_each (λ g y. cell.takes g (q g) y ≡ true) (picked q) f x into (picked_taken q mq) in
        let zero_n : (g : Field) → cell.stated (q g) ≡ false → exists n g ≡ false → n g ≡ 0 =
        put_each (λ g y. cell.stated (q g) ≡ false → exists n g ≡ false → y ≡ 0) (picked q) f x
        (λ s none. absurd (both_ways (exists n f) none (put_exists (picked q) f x ∙ there)))
        (λ g s none. unfold picked in laws.pick_blank g (q g) s) in (
          packet_of n (lawful_taken q mq n allowed_n taken_n zero_n),
          every_from (λ g. cell.takes g (q g) (n g)) taken_n,
          every_not (λ g. cell.takes g (p g) (n g)) f (ap (cell.takes f (p f)) (put_same (picked q) f x) ∙ out),
        )

    -- where it does not, those numbers escape themselves, since the first asks that it exists
    escaped_absent : (f : Field) (x : ℕ) → allowed f x ≡ true → cell.takes f (p f) x ≡ false → exists (picked q) f ≡ false → Escaped
    escaped_absent f x small out none =
        let stated : cell.stated (p f) ≡ true =
        elim (cases_Bool (cell.stated (p f))) [ inl s ↦ s | inr s ↦ absurd (both_ways _ out (laws.unstated_takes f (p f) x (well_sized p mp f) small s)) ] in (
          packet_of (picked q) (picked_lawful q mq),
          every_from (λ g. cell.takes g (q g) (picked q g)) (picked_taken q mq),
          and_true true (hits_all cell p (picked q)) (λ _ h. both_ways (exists (picked q) f) none (stated_exists p mp (picked q) (picked_allowed q mq) (hit_at p (picked q) h) f stated)),
        )

    pub escaped : covers_all cell p q ≡ false → Escaped
    escaped c =
        let at = every_fails (λ f. cell.covers f (p f) (q f)) c in
        let f = at.0 in
        let way = laws.escape f (p f) (q f) (well_sized p mp f) (well_sized q mq f) at.1 in
        elim (cases_Bool (exists (picked q) f)) [ inl there ↦ escaped_there f way.0 way.1 way.2 way.3 there | inr none ↦ escaped_absent f way.0 way.1 way.3 none ]
