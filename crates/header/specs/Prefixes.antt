-- The laws of a cell that is a prefix.
use Rattle.std.specs.Prelude.{◌≡◌, ℕ, ◌<◌, ◌≤◌, min, Bool, true, false, cond, ◌&&◌, ◌⊎◌, ◌==◌, nat_le, nat_lt, refl}
use Rattle.std.proofs.Common.{sym, ap, subst, ◌∙◌, inl, inr, arith}
use Rattle.std.proofs.lemmas.Bool.{eqb-true, eqb-false, eq-eqb, ne_eqb, ltb-true, ltb-false, lt-ltb, leb-true, leb-false, le-leb, and_parts, and_from, and_cases, cases_Bool}
use Rattle.packet.proofs.Every.{zero_allowed}
use Rattle.packet.specs.Fields.{allowed, fits, width}
use Rattle.packet.specs.Tests.{first_bits}
use Rattle.packet.specs.declared.field.Field.{Field}
use Rattle.header.specs.CellLaws.{CellLaws}
use Rattle.header.specs.FirstBits.{fewer, no_bits, all_bits, apart}
use Rattle.header.specs.Truth.{same_truth, and_true}
use Rattle.header.specs.Routes.{full, stated, takes, agree, longer, covers, prefixes}
use Rattle.header.specs.declared.route.Prefix.{Prefix}

abbrev sized : Field → Prefix → Bool
sized f c = fits f c.value c.length

abbrev fixes : Field → Prefix → ℕ → Bool
fixes f c x = c.length == width f && c.value == x

small : (f : Field) (c : Prefix) → sized f c ≡ true → allowed f c.value ≡ true
small f c s = (and_parts (allowed f c.value) (nat_le c.length (width f)) s).0

short : (f : Field) (c : Prefix) → sized f c ≡ true → c.length ≤ width f
short f c s = leb-true _ _ (and_parts (allowed f c.value) (nat_le c.length (width f)) s).1

taken : (f : Field) (c : Prefix) (x : ℕ) → takes f c x ≡ true → first_bits f c.length x ≡ first_bits f c.length c.value
taken f c x h = eqb-true _ _ h

unstated_takes : (f : Field) (c : Prefix) (x : ℕ) → sized f c ≡ true → allowed f x ≡ true → stated c ≡ false → takes f c x ≡ true
unstated_takes f c x s a u =
    let none : c.length ≡ 0 = omega (arith, ltb-false 0 c.length u) in
    eq-eqb _ _ (subst (λ l. first_bits f l x ≡ first_bits f l c.value) (sym none) (no_bits (width f) x (ltb-true _ _ a) ∙ sym (no_bits (width f) c.value (ltb-true _ _ (small f c s)))))

abbrev pick : Prefix → ℕ
pick c = cond (stated c) c.value 0

pick_allowed : (f : Field) (c : Prefix) → sized f c ≡ true → allowed f (pick c) ≡ true
pick_allowed f c s = elim (stated c) as (λ b. allowed f (cond b c.value 0) ≡ true) [ true ↦ small f c s | false ↦ zero_allowed f ]

pick_taken : (f : Field) (c : Prefix) → sized f c ≡ true → takes f c (pick c) ≡ true
pick_taken f c s = go (stated c) refl
  where
    go : (b : Bool) → stated c ≡ b → takes f c (cond b c.value 0) ≡ true
    go true e = eq-eqb _ _ refl
    go false e = unstated_takes f c 0 s (zero_allowed f) e

pick_blank : (c : Prefix) → stated c ≡ false → pick c ≡ 0
pick_blank c u = ap (λ b. cond b c.value 0) u

fixed : (f : Field) (c : Prefix) (v x : ℕ) → fixes f c v ≡ true → takes f c x ≡ true → x ≡ v
fixed f c v x h t =
    let h2 = and_parts (c.length == width f) (c.value == v) h in
    let whole : first_bits f (width f) x ≡ first_bits f (width f) c.value = subst (λ l. first_bits f l x ≡ first_bits f l c.value) (eqb-true _ _ h2.0) (taken f c x t) in
    sym (all_bits (width f) x) ∙ whole ∙ all_bits (width f) c.value ∙ eqb-true _ _ h2.1

-- the longer of two is the second, being longer, or the first
longer_by : (P : Prefix → Type 0) (c d : Prefix) → (c.length < d.length → P d) → (d.length ≤ c.length → P c) → P (longer c d)
longer_by P c d second first = go (nat_lt c.length d.length) refl
  where
    go : (b : Bool) → nat_lt c.length d.length ≡ b → P (cond b d c)
    go true e = second (ltb-true _ _ e)
    go false e = first (ltb-false _ _ e)

module _ (f : Field) (c d : Prefix) (sc : sized f c ≡ true) (sd : sized f d ≡ true) where
  -- two that agree have the same bits to any length that both reach
  agreeing : agree f c d ≡ true → (l : ℕ) → l ≤ c.length → l ≤ d.length → first_bits f l c.value ≡ first_bits f l d.value
  agreeing a l lc ld =
      fewer (width f) l (min c.length d.length) c.value d.value (omega arith) (omega (arith, short f c sc)) (eqb-true _ _ a)

  -- what one takes, another takes that agrees with it and is no longer
  takes_less : (x : ℕ) → c.length ≤ d.length → first_bits f c.length c.value ≡ first_bits f c.length d.value → takes f d x ≡ true → takes f c x ≡ true
  takes_less x cd e t = eq-eqb _ _ (fewer (width f) c.length d.length x d.value cd (short f d sd) (taken f d x t) ∙ sym e)

  clash : (x : ℕ) → agree f c d ≡ false → (takes f c x && takes f d x) ≡ false
  clash x a =
      and_true (takes f c x) (takes f d x) (λ h i.
      let m = min c.length d.length in
      let hc = fewer (width f) m c.length x c.value (omega arith) (short f c sc) (taken f c x h) in
      let hd = fewer (width f) m d.length x d.value (omega arith) (short f d sd) (taken f d x i) in
      eqb-false _ _ a (sym hc ∙ hd))

  covered : (x : ℕ) → covers f c d ≡ true → takes f d x ≡ true → takes f c x ≡ true
  covered x h t =
      let h2 = and_parts (nat_le c.length d.length) (takes f c d.value) h in
      takes_less x (leb-true _ _ h2.0) (sym (taken f c d.value h2.1)) t

  abbrev Escape : Type 0
  Escape = (x : ℕ) × (allowed f x ≡ true) × (takes f d x ≡ true) × (takes f c x ≡ false)

  escape_own : takes f c d.value ≡ false → Escape
  escape_own h = (d.value, small f d sd, eq-eqb _ _ refl, h)

  escape_longer : d.length < c.length → takes f c d.value ≡ true → Escape
  escape_longer dc t =
      let x = apart (width f) c.length d.length d.value dc (short f c sc) (ltb-true _ _ (small f d sd)) in
      (x.0, lt-ltb _ _ x.1, eq-eqb _ _ x.2, ne_eqb _ _ (λ h. x.3 (h ∙ sym (taken f c d.value t))))

  escape : covers f c d ≡ false → Escape
  escape h =
      elim (cases_Bool (takes f c d.value)) [
        | inr t ↦ escape_own t
        | inl t ↦ elim (and_cases (nat_le c.length d.length) (takes f c d.value) h) [ inl l ↦ escape_longer (leb-false _ _ l) t | inr u ↦ escape_own u ]
      ]

  both_fixes : (v : ℕ) → agree f c d ≡ true → (fixes f c v ≡ true) ⊎ (fixes f d v ≡ true) → fixes f (longer c d) v ≡ true
  both_fixes v a (inl h) =
      let whole = eqb-true _ _ (and_parts (c.length == width f) (c.value == v) h).0 in
      longer_by (λ e. fixes f e v ≡ true) c d (λ less. absurd (omega (arith, whole, short f d sd))) (λ _. h)
  both_fixes v a (inr h) =
      let h2 = and_parts (d.length == width f) (d.value == v) h in
      let whole = eqb-true _ _ h2.0 in
      longer_by (λ e. fixes f e v ≡ true) c d (λ _. h)
      (λ more.
      let all_of_c : c.length ≡ width f = omega (arith, whole, short f c sc) in
      let same : first_bits f (width f) c.value ≡ first_bits f (width f) d.value = agreeing a (width f) (omega arith) (omega arith) in
      and_from _ _ (eq-eqb _ _ all_of_c) (eq-eqb _ _ (sym (all_bits (width f) c.value) ∙ same ∙ all_bits (width f) d.value ∙ eqb-true _ _ h2.1)))

module _ (f : Field) (c d : Prefix) (sc : sized f c ≡ true) (sd : sized f d ≡ true) where
  both_takes : (x : ℕ) → agree f c d ≡ true → takes f (longer c d) x ≡ (takes f c x && takes f d x)
  both_takes x a =
      longer_by (λ e. takes f e x ≡ (takes f c x && takes f d x)) c d
      (λ less. same_truth _ _
      (λ h. and_from _ _ (takes_less f c d sc sd x (omega arith) (agreeing f c d sc sd a c.length (omega arith) (omega arith)) h) h)
      (λ h. (and_parts (takes f c x) (takes f d x) h).1))
      (λ more. same_truth _ _
      (λ h. and_from _ _ h (takes_less f d c sd sc x more (sym (agreeing f c d sc sd a d.length (omega arith) (omega arith))) h))
      (λ h. (and_parts (takes f c x) (takes f d x) h).0))

full_takes : (f : Field) (v x : ℕ) → takes f (full f v) x ≡ (x == v)
full_takes f v x = rw (all_bits (width f) x, all_bits (width f) v)

pub prefix_laws : CellLaws prefixes
prefix_laws =
    record {
      blank_sized = λ f. and_from _ _ (zero_allowed f) (le-leb 0 (width f) (omega arith));
      blank_unstated = refl;
      unstated_takes = unstated_takes;
      pick = λ f. pick;
      pick_allowed = pick_allowed;
      pick_taken = pick_taken;
      pick_blank = λ f. pick_blank;
      full_sized = λ f v h. and_from _ _ h (le-leb (width f) (width f) (omega arith));
      full_fixes = λ f v. and_from _ _ (eq-eqb (width f) (width f) refl) (eq-eqb v v refl);
      full_takes = λ f v x hv hx. full_takes f v x;
      fixed = λ f c v x s h a t. fixed f c v x h t;
      both_sized = λ f c d sc sd a. longer_by (λ e. sized f e ≡ true) c d (λ _. sd) (λ _. sc);
      both_stated = λ f c d. longer_by (λ e. stated e ≡ true → (stated c ≡ true) ⊎ (stated d ≡ true)) c d (λ _. inr) (λ _. inl);
      both_fixes = λ f c d v sc sd. both_fixes f c d sc sd v;
      both_takes = λ f c d x sc sd a s. both_takes f c d sc sd x a;
      clash = λ f c d x sc sd a s. clash f c d sc sd x a;
      covered = λ f c d x sc sd h s. covered f c d sc sd x h;
      escape = λ f c d sc sd. escape f c d sc sd;
    }
