-- The laws of a cell that states a number or nothing.
use Rattle.std.specs.Prelude.{◌≡◌, ℕ, true, false, ◌&&◌, ◌⊎◌, Some, None, Option, ◌==◌, refl}
use Rattle.std.proofs.Common.{sym, subst, ◌∙◌, inl, inr}
use Rattle.std.proofs.lemmas.Bool.{both_ways, true≢false, false≢true, eqb-true, eqb-false, eq-eqb, ne_eqb, and_parts, and_from}
use Rattle.packet.proofs.Every.{another, zero_allowed}
use Rattle.packet.specs.Fields.{allowed}
use Rattle.packet.specs.declared.field.Field.{Field}
use Rattle.header.specs.CellLaws.{CellLaws}
use Rattle.header.specs.Truth.{same_truth, and_true}
use Rattle.header.specs.Frames.{exact, sized, stated, fixes, takes, agree, either, covers}

unstated_takes : (c : Option ℕ) (x : ℕ) → stated c ≡ false → takes c x ≡ true
unstated_takes None x s = refl
unstated_takes (Some v) x s = absurd (true≢false s)

pick : Option ℕ → ℕ
pick None = 0
pick (Some v) = v

pick_allowed : (f : Field) (c : Option ℕ) → sized f c ≡ true → allowed f (pick c) ≡ true
unfolding pick
pick_allowed f None s = zero_allowed f
pick_allowed f (Some v) s = s

pick_taken : (c : Option ℕ) → takes c (pick c) ≡ true
unfolding pick
pick_taken None = refl
pick_taken (Some v) = eq-eqb v v refl

pick_blank : (c : Option ℕ) → stated c ≡ false → pick c ≡ 0
unfolding pick
pick_blank None s = refl
pick_blank (Some v) s = absurd (true≢false s)

fixed : (c : Option ℕ) (v x : ℕ) → fixes c v ≡ true → takes c x ≡ true → x ≡ v
fixed None v x h t = absurd (false≢true h)
fixed (Some u) v x h t = sym (eqb-true u x t) ∙ eqb-true u v h

both_sized : (f : Field) (c d : Option ℕ) → sized f c ≡ true → sized f d ≡ true → sized f (either c d) ≡ true
both_sized f None d sc sd = sd
both_sized f (Some v) d sc sd = sc

both_stated : (c d : Option ℕ) → stated (either c d) ≡ true → (stated c ≡ true) ⊎ (stated d ≡ true)
both_stated None d s = inr s
both_stated (Some v) d s = inl refl

-- whatever one of two agreeing cells fixes, their meet fixes
both_fixes : (c d : Option ℕ) (v : ℕ) → agree c d ≡ true → (fixes c v ≡ true) ⊎ (fixes d v ≡ true) → fixes (either c d) v ≡ true
both_fixes None d v a (inl h) = absurd (false≢true h)
both_fixes None d v a (inr h) = h
both_fixes (Some u) d v a (inl h) = h
both_fixes (Some u) d v a (inr h) = eq-eqb u v (fixed d v u h a)

both_takes : (c d : Option ℕ) (x : ℕ) → agree c d ≡ true → takes (either c d) x ≡ (takes c x && takes d x)
both_takes None d x a = refl
both_takes (Some u) d x a = same_truth _ _ (λ h. and_from _ _ h (subst (λ y. takes d y ≡ true) (eqb-true u x h) a)) (λ h. (and_parts (u == x) (takes d x) h).0)

clash : (c d : Option ℕ) (x : ℕ) → agree c d ≡ false → (takes c x && takes d x) ≡ false
clash None d x a = absurd (true≢false a)
clash (Some u) d x a = and_true (u == x) (takes d x) (λ h i. both_ways (takes d u) a (subst (λ y. takes d y ≡ true) (sym (eqb-true u x h)) i))

covered : (c d : Option ℕ) (x : ℕ) → covers c d ≡ true → takes d x ≡ true → takes c x ≡ true
covered None d x h t = refl
covered (Some u) d x h t = eq-eqb u x (sym (fixed d u x h t))

escape : (f : Field) (c d : Option ℕ) → sized f d ≡ true → covers c d ≡ false → (x : ℕ) × (allowed f x ≡ true) × (takes d x ≡ true) × (takes c x ≡ false)
escape f None d s h = absurd (true≢false h)
escape f (Some u) None s h = let o = another f u in (o.0, o.1, refl, o.2)
escape f (Some u) (Some w) s h = (w, s, eq-eqb w w refl, ne_eqb u w (λ e. eqb-false w u h (sym e)))

pub exact_laws : CellLaws exact
exact_laws =
    record {
      blank_sized = λ f. refl;
      blank_unstated = refl;
      unstated_takes = λ f c x sized small. unstated_takes c x;
      pick = λ f. pick;
      pick_allowed = pick_allowed;
      pick_taken = λ f c s. pick_taken c;
      pick_blank = λ f. pick_blank;
      full_sized = λ f v h. h;
      full_fixes = λ f v. eq-eqb v v refl;
      full_takes = λ f v x hv hx. same_truth _ _ (λ h. eq-eqb x v (sym (eqb-true v x h))) (λ h. eq-eqb v x (sym (eqb-true x v h)));
      fixed = λ f c v x s h small t. fixed c v x h t;
      both_sized = λ f c d sc sd a. both_sized f c d sc sd;
      both_stated = λ f. both_stated;
      both_fixes = λ f c d v sc sd. both_fixes c d v;
      both_takes = λ f c d x sc sd a small. both_takes c d x a;
      clash = λ f c d x sc sd a small. clash c d x a;
      covered = λ f c d x sc sd h small. covered c d x h;
      escape = λ f c d sc. escape f c d;
    }
