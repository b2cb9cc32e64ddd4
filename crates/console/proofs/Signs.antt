-- The sign = in a word FIELD=V: a field's name has none, so the word is cut at its first.
use Rattle.std.proofs.Common.{◌≡◌, ℕ, zero, suc, ◌<◌, Bool, true, false, cond, not, ◌&&◌, eqb, List, [], ◌∷◌, length, get_or, Some, None, Option, refl, ap, ◌∙◌, arith, Bor}
use Rattle.std.proofs.lemmas.Slice.Eq.{bytes_eq-Decides}
use Rattle.std.proofs.lemmas.Str.Pattern.{IsSplitOnceResult, split_after}
use Rattle.std.proofs.lemmas.Bool.{and_parts, eq-eqb, both_ways, not-true}
use Rattle.std.specs.Str.{bytes_eq}
use Rattle.packet.specs.declared.field.Field.{Field}
use Rattle.packet.specs.declared.field.Field.TheVariants.{DlSrc, DlDst, DlTyp, NwSrc, NwDst, NwProto, TpSrc, TpDst}
use Rattle.text.specs.Heads.{name, named_or, named_field}
use Rattle.text.specs.Values.{test_from, full_value}
use Rattle.console.specs.Typed.{Gives}

this_or : (w : List ℕ) (g f : Field) (more : Option Field) → named_or w g more ≡ Some f → (more ≡ Some f → w ≡ name f) → w ≡ name f
this_or w g f more e later = go (bytes_eq w (name g)) refl e
  where
    go : (b : Bool) → bytes_eq w (name g) ≡ b → cond b (Some g) more ≡ Some f → w ≡ name f
    go true same q = let k : g ≡ f = cc in (bytes_eq-Decides w (name g)).0 same ∙ ap name k
    go false same q = later q

is_name : (w : List ℕ) (f : Field) → named_field w ≡ Some f → w ≡ name f
is_name w f e =
    this_or w DlSrc f _ e (λ e. this_or w DlDst f _ e (λ e. this_or w DlTyp f _ e (λ e. this_or w NwSrc f _ e (λ e.
    this_or w NwDst f _ e (λ e. this_or w NwProto f _ e (λ e. this_or w TpSrc f _ e (λ e. this_or w TpDst f _ e (λ e.
    let z : ◌≡◌ {A = ℕ} 0 1 = cc in absurd (omega arith)))))))))

abbrev signless : List ℕ → Bool
signless [] = true
signless (b ∷ bs) = not (eqb b 61) && signless bs

no_sign : (bs : List ℕ) → signless bs ≡ true → (i : ℕ) → i < length bs → get_or bs i 0 ≡ 61 → ⊥
no_sign [] e i h q = omega arith
no_sign (b ∷ bs) e zero h q = both_ways (eqb b 61) (not-true _ (and_parts (not (eqb b 61)) (signless bs) e).0) (eq-eqb b 61 q)
no_sign (b ∷ bs) e (suc i) h q = no_sign bs (and_parts (not (eqb b 61)) (signless bs) e).1 i (omega arith) q

name_signless : (f : Field) → signless (name f) ≡ true
name_signless DlSrc = refl
name_signless DlDst = refl
name_signless DlTyp = refl
name_signless NwSrc = refl
name_signless NwDst = refl
name_signless NwProto = refl
name_signless TpSrc = refl
name_signless TpDst = refl

some_is : {A : Type 0} {o : Option A} {a b : A} → o ≡ Some a → o ≡ Some b → a ≡ b
some_is p q = cc

some_none : {A : Type 0} {o : Option A} {a : A} → o ≡ Some a → o ≡ None → ⊥
some_none p q = let z : ◌≡◌ {A = ℕ} 0 1 = cc in omega arith

module _ {word : List ℕ} {f : Field} {n : ℕ} (g : Gives word f n) where
  free : (i : ℕ) → i < length g.front → get_or g.front i 0 ≡ 61 → ⊥
  free = no_sign g.front (ap signless (is_name g.front f g.names) ∙ name_signless f)

  pub never_whole : IsSplitOnceResult 61 word None → ⊥
  never_whole none = split_after 61 word g.front g.back None none (omega arith) g.cut free

  module _ (x : Bor (List ℕ) × Bor (List ℕ)) (split : IsSplitOnceResult 61 word (Some x)) where
    here : (x.0.now ≡ g.front) × (x.1.now ≡ g.back)
    here = split_after 61 word g.front g.back (Some x) split (omega arith) g.cut free

    pub same_field : (h : Field) → named_field x.0.now ≡ Some h → f ≡ h
    same_field h e = some_is (ap named_field here.0 ∙ g.names) e

    pub never_unnamed : named_field x.0.now ≡ None → ⊥
    never_unnamed e = some_none (ap named_field here.0 ∙ g.names) e

    pub never_unsaid : (h : Field) → named_field x.0.now ≡ Some h → full_value h (test_from h x.1.now) ≡ None → ⊥
    never_unsaid h e none =
        some_none (ap (λ l. full_value f (test_from f l)) here.1 ∙ g.says) (ap (λ k. full_value k (test_from k x.1.now)) (same_field h e) ∙ none)
