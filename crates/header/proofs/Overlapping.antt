-- What the laws of a kind say of overlaps: how two patterns compare, and what the meet of several leaves.
use Rattle.std.proofs.Common.{◌≡◌, ℕ, Bool, true, false, ◌&&◌, List, [], ◌∷◌, is_some, Some, None, Option, sym, refl, ap, ◌∙◌, subst, arith}
use mathlib.Core.Path.{fun_ext}
use Rattle.std.proofs.lemmas.Bool.{and_parts, and_left, true≢false}
use Rattle.packet.proofs.Witness.{packet_of}
use Rattle.packet.specs.declared.packet.Packet.{Packet}
use Rattle.std.proofs.Math.Bool.{and_assoc, and-true}
use Rattle.header.specs.Laws.{Kind, Laws}
use Rattle.header.specs.Overlaps.{Inside, Disjoint, Lies, case_of, compared, hits_each, made_each, met_with, met_each, Leaves}

-- the cases by what three tests decide
lies_by : (a b : Packet → Bool) (meet inside around : Bool) → (meet ≡ false → Disjoint a b) → (Disjoint a b → meet ≡ false) → (inside ≡ true → Inside a b) → (Inside a b → inside ≡ true) → (around ≡ true → Inside b a) → (Inside b a → around ≡ true) → Lies a b (case_of meet inside around)
lies_by a b false i o m m' h h' l l' = m refl
lies_by a b true true true m m' h h' l l' = (λ d. true≢false (m' d), h refl, l refl)
lies_by a b true true false m m' h h' l l' = (λ d. true≢false (m' d), h refl, λ x. true≢false (sym (l' x)))
lies_by a b true false true m m' h h' l l' = (λ d. true≢false (m' d), λ x. true≢false (sym (h' x)), l refl)
lies_by a b true false false m m' h h' l l' = (λ d. true≢false (m' d), λ x. true≢false (sym (h' x)), λ x. true≢false (sym (l' x)))

none_from : {A : Type 0} (o : Option A) → is_some o ≡ false → o ≡ None
none_from None e = refl
none_from (Some x) e = absurd (true≢false e)

module _ {P : Type 0} (kind : Kind P) (laws : Laws kind) where
  pub compared_lies : (p q : P) → kind.made p ≡ true → kind.made q ≡ true → Lies (kind.hit p) (kind.hit q) (compared kind p q)
  compared_lies p q mp mq =
      let meet = laws.meet_none p q mp mq in
      let inside = laws.cover_hit q p mq mp in
      let around = laws.cover_hit p q mp mq in
      lies_by (kind.hit p) (kind.hit q) (is_some (kind.meeting p q)) (kind.covering q p) (kind.covering p q)
      (λ e. meet.0 (none_from (kind.meeting p q) e)) (λ d. ap is_some (meet.1 d)) inside.0 inside.1 around.0 around.1

  -- "all" leaves every packet, and there is one
  leaves_all : Leaves kind (λ k. true) (Some kind.all)
  leaves_all = (laws.all_made, laws.all_hit, λ never. true≢false (never (packet_of (λ f. 0) refl)))

  -- the meet with a made pattern leaves the packets that hit it too
  leaves_met : (packets : Packet → Bool) (m p : P) → Leaves kind packets (Some m) → kind.made p ≡ true → (o : Option P) → kind.meeting m p ≡ o → Leaves kind (λ k. packets k && kind.hit p k) o
  leaves_met packets m p (made, hit, some) mp None e = λ k. ap (λ b. b && kind.hit p k) (sym (hit k)) ∙ (laws.meet_none m p made mp).0 e k
  leaves_met packets m p (made, hit, some) mp (Some r) e = (
    laws.meet_made m p r made mp e,
    λ k. laws.meet_hit m p r made mp e k ∙ ap (λ b. b && kind.hit p k) (hit k),
    λ never.
        let none = (laws.meet_none m p made mp).1 (λ k. ap (λ b. b && kind.hit p k) (hit k) ∙ never k) in
        let clash : ◌≡◌ {A = ℕ} 0 1 = cc in
        omega arith,
  )

  leaves_with : (packets : Packet → Bool) (m : Option P) (p : P) → Leaves kind packets m → kind.made p ≡ true → Leaves kind (λ k. packets k && kind.hit p k) (met_with kind m p)
  leaves_with packets None p never mp = λ k. and_left _ _ (never k)
  leaves_with packets (Some m) p left mp = leaves_met packets m p left mp (kind.meeting m p) refl

  leaves_from : (packets : Packet → Bool) (m : Option P) → Leaves kind packets m → (ps : List P) → made_each kind ps ≡ true → Leaves kind (λ k. packets k && hits_each kind ps k) (met_each kind m ps)
  leaves_from packets m left [] e = subst (λ a. Leaves kind a m) (fun_ext (λ k. sym (and-true (packets k)))) left
  leaves_from packets m left (p ∷ ps) e =
      let parts = and_parts (kind.made p) (made_each kind ps) e in
      subst (λ a. Leaves kind a (met_each kind (met_with kind m p) ps)) (fun_ext (λ k. and_assoc (packets k) (kind.hit p k) (hits_each kind ps k)))
      (leaves_from (λ k. packets k && kind.hit p k) (met_with kind m p) (leaves_with packets m p left parts.0) ps parts.1)

  pub leaves_each : (ps : List P) → made_each kind ps ≡ true → Leaves kind (hits_each kind ps) (met_each kind (Some kind.all) ps)
  leaves_each = leaves_from (λ k. true) (Some kind.all) leaves_all
