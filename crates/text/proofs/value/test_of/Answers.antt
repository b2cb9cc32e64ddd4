-- Each field's value is of its kind.
use Rattle.std.proofs.Common.{◌≡◌, ℕ, List, Some, sym, refl, ap, ◌∙◌, subst, ⊎_elim}
use Rattle.packet.specs.declared.field.Field.{Field}
use Rattle.packet.specs.declared.field.Field.TheVariants.{DlSrc, DlDst, DlTyp, NwSrc, NwDst, NwProto, TpSrc, TpDst}
use Rattle.text.specs.Values.{full, hardware, sixteen_bits, test_from}
use Rattle.text.proofs.value.test_of.Goals as goal

pub returns-in_ok-hardware_of-in-DlSrc : goal.returns-in_ok-hardware_of-in-DlSrc
returns-in_ok-hardware_of-in-DlSrc c =
    let n = c.in_ok-hardware_of-in-DlSrc.field-0 in
    let e : Some n ≡ hardware c.args.word.now = c.in_ok-hardware_of-in-DlSrc.ensures in
    let goes = λ (f : Field). full f (Some n) ≡ test_from f c.args.word.now in
    c.whole.ensures ∙ ⊎_elim (λ h. subst goes (sym h) (ap (full DlSrc) e)) (λ h. subst goes (sym h) (ap (full DlDst) e)) c.in-DlSrc.is

-- the fields whose values are numbers
numbers : (f : Field) (w : List ℕ) → (f ≡ DlSrc → ⊥) → (f ≡ DlDst → ⊥) → (f ≡ NwSrc → ⊥) → (f ≡ NwDst → ⊥) → full f (sixteen_bits w) ≡ test_from f w
numbers DlSrc w a b c d = absurd (a refl)
numbers DlDst w a b c d = absurd (b refl)
numbers DlTyp w a b c d = refl
numbers NwSrc w a b c d = absurd (c refl)
numbers NwDst w a b c d = absurd (d refl)
numbers NwProto w a b c d = refl
numbers TpSrc w a b c d = refl
numbers TpDst w a b c d = refl

pub returns-in_ok-number_of-in_default : goal.returns-in_ok-number_of-in_default
returns-in_ok-number_of-in_default c =
    let no = c.in_default in
    let n : Some c.from.result ≡ sixteen_bits c.args.word.now = ap Some c.from.ensures ∙ c.in_ok-number_of-in_default.ensures in
    c.whole-in_default.ensures ∙ (ap (full c.args.field) n ∙ numbers c.args.field c.args.word.now no.not-DlSrc no.not-DlDst no.not-NwSrc no.not-NwDst)
