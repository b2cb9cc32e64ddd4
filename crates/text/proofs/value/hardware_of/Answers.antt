-- Twelve digits fit 48 bits.
use Rattle.std.proofs.Common.{None, sym, ap, ◌∙◌}
use Rattle.std.proofs.lemmas.Bool.{cond-true, eq-eqb}
use Rattle.text.specs.Values.{at_most, digit_in, digits, nibble}
use Rattle.text.proofs.Digits.{at_most_kept, digit_sixteen, digits_same, hex_fits}
use Rattle.text.proofs.value.hardware_of.Goals as goal

pub returns : goal.returns
returns c =
    let w = c.args.word.now in
    c.digits_of.ensures
    ∙ (ap (at_most 18446744073709551615) (digits_same 16 (digit_in 16) nibble digit_sixteen 0 w)
    ∙ (at_most_kept 18446744073709551615 (digits 16 nibble 0 w) (λ m e. hex_fits w m c.if-word-ne12.false e)
    ∙ sym (cond-true _ (digits 16 nibble 0 w) None (eq-eqb _ _ c.if-word-ne12.false))))
