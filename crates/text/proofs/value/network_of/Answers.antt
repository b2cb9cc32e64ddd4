-- An address without a stroke has its whole length.
use Rattle.std.proofs.Common.{sym, ap, ◌∙◌}
use Rattle.packet.specs.Fields.{width}
use Rattle.text.specs.Values.{and_some, cut_off, network_on}
use Rattle.text.proofs.value.network_of.Goals as goal

pub returns-in_ok-quad_of-in-None : goal.returns-in_ok-quad_of-in-None
returns-in_ok-quad_of-in-None c =
    let f = c.args.field in
    c.to_length.ensures
    ∙ (ap (cut_off f c.in_ok-quad_of-in-None.field-0) c.width.ensures
    ∙ (ap (λ o. and_some o (λ n. cut_off f n (width f))) c.in_ok-quad_of-in-None.ensures
    ∙ sym (ap (network_on f c.args.word.now) c.in-None.ensures)))
