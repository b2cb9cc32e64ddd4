-- Each digit reads on, up to the limit.
use Rattle.std.proofs.Common.{◌≡◌, ap, ◌∙◌, rules, tests, arith}
use Rattle.std.proofs.lemmas.Iterator.{YieldsList-from_slice}
use Rattle.std.specs.ControlFlow.{continue_value}
use Rattle.text.specs.Values.{at_most, digit, digit_in}
use Rattle.text.proofs.Digits.{next, digit_ten, digits_same, tries_digits}
use Rattle.packet.proofs.Trying.{tried}
use Rattle.text.proofs.value.decimal_of.Goals as goal

pub returns : goal.returns
returns c =
    tried (λ o e. o ≡ continue_value e) (next c.args.limit 10) _ 0 c.try_fold.result _ c.try_fold.ensures.ran (YieldsList-from_slice c.args.word.now cc)
    (λ o b e. e) (λ o e b. b) (λ e r z. z) (λ a x r q k. search (rules, tests))
    ∙ (tries_digits c.args.limit 10 (omega arith) 0 c.args.word.now (omega arith)
    ∙ ap (at_most c.args.limit) (digits_same 10 (digit_in 10) digit digit_ten 0 c.args.word.now))
