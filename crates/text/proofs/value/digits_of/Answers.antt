-- Each digit reads on.
use Rattle.std.proofs.Common.{◌≡◌, ◌∙◌, rules, tests, arith}
use Rattle.std.proofs.lemmas.Iterator.{YieldsList-from_slice}
use Rattle.std.specs.ControlFlow.{continue_value}
use Rattle.text.proofs.Digits.{next, tries_digits}
use Rattle.packet.proofs.Trying.{tried}
use Rattle.text.proofs.value.digits_of.Goals as goal

pub returns : goal.returns
returns c =
    tried (λ o e. o ≡ continue_value e) (next 18446744073709551615 c.args.base) _ 0 c.try_fold.result _ c.try_fold.ensures.ran (YieldsList-from_slice c.args.word.now cc)
    (λ o b e. e) (λ o e b. b) (λ e r z. z) (λ a x r q k. search (rules, tests))
    ∙ tries_digits 18446744073709551615 c.args.base (omega arith) 0 c.args.word.now (omega arith)
