-- The newest kinds are a node's parts exactly where it finds them.
use Rattle.std.proofs.Common.{sym, ap, ◌++◌, ◌∙◌, Some, arith}
use Rattle.std.proofs.lemmas.Grind.{common_steps}
use Rattle.std.proofs.lemmas.List.{take_at}
use Rattle.std.proofs.lemmas.Slice.Eq.{strip_suffix_is}
use Rattle.policy.specs.Shapes.{shape}
use Rattle.policy.proofs.Taking.{fits, kind_decided}
use Rattle.policy.proofs.policy.calls.take_parts.Goals as goal

pub returns-clause-taken : goal.returns-clause-taken
returns-clause-taken c ts known =
    let front = c.in_ok-rest.field-0.now in
    let cut = strip_suffix_is kind_decided c.as_slice.result.now c.parts.result.now (Some c.in_ok-rest.field-0) c.in_ok-rest.ensures.cases in
    let fit = fits (shape c.args.node.now) ts front (sym known ∙ sym c.as_slice.ensures ∙ cut ∙ ap (λ l. front ++ l) c.parts.ensures) in
    grind (arith, common_steps, take_at)
