-- What is cut off are the sends of the policy that is not kept.
use Rattle.std.proofs.Common.{map, sym, ap, ◌∙◌, arith}
use Rattle.std.proofs.lemmas.Grind.{common_steps}
use Rattle.std.proofs.lemmas.List.{take-map, take_at, get_or_push}
use Rattle.packet.specs.Items.{items_of}
use Rattle.packet.specs.Written.{written}
use Rattle.policy.proofs.evaluator.Walk.step.Goals as goal

pub returns-then-not-unwrap-clause-stands : goal.returns-then-not-unwrap-clause-stands
returns-then-not-unwrap-clause-stands c =
    let cut = ap (map written) c.truncate.ensures ∙ sym (take-map written c.unwrap-start.result.now (items_of c.args.self.now.sends)) in
    grind (arith, common_steps, take_at, get_or_push)
