-- Where a node does not find its parts, the nodes leave nothing.
use Rattle.std.proofs.Common.{arith}
use Rattle.std.proofs.lemmas.Grind.{common_steps}
use Rattle.policy.proofs.Leading.{next, stuck}
use Rattle.policy.proofs.policy.Policy.from_nodes.Goals as goal

pub returns-in_err-take_parts : goal.returns-in_err-take_parts
returns-in_err-take_parts c =
    let l = c.loop-node.invariant in
    let nothing = stuck (next c.loop-node-test.true c.node-item.is l.leads) (c.in_err-take_parts.ensures.taken l.trees l.kinds) in
    grind (arith, common_steps)
