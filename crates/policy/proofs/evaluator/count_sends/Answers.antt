-- Each turn adds the counts of one send.
use Rattle.std.proofs.Common.{◌+◌, take, arith}
use Rattle.std.proofs.lemmas.Grind.{common_steps}
use Rattle.std.proofs.lemmas.List.{get_or-replicate}
use Rattle.policy.proofs.Counting.{tally_more, tally_short}
use Rattle.policy.proofs.evaluator.count_sends.Goals as goal

pub loop-ports-init : goal.loop-ports-init
loop-ports-init c n h = get_or-replicate 48 n 0 0 h

pub count_ports-requires : goal.count_ports-requires
count_ports-requires c n h =
    let so_far = c.loop-ports.invariant n h in
    let short = tally_short (n + 1) (take c.loop-ports.ports-index c.args.sends.now) in
    grind (arith, common_steps)

pub loop-ports-preserved : goal.loop-ports-preserved
loop-ports-preserved c n h =
    let so_far = c.loop-ports.invariant n h in
    let more = tally_more (n + 1) c.args.sends.now c.loop-ports.ports-index c.ports-item.result c.loop-ports-test.true in
    let counted = c.count_ports.ensures n h in
    grind (arith, common_steps)
