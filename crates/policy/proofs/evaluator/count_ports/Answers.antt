-- Each turn raises the count of one port.
use Rattle.std.proofs.Common.{◌+◌, arith}
use Rattle.std.proofs.lemmas.Bool.Decides.{nat_tests}
use Rattle.std.proofs.lemmas.Grind.{common_steps}
use Rattle.policy.proofs.Counting.{port_within, times_more}
use Rattle.policy.proofs.evaluator.count_ports.Goals as goal

pub loop-port-preserved : goal.loop-port-preserved
loop-port-preserved c = record {
  whole = grind (arith, common_steps);
  counted = λ n h.
      let before = c.loop-port.invariant.counted n h in
      let more = times_more (n + 1) c.as_slice-port-items.result.now c.loop-port.port-index c.loop-port-test.true in
      grind (arith, common_steps, nat_tests, port_within);
}
