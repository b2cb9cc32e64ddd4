-- At the end the walk holds the sends of the root that count, and their tally is the policy's copies.
use Rattle.std.proofs.Common.{◌+◌, ap, ◌∙◌, arith, rules}
use Rattle.policy.specs.Roots.{tree_of}
use Rattle.policy.specs.Shapes.{shape}
use Rattle.policy.specs.Trees.{stack_of}
use Rattle.policy.specs.Walks.{sends_of}
use Rattle.policy.proofs.Counting.{one_root, tally_gives}
use Rattle.policy.proofs.Leading.{goes_on, all}
use Rattle.policy.proofs.Standing.{has}
use Rattle.policy.proofs.evaluator.evaluate.Goals as goal

pub step-requires-clause-parts : goal.step-requires-clause-parts
step-requires-clause-parts c =
    let l = c.loop-node.invariant in
    let more = goes_on c.loop-node-test.true c.node-item.is l.leads c.args.policy.now c.nodes-node-items.ensures in
    has (shape c.node-item.result) l.stands more.1

pub loop-node-preserved : goal.loop-node-preserved
loop-node-preserved c =
    let l = c.loop-node.invariant in
    let more = goes_on c.loop-node-test.true c.node-item.is l.leads c.args.policy.now c.nodes-node-items.ensures in
    record {
      trees = more.0;
      stands = c.step.ensures.stands l.trees more.0 c.args.switch c.args.packet.now l.stands more.1;
      leads = more.2;
      few = omega arith;
    }

pub returns : goal.returns
returns c = (
  search rules,
  λ n h.
      let w = c.loop-node.invariant in
      let end = one_root c.args.policy.now (all w.leads (omega arith) ∙ ap stack_of c.nodes-node-items.ensures) in
      let sends = w.stands.stands.sends_are ∙ ap (λ ts. sends_of ts c.args.switch c.args.packet.now) end in
      let gives = tally_gives (tree_of c.args.policy.now) c.args.switch c.args.packet.now (n + 1) in
      cc (c.count_sends.ensures n h),
)
