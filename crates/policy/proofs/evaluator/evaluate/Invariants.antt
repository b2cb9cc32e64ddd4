-- The walk stands for some trees, on which the nodes to come leave what all of them leave, and holds no more than there were nodes.
use Rattle.std.proofs.Common.{◌≤◌, Some}
use Rattle.policy.specs.Trees.{Untaken}
use Rattle.policy.specs.Walks.{StandsFor, held}
use Rattle.policy.proofs.Leading.{Leads}
use Rattle.policy.proofs.evaluator.evaluate.Given as goal

abbrev pub invariant-loop-node : goal.invariant-loop-node
invariant-loop-node l = record {
  trees : Untaken;
  stands : StandsFor trees l.switch l.packet l.walk;
  leads : Leads l.node-items l.node-index (Some trees);
  few : held l.walk ≤ l.node-index;
}
