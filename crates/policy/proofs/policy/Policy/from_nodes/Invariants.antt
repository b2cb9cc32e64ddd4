-- The kinds are those of some trees, on which the nodes to come leave what all of them leave.
use Rattle.std.proofs.Common.{◌≡◌, ◌≤◌, length, Some}
use Rattle.packet.specs.Items.{items_of}
use Rattle.policy.specs.Building.{kinds_of}
use Rattle.policy.specs.Trees.{Untaken}
use Rattle.policy.proofs.Leading.{Leads}
use Rattle.policy.proofs.policy.Policy.from_nodes.Given as goal

abbrev pub invariant-loop-node : goal.invariant-loop-node
invariant-loop-node l = record {
  trees : Untaken;
  kinds : items_of l.kinds ≡ kinds_of trees;
  leads : Leads l.node-items l.node-index (Some trees);
  few : length (items_of l.kinds) ≤ l.node-index;
}
