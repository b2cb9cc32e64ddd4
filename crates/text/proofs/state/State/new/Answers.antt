-- Two empty stacks.
use Rattle.std.proofs.Common.{false, map}
use Rattle.policy.specs.Shapes.{shape}
use Rattle.text.specs.Dues.{due_of}
use Rattle.text.proofs.Stack.{newest_none}
use Rattle.text.proofs.state.State.new.Goals as goal

pub returns : goal.returns
returns c = λ i. record {
  brackets = map due_of (newest_none c.new.result c.new.ensures i);
  nodes = map shape (newest_none c.new-2.result c.new-2.ensures i);
  formed = false;
  joins = false;
}
