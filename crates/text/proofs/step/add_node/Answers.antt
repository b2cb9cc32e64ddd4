-- A node goes on top, or 64 are there.
use Rattle.std.proofs.Common.{◌≡◌, map, Ok, Err, Result, ap, ◌∙◌, sym, arith}
use Rattle.std.specs.Result.{result_or}
use Rattle.packet.specs.Items.{items_of, Pushed}
use Rattle.packet.specs.declared.bounded.Bounded.{Bounded}
use Rattle.packet.specs.declared.bounded.Full.{Full}
use Rattle.packet.specs.declared.fault.ReaderCause.TheVariants.{Nodes}
use Rattle.policy.specs.Shapes.{shape}
use Rattle.policy.specs.declared.node.Node.{Node}
use Rattle.text.specs.Newest.{newest}
use Rattle.text.specs.Steps.{answered, grown}
use Rattle.text.proofs.Moves.{add_full, add_room}
use Rattle.text.proofs.Stack.{length_newest, newest_one}
use Rattle.text.proofs.step.add_node.Goals as goal

grows : (old new : Bounded Node 64) (n : Node) (r : Result (Unit {0}) Full) → Pushed (items_of old) n 64 r (items_of new) → grown (shape n) (map shape (newest old)) ≡ answered (result_or r (Err Nodes)) (map shape (newest new))
grows old new n (Ok u) p = add_room n (newest old) (newest new) (omega (arith, length_newest old, p.0)) (newest_one old new n p.1)
grows old new n (Err e) p = add_full (shape n) (newest old) (omega (arith, length_newest old, p.0))

pub returns : goal.returns
returns c =
    grows c.args.nodes.now c.push.new.self c.args.n c.push.result c.push.ensures ∙ ap (λ r. answered r (map shape (newest c.push.new.self))) (sym c.or.ensures)
