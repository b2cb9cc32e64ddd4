-- What the reader's state stands for.
use Rattle.std.specs.Prelude.{List, map, Some, None, Ok, Err, Option, Result}
use Rattle.packet.specs.Items.{items_of}
use Rattle.packet.specs.declared.bounded.Bounded.{Bounded}
use Rattle.policy.specs.Finishing.{empty_tree}
use Rattle.policy.specs.Shapes.{Shape, shape}
use Rattle.policy.specs.declared.node.Node.{Node}
use Rattle.text.specs.Dues.{due_of}
use Rattle.text.specs.Newest.{newest}
use Rattle.text.specs.Numbered.{numbered}
use Rattle.text.specs.Steps.{Reading, Part}
use Rattle.text.specs.declared.due.Part as code
use Rattle.text.specs.declared.state.State.TheInside.{Inside}

abbrev pub reading : Inside → Reading
reading s = record {
  brackets = map due_of (newest s.brackets);
  nodes = map shape (newest s.nodes);
  formed = s.formed;
  joins = s.joins;
}

abbrev pub owed : code.Part → Part
owed p = record { kind = p.kind; after = due_of p.after }

-- the nodes of a list, the oldest first
abbrev pub shapes_in : Bounded Node 64 → List Shape
shapes_in b = map shape (items_of b)

-- a reading's answer; where there is no form, the nodes of the empty policy
abbrev pub made_of : {E : Type 0} → Result (Option (Bounded Node 64)) E → Result (List Shape) E
made_of (Ok None) = Ok (numbered empty_tree)
made_of (Ok (Some b)) = Ok (shapes_in b)
made_of (Err e) = Err e
