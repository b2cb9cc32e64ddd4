-- The ports done, with the highest put among those left, are the longer list.
use Rattle.std.proofs.Common.{◌≡◌, ◌++◌, length, drop}
use Rattle.packet.specs.Items.{items_of}
use Rattle.packet.specs.PortLists.{placed}
use Rattle.packet.proofs.ports.list.with_port.Given as goal

abbrev pub invariant-loop-here : goal.invariant-loop-here
invariant-loop-here l = (length (items_of l.grown) ≡ l.here-index) × (items_of l.grown ++ placed l.high (drop l.here-index l.here-items) ≡ placed l.port l.here-items)
