-- The longer list is one of ports, in rising order.
use Rattle.std.proofs.Common.{ap, ◌∙◌, arith}
use Rattle.packet.specs.Items.{items_of}
use Rattle.packet.specs.PortLists.{are_ports}
use Rattle.packet.proofs.PortOrder.{placed_rises}
use Rattle.packet.proofs.ports.Ports.add.Goals as goal

pub invariant_of-self : goal.invariant_of-self
invariant_of-self c =
    let p = c.args.self.now in
    record { right = ap are_ports c.with_port-grown.ensures ∙ placed_rises 1 48 c.args.port (items_of p.list) (omega arith) (omega arith) p.right }
