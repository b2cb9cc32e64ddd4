-- A word is taken by what it is due to be.
use Rattle.std.proofs.Common.{string_bytes, refl, subst, sym}
use Rattle.packet.specs.Packets.{number}
use Rattle.console.specs.Commands.{TakesDue, asked, with_packet}
use Rattle.console.specs.Typed.{Describes}
use Rattle.console.proofs.arguments.Options.add.Goals as goal

pub returns-in_ok-packet_of-in-Packet : goal.returns-in_ok-packet_of-in-Packet
returns-in_ok-packet_of-in-Packet c =
    let p = c.in_ok-packet_of-in-Packet.field-0 in
    let a = asked c.self.inside in
    let w = string_bytes c.args.word in
    rw (← c.self.view_is) (subst (λ d. TakesDue d a w (with_packet p a)) (sym c.in-Packet.is) (p, subst (λ l. Describes l (number p)) c.as_str-in-Packet.ensures.value c.in_ok-packet_of-in-Packet.ensures, refl))
