-- When eight numbers make a packet.
use Rattle.std.specs.Prelude.{◌≡◌, true, false, Ok, Err, Result}
use Rattle.packet.specs.declared.fault.Call.TheVariants as call
use Rattle.packet.specs.declared.fault.Fault.{Fault}
use Rattle.packet.specs.declared.fault.Fault.TheVariants.{Host}
use Rattle.packet.specs.declared.fault.HostCause.TheVariants.{Numbers}
use Rattle.packet.specs.declared.packet.Packet.{Packet}
use Rattle.packet.specs.Faults.{number_of}
use Rattle.packet.specs.Fields.{Numbers as Row, lawful}
use Rattle.packet.specs.Packets.{number}

-- lawful numbers make the packet that has them; any others are refused by number 11, at the making
abbrev pub Made : Row → Result Packet Fault → Type 0
Made n (Ok p) = (lawful n ≡ true) × (number p ≡ n)
Made n (Err f) = (lawful n ≡ false) × (number_of f ≡ 11) × (f ≡ Host Numbers call.Packet)
