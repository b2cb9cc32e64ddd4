-- What is written of each layer's faults is the line of the definition.
use Rattle.std.proofs.Common.{◌≡◌, ap, ◌∙◌}
use Rattle.packet.specs.Faults.{number_of, reader_number, builder_number, host_number, switch_number}
use Rattle.packet.proofs.fault.calls.FaultDisplay.fmt.Goals as goal

pub returns-in-Reader-clause-writes : goal.returns-in-Reader-clause-writes
returns-in-Reader-clause-writes g c plain ok =
    let number : c.number-number.result ≡ reader_number c.in-Reader.cause = c.number-number.ensures ∙ ap number_of c.in-Reader.is in
    rw (c.in-Reader.is, ← number) (c.write.ensures.writes plain ok)

pub returns-in-Builder-clause-writes : goal.returns-in-Builder-clause-writes
returns-in-Builder-clause-writes g c plain ok =
    let number : c.number-number.result ≡ builder_number c.in-Builder.cause = c.number-number.ensures ∙ ap number_of c.in-Builder.is in
    rw (c.in-Builder.is, ← number) (c.write-in-Builder.ensures.writes plain ok)

pub returns-in-Host-clause-writes : goal.returns-in-Host-clause-writes
returns-in-Host-clause-writes g c plain ok =
    let number : c.number-number.result ≡ host_number c.in-Host.cause = c.number-number.ensures ∙ ap number_of c.in-Host.is in
    rw (c.in-Host.is, ← number) (c.write-in-Host.ensures.writes plain ok)

pub returns-in-Switch-clause-writes : goal.returns-in-Switch-clause-writes
returns-in-Switch-clause-writes g c plain ok =
    let number : c.number-number.result ≡ switch_number c.in-Switch.cause = c.number-number.ensures ∙ ap number_of c.in-Switch.is in
    rw (c.in-Switch.is, ← number) (c.write-in-Switch.ensures.writes plain ok)
