-- The test made is that of its parts.
use Rattle.packet.proofs.Testing.{tested_fits}
use Rattle.packet.proofs.test.Test.new.Goals as goal

pub returns : goal.returns
returns c = tested_fits _ _ _ _
