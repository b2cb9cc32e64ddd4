-- Each field is asked, and each number taken.
use Rattle.std.proofs.Common.{rules}
use Rattle.packet.specs.Packets.{number}
use Rattle.packet.proofs.Chains.{every_of_all}
use Rattle.header.proofs.pattern.CellPattern.takes_each.Goals as goal

pub returns : goal.returns
returns g c = every_of_all (λ f. g.Self.Cell.Cell.cell.takes f (g.Self.CellPattern.layout.at c.args.self.now f) (number c.args.packet.now f)) _ _ _ c.all.ensures.ran (cc) (λ x b q k. search rules)
