-- Each field is asked, and each cell covered.
use Rattle.std.proofs.Common.{rules}
use Rattle.packet.proofs.Chains.{every_of_all}
use Rattle.header.proofs.pattern.CellPattern.covers_each.Goals as goal

pub returns : goal.returns
returns g c = every_of_all (λ f. g.Self.Cell.Cell.cell.covers f (g.Self.CellPattern.layout.at c.args.self.now f) (g.Self.CellPattern.layout.at c.args.other.now f)) _ _ _ c.all.ensures.ran (cc) (λ x b q k. search rules)
