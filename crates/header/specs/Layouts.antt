-- A header kind whose patterns have a cell for each field.
use Rattle.std.specs.Prelude.{Bool, cond, Some, None}
use Rattle.packet.specs.Packets.{number}
use Rattle.packet.specs.declared.field.Field.{Field}
use Rattle.packet.specs.declared.test.Test.{Test}
use Rattle.header.specs.Cells.{Cell, hits_all, agrees_all, covers_all, well_made}
use Rattle.header.specs.Laws.{Kind}

-- patterns P with cells C
pub record Layout (P C : Type 0) : Type 0 where
  -- what a pattern says of each field
  pub at : P → Field → C
  -- the pattern that asks nothing, and the one that asks what either of two does
  pub all : P
  pub join : P → P → P
  -- the tests that the kind carries, the cell of a test in its own field, and the pattern of a test
  pub carried : Test → Bool
  pub own : Test → C
  pub pattern : Test → P

-- the kind, field by field: hit where each number is taken, met where all cells agree, covered where all cells are
abbrev pub kind_of : {P C : Type 0} → Cell C → Layout P C → Kind P
kind_of cell layout =
    record {
      made = λ p. well_made cell (layout.at p);
      carried = layout.carried;
      pattern = layout.pattern;
      all = layout.all;
      hit = λ p k. hits_all cell (layout.at p) (number k);
      meeting = λ p q. cond (agrees_all cell (layout.at p) (layout.at q)) (Some (layout.join p q)) None;
      covering = λ p q. covers_all cell (layout.at p) (layout.at q);
    }
