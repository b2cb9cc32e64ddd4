-- The frame kind: a pattern states some fields' whole numbers.
use Rattle.std.specs.Prelude.{ℕ, Bool, true, false, get_or, map, Some, None, Option, ◌==◌}
use Rattle.packet.specs.Fields.{allowed, fields, place, way, width}
use Rattle.packet.specs.declared.field.Field.{Field}
use Rattle.packet.specs.declared.test.Test.{Test}
use Rattle.header.specs.Cells.{Cell, both_all, test_cells}
use Rattle.header.specs.Laws.{Kind}
use Rattle.header.specs.Layouts.{Layout, kind_of}
use Rattle.header.specs.declared.frame.FramePattern.{FramePattern}

-- a number that is stated, or none
abbrev pub stated : Option ℕ → Bool
stated None = false
stated (Some v) = true

abbrev pub sized : Field → Option ℕ → Bool
sized f None = true
sized f (Some v) = allowed f v

abbrev pub fixes : Option ℕ → ℕ → Bool
fixes None x = false
fixes (Some v) x = v == x

abbrev pub takes : Option ℕ → ℕ → Bool
takes None x = true
takes (Some v) x = v == x

abbrev pub agree : Option ℕ → Option ℕ → Bool
agree None d = true
agree (Some v) d = takes d v

abbrev pub either : Option ℕ → Option ℕ → Option ℕ
either None d = d
either (Some v) d = Some v

abbrev pub covers : Option ℕ → Option ℕ → Bool
covers None d = true
covers (Some v) d = fixes d v

abbrev pub exact : Cell (Option ℕ)
exact =
    record {
      blank = None;
      full = λ f v. Some v;
      sized = sized;
      stated = stated;
      fixes = λ f. fixes;
      takes = λ f. takes;
      agree = λ f. agree;
      both = λ f. either;
      covers = λ f. covers;
    }

-- a pattern by what it states of each field, and back
abbrev pub at : FramePattern → Field → Option ℕ
at p f = get_or p.cells (place f) None

abbrev pub of_cells : (Field → Option ℕ) → FramePattern
of_cells c = record { cells = map c fields }

-- tests of full length are carried
abbrev pub carried : Test → Bool
carried t = t.length == width t.field

abbrev pub own : Test → Option ℕ
own t = Some t.value

-- the pattern of a test states its value, and what its field needs to exist; the join states what either does
abbrev pub frames : Layout FramePattern (Option ℕ)
frames =
    record {
      at = at;
      all = of_cells (λ f. None);
      join = λ p q. of_cells (both_all exact (at p) (at q));
      carried = carried;
      own = own;
      pattern = λ t. of_cells (test_cells exact (way t.field) t.field (own t));
    }

abbrev pub frame_kind : Kind FramePattern
frame_kind = kind_of exact frames
