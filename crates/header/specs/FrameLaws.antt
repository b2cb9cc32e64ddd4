-- The frame kind keeps the four laws.
use Rattle.std.specs.Prelude.{◌≡◌, ℕ, ◌-◌, true, Option, ◌==◌, refl}
use Rattle.std.proofs.Common.{sym, arith}
use Rattle.std.proofs.lemmas.Bool.{and_parts, eqb-true, eq-eqb}
use Rattle.packet.proofs.Every.{same_row}
use Rattle.packet.specs.Fields.{width}
use Rattle.packet.specs.Tests.{first_bits}
use Rattle.packet.specs.declared.field.Field.{Field}
use Rattle.packet.specs.declared.test.Test.{Test}
use Rattle.header.specs.Exact.{exact_laws}
use Rattle.header.specs.KindLaws.{Laid, kind_laws}
use Rattle.header.specs.Truth.{same_truth}
use Rattle.header.specs.Frames.{exact, frames, frame_kind, at, of_cells, carried}
use Rattle.header.specs.Laws.{Laws}

at_of_cells : (c : Field → Option ℕ) → at (of_cells c) ≡ c
at_of_cells c = same_row (at (of_cells c)) c refl refl refl refl refl refl refl refl

-- a test of full length leaves no bit out
all_bits : (t : Test) → carried t ≡ true → (x : ℕ) → first_bits t.field t.length x ≡ x
all_bits t h x = let e : width t.field - t.length ≡ 0 = omega (arith, eqb-true t.length (width t.field) h) in rw e (omega arith)

eqb_sym : (x y : ℕ) → (x == y) ≡ (y == x)
eqb_sym x y = same_truth _ _ (λ h. eq-eqb y x (sym (eqb-true x y h))) (λ h. eq-eqb x y (sym (eqb-true y x h)))

pub laid : Laid exact frames
laid =
    record {
      all_cells = at_of_cells _;
      join_cells = λ p q. at_of_cells _;
      pattern_cells = λ t h. at_of_cells _;
      own_sized = λ t h. (and_parts _ _ t.fit).0;
      own_takes = λ t h x small. rw (all_bits t h x, all_bits t h t.value) (eqb_sym t.value x);
    }

pub frame_laws : Laws frame_kind
frame_laws = kind_laws exact frames exact_laws laid
