-- A line ends outside brackets only.
use Rattle.std.proofs.Common.{map, ap, arith}
use Rattle.std.proofs.lemmas.List.{nil_from_length, length-map}
use Rattle.text.specs.Dues.{due_of}
use Rattle.text.specs.Newest.{newest}
use Rattle.text.specs.View.{reading}
use Rattle.text.proofs.Moves.{line_inside, line_next}
use Rattle.text.proofs.Stack.{length_newest}
use Rattle.text.proofs.state.State.line_end.Goals as goal

pub returns-then-len-gt0 : goal.returns-then-len-gt0
returns-then-len-gt0 c =
    let s = c.self.inside in
    rw (← c.self.view_is) (line_inside (reading s) (omega (arith, length-map (newest s.brackets) due_of, length_newest s.brackets)))

pub returns : goal.returns
returns c =
    let s = c.self.inside in
    rw (← c.self.view_is) (line_next (reading s) (ap (map due_of) (nil_from_length (newest s.brackets) (omega (arith, length_newest s.brackets)))))
