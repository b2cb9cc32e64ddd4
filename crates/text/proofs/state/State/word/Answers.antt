-- A word changes what the innermost bracket waits for.
use Rattle.std.proofs.Common.{map, Ok, Err, sym, ap, ◌∙◌}
use Rattle.std.proofs.lemmas.Result.{err_from_is_err_and}
use Rattle.text.specs.Dues.{due_of}
use Rattle.text.specs.Newest.{newest}
use Rattle.text.specs.Steps.{with_brackets}
use Rattle.text.specs.View.{reading}
use Rattle.text.proofs.Exits.{word_handed}
use Rattle.text.proofs.Moves.{word_none, word_with}
use Rattle.text.proofs.Stack.{newest_empty, newest_pop, newest_push, room_below}
use Rattle.text.proofs.state.State.word.Goals as goal

pub returns-in_err-d : goal.returns-in_err-d
returns-in_err-d c =
    let s = c.self.inside in
    let left = c.pop.new.self in
    let none = c.in_err-d.ensures.ok_part in
    let popped = rw none at c.pop.ensures in
    rw (word_handed c.pop.result c.in_err-d.field-0.0 c.from_residual.result none c.in_err-d.ensures.value c.from_residual.ensures.1, ← c.self.view_is) (word_none (reading s) (ap (map due_of) (newest_empty s.brackets left popped).0) _)

pub returns-in_err-next : goal.returns-in_err-next
returns-in_err-next c =
    let s = c.self.inside in
    let left = c.pop.new.self in
    let popped = rw c.in_ok-d.ensures.ok_part at c.pop.ensures in
    let p = err_from_is_err_and c.from_residual-in_err-next.result c.from_residual-in_err-next.ensures.1 in
    rw (p.1, p.2, ← c.self.view_is) (word_with (reading s) (due_of c.in_ok-d.d) (newest left) (ap (map due_of) (newest_pop s.brackets left c.in_ok-d.d popped)) _ (Err c.in_err-next.field-0.0) c.in_err-next.ensures)

pub returns : goal.returns
returns c =
    let s = c.self.inside in
    let left = c.pop.new.self in
    let popped = rw c.in_ok-d.ensures.ok_part at c.pop.ensures in
    let room = room_below s.brackets left c.in_ok-d.d popped in
    rw (← c.self.view_is) (word_with (reading s) (due_of c.in_ok-d.d) (newest left) (ap (map due_of) (newest_pop s.brackets left c.in_ok-d.d popped)) _ _ c.in_ok-next.ensures
    ∙ ap (λ x. Ok (with_brackets (reading s) (map due_of x))) (sym (newest_push left c.push.new.self c.in_ok-next.next c.push.result c.push.ensures room)))
