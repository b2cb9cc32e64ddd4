-- The innermost bracket closes and makes its node; the last one ends the form.
use Rattle.std.proofs.Common.{◌≡◌, [], map, Ok, Err, ap, ◌∙◌, arith}
use Rattle.std.proofs.lemmas.List.{length-map, nil_from_length}
use Rattle.std.proofs.lemmas.Result.{err_from_is_err_and}
use Rattle.policy.specs.Shapes.{shape}
use Rattle.text.specs.Dues.{due_of}
use Rattle.text.specs.Newest.{newest}
use Rattle.text.specs.Steps.{closed}
use Rattle.text.specs.View.{reading}
use Rattle.text.proofs.Exits.{word_handed}
use Rattle.text.proofs.Moves.{close_none, close_no, close_with, closed_inside}
use Rattle.text.proofs.Stack.{length_newest, newest_empty, newest_pop}
use Rattle.text.proofs.state.State.close.Goals as goal

pub returns-in_err-d : goal.returns-in_err-d
returns-in_err-d c =
    let s = c.self.inside in
    let left = c.pop.new.self in
    let none = c.in_err-d.ensures.ok_part in
    let popped = rw none at c.pop.ensures in
    rw (word_handed c.pop.result c.in_err-d.field-0.0 c.from_residual.result none c.in_err-d.ensures.value c.from_residual.ensures.1, ← c.self.view_is) (close_none (reading s) (ap (map due_of) (newest_empty s.brackets left popped).0))

pub returns-in_err-n : goal.returns-in_err-n
returns-in_err-n c =
    let s = c.self.inside in
    let left = c.pop.new.self in
    let popped = rw c.in_ok-d.ensures.ok_part at c.pop.ensures in
    let none = c.in_err-n.ensures.ok_part in
    let held = rw none at c.node_of.ensures in
    rw (word_handed c.node_of.result c.in_err-n.field-0.0 c.from_residual-in_err-n.result none c.in_err-n.ensures.value c.from_residual-in_err-n.ensures.1, ← c.self.view_is) (close_no (reading s) (due_of c.in_ok-d.d) (newest left) (ap (map due_of) (newest_pop s.brackets left c.in_ok-d.d popped)) held)

pub returns-in_err-add_node : goal.returns-in_err-add_node
returns-in_err-add_node c =
    let s = c.self.inside in
    let left = c.pop.new.self in
    let popped = rw c.in_ok-d.ensures.ok_part at c.pop.ensures in
    let made = rw c.in_ok-n.ensures.ok_part at c.node_of.ensures in
    let p = err_from_is_err_and c.from_residual-in_err-add_node.result c.from_residual-in_err-add_node.ensures.1 in
    rw (p.1, p.2, ← c.self.view_is) (close_with (reading s) (due_of c.in_ok-d.d) (newest left) (ap (map due_of) (newest_pop s.brackets left c.in_ok-d.d popped)) (shape c.in_ok-n.n) (Err c.in_err-add_node.field-0.0) made c.in_err-add_node.ensures)

pub returns-then-len-gt0 : goal.returns-then-len-gt0
returns-then-len-gt0 c =
    let s = c.self.inside in
    let left = c.pop.new.self in
    let popped = rw c.in_ok-d.ensures.ok_part at c.pop.ensures in
    let made = rw c.in_ok-n.ensures.ok_part at c.node_of.ensures in
    rw (← c.self.view_is) (close_with (reading s) (due_of c.in_ok-d.d) (newest left) (ap (map due_of) (newest_pop s.brackets left c.in_ok-d.d popped)) (shape c.in_ok-n.n) (Ok (map shape (newest c.add_node.new.nodes))) made c.in_ok-add_node.ensures
    ∙ closed_inside (reading s) (map shape (newest c.add_node.new.nodes)) (map due_of (newest left)) (omega (arith, length-map (newest left) due_of, length_newest left)))

pub end_form-requires : goal.end_form-requires
end_form-requires c = ap (map due_of) (nil_from_length (newest c.pop.new.self) (omega (arith, length_newest c.pop.new.self)))

pub returns : goal.returns
returns c =
    let s = c.self.inside in
    let left = c.pop.new.self in
    let popped = rw c.in_ok-d.ensures.ok_part at c.pop.ensures in
    let made = rw c.in_ok-n.ensures.ok_part at c.node_of.ensures in
    let empty : newest left ≡ [] = nil_from_length _ (omega (arith, length_newest left)) in
    rw (← c.self.view_is) (close_with (reading s) (due_of c.in_ok-d.d) (newest left) (ap (map due_of) (newest_pop s.brackets left c.in_ok-d.d popped)) (shape c.in_ok-n.n) (Ok (map shape (newest c.add_node.new.nodes))) made c.in_ok-add_node.ensures
    ∙ (ap (λ x. closed (reading s) (map shape (newest c.add_node.new.nodes)) (map due_of x)) empty ∙ c.end_form.ensures))
