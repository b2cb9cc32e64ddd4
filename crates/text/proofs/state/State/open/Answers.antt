-- A bracket opens a line's form, or a part that is due.
use Rattle.std.proofs.Common.{◌≡◌, ℕ, ◌∷◌, map, length, Some, Ok, Err, Result, sym, ap, ◌∙◌, arith}
use Rattle.std.specs.Result.{result_or}
use Rattle.packet.specs.Items.{items_of, Pushed}
use Rattle.packet.specs.declared.bounded.Bounded.{Bounded}
use Rattle.packet.specs.declared.bounded.Full.{Full}
use Rattle.packet.specs.declared.fault.ReaderCause.TheVariants.{Depth}
use Rattle.policy.specs.declared.node.Kind.TheVariants.{Policy}
use Rattle.text.specs.Dues.{due_of}
use Rattle.text.specs.Dues.Due.{d_head}
use Rattle.text.specs.Steps.{Reading, answered, opening, part_due, with_brackets}
use Rattle.text.specs.Newest.{newest}
use Rattle.text.specs.View.{reading, owed}
use Rattle.text.specs.declared.due.Due.{Due}
use Rattle.text.specs.declared.due.Due.TheVariants.{Head}
use Rattle.text.specs.declared.due.Part.{Part}
use Rattle.text.proofs.Exits.{word_handed}
use Rattle.text.proofs.Moves.{open_formed, open_form, open_no, open_deep, open_into}
use Rattle.text.proofs.Stack.{length_newest, newest_empty, newest_one, newest_pop, newest_push, room_below}
use Rattle.text.proofs.state.State.open.Goals as goal

pub returns-then-self : goal.returns-then-self
returns-then-self c =
    let s = c.self.inside in
    rw (← c.self.view_is) (open_formed (reading s) (ap (map due_of) (newest_empty s.brackets c.pop.new.self c.in_default.ensures).0) c.if-self.true)

pub returns-in_default : goal.returns-in_default
returns-in_default c =
    let s = c.self.inside in
    let left = c.pop.new.self in
    let new = c.push.new.self in
    let none = newest_empty s.brackets left c.in_default.ensures in
    let put : newest new ≡ Head Policy ∷ newest left = newest_push left new (Head Policy) c.push.result c.push.ensures (omega (arith, ap length c.in_default.ensures.1)) in
    rw (← c.self.view_is) (open_form (reading s) (ap (map due_of) none.0) (map due_of (newest new)) c.if-self.false (ap (map due_of) put ∙ ap (λ x. d_head Policy ∷ map due_of x) none.1))

pub returns-in_err-part : goal.returns-in_err-part
returns-in_err-part c =
    let s = c.self.inside in
    let left = c.pop.new.self in
    let none = c.in_err-part.ensures.ok_part in
    let due = rw none at c.part_of.ensures in
    rw (word_handed c.part_of.result c.in_err-part.field-0.0 c.from_residual.result none c.in_err-part.ensures.value c.from_residual.ensures.1, ← c.self.view_is) (open_no (reading s) (due_of c.in-Some.d) (newest left) (ap (map due_of) (newest_pop s.brackets left c.in-Some.d c.in-Some.ensures)) due)

-- what is due inside goes on what is due after it, unless 16 brackets are open
opens : {N : ℕ} → N ≡ 16 → (s : Reading) (left once twice : Bounded Due N) (d : Due) (next : Part) (r : Result (Unit {0}) Full) → s.brackets ≡ map due_of (d ∷ newest left) → part_due (due_of d) ≡ Some (owed next) → newest once ≡ next.after ∷ newest left → Pushed (items_of once) (Head next.kind) N r (items_of twice) → opening s ≡ answered (result_or r (Err Depth)) (with_brackets s (map due_of (newest twice)))
opens sixteen s left once twice d next (Ok u) top due first p =
    let second : newest twice ≡ Head next.kind ∷ newest once = newest_one once twice (Head next.kind) p.1 in
    open_into s (due_of d) (newest left) top (owed next) (map due_of (newest twice)) due
    (omega (arith, length_newest once, ap length first, p.0))
    (ap (map due_of) second ∙ ap (λ x. d_head next.kind ∷ map due_of x) first)
opens sixteen s left once twice d next (Err e) top due first p =
    open_deep s (due_of d) (newest left) top (owed next) due
    (omega (arith, length_newest once, ap length first, p.0))

pub returns : goal.returns
returns c =
    let s = c.self.inside in
    let left = c.pop.new.self in
    let once = c.push-2.new.self in
    let twice = c.push-3.new.self in
    let next = c.in_ok-part.part in
    let due = rw c.in_ok-part.ensures.ok_part at c.part_of.ensures in
    let first = newest_push left once next.after c.push-2.result c.push-2.ensures (room_below s.brackets left c.in-Some.d c.in-Some.ensures) in
    rw (← c.self.view_is) (opens (omega arith) (reading s) left once twice c.in-Some.d next c.push-3.result (ap (map due_of) (newest_pop s.brackets left c.in-Some.d c.in-Some.ensures)) due first c.push-3.ensures
    ∙ ap (λ r. answered r (with_brackets (reading s) (map due_of (newest twice)))) (sym c.or.ensures))
