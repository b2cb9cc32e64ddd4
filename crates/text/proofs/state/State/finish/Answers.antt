-- At the end of a text no bracket is open; a text without forms has no nodes.
use Rattle.std.proofs.Common.{map, Ok, sym, ap, ◌∙◌, arith}
use Rattle.std.proofs.lemmas.List.{length-map, nil_from_length}
use Rattle.policy.specs.Shapes.{shape}
use Rattle.text.specs.Dues.{due_of}
use Rattle.text.specs.Newest.{newest}
use Rattle.text.specs.View.{reading, made_of}
use Rattle.text.proofs.Goes.{finish_inside, finish_outside}
use Rattle.text.proofs.Stack.{length_newest, oldest_first}
use Rattle.text.proofs.state.State.finish.Goals as goal

pub returns-then-len-gt0 : goal.returns-then-len-gt0
returns-then-len-gt0 c =
    let s = c.self.inside in
    rw (← c.self.view_is) (finish_inside (reading s) (omega (arith, length-map (newest s.brackets) due_of, length_newest s.brackets)))

pub returns : goal.returns
returns c =
    let s = c.self.inside in
    rw (← c.self.view_is) (finish_outside (reading s) s.nodes (ap (map due_of) (nil_from_length (newest s.brackets) (omega (arith, length_newest s.brackets)))) (oldest_first shape s.nodes)
    ∙ ap (λ o. made_of (Ok o)) (sym c.then_some.ensures))
