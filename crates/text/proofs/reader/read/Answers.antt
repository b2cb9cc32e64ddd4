-- The nodes of a text make a policy, so the reader always has one to put into the place; a text without forms is the empty policy.
use Rattle.std.proofs.Common.{◌≡◌, true, List, Some, None, Ok, Option, sym, refl, ap, ◌∙◌, subst}
use mathlib.Core.Bool.{false≢true}
use Rattle.std.proofs.lemmas.Result.{err_from_is_err_and}
use Rattle.std.specs.Option.{IsSome}
use Rattle.packet.specs.declared.fault.Fault.{Fault}
use Rattle.policy.specs.Finishing.{Finished, empty_tree}
use Rattle.policy.specs.Roots.{shapes_of}
use Rattle.policy.specs.Shapes.{Shape}
use Rattle.policy.specs.Trees.{stack_of, only_policy}
use Rattle.policy.specs.declared.policy.Policy.{Policy}
use Rattle.text.specs.Numbered.{numbered}
use Rattle.text.specs.Text.{read_text}
use Rattle.text.specs.View.{made_of, shapes_in}
use Rattle.text.proofs.Answering.{makes_policy, reads_as, refused, writes_nothing}
use Rattle.text.proofs.Leaves.{policy_numbered}
use Rattle.text.proofs.reader.read.Goals as goal

pub returns-in_err-nodes : goal.returns-in_err-nodes
returns-in_err-nodes c =
    let p = err_from_is_err_and c.from_residual.result c.from_residual.ensures.1 in
    let text = c.args.text.now in
    let e = sym c.in_err-nodes.ensures in
    rw (p.1, p.2) (record { answer = refused _ text c.args.place.now e; grammar = writes_nothing _ text e })

-- nodes that leave one policy make it
made : (ns : List Shape) (r : Option Policy) → Finished ns r → only_policy (stack_of ns) ≡ true → IsSome r
made ns None f e = absurd (false≢true (sym f ∙ e))
made ns (Some p) f e = refl

pub unwrap-requires : goal.unwrap-requires
unwrap-requires c =
    let ns = shapes_in c.in-Some.nodes in
    let read : read_text c.args.text.now ≡ Ok ns = sym c.in_ok-nodes.ensures ∙ ap (λ o. made_of {E = Fault} (Ok o)) c.in-Some.is in
    made ns c.from_nodes.result c.from_nodes.ensures (makes_policy c.args.text.now ns read)

pub returns-in-Some-clause-grammar : goal.returns-in-Some-clause-grammar
returns-in-Some-clause-grammar c =
    let ns = shapes_in c.in-Some.nodes in
    let policy = c.unwrap.result in
    let nodes : shapes_of policy ≡ ns = subst (Finished ns) c.unwrap.ensures c.from_nodes.ensures in
    let read : read_text c.args.text.now ≡ Ok ns = sym c.in_ok-nodes.ensures ∙ ap (λ o. made_of {E = Fault} (Ok o)) c.in-Some.is in
    reads_as c.args.text.now policy (read ∙ ap Ok (sym nodes))

pub returns-in-None : goal.returns-in-None
returns-in-None c =
    let policy = c.empty.result in
    let nodes : shapes_of policy ≡ numbered empty_tree = policy_numbered policy ∙ ap numbered c.empty.ensures in
    let read = sym c.in_ok-nodes.ensures ∙ ap (λ o. made_of {E = Fault} (Ok o)) c.in-None.is ∙ ap Ok (sym nodes) in
    record { answer = read; grammar = reads_as c.args.text.now policy read }
