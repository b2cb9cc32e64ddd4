-- Each item reads on; a fault has the place of its item.
use Rattle.std.proofs.Common.{drop, Err, sym, ap, ◌∙◌, arith, rules, tests}
use Rattle.std.proofs.lemmas.Result.{err_from_is_err_and}
use Rattle.text.specs.View.{made_of}
use Rattle.text.specs.Text.{read_on, read_text, tokens}
use Rattle.text.proofs.Goes.{placed, one_line, inside, item_read, item_refused}
use Rattle.text.proofs.reader.nodes_of.Goals as goal

pub loop-class-init : goal.loop-class-init
unfolding read_text
loop-class-init c = record { within = omega arith; lines = omega arith; reads = ap (λ s. read_on 1 0 s (tokens c.args.text.now)) c.new-state.ensures }

pub returns-in_err-map_err : goal.returns-in_err-map_err
returns-in_err-map_err c =
    let at = c.loop-class.place in
    let is = placed at.line at.byte c.take.result c.map_err.result _ c.map_err.ensures.cases (λ e f h. search (rules, tests)) in
    let p = err_from_is_err_and c.from_residual.result c.from_residual.ensures.1 in
    let refused = item_refused c.args.text.now at.byte c.in-Some.class c.in-Some.item.now c.in-Some.ensures at.line c.loop-class.state c.take.new.self
    c.take.result c.take.ensures c.in_err-map_err.field-0.0 (sym is ∙ c.in_err-map_err.was) in
    ap made_of (p.1 ∙ ap Err p.2) ∙ (sym refused ∙ c.loop-class.invariant.reads)

pub loop-class-preserved : goal.loop-class-preserved
loop-class-preserved c =
    let at = c.loop-class.place in
    let w = c.in-Some.item.now in
    let ends = inside c.args.text.now at.byte c.in-Some.class w c.in-Some.ensures in
    let is = placed at.line at.byte c.take.result c.map_err.result _ c.map_err.ensures.cases (λ e f h. search (rules, tests)) in
    let read = item_read c.args.text.now at.byte c.in-Some.class w c.in-Some.ensures at.line c.loop-class.state c.take.new.self
    c.take.result c.take.ensures c.in_ok-map_err.field-0 (sym is ∙ c.in_ok-map_err.was) in record {
      within = omega (arith, ap (λ p. p.byte) c.past-place.ensures, ends);
      lines = omega (arith, ap (λ p. p.byte) c.past-place.ensures, ap (λ p. p.line) c.past-place.ensures, one_line w, ends, c.loop-class.invariant.lines);
      reads = ap (λ p. read_on p.line p.byte c.take.new.self (tokens (drop p.byte c.args.text.now))) c.past-place.ensures ∙ (sym read ∙ c.loop-class.invariant.reads);
    }
