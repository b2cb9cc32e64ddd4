-- A text that is refused writes no policy, and its first fault is told.
use Rattle.std.proofs.Common.{Err, sym, ap, ◌∙◌, rules}
use Rattle.std.proofs.lemmas.Result.{err_from_is_err_and}
use Rattle.console.proofs.Refusing.{refused}
use Rattle.console.proofs.answers.policy_of.Goals as goal

pub returns-in_err-map_err : goal.returns-in_err-map_err
returns-in_err-map_err c =
    let p = err_from_is_err_and c.from_residual.result c.from_residual.ensures.1 in
    rw p.1 (refused _ c.args.sources.now _ c.read.result c.map_err.result _ _ _ c.text.ensures c.read.ensures.answer c.read.ensures.grammar c.map_err.ensures.cases (c.in_err-map_err.was ∙ ap Err (sym p.2)) (λ e post. search rules))
