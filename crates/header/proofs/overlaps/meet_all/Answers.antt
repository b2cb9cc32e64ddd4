-- The fold answers the meet of all patterns, and the laws say what that leaves.
use Rattle.std.proofs.Common.{◌≡◌, rules, Some, sym, ap, ◌∙◌, subst}
use Rattle.header.proofs.Overlapping.{leaves_each}
use Rattle.header.proofs.Tried.{try_fold_meets}
use Rattle.header.specs.Overlaps.{met_each, hits_each, Leaves}
use Rattle.header.proofs.overlaps.meet_all.Goals as goal

pub returns : goal.returns
returns g c =
    let kind = g.K.HeaderKind.kind in
    let ps = c.args.patterns.now in
    let is : c.try_fold.result ≡ met_each kind (Some kind.all) ps =
    try_fold_meets kind ps _ _ _ _ c.try_fold.ensures.ran (cc) (λ m x o q h. search rules) ∙ ap (λ p. met_each kind (Some p) ps) c.all.ensures in
    record { is = is; leaves = λ made. subst (Leaves kind (hits_each kind ps)) (sym is) (leaves_each kind g.met.K.HeaderKind.keeps ps made) }
