-- The case that the three answers give is how the packets lie.
use Rattle.std.proofs.Common.{◌≡◌, sym, subst}
use Rattle.header.proofs.Overlapping.{compared_lies}
use Rattle.header.specs.Overlaps.{Lies, compared}
use Rattle.header.proofs.overlaps.compare.Goals as goal

pub returns : goal.returns
returns g c =
    let kind = g.K.HeaderKind.kind in
    let p = c.args.first.now in
    let q = c.args.second.now in
    let is : c.of.result ≡ compared kind p q = cc in
    record { is = is; lies = λ mp mq. subst (Lies (kind.hit p) (kind.hit q)) (sym is) (compared_lies kind g.met.K.HeaderKind.keeps p q mp mq) }
