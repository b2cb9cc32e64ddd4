-- A place less the lines and the bytes before the file.
use Rattle.std.proofs.Common.{◌≡◌, vec_items, rules, arith}
use Rattle.std.proofs.lemmas.Grind.{common_steps}
use Rattle.console.specs.Texts.{start_of}
use Rattle.console.proofs.Placing.{read_at}
use Rattle.console.proofs.sources.Sources.in_file.Goals as goal

pub returns : goal.returns
returns c = λ k at.
    let start : c.map_or-start.result ≡ start_of c.args.self.now k = read_at (λ f. f.start) 0 (vec_items c.args.self.now.files) k c.args.file c.map_or-start.result at (search rules) in
    grind (start, arith, common_steps)
