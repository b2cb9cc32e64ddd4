-- The file is the last that begins at the place or before.
use Rattle.std.proofs.Common.{◌≡◌, vec_items, rules, tests, sym, ap, ◌∙◌, subst}
use Rattle.std.specs.Iterator.Runs.{ItemsMapToReversed}
use Rattle.console.specs.Texts.{FileAt, LastBegun, starts_of}
use Rattle.console.proofs.Placing.{last_begun}
use Rattle.console.proofs.sources.Sources.file_of.Goals as goal

pub returns : goal.returns
returns c =
    let s = c.args.self.now in
    let byte = c.args.place.now.byte in
    let run = c.rfind.ensures.runs in
    let xs : c.iter.result.rest.now ≡ vec_items s.files = c.iter.ensures.rest ∙ c.deref.ensures.value in
    let back = subst (λ l. ItemsMapToReversed run.0 (λ y. y.now) l) (ap (λ i. i.rest.now) run.1 ∙ xs) (c.iter.ensures.runs_back run.0 run.0.seen) in
    subst (λ o. (k : _) × LastBegun (starts_of s) byte k × FileAt s k o) (sym c.or.ensures)
    (last_begun _ _ (λ f. f.start) byte (vec_items s.files) run.0 back (λ a r q k. search rules) (λ y k. search (rules, tests)) (λ y k. search (rules, tests)) _ _ (rw c.deref-2.ensures.value at c.first.ensures.value) run.2)
