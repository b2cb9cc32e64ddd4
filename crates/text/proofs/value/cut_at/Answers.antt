-- The word is cut where the mark first stands.
use Rattle.std.proofs.Common.{◌≡◌, eqb, sym, ap, ◌∙◌, rules, tests}
use Rattle.std.specs.List.{position}
use Rattle.std.specs.Option.{option_map}
use Rattle.std.proofs.lemmas.List.{take_rest}
use Rattle.std.proofs.lemmas.Iterator.{YieldsList-from_slice}
use Rattle.std.proofs.lemmas.Iterator.Search.{position_from_yields_List}
use Rattle.text.specs.Cuts.{map_cut}
use Rattle.text.proofs.Cutting.{cut_first, sides}
use Rattle.text.proofs.value.cut_at.Goals as goal

pub returns-in_err-at : goal.returns-in_err-at
returns-in_err-at c =
    let e : c.position.result ≡ position (λ b. eqb b c.args.mark) c.args.word.now =
    position_from_yields_List (λ b. eqb b c.args.mark) _ _ c.position.result c.position.ensures.ran (YieldsList-from_slice c.args.word.now cc) (λ x b q k. search (rules, tests)) in
    cut_first c.args.mark c.args.word.now ∙ (ap (option_map (sides c.args.word.now)) (sym e ∙ c.in_err-at.was) ∙ sym (ap map_cut c.from_residual.ensures))

pub returns : goal.returns
returns c =
    let e : c.position.result ≡ position (λ b. eqb b c.args.mark) c.args.word.now =
    position_from_yields_List (λ b. eqb b c.args.mark) _ _ c.position.result c.position.ensures.ran (YieldsList-from_slice c.args.word.now cc) (λ x b q k. search (rules, tests)) in
    simp take_rest (cut_first c.args.mark c.args.word.now ∙ ap (option_map (sides c.args.word.now)) (sym e ∙ c.in_ok-at.was))
