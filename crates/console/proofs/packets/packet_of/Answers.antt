-- The words so far are described turn by turn, to the packet or to the word that is wrong.
use Rattle.std.proofs.Common.{None, refl, ap, ◌∙◌, rules}
use Rattle.std.proofs.lemmas.Result.{err_from_is_err_and}
use Rattle.std.specs.Str.Iter.{split_whitespace_rest}
use Rattle.packet.specs.Fields.{in_order}
use Rattle.console.proofs.Typing.{first_of, no_words, one_more, described, wrong_word, packet_told, mapped, or_zero}
use Rattle.console.proofs.packets.packet_of.Goals as goal

pub loop-word-init : goal.loop-word-init
loop-word-init c = no_words _ _ _ refl (ap split_whitespace_rest c.into_iter-word-iterator.ensures.into_iter_gives ∙ c.split_whitespace-word-items.ensures.rest)

pub loop-word-preserved : goal.loop-word-preserved
loop-word-preserved c =
    let first = first_of _ c.in-Some.word.now _ c.in-Some.ensures.steps in
    one_more c.loop-word.invariant first (rw c.in-Some.word-is at c.in_ok-add.ensures)

pub returns-in_err-add : goal.returns-in_err-add
returns-in_err-add c =
    let first = first_of _ c.in-Some.word.now _ c.in-Some.ensures.steps in
    let none = rw c.in-Some.word-is at c.in_err-add.ensures in
    let p = err_from_is_err_and c.from_residual.result c.from_residual.ensures.1 in
    rw (p.1, p.2) (wrong_word c.loop-word.invariant first _ none)

pub returns : goal.returns
returns c =
    let text = c.args.words.now in
    let typed = c.loop-word.typed in
    let all = mapped _ or_zero _ typed.numbers c.map-numbers.result _ None c.map-numbers.ensures.items c.loop-word.invariant.eight (λ p x y q k. search rules) in
    packet_told _ text _ c.new.result c.map_err.result c.new.ensures (described c.loop-word.invariant c.in-None.ensures.steps.1 (ap in_order all)) c.map_err.ensures.cases (λ e f post. search rules)
