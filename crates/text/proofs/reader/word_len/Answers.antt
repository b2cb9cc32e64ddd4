-- The bytes that are taken are the run at the front.
use Rattle.std.proofs.Common.{◌∙◌, rules, tests}
use Rattle.std.proofs.lemmas.Iterator.{YieldsList-from_slice}
use Rattle.std.proofs.lemmas.Iterator.Consumers.{YieldsList-at, count_from_yields_List}
use Rattle.std.proofs.lemmas.Iterator.Search.{YieldsList-from_take_while}
use Rattle.std.proofs.lemmas.List.Folds.{length-prefix_len}
use Rattle.text.specs.Bytes.{byte_class}
use Rattle.text.specs.Text.{in_word}
use Rattle.text.proofs.Runs.{run_prefix}
use Rattle.text.proofs.reader.word_len.Goals as goal

pub returns : goal.returns
returns c =
    count_from_yields_List c.take_while.result c.count.result c.count.ensures.ran
    (YieldsList-from_take_while _ (λ b. in_word (byte_class b)) (YieldsList-at c.take_while.ensures.source (YieldsList-from_slice c.args.text.now cc))
    c.take_while.ensures.closure c.take_while.ensures.done (λ x b q k. search (rules, tests)))
    ∙ (length-prefix_len (λ b. in_word (byte_class b)) c.args.text.now ∙ run_prefix c.args.text.now)
