-- The words that are left lead on from what has been asked so far.
use Rattle.std.proofs.Common.{map, string_bytes}
use Rattle.std.specs.Vec.Iter.{into_iter_items}
use Rattle.console.specs.Commands.{Asked, Stops, TakesAll}
use Rattle.console.proofs.arguments.Options.from_words.Given as goal

abbrev pub invariant-loop-word : goal.invariant-loop-word
invariant-loop-word l =
    ((b : Asked) → TakesAll l.options (map string_bytes (into_iter_items l.word-iterator)) b
    → TakesAll l.initial.options (map string_bytes (into_iter_items l.initial.word-iterator)) b)
    × (Stops l.options (map string_bytes (into_iter_items l.word-iterator)) → Stops l.initial.options (map string_bytes (into_iter_items l.initial.word-iterator)))
