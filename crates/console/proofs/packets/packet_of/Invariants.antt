-- The numbers so far are those that the words so far give.
use Rattle.std.specs.Str.Iter.{split_whitespace_rest}
use Rattle.console.proofs.Typing.{Sofar}
use Rattle.console.proofs.packets.packet_of.Given as goal

abbrev pub invariant-loop-word : goal.invariant-loop-word
invariant-loop-word l = Sofar l.words (split_whitespace_rest l.word-iterator) l.typed
