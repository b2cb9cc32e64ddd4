-- What is left of the text, read on from the place and the state so far, gives what the text gives.
use Rattle.std.proofs.Common.{◌≡◌, ◌+◌, ◌-◌, ◌≤◌, length, drop}
use Rattle.text.specs.Text.{read_on, tokens, read_text}
use Rattle.text.proofs.reader.nodes_of.Given as goal

abbrev pub invariant-loop-class : goal.invariant-loop-class
invariant-loop-class l = record {
  within : l.place.byte ≤ length l.text;
  lines : l.place.line ≤ l.place.byte + 1;
  reads : read_on l.place.line l.place.byte l.state (tokens (drop l.place.byte l.text)) ≡ read_text l.text;
}

abbrev pub decreases-loop-class : goal.decreases-loop-class
decreases-loop-class l = length l.text - l.place.byte
