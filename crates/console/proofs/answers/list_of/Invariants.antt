-- What is listed, with the ports that are left, is the whole list.
use Rattle.std.proofs.Common.{◌≡◌, ◌+◌, ◌++◌, length, string_bytes}
use Rattle.std.specs.Iterator.Adapters.{zip_first, zip_second}
use Rattle.std.specs.Slice.Iter.{iter_rest}
use Rattle.console.specs.Lines.{listed}
use Rattle.console.proofs.answers.list_of.Given as goal

abbrev pub invariant-loop-count : goal.invariant-loop-count
invariant-loop-count l = record {
  whole : string_bytes l.list ++ listed (zip_second l.count-iterator).start (iter_rest (zip_first l.count-iterator)) ≡ listed 1 l.counts;
  left : (zip_second l.count-iterator).start + length (iter_rest (zip_first l.count-iterator)) ≡ 1 + length l.counts;
}
