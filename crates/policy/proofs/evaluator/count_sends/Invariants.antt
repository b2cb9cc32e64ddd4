-- Each count is the tally of the sends so far.
use Rattle.std.proofs.Common.{◌≡◌, ℕ, ◌+◌, ◌<◌, map, get_or, take}
use Rattle.packet.specs.Written.{written}
use Rattle.policy.specs.Walks.{tally}
use Rattle.policy.proofs.evaluator.count_sends.Given as goal

abbrev pub invariant-loop-ports : goal.invariant-loop-ports
invariant-loop-ports l = (n : ℕ) → n < 48 → get_or l.counts n 0 ≡ tally (n + 1) (map written (take l.ports-index l.sends))
