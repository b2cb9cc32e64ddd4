-- Each count is what it was and the times that its port has come up.
use Rattle.std.proofs.Common.{◌≡◌, ℕ, ◌+◌, ◌<◌, length, get_or, take}
use Rattle.packet.specs.PortLists.{times}
use Rattle.policy.proofs.evaluator.count_ports.Given as goal

abbrev pub invariant-loop-port : goal.invariant-loop-port
invariant-loop-port l = record {
  whole : length l.counts ≡ 48;
  counted : (n : ℕ) → n < 48 → get_or l.counts n 0 ≡ get_or l.initial.counts n 0 + times (n + 1) (take l.port-index l.port-items);
}
