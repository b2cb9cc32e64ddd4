-- What the evaluator's walk holds for a node's parts, and at the end.
use Rattle.std.proofs.Common.{◌≡◌, ℕ, Some, arith}
use Rattle.std.proofs.lemmas.Grind.{common_steps}
use Rattle.packet.specs.declared.packet.Packet.{Packet}
use Rattle.policy.specs.declared.evaluator.Walk.{Walk}
use Rattle.policy.specs.Shapes.{Shape}
use Rattle.policy.specs.Trees.{Untaken, add}
use Rattle.policy.specs.Walks.{HasParts, StandsFor}

-- where a node finds its parts, the walk holds what stands for them
pub has : (n : Shape) {ts us : Untaken} {s : ℕ} {k : Packet} {w : Walk} → StandsFor ts s k w → add n ts ≡ Some us → HasParts n w
has n h e = grind (arith, common_steps)
