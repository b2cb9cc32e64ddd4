-- A bounded list as a stack.
use Rattle.std.specs.Prelude.{ℕ, List, reverse}
use Rattle.packet.specs.Items.{items_of}
use Rattle.packet.specs.declared.bounded.Bounded.{Bounded}

-- the items, the newest first
unfoldable pub newest : {T : Type 0} {N : ℕ} → Bounded T N → List T
newest b = reverse (items_of b)
