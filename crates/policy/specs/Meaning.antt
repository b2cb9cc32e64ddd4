-- What predicates and policies mean, at a switch number and for a packet.
use Rattle.std.specs.Prelude.{◌≡◌, ℕ, ◌+◌, ◌<◌, Bool, true, cond, not as negated, ◌&&◌, ◌||◌, List, length, ◌==◌, slice_index}
use Rattle.packet.specs.PortLists.{times}
use Rattle.packet.specs.Tests.{true_of}
use Rattle.packet.specs.declared.packet.Packet.{Packet}
use Rattle.policy.specs.Trees.{Pred, Pol}
use Rattle.policy.specs.Trees.Pred.{any, at, test, and, or, not}
use Rattle.policy.specs.Trees.Pol.{send, both, keep}

abbrev pub is_true : Pred → ℕ → Packet → Bool
is_true any s k = true
is_true (at n) s k = n == s
is_true (test t) s k = true_of t k
is_true (and a b) s k = is_true a s k && is_true b s k
is_true (or a b) s k = is_true a s k || is_true b s k
is_true (not a) s k = negated (is_true a s k)

-- how many copies go out of port n
abbrev pub copies : Pol → ℕ → Packet → ℕ → ℕ
copies (send a ports) s k n = cond (is_true a s k) (times n ports) 0
copies (both a b) s k n = copies a s k n + copies b s k n
copies (keep a b) s k n = cond (is_true a s k) (copies b s k n) 0

-- 48 counts, one a port, port 1 first
abbrev pub Counts : Pol → ℕ → Packet → List ℕ → Type 0
Counts q s k counts = (length counts ≡ 48) × ((n : ℕ) → n < 48 → slice_index counts n ≡ copies q s k (n + 1))
