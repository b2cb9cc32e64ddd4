-- What the walk of the evaluator holds for the trees not yet taken. The lists are oldest first.
use Rattle.std.specs.Prelude.{◌≡◌, ℕ, ◌+◌, ◌≤◌, Bool, true, false, cond, not, List, [], ◌∷◌, ◌++◌, map, length, count_by}
use Rattle.packet.specs.Items.{items_of}
use Rattle.packet.specs.PortLists.{times}
use Rattle.packet.specs.Written.{written}
use Rattle.packet.specs.declared.packet.Packet.{Packet}
use Rattle.policy.specs.declared.evaluator.Walk.{Walk}
use Rattle.policy.specs.declared.node.Kind.{Kind}
use Rattle.policy.specs.declared.node.Kind.TheVariants.{Predicate, Policy}
use Rattle.policy.specs.Kinds.{wanted}
use Rattle.policy.specs.Meaning.{is_true}
use Rattle.policy.specs.Shapes.{Shape}
use Rattle.policy.specs.Trees.{Pol, Untaken}
use Rattle.policy.specs.Trees.Tree.{pred, pol}
use Rattle.policy.specs.Trees.Pol.{send, both, keep}

-- the ports of the sends of a policy that count
abbrev pub gives : Pol → ℕ → Packet → List (List ℕ)
gives (send a ports) s k = cond (is_true a s k) (ports ∷ []) []
gives (both a b) s k = gives a s k ++ gives b s k
gives (keep a b) s k = cond (is_true a s k) (gives b s k) []

abbrev pub truths_of : Untaken → ℕ → Packet → List Bool
truths_of [] s k = []
truths_of (pred p ∷ ts) s k = truths_of ts s k ++ is_true p s k ∷ []
truths_of (pol q ∷ ts) s k = truths_of ts s k

abbrev pub sends_of : Untaken → ℕ → Packet → List (List ℕ)
sends_of [] s k = []
sends_of (pred p ∷ ts) s k = sends_of ts s k
sends_of (pol q ∷ ts) s k = sends_of ts s k ++ gives q s k

-- where, in the sends, those of each policy begin
abbrev pub starts_of : Untaken → ℕ → Packet → List ℕ
starts_of [] s k = []
starts_of (pred p ∷ ts) s k = starts_of ts s k
starts_of (pol q ∷ ts) s k = starts_of ts s k ++ length (sends_of ts s k) ∷ []

pub record Stands (ts : Untaken) (s : ℕ) (k : Packet) (truths : List Bool) (starts : List ℕ) (sends : List (List ℕ)) : Type 0 where
  pub truths_are : truths ≡ truths_of ts s k
  pub starts_are : starts ≡ starts_of ts s k
  pub sends_are : sends ≡ sends_of ts s k

-- the walk of a packet at a switch number stands for these trees
pub record StandsFor (ts : Untaken) (s : ℕ) (k : Packet) (w : Walk) : Type 0 where
  pub switch_is : w.switch ≡ s
  pub packet_is : w.packet.now ≡ k
  pub stands : Stands ts s k (items_of w.truths) (items_of w.starts) (map written (items_of w.sends))

-- how many truths, starts and sends the walk holds
abbrev pub held : Walk → ℕ
held w = length (items_of w.truths) + length (items_of w.starts) + length (items_of w.sends)

abbrev pub is_predicate : Kind → Bool
is_predicate Predicate = true
is_predicate Policy = false

-- the walk holds a truth for each predicate among a node's parts, and a start for each policy
abbrev pub HasParts : Shape → Walk → Type 0
HasParts n w = (count_by is_predicate (wanted n) ≤ length (items_of w.truths)) × (count_by (λ k. not (is_predicate k)) (wanted n) ≤ length (items_of w.starts))

-- how many copies of port n some sends give
abbrev pub tally : ℕ → List (List ℕ) → ℕ
tally n [] = 0
tally n (p ∷ ps) = times n p + tally n ps
