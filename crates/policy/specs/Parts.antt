-- The parts of each node, by number: parts are numbered below their node, each node but the root
-- belongs to one node, and the kinds of the parts are right.
use Rattle.std.specs.Prelude.{◌≡◌, ℕ, ◌+◌, ◌-◌, ◌<◌, List, [], ◌∷◌, map, reverse, length, take, drop, slice_index_or}
use Rattle.policy.specs.declared.node.Kind.{Kind}
use Rattle.policy.specs.declared.node.Kind.TheVariants.{Policy}
use Rattle.policy.specs.Shapes.{Shape}
use Rattle.policy.specs.Shapes.Shape.{n_any}
use Rattle.policy.specs.Kinds.{kind_of, wanted}
use Rattle.packet.specs.PortLists.{times}

abbrev pub arity : Shape → ℕ
arity n = length (wanted n)

-- A node takes the newest of the untaken numbers and is itself untaken. The nodes are numbered from i,
-- and the numbers stand newest first.
abbrev pub left_after : List Shape → ℕ → List ℕ → List ℕ
left_after [] i free = free
left_after (n ∷ ns) i free = left_after ns (i + 1) (i ∷ drop (arity n) free)

abbrev pub parts_from : List Shape → ℕ → List ℕ → List (List ℕ)
parts_from [] i free = []
parts_from (n ∷ ns) i free = take (arity n) free ∷ parts_from ns (i + 1) (i ∷ drop (arity n) free)

abbrev pub parts_of : List Shape → List (List ℕ)
parts_of ns = parts_from ns 0 []

-- how many nodes j belongs to
abbrev pub owners : ℕ → List (List ℕ) → ℕ
owners j [] = 0
owners j (ps ∷ pss) = times j ps + owners j pss

abbrev pub kinds_at : List Shape → List ℕ → List Kind
kinds_at ns js = map (λ j. kind_of (slice_index_or ns j n_any)) js

-- parts are numbered below their node
abbrev pub Below : List Shape → Type 0
Below ns = (i j : ℕ) → i < length ns → 0 < times j (slice_index_or (parts_of ns) i []) → j < i

-- each node below the last belongs to one node
abbrev pub Once : List Shape → Type 0
Once ns = (j : ℕ) → j + 1 < length ns → owners j (parts_of ns) ≡ 1

-- the kinds of each node's parts are those that it wants, here the newest first
abbrev pub RightKinds : List Shape → Type 0
RightKinds ns = map (kinds_at ns) (parts_of ns) ≡ map (λ n. reverse (wanted n)) ns

-- the last belongs to none, and is a policy
abbrev pub Rooted : List Shape → Type 0
Rooted ns = (owners (length ns - 1) (parts_of ns) ≡ 0) × (kind_of (slice_index_or ns (length ns - 1) n_any) ≡ Policy)

pub record PartsRight (ns : List Shape) : Type 0 where
  pub below : Below ns
  pub once : Once ns
  pub kinds : RightKinds ns
  pub root : Rooted ns
