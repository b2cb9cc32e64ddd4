-- The items of a bounded list, and what its calls do to them.
use Rattle.std.specs.Prelude.{◌≡◌, ℕ, ◌<◌, List, [], ◌∷◌, ◌++◌, length, take, Some, None, Ok, Err, Option, Result}
use Rattle.packet.specs.declared.bounded.Bounded.{Bounded}
use Rattle.packet.specs.declared.bounded.Full.{Full}

-- the items, the oldest first
abbrev pub items_of : {T : Type 0} {N : ℕ} → Bounded T N → List T
items_of b = take b.len b.items

-- a push onto a list of at most n items is refused where there are n, and then the list is as it was
abbrev pub Pushed : {T U : Type 0} → List T → T → ℕ → Result U Full → List T → Type 0
Pushed old item n (Ok u) new = (length old < n) × (new ≡ old ++ item ∷ [])
Pushed old item n (Err e) new = (length old ≡ n) × (new ≡ old)

-- the newest item is taken off, and there is none only where the list is empty
abbrev pub Popped : {T : Type 0} → List T → Option T → List T → Type 0
Popped old (Some item) new = old ≡ new ++ item ∷ []
Popped old None new = (old ≡ []) × (new ≡ [])
