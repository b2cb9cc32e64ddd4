-- A push onto a list that has room goes through.
use Rattle.std.proofs.Common.{◌≡◌, ℕ, ◌+◌, ◌<◌, ◌≤◌, List, [], ◌∷◌, ◌++◌, length, Ok, Err, Result, ap, ◌∙◌, arith, length-take}
use Rattle.std.proofs.lemmas.List.{length_push}
use Rattle.packet.specs.declared.bounded.Bounded.{Bounded}
use Rattle.packet.specs.declared.bounded.Full.{Full}
use Rattle.packet.specs.Items.{items_of, Pushed}

-- a bounded list has at most as many items as it has room for
pub items_fit : {T : Type 0} {N : ℕ} (b : Bounded T N) → length (items_of b) ≤ N
items_fit b = omega (arith, length-take b.len b.items, b.fits)

pub push_goes : {T U : Type 0} (old new : List T) (item : T) (n : ℕ) (r : Result U Full) → Pushed old item n r new → length old < n → new ≡ old ++ item ∷ []
push_goes old new item n (Ok u) p h = p.1
push_goes old new item n (Err e) p h = absurd (omega (arith, p.0))

pub pushed_length : {T : Type 0} (old new : List T) (item : T) → new ≡ old ++ item ∷ [] → length new ≡ length old + 1
pushed_length old new item e = ap length e ∙ length_push old item
