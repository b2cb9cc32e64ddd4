-- A bounded list as a stack: a push puts its item on top, a pop takes the top off.
use Rattle.std.proofs.Common.{◌≡◌, ℕ, ◌<◌, Result, List, [], ◌∷◌, ◌++◌, map, reverse, length, Some, None, refl, ap, ◌∙◌, arith}
use mathlib.Core.List.{reverse_aux}
use Rattle.std.proofs.lemmas.List.{reverse-append, reverse-reverse, length-reverse}
use Rattle.packet.specs.Items.{items_of, Pushed, Popped}
use Rattle.packet.specs.declared.bounded.Bounded.{Bounded}
use Rattle.packet.specs.declared.bounded.Full.{Full}
use Rattle.packet.proofs.Pushes.{items_fit, push_goes, pushed_length}
use Rattle.text.specs.Newest.{newest}

module _ {T : Type 0} {N : ℕ} where
  pub length_newest : (b : Bounded T N) → length (newest b) ≡ length (items_of b)
  unfolding newest
  length_newest b = length-reverse (items_of b)

  pub newest_none : (b : Bounded T N) → items_of b ≡ [] → newest b ≡ []
  unfolding newest
  newest_none b e = ap reverse e

  pub newest_one : (b d : Bounded T N) (x : T) → items_of d ≡ items_of b ++ x ∷ [] → newest d ≡ x ∷ newest b
  unfolding newest
  newest_one b d x e = ap reverse e ∙ reverse-append (items_of b) (x ∷ [])

  pub newest_push : {U : Type 0} (b d : Bounded T N) (x : T) (r : Result U Full) → Pushed (items_of b) x N r (items_of d) → length (items_of b) < N → newest d ≡ x ∷ newest b
  newest_push b d x r p h = newest_one b d x (push_goes (items_of b) (items_of d) x N r p h)

  pub newest_pop : (b d : Bounded T N) (x : T) → Popped (items_of b) (Some x) (items_of d) → newest b ≡ x ∷ newest d
  newest_pop b d x p = newest_one d b x p

  pub newest_empty : (b d : Bounded T N) → Popped (items_of b) None (items_of d) → (newest b ≡ []) × (newest d ≡ [])
  newest_empty b d p = (newest_none b p.0, newest_none d p.1)

  -- a stack from which something was taken has room
  pub room_below : (b d : Bounded T N) (x : T) → Popped (items_of b) (Some x) (items_of d) → length (items_of d) < N
  room_below b d x p = omega (arith, pushed_length (items_of d) (items_of b) x p, items_fit b)

map_onto : {A B : Type 0} (f : A → B) (xs ys : List A) → map f (reverse_aux xs ys) ≡ reverse_aux (map f xs) (map f ys)
map_onto f [] ys = refl
map_onto f (x ∷ xs) ys = map_onto f xs (x ∷ ys)

-- from the bottom up again
pub oldest_first : {A B : Type 0} {N : ℕ} (f : A → B) (b : Bounded A N) → reverse (map f (newest b)) ≡ map f (items_of b)
unfolding newest
oldest_first f b = ap reverse (map_onto f (items_of b) []) ∙ reverse-reverse (map f (items_of b))
