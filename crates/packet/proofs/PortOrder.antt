-- One port more keeps a list of ports rising, and raises its own count alone.
use Rattle.std.proofs.Common.{◌≡◌, ℕ, zero, suc, ◌+◌, ◌<◌, ◌≤◌, min, max, true, leb, List, [], ◌∷◌, length, get_or, refl, ap, ◌∙◌, arith}
use Rattle.std.proofs.lemmas.Bool.{and_from, and_parts, le-leb, leb-true}
use Rattle.std.proofs.lemmas.Bool.Decides.{nat_tests}
use Rattle.packet.specs.PortLists.{placed, times, rising_within}

pub length_placed : (x : ℕ) (ys : List ℕ) → length (placed x ys) ≡ length ys + 1
length_placed x [] = refl
length_placed x (y ∷ ys) = ap suc (length_placed (max y x) ys) ∙ omega arith

pub times_placed : (p x : ℕ) (ys : List ℕ) → times p (placed x ys) ≡ times p (x ∷ ys)
times_placed p x [] = refl
times_placed p x (y ∷ ys) = let rest = times_placed p (max y x) ys in grind (arith, nat_tests)

rises : (low high x : ℕ) (xs : List ℕ) → low ≤ x → x ≤ high → rising_within x high xs ≡ true → rising_within low high (x ∷ xs) ≡ true
rises low high x xs le ge f = and_from _ (rising_within x high xs) (and_from (leb low x) (leb x high) (le-leb low x le) (le-leb x high ge)) f

pub rose : (low high x : ℕ) (xs : List ℕ) → rising_within low high (x ∷ xs) ≡ true → (low ≤ x) × (x ≤ high) × (rising_within x high xs ≡ true)
rose low high x xs f =
    let parts = and_parts _ (rising_within x high xs) f in
    let here = and_parts (leb low x) (leb x high) parts.0 in
    (leb-true low x here.0, leb-true x high here.1, parts.1)

from_lower : (low from high : ℕ) (xs : List ℕ) → low ≤ from → rising_within from high xs ≡ true → rising_within low high xs ≡ true
from_lower low from high [] le f = refl
from_lower low from high (x ∷ xs) le f = let r = rose from high x xs f in rises low high x xs (omega arith) r.1 r.2

pub placed_rises : (low high x : ℕ) (ys : List ℕ) → low ≤ x → x ≤ high → rising_within low high ys ≡ true → rising_within low high (placed x ys) ≡ true
placed_rises low high x [] le ge f = rises low high x [] le ge refl
placed_rises low high x (y ∷ ys) le ge f =
    let r = rose low high y ys f in
    rises low high (min y x) (placed (max y x) ys) (omega arith) (omega arith)
    (placed_rises (min y x) high (max y x) ys (omega arith) (omega arith) (from_lower (min y x) y high ys (omega arith) r.2))

-- each port of a list stands within the bounds
pub each_within : (low high : ℕ) (xs : List ℕ) → rising_within low high xs ≡ true → (i : ℕ) → i < length xs → (low ≤ get_or xs i 0) × (get_or xs i 0 ≤ high)
each_within low high [] f i h = absurd (omega arith)
each_within low high (x ∷ xs) f zero h = let r = rose low high x xs f in (r.0, r.1)
each_within low high (x ∷ xs) f (suc i) h =
    let r = rose low high x xs f in
    let later = each_within x high xs r.2 i (omega arith) in
    (omega arith, later.1)
