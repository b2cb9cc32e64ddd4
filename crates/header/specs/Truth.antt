-- Truth values by when they are true.
use Rattle.std.specs.Prelude.{◌≡◌, Bool, true, false, ◌&&◌, ◌≢◌, refl}
use Rattle.std.proofs.Common.{sym}
use Rattle.std.proofs.lemmas.Bool.{and_parts, false_from_ne_true}

pub same_truth : (x y : Bool) → (x ≡ true → y ≡ true) → (y ≡ true → x ≡ true) → x ≡ y
same_truth true y there back = sym (there refl)
same_truth false true there back = back refl
same_truth false false there back = refl

pub and_true : (x y : Bool) → (x ≡ true → y ≢ true) → (x && y) ≡ false
and_true x y h = false_from_ne_true (x && y) (λ e. let parts = and_parts x y e in h parts.0 parts.1)
