-- A test whose parts fit is the one that they make.
use Rattle.std.proofs.Common.{◌≡◌, ℕ, Bool, true, false, Some, None, sym, refl, ap, ◌∙◌}
use mathlib.Core.Bool.{Bool-set, false≢true}
use Rattle.packet.specs.Fields.{fits}
use Rattle.packet.specs.Tests.{tested, tested_if}
use Rattle.packet.specs.declared.field.Field.{Field}

pub tested_fits : (f : Field) (v l : ℕ) (e : fits f v l ≡ true) → Some (record { field = f; value = v; length = l; fit = e }) ≡ tested f v l
tested_fits f v l e = go (fits f v l) refl
  where
    go : (b : Bool) (q : fits f v l ≡ b) → Some (record { field = f; value = v; length = l; fit = e }) ≡ tested_if f v l b q
    go true q = ap (λ p. Some (record { field = f; value = v; length = l; fit = p })) (Bool-set (fits f v l) true e q)
    go false q = absurd (false≢true (sym q ∙ e))

pub tested_none : (f : Field) (v l : ℕ) → fits f v l ≡ false → None ≡ tested f v l
tested_none f v l e = go (fits f v l) refl
  where
    go : (b : Bool) (q : fits f v l ≡ b) → None ≡ tested_if f v l b q
    go true q = absurd (false≢true (sym e ∙ q))
    go false q = refl
