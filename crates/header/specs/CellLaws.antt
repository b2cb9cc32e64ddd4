-- What the cells of a kind owe, field by field.
use Rattle.std.specs.Prelude.{◌≡◌, ℕ, true, false, ◌&&◌, ◌⊎◌, ◌==◌}
use Rattle.packet.specs.Fields.{allowed}
use Rattle.packet.specs.declared.field.Field.{Field}
use Rattle.header.specs.Cells.{Cell}

pub record CellLaws {C : Type 0} (cell : Cell C) : Type 0 where
  -- nothing asked
  pub blank_sized : (f : Field) → cell.sized f cell.blank ≡ true
  pub blank_unstated : cell.stated cell.blank ≡ false
  pub unstated_takes : (f : Field) (c : C) (x : ℕ) → cell.sized f c ≡ true → allowed f x ≡ true → cell.stated c ≡ false → cell.takes f c x ≡ true
  -- a number that a cell takes, 0 where nothing is asked
  pub pick : Field → C → ℕ
  pub pick_allowed : (f : Field) (c : C) → cell.sized f c ≡ true → allowed f (pick f c) ≡ true
  pub pick_taken : (f : Field) (c : C) → cell.sized f c ≡ true → cell.takes f c (pick f c) ≡ true
  pub pick_blank : (f : Field) (c : C) → cell.stated c ≡ false → pick f c ≡ 0
  -- one number alone
  pub full_sized : (f : Field) (v : ℕ) → allowed f v ≡ true → cell.sized f (cell.full f v) ≡ true
  pub full_fixes : (f : Field) (v : ℕ) → cell.fixes f (cell.full f v) v ≡ true
  pub full_takes : (f : Field) (v x : ℕ) → allowed f v ≡ true → allowed f x ≡ true → cell.takes f (cell.full f v) x ≡ (x == v)
  pub fixed : (f : Field) (c : C) (v x : ℕ) → cell.sized f c ≡ true → cell.fixes f c v ≡ true → allowed f x ≡ true → cell.takes f c x ≡ true → x ≡ v
  -- the meet
  pub both_sized : (f : Field) (c d : C) → cell.sized f c ≡ true → cell.sized f d ≡ true → cell.agree f c d ≡ true → cell.sized f (cell.both f c d) ≡ true
  pub both_stated : (f : Field) (c d : C) → cell.stated (cell.both f c d) ≡ true → (cell.stated c ≡ true) ⊎ (cell.stated d ≡ true)
  pub both_fixes : (f : Field) (c d : C) (v : ℕ) → cell.sized f c ≡ true → cell.sized f d ≡ true → cell.agree f c d ≡ true → (cell.fixes f c v ≡ true) ⊎ (cell.fixes f d v ≡ true) → cell.fixes f (cell.both f c d) v ≡ true
  pub both_takes : (f : Field) (c d : C) (x : ℕ) → cell.sized f c ≡ true → cell.sized f d ≡ true → cell.agree f c d ≡ true → allowed f x ≡ true → cell.takes f (cell.both f c d) x ≡ (cell.takes f c x && cell.takes f d x)
  pub clash : (f : Field) (c d : C) (x : ℕ) → cell.sized f c ≡ true → cell.sized f d ≡ true → cell.agree f c d ≡ false → allowed f x ≡ true → (cell.takes f c x && cell.takes f d x) ≡ false
  -- the cover
  pub covered : (f : Field) (c d : C) (x : ℕ) → cell.sized f c ≡ true → cell.sized f d ≡ true → cell.covers f c d ≡ true → allowed f x ≡ true → cell.takes f d x ≡ true → cell.takes f c x ≡ true
  pub escape : (f : Field) (c d : C) → cell.sized f c ≡ true → cell.sized f d ≡ true → cell.covers f c d ≡ false → (x : ℕ) × (allowed f x ≡ true) × (cell.takes f d x ≡ true) × (cell.takes f c x ≡ false)
