-- Patterns that say of each field, by itself, which numbers they take.
use Rattle.std.specs.Prelude.{ℕ, Bool, true, false, cond, not, ◌&&◌, ◌||◌, List, [], ◌∷◌}
use Rattle.packet.specs.Fields.{Numbers, Need, every, ways, same}
use Rattle.packet.specs.declared.field.Field.{Field}

-- what a pattern says of one field
pub record Cell (C : Type 0) : Type 0 where
  -- nothing is asked
  pub blank : C
  -- one number is asked
  pub full : Field → ℕ → C
  -- the cell has room in the field
  pub sized : Field → C → Bool
  -- something is asked
  pub stated : C → Bool
  -- this number alone is taken
  pub fixes : Field → C → ℕ → Bool
  -- a number is taken
  pub takes : Field → C → ℕ → Bool
  -- some number is taken by both; then the cell of those numbers
  pub agree : Field → C → C → Bool
  pub both : Field → C → C → C
  -- the first takes whatever the second takes
  pub covers : Field → C → C → Bool

module _ {C : Type 0} (cell : Cell C) where
  -- a packet, by its numbers, hits a pattern, by its cells
  abbrev pub hits_all : (Field → C) → Numbers → Bool
  hits_all p n = every (λ f. cell.takes f (p f) (n f))

  abbrev pub agrees_all : (Field → C) → (Field → C) → Bool
  agrees_all p q = every (λ f. cell.agree f (p f) (q f))

  abbrev pub both_all : (Field → C) → (Field → C) → Field → C
  both_all p q f = cell.both f (p f) (q f)

  abbrev pub covers_all : (Field → C) → (Field → C) → Bool
  covers_all p q = every (λ f. cell.covers f (p f) (q f))

  -- the cells of a list of needs
  abbrev pub needed : List Need → Field → C
  needed [] g = cell.blank
  needed (w ∷ ws) g = cond (same w.field g) (cell.full g w.number) (needed ws g)

  -- the cells of a test of the field f: its own, and what f needs to exist
  abbrev pub test_cells : List Need → Field → C → Field → C
  test_cells ws f own g = cond (same f g) own (needed ws g)

  -- a pattern fixes the numbers that a field needs, in one of its ways
  abbrev pub fixes_all : (Field → C) → List Need → Bool
  fixes_all p [] = true
  fixes_all p (w ∷ ws) = fixes_all p ws && cell.fixes w.field (p w.field) w.number

  abbrev pub fixes_one : (Field → C) → List (List Need) → Bool
  fixes_one p [] = false
  fixes_one p (w ∷ ws) = fixes_one p ws || fixes_all p w

  -- a pattern that asks something of a field also fixes what the field needs to exist
  abbrev pub grounded : (Field → C) → Field → Bool
  grounded p f = not (cell.stated (p f)) || fixes_one p (ways f)

  abbrev pub well_made : (Field → C) → Bool
  well_made p = every (λ f. cell.sized f (p f) && grounded p f)
