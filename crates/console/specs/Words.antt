-- The words of a text, which white space parts.
use Rattle.std.specs.Prelude.{◌≡◌, ℕ, ◌<◌, List, [], ◌∷◌, ◌++◌, length}
use Rattle.std.specs.Char.{is_whitespace, is_not_whitespace}
use Rattle.std.specs.Str.{NoCharPasses, EmptyOrStartsWithPassing}

-- a text is white space, its first word, and the rest, which is empty or begins with white space
pub record First (bytes word rest : List ℕ) : Type 0 where
  pub gap : List ℕ
  pub cut : bytes ≡ gap ++ (word ++ rest)
  pub some : 0 < length word
  pub blank : NoCharPasses is_not_whitespace gap
  pub solid : NoCharPasses is_whitespace word
  pub ends : (more : List ℕ) × EmptyOrStartsWithPassing is_whitespace rest more

abbrev pub Words : List ℕ → List (List ℕ) → Type 0
Words bytes [] = NoCharPasses is_not_whitespace bytes
Words bytes (word ∷ more) = (rest : List ℕ) × First bytes word rest × Words rest more

-- the words with which a text begins, and what is left after them
abbrev pub Begins : List ℕ → List (List ℕ) → List ℕ → Type 0
Begins bytes [] left = left ≡ bytes
Begins bytes (word ∷ more) left = (rest : List ℕ) × First bytes word rest × Begins rest more left
