-- Packets as people type them: words FIELD=V.
use Rattle.std.specs.Prelude.{◌≡◌, ℕ, false, ◌⊎◌, List, [], ◌∷◌, ◌++◌, Some, None, IsSome, ◌≢◌, slice_index_or, slice_set}
use Rattle.packet.specs.Fields.{Numbers, lawful, place}
use Rattle.packet.specs.declared.field.Field.{Field}
use Rattle.text.specs.Heads.{named_field}
use Rattle.text.specs.Values.{test_from, full_value}
use Rattle.console.specs.Words.{First, Words, Begins}
use Rattle.console.specs.declared.failure.Failure.{Failure}
use Rattle.console.specs.declared.failure.Failure.TheVariants.{Told, System, Memory}
use Rattle.console.specs.declared.packets.Typed.{Typed}

-- a word that gives a field a number: the field's name, a sign =, and the number
pub record Gives (word : List ℕ) (f : Field) (n : ℕ) : Type 0 where
  pub front : List ℕ
  pub back : List ℕ
  pub cut : word ≡ front ++ 61 ∷ back
  pub names : named_field front ≡ Some f
  pub says : full_value f (test_from f back) ≡ Some n

-- each word gives the field at its place in a list the number that n has there
abbrev pub Give : List (List ℕ) → List Field → Numbers → Type 0
Give [] [] n = Unit {0}
Give [] (f ∷ fs) n = ⊥
Give (w ∷ ws) [] n = ⊥
Give (w ∷ ws) (f ∷ fs) n = Gives w f (n f) × Give ws fs n

-- a field is none of some
abbrev pub Lack : List Field → Field → Type 0
Lack [] f = Unit {0}
Lack (g ∷ gs) f = (place g ≢ place f) × Lack gs f

-- no field twice
abbrev pub Once : List Field → Type 0
Once [] = Unit {0}
Once (f ∷ fs) = Lack fs f × Once fs

-- the words of a text give some fields their numbers, none twice; all other numbers are 0
pub record Describes (bytes : List ℕ) (n : Numbers) : Type 0 where
  pub words : List (List ℕ)
  pub fields : List Field
  pub parts : Words bytes words
  pub given : Give words fields n
  pub once : Once fields
  pub rest : (f : Field) → Lack fields f → n f ≡ 0

-- one word more, which gives a number to a field that had none
pub record Adds (word : List ℕ) (old new : Typed) : Type 0 where
  pub field : Field
  pub number : ℕ
  pub gives : Gives word field number
  pub fresh : slice_index_or old.numbers (place field) None ≡ None
  pub numbers : new.numbers ≡ slice_set old.numbers (place field) (Some number)

-- no word more: it gives no number, or one to a field that had one; no file is touched, so the system has no say
abbrev pub AddsNone : List ℕ → Typed → Failure → Type 0
AddsNone word old (Told line) = (f : Field) (n : ℕ) → Gives word f n → IsSome (slice_index_or old.numbers (place f) None)
AddsNone word old (System e) = ⊥
AddsNone word old Memory = Unit {0}

-- words that give fields their numbers, and then one that gives none to a field that has none
pub record WrongWord (bytes : List ℕ) : Type 0 where
  pub words : List (List ℕ)
  pub fields : List Field
  pub numbers : Numbers
  pub left : List ℕ
  pub word : List ℕ
  pub rest : List ℕ
  pub begins : Begins bytes words left
  pub first : First left word rest
  pub given : Give words fields numbers
  pub wrong : (f : Field) (n : ℕ) → Gives word f n → Lack fields f → ⊥

-- numbers that break a packet's rules
abbrev pub WrongNumbers : List ℕ → Type 0
WrongNumbers bytes = (n : Numbers) × Describes bytes n × (lawful n ≡ false)

-- no packet: a word or the numbers are wrong, or memory was wanting
abbrev pub Refuses : List ℕ → Failure → Type 0
Refuses bytes (Told line) = WrongWord bytes ⊎ WrongNumbers bytes
Refuses bytes (System e) = ⊥
Refuses bytes Memory = Unit {0}
