-- The words of a command, taken one by one, and the command that follows from them.
use Rattle.std.specs.Prelude.{◌≡◌, ℕ, ◌<◌, ◌⊎◌, List, [], ◌∷◌, ◌++◌, map, length, Some, None, vec_items, string_bytes, codes, Option, Vec, String, ◌≢◌}
use Rattle.std.specs.Option.{unwrap_or}
use Rattle.std.specs.declared.alloc.Global.{Global}
use Rattle.packet.specs.Packets.{number}
use Rattle.packet.specs.declared.packet.Packet.{Packet}
use Rattle.text.specs.Values.{numeral}
use Rattle.console.specs.Typed.{Describes, WrongWord, WrongNumbers}
use Rattle.console.specs.declared.arguments.Command.{Command}
use Rattle.console.specs.declared.arguments.Command.TheVariants.{Help, Check, Ports}
use Rattle.console.specs.declared.arguments.Due.{Due}
use Rattle.console.specs.declared.arguments.Due.TheVariants as due
use Rattle.console.specs.declared.arguments.Options.TheInside.{Inside}
use Rattle.console.specs.declared.failure.Failure.{Failure}
use Rattle.console.specs.declared.failure.Failure.TheVariants.{Told, System, Memory}

-- what the words so far have asked, and what the next one is
pub record Asked : Type 0 where
  pub next : Due
  pub switch : Option ℕ
  pub packet : Option Packet
  pub files : List (List ℕ)

abbrev pub names_of : Vec (String Global) Global → List (List ℕ)
names_of files = map string_bytes (vec_items files)

abbrev pub nothing : Asked
nothing = record { next = due.Any; switch = None; packet = None; files = [] }

abbrev pub asked : Inside → Asked
asked o = record { next = o.due; switch = o.switch; packet = o.packet; files = names_of o.files }

-- the same, but for what the next word is
abbrev pub then_due : Due → Asked → Asked
then_due d a = record { next = d; switch = a.switch; packet = a.packet; files = a.files }

abbrev pub with_switch : ℕ → Asked → Asked
with_switch n a = record { next = due.Any; switch = Some n; packet = a.packet; files = a.files }

abbrev pub with_packet : Packet → Asked → Asked
with_packet p a = record { next = due.Any; switch = a.switch; packet = Some p; files = a.files }

abbrev pub with_file : List ℕ → Asked → Asked
with_file w a = record { next = a.next; switch = a.switch; packet = a.packet; files = a.files ++ w ∷ [] }

-- a word that does not begin with two signs -
abbrev pub Plain : List ℕ → Type 0
Plain w = (rest : List ℕ) → w ≢ codes "--" ++ rest

-- an option or a file
abbrev pub TakesAny : Asked → List ℕ → Asked → Type 0
TakesAny a w b =
    ((w ≡ codes "--") × (b ≡ then_due due.File a))
    ⊎ (((w ≡ codes "--switch") × (b ≡ then_due due.Switch a))
    ⊎ (((w ≡ codes "--packet") × (b ≡ then_due due.Packet a))
    ⊎ (Plain w × (b ≡ with_file w a))))

-- one word, by what it is due to be
abbrev pub TakesDue : Due → Asked → List ℕ → Asked → Type 0
TakesDue due.Any a w b = TakesAny a w b
TakesDue due.Switch a w b = (n : ℕ) × (numeral 65535 w ≡ Some n) × (b ≡ with_switch n a)
TakesDue due.Packet a w b = (p : Packet) × Describes w (number p) × (b ≡ with_packet p a)
TakesDue due.File a w b = b ≡ with_file w a

abbrev pub Takes : Asked → List ℕ → Asked → Type 0
Takes a w b = TakesDue a.next a w b

-- some words, one after another
abbrev pub TakesAll : Asked → List (List ℕ) → Asked → Type 0
TakesAll a [] b = a ≡ b
TakesAll a (w ∷ ws) b = (m : Asked) × Takes a w m × TakesAll m ws b

-- no option waits for its value
abbrev pub Settled : Due → Type 0
Settled due.Any = Unit {0}
Settled due.Switch = ⊥
Settled due.Packet = ⊥
Settled due.File = Unit {0}

-- no option waits for its value, and there is a file
abbrev pub Complete : Asked → Type 0
Complete a = Settled a.next × (0 < length a.files)

-- the command of a name, of what was asked
abbrev pub Follows : List ℕ → Asked → Command → Type 0
Follows name a Help = name ≡ codes "help"
Follows name a (Check files) = (name ≡ codes "check") × Complete a × (a.switch ≡ None) × (a.packet ≡ None) × (names_of files ≡ a.files)
Follows name a (Ports switch packet files) = (name ≡ codes "ports") × Complete a × (switch ≡ unwrap_or a.switch 1) × (a.packet ≡ Some packet) × (names_of files ≡ a.files)

-- all words are taken, from nothing asked to what the command follows from
abbrev pub Asks : List ℕ → List (List ℕ) → Command → Type 0
Asks name words command = (a : Asked) × TakesAll nothing words a × Follows name a command

-- a word that looks like an option and is none
pub record NoOption (w : List ℕ) : Type 0 where
  pub rest : List ℕ
  pub begins : w ≡ codes "--" ++ rest
  pub not_files : w ≡ codes "--" → ⊥
  pub not_switch : w ≡ codes "--switch" → ⊥
  pub not_packet : w ≡ codes "--packet" → ⊥

-- a word that is not what is due
abbrev pub Stuck : Due → List ℕ → Type 0
Stuck due.Any w = NoOption w
Stuck due.Switch w = numeral 65535 w ≡ None
Stuck due.Packet w = WrongWord w ⊎ WrongNumbers w
Stuck due.File w = ⊥

-- some words are taken, and then one is not what is due
abbrev pub Stops : Asked → List (List ℕ) → Type 0
Stops a [] = ⊥
Stops a (w ∷ ws) = Stuck a.next w ⊎ ((m : Asked) × Takes a w m × Stops m ws)

-- no command follows
abbrev pub Lacks : List ℕ → Asked → Type 0
Lacks name a = (command : Command) → Follows name a command → ⊥

-- a word is not what is due, or no command follows from all of them
abbrev pub AsksNone : List ℕ → List (List ℕ) → Type 0
AsksNone name words = Stops nothing words ⊎ ((a : Asked) × TakesAll nothing words a × Lacks name a)

-- a line is told for a reason, or memory was wanting; no file is touched, so the system has no say
abbrev pub Because : Type 0 → Failure → Type 0
Because why (Told line) = why
Because why (System e) = ⊥
Because why Memory = Unit {0}
