-- How the packets of patterns lie to each other.
use Rattle.std.specs.Prelude.{◌≡◌, Bool, true, false, ◌&&◌, List, [], ◌∷◌, is_some, Some, None, Option}
use Rattle.packet.specs.declared.packet.Packet.{Packet}
use Rattle.header.specs.Laws.{Kind}
use Rattle.header.specs.declared.overlaps.Overlap.{Overlap}
use Rattle.header.specs.declared.overlaps.Overlap.TheVariants.{Apart, Same, Within, Around, Partial}

-- the packets of one pattern are all of another's; two patterns have no packet in common
abbrev pub Inside : (Packet → Bool) → (Packet → Bool) → Type 0
Inside a b = (k : Packet) → a k ≡ true → b k ≡ true

abbrev pub Disjoint : (Packet → Bool) → (Packet → Bool) → Type 0
Disjoint a b = (k : Packet) → (a k && b k) ≡ false

-- how two sets of packets lie to each other; no two of these hold at once
abbrev pub Lies : (Packet → Bool) → (Packet → Bool) → Overlap → Type 0
Lies a b Apart = Disjoint a b
Lies a b Same = (Disjoint a b → ⊥) × Inside a b × Inside b a
Lies a b Within = (Disjoint a b → ⊥) × Inside a b × (Inside b a → ⊥)
Lies a b Around = (Disjoint a b → ⊥) × (Inside a b → ⊥) × Inside b a
Lies a b Partial = (Disjoint a b → ⊥) × (Inside a b → ⊥) × (Inside b a → ⊥)

-- the case by whether two patterns meet, the second covers the first, and the first covers the second
abbrev pub case_of : Bool → Bool → Bool → Overlap
case_of false inside around = Apart
case_of true true true = Same
case_of true true false = Within
case_of true false true = Around
case_of true false false = Partial

module _ {P : Type 0} (kind : Kind P) where
  abbrev pub compared : P → P → Overlap
  compared p q = case_of (is_some (kind.meeting p q)) (kind.covering q p) (kind.covering p q)

  -- a packet hits all of the patterns, and all of them are made
  abbrev pub hits_each : List P → Packet → Bool
  hits_each [] k = true
  hits_each (p ∷ ps) k = kind.hit p k && hits_each ps k

  abbrev pub made_each : List P → Bool
  made_each [] = true
  made_each (p ∷ ps) = kind.made p && made_each ps

  -- one pattern after the other met with what the ones before it left
  abbrev pub met_with : Option P → P → Option P
  met_with None p = None
  met_with (Some m) p = kind.meeting m p

  abbrev pub met_each : Option P → List P → Option P
  met_each m [] = m
  met_each m (p ∷ ps) = met_each (met_with m p) ps

  -- what is left is a made pattern of just these packets, of which there are some; or there is no such packet
  abbrev pub Leaves : (Packet → Bool) → Option P → Type 0
  Leaves packets None = (k : Packet) → packets k ≡ false
  Leaves packets (Some m) = (kind.made m ≡ true) × ((k : Packet) → kind.hit m k ≡ packets k) × (((k : Packet) → packets k ≡ false) → ⊥)
