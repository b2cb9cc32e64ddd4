-- The policy text as a grammar: which policies a text writes.
use Rattle.std.specs.Prelude.{◌≡◌, ℕ, suc, ◌<◌, ◌≤◌, max, List, [], ◌∷◌, length, Some, None, codes, Option}
use Rattle.packet.specs.declared.field.Field.{Field}
use Rattle.packet.specs.declared.test.Test.{Test}
use Rattle.packet.specs.PortLists.{placed}
use Rattle.policy.specs.Finishing.{empty_tree}
use Rattle.policy.specs.Trees.{Pred, Pol}
use Rattle.policy.specs.Trees.Pred.{any, at, test, and, or, not}
use Rattle.policy.specs.Trees.Pol.{send, both, keep}
use Rattle.text.specs.Heads.{name}
use Rattle.text.specs.Values.{sixteen_bits, port_from, test_from}
use Rattle.text.specs.Numbered.{numbered}
use Rattle.text.specs.Text.{Token, t_open, t_close, t_space, t_line, t_other, t_word, tokens}

-- what stands in a text, spaces left out
pub data Sign : Type 0 where
  s_open s_close s_line s_other : Sign
  s_word : List ℕ → Sign

abbrev pub signs : List Token → List Sign
signs [] = []
signs (t_open ∷ ts) = s_open ∷ signs ts
signs (t_close ∷ ts) = s_close ∷ signs ts
signs (t_space ∷ ts) = signs ts
signs (t_line ∷ ts) = s_line ∷ signs ts
signs (t_other ∷ ts) = s_other ∷ signs ts
signs (t_word w ∷ ts) = s_word w ∷ signs ts

-- PredIn p ts us: the inside of a bracket that writes p stands at the front of ts, and us is what follows, from its closing bracket on
pub data PredIn : Pred → List Sign → List Sign → Type 0 where
  in_any : {w : List ℕ} {us : List Sign} → w ≡ codes "any" → PredIn any (s_word w ∷ us) us
  in_at : {w v : List ℕ} {n : ℕ} {us : List Sign} → w ≡ codes "at" → sixteen_bits v ≡ Some n → PredIn (at n) (s_word w ∷ s_word v ∷ us) us
  in_test : {w v : List ℕ} (f : Field) {t : Test} {us : List Sign} → w ≡ name f → test_from f v ≡ Some t → PredIn (test t) (s_word w ∷ s_word v ∷ us) us
  in_and : {w : List ℕ} {a b : Pred} {ts us vs : List Sign} → w ≡ codes "and" → PredIn a ts (s_close ∷ s_open ∷ us) → PredIn b us (s_close ∷ vs) → PredIn (and a b) (s_word w ∷ s_open ∷ ts) vs
  in_or : {w : List ℕ} {a b : Pred} {ts us vs : List Sign} → w ≡ codes "or" → PredIn a ts (s_close ∷ s_open ∷ us) → PredIn b us (s_close ∷ vs) → PredIn (or a b) (s_word w ∷ s_open ∷ ts) vs
  in_not : {w : List ℕ} {a : Pred} {ts us : List Sign} → w ≡ codes "not" → PredIn a ts (s_close ∷ us) → PredIn (not a) (s_word w ∷ s_open ∷ ts) us

-- ports one after another, at most eight
pub data PortsIn : List ℕ → List Sign → List Sign → Type 0 where
  no_ports : {us : List Sign} → PortsIn [] us us
  one_more : {w : List ℕ} {p : ℕ} {ps : List ℕ} {ts us : List Sign} → PortsIn ps ts (s_word w ∷ us) → length ps < 8 → port_from w ≡ Some p → PortsIn (placed p ps) ts us

pub data PolIn : Pol → List Sign → List Sign → Type 0 where
  in_send : {w : List ℕ} {p : Pred} {ps : List ℕ} {ts us vs : List Sign} → w ≡ codes "send" → PredIn p ts (s_close ∷ us) → PortsIn ps us vs → PolIn (send p ps) (s_word w ∷ s_open ∷ ts) vs
  in_both : {w : List ℕ} {a b : Pol} {ts us vs : List Sign} → w ≡ codes "both" → PolIn a ts (s_close ∷ s_open ∷ us) → PolIn b us (s_close ∷ vs) → PolIn (both a b) (s_word w ∷ s_open ∷ ts) vs
  in_keep : {w : List ℕ} {p : Pred} {q : Pol} {ts us vs : List Sign} → w ≡ codes "keep" → PredIn p ts (s_close ∷ s_open ∷ us) → PolIn q us (s_close ∷ vs) → PolIn (keep p q) (s_word w ∷ s_open ∷ ts) vs

-- how deep the brackets go
abbrev pub depth : Pred → ℕ
depth any = 1
depth (at n) = 1
depth (test t) = 1
depth (and a b) = suc (max (depth a) (depth b))
depth (or a b) = suc (max (depth a) (depth b))
depth (not a) = suc (depth a)

abbrev pub pol_depth : Pol → ℕ
pol_depth (send p ps) = suc (depth p)
pol_depth (both a b) = suc (max (pol_depth a) (pol_depth b))
pol_depth (keep p q) = suc (max (depth p) (pol_depth q))

-- a form joined to those of the lines before
abbrev pub joined : Option Pol → Pol → Pol
joined None q = q
joined (Some p) q = both p q

-- the lines of a text, blank or of one form, no bracket deeper than 16; the first option is what stands before, the second the whole
pub data Lines : Option Pol → List Sign → Option Pol → Type 0 where
  none_left : {o : Option Pol} → Lines o [] o
  blank : {o r : Option Pol} {ts : List Sign} → Lines o ts r → Lines o (s_line ∷ ts) r
  last_form : {o : Option Pol} {q : Pol} {ts : List Sign} → PolIn q ts (s_close ∷ []) → pol_depth q ≤ 16 → Lines o (s_open ∷ ts) (Some (joined o q))
  form : {o r : Option Pol} {q : Pol} {ts us : List Sign} → PolIn q ts (s_close ∷ s_line ∷ us) → pol_depth q ≤ 16 → Lines (Some (joined o q)) us r → Lines o (s_open ∷ ts) r

-- a text without forms is the empty policy
abbrev pub whole : Option Pol → Pol
whole None = empty_tree
whole (Some q) = q

-- a text writes a policy of at most 64 nodes
pub record Writes (text : List ℕ) (q : Pol) : Type 0 where
  pub lines : Option Pol
  pub written : Lines None (signs (tokens text)) lines
  pub is : q ≡ whole lines
  pub few : length (numbered q) ≤ 64
