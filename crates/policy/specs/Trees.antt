-- The trees that the nodes of a policy stand for.
use Rattle.std.specs.Prelude.{ℕ, Bool, true, false, List, [], ◌∷◌, Some, None, Option}
use Rattle.packet.specs.declared.test.Test.{Test}
use Rattle.policy.specs.Shapes.{Shape}
use Rattle.policy.specs.Shapes.Shape.{n_any, n_at, n_is, n_and, n_or, n_not, n_send, n_both, n_keep}

pub data Pred : Type 0 where
  any : Pred
  at : ℕ → Pred
  test : Test → Pred
  and : Pred → Pred → Pred
  or : Pred → Pred → Pred
  not : Pred → Pred

pub data Pol : Type 0 where
  send : Pred → List ℕ → Pol
  both : Pol → Pol → Pol
  keep : Pred → Pol → Pol

pub data Tree : Type 0 where
  pred : Pred → Tree
  pol : Pol → Tree

-- The trees that no node has taken yet, the newest first.
abbrev pub Untaken : Type 0
Untaken = List Tree

-- the newest is taken, and has to be a predicate
abbrev pub take_pred : Untaken → (Pred → Untaken → Option Untaken) → Option Untaken
take_pred [] go = None
take_pred (pred p ∷ ts) go = go p ts
take_pred (pol q ∷ ts) go = None

-- the newest is taken, and has to be a policy
abbrev pub take_pol : Untaken → (Pol → Untaken → Option Untaken) → Option Untaken
take_pol [] go = None
take_pol (pred p ∷ ts) go = None
take_pol (pol q ∷ ts) go = go q ts

-- A node takes its parts, the newest, and stands in their place; none where a part is missing or of the wrong kind.
abbrev pub add : Shape → Untaken → Option Untaken
add n_any ts = Some (pred any ∷ ts)
add (n_at n) ts = Some (pred (at n) ∷ ts)
add (n_is t) ts = Some (pred (test t) ∷ ts)
add n_and ts = take_pred ts (λ b us. take_pred us (λ a vs. Some (pred (and a b) ∷ vs)))
add n_or ts = take_pred ts (λ b us. take_pred us (λ a vs. Some (pred (or a b) ∷ vs)))
add n_not ts = take_pred ts (λ a us. Some (pred (not a) ∷ us))
add (n_send ports) ts = take_pred ts (λ a us. Some (pol (send a ports) ∷ us))
add n_both ts = take_pol ts (λ b us. take_pol us (λ a vs. Some (pol (both a b) ∷ vs)))
add n_keep ts = take_pol ts (λ b us. take_pred us (λ a vs. Some (pol (keep a b) ∷ vs)))

-- the nodes of a list, one after another
abbrev pub on : List Shape → Option Untaken → Option Untaken
on [] r = r
on (n ∷ ns) None = None
on (n ∷ ns) (Some ts) = on ns (add n ts)

abbrev pub stack_of : List Shape → Option Untaken
stack_of ns = on ns (Some [])

-- one tree stays, a policy
abbrev pub only_policy : Option Untaken → Bool
only_policy None = false
only_policy (Some []) = false
only_policy (Some (pred p ∷ ts)) = false
only_policy (Some (pol q ∷ [])) = true
only_policy (Some (pol q ∷ t ∷ ts)) = false

abbrev pub trees : Option Untaken → Untaken
trees None = []
trees (Some ts) = ts
