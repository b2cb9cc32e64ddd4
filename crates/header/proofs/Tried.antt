-- What a `try_fold` of meets over a slice of patterns answers.
use Rattle.std.proofs.Common.{◌≡◌, List, [], ◌∷◌, Some, None, Option, Bor, refl, sym, ◌∙◌}
use Rattle.std.proofs.iter.Yields.{fronts}
use Rattle.std.proofs.lemmas.Iterator.{YieldsList-from_slice}
use Rattle.std.specs.ControlFlow.{continue_value}
use Rattle.std.specs.Fn.{Called}
use Rattle.std.specs.Iterator.{TryFoldsItems}
use Rattle.std.specs.Slice.Iter.{iter_rest}
use Rattle.std.specs.declared.slice.Iter.{Iter}
use denote.Param.Members.{Mut}
use Rattle.packet.proofs.Trying.{on_some, tried, tries}
use Rattle.header.specs.Laws.{Kind}
use Rattle.header.specs.Overlaps.{met_each}

-- where two did not meet, nothing is left
met_none : {P : Type 0} (kind : Kind P) (ps : List P) → met_each kind None ps ≡ None
met_none kind [] = refl
met_none kind (p ∷ ps) = met_none kind ps

-- one meet after another, as long as there is one
met_on : {P : Type 0} (kind : Kind P) (o : Option P) (ps : List P) → ((m : P) → tries kind.meeting m ps ≡ met_each kind (Some m) ps) → on_some o (λ m. tries kind.meeting m ps) ≡ met_each kind o ps
met_on kind None ps rest = sym (met_none kind ps)
met_on kind (Some m) ps rest = rest m

tries_meets : {P : Type 0} (kind : Kind P) (m : P) (ps : List P) → tries kind.meeting m ps ≡ met_each kind (Some m) ps
tries_meets kind m [] = refl
tries_meets kind m (p ∷ ps) = met_on kind (kind.meeting m p) ps (λ k. tries_meets kind k ps)

pub try_fold_meets : {P F E : Type 0} {g : Mut F (P × (Bor P × Unit {0})) (Option P)} {s : Iter P} (kind : Kind P) (ps : List P) (u : Iter P) (f : F) (init : P) (r : Option P) → TryFoldsItems fronts g (λ o c. o ≡ continue_value c) (λ (_ : E) (o : Option P). o ≡ None) s f init r u → iter_rest s ≡ ps → ((m : P) (x : Bor P) (o : Option P) (q : F) → Called g f (m, (x, tt)) o q → (q ≡ f) × (o ≡ kind.meeting m x.now)) → r ≡ met_each kind (Some init) ps
try_fold_meets {g = g} kind ps u f init r ran list meets =
    tried {g = g} (λ o c. o ≡ continue_value c) kind.meeting f init r u ran (YieldsList-from_slice ps list) (λ o b e. e) (λ o e b. b) (λ e z n. n) meets ∙ tries_meets kind init ps
