-- What `try_fold` at options gives: a step over each item, as long as each gives a value.
use Rattle.std.proofs.Common.{◌≡◌, ◌+◌, List, [], ◌∷◌, ◌++◌, map, length, get_or, take, drop, Some, None, Option, ControlFlow, Continue, Break, sym, refl, ap, ◌∙◌, subst}
use denote.Param.Members.{Mut}
use Rattle.std.proofs.lemmas.Iterator.{YieldsList}
use Rattle.std.proofs.lemmas.Iterator.Consumers.{YieldsList-so_far, YieldsList-turn, YieldsList-end}
use Rattle.std.proofs.lemmas.List.{append-nil, take-append-drop, at_drop_more}
use Rattle.std.specs.Fn.{Called}
use Rattle.std.specs.Iterator.{TryFoldTurn, TryFoldsItems, Yields}
use Rattle.std.specs.List.{FoldsTo}
use Rattle.std.specs.Option.{MatchOption}

-- what a value is taken on to, if there is one
abbrev pub on_some : {A B : Type 0} → Option A → (A → Option B) → Option B
on_some None f = None
on_some (Some a) f = f a

-- the step over a list, from a on
abbrev pub tries : {B X : Type 0} → (B → X → Option B) → B → List X → Option B
tries step a [] = Some a
tries step a (x ∷ xs) = on_some (step a x) (λ b. tries step b xs)

module _ {A X B F E : Type 0} (v : A → X) (g : Mut F (B × (A × Unit {0})) (Option B)) (branches : Option B → ControlFlow E B → Type 0) (step : B → X → Option B) (f : F)
    (goes : (o : Option B) (b : B) → branches o (Continue b) → o ≡ Some b)
    (calls : (a : B) (x : A) (r : Option B) (q : F) → Called g f (a, (x, tt)) r q → (q ≡ f) × (r ≡ step a (v x))) where
  -- the turns that go on
  turned : (xs : List A) (p q : F × B) → FoldsTo {P = F × B} (TryFoldTurn g branches) p xs q → p.0 ≡ f → (ys : List X) → (q.0 ≡ f) × (tries step p.1 (map v xs ++ ys) ≡ tries step q.1 ys)
  turned [] p q e i ys = (sym (ap (λ (z : F × B). z.0) e) ∙ i, ap (λ (z : F × B). tries step z.1 ys) e)
  turned (x ∷ xs) p q (j, t, w) i ys =
      let k = calls p.1 x t.0 j.0 (subst (λ z. Called g z (p.1, (x, tt)) t.0 j.0) i t.1) in
      let more = turned xs j q w k.0 ys in
      (more.0, ap (λ o. on_some o (λ b. tries step b (map v xs ++ ys))) (sym k.1 ∙ goes t.0 j.1 t.2) ∙ more.1)

  module _ {S : Type 0} {steps : S → Option A → S → Type 0} {s : S} {all : List X} (road : YieldsList steps v s all) (resumes : E → Option B → Type 0)
      (breaks : (o : Option B) (e : E) → branches o (Break e) → o ≡ None) (stops : (e : E) (r : Option B) → resumes e r → r ≡ None) (init : B) (r : Option B) (u : S) where
    -- all turns went on, or the next one broke off
    ended : (xs : List A) (o : Option A) (f' : F) (a : B) (t : S) → Yields steps s xs t → steps t o u → FoldsTo {P = F × B} (TryFoldTurn g branches) (f, init) xs (f', a)
        → MatchOption o (branches r (Continue a)) (λ x. (w : Option B) × (h : F) × (e : E) × Called g f' (a, (x, tt)) w h × branches w (Break e) × resumes e r) → r ≡ tries step init all
    ended xs None f' a t came y turns m =
        goes r a m ∙ sym (ap (tries step init) (sym (YieldsList-end road xs t came None u refl y).0 ∙ sym (append-nil (map v xs))) ∙ (turned xs (f, init) (f', a) turns refl []).1)
    ended xs (Some x) f' a t came y turns (w, h, e, call, b, z) =
        let next = YieldsList-turn road xs t came (Some x) u x refl y in
        let rest = drop (length xs + 1) all in
        let cut : all ≡ map v xs ++ v x ∷ rest =
        sym (take-append-drop (length xs) all)
        ∙ (at_drop_more (λ l. take (length xs) all ++ l) all (length xs) (v x) next.0
        ∙ (ap (λ l. l ++ get_or all (length xs) (v x) ∷ rest) (sym (YieldsList-so_far road xs t came))
        ∙ ap (λ z. map v xs ++ z ∷ rest) (sym next.1))) in
        let before = turned xs (f, init) (f', a) turns refl (v x ∷ rest) in
        let none : step a (v x) ≡ None = sym (calls a x w h (subst (λ z. Called g z (a, (x, tt)) w h) before.0 call)).1 ∙ breaks w e b in
        stops e r z ∙ sym (ap (tries step init) cut ∙ (before.1 ∙ ap (λ o. on_some o (λ b. tries step b rest)) none))

    all_tried : TryFoldsItems steps g branches resumes s f init r u → r ≡ tries step init all
    all_tried p = ended p.0 p.1 p.2 p.3 p.4.0 p.4.1 p.4.2 p.5 p.6

pub tried : {S A X B F E : Type 0} {steps : S → Option A → S → Type 0} {v : A → X} {s : S} {all : List X} {g : Mut F (B × (A × Unit {0})) (Option B)} {resumes : E → Option B → Type 0} (branches : Option B → ControlFlow E B → Type 0) (step : B → X → Option B) (f : F) (init : B) (r : Option B) (u : S)
    → TryFoldsItems steps g branches resumes s f init r u → YieldsList steps v s all
    → ((o : Option B) (b : B) → branches o (Continue b) → o ≡ Some b) → ((o : Option B) (e : E) → branches o (Break e) → o ≡ None) → ((e : E) (z : Option B) → resumes e z → z ≡ None)
    → ((a : B) (x : A) (z : Option B) (q : F) → Called g f (a, (x, tt)) z q → (q ≡ f) × (z ≡ step a (v x))) → r ≡ tries step init all
tried {v = v} {g = g} {resumes = resumes} branches step f init r u p road goes breaks stops calls = all_tried v g branches step f goes calls road resumes breaks stops init r u p
