-- Where a place stands in its file: the file is the last that begins there or before.
use Rattle.std.proofs.Common.{◌≡◌, ℕ, zero, suc, ◌-◌, ◌<◌, ◌≤◌, Bool, true, false, List, [], ◌∷◌, map, length, get_or, slice_get, Some, None, Option, IfSome, IsSomeAnd, MatchOption, sym, ap, ◌∙◌, subst, arith, Bor}
use Rattle.std.proofs.lemmas.List.{get_or-map, length-map}
use Rattle.std.proofs.lemmas.Option.{slice_get-get_or}
use Rattle.std.specs.Fn.{CalledAt}
use Rattle.std.specs.Iterator.Runs.{Run, ItemsMapToReversed, NoItemPasses, EndsAtFirstPassing, CallKeepsClosure}
use Rattle.std.specs.Option.{option_map, option_copied, option_or}
use Rattle.console.specs.Texts.{LastBegun}
use denote.Param.Members.{Mut, Called}

module _ {X B : Type 0} (v : X → B) (d : B) where
  -- what is read of the item at a place, or d where there is none
  pub read_at : (xs : List X) (k : ℕ) (o : Option (Bor X)) (b : B) → option_copied o ≡ slice_get xs k → MatchOption o (b ≡ d) (λ x. b ≡ v x.now) → b ≡ get_or (map v xs) k d
  read_at [] k None b e h = h
  read_at [] k (Some x) b e h = let z : ◌≡◌ {A = ℕ} 0 1 = cc in absurd (omega arith)
  read_at (y ∷ ys) zero None b e h = let z : ◌≡◌ {A = ℕ} 0 1 = cc in absurd (omega arith)
  read_at (y ∷ ys) zero (Some x) b e h = let same : x.now ≡ y = cc in h ∙ ap v same
  read_at (y ∷ ys) (suc k) o b e h = read_at ys k o b e h

some_item : {X : Type 0} (xs : List X) (k : ℕ) → k < length xs → X
some_item [] k h = absurd (omega arith)
some_item (x ∷ xs) k h = x

module _ {X : Type 0} (P : Bor X → Type 0) (Q : X → Type 0) (gives : (x : Bor X) → P x → Q x.now) where
  read_if : (o : Option (Bor X)) (v : X) → option_map (λ x. x.now) o ≡ Some v → IfSome o P → Q v
  read_if None v e h = let z : ◌≡◌ {A = ℕ} 0 1 = cc in absurd (omega arith)
  read_if (Some x) v e h = let same : x.now ≡ v = cc in subst Q same (gives x h)

  read_and : (o : Option (Bor X)) (v : X) → option_map (λ x. x.now) o ≡ Some v → IsSomeAnd o P → Q v
  read_and None v e h = absurd h
  read_and (Some x) v e h = let same : x.now ≡ v = cc in subst Q same (gives x h)

module _ {S F X : Type 0} {steps : S → Option (Bor X) → S → Type 0} (g : Mut F (Bor (Bor X) × Unit {0}) Bool) (f : F) (n : X → ℕ) (byte : ℕ) (xs : List X) (u : Run steps) (back : ItemsMapToReversed u (λ y. y.now) xs)
    (keeps : CallKeepsClosure g f) (yes : (y : Bor (Bor X)) → Called g f (y, tt) true f → n y.now.now ≤ byte) (no : (y : Bor (Bor X)) → Called g f (y, tt) false f → byte < n y.now.now) where
  start : (k : ℕ) (h : k < length xs) → get_or (map n xs) k 0 ≡ n (get_or xs k (some_item xs k h))
  start k h = get_or-map n xs k (some_item xs k h) 0 h

  passed : (x : Bor X) → CalledAt g f x true f → n x.now ≤ byte
  passed x c = subst (λ y. n y.now ≤ byte) c.shows (yes c.shown c.called)

  failed : (x : Bor X) → CalledAt g f x false f → byte < n x.now
  failed x c = subst (λ y. byte < n y.now) c.shows (no c.shown c.called)

  -- what `rfind` gives of files at the test whether they begin at a byte or before, and the first file where it gives none
  pub last_begun : (r first : Option (Bor X)) → option_copied first ≡ slice_get xs 0 → MatchOption r ((u.whole ≡ true) × NoItemPasses u g f) (EndsAtFirstPassing u g f) → (k : ℕ) × LastBegun (map n xs) byte k × (option_copied (option_or r first) ≡ slice_get xs k)
  last_begun None first e h = (
    0,
    record {
      begun = λ z. absurd (omega arith);
      later = λ k past inside.
          let here : k < length xs = omega (arith, inside, length-map xs n) in
          let d = some_item xs k here in
          let reached : length xs - 1 - k < u.len = omega (arith, back.1 h.0) in
          rw (start k here) (read_if (λ x. CalledAt g f x false f) (λ x. byte < n x) failed (u.at (length xs - 1 - k)) (get_or xs k d) (back.2 k d here reached) (h.1 keeps (length xs - 1 - k)));
    },
    e,
  )
  last_begun (Some x) first e h =
      let i = h.0 in
      let here : length xs - 1 - i < length xs = omega (arith, back.0, h.1) in
      let place : length xs - 1 - (length xs - 1 - i) ≡ i = omega (arith, back.0, h.1) in
      let d = some_item xs (length xs - 1 - i) here in
      let at : option_map (λ y. y.now) (u.at (length xs - 1 - (length xs - 1 - i))) ≡ Some (get_or xs (length xs - 1 - i) d) = back.2 (length xs - 1 - i) d here (omega (arith, back.0, h.1)) in
      let item : Some x.now ≡ Some (get_or xs (length xs - 1 - i) d) = ap (option_map (λ y. y.now)) (sym h.2 ∙ ap u.at (sym place)) ∙ at in
      let calls = h.3 keeps in (
        length xs - 1 - i,
        record {
          begun = λ z. (
            omega (arith, here, length-map xs n),
            rw (start (length xs - 1 - i) here) (read_and (λ y. CalledAt g f y true f) (λ y. n y ≤ byte) passed (Some x) (get_or xs (length xs - 1 - i) d) item calls.0),
          );
          later = λ k past inside.
              let there : k < length xs = omega (arith, inside, length-map xs n) in
              let d = some_item xs k there in
              rw (start k there) (read_and (λ y. CalledAt g f y false f) (λ y. byte < n y) failed (u.at (length xs - 1 - k)) (get_or xs k d) (back.2 k d there (omega (arith, h.1, past))) (calls.1 (length xs - 1 - k) (omega (arith, h.1, past))));
        },
        item ∙ sym (slice_get-get_or xs (length xs - 1 - i) d here),
      )
