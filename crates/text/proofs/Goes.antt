-- Reading on past the first item, and the end of the text.
use Rattle.std.proofs.Common.{◌≡◌, ℕ, ◌+◌, ◌-◌, ◌<◌, ◌≤◌, Bool, true, false, cond, eqb, List, [], ◌∷◌, ◌++◌, reverse, length, get_or, take, drop, Some, None, Ok, Err, Option, Result, sym, refl, ap, subst, ◌∙◌, arith}
use Rattle.std.proofs.lemmas.List.{drop-drop, get_or_append_left, length-drop, length-take-le, take-append-drop, take_rest}
use Rattle.std.specs.Bool.{then_some}
use Rattle.std.specs.Result.{IsErrAnd, MatchResult}
use Rattle.packet.specs.declared.fault.Fault.{Fault}
use Rattle.packet.specs.declared.fault.ReaderCause.{ReaderCause}
use Rattle.packet.specs.declared.fault.ReaderCause.TheVariants.{Word}
use Rattle.text.specs.declared.class.Class.{Class}
use Rattle.text.specs.Bytes.{byte_class}
use Rattle.policy.specs.Finishing.{empty_tree}
use Rattle.policy.specs.Shapes.{Shape}
use Rattle.text.specs.Dues.{Due}
use Rattle.text.specs.Numbered.{numbered}
use Rattle.text.specs.Steps.{Reading, and_then, answered}
use Rattle.text.specs.Text.{Token, token, tokens, on_token, ending, ending_on, at_place, read_on, size, lines, item_lines, item_size, fault}
use Rattle.packet.specs.declared.bounded.Bounded.{Bounded}
use Rattle.policy.specs.declared.node.Node.{Node}
use Rattle.text.specs.View.{made_of, shapes_in}
use Rattle.std.proofs.lemmas.Bool.Decides.{nat_tests}
use Rattle.text.proofs.Clash.{err_ok}
use Rattle.text.proofs.Runs.{item_token, item_within, lines_first}

ends_held : (s : Reading) (ds : List Due) → 0 < length ds → ending_on s ds ≡ Err Word
ends_held s [] h = absurd (omega arith)
ends_held s (d ∷ ds) h = refl

pub finish_inside : (s : Reading) → 0 < length s.brackets → ending s ≡ Err Word
unfolding ending
finish_inside s h = ends_held s s.brackets h

-- outside brackets, the nodes of what was read, or none where there is no form
pub finish_outside : (s : Reading) (b : Bounded Node 64) → s.brackets ≡ [] → reverse s.nodes ≡ shapes_in b → ending s ≡ made_of {E = ReaderCause} (Ok (then_some s.joins b))
unfolding ending
finish_outside s b e is = ap (ending_on s) e ∙ go s.joins
  where
    go : (j : Bool) → ◌≡◌ {A = Result (List Shape) ReaderCause} (Ok (cond j (reverse s.nodes) (numbered empty_tree))) (made_of {E = ReaderCause} (Ok (then_some j b)))
    go true = ap Ok is
    go false = refl

-- what a call answers, as a fault at the place where it was made
pub placed : {A : Type 0} (line byte : ℕ) (r : Result A ReaderCause) (q : Result A Fault) (P : ReaderCause → Fault → Type 0) → MatchResult r (λ x. q ≡ Ok x) (λ e. IsErrAnd q (P e)) → ((e : ReaderCause) (f : Fault) → P e f → f ≡ fault line byte e) → q ≡ at_place line byte r
placed line byte (Ok x) q P h k = h
placed line byte (Err e) (Ok x) P h k = absurd h
placed line byte (Err e) (Err f) P h k = ap Err (k e f h)

-- nodes that are handed on
pub made_placed : (line byte : ℕ) (r : Result (Option (Bounded Node 64)) ReaderCause) → made_of (at_place line byte r) ≡ at_place line byte (made_of r)
made_placed line byte (Ok None) = refl
made_placed line byte (Ok (Some b)) = refl
made_placed line byte (Err e) = refl

pub one_line : (w : List ℕ) → item_lines w ≤ 1
one_line w = grind (arith, nat_tests)

-- the first item of what is left of a text from a byte on, as `&text[byte..]` has it
module _ (text : List ℕ) (byte : ℕ) (k : Class) (w : List ℕ)
    (first : (0 < length (take (length text - byte) (drop byte text))) × (k ≡ byte_class (get_or (take (length text - byte) (drop byte text)) 0 0)) × (w ≡ take (item_size (take (length text - byte) (drop byte text))) (take (length text - byte) (drop byte text)))) where
  abbrev bs : List ℕ
  bs = drop byte text

  here : (0 < length bs) × (k ≡ byte_class (get_or bs 0 0)) × (w ≡ take (item_size bs) bs)
  here = subst (λ x. (0 < length x) × (k ≡ byte_class (get_or x 0 0)) × (w ≡ take (item_size x) x)) (take_rest text byte) first

  whole : length w ≡ item_size bs
  whole = ap length here.2 ∙ length-take-le (item_size bs) bs (item_within bs here.0).1

  left : drop (byte + length w) text ≡ drop (item_size bs) bs
  left = ap (λ n. drop (byte + n) text) whole ∙ sym (drop-drop (item_size bs) byte text)

  cut : bs ≡ w ++ drop (byte + length w) text
  cut = sym (take-append-drop (item_size bs) bs) ∙ λ i. sym here.2 i ++ sym left i

  some : 0 < length w
  some = omega (arith, whole, item_within bs here.0)

  -- it has a byte, and ends within the text
  pub inside : (0 < length w) × (byte + length w ≤ length text)
  inside = (some, omega (arith, whole, item_within bs here.0, here.0, length-drop byte text))

  module _ (line : ℕ) (s t : Reading) {U : Type 0} (u : Result U ReaderCause) (takes : on_token s (token k w) ≡ answered u t) where
    -- what follows it is read on from the place past it
    goes : read_on line byte s (tokens bs) ≡ and_then (at_place line byte (answered u t)) (λ r. read_on (line + item_lines w) (byte + length w) r (tokens (drop (byte + length w) text)))
    goes =
        let c = item_token bs w (drop (byte + length w) text) cut here.0 whole in
        let item : Token = token (byte_class (get_or bs 0 0)) w in
        let head : get_or bs 0 0 ≡ get_or w 0 0 = ap (λ x. get_or x 0 0) cut ∙ get_or_append_left w (drop (byte + length w) text) 0 0 some in
        let ends : lines item ≡ item_lines w = lines_first (get_or bs 0 0) w ∙ ap (λ b. cond (eqb b 10) 1 0) head in
        let taken : on_token s item ≡ answered u t = ap (λ c. on_token s (token c w)) (sym here.1) ∙ takes in
        ap (read_on line byte s) c.0
        ∙ (ap (λ n. and_then (at_place line byte (on_token s item)) (λ r. read_on (line + n) (byte + size item) r (tokens (drop (byte + length w) text)))) ends
        ∙ (ap (λ n. and_then (at_place line byte (on_token s item)) (λ r. read_on (line + item_lines w) (byte + n) r (tokens (drop (byte + length w) text)))) c.1
        ∙ ap (λ x. and_then (at_place line byte x) (λ r. read_on (line + item_lines w) (byte + length w) r (tokens (drop (byte + length w) text)))) taken))

    pub item_read : (x : U) → at_place line byte u ≡ Ok x → read_on line byte s (tokens bs) ≡ read_on (line + item_lines w) (byte + length w) t (tokens (drop (byte + length w) text))
    item_read x e = goes ∙ go u e
      where
        go : (v : Result U ReaderCause) → at_place line byte v ≡ Ok x → and_then (at_place line byte (answered v t)) (λ r. read_on (line + item_lines w) (byte + length w) r (tokens (drop (byte + length w) text))) ≡ read_on (line + item_lines w) (byte + length w) t (tokens (drop (byte + length w) text))
        go (Ok y) p = refl
        go (Err y) p = absurd (err_ok p)

    pub item_refused : (f : Fault) → at_place line byte u ≡ Err f → read_on line byte s (tokens bs) ≡ Err f
    item_refused f e = goes ∙ go u e
      where
        go : (v : Result U ReaderCause) → at_place line byte v ≡ Err f → and_then (at_place line byte (answered v t)) (λ r. read_on (line + item_lines w) (byte + length w) r (tokens (drop (byte + length w) text))) ≡ Err f
        go (Ok y) p = absurd (err_ok (sym p))
        go (Err y) p = let q : fault line byte y ≡ f = cc in ap Err q
