-- The first token of a text.
use Rattle.std.proofs.Common.{◌≡◌, ℕ, suc, ◌<◌, ◌≤◌, true, false, cond, eqb, List, [], ◌∷◌, ◌++◌, length, get_or, take, drop, sym, refl, ap, ◌∙◌, ⊎_elim, true≢false, zero-le, arith}
use mathlib.Core.Bool.{false≢true}
use Rattle.std.proofs.lemmas.Bool.Decides.{nat_tests}
use Rattle.std.proofs.lemmas.Bool.{cond-true, cond-false, cases_Bool}
use Rattle.std.proofs.lemmas.List.{length-take-le, take_at, drop_at}
use Rattle.text.specs.declared.class.Class.{Class}
use Rattle.text.specs.declared.class.Class.TheVariants.{Opening, Closing, Space, LineEnd, Letter, Digit, Point, Stroke, Other}
use Rattle.text.specs.Bytes.{byte_class}
use Rattle.std.specs.List.{prefix_len}
use Rattle.text.specs.Text.{Token, t_word, token, in_word, grow, tokens, run, item_size, size, lines}

-- the run at the front is the longest prefix of bytes of words
pub run_prefix : (w : List ℕ) → prefix_len (λ b. in_word (byte_class b)) w ≡ run w
run_prefix [] = refl
run_prefix (b ∷ bs) = ap (λ n. cond (in_word (byte_class b)) n 0) (omega (arith, run_prefix bs))

-- a byte that stands in no word begins a token of its own, before which a word stays short
alone : (b : ℕ) (k : Class) (ts : List Token) → in_word k ≡ false → grow b (token k [] ∷ ts) ≡ t_word (b ∷ []) ∷ token k [] ∷ ts
alone b Opening ts h = refl
alone b Closing ts h = refl
alone b Space ts h = refl
alone b LineEnd ts h = refl
alone b Other ts h = refl
alone b Letter ts h = absurd (true≢false h)
alone b Digit ts h = absurd (true≢false h)
alone b Point ts h = absurd (true≢false h)
alone b Stroke ts h = absurd (true≢false h)

module _ (b c : ℕ) (cs : List ℕ) where
  longer : in_word (byte_class c) ≡ true → grow c (tokens cs) ≡ t_word (c ∷ take (run cs) cs) ∷ tokens (drop (run cs) cs) →
      grow b (tokens (c ∷ cs)) ≡ t_word (b ∷ take (run (c ∷ cs)) (c ∷ cs)) ∷ tokens (drop (run (c ∷ cs)) (c ∷ cs))
  longer h ih =
      let n : run (c ∷ cs) ≡ suc (run cs) = cond-true (in_word (byte_class c)) (suc (run cs)) 0 h in
      ap (grow b) (cond-true (in_word (byte_class c)) (grow c (tokens cs)) (token (byte_class c) [] ∷ tokens cs) h ∙ ih)
      ∙ ap (λ k. t_word (b ∷ take k (c ∷ cs)) ∷ tokens (drop k (c ∷ cs))) (sym n)

  ends : in_word (byte_class c) ≡ false → grow b (tokens (c ∷ cs)) ≡ t_word (b ∷ take (run (c ∷ cs)) (c ∷ cs)) ∷ tokens (drop (run (c ∷ cs)) (c ∷ cs))
  ends h =
      let n : run (c ∷ cs) ≡ 0 = cond-false (in_word (byte_class c)) (suc (run cs)) 0 h in
      let t : tokens (c ∷ cs) ≡ token (byte_class c) [] ∷ tokens cs = cond-false (in_word (byte_class c)) (grow c (tokens cs)) (token (byte_class c) [] ∷ tokens cs) h in
      ap (grow b) t ∙ (alone b (byte_class c) (tokens cs) h ∙ (ap (λ x. t_word (b ∷ []) ∷ x) (sym t) ∙ ap (λ k. t_word (b ∷ take k (c ∷ cs)) ∷ tokens (drop k (c ∷ cs))) (sym n)))

after : (b : ℕ) (bs : List ℕ) → grow b (tokens bs) ≡ t_word (b ∷ take (run bs) bs) ∷ tokens (drop (run bs) bs)
after b [] = refl
after b (c ∷ cs) = ⊎_elim (λ h. longer b c cs h (after c cs)) (ends b c cs) (cases_Bool (in_word (byte_class c)))

-- the first token of a text that begins with a word, and of any other
pub word_first : (b : ℕ) (bs : List ℕ) → in_word (byte_class b) ≡ true → tokens (b ∷ bs) ≡ t_word (b ∷ take (run bs) bs) ∷ tokens (drop (run bs) bs)
word_first b bs h = cond-true (in_word (byte_class b)) (grow b (tokens bs)) (token (byte_class b) [] ∷ tokens bs) h ∙ after b bs

pub other_first : (b : ℕ) (bs : List ℕ) → in_word (byte_class b) ≡ false → tokens (b ∷ bs) ≡ token (byte_class b) [] ∷ tokens bs
other_first b bs h = cond-false (in_word (byte_class b)) (grow b (tokens bs)) (token (byte_class b) [] ∷ tokens bs) h

token_word : (k : Class) (w : List ℕ) → in_word k ≡ true → token k w ≡ t_word w
token_word Letter w h = refl
token_word Digit w h = refl
token_word Point w h = refl
token_word Stroke w h = refl
token_word Opening w h = absurd (false≢true h)
token_word Closing w h = absurd (false≢true h)
token_word Space w h = absurd (false≢true h)
token_word LineEnd w h = absurd (false≢true h)
token_word Other w h = absurd (false≢true h)

token_other : (k : Class) (w : List ℕ) → in_word k ≡ false → token k [] ≡ token k w
token_other Opening w h = refl
token_other Closing w h = refl
token_other Space w h = refl
token_other LineEnd w h = refl
token_other Other w h = refl
token_other Letter w h = absurd (true≢false h)
token_other Digit w h = absurd (true≢false h)
token_other Point w h = absurd (true≢false h)
token_other Stroke w h = absurd (true≢false h)

module _ (b : ℕ) (bs : List ℕ) where
  first_word : in_word (byte_class b) ≡ true → tokens (b ∷ bs) ≡ token (byte_class b) (take (item_size (b ∷ bs)) (b ∷ bs)) ∷ tokens (drop (item_size (b ∷ bs)) (b ∷ bs))
  first_word h =
      let n : item_size (b ∷ bs) ≡ suc (run bs) = cond-true (in_word (byte_class b)) (run (b ∷ bs)) 1 h ∙ cond-true (in_word (byte_class b)) (suc (run bs)) 0 h in
      word_first b bs h
      ∙ (ap (λ t. t ∷ tokens (drop (run bs) bs)) (sym (token_word (byte_class b) (b ∷ take (run bs) bs) h))
      ∙ ap (λ k. token (byte_class b) (take k (b ∷ bs)) ∷ tokens (drop k (b ∷ bs))) (sym n))

  first_other : in_word (byte_class b) ≡ false → tokens (b ∷ bs) ≡ token (byte_class b) (take (item_size (b ∷ bs)) (b ∷ bs)) ∷ tokens (drop (item_size (b ∷ bs)) (b ∷ bs))
  first_other h =
      let n : item_size (b ∷ bs) ≡ suc 0 = cond-false (in_word (byte_class b)) (run (b ∷ bs)) 1 h in
      other_first b bs h
      ∙ (ap (λ t. t ∷ tokens bs) (token_other (byte_class b) (b ∷ []) h)
      ∙ ap (λ k. token (byte_class b) (take k (b ∷ bs)) ∷ tokens (drop k (b ∷ bs))) (sym n))

-- a text's first token, and the tokens of the rest
pub first_token : (bs : List ℕ) → 0 < length bs → tokens bs ≡ token (byte_class (get_or bs 0 0)) (take (item_size bs) bs) ∷ tokens (drop (item_size bs) bs)
first_token [] h = absurd (omega arith)
first_token (b ∷ bs) h = ⊎_elim (first_word b bs) (first_other b bs) (cases_Bool (in_word (byte_class b)))

pub run_within : (bs : List ℕ) → run bs ≤ length bs
run_within [] = zero-le
run_within (b ∷ bs) = ⊎_elim
    (λ h. let e = cond-true (in_word (byte_class b)) (suc (run bs)) 0 h in omega (arith, run_within bs))
    (λ h. let e = cond-false (in_word (byte_class b)) (suc (run bs)) 0 h in omega arith)
    (cases_Bool (in_word (byte_class b)))

pub item_within : (bs : List ℕ) → 0 < length bs → (0 < item_size bs) × (item_size bs ≤ length bs)
item_within [] h = absurd (omega arith)
item_within (b ∷ bs) h = ⊎_elim
    (λ t. let n : item_size (b ∷ bs) ≡ suc (run bs) = cond-true (in_word (byte_class b)) (run (b ∷ bs)) 1 t ∙ cond-true (in_word (byte_class b)) (suc (run bs)) 0 t in
    (omega arith, omega (arith, run_within bs)))
    (λ t. let n : item_size (b ∷ bs) ≡ suc 0 = cond-false (in_word (byte_class b)) (run (b ∷ bs)) 1 t in (omega arith, omega arith))
    (cases_Bool (in_word (byte_class b)))

size_token : (k : Class) (w : List ℕ) → size (token k w) ≡ cond (in_word k) (length w) 1
size_token Letter w = refl
size_token Digit w = refl
size_token Point w = refl
size_token Stroke w = refl
size_token Opening w = refl
size_token Closing w = refl
size_token Space w = refl
size_token LineEnd w = refl
size_token Other w = refl

pub size_first : (bs : List ℕ) → 0 < length bs → size (token (byte_class (get_or bs 0 0)) (take (item_size bs) bs)) ≡ item_size bs
size_first bs h = ⊎_elim
    (λ t. size_token (byte_class (get_or bs 0 0)) (take (item_size bs) bs) ∙ (cond-true (in_word (byte_class (get_or bs 0 0))) _ _ t ∙ length-take-le (item_size bs) bs (item_within bs h).1))
    (λ t. size_token (byte_class (get_or bs 0 0)) (take (item_size bs) bs) ∙ (cond-false (in_word (byte_class (get_or bs 0 0))) _ _ t ∙ sym (cond-false (in_word (byte_class (get_or bs 0 0))) (run bs) 1 t)))
    (cases_Bool (in_word (byte_class (get_or bs 0 0))))

pub lines_first : (b : ℕ) (w : List ℕ) → lines (token (byte_class b) w) ≡ cond (eqb b 10) 1 0
lines_first b w = grind (arith, nat_tests)

-- the first item of a text is its first token, and the tokens of the rest follow
pub item_token : (bs w cs : List ℕ) → bs ≡ w ++ cs → 0 < length bs → length w ≡ item_size bs →
    (tokens bs ≡ token (byte_class (get_or bs 0 0)) w ∷ tokens cs) × (size (token (byte_class (get_or bs 0 0)) w) ≡ length w)
item_token bs w cs e h n =
    let front : take (item_size bs) bs ≡ w = ap (take (item_size bs)) e ∙ take_at w cs (item_size bs) n in
    let back : drop (item_size bs) bs ≡ cs = ap (drop (item_size bs)) e ∙ drop_at w cs (item_size bs) n in
    let same : token (byte_class (get_or bs 0 0)) (take (item_size bs) bs) ≡ token (byte_class (get_or bs 0 0)) w = ap (token (byte_class (get_or bs 0 0))) front in
    (first_token bs h ∙ λ i. same i ∷ tokens (back i), ap size (sym same) ∙ (size_first bs h ∙ sym n))
