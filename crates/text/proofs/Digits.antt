-- Digits of a base, read one by one.
use Rattle.std.proofs.Common.{◌≡◌, ℕ, ◌+◌, ◌*◌, ◌^◌, ◌<◌, ◌≤◌, Bool, true, false, cond, leb, List, [], ◌∷◌, length, Some, None, Option, sym, refl, ap, ◌∙◌, subst, pow-add, arith}
use Rattle.std.proofs.lemmas.Bool.{cond-true, lt-leb, le-leb, leb-true, leb-false}
use Rattle.std.proofs.lemmas.Bool.Decides.{nat_tests}
use Rattle.std.proofs.Math.Nat.{le-mul_of_pos_right}
use Rattle.text.specs.Values.{and_some, at_most, digit, digit_in, digits, nibble}
use Rattle.text.proofs.Clash.{none_some}
use Rattle.packet.proofs.Trying.{on_some, tries}

-- the digits of base 16
pub digit_sixteen : (b : ℕ) → digit_in 16 b ≡ nibble b
digit_sixteen b = grind (arith, nat_tests)

-- the digits of base 10
pub digit_ten : (b : ℕ) → digit_in 10 b ≡ digit b
digit_ten b = grind (arith, nat_tests)

-- the same digits give the same number
pub digits_same : (base : ℕ) (one two : ℕ → Option ℕ) → ((b : ℕ) → one b ≡ two b) → (n : ℕ) (w : List ℕ) → digits base one n w ≡ digits base two n w
digits_same base one two e n [] = refl
digits_same base one two e n (b ∷ bs) = ap (λ o. and_some o (λ d. digits base one (n * base + d) bs)) (e b) ∙ go (two b) (λ d. digits_same base one two e (n * base + d) bs)
  where
    go : (o : Option ℕ) → ((d : ℕ) → digits base one (n * base + d) bs ≡ digits base two (n * base + d) bs) → and_some o (λ d. digits base one (n * base + d) bs) ≡ and_some o (λ d. digits base two (n * base + d) bs)
    go None more = refl
    go (Some d) more = more d

-- what one digit more makes of a number, unless it is past the limit
abbrev pub next : ℕ → ℕ → ℕ → ℕ → Option ℕ
next limit base n b = and_some (digit_in base b) (λ d. at_most limit (Some (n * base + d)))

module _ (limit base : ℕ) (some : 0 < base) where
  -- digits that are past the limit already stay past it
  pub past_limit : (one : ℕ → Option ℕ) (n : ℕ) (bs : List ℕ) → limit < n → at_most limit (digits base one n bs) ≡ None
  past_limit one n [] h = ap (λ t. cond t (Some n) None) (lt-leb n limit h)
  past_limit one n (b ∷ bs) h = go (one b) (λ d. past_limit one (n * base + d) bs (omega (arith, le-mul_of_pos_right n some)))
    where
      go : (o : Option ℕ) → ((d : ℕ) → at_most limit (digits base one (n * base + d) bs) ≡ None) → at_most limit (and_some o (λ d. digits base one (n * base + d) bs)) ≡ None
      go None later = refl
      go (Some d) later = later d

  -- a limit at each digit is a limit at the end
  pub tries_digits : (n : ℕ) (w : List ℕ) → n ≤ limit → tries (next limit base) n w ≡ at_most limit (digits base (digit_in base) n w)
  tries_digits n [] h = sym (cond-true (leb n limit) (Some n) None (le-leb n limit h))
  tries_digits n (b ∷ bs) h = go (digit_in base b) (λ m. rest m (λ k. tries_digits m bs k) (leb m limit) refl)
    where
      rest : (m : ℕ) → (m ≤ limit → tries (next limit base) m bs ≡ at_most limit (digits base (digit_in base) m bs)) → (t : Bool) → leb m limit ≡ t → on_some (cond t (Some m) None) (λ k. tries (next limit base) k bs) ≡ at_most limit (digits base (digit_in base) m bs)
      rest m more true e = more (leb-true m limit e)
      rest m more false e = sym (past_limit (digit_in base) m bs (leb-false m limit e))

      go : (o : Option ℕ) → ((m : ℕ) → on_some (at_most limit (Some m)) (λ k. tries (next limit base) k bs) ≡ at_most limit (digits base (digit_in base) m bs)) → on_some (and_some o (λ d. at_most limit (Some (n * base + d)))) (λ k. tries (next limit base) k bs) ≡ at_most limit (and_some o (λ d. digits base (digit_in base) (n * base + d) bs))
      go None more = refl
      go (Some d) more = more (n * base + d)

-- a limit that is kept changes nothing
pub at_most_kept : (limit : ℕ) (o : Option ℕ) → ((n : ℕ) → o ≡ Some n → n ≤ limit) → at_most limit o ≡ o
at_most_kept limit None h = refl
at_most_kept limit (Some n) h = cond-true (leb n limit) (Some n) None (le-leb n limit (h n refl))

nibble_small : (b d : ℕ) → nibble b ≡ Some d → d < 16
nibble_small b d e = grind (arith, nat_tests)

-- a number of k digits of base 16, and as many more
hex_small : (n k : ℕ) (w : List ℕ) (m : ℕ) → n < 16 ^ k → digits 16 nibble n w ≡ Some m → m < 16 ^ (k + length w)
hex_small n k [] m h e = let q : n ≡ m = cc in let l : k + 0 ≡ k = omega arith in subst (λ i. m < 16 ^ i) (sym l) (omega arith)
hex_small n k (b ∷ bs) m h e = go (nibble b) refl e (λ d s p. hex_small (n * 16 + d) (k + 1) bs m (omega (arith, pow-add 16 k 1)) p)
  where
    go : (o : Option ℕ) → nibble b ≡ o → and_some o (λ d. digits 16 nibble (n * 16 + d) bs) ≡ Some m → ((d : ℕ) → d < 16 → digits 16 nibble (n * 16 + d) bs ≡ Some m → m < 16 ^ (k + 1 + length bs)) → m < 16 ^ (k + length (b ∷ bs))
    go None q p more = absurd (none_some p)
    go (Some d) q p more = let l : k + length (b ∷ bs) ≡ k + 1 + length bs = omega arith in subst (λ i. m < 16 ^ i) (sym l) (more d (nibble_small b d q) p)

-- twelve digits of base 16 have 48 bits
pub hex_fits : (w : List ℕ) (m : ℕ) → length w ≡ 12 → digits 16 nibble 0 w ≡ Some m → m ≤ 18446744073709551615
hex_fits w m l e =
    let k : 0 + length w ≡ 12 = omega arith in
    let h : m < 16 ^ 12 = subst (λ i. m < 16 ^ i) k (hex_small 0 0 w m (omega arith) e) in omega arith
