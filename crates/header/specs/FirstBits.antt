-- The first bits of numbers of w bits.
use Rattle.std.specs.Prelude.{◌≡◌, ℕ, ◌+◌, ◌-◌, ◌*◌, ◌/◌, ◌%◌, ◌^◌, ◌<◌, ◌≤◌, ◌≢◌}
use Rattle.std.proofs.Common.{sym, ap, subst, ◌∙◌, inl, inr, div-lt_iff_lt-mul, arith, pow_pos, shr-shr}
use Rattle.std.proofs.Math.Nat.{div-eq_of_lt}
use Rattle.std.proofs.lemmas.Bool.{cases_eq}
use Rattle.std.proofs.lemmas.Nat.{shl-shr}

-- numbers that agree on b first bits agree on fewer
pub fewer : (w a b x y : ℕ) → a ≤ b → b ≤ w → x / 2 ^ (w - b) ≡ y / 2 ^ (w - b) → x / 2 ^ (w - a) ≡ y / 2 ^ (w - a)
fewer w a b x y ab bw e =
    let s : w - a ≡ (w - b) + (b - a) = omega arith in
    rw s (sym (shr-shr x (w - b) (b - a)) ∙ ap (λ z. z / 2 ^ (b - a)) e ∙ shr-shr y (w - b) (b - a))

pub no_bits : (w x : ℕ) → x < 2 ^ w → x / 2 ^ (w - 0) ≡ 0
no_bits w x h = let s : w - 0 ≡ w = omega arith in rw s (div-eq_of_lt h)

pub all_bits : (w x : ℕ) → x / 2 ^ (w - w) ≡ x
all_bits w x = let s : w - w ≡ 0 = omega arith in rw s (omega arith)

-- a number that differs in its last bit alone
flip : (q : ℕ) → (r : ℕ) × (r / 2 ≡ q / 2) × (r ≢ q)
flip q = elim (cases_eq (q % 2) 0) [ inl e ↦ (q + 1, omega arith, omega arith) | inr e ↦ (q - 1, omega arith, omega arith) ]

-- whatever is cut off past the last bit does not see the change
past_flip : (e j y r : ℕ) → r / 2 ≡ y / 2 ^ e / 2 → r * 2 ^ e / 2 ^ (e + (1 + j)) ≡ y / 2 ^ (e + (1 + j))
past_flip e j y r half =
    sym (shr-shr (r * 2 ^ e) e (1 + j))
    ∙ ap (λ z. z / 2 ^ (1 + j)) (shl-shr r e)
    ∙ sym (shr-shr r 1 j)
    ∙ ap (λ z. z / 2 ^ j) half
    ∙ shr-shr (y / 2 ^ e) 1 j
    ∙ shr-shr y e (1 + j)

pub below : (w x : ℕ) → x / 2 ^ w ≡ 0 → x < 2 ^ w
below w x h = let one : x / 2 ^ w < 1 = omega arith in omega (arith, (div-lt_iff_lt-mul (pow_pos w)).0 one)

-- a number that agrees on b first bits, and on no more
pub apart : (w a b y : ℕ) → b < a → a ≤ w → y < 2 ^ w → (x : ℕ) × (x < 2 ^ w) × (x / 2 ^ (w - b) ≡ y / 2 ^ (w - b)) × (x / 2 ^ (w - a) ≢ y / 2 ^ (w - a))
apart w a b y ba aw small =
    let e = w - a in
    let r = flip (y / 2 ^ e) in
    let x = r.0 * 2 ^ e in
    let sw : w ≡ e + (1 + (a - 1)) = omega arith in
    let sb : w - b ≡ e + (1 + (a - b - 1)) = omega arith in (
      x,
      below w x (subst (λ n. x / 2 ^ n ≡ y / 2 ^ n) (sym sw) (past_flip e (a - 1) y r.0 r.1) ∙ div-eq_of_lt small),
      subst (λ n. x / 2 ^ n ≡ y / 2 ^ n) (sym sb) (past_flip e (a - b - 1) y r.0 r.1),
      λ h. r.2 (sym (shl-shr r.0 e) ∙ h),
    )
