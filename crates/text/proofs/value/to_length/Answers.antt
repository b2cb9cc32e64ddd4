-- No bit past the length is set.
use Rattle.std.proofs.Common.{◌≡◌, ℕ, ◌-◌, ◌*◌, ◌%◌, ◌^◌, ◌<◌, ◌≤◌, None, sym, ap, ◌∙◌, mod-eq_of_lt, one-mul, arith}
use native.Mathlib.Nat.{pow-le-pow_right}
use Rattle.std.proofs.lemmas.Bool.{cond-true, eq-eqb}
use Rattle.packet.specs.Fields.{width}
use Rattle.packet.specs.Tests.{tested}
use Rattle.packet.specs.declared.field.Field.{Field}
use Rattle.packet.specs.declared.field.Field.TheVariants.{DlSrc, DlDst, DlTyp, NwSrc, NwDst, NwProto, TpSrc, TpDst}
use Rattle.text.proofs.value.to_length.Goals as goal

narrow : (f : Field) → width f ≤ 48
narrow DlSrc = omega arith
narrow DlDst = omega arith
narrow DlTyp = omega arith
narrow NwSrc = omega arith
narrow NwDst = omega arith
narrow NwProto = omega arith
narrow TpSrc = omega arith
narrow TpDst = omega arith

-- a shift by at most 48 loses no bit
shifted : (k : ℕ) → k ≤ 48 → 1 * 2 ^ k % 18446744073709551616 ≡ 2 ^ k
shifted k h =
    let z : 0 < 2 = omega arith in
    let p : 2 ^ k ≤ 2 ^ 48 = pow-le-pow_right z h in
    ap (λ x. x % 18446744073709551616) (one-mul (2 ^ k)) ∙ mod-eq_of_lt (omega arith)

pub returns : goal.returns
returns c =
    let f = c.args.field in
    let n = c.args.n in
    let l = c.args.length in
    let wide : c.width.result - l ≡ width f - l = ap (λ w. w - l) c.width.ensures in
    let past : 1 * 2 ^ (c.width.result - l) % 18446744073709551616 ≡ 2 ^ (width f - l) = ap (λ k. 1 * 2 ^ k % 18446744073709551616) wide ∙ shifted (width f - l) (omega (arith, narrow f)) in
    let clear : n % 2 ^ (width f - l) ≡ 0 = sym (λ i. c.from.ensures i % past i) ∙ c.if-from-past-ne0.false in
    c.new.ensures ∙ (ap (λ x. tested f x l) c.from-2.ensures ∙ sym (cond-true _ (tested f n l) None (eq-eqb _ _ clear)))
