-- A word is added exactly where it gives a number to a field that has none.
use Rattle.std.proofs.Common.{◌≡◌, ℕ, List, Bor, get_or, None, Some, is_some, sym, ap, ◌∙◌, arith, rules}
use Rattle.std.proofs.lemmas.Result.{err_from_is_err_and}
use Rattle.std.proofs.lemmas.Str.Pattern.{IsSplitOnceResult, split_parts}
use Rattle.text.specs.Heads.{named_field}
use Rattle.text.specs.Values.{test_from, full_value}
use Rattle.packet.specs.Fields.{place}
use Rattle.console.specs.Typed.{AddsNone}
use Rattle.console.proofs.Failing.{because_case}
use Rattle.console.proofs.Signs.{never_whole, never_unnamed, never_unsaid, same_field}
use Rattle.console.proofs.packets.Typed.add.Goals as goal

pub returns-in_err-name : goal.returns-in_err-name
returns-in_err-name c =
    let p = err_from_is_err_and c.from_residual.result c.from_residual.ensures.1 in
    let none : c.split_once.result ≡ None = search rules in
    let cut : IsSplitOnceResult 61 c.args.word.now None = rw none at c.split_once.ensures.cases in
    rw (p.1, p.2) (because_case (AddsNone c.args.word.now c.args.self.now) c.in_err-name.field-0.0 (search rules) (λ line f n g. absurd (never_whole g cut)) tt)

pub returns-in_err-field : goal.returns-in_err-field
returns-in_err-field c =
    let p = err_from_is_err_and c.from_residual-in_err-field.result c.from_residual-in_err-field.ensures.1 in
    let parts : Bor (List ℕ) × Bor (List ℕ) = (c.in_ok-name.name, c.in_ok-name.value) in
    let some : c.split_once.result ≡ Some parts = search rules in
    let cut : IsSplitOnceResult 61 c.args.word.now (Some parts) = rw some at c.split_once.ensures.cases in
    let none : c.field_of.result ≡ None = search rules in
    let unnamed = ap named_field (sym c.as_bytes.ensures.value) ∙ sym c.field_of.ensures ∙ none in
    rw (p.1, p.2) (because_case (AddsNone c.args.word.now c.args.self.now) c.in_err-field.field-0.0 (search rules) (λ line f n g. absurd (never_unnamed g parts cut unnamed)) tt)

pub returns-in_err-number : goal.returns-in_err-number
returns-in_err-number c =
    let p = err_from_is_err_and c.from_residual-in_err-number.result c.from_residual-in_err-number.ensures.1 in
    let parts : Bor (List ℕ) × Bor (List ℕ) = (c.in_ok-name.name, c.in_ok-name.value) in
    let some : c.split_once.result ≡ Some parts = search rules in
    let cut : IsSplitOnceResult 61 c.args.word.now (Some parts) = rw some at c.split_once.ensures.cases in
    let field : c.field_of.result ≡ Some c.in_ok-field.field = search rules in
    let named = ap named_field (sym c.as_bytes.ensures.value) ∙ sym c.field_of.ensures ∙ field in
    let none : c.value_of.result ≡ None = search rules in
    let unsaid = ap (λ l. full_value c.in_ok-field.field (test_from c.in_ok-field.field l)) (sym c.as_bytes-2.ensures.value) ∙ sym c.value_of.ensures ∙ none in
    rw (p.1, p.2) (because_case (AddsNone c.args.word.now c.args.self.now) c.in_err-number.field-0.0 (search rules) (λ line f n g. absurd (never_unsaid g parts cut c.in_ok-field.field named unsaid)) tt)

pub returns-then-is_some : goal.returns-then-is_some
returns-then-is_some c =
    let word = c.args.word.now in
    let old = c.args.self.now in
    let parts : Bor (List ℕ) × Bor (List ℕ) = (c.in_ok-name.name, c.in_ok-name.value) in
    let some : c.split_once.result ≡ Some parts = search rules in
    let cut : IsSplitOnceResult 61 c.args.word.now (Some parts) = rw some at c.split_once.ensures.cases in
    let field : c.field_of.result ≡ Some c.in_ok-field.field = search rules in
    let named = ap named_field (sym c.as_bytes.ensures.value) ∙ sym c.field_of.ensures ∙ field in
    because_case (AddsNone word old) c.told.result (search rules)
    (λ line f n g.
    let same = same_field g parts cut c.in_ok-field.field named in
    ap (λ k. is_some (get_or old.numbers (place k) None)) same ∙ ap (λ i. is_some (get_or old.numbers i None)) (sym c.place-place.ensures.is) ∙ sym c.is_some.ensures ∙ c.if-is_some.true)
    tt

pub returns : goal.returns
returns c =
    let parts : Bor (List ℕ) × Bor (List ℕ) = (c.in_ok-name.name, c.in_ok-name.value) in
    let some : c.split_once.result ≡ Some parts = search rules in
    let cut : IsSplitOnceResult 61 c.args.word.now (Some parts) = rw some at c.split_once.ensures.cases in
    let field : c.field_of.result ≡ Some c.in_ok-field.field = search rules in
    let number : c.value_of.result ≡ Some c.in_ok-number.number = search rules in
    let named = ap named_field (sym c.as_bytes.ensures.value) ∙ sym c.field_of.ensures ∙ field in
    let says = ap (λ l. full_value c.in_ok-field.field (test_from c.in_ok-field.field l)) (sym c.as_bytes-2.ensures.value) ∙ sym c.value_of.ensures ∙ number in
    record {
      field = c.in_ok-field.field;
      number = c.in_ok-number.number;
      gives = record { front = c.in_ok-name.name.now; back = c.in_ok-name.value.now; cut = (split_parts 61 c.args.word.now (Some parts) cut (omega arith)).0; names = named; says = says };
      fresh = search rules;
      numbers = search rules;
    }
