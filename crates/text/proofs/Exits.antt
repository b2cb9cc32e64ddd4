-- What is handed on where an option that has to be there is absent.
use Rattle.std.proofs.Common.{◌≡◌, None, Err, Option, Result, ap, ◌∙◌}
use Rattle.std.specs.Option.{ok_or}
use Rattle.std.specs.Result.{IsErrAnd}
use Rattle.std.proofs.lemmas.Result.{err_from_is_err_and}
use Rattle.packet.specs.declared.fault.ReaderCause.{ReaderCause}
use Rattle.packet.specs.declared.fault.ReaderCause.TheVariants.{Word}

-- the cause that `ok_or` names
word_cause : {T : Type 0} (o : Option T) (e : ReaderCause) → o ≡ None → ◌≡◌ {A = Result T ReaderCause} (Err e) (ok_or o Word) → e ≡ Word
word_cause o e none is =
    let named : ◌≡◌ {A = Result _ ReaderCause} (Err e) (Err Word) = is ∙ ap (λ x. ok_or x Word) none in
    cc

-- and what `?` then answers
pub word_handed : {T U : Type 0} (o : Option T) (e : ReaderCause) (r : Result U ReaderCause) → o ≡ None → ◌≡◌ {A = Result T ReaderCause} (Err e) (ok_or o Word) → IsErrAnd r (λ y. y ≡ e) → r ≡ Err Word
word_handed o e r none is handed =
    let p = err_from_is_err_and r handed in
    p.1 ∙ ap Err (p.2 ∙ word_cause o e none is)
