-- A refused text is refused at its first wrong item.
use Rattle.std.proofs.Common.{◌≡◌, ℕ, ◌+◌, List, [], ◌∷◌, ◌++◌, Ok, Err, Result, sym, refl, ap, ◌∙◌, subst, arith}
use Rattle.packet.specs.declared.fault.Fault.{Fault}
use Rattle.packet.specs.declared.fault.ReaderCause.{ReaderCause}
use Rattle.text.specs.Dues.{Due}
use Rattle.text.specs.Places.{NothingWrong, Stops, WrongNext}
use Rattle.text.specs.Steps.{Reading, and_then}
use Rattle.text.specs.Text.{Token, at_place, ending, ending_on, fault, lines, on_token, read_on, size}
use Rattle.text.proofs.Clash.{err_ok}

-- at the end of some items nothing is wrong but that it comes too soon
fine_end : (line byte : ℕ) (s : Reading) → NothingWrong line byte (at_place line byte (ending s))
unfolding ending
fine_end line byte s = go s.brackets
  where
    go : (ds : List Due) → NothingWrong line byte (at_place line byte (ending_on s ds))
    go [] = tt
    go (d ∷ ds) = refl

module _ (f : Fault) where
  at_end : (line byte : ℕ) (s : Reading) (x : Result _ ReaderCause) → ending s ≡ x → at_place line byte x ≡ Err f → Stops line byte s [] f
  at_end line byte s (Ok ns) q e = absurd (err_ok (sym e))
  at_end line byte s (Err w) q e = record {
    before = [];
    rest = [];
    cut = refl;
    at_line = line;
    at_byte = byte;
    cause = w;
    is = let k : fault line byte w ≡ f = cc in sym k;
    line_is = omega arith;
    byte_is = omega arith;
    fine = fine_end line byte s;
    wrong = ap (at_place line byte) q ∙ e;
  }

  -- an item goes through, and the rest stops later
  later : (line byte : ℕ) (s r : Reading) (t : Token) (ts : List Token) → on_token s t ≡ Ok r → Stops (line + lines t) (byte + size t) r ts f → Stops line byte s (t ∷ ts) f
  later line byte s r t ts q st =
      let through : (us : List Token) → read_on line byte s (t ∷ us) ≡ read_on (line + lines t) (byte + size t) r us = λ us. ap (λ x. and_then (at_place line byte x) (λ v. read_on (line + lines t) (byte + size t) v us)) q in
      record {
        before = t ∷ st.before;
        rest = st.rest;
        cut = ap (λ us. t ∷ us) st.cut;
        at_line = st.at_line;
        at_byte = st.at_byte;
        cause = st.cause;
        is = st.is;
        line_is = omega (arith, st.line_is);
        byte_is = omega (arith, st.byte_is);
        fine = subst (λ x. NothingWrong st.at_line st.at_byte x) (sym (through st.before)) st.fine;
        wrong = wrong_on st.before st.rest through st.wrong;
      }
    where
      wrong_on : (before rest : List Token) → ((us : List Token) → read_on line byte s (t ∷ us) ≡ read_on (line + lines t) (byte + size t) r us) → WrongNext (read_on (line + lines t) (byte + size t) r) f before rest → WrongNext (read_on line byte s) f (t ∷ before) rest
      wrong_on before [] through w = through before ∙ w
      wrong_on before (u ∷ us) through w = λ more. through (before ++ u ∷ more) ∙ w more

  -- the next item goes through, or is wrong
  next : (line byte : ℕ) (s : Reading) (t : Token) (ts : List Token) (x : Result Reading ReaderCause) → on_token s t ≡ x → ((r : Reading) → read_on (line + lines t) (byte + size t) r ts ≡ Err f → Stops (line + lines t) (byte + size t) r ts f) → and_then (at_place line byte x) (λ v. read_on (line + lines t) (byte + size t) v ts) ≡ Err f → Stops line byte s (t ∷ ts) f
  next line byte s t ts (Ok r) q rest e = later line byte s r t ts q (rest r e)
  next line byte s t ts (Err w) q rest e = record {
    before = [];
    rest = t ∷ ts;
    cut = refl;
    at_line = line;
    at_byte = byte;
    cause = w;
    is = let k : fault line byte w ≡ f = cc in sym k;
    line_is = omega arith;
    byte_is = omega arith;
    fine = fine_end line byte s;
    wrong = λ more. ap (λ y. and_then (at_place line byte y) (λ v. read_on (line + lines t) (byte + size t) v more)) q ∙ e;
  }

  pub stops : (line byte : ℕ) (s : Reading) (ts : List Token) → read_on line byte s ts ≡ Err f → Stops line byte s ts f
  stops line byte s [] e = at_end line byte s (ending s) refl e
  stops line byte s (t ∷ ts) e = next line byte s t ts (on_token s t) refl (λ r. stops (line + lines t) (byte + size t) r ts) e
