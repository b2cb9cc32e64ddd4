-- Places and spaces do not change what a text is read as.
use Rattle.std.proofs.Common.{◌≡◌, ℕ, ◌+◌, List, [], ◌∷◌, Ok, Err, Result, ap}
use Rattle.packet.specs.declared.fault.ReaderCause.{ReaderCause}
use Rattle.packet.specs.declared.fault.Fault.{Fault}
use Rattle.policy.specs.Shapes.{Shape}
use Rattle.text.specs.Steps.{Reading, and_then}
use Rattle.text.specs.Text.{Token, t_open, t_close, t_space, t_line, t_other, t_word, at_place, ending, read_on, size}
use Rattle.text.specs.Grammar.{s_open, s_close, s_line, s_other, s_word, signs}
use Rattle.text.proofs.Clash.{err_ok}
use Rattle.text.proofs.Machine.{run, move}

module _ (ns : List Shape) where
  there : (x : Result Reading ReaderCause) (line byte : ℕ) (K : Reading → Result (List Shape) ReaderCause) (L : Reading → Result (List Shape) Fault) →
      ((r : Reading) → K r ≡ Ok ns → L r ≡ Ok ns) → and_then x K ≡ Ok ns → and_then (at_place line byte x) L ≡ Ok ns
  there (Ok r) line byte K L h e = h r e
  there (Err w) line byte K L h e = absurd (err_ok e)

  back : (x : Result Reading ReaderCause) (line byte : ℕ) (K : Reading → Result (List Shape) ReaderCause) (L : Reading → Result (List Shape) Fault) →
      ((r : Reading) → L r ≡ Ok ns → K r ≡ Ok ns) → and_then (at_place line byte x) L ≡ Ok ns → and_then x K ≡ Ok ns
  back (Ok r) line byte K L h e = h r e
  back (Err w) line byte K L h e = absurd (err_ok e)

  there_end : (x : Result (List Shape) ReaderCause) (line byte : ℕ) → x ≡ Ok ns → at_place line byte x ≡ Ok ns
  there_end x line byte e = ap (at_place line byte) e

  back_end : (x : Result (List Shape) ReaderCause) (line byte : ℕ) → at_place line byte x ≡ Ok ns → x ≡ Ok ns
  back_end (Ok m) line byte e = let f : m ≡ ns = cc in ap Ok f
  back_end (Err w) line byte e = absurd (err_ok e)

  pub placed_run : (ts : List Token) (line byte : ℕ) (s : Reading) → run s (signs ts) ≡ Ok ns → read_on line byte s ts ≡ Ok ns
  placed_run [] line byte s e = there_end (ending s) line byte e
  placed_run (t_open ∷ ts) line byte s e = there (move s s_open) line byte (λ r. run r (signs ts)) (λ r. read_on (line + 0) (byte + 1) r ts) (placed_run ts (line + 0) (byte + 1)) e
  placed_run (t_close ∷ ts) line byte s e = there (move s s_close) line byte (λ r. run r (signs ts)) (λ r. read_on (line + 0) (byte + 1) r ts) (placed_run ts (line + 0) (byte + 1)) e
  placed_run (t_space ∷ ts) line byte s e = placed_run ts (line + 0) (byte + 1) s e
  placed_run (t_line ∷ ts) line byte s e = there (move s s_line) line byte (λ r. run r (signs ts)) (λ r. read_on (line + 1) (byte + 1) r ts) (placed_run ts (line + 1) (byte + 1)) e
  placed_run (t_other ∷ ts) line byte s e = there (move s s_other) line byte (λ r. run r (signs ts)) (λ r. read_on (line + 0) (byte + 1) r ts) (placed_run ts (line + 0) (byte + 1)) e
  placed_run (t_word w ∷ ts) line byte s e = there (move s (s_word w)) line byte (λ r. run r (signs ts)) (λ r. read_on (line + 0) (byte + size (t_word w)) r ts) (placed_run ts (line + 0) (byte + size (t_word w))) e

  pub run_placed : (ts : List Token) (line byte : ℕ) (s : Reading) → read_on line byte s ts ≡ Ok ns → run s (signs ts) ≡ Ok ns
  run_placed [] line byte s e = back_end (ending s) line byte e
  run_placed (t_open ∷ ts) line byte s e = back (move s s_open) line byte (λ r. run r (signs ts)) (λ r. read_on (line + 0) (byte + 1) r ts) (run_placed ts (line + 0) (byte + 1)) e
  run_placed (t_close ∷ ts) line byte s e = back (move s s_close) line byte (λ r. run r (signs ts)) (λ r. read_on (line + 0) (byte + 1) r ts) (run_placed ts (line + 0) (byte + 1)) e
  run_placed (t_space ∷ ts) line byte s e = run_placed ts (line + 0) (byte + 1) s e
  run_placed (t_line ∷ ts) line byte s e = back (move s s_line) line byte (λ r. run r (signs ts)) (λ r. read_on (line + 1) (byte + 1) r ts) (run_placed ts (line + 1) (byte + 1)) e
  run_placed (t_other ∷ ts) line byte s e = back (move s s_other) line byte (λ r. run r (signs ts)) (λ r. read_on (line + 0) (byte + 1) r ts) (run_placed ts (line + 0) (byte + 1)) e
  run_placed (t_word w ∷ ts) line byte s e = back (move s (s_word w)) line byte (λ r. run r (signs ts)) (λ r. read_on (line + 0) (byte + size (t_word w)) r ts) (run_placed ts (line + 0) (byte + size (t_word w))) e
