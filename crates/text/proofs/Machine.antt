-- The reader's steps over a text without spaces.
use Rattle.std.proofs.Common.{◌≡◌, ℕ, ◌<◌, Bool, ltb, List, [], ◌∷◌, length, Some, Ok, Err, Result, ap, ◌∙◌}
use Rattle.std.proofs.lemmas.Bool.{cond-true, lt-ltb}
use Rattle.packet.specs.declared.fault.ReaderCause.{ReaderCause}
use Rattle.packet.specs.declared.fault.ReaderCause.TheVariants.{Byte, Depth, Nodes}
use Rattle.policy.specs.Shapes.{Shape}
use Rattle.text.specs.Dues.{Due}
use Rattle.text.specs.Dues.Due.{d_head}
use Rattle.text.specs.Steps.{Reading, Part, part_due, closes, fill, closed, close_node, open_part, opening, closing, line_ending, wording, and_then}
use Rattle.text.specs.Text.{ending}
use Rattle.text.specs.Grammar.{Sign, s_open, s_close, s_line, s_other, s_word}

abbrev pub st : Bool → Bool → List Due → List Shape → Reading
st f j ds ns = record { brackets = ds; nodes = ns; formed = f; joins = j }

abbrev pub move : Reading → Sign → Result Reading ReaderCause
move s s_open = opening s
move s s_close = closing s
move s s_line = line_ending s
move s s_other = Err Byte
move s (s_word w) = wording s w

abbrev pub run : Reading → List Sign → Result (List Shape) ReaderCause
run s [] = ending s
run s (t ∷ ts) = and_then (move s t) (λ r. run r ts)

module _ (f j : Bool) (ds : List Due) (ns : List Shape) (ts : List Sign) where
  pub run_open : (d : Due) (p : Part) → part_due d ≡ Some p → length ds < 15 → run (st f j (d ∷ ds) ns) (s_open ∷ ts) ≡ run (st f j (d_head p.kind ∷ p.after ∷ ds) ns) ts
  unfolding opening
  run_open d p e h =
      ap (λ x. and_then (open_part (st f j (d ∷ ds) ns) ds x) (λ r. run r ts)) e
      ∙ ap (λ x. and_then x (λ r. run r ts)) (cond-true (ltb (length ds) 15) (Ok (st f j (d_head p.kind ∷ p.after ∷ ds) ns)) (Err Depth) (lt-ltb _ _ h))

  pub run_word : (d e : Due) (w : List ℕ) → fill d w ≡ Ok e → run (st f j (d ∷ ds) ns) (s_word w ∷ ts) ≡ run (st f j (e ∷ ds) ns) ts
  unfolding wording
  run_word d e w h = ap (λ x. and_then (and_then x (λ y. Ok (st f j (y ∷ ds) ns))) (λ r. run r ts)) h

  pub run_closing : (d : Due) (n : Shape) → closes d ≡ Some n → length ns < 64 → run (st f j (d ∷ ds) ns) (s_close ∷ ts) ≡ and_then (closed (st f j (d ∷ ds) ns) (n ∷ ns) ds) (λ r. run r ts)
  unfolding closing
  run_closing d n e h =
      ap (λ x. and_then (close_node (st f j (d ∷ ds) ns) ds x) (λ r. run r ts)) e
      ∙ ap (λ x. and_then (and_then x (λ ms. closed (st f j (d ∷ ds) ns) ms ds)) (λ r. run r ts)) (cond-true (ltb (length ns) 64) (Ok (n ∷ ns)) (Err Nodes) (lt-ltb _ _ h))
