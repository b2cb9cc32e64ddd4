-- What each item does to a reading, case by case.
use Rattle.std.proofs.Common.{◌≡◌, ℕ, ◌<◌, ◌≤◌, true, false, ltb, List, [], ◌∷◌, map, length, Some, None, Ok, Err, Result, sym, refl, ap, ◌∙◌, arith}
use Rattle.std.proofs.lemmas.List.{length-map}
use Rattle.std.proofs.lemmas.Bool.{cond-true, cond-false, lt-ltb, le-ltb}
use Rattle.policy.specs.declared.node.Kind.TheVariants.{Policy}
use Rattle.packet.specs.declared.fault.ReaderCause.{ReaderCause}
use Rattle.packet.specs.declared.fault.ReaderCause.TheVariants.{Word, Depth, Nodes}
use Rattle.text.specs.declared.due.Due as code
use Rattle.policy.specs.declared.node.Node as nodes
use Rattle.policy.specs.Shapes.{Shape, shape}
use Rattle.text.specs.Dues.{Due, due_of}
use Rattle.text.specs.Dues.Due.{d_head}
use Rattle.text.specs.Steps.{Reading, Part, part_due, closes, fill, grown, closed, close_node, closing_on, word_on, open_part, opening_on, line_on, with_brackets, opening, closing, line_ending, wording, and_then}

pub add_full : (n : Shape) (xs : List nodes.Node) → 64 ≤ length xs → grown n (map shape xs) ≡ Err Nodes
add_full n xs h = cond-false (ltb (length (map shape xs)) 64) _ _ (le-ltb _ _ (omega (arith, length-map xs shape)))

pub add_room : (n : nodes.Node) (xs ys : List nodes.Node) → length xs < 64 → ys ≡ n ∷ xs → grown (shape n) (map shape xs) ≡ Ok (map shape ys)
add_room n xs ys h e = cond-true (ltb (length (map shape xs)) 64) _ _ (lt-ltb _ _ (omega (arith, length-map xs shape))) ∙ ap (λ x. Ok (map shape x)) (sym e)

line_held : (s : Reading) (ds : List Due) → 0 < length ds → line_on s ds ≡ Err Word
line_held s [] h = absurd (omega arith)
line_held s (d ∷ ds) h = refl

pub line_inside : (s : Reading) → 0 < length s.brackets → line_ending s ≡ Err Word
unfolding line_ending
line_inside s h = line_held s s.brackets h

pub closed_inside : (s : Reading) (ns : List Shape) (ds : List Due) → 0 < length ds → closed s ns ds ≡ Ok (record { brackets = ds; nodes = ns; formed = s.formed; joins = s.joins })
closed_inside s ns [] h = absurd (omega arith)
closed_inside s ns (d ∷ ds) h = refl

module _ (s : Reading) (none : s.brackets ≡ []) where
  pub open_formed : s.formed ≡ true → opening s ≡ Err Word
  unfolding opening
  open_formed f = ap (opening_on s) none ∙ cond-true s.formed _ _ f

  pub open_form : (ds : List Due) → s.formed ≡ false → ds ≡ d_head Policy ∷ [] → opening s ≡ Ok (with_brackets s ds)
  unfolding opening
  open_form ds f e = ap (opening_on s) none ∙ (cond-false s.formed _ _ f ∙ ap (λ x. Ok (with_brackets s x)) (sym e))

  pub close_none : closing s ≡ Err Word
  unfolding closing
  close_none = ap (closing_on s) none

  pub word_none : (w : List ℕ) → wording s w ≡ Err Word
  unfolding wording
  word_none w = ap (word_on s w) none

  pub line_next : line_ending s ≡ Ok (record { brackets = s.brackets; nodes = s.nodes; formed = false; joins = s.joins })
  unfolding line_ending
  line_next = ap (line_on s) none ∙ ap (λ x. Ok (record { brackets = x; nodes = s.nodes; formed = false; joins = s.joins })) (sym none)

module _ (s : Reading) (d : Due) (xs : List code.Due) (top : s.brackets ≡ d ∷ map due_of xs) where
  pub open_no : part_due d ≡ None → opening s ≡ Err Word
  unfolding opening
  open_no h = ap (opening_on s) top ∙ ap (open_part s (map due_of xs)) h

  pub open_deep : (p : Part) → part_due d ≡ Some p → 15 ≤ length xs → opening s ≡ Err Depth
  unfolding opening
  open_deep p h n = ap (opening_on s) top ∙ (ap (open_part s (map due_of xs)) h ∙ cond-false (ltb (length (map due_of xs)) 15) _ _ (le-ltb _ _ (omega (arith, length-map xs due_of))))

  pub open_into : (p : Part) (ds : List Due) → part_due d ≡ Some p → length xs < 15 → ds ≡ d_head p.kind ∷ p.after ∷ map due_of xs → opening s ≡ Ok (with_brackets s ds)
  unfolding opening
  open_into p ds h n e = ap (opening_on s) top ∙ (ap (open_part s (map due_of xs)) h ∙ (cond-true (ltb (length (map due_of xs)) 15) _ _ (lt-ltb _ _ (omega (arith, length-map xs due_of))) ∙ ap (λ x. Ok (with_brackets s x)) (sym e)))

  pub close_no : closes d ≡ None → closing s ≡ Err Word
  unfolding closing
  close_no h = ap (closing_on s) top ∙ ap (close_node s (map due_of xs)) h

  pub close_with : (n : Shape) (r : Result (List Shape) ReaderCause) → closes d ≡ Some n → grown n s.nodes ≡ r → closing s ≡ and_then r (λ ns. closed s ns (map due_of xs))
  unfolding closing
  close_with n r h a = ap (closing_on s) top ∙ (ap (close_node s (map due_of xs)) h ∙ ap (λ x. and_then x (λ ns. closed s ns (map due_of xs))) a)

  pub word_with : (w : List ℕ) (r : Result Due ReaderCause) → fill d w ≡ r → wording s w ≡ and_then r (λ e. Ok (with_brackets s (e ∷ map due_of xs)))
  unfolding wording
  word_with w r a = ap (word_on s w) top ∙ ap (λ x. and_then x (λ e. Ok (with_brackets s (e ∷ map due_of xs)))) a
