-- Only texts of the grammar are read.
use Rattle.std.proofs.Common.{◌≡◌, ℕ, zero, suc, ◌+◌, ◌<◌, ◌≤◌, Bool, true, false, ltb, List, [], ◌∷◌, reverse, length, Some, None, Ok, Err, codes, Option, sym, refl, ap, ◌∙◌, subst, ⊎_elim, arith}
use Rattle.std.proofs.lemmas.Bool.{cond-true, cond-false, lt-ltb, le-ltb, cases_lt}
use Rattle.packet.specs.declared.fault.ReaderCause.TheVariants.{Word, Value, Nodes}
use Rattle.policy.specs.declared.node.Kind.TheVariants.{Predicate, Policy}
use Rattle.text.specs.declared.due.Op.TheVariants.{And, Or, Not, Send, Both, Keep}
use Rattle.packet.specs.declared.field.Field.{Field}
use Rattle.text.specs.Heads.{name}
use Rattle.text.specs.Values.{sixteen_bits, port_from, test_from}
use Rattle.policy.specs.Shapes.{Shape}
use Rattle.policy.specs.Shapes.Shape.{n_any, n_at, n_is, n_and, n_or, n_not, n_send, n_both, n_keep}
use Rattle.text.specs.Dues.{Due}
use Rattle.text.specs.Dues.Due.{d_head, d_switch, d_value, d_first, d_second, d_ports, d_close}
use Rattle.text.specs.Text.{ending, tokens, read_text}
use Rattle.text.proofs.Spaces.{run_placed}
use Rattle.std.proofs.lemmas.List.{length-reverse}
use Rattle.text.specs.Steps.{opening, closing, line_ending, wording, start, part_due, closes, fill, closed, or_wrong, and_then}
use Rattle.policy.specs.Trees.{Pred, Pol}
use Rattle.policy.specs.Trees.Pred.{any, at, test, and, or, not}
use Rattle.policy.specs.Trees.Pol.{send, both, keep}
use Rattle.text.specs.Grammar.{Sign, s_open, s_close, s_line, s_other, s_word, PredIn, in_any, in_at, in_test, in_and, in_or, in_not, PortsIn, no_ports, one_more, PolIn, in_send, in_both, in_keep, depth, pol_depth, joined, Lines, none_left, blank, last_form, form, whole, Writes, signs}
use Rattle.text.specs.Numbered.{numbered}
use Rattle.text.proofs.Closing.{root, parts, push, pol_parts, push_pol, in_order}
use Rattle.packet.specs.PortLists.{placed}
use Rattle.text.proofs.Complete.{pol_top, before, any_before}
use Rattle.text.proofs.Machine.{st, run}
use Rattle.text.proofs.Clash.{err_ok, none_some}
use Rattle.text.proofs.Inverse.{First, by_open, by_word, by_close, first, PredHead, h_any, h_at, h_and, h_or, h_not, h_field, pred_head, PolHead, h_send, h_both, h_keep, pol_head, taken}

-- the inside of a bracket that a predicate was due in
data PredFound (f j : Bool) (ds : List Due) (ns out : List Shape) : List Sign → Type 0 where
  pred_of : {ts us : List Sign} (a : Pred) → PredIn a ts us → length us ≤ length ts → length ds + depth a ≤ 16 → run (st f j (d_close (root a) ∷ ds) (parts a ns)) us ≡ Ok out → PredFound f j ds ns out ts

-- a predicate with its brackets, where it was due
data SubFound (f j : Bool) (e : Due) (ds : List Due) (ns out : List Shape) : List Sign → Type 0 where
  sub_of : {ts us : List Sign} (a : Pred) → PredIn a ts (s_close ∷ us) → length us ≤ length ts → suc (length ds) + depth a ≤ 16 → run (st f j (e ∷ ds) (push a ns)) us ≡ Ok out → SubFound f j e ds ns out (s_open ∷ ts)

abbrev Finds : ℕ → Type 0
Finds n = (f j : Bool) (ds : List Due) (ns out : List Shape) (ts : List Sign) → length ts ≤ n → length ds ≤ 15 → run (st f j (d_head Predicate ∷ ds) ns) ts ≡ Ok out → PredFound f j ds ns out ts

module _ (f j : Bool) (ds : List Due) (ns out : List Shape) where
  closed_pred : {ts us : List Sign} (e : Due) (a : Pred) → PredIn a ts us → length us ≤ length ts → suc (length ds) + depth a ≤ 16 → First f j (d_close (root a)) (e ∷ ds) (parts a ns) out us → SubFound f j e ds ns out (s_open ∷ ts)
  closed_pred e a d s l (by_open p q h g) = absurd (none_some q)
  closed_pred e a d s l (by_word y q g) = absurd (err_ok q)
  closed_pred e a d s l (by_close {ts = us} n q h g) =
      let k : n ≡ root a = cc in
      sub_of a d (omega arith) l (subst (λ x. run (st f j (e ∷ ds) (x ∷ parts a ns)) us ≡ Ok out) k g)

  then_closed : {ts : List Sign} (e : Due) → PredFound f j (e ∷ ds) ns out ts → SubFound f j e ds ns out (s_open ∷ ts)
  then_closed e (pred_of {ts} {us} a d s l g) = closed_pred e a d s l (first f j (d_close (root a)) (e ∷ ds) (parts a ns) out us g)

  sub_pred : (n : ℕ) → Finds n → (d e : Due) → part_due d ≡ Some (record { kind = Predicate; after = e }) → closes d ≡ None → ((w : List ℕ) → fill d w ≡ Err Word) → {ts : List Sign} → length ts ≤ suc n → First f j d ds ns out ts → SubFound f j e ds ns out ts
  sub_pred n ih d e p c v l (by_open {ts} q r h g) =
      let k : q ≡ record { kind = Predicate; after = e } = cc in
      then_closed e (ih f j (e ∷ ds) ns out ts (omega arith) (omega arith) (subst (λ x. run (st f j (d_head x.kind ∷ x.after ∷ ds) ns) ts ≡ Ok out) k g))
  sub_pred n ih d e p c v l (by_word {ts} {w} y q g) = absurd (err_ok (sym (v w) ∙ q))
  sub_pred n ih d e p c v l (by_close m q h g) = absurd (none_some (sym c ∙ q))

  at_found : {ts : List Sign} (w : List ℕ) → w ≡ codes "at" → length ds ≤ 15 → First f j d_switch ds ns out ts → PredFound f j ds ns out (s_word w ∷ ts)
  at_found w e l (by_open p q h g) = absurd (none_some q)
  at_found w e l (by_close n q h g) = absurd (none_some q)
  at_found w e l (by_word {ts} {w = v} y q g) =
      let t = taken (sixteen_bits v) (λ x. d_close (n_at x)) y q in
      pred_of (at t.0) (in_at e t.1) (omega arith) (omega arith) (subst (λ x. run (st f j (x ∷ ds) ns) ts ≡ Ok out) (sym t.2) g)

  is_found : {ts : List Sign} (w : List ℕ) (i : Field) → w ≡ name i → length ds ≤ 15 → First f j (d_value i) ds ns out ts → PredFound f j ds ns out (s_word w ∷ ts)
  is_found w i e l (by_open p q h g) = absurd (none_some q)
  is_found w i e l (by_close n q h g) = absurd (none_some q)
  is_found w i e l (by_word {ts} {w = v} y q g) =
      let t = taken (test_from i v) (λ x. d_close (n_is x)) y q in
      pred_of (test t.0) (in_test i e t.1) (omega arith) (omega arith) (subst (λ x. run (st f j (x ∷ ds) ns) ts ≡ Ok out) (sym t.2) g)

  not_found : {ts : List Sign} (w : List ℕ) → w ≡ codes "not" → SubFound f j (d_close n_not) ds ns out ts → PredFound f j ds ns out (s_word w ∷ ts)
  not_found w e (sub_of a d s l g) = pred_of (not a) (in_not e d) (omega arith) (omega arith) g

  and_second : {ts us : List Sign} (w : List ℕ) (a : Pred) → w ≡ codes "and" → PredIn a ts (s_close ∷ us) → length us ≤ length ts → suc (length ds) + depth a ≤ 16 → SubFound f j (d_close n_and) ds (push a ns) out us → PredFound f j ds ns out (s_word w ∷ s_open ∷ ts)
  and_second w a e d s l (sub_of b db sb lb g) = pred_of (and a b) (in_and e d db) (omega arith) (omega arith) g

  or_second : {ts us : List Sign} (w : List ℕ) (a : Pred) → w ≡ codes "or" → PredIn a ts (s_close ∷ us) → length us ≤ length ts → suc (length ds) + depth a ≤ 16 → SubFound f j (d_close n_or) ds (push a ns) out us → PredFound f j ds ns out (s_word w ∷ s_open ∷ ts)
  or_second w a e d s l (sub_of b db sb lb g) = pred_of (or a b) (in_or e d db) (omega arith) (omega arith) g

and_found : (f j : Bool) (ds : List Due) (ns out : List Shape) (n : ℕ) → Finds n → {ts : List Sign} (w : List ℕ) → w ≡ codes "and" → length ts ≤ n → SubFound f j (d_second And) ds ns out ts → PredFound f j ds ns out (s_word w ∷ ts)
and_found f j ds ns out n ih w e k (sub_of {ts} {us} a d s l g) =
    and_second f j ds ns out w a e d s l (sub_pred f j ds (push a ns) out n ih (d_second And) (d_close n_and) refl refl (λ _. refl) (omega arith) (first f j (d_second And) ds (push a ns) out us g))

or_found : (f j : Bool) (ds : List Due) (ns out : List Shape) (n : ℕ) → Finds n → {ts : List Sign} (w : List ℕ) → w ≡ codes "or" → length ts ≤ n → SubFound f j (d_second Or) ds ns out ts → PredFound f j ds ns out (s_word w ∷ ts)
or_found f j ds ns out n ih w e k (sub_of {ts} {us} a d s l g) =
    or_second f j ds ns out w a e d s l (sub_pred f j ds (push a ns) out n ih (d_second Or) (d_close n_or) refl refl (λ _. refl) (omega arith) (first f j (d_second Or) ds (push a ns) out us g))

module _ (n : ℕ) (ih : Finds n) (f j : Bool) (ds : List Due) (ns out : List Shape) where
  pred_after : {y : Due} (w : List ℕ) (ts : List Sign) → length ts ≤ n → length ds ≤ 15 → PredHead w y → run (st f j (y ∷ ds) ns) ts ≡ Ok out → PredFound f j ds ns out (s_word w ∷ ts)
  pred_after w ts l k (h_any q) g = pred_of any (in_any q) (omega arith) (omega arith) g
  pred_after w ts l k (h_at q) g = at_found f j ds ns out w q k (first f j d_switch ds ns out ts g)
  pred_after w ts l k (h_field i q) g = is_found f j ds ns out w i q k (first f j (d_value i) ds ns out ts g)
  pred_after w ts l k (h_not q) g = not_found f j ds ns out w q (sub_pred f j ds ns out n ih (d_first Not) (d_close n_not) refl refl (λ _. refl) (omega arith) (first f j (d_first Not) ds ns out ts g))
  pred_after w ts l k (h_and q) g = and_found f j ds ns out n ih w q l (sub_pred f j ds ns out n ih (d_first And) (d_second And) refl refl (λ _. refl) (omega arith) (first f j (d_first And) ds ns out ts g))
  pred_after w ts l k (h_or q) g = or_found f j ds ns out n ih w q l (sub_pred f j ds ns out n ih (d_first Or) (d_second Or) refl refl (λ _. refl) (omega arith) (first f j (d_first Or) ds ns out ts g))

  pred_by : {ts : List Sign} → length ts ≤ suc n → length ds ≤ 15 → First f j (d_head Predicate) ds ns out ts → PredFound f j ds ns out ts
  pred_by l k (by_open p q h g) = absurd (none_some q)
  pred_by l k (by_close m q h g) = absurd (none_some q)
  pred_by l k (by_word {ts} {w} y q g) = pred_after w ts (omega arith) k (pred_head w y q) g

something : {f j : Bool} {d : Due} {ds : List Due} {ns out : List Shape} {ts : List Sign} → First f j d ds ns out ts → 0 < length ts
something (by_open p q h g) = omega arith
something (by_word y q g) = omega arith
something (by_close n q h g) = omega arith

sound_pred : (n : ℕ) → Finds n
sound_pred zero f j ds ns out ts l k e = absurd (omega (arith, something (first f j (d_head Predicate) ds ns out ts e)))
sound_pred (suc n) f j ds ns out ts l k e = pred_by n (sound_pred n) f j ds ns out l k (first f j (d_head Predicate) ds ns out ts e)

-- the same for policies; the closing bracket is read too
data PolFound (f j : Bool) (ds : List Due) (ns out : List Shape) : List Sign → Type 0 where
  pol_of : {ts us : List Sign} (a : Pol) → PolIn a ts (s_close ∷ us) → length us ≤ length ts → length ds + pol_depth a ≤ 16 → length (pol_parts a ns) < 64 →
      and_then (closed (st f j (pol_top a ∷ ds) (pol_parts a ns)) (push_pol a ns) ds) (λ r. run r us) ≡ Ok out → PolFound f j ds ns out ts

data PartFound (f j : Bool) (e : Due) (ds : List Due) (ns out : List Shape) : List Sign → Type 0 where
  part_of : {ts us : List Sign} (a : Pol) → PolIn a ts (s_close ∷ us) → length us ≤ length ts → suc (length ds) + pol_depth a ≤ 16 → run (st f j (e ∷ ds) (push_pol a ns)) us ≡ Ok out → PartFound f j e ds ns out (s_open ∷ ts)

data PortsFound (f j : Bool) (ds : List Due) (ns out : List Shape) (ts : List Sign) : Type 0 where
  ports_of : {us : List Sign} (ps : List ℕ) → PortsIn ps ts (s_close ∷ us) → length ns < 64 → and_then (closed (st f j (d_ports ps ∷ ds) ns) (n_send ps ∷ ns) ds) (λ r. run r us) ≡ Ok out → PortsFound f j ds ns out ts

abbrev FindsPol : ℕ → Type 0
FindsPol n = (f j : Bool) (ds : List Due) (ns out : List Shape) (ts : List Sign) → length ts ≤ n → length ds ≤ 15 → run (st f j (d_head Policy ∷ ds) ns) ts ≡ Ok out → PolFound f j ds ns out ts

ports_shorter : {ps : List ℕ} {ts us : List Sign} → PortsIn ps ts us → length us ≤ length ts
ports_shorter no_ports = omega arith
ports_shorter (one_more d h e) = omega (arith, ports_shorter d)

port_taken : (ps w : List ℕ) (y : Due) → fill (d_ports ps) w ≡ Ok y → (p : ℕ) × (port_from w ≡ Some p) × (d_ports (placed p ps) ≡ y) × (length ps < 8)
port_taken ps w y q = ⊎_elim
    (λ h. let t = taken (port_from w) (λ x. d_ports (placed x ps)) y (sym (cond-true (ltb (length ps) 8) (and_then (or_wrong Value (port_from w)) (λ x. Ok (d_ports (placed x ps)))) (Err Word) (lt-ltb _ _ h)) ∙ q) in
    (t.0, t.1, t.2, h))
    (λ h. absurd (err_ok (sym (cond-false (ltb (length ps) 8) (and_then (or_wrong Value (port_from w)) (λ x. Ok (d_ports (placed x ps)))) (Err Word) (le-ltb _ _ h)) ∙ q)))
    (cases_lt (length ps) 8)

module _ (f j : Bool) (ds : List Due) (ns out : List Shape) where
  ports_by : {ts us : List Sign} (t : Sign) (ps : List ℕ) → PortsIn ps ts (t ∷ us) → ((qs : List ℕ) → PortsIn qs ts us → run (st f j (d_ports qs ∷ ds) ns) us ≡ Ok out → PortsFound f j ds ns out ts) →
      First f j (d_ports ps) ds ns out (t ∷ us) → PortsFound f j ds ns out ts
  ports_by t ps d ih (by_open p q h g) = absurd (none_some q)
  ports_by t ps d ih (by_word {ts = us} {w} y q g) =
      let k = port_taken ps w y q in
      ih (placed k.0 ps) (one_more d k.3 k.1) (subst (λ x. run (st f j (x ∷ ds) ns) us ≡ Ok out) (sym k.2) g)
  ports_by t ps d ih (by_close {ts = us} n q h g) =
      let k : n ≡ n_send ps = cc in
      ports_of ps d h (subst (λ x. and_then (closed (st f j (d_ports ps ∷ ds) ns) (x ∷ ns) ds) (λ r. run r us) ≡ Ok out) k g)

  sound_ports : {ts : List Sign} (us : List Sign) (ps : List ℕ) → PortsIn ps ts us → run (st f j (d_ports ps ∷ ds) ns) us ≡ Ok out → PortsFound f j ds ns out ts
  sound_ports [] ps d e = absurd (omega (arith, something (first f j (d_ports ps) ds ns out [] e)))
  sound_ports (t ∷ us) ps d e = ports_by t ps d (sound_ports us) (first f j (d_ports ps) ds ns out (t ∷ us) e)

  then_part : {ts : List Sign} (e : Due) → PolFound f j (e ∷ ds) ns out ts → PartFound f j e ds ns out (s_open ∷ ts)
  then_part e (pol_of a d s l m g) = part_of a d s l g

  sub_pol : (n : ℕ) → FindsPol n → (d e : Due) → part_due d ≡ Some (record { kind = Policy; after = e }) → closes d ≡ None → ((w : List ℕ) → fill d w ≡ Err Word) → {ts : List Sign} → length ts ≤ suc n → First f j d ds ns out ts → PartFound f j e ds ns out ts
  sub_pol n ih d e p c v l (by_open {ts} q r h g) =
      let k : q ≡ record { kind = Policy; after = e } = cc in
      then_part e (ih f j (e ∷ ds) ns out ts (omega arith) (omega arith) (subst (λ x. run (st f j (d_head x.kind ∷ x.after ∷ ds) ns) ts ≡ Ok out) k g))
  sub_pol n ih d e p c v l (by_word {ts} {w} y q g) = absurd (err_ok (sym (v w) ∙ q))
  sub_pol n ih d e p c v l (by_close m q h g) = absurd (none_some (sym c ∙ q))

  send_ports : {ts us : List Sign} (w : List ℕ) (a : Pred) → w ≡ codes "send" → PredIn a ts (s_close ∷ us) → length us ≤ length ts → suc (length ds) + depth a ≤ 16 → PortsFound f j ds (push a ns) out us → PolFound f j ds ns out (s_word w ∷ s_open ∷ ts)
  send_ports w a e d s l (ports_of ps dp h g) = pol_of (send a ps) (in_send e d dp) (omega (arith, ports_shorter dp)) (omega arith) h g

  both_closed : {ts us vs : List Sign} (w : List ℕ) (a b : Pol) → w ≡ codes "both" → PolIn a ts (s_close ∷ s_open ∷ us) → length (s_open ∷ us) ≤ length ts → suc (length ds) + pol_depth a ≤ 16 →
      PolIn b us (s_close ∷ vs) → length vs ≤ length us → suc (length ds) + pol_depth b ≤ 16 → First f j (d_close n_both) ds (push_pol b (push_pol a ns)) out vs → PolFound f j ds ns out (s_word w ∷ s_open ∷ ts)
  both_closed w a b e d s l db sb lb (by_open p q h g) = absurd (none_some q)
  both_closed w a b e d s l db sb lb (by_word y q g) = absurd (err_ok q)
  both_closed w a b e d s l db sb lb (by_close {ts = vs} n q h g) =
      let k : n ≡ n_both = cc in
      pol_of (both a b) (in_both e d db) (omega arith) (omega arith) h
      (subst (λ x. and_then (closed (st f j (d_close n_both ∷ ds) (push_pol b (push_pol a ns))) (x ∷ push_pol b (push_pol a ns)) ds) (λ r. run r vs) ≡ Ok out) k g)

  keep_closed : {ts us vs : List Sign} (w : List ℕ) (a : Pred) (b : Pol) → w ≡ codes "keep" → PredIn a ts (s_close ∷ s_open ∷ us) → length (s_open ∷ us) ≤ length ts → suc (length ds) + depth a ≤ 16 →
      PolIn b us (s_close ∷ vs) → length vs ≤ length us → suc (length ds) + pol_depth b ≤ 16 → First f j (d_close n_keep) ds (push_pol b (push a ns)) out vs → PolFound f j ds ns out (s_word w ∷ s_open ∷ ts)
  keep_closed w a b e d s l db sb lb (by_open p q h g) = absurd (none_some q)
  keep_closed w a b e d s l db sb lb (by_word y q g) = absurd (err_ok q)
  keep_closed w a b e d s l db sb lb (by_close {ts = vs} n q h g) =
      let k : n ≡ n_keep = cc in
      pol_of (keep a b) (in_keep e d db) (omega arith) (omega arith) h
      (subst (λ x. and_then (closed (st f j (d_close n_keep ∷ ds) (push_pol b (push a ns))) (x ∷ push_pol b (push a ns)) ds) (λ r. run r vs) ≡ Ok out) k g)

  both_second : {ts us : List Sign} (w : List ℕ) (a : Pol) → w ≡ codes "both" → PolIn a ts (s_close ∷ us) → length us ≤ length ts → suc (length ds) + pol_depth a ≤ 16 → PartFound f j (d_close n_both) ds (push_pol a ns) out us → PolFound f j ds ns out (s_word w ∷ s_open ∷ ts)
  both_second w a e d s l (part_of {us = vs} b db sb lb g) = both_closed w a b e d s l db sb lb (first f j (d_close n_both) ds (push_pol b (push_pol a ns)) out vs g)

  keep_second : {ts us : List Sign} (w : List ℕ) (a : Pred) → w ≡ codes "keep" → PredIn a ts (s_close ∷ us) → length us ≤ length ts → suc (length ds) + depth a ≤ 16 → PartFound f j (d_close n_keep) ds (push a ns) out us → PolFound f j ds ns out (s_word w ∷ s_open ∷ ts)
  keep_second w a e d s l (part_of {us = vs} b db sb lb g) = keep_closed w a b e d s l db sb lb (first f j (d_close n_keep) ds (push_pol b (push a ns)) out vs g)

module _ (n : ℕ) (ih : FindsPol n) (f j : Bool) (ds : List Due) (ns out : List Shape) where
  send_found : {ts : List Sign} (w : List ℕ) → w ≡ codes "send" → SubFound f j (d_ports []) ds ns out ts → PolFound f j ds ns out (s_word w ∷ ts)
  send_found w e (sub_of {ts} {us} a d s l g) = send_ports f j ds ns out w a e d s l (sound_ports f j ds (push a ns) out us [] no_ports g)

  both_found : {ts : List Sign} (w : List ℕ) → w ≡ codes "both" → length ts ≤ n → PartFound f j (d_second Both) ds ns out ts → PolFound f j ds ns out (s_word w ∷ ts)
  both_found w e k (part_of {ts} {us} a d s l g) =
      both_second f j ds ns out w a e d s l (sub_pol f j ds (push_pol a ns) out n ih (d_second Both) (d_close n_both) refl refl (λ _. refl) (omega arith) (first f j (d_second Both) ds (push_pol a ns) out us g))

  keep_found : {ts : List Sign} (w : List ℕ) → w ≡ codes "keep" → length ts ≤ n → SubFound f j (d_second Keep) ds ns out ts → PolFound f j ds ns out (s_word w ∷ ts)
  keep_found w e k (sub_of {ts} {us} a d s l g) =
      keep_second f j ds ns out w a e d s l (sub_pol f j ds (push a ns) out n ih (d_second Keep) (d_close n_keep) refl refl (λ _. refl) (omega arith) (first f j (d_second Keep) ds (push a ns) out us g))

  pol_after : {y : Due} (w : List ℕ) (ts : List Sign) → length ts ≤ n → PolHead w y → run (st f j (y ∷ ds) ns) ts ≡ Ok out → PolFound f j ds ns out (s_word w ∷ ts)
  pol_after w ts l (h_send q) g = send_found w q (sub_pred f j ds ns out n (sound_pred n) (d_first Send) (d_ports []) refl refl (λ _. refl) (omega arith) (first f j (d_first Send) ds ns out ts g))
  pol_after w ts l (h_both q) g = both_found w q l (sub_pol f j ds ns out n ih (d_first Both) (d_second Both) refl refl (λ _. refl) (omega arith) (first f j (d_first Both) ds ns out ts g))
  pol_after w ts l (h_keep q) g = keep_found w q l (sub_pred f j ds ns out n (sound_pred n) (d_first Keep) (d_second Keep) refl refl (λ _. refl) (omega arith) (first f j (d_first Keep) ds ns out ts g))

  pol_by : {ts : List Sign} → length ts ≤ suc n → First f j (d_head Policy) ds ns out ts → PolFound f j ds ns out ts
  pol_by l (by_open p q h g) = absurd (none_some q)
  pol_by l (by_close m q h g) = absurd (none_some q)
  pol_by l (by_word {ts} {w} y q g) = pol_after w ts (omega arith) (pol_head w y q) g

sound_pol : (n : ℕ) → FindsPol n
sound_pol zero f j ds ns out ts l k e = absurd (omega (arith, something (first f j (d_head Policy) ds ns out ts e)))
sound_pol (suc n) f j ds ns out ts l k e = pol_by n (sound_pol n) f j ds ns out l (first f j (d_head Policy) ds ns out ts e)

abbrev LinesFound : Option Pol → List Sign → List Shape → Type 0
LinesFound o ts out = (r : Option Pol) × Lines o ts r × (out ≡ numbered (whole r)) × (length (before r) ≤ 64)

abbrev FindsLines : ℕ → Type 0
FindsLines n = (o : Option Pol) (out : List Shape) (ts : List Sign) → length ts ≤ n → length (before o) ≤ 64 → run (st false (any_before o) [] (before o)) ts ≡ Ok out → LinesFound o ts out

module _ (n : ℕ) (ih : FindsLines n) (o : Option Pol) (out : List Shape) where
  after_form : {ts : List Sign} (q : Pol) (us : List Sign) → PolIn q ts (s_close ∷ us) → pol_depth q ≤ 16 → length us ≤ n → length (push_pol (joined o q) []) ≤ 64 →
      run (st true true [] (push_pol (joined o q) [])) us ≡ Ok out → LinesFound o (s_open ∷ ts) out
  unfolding ending opening closing line_ending wording
  after_form q [] d h l k e = let z : reverse (push_pol (joined o q) []) ≡ out = cc in (Some (joined o q), last_form d h, sym z ∙ in_order (joined o q), k)
  after_form q (s_line ∷ us) d h l k e =
      let t : LinesFound (Some (joined o q)) us out = ih (Some (joined o q)) out us (omega arith) k e in
      (t.0, form d h t.1, t.2, t.3)
  after_form q (s_open ∷ us) d h l k e = absurd (err_ok e)
  after_form q (s_close ∷ us) d h l k e = absurd (err_ok e)
  after_form q (s_other ∷ us) d h l k e = absurd (err_ok e)
  after_form q (s_word w ∷ us) d h l k e = absurd (err_ok e)

  -- the joining of a line's form
  joining : (p q : Pol) (us : List Sign) → and_then (closed (st false true (pol_top q ∷ []) (pol_parts q (push_pol p []))) (push_pol q (push_pol p [])) []) (λ r. run r us) ≡ Ok out →
      (length (push_pol (both p q) []) ≤ 64) × (run (st true true [] (push_pol (both p q) [])) us ≡ Ok out)
  joining p q us e =
      let ns : List Shape = push_pol q (push_pol p []) in
      ⊎_elim
      (λ h. (h, ap (λ x. and_then (and_then x (λ ms. Ok (st true true [] ms))) (λ r. run r us)) (sym (cond-true (ltb (length ns) 64) (Ok (n_both ∷ ns)) (Err Nodes) (lt-ltb _ _ h))) ∙ e))
      (λ h. absurd (err_ok (ap (λ x. and_then (and_then x (λ ms. Ok (st true true [] ms))) (λ r. run r us)) (sym (cond-false (ltb (length ns) 64) (Ok (n_both ∷ ns)) (Err Nodes) (le-ltb _ _ h))) ∙ e)))
      (cases_lt (length ns) 64)

form_found : (n : ℕ) → FindsLines n → (o : Option Pol) (out : List Shape) {ts : List Sign} → length ts ≤ n → PolFound false (any_before o) [] (before o) out ts → LinesFound o (s_open ∷ ts) out
form_found n ih None out l (pol_of {ts} {us} q d s h m g) = after_form n ih None out q us d (omega arith) (omega arith) (omega arith) g
form_found n ih (Some p) out l (pol_of {ts} {us} q d s h m g) =
    let t = joining n ih (Some p) out p q us g in
    after_form n ih (Some p) out q us d (omega arith) (omega arith) t.0 t.1

sound_lines : (n : ℕ) → FindsLines n
unfolding ending opening closing line_ending wording
sound_lines n None out [] l k e = let z : n_any ∷ n_send [] ∷ [] ≡ out = cc in (None, none_left, sym z, k)
sound_lines n (Some p) out [] l k e = let z : reverse (push_pol p []) ≡ out = cc in (Some p, none_left, sym z ∙ in_order p, k)
sound_lines zero o out (s_line ∷ ts) l k e = absurd (omega arith)
sound_lines (suc n) o out (s_line ∷ ts) l k e =
    let t : LinesFound o ts out = sound_lines n o out ts (omega arith) k e in (t.0, blank t.1, t.2, t.3)
sound_lines zero o out (s_open ∷ ts) l k e = absurd (omega arith)
sound_lines (suc n) o out (s_open ∷ ts) l k e = form_found n (sound_lines n) o out (omega arith) (sound_pol (length ts) false (any_before o) [] (before o) out ts (omega arith) (omega arith) e)
sound_lines n o out (s_close ∷ ts) l k e = absurd (err_ok e)
sound_lines n o out (s_other ∷ ts) l k e = absurd (err_ok e)
sound_lines n o out (s_word w ∷ ts) l k e = absurd (err_ok e)

few_numbered : (o : Option Pol) → length (before o) ≤ 64 → length (numbered (whole o)) ≤ 64
few_numbered None h = omega arith
few_numbered (Some q) h = omega (arith, length-reverse (push_pol q []), ap length (in_order q))

pub sound : (text : List ℕ) (ns : List Shape) → read_text text ≡ Ok ns → (q : Pol) × Writes text q × (ns ≡ numbered q)
unfolding read_text
sound text ns e =
    let t : LinesFound None (signs (tokens text)) ns = sound_lines (length (signs (tokens text))) None ns (signs (tokens text)) (omega arith) (omega arith) (run_placed ns (tokens text) 1 0 start e) in
    (whole t.0, record { lines = t.0; written = t.1; is = refl; few = few_numbered t.0 t.3 }, t.2)
