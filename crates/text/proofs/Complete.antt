-- Every text of the grammar is read.
use Rattle.std.proofs.Common.{◌≡◌, ℕ, ◌+◌, ◌<◌, ◌≤◌, Bool, true, false, ltb, List, [], ◌∷◌, length, Some, None, Ok, Err, Option, sym, refl, ap, ◌∙◌, subst, zero-le, arith}
use Rattle.std.proofs.lemmas.List.{length-reverse}
use Rattle.text.specs.Text.{ending, tokens, read_text}
use Rattle.text.proofs.Spaces.{placed_run}
use Rattle.std.proofs.lemmas.Bool.{cond-true, lt-ltb}
use Rattle.packet.specs.declared.field.Field.{Field}
use Rattle.packet.specs.declared.field.Field.TheVariants.{DlSrc, DlDst, DlTyp, NwSrc, NwDst, NwProto, TpSrc, TpDst}
use Rattle.packet.specs.declared.fault.ReaderCause.TheVariants.{Word, Value, Nodes}
use Rattle.policy.specs.declared.node.Kind.{Kind}
use Rattle.policy.specs.declared.node.Kind.TheVariants.{Predicate, Policy}
use Rattle.text.specs.declared.due.Op.TheVariants.{And, Or, Not, Send, Both, Keep}
use Rattle.policy.specs.Shapes.{Shape}
use Rattle.policy.specs.Shapes.Shape.{n_any, n_at, n_is, n_and, n_or, n_not, n_both, n_keep}
use Rattle.text.specs.Dues.{Due}
use Rattle.text.specs.Dues.Due.{d_head, d_switch, d_value, d_first, d_second, d_ports, d_close}
use Rattle.text.specs.Steps.{part_due, closes, fill, or_wrong, and_then}
use Rattle.text.specs.Steps.{opening, line_ending, start}
use Rattle.text.specs.Heads.{name}
use Rattle.text.specs.Values.{port_from}
use Rattle.policy.specs.Trees.{Pred, Pol}
use Rattle.policy.specs.Trees.Pred.{any, at, test, and, or, not}
use Rattle.policy.specs.Trees.Pol.{send, both, keep}
use Rattle.text.specs.Grammar.{Sign, s_open, s_close, s_word, PredIn, in_any, in_at, in_test, in_and, in_or, in_not, PortsIn, no_ports, one_more, PolIn, in_send, in_both, in_keep, depth, pol_depth, joined, Lines, none_left, blank, last_form, form, whole, Writes}
use Rattle.text.specs.Numbered.{numbered}
use Rattle.text.proofs.Closing.{root, parts, push, pol_root, pol_parts, push_pol, in_order}
use Rattle.packet.specs.PortLists.{placed}
use Rattle.text.proofs.Machine.{st, run, run_open, run_word, run_closing}

pub grows : (p : Pred) (ns : List Shape) → length ns ≤ length (parts p ns)
grows any ns = omega arith
grows (at n) ns = omega arith
grows (test t) ns = omega arith
grows (and a b) ns = omega (arith, grows a ns, grows b (root a ∷ parts a ns))
grows (or a b) ns = omega (arith, grows a ns, grows b (root a ∷ parts a ns))
grows (not a) ns = omega (arith, grows a ns)

pub some_depth : (p : Pred) → 1 ≤ depth p
some_depth any = omega arith
some_depth (at n) = omega arith
some_depth (test t) = omega arith
some_depth (and a b) = omega arith
some_depth (or a b) = omega arith
some_depth (not a) = omega arith

field_head : (f : Field) → fill (d_head Predicate) (name f) ≡ Ok (d_value f)
field_head DlSrc = refl
field_head DlDst = refl
field_head DlTyp = refl
field_head NwSrc = refl
field_head NwDst = refl
field_head NwProto = refl
field_head TpSrc = refl
field_head TpDst = refl

module _ (f j : Bool) where
  -- a part inside a bracket, from its opening bracket to its closing one
  pub sub : (ds : List Due) (ns m : List Shape) (ts us : List Sign) (d e t : Due) (kind : Kind) (n : Shape) →
      part_due d ≡ Some (record { kind = kind; after = e }) → closes t ≡ Some n → length ds < 15 → length m < 64 →
      run (st f j (d_head kind ∷ e ∷ ds) ns) ts ≡ run (st f j (t ∷ e ∷ ds) m) (s_close ∷ us) →
      run (st f j (d ∷ ds) ns) (s_open ∷ ts) ≡ run (st f j (e ∷ ds) (n ∷ m)) us
  sub ds ns m ts us d e t kind n p c h k ih =
      run_open f j ds ns ts d (record { kind = kind; after = e }) p h ∙ (ih ∙ run_closing f j (e ∷ ds) m us t n c k)

pub in_pred : {p : Pred} {ts us : List Sign} → PredIn p ts us → (f j : Bool) (ds : List Due) (ns : List Shape) → length ds + depth p ≤ 16 → length (parts p ns) < 64 →
    run (st f j (d_head Predicate ∷ ds) ns) ts ≡ run (st f j (d_close (root p) ∷ ds) (parts p ns)) us
in_pred {us = us} (in_any {w} e) f j ds ns h k = run_word f j ds ns us (d_head Predicate) (d_close n_any) w (ap (fill (d_head Predicate)) e)
in_pred {us = us} (in_at {w} {v} {n} e g) f j ds ns h k =
    run_word f j ds ns (s_word v ∷ us) (d_head Predicate) d_switch w (ap (fill (d_head Predicate)) e)
    ∙ run_word f j ds ns us d_switch (d_close (n_at n)) v (ap (λ o. and_then (or_wrong Value o) (λ x. Ok (d_close (n_at x)))) g)
in_pred {us = us} (in_test {w} {v} i {t} e g) f j ds ns h k =
    run_word f j ds ns (s_word v ∷ us) (d_head Predicate) (d_value i) w (ap (fill (d_head Predicate)) e ∙ field_head i)
    ∙ run_word f j ds ns us (d_value i) (d_close (n_is t)) v (ap (λ o. and_then (or_wrong Value o) (λ x. Ok (d_close (n_is x)))) g)
in_pred (in_and {w} {a} {b} {ts} {us} {vs} e da db) f j ds ns h k =
    let ga : length (parts a ns) < 64 = omega (arith, grows b (root a ∷ parts a ns)) in
    let gb : length (parts b (root a ∷ parts a ns)) < 64 = omega arith in
    let sa : length ds < 15 = omega (arith, some_depth a) in
    run_word f j ds ns (s_open ∷ ts) (d_head Predicate) (d_first And) w (ap (fill (d_head Predicate)) e)
    ∙ (sub f j ds ns (parts a ns) ts (s_open ∷ us) (d_first And) (d_second And) (d_close (root a)) Predicate (root a) refl refl sa ga (in_pred da f j (d_second And ∷ ds) ns (omega arith) ga)
    ∙ sub f j ds (root a ∷ parts a ns) (parts b (root a ∷ parts a ns)) us vs (d_second And) (d_close n_and) (d_close (root b)) Predicate (root b) refl refl sa gb (in_pred db f j (d_close n_and ∷ ds) (root a ∷ parts a ns) (omega arith) gb))
in_pred (in_or {w} {a} {b} {ts} {us} {vs} e da db) f j ds ns h k =
    let ga : length (parts a ns) < 64 = omega (arith, grows b (root a ∷ parts a ns)) in
    let gb : length (parts b (root a ∷ parts a ns)) < 64 = omega arith in
    let sa : length ds < 15 = omega (arith, some_depth a) in
    run_word f j ds ns (s_open ∷ ts) (d_head Predicate) (d_first Or) w (ap (fill (d_head Predicate)) e)
    ∙ (sub f j ds ns (parts a ns) ts (s_open ∷ us) (d_first Or) (d_second Or) (d_close (root a)) Predicate (root a) refl refl sa ga (in_pred da f j (d_second Or ∷ ds) ns (omega arith) ga)
    ∙ sub f j ds (root a ∷ parts a ns) (parts b (root a ∷ parts a ns)) us vs (d_second Or) (d_close n_or) (d_close (root b)) Predicate (root b) refl refl sa gb (in_pred db f j (d_close n_or ∷ ds) (root a ∷ parts a ns) (omega arith) gb))
in_pred (in_not {w} {a} {ts} {us} e da) f j ds ns h k =
    let ga : length (parts a ns) < 64 = omega arith in
    let sa : length ds < 15 = omega (arith, some_depth a) in
    run_word f j ds ns (s_open ∷ ts) (d_head Predicate) (d_first Not) w (ap (fill (d_head Predicate)) e)
    ∙ sub f j ds ns (parts a ns) ts us (d_first Not) (d_close n_not) (d_close (root a)) Predicate (root a) refl refl sa ga (in_pred da f j (d_close n_not ∷ ds) ns (omega arith) ga)

pub in_ports : {ps : List ℕ} {ts us : List Sign} → PortsIn ps ts us → (f j : Bool) (ds : List Due) (ns : List Shape) → run (st f j (d_ports [] ∷ ds) ns) ts ≡ run (st f j (d_ports ps ∷ ds) ns) us
in_ports no_ports f j ds ns = refl
in_ports (one_more {w} {p} {ps} {ts} {us} d h e) f j ds ns =
    in_ports d f j ds ns
    ∙ run_word f j ds ns us (d_ports ps) (d_ports (placed p ps)) w
    (cond-true (ltb (length ps) 8) (and_then (or_wrong Value (port_from w)) (λ x. Ok (d_ports (placed x ps)))) (Err Word) (lt-ltb _ _ h)
    ∙ ap (λ o. and_then (or_wrong Value o) (λ x. Ok (d_ports (placed x ps)))) e)

pub pol_grows : (q : Pol) (ns : List Shape) → length ns ≤ length (pol_parts q ns)
pol_grows (send p ps) ns = omega (arith, grows p ns)
pol_grows (both a b) ns = omega (arith, pol_grows a ns, pol_grows b (pol_root a ∷ pol_parts a ns))
pol_grows (keep p q) ns = omega (arith, grows p ns, pol_grows q (push p ns))

pub pol_some_depth : (q : Pol) → 1 ≤ pol_depth q
pol_some_depth (send p ps) = omega arith
pol_some_depth (both a b) = omega arith
pol_some_depth (keep p q) = omega arith

-- what an open bracket waits for once a policy's inside has been read
abbrev pub pol_top : Pol → Due
pol_top (send p ps) = d_ports ps
pol_top (both a b) = d_close n_both
pol_top (keep p q) = d_close n_keep

pub top_closes : (q : Pol) → closes (pol_top q) ≡ Some (pol_root q)
top_closes (send p ps) = refl
top_closes (both a b) = refl
top_closes (keep p q) = refl

pub in_pol : {q : Pol} {ts us : List Sign} → PolIn q ts us → (f j : Bool) (ds : List Due) (ns : List Shape) → length ds + pol_depth q ≤ 16 → length (pol_parts q ns) < 64 →
    run (st f j (d_head Policy ∷ ds) ns) ts ≡ run (st f j (pol_top q ∷ ds) (pol_parts q ns)) us
in_pol (in_send {w} {p} {ps} {ts} {us} {vs} e dp dps) f j ds ns h k =
    let gp : length (parts p ns) < 64 = omega arith in
    let sp : length ds < 15 = omega (arith, some_depth p) in
    run_word f j ds ns (s_open ∷ ts) (d_head Policy) (d_first Send) w (ap (fill (d_head Policy)) e)
    ∙ (sub f j ds ns (parts p ns) ts us (d_first Send) (d_ports []) (d_close (root p)) Predicate (root p) refl refl sp gp (in_pred dp f j (d_ports [] ∷ ds) ns (omega arith) gp)
    ∙ in_ports dps f j ds (push p ns))
in_pol (in_both {w} {a} {b} {ts} {us} {vs} e da db) f j ds ns h k =
    let ga : length (pol_parts a ns) < 64 = omega (arith, pol_grows b (pol_root a ∷ pol_parts a ns)) in
    let gb : length (pol_parts b (pol_root a ∷ pol_parts a ns)) < 64 = omega arith in
    let sa : length ds < 15 = omega (arith, pol_some_depth a) in
    run_word f j ds ns (s_open ∷ ts) (d_head Policy) (d_first Both) w (ap (fill (d_head Policy)) e)
    ∙ (sub f j ds ns (pol_parts a ns) ts (s_open ∷ us) (d_first Both) (d_second Both) (pol_top a) Policy (pol_root a) refl (top_closes a) sa ga (in_pol da f j (d_second Both ∷ ds) ns (omega arith) ga)
    ∙ sub f j ds (pol_root a ∷ pol_parts a ns) (pol_parts b (pol_root a ∷ pol_parts a ns)) us vs (d_second Both) (d_close n_both) (pol_top b) Policy (pol_root b) refl (top_closes b) sa gb (in_pol db f j (d_close n_both ∷ ds) (pol_root a ∷ pol_parts a ns) (omega arith) gb))
in_pol (in_keep {w} {p} {q} {ts} {us} {vs} e dp dq) f j ds ns h k =
    let gp : length (parts p ns) < 64 = omega (arith, pol_grows q (push p ns)) in
    let gq : length (pol_parts q (push p ns)) < 64 = omega arith in
    let sp : length ds < 15 = omega (arith, some_depth p) in
    run_word f j ds ns (s_open ∷ ts) (d_head Policy) (d_first Keep) w (ap (fill (d_head Policy)) e)
    ∙ (sub f j ds ns (parts p ns) ts (s_open ∷ us) (d_first Keep) (d_second Keep) (d_close (root p)) Predicate (root p) refl refl sp gp (in_pred dp f j (d_second Keep ∷ ds) ns (omega arith) gp)
    ∙ sub f j ds (push p ns) (pol_parts q (push p ns)) us vs (d_second Keep) (d_close n_keep) (pol_top q) Policy (pol_root q) refl (top_closes q) sp gq (in_pol dq f j (d_close n_keep ∷ ds) (push p ns) (omega arith) gq))

-- the nodes of the lines before, and whether a form has closed
abbrev pub before : Option Pol → List Shape
before None = []
before (Some p) = push_pol p []

abbrev pub any_before : Option Pol → Bool
any_before None = false
any_before (Some p) = true

-- a line's form, from its opening bracket to its closing one
pub whole_form : {q : Pol} {ts us : List Sign} → (o : Option Pol) → PolIn q ts (s_close ∷ us) → pol_depth q ≤ 16 → length (push_pol (joined o q) []) ≤ 64 →
    run (st false (any_before o) [] (before o)) (s_open ∷ ts) ≡ run (st true true [] (push_pol (joined o q) [])) us
unfolding opening
whole_form {q} {ts} {us} None d h k =
    in_pol d false false [] [] (omega arith) (omega arith) ∙ run_closing false false [] (pol_parts q []) us (pol_top q) (pol_root q) (top_closes q) (omega arith)
whole_form {q} {ts} {us} (Some p) d h k =
    let n : length (pol_parts q (push_pol p [])) < 64 = omega arith in
    let m : length (push_pol q (push_pol p [])) < 64 = omega arith in
    in_pol d false true [] (push_pol p []) (omega arith) n
    ∙ (run_closing false true [] (pol_parts q (push_pol p [])) us (pol_top q) (pol_root q) (top_closes q) n
    ∙ ap (λ x. and_then (and_then x (λ ms. Ok (st true true [] ms))) (λ r. run r us)) (cond-true (ltb (length (push_pol q (push_pol p []))) 64) (Ok (n_both ∷ push_pol q (push_pol p []))) (Err Nodes) (lt-ltb _ _ m)))

lines_grow : {o r : Option Pol} {ts : List Sign} → Lines o ts r → length (before o) ≤ length (before r)
lines_grow none_left = omega arith
lines_grow (blank d) = lines_grow d
lines_grow {o = None} (last_form d h) = zero-le
lines_grow {o = Some p} (last_form {q = q} d h) = omega (arith, pol_grows q (push_pol p []))
lines_grow {o = None} (form d h l) = zero-le
lines_grow {o = Some p} (form {q = q} d h l) = omega (arith, pol_grows q (push_pol p []), lines_grow l)

in_lines : {o r : Option Pol} {ts : List Sign} → Lines o ts r → length (before r) ≤ 64 → run (st false (any_before o) [] (before o)) ts ≡ Ok (numbered (whole r))
unfolding ending line_ending
in_lines {o = None} none_left k = refl
in_lines {o = Some p} none_left k = ap Ok (in_order p)
in_lines (blank d) k = in_lines d k
in_lines (last_form {o} {q} {ts} d h) k = whole_form o d h k ∙ ap Ok (in_order (joined o q))
in_lines (form {o} {r} {q} {ts} {us} d h l) k = whole_form o d h (omega (arith, lines_grow l)) ∙ in_lines l k

few_before : (o : Option Pol) → length (numbered (whole o)) ≤ 64 → length (before o) ≤ 64
few_before None h = omega arith
few_before (Some q) h = omega (arith, length-reverse (push_pol q []), ap length (in_order q))

pub complete : (text : List ℕ) (q : Pol) → Writes text q → read_text text ≡ Ok (numbered q)
unfolding read_text
complete text q d =
    let k : length (numbered (whole d.lines)) ≤ 64 = subst (λ x. length (numbered x) ≤ 64) d.is d.few in
    placed_run (numbered q) (tokens text) 1 0 start (in_lines d.written (few_before d.lines k) ∙ ap (λ x. Ok (numbered x)) (sym d.is))
