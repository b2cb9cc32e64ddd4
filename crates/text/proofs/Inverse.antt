-- What a reading that succeeds has met.
use Rattle.std.proofs.Common.{◌≡◌, ℕ, ◌<◌, Bool, true, false, cond, ltb, List, [], ◌∷◌, length, Some, None, Ok, Err, codes, Option, Result, sym, refl, ap, ◌∙◌, subst, ⊎_elim}
use Rattle.std.specs.Str.{bytes_eq}
use Rattle.std.proofs.lemmas.Slice.Eq.{bytes_eq-Decides}
use Rattle.std.proofs.lemmas.Bool.{cond-true, cond-false, lt-ltb, le-ltb, cases_lt}
use Rattle.packet.specs.declared.field.Field.{Field}
use Rattle.packet.specs.declared.field.Field.TheVariants.{DlSrc, DlDst, DlTyp, NwSrc, NwDst, NwProto, TpSrc, TpDst}
use Rattle.packet.specs.declared.fault.ReaderCause.{ReaderCause}
use Rattle.packet.specs.declared.fault.ReaderCause.TheVariants.{Head, Value, Depth, Nodes}
use Rattle.policy.specs.declared.node.Kind.TheVariants.{Predicate, Policy}
use Rattle.text.specs.declared.due.Op.TheVariants.{And, Or, Not, Send, Both, Keep}
use Rattle.text.specs.Heads.{name, named_field}
use Rattle.policy.specs.Shapes.{Shape}
use Rattle.policy.specs.Shapes.Shape.{n_any}
use Rattle.text.specs.Dues.{Due}
use Rattle.text.specs.Dues.Due.{d_head, d_switch, d_value, d_first, d_close}
use Rattle.text.specs.Steps.{Part, part_due, closes, fill, value_due, or_wrong, closed, close_node, open_part, opening, closing, line_ending, wording, and_then}
use Rattle.text.specs.Text.{ending}
use Rattle.text.specs.Grammar.{Sign, s_open, s_close, s_line, s_other, s_word}
use Rattle.text.proofs.Clash.{err_ok}
use Rattle.text.proofs.Machine.{st, run}

-- the first sign, inside a bracket, of what is read well
pub data First (f j : Bool) (d : Due) (ds : List Due) (ns out : List Shape) : List Sign → Type 0 where
  by_open : {ts : List Sign} (p : Part) → part_due d ≡ Some p → length ds < 15 → run (st f j (d_head p.kind ∷ p.after ∷ ds) ns) ts ≡ Ok out → First f j d ds ns out (s_open ∷ ts)
  by_word : {ts : List Sign} {w : List ℕ} (e : Due) → fill d w ≡ Ok e → run (st f j (e ∷ ds) ns) ts ≡ Ok out → First f j d ds ns out (s_word w ∷ ts)
  by_close : {ts : List Sign} (n : Shape) → closes d ≡ Some n → length ns < 64 → and_then (closed (st f j (d ∷ ds) ns) (n ∷ ns) ds) (λ r. run r ts) ≡ Ok out → First f j d ds ns out (s_close ∷ ts)

module _ (f j : Bool) (d : Due) (ds : List Due) (ns out : List Shape) where
  opened : (ts : List Sign) (x : Option Part) → part_due d ≡ x → and_then (open_part (st f j (d ∷ ds) ns) ds x) (λ r. run r ts) ≡ Ok out → First f j d ds ns out (s_open ∷ ts)
  opened ts None q e = absurd (err_ok e)
  opened ts (Some p) q e = ⊎_elim
      (λ h. by_open p q h (ap (λ x. and_then x (λ r. run r ts)) (sym (cond-true (ltb (length ds) 15) (Ok (st f j (d_head p.kind ∷ p.after ∷ ds) ns)) (Err Depth) (lt-ltb _ _ h))) ∙ e))
      (λ h. absurd (err_ok (ap (λ x. and_then x (λ r. run r ts)) (sym (cond-false (ltb (length ds) 15) (Ok (st f j (d_head p.kind ∷ p.after ∷ ds) ns)) (Err Depth) (le-ltb _ _ h))) ∙ e)))
      (cases_lt (length ds) 15)

  filled : (ts : List Sign) (w : List ℕ) (x : Result Due ReaderCause) → fill d w ≡ x → and_then (and_then x (λ y. Ok (st f j (y ∷ ds) ns))) (λ r. run r ts) ≡ Ok out → First f j d ds ns out (s_word w ∷ ts)
  filled ts w (Ok y) q e = by_word y q e
  filled ts w (Err y) q e = absurd (err_ok e)

  shut : (ts : List Sign) (x : Option Shape) → closes d ≡ x → and_then (close_node (st f j (d ∷ ds) ns) ds x) (λ r. run r ts) ≡ Ok out → First f j d ds ns out (s_close ∷ ts)
  shut ts None q e = absurd (err_ok e)
  shut ts (Some n) q e = ⊎_elim
      (λ h. by_close n q h (ap (λ x. and_then (and_then x (λ ms. closed (st f j (d ∷ ds) ns) ms ds)) (λ r. run r ts)) (sym (cond-true (ltb (length ns) 64) (Ok (n ∷ ns)) (Err Nodes) (lt-ltb _ _ h))) ∙ e))
      (λ h. absurd (err_ok (ap (λ x. and_then (and_then x (λ ms. closed (st f j (d ∷ ds) ns) ms ds)) (λ r. run r ts)) (sym (cond-false (ltb (length ns) 64) (Ok (n ∷ ns)) (Err Nodes) (le-ltb _ _ h))) ∙ e)))
      (cases_lt (length ns) 64)

  pub first : (ts : List Sign) → run (st f j (d ∷ ds) ns) ts ≡ Ok out → First f j d ds ns out ts
  unfolding ending opening closing line_ending wording
  first [] e = absurd (err_ok e)
  first (s_open ∷ ts) e = opened ts (part_due d) refl e
  first (s_close ∷ ts) e = shut ts (closes d) refl e
  first (s_line ∷ ts) e = absurd (err_ok e)
  first (s_other ∷ ts) e = absurd (err_ok e)
  first (s_word w ∷ ts) e = filled ts w (fill d w) refl e

-- the head words
pub data PredHead (w : List ℕ) : Due → Type 0 where
  h_any : w ≡ codes "any" → PredHead w (d_close n_any)
  h_at : w ≡ codes "at" → PredHead w d_switch
  h_and : w ≡ codes "and" → PredHead w (d_first And)
  h_or : w ≡ codes "or" → PredHead w (d_first Or)
  h_not : w ≡ codes "not" → PredHead w (d_first Not)
  h_field : (i : Field) → w ≡ name i → PredHead w (d_value i)

pub data PolHead (w : List ℕ) : Due → Type 0 where
  h_send : w ≡ codes "send" → PolHead w (d_first Send)
  h_both : w ≡ codes "both" → PolHead w (d_first Both)
  h_keep : w ≡ codes "keep" → PolHead w (d_first Keep)

-- one name after another: this one, or a later one
module _ {A : Type 0} (w v : List ℕ) (P : A → Type 0) (y e : A) where
  this_or : (x : Option A) → or_wrong Head (cond (bytes_eq w v) (Some y) x) ≡ Ok e → (w ≡ v → P y) → (or_wrong Head x ≡ Ok e → P e) → P e
  this_or x q here later = go (bytes_eq w v) refl q
    where
      go : (b : Bool) → bytes_eq w v ≡ b → or_wrong Head (cond b (Some y) x) ≡ Ok e → P e
      go true s r = let k : y ≡ e = cc in subst P k (here ((bytes_eq-Decides w v).0 s))
      go false s r = later r

field_named : (w : List ℕ) (i : Field) → or_wrong Head (named_field w) ≡ Ok i → w ≡ name i
field_named w i q =
    let P : Field → Type 0 = λ k. w ≡ name k in
    this_or w (name DlSrc) P DlSrc i _ q (λ e. e) (λ q1.
    this_or w (name DlDst) P DlDst i _ q1 (λ e. e) (λ q2.
    this_or w (name DlTyp) P DlTyp i _ q2 (λ e. e) (λ q3.
    this_or w (name NwSrc) P NwSrc i _ q3 (λ e. e) (λ q4.
    this_or w (name NwDst) P NwDst i _ q4 (λ e. e) (λ q5.
    this_or w (name NwProto) P NwProto i _ q5 (λ e. e) (λ q6.
    this_or w (name TpSrc) P TpSrc i _ q6 (λ e. e) (λ q7.
    this_or w (name TpDst) P TpDst i _ q7 (λ e. e) (λ q8. absurd (err_ok q8)))))))))

field_due : (w : List ℕ) (e : Due) (o : Option Field) → named_field w ≡ o → or_wrong Head (value_due o) ≡ Ok e → PredHead w e
field_due w e None s q = absurd (err_ok q)
field_due w e (Some i) s q = let k : d_value i ≡ e = cc in subst (PredHead w) k (h_field i (field_named w i (ap (or_wrong Head) s)))

pub pred_head : (w : List ℕ) (e : Due) → fill (d_head Predicate) w ≡ Ok e → PredHead w e
pred_head w e q =
    this_or w (codes "any") (PredHead w) (d_close n_any) e _ q h_any (λ q1.
    this_or w (codes "at") (PredHead w) d_switch e _ q1 h_at (λ q2.
    this_or w (codes "and") (PredHead w) (d_first And) e _ q2 h_and (λ q3.
    this_or w (codes "or") (PredHead w) (d_first Or) e _ q3 h_or (λ q4.
    this_or w (codes "not") (PredHead w) (d_first Not) e _ q4 h_not (λ q5.
    field_due w e (named_field w) refl q5)))))

pub pol_head : (w : List ℕ) (e : Due) → fill (d_head Policy) w ≡ Ok e → PolHead w e
pol_head w e q =
    this_or w (codes "send") (PolHead w) (d_first Send) e _ q h_send (λ q1.
    this_or w (codes "both") (PolHead w) (d_first Both) e _ q1 h_both (λ q2.
    this_or w (codes "keep") (PolHead w) (d_first Keep) e _ q2 h_keep (λ q3. absurd (err_ok q3))))

-- a value that was taken
pub taken : {A : Type 0} (o : Option A) (g : A → Due) (e : Due) → and_then (or_wrong Value o) (λ x. Ok (g x)) ≡ Ok e → (a : A) × (o ≡ Some a) × (g a ≡ e)
taken None g e q = absurd (err_ok q)
taken (Some a) g e q = let k : g a ≡ e = cc in (a, refl, k)
