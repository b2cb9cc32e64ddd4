-- The laws of a header kind whose patterns have a cell for each field.
use Rattle.std.specs.Prelude.{◌≡◌, ℕ, Bool, true, false, cond, ◌&&◌, Some, None, refl}
use Rattle.std.proofs.Common.{sym, ap, subst, ◌∙◌, inl, inr, arith}
use Rattle.std.proofs.lemmas.Bool.{both_ways, cases_Bool}
use Rattle.packet.proofs.Every.{every_from, number_allowed}
use Rattle.packet.proofs.Ways.{way_of, exists_way}
use Rattle.packet.proofs.Witness.{lawful_number}
use Rattle.packet.specs.Fields.{allowed, exists, way}
use Rattle.packet.specs.Packets.{number}
use Rattle.packet.specs.Tests.{accepts, true_of}
use Rattle.packet.specs.declared.field.Field.{Field}
use Rattle.packet.specs.declared.packet.Packet.{Packet}
use Rattle.packet.specs.declared.test.Test.{Test}
use Rattle.header.specs.CellLaws.{CellLaws}
use Rattle.header.specs.FieldWise.{witness, both_made, both_hit, clash_hit, cover_hit, escaped}
use Rattle.header.specs.TestCells.{test_hit, test_made, blank_takes}
use Rattle.header.specs.Cells.{Cell, hits_all, agrees_all, both_all, test_cells, well_made}
use Rattle.header.specs.Laws.{Kind, Laws}
use Rattle.header.specs.Layouts.{Layout, kind_of}

-- what an answer of a test with one outcome says of the test
got : {A : Type 0} (b : Bool) (x y : A) → cond b (Some x) None ≡ Some y → (b ≡ true) × (x ≡ y)
got true x y e = (refl, cc)
got false x y e = let z : ◌≡◌ {A = ℕ} 0 1 = cc in absurd (omega arith)

got_none : {A : Type 0} (b : Bool) (x : A) → cond b (Some x) None ≡ None → b ≡ false
got_none true x e = let z : ◌≡◌ {A = ℕ} 0 1 = cc in absurd (omega arith)
got_none false x e = refl

-- what a layout owes beside the laws of its cells
pub record Laid {P C : Type 0} (cell : Cell C) (layout : Layout P C) : Type 0 where
  pub all_cells : layout.at layout.all ≡ (λ f. cell.blank)
  pub join_cells : (p q : P) → layout.at (layout.join p q) ≡ both_all cell (layout.at p) (layout.at q)
  pub pattern_cells : (t : Test) → layout.carried t ≡ true → layout.at (layout.pattern t) ≡ test_cells cell (way t.field) t.field (layout.own t)
  pub own_sized : (t : Test) → layout.carried t ≡ true → cell.sized t.field (layout.own t) ≡ true
  pub own_takes : (t : Test) → layout.carried t ≡ true → (x : ℕ) → allowed t.field x ≡ true → cell.takes t.field (layout.own t) x ≡ accepts t x

module _ {P C : Type 0} (cell : Cell C) (layout : Layout P C) (cell_laws : CellLaws cell) (laid : Laid cell layout) where
  abbrev kind : Kind P
  kind = kind_of cell layout

  abbrev cells : P → Field → C
  cells = layout.at

  abbrev join : P → P → P
  join = layout.join

  all_made : kind.made kind.all ≡ true
  all_made =
      subst (λ c. well_made cell c ≡ true) (sym laid.all_cells)
      (simp (cell_laws.blank_sized, cell_laws.blank_unstated))

  all_hit : (k : Packet) → kind.hit kind.all k ≡ true
  all_hit k = subst (λ c. hits_all cell c (number k) ≡ true) (sym laid.all_cells) (every_from _ (λ f. blank_takes cell cell_laws f (number k f) (number_allowed (number k) (lawful_number k) f)))

  pattern_made : (t : Test) → kind.carried t ≡ true → kind.made (kind.pattern t) ≡ true
  pattern_made t h = subst (λ c. well_made cell c ≡ true) (sym (laid.pattern_cells t h)) (test_made cell cell_laws t.field (way t.field) (way_of t.field) (layout.own t) (laid.own_sized t h))

  pattern_hit : (t : Test) → kind.carried t ≡ true → (k : Packet) → kind.hit (kind.pattern t) k ≡ true_of t k
  pattern_hit t h k =
      ap (λ c. hits_all cell c (number k)) (laid.pattern_cells t h)
      ∙ test_hit cell cell_laws t.field (way t.field) (way_of t.field) (layout.own t) (number k) (lawful_number k)
      ∙ ap (λ b. b && cell.takes t.field (layout.own t) (number k t.field)) (sym (exists_way (number k) t.field))
      ∙ ap (λ b. exists (number k) t.field && b) (laid.own_takes t h (number k t.field) (number_allowed (number k) (lawful_number k) t.field))

  module _ (p q : P) (mp : kind.made p ≡ true) (mq : kind.made q ≡ true) where
    join_made : agrees_all cell (cells p) (cells q) ≡ true → kind.made (join p q) ≡ true
    join_made a = subst (λ c. well_made cell c ≡ true) (sym (laid.join_cells p q)) (both_made cell cell_laws (cells p) (cells q) mp mq a)

    join_hit : agrees_all cell (cells p) (cells q) ≡ true → (k : Packet) → kind.hit (join p q) k ≡ (kind.hit p k && kind.hit q k)
    join_hit a k = ap (λ c. hits_all cell c (number k)) (laid.join_cells p q) ∙ both_hit cell cell_laws (cells p) (cells q) mp mq a k

    meet_made : (r : P) → kind.meeting p q ≡ Some r → kind.made r ≡ true
    meet_made r e = let g = got _ _ _ e in subst (λ x. kind.made x ≡ true) g.1 (join_made g.0)

    meet_hit : (r : P) → kind.meeting p q ≡ Some r → (k : Packet) → kind.hit r k ≡ (kind.hit p k && kind.hit q k)
    meet_hit r e k = let g = got _ _ _ e in subst (λ x. kind.hit x k ≡ (kind.hit p k && kind.hit q k)) g.1 (join_hit g.0 k)

    none_hit : kind.meeting p q ≡ None → (k : Packet) → (kind.hit p k && kind.hit q k) ≡ false
    none_hit e = clash_hit cell cell_laws (cells p) (cells q) mp mq (got_none _ _ e)

    hit_none : ((k : Packet) → (kind.hit p k && kind.hit q k) ≡ false) → kind.meeting p q ≡ None
    hit_none h =
        elim (cases_Bool (agrees_all cell (cells p) (cells q))) [
          | inl a ↦ (let w = witness cell cell_laws (cells (join p q)) (join_made a) in absurd (both_ways _ (h w.0) (sym (join_hit a w.0) ∙ w.1)))
          | inr a ↦ ap (λ b. cond b (Some (join p q)) None) a
        ]

    covered : ((k : Packet) → kind.hit q k ≡ true → kind.hit p k ≡ true) → kind.covering p q ≡ true
    covered h =
        elim (cases_Bool (kind.covering p q)) [
          | inl c ↦ c
          | inr c ↦ (let w = escaped cell cell_laws (cells p) (cells q) mp mq c in absurd (both_ways _ w.2 (h w.0 w.1)))
        ]

  pub kind_laws : Laws (kind_of cell layout)
  kind_laws =
      record {
        all_made = all_made;
        pattern_made = pattern_made;
        meet_made = λ p q r mp mq. meet_made p q mp mq r;
        all_hit = all_hit;
        pattern_hit = pattern_hit;
        meet_hit = λ p q r mp mq. meet_hit p q mp mq r;
        meet_none = λ p q mp mq. (none_hit p q mp mq, hit_none p q mp mq);
        cover_hit = λ p q mp mq. (cover_hit cell cell_laws (cells p) (cells q) mp mq, covered p q mp mq);
      }
