-- The route kind keeps the four laws, and a packet hits a route pattern by three tests.
use Rattle.std.specs.Prelude.{◌≡◌, Bool, true, false, cond, not, ◌&&◌, ◌||◌, ◌==◌, refl}
use Rattle.std.proofs.Common.{sym, ap, subst, ◌∙◌, inl, inr}
use Rattle.std.proofs.lemmas.Bool.{or_cases, cond-true}
use Rattle.packet.proofs.Every.{number_allowed, same_row}
use Rattle.packet.proofs.Put.{same_true}
use Rattle.packet.proofs.Witness.{lawful_number}
use Rattle.packet.specs.Fields.{allowed, same, way}
use Rattle.packet.specs.Packets.{number}
use Rattle.packet.specs.declared.packet.Packet.{Packet}
use Rattle.packet.specs.declared.field.Field.{Field}
use Rattle.packet.specs.declared.field.Field.TheVariants.{DlSrc, DlDst, DlTyp, NwSrc, NwDst, NwProto, TpSrc, TpDst}
use Rattle.header.specs.KindLaws.{Laid, kind_laws}
use Rattle.header.specs.Prefixes.{prefix_laws}
use Rattle.header.specs.TestCells.{blank_takes}
use Rattle.std.proofs.Math.Bool.{and-true}
use Rattle.header.specs.Cells.{both_all, test_cells}
use Rattle.header.specs.Laws.{Laws}
use Rattle.header.specs.Routes.{routes, route_kind, prefixes, takes, at, of_cells, all, blank, full, longer, routed, own}
use Rattle.header.specs.declared.route.Prefix.{Prefix}
use Rattle.header.specs.declared.route.RoutePattern.{RoutePattern}

all_cells : at all ≡ (λ f. blank)
all_cells = same_row (at all) (λ f. blank) refl refl refl refl refl refl refl refl

-- one of two patterns asks for IP
either_network : (a b : Bool) → cond (a || b) (full DlTyp 2048) blank ≡ longer (cond a (full DlTyp 2048) blank) (cond b (full DlTyp 2048) blank)
either_network true true = refl
either_network true false = refl
either_network false true = refl
either_network false false = refl

join_cells : (p q : RoutePattern) → at (routes.join p q) ≡ both_all prefixes (at p) (at q)
join_cells p q = same_row (at (routes.join p q)) (both_all prefixes (at p) (at q)) refl refl (either_network p.network q.network) refl refl refl refl refl

-- the cells of a test of an address are a route pattern's
abbrev Kept : Prefix → Field → Type 0
Kept c f = at (of_cells (test_cells prefixes (way f) f c)) ≡ test_cells prefixes (way f) f c

address_kept : (f : Field) (c : Prefix) → routed f ≡ true → Kept c f
address_kept f c h =
    elim (or_cases (same f NwSrc) (same f NwDst) h) [
      | inl e ↦ subst (Kept c) (sym (same_true f NwSrc e)) (same_row _ (test_cells prefixes (way NwSrc) NwSrc c) refl refl refl refl refl refl refl refl)
      | inr e ↦ subst (Kept c) (sym (same_true f NwDst e)) (same_row _ (test_cells prefixes (way NwDst) NwDst c) refl refl refl refl refl refl refl refl)
    ]

pub laid : Laid prefixes routes
laid =
    record {
      all_cells = all_cells;
      join_cells = join_cells;
      pattern_cells = λ t h. ap at (cond-true (routed t.field) _ all h) ∙ address_kept t.field (own t) h;
      own_sized = λ t h. t.fit;
      own_takes = λ t h x small. refl;
    }

pub route_laws : Laws route_kind
route_laws = kind_laws prefixes routes prefix_laws laid

-- nothing is asked of the other fields
pub hit_parts : (p : RoutePattern) (k : Packet) → route_kind.hit p k ≡ (((not p.network || number k DlTyp == 2048) && takes NwSrc p.nwsrc (number k NwSrc)) && takes NwDst p.nwdst (number k NwDst))
hit_parts p k =
    simp (unasked DlSrc, unasked DlDst, unasked NwProto, unasked TpSrc, unasked TpDst, ip p.network, and-true)
  where
    fit : (f : Field) → allowed f (number k f) ≡ true
    fit = number_allowed (number k) (lawful_number k)

    unasked : (f : Field) → takes f blank (number k f) ≡ true
    unasked f = blank_takes prefixes prefix_laws f (number k f) (fit f)

    ip : (b : Bool) → takes DlTyp (cond b (full DlTyp 2048) blank) (number k DlTyp) ≡ (not b || number k DlTyp == 2048)
    ip true = prefix_laws.full_takes DlTyp 2048 (number k DlTyp) refl (fit DlTyp)
    ip false = unasked DlTyp
