-- The route kind: a pattern states whether the packet is IP, and a prefix of each network address.
use Rattle.std.specs.Prelude.{ℕ, min, Bool, cond, ◌&&◌, ◌||◌, ◌==◌, nat_le, nat_lt}
use Rattle.packet.specs.Fields.{fits, same, way, width}
use Rattle.packet.specs.Tests.{first_bits}
use Rattle.packet.specs.declared.field.Field.{Field}
use Rattle.packet.specs.declared.field.Field.TheVariants.{DlTyp, NwSrc, NwDst}
use Rattle.packet.specs.declared.test.Test.{Test}
use Rattle.header.specs.Cells.{Cell, test_cells}
use Rattle.header.specs.Laws.{Kind}
use Rattle.header.specs.Layouts.{Layout, kind_of}
use Rattle.header.specs.declared.route.Prefix.{Prefix}
use Rattle.header.specs.declared.route.RoutePattern.{RoutePattern}

abbrev pub blank : Prefix
blank = record { value = 0; length = 0 }

abbrev pub full : Field → ℕ → Prefix
full f v = record { value = v; length = width f }

abbrev pub stated : Prefix → Bool
stated c = nat_lt 0 c.length

-- the first bits of a number are those of the prefix
abbrev pub takes : Field → Prefix → ℕ → Bool
takes f c x = first_bits f c.length x == first_bits f c.length c.value

-- as far as both go, they have the same bits
abbrev pub agree : Field → Prefix → Prefix → Bool
agree f c d = first_bits f (min c.length d.length) c.value == first_bits f (min c.length d.length) d.value

abbrev pub longer : Prefix → Prefix → Prefix
longer c d = cond (nat_lt c.length d.length) d c

abbrev pub covers : Field → Prefix → Prefix → Bool
covers f c d = nat_le c.length d.length && takes f c d.value

abbrev pub prefixes : Cell Prefix
prefixes =
    record {
      blank = blank;
      full = full;
      sized = λ f c. fits f c.value c.length;
      stated = stated;
      fixes = λ f c x. (c.length == width f) && (c.value == x);
      takes = takes;
      agree = agree;
      both = λ f. longer;
      covers = covers;
    }

-- a pattern by what it states of each field, and back
abbrev pub at : RoutePattern → Field → Prefix
at p DlTyp = cond p.network (full DlTyp 2048) blank
at p NwSrc = p.nwsrc
at p NwDst = p.nwdst
at p f = blank

abbrev pub of_cells : (Field → Prefix) → RoutePattern
of_cells c = record { network = stated (c DlTyp); nwsrc = c NwSrc; nwdst = c NwDst }

abbrev pub all : RoutePattern
all = of_cells (λ f. blank)

-- tests of the two network addresses are carried, of any length
abbrev pub routed : Field → Bool
routed f = same f NwSrc || same f NwDst

abbrev pub own : Test → Prefix
own t = record { value = t.value; length = t.length }

-- the pattern of a carried test states that the packet is IP, and the test's prefix; the join states the longer prefix of each two
abbrev pub routes : Layout RoutePattern Prefix
routes =
    record {
      at = at;
      all = all;
      join = λ p q. record { network = p.network || q.network; nwsrc = longer p.nwsrc q.nwsrc; nwdst = longer p.nwdst q.nwdst };
      carried = λ t. routed t.field;
      own = own;
      pattern = λ t. cond (routed t.field) (of_cells (test_cells prefixes (way t.field) t.field (own t))) all;
    }

abbrev pub route_kind : Kind RoutePattern
route_kind = kind_of prefixes routes
