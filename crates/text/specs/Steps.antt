-- What each item of a text does to a reading, or what is wrong with it.
use Rattle.std.specs.Prelude.{ℕ, Bool, true, false, cond, List, [], ◌∷◌, length, Some, None, Ok, Err, codes, Option, Result, nat_lt}
use Rattle.std.specs.Str.{bytes_eq}
use Rattle.packet.specs.declared.field.Field.{Field}
use Rattle.policy.specs.declared.node.Kind.{Kind}
use Rattle.policy.specs.declared.node.Kind.TheVariants.{Predicate, Policy}
use Rattle.text.specs.declared.due.Op.{Op}
use Rattle.text.specs.declared.due.Op.TheVariants.{And, Or, Not, Send, Both, Keep}
use Rattle.packet.specs.declared.fault.ReaderCause.{ReaderCause}
use Rattle.packet.specs.declared.fault.ReaderCause.TheVariants.{Head, Word, Value, Depth, Nodes}
use Rattle.policy.specs.Shapes.{Shape}
use Rattle.policy.specs.Shapes.Shape.{n_any, n_at, n_is, n_and, n_or, n_not, n_send, n_both, n_keep}
use Rattle.text.specs.Dues.{Due}
use Rattle.text.specs.Dues.Due.{d_head, d_switch, d_value, d_first, d_second, d_ports, d_close}
use Rattle.packet.specs.PortLists.{placed}
use Rattle.text.specs.Heads.{named_field}
use Rattle.text.specs.Values.{sixteen_bits, port_from, test_from}

-- a reading under way: what each open bracket waits for and the nodes made, the newest first,
-- whether this line has its form, and whether a form has closed before, so that the next is joined to it
pub record Reading : Type 0 where
  pub brackets : List Due
  pub nodes : List Shape
  pub formed : Bool
  pub joins : Bool

abbrev pub start : Reading
start = record { brackets = []; nodes = []; formed = false; joins = false }

abbrev pub with_brackets : Reading → List Due → Reading
with_brackets s ds = record { brackets = ds; nodes = s.nodes; formed = s.formed; joins = s.joins }

-- the kind of part that is due, and what is due after it
pub record Part : Type 0 where
  pub kind : Kind
  pub after : Due

abbrev pub first_part : Op → Part
first_part And = record { kind = Predicate; after = d_second And }
first_part Or = record { kind = Predicate; after = d_second Or }
first_part Not = record { kind = Predicate; after = d_close n_not }
first_part Send = record { kind = Predicate; after = d_ports [] }
first_part Both = record { kind = Policy; after = d_second Both }
first_part Keep = record { kind = Predicate; after = d_second Keep }

-- not and send have no second part; what stands for them here is never due
abbrev pub second_part : Op → Option Part
second_part And = Some (record { kind = Predicate; after = d_close n_and })
second_part Or = Some (record { kind = Predicate; after = d_close n_or })
second_part Not = None
second_part Send = None
second_part Both = Some (record { kind = Policy; after = d_close n_both })
second_part Keep = Some (record { kind = Policy; after = d_close n_keep })

abbrev pub part_due : Due → Option Part
part_due (d_head s) = None
part_due d_switch = None
part_due (d_value f) = None
part_due (d_first o) = Some (first_part o)
part_due (d_second o) = second_part o
part_due (d_ports ps) = None
part_due (d_close n) = None

-- the node of a bracket that may close
abbrev pub closes : Due → Option Shape
closes (d_head s) = None
closes d_switch = None
closes (d_value f) = None
closes (d_first o) = None
closes (d_second o) = None
closes (d_ports ps) = Some (n_send ps)
closes (d_close n) = Some n

abbrev pub value_due : Option Field → Option Due
value_due None = None
value_due (Some f) = Some (d_value f)

-- what is due after a head word
abbrev pub head_due : Kind → List ℕ → Option Due
head_due Policy w =
    cond (bytes_eq w (codes "send")) (Some (d_first Send)) (cond (bytes_eq w (codes "both")) (Some (d_first Both))
    (cond (bytes_eq w (codes "keep")) (Some (d_first Keep)) None))
head_due Predicate w =
    cond (bytes_eq w (codes "any")) (Some (d_close n_any)) (cond (bytes_eq w (codes "at")) (Some d_switch)
    (cond (bytes_eq w (codes "and")) (Some (d_first And)) (cond (bytes_eq w (codes "or")) (Some (d_first Or))
    (cond (bytes_eq w (codes "not")) (Some (d_first Not)) (value_due (named_field w))))))

-- the value of an option, or what its absence means
abbrev pub or_wrong : {A : Type 0} → ReaderCause → Option A → Result A ReaderCause
or_wrong e None = Err e
or_wrong e (Some a) = Ok a

abbrev pub and_then : {E A B : Type 0} → Result A E → (A → Result B E) → Result B E
and_then (Ok a) f = f a
and_then (Err e) f = Err e

-- what a call that answers r leaves, if it answers Ok
abbrev pub answered : {U A : Type 0} → Result U ReaderCause → A → Result A ReaderCause
answered (Ok u) a = Ok a
answered (Err e) a = Err e

abbrev pub map_ok : {A B : Type 0} → (A → B) → Result A ReaderCause → Result B ReaderCause
map_ok f (Ok a) = Ok (f a)
map_ok f (Err e) = Err e

abbrev pub map_some : {A B : Type 0} → (A → B) → Option A → Option B
map_some f None = None
map_some f (Some a) = Some (f a)

-- a word inside a bracket
abbrev pub fill : Due → List ℕ → Result Due ReaderCause
fill (d_head s) w = or_wrong Head (head_due s w)
fill d_switch w = and_then (or_wrong Value (sixteen_bits w)) (λ n. Ok (d_close (n_at n)))
fill (d_value f) w = and_then (or_wrong Value (test_from f w)) (λ t. Ok (d_close (n_is t)))
fill (d_first o) w = Err Word
fill (d_second o) w = Err Word
fill (d_ports ps) w = cond (nat_lt (length ps) 8) (and_then (or_wrong Value (port_from w)) (λ p. Ok (d_ports (placed p ps)))) (Err Word)
fill (d_close n) w = Err Word

abbrev pub word_on : Reading → List ℕ → List Due → Result Reading ReaderCause
word_on s w [] = Err Word
word_on s w (d ∷ ds) = and_then (fill d w) (λ e. Ok (with_brackets s (e ∷ ds)))

abbrev pub open_part : Reading → List Due → Option Part → Result Reading ReaderCause
open_part s ds None = Err Word
open_part s ds (Some p) = cond (nat_lt (length ds) 15) (Ok (with_brackets s (d_head p.kind ∷ p.after ∷ ds))) (Err Depth)

abbrev pub opening_on : Reading → List Due → Result Reading ReaderCause
opening_on s [] = cond s.formed (Err Word) (Ok (with_brackets s (d_head Policy ∷ [])))
opening_on s (d ∷ ds) = open_part s ds (part_due d)

abbrev pub grown : Shape → List Shape → Result (List Shape) ReaderCause
grown n ns = cond (nat_lt (length ns) 64) (Ok (n ∷ ns)) (Err Nodes)

-- a line's form has closed: it is joined to the forms before it
abbrev pub join : Reading → List Shape → Result (List Shape) ReaderCause
join s ns = cond s.joins (grown n_both ns) (Ok ns)

abbrev pub closed : Reading → List Shape → List Due → Result Reading ReaderCause
closed s ns (d ∷ ds) = Ok (record { brackets = d ∷ ds; nodes = ns; formed = s.formed; joins = s.joins })
closed s ns [] = and_then (join s ns) (λ ms. Ok (record { brackets = []; nodes = ms; formed = true; joins = true }))

abbrev pub close_node : Reading → List Due → Option Shape → Result Reading ReaderCause
close_node s ds None = Err Word
close_node s ds (Some n) = and_then (grown n s.nodes) (λ ns. closed s ns ds)

abbrev pub closing_on : Reading → List Due → Result Reading ReaderCause
closing_on s [] = Err Word
closing_on s (d ∷ ds) = close_node s ds (closes d)

abbrev pub line_on : Reading → List Due → Result Reading ReaderCause
line_on s [] = Ok (record { brackets = []; nodes = s.nodes; formed = false; joins = s.joins })
line_on s (d ∷ ds) = Err Word

-- each item on a reading
unfoldable pub wording : Reading → List ℕ → Result Reading ReaderCause
wording s w = word_on s w s.brackets

unfoldable pub opening : Reading → Result Reading ReaderCause
opening s = opening_on s s.brackets

unfoldable pub closing : Reading → Result Reading ReaderCause
closing s = closing_on s s.brackets

unfoldable pub line_ending : Reading → Result Reading ReaderCause
line_ending s = line_on s s.brackets
