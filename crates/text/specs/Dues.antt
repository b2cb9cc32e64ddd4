-- What an open bracket waits for, with a send's ports as a list.
use Rattle.std.specs.Prelude.{ℕ, List}
use Rattle.packet.specs.Written.{written}
use Rattle.packet.specs.declared.field.Field.{Field}
use Rattle.policy.specs.Shapes.{Shape, shape}
use Rattle.policy.specs.declared.node.Kind.{Kind}
use Rattle.text.specs.declared.due.Op.{Op}
use Rattle.text.specs.declared.due.Due as code
use Rattle.text.specs.declared.due.Due.TheVariants.{Head, Switch, Value, First, Second, Ports, Close}

pub data Due : Type 0 where
  d_head : Kind → Due
  d_switch : Due
  d_value : Field → Due
  d_first : Op → Due
  d_second : Op → Due
  d_ports : List ℕ → Due
  d_close : Shape → Due

abbrev pub due_of : code.Due → Due
due_of (Head k) = d_head k
due_of Switch = d_switch
due_of (Value f) = d_value f
due_of (First o) = d_first o
due_of (Second o) = d_second o
due_of (Ports ps) = d_ports (written ps)
due_of (Close n) = d_close (shape n)
