-- Nodes as the definitions see them: a send's ports are a list.
use Rattle.std.specs.Prelude.{ℕ, List}
use Rattle.packet.specs.Written.{written}
use Rattle.packet.specs.declared.test.Test.{Test}
use Rattle.policy.specs.declared.node.Node.{Node}
use Rattle.policy.specs.declared.node.Node.TheVariants.{Any, At, Is, And, Or, Not, Send, Both, Keep}

pub data Shape : Type 0 where
  n_any n_and n_or n_not n_both n_keep : Shape
  n_at : ℕ → Shape
  n_is : Test → Shape
  n_send : List ℕ → Shape

abbrev pub shape : Node → Shape
shape Any = n_any
shape (At n) = n_at n
shape (Is t) = n_is t
shape And = n_and
shape Or = n_or
shape Not = n_not
shape (Send ports) = n_send (written ports)
shape Both = n_both
shape Keep = n_keep
