-- The two kinds of node, and the kinds of a node's parts.
use Rattle.std.specs.Prelude.{List, [], ◌∷◌}
use Rattle.policy.specs.declared.node.Kind.{Kind}
use Rattle.policy.specs.declared.node.Kind.TheVariants.{Predicate, Policy}
use Rattle.policy.specs.Shapes.{Shape}
use Rattle.policy.specs.Shapes.Shape.{n_any, n_at, n_is, n_and, n_or, n_not, n_send, n_both, n_keep}

abbrev pub kind_of : Shape → Kind
kind_of n_any = Predicate
kind_of (n_at n) = Predicate
kind_of (n_is t) = Predicate
kind_of n_and = Predicate
kind_of n_or = Predicate
kind_of n_not = Predicate
kind_of (n_send p) = Policy
kind_of n_both = Policy
kind_of n_keep = Policy

-- the kinds of its parts, the oldest first
abbrev pub wanted : Shape → List Kind
wanted n_any = []
wanted (n_at n) = []
wanted (n_is t) = []
wanted n_and = Predicate ∷ Predicate ∷ []
wanted n_or = Predicate ∷ Predicate ∷ []
wanted n_not = Predicate ∷ []
wanted (n_send p) = Predicate ∷ []
wanted n_both = Policy ∷ Policy ∷ []
wanted n_keep = Predicate ∷ Policy ∷ []
