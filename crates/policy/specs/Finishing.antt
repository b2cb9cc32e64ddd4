-- When nodes make a policy, and the empty policy.
use Rattle.std.specs.Prelude.{◌≡◌, false, List, [], Some, None, Option}
use Rattle.policy.specs.Roots.{shapes_of}
use Rattle.policy.specs.Shapes.{Shape}
use Rattle.policy.specs.Trees.{Pol, stack_of, only_policy}
use Rattle.policy.specs.Trees.Pred.{any}
use Rattle.policy.specs.Trees.Pol.{send}
use Rattle.policy.specs.declared.policy.Policy.{Policy}

-- the policy of some nodes; none exactly where they do not leave one policy untaken and nothing else
abbrev pub Finished : List Shape → Option Policy → Type 0
Finished ns None = only_policy (stack_of ns) ≡ false
Finished ns (Some p) = shapes_of p ≡ ns

-- send of any to no ports
abbrev pub empty_tree : Pol
empty_tree = send any []
