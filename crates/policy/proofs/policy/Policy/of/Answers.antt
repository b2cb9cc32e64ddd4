-- Nodes that leave one policy have their parts right by number too.
use Rattle.std.proofs.Common.{map}
use Rattle.packet.specs.Items.{items_of}
use Rattle.policy.specs.Shapes.{shape}
use Rattle.policy.proofs.Numbering.{parts_right}
use Rattle.policy.proofs.policy.Policy.of.Goals as goal

pub invariant_of-result : goal.invariant_of-result
invariant_of-result c =
    let p = parts_right (map shape (items_of c.args.nodes)) c.requires in
    record { sound = c.requires; below = p.below; once = p.once; kinds = ∣ p.kinds ∣₁; root = ∣ p.root ∣₁ }
