-- The ports that a list of ports holds.
use Rattle.std.specs.Prelude.{ℕ, List}
use Rattle.packet.specs.declared.ports.Ports.{Ports}
use Rattle.packet.specs.Items.{items_of}

-- the ports in rising order, each as often as it has copies
abbrev pub written : Ports → List ℕ
written p = items_of p.list
