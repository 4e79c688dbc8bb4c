-- Nodes of whose devices none was called.
use Rattle.std.proofs.Common.{List, [], ◌∷◌, refl, arith}
use Rattle.blk_nodes.specs.Nodes.{DeviceSeen, Nodes}
use Rattle.blk_nodes.specs.Reading.{HaveRisen}
use Rattle.world_parts.specs.Looking.{HasCalled}

-- ---- nothing was called

risen-itself : (devices : List DeviceSeen) → HaveRisen devices devices
risen-itself [] = tt
risen-itself (d ∷ devices) = (record { same = refl; faults = omega arith }, risen-itself devices)

pub called_itself : (nodes : Nodes) → HasCalled nodes nodes
called_itself nodes = record { kept = refl; risen = risen-itself nodes.devices; disks = λ other. refl }
