-- The only device of a run's nodes.
use Rattle.std.specs.Prelude.{◌≡◌, List, [], ◌∷◌}
use Rattle.blk_nodes.specs.Nodes.{DeviceSeen}
use Rattle.qblk_core.specs.ImageNodes.{only_device}

pub record IsOnlyDevice (devices : List DeviceSeen) (device : DeviceSeen) : Type 0 where
  pub only : devices ≡ device ∷ []
  pub node : device.node ≡ 0
  pub number : device.number ≡ only_device
