-- Devices that are handed out.
use Rattle.std.specs.Prelude.{ℕ}
use Rattle.blk_base.specs.declared.device.Device.{Ghosts}
use Rattle.blk_base.specs.declared.fault.DevNo.{DevNo}
use Rattle.blk_nodes.specs.Nodes.{DeviceSeen}

-- what is seen of the device of a node, with its number among the openings of the run
abbrev pub device_state : {D : Type 0} → Ghosts D → ℕ → DevNo → D → DeviceSeen
device_state g node number device = record {
  node = node;
  number = number;
  content = g.content device;
  is_flushed = g.is_flushed device;
  log = g.log device;
  size = g.size device;
  capacity = g.capacity device;
  faults = g.faults device;
  failed_call = g.failed_call device;
}
