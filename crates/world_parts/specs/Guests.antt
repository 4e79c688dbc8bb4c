-- What is so of guests and their devices, by the table.
use Rattle.std.specs.Prelude.{List}
use Rattle.qmp_rules.specs.Table.{RunTable}
use Rattle.flat_machine.specs.State.{Guest}
use Rattle.world_parts.specs.Coherent.{AreAllowed, AreOnDisks, AreOnWritable, AreWithin, AskToWrite, HaveDrives}

-- Each device is on a node with a flat disk, which isn't read-only where the device may write, and its edge asks to then. A
-- request in flight lies within its guest's disk, and is one that the device allows.
pub record GuestsStand (t : RunTable) (guests : List Guest) : Type 0 where
  pub drives : HaveDrives t
  pub disks : AreOnDisks t
  pub asks : AskToWrite t
  pub writable : AreOnWritable t
  pub within : AreWithin t guests
  pub allowed : AreAllowed t guests
