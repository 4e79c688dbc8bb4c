-- Numbers of 64 bits: those of an entry that its line prints and that no state decides.
use Rattle.std.specs.Prelude.{◌<◌, ◌^◌}
use Rattle.blk_base.specs.declared.fault.Fault.TheVariants as faults
use Rattle.blk_base.specs.declared.fault.Outcome.{Outcome}
use Rattle.blk_base.specs.declared.fault.Outcome.TheVariants.{Good, Torn, Io, NoSpace}
use Rattle.blk_history.specs.declared.entry.JobEnd.{JobEnd}
use Rattle.blk_history.specs.declared.entry.JobEnd.TheVariants.{Failed}
use Rattle.blk_history.specs.declared.event.Event.{Event}
use Rattle.blk_history.specs.declared.event.Event.TheVariants.{Piece, End}

abbrev pub IsSmallOutcome : Outcome → Type 0
IsSmallOutcome Good = Unit {0}
IsSmallOutcome (Torn done dev count) = (done < 2 ^ 64) × (dev.0 < 2 ^ 64) × (count < 2 ^ 64)
IsSmallOutcome (Io dev count) = (dev.0 < 2 ^ 64) × (count < 2 ^ 64)
IsSmallOutcome (NoSpace dev) = dev.0 < 2 ^ 64

abbrev pub IsSmallEnd : JobEnd → Type 0
IsSmallEnd (Failed (faults.Io dev count)) = (dev.0 < 2 ^ 64) × (count < 2 ^ 64)
IsSmallEnd (Failed (faults.NoSpace dev)) = dev.0 < 2 ^ 64
IsSmallEnd outcome = Unit {0}

abbrev pub IsSmall : Event → Type 0
IsSmall (Piece g r k outcome got) = IsSmallOutcome outcome
IsSmall (End job outcome offset) = IsSmallEnd outcome
IsSmall e = Unit {0}
