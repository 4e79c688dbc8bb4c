-- What a flush of a node leaves and answers.
use Rattle.std.specs.Prelude.{◌≡◌, ◌⊎◌, ℕ, ◌≤◌, zero, suc, ◌||◌, List, Option, Some, None, option_map}
use Rattle.blk_base.specs.Calls.{FailedLast}
use Rattle.blk_base.specs.Outcomes.{is_good}
use Rattle.blk_base.specs.declared.device.DeviceCall.{DeviceCall}
use Rattle.blk_base.specs.declared.device.DeviceCall.TheVariants.{Flush}
use Rattle.blk_base.specs.declared.fault.Outcome.{Outcome}
use Rattle.blk_base.specs.declared.fault.Outcome.TheVariants.{Good, Torn, Io, NoSpace}
use Rattle.blk_nodes.specs.Nodes.{Nodes, DeviceSeen, device_in, file_of, filtered_of}
use Rattle.blk_nodes.specs.Reading.{OnlyAt, StoppedBy}

-- the file of a node, or what it is the filter of
abbrev pub under_of : Nodes → ℕ → Option ℕ
under_of nodes node = elim (file_of nodes node) as (λ _. Option ℕ) [
  | None ↦ filtered_of nodes node
  | Some file ↦ Some file
]

-- the node that stands at the end of these edges, of which so many are followed
abbrev pub base_in : ℕ → Nodes → ℕ → ℕ
base_in zero nodes node = node
base_in (suc turns) nodes node = elim (under_of nodes node) as (λ _. ℕ) [
  | None ↦ node
  | Some next ↦ base_in turns nodes next
]

-- no path has so many
unfoldable pub base_of : Nodes → ℕ → ℕ
base_of nodes node = base_in 64 nodes node

-- why a flush went so
abbrev pub HasFlushCause : DeviceSeen → DeviceSeen → Outcome → Type 0
HasFlushCause old new Good = new.faults ≡ old.faults
HasFlushCause old new (Torn done dev count) = ⊥
HasFlushCause old new (Io dev count) = StoppedBy old new dev count
HasFlushCause old new (NoSpace dev) = ⊥

-- which call failed last, behind a flush that went so
abbrev pub FailsFlushing : Outcome → Option DeviceCall → Option DeviceCall → Type 0
FailsFlushing Good before now = now ≡ before
FailsFlushing (Torn done dev count) before now = ⊥
FailsFlushing (Io dev count) before now = FailedLast Flush now
FailsFlushing (NoSpace dev) before now = ⊥

-- a device after a flush
pub record IsFlushOf (old new : DeviceSeen) (outcome : Outcome) : Type 0 where
  pub is : new ≡ record old {
    is_flushed = option_map (λ f. is_good outcome || f) old.is_flushed;
    faults = new.faults;
    failed_call = new.failed_call;
  }
  pub faults : old.faults ≤ new.faults
  pub cause : HasFlushCause old new outcome
  pub call : FailsFlushing outcome old.failed_call new.failed_call

-- the device of a `file` node after it, and all others as before
pub record IsFlushOn (file : ℕ) (old new : List DeviceSeen) (outcome : Outcome) : Type 0 where
  pub before : DeviceSeen
  pub after : DeviceSeen
  pub held : device_in old file ≡ Some before
  pub left : device_in new file ≡ Some after
  pub flush : IsFlushOf before after outcome
  pub only : OnlyAt file old new

-- and where the node has no device, as the filter of nothing, no device is asked
abbrev pub IsFlushAt : ℕ → List DeviceSeen → List DeviceSeen → Outcome → Type 0
IsFlushAt file old new outcome = IsFlushOn file old new outcome
    ⊎ ((device_in old file ≡ None) × (new ≡ old) × (outcome ≡ Good))
