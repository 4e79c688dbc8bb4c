-- What one event does to the counts of faults of a world, and the faults that are reached in it.
use Rattle.std.specs.Prelude.{◌≡◌, ◌⊎◌, ℕ, ◌^◌, ◌<◌, ◌≤◌, List, [], ◌∷◌, ◌++◌, length, drop, slice_get, slice_set, Option, Some, None, IsSome, is_some, option_map, option_and_then}
use Rattle.blk_base.specs.declared.fault.FaultAt.{FaultAt}
use Rattle.blk_base.specs.declared.fault.FaultFrom.{FaultFrom}
use Rattle.blk_base.specs.declared.fault.FaultFrom.TheVariants.{Store, Dev, Sink}
use Rattle.blk_base.specs.declared.file.Opened.{Opened}
use Rattle.blk_history.specs.Fold.{With}
use Rattle.blk_nodes.specs.Nodes.{DeviceSeen, device_in}
use Rattle.flat_machine.specs.EventLicence.{Sources}
use Rattle.flat_machine.specs.Licence.{Counts, IsBetweenCounts}
use Rattle.job_works.specs.Works.{work_of}
use Rattle.world_parts.specs.Face.{WorldSeen, first_counts, counts_now}

-- ---- counts only rise

-- an opening goes on: all stays that was known at the opening, and once it is back it stays as it is
pub record IsLater (before after : Opened) : Type 0 where
  pub name : after.name ≡ before.name
  pub size : after.size ≡ before.size
  pub capacity : after.capacity ≡ before.capacity
  pub first : after.faults ≡ before.faults
  pub back : IsSome before.returned → after ≡ before

-- each count of these openings is still there, and has not fallen
abbrev pub HaveNotFallen : List ℕ → List ℕ → Type 0
HaveNotFallen before after = (n count : ℕ) → slice_get before n ≡ Some count
    → With (slice_get after n) (λ now. count ≤ now)

-- The store tells as much as before, all openings go on, those before the run stay, and no count falls.
pub record RunsOn (w v : WorldSeen) : Type 0 where
  pub told : is_some v.files ≡ is_some w.files
  pub room : v.room ≡ w.room
  pub first : v.first_faults ≡ w.first_faults
  pub earlier : v.earlier ≡ w.earlier
  pub store : w.faults ≤ v.faults
  pub openings : (n : ℕ) (o : Opened) → slice_get w.opened n ≡ Some o
      → With (slice_get v.opened n) (IsLater o)
  pub devices : HaveNotFallen (counts_now w).devices (counts_now v).devices

-- ---- faults that are reached

-- numbers of devices have 32 bits
abbrev pub IsNumbered : FaultFrom → Type 0
IsNumbered (Dev dev) = dev.0 < 2 ^ 32
IsNumbered from = Unit {0}

-- the counts that an event began with; of a device that it opened, the one at its opening
abbrev pub counts_within : WorldSeen → WorldSeen → Counts
counts_within w v = record {
  store = w.faults;
  devices = (counts_now w).devices ++ drop (length w.opened) (first_counts v).devices;
}

-- A fault was reached in an event: it is a rise since the opening, and one above the count that the event began with.
pub record IsFaultReached (w v : WorldSeen) (fault : FaultAt) : Type 0 where
  pub rise : IsBetweenCounts (first_counts v) (counts_now v) fault
  pub new : IsBetweenCounts (counts_within w v) (counts_now v) fault
  pub fits : fault.count ≤ 18446744073709551615

-- the fault that an event names was reached in it, where it names one
abbrev pub IsReachedBy : WorldSeen → WorldSeen → Option FaultAt → Type 0
IsReachedBy w v None = Unit {0}
IsReachedBy w v (Some fault) = IsFaultReached w v fault

-- ---- no fault is hidden

-- the counts with that of one source as it is told
abbrev pub with_count : Counts → FaultFrom → ℕ → Counts
with_count counts Store count = record counts { store = count }
with_count counts (Dev dev) count =
    record counts { devices = slice_set counts.devices dev.0 count }
with_count counts Sink count = counts

abbrev pub counts_with : Counts → Option FaultAt → Counts
counts_with counts None = counts
counts_with counts (Some fault) = with_count counts fault.from fault.count

-- An event ends with the counts that it began with, but for that of the fault that it names, which is as it says.
abbrev pub HidesNoFault : WorldSeen → WorldSeen → Option FaultAt → Type 0
HidesNoFault w v named = counts_now v ≡ counts_with (counts_within w v) named

-- one more file was opened, and it is back
pub record HasOneBack (old new : List Opened) : Type 0 where
  pub opening : Opened
  pub is : new ≡ old ++ opening ∷ []
  pub back : IsSome opening.returned

-- no file is out that wasn't
abbrev pub LeavesNoneOut : List Opened → List Opened → Type 0
LeavesNoneOut old new = (new ≡ old) ⊎ HasOneBack old new

-- ---- devices whose counts have not fallen

-- it is the same node's device, of the same opening
pub record IsSameDevice (old new : DeviceSeen) : Type 0 where
  pub node : new.node ≡ old.node
  pub number : new.number ≡ old.number
  pub capacity : new.capacity ≡ old.capacity
  pub faults : old.faults ≤ new.faults

abbrev pub AreSameDevices : List DeviceSeen → List DeviceSeen → Type 0
AreSameDevices [] [] = Unit {0}
AreSameDevices (a ∷ old) (b ∷ new) = IsSameDevice a b × AreSameDevices old new
AreSameDevices _ _ = ⊥

-- ---- whose devices they are

-- of nodes, and of jobs by their works
abbrev pub seen_sources : WorldSeen → Sources
seen_sources w = record {
  device_of = λ node. option_map (λ device. device.number.0) (device_in w.nodes.devices node);
  met_by = λ job. option_and_then (λ work. work.met) (work_of w.works job);
}
