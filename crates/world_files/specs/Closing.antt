-- The end of a world: each device is flushed and given back.
use Rattle.std.specs.Prelude.{◌≡◌, ◌≤◌, ℕ, Bool, true, false, if◌then◌else◌, List, [], ◌∷◌, ◌++◌, map, slice_get, Contains, bytes_eq, Option, Some, None, MatchOption, is_some, option_map, unwrap_or}
use Rattle.blk_base.specs.Calls.{FailedLast}
use Rattle.blk_base.specs.Counts.{Rose}
use Rattle.blk_base.specs.Files.{given_back, file_at, is_out}
use Rattle.blk_base.specs.Stored.{files_with_returned}
use Rattle.blk_base.specs.declared.device.DeviceCall.{DeviceCall}
use Rattle.blk_base.specs.declared.device.DeviceCall.TheVariants as calls
use Rattle.blk_base.specs.declared.fault.DevNo.{DevNo}
use Rattle.blk_base.specs.declared.fault.FaultAt.{FaultAt}
use Rattle.blk_base.specs.declared.fault.FaultFrom.TheVariants.{Dev}
use Rattle.blk_base.specs.declared.file.File.{File}
use Rattle.blk_base.specs.declared.file.Opened.{Opened}
use Rattle.blk_history.specs.Fold.{With}
use Rattle.blk_nodes.specs.Nodes.{DeviceSeen}
use Rattle.qmp_rules.specs.Table.{RunTable}
use Rattle.flat_machine.specs.Licence.{fault_at}
use Rattle.flat_machine.specs.State.{filename_of}
use Rattle.world_parts.specs.Steps.{StoreSeen, seen_store}
use Rattle.world_parts.specs.Counting.{HaveNotFallen}
use Rattle.world_parts.specs.Face.{WorldSeen, counts_now, told_bytes}

-- Why a flush of a device ended so: its count and which call failed last stand, or it is named with its count, which rose, and
-- failed last.
abbrev pub HasFlushFault : DeviceSeen → ℕ → Option DeviceCall → Option FaultAt → Type 0
HasFlushFault device count call None = (count ≡ device.faults) × (call ≡ device.failed_call)
HasFlushFault device count call (Some named) =
    (named ≡ fault_at (Dev device.number) count) × Rose device.faults count
    × FailedLast calls.Flush call

-- whether a device is flushed afterwards: it is where the flush was answered
abbrev pub flushed_by : Option FaultAt → Option Bool → Option Bool
flushed_by None flushed = option_map (λ f. true) flushed
flushed_by (Some fault) flushed = flushed

-- the file of a node is out
abbrev pub IsOutFor : RunTable → ℕ → List Opened → Type 0
IsOutFor t node opened = With (filename_of t node) (λ name. is_out name opened ≡ true)

-- A device is given back under the name of its node's file, once it was flushed. One that tells its bytes tells whether it is.
pub record IsBack (t : RunTable) (device : DeviceSeen) (old new : StoreSeen)
    (fault : Option FaultAt) : Type 0 where
  pub name : List ℕ
  pub count : ℕ
  pub call : Option DeviceCall
  pub named : filename_of t device.node ≡ Some name
  pub tells : is_some device.content ≡ true → is_some device.is_flushed ≡ true
  pub cause : HasFlushFault device count call fault
  pub least : device.faults ≤ count
  pub kept : new ≡ record old {
    files = files_with_returned name device.content device.capacity
        (flushed_by fault device.is_flushed) old.files;
    opened = given_back name count call old.opened;
  }

abbrev pub earlier_fault : Option FaultAt → Option FaultAt → Option FaultAt
earlier_fault None later = later
earlier_fault (Some fault) later = Some fault

-- all of them, one after another; the first fault is told
abbrev pub AreBack : RunTable → List DeviceSeen → StoreSeen → StoreSeen → Option FaultAt → Type 0
AreBack t [] old new fault = (new ≡ old) × (fault ≡ None)
AreBack t (device ∷ devices) old new fault = (between : StoreSeen) × (first later : Option FaultAt)
    × IsBack t device old between first × AreBack t devices between new later
    × (fault ≡ earlier_fault first later)

-- what the run sees of the world's store
abbrev pub store_in : WorldSeen → StoreSeen
store_in w = seen_store w.files w.opened w.room w.faults w.failed_call

-- how many faults a device had when it was given back
abbrev pub count_back : Opened → ℕ
count_back o = unwrap_or o.returned 0

-- it was given back with this count, and a flush failed last
abbrev pub IsBackAfterFlush : ℕ → Opened → Type 0
IsBackAfterFlush count o = (o.returned ≡ Some count) × FailedLast calls.Flush o.failed_call

-- the fault that is told is that of a device, which had so many then
pub record IsToldBack (w : WorldSeen) (opened : List Opened) (fault : FaultAt) : Type 0 where
  pub number : DevNo
  pub from : fault.from ≡ Dev number
  pub count : With (slice_get opened number.0) (IsBackAfterFlush fault.count)
  pub rose : With (slice_get (counts_now w).devices number.0) (λ before. Rose before fault.count)

-- the run's openings once each device is back: all else stands as it was opened, and no count has fallen
pub record HasGivenBack (w : WorldSeen) (opened : List Opened)
    (fault : Option FaultAt) : Type 0 where
  pub names : map (λ o. o.name) opened ≡ map (λ o. o.name) w.opened
  pub sizes : map (λ o. o.size) opened ≡ map (λ o. o.size) w.opened
  pub capacities : map (λ o. o.capacity) opened ≡ map (λ o. o.capacity) w.opened
  pub first : map (λ o. o.faults) opened ≡ map (λ o. o.faults) w.opened
  pub counts : HaveNotFallen (counts_now w).devices (map count_back opened)
  pub told : MatchOption fault (Unit {0}) (IsToldBack w opened)

-- The end of a world: all its devices are back, in their order, and that left the store so, whose openings before the run are
-- as they were.
pub record EndsWorld (w : WorldSeen) (store : StoreSeen) (fault : Option FaultAt) : Type 0 where
  pub opened : List Opened
  pub behind : store.opened ≡ w.earlier ++ opened
  pub back : AreBack w.table w.nodes.devices (store_in w) (record store { opened = opened }) fault
  pub given : HasGivenBack w opened fault

-- the file of that name is flushed
abbrev pub IsFlushedIn : List File → List ℕ → Type 0
IsFlushedIn files name = With (file_at name files) (λ file. file.is_flushed ≡ true)

-- the file of each device is
abbrev pub AreFlushed : WorldSeen → Option (List File) → Type 0
AreFlushed w files = (device : DeviceSeen) (name : List ℕ) → Contains w.nodes.devices device
    → filename_of w.table device.node ≡ Some name → With files (λ told. IsFlushedIn told name)

-- and that of each `file` node
abbrev pub AreNodesFlushed : RunTable → Option (List File) → Type 0
AreNodesFlushed t files = (node : ℕ) (name : List ℕ) → filename_of t node ≡ Some name
    → With files (λ told. IsFlushedIn told name)

-- what a file holds while these devices are still to be given back: what the device of that file does, or what the store does
abbrev pub is_file_of : RunTable → List ℕ → DeviceSeen → Bool
is_file_of t name device =
    unwrap_or (option_map (λ filename. bytes_eq filename name) (filename_of t device.node)) false

abbrev pub held_left : RunTable → Option (List File) → List DeviceSeen → List ℕ → Option (List ℕ)
held_left t files [] name = told_bytes files name
held_left t files (device ∷ devices) name =
    if is_file_of t name device then device.content else held_left t files devices name
