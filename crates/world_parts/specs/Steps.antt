-- What each event leaves of the world, and when each of its answers comes.
use Rattle.std.specs.Prelude.{◌≡◌, ℕ, zero, suc, Bool, true, false, List, [], length, slice_get, Option, Some, None, IsSome, is_some}
use Rattle.blk_base.specs.declared.file.CallOnFile.{CallOnFile}
use Rattle.blk_base.specs.declared.file.File.{File}
use Rattle.blk_base.specs.declared.file.Opened.{Opened}
use Rattle.blk_base.specs.declared.memory.Room.{Room}
use Rattle.trace_codec.specs.declared.op.Op.{Op}
use Rattle.trace_codec.specs.declared.awaiting.Await.{Await}
use Rattle.blk_history.specs.Fold.{With}
use Rattle.blk_history.specs.declared.event.Event.TheVariants.{Reached, Done}
use Rattle.blk_nodes.specs.Nodes.{no_nodes}
use Rattle.qmp_rules.specs.Table.{RunTable, device_by_number, opening_table}
use Rattle.qmp_rules.specs.Queries.{bytes_of_node}
use Rattle.flat_machine.specs.declared.opening.Opening.{Opening}
use Rattle.flat_machine.specs.State.{Guest, disk_of_guest}
use Rattle.flat_machine.specs.Legal.{IsNextJudged, CanAdmit, IsRefusedFor}
use Rattle.flat_machine.specs.Marks.{after_reply, is_guest_held, none_drained}
use Rattle.world_parts.specs.declared.admission.Admission.{Admission}
use Rattle.world_parts.specs.declared.admission.Admission.TheVariants.{Admitted, Refused as NotAdmitted, Held, Away}
use Rattle.world_parts.specs.declared.admission.Seat.{Seat}
use Rattle.world_parts.specs.Progress.{Progress, with_admission, with_refusal, with_bare_entry, requests_done, no_progress}
use Rattle.world_parts.specs.Face.{WorldSeen, seen_state}
use Rattle.world_parts.specs.Stores.{StoreInRun}

-- a store as it is found
pub record StoreSeen : Type 0 where
  pub files : Option (List File)
  pub opened : List Opened
  pub room : ℕ
  pub faults : ℕ
  pub failed_call : Option CallOnFile

abbrev pub seen_store : Option (List File) → List Opened → ℕ → ℕ → Option CallOnFile → StoreSeen
seen_store files opened room faults failed_call = record {
  files = files;
  opened = opened;
  room = room;
  faults = faults;
  failed_call = failed_call;
}

-- the same of a store in a run, with the run's openings alone
abbrev pub seen_in_run : StoreInRun → StoreSeen
seen_in_run store =
    seen_store store.files store.opened store.room store.faults store.failed_call

-- a new world: no node is there, nothing has been opened, and no guest has asked for anything
abbrev pub new_world : StoreSeen → List (List ℕ) → Room → WorldSeen
new_world store guests room = record {
  files = store.files;
  earlier = store.opened;
  opened = [];
  room = store.room;
  faults = store.faults;
  failed_call = store.failed_call;
  first_faults = store.faults;
  nodes = no_nodes;
  table = opening_table guests;
  progress = no_progress (length guests) room;
  drains = none_drained;
  bitmaps = [];
  works = [];
}

-- These are the opening's guests, and its files and their room, where the store tells its files.
pub record IsOpeningOf (store : StoreSeen) (guests : List (List ℕ)) (o : Opening) : Type 0 where
  pub guests_are : guests ≡ o.guests
  pub files_are : is_some store.files ≡ true → store.files ≡ Some o.files
  pub room_is : is_some store.files ≡ true → store.room ≡ o.room

-- the world with another history
abbrev pub with_history : WorldSeen → (Progress → Progress) → WorldSeen
with_history w f = record w { progress = f w.progress }

-- a line is answered: the disks of the command that had to come again are held no more
abbrev pub lifted : WorldSeen → WorldSeen
lifted w = record w { drains = after_reply w.drains }

-- ---- admissions

-- what a guest's requests are judged by
pub record IsSeat (t : RunTable) (g : ℕ) (seat : Seat) : Type 0 where
  pub access : With (device_by_number t g) (λ device. seat.read_only ≡ device.read_only)
  pub size_is : With (disk_of_guest t g) (λ node. seat.size ≡ bytes_of_node t node)

abbrev pub after_admission : WorldSeen → ℕ → Op → Admission → WorldSeen
after_admission w g op (Admitted r) = with_history w (with_admission g op)
after_admission w g op (NotAdmitted why) = with_history w (with_refusal g op why)
after_admission w g op (Held back) = w
after_admission w g op (Away back) = w

-- A request is away exactly where its guest has no device, and else held exactly where a drain that stands holds the guest. Else
-- its span is judged, and then whether the guest may write.
abbrev pub IsAnswered : WorldSeen → ℕ → Op → Admission → Type 0
IsAnswered w g op (Admitted r) =
    IsNextJudged (seen_state w) g r (CanAdmit op)
    × (is_guest_held (seen_state w) w.drains g ≡ false)
IsAnswered w g op (NotAdmitted why) =
    IsNextJudged (seen_state w) g (requests_done w.progress.guests g)
    (λ access size. IsRefusedFor op access size why)
    × (is_guest_held (seen_state w) w.drains g ≡ false)
IsAnswered w g op (Held back) =
    IsSome (device_by_number w.table g) × (is_guest_held (seen_state w) w.drains g ≡ true)
    × (back ≡ op)
IsAnswered w g op (Away back) = (device_by_number w.table g ≡ None) × (back ≡ op)

-- ---- waits and ends of actors

abbrev pub after_wait : WorldSeen → ℕ → Await (List ℕ) → Bool → WorldSeen
after_wait w line what true = with_history w (with_bare_entry (Reached line what))
after_wait w line what false = w

abbrev pub after_actor_end : WorldSeen → ℕ → WorldSeen
after_actor_end w actor = with_history w (with_bare_entry (Done actor))

-- the actor has no request in flight: the script never has
abbrev pub IsActorIdle : List Guest → ℕ → Type 0
IsActorIdle guests zero = Unit {0}
IsActorIdle guests (suc g) = With (slice_get guests g) (λ row. row.flight ≡ None)
