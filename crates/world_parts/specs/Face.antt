-- What contracts see of the world.
use Rattle.std.specs.Prelude.{ℕ, ◌+◌, ◌==◌, List, [], ◌∷◌, map, find, Option, Some, None, option_and_then, option_map, unwrap_or}
use Rattle.blk_base.specs.declared.file.CallOnFile.{CallOnFile}
use Rattle.blk_base.specs.declared.file.File.{File}
use Rattle.blk_base.specs.declared.file.Opened.{Opened}
use Rattle.blk_bitmaps.specs.declared.row.Bitmap.{Bitmap}
use Rattle.block_jobs.specs.Work.{JobWork}
use Rattle.blk_nodes.specs.Nodes.{Nodes, DeviceSeen, device_in}
use Rattle.blk_nodes.specs.Contents.{disk_of}
use Rattle.qmp_rules.specs.Asks.{stands_for}
use Rattle.qmp_rules.specs.Table.{RunTable}
use Rattle.flat_machine.specs.Agreement.{Contents}
use Rattle.flat_machine.specs.Bitmaps.{dirty_in}
use Rattle.flat_machine.specs.Final.{bytes_named}
use Rattle.flat_machine.specs.Licence.{Counts}
use Rattle.flat_machine.specs.State.{State, Dirty}
use Rattle.flat_machine.specs.Marks.{Drained}
use Rattle.world_parts.specs.Progress.{Progress, ended_in}
use Rattle.world_parts.specs.Stores.{StoreInRun}

-- The store: its files where it tells them, the openings before the run and those of the run, the capacity of files that are
-- made, its count of faults now, which call failed last, and the count when the world was made. Then the nodes with their
-- devices, the table of names, the guests and the history, the disks that are drained, the dirty bitmaps, and what is kept of the
-- copying of jobs. A device's number is the place of its opening among those of the run.
pub record WorldSeen : Type 0 where
  pub files : Option (List File)
  pub earlier : List Opened
  pub opened : List Opened
  pub room : ℕ
  pub faults : ℕ
  pub failed_call : Option CallOnFile
  pub first_faults : ℕ
  pub nodes : Nodes
  pub table : RunTable
  pub progress : Progress
  pub drains : Drained
  pub bitmaps : List Bitmap
  pub works : List JobWork

-- what is seen of these parts
abbrev pub face_of : StoreInRun → ℕ → Nodes → RunTable → Progress → Drained → List Bitmap
    → List JobWork → WorldSeen
face_of store first_faults nodes table progress drains bitmaps works = record {
  files = store.files;
  earlier = store.earlier;
  opened = store.opened;
  room = store.room;
  faults = store.faults;
  failed_call = store.failed_call;
  first_faults = first_faults;
  nodes = nodes;
  table = table;
  progress = progress;
  drains = drains;
  bitmaps = bitmaps;
  works = works;
}

-- what of the bitmaps is dirty
abbrev pub dirty_of : WorldSeen → List Dirty
dirty_of w = map dirty_in w.bitmaps

-- ---- the flat machine's state, as far as the world keeps it; of disks and files it keeps the bytes alone

abbrev pub seen_state : WorldSeen → State
seen_state w = record {
  room = w.room;
  table = w.table;
  guests = w.progress.guests;
  disks = [];
  left = [];
  files = [];
  named = [];
  images = [];
  dirty = dirty_of w;
  begun = [];
  starts = w.table.started;
  ending = None;
  ended = ended_in w.progress.log.events;
}

-- ---- bytes

-- the `file` node over a file
abbrev pub node_over : RunTable → List ℕ → Option ℕ
node_over t name = option_map (λ row. row.id) (find (stands_for name) t.nodes)

abbrev pub told_bytes : Option (List File) → List ℕ → Option (List ℕ)
told_bytes None name = None
told_bytes (Some files) name = bytes_named files name

-- what a file holds: in the device of the node over it, or else in the store
abbrev pub held_in_file : WorldSeen → List ℕ → Option ℕ → Option (List ℕ)
held_in_file w name None = told_bytes w.files name
held_in_file w name (Some node) =
    option_and_then (λ device. device.content) (device_in w.nodes.devices node)

abbrev pub held : WorldSeen → List ℕ → Option (List ℕ)
held w name = held_in_file w name (node_over w.table name)

abbrev pub contents_of : WorldSeen → Contents
contents_of w = record { reads = disk_of w.nodes; held = held w }

-- ---- counts of faults

-- the device of an opening, while it is out
abbrev pub device_numbered : List DeviceSeen → ℕ → Option DeviceSeen
device_numbered devices number = find (λ device. device.number.0 == number) devices

abbrev pub count_of_opening : List DeviceSeen → ℕ → Opened → ℕ
count_of_opening devices number o =
    unwrap_or o.returned
    (unwrap_or (option_map (λ device. device.faults) (device_numbered devices number)) o.faults)

abbrev pub counts_from : List DeviceSeen → ℕ → List Opened → List ℕ
counts_from devices number [] = []
counts_from devices number (o ∷ opened) =
    count_of_opening devices number o ∷ counts_from devices (number + 1) opened

-- when the world was made, and of a device when it was opened; and now
abbrev pub first_counts : WorldSeen → Counts
first_counts w = record { store = w.first_faults; devices = map (λ o. o.faults) w.opened }

abbrev pub counts_now : WorldSeen → Counts
counts_now w = record { store = w.faults; devices = counts_from w.nodes.devices 0 w.opened }
