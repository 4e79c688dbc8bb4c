-- How the parts of the world belong together between events.
use Rattle.std.specs.Prelude.{◌≡◌, ◌≢◌, ℕ, ◌+◌, ◌<◌, ◌≤◌, true, false, if◌then◌else◌, List, [], ◌∷◌, length, slice_get, All, AllPairs, map, Contains, Option, Some, None, IsSome, is_some}
use Rattle.blk_base.specs.Pieces.{end_of}
use Rattle.blk_base.specs.declared.file.File.{File}
use Rattle.blk_base.specs.declared.file.Opened.{Opened}
use Rattle.blk_history.specs.Disk.{span_of}
use Rattle.blk_history.specs.Fold.{With}
use Rattle.blk_history.specs.Machine.{Flight}
use Rattle.blk_graph.specs.Graph.{NodeRow}
use Rattle.blk_graph.specs.declared.edge.Edge.{Edge}
use Rattle.blk_graph.specs.declared.edge.Parent.TheVariants.{Guest as GuestOf}
use Rattle.blk_graph.specs.declared.kind.Kind.{Kind}
use Rattle.blk_graph.specs.declared.kind.Kind.TheVariants.{Protocol}
use Rattle.block_jobs.specs.Work.{JobWork}
use Rattle.blk_nodes.specs.Nodes.{Nodes, DeviceSeen, AreTold, row_at, driver_kind}
use Rattle.blk_nodes.specs.declared.row.Driver.{Driver}
use Rattle.blk_nodes.specs.declared.row.Driver.TheVariants.{Raw}
use Rattle.blk_nodes.specs.declared.row.Row.{Row}
use Rattle.qmp_rules.specs.declared.rows.DeviceRow.{DeviceRow}
use Rattle.qmp_rules.specs.declared.rows.AskedEnd.TheVariants as asked
use Rattle.qmp_rules.specs.declared.rows.JobRecord.{JobRecord}
use Rattle.qmp_rules.specs.declared.rows.NodeRecord.{NodeRecord}
use Rattle.qmp_rules.specs.Table.{RunTable, node_by_id, device_by_number, job_at}
use Rattle.qmp_rules.specs.Chains.{disk_node}
use Rattle.qmp_rules.specs.Queries.{bytes_of_node}
use Rattle.qmp_asks.specs.Values.{most_length}
use Rattle.flat_machine.specs.Agreement.{HasDisk}
use Rattle.flat_machine.specs.Bitmaps.{AreBitmapsOf}
use Rattle.flat_machine.specs.Legal.{IsForbidden}
use Rattle.flat_machine.specs.Marks.{Drained}
use Rattle.flat_machine.specs.Wiring.{TableAtRest}
use Rattle.flat_machine.specs.State.{Guest, drive_of, disk_of_guest, filename_of}
use Rattle.job_commands.specs.Bitmaps.{UsesStand}
use Rattle.job_ends.specs.Rows.{AreCopyRows}
use Rattle.job_progress.specs.Belonging.{AreWorksOf}
use Rattle.job_progress.specs.Going.{copies_blocks}
use Rattle.job_tables.specs.Copiers.{CopiesGo}
use Rattle.job_tables.specs.Jobs.{JobsStand}
use Rattle.job_tables.specs.Running.{JobsRun}
use Rattle.world_parts.specs.Progress.{Progress, flight_at}
use Rattle.world_parts.specs.Face.{WorldSeen, device_numbered}

-- ---- the table

-- a device that is there is on a node
abbrev pub HaveDrives : RunTable → Type 0
HaveDrives t = (g : ℕ) → IsSome (device_by_number t g) → IsSome (drive_of t g)

-- and that node has a flat disk: it is settled, or is a filter over such a node
abbrev pub AreOnDisks : RunTable → Type 0
AreOnDisks t =
    (g node : ℕ) → drive_of t g ≡ Some node → With (node_by_id t (disk_node t node)) HasDisk

-- ---- table and nodes

-- where a part begins
abbrev pub offset_by_driver : Driver → ℕ
offset_by_driver (Raw part) = part.offset
offset_by_driver other = 0

-- a `file` node has no more bytes than one may have
abbrev pub IsOfFileLength : Kind → ℕ → Type 0
IsOfFileLength Protocol size = size ≤ most_length
IsOfFileLength kind size = Unit {0}

-- a node's row says what the node is
pub record IsRowOf (record' : NodeRecord) (row : Row) : Type 0 where
  pub kind : record'.kind ≡ driver_kind row.driver
  pub size : record'.size ≡ row.size
  pub access : record'.read_only ≡ row.is_read_only
  pub place : record'.offset ≡ offset_by_driver row.driver
  pub small : IsOfFileLength record'.kind record'.size

abbrev pub AreAlike : Option NodeRecord → Option Row → Type 0
AreAlike None None = Unit {0}
AreAlike (Some a) (Some b) = IsRowOf a b
AreAlike _ _ = ⊥

-- a row's id and name
abbrev pub node_row : NodeRecord → NodeRow
node_row row = record { id = row.id; name = row.name }

pub record AreNodesOf (t : RunTable) (nodes : Nodes) : Type 0 where
  pub listed : nodes.graph.nodes ≡ map node_row t.nodes
  pub edges : nodes.graph.edges ≡ t.edges
  pub rows : (id : ℕ) → AreAlike (node_by_id t id) (row_at nodes id)

-- ---- guests

-- a request in flight lies within its guest's disk
abbrev pub AreWithin : RunTable → List Guest → Type 0
AreWithin t guests = (g : ℕ) (f : Flight) → flight_at guests g ≡ Some f
    → With (disk_of_guest t g) (λ node. end_of (span_of f.op) ≤ bytes_of_node t node)

-- and its guest has a device, which allows it
abbrev pub AreAllowed : RunTable → List Guest → Type 0
AreAllowed t guests = (g : ℕ) (f : Flight) → flight_at guests g ≡ Some f
    → With (device_by_number t g) (λ device. IsForbidden f.op device.read_only → ⊥)

-- the edge of a device that may write asks to write
abbrev pub AskToWrite : RunTable → Type 0
AskToWrite t =
    (g : ℕ) (device : DeviceRow) (edge : Edge) → device_by_number t g ≡ Some device
    → device.read_only ≡ false
    → Contains t.edges edge → edge.parent ≡ GuestOf g → edge.perm.write ≡ true

-- and the node that it is on isn't read-only
abbrev pub AreOnWritable : RunTable → Type 0
AreOnWritable t =
    (g node : ℕ) (device : DeviceRow) → device_by_number t g ≡ Some device
    → device.read_only ≡ false → drive_of t g ≡ Some node
    → With (node_by_id t node) (λ row. row.read_only ≡ false)

-- ---- openings

-- a device that is held is that of an opening of its node's file, and not back yet
pub record IsOut (t : RunTable) (opened : List Opened) (device : DeviceSeen) : Type 0 where
  pub opening : Opened
  pub there : slice_get opened device.number.0 ≡ Some opening
  pub out : opening.returned ≡ None
  pub named : filename_of t device.node ≡ Some opening.name
  pub capacity : device.capacity ≡ opening.capacity
  pub faults : opening.faults ≤ device.faults

-- no file is out twice
abbrev pub NamesAreOutOnce : List Opened → Type 0
NamesAreOutOnce opened =
    (a b : ℕ) (o p : Opened) → slice_get opened a ≡ Some o → slice_get opened b ≡ Some p
    → o.returned ≡ None → p.returned ≡ None → o.name ≡ p.name → a ≡ b

-- these devices are the openings that are not back yet, in the order in which they were opened
pub record AreHeld (t : RunTable) (devices : List DeviceSeen) (opened : List Opened) : Type 0 where
  pub each : (device : DeviceSeen) → Contains devices device → IsOut t opened device
  pub once : AllPairs (λ a b. a.number ≢ b.number) devices
  pub order : AllPairs (λ a b. a.number.0 < b.number.0) devices
  pub all : (n : ℕ) (o : Opened) → slice_get opened n ≡ Some o → o.returned ≡ None
      → IsSome (device_numbered devices n)
  pub names : NamesAreOutOnce opened

abbrev pub AreOut : RunTable → Nodes → List Opened → Type 0
AreOut t nodes opened = AreHeld t nodes.devices opened

-- where the store tells its files, each device tells its bytes
abbrev pub DevicesTell : Option (List File) → List DeviceSeen → Type 0
DevicesTell files devices = is_some files ≡ true → AreTold devices

-- ---- whatever the store tells

pub record IsCoherent (t : RunTable) (nodes : Nodes) (opened : List Opened)
    (p : Progress) : Type 0 where
  pub table : TableAtRest t
  pub drives : HaveDrives t
  pub disks : AreOnDisks t
  pub alike : AreNodesOf t nodes
  pub asks : AskToWrite t
  pub writable : AreOnWritable t
  pub within : AreWithin t p.guests
  pub allowed : AreAllowed t p.guests
  pub count : length p.guests ≡ length t.guests
  pub out : AreOut t nodes opened

-- ---- jobs

-- entries that a job still makes: that it is ready, and that it ends
abbrev pub entries_owed : JobRecord → ℕ
entries_owed row = if row.is_ready then 1 else 2

abbrev pub entries_owed_by : List JobRecord → ℕ
entries_owed_by [] = 0
entries_owed_by (row ∷ rows) = entries_owed row + entries_owed_by rows

-- so far backups and mirrors alone are started, one by one
pub record IsLoneCopy (row : JobRecord) : Type 0 where
  pub kind : copies_blocks row.kind ≡ true
  pub group : row.group ≡ None

-- Jobs stand and run, with rows as their starts put them, of which no two have one number. Each has its work and uses the bitmap
-- that it copies by, and there is room for their entries.
pub record AreJobsKept (t : RunTable) (works : List JobWork) (aside : ℕ) : Type 0 where
  pub stand : JobsStand t
  pub run : JobsRun t
  pub copies : CopiesGo t
  pub rows : AreCopyRows t.jobs
  pub once : AllPairs (λ a b. a.number ≢ b.number) t.jobs
  pub uses : UsesStand t
  pub belong : AreWorksOf t works
  pub room : aside ≡ entries_owed_by t.jobs
  pub lone : (row : JobRecord) → Contains t.jobs row → IsLoneCopy row

-- ---- drains of jobs

-- a job of the table that is asked to end
pub record IsAskedJob (t : RunTable) (job : ℕ) : Type 0 where
  pub row : JobRecord
  pub there : job_at t job ≡ Some row
  pub ends : row.asked ≢ asked.Nothing

-- Those that hold a disk are such jobs, each once.
pub record AreDrainsKept (t : RunTable) (drains : Drained) : Type 0 where
  pub each : All (IsAskedJob t) drains.jobs
  pub once : AllPairs (λ a b. a ≢ b) drains.jobs

-- ---- all of it

pub record IsWholeWorld (w : WorldSeen) : Type 0 where
  pub coherent : IsCoherent w.table w.nodes w.opened w.progress
  pub tell : DevicesTell w.files w.nodes.devices
  pub counted : w.first_faults ≤ w.faults
  pub bitmaps : AreBitmapsOf w.table.bitmaps w.bitmaps
  pub jobs : AreJobsKept w.table w.works w.progress.aside
  pub drains : AreDrainsKept w.table w.drains
