-- Whose fault an entry may name: a device or the store that its own event called, whose count rose in that event.
use Rattle.std.specs.Prelude.{◌≡◌, ◌⊎◌, ℕ, ◌==◌, true, if◌then◌else◌, List, [], ◌∷◌, ◌++◌, length, codes, Option, Some, None, Contains, option_and_then}
use Rattle.std.specs.List.{slice_split}
use Rattle.std.specs.Str.{bytes_eq}
use Rattle.blk_base.specs.declared.fault.DevNo.{DevNo}
use Rattle.blk_base.specs.declared.fault.Fault.{Fault}
use Rattle.blk_base.specs.declared.fault.Fault.TheVariants as faults
use Rattle.blk_base.specs.declared.fault.FaultAt.{FaultAt}
use Rattle.blk_base.specs.declared.fault.FaultFrom.{FaultFrom}
use Rattle.blk_base.specs.declared.fault.FaultFrom.TheVariants.{Store, Dev}
use Rattle.blk_base.specs.declared.fault.Outcome.{Outcome}
use Rattle.blk_base.specs.declared.fault.Outcome.TheVariants.{Good, Torn, Io, NoSpace}
use Rattle.trace_codec.specs.declared.op.Op.{Op}
use Rattle.qmp_codec.specs.declared.event.JobKind.TheVariants.{Backup}
use Rattle.qmp_codec.specs.Commands.{Cmd}
use Rattle.qmp_codec.specs.Lines.{command_at}
use Rattle.qmp_codec.specs.declared.command.Command.TheVariants as command
use Rattle.qmp_codec.specs.declared.nodes.FileRef.{FileRef}
use Rattle.qmp_codec.specs.declared.nodes.FileRef.TheVariants as file_ref
use Rattle.qmp_codec.specs.declared.nodes.Added.{Added}
use Rattle.qmp_codec.specs.declared.nodes.Added.TheVariants as added
use Rattle.qmp_codec.specs.declared.nodes.Created.{Created}
use Rattle.qmp_codec.specs.declared.nodes.Created.TheVariants as created
use Rattle.qmp_rules.specs.declared.rows.JobRecord.{JobRecord}
use Rattle.qmp_rules.specs.Table.{RunTable, id_named}
use Rattle.qmp_rules.specs.Chains.{reaches}
use Rattle.blk_history.specs.Disk.{is_write}
use Rattle.blk_history.specs.Fold.{With}
use Rattle.flat_machine.specs.State.{State, drive_of}
use Rattle.flat_machine.specs.Machine.{path}
use Rattle.flat_machine.specs.Replies.{command_read, desc_of}
use Rattle.flat_machine.specs.Licence.{Counts, IsBetweenCounts, fault_at, fault_source, named_in}
use Rattle.blk_history.specs.declared.entry.Cause.TheVariants.{Group}
use Rattle.blk_history.specs.declared.entry.JobEnd.{JobEnd}
use Rattle.blk_history.specs.declared.entry.JobEnd.TheVariants.{Failed, Cancelled}
use Rattle.blk_history.specs.declared.event.Event.{Event}
use Rattle.blk_history.specs.declared.event.Event.TheVariants.{Piece, Reply, End}

-- What is known beside the state: which opening's device a `file` node has, by its number, and the first fault that each job
-- met.
pub record Sources : Type 0 where
  pub device_of : ℕ → Option ℕ
  pub met_by : ℕ → Option Fault

-- ---- devices of nodes

-- a `file` node that the node is, or to which a path of edges leads, has the device
pub record ReachesDevice (t : RunTable) (sources : Sources) (node dev : ℕ) : Type 0 where
  pub file : ℕ
  pub leads : (node ≡ file) ⊎ (reaches t node file ≡ true)
  pub device : sources.device_of file ≡ Some dev

-- the device that a fault of a piece, or of a job, names
abbrev pub faulty_device : Outcome → Option DevNo
faulty_device Good = None
faulty_device (Torn done dev count) = Some dev
faulty_device (Io dev count) = Some dev
faulty_device (NoSpace dev) = Some dev

abbrev pub device_at_fault : Fault → DevNo
device_at_fault (faults.Io dev count) = dev
device_at_fault (faults.NoSpace dev) = dev

-- ---- pieces: a device that the guest's node reaches

abbrev pub IsOnTheWay : RunTable → Sources → Option ℕ → Option DevNo → Type 0
IsOnTheWay t sources drive None = Unit {0}
IsOnTheWay t sources drive (Some dev) = With drive (λ node. ReachesDevice t sources node dev.0)

-- ---- commands: the store, the device of the node that it names, or that of the file that it opens

abbrev pub IsDeviceFor : RunTable → Sources → Counts → ℕ → FileRef (List ℕ) → Type 0
IsDeviceFor t sources before dev (file_ref.Name name) =
    With (id_named t name) (λ node. sources.device_of node ≡ Some dev)
IsDeviceFor t sources before dev (file_ref.Inline file) = dev ≡ length before.devices

abbrev pub IsOfAddition : RunTable → Sources → Counts → ℕ → Added (List ℕ) → Type 0
IsOfAddition t sources before dev (added.Qcow2 image) = IsDeviceFor t sources before dev image.file
IsOfAddition t sources before dev driver = ⊥

abbrev pub IsOfCreation : RunTable → Sources → Counts → ℕ → Created (List ℕ) → Type 0
IsOfCreation t sources before dev (created.Qcow2 c) =
    IsDeviceFor t sources before dev (file_ref.Name c.file)
IsOfCreation t sources before dev options = ⊥

abbrev pub IsCalledBy : RunTable → Sources → Counts → FaultFrom → Option Cmd → Type 0
IsCalledBy t sources before (Dev dev) (Some (command.BlockdevAdd c)) =
    IsOfAddition t sources before dev.0 c.driver
IsCalledBy t sources before (Dev dev) (Some (command.BlockdevCreate c)) =
    IsOfCreation t sources before dev.0 c.options
IsCalledBy t sources before Store (Some (command.BlockdevAdd c)) = Unit {0}
IsCalledBy t sources before Store (Some (command.BlockdevCreate c)) = Unit {0}
IsCalledBy t sources before source c = ⊥

-- ---- faults that jobs meet

-- what is done in one event: a turn or a take of the job in a slot, a settle of a job, or a piece of a guest on its drive
pub data Deed : Type 0 where
  Turn : ℕ → Deed
  Take : ℕ → Deed
  Settle : ℕ → Deed
  PieceOn : ℕ → Op → Deed

-- it is done for the job: a piece of a guest's write copies for a backup whose filter it passes
abbrev pub IsDoneFor : RunTable → Deed → JobRecord → Type 0
IsDoneFor t (Turn slot) row = row.slot ≡ slot
IsDoneFor t (Take slot) row = row.slot ≡ slot
IsDoneFor t (Settle job) row = row.number ≡ job
IsDoneFor t (PieceOn drive op) row =
    (row.kind ≡ Backup) × (is_write op ≡ true)
    × With row.filter (λ filter. Contains (path t drive) filter)

-- Its count rose in the event to what is named, or a write of the event would have passed its capacity. The counts are
-- those before the event, and of a device that it opened the one at the opening, and those after it.
abbrev pub HasFaultCause : Counts → Counts → (ℕ → Type 0) → Fault → Type 0
HasFaultCause opened now would_pass (faults.Io dev count) =
    IsBetweenCounts opened now (fault_at (Dev dev) count)
HasFaultCause opened now would_pass (faults.NoSpace dev) = would_pass dev.0

-- A job meets a fault once, in what is done for it, of a device that one of its nodes reaches.
pub record MayMeet (t : RunTable) (sources : Sources) (deed : Deed) (opened now : Counts)
    (would_pass : ℕ → Type 0) (row : JobRecord)
    (fault : Fault) : Type 0 where
  pub first : sources.met_by row.number ≡ None
  pub done_for : IsDoneFor t deed row
  pub node : ℕ
  pub own : Contains (row.held ++ row.read) node
  pub device : ReachesDevice t sources node (device_at_fault fault).0
  pub cause : HasFaultCause opened now would_pass fault

-- a job that met a fault fails with it, or is cancelled with its group
abbrev pub EndsAsMet : Sources → ℕ → JobEnd → Type 0
EndsAsMet sources job (Failed fault) = sources.met_by job ≡ Some fault
EndsAsMet sources job (Cancelled Group) = Unit {0}
EndsAsMet sources job outcome = sources.met_by job ≡ None

-- ---- each entry

abbrev pub RoseIn : Counts → Counts → Option FaultAt → Type 0
RoseIn opened now None = Unit {0}
RoseIn opened now (Some fault) = IsBetweenCounts opened now fault

abbrev pub IsCommandsFault : RunTable → Sources → Counts → Option FaultAt → Option Cmd → Type 0
IsCommandsFault t sources before None c = Unit {0}
IsCommandsFault t sources before (Some fault) c = IsCalledBy t sources before fault.from c

-- the device that a piece, or the words of a refusal, say to be full: a write of the event would have passed its capacity
abbrev pub full_by : Outcome → Option ℕ
full_by (NoSpace dev) = Some dev.0
full_by outcome = None

abbrev pub device_from : FaultFrom → Option ℕ
device_from (Dev dev) = Some dev.0
device_from source = None

abbrev pub full_in_words : List (List ℕ) → Option ℕ
full_in_words (verb ∷ source ∷ []) =
    if bytes_eq verb (codes "nospace") then option_and_then device_from (fault_source source)
    else None
full_in_words words = None

abbrev pub full_in_text : List ℕ → Option ℕ
full_in_text text =
    option_and_then (λ desc. full_in_words (slice_split (λ byte. byte == 32) desc)) (desc_of text)

abbrev pub WouldPass : (ℕ → Type 0) → Option ℕ → Type 0
WouldPass would_pass None = Unit {0}
WouldPass would_pass (Some dev) = would_pass dev

-- a command's write: it is a device that the command calls
abbrev pub IsCommandsFull : RunTable → Sources → Counts → (ℕ → Type 0) → Option ℕ → Option Cmd
    → Type 0
IsCommandsFull t sources before would_pass None c = Unit {0}
IsCommandsFull t sources before would_pass (Some dev) c =
    IsCalledBy t sources before (Dev (record { 0 = dev })) c × would_pass dev

abbrev pub IsLicensedBy : State → Sources → (before opened now : Counts) → (ℕ → Type 0) → Event
    → Type 0
IsLicensedBy s sources before opened now would_pass (Piece g r k outcome got) =
    IsOnTheWay s.table sources (drive_of s.table g) (faulty_device outcome)
    × RoseIn opened now (named_in (Piece g r k outcome got))
    × WouldPass would_pass (full_by outcome)
IsLicensedBy s sources before opened now would_pass (Reply line given command text) =
    IsCommandsFault s.table sources before (named_in (Reply line given command text))
    (command_read (command_at given))
    × RoseIn opened now (named_in (Reply line given command text))
    × IsCommandsFull s.table sources before would_pass (full_in_text text)
    (command_read (command_at given))
IsLicensedBy s sources before opened now would_pass (End job outcome offset) =
    EndsAsMet sources job outcome
IsLicensedBy s sources before opened now would_pass e = Unit {0}
