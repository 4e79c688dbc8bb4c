-- What holds of every state that a run comes to.
use Rattle.std.specs.Prelude.{◌≡◌, ◌⊎◌, ℕ, true, false, ◌==◌, List, Contains, All, find, Option, Some, None, IsSome}
use Rattle.blk_graph.specs.declared.edge.Role.TheVariants.{File}
use Rattle.qmp_rules.specs.declared.rows.NodeRecord.{NodeRecord}
use Rattle.qmp_rules.specs.declared.rows.DeviceRow.{DeviceRow}
use Rattle.qmp_rules.specs.declared.rows.FileState.{FileState}
use Rattle.qmp_rules.specs.declared.rows.FileState.TheVariants.{Made, Formatted, Used}
use Rattle.qmp_rules.specs.Table.{RunTable, node_by_id, device_by_number, file_state, has_name}
use Rattle.qmp_rules.specs.Chains.{filter_role, disk_node}
use Rattle.blk_history.specs.Fold.{With}
use Rattle.flat_machine.specs.State.{State, Content, Bytes, Blank, Unknown, Left, content_in, drive_of}
use Rattle.flat_machine.specs.Wiring.{StandsFor, IsUnder, LeadsToFile, TableStands, InlineAreUnder, writes_through}
use Rattle.flat_machine.specs.Writing.{IsGuestWritable}

-- ---- `file` nodes

-- there is some word of a file over which one stands
abbrev pub HaveFiles : State → Type 0
HaveFiles s =
    (name : List ℕ) (row : NodeRecord) → StandsFor s.table name row
    → IsSome (content_in s.files name)

-- one that may be written names its file for that
abbrev pub AreNamed : State → Type 0
AreNamed s =
    (name : List ℕ) (row : NodeRecord) → StandsFor s.table name row → row.read_only ≡ false
    → has_name name s.named ≡ true

-- why a `file` node has no flat disk: its file was used or formatted, or a node has it as its file
abbrev pub IsLostBy : RunTable → List ℕ → NodeRecord → Type 0
IsLostBy t name row =
    (file_state t name ≡ Some Used)
    ⊎ ((file_state t name ≡ Some Formatted) ⊎ IsUnder t.edges row.id)

abbrev pub LostHaveCause : RunTable → Type 0
LostHaveCause t =
    (name : List ℕ) (row : NodeRecord) → StandsFor t name row → row.is_settled ≡ false
    → IsLostBy t name row

-- ---- files

-- what is known of a file by what became of it
abbrev pub IsKnownWhole : Content → Type 0
IsKnownWhole (Bytes bytes) = Unit {0}
IsKnownWhole content = ⊥

abbrev pub IsBlankFile : Content → Type 0
IsBlankFile (Blank new len) = Unit {0}
IsBlankFile content = ⊥

abbrev pub IsOfState : Option FileState → Content → Type 0
IsOfState None content = IsKnownWhole content
IsOfState (Some Made) content = IsKnownWhole content
IsOfState (Some Formatted) content = IsBlankFile content
IsOfState (Some Used) content = Unit {0}

-- so it is with each file of which there is word, but for one that a node has as its file
abbrev pub IsOpenlyKnown : RunTable → List ℕ → Type 0
IsOpenlyKnown t name = (row : NodeRecord) → StandsFor t name row → IsUnder t.edges row.id → ⊥

abbrev pub FilesAreOfState : State → Type 0
FilesAreOfState s =
    (name : List ℕ) (content : Content) → content_in s.files name ≡ Some content
    → IsOpenlyKnown s.table name
    → IsOfState (file_state s.table name) content

-- of such a one nothing is known
abbrev pub TakenAreUnknown : State → Type 0
TakenAreUnknown s =
    (name : List ℕ) (over under : NodeRecord) → LeadsToFile s.table over under
    → under.filename ≡ Some name
    → content_in s.files name ≡ Some Unknown

-- a file that was used, and of which nothing is known
pub record IsUsedFile (s : State) (name : List ℕ) : Type 0 where
  pub state : file_state s.table name ≡ Some Used
  pub content : content_in s.files name ≡ Some Unknown

-- so it is where a `copy-on-read` node reads as the `file` node: a job that used the file left it so
abbrev pub CopiedAreUsed : State → Type 0
CopiedAreUsed s =
    (name : List ℕ) (row disk : NodeRecord) → Contains s.table.nodes row
    → filter_role row.kind ≡ Some File
    → node_by_id s.table (disk_node s.table row.id) ≡ Some disk → disk.filename ≡ Some name
    → IsUsedFile s name

-- a formatted file has a node over it
abbrev pub FormattedAreOpen : RunTable → Type 0
FormattedAreOpen t =
    (name : List ℕ) → file_state t name ≡ Some Formatted → (row : NodeRecord) × StandsFor t name row

-- ---- disks

-- a node that is no filter has its bytes
abbrev pub HasBytes : State → ℕ → Type 0
HasBytes s node = IsSome (find (λ d. d.node == node) s.disks)

abbrev pub HaveBytes : State → Type 0
HaveBytes s =
    (row : NodeRecord) → Contains s.table.nodes row → filter_role row.kind ≡ None
    → HasBytes s row.id

-- a file in which a disk was left was used: a node that stands for it has no flat disk, and none is over that
pub record IsUsedUp (s : State) (left : Left) : Type 0 where
  pub used : file_state s.table left.file ≡ Some Used
  pub gone : (row : NodeRecord) → StandsFor s.table left.file row → row.is_settled ≡ false
  pub is_open : IsOpenlyKnown s.table left.file

-- ---- devices

-- a device has a drive; where it may write its disk, or its reads do, that may be written
abbrev pub MayGuestWrite : State → DeviceRow → ℕ → Type 0
MayGuestWrite s device drive =
    writes_through s.table device.read_only drive ≡ true
    → IsGuestWritable s (disk_node s.table drive)

abbrev pub WritersStand : State → Type 0
WritersStand s =
    (g : ℕ) (device : DeviceRow) → device_by_number s.table g ≡ Some device
    → With (drive_of s.table g) (MayGuestWrite s device)

-- ---- all of it

-- what a guest's writing rests on
pub record WritingStands (s : State) : Type 0 where
  pub named : AreNamed s
  pub unknown : TakenAreUnknown s
  pub copied : CopiedAreUsed s
  pub disks : HaveBytes s
  pub left : All (IsUsedUp s) s.left
  pub writers : WritersStand s

-- what each change keeps
pub record Stands (s : State) : Type 0 where
  pub table : TableStands s.table
  pub files : HaveFiles s
  pub lost : LostHaveCause s.table
  pub states : FilesAreOfState s
  pub formatted : FormattedAreOpen s.table
  pub writing : WritingStands s

-- between events: what the changes of a command keep together
pub record StandsAtRest (s : State) : Type 0 where
  pub stands : Stands s
  pub inline : InlineAreUnder s.table
