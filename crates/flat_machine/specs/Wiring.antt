-- What holds of the table of every state that a run comes to: how its rows and edges hang together.
use Rattle.std.specs.Prelude.{◌≡◌, ◌≢◌, ◌⊎◌, ◌≤◌, ℕ, true, false, Bool, not, ◌||◌, List, length, Contains, Option, Some, None, IsSome}
use Rattle.blk_graph.specs.declared.edge.Edge.{Edge}
use Rattle.blk_graph.specs.declared.edge.Parent.TheVariants.{Node}
use Rattle.blk_graph.specs.declared.edge.Role.TheVariants.{File, Filtered}
use Rattle.blk_graph.specs.declared.kind.Kind.TheVariants.{Protocol, CopyOnRead}
use Rattle.blk_graph.specs.Paths.{IsAcyclic}
use Rattle.blk_graph.specs.Permissions.{has_role}
use Rattle.qmp_rules.specs.declared.rows.NodeRecord.{NodeRecord}
use Rattle.qmp_rules.specs.declared.rows.DeviceRow.{DeviceRow}
use Rattle.qmp_rules.specs.Table.{RunTable, node_by_id, child}
use Rattle.qmp_rules.specs.Chains.{filter_role, disk_node}
use Rattle.qmp_rules.specs.Edits.{place_from}
use Rattle.qmp_asks.specs.Naming.{inline_name, is_name}
use Rattle.blk_history.specs.Fold.{With}
use Rattle.flat_machine.specs.Machine.{copies_through}

-- ---- rows

-- no two rows have one id
abbrev pub HaveDistinctIds : RunTable → Type 0
HaveDistinctIds t = (row : NodeRecord) → Contains t.nodes row → node_by_id t row.id ≡ Some row

-- a row of a node that stands for the file
pub record StandsFor (t : RunTable) (name : List ℕ) (row : NodeRecord) : Type 0 where
  pub there : Contains t.nodes row
  pub filename : row.filename ≡ Some name

-- it is a `file` node, alone over its file
abbrev pub AreFileNodes : RunTable → Type 0
AreFileNodes t = (name : List ℕ) (row : NodeRecord) → StandsFor t name row → row.kind ≡ Protocol

abbrev pub StandAlone : RunTable → Type 0
StandAlone t =
    (name : List ℕ) (a b : NodeRecord) → StandsFor t name a → StandsFor t name b → a.id ≡ b.id

abbrev pub HaveNames : RunTable → Type 0
HaveNames t = (row : NodeRecord) → Contains t.nodes row → row.kind ≡ Protocol → IsSome row.filename

-- a node that was made with no other one has no name that such a node gets by itself
abbrev pub HasOwnName : NodeRecord → Type 0
HasOwnName row =
    row.made_with ≡ None → (over : List ℕ) → is_name over ≡ true → row.name ≢ inline_name over None

abbrev pub HaveOwnNames : RunTable → Type 0
HaveOwnNames t = (row : NodeRecord) → Contains t.nodes row → HasOwnName row

-- a job's filter has no name that a command can say
abbrev pub FiltersAreHidden : RunTable → Type 0
FiltersAreHidden t =
    (row : NodeRecord) → Contains t.nodes row → filter_role row.kind ≡ Some Filtered
    → is_name row.name ≡ false

-- ---- edges

-- a node's edge is that of a node that is there, and leads to one
pub record HasEnds (t : RunTable) (edge : Edge) : Type 0 where
  pub parent : (node : ℕ) → edge.parent ≡ Node node → IsSome (node_by_id t node)
  pub child : IsSome (node_by_id t edge.child)

abbrev pub EdgesHaveEnds : RunTable → Type 0
EdgesHaveEnds t = (edge : Edge) → Contains t.edges edge → HasEnds t edge

-- it has a role of the node's kind
abbrev pub HaveRoles : RunTable → Type 0
HaveRoles t =
    (edge : Edge) (row : NodeRecord) → Contains t.edges edge → Contains t.nodes row
    → edge.parent ≡ Node row.id
    → has_role row.kind edge.role ≡ true

-- an edge to a file is that of a node, which has no other
abbrev pub IsFileOf : RunTable → Edge → ℕ → Type 0
IsFileOf t edge node = (edge.parent ≡ Node node) × (child t node File ≡ Some edge.child)

abbrev pub HaveOneFile : RunTable → Type 0
HaveOneFile t =
    (edge : Edge) → Contains t.edges edge → edge.role ≡ File → (node : ℕ) × IsFileOf t edge node

-- a node has the `file` node as its file: a format node, or a `copy-on-read` node that a job left over it
pub record IsUnder (edges : List Edge) (file : ℕ) : Type 0 where
  pub edge : Edge
  pub there : Contains edges edge
  pub over : edge.role ≡ File
  pub child : edge.child ≡ file

-- an edge to a file leads from one row to another
pub record LeadsToFile (t : RunTable) (over under : NodeRecord) : Type 0 where
  pub over_there : Contains t.nodes over
  pub under_there : Contains t.nodes under
  pub edge : Edge
  pub there : Contains t.edges edge
  pub parent : edge.parent ≡ Node over.id
  pub role : edge.role ≡ File
  pub child : edge.child ≡ under.id

-- A `file` node that is under a format node, and under that alone. It has no flat disk, and may be written where the node over
-- it may.
pub record IsUnderOne (t : RunTable) (over under : NodeRecord) : Type 0 where
  pub gone : under.is_settled ≡ false
  pub sole : (edge : Edge) → Contains t.edges edge → edge.child ≡ under.id
      → (edge.parent ≡ Node over.id) × (edge.role ≡ File)
  pub writable : over.read_only ≡ false → under.read_only ≡ false

abbrev pub FilesAreTaken : RunTable → Type 0
FilesAreTaken t =
    (over under : NodeRecord) → LeadsToFile t over under → IsSome under.filename
    → filter_role over.kind ≡ None
    → IsUnderOne t over under

-- it is no `file` node that a format node is over
abbrev pub IsUnderNoFormat : RunTable → ℕ → Type 0
IsUnderNoFormat t node =
    (row over : NodeRecord) → node_by_id t node ≡ Some row → IsSome row.filename
    → LeadsToFile t over row → filter_role over.kind ≡ None
    → ⊥

-- no node is over one that copies what is read
abbrev pub CopiesAreOnTop : RunTable → Type 0
CopiesAreOnTop t =
    (edge : Edge) (row : NodeRecord) (over : ℕ) → Contains t.edges edge → Contains t.nodes row
    → edge.parent ≡ Node over → edge.child ≡ row.id → row.kind ≢ CopyOnRead

-- what is over a node of another kind so is a filter
abbrev pub OthersAreFiltered : RunTable → Type 0
OthersAreFiltered t =
    (over under : NodeRecord) → LeadsToFile t over under → under.filename ≡ None
    → IsSome (filter_role over.kind)

-- ---- disks

-- a guest on the node may write its disk, or a read does
abbrev pub writes_through : RunTable → Bool → ℕ → Bool
writes_through t read_only node = not read_only || copies_through t node

-- The node that a node reads as is there and no filter, and where it is another one no `file` node under a format node. It may
-- be written where that one may, or where a read writes it.
pub record IsDiskOf (t : RunTable) (row disk : NodeRecord) : Type 0 where
  pub own : filter_role disk.kind ≡ None
  pub itself : IsSome disk.filename → (disk.id ≡ row.id) ⊎ IsUnderNoFormat t disk.id
  pub writable : writes_through t row.read_only row.id ≡ true → disk.read_only ≡ false

abbrev pub ReadAsNodes : RunTable → Type 0
ReadAsNodes t =
    (node : ℕ) (row : NodeRecord) → node_by_id t node ≡ Some row
    → With (node_by_id t (disk_node t node)) (IsDiskOf t row)

-- ---- devices

-- a device has the number of the guest of its name, or one that no guest has
abbrev pub IsNumberBy : ℕ → ℕ → Option ℕ → Type 0
IsNumberBy count number None = count ≤ number
IsNumberBy count number (Some guest) = number ≡ guest

abbrev pub HasDeviceNumber : List (List ℕ) → DeviceRow → Type 0
HasDeviceNumber guests device =
    IsNumberBy (length guests) device.number (place_from 0 device.id guests)

abbrev pub AreNumbered : RunTable → Type 0
AreNumbered t = (device : DeviceRow) → Contains t.devices device → HasDeviceNumber t.guests device

-- ---- all of it

-- what each change keeps
pub record TableStands (t : RunTable) : Type 0 where
  pub apart : HaveDistinctIds t
  pub drivers : AreFileNodes t
  pub names : HaveNames t
  pub own_names : HaveOwnNames t
  pub hidden : FiltersAreHidden t
  pub alone : StandAlone t
  pub edges : EdgesHaveEnds t
  pub roles : HaveRoles t
  pub acyclic : IsAcyclic t.edges
  pub single : HaveOneFile t
  pub taken : FilesAreTaken t
  pub filtered : OthersAreFiltered t
  pub on_top : CopiesAreOnTop t
  pub reads : ReadAsNodes t
  pub numbers : AreNumbered t

-- a `file` node that was made with a format node is under that, and has the name that it gets by that one's
pub record IsInline (t : RunTable) (row : NodeRecord) (over : ℕ) : Type 0 where
  pub file : IsSome row.filename
  pub edge : Edge
  pub there : Contains t.edges edge
  pub parent : edge.parent ≡ Node over
  pub role : edge.role ≡ File
  pub child : edge.child ≡ row.id
  pub format : With (node_by_id t over) (λ node. filter_role node.kind ≡ None)
  pub named : With (node_by_id t over) (λ node. row.name ≡ inline_name node.name None)

abbrev pub InlineAreUnder : RunTable → Type 0
InlineAreUnder t =
    (row : NodeRecord) (over : ℕ) → Contains t.nodes row → row.made_with ≡ Some over
    → IsInline t row over

-- between events: what the changes of a command keep together
pub record TableAtRest (t : RunTable) : Type 0 where
  pub stands : TableStands t
  pub inline : InlineAreUnder t
