-- When a change leaves what holds of all tables and states.
use Rattle.std.specs.Prelude.{◌≡◌, ◌≢◌, ℕ, ◌==◌, true, false, ◌&&◌, not, List, [], ◌∷◌, filter, All, Contains, Option, Some, None, IsSome}
use Rattle.blk_graph.specs.declared.edge.Edge.{Edge}
use Rattle.blk_graph.specs.declared.edge.Parent.TheVariants.{Node}
use Rattle.blk_graph.specs.declared.edge.Role.TheVariants.{File, Backing, Filtered}
use Rattle.blk_graph.specs.declared.kind.Kind.TheVariants.{Protocol, CopyOnRead}
use Rattle.blk_graph.specs.Edges.{same_parent}
use Rattle.blk_graph.specs.Paths.{LeadsBack}
use Rattle.blk_graph.specs.Permissions.{has_role}
use Rattle.qmp_asks.specs.Naming.{is_name}
use Rattle.qmp_rules.specs.declared.change.Change.{Change}
use Rattle.qmp_rules.specs.declared.change.Change.TheVariants as change
use Rattle.qmp_rules.specs.declared.rows.NodeRecord.{NodeRecord}
use Rattle.qmp_rules.specs.declared.rows.DeviceRow.{DeviceRow}
use Rattle.qmp_rules.specs.declared.rows.FileState.TheVariants.{Used}
use Rattle.qmp_rules.specs.Table.{RunTable, node_by_id, device_by_number, file_state, child}
use Rattle.qmp_rules.specs.Chains.{filter_role, disk_node}
use Rattle.qmp_rules.specs.Changes.{changed}
use Rattle.flat_machine.specs.State.{State, content_in}
use Rattle.flat_machine.specs.Changed.{stepped}
use Rattle.flat_machine.specs.Wiring.{StandsFor, IsUnderNoFormat, HasDeviceNumber, HasOwnName, writes_through}
use Rattle.flat_machine.specs.Standing.{IsLostBy, IsUsedFile, MayGuestWrite}

abbrev pub IsThere : RunTable → ℕ → Type 0
IsThere t node = IsSome (node_by_id t node)

-- no node stands for the file
abbrev pub HasNoNode : RunTable → List ℕ → Type 0
HasNoNode t name = (row : NodeRecord) → StandsFor t name row → ⊥

-- no edge leads to the node
abbrev pub IsAlone : RunTable → ℕ → Type 0
IsAlone t node = (edge : Edge) → Contains t.edges edge → edge.child ≡ node → ⊥

-- a node that is no filter, and no `file` node under a format node
pub record IsPlainNode (t : RunTable) (node : ℕ) : Type 0 where
  pub row : NodeRecord
  pub there : node_by_id t node ≡ Some row
  pub own : filter_role row.kind ≡ None
  pub free : IsUnderNoFormat t node

-- ---- tables

-- a new `file` node over a file for which no other node stands
pub record SuitsFile (t : RunTable) (row : NodeRecord) : Type 0 where
  pub fresh : node_by_id t row.id ≡ None
  pub own_name : HasOwnName row
  pub driver : row.kind ≡ Protocol
  pub name : List ℕ
  pub filename : row.filename ≡ Some name
  pub closed : HasNoNode t name

-- the backing node of a new one
pub record SuitsBacking (t : RunTable) (row : NodeRecord) (file backing : ℕ) : Type 0 where
  pub role : has_role row.kind Backing ≡ true
  pub there : IsThere t backing
  pub other : backing ≢ file
  pub free : IsUnderNoFormat t backing
  pub plain : (row : NodeRecord) → node_by_id t backing ≡ Some row → row.kind ≢ CopyOnRead

-- a new format node over a `file` node that has no parent
pub record SuitsFormat (t : RunTable) (row : NodeRecord) (file : ℕ)
    (backing : Option ℕ) : Type 0 where
  pub fresh : node_by_id t row.id ≡ None
  pub own_name : HasOwnName row
  pub format : filter_role row.kind ≡ None
  pub role : has_role row.kind File ≡ true
  pub filename : row.filename ≡ None
  pub under : NodeRecord
  pub found : node_by_id t file ≡ Some under
  pub name : List ℕ
  pub of_file : under.filename ≡ Some name
  pub alone : IsAlone t file
  pub writable : row.read_only ≡ false → under.read_only ≡ false
  pub backed : (node : ℕ) → backing ≡ Some node → SuitsBacking t row file node

-- a new filter that copies what is read, over a format node that may be written
pub record SuitsFilter (t : RunTable) (row : NodeRecord) (child : ℕ) : Type 0 where
  pub fresh : node_by_id t row.id ≡ None
  pub own_name : HasOwnName row
  pub filter : filter_role row.kind ≡ Some File
  pub filename : row.filename ≡ None
  pub under : NodeRecord
  pub found : node_by_id t child ≡ Some under
  pub own : filter_role under.kind ≡ None
  pub no_file : under.filename ≡ None
  pub writable : under.read_only ≡ false

pub record SuitsDevice (t : RunTable) (device : DeviceRow) (node : ℕ) : Type 0 where
  pub there : IsThere t node
  pub free : IsUnderNoFormat t node
  pub number : HasDeviceNumber t.guests device

-- both are there, and have disks of one size
pub record HaveOneSize (t : RunTable) (first second : ℕ) : Type 0 where
  pub row : NodeRecord
  pub other : NodeRecord
  pub found : node_by_id t first ≡ Some row
  pub other_found : node_by_id t second ≡ Some other
  pub same : row.size ≡ other.size

-- A node gets one of its size as backing node, be it in the place of another one: that doesn't lead back to it.
pub record SuitsAttach (t : RunTable) (overlay node : ℕ) : Type 0 where
  pub sizes : HaveOneSize t overlay node
  pub role : has_role sizes.row.kind Backing ≡ true
  pub free : IsUnderNoFormat t node
  pub plain : sizes.other.kind ≢ CopyOnRead
  pub apart : LeadsBack t.edges node (Node overlay) → ⊥

-- the edges but those of a node to another one
abbrev pub without_way : ℕ → ℕ → List Edge → List Edge
without_way over node edges =
    filter (λ e. not (same_parent e.parent (Node over) && e.child == node)) edges

-- The parents of a plain node go over to another one of its size that may be written. That leads back by the one parent alone
-- that stays, which is no filter.
pub record SuitsMove (t : RunTable) (from to but : ℕ) : Type 0 where
  pub sizes : HaveOneSize t from to
  pub plain : IsPlainNode t from
  pub onto : IsPlainNode t to
  pub writable : onto.row.read_only ≡ false
  pub apart : LeadsBack (without_way but from t.edges) to (Node from) → ⊥
  pub stays : (row : NodeRecord) → node_by_id t but ≡ Some row → filter_role row.kind ≡ None

-- a node gets another backing node, or none
abbrev pub SuitsRebase : RunTable → ℕ → Option ℕ → Type 0
SuitsRebase t node None = Unit {0}
SuitsRebase t node (Some base) = SuitsAttach t node base

-- A new filter of a job over a plain node that no other job's is over. It has a name that no command can say, and may be written
-- where the node may.
pub record SuitsPut (t : RunTable) (row : NodeRecord) (node : ℕ) : Type 0 where
  pub fresh : node_by_id t row.id ≡ None
  pub own_name : HasOwnName row
  pub hidden : is_name row.name ≡ false
  pub filter : filter_role row.kind ≡ Some Filtered
  pub filename : row.filename ≡ None
  pub under : IsPlainNode t node
  pub writable : row.read_only ≡ false → under.row.read_only ≡ false
  pub single : (edge : Edge) → Contains t.edges edge → edge.child ≡ node → edge.role ≢ Filtered

-- a filter of a job that is over a plain node
pub record SuitsPull (t : RunTable) (filter : ℕ) : Type 0 where
  pub row : NodeRecord
  pub there : node_by_id t filter ≡ Some row
  pub role : filter_role row.kind ≡ Some Filtered
  pub below : ℕ
  pub over : child t filter Filtered ≡ Some below
  pub under : IsPlainNode t below

-- a node that is no filter
pub record IsDiskNode (t : RunTable) (node : ℕ) : Type 0 where
  pub row : NodeRecord
  pub there : node_by_id t node ≡ Some row
  pub own : filter_role row.kind ≡ None

-- the `file` node under a node that is to be written may be written before
pub record MayBeWritten (t : RunTable) (node : ℕ) : Type 0 where
  pub disk : IsDiskNode t node
  pub under : (file : ℕ) (row : NodeRecord) → child t node File ≡ Some file
      → node_by_id t file ≡ Some row → row.read_only ≡ false

-- Of a node that is to be written no more: the node over its file may not be written either, and no filter over it writes it.
pub record MayBeKept (t : RunTable) (node : ℕ) : Type 0 where
  pub disk : IsDiskNode t node
  pub over : (edge : Edge) (row : NodeRecord) → Contains t.edges edge → Contains t.nodes row
      → edge.parent ≡ Node row.id → edge.role ≡ File → edge.child ≡ node → row.read_only ≡ true
  pub filters : (row : NodeRecord) → Contains t.nodes row → disk_node t row.id ≡ node
      → writes_through t row.read_only row.id ≡ true → row.id ≡ node

abbrev pub TableSuits : RunTable → Change → Type 0
TableSuits t change.Negotiate = Unit {0}
TableSuits t (change.KeepId id) = Unit {0}
TableSuits t (change.DropId id) = Unit {0}
TableSuits t (change.MakeFile name size) = Unit {0}
TableSuits t (change.FormatFile node name size backing_file backing_fmt) = Unit {0}
TableSuits t (change.SpoilFile name) = Unit {0}
TableSuits t (change.UseFile name) = Unit {0}
TableSuits t (change.AddFile row) = SuitsFile t row
TableSuits t (change.AddFormat row file backing) = SuitsFormat t row file backing
TableSuits t (change.AddFilter row child) = SuitsFilter t row child
TableSuits t (change.RemoveNode node) = IsAlone t node
TableSuits t (change.Unsettle node) = Unit {0}
TableSuits t (change.Settle node disk) = IsPlainNode t node
TableSuits t (change.MakeWritable node) = MayBeWritten t node
TableSuits t (change.MakeReadOnly node) = MayBeKept t node
TableSuits t (change.PutFilter row node) = SuitsPut t row node
TableSuits t (change.PullFilter filter) = SuitsPull t filter
TableSuits t (change.UseNode slot what node) = IsPlainNode t node
TableSuits t (change.StartJob row) = Unit {0}
TableSuits t (change.AskJob number asked) = Unit {0}
TableSuits t (change.ReadyJob number) = Unit {0}
TableSuits t (change.EndJob number slot drops) = Unit {0}
TableSuits t (change.AddDevice device node) = SuitsDevice t device node
TableSuits t (change.RemoveDevice number) = Unit {0}
TableSuits t (change.Attach overlay node) = SuitsAttach t overlay node
TableSuits t (change.Move from to but) = SuitsMove t from to but
TableSuits t (change.Rebase node backing) = SuitsRebase t node backing
TableSuits t (change.AddBitmap row) = Unit {0}
TableSuits t (change.RemoveBitmap node name) = Unit {0}
TableSuits t (change.TurnBitmap node name on) = Unit {0}
TableSuits t (change.ClearBitmap node name) = Unit {0}
TableSuits t (change.MergeBitmap node name source_node source) = Unit {0}

abbrev pub AllTableSuit : RunTable → List Change → Type 0
AllTableSuit t [] = Unit {0}
AllTableSuit t (c ∷ changes) = TableSuits t c × AllTableSuit (changed t c) changes

-- ---- states

-- no node that stands for the file has been used
abbrev pub IsUnused : RunTable → List ℕ → Type 0
IsUnused t name = file_state t name ≢ Some Used

-- there is word of the file of a new `file` node, and it was not used
pub record FileSuits (s : State) (row : NodeRecord) : Type 0 where
  pub suits : SuitsFile s.table row
  pub settled : row.is_settled ≡ true
  pub there : IsSome (content_in s.files suits.name)
  pub unused : IsUnused s.table suits.name

pub record FormatSuits (s : State) (row : NodeRecord) (file : ℕ) (backing : Option ℕ) : Type 0 where
  pub suits : SuitsFormat s.table row file backing
  pub unused : IsUnused s.table suits.name

-- a node without parents, whose file was used
pub record RemovalSuits (t : RunTable) (node : ℕ) : Type 0 where
  pub alone : IsAlone t node
  pub own : (name : List ℕ) (row : NodeRecord) → StandsFor t name row → row.id ≡ node
      → file_state t name ≡ Some Used
  pub under : (name : List ℕ) (row : NodeRecord) (edge : Edge) → StandsFor t name row
      → Contains t.edges edge → edge.parent ≡ Node node
      → edge.role ≡ File → edge.child ≡ row.id → file_state t name ≡ Some Used

-- a `file` node loses its disk for a cause
abbrev pub UnsettleSuits : RunTable → ℕ → Type 0
UnsettleSuits t node =
    (name : List ℕ) (row : NodeRecord) → StandsFor t name row → row.id ≡ node
    → IsLostBy t name row

-- the node stands for the file, and has no parent
pub record FormattingSuits (t : RunTable) (node : ℕ) (name : List ℕ) : Type 0 where
  pub row : NodeRecord
  pub stands : StandsFor t name row
  pub is_node : row.id ≡ node
  pub alone : IsAlone t node

-- a device with a number of its own, on a node that it may use so
pub record DeviceSuits (s : State) (device : DeviceRow) (node : ℕ) : Type 0 where
  pub suits : SuitsDevice s.table device node
  pub fresh : device_by_number s.table device.number ≡ None
  pub writes : MayGuestWrite s device node

-- no disk is left in the file of a `file` node
abbrev pub NoneLeftIn : State → ℕ → Type 0
NoneLeftIn s node =
    (name : List ℕ) (row : NodeRecord) → StandsFor s.table name row → row.id ≡ node
    → All (λ l. l.file ≢ name) s.left

-- a node that has a flat disk again
pub record SettleSuits (s : State) (node : ℕ) : Type 0 where
  pub plain : IsPlainNode s.table node
  pub left : NoneLeftIn s node

-- where parents move to a `file` node, its file was used
pub record MoveSuits (s : State) (from to but : ℕ) : Type 0 where
  pub suits : SuitsMove s.table from to but
  pub used : (name : List ℕ) → suits.onto.row.filename ≡ Some name → IsUsedFile s name
  pub left : NoneLeftIn s to

-- a filter that goes, over a node in whose file no disk is left
pub record PullSuits (s : State) (filter : ℕ) : Type 0 where
  pub suits : SuitsPull s.table filter
  pub left : NoneLeftIn s suits.below

abbrev pub Suits : State → Change → Type 0
Suits s change.Negotiate = Unit {0}
Suits s (change.KeepId id) = Unit {0}
Suits s (change.DropId id) = Unit {0}
Suits s (change.MakeFile name size) = HasNoNode s.table name
Suits s (change.FormatFile node name size backing_file backing_fmt) =
    FormattingSuits s.table node name
Suits s (change.SpoilFile name) = Unit {0}
Suits s (change.UseFile name) = Unit {0}
Suits s (change.AddFile row) = FileSuits s row
Suits s (change.AddFormat row file backing) = FormatSuits s row file backing
Suits s (change.AddFilter row child) = SuitsFilter s.table row child
Suits s (change.RemoveNode node) = RemovalSuits s.table node
Suits s (change.Unsettle node) = UnsettleSuits s.table node
Suits s (change.Settle node disk) = SettleSuits s node
Suits s (change.MakeWritable node) = MayBeWritten s.table node
Suits s (change.MakeReadOnly node) = MayBeKept s.table node
Suits s (change.PutFilter row node) = SuitsPut s.table row node
Suits s (change.PullFilter filter) = PullSuits s filter
Suits s (change.UseNode slot what node) = IsPlainNode s.table node
Suits s (change.StartJob row) = Unit {0}
Suits s (change.AskJob number asked) = Unit {0}
Suits s (change.ReadyJob number) = Unit {0}
Suits s (change.EndJob number slot drops) = Unit {0}
Suits s (change.AddDevice device node) = DeviceSuits s device node
Suits s (change.RemoveDevice number) = Unit {0}
Suits s (change.Attach overlay node) = SuitsAttach s.table overlay node
Suits s (change.Move from to but) = MoveSuits s from to but
Suits s (change.Rebase node backing) = SuitsRebase s.table node backing
Suits s (change.AddBitmap row) = Unit {0}
Suits s (change.RemoveBitmap node name) = Unit {0}
Suits s (change.TurnBitmap node name on) = Unit {0}
Suits s (change.ClearBitmap node name) = Unit {0}
Suits s (change.MergeBitmap node name source_node source) = Unit {0}

abbrev pub AllSuit : State → List Change → Type 0
AllSuit s [] = Unit {0}
AllSuit s (c ∷ changes) = Suits s c × AllSuit (stepped s c) changes
