-- The sizes of disks along a chain.
use Rattle.std.specs.Prelude.{◌≡◌, ℕ, List, [], ◌∷◌, Contains, Some, option_and_then, unwrap_or}
use Rattle.blk_graph.specs.declared.edge.Edge.{Edge}
use Rattle.blk_graph.specs.declared.edge.Parent.TheVariants.{Node}
use Rattle.blk_graph.specs.declared.edge.Role.{Role}
use Rattle.blk_graph.specs.declared.edge.Role.TheVariants.{Backing, Filtered}
use Rattle.qmp_codec.specs.Commands.{Cmd}
use Rattle.qmp_codec.specs.declared.command.Command.TheVariants as command
use Rattle.qmp_codec.specs.declared.nodes.Added.{Added}
use Rattle.qmp_codec.specs.declared.nodes.Added.TheVariants as added
use Rattle.qmp_asks.specs.NodeAsks.{backing_name}
use Rattle.qmp_rules.specs.declared.change.Change.{Change}
use Rattle.qmp_rules.specs.declared.change.Change.TheVariants as change
use Rattle.qmp_rules.specs.declared.rows.NodeRecord.{NodeRecord}
use Rattle.qmp_rules.specs.declared.told.Told.{Told}
use Rattle.qmp_rules.specs.Changes.{changed}
use Rattle.qmp_rules.specs.Table.{RunTable, node_by_id, node_named}
use Rattle.flat_machine.specs.Suiting.{HaveOneSize}

-- an edge by which a chain goes on: to a backing node, or to what a job's filter is over
abbrev pub GoesOn : Role → Type 0
GoesOn Backing = Unit {0}
GoesOn Filtered = Unit {0}
GoesOn role = ⊥

-- a node has the size of its backing node, and a job's filter that of the node under it
abbrev pub ChainsHaveOneSize : RunTable → Type 0
ChainsHaveOneSize t =
    (edge : Edge) (over : ℕ) → Contains t.edges edge → edge.parent ≡ Node over → GoesOn edge.role
    → HaveOneSize t over edge.child

-- ---- changes that leave it

-- a new node's size is that of one that is there
abbrev pub IsAsLarge : RunTable → NodeRecord → ℕ → Type 0
IsAsLarge t row node = (other : NodeRecord) → node_by_id t node ≡ Some other → row.size ≡ other.size

-- What is asked beside what suits the table, which says the sizes where a node gets another backing node, and where parents go
-- over to another node.
abbrev pub LeavesSizes : RunTable → Change → Type 0
LeavesSizes t (change.AddFormat row file backing) =
    (node : ℕ) → backing ≡ Some node → IsAsLarge t row node
LeavesSizes t (change.PutFilter row node) = IsAsLarge t row node
LeavesSizes t c = Unit {0}

abbrev pub AllLeaveSizes : RunTable → List Change → Type 0
AllLeaveSizes t [] = Unit {0}
AllLeaveSizes t (c ∷ changes) = LeavesSizes t c × AllLeaveSizes (changed t c) changes

-- ---- what is told

-- an image that is added over a backing node is told to be as large
abbrev pub IsToldAsLarge : RunTable → Told → Added (List ℕ) → Type 0
IsToldAsLarge t told (added.Qcow2 image) =
    (row : NodeRecord) → option_and_then (node_named t) (backing_name image.backing) ≡ Some row
    → row.size ≡ unwrap_or told.size 0
IsToldAsLarge t told driver = Unit {0}

-- so it is with an addition, and nothing is asked of every other command
abbrev pub TellsSizes : RunTable → Told → Cmd → Type 0
TellsSizes t told (command.BlockdevAdd c) = IsToldAsLarge t told c.driver
TellsSizes t told c = Unit {0}
