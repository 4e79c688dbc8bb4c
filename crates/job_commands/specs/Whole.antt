-- Disks that are as long as the rows of their nodes say.
use Rattle.std.specs.Prelude.{◌≡◌, ℕ, List, length, Some, None}
use Rattle.qmp_rules.specs.declared.rows.NodeRecord.{NodeRecord}
use Rattle.qmp_rules.specs.Chains.{filter_role}
use Rattle.qmp_rules.specs.Table.{RunTable, node_by_id}
use Rattle.flat_machine.specs.State.{State, bytes_in}

-- what is said of nodes that are no filters
abbrev pub HaveRowSizes : RunTable → (ℕ → List ℕ) → Type 0
HaveRowSizes t disk = (node : ℕ) (row : NodeRecord) → node_by_id t node ≡ Some row
    → filter_role row.kind ≡ None → length (disk node) ≡ row.size

-- the bytes that the flat machine has for a node, be it settled or not
abbrev pub DisksAreWhole : State → Type 0
DisksAreWhole s = HaveRowSizes s.table (bytes_in s.disks)
