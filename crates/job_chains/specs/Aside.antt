-- Nodes that read what a commit writes, or may leave without disks, and not through its top.
use Rattle.std.specs.Prelude.{◌≡◌, ◌≢◌, ◌⊎◌, ℕ, false, List, [], ◌∷◌, Contains, Some, None}
use Rattle.blk_graph.specs.declared.edge.Role.TheVariants.{Backing, Filtered}
use Rattle.qmp_codec.specs.declared.event.JobKind.TheVariants.{Commit}
use Rattle.qmp_rules.specs.declared.change.Change.{Change}
use Rattle.qmp_rules.specs.declared.change.Change.TheVariants as change
use Rattle.qmp_rules.specs.declared.rows.NodeRecord.{NodeRecord}
use Rattle.qmp_rules.specs.declared.rows.JobRecord.{JobRecord}
use Rattle.qmp_rules.specs.Chains.{filter_role}
use Rattle.qmp_rules.specs.Changes.{changed}
use Rattle.qmp_rules.specs.Edits.{under_top}
use Rattle.qmp_rules.specs.Table.{RunTable, child}

-- the node reads the other one: as its backing node, or as a filter that a job put over that
abbrev pub ReadsNext : RunTable → ℕ → ℕ → Type 0
ReadsNext t node below = (child t node Backing ≡ Some below) ⊎ (child t node Filtered ≡ Some below)

-- Each of these nodes reads the next one, none is the top of the commit, and the last is its base or lies between.
abbrev pub ReadsAsideBy : RunTable → JobRecord → ℕ → List ℕ → Type 0
ReadsAsideBy t row node [] = (node ≢ row.source) × Contains (under_top row) node
ReadsAsideBy t row node (below ∷ path) =
    (node ≢ row.source) × ReadsNext t node below × ReadsAsideBy t row below path

-- so a node reads what is under the top of a commit, and not through the top
abbrev pub ReadsAside : RunTable → JobRecord → ℕ → Type 0
ReadsAside t row node = (path : List ℕ) × ReadsAsideBy t row node path

-- no node that does so has a flat disk
abbrev pub StandsAside : RunTable → JobRecord → Type 0
StandsAside t row =
    (node : NodeRecord) → Contains t.nodes node → filter_role node.kind ≡ None
    → ReadsAside t row node.id
    → node.is_settled ≡ false

abbrev pub CommitsStandAside : RunTable → Type 0
CommitsStandAside t =
    (row : JobRecord) → Contains t.jobs row → row.kind ≡ Commit → StandsAside t row

-- a node that reads nothing aside, as all with a flat disk
abbrev pub ReadsNoneAside : RunTable → ℕ → Type 0
ReadsNoneAside t node =
    (row : JobRecord) → Contains t.jobs row → row.kind ≡ Commit → ReadsAside t row node → ⊥

-- ---- changes by which no job begins or ends

-- so it is with the backing node of a new one
abbrev pub LeavesAside : RunTable → Change → Type 0
LeavesAside t (change.AddFormat row file backing) =
    (node : ℕ) → backing ≡ Some node → ReadsNoneAside t node
LeavesAside t c = Unit {0}

abbrev pub AllLeaveAside : RunTable → List Change → Type 0
AllLeaveAside t [] = Unit {0}
AllLeaveAside t (c ∷ changes) = LeavesAside t c × AllLeaveAside (changed t c) changes
