-- Changes by which no job begins or ends, and no node that a job has comes, goes or moves.
use Rattle.std.specs.Prelude.{◌≢◌, ℕ, List, [], ◌∷◌, Contains, Some}
use Rattle.blk_graph.specs.Paths.{Reaches}
use Rattle.qmp_rules.specs.declared.change.Change.{Change}
use Rattle.qmp_rules.specs.declared.change.Change.TheVariants as change
use Rattle.qmp_rules.specs.declared.rows.JobRecord.{JobRecord}
use Rattle.qmp_rules.specs.Changes.{changed}
use Rattle.qmp_rules.specs.Table.{RunTable}
use Rattle.flat_machine.specs.Suiting.{IsAlone}
use Rattle.job_tables.specs.Rows.{nodes_of_job}

-- no job has the node, be it as its filter
pub record IsNoJobs (t : RunTable) (node : ℕ) : Type 0 where
  pub held : (row : JobRecord) → Contains t.jobs row → Contains (nodes_of_job row) node → ⊥
  pub filter : (row : JobRecord) → Contains t.jobs row → row.filter ≢ Some node

-- Of snapshots, and of what starts and ends are made of, nothing is said.
abbrev pub LeavesJobs : RunTable → Change → Type 0
LeavesJobs t change.Negotiate = Unit {0}
LeavesJobs t (change.KeepId id) = Unit {0}
LeavesJobs t (change.DropId id) = Unit {0}
LeavesJobs t (change.MakeFile name size) = Unit {0}
LeavesJobs t (change.FormatFile node name size backing_file backing_fmt) = Unit {0}
LeavesJobs t (change.SpoilFile name) = Unit {0}
LeavesJobs t (change.UseFile name) = Unit {0}
LeavesJobs t (change.AddFile row) = Unit {0}
LeavesJobs t (change.AddFormat row file backing) = Unit {0}
LeavesJobs t (change.AddFilter row child) = Unit {0}
LeavesJobs t (change.RemoveNode node) = IsNoJobs t node
LeavesJobs t (change.Unsettle node) = Unit {0}
LeavesJobs t (change.AskJob number asked) = Unit {0}
LeavesJobs t (change.ReadyJob number) = Unit {0}
LeavesJobs t (change.AddDevice device node) = Unit {0}
LeavesJobs t (change.RemoveDevice number) = Unit {0}
LeavesJobs t (change.AddBitmap row) = Unit {0}
LeavesJobs t (change.RemoveBitmap node name) = Unit {0}
LeavesJobs t (change.TurnBitmap node name on) = Unit {0}
LeavesJobs t (change.ClearBitmap node name) = Unit {0}
LeavesJobs t (change.MergeBitmap node name source_node source) = Unit {0}
LeavesJobs t c = ⊥

abbrev pub AllLeaveJobs : RunTable → List Change → Type 0
AllLeaveJobs t [] = Unit {0}
AllLeaveJobs t (c ∷ changes) = LeavesJobs t c × AllLeaveJobs (changed t c) changes

-- A snapshot has to do with no job: its node and its overlay are nobody's, nothing is over the overlay, and no job's source
-- is below that.
pub record LeavesBySnapshot (t : RunTable) (node overlay : ℕ) : Type 0 where
  pub other : node ≢ overlay
  pub node_free : IsNoJobs t node
  pub overlay_free : IsNoJobs t overlay
  pub alone : IsAlone t overlay
  pub below : (row : JobRecord) → Contains t.jobs row → Reaches t.edges overlay row.source → ⊥
