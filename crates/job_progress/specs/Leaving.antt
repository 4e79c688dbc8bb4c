-- Changes of the table that leave what jobs have copied.
use Rattle.std.specs.Prelude.{◌≡◌, ℕ, List, [], ◌∷◌, Contains, Some, None}
use Rattle.blk_graph.specs.declared.edge.Role.TheVariants.{File}
use Rattle.block_jobs.specs.Work.{JobWork}
use Rattle.qmp_rules.specs.declared.change.Change.{Change}
use Rattle.qmp_rules.specs.declared.change.Change.TheVariants as change
use Rattle.qmp_rules.specs.declared.rows.NodeRecord.{NodeRecord}
use Rattle.qmp_rules.specs.Changes.{changed}
use Rattle.qmp_rules.specs.Table.{RunTable, child}
use Rattle.job_tables.specs.Changes.{IsNoJobs}
use Rattle.job_works.specs.Works.{work_of}

-- the nodes over the file are no job's
abbrev pub AreNoJobs : RunTable → List ℕ → Type 0
AreNoJobs t name = (row : NodeRecord) → Contains t.nodes row → row.filename ≡ Some name
    → IsNoJobs t row.id

-- the `file` node under it is no job's
abbrev pub FileIsNoJobs : RunTable → ℕ → Type 0
FileIsNoJobs t node = (file : ℕ) → child t node File ≡ Some file → IsNoJobs t file

-- A node of which the disk changes, comes or goes is no job's; a job that begins has no work yet.
abbrev pub LeavesCopies : List JobWork → RunTable → Change → Type 0
LeavesCopies works t (change.FormatFile node name size backing_file backing_fmt) = IsNoJobs t node
LeavesCopies works t (change.SpoilFile name) = AreNoJobs t name
LeavesCopies works t (change.AddFile row) = IsNoJobs t row.id
LeavesCopies works t (change.AddFormat row file backing) = IsNoJobs t row.id
LeavesCopies works t (change.AddFilter row child) = IsNoJobs t row.id
LeavesCopies works t (change.RemoveNode node) = IsNoJobs t node
LeavesCopies works t (change.PutFilter row node) = IsNoJobs t row.id
LeavesCopies works t (change.PullFilter filter) = IsNoJobs t filter
LeavesCopies works t (change.StartJob row) = work_of works row.number ≡ None
LeavesCopies works t (change.Attach overlay node) = IsNoJobs t overlay
LeavesCopies works t (change.Rebase node backing) = FileIsNoJobs t node
LeavesCopies works t (change.Settle node disk) = IsNoJobs t node
LeavesCopies works t c = Unit {0}

abbrev pub AllLeaveCopies : List JobWork → RunTable → List Change → Type 0
AllLeaveCopies works t [] = Unit {0}
AllLeaveCopies works t (c ∷ changes) =
    LeavesCopies works t c × AllLeaveCopies works (changed t c) changes

-- ---- changes that neither begin nor end a job

abbrev pub LeavesRows : Change → Type 0
LeavesRows (change.StartJob row) = ⊥
LeavesRows (change.EndJob number slot drops) = ⊥
LeavesRows c = Unit {0}

abbrev pub AllLeaveRows : List Change → Type 0
AllLeaveRows [] = Unit {0}
AllLeaveRows (c ∷ changes) = LeavesRows c × AllLeaveRows changes
