-- Backups and mirrors: what leads to their targets, and the sizes of their disks.
use Rattle.std.specs.Prelude.{◌≡◌, ◌≢◌, ℕ, List, [], ◌∷◌, Contains, Some}
use Rattle.blk_graph.specs.declared.edge.Edge.{Edge}
use Rattle.blk_graph.specs.declared.edge.Parent.TheVariants.{Job}
use Rattle.qmp_rules.specs.declared.change.Change.{Change}
use Rattle.qmp_rules.specs.declared.change.Change.TheVariants as change
use Rattle.qmp_rules.specs.declared.rows.JobRecord.{JobRecord}
use Rattle.qmp_rules.specs.Changes.{changed}
use Rattle.qmp_rules.specs.Table.{RunTable}
use Rattle.flat_machine.specs.Jobs.{copied_to}
use Rattle.flat_machine.specs.Suiting.{HaveOneSize, IsAlone}

-- the job's edge alone leads to the target, which has the source's size
pub record CopyGoes (t : RunTable) (row : JobRecord) (target : ℕ) : Type 0 where
  pub alone : (edge : Edge) → Contains t.edges edge → edge.child ≡ target
      → edge.parent ≡ Job row.slot
  pub sizes : HaveOneSize t row.source target

abbrev pub CopiesGo : RunTable → Type 0
CopiesGo t = (row : JobRecord) (target : ℕ) → Contains t.jobs row
    → copied_to row row.kind ≡ Some target
    → CopyGoes t row target

-- ---- starts

-- the target of one that begins has no parent, and its source's size
pub record CopyCanGo (t : RunTable) (row : JobRecord) (target : ℕ) : Type 0 where
  pub alone : IsAlone t target
  pub sizes : HaveOneSize t row.source target

abbrev pub CopierBegins : RunTable → JobRecord → Type 0
CopierBegins t row = (target : ℕ) → copied_to row row.kind ≡ Some target → CopyCanGo t row target

-- ---- changes that lead nothing to a target

-- no backup or mirror copies to the node
abbrev pub IsNoCopyTarget : RunTable → ℕ → Type 0
IsNoCopyTarget t node =
    (row : JobRecord) → Contains t.jobs row → copied_to row row.kind ≢ Some node

-- Of changes by which no job begins or ends. Of the file under a new node it follows, since nothing leads to that.
abbrev pub LeavesTargets : RunTable → Change → Type 0
LeavesTargets t (change.AddFormat row file backing) =
    (node : ℕ) → backing ≡ Some node → IsNoCopyTarget t node
LeavesTargets t (change.AddFilter row child) = IsNoCopyTarget t child
LeavesTargets t (change.AddDevice device node) = IsNoCopyTarget t node
LeavesTargets t c = Unit {0}

abbrev pub AllLeaveTargets : RunTable → List Change → Type 0
AllLeaveTargets t [] = Unit {0}
AllLeaveTargets t (c ∷ changes) = LeavesTargets t c × AllLeaveTargets (changed t c) changes
