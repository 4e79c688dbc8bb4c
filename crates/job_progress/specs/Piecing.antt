-- A piece of a guest's request, beside what jobs copy.
use Rattle.std.specs.Prelude.{◌≡◌, ℕ, Bool, false, ◌==◌, ◌&&◌, true, if◌then◌else◌, List, Contains, Option, Some, None, find}
use Rattle.blk_base.specs.Pieces.{Extent}
use Rattle.blk_base.specs.declared.fault.Outcome.{Outcome}
use Rattle.block_jobs.specs.Ahead.{AreAll, is_owed}
use Rattle.blk_graph.specs.declared.edge.Role.TheVariants.{File}
use Rattle.block_jobs.specs.Work.{JobWork}
use Rattle.qmp_codec.specs.declared.event.JobKind.{JobKind}
use Rattle.qmp_codec.specs.declared.event.JobKind.TheVariants.{Commit, Mirror, Backup}
use Rattle.qmp_rules.specs.declared.rows.JobRecord.{JobRecord}
use Rattle.qmp_rules.specs.Table.{RunTable, child}
use Rattle.trace_codec.specs.declared.op.Op.{Op}
use Rattle.trace_codec.specs.declared.op.Op.TheVariants.{Read, Write, Zero}
use Rattle.flat_machine.specs.Machine.{is_noted}
use Rattle.flat_machine.specs.Writing.{ReadsWritten}
use Rattle.job_works.specs.Works.{work_of, marked_again}

-- no target of a job reads what is written
abbrev pub NoTargetReads : RunTable → ℕ → Type 0
NoTargetReads t node = (row : JobRecord) (target : ℕ) → Contains t.jobs row
    → row.target ≡ Some target → ReadsWritten t node target → ⊥

-- nor is one the `file` node under what is read, of which the image may be written
abbrev pub NoTargetUnder : RunTable → ℕ → Type 0
NoTargetUnder t node = (row : JobRecord) (target : ℕ) → Contains t.jobs row
    → row.target ≡ Some target → child t node File ≡ Some target → ⊥

-- a backup of the node owes nothing of the part
abbrev pub IsGuarded : RunTable → List JobWork → ℕ → Extent → Type 0
IsGuarded t works node part = (row : JobRecord) (work : JobWork) → Contains t.jobs row
    → row.kind ≡ Backup → row.source ≡ node → work_of works row.number ≡ Some work
    → work.met ≡ None → AreAll false (is_owed Backup work) part.start part.len

-- so it is before a piece
abbrev pub CanPass : RunTable → List JobWork → ℕ → Op → Extent → Type 0
CanPass t works node (Read span) part = NoTargetUnder t node
CanPass t works node (Write span payload) part =
    NoTargetReads t node × IsGuarded t works node part
CanPass t works node (Zero span) part = NoTargetReads t node × IsGuarded t works node part
CanPass t works node op part = Unit {0}

-- ---- marks

-- a mirror and a commit follow their source: what is written there they have to copy again
abbrev pub follows : JobKind → Bool
follows Mirror = true
follows Commit = true
follows kind = false

abbrev pub is_follower_of : ℕ → JobRecord → Bool
is_follower_of node row = follows row.kind && (row.source == node)

abbrev pub follower_of : RunTable → ℕ → Option JobRecord
follower_of t node = find (is_follower_of node) t.jobs

abbrev pub marked_for : Option JobRecord → Extent → List JobWork → List JobWork
marked_for None part works = works
marked_for (Some row) part works = marked_again row.number part works

-- where something was written, the mirror or commit of the node has to copy the part again
abbrev pub marked_if : Bool → RunTable → ℕ → Extent → List JobWork → List JobWork
marked_if so t node part works = if so then marked_for (follower_of t node) part works else works

abbrev pub marked_by : Op → Outcome → RunTable → ℕ → Extent → List JobWork → List JobWork
marked_by (Write span payload) outcome t node part works =
    marked_if (is_noted outcome) t node part works
marked_by (Zero span) outcome t node part works = marked_if (is_noted outcome) t node part works
marked_by op outcome t node part works = works
