use Rattle.std.proofs.Common.{◌≡◌, ◌∙◌, ℕ, None, Some, ap, cond, subst, sym}
use Rattle.std.specs.Prelude.{◌<◌}
use Rattle.std.specs.List.{Contains}
use Rattle.qmp_codec.specs.declared.event.JobKind.TheVariants.{Commit}
use Rattle.qmp_rules.specs.declared.rows.JobRecord.{JobRecord}
use Rattle.qmp_rules.specs.Table.{RunTable}
use Rattle.flat_machine.specs.Jobs.{target_written, writes_target}
use Rattle.flat_machine.specs.Suiting.{IsPlainNode}
use Rattle.job_tables.specs.Jobs.{JobsStand}
use Rattle.job_tables.specs.Rows.{nodes_of_job}
use Rattle.job_tables.proofs.RowEdges.{in_left}
use Rattle.job_tables.proofs.Runs.{target_held}
use Rattle.job_ends.proofs.Aside.{base_none, base_turn, commit_agrees, file_shows}
use Rattle.job_ends.proofs.laws.bases_are_written_aside.Goals as goal

written : (row : JobRecord) (base : ℕ) → row.kind ≡ Commit → row.target ≡ Some base → target_written row ≡ Some base
written row base kind is = ap (λ k. cond (writes_target k) row.target None) kind ∙ is

held : (t : RunTable) (row : JobRecord) (base : ℕ) → JobsStand t → Contains t.jobs row → row.kind ≡ Commit → row.target ≡ Some base
    → Contains (nodes_of_job row) base
held t row base j here kind is = in_left row.held row.read base (target_held t row (j.each row here) base (written row base kind is))

plain : (t : RunTable) (row : JobRecord) (base : ℕ) → JobsStand t → Contains t.jobs row → row.kind ≡ Commit → row.target ≡ Some base → IsPlainNode t base
plain t row base j here kind is = (j.each row here).plain base (held t row base j here kind is)

pub returns-clause-disks : goal.returns-clause-disks
returns-clause-disks c = λ opening s row base old new h j run files here kind is left did agrees.
    commit_agrees s row base h run files here (written row base kind is) (plain s.table row base j here kind is) left opening old new did agrees

pub returns-clause-images : goal.returns-clause-images
returns-clause-images c = λ s row base old new stands j run unsure started here kind is did shows.
    file_shows s stands base (plain s.table row base j here kind is)
    (unsure row base here (subst (λ n. row.number < n) (sym started) (run.numbers row here)) (held s.table row base j here kind is)) old new did.files
    did.mapping shows

pub returns-clause-none : goal.returns-clause-none
returns-clause-none c = base_none

pub returns-clause-in_turn : goal.returns-clause-in_turn
returns-clause-in_turn c = base_turn
