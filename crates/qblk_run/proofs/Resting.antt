-- Where each slot waits, no job is asked to end, and so none holds a disk.
use Rattle.std.proofs.Common.{◌≡◌, ℕ, List, [], ◌∷◌, Option, Some, None, refl, ◌∙◌, ap, subst}
use Rattle.std.specs.Prelude.{◌==◌, All, Contains}
use Rattle.std.proofs.lemmas.Bool.{eq-eqb, eqb-true}
use Rattle.std.proofs.lemmas.List.Elements.{All-head}
use Rattle.blk_graph.proofs.Members.{find-Some}
use Rattle.flat_machine.specs.Blocked.{JobWaits}
use Rattle.flat_machine.proofs.Fresh.{no-found}
use Rattle.job_tables.specs.Jobs.{JobsStand}
use Rattle.qmp_rules.specs.Table.{RunTable, job_in}
use Rattle.qmp_rules.specs.declared.rows.JobRecord.{JobRecord}
use Rattle.world_parts.specs.Coherent.{AreDrainsKept, IsAskedJob}
use Rattle.world_parts.specs.Face.{WorldSeen, seen_state}
use Rattle.qblk_run.specs.Rounds.{SlotsWait}

-- each job is found in its slot
in-slot : (t : RunTable) → JobsStand t → (row : JobRecord) → Contains t.jobs row → job_in t row.slot ≡ Some row
in-slot t stand row here = by_found (job_in t row.slot) refl
  where
    by_found : (found : Option JobRecord) → job_in t row.slot ≡ found → job_in t row.slot ≡ Some row
    by_found None e = absurd (no-found (λ (r : JobRecord). r.slot == row.slot) t.jobs row e here (eq-eqb row.slot row.slot refl))
    by_found (Some r) e =
        let at = find-Some (λ (x : JobRecord). x.slot == row.slot) t.jobs r e in
        e ∙ ap Some (stand.slots r row at.0 here (eqb-true r.slot row.slot at.1))

pub none-hold : (w : WorldSeen) → JobsStand w.table → SlotsWait w 16 → AreDrainsKept w.table w.drains → w.drains.jobs ≡ []
none-hold w stand waits kept = by_jobs w.drains.jobs refl kept.each
  where
    by_jobs : (jobs : List ℕ) → w.drains.jobs ≡ jobs → All (IsAskedJob w.table) jobs → w.drains.jobs ≡ []
    by_jobs [] is each = is
    by_jobs (job ∷ jobs) is each =
        let first = All-head (IsAskedJob w.table) job jobs each in
        let here = (find-Some (λ (r : JobRecord). r.number == job) w.table.jobs first.row first.there).0 in
        let slot = (stand.each first.row here).slot in
        let waiting : JobWaits (seen_state w) (Some first.row) = subst (JobWaits (seen_state w)) (in-slot w.table stand first.row here) (waits first.row.slot slot) in
        absurd (first.ends waiting.1)
