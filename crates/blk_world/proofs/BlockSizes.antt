-- How long the disk is that a block is copied of.
use Rattle.std.proofs.Common.{◌≡◌, ℕ, sym, ◌∙◌, ap, Some}
use Rattle.std.specs.Prelude.{option_map}
use Rattle.blk_nodes.specs.Joined.{IsJoined}
use Rattle.blk_nodes.specs.Nodes.{node_size}
use Rattle.block_jobs.specs.Work.{JobWork}
use Rattle.job_ends.proofs.Others.{at_number}
use Rattle.job_progress.specs.Belonging.{IsOfJob}
use Rattle.job_progress.proofs.Belong.{found_there}
use Rattle.job_works.specs.Works.{work_of}
use Rattle.job_works.proofs.Changed.{job_found}
use Rattle.qmp_rules.specs.Table.{job_at}
use Rattle.qmp_rules.specs.declared.rows.JobRecord.{JobRecord}
use Rattle.world_parts.specs.Coherent.{IsWholeWorld}
use Rattle.world_parts.specs.Face.{WorldSeen}
use Rattle.world_jobs.specs.Guarding.{HasWorkOver}
use Rattle.world_copies.proofs.JobSteps.{room_to_copy}

-- a work has its job, of which the source is as long
pub source_sized : (w : WorldSeen) → IsWholeWorld w → IsJoined w.nodes → (job : ℕ) (work : JobWork) → work_of w.works job ≡ Some work
    → option_map (λ (row : JobRecord). node_size w.nodes row.source) (job_at w.table job) ≡ Some work.size
source_sized w whole joined job work at =
    let own : IsOfJob w.table work = whole.jobs.belong.owned work (found_there w.works job work at) in
    let number : own.row.number ≡ job = own.number ∙ job_found w.works job work at in
    let there : job_at w.table job ≡ Some own.row = ap (job_at w.table) (sym number) ∙ at_number w.table whole.jobs.stand own.row own.there in
    let has : HasWorkOver w.nodes w.works own.row = (room_to_copy w whole joined own.row own.there).has in
    let both : Some has.work ≡ Some work = sym has.there ∙ ap (work_of w.works) number ∙ at in
    let same : has.work ≡ work = cc both in
    ap (option_map (λ (row : JobRecord). node_size w.nodes row.source)) there
    ∙ ap (λ (n : ℕ). Some n) (has.source ∙ ap (λ (x : JobWork). x.size) same)
