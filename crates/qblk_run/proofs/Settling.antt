-- The front of a buffer is what a block that was read needs to be written.
use Rattle.std.proofs.Common.{◌≡◌, ◌≤◌, ℕ, ◌==◌, Bool, List, length, take, sym, ◌∙◌, ap, subst, Some}
use Rattle.std.proofs.lemmas.Bool.{eqb-true}
use Rattle.std.proofs.lemmas.List.{length-take-le}
use Rattle.blk_copy.specs.declared.transfers.Transfer.{Transfer}
use Rattle.blk_graph.proofs.Members.{find-Some}
use Rattle.block_jobs.specs.Work.{JobWork}
use Rattle.flat_machine.specs.declared.opening.Opening.{Opening}
use Rattle.job_works.specs.Works.{work_of}
use Rattle.node_copies.specs.Sectors.{block_of}
use Rattle.qmp_rules.specs.Table.{job_at}
use Rattle.qmp_rules.specs.declared.rows.JobRecord.{JobRecord}
use Rattle.world_goings.specs.Copied.{WasRead}
use Rattle.world_jobs.specs.Copying.{fits_copy}
use Rattle.world_parts.specs.Comes.{Comes}
use Rattle.world_parts.specs.Face.{WorldSeen}
use Rattle.qblk_run.specs.Slots.{HoldsTaken, SettlesFor, front_of}

module _ (w : WorldSeen) (t : Transfer) (bytes : List ℕ) (len : ℕ)
    (len_is : (work : JobWork) → work_of w.works t.job ≡ Some work → len ≡ (block_of work.size t.cluster).len) where
  pub settle_whole : len ≤ 65536 → length bytes ≡ 65536 → fits_copy w.works t (take len bytes)
  settle_whole most room work at flies =
      length-take-le len bytes (subst (λ (n : ℕ). len ≤ n) (sym room) most) ∙ len_is work at

  pub settle_read : HoldsTaken w t bytes → (o : Opening) (row : JobRecord) → Comes o w → job_at w.table t.job ≡ Some row → WasRead o w row t (take len bytes)
  settle_read holds o row comes at told work there flies =
      let number : row.number ≡ t.job = eqb-true row.number t.job (find-Some (λ (r : JobRecord). r.number == t.job) w.table.jobs row at).1 in
      let own : work_of w.works t.job ≡ Some work = ap (work_of w.works) (sym number) ∙ there in
      ap (λ (n : ℕ). take n bytes) (len_is work own) ∙ holds o row work comes at own told work there flies

  pub settle_front : (work : JobWork) → work_of w.works t.job ≡ Some work → take len bytes ≡ front_of work t bytes
  settle_front work at = ap (λ (n : ℕ). take n bytes) (len_is work at)

-- what is written is what was read
pub settled_read : (w v : WorldSeen) (t : Transfer) (bytes : List ℕ) (answer : Bool) (did : SettlesFor w v t bytes answer) → HoldsTaken w t bytes → (o : Opening) → Comes o w
    → WasRead o w did.row t did.block
settled_read w v t bytes answer did holds o comes told work there flies =
    let number : did.row.number ≡ t.job = eqb-true did.row.number t.job (find-Some (λ (r : JobRecord). r.number == t.job) w.table.jobs did.row did.there).1 in
    let own : work_of w.works t.job ≡ Some work = ap (work_of w.works) (sym number) ∙ there in
    did.front work own ∙ holds o did.row work comes did.there own told work there flies
