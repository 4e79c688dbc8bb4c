-- Blocks that are read and written in the turns of a world's jobs, as the calls leave them.
use Rattle.std.proofs.Common.{◌≡◌, ℕ, Bool, false, List, length, refl, sym, subst, Option, Some, None}
use Rattle.std.specs.Prelude.{◌==◌, Contains, Result}
use Rattle.blk_base.specs.declared.fault.Fault.{Fault}
use Rattle.blk_copy.specs.declared.transfers.Transfer.{Transfer}
use Rattle.blk_graph.proofs.Members.{find-Some}
use Rattle.block_jobs.specs.Work.{JobWork}
use Rattle.blk_nodes.specs.Contents.{disk_of}
use Rattle.blk_nodes.specs.Joined.{IsJoined}
use Rattle.blk_nodes.specs.Nodes.{AreTold, Nodes}
use Rattle.flat_machine.specs.declared.opening.Opening.{Opening}
use Rattle.job_works.specs.Steps.{Settled, Taken}
use Rattle.job_works.specs.Works.{ChangesWork, work_of}
use Rattle.qmp_rules.specs.Table.{RunTable, job_at, job_in}
use Rattle.qmp_rules.specs.declared.rows.JobRecord.{JobRecord}
use Rattle.world_copies.proofs.JobSteps.{step_of}
use Rattle.world_copies.proofs.Steps.{settles_block, takes_block}
use Rattle.world_goings.specs.Copied.{FailedAreDone, HasSmallFault, LeavesFiles, WasRead}
use Rattle.world_goings.proofs.Settles.{settles_comes}
use Rattle.world_goings.proofs.Takes.{takes_comes}
use Rattle.world_jobs.specs.Copies.{IsSettled, IsTaken, IsToldOf}
use Rattle.world_jobs.specs.Copying.{SettlesFor}
use Rattle.world_parts.specs.Coherent.{IsWholeWorld}
use Rattle.world_parts.specs.Comes.{Comes}
use Rattle.world_parts.specs.Face.{WorldSeen}
use Rattle.world_parts.specs.Jobs.{SettlesBlock, TakesBlock}

-- ---- a step of a job that is there

module _ (w : WorldSeen) (whole : IsWholeWorld w) (joined : IsJoined w.nodes) (failed : FailedAreDone w.works) (row : JobRecord) (here : Contains w.table.jobs row)
    (nodes : Nodes) (works : List JobWork) (joined_then : IsJoined nodes) (told : AreTold w.nodes.devices → AreTold nodes.devices)
    (small : (work : JobWork) → work_of works row.number ≡ Some work → HasSmallFault work) where
  abbrev v : WorldSeen
  v = record w { nodes = nodes; works = works }

  pub took : (buffer : List ℕ) (answer : Result (Option Transfer) Fault)
      → ChangesWork row.number (Taken row.kind w.nodes nodes row.source (length w.progress.log.events) buffer answer) w.works works
      → ((other : ℕ) → disk_of nodes other ≡ disk_of w.nodes other) → TakesBlock w v row buffer answer
  took buffer answer changes disks =
      takes_block w v row buffer answer whole
      (step_of w whole joined row here nodes works (Taken row.kind w.nodes nodes row.source (length w.progress.log.events) buffer answer) joined_then told changes failed small)
      disks

  pub settled : (t : Transfer) (bytes : List ℕ) (answer : Bool) (did : SettlesFor row w.nodes nodes t bytes answer w.works works)
      → SettlesBlock w v row did.target t bytes answer × LeavesFiles w.nodes nodes did.target
  settled t bytes answer did =
      settles_block w v row did.target t bytes answer whole
      (step_of w whole joined row here nodes works (Settled row.kind w.nodes nodes did.target t bytes answer) joined_then told did.settles failed small)
      did.target_is did.writes

-- ---- in a slot, and by its number

pub job_here : (t : RunTable) (job : ℕ) (row : JobRecord) → job_at t job ≡ Some row → Contains t.jobs row
job_here t job row there = (find-Some (λ (r : JobRecord). r.number == job) t.jobs row there).0

pub taken_in : (w v : WorldSeen) (slot : ℕ) (row : JobRecord) (buffer : List ℕ) (answer : Result (Option Transfer) Fault) (told : Option Transfer)
    → job_in w.table slot ≡ Some row → TakesBlock w v row buffer answer → IsToldOf answer told → IsTaken (job_in w.table slot) w v buffer told
taken_in w v slot row buffer answer told there did is =
    subst (λ (found : Option JobRecord). IsTaken found w v buffer told) (sym there) (record { answer = answer; takes = did; told_is = is })

pub none_taken : (w : WorldSeen) (slot : ℕ) (buffer : List ℕ) (told : Option Transfer) → job_in w.table slot ≡ None → told ≡ None → IsTaken (job_in w.table slot) w w buffer told
none_taken w slot buffer told none is = subst (λ (found : Option JobRecord). IsTaken found w w buffer told) (sym none) (is, refl)

pub settled_at : (w v : WorldSeen) (job : ℕ) (row : JobRecord) (target : ℕ) (t : Transfer) (bytes : List ℕ) (answer : Bool)
    → job_at w.table job ≡ Some row → SettlesBlock w v row target t bytes answer → IsSettled (job_at w.table job) w v t bytes answer
settled_at w v job row target t bytes answer there did =
    subst (λ (found : Option JobRecord). IsSettled found w v t bytes answer) (sym there) (record { target = target; settles = did })

pub none_settled : (w : WorldSeen) (job : ℕ) (t : Transfer) (bytes : List ℕ) → job_at w.table job ≡ None → IsSettled (job_at w.table job) w w t bytes false
none_settled w job t bytes none = subst (λ (found : Option JobRecord). IsSettled found w w t bytes false) (sym none) (refl, refl)

-- ---- the world still comes of its opening

pub taken_comes : (found : Option JobRecord) (w v : WorldSeen) (buffer : List ℕ) (told : Option Transfer) → IsTaken found w v buffer told → IsWholeWorld w
    → (o : Opening) → Comes o w → Comes o v
taken_comes None w v buffer told did whole o comes = subst (Comes o) (sym did.1) comes
taken_comes (Some row) w v buffer told did whole o comes = takes_comes o w v row buffer did.answer whole did.takes comes

pub settled_comes : (found : Option JobRecord) (w v : WorldSeen) (t : Transfer) (bytes : List ℕ) (answer : Bool) → job_at w.table t.job ≡ found
    → IsSettled found w v t bytes answer → IsWholeWorld w → IsJoined w.nodes
    → ((o : Opening) (row : JobRecord) → Comes o w → job_at w.table t.job ≡ Some row → WasRead o w row t bytes) → (o : Opening) → Comes o w → Comes o v
settled_comes None w v t bytes answer there did whole joined read o comes = subst (Comes o) (sym did.1) comes
settled_comes (Some row) w v t bytes answer there did whole joined read o comes =
    settles_comes o w v row did.target t bytes answer whole joined did.settles (read o row comes there) comes
