-- A world still comes of its opening where a block that was read for a job is written.
use Rattle.std.proofs.Common.{◌≡◌, ℕ, ◌-◌, ◌*◌, ◌/◌, ◌<◌, Bool, true, false, List, take, refl, sym, ◌∙◌, ap, subst, arith, Some, None}
use Rattle.std.specs.Prelude.{Result, Ok, Err, is_some, slice_index}
use Rattle.std.proofs.lemmas.List.{get_or-take}
use Rattle.blk_base.specs.Pieces.{block_size}
use Rattle.blk_base.specs.declared.fault.Fault.{Fault}
use Rattle.blk_copy.specs.Rows.{is_in_flight}
use Rattle.blk_copy.specs.declared.transfers.Transfer.{Transfer}
use Rattle.blk_history.specs.declared.event.Event.{Event}
use Rattle.block_jobs.specs.Ahead.{IsAhead, is_owed}
use Rattle.block_jobs.specs.Work.{JobWork, after_settle, block_at}
use Rattle.blk_nodes.specs.Contents.{disk_of}
use Rattle.blk_nodes.specs.Joined.{IsJoined}
use Rattle.job_copies.specs.Settling.{HoldsGoal, Settles, after_write}
use Rattle.job_progress.specs.Going.{IsJobAhead, taken_bytes}
use Rattle.job_progress.proofs.Copies.{settled_goes}
use Rattle.job_works.specs.Steps.{Settled}
use Rattle.node_copies.specs.Putting.{answer_of}
use Rattle.node_copies.specs.Sectors.{block_of}
use Rattle.qmp_codec.specs.declared.event.JobKind.{JobKind}
use Rattle.qmp_codec.specs.declared.event.JobKind.TheVariants.{Stream, Commit, Mirror, Backup}
use Rattle.qmp_rules.specs.declared.rows.JobRecord.{JobRecord}
use Rattle.flat_machine.specs.EventLicence.{Settle}
use Rattle.flat_machine.specs.Machine.{replay}
use Rattle.flat_machine.specs.Opening.{start}
use Rattle.flat_machine.specs.State.{State}
use Rattle.flat_machine.specs.declared.opening.Opening.{Opening}
use Rattle.world_parts.specs.Coherent.{IsWholeWorld}
use Rattle.world_parts.specs.Comes.{Comes}
use Rattle.world_parts.specs.Face.{WorldSeen}
use Rattle.world_parts.specs.Jobs.{CopyPasses, SettlesBlock}
use Rattle.world_goings.specs.Copied.{LeavesFiles, WasRead}
use Rattle.world_goings.proofs.Ahead.{failed_not, job_there, reads_on}
use Rattle.world_goings.proofs.RunsPut.{files_put, files_same}
use Rattle.world_goings.proofs.Stepped.{sound_was}
use Rattle.world_goings.proofs.WorkSteps.{settled_still}
use Rattle.world_goings.proofs.Writes.{writes_comes}

-- what has all of a block's part of the disk has what the block has there
holds_read : (kind : JobKind) (work : JobWork) (block : ℕ) (due : ℕ → Bool) (goal read bytes : List ℕ) → bytes ≡ take (block_of work.size block).len read
    → HoldsGoal kind work block due goal read → HoldsGoal kind work block due goal bytes
holds_read kind work block due goal read bytes is holds place inside at good due_is =
    ap (λ xs. slice_index xs (place - block * block_size)) is
    ∙ get_or-take (block_of work.size block).len read (place - block * block_size) 0 (within place inside at)
    ∙ holds place inside at good due_is
  where
    within : (p : ℕ) → p < work.size → block_at p ≡ block → p - block * 65536 < (block_of work.size block).len
    within p less own =
        let in_block : p / 65536 ≡ block = own in
        omega arith

module _ (o : Opening) (w v : WorldSeen) (row : JobRecord) (target : ℕ) (t : Transfer) (bytes : List ℕ) (answer : Bool) (whole : IsWholeWorld w)
    (joined : IsJoined w.nodes) (did : SettlesBlock w v row target t bytes answer) where
  abbrev h : List Event
  h = w.progress.log.events

  abbrev s : State
  s = replay (start o) h

  abbrev was : JobWork
  was = did.settles.was

  abbrev now : JobWork
  now = did.settles.now

  abbrev Does : JobWork → JobWork → Type 0
  Does = Settled row.kind w.nodes v.nodes target t bytes answer

  files : (told : Bool) → Settles row.kind w.nodes v.nodes was now target t bytes told → LeavesFiles w.nodes v.nodes target
  files true wrote = files_put _ _ target bytes w.nodes v.nodes wrote.wrote joined.once wrote.puts
  files false late = files_same w.nodes v.nodes target late.1

  -- ---- how far it is

  met_same : (k : JobKind) → (after_settle k t.cluster was).met ≡ was.met
  met_same Mirror = refl
  met_same Backup = refl
  met_same Stream = refl
  met_same Commit = refl

  module _ (read : WasRead o w row t bytes) (told : is_some w.files ≡ true) where
    went : is_in_flight t was.rows ≡ true → now.met ≡ None → (wrote : Result (Unit {0}) Fault) → now ≡ after_write wrote row.kind t.cluster was
        → (was.met ≡ None) × (IsJobAhead (start o) h s (disk_of w.nodes) row was → IsJobAhead (start o) h s (disk_of v.nodes) row now)
    went flies none (Err fault) is = failed_not was fault now is none
    went flies none (Ok done) is = (
      sym (met_same row.kind) ∙ ap (λ (x : JobWork). x.met) (sym is) ∙ none,
      λ ahead.
          subst (IsJobAhead (start o) h s (disk_of v.nodes) row) (sym is)
          (settled_goes (start o) s h (disk_of w.nodes) (disk_of v.nodes) row was t (sound_was w v _ _ row did.copies Does did.settles whole.jobs.belong) flies ahead
          (λ other due source goal at holds far.
          let both : Some target ≡ Some other = sym did.target_is ∙ at in
          let same : target ≡ other = cc both in
          subst (λ n. IsAhead due (is_owed row.kind (after_settle row.kind t.cluster was)) source goal (disk_of v.nodes n)) same
          (subst (λ (x : JobWork). IsAhead due (is_owed row.kind x) source goal (disk_of v.nodes target)) is
          (did.settles.done.ahead (whole.tell told) none due source goal
          (holds_read row.kind was t.cluster due goal (taken_bytes (start o) h row t) bytes (read told was did.settles.there flies) holds)
          (subst (λ n. IsAhead due (is_owed row.kind was) source goal (disk_of w.nodes n)) (sym same) far))))
          (whole.jobs.lone row (job_there w.table row did.copies.there)).kind),
    )

    step : (a : Bool) → Settles row.kind w.nodes v.nodes was now target t bytes a → now.met ≡ None
        → (was.met ≡ None) × (IsJobAhead (start o) h s (disk_of w.nodes) row was → IsJobAhead (start o) h s (disk_of v.nodes) row now)
    step true wrote none = went wrote.flies none (answer_of wrote.wrote) wrote.work
    step false late none = (
      ap (λ (x : JobWork). x.met) (sym late.2) ∙ none,
      λ ahead.
          subst (IsJobAhead (start o) h s (disk_of v.nodes) row) (sym late.2)
          (reads_on (start o) s h (disk_of w.nodes) (disk_of v.nodes) row was (λ other is. ap (λ n. disk_of n other) late.1) ahead),
    )

  pub settles_comes : WasRead o w row t bytes → Comes o w → Comes o v
  settles_comes read =
      writes_comes o w v (Settle row.number) (CopyPasses w.nodes target) row target whole joined did.copies did.writes did.target_is (files answer did.settles.done.settles)
      Does did.settles
      (settled_still w.nodes v.nodes was now (sound_was w v _ _ row did.copies Does did.settles whole.jobs.belong) row.kind target t bytes answer did.settles.done.settles)
      (λ told shows none. step read told answer did.settles.done.settles none)
