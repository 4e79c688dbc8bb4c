-- The job of a slot gets ready where its turn says so: it has room for the entry, and its target reads as its source then. A whole world is
-- whole then.
use Rattle.std.proofs.Common.{◌≡◌, ℕ, ◌≤◌, cond, Bool, refl, sym, ap, subst, arith}
use Rattle.blk_nodes.specs.Joined.{IsJoined}
use Rattle.flat_machine.proofs.Wired.{with_at}
use Rattle.job_turns.specs.declared.step.Step.TheVariants as step
use Rattle.job_works.specs.Works.{work_of}
use Rattle.qmp_rules.specs.Changes.{changed}
use Rattle.qmp_rules.specs.declared.change.Change.TheVariants.{ReadyJob}
use Rattle.qmp_rules.specs.declared.rows.JobRecord.{JobRecord}
use Rattle.world_parts.specs.Coherent.{IsWholeWorld, entries_owed}
use Rattle.world_parts.specs.Face.{WorldSeen}
use Rattle.world_parts.specs.Jobs.{HasCopiedAll, ReadiesJob, ReadsAsSource}
use Rattle.world_parts.specs.Progress.{with_job_entry}
use Rattle.world_parts.proofs.DrainsKept.{asked_ready, drains_stay}
use Rattle.world_goings.proofs.Ahead.{job_there}
use Rattle.world_goings.proofs.Readies.{ready_agrees}
use Rattle.world_goings.proofs.ReadyKept.{jobs_then, ready_bitmaps, ready_coherent, ready_kept}
use Rattle.world_jobs.specs.Ending.{IsBehindReady}
use Rattle.world_jobs.specs.Turning.{HasTurn, ReadiesInTurn}
use Rattle.world_jobs.specs.declared.turned.Turn.TheVariants.{GetReady}
use Rattle.world_jobs.proofs.EndReady.{owed_of}
use Rattle.world_jobs.proofs.EndTurns.{ready_mirror}
use Rattle.world_jobs.proofs.TurnSteps.{Says, here, own, slot_job, step_is, step_says}

module _ (w : WorldSeen) (slot : ℕ) (whole : IsWholeWorld w) (has : HasTurn w slot GetReady) where
  abbrev row : JobRecord
  row = has.row

  says : Says has.all_done row (own w slot GetReady whole has).work step.GetReady
  says =
      let work = (own w slot GetReady whole has).work in
      subst (Says has.all_done row work) (step_is w slot GetReady whole has) (step_says has.all_done row work)

  pub ready_room : 1 ≤ w.progress.aside
  ready_room =
      let owed = owed_of w.table.jobs row (here w slot GetReady has) in
      let two : entries_owed row ≡ 2 = ap (λ (b : Bool). cond b 1 2) says.2 in
      let room = whole.jobs.room in
      omega (arith, owed, two, room)

pub readies_in_turn : (w v : WorldSeen) (slot : ℕ) → IsWholeWorld w → IsJoined w.nodes → (has : HasTurn w slot GetReady) → IsBehindReady w v has.row
    → ReadiesInTurn w v slot
readies_in_turn w v slot whole joined has did =
    let row : JobRecord = has.row in
    let mine = own w slot GetReady whole has in
    let said = says w slot whole has in
    let at = here w slot GetReady has in
    record {
      has = has;
      readies = record {
        there = slot_job w slot GetReady whole has;
        can = said.1;
        yet = said.2;
        made = with_at HasCopiedAll (work_of w.works row.number) mine.work mine.there said.0.all;
        alike = λ o comes some.
            subst (λ (x : WorldSeen). ReadsAsSource x row) (sym did)
            (ready_agrees o w row mine.work comes whole joined some at (ready_mirror row row.kind (whole.jobs.lone row at).kind said.1) mine.there said.0.unmet said.0.all);
        kept = did;
      };
    }

pub ready_whole : (w v : WorldSeen) (row : JobRecord) → IsWholeWorld w → ReadiesJob w v row → IsWholeWorld v
ready_whole w v row whole did = subst IsWholeWorld (sym did.kept) (record {
  coherent = ready_coherent w.table row.number w.nodes w.opened w.progress (with_job_entry 1 _ w.progress) refl whole.coherent;
  tell = whole.tell;
  counted = whole.counted;
  bitmaps = ready_bitmaps w.table row.number w.bitmaps whole.bitmaps;
  jobs = ready_kept w.table w.works w.progress.aside row whole.jobs (job_there w.table row did.there) did.yet;
  drains =
      drains_stay w.table (changed w.table (ReadyJob row.number)) w.drains
      (asked_ready w.table (changed w.table (ReadyJob row.number)) row.number (jobs_then w.table row.number)) whole.drains;
})
