-- The parts of a world belong together behind the start of a backup or a mirror.
use Rattle.std.proofs.Common.{◌≡◌, ℕ, ◌≤◌, ◌+◌, ◌^◌, List, [], ◌∷◌, ◌++◌, Option, Some, None, refl, sym, ◌∙◌, ap, subst}
use Rattle.blk_bitmaps.specs.declared.row.Bitmap.{Bitmap}
use Rattle.blk_history.specs.declared.event.Event.{Event}
use Rattle.blk_nodes.specs.Joined.{IsJoined}
use Rattle.blk_nodes.specs.Nodes.{AreTold, DeviceSeen, Nodes}
use Rattle.block_jobs.specs.Work.{IsJobWork, JobWork}
use Rattle.flat_machine.specs.Bitmaps.{AreBitmapsOf}
use Rattle.flat_machine.specs.Comes.{job_line_of}
use Rattle.flat_machine.specs.Jobs.{granules_of, target_written}
use Rattle.flat_machine.specs.State.{Dirty, State}
use Rattle.flat_machine.proofs.BitmapUses.{begins_sound, dirtied_sound}
use Rattle.job_commands.specs.Begun.{CopyCmd, cmd_of, copy_job}
use Rattle.job_progress.specs.Beginning.{begun_by, work_begun}
use Rattle.job_tables.specs.Accepted.{IsMet, JobsAreDrawn}
use Rattle.job_tables.proofs.StartCommands.{accepted_met}
use Rattle.qmp_rules.specs.Answers.{command_edits, refusal_to, told_none}
use Rattle.qmp_rules.specs.Changes.{all_changed, busy_by}
use Rattle.qmp_rules.specs.Queries.{bytes_of_node}
use Rattle.qmp_rules.specs.Table.{RunTable, job_at}
use Rattle.qmp_rules.specs.declared.rows.JobRecord.{JobRecord}
use Rattle.qmp_rules.specs.declared.rows.UsedBitmap.{UsedBitmap}
use Rattle.world_goings.proofs.StartKept.{found_next, kept_by}
use Rattle.world_goings.proofs.StartWorld.{bitmaps_are, jobs_are, size_same, start_coherent, started_is}
use Rattle.world_jobs.specs.Beginning.{BegunJob, IsNewJob}
use Rattle.world_parts.specs.Coherent.{AreJobsKept, IsWholeWorld}
use Rattle.world_parts.specs.Face.{WorldSeen, seen_state}
use Rattle.world_parts.specs.Jobs.{PutsFilter, bitmaps_begun, filled_for, frozen_for}
use Rattle.world_parts.specs.Progress.{with_bare_entry, with_start}
use Rattle.world_parts.specs.Steps.{lifted, with_history}
use Rattle.world_parts.proofs.DrainsKept.{asked_pushed, drains_stay}
use Rattle.world_parts.proofs.DrawnEdges.{drawn_by_nodes}

-- the size of its work
begun_size : (row : JobRecord) (size : ℕ) (found : Option Dirty) → (begun_by row size found).size ≡ size
begun_size row size None = refl
begun_size row size (Some d) = refl

module _ (w : WorldSeen) (u : RunTable) (now : Nodes) (c : CopyCmd) (whole : IsWholeWorld w) (joined : IsJoined w.nodes)
    (none : refusal_to w.table told_none (cmd_of c) ≡ None) (table_is : u ≡ all_changed w.table (command_edits w.table told_none (cmd_of c)))
    (puts : PutsFilter u (copy_job w.table c) w.nodes now) (after : IsJoined now) (new : BegunJob) (is : IsNewJob u w.bitmaps (copy_job w.table c) new)
    (sound : IsJobWork new.work) (reply : Event) where
  abbrev row : JobRecord
  row = copy_job w.table c

  -- behind the reply
  abbrev then : WorldSeen
  then = lifted (with_history (record w { table = u; nodes = now }) (with_bare_entry reply))

  -- and behind the start
  abbrev last : WorldSeen
  last = record then {
    bitmaps = bitmaps_begun row then.bitmaps;
    works = then.works ++ work_begun (seen_state then) row ∷ [];
    progress = with_start row.number (job_line_of (seen_state then) (Some row)) then.progress;
  }

  met : IsMet w.table told_none (cmd_of c)
  met = (accepted_met w.table told_none (cmd_of c) none).1

  drawn : JobsAreDrawn w.table
  drawn =
      let edges = drawn_by_nodes w.table w.nodes whole.coherent.table.stands.apart whole.coherent.alike joined in
      record { jobs = record { stand = whole.jobs.stand; run = whole.jobs.run }; edges = edges.0; small = edges.1 }

  work_is : new.work ≡ work_begun (seen_state then) row
  work_is = is.work (seen_state then) refl refl

  size_is : bytes_of_node u row.source ≡ bytes_of_node w.table row.source
  size_is = size_same w u now told_none told_none c whole joined none table_is puts after

  small : bytes_of_node w.table row.source ≤ 2 ^ 47
  small =
      let own : new.work.size ≡ bytes_of_node w.table row.source
      = ap (λ (work : JobWork). work.size) work_is ∙ begun_size row (bytes_of_node u row.source) (granules_of (seen_state then) row row.bitmap) ∙ size_is in
      subst (λ (size : ℕ). size ≤ 2 ^ 47) own sound.size

  -- ---- its bitmaps

  frozen : (by : Option UsedBitmap) → AreBitmapsOf (busy_by row.number by row.source w.table.bitmaps) (frozen_for row by w.bitmaps)
  frozen None = whole.bitmaps
  frozen (Some used) = begins_sound w.table.bitmaps w.bitmaps row.source row.number used whole.bitmaps

  filled : (target : Option ℕ) (rows : List Bitmap) → AreBitmapsOf u.bitmaps rows → AreBitmapsOf u.bitmaps (filled_for target rows)
  filled None rows was = was
  filled (Some node) rows was = dirtied_sound u rows node was

  bitmaps_then : AreBitmapsOf u.bitmaps (bitmaps_begun row w.bitmaps)
  bitmaps_then =
      filled (target_written row) (frozen_for row row.bitmap w.bitmaps)
      (subst (λ rows. AreBitmapsOf rows (frozen_for row row.bitmap w.bitmaps)) (sym (bitmaps_are w u now told_none told_none c whole joined none table_is puts after))
      (frozen row.bitmap))

  -- ---- all of it

  pub start_found : job_at u (copy_job w.table c).number ≡ Some (copy_job w.table c)
  start_found =
      found_next w.table u told_none told_none c w.works w.progress.aside whole.jobs whole.coherent.table.stands drawn met table_is
      (jobs_are w u now told_none told_none c whole joined none table_is puts after) size_is small

  pub start_counted : u.started ≡ w.table.started + 1
  start_counted = started_is w u now told_none told_none c whole joined none table_is puts after

  jobs_kept : AreJobsKept u last.works (w.progress.aside + 2)
  jobs_kept =
      kept_by w.table u told_none told_none c w.works w.progress.aside whole.jobs whole.coherent.table.stands drawn met table_is
      (jobs_are w u now told_none told_none c whole joined none table_is puts after) size_is small whole.coherent.table (seen_state then) refl (subst IsJobWork work_is sound)

  pub start_whole : IsWholeWorld last
  start_whole =
      let coherent = start_coherent w u now told_none told_none c whole joined none table_is puts after in
      let devices : now.devices ≡ w.nodes.devices = ap (λ (n : Nodes). n.devices) puts.are in
      record {
        coherent = record {
          table = coherent.table;
          drives = coherent.drives;
          disks = coherent.disks;
          alike = coherent.alike;
          asks = coherent.asks;
          writable = coherent.writable;
          within = coherent.within;
          allowed = coherent.allowed;
          count = coherent.count;
          out = coherent.out;
        };
        tell = λ told. subst (λ (ds : List DeviceSeen). AreTold ds) (sym devices) (whole.tell told);
        counted = whole.counted;
        bitmaps = bitmaps_then;
        jobs = jobs_kept;
        drains = drains_stay w.table u last.drains (asked_pushed w.table u row (jobs_are w u now told_none told_none c whole joined none table_is puts after))
            (record { each = whole.drains.each; once = whole.drains.once });
      }
