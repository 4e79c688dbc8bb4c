-- A world still comes of its opening where a backup or a mirror begins behind the reply to its command.
use Rattle.std.proofs.Common.{◌≡◌, ℕ, ◌+◌, true, List, [], ◌∷◌, ◌++◌, map, refl, sym, ◌∙◌, ap, subst, arith, Option, Some, None, Ok}
use Rattle.std.proofs.lemmas.List.{append-nil, append_assoc}
use Rattle.std.proofs.lemmas.List.Elements.{filter_map-append}
use Rattle.blk_history.specs.declared.event.Event.{Event}
use Rattle.blk_history.specs.declared.event.Event.TheVariants.{Start}
use Rattle.block_jobs.specs.Work.{JobWork}
use Rattle.blk_nodes.specs.Contents.{Unfolds}
use Rattle.blk_nodes.specs.Joined.{IsJoined}
use Rattle.blk_nodes.specs.Nodes.{AreTold}
use Rattle.qmp_codec.specs.Lines.{command_at}
use Rattle.qmp_rules.specs.Answers.{command_edits, line_text}
use Rattle.qmp_rules.specs.Changes.{all_changed}
use Rattle.qmp_rules.specs.Table.{RunTable, job_at}
use Rattle.qmp_rules.specs.declared.change.Change.{Change}
use Rattle.qmp_rules.specs.declared.rows.JobRecord.{JobRecord}
use Rattle.flat_machine.specs.Bitmaps.{AreBitmapsOf, dirty_in}
use Rattle.flat_machine.specs.Comes.{job_line_of}
use Rattle.flat_machine.specs.Jobs.{started}
use Rattle.flat_machine.specs.Legal.{IsNotDone}
use Rattle.flat_machine.specs.Licence.{faults_of}
use Rattle.flat_machine.specs.Machine.{after}
use Rattle.flat_machine.specs.Recording.{dirty_after}
use Rattle.flat_machine.specs.Replies.{is_accepted}
use Rattle.flat_machine.specs.State.{Dirty, State}
use Rattle.flat_machine.specs.declared.opening.Opening.{Opening}
use Rattle.job_commands.specs.Begun.{CopyCmd, cmd_of, copy_job}
use Rattle.job_commands.specs.Granules.{GranulesStand}
use Rattle.job_commands.proofs.Granules.{command_granules, entry_granules}
use Rattle.job_entries.proofs.Noted.{started_table}
use Rattle.job_progress.specs.Beginning.{begun_by, work_begun}
use Rattle.world_parts.specs.Carrying.{IsReplied, reply_entry}
use Rattle.world_parts.specs.Coherent.{AreJobsKept, IsCoherent, IsWholeWorld}
use Rattle.world_parts.specs.Comes.{Comes}
use Rattle.world_parts.specs.Counting.{IsReachedBy}
use Rattle.world_parts.specs.Face.{WorldSeen, counts_now, dirty_of, first_counts, seen_state}
use Rattle.world_parts.specs.Jobs.{BeginsOne, bitmaps_begun}
use Rattle.world_parts.specs.Keeping.{AreRises, all_faults, faults_kept, rise_of}
use Rattle.world_parts.specs.Progress.{Progress, with_start}
use Rattle.world_parts.specs.Saying.{Given}
use Rattle.world_parts.specs.Tabling.{IsAnsweredBy, IsJobsBy, tabled}
use Rattle.world_parts.proofs.Coherence.{coherent-same}
use Rattle.world_parts.proofs.Pushing.{comes-push, rises-quiet}
use Rattle.world_parts.proofs.Rises.{rises-entry}
use Rattle.world_parts.proofs.SoundImages.{images-sound}
use Rattle.world_goings.specs.Begun.{CanCopyWhole}
use Rattle.world_goings.proofs.CopyStarts.{command_starts, edits_start, new_copy, one_command}
use Rattle.world_goings.proofs.StartKept as kept
use Rattle.world_goings.proofs.StartReply as reply
use Rattle.world_goings.proofs.StartShown as shown
use Rattle.world_goings.proofs.StartWorld as world

-- a work that begins has met nothing
met_none : (row : JobRecord) (size : ℕ) (found : Option Dirty) → (begun_by row size found).met ≡ None
met_none row size None = refl
met_none row size (Some d) = refl

kept_pushed : (works : List JobWork) (new : JobWork) → new.met ≡ None → faults_kept (works ++ new ∷ []) ≡ faults_kept works
kept_pushed works new none =
    filter_map-append (λ (work : JobWork). rise_of work.met) works (new ∷ [])
    ∙ rw none (append-nil (faults_kept works))

module _ (o : Opening) (w x v : WorldSeen) (line : Given) (c : CopyCmd) (good : command_at line.text ≡ Ok (cmd_of c)) (replied : IsReplied w x line)
    (begins : BeginsOne w.table x v) (whole : IsWholeWorld w) (joined : IsJoined w.nodes) (unfolds : Unfolds w.nodes) (joined_next : IsJoined x.nodes)
    (can : CanCopyWhole o w (copy_job w.table c)) (says : is_accepted (line_text w.table replied.told line.text) ≡ true) (not_done : IsNotDone (seen_state w) 0) where
  abbrev t : RunTable
  t = w.table

  abbrev h : List Event
  h = w.progress.log.events

  abbrev job : JobRecord
  job = copy_job w.table c

  abbrev e : Event
  e = reply_entry w replied.told line

  abbrev left : WorldSeen
  left = shown.left o w x line c good replied begins.started whole joined unfolds joined_next can says

  found : job_at x.table job.number ≡ Some job
  found = shown.found_next o w x line c good replied begins.started whole joined unfolds joined_next can says

  row_is : begins.row ≡ job
  row_is =
      let both : Some begins.row ≡ Some job = sym begins.begins.there ∙ ap (job_at x.table) (begins.number ∙ sym (new_copy t c).number) ∙ found in
      cc both

  left_is : v ≡ left
  left_is =
      begins.begins.kept
      ∙ ap
      (λ (row : JobRecord). record x {
        bitmaps = bitmaps_begun row x.bitmaps;
        works = x.works ++ work_begun (seen_state x) row ∷ [];
        progress = with_start row.number (job_line_of (seen_state x) (Some row)) x.progress;
      })
      row_is

  -- ---- the table

  answered : IsAnsweredBy w.progress.guests t (dirty_of w) line.text (line_text t replied.told line.text) x.table (dirty_of x)
  answered = record {
    calm = shown.calm_reply o w x line c good replied begins.started whole joined unfolds joined_next can says (tabled t (dirty_of w)) t w.progress.guests;
    told = replied.told;
    counts = replied.counts;
    says = refl;
    changes = replied.table;
    dirty = replied.dirty;
  }

  abbrev mid : State
  mid = tabled x.table (dirty_of x)

  after_start : after mid (Start job.number) ≡ started mid (Some job)
  after_start = ap (started mid) found

  bitmaps : AreBitmapsOf t.bitmaps x.bitmaps
  bitmaps = subst (AreBitmapsOf t.bitmaps) (sym (reply.bitmaps_same w x line c good replied begins.started)) whole.bitmaps

  begun : IsJobsBy w.progress.guests x.table (dirty_of x) (Start job.number) x.table (dirty_of left)
  begun = record {
    calm =
        shown.calm_start o w x line c good replied begins.started whole joined unfolds joined_next can says mid x.table w.progress.guests refl refl refl;
    table = sym (ap (λ (s : State). s.table) after_start ∙ started_table mid (Some job));
    dirty =
        kept.dirty_begun t x.table job x.bitmaps bitmaps
        (world.bitmaps_are w x.table x.nodes replied.told replied.told c whole joined
        (shown.none o w x line c good replied begins.started whole joined unfolds joined_next can says)
        (shown.table_is o w x line c good replied begins.started whole joined unfolds joined_next can says)
        (shown.puts o w x line c good replied begins.started whole joined unfolds joined_next can says) joined_next)
        mid refl refl
        ∙ sym (ap (λ (s : State). s.dirty) after_start ∙ kept.started_dirty mid job);
  }

  -- ---- its parts

  coherent_next : IsCoherent x.table x.nodes w.opened w.progress
  coherent_next =
      world.start_coherent w x.table x.nodes replied.told replied.told c whole joined
      (shown.none o w x line c good replied begins.started whole joined unfolds joined_next can says)
      (shown.table_is o w x line c good replied begins.started whole joined unfolds joined_next can says)
      (shown.puts o w x line c good replied begins.started whole joined unfolds joined_next can says) joined_next

  coherent : IsCoherent left.table left.nodes left.opened left.progress
  coherent =
      subst (λ opened. IsCoherent x.table x.nodes opened left.progress) (sym (reply.opened_same w x line c good replied begins.started))
      (coherent-same x.table x.nodes w.opened w.progress coherent_next left.progress (ap (λ (p : Progress). p.guests) replied.progress))

  jobs : AreJobsKept left.table left.works left.progress.aside
  jobs =
      subst (λ (works : List JobWork). AreJobsKept x.table (works ++ work_begun (seen_state x) job ∷ []) (x.progress.aside + 2)) (sym replied.works)
      (subst (λ (n : ℕ). AreJobsKept x.table (w.works ++ work_begun (seen_state x) job ∷ []) (n + 2)) (sym (ap (λ (p : Progress). p.aside) replied.progress))
      (kept.kept_next t x.table replied.told replied.told c w.works w.progress.aside whole.jobs whole.coherent.table.stands
      (shown.drawn o w x line c good replied begins.started whole joined unfolds joined_next can says)
      (shown.met o w x line c good replied begins.started whole joined unfolds joined_next can says)
      (shown.table_is o w x line c good replied begins.started whole joined unfolds joined_next can says)
      (shown.jobs_are o w x line c good replied begins.started whole joined unfolds joined_next can says)
      (shown.size_is o w x line c good replied begins.started whole joined unfolds joined_next can says) can.size whole.coherent.table (seen_state x) refl
      (subst (GranulesStand t) (ap (λ rows. map dirty_in rows) (sym (reply.bitmaps_same w x line c good replied begins.started))) can.granules)))

  granules_next : GranulesStand t (dirty_of w) → GranulesStand x.table (dirty_of x)
  granules_next was =
      subst (GranulesStand x.table) (sym (reply.dirty_is w x line c good replied begins.started))
      (subst (λ (u : RunTable). GranulesStand u (dirty_after t (dirty_of w) (command_edits t replied.told (cmd_of c))))
      (sym (shown.table_is o w x line c good replied begins.started whole joined unfolds joined_next can says))
      (subst (λ (cs : List Change). GranulesStand (all_changed t cs) (dirty_after t (dirty_of w) cs)) (edits_start t replied.told c ∙ sym (command_starts t replied.told c))
      (command_granules t (dirty_of w) replied.told replied.told (cmd_of c) whole.coherent.table whole.jobs.stand (one_command c)
      (shown.met o w x line c good replied begins.started whole joined unfolds joined_next can says) was)))

  granules : GranulesStand t (dirty_of w) → GranulesStand left.table (dirty_of left)
  granules was =
      let stand = (shown.drawn_next o w x line c good replied begins.started whole joined unfolds joined_next can says).jobs.stand in
      let behind = entry_granules mid (Start job.number) tt stand (granules_next was) in
      subst (GranulesStand x.table) (sym begun.dirty) (subst (λ (u : RunTable). GranulesStand u (after mid (Start job.number)).dirty) (sym begun.table) behind)

  faults : AreRises (first_counts w) (counts_now w) (all_faults h w.works)
      → AreRises (first_counts left) (counts_now left) (all_faults (h ++ e ∷ Start job.number ∷ []) left.works)
  faults was =
      subst (λ fs. AreRises (first_counts x) (counts_now x) (faults_of (h ++ e ∷ Start job.number ∷ []) ++ fs))
      (sym (kept_pushed x.works (work_begun (seen_state x) job) (met_none job _ _)))
      (subst (λ (works : List JobWork). AreRises (first_counts x) (counts_now x) (all_faults (h ++ e ∷ Start job.number ∷ []) works)) (sym replied.works)
      (subst (λ (past : List Event). AreRises (first_counts x) (counts_now x) (all_faults past w.works)) (append_assoc h (e ∷ []) (Start job.number ∷ []))
      (rises-quiet (first_counts x) (counts_now x) (h ++ e ∷ []) w.works (Start job.number) refl
      (rises-entry w x replied.runs h w.works e (subst (IsReachedBy w x) (sym (reply.quiet w x line c good replied begins.started)) tt) was))))

  devices : x.nodes.devices ≡ w.nodes.devices
  devices = ap (λ nodes. nodes.devices) (shown.puts o w x line c good replied begins.started whole joined unfolds joined_next can says).are

  pub starts_comes : Comes o w → Comes o v
  starts_comes comes = subst (Comes o) (sym left_is) (comes-push o w left (e ∷ Start job.number ∷ []) comes (record {
    events = ap (λ (p : Progress). p.log.events ++ Start job.number ∷ []) replied.progress ∙ append_assoc h (e ∷ []) (Start job.number ∷ []);
    names =
        world.names_kept w x.table x.nodes replied.told replied.told c whole joined
        (shown.none o w x line c good replied begins.started whole joined unfolds joined_next can says)
        (shown.table_is o w x line c good replied begins.started whole joined unfolds joined_next can says)
        (shown.puts o w x line c good replied begins.started whole joined unfolds joined_next can says) joined_next;
    told = replied.runs.told;
    guests = ap (λ (p : Progress). p.guests) replied.progress;
    table = (x.table, dirty_of x, answered, (x.table, dirty_of left, begun, (refl, refl)));
    counted = λ was. (let first = replied.runs.first in let now = replied.runs.store in omega (arith, first, now, was));
    granules = granules;
    coherent = λ was. coherent;
    jobs = λ was. jobs;
    kept = faults;
    sound = λ told. images-sound left joined_next coherent (subst AreTold (sym devices) (whole.tell (sym replied.runs.told ∙ told)));
    fits = λ told shows going.
        shown.start_fits o w x line c good replied begins.started whole joined unfolds joined_next can says told shows going not_done;
  }))
