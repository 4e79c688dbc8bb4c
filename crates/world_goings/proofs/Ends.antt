-- A world still comes of its opening where a backup or mirror ends.
use Rattle.std.proofs.Common.{◌≡◌, ℕ, true, List, [], ◌∷◌, ◌++◌, refl, sym, ◌∙◌, ap, subst, arith, Some, option_and_then}
use Rattle.std.specs.Prelude.{Contains, is_some}
use Rattle.std.proofs.lemmas.List.{append-nil}
use Rattle.std.proofs.lemmas.List.Elements.{filter_map-append}
use Rattle.blk_history.specs.declared.entry.JobEnd.{JobEnd}
use Rattle.blk_history.specs.declared.event.Event.{Event}
use Rattle.blk_history.specs.declared.event.Event.TheVariants.{End}
use Rattle.block_jobs.specs.Work.{JobWork}
use Rattle.blk_nodes.specs.Contents.{Unfolds, disk_of}
use Rattle.blk_nodes.specs.Joined.{IsJoined}
use Rattle.blk_nodes.specs.Nodes.{AreTold, DeviceSeen}
use Rattle.qmp_rules.specs.Changes.{all_changed}
use Rattle.qmp_rules.specs.Ends.{end_edits}
use Rattle.qmp_rules.specs.Table.{RunTable, job_at}
use Rattle.qmp_rules.specs.declared.rows.JobRecord.{JobRecord}
use Rattle.flat_machine.specs.Final.{bytes_named}
use Rattle.flat_machine.specs.Jobs.{changes_at_end, noted_end, outcome_of}
use Rattle.flat_machine.specs.Licence.{Counts}
use Rattle.flat_machine.specs.Machine.{after, replay}
use Rattle.flat_machine.specs.Marks.{AreCalm, end_marks}
use Rattle.flat_machine.specs.Opening.{start}
use Rattle.flat_machine.specs.Performing.{AllPerformed}
use Rattle.flat_machine.specs.Recording.{dirty_after}
use Rattle.flat_machine.specs.State.{Dirty, State}
use Rattle.flat_machine.specs.declared.opening.Opening.{Opening}
use Rattle.flat_machine.proofs.Recorded.{all_stepped-dirty}
use Rattle.flat_machine.proofs.Resting.{stepped_table}
use Rattle.job_ends.specs.Ended.{LosesFilter, MayEndSo}
use Rattle.job_ends.specs.Rows.{AreCopyRows}
use Rattle.job_ends.proofs.Ends.{writes}
use Rattle.job_ends.proofs.Held.{ended_held}
use Rattle.job_ends.proofs.Others.{others_ahead}
use Rattle.job_entries.proofs.Found.{ended_begun}
use Rattle.job_progress.specs.Belonging.{AreWorksOf, HasWork}
use Rattle.job_progress.specs.Going.{AreJobsAhead}
use Rattle.job_tables.specs.Copiers.{CopiesGo}
use Rattle.job_tables.specs.Jobs.{EdgesAreDrawn, JobsStand}
use Rattle.job_tables.specs.Running.{JobsRun}
use Rattle.job_tables.specs.TargetFiles.{TargetFilesStand}
use Rattle.job_commands.specs.Granules.{GranulesStand}
use Rattle.job_commands.proofs.Granules.{end_granules}
use Rattle.job_entries.specs.Found.{HasBegun}
use Rattle.job_tables.proofs.TargetEvents.{ended_files}
use Rattle.job_works.specs.Works.{work_of}
use Rattle.world_parts.specs.Coherent.{IsCoherent, IsLoneCopy, IsWholeWorld}
use Rattle.world_parts.specs.Comes.{Comes, ShowsState}
use Rattle.world_parts.specs.Counting.{seen_sources}
use Rattle.world_parts.specs.Face.{WorldSeen, contents_of, counts_now, counts_from, dirty_of, first_counts}
use Rattle.world_parts.specs.Jobs.{EndsJob, ReadsAsSource}
use Rattle.world_parts.specs.Keeping.{AreRises, ShowsJobs, all_faults}
use Rattle.world_parts.specs.Progress.{actor_done, ended_in}
use Rattle.world_parts.specs.Tabling.{tabled}
use Rattle.world_parts.proofs.Pushing.{FitsOn, comes-push}
use Rattle.world_parts.proofs.SoundImages.{images-sound}
use Rattle.world_goings.proofs.Alike.{target_alike}
use Rattle.world_goings.proofs.EndEdits.{pivot_done, pivot_mirror, pivots}
use Rattle.world_goings.proofs.EndEntry as entry
use Rattle.world_goings.proofs.EndFaults.{faults_at_end}
use Rattle.world_goings.proofs.EndWorld as behind

module _ (o : Opening) (w v : WorldSeen) (row : JobRecord) (why : JobEnd) (offset : ℕ) (whole : IsWholeWorld w) (joined : IsJoined w.nodes) (unfolds : Unfolds w.nodes)
    (did : EndsJob w v row why offset) (joined_now : IsJoined v.nodes) where
  abbrev t : RunTable
  t = w.table

  abbrev h : List Event
  h = w.progress.log.events

  abbrev s : State
  s = replay (start o) h

  abbrev e : Event
  e = End row.number why offset

  abbrev left : WorldSeen
  left = behind.left w v row why offset whole joined unfolds did

  here : Contains t.jobs row
  here = behind.here w v row why offset whole joined unfolds did

  drawn : EdgesAreDrawn t
  drawn = behind.drawn w v row why offset whole joined unfolds did

  has : HasWork t w.works row
  has = whole.jobs.belong.each row here

  found : (seen_sources w).met_by row.number ≡ has.work.met
  found = ap (option_and_then (λ (work : JobWork). work.met)) has.there

  lone : IsLoneCopy row
  lone = whole.jobs.lone row here

  -- ---- the table

  dirty_now : dirty_of left ≡ dirty_after t (dirty_of w) (end_edits t row (outcome_of why))
  dirty_now = behind.dirty_same w v row why offset whole joined unfolds did

  tabled_is : after (tabled t (dirty_of w)) e ≡ noted_end (tabled t (dirty_of w)) row why
  tabled_is = entry.after_end (tabled t (dirty_of w)) row why offset did.there lone.group

  table_now : left.table ≡ (after (tabled t (dirty_of w)) e).table
  table_now = sym (ap (λ (x : State). x.table) tabled_is ∙ stepped_table (changes_at_end (tabled t (dirty_of w)) row why) (tabled t (dirty_of w)))

  dirty_as : dirty_of left ≡ (after (tabled t (dirty_of w)) e).dirty
  dirty_as = dirty_now ∙ sym (ap (λ (x : State). x.dirty) tabled_is ∙ all_stepped-dirty (changes_at_end (tabled t (dirty_of w)) row why) (tabled t (dirty_of w)))

  -- ---- faults

  counts_same : counts_now left ≡ counts_now w
  counts_same = ap (λ (ds : List DeviceSeen). record { store = w.faults; devices = counts_from ds 0 w.opened }) did.pulls.devices

  kept : AreRises (first_counts w) (counts_now w) (all_faults h w.works) → AreRises (first_counts left) (counts_now left) (all_faults (h ++ e ∷ []) left.works)
  kept was =
      subst (λ (now : Counts). AreRises (first_counts w) now (all_faults (h ++ e ∷ []) left.works)) (sym counts_same)
      (faults_at_end (first_counts w) (counts_now w) h w.works row.number has.work has.there was (seen_sources w) found offset why did.met)

  -- ---- where the store tells its files

  module _ (told : is_some w.files ≡ true) (shows : ShowsState o s w) (going : ShowsJobs o h s w) where
    same : s.table ≡ t
    same = shows.table.table_is

    stand : JobsStand s.table
    stand = subst JobsStand (sym same) whole.jobs.stand

    run : JobsRun s.table
    run = subst JobsRun (sym same) whole.jobs.run

    goes : CopiesGo s.table
    goes = subst CopiesGo (sym same) whole.jobs.copies

    rows : AreCopyRows s.table.jobs
    rows = subst (λ (x : RunTable). AreCopyRows x.jobs) (sym same) whole.jobs.rows

    edges : EdgesAreDrawn s.table
    edges = subst EdgesAreDrawn (sym same) drawn

    there : Contains s.table.jobs row
    there = subst (λ (x : RunTable). Contains x.jobs row) (sym same) here

    at : job_at s.table row.number ≡ Some row
    at = ap (λ (x : RunTable). job_at x row.number) same ∙ did.there

    belong : AreWorksOf s.table w.works
    belong = subst (λ (x : RunTable). AreWorksOf x w.works) (sym same) whole.jobs.belong

    abbrev next : State
    next = noted_end s row why

    after_is : after s e ≡ next
    after_is = entry.after_end s row why offset at lone.group

    may : MayEndSo (start o) h s (disk_of w.nodes) row has.work why
    may =
        entry.ends_so (start o) h s (disk_of w.nodes) row has.work (work_of w.works row.number) why has.there did.made
        (λ done. going.ahead row has.work there (writes row.kind lone.kind) has.there (sym found ∙ entry.success_met (seen_sources w) row.number why done did.met))

    beside : entry.StaysBeside s next
    beside = entry.end_beside s row why offset at lone.group

    -- a mirror that pivots has made its copy
    reads : pivots (outcome_of why) row.kind ≡ true → ReadsAsSource w row
    reads is =
        let made = may (pivot_done (outcome_of why) row.kind is) in
        target_alike o w whole row here has.work (pivot_mirror (outcome_of why) row.kind is) shows made.ahead (record { left = made.none.left; rows = made.none.rows })

    loses : LosesFilter row (contents_of w) (contents_of left)
    loses = behind.loses w v row why offset whole joined unfolds did reads

    table_next : next.table ≡ left.table
    table_next = stepped_table (changes_at_end s row why) s ∙ ap (λ (x : RunTable). all_changed x (end_edits x row (outcome_of why))) same

    performed : AllPerformed s (changes_at_end s row why) (contents_of w) (contents_of left)
    performed =
        entry.end_performed (bytes_named o.files) (start o) s h row has.work why (contents_of w) (contents_of left) shows.stands stand run goes rows edges going.files
        shows.table.rest.started there lone.kind shows.contents may loses

    shown : ShowsState o next left
    shown = record {
      stands =
          entry.end_rests (bytes_named o.files) (start o) s h row has.work why (contents_of w) (contents_of left) shows.stands stand run goes rows edges going.files
          shows.table.rest.started there lone.kind shows.contents may loses;
      dirty =
          all_stepped-dirty (changes_at_end s row why) s
          ∙ ap (λ (x : RunTable). dirty_after x s.dirty (end_edits x row (outcome_of why))) same
          ∙ ap (λ (ds : List Dirty). dirty_after t ds (end_edits t row (outcome_of why))) shows.dirty ∙ sym dirty_now;
      table = record {
        room_is = beside.room ∙ shows.table.room_is;
        table_is = table_next;
        rest = record {
          started =
              beside.starts ∙ shows.table.rest.started ∙ ap (λ (x : RunTable). x.started) same
              ∙ sym (behind.started_same w v row why offset whole joined unfolds did) ∙ sym (ap (λ (x : RunTable). x.started) table_next);
          ended = entry.end_alone s row why offset at lone.group;
        };
      };
      guests = record {
        guests_are = beside.guests ∙ shows.guests.guests_are;
        ended_are = beside.ended ∙ shows.guests.ended_are ∙ sym (filter_map-append actor_done h (e ∷ []) ∙ append-nil (ended_in h));
      };
      contents =
          entry.end_agrees (bytes_named o.files) (start o) s h row has.work why (contents_of w) (contents_of left) shows.stands stand run goes rows edges going.files
          shows.table.rest.started there lone.kind shows.contents may loses;
      images =
          entry.end_images (bytes_named o.files) (start o) s h row has.work why (contents_of w) (contents_of left) shows.stands stand run goes rows edges going.files
          shows.table.rest.started there lone.kind shows.contents may loses shows.images;
    }

    has_begun : HasBegun s row
    has_begun = going.begun.begun row there (let below = run.numbers row there in let starts = shows.table.rest.started in omega (arith, below, starts))

    goes_on : ShowsJobs o (h ++ e ∷ []) next left
    goes_on = record {
      begun = ended_begun s row why stand there going.begun;
      files = subst TargetFilesStand after_is (ended_files s row.number why shows.stands.stands.table stand going.files);
      ahead =
          subst (λ (x : State). AreJobsAhead (start o) (h ++ e ∷ []) x (disk_of left.nodes) left.works) after_is
          (others_ahead (start o) s h row why offset (contents_of w) (contents_of left) w.works shows.stands.stands.table stand there belong performed going.ahead);
      unsure = ended_held s row why shows.stands.stands.table stand there going.unsure;
      whole =
          entry.end_whole (bytes_named o.files) (start o) s h row has.work why (contents_of w) (contents_of left) shows.stands stand run goes rows edges going.files
          shows.table.rest.started there lone.kind shows.contents may loses has_begun going.whole;
    }

    fits : FitsOn o h s w left (e ∷ [])
    fits = record {
      legal = (
        entry.end_fits s row why offset at lone.group w same shows.guests.guests_are shows.guests.ended_are shows.table.rest.started shows.table.rest.ended did.cause
            did.progress,
        tt,
      );
      marks = (
        entry.end_calm s row why offset at lone.group s.table s.guests
            (subst (λ (x : RunTable). AreCalm x s.guests (end_marks row row.kind why)) (sym same)
            (subst (λ guests. AreCalm t guests (end_marks row row.kind why)) (sym shows.guests.guests_are) did.calm)),
        tt,
      );
      shows = subst (λ (x : State). ShowsState o x left) (sym after_is) shown;
      going = subst (λ (x : State). ShowsJobs o (h ++ e ∷ []) x left) (sym after_is) goes_on;
      names = sym (append-nil w.progress.jobs);
    }

  -- ---- all of it

  coherent : IsCoherent left.table left.nodes left.opened left.progress
  coherent = behind.coherent w v row why offset whole joined unfolds did

  pub ends_comes : Comes o w → Comes o v
  ends_comes comes = subst (Comes o) (sym did.kept) (comes-push o w left (e ∷ []) comes (record {
    events = refl;
    names = behind.guests_same w v row why offset whole joined unfolds did;
    told = refl;
    guests = refl;
    table = (
      left.table,
      dirty_of left,
      record {
        calm = entry.end_calm (tabled t (dirty_of w)) row why offset did.there lone.group t w.progress.guests did.calm;
        table = table_now;
        dirty = dirty_as;
      },
      (refl, refl),
    );
    granules = λ was. subst (GranulesStand left.table) (sym dirty_now) (end_granules t (dirty_of w) row (outcome_of why) whole.jobs.stand here was);
    counted = λ least. least;
    coherent = λ was. coherent;
    jobs = λ was. behind.jobs w v row why offset whole joined unfolds did;
    kept = kept;
    sound = λ told. images-sound left joined_now coherent (subst AreTold (sym did.pulls.devices) (whole.tell told));
    fits = fits;
  }))
