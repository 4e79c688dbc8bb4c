-- Want of memory leaves a world that comes of the same opening.
use Rattle.std.proofs.Common.{◌≡◌, true, List, [], map, refl, sym, ◌∙◌, ap, subst, arith}
use Rattle.blk_bitmaps.specs.declared.row.Bitmap.{Bitmap}
use Rattle.flat_machine.specs.Bitmaps.{dirty_in}
use Rattle.std.specs.Prelude.{OnErr, Result, Ok, Err, is_some}
use Rattle.std.proofs.lemmas.List.Elements.{All-weaker}
use Rattle.blk_nodes.specs.Contents.{disk_of}
use Rattle.block_jobs.specs.Ahead.{IsAhead, is_owed}
use Rattle.block_jobs.specs.Work.{JobWork}
use Rattle.job_commands.specs.Granules.{GranulesStand}
use Rattle.job_progress.specs.Going.{AreJobsAhead, goal_of, is_due}
use Rattle.blk_history.specs.declared.event.Event.{Event}
use Rattle.qmp_codec.specs.Commands.{Cmd}
use Rattle.qmp_codec.specs.Lines.{Stop}
use Rattle.qmp_rules.specs.Table.{RunTable}
use Rattle.flat_machine.specs.State.{State, bytes_at_node}
use Rattle.flat_machine.specs.Machine.{replay}
use Rattle.flat_machine.specs.Opening.{start}
use Rattle.flat_machine.specs.Comes.{IsHistoryOf, guests_after, jobs_from}
use Rattle.flat_machine.specs.Final.{bytes_named}
use Rattle.flat_machine.specs.Imaging.{ImagesAreSound}
use Rattle.flat_machine.specs.Licence.{AreLicensed, IsBetweenCounts, faults_of}
use Rattle.flat_machine.specs.declared.opening.Opening.{Opening}
use Rattle.flat_machine.proofs.Kept.{changes_keep}
use Rattle.flat_machine.proofs.ImagesChanged.{all_images_keep}
use Rattle.flat_machine.proofs.ImagesKept.{sound_same}
use Rattle.world_parts.specs.Progress.{Progress, ended_in}
use Rattle.world_parts.specs.Face.{WorldSeen, first_counts, counts_now, contents_of, dirty_of, held}
use Rattle.world_parts.specs.Comes.{Comes, ShowsState}
use Rattle.world_parts.specs.Coherent.{AreJobsKept}
use Rattle.world_parts.specs.Keeping.{AreRises, ShowsJobs, all_faults}
use Rattle.world_parts.specs.Tabling.{IsTableAfter}
use Rattle.world_parts.specs.Carrying.{IsPutBack, IsPutBackBy, IsPutBackIn}
use Rattle.world_additions.proofs.AddQuiet.{quiet-called}
use Rattle.world_parts.proofs.CountLemmas.{between-on}
use Rattle.world_parts.proofs.Rises.{rises-on}
use Rattle.world_parts.proofs.Placed.{put_back, put_back_by, put_back_in}

module _ (w v : WorldSeen) (is : IsPutBack w v) (o : Opening) (comes : Comes o w) where
  still-shows : is_some w.files ≡ true → (s : State) → ShowsState o s w → ShowsState o s v
  still-shows told s shows =
      let now = changes_keep (bytes_named o.files) [] s (contents_of w) (contents_of v) tt (quiet-called w v is.files is.table is.called) shows.contents in
      record {
        stands = shows.stands;
        dirty = shows.dirty ∙ sym (ap (map dirty_in) is.bitmaps);
        table = record {
          room_is = shows.table.room_is ∙ sym is.runs.room;
          table_is = shows.table.table_is ∙ sym is.table;
          rest = shows.table.rest;
        };
        guests = record {
          guests_are = shows.guests.guests_are ∙ ap (λ (p : Progress). p.guests) (sym is.progress);
          ended_are = shows.guests.ended_are ∙ ap (λ (p : Progress). ended_in p.log.events) (sym is.progress);
        };
        contents = now;
        images = all_images_keep (bytes_named o.files) [] s (contents_of w) (contents_of v) tt tt tt shows.stands.stands shows.contents
            (quiet-called w v is.files is.table is.called) shows.images;
      }

  same-events : v.progress.log.events ≡ w.progress.log.events
  same-events = ap (λ (p : Progress). p.log.events) is.progress

  still-licensed : AreLicensed (first_counts v) (counts_now v) w.progress.log.events
  still-licensed = record {
    rises = All-weaker (IsBetweenCounts (first_counts w) (counts_now w)) (IsBetweenCounts (first_counts v) (counts_now v)) (between-on w v is.runs) (faults_of w.progress.log.events) comes.history.licensed.rises;
    once = comes.history.licensed.once;
  }

  still-sound : is_some v.files ≡ true → ImagesAreSound v.table (held v)
  still-sound told =
      let quiet = quiet-called w v is.files is.table is.called in
      sound_same w.table v.table (held w) (held v) is.table (λ name. quiet.files name (λ never. never)) (comes.sound (sym is.runs.told ∙ told))

  -- devices were called, and nodes read as before
  still-ahead : (first : State) (h : List Event) (s : State) (works : List JobWork) → AreJobsAhead first h s (disk_of w.nodes) works
      → AreJobsAhead first h s (disk_of v.nodes) works
  still-ahead first h s works ahead row work there copies has met =
      let was = ahead row work there copies has met in
      record {
        begun = was.begun;
        found_disks = was.found_disks;
        target = was.target;
        is_target = was.is_target;
        ahead =
            subst (IsAhead (is_due row was.begun) (is_owed row.kind work) (bytes_at_node s row.source) (goal_of s row))
            (sym (is.called.disks was.target)) was.ahead;
        copies = was.copies;
        whole = was.whole;
        at_once = was.at_once;
      }

  pub put_back_comes : Comes o v
  put_back_comes = record {
    history = record {
      guests_are = ap (λ (t : RunTable). t.guests) is.table ∙ comes.history.guests_are;
      licensed = subst (λ (es : List Event). AreLicensed (first_counts v) (counts_now v) es) (sym same-events) still-licensed;
      history = λ told. subst (λ (es : List Event). IsHistoryOf o es) (sym same-events) (comes.history.history (sym is.runs.told ∙ told));
    };
    counted = let was = comes.counted in let first = is.runs.first in let now = is.runs.store in omega arith;
    requests = ap (λ (p : Progress). p.guests) is.progress ∙ comes.requests ∙ ap (guests_after o) (sym same-events);
    table =
        subst (λ (t : RunTable). IsTableAfter o.guests v.progress.log.events t (dirty_of v)) (sym is.table)
        (subst (λ (bitmaps : List Bitmap). IsTableAfter o.guests v.progress.log.events w.table (map dirty_in bitmaps)) (sym is.bitmaps)
        (subst (λ (es : List Event). IsTableAfter o.guests es w.table (dirty_of w)) (sym same-events) comes.table));
    granules =
        subst (λ (t : RunTable). GranulesStand t (dirty_of v)) (sym is.table)
        (subst (λ (bitmaps : List Bitmap). GranulesStand w.table (map dirty_in bitmaps)) (sym is.bitmaps) comes.granules);
    coherent = is.coherent comes.coherent;
    shows = λ told.
        let was = sym is.runs.told ∙ told in
        subst (λ (es : List Event). ShowsState o (replay (start o) es) v) (sym same-events) (still-shows was (replay (start o) w.progress.log.events) (comes.shows was));
    sound = still-sound;
    jobs =
        subst (λ (t : RunTable). AreJobsKept t v.works v.progress.aside) (sym is.table)
        (subst (λ (works : List JobWork). AreJobsKept w.table works v.progress.aside) (sym is.works)
        (subst (λ (p : Progress). AreJobsKept w.table w.works p.aside) (sym is.progress) comes.jobs));
    kept =
        subst (λ (works : List JobWork). AreRises (first_counts v) (counts_now v) (all_faults v.progress.log.events works)) (sym is.works)
        (subst (λ (es : List Event). AreRises (first_counts v) (counts_now v) (all_faults es w.works)) (sym same-events)
        (rises-on w v is.runs (all_faults w.progress.log.events w.works) comes.kept));
    going = λ told.
        let was = comes.going (sym is.runs.told ∙ told) in
        subst (λ (es : List Event). ShowsJobs o es (replay (start o) es) v) (sym same-events) (record {
          begun = was.begun;
          files = was.files;
          unsure = was.unsure;
          whole = was.whole;
          ahead =
              subst (AreJobsAhead (start o) w.progress.log.events (replay (start o) w.progress.log.events) (disk_of v.nodes)) (sym is.works)
              (still-ahead (start o) w.progress.log.events (replay (start o) w.progress.log.events) w.works was.ahead);
        });
    names = λ told.
        ap (λ (p : Progress). p.jobs) is.progress ∙ comes.names (sym is.runs.told ∙ told)
        ∙ ap (jobs_from (start o)) (sym same-events);
  }

-- an error before anything was called
pub put_back_on : {T E : Type 0} (r : Result T E) (w : WorldSeen) → OnErr r (IsPutBack w w)
put_back_on (Ok value) w = tt
put_back_on (Err e) w = put_back w

pub unmoved_on : {T E : Type 0} (r : Result T E) (w : WorldSeen) → OnErr r (w ≡ w)
unmoved_on (Ok value) w = tt
unmoved_on (Err e) w = refl

pub back_by_on : {T E : Type 0} (r : Result T E) (w : WorldSeen) (c : Cmd) → OnErr r (IsPutBackBy w w c)
back_by_on (Ok value) w c = tt
back_by_on (Err e) w c = put_back_by w c

pub back_in_on : {T E : Type 0} (r : Result T E) (w : WorldSeen) (line : Result Cmd Stop) → OnErr r (IsPutBackIn w w line)
back_in_on (Ok value) w line = tt
back_in_on (Err e) w line = put_back_in w line

pub back_in : {T E : Type 0} (r : Result T E) (w v : WorldSeen) (c : Cmd) (line : Result Cmd Stop) → line ≡ Ok c → OnErr r (IsPutBackBy w v c)
    → OnErr r (IsPutBackIn w v line)
back_in r w v c line read is = subst (λ (l : Result Cmd Stop). OnErr r (IsPutBackIn w v l)) (sym read) is

pub still_back : {T E : Type 0} (r : Result T E) (w v : WorldSeen) → OnErr r (v ≡ w) → OnErr r (IsPutBack w v)
still_back (Ok value) w v same = same
still_back (Err e) w v same = subst (IsPutBack w) (sym same) (put_back w)
