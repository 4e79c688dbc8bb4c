-- A mirror is ready once nothing of it is left: its target reads as its source, and a world still comes of its opening.
use Rattle.std.proofs.Common.{◌≡◌, true, false, List, [], ◌∷◌, ◌++◌, Some, None, refl, sym, ◌∙◌, ap, subst}
use Rattle.std.specs.Prelude.{Contains, is_some}
use Rattle.std.proofs.lemmas.List.{append-nil}
use Rattle.std.proofs.lemmas.List.Elements.{All-nil, filter_map-append}
use Rattle.blk_history.specs.declared.event.Event.{Event}
use Rattle.blk_history.specs.declared.event.Event.TheVariants.{Ready}
use Rattle.block_jobs.specs.Work.{JobWork}
use Rattle.blk_nodes.specs.Contents.{disk_of}
use Rattle.blk_nodes.specs.Joined.{IsJoined}
use Rattle.qmp_codec.specs.declared.event.JobKind.TheVariants.{Mirror}
use Rattle.qmp_rules.specs.Changes.{all_changed, changed}
use Rattle.qmp_rules.specs.Ends.{ready_edits}
use Rattle.qmp_rules.specs.Table.{RunTable, job_at}
use Rattle.qmp_rules.specs.declared.rows.JobRecord.{JobRecord}
use Rattle.flat_machine.specs.Agreement.{Agrees}
use Rattle.flat_machine.specs.Changed.{all_stepped}
use Rattle.flat_machine.specs.Final.{bytes_named}
use Rattle.flat_machine.specs.Imaging.{ShowsImages}
use Rattle.flat_machine.specs.Jobs.{can_be_ready, readied_by, writes_target}
use Rattle.flat_machine.specs.Machine.{after, replay}
use Rattle.flat_machine.specs.Marks.{IsCalm}
use Rattle.flat_machine.specs.Opening.{start}
use Rattle.flat_machine.specs.Standing.{StandsAtRest}
use Rattle.flat_machine.specs.State.{State}
use Rattle.flat_machine.specs.declared.opening.Opening.{Opening}
use Rattle.flat_machine.proofs.Resting.{stepped_table}
use Rattle.flat_machine.proofs.Wired.{with_at}
use Rattle.job_commands.specs.Whole.{DisksAreWhole}
use Rattle.job_commands.proofs.Granules.{changes_granules}
use Rattle.job_commands.proofs.WholeEntries.{readied_whole}
use Rattle.job_ends.specs.Images.{HeldAreUnsure}
use Rattle.job_ends.proofs.Held.{readied_held}
use Rattle.job_entries.specs.Found.{HaveBegun}
use Rattle.job_entries.proofs.Found.{readied_begun}
use Rattle.job_entries.proofs.InTurn.{quiet_self}
use Rattle.job_entries.proofs.Noted.{readied_agrees, readied_images, readied_rests}
use Rattle.job_progress.specs.Going.{AreJobsAhead}
use Rattle.job_progress.proofs.Changed.{all_go, rests_by}
use Rattle.job_progress.proofs.Entries.{entries_leave}
use Rattle.job_tables.specs.Jobs.{JobsStand}
use Rattle.job_tables.specs.TargetFiles.{TargetFilesStand}
use Rattle.job_tables.proofs.TargetEvents.{readied_files}
use Rattle.job_works.specs.Works.{work_of}
use Rattle.world_parts.specs.Coherent.{IsCoherent, IsWholeWorld}
use Rattle.world_parts.specs.Comes.{Comes, ShowsState}
use Rattle.world_parts.specs.Face.{WorldSeen, contents_of, counts_now, dirty_of, first_counts}
use Rattle.world_parts.specs.Jobs.{HasCopiedAll, ReadiesJob, ReadsAsSource}
use Rattle.world_parts.specs.Keeping.{ShowsJobs}
use Rattle.world_parts.specs.Progress.{actor_done, ended_in, with_job_entry}
use Rattle.world_parts.specs.Tabling.{tabled}
use Rattle.world_parts.proofs.Pushing.{FitsOn, comes-push, rises-quiet}
use Rattle.world_parts.proofs.SoundImages.{images-sound}
use Rattle.world_goings.proofs.Ahead.{job_there}
use Rattle.world_goings.proofs.Alike.{target_alike}
use Rattle.world_goings.proofs.ReadyKept.{ready_coherent, ready_kept}

-- ---- what a mirror that owes nothing reads as

pub ready_agrees : (o : Opening) (w : WorldSeen) (row : JobRecord) (work : JobWork) → Comes o w → IsWholeWorld w → IsJoined w.nodes → is_some w.files ≡ true
    → Contains w.table.jobs row → row.kind ≡ Mirror → work_of w.works row.number ≡ Some work → work.met ≡ None → HasCopiedAll work → ReadsAsSource w row
ready_agrees o w row work comes whole joined told here mirror is none all =
    let shows = comes.shows told in
    target_alike o w whole row here work mirror shows
    ((comes.going told).ahead row work (subst (λ (t : RunTable). Contains t.jobs row) (sym shows.table.table_is) here) (ap writes_target mirror) is none) all

-- ---- all of it

module _ (o : Opening) (w v : WorldSeen) (row : JobRecord) (whole : IsWholeWorld w) (joined : IsJoined w.nodes) (did : ReadiesJob w v row) where
  abbrev t : RunTable
  t = w.table

  abbrev h : List Event
  h = w.progress.log.events

  abbrev s : State
  s = replay (start o) h

  abbrev e : Event
  e = Ready row.number

  abbrev left : WorldSeen
  left = record w { table = all_changed t (ready_edits row); progress = with_job_entry 1 e w.progress }

  here : Contains t.jobs row
  here = job_there t row did.there

  guests_then : left.table.guests ≡ t.guests
  unfolding changed
  guests_then = refl

  started_then : left.table.started ≡ t.started
  unfolding changed
  started_then = refl

  coherent : IsCoherent left.table left.nodes left.opened left.progress
  coherent = ready_coherent t row.number w.nodes w.opened w.progress left.progress refl whole.coherent

  -- the state behind it
  behind : (x : State) → job_at x.table row.number ≡ Some row → after x e ≡ all_stepped x (ready_edits row)
  behind x at = ap (readied_by x) at

  tabled_is : after (tabled t (dirty_of w)) e ≡ all_stepped (tabled t (dirty_of w)) (ready_edits row)
  tabled_is = behind (tabled t (dirty_of w)) did.there

  -- ---- where the store tells its files

  module _ (shows : ShowsState o s w) (going : ShowsJobs o h s w) where
    same : s.table ≡ t
    same = shows.table.table_is

    at : job_at s.table row.number ≡ Some row
    at = ap (λ (x : RunTable). job_at x row.number) same ∙ did.there

    abbrev next : State
    next = all_stepped s (ready_edits row)

    is_next : after s e ≡ next
    is_next = behind s at

    stand : JobsStand s.table
    stand = subst JobsStand (sym same) whole.jobs.stand

    table_next : next.table ≡ left.table
    table_next = stepped_table (ready_edits row) s ∙ ap (λ (x : RunTable). all_changed x (ready_edits row)) same

    -- files are over the nodes that they were over
    contents_then : Agrees (bytes_named o.files) s (contents_of left)
    unfolding changed
    contents_then = shows.contents

    images_then : ShowsImages s (contents_of left)
    unfolding changed
    images_then = shows.images

    shown : ShowsState o next left
    shown = record {
      stands = subst StandsAtRest is_next (readied_rests s row.number shows.stands);
      dirty = shows.dirty;
      table = record {
        room_is = shows.table.room_is;
        table_is = table_next;
        rest = record {
          started =
              shows.table.rest.started ∙ ap (λ (x : RunTable). x.started) same ∙ sym started_then ∙ sym (ap (λ (x : RunTable). x.started) table_next);
          ended = shows.table.rest.ended;
        };
      };
      guests = record {
        guests_are = shows.guests.guests_are;
        ended_are = shows.guests.ended_are ∙ sym (filter_map-append actor_done h (e ∷ []) ∙ append-nil (ended_in h));
      };
      contents = subst (λ (x : State). Agrees (bytes_named o.files) x (contents_of left)) is_next (readied_agrees (bytes_named o.files) s row.number (contents_of left) contents_then);
      images = subst (λ (x : State). ShowsImages x (contents_of left)) is_next (readied_images s row.number (contents_of left) images_then);
    }

    ahead : AreJobsAhead (start o) (h ++ e ∷ []) next (disk_of w.nodes) w.works
    ahead =
        entries_leave (start o) next next h e (disk_of w.nodes) w.works refl refl refl
        (all_go w.works (start o) h (ready_edits row) s (contents_of w) (contents_of w) (rests_by w.works s.table stand) (tt, tt)
        (contents_of w, quiet_self (contents_of w), quiet_self (contents_of w)) going.ahead)

    goes_on : ShowsJobs o (h ++ e ∷ []) next left
    goes_on = record {
      begun = subst HaveBegun is_next (readied_begun s row.number going.begun);
      files = subst TargetFilesStand is_next (readied_files s row.number shows.stands.stands.table stand going.files);
      ahead = ahead;
      unsure = subst HeldAreUnsure is_next (readied_held s row.number going.unsure);
      whole = subst DisksAreWhole is_next (readied_whole s row.number going.whole);
    }

    fits : FitsOn o h s w left (e ∷ [])
    fits = record {
      legal = (
        (shows.table.rest, with_at (λ (r : JobRecord). (can_be_ready r r.kind ≡ true) × (r.is_ready ≡ false)) (job_at s.table row.number) row at (did.can, did.yet)),
        tt,
      );
      marks = (All-nil (IsCalm s.table s.guests), tt);
      shows = subst (λ (x : State). ShowsState o x left) (sym is_next) shown;
      going = subst (λ (x : State). ShowsJobs o (h ++ e ∷ []) x left) (sym is_next) goes_on;
      names = sym (append-nil w.progress.jobs);
    }

  pub readied_comes : Comes o w → Comes o v
  readied_comes comes = subst (Comes o) (sym did.kept) (comes-push o w left (e ∷ []) comes (record {
    events = refl;
    names = guests_then;
    told = refl;
    guests = refl;
    table = (
      left.table,
      dirty_of left,
      record {
        calm = All-nil (IsCalm t w.progress.guests);
        table = sym (ap (λ (x : State). x.table) tabled_is ∙ stepped_table (ready_edits row) (tabled t (dirty_of w)));
        dirty = sym (ap (λ (x : State). x.dirty) tabled_is);
      },
      (refl, refl),
    );
    granules = λ was. changes_granules (ready_edits row) t (dirty_of w) (tt, tt) was;
    counted = λ least. least;
    coherent = λ was. coherent;
    jobs = λ was. ready_kept t w.works w.progress.aside row whole.jobs here did.yet;
    kept = rises-quiet (first_counts w) (counts_now w) h w.works e refl;
    sound = λ told. images-sound left joined coherent (whole.tell told);
    fits = λ told shows going. fits shows going;
  }))
