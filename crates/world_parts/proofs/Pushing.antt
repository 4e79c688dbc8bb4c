-- Some more entries leave a world that comes of the same opening.
use Rattle.std.proofs.Common.{◌≡◌, ◌≤◌, true, List, [], ◌∷◌, ◌++◌, map, refl, sym, ◌∙◌, ap, subst, None}
use Rattle.std.specs.Prelude.{is_some}
use Rattle.std.proofs.lemmas.List.{append-nil}
use Rattle.std.proofs.lemmas.List.Elements.{filter_map-append}
use Rattle.blk_history.specs.Fold.{Each, run}
use Rattle.blk_history.specs.declared.event.Event.{Event}
use Rattle.blk_history.specs.declared.event.Event.TheVariants.{Admit, Refuse, Piece, Retire, Reply, Reached, Start, Ready, End, Done}
use Rattle.block_jobs.specs.Work.{JobWork}
use Rattle.flat_machine.specs.State.{State, Dirty, Guest}
use Rattle.qmp_rules.specs.Table.{RunTable, job_at, opening_table}
use Rattle.flat_machine.specs.Machine.{after, replay}
use Rattle.flat_machine.specs.Legal.{Fits, Legal}
use Rattle.flat_machine.specs.Marks.{AreCalm, Drained, NoneSplits, marks_of}
use Rattle.flat_machine.specs.Licence.{Counts, named_in, faults_of}
use Rattle.flat_machine.specs.Opening.{start, new_guest}
use Rattle.flat_machine.specs.Comes.{IsHistoryOf, guest_step, job_line_of, jobs_from}
use Rattle.flat_machine.specs.Imaging.{ImagesAreSound}
use Rattle.flat_machine.specs.declared.opening.Opening.{Opening}
use Rattle.job_commands.specs.Granules.{GranulesStand}
use Rattle.world_parts.specs.Coherent.{AreJobsKept, IsCoherent}
use Rattle.world_parts.specs.Face.{WorldSeen, dirty_of, first_counts, counts_now, held}
use Rattle.world_parts.specs.Comes.{Comes, ShowsState}
use Rattle.world_parts.specs.Keeping.{AreRises, ShowsJobs, all_faults}
use Rattle.world_parts.specs.Tabling.{AreTablesBy}
use Rattle.world_parts.proofs.Rises.{licensed-kept}

-- the tables after some more entries
tables-append : (guests : List Guest) (t : RunTable) (ds : List Dirty) (es more : List Event) (mid now : RunTable) (between left : List Dirty) → AreTablesBy guests t ds es mid between
    → AreTablesBy (run guest_step guests es) mid between more now left → AreTablesBy guests t ds (es ++ more) now left
tables-append guests t ds [] more mid now between left same by =
    subst (λ (u : RunTable). AreTablesBy guests u ds more now left) same.0 (subst (λ (us : List Dirty). AreTablesBy guests mid us more now left) same.1 by)
tables-append guests t ds (x ∷ es) more mid now between left tables by =
    (tables.0, tables.1, tables.2, tables-append (guest_step guests x) tables.0 tables.1 es more mid now between left tables.3 by)

run-append : {S E : Type 0} (step : S → E → S) (s : S) (es more : List E) → run step s (es ++ more) ≡ run step (run step s es) more
run-append step s [] more = refl
run-append step s (x ∷ es) more = run-append step (step s x) es more

each-append : {S E : Type 0} (step : S → E → S) (P : S → E → Type 0) (s : S) (es more : List E) → Each step P s es → Each step P (run step s es) more → Each step P s (es ++ more)
each-append step P s [] more all rest = rest
each-append step P s (x ∷ es) more all rest = (all.0, each-append step P (step s x) es more all.1 rest)

names-append : (s : State) (es more : List Event) → jobs_from s (es ++ more) ≡ jobs_from s es ++ jobs_from (replay s es) more
names-append s [] more = refl
names-append s (Start job ∷ es) more = ap (λ ns. job_line_of s (job_at s.table job) ∷ ns) (names-append (after s (Start job)) es more)
names-append s (Admit g r op ∷ es) more = names-append (after s (Admit g r op)) es more
names-append s (Refuse g r op why ∷ es) more = names-append (after s (Refuse g r op why)) es more
names-append s (Piece g r k outcome got ∷ es) more = names-append (after s (Piece g r k outcome got)) es more
names-append s (Retire g r ∷ es) more = names-append (after s (Retire g r)) es more
names-append s (Reply line given command text ∷ es) more = names-append (after s (Reply line given command text)) es more
names-append s (Reached line what ∷ es) more = names-append (after s (Reached line what)) es more
names-append s (Ready job ∷ es) more = names-append (after s (Ready job)) es more
names-append s (End job outcome offset ∷ es) more = names-append (after s (End job outcome offset)) es more
names-append s (Done actor ∷ es) more = names-append (after s (Done actor)) es more

-- where the store tells its files, by the state before the entries
pub record FitsOn (o : Opening) (h : List Event) (s : State) (w v : WorldSeen) (es : List Event) : Type 0 where
  pub legal : Legal s es
  pub marks : NoneSplits s es
  pub shows : ShowsState o (replay s es) v
  pub going : ShowsJobs o (h ++ es) (replay s es) v
  pub names : v.progress.jobs ≡ w.progress.jobs ++ jobs_from s es

-- what some more entries have to be
pub record Pushes (o : Opening) (w v : WorldSeen) (es : List Event) : Type 0 where
  pub events : v.progress.log.events ≡ w.progress.log.events ++ es
  pub names : v.table.guests ≡ w.table.guests
  pub told : is_some v.files ≡ is_some w.files
  pub guests : v.progress.guests ≡ run guest_step w.progress.guests es
  pub table : AreTablesBy w.progress.guests w.table (dirty_of w) es v.table (dirty_of v)
  pub granules : GranulesStand w.table (dirty_of w) → GranulesStand v.table (dirty_of v)
  pub counted : w.first_faults ≤ w.faults → v.first_faults ≤ v.faults
  pub coherent : IsCoherent w.table w.nodes w.opened w.progress → IsCoherent v.table v.nodes v.opened v.progress
  pub jobs : AreJobsKept w.table w.works w.progress.aside → AreJobsKept v.table v.works v.progress.aside
  pub kept : AreRises (first_counts w) (counts_now w) (all_faults w.progress.log.events w.works)
      → AreRises (first_counts v) (counts_now v) (all_faults (w.progress.log.events ++ es) v.works)
  pub sound : is_some v.files ≡ true → ImagesAreSound v.table (held v)
  pub fits : is_some w.files ≡ true → let s : State = replay (start o) w.progress.log.events in
      ShowsState o s w → ShowsJobs o w.progress.log.events s w → FitsOn o w.progress.log.events s w v es

pub comes-push : (o : Opening) (w v : WorldSeen) (es : List Event) → Comes o w → Pushes o w v es → Comes o v
comes-push o w v es comes pushes = record {
  history = record {
    guests_are = pushes.names ∙ comes.history.guests_are;
    licensed = rw pushes.events (licensed-kept _ _ (w.progress.log.events ++ es) v.works (pushes.kept comes.kept));
    history = λ told. history (sym pushes.told ∙ told);
  };
  counted = pushes.counted comes.counted;
  requests = pushes.guests ∙ rw (comes.requests, pushes.events, run-append guest_step (map (λ name. new_guest) o.guests) w.progress.log.events es) refl;
  table =
      rw pushes.events (tables-append (map (λ name. new_guest) o.guests) (opening_table o.guests) [] w.progress.log.events es w.table v.table (dirty_of w) (dirty_of v) comes.table
      (subst (λ (guests : List Guest). AreTablesBy guests w.table (dirty_of w) es v.table (dirty_of v)) comes.requests pushes.table));
  granules = pushes.granules comes.granules;
  coherent = pushes.coherent comes.coherent;
  shows = λ told. shows (sym pushes.told ∙ told);
  sound = pushes.sound;
  jobs = pushes.jobs comes.jobs;
  kept = rw pushes.events (pushes.kept comes.kept);
  going = λ told. going (sym pushes.told ∙ told);
  names = λ told.
      let was = sym pushes.told ∙ told in
      (fits was).names ∙ ap (λ ns. ns ++ jobs_from before es) (comes.names was)
      ∙ sym (names-append (start o) w.progress.log.events es) ∙ ap (jobs_from (start o)) (sym pushes.events);
}
  where
    before : State
    before = replay (start o) w.progress.log.events

    fits : is_some w.files ≡ true → FitsOn o w.progress.log.events before w v es
    fits told = pushes.fits told (comes.shows told) (comes.going told)

    behind : replay before es ≡ replay (start o) v.progress.log.events
    behind = sym (run-append after (start o) w.progress.log.events es) ∙ ap (replay (start o)) (sym pushes.events)

    shows : is_some w.files ≡ true → ShowsState o (replay (start o) v.progress.log.events) v
    shows told = subst (λ (s : State). ShowsState o s v) behind (fits told).shows

    going : is_some w.files ≡ true → ShowsJobs o v.progress.log.events (replay (start o) v.progress.log.events) v
    going told =
        subst (λ (s : State). ShowsJobs o v.progress.log.events s v) behind
        (subst (λ (h : List Event). ShowsJobs o h (replay before es) v) (sym pushes.events) (fits told).going)

    history : is_some w.files ≡ true → IsHistoryOf o v.progress.log.events
    history told =
        let was = comes.history.history told in
        record {
          legal = rw pushes.events (each-append after Fits (start o) w.progress.log.events es was.legal (fits told).legal);
          rest = (shows told).table.rest;
          marks = rw pushes.events (each-append after (λ s e. AreCalm s.table s.guests (marks_of s e)) (start o) w.progress.log.events es was.marks (fits told).marks);
        }

-- an entry that names no fault, where counts stay
pub rises-quiet : (opening now : Counts) (h : List Event) (works : List JobWork) (e : Event) → named_in e ≡ None → AreRises opening now (all_faults h works)
    → AreRises opening now (all_faults (h ++ e ∷ []) works)
rises-quiet opening now h works e none was =
    let same : faults_of (h ++ e ∷ []) ≡ faults_of h = filter_map-append named_in h (e ∷ []) ∙ rw none (append-nil (faults_of h)) in
    record { rises = rw same was.rises; once = rw same was.once }

-- ---- drains: nothing that a world shows depends on which stand

shows-drains : (o : Opening) (s : State) (w : WorldSeen) (drains : Drained) → ShowsState o s w → ShowsState o s (record w { drains = drains })
shows-drains o s w drains is = record {
  stands = is.stands;
  dirty = is.dirty;
  table = record { room_is = is.table.room_is; table_is = is.table.table_is; rest = is.table.rest };
  guests = record { guests_are = is.guests.guests_are; ended_are = is.guests.ended_are };
  contents = is.contents;
  images = λ node. record { noted = (is.images node).noted; mapped = (is.images node).mapped };
}

pub comes-drains : (o : Opening) (w : WorldSeen) (drains : Drained) → Comes o w → Comes o (record w { drains = drains })
comes-drains o w drains is = record {
  history = is.history;
  counted = is.counted;
  requests = is.requests;
  table = is.table;
  granules = is.granules;
  coherent = is.coherent;
  shows = λ told. shows-drains o (replay (start o) w.progress.log.events) w drains (is.shows told);
  sound = is.sound;
  jobs = is.jobs;
  kept = is.kept;
  going = λ told. let was = is.going told in record { begun = was.begun; files = was.files; ahead = was.ahead; unsure = was.unsure; whole = was.whole };
  names = is.names;
}
