-- What a run was, as the program tells it.
use Rattle.std.proofs.Common.{◌≡◌, ℕ, ◌≤◌, Bool, true, false, List, [], ◌∷◌, ◌++◌, length, map, refl, sym, ◌∙◌, ap, subst, arith, Option, Some, None, inl, inr}
use Rattle.std.specs.Prelude.{slice_get, get_or, All, is_some, MatchOption, unwrap_or}
use Rattle.std.proofs.lemmas.Bool.{false≢true}
use Rattle.std.proofs.lemmas.List.Elements.{All-nil, All-cons, All-head, All-tail}
use Rattle.blk_base.specs.Counts.{HasFailedSince}
use Rattle.blk_base.specs.Files.{IfTold}
use Rattle.blk_base.specs.Written.{Written}
use Rattle.blk_base.specs.declared.fault.DevNo.{DevNo}
use Rattle.blk_base.specs.declared.fault.FaultAt.{FaultAt}
use Rattle.blk_base.specs.declared.fault.FaultFrom.TheVariants.{Dev}
use Rattle.blk_base.specs.declared.file.File.{File}
use Rattle.blk_base.specs.declared.memory.Room.{Room}
use Rattle.trace_codec.specs.declared.waits.Waits.{Waits}
use Rattle.trace_codec.specs.Script.{Order}
use Rattle.qmp_rules.specs.Table.{RunTable}
use Rattle.blk_history.specs.Fold.{With}
use Rattle.flat_machine.specs.State.{State, Guest}
use Rattle.flat_machine.specs.Final.{AreDisks}
use Rattle.flat_machine.specs.Machine.{replay}
use Rattle.flat_machine.specs.Opening.{start}
use Rattle.flat_machine.specs.Blocked.{IsStuck, ActorWaits}
use Rattle.flat_machine.specs.Courses.{Course, KeepsOrder, course_of, course_after}
use Rattle.flat_machine.specs.Entries.{all_of}
use Rattle.blk_history.specs.Small.{IsSmall}
use Rattle.blk_history.specs.declared.event.Event.{Event}
use Rattle.blk_history.specs.declared.event.Event.TheVariants.{Admit, Refuse, Piece, Retire, Reply, Reached, Start, Ready, End, Done}
use Rattle.flat_machine.specs.Licence.{Counts, AreLicensed}
use Rattle.flat_machine.specs.declared.opening.Opening.{Opening}
use Rattle.world_files.specs.Closing.{IsBackAfterFlush, IsToldBack, count_back, store_in}
use Rattle.world_parts.specs.Comes.{Comes}
use Rattle.world_parts.specs.Face.{WorldSeen, counts_now, dirty_of, first_counts, seen_state}
use Rattle.world_parts.specs.Progress.{ended_in}
use Rattle.world_parts.specs.Steps.{StoreSeen, IsOpeningOf, new_world}
use Rattle.world_parts.specs.Tabling.{IsTableAfter}
use Rattle.qblk_inputs.specs.Inputs.{Work}
use Rattle.qblk_words.specs.Words.{Cast, guests_of}
use Rattle.qblk_run.specs.Run.{Account, HasOpened, IsRun, HaveNotSunk, IsFlushedAs, LeavesFiles, EndsDone, EndsStuck, HasRunStopped, FailsToFlush, counts_at_first, counts_at_last, course_in, history_room, seen_waits}
use Rattle.qblk_run.specs.Session.{IsEnd}
use Rattle.qblk_run.specs.Tasks.{Tasks, KeepsTo, CanGoOn}
use Rattle.qblk_run.specs.Turns.{StaysIn}
use Rattle.qblk_run.specs.Rounds.{AllRest, AreDone, IsFirstUndone}
use Rattle.qblk_run.proofs.Closing.{all-back, behind-back, licensed-later, quiet-run, leaves-files}
use Rattle.qblk_run.proofs.Flushes.{same-places, all-stand, first-stand, first-above, both-at}
use Rattle.qblk_run.specs.Devices.{HaveDevices}
use Rattle.qblk_run.specs.Worlds.{AreStartsBehind, GoesThrough, IsLast, IsLeftAlone, IsLeftBy, MakesEvent}
use Rattle.qblk_run.proofs.Ending.{is-stuck, is-whole, idle-at, no-jobs}
use Rattle.qblk_run.proofs.History.{course-ended}
use Rattle.qblk_run.proofs.Lists.{at-get}

-- ---- the opening

-- what a run over a store begins with
abbrev pub opening_by : StoreSeen → List (List ℕ) → Opening
opening_by store guests = record { files = unwrap_or store.files []; room = store.room; guests = guests }

pub opening-of : (store : StoreSeen) (guests : List (List ℕ)) → IsOpeningOf store guests (opening_by store guests)
opening-of store guests = record { guests_are = refl; files_are = by_files store.files; room_is = λ told. refl }
  where
    by_files : (files : Option (List File)) → is_some files ≡ true → files ≡ Some (unwrap_or files [])
    by_files None told = absurd (false≢true told)
    by_files (Some files) told = refl

-- the numbers that an entry prints have 64 bits
small-alone : (w v : WorldSeen) (e : Event) → IsLeftAlone w v e → IsSmall e
small-alone w v (Piece g r k outcome got) left = left.makes.made.fits
small-alone w v (End job outcome offset) left = left.fits
small-alone w v _ left = tt

-- those of the start of a job have none
small-starts : (t : RunTable) (w v : WorldSeen) (es : List Event) → AreStartsBehind t w v es → All IsSmall es
small-starts t w v [] begins = All-nil IsSmall
small-starts t w v (Start job ∷ []) begins = All-cons IsSmall (Start job) [] tt (All-nil IsSmall)
small-starts t w v (Start job ∷ e ∷ es) begins = absurd begins
small-starts t w v (Admit g r op ∷ es) begins = absurd begins
small-starts t w v (Refuse g r op why ∷ es) begins = absurd begins
small-starts t w v (Piece g r k outcome got ∷ es) begins = absurd begins
small-starts t w v (Retire g r ∷ es) begins = absurd begins
small-starts t w v (Reply line given command text ∷ es) begins = absurd begins
small-starts t w v (Reached line what ∷ es) begins = absurd begins
small-starts t w v (Ready job ∷ es) begins = absurd begins
small-starts t w v (End job outcome offset ∷ es) begins = absurd begins
small-starts t w v (Done actor ∷ es) begins = absurd begins

small-one : (w v : WorldSeen) (e : Event) (es : List Event) → (es ≡ []) × IsLeftAlone w v e → All IsSmall (e ∷ es)
small-one w v e es left = All-cons IsSmall e es (small-alone w v e left.1) (subst (All IsSmall) (sym left.0) (All-nil IsSmall))

small-event : (w v : WorldSeen) (e : Event) (es : List Event) → IsLeftBy w v e es → All IsSmall (e ∷ es)
small-event w v (Reply line given command text) es left = All-cons IsSmall (Reply line given command text) es tt (small-starts w.table left.between v es left.begins)
small-event w v (Admit g r op) es left = small-one w v (Admit g r op) es left
small-event w v (Refuse g r op why) es left = small-one w v (Refuse g r op why) es left
small-event w v (Piece g r k outcome got) es left = small-one w v (Piece g r k outcome got) es left
small-event w v (Retire g r) es left = small-one w v (Retire g r) es left
small-event w v (Reached line what) es left = small-one w v (Reached line what) es left
small-event w v (Start job) es left = small-one w v (Start job) es left
small-event w v (Ready job) es left = small-one w v (Ready job) es left
small-event w v (End job outcome offset) es left = small-one w v (End job outcome offset) es left
small-event w v (Done actor) es left = small-one w v (Done actor) es left

small-made : (orders : List Order) (w v : WorldSeen) (es : List Event) → MakesEvent orders w v es → All IsSmall es
small-made orders w v [] made = All-nil IsSmall
small-made orders w v (e ∷ es) made = small-event w v e es made.left

both-all : (xs ys : List Event) → All IsSmall xs → All IsSmall ys → All IsSmall (xs ++ ys)
both-all [] ys front back = back
both-all (x ∷ xs) ys front back = All-cons IsSmall x (xs ++ ys) (All-head IsSmall x xs front) (both-all xs ys (All-tail IsSmall x xs front) back)

all-small : (o : Opening) (c : Course) (w : WorldSeen) (events : List (List Event)) (v : WorldSeen) → GoesThrough o c w events v → All IsSmall (all_of events)
all-small o c w [] v through = All-nil IsSmall
all-small o c w (es ∷ events) v through =
    both-all es (all_of events) (small-made c.script w through.0 es through.2) (all-small o (course_after c es) through.0 events v through.3)

with-none : (P : List File → Type 0) (x : Option (List File)) → With x P → x ≡ None → ⊥
with-none P None holds none = holds
with-none P (Some a) holds none = let bad : ⊥ = cc none in bad

-- ---- the account of a world that was closed

module _ (old : StoreSeen) (guests : List (List ℕ)) (w v : WorldSeen) (store : StoreSeen) (fault : Option FaultAt)
    (earlier : w.earlier ≡ old.opened) (first : w.first_faults ≡ old.faults) (telling : is_some w.files ≡ is_some old.files) (roomy : w.room ≡ old.room)
    (counted : v.first_faults ≤ v.faults) (stays : StaysIn w v) (comes : Comes (opening_by old guests) v) (end : IsEnd v store fault) where
  abbrev pub account : Account
  account = record { opening = opening_by old guests; openings = end.closed.opened; events = v.progress.log.events; jobs = v.progress.jobs; counts = counts_now v }

  opened : HasOpened old.opened store.opened end.closed.opened
  opened =
      let behind : store.opened ≡ old.opened ++ end.closed.opened = rw (← earlier, ← stays.earlier) end.closed.behind in
      record {
        behind = behind;
        back = all-back end.closed.opened (behind-back old.opened end.closed.opened (λ name. rw behind at (end.none_out name)));
      }

  begun : first_counts v ≡ counts_at_first old account
  begun = rw (end.closed.given.first, stays.first, first) refl

  licensed : AreLicensed (counts_at_first old account) (counts_now v) v.progress.log.events
  licensed = subst (λ (a : Counts). AreLicensed a (counts_now v) v.progress.log.events) begun comes.history.licensed

  later : HaveNotSunk (counts_now v) (counts_at_last store account)
  later = record { store = let same = end.faults in omega arith; devices = end.closed.given.counts }

  flush : IsFlushedAs store account fault
  flush = by_fault fault refl
    where
      same-counts : (a b : Counts) → a.store ≡ b.store → a.devices ≡ b.devices → a ≡ b
      same-counts a b x y =
          let one : a ≡ record a { store = b.store } = ap (λ (n : ℕ). record a { store = n }) x in
          let two : record a { store = b.store } ≡ b = ap (λ (ns : List ℕ). record b { devices = ns }) y in
          one ∙ two

      failed : (f : FaultAt) → fault ≡ Some f → (dev : DevNo) × (f.from ≡ Dev dev) × FailsToFlush store account dev f.count
      failed f is =
          let told : IsToldBack v end.closed.opened f = rw is at end.closed.given.told in
          let above = first-above v.table v.nodes.devices (store_in v) (record store { opened = end.closed.opened }) fault end.closed.back comes.coherent.out f told.number is told.from in (
            told.number,
            told.from,
            record {
              last = both-at end.closed.opened told.number.0 (IsBackAfterFlush f.count) (λ before. HasFailedSince before f.count) told.count
                  (subst (λ (counts : List ℕ). With (slice_get counts told.number.0) (λ before. HasFailedSince before f.count)) (sym end.closed.given.first) above);
              rose = told.rose;
              first = first-stand v.table v.nodes.devices (store_in v) (record store { opened = end.closed.opened }) fault end.closed.back comes.coherent.out f told.number is told.from;
            },
          )

      by_fault : (x : Option FaultAt) → fault ≡ x → IsFlushedAs store account x
      by_fault None none = same-counts (counts_at_last store account) (counts_now v) end.faults
          (same-places (map count_back end.closed.opened) (counts_now v).devices
          (all-stand v.table v.nodes.devices (store_in v) (record store { opened = end.closed.opened }) fault end.closed.back comes.coherent.out none))
      by_fault (Some f) some = failed f some

  pub flush-failed : (f : FaultAt) → fault ≡ Some f → (dev : DevNo) × (f.from ≡ Dev dev)
  flush-failed f is =
      let told : IsToldBack v end.closed.opened f = rw is at end.closed.given.told in
      (told.number, told.from)

  told-as : is_some old.files ≡ true → is_some v.files ≡ true
  told-as told = stays.told ∙ telling ∙ told

  pub run-is : (cast : Cast) (work : Work) (had : Bool) → guests_of cast ≡ guests → length work.traces ≡ length guests
      → KeepsOrder (course_of work.script work.traces) v.progress.log.events
      → (room : Room) → room ≡ history_room work → (near : WorldSeen) (events : List (List Event)) → all_of events ≡ v.progress.log.events
      → GoesThrough (opening_by old guests) (course_of work.script work.traces) (new_world old guests room) events near
      → IsLast had (course_after (course_of work.script work.traces) v.progress.log.events).script near v → IsRun cast work had fault old store account
  run-is cast work had names count order room sized near events all through is_last = record {
    opening = rw names (opening-of old guests);
    openings = opened;
    room = end.room ∙ stays.room ∙ roomy;
    order = record { guests = count; order = order };
    licensed = licensed;
    later = later;
    quiet = quiet-run (counts_at_first old account) (counts_at_last store account) v.progress.log.events
        (licensed-later (counts_at_first old account) (counts_now v) (counts_at_last store account) v.progress.log.events later.store later.devices licensed);
    flush = flush;
    worlds = record {
      near = near;
      events = events;
      all = all;
      through =
          subst (λ (r : Room). GoesThrough (opening_by old guests) (course_of work.script work.traces) (new_world old guests r) events near)
          sized through;
      last = v;
      is_last = is_last;
      comes = comes;
      counts_are = refl;
      jobs_are = refl;
      closed = end.closed;
    };
    small = subst (All IsSmall) all (all-small (opening_by old guests) (course_of work.script work.traces) (new_world old guests room) events near through);
    names = λ told. comes.names (told-as told);
    files = by_files old.files refl;
  }
    where
      by_store : is_some v.files ≡ true → (x : Option (List File)) → store.files ≡ x → With x (LeavesFiles account fault)
      by_store told None is = absurd (with-none (λ fs. AreDisks fs (replay (start (opening_by old guests)) v.progress.log.events)) store.files (end.disks told (replay (start (opening_by old guests)) v.progress.log.events)
          (comes.shows told).table.table_is (comes.shows told).contents.disks) is)
      by_store told (Some files) is = leaves-files (opening_by old guests) v account store fault files refl refl comes end told is

      by_files : (x : Option (List File)) → old.files ≡ x → IfTold x (λ told. With store.files (LeavesFiles account fault))
      by_files None is = tt
      by_files (Some files) is =
          let told : is_some v.files ≡ true = stays.told ∙ telling ∙ ap (λ (x : Option (List File)). is_some x) is in
          by_store told store.files refl

  -- ---- where it stopped

  module _ (work : Work) (after : Tasks) (can : CanGoOn v.progress after) (keeps : KeepsTo work.script work.traces v.progress.log.events after)
      (count : length work.traces ≡ length guests) where
    all-idle : (rows : List Guest) → ((g : ℕ) (row : Guest) → slice_get rows g ≡ Some row → row.flight ≡ None) → All (λ row. row.flight ≡ None) rows
    all-idle rows each = λ k d below. each k (get_or rows k d) (at-get rows k d below)

    pub ends-done : AllRest v after → AreDone after → EndsDone (is_some old.files) work account
    ends-done rest done = let none = no-jobs v after work.script work.traces can keeps rest done (λ row there. (comes.jobs.stand.each row there).slot) in (
      record {
        done = record {
          guests = count;
          whole = is-whole v after work.script work.traces can keeps done;
          idle = rw comes.requests at (all-idle v.progress.guests (idle-at v after work.script work.traces can keeps done));
        };
        history = λ told. comes.history.history (told-as told);
        jobs = λ told. ap (λ (t : RunTable). t.jobs) (comes.shows (told-as told)).table.table_is ∙ none;
      },
      record { table = v.table; dirty = dirty_of v; after = comes.table; none = none },
    )

    -- what is asked of a state is asked of its table, its guests and the actors that are done
    waits-alike : (s t : State) (c : Course) (actor : ℕ) (what : Waits (List ℕ)) → s.table ≡ t.table → s.guests ≡ t.guests → s.ended ≡ t.ended
        → ActorWaits s c actor what → ActorWaits t c actor what
    waits-alike s t c actor what table guests' ended (inl waits) = inl (waits.0, rw (← table, ← guests') waits.1)
    waits-alike s t c actor what table guests' ended (inr (g, is, waits)) = inr (g, is, record { idle = rw (← guests') waits.idle; next = rw (← table) waits.next })

    stuck-alike : (s t : State) (c : Course) (actor : ℕ) (what : Waits (List ℕ)) → s.table ≡ t.table → s.guests ≡ t.guests → s.ended ≡ t.ended
        → IsStuck s c actor what → IsStuck t c actor what
    stuck-alike s t c actor what table guests' ended stuck = record {
      unfinished = stuck.unfinished;
      waiting = waits-alike s t c actor what table guests' ended stuck.waiting;
      first = stuck.first;
      others = λ other un. let it = stuck.others other un in (it.0, waits-alike s t c other it.0 table guests' ended it.1);
      slots = λ slot below. rw (← table, ← guests', ← ended) (stuck.slots slot below);
    }

    pub ends-stuck : HaveDevices guests v.progress.log.events v.table → AllRest v after → (actor : ℕ) (what : Waits (List ℕ)) → IsFirstUndone v after actor what → EndsStuck (is_some old.files) work account actor what
    ends-stuck devices rest actor what first' = by_told (is_some old.files) refl
      where
        stuck : IsStuck (seen_state v) (course_in work account) actor what
        stuck = is-stuck v after work.script work.traces can keeps rest actor what first'

        ended : (course_in work account).ended ≡ ended_in v.progress.log.events
        ended = course-ended (course_of work.script work.traces) v.progress.log.events

        by_told : (b : Bool) → is_some old.files ≡ b → EndsStuck b work account actor what
        by_told false none = record {
          state = seen_state v;
          table = comes.table;
          devices = devices;
          told = λ bad. absurd (false≢true bad);
          guests = comes.requests;
          ended = sym ended;
          stuck = stuck;
        }
        by_told true told =
            let shows = comes.shows (told-as told) in
            let s = replay (start (opening_by old guests)) v.progress.log.events in
            record {
              state = s;
              table =
                  subst (λ (t : RunTable). IsTableAfter guests v.progress.log.events t s.dirty) (sym shows.table.table_is)
                  (subst (IsTableAfter guests v.progress.log.events v.table) (sym shows.dirty) comes.table);
              devices = subst (HaveDevices guests v.progress.log.events) (sym shows.table.table_is) devices;
              told = λ is. refl;
              guests = shows.guests.guests_are ∙ comes.requests;
              ended = shows.guests.ended_are ∙ sym ended;
              stuck = stuck-alike (seen_state v) s (course_in work account) actor what (sym shows.table.table_is) (sym shows.guests.guests_are) (sym shows.guests.ended_are) stuck;
            }

    pub has-stopped : HaveDevices guests v.progress.log.events v.table → AllRest v after → (waiting : Option (ℕ × Waits Written)) → MatchOption waiting (AreDone after) (λ r. IsFirstUndone v after r.0 (seen_waits r.1))
        → HasRunStopped (is_some old.files) work account
    has-stopped devices rest None done = inl (ends-done rest done)
    has-stopped devices rest (Some r) first' = inr (r.0, seen_waits r.1, ends-stuck devices rest r.0 (seen_waits r.1) first')
