-- Events that touch no device: each leaves a world that comes of the same opening.
use Rattle.std.proofs.Common.{◌≡◌, ℕ, zero, suc, true, false, Bool, List, [], ◌∷◌, ◌++◌, refl, sym, ◌∙◌, ap, subst, add-one, Option, Some, None}
use Rattle.std.specs.Prelude.{is_some, is_none, slice_get, option_map, option_and_then, unwrap_or}
use Rattle.std.proofs.lemmas.List.{append-nil}
use Rattle.std.proofs.lemmas.List.Elements.{filter_map-append, All-nil}
use Rattle.trace_codec.specs.declared.op.Op.{Op}
use Rattle.trace_codec.specs.declared.awaiting.Await.{Await}
use Rattle.trace_codec.specs.declared.awaiting.Await.TheVariants as await
use Rattle.blk_history.specs.Fold.{With, change}
use Rattle.blk_history.specs.Machine.{Flight}
use Rattle.blk_history.specs.Legal.{IsFlightOver}
use Rattle.blk_history.specs.declared.entry.Refused.{Refused}
use Rattle.blk_history.specs.declared.event.Event.{Event}
use Rattle.blk_history.specs.declared.event.Event.TheVariants.{Admit, Refuse, Retire, Reached, Done}
use Rattle.flat_machine.specs.State.{State, Guest}
use Rattle.blk_nodes.specs.Contents.{disk_of}
use Rattle.flat_machine.specs.Machine.{after, admitted, finished, replay}
use Rattle.flat_machine.specs.Opening.{start}
use Rattle.flat_machine.specs.Legal.{Fits, IsNext, IsNextJudged, IsMet, IsNotDone, CanAdmit, IsRefusedFor}
use Rattle.flat_machine.specs.Marks.{IsCalm, marks_of}
use Rattle.flat_machine.specs.Licence.{named_in}
use Rattle.flat_machine.specs.Comes.{guest_step, jobs_from}
use Rattle.job_ends.proofs.Held.{other_held}
use Rattle.job_entries.specs.Found.{leaves_jobs}
use Rattle.job_entries.proofs.Found.{other_begun}
use Rattle.job_progress.proofs.Entries.{entries_leave}
use Rattle.job_commands.proofs.WholeEntries.{beside_whole}
use Rattle.job_tables.specs.TargetFiles.{TargetFilesStand}
use Rattle.flat_machine.specs.Standing.{StandsAtRest}
use Rattle.flat_machine.proofs.Resting.{beside_rests}
use Rattle.flat_machine.specs.declared.opening.Opening.{Opening}
use Rattle.world_parts.specs.declared.admission.Admission.{Admission}
use Rattle.world_parts.specs.declared.admission.Admission.TheVariants.{Admitted, Refused as NotAdmitted, Held, Away}
use Rattle.world_parts.specs.Progress.{Progress, ended_in, actor_done, requests_done, flight_at, with_admission, with_refusal, with_retirement, with_bare_entry}
use Rattle.world_parts.specs.Face.{WorldSeen, dirty_of, seen_state}
use Rattle.world_parts.specs.Comes.{Comes, ShowsState}
use Rattle.world_parts.specs.Tabling.{IsTableBy}
use Rattle.world_parts.specs.Steps.{with_history, after_admission, IsAnswered, after_wait, after_actor_end, IsActorIdle}
use Rattle.world_parts.proofs.InStep.{ended-push}
use Rattle.world_parts.proofs.Coherence.{coherent-admission, coherent-end, coherent-same}
use Rattle.world_parts.proofs.Judging.{judged-inside, judged-allowed}
use Rattle.world_parts.specs.Coherent.{AreJobsKept, IsCoherent}
use Rattle.world_parts.proofs.Pushing.{comes-push, rises-quiet}

-- ---- the state with other guests shows the world with another history

pub stands-onward : (s : State) (guests : List Guest) (ended : List ℕ) → StandsAtRest s → StandsAtRest (record s { guests = guests; ended = ended })
stands-onward s guests ended is = beside_rests s (record s { guests = guests; ended = ended }) refl refl refl refl (λ node has. has) is

pub shows-onward : (o : Opening) (s : State) (w : WorldSeen) (p : Progress) (guests : List Guest) (ended : List ℕ) → ShowsState o s w → guests ≡ p.guests → ended ≡ ended_in p.log.events
    → ShowsState o (record s { guests = guests; ended = ended }) (record w { progress = p })
shows-onward o s w p guests ended shows are ends = record {
  stands = stands-onward s guests ended shows.stands;
  dirty = shows.dirty;
  table = record { room_is = shows.table.room_is; table_is = shows.table.table_is; rest = record { started = shows.table.rest.started; ended = shows.table.rest.ended } };
  guests = record { guests_are = are; ended_are = ends };
  contents = record {
    disks = shows.contents.disks;
    known = shows.contents.known;
    absent = shows.contents.absent;
    left = shows.contents.left;
    unchanged = shows.contents.unchanged;
  };
  images = λ node. record { noted = (shows.images node).noted; mapped = (shows.images node).mapped };
}

-- the state of another entry differs in guests and ends alone
pub record HasSameFiles (s now : State) : Type 0 where
  pub table : now.table ≡ s.table
  pub files : now.files ≡ s.files
  pub left : now.left ≡ s.left
  pub starts : now.starts ≡ s.starts

pub record IsBeside (s now : State) : Type 0 where
  pub files : HasSameFiles s now
  pub disks : now.disks ≡ s.disks
  pub begun : now.begun ≡ s.begun

pub files-beside : (s now : State) → HasSameFiles s now → TargetFilesStand s → TargetFilesStand now
files-beside s now beside was = record {
  unknown = rw (beside.table, beside.files) was.unknown;
  none_left = rw (beside.table, beside.left, beside.starts) was.none_left;
}

-- an entry that names no fault and marks no disk
pub record IsQuietEntry (e : Event) : Type 0 where
  pub names : named_in e ≡ None
  pub marks : (s : State) → marks_of s e ≡ []
  pub jobs : leaves_jobs e ≡ true
  pub lines : (s : State) → jobs_from s (e ∷ []) ≡ []
  pub beside : (s : State) → IsBeside s (after s e)

-- a world with another history, in which nothing is set aside for another job
pub record IsBesideJobs (p q : Progress) : Type 0 where
  pub aside : q.aside ≡ p.aside
  pub jobs : q.jobs ≡ p.jobs

pub quiet : (o : Opening) (w : WorldSeen) (p : Progress) (e : Event) → Comes o w → p.log.events ≡ w.progress.log.events ++ e ∷ [] → p.guests ≡ guest_step w.progress.guests e
    → IsTableBy w.progress.guests w.table (dirty_of w) e w.table (dirty_of w)
    → (IsCoherent w.table w.nodes w.opened w.progress → IsCoherent w.table w.nodes w.opened p)
    → IsBesideJobs w.progress p → IsQuietEntry e → ((s : State) → ShowsState o s w → Fits s e × ShowsState o (after s e) (record w { progress = p })) → Comes o (record w { progress = p })
quiet o w p e comes events guests table coherent aside is fits = comes-push o w (record w { progress = p }) (e ∷ []) comes (record {
  events = events;
  names = refl;
  told = refl;
  guests = guests;
  table = (w.table, dirty_of w, table, (refl, refl));
  granules = λ was. was;
  counted = λ was. was;
  coherent = coherent;
  jobs = λ was. subst (AreJobsKept w.table w.works) (sym aside.aside) was;
  kept = rises-quiet _ _ w.progress.log.events w.works e is.names;
  sound = comes.sound;
  fits = λ told shows going.
      let s : State = replay (start o) w.progress.log.events in
      let does = fits s shows in
      record {
        legal = (does.0, tt);
        marks = (rw (is.marks s) (All-nil (IsCalm s.table s.guests)), tt);
        shows = does.1;
        going = record {
          begun = other_begun s e is.jobs going.begun;
          files = files-beside s (after s e) (is.beside s).files going.files;
          ahead =
              entries_leave (start o) s (after s e) w.progress.log.events e (disk_of w.nodes) w.works (is.beside s).files.table (is.beside s).disks (is.beside s).begun
              going.ahead;
          unsure = other_held s e is.jobs going.unsure;
          whole = beside_whole s (after s e) (is.beside s).files.table (is.beside s).disks going.whole;
        };
        names = aside.jobs ∙ sym (append-nil w.progress.jobs) ∙ ap (λ ns. w.progress.jobs ++ ns) (sym (is.lines s));
      };
})

-- the guests and the ends that the world shows are the replay's
judged : (o : Opening) (s : State) (w : WorldSeen) (g r : ℕ) (P : Bool → ℕ → Type 0) → ShowsState o s w → IsNextJudged (seen_state w) g r P → IsNextJudged s g r P
judged o s w g r P shows is = rw (shows.guests.ended_are, shows.guests.guests_are, shows.table.table_is) is

-- ---- admissions

admission-kept : (o : Opening) (w : WorldSeen) (g : ℕ) (op : Op) → IsNextJudged (seen_state w) g (requests_done w.progress.guests g) (CanAdmit op) → Comes o w → Comes o (with_history w (with_admission g op))
admission-kept o w g op is comes =
    quiet o w (with_admission g op w.progress) (Admit g (requests_done w.progress.guests g) op) comes refl refl (refl, refl)
    (λ was. coherent-admission _ _ _ _ was g op (judged-inside w g (requests_done w.progress.guests g) op is) (judged-allowed w g (requests_done w.progress.guests g) op is)) (record { aside = refl; jobs = refl })
    (record { names = refl; marks = λ s. refl; jobs = refl; lines = λ s. refl; beside = λ s. record { files = record { table = refl; files = refl; left = refl; starts = refl }; disks = refl; begun = refl } })
    (λ s shows. (
      (shows.table.rest, judged o s w g (requests_done w.progress.guests g) (CanAdmit op) shows is),
      shows-onward o s w (with_admission g op w.progress) (change g (admitted op) s.guests) s.ended shows (ap (change g (admitted op)) shows.guests.guests_are)
          (shows.guests.ended_are ∙ sym (ended-push w.progress.log.events (Admit g (requests_done w.progress.guests g) op) refl)),
    ))

refusal-kept : (o : Opening) (w : WorldSeen) (g : ℕ) (op : Op) (why : Refused) → IsNextJudged (seen_state w) g (requests_done w.progress.guests g) (λ access size. IsRefusedFor op access size why)
    → Comes o w → Comes o (with_history w (with_refusal g op why))
refusal-kept o w g op why is comes =
    quiet o w (with_refusal g op why w.progress) (Refuse g (requests_done w.progress.guests g) op why) comes refl refl (refl, refl)
    (λ was. coherent-end _ _ _ _ was (with_refusal g op why w.progress) g refl) (record { aside = refl; jobs = refl })
    (record { names = refl; marks = λ s. refl; jobs = refl; lines = λ s. refl; beside = λ s. record { files = record { table = refl; files = refl; left = refl; starts = refl }; disks = refl; begun = refl } })
    (λ s shows. (
      (shows.table.rest, judged o s w g (requests_done w.progress.guests g) (λ access size. IsRefusedFor op access size why) shows is),
      shows-onward o s w (with_refusal g op why w.progress) (change g finished s.guests) s.ended shows (ap (change g finished) shows.guests.guests_are)
          (shows.guests.ended_are ∙ sym (ended-push w.progress.log.events (Refuse g (requests_done w.progress.guests g) op why) refl)),
    ))

-- the number that was judged is the next one
number-is : (w : WorldSeen) (g r : ℕ) (P : Bool → ℕ → Type 0) → IsNextJudged (seen_state w) g r P → r ≡ requests_done w.progress.guests g
number-is w g r P is = at (slice_get w.progress.guests g) is.1
  where
    at : (row : Option Guest) → With row (λ x. IsNext x r) → r ≡ unwrap_or (option_map (λ (x : Guest). x.done) row) 0
    at None none = absurd none
    at (Some row) next = next.number

pub admission-comes : (w : WorldSeen) (g : ℕ) (op : Op) (answer : Admission) → IsAnswered w g op answer → (o : Opening) → Comes o w → Comes o (after_admission w g op answer)
admission-comes w g op (Admitted r) is o comes =
    let number = number-is w g r (CanAdmit op) is.0 in
    admission-kept o w g op (subst (λ n. IsNextJudged (seen_state w) g n (CanAdmit op)) number is.0) comes
admission-comes w g op (NotAdmitted why) is o comes = refusal-kept o w g op why is.0 comes
admission-comes w g op (Held back) is o comes = comes
admission-comes w g op (Away back) is o comes = comes

-- ---- requests that are over

-- the request in flight, by the guest's row
pub in-flight : (guests : List Guest) (g : ℕ) (P : Flight → Type 0) → With (flight_at guests g) P
    → With (slice_get guests g) (λ row. (requests_done guests g ≡ row.done) × With row.flight P)
in-flight guests g P is = at (slice_get guests g) refl is
  where
    at : (row : Option Guest) → slice_get guests g ≡ row → With (option_and_then (λ (x : Guest). x.flight) row) P → With row (λ x. (requests_done guests g ≡ x.done) × With x.flight P)
    at None e none = none
    at (Some row) e flies = (rw e refl, flies)

pub retirement-comes : (w : WorldSeen) (g : ℕ) → With (flight_at w.progress.guests g) IsFlightOver → (o : Opening) → Comes o w → Comes o (with_history w (with_retirement g))
retirement-comes w g is o comes =
    quiet o w (with_retirement g w.progress) (Retire g (requests_done w.progress.guests g)) comes refl refl (refl, refl)
    (λ was. coherent-end _ _ _ _ was (with_retirement g w.progress) g refl) (record { aside = refl; jobs = refl })
    (record { names = refl; marks = λ s. refl; jobs = refl; lines = λ s. refl; beside = λ s. record { files = record { table = refl; files = refl; left = refl; starts = refl }; disks = refl; begun = refl } })
    (λ s shows. (
      (shows.table.rest, rw shows.guests.guests_are (in-flight w.progress.guests g IsFlightOver is)),
      shows-onward o s w (with_retirement g w.progress) (change g finished s.guests) s.ended shows (ap (change g finished) shows.guests.guests_are)
          (shows.guests.ended_are ∙ sym (ended-push w.progress.log.events (Retire g (requests_done w.progress.guests g)) refl)),
    ))

-- ---- waits

pub none-is : {A : Type 0} (x : Option A) → is_none x ≡ true → is_some x ≡ false
none-is None is = refl
none-is (Some a) is = absurd (let bad : ⊥ = cc is in bad)

met : (o : Opening) (s : State) (w : WorldSeen) (what : Await (List ℕ)) → ShowsState o s w → IsMet (seen_state w) what → IsMet s what
met o s w (await.Guest g requests) shows is = rw shows.guests.guests_are is
met o s w (await.Ready id) shows is = rw shows.table.table_is is
met o s w (await.Ended id) shows is = rw shows.table.table_is is

pub undone : (o : Opening) (s : State) (w : WorldSeen) (actor : ℕ) → ShowsState o s w → IsNotDone (seen_state w) actor → IsNotDone s actor
undone o s w actor shows is = rw shows.guests.ended_are is

pub wait-comes : (w : WorldSeen) (line : ℕ) (what : Await (List ℕ)) (is_over : Bool) → IsNotDone (seen_state w) 0 → (is_over ≡ true → IsMet (seen_state w) what)
    → (o : Opening) → Comes o w → Comes o (after_wait w line what is_over)
wait-comes w line what true not_done is o comes =
    quiet o w (with_bare_entry (Reached line what) w.progress) (Reached line what) comes refl refl (refl, refl)
    (λ was. coherent-same _ _ _ _ was (with_bare_entry (Reached line what) w.progress) refl) (record { aside = refl; jobs = refl })
    (record { names = refl; marks = λ s. refl; jobs = refl; lines = λ s. refl; beside = λ s. record { files = record { table = refl; files = refl; left = refl; starts = refl }; disks = refl; begun = refl } })
    (λ s shows. (
      (shows.table.rest, (undone o s w 0 shows not_done, met o s w what shows (is refl))),
      shows-onward o s w (with_bare_entry (Reached line what) w.progress) s.guests s.ended shows shows.guests.guests_are
          (shows.guests.ended_are ∙ sym (ended-push w.progress.log.events (Reached line what) refl)),
    ))
wait-comes w line what false not_done is o comes = comes

-- ---- ends of actors

end-fits : (o : Opening) (s : State) (w : WorldSeen) (actor : ℕ) → ShowsState o s w → IsNotDone (seen_state w) actor → IsActorIdle w.progress.guests actor → Fits s (Done actor)
end-fits o s w zero shows not_done idle = (shows.table.rest, undone o s w 0 shows not_done)
end-fits o s w (suc g) shows not_done idle = (shows.table.rest, (rw (add-one g) (undone o s w (suc g) shows not_done), rw shows.guests.guests_are idle))

pub end-comes : (w : WorldSeen) (actor : ℕ) → IsNotDone (seen_state w) actor → IsActorIdle w.progress.guests actor → (o : Opening) → Comes o w → Comes o (after_actor_end w actor)
end-comes w actor not_done idle o comes =
    quiet o w (with_bare_entry (Done actor) w.progress) (Done actor) comes refl refl (refl, refl)
    (λ was. coherent-same _ _ _ _ was (with_bare_entry (Done actor) w.progress) refl) (record { aside = refl; jobs = refl })
    (record { names = refl; marks = λ s. refl; jobs = refl; lines = λ s. refl; beside = λ s. record { files = record { table = refl; files = refl; left = refl; starts = refl }; disks = refl; begun = refl } })
    (λ s shows. (
      end-fits o s w actor shows not_done idle,
      shows-onward o s w (with_bare_entry (Done actor) w.progress) s.guests (s.ended ++ actor ∷ []) shows shows.guests.guests_are
          (rw shows.guests.ended_are (sym (filter_map-append actor_done w.progress.log.events (Done actor ∷ [])))),
    ))
