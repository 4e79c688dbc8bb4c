-- How a run ends: all is done, or each actor that isn't is blocked.
use Rattle.std.proofs.Common.{◌≡◌, ℕ, zero, suc, ◌+◌, ◌<◌, true, false, Bool, List, [], ◌∷◌, length, refl, sym, ◌∙◌, ap, subst, arith, add-one, Option, Some, None, inl, inr}
use Rattle.std.specs.Prelude.{slice_get, Contains}
use Rattle.std.proofs.lemmas.Bool.{eq-eqb, false≢true}
use Rattle.trace_codec.specs.declared.wish.Wish.{Wish}
use Rattle.trace_codec.specs.declared.waits.Waits.{Waits}
use Rattle.trace_codec.specs.Script.{Order}
use Rattle.flat_machine.specs.State.{Guest, guest_at}
use Rattle.flat_machine.specs.Blocked.{ScriptWaits, TraceWaits, ActorWaits, IsUnfinished, IsStuck, JobWaits}
use Rattle.flat_machine.specs.Legal.{AllDone}
use Rattle.qmp_rules.specs.Table.{job_in}
use Rattle.qmp_rules.specs.declared.rows.JobRecord.{JobRecord}
use Rattle.flat_machine.specs.Courses.{Course, course_of, course_after, past_waits, rest_of, IsTraceUsedUp, AreAllDone, IsWhole}
use Rattle.world_parts.specs.Face.{WorldSeen, seen_state}
use Rattle.world_parts.specs.Progress.{ended_in, answered_in}
use Rattle.qblk_run.specs.Tasks.{Task, Tasks, CanGoOn, KeepsTo, IsTaskOf, IsFlying, Rests, TaskWaits, ScriptRests}
use Rattle.qblk_run.specs.Rounds.{AllRest, AreDone, IsFirstUndone, IsFirstGuest}
use Rattle.qblk_run.proofs.Lists.{get-below, below-get, at-with, with-map, with-some, none-has, some-has}
use Rattle.qblk_run.proofs.History.{course-answered, course-ended}

-- a guest's flight, by what is left of it
no-flight : (left : Option ℕ) (row : Guest) → left ≡ None → IsFlying left row.flight → row.flight ≡ None
no-flight None row none is = by_flight row.flight refl is
  where
    by_flight : (x : Option _) → row.flight ≡ x → IsFlying None x → row.flight ≡ None
    by_flight None e is = e
    by_flight (Some f) e is = absurd is
no-flight (Some n) row none is = absurd (let bad : ⊥ = cc none in bad)

module _ (w : WorldSeen) (tasks : Tasks) (orders : List Order) (traces : List (List Wish))
    (can : CanGoOn w.progress tasks) (keeps : KeepsTo orders traces w.progress.log.events tasks) where
  abbrev c : Course
  c = course_after (course_of orders traces) w.progress.log.events

  ended-is : c.ended ≡ ended_in w.progress.log.events
  ended-is = course-ended (course_of orders traces) w.progress.log.events

  answered-are : c.answered ≡ answered_in w.progress.log.events
  answered-are = course-answered (course_of orders traces) w.progress.log.events

  -- ---- who is unfinished

  script-goes-on : tasks.script.is_done ≡ false → IsUnfinished c 0
  script-goes-on going = (omega arith, λ has. none-has (ended_in w.progress.log.events) 0 tasks.script.is_done can.script.ended going (subst (λ (xs : List ℕ). Contains xs 0) ended-is has))

  guest-goes-on : (g : ℕ) (task : Task) → slice_get tasks.guests g ≡ Some task → task.is_done ≡ false → IsUnfinished c (g + 1)
  guest-goes-on g task there going =
      let below = below-get tasks.guests g task there in
      let count = keeps.rests.count in
      (omega arith, λ has. none-has (ended_in w.progress.log.events) (g + 1) task.is_done (can.guests g task there).ended going (subst (λ (xs : List ℕ). Contains xs (g + 1)) ended-is has))

  script-has-ended : tasks.script.is_done ≡ true → Contains c.ended 0
  script-has-ended done = subst (λ (xs : List ℕ). Contains xs 0) (sym ended-is) (some-has (ended_in w.progress.log.events) 0 tasks.script.is_done can.script.ended done)

  guest-has-ended : (g : ℕ) (task : Task) → slice_get tasks.guests g ≡ Some task → task.is_done ≡ true → Contains c.ended (g + 1)
  guest-has-ended g task there done =
      subst (λ (xs : List ℕ). Contains xs (g + 1)) (sym ended-is) (some-has (ended_in w.progress.log.events) (g + 1) task.is_done (can.guests g task there).ended done)

  -- ---- who is blocked

  script-blocked : (what : Waits (List ℕ)) → ScriptWaits (seen_state w) tasks.script.orders what → ActorWaits (seen_state w) c 0 what
  script-blocked what waits = inl (refl, rw keeps.rests.script waits)

  guest-blocked : (g : ℕ) (task : Task) (what : Waits (List ℕ)) → slice_get tasks.guests g ≡ Some task → TaskWaits w g task → TraceWaits (seen_state w) g task.wishes what
      → ActorWaits (seen_state w) c (g + 1) what
  guest-blocked g task what there is waits =
      let row = with-some (slice_get w.progress.guests g) (λ row. IsTaskOf row task) (can.guests g task there).row in
      let passed : past_waits c.answered task.wishes ≡ task.wishes = ap (λ (a : List ℕ). past_waits a task.wishes) answered-are ∙ is.passed in
      inr (
        g,
        refl,
        record {
          idle = at-with (guest_at (seen_state w) g) row.0 (λ r. r.flight ≡ None) row.1 (no-flight task.left row.0 is.idle row.2.flying);
          next = with-map (rest_of c g) _ _ (λ wishes same. subst (λ (x : List Wish). TraceWaits (seen_state w) g x what) (sym (same ∙ passed)) waits) (keeps.rests.traces g task there);
        },
      )

  -- each actor that is not done is
  blocked-guest : (g : ℕ) (task : Task) → slice_get tasks.guests g ≡ Some task → task.is_done ≡ false → Rests w g task
      → (what : Waits (List ℕ)) × ActorWaits (seen_state w) c (g + 1) what
  blocked-guest g task there going (inl done) = absurd (false≢true (sym going ∙ done))
  blocked-guest g task there going (inr waits) = (waits.what, guest-blocked g task waits.what there waits waits.waits)

  blocked-script : tasks.script.is_done ≡ false → ScriptRests w tasks.script → (what : Waits (List ℕ)) × ActorWaits (seen_state w) c 0 what
  blocked-script going (inl done) = absurd (false≢true (sym going ∙ done))
  blocked-script going (inr waits) = (waits.0, script-blocked waits.0 waits.1)

  others-blocked : AllRest w tasks → (other : ℕ) → IsUnfinished c other → (what : Waits (List ℕ)) × ActorWaits (seen_state w) c other what
  others-blocked rest zero unfinished = by_test tasks.script.is_done refl
    where
      by_test : (b : Bool) → tasks.script.is_done ≡ b → (what : Waits (List ℕ)) × ActorWaits (seen_state w) c 0 what
      by_test true e = absurd (unfinished.1 (script-has-ended e))
      by_test false e = blocked-script e rest.script
  others-blocked rest (suc g) unfinished =
      let count = keeps.rests.count in
      let below = unfinished.0 in
      let task = get-below tasks.guests g (omega arith) in
      by_test task.0 task.1 task.0.is_done refl
    where
      by_test : (task : Task) → slice_get tasks.guests g ≡ Some task → (b : Bool) → task.is_done ≡ b → (what : Waits (List ℕ)) × ActorWaits (seen_state w) c (suc g) what
      by_test task there true e =
          absurd (unfinished.1 (subst (λ (n : ℕ). Contains c.ended n) (add-one g) (guest-has-ended g task there e)))
      by_test task there false e =
          subst (λ (n : ℕ). (what : Waits (List ℕ)) × ActorWaits (seen_state w) c n what) (add-one g)
          (blocked-guest g task there e (rest.guests g task (below-get tasks.guests g task there) there))

  -- ---- the first of them

  stuck-script : AllRest w tasks → (what : Waits (List ℕ)) → tasks.script.is_done ≡ false → ScriptWaits (seen_state w) tasks.script.orders what
      → IsStuck (seen_state w) c 0 what
  stuck-script rest what going waits = record {
    unfinished = script-goes-on going;
    waiting = script-blocked what waits;
    first = λ other below unfinished. absurd (omega arith);
    others = others-blocked rest;
    slots = rest.slots;
  }

  rests-task : (g : ℕ) (task : Task) → slice_get tasks.guests g ≡ Some task → task.is_done ≡ false → Rests w g task → TaskWaits w g task
  rests-task g task there going (inl done) = absurd (false≢true (sym going ∙ done))
  rests-task g task there going (inr waits) = waits

  stuck-guest : AllRest w tasks → (g : ℕ) (what : Waits (List ℕ)) → tasks.script.is_done ≡ true → IsFirstGuest w tasks.guests g what
      → IsStuck (seen_state w) c (g + 1) what
  stuck-guest rest g what done first =
      let waits = rests-task g first.task first.there first.runs (rest.guests g first.task (below-get tasks.guests g first.task first.there) first.there) in
      record {
        unfinished = guest-goes-on g first.task first.there first.runs;
        waiting = guest-blocked g first.task what first.there waits first.waits;
        first = earlier;
        others = others-blocked rest;
        slots = rest.slots;
      }
    where
      before : (k : ℕ) → k < g → Contains c.ended (k + 1)
      before k less =
          let below = below-get tasks.guests g first.task first.there in
          let task = get-below tasks.guests k (omega arith) in
          guest-has-ended k task.0 task.1 (first.before k task.0 less task.1)

      earlier : (other : ℕ) → other < g + 1 → IsUnfinished c other → ⊥
      earlier zero less unfinished = unfinished.1 (script-has-ended done)
      earlier (suc k) less unfinished = unfinished.1 (subst (λ (n : ℕ). Contains c.ended n) (add-one k) (before k (omega arith)))

  pub is-stuck : AllRest w tasks → (actor : ℕ) (what : Waits (List ℕ)) → IsFirstUndone w tasks actor what → IsStuck (seen_state w) c actor what
  is-stuck rest actor what (inl first) = rw first.0 (stuck-script rest what first.1 first.2)
  is-stuck rest actor what (inr first) = rw first.1.1 (stuck-guest rest first.1.0 what first.0 first.1.2)

  -- ---- all is done

  all-done : AreDone tasks → AllDone (seen_state w)
  all-done done zero below = some-has (ended_in w.progress.log.events) 0 tasks.script.is_done can.script.ended done.script
  all-done done (suc g) below =
      let count = can.count in
      let task = get-below tasks.guests g (omega arith) in
      subst (λ (n : ℕ). Contains (ended_in w.progress.log.events) n) (add-one g)
      (some-has (ended_in w.progress.log.events) (g + 1) task.0.is_done (can.guests g task.0 task.1).ended (done.guests g task.0 task.1))

  -- then no job waits, and so none is there
  pub no-jobs : AllRest w tasks → AreDone tasks → ((row : JobRecord) → Contains w.table.jobs row → row.slot < 16) → w.table.jobs ≡ []
  no-jobs rest done small = by_rows w.table.jobs refl
    where
      by_rows : (rows : List JobRecord) → w.table.jobs ≡ rows → w.table.jobs ≡ []
      by_rows [] is = is
      by_rows (row ∷ rows) is =
          let first : Contains w.table.jobs row = subst (λ (all : List JobRecord). Contains all row) (sym is) (zero, omega arith, refl) in
          let found : job_in w.table row.slot ≡ Some row = rw (is, eq-eqb row.slot row.slot refl) refl in
          absurd ((subst (JobWaits (seen_state w)) found (rest.slots row.slot (small row first))).2 (all-done done))

  pub is-whole : AreDone tasks → IsWhole orders traces w.progress.log.events
  is-whole done = record {
    order = keeps.order;
    used = record { script = keeps.rests.script ∙ can.script.used done.script; traces = used };
    done = all;
  }
    where
      used : (g : ℕ) → g < length c.traces → IsTraceUsedUp c g
      used g below =
          let count = keeps.rests.count in
          let task = get-below tasks.guests g (omega arith) in
          let row = with-some (slice_get w.progress.guests g) (λ row. IsTaskOf row task.0) (can.guests g task.0 task.1).row in
          let none = (row.2.used (done.guests g task.0 task.1)).0 in
          with-map (rest_of c g) _ _ (λ wishes same. same ∙ ap (past_waits c.answered) none) (keeps.rests.traces g task.0 task.1)

      all : AreAllDone c
      all zero below = script-has-ended done.script
      all (suc g) below =
          let count = keeps.rests.count in
          let task = get-below tasks.guests g (omega arith) in
          subst (λ (n : ℕ). Contains c.ended n) (add-one g) (guest-has-ended g task.0 task.1 (done.guests g task.0 task.1))

  pub idle-at : AreDone tasks → (g : ℕ) (row : Guest) → slice_get w.progress.guests g ≡ Some row → row.flight ≡ None
  idle-at done g row there =
      let count = can.count in
      let below = below-get w.progress.guests g row there in
      let task = get-below tasks.guests g (omega arith) in
      let found = with-some (slice_get w.progress.guests g) (λ r. IsTaskOf r task.0) (can.guests g task.0 task.1).row in
      let same : found.0 ≡ row = some-same (sym found.1 ∙ there) in
      rw (← same) (no-flight task.0.left found.0 (found.2.used (done.guests g task.0 task.1)).1 found.2.flying)
    where
      some-same : {a b : Guest} → Some a ≡ Some b → a ≡ b
      some-same e = cc
