-- The actors can go on after each turn, and after several.
use Rattle.std.proofs.Common.{◌≡◌, ◌≢◌, ◌⊎◌, ℕ, ◌+◌, ◌*◌, ◌^◌, ◌<◌, true, false, Bool, List, [], ◌∷◌, length, set, refl, sym, ◌∙◌, ap, subst, arith, Option, Some, None, inl, inr, Result, Ok, Err, IfOk, OnOk}
use Rattle.std.specs.Prelude.{slice_get, IsSome, ◌||◌}
use Rattle.std.proofs.Math.ListN.{length-set}
use Rattle.std.proofs.lemmas.Bool.{false≢true}
use Rattle.trace_codec.specs.declared.wish.Wish.{Wish}
use Rattle.trace_codec.specs.declared.order.Order.TheVariants.{Give, Watch}
use Rattle.trace_codec.specs.Script.{Order}
use Rattle.blk_history.specs.Fold.{With}
use Rattle.blk_history.specs.Machine.{Flight}
use Rattle.blk_history.specs.declared.event.Event.{Event}
use Rattle.blk_history.specs.declared.event.Event.TheVariants.{Admit, Refuse, Piece, Retire, Reply, Reached, Start, Ready, End, Done}
use Rattle.flat_machine.specs.Blocked.{ScriptWaits, SlotWaits}
use Rattle.flat_machine.specs.Marks.{Drained, holds_disk, is_guest_held}
use Rattle.flat_machine.specs.State.{disk_of_guest}
use Rattle.flat_machine.specs.Courses.{course_of, course_after, past_waits, rest_of}
use Rattle.world_parts.specs.Face.{WorldSeen, seen_state}
use Rattle.world_parts.specs.Progress.{Progress, answered_in}
use Rattle.qblk_inputs.specs.Room.{bytes_for}
use Rattle.qblk_run.specs.Tasks.{Task, ScriptTask, Tasks, IsTaskOf, IsTaskIn, IsFlying, IsScriptIn, AreDrainsOf, CanGoOn, KeepsTo, IsRestOf, Halts, IsGiving, IsPutOffFor, Rests, ScriptHalts, ScriptRests, entries_to_come, steps_of, steps_of_all, steps_of_tasks, flight_entries, entries_in_flight}
use Rattle.qblk_run.specs.Slots.{NoneFlies, SlotHalts, StandsInRun, parts_left}
use Rattle.qblk_run.specs.Turns.{DrainsAfter, IsOwnOrder, IsScriptPutOff, IsScriptTurn, ScriptMoves, StaysIn}
use Rattle.qblk_run.specs.Rounds.{AllRest, AreGuestTurns, AreSlotTurns, Continues, Goes, GuestsHalt, HasTurn, LeavesLess, LeavesNoMore, SlotsHalt, SlotsWait, steps_in}
use Rattle.qblk_run.proofs.Lists.{same_or_not, get-below, below-get, get-set, get-set-other, with-at, with-map, with-some}
use Rattle.qblk_run.proofs.Waits.{grows-same, through, entries-past, bytes-past, numbers-past, length-past}
use Rattle.qblk_run.proofs.History.{course-answered}
use Rattle.qblk_run.proofs.Sums.{entries-set, bytes-set, steps-set}
use Rattle.qblk_run.proofs.Bounds.{parts-bounded}
use Rattle.qblk_run.proofs.Resting.{none-hold}
use Rattle.qblk_run.proofs.Moves.{move-can}
use Rattle.qblk_run.proofs.Orders.{stays, rests-advance, move-order, move-lines}
use Rattle.qblk_run.proofs.Scripts.{script-can, script-order, script-lines}
use Rattle.qblk_run.proofs.Worlds.{put-off-flies, put-off-gives, put-off-left}

-- ---- a guest that makes no entry

-- the task without waits that are over
pub record Passes (a : List ℕ) (before after : Task) : Type 0 where
  pub wishes : after.wishes ≡ past_waits a before.wishes
  pub left : after.left ≡ before.left
  pub is_done : after.is_done ≡ before.is_done

pub entries-same : (a : List ℕ) (before after : Task) → Passes a before after → entries_to_come after ≡ entries_to_come before
entries-same a before after passes =
    let n = entries-past a before.wishes in
    rw (passes.wishes, passes.is_done, n) refl

pub bytes-same : (a : List ℕ) (before after : Task) → Passes a before after → bytes_for after.wishes ≡ bytes_for before.wishes
bytes-same a before after passes = ap bytes_for passes.wishes ∙ bytes-past a before.wishes

steps-same : (a : List ℕ) (before after : Task) → Passes a before after → steps_of after ≡ steps_of before
steps-same a before after passes =
    let n = entries-same a before after passes in
    let m = passes.left in
    let f : entries_in_flight after.left ≡ entries_in_flight before.left = ap entries_in_flight m in
    omega arith

pub passed-task : (p : Progress) (a : List ℕ) (g : ℕ) (before after : Task) → Passes a before after → IsTaskIn p g before → IsTaskIn p g after
passed-task p a g before after passes was = record {
  row = with-map (slice_get p.guests g) (λ row. IsTaskOf row before) (λ row. IsTaskOf row after) (λ row is.
      let short = length-past a before.wishes in
      let size : length after.wishes ≡ length (past_waits a before.wishes) = ap length passes.wishes in
      let flies : flight_entries after.left ≡ flight_entries before.left = ap flight_entries passes.left in
      let count = is.count in
      record {
        flying = rw passes.left is.flying;
        count = omega arith;
        numbers = rw passes.wishes (numbers-past a before.wishes is.numbers);
        used = λ done. let none = is.used (sym passes.is_done ∙ done) in (passes.wishes ∙ ap (past_waits a) none.0, passes.left ∙ none.1);
      }) was.row;
  ended = passes.is_done ∙ was.ended;
}

module _ (p : Progress) (script : ScriptTask) (tasks : List Task) (g : ℕ) (before after : Task)
    (there : slice_get tasks g ≡ Some before) (passes : Passes (answered_in p.log.events) before after) where
  still-can : CanGoOn p (record { script = script; guests = tasks }) → CanGoOn p (record { script = script; guests = set tasks g after })
  still-can can =
      let size : length (set tasks g after) ≡ length tasks = length-set tasks g after in
      let few = can.few in
      let entries = entries-set tasks g before after there in
      let bytes = bytes-set tasks g before after there in
      let same_entries = entries-same (answered_in p.log.events) before after passes in
      let same_bytes = bytes-same (answered_in p.log.events) before after passes in
      let had_entries = can.entries in
      let had_bytes = can.bytes in
      record {
        few = omega arith;
        count = size ∙ can.count;
        guests = λ k task is. by_place k task is (same_or_not k g);
        script = can.script;
        entries = omega arith;
        bytes = omega arith;
      }
    where
      by_place : (k : ℕ) (task : Task) → slice_get (set tasks g after) k ≡ Some task → (k ≡ g) ⊎ (k ≢ g) → IsTaskIn p k task
      by_place k task is (inl same) =
          let now : after ≡ task = get-set tasks g after task (rw same at is) in
          rw (same, ← now) (passed-task p (answered_in p.log.events) g before after passes (can.guests g before there))
      by_place k task is (inr apart) = can.guests k task (sym (get-set-other tasks g k after apart) ∙ is)

  still-order : (orders : List Order) (traces : List (List Wish)) → KeepsTo orders traces p.log.events (record { script = script; guests = tasks })
      → KeepsTo orders traces p.log.events (record { script = script; guests = set tasks g after })
  still-order orders traces keeps =
      let c = course_after (course_of orders traces) p.log.events in
      let a : c.answered ≡ answered_in p.log.events = course-answered (course_of orders traces) p.log.events in
      let rest : IsRestOf c g after = with-map (rest_of c g) _ _ (λ wishes same.
      same ∙ sym (through c.answered c.answered (grows-same c.answered) before.wishes) ∙ ap (past_waits c.answered) (sym (passes.wishes ∙ ap (λ x. past_waits x before.wishes) (sym a))))
      (keeps.rests.traces g before there) in
      record { order = keeps.order; rests = rests-advance c c script tasks g after (stays c g after rest) keeps.rests }

-- ---- drains

pub drains_stay : (w v : WorldSeen) (script : ScriptTask) → StaysIn w v → v.drains.command ≡ w.drains.command → AreDrainsOf w script → AreDrainsOf v script
drains_stay w v script stays same was = record { jobs = stays.drains was.jobs; command = by_command was.command }
  where
    by_command : (w.drains.command ≡ []) ⊎ IsGiving script.orders → (v.drains.command ≡ []) ⊎ IsGiving script.orders
    by_command (inl none) = inl (same ∙ none)
    by_command (inr gives) = inr gives

-- ---- less is left

pub more-then : (w v u : WorldSeen) (a b c : Tasks) → LeavesNoMore w v a b → LeavesNoMore v u b c → LeavesNoMore w u a c
more-then w v u a b c (inl x) (inl y) = inl (omega (arith, x, y))
more-then w v u a b c (inl x) (inr y) = inl (omega (arith, x, y.0))
more-then w v u a b c (inr x) (inl y) = inl (omega (arith, x.0, y))
more-then w v u a b c (inr x) (inr y) = inr (omega (arith, x.0, y.0), omega (arith, x.1, y.1))

pub less-then : (w v u : WorldSeen) (a b c : Tasks) → LeavesLess w v a b → LeavesNoMore v u b c → LeavesLess w u a c
less-then w v u a b c (inl x) (inl y) = inl (omega (arith, x, y))
less-then w v u a b c (inl x) (inr y) = inl (omega (arith, x, y.0))
less-then w v u a b c (inr x) (inl y) = inl (omega (arith, x.0, y))
less-then w v u a b c (inr x) (inr y) = inr (omega (arith, x.0, y.0), omega (arith, x.1, y.1))

pub then-less : (w v u : WorldSeen) (a b c : Tasks) → LeavesNoMore w v a b → LeavesLess v u b c → LeavesLess w u a c
then-less w v u a b c (inl x) (inl y) = inl (omega (arith, x, y))
then-less w v u a b c (inl x) (inr y) = inl (omega (arith, x, y.0))
then-less w v u a b c (inr x) (inl y) = inl (omega (arith, x.0, y))
then-less w v u a b c (inr x) (inr y) = inr (omega (arith, x.0, y.0), omega (arith, x.1, y.1))

pub same-more : (w v : WorldSeen) (a b : Tasks) → v.progress ≡ w.progress → v.works ≡ w.works → steps_of_tasks b ≡ steps_of_tasks a → LeavesNoMore w v a b
same-more w v a b progress works steps =
    let aside : v.progress.aside ≡ w.progress.aside = ap (λ (p : Progress). p.aside) progress in
    let left : parts_left v.works ≡ parts_left w.works = ap parts_left works in
    inr (omega (arith, aside, steps), omega (arith, left))

-- ---- one turn

pub stands-on : (w v : WorldSeen) → StaysIn w v → (NoneFlies w.works → NoneFlies v.works) → StandsInRun w → StandsInRun v
stands-on w v stays flights was = record { opening = was.opening; comes = stays.comes was.opening was.comes; flights = flights was.flights }

pub continues-same : (w : WorldSeen) (a : Tasks) → CanGoOn w.progress a → Continues w w a a
continues-same w a can = record {
  can = can;
  order = λ orders traces keeps. keeps;
  lines = λ guests many lines. lines;
  drains = λ was. was;
  stands = λ was. was;
  more = same-more w w a a refl refl refl;
  count = refl;
}

-- a guest's task is less
turn-steps : (w v : WorldSeen) (script : ScriptTask) (old new : List Task) (g : ℕ) → HasTurn w v old new g true
    → steps_in v (record { script = script; guests = new }) < steps_in w (record { script = script; guests = old })
turn-steps w v script old new g turn =
    let move = turn.turn.0.1 in
    let steps = steps-set old g turn.task turn.now turn.there in
    let less = move.steps in
    let aside = move.aside in
    let now : steps_of_all new ≡ steps_of_all (set old g turn.now) = ap steps_of_all turn.after_is in
    omega (arith, steps, less, aside, now)

pub turn-continues : (w v : WorldSeen) (script : ScriptTask) (old new : List Task) (g : ℕ) (moved : Bool) → CanGoOn w.progress (record { script = script; guests = old })
    → StaysIn w v → HasTurn w v old new g moved → Continues w v (record { script = script; guests = old }) (record { script = script; guests = new })
turn-continues w v script old new g true can stays turn =
    let e = turn.turn.0.0 in
    let move = turn.turn.0.1 in
    let beside = turn.turn.1 in
    let less = turn-steps w v script old new g turn in
    record {
      can = rw turn.after_is (move-can w.progress v.progress script old g turn.task turn.now e turn.there move can);
      order = rw turn.after_is (move-order w.progress v.progress script old g turn.task turn.now e turn.there move);
      lines = move-lines w v old g turn.task turn.now e turn.there move beside;
      drains = drains_stay w v script stays (ap (λ (d : Drained). d.command) beside.drains);
      stands = stands-on w v stays beside.flights;
      more = inl less;
      count = rw turn.after_is (length-set old g turn.now);
    }
turn-continues w v script old new g false can stays turn =
    let still = turn.turn in
    let passes : Passes (answered_in w.progress.log.events) turn.task turn.now = record { wishes = still.wishes; left = still.left; is_done = still.is_done } in
    let steps = steps-set old g turn.task turn.now turn.there in
    let same = steps-same (answered_in w.progress.log.events) turn.task turn.now passes in
    rw (turn.after_is, still.world) (record {
      can = still-can w.progress script old g turn.task turn.now turn.there passes can;
      order = still-order w.progress script old g turn.task turn.now turn.there passes;
      lines = λ guests many lines. lines;
      drains = λ was. was;
      stands = λ was. was;
      more = same-more w w (record { script = script; guests = old }) (record { script = script; guests = set old g turn.now }) refl refl (omega (arith, steps, same));
      count = length-set old g turn.now;
    })

-- the script's entry, and the drains behind it
script_drains : (w v : WorldSeen) (before after : ScriptTask) (e : Event) → StaysIn w v → IsOwnOrder before after e → DrainsAfter w v e → AreDrainsOf w before → AreDrainsOf v after
script_drains w v before after (Reply line given command text) stays own kept was =
    record { jobs = stays.drains was.jobs; command = inl (ap (λ (d : Drained). d.command) kept) }
script_drains w v before after (Reached line what) stays own kept was =
    record { jobs = stays.drains was.jobs; command = inl (ap (λ (d : Drained). d.command) kept ∙ none was.command) }
  where
    none : (w.drains.command ≡ []) ⊎ IsGiving before.orders → w.drains.command ≡ []
    none (inl is) = is
    none (inr gives) = absurd (subst IsGiving own.0 gives)
script_drains w v before after (Done actor) stays own kept was =
    record { jobs = stays.drains was.jobs; command = inl (ap (λ (d : Drained). d.command) kept ∙ none was.command) }
  where
    none : (w.drains.command ≡ []) ⊎ IsGiving before.orders → w.drains.command ≡ []
    none (inl is) = is
    none (inr gives) = absurd (subst IsGiving own.1 gives)
script_drains w v before after (Admit n r op) stays own kept was = absurd own
script_drains w v before after (Refuse n r op why) stays own kept was = absurd own
script_drains w v before after (Piece n r k outcome got) stays own kept was = absurd own
script_drains w v before after (Retire n r) stays own kept was = absurd own
script_drains w v before after (Start job) stays own kept was = absurd own
script_drains w v before after (Ready job) stays own kept was = absurd own
script_drains w v before after (End job outcome offset) stays own kept was = absurd own

script-put-off : (w v : WorldSeen) (before after : ScriptTask) (tasks : List Task) → CanGoOn w.progress (record { script = before; guests = tasks }) → StaysIn w v
    → IsScriptPutOff w v before after → Continues w v (record { script = before; guests = tasks }) (record { script = after; guests = tasks })
script-put-off w v before after tasks can stays off =
    let left = put-off-left before.orders w v off.off in
    let same : v.progress ≡ w.progress = ap (λ (u : WorldSeen). u.progress) left in
    let table : v.table ≡ w.table = ap (λ (u : WorldSeen). u.table) left in
    let works : v.works ≡ w.works = ap (λ (u : WorldSeen). u.works) left in
    record {
      can = rw (off.task, same) can;
      order = λ orders traces keeps. rw (off.task, same) keeps;
      lines = λ guests many lines. record { can = rw same lines.can; started = rw (same, table) lines.started };
      drains = λ was. record { jobs = stays.drains was.jobs; command = inr (rw off.task (put-off-gives before.orders w v off.off)) };
      stands = stands-on w v stays (λ none. subst NoneFlies (sym works) none);
      more = same-more w v (record { script = before; guests = tasks }) (record { script = after; guests = tasks }) same works
          (ap (λ (s : ScriptTask). steps_of_tasks (record { script = s; guests = tasks })) off.task);
      count = refl;
    }

-- a request in flight is waited for
put-off-for : (w v : WorldSeen) (before after : ScriptTask) → IsScriptPutOff w v before after → IsPutOffFor v.progress after
put-off-for w v before after off =
    let same : v.progress ≡ w.progress = ap (λ (u : WorldSeen). u.progress) (put-off-left before.orders w v off.off) in
    let flies = put-off-flies before.orders w v off.off in
    record {
      gives = rw off.task (put-off-gives before.orders w v off.off);
      guest = flies.0;
      flies = subst (λ (p : Progress). With (slice_get p.guests flies.0) (λ row. IsSome row.flight)) (sym same) flies.1;
    }

script-steps : (w v : WorldSeen) (before after : ScriptTask) (tasks : List Task) → ScriptMoves w v before after
    → steps_in v (record { script = after; guests = tasks }) < steps_in w (record { script = before; guests = tasks })
script-steps w v before after tasks turn = let less = turn.move.steps in omega (arith, less)

pub script-continues : (w v : WorldSeen) (before after : ScriptTask) (tasks : List Task) (moved : Bool) → CanGoOn w.progress (record { script = before; guests = tasks })
    → StaysIn w v → IsScriptTurn w v before after moved → Continues w v (record { script = before; guests = tasks }) (record { script = after; guests = tasks })
script-continues w v before after tasks true can stays turn =
    record {
      can = script-can w v before after tasks turn.entry turn.behind turn.move turn.starts can;
      order = script-order w v before after tasks turn.entry turn.behind turn.move turn.starts;
      lines = λ guests many. script-lines w v before after tasks turn.entry turn.behind turn.move turn.starts guests;
      drains = script_drains w v before after turn.entry stays turn.move.own turn.drains;
      stands = stands-on w v stays turn.flights;
      more = inl (script-steps w v before after tasks turn);
      count = refl;
    }
script-continues w v before after tasks false can stays (inl turn) =
    rw (turn.task, turn.world) (continues-same w (record { script = before; guests = tasks }) can)
script-continues w v before after tasks false can stays (inr off) = script-put-off w v before after tasks can stays off

-- ---- several

pub continues-then : (w v u : WorldSeen) (a b c : Tasks) → Continues w v a b → Continues v u b c → Continues w u a c
continues-then w v u a b c first then =
    let same = first.count in
    record {
      can = then.can;
      order = λ orders traces keeps. then.order orders traces (first.order orders traces keeps);
      lines = λ guests many lines. then.lines guests (omega arith) (first.lines guests many lines);
      drains = λ was. then.drains (first.drains was);
      stands = λ was. then.stands (first.stands was);
      more = more-then w v u a b c first.more then.more;
      count = then.count ∙ first.count;
    }

pub script-goes : (w v : WorldSeen) (before after : ScriptTask) (tasks : List Task) (moved : Bool) → IsScriptTurn w v before after moved
    → Goes w v (record { script = before; guests = tasks }) (record { script = after; guests = tasks }) 0 0 moved
script-goes w v before after tasks true turn = inl (script-steps w v before after tasks turn)
script-goes w v before after tasks false (inl turn) =
    (inl (rw turn.world turn.rests), λ g task below is. absurd (omega arith), λ slot below. absurd (omega arith))
script-goes w v before after tasks false (inr off) =
    (inr (put-off-for w v before after off), λ g task below is. absurd (omega arith), λ slot below. absurd (omega arith))

-- a guest's turn more
pub guests-on : (w v u : WorldSeen) (a b c : Tasks) (n : ℕ) (moved turned : Bool) → Continues w v a b → AreGuestTurns w v a b n moved
    → Continues v u b c → c.script ≡ b.script → HasTurn v u b.guests c.guests n turned → AreGuestTurns w u a c (n + 1) (turned || moved)
guests-on w v u a b c n moved true so goes then script turn =
    let less = turn-steps v u b.script b.guests c.guests n turn in
    let same : steps_in u c ≡ steps_in u (record { script = b.script; guests = c.guests }) = ap (λ (s : ScriptTask). steps_in u (record { script = s; guests = c.guests })) script in
    then-less w v u a b c so.more (inl (omega (arith, less, same)))
guests-on w v u a b c n true false so goes then script turn = less-then w v u a b c goes then.more
guests-on w v u a b c n false false so goes then script turn =
    (turn.turn.world ∙ goes.0, guests)
  where
    guests : GuestsHalt u (n + 1) c.guests
    guests g task below is = by_place (same_or_not g n)
      where
        by_place : (g ≡ n) ⊎ (g ≢ n) → Halts u g task
        by_place (inl same) =
            let now : turn.now ≡ task = get-set b.guests n turn.now task (rw (turn.after_is, same) at is) in
            rw (turn.turn.world, same, ← now) turn.turn.halts
        by_place (inr apart) =
            rw turn.turn.world (goes.1 g task (omega arith) (sym (get-set-other b.guests n g turn.now apart) ∙ rw turn.after_is at is))

pub no-guests : (w : WorldSeen) (a : Tasks) → AreGuestTurns w w a a 0 false
no-guests w a = (refl, λ g task below is. absurd (omega arith))

-- ---- nothing has moved in a whole round

-- a guest that makes no entry has no request in flight
halts-idle : (w : WorldSeen) (g : ℕ) (task : Task) → IsTaskIn w.progress g task → Halts w g task → task.left ≡ None
halts-idle w g task is (inl (inl done)) =
    let row = with-some (slice_get w.progress.guests g) (λ row. IsTaskOf row task) is.row in
    (row.2.used done).1
halts-idle w g task is (inl (inr waits)) = waits.idle
halts-idle w g task is (inr held) = held.idle

none-flies : (w : WorldSeen) (tasks : Tasks) → CanGoOn w.progress tasks → GuestsHalt w (length tasks.guests) tasks.guests
    → (g : ℕ) → With (slice_get w.progress.guests g) (λ row. IsSome row.flight) → ⊥
none-flies w tasks can halt g flies =
    let row = with-some (slice_get w.progress.guests g) (λ row. IsSome row.flight) flies in
    let below = below-get w.progress.guests g row.0 row.1 in
    let count = can.count in
    let task = get-below tasks.guests g (omega arith) in
    let is = can.guests g task.0 task.1 in
    let idle = halts-idle w g task.0 is (halt g task.0 (omega arith) task.1) in
    let its = with-at (slice_get w.progress.guests g) row.0 (λ r. IsTaskOf r task.0) row.1 is.row in
    flies-not task.0.left row.0.flight idle its.flying row.2
  where
    flies-not : (left : Option ℕ) (flight : Option Flight) → left ≡ None → IsFlying left flight → IsSome flight → ⊥
    flies-not None None none is some = false≢true some
    flies-not None (Some f) none is some = is
    flies-not (Some n) flight none is some = let bad : ⊥ = cc none in bad

-- so no line of the script and no job has to wait for one
slots-wait : (w : WorldSeen) → ((g : ℕ) → With (slice_get w.progress.guests g) (λ row. IsSome row.flight) → ⊥) → SlotsHalt w 16 → SlotsWait w 16
slots-wait w none halt slot below = by_halt (halt slot below)
  where
    by_halt : SlotHalts w slot → SlotWaits (seen_state w) slot
    by_halt (inl waits) = waits
    by_halt (inr off) = absurd (none off.guest off.flies)

-- and the command that the script gives next holds no disk
none-drained : (w : WorldSeen) (script : ScriptTask) → IsScriptIn w.progress script → ScriptRests w script → AreDrainsOf w script → w.drains.command ≡ []
none-drained w script is rests drains = by_command drains.command
  where
    rests-not : ScriptRests w script → IsGiving script.orders → ⊥
    rests-not (inl done) gives = subst IsGiving (is.used done) gives
    rests-not (inr waits) gives = waits-not script.orders waits.1 gives
      where
        waits-not : (orders : List Order) → ScriptWaits (seen_state w) orders waits.0 → IsGiving orders → ⊥
        waits-not [] waits gives = gives
        waits-not (Give line given ∷ orders) waits gives = waits
        waits-not (Watch line what ∷ orders) waits gives = gives

    by_command : (w.drains.command ≡ []) ⊎ IsGiving script.orders → w.drains.command ≡ []
    by_command (inl none) = none
    by_command (inr gives) = absurd (rests-not rests gives)

none-held : (w : WorldSeen) (g : ℕ) → w.drains.jobs ≡ [] → w.drains.command ≡ [] → is_guest_held (seen_state w) w.drains g ≡ false
none-held w g jobs command = by_disk (disk_of_guest w.table g)
  where
    by_disk : (disk : Option ℕ) → holds_disk w.table w.drains disk ≡ false
    by_disk None = refl
    by_disk (Some node) = rw (jobs, command) refl

-- a whole round: where nothing is done, no disk is held that was not before
pub round-goes : (w v u x : WorldSeen) (a b c : Tasks) (first asked copied : Bool) → Continues w v a b → Goes w v a b 0 0 first
    → Continues v u b c → c.script ≡ b.script → AreGuestTurns v u b c (length c.guests) asked → Continues u x c c → AreSlotTurns u x c 16 copied
    → Goes w x a c (length c.guests) 16 ((first || asked) || copied)
round-goes w v u x a b c true asked copied so goes then script turns last slots =
    less-then w u x a c c (less-then w v u a b c goes then.more) last.more
round-goes w v u x a b c false true copied so goes then script turns last slots =
    less-then w u x a c c (then-less w v u a b c so.more turns) last.more
round-goes w v u x a b c false false true so goes then script turns last slots =
    then-less w u x a c c (more-then w v u a b c so.more then.more) slots
round-goes w v u x a b c false false false so goes then script turns last slots =
    let guests : u.progress.guests ≡ x.progress.guests = sym (ap (λ (y : WorldSeen). y.progress.guests) slots.0) in
    let none = none-flies u c then.can turns.1 in
    let waits = slots-wait x (λ g flies. none g (rw guests flies)) slots.1 in
    let same : x ≡ u = slots.2 waits in (
      rw (same ∙ turns.0, script) goes.0,
      subst (λ (y : WorldSeen). GuestsHalt y (length c.guests) c.guests) (sym same) turns.1,
      slots.1,
    )

pub round-rests : (x w : WorldSeen) (a b : Tasks) → CanGoOn w.progress b → StandsInRun w → AreDrainsOf w b.script → Goes x w a b (length b.guests) 16 false → AllRest w b
round-rests x w a b can stands drains goes = by_script goes.0
  where
    none : (g : ℕ) → With (slice_get w.progress.guests g) (λ row. IsSome row.flight) → ⊥
    none = none-flies w b can goes.1

    waits : SlotsWait w 16
    waits = slots-wait w none goes.2

    by_halt : w.drains.command ≡ [] → (g : ℕ) (task : Task) → Halts w g task → Rests w g task
    by_halt command g task (inl rests) = rests
    by_halt command g task (inr held) =
        absurd (false≢true (sym (none-held w g (none-hold w stands.comes.jobs.stand waits drains.jobs) command) ∙ held.held))

    by_script : ScriptHalts w b.script → AllRest w b
    by_script (inl rests) = record {
      script = rests;
      guests = λ g task below is. by_halt (none-drained w b.script can.script rests drains) g task (goes.1 g task below is);
      slots = waits;
    }
    by_script (inr off) = absurd (none off.guest off.flies)

-- ---- a round ends in which less is left

-- of all works there are fewer parts than one entry counts for
pub round-lowers : (w v : WorldSeen) (a b : Tasks) (n : ℕ) → StandsInRun v → Goes w v a b n 16 true
    → steps_in v b * 2 ^ 64 + parts_left v.works < steps_in w a * 2 ^ 64 + parts_left w.works
round-lowers w v a b n stands (inl less) =
    let few = parts-bounded v.table stands.comes.jobs.stand v.works stands.comes.jobs.belong in
    omega (arith, few, less)
round-lowers w v a b n stands (inr both) = omega (arith, both.0, both.1)

-- ---- as the calls say it

pub script-continues-in : (w v : WorldSeen) (before after : ScriptTask) (tasks : List Task) (a : Tasks) (E : Type 0) (r : Result Bool E)
    → record { script = before; guests = tasks } ≡ a → CanGoOn w.progress a → StaysIn w v → IfOk r (IsScriptTurn w v before after)
    → OnOk r (Continues w v a (record { script = after; guests = tasks }))
script-continues-in w v before after tasks a E (Err e) is can stays turn = tt
script-continues-in w v before after tasks a E (Ok moved) is can stays turn =
    subst (λ (b : Tasks). Continues w v b (record { script = after; guests = tasks })) is
    (script-continues w v before after tasks moved (subst (CanGoOn w.progress) (sym is) can) stays turn)

pub script-goes-in : (w v : WorldSeen) (before after : ScriptTask) (tasks : List Task) (a : Tasks) (E : Type 0) (r : Result Bool E)
    → record { script = before; guests = tasks } ≡ a → IfOk r (IsScriptTurn w v before after)
    → IfOk r (Goes w v a (record { script = after; guests = tasks }) 0 0)
script-goes-in w v before after tasks a E (Err e) is turn = tt
script-goes-in w v before after tasks a E (Ok moved) is turn =
    subst (λ (b : Tasks). Goes w v b (record { script = after; guests = tasks }) 0 0 moved) is (script-goes w v before after tasks moved turn)

pub turn-continues-in : (w v : WorldSeen) (script : ScriptTask) (old new : List Task) (a : Tasks) (g : ℕ) (moved : Bool)
    → record { script = script; guests = old } ≡ a → CanGoOn w.progress a → StaysIn w v
    → HasTurn w v old new g moved → Continues w v a (record { script = script; guests = new })
turn-continues-in w v script old new a g moved is can stays turn =
    subst (λ (b : Tasks). Continues w v b (record { script = script; guests = new })) is
    (turn-continues w v script old new g moved (subst (CanGoOn w.progress) (sym is) can) stays turn)

pub turn-length : (w v : WorldSeen) (old new : List Task) (g : ℕ) (moved : Bool) → HasTurn w v old new g moved → length new ≡ length old
turn-length w v old new g moved turn = ap length turn.after_is ∙ length-set old g turn.now

-- ---- the same run

pub stays_same : (w : WorldSeen) → StaysIn w w
stays_same w = record { told = refl; first = refl; earlier = refl; room = refl; comes = λ o was. was; drains = λ kept. kept }

pub stays_then : (w v u : WorldSeen) → StaysIn w v → StaysIn v u → StaysIn w u
stays_then w v u a b = record {
  told = b.told ∙ a.told;
  first = b.first ∙ a.first;
  earlier = b.earlier ∙ a.earlier;
  room = b.room ∙ a.room;
  comes = λ o was. b.comes o (a.comes o was);
  drains = λ kept. b.drains (a.drains kept);
}
