-- Each event of the world leads on from the worlds before it.
use Rattle.std.proofs.Common.{◌≡◌, ◌⊎◌, ℕ, Bool, true, List, [], ◌∷◌, ◌++◌, append-nil, append_assoc, refl, sym, ◌∙◌, ap, subst, Option, Some, None, Result, Ok, Err, inl, inr}
use Rattle.std.specs.Prelude.{IfOk, IsSome, OnErr, is_some, slice_get, option_map, unwrap_or}
use Rattle.blk_base.specs.declared.fault.Outcome.{Outcome}
use Rattle.blk_history.specs.Machine.{Flight}
use Rattle.blk_history.specs.Small.{IsSmallEnd}
use Rattle.blk_history.specs.declared.entry.JobEnd.{JobEnd}
use Rattle.blk_history.specs.declared.entry.Refused.{Refused}
use Rattle.blk_history.specs.declared.event.Event.{Event}
use Rattle.blk_history.specs.declared.event.Event.TheVariants.{Admit, Refuse, Retire, Reached, Start, Ready, End, Done}
use Rattle.trace_codec.specs.declared.awaiting.Await.{Await}
use Rattle.trace_codec.specs.declared.op.Op.{Op}
use Rattle.trace_codec.specs.declared.order.Order.TheVariants.{Give, Watch}
use Rattle.trace_codec.specs.Script.{Order}
use Rattle.qmp_codec.specs.Commands.{Cmd}
use Rattle.qmp_codec.specs.Lines.{Stop, command_at}
use Rattle.qmp_rules.specs.declared.rows.JobRecord.{JobRecord}
use Rattle.flat_machine.specs.declared.opening.Opening.{Opening}
use Rattle.flat_machine.specs.Courses.{Course, course_after, answered_line, onward}
use Rattle.flat_machine.specs.Entries.{all_of}
use Rattle.flat_machine.specs.Legal.{IsNextJudged, IsMet, IsNext, IsNotDone, CanAdmit}
use Rattle.flat_machine.specs.State.{Guest}
use Rattle.blk_history.specs.Fold.{With}
use Rattle.blk_history.specs.Legal.{IsFlightOver}
use Rattle.world_parts.specs.declared.admission.Admission.TheVariants.{Admitted, Refused as NotAdmitted}
use Rattle.world_parts.specs.declared.executed.Executed.{Executed}
use Rattle.world_parts.specs.declared.executed.Executed.TheVariants.{Replied, Later}
use Rattle.world_parts.specs.Carrying.{AnswersLine, IsExecuted, IsPutBack, IsPutBackIn, IsPutOff, reply_entry}
use Rattle.world_parts.specs.Coherent.{AreDrainsKept}
use Rattle.world_parts.specs.Comes.{Comes}
use Rattle.world_parts.specs.Counting.{RunsOn, seen_sources}
use Rattle.world_parts.specs.Face.{WorldSeen, seen_state}
use Rattle.world_parts.specs.Jobs.{BeginsNone, BeginsOne, EndsJob, ReadiesJob}
use Rattle.world_pieces.specs.Pieces.{piece_entry}
use Rattle.world_parts.specs.Progress.{Progress, HasNext, flight_at, requests_done, with_retirement}
use Rattle.world_parts.specs.Saying.{Given, given_line}
use Rattle.world_parts.specs.Steps.{with_history, after_admission, IsAnswered, IsActorIdle, after_wait, after_actor_end}
use Rattle.qblk_run.specs.Tasks.{IsGiving}
use Rattle.qblk_run.specs.Turns.{StaysIn}
use Rattle.qblk_run.specs.Worlds.{GoesThrough, HasCome, IsDrainStep, IsEventOf, IsGuardedFor, IsPutOffBy, IsSettleStep, IsTakeStep, IsUndoneBy, IsUneventful, MakesEvent, MakesPiece}
use Rattle.qblk_run.proofs.History.{course-append}
use Rattle.qblk_run.proofs.Lists.{with-map}

-- ---- a line that has to come again

-- it is a command
pub put-off-gives : (orders : List Order) (w v : WorldSeen) → IsPutOffBy orders w v → IsGiving orders
put-off-gives [] w v off = absurd off
put-off-gives (Watch line what ∷ orders) w v off = absurd off
put-off-gives (Give line given ∷ orders) w v off = tt

pub put-off-by : (w v : WorldSeen) (orders : List Order) (line g r : ℕ) (text : List ℕ) (rest : List Order) (given : Given) → given ≡ given_line line text
    → orders ≡ Give line text ∷ rest → IsPutOff w v given g r → IsPutOffBy orders w v
put-off-by w v orders line g r text rest given same is off =
    subst (λ (x : List Order). IsPutOffBy x w v) (sym is) (g, r, subst (λ (x : Given). IsPutOff w v x g r) same off)

-- only drains change
pub put-off-left : (orders : List Order) (w v : WorldSeen) → IsPutOffBy orders w v → v ≡ record w { drains = v.drains }
put-off-left [] w v off = absurd off
put-off-left (Watch line what ∷ orders) w v off = absurd off
put-off-left (Give line given ∷ orders) w v off = rw off.2.left refl

-- a request is in flight
pub put-off-flies : (orders : List Order) (w v : WorldSeen) → IsPutOffBy orders w v
    → (g : ℕ) × With (slice_get w.progress.guests g) (λ row. IsSome row.flight)
put-off-flies [] w v off = absurd off
put-off-flies (Watch line what ∷ orders) w v off = absurd off
put-off-flies (Give line given ∷ orders) w v off = (
  off.0,
  with-map (slice_get w.progress.guests off.0) (λ row. (off.1 ≡ row.done) × IsSome row.flight) (λ row. IsSome row.flight) (λ row both. both.1)
      off.2.waits.waits.waits.request,
)

-- ---- a line for which memory wasn't had

pub undone-by : (w v : WorldSeen) (orders rest : List Order) (line : ℕ) (text given : List ℕ) → orders ≡ Give line text ∷ rest → given ≡ text → IsPutBackIn w v (command_at given)
    → IsUndoneBy orders w v
undone-by w v orders rest line text given is same back =
    subst (λ (x : List Order). IsUndoneBy x w v) (sym is) (subst (λ (x : List ℕ). IsPutBackIn w v (command_at x)) same back)

put-back-progress : (w v : WorldSeen) (read : Result Cmd Stop) → IsPutBackIn w v read → v.progress ≡ w.progress
put-back-progress w v (Ok c) back = back.back.progress
put-back-progress w v (Err why) back = ap (λ (u : WorldSeen). u.progress) back

pub undone-progress : (orders : List Order) (w v : WorldSeen) → IsUndoneBy orders w v → v.progress ≡ w.progress
undone-progress [] w v undone = absurd undone
undone-progress (Watch line what ∷ orders) w v undone = absurd undone
undone-progress (Give line given ∷ orders) w v undone = put-back-progress w v (command_at given) undone

-- ---- one more event

all-push : (events : List (List Event)) (es : List Event) → all_of (events ++ es ∷ []) ≡ all_of events ++ es
all-push [] es = append-nil es
all-push (first ∷ events) es = ap (λ (h : List Event). first ++ h) (all-push events es) ∙ sym (append_assoc first (all_of events) es)

through-push : (o : Opening) (c : Course) (w x v : WorldSeen) (events : List (List Event)) (es : List Event) → GoesThrough o c w events x → Comes o v
    → MakesEvent (course_after c (all_of events)).script x v es → GoesThrough o c w (events ++ es ∷ []) v
through-push o c w x v [] es through comes made =
    (v, through.1, subst (λ (u : WorldSeen). MakesEvent c.script u v es) through.0 made, (refl, comes))
through-push o c w x v (first ∷ events) es through comes made = (
  through.0,
  through.1,
  through.2,
  through-push o (course_after c first) through.0 x v events es through.3 comes
      (subst (λ (d : Course). MakesEvent d.script x v es) (course-append c first (all_of events)) made),
)

-- the world that a run began with
pub come-first : (o : Opening) (c : Course) (w : WorldSeen) → Comes o w → w.progress.log.events ≡ [] → HasCome o c w w c.script
come-first o c w comes none = record {
  comes = comes;
  left = ap (λ (h : List Event). (course_after c h).script) none;
  events = [];
  all = sym none;
  through = (refl, comes);
}

-- what is left of the script behind a line of it
answered-left : (c : Course) (line : ℕ) (order : Order) (orders : List Order) → c.script ≡ order ∷ orders → (answered_line line c).script ≡ orders
answered-left c line order orders is = rw is refl

module _ (o : Opening) (c : Course) (first w v : WorldSeen) (before : List Order) (has : HasCome o c first w before) (comes : Comes o v) where
  come-made : (es : List Event) (after : List Order) → MakesEvent before w v es → v.progress.log.events ≡ w.progress.log.events ++ es
      → (course_after (course_after c w.progress.log.events) es).script ≡ after → HasCome o c first v after
  come-made es after made adds left = record {
    comes = comes;
    left = ap (λ (h : List Event). (course_after c h).script) adds ∙ ap (λ (d : Course). d.script) (course-append c w.progress.log.events es) ∙ left;
    events = has.events ++ es ∷ [];
    all = all-push has.events es ∙ ap (λ (h : List Event). h ++ es) has.all ∙ sym adds;
    through = through-push o c first w v has.events es has.through comes
        (subst (λ (orders : List Order). MakesEvent orders w v es) (sym (ap (λ (h : List Event). (course_after c h).script) has.all ∙ has.left)) made);
  }

  pub come-event : (e : Event) (es : List Event) (after : List Order) → IsEventOf w v e es
      → (course_after (onward (course_after c w.progress.log.events) e) es).script ≡ after → HasCome o c first v after
  come-event e es after event left = come-made (e ∷ es) after event event.adds left

  pub come-still : IsUneventful before w v → v.progress ≡ w.progress → HasCome o c first v before
  come-still still same =
      come-made [] before still (ap (λ (p : Progress). p.log.events) same ∙ sym (append-nil w.progress.log.events)) has.left

-- ---- each event

-- a request that is judged has the number of those that are done
judged-number : (w : WorldSeen) (g r : ℕ) (P : Bool → ℕ → Type 0) → IsNextJudged (seen_state w) g r P → r ≡ requests_done w.progress.guests g
judged-number w g r P judged = by_row (slice_get w.progress.guests g) judged.1
  where
    by_row : (x : Option Guest) → With x (λ row. IsNext row r) → r ≡ unwrap_or (option_map (λ row. row.done) x) 0
    by_row None is = absurd is
    by_row (Some row) is = is.number

-- what is guarded leaves all but nodes and works
pub guarded-kept : (w v : WorldSeen) (g : ℕ) (f : Flight) → IsGuardedFor w v g f → v ≡ record w { nodes = v.nodes; works = v.works }
guarded-kept w v g f (inl same) = rw same.0 refl
guarded-kept w v g f (inr guards) = guards.guards.copies.kept

guarded-progress : (w v : WorldSeen) (g : ℕ) (f : Flight) → IsGuardedFor w v g f → v.progress ≡ w.progress
guarded-progress w v g f guarded = ap (λ (u : WorldSeen). u.progress) (guarded-kept w v g f guarded)

module _ (o : Opening) (c : Course) (first w v : WorldSeen) (before : List Order) (has : HasCome o c first w before) (comes : Comes o w → Comes o v) where
  pub come-admitted : (g : ℕ) (op : Op) (r : ℕ) → IsAnswered w g op (Admitted r) → v ≡ after_admission w g op (Admitted r) → HasCome o c first v before
  come-admitted g op r answer kept =
      let number : r ≡ requests_done w.progress.guests g = judged-number w g r (CanAdmit op) answer.0 in
      come-event o c first w v before has (comes has.comes) (Admit g r op) [] before (record { may = tt; adds = rw (kept, number) refl; left = (refl, (answer, kept)) }) has.left

  pub come-refused : (g : ℕ) (op : Op) (why : Refused) → IsAnswered w g op (NotAdmitted why) → v ≡ after_admission w g op (NotAdmitted why)
      → HasCome o c first v before
  come-refused g op why answer kept =
      come-event o c first w v before has (comes has.comes) (Refuse g (requests_done w.progress.guests g) op why) [] before
      (record { may = tt; adds = rw kept refl; left = (refl, (answer, kept)) }) has.left

  pub come-piece : (g : ℕ) (f : Flight) (outcome : Outcome) → flight_at w.progress.guests g ≡ Some f → With (flight_at w.progress.guests g) HasNext
      → MakesPiece w v g f outcome → HasCome o c first v before
  come-piece g f outcome there next makes =
      let x = makes.between in
      let same : x.progress ≡ w.progress = guarded-progress w x g f makes.guarded in
      come-event o c first w v before has (comes has.comes) (piece_entry x g f outcome makes.made.buffer) [] before (record {
        may = next;
        adds = ap (λ (u : WorldSeen). u.progress.log.events) makes.made.kept
            ∙ ap (λ (p : Progress). p.log.events ++ piece_entry x g f outcome makes.made.buffer ∷ []) same;
        left = (refl, record { flight = f; there = there; makes = makes });
      }) has.left

  pub come-retired : (g : ℕ) → With (flight_at w.progress.guests g) IsFlightOver → v ≡ with_history w (with_retirement g) → HasCome o c first v before
  come-retired g over kept =
      come-event o c first w v before has (comes has.comes) (Retire g (requests_done w.progress.guests g)) [] before
      (record { may = over; adds = rw kept refl; left = (refl, kept) }) has.left

  pub come-replied : (line : Given) (after : List Order) → before ≡ Give line.number line.text ∷ after → IsNotDone (seen_state w) 0 → AnswersLine w v line
      → HasCome o c first v after
  come-replied line after next going answers = by_begins answers.begins
    where
      left : (answered_line line.number (course_after c w.progress.log.events)).script ≡ after
      left = answered-left (course_after c w.progress.log.events) line.number (Give line.number line.text) after (has.left ∙ next)

      said : answers.between.progress.log.events ≡ w.progress.log.events ++ reply_entry w answers.replied.told line ∷ []
      said = ap (λ (p : Progress). p.log.events) answers.replied.progress

      by_begins : BeginsNone w.table answers.between v ⊎ BeginsOne w.table answers.between v → HasCome o c first v after
      by_begins (inl none) =
          come-event o c first w v before has (comes has.comes) (reply_entry w answers.replied.told line) [] after (record {
            may = going;
            adds = ap (λ (u : WorldSeen). u.progress.log.events) none.kept ∙ said;
            left = record { between = answers.between; replied = answers.replied; says = refl; begins = none };
          }) left
      by_begins (inr one) =
          come-event o c first w v before has (comes has.comes) (reply_entry w answers.replied.told line) (Start one.row.number ∷ []) after (record {
            may = going;
            adds = ap (λ (u : WorldSeen). u.progress.log.events) one.begins.kept
                ∙ ap (λ (h : List Event). h ++ Start one.row.number ∷ []) said
                ∙ append_assoc w.progress.log.events (reply_entry w answers.replied.told line ∷ []) (Start one.row.number ∷ []);
            left = record { between = answers.between; replied = answers.replied; says = refl; begins = (one, refl) };
          }) left

  pub come-put-off : IsPutOffBy before w v → HasCome o c first v before
  come-put-off off =
      come-still o c first w v before has (comes has.comes) (inl off) (ap (λ (u : WorldSeen). u.progress) (put-off-left before w v off))

  pub come-reached : (line : ℕ) (what : Await (List ℕ)) (after : List Order) → before ≡ Watch line what ∷ after → IsNotDone (seen_state w) 0 → IsMet (seen_state w) what
      → v ≡ after_wait w line what true → HasCome o c first v after
  come-reached line what after next going met kept =
      come-event o c first w v before has (comes has.comes) (Reached line what) [] after (record { may = (going, met); adds = rw kept refl; left = (refl, kept) })
      (answered-left (course_after c w.progress.log.events) line (Watch line what) after (has.left ∙ next))

  pub come-done : (actor : ℕ) → IsNotDone (seen_state w) actor → IsActorIdle w.progress.guests actor → v ≡ after_actor_end w actor → HasCome o c first v before
  come-done actor going idle kept =
      come-event o c first w v before has (comes has.comes) (Done actor) [] before (record { may = (going, idle); adds = rw kept refl; left = (refl, kept) }) has.left

  pub come-ended : (row : JobRecord) (why : JobEnd) (offset : ℕ) → EndsJob w v row why offset → IsSmallEnd why → HasCome o c first v before
  come-ended row why offset ends fits =
      come-event o c first w v before has (comes has.comes) (End row.number why offset) [] before (record {
        may = tt;
        adds = ap (λ (u : WorldSeen). u.progress.log.events) ends.kept;
        left = (refl, record { row = row; number = refl; ends = ends; fits = fits });
      }) has.left

  pub come-readied : (row : JobRecord) → ReadiesJob w v row → (seen_sources w).met_by row.number ≡ None → HasCome o c first v before
  come-readied row readies met =
      come-event o c first w v before has (comes has.comes) (Ready row.number) [] before (record {
        may = tt;
        adds = ap (λ (u : WorldSeen). u.progress.log.events) readies.kept;
        left = (refl, record { row = row; number = refl; met = met; readies = readies });
      }) has.left

  pub come-taken : IsTakeStep w v → HasCome o c first v before
  come-taken took =
      come-still o c first w v before has (comes has.comes) (inr (inl took)) (ap (λ (u : WorldSeen). u.progress) took.takes.copies.kept)

  pub come-settled : IsSettleStep w v → HasCome o c first v before
  come-settled settled =
      come-still o c first w v before has (comes has.comes) (inr (inr (inl settled))) (ap (λ (u : WorldSeen). u.progress) settled.settles.copies.kept)

  pub come-drained : IsDrainStep w v → HasCome o c first v before
  come-drained drains =
      come-still o c first w v before has (comes has.comes) (inr (inr (inr drains))) (ap (λ (u : WorldSeen). u.progress) drains.kept)

-- ---- the same run

abbrev pub StayComing : WorldSeen → WorldSeen → Type 0
StayComing w v = (o : Opening) → Comes o w → Comes o v

abbrev pub KeepDrains : WorldSeen → WorldSeen → Type 0
KeepDrains w v = AreDrainsKept w.table w.drains → AreDrainsKept v.table v.drains

pub runs_stay : (w v : WorldSeen) → RunsOn w v → StayComing w v → KeepDrains w v → StaysIn w v
runs_stay w v runs comes drains = record { told = runs.told; first = runs.first; earlier = runs.earlier; room = runs.room; comes = comes; drains = drains }

-- where store and openings are as they were
pub kept_stay : (w v : WorldSeen) → v.files ≡ w.files → v.first_faults ≡ w.first_faults → v.earlier ≡ w.earlier → v.room ≡ w.room → StayComing w v → KeepDrains w v
    → StaysIn w v
kept_stay w v files first earlier room comes drains =
    record { told = ap (λ (x : _). is_some x) files; first = first; earlier = earlier; room = room; comes = comes; drains = drains }

answered_stay : (w v : WorldSeen) (line : Given) → AnswersLine w v line → StayComing w v → KeepDrains w v → StaysIn w v
answered_stay w v line answers comes drains = by_begins answers.begins
  where
    by_kept : v.files ≡ answers.between.files → v.first_faults ≡ answers.between.first_faults → v.earlier ≡ answers.between.earlier → v.room ≡ answers.between.room → StaysIn w v
    by_kept files first earlier room =
        let runs = answers.replied.runs in
        record {
          told = ap (λ (x : _). is_some x) files ∙ runs.told;
          first = first ∙ runs.first;
          earlier = earlier ∙ runs.earlier;
          room = room ∙ runs.room;
          comes = comes;
          drains = drains;
        }

    by_begins : BeginsNone w.table answers.between v ⊎ BeginsOne w.table answers.between v → StaysIn w v
    by_begins (inl none) =
        by_kept (ap (λ (u : WorldSeen). u.files) none.kept) (ap (λ (u : WorldSeen). u.first_faults) none.kept) (ap (λ (u : WorldSeen). u.earlier) none.kept)
        (ap (λ (u : WorldSeen). u.room) none.kept)
    by_begins (inr one) =
        by_kept (ap (λ (u : WorldSeen). u.files) one.begins.kept) (ap (λ (u : WorldSeen). u.first_faults) one.begins.kept)
        (ap (λ (u : WorldSeen). u.earlier) one.begins.kept) (ap (λ (u : WorldSeen). u.room) one.begins.kept)

pub executed_stay : {E : Type 0} (w v : WorldSeen) (line : Given) (r : Result Executed E) → IfOk r (λ answer. IsExecuted w v line answer) → OnErr r (IsPutBack w v)
    → StayComing w v → KeepDrains w v → StaysIn w v
executed_stay w v line (Ok Replied) done back comes drains = answered_stay w v line done comes drains
executed_stay w v line (Ok (Later g r)) done back comes drains =
    kept_stay w v (ap (λ (u : WorldSeen). u.files) done.left) (ap (λ (u : WorldSeen). u.first_faults) done.left) (ap (λ (u : WorldSeen). u.earlier) done.left)
    (ap (λ (u : WorldSeen). u.room) done.left) comes drains
executed_stay w v line (Err stop) done back comes drains = runs_stay w v back.runs comes drains
