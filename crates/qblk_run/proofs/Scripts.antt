-- What holds of tasks and history stays so where the script makes an entry.
use Rattle.std.proofs.Common.{◌≡◌, ◌≢◌, ◌⊎◌, ℕ, zero, suc, ◌+◌, ◌<◌, true, false, List, [], ◌∷◌, ◌++◌, append-nil, append_assoc, length, refl, sym, ◌∙◌, ap, subst, arith, inl, inr}
use Rattle.std.specs.Prelude.{slice_get, get_or}
use Rattle.std.proofs.lemmas.Bool.{false≢true}
use Rattle.std.proofs.lemmas.List.{get_or_append_left, get_or_push, length-append}
use Rattle.trace_codec.specs.declared.wish.Wish.{Wish}
use Rattle.trace_codec.specs.Script.{Order}
use Rattle.qmp_rules.specs.Chains.{is_listed}
use Rattle.blk_history.specs.declared.event.Event.{Event}
use Rattle.blk_history.specs.declared.event.Event.TheVariants.{Admit, Refuse, Piece, Retire, Reply, Reached, Start, Ready, End, Done}
use Rattle.blk_history.specs.Line.{HasJob, IsActorNamed, StaysInJson}
use Rattle.blk_history.specs.Names.{JobLine, RowNames, no_job}
use Rattle.blk_history.specs.Transcript.{job_line}
use Rattle.blk_history.proofs.Folds.{each-push}
use Rattle.qmp_asks.specs.Naming.{is_name}
use Rattle.flat_machine.specs.Courses.{Course, IsOwn, KeepsOrder, course_after, course_of, onward}
use Rattle.world_parts.specs.Face.{WorldSeen}
use Rattle.world_parts.specs.Progress.{ended_in}
use Rattle.world_parts.proofs.InStep.{ended-push}
use Rattle.qblk_run.specs.Tasks.{Task, ScriptTask, AreJobsNamed, AreRestsOf, CanGoOn, CanHaveLine, CanHaveLines, CanPrintSoFar, KeepsTo, names_in}
use Rattle.qblk_run.specs.Turns.{IsOwnOrder, IsScriptMove, NamesStarts}
use Rattle.qblk_run.proofs.Ids.{name-json}
use Rattle.qblk_run.proofs.Lists.{same_or_not, with-map, has-stays, has-own}
use Rattle.qblk_run.proofs.Waits.{StayAnswered, grows-same, grows-more, alike-later}
use Rattle.qblk_run.proofs.History.{course-append, course-push, each-append}
use Rattle.qblk_run.proofs.Moves.{ended-done}
use Rattle.qblk_run.proofs.Orders.{lines-push, prints-on}

-- ---- behind its entry stands nothing, or the start of a job

-- by which no actor is done
starts-ended : (w v : WorldSeen) (h es : List Event) → NamesStarts w v es → ended_in (h ++ es) ≡ ended_in h
starts-ended w v h [] starts = ap ended_in (append-nil h)
starts-ended w v h (Start job ∷ []) starts = ended-push h (Start job) refl
starts-ended w v h (Start job ∷ e ∷ es) starts = absurd starts
starts-ended w v h (Admit g r op ∷ es) starts = absurd starts
starts-ended w v h (Refuse g r op why ∷ es) starts = absurd starts
starts-ended w v h (Piece g r k outcome got ∷ es) starts = absurd starts
starts-ended w v h (Retire g r ∷ es) starts = absurd starts
starts-ended w v h (Reply line given command text ∷ es) starts = absurd starts
starts-ended w v h (Reached line what ∷ es) starts = absurd starts
starts-ended w v h (Ready job ∷ es) starts = absurd starts
starts-ended w v h (End job outcome offset ∷ es) starts = absurd starts
starts-ended w v h (Done actor ∷ es) starts = absurd starts

-- and nothing is taken of script and traces
starts-course : (w v : WorldSeen) (c : Course) (es : List Event) → NamesStarts w v es → course_after c es ≡ c
starts-course w v c [] starts = refl
starts-course w v c (Start job ∷ []) starts = refl
starts-course w v c (Start job ∷ e ∷ es) starts = absurd starts
starts-course w v c (Admit g r op ∷ es) starts = absurd starts
starts-course w v c (Refuse g r op why ∷ es) starts = absurd starts
starts-course w v c (Piece g r k outcome got ∷ es) starts = absurd starts
starts-course w v c (Retire g r ∷ es) starts = absurd starts
starts-course w v c (Reply line given command text ∷ es) starts = absurd starts
starts-course w v c (Reached line what ∷ es) starts = absurd starts
starts-course w v c (Ready job ∷ es) starts = absurd starts
starts-course w v c (End job outcome offset ∷ es) starts = absurd starts
starts-course w v c (Done actor ∷ es) starts = absurd starts

starts-order : (w v : WorldSeen) (c : Course) (es : List Event) → NamesStarts w v es → KeepsOrder c es
starts-order w v c [] starts = tt
starts-order w v c (Start job ∷ []) starts = (tt, tt)
starts-order w v c (Start job ∷ e ∷ es) starts = absurd starts
starts-order w v c (Admit g r op ∷ es) starts = absurd starts
starts-order w v c (Refuse g r op why ∷ es) starts = absurd starts
starts-order w v c (Piece g r k outcome got ∷ es) starts = absurd starts
starts-order w v c (Retire g r ∷ es) starts = absurd starts
starts-order w v c (Reply line given command text ∷ es) starts = absurd starts
starts-order w v c (Reached line what ∷ es) starts = absurd starts
starts-order w v c (Ready job ∷ es) starts = absurd starts
starts-order w v c (End job outcome offset ∷ es) starts = absurd starts
starts-order w v c (Done actor ∷ es) starts = absurd starts

-- ---- ends of actors

guest-ended : (es : List Event) (before after : ScriptTask) (e : Event) (g : ℕ) → IsOwnOrder before after e
    → is_listed (g + 1) (ended_in (es ++ e ∷ [])) ≡ is_listed (g + 1) (ended_in es)
guest-ended es before after (Reply line given command text) g own = ap (is_listed (g + 1)) (ended-push es (Reply line given command text) refl)
guest-ended es before after (Reached line what) g own = ap (is_listed (g + 1)) (ended-push es (Reached line what) refl)
guest-ended es before after (Done actor) g own = rw (ended-done es actor) (has-stays (ended_in es) (g + 1) actor (λ same. absurd (let is = own.0 in omega arith)))
guest-ended es before after (Admit n r op) g own = absurd own
guest-ended es before after (Refuse n r op why) g own = absurd own
guest-ended es before after (Piece n r k outcome got) g own = absurd own
guest-ended es before after (Retire n r) g own = absurd own
guest-ended es before after (Start job) g own = absurd own
guest-ended es before after (Ready job) g own = absurd own
guest-ended es before after (End job outcome offset) g own = absurd own

script-ended : (es : List Event) (before after : ScriptTask) (e : Event) → before.is_done ≡ false → IsOwnOrder before after e
    → before.is_done ≡ is_listed 0 (ended_in es) → after.is_done ≡ is_listed 0 (ended_in (es ++ e ∷ []))
script-ended es before after (Reply line given command text) going own was = own.1 ∙ sym going ∙ was ∙ ap (is_listed 0) (sym (ended-push es (Reply line given command text) refl))
script-ended es before after (Reached line what) going own was = own.1 ∙ sym going ∙ was ∙ ap (is_listed 0) (sym (ended-push es (Reached line what) refl))
script-ended es before after (Done actor) going own was = own.3 ∙ sym (rw (ended-done es actor, own.0) (has-own (ended_in es) 0))
script-ended es before after (Admit n r op) going own was = absurd own
script-ended es before after (Refuse n r op why) going own was = absurd own
script-ended es before after (Piece n r k outcome got) going own was = absurd own
script-ended es before after (Retire n r) going own was = absurd own
script-ended es before after (Start job) going own was = absurd own
script-ended es before after (Ready job) going own was = absurd own
script-ended es before after (End job outcome offset) going own was = absurd own

script-used : (before after : ScriptTask) (e : Event) → IsOwnOrder before after e → after.is_done ≡ true → after.orders ≡ []
script-used before after (Reply line given command text) own done = absurd (false≢true (sym own.1 ∙ done))
script-used before after (Reached line what) own done = absurd (false≢true (sym own.1 ∙ done))
script-used before after (Done actor) own done = own.2
script-used before after (Admit n r op) own done = absurd own
script-used before after (Refuse n r op why) own done = absurd own
script-used before after (Piece n r k outcome got) own done = absurd own
script-used before after (Retire n r) own done = absurd own
script-used before after (Start job) own done = absurd own
script-used before after (Ready job) own done = absurd own
script-used before after (End job outcome offset) own done = absurd own

-- ---- script and traces

is-own : (c : Course) (before after : ScriptTask) (e : Event) → c.script ≡ before.orders → IsOwnOrder before after e → IsOwn c e
is-own c before after (Reply line given command text) same own = rw (same, own.0) (refl, refl)
is-own c before after (Reached line what) same own = rw (same, own.0) (refl, refl)
is-own c before after (Done actor) same own = rw own.0 (same ∙ own.1)
is-own c before after (Admit n r op) same own = absurd own
is-own c before after (Refuse n r op why) same own = absurd own
is-own c before after (Piece n r k outcome got) same own = absurd own
is-own c before after (Retire n r) same own = absurd own
is-own c before after (Start job) same own = absurd own
is-own c before after (Ready job) same own = absurd own
is-own c before after (End job outcome offset) same own = absurd own

-- what it leaves: the script is shorter, and lines that were answered stay so
record Answers (c d : Course) (after : ScriptTask) : Type 0 where
  pub script : d.script ≡ after.orders
  pub traces : d.traces ≡ c.traces
  pub answered : StayAnswered c.answered d.answered

answers : (c : Course) (before after : ScriptTask) (e : Event) → c.script ≡ before.orders → IsOwnOrder before after e → Answers c (onward c e) after
answers c before after (Reply line given command text) same own =
    record { script = rw (same, own.0) refl; traces = refl; answered = grows-more c.answered (line ∷ []) }
answers c before after (Reached line what) same own =
    record { script = rw (same, own.0) refl; traces = refl; answered = grows-more c.answered (line ∷ []) }
answers c before after (Done actor) same own = record { script = same ∙ own.1 ∙ sym own.2; traces = refl; answered = grows-same c.answered }
answers c before after (Admit n r op) same own = absurd own
answers c before after (Refuse n r op why) same own = absurd own
answers c before after (Piece n r k outcome got) same own = absurd own
answers c before after (Retire n r) same own = absurd own
answers c before after (Start job) same own = absurd own
answers c before after (Ready job) same own = absurd own
answers c before after (End job outcome offset) same own = absurd own

rests-answer : (c d : Course) (before after : ScriptTask) (tasks : List Task) → Answers c d after
    → AreRestsOf c (record { script = before; guests = tasks }) → AreRestsOf d (record { script = after; guests = tasks })
rests-answer c d before after tasks now rests = record {
  script = now.script;
  count = ap length now.traces ∙ rests.count;
  traces = λ g task is. rw now.traces (with-map (slice_get c.traces g) _ _ (λ wishes same. alike-later c.answered d.answered now.answered wishes task.wishes same) (rests.traces g task is));
}

-- ---- lines

has-line : (names : RowNames) (before after : ScriptTask) (e : Event) → IsOwnOrder before after e → CanHaveLine names e
has-line names before after (Reply line given command text) own = record { named = tt; shown = omega arith }
has-line names before after (Reached line what) own = record { named = tt; shown = omega arith }
has-line names before after (Done actor) own = record { named = rw own.0 tt; shown = omega arith }
has-line names before after (Admit n r op) own = absurd own
has-line names before after (Refuse n r op why) own = absurd own
has-line names before after (Piece n r k outcome got) own = absurd own
has-line names before after (Retire n r) own = absurd own
has-line names before after (Start job) own = absurd own
has-line names before after (Ready job) own = absurd own
has-line names before after (End job outcome offset) own = absurd own

-- what has a line has it with one more job
module _ (guests : List (List ℕ)) (jobs : List JobLine) (line : JobLine) where
  abbrev names : RowNames
  names = record { guests = guests; jobs = jobs }

  abbrev more : RowNames
  more = record { guests = guests; jobs = jobs ++ line ∷ [] }

  job-more : (job : ℕ) → HasJob names job → HasJob more job
  job-more job has =
      let many = length-append jobs (line ∷ []) in
      let below = has.0 in
      let same : job_line more job ≡ job_line names job = get_or_append_left jobs (line ∷ []) no_job job below in
      (omega arith, subst (λ (l : JobLine). StaysInJson l.id) (sym same) has.1)

  named-more : (e : Event) → IsActorNamed names e → IsActorNamed more e
  named-more (Admit n r op) is = is
  named-more (Refuse n r op why) is = is
  named-more (Piece n r k outcome got) is = is
  named-more (Retire n r) is = is
  named-more (Reply line' given command text) is = is
  named-more (Reached line' what) is = is
  named-more (Start job) is = job-more job is
  named-more (Ready job) is = job-more job is
  named-more (End job outcome offset) is = job-more job is
  named-more (Done zero) is = is
  named-more (Done (suc g)) is = is

  lines-more : (es : List Event) → CanHaveLines names es → CanHaveLines more es
  lines-more [] all = tt
  lines-more (e ∷ es) all = (record { named = named-more e all.0.named; shown = all.0.shown }, lines-more es all.1)

  -- its start has one
  start-line : is_name line.id ≡ true → CanHaveLine more (Start (length jobs))
  start-line named =
      let many = length-append jobs (line ∷ []) in
      let same : job_line more (length jobs) ≡ line = get_or_push jobs line no_job (length jobs) refl in
      record { named = (omega arith, subst (λ (l : JobLine). StaysInJson l.id) (sym same) (name-json line.id named)); shown = omega arith }

  ids-more : is_name line.id ≡ true → AreJobsNamed jobs → AreJobsNamed (jobs ++ line ∷ [])
  ids-more named all job below = by_place (same_or_not job (length jobs))
    where
      by_place : (job ≡ length jobs) ⊎ (job ≢ length jobs) → is_name (get_or (jobs ++ line ∷ []) job no_job).id ≡ true
      by_place (inl same) = ap (λ (l : JobLine). is_name l.id) (get_or_push jobs line no_job job (sym same)) ∙ named
      by_place (inr apart) =
          let many = length-append jobs (line ∷ []) in
          let within : job < length jobs = omega (arith, apart) in
          ap (λ (l : JobLine). is_name l.id) (get_or_append_left jobs (line ∷ []) no_job job within) ∙ all job within

script-prints : (w v : WorldSeen) (guests : List (List ℕ)) (e : Event) (es : List Event) → ((names : RowNames) → CanHaveLine names e)
    → v.progress.log.events ≡ w.progress.log.events ++ e ∷ es → NamesStarts w v es → CanPrintSoFar guests w → CanPrintSoFar guests v
script-prints w v guests e [] line events starts was =
    prints-on guests w v starts.1 starts.0
    (rw events (lines-push (names_in guests w.progress) w.progress.log.events e was.can.lines (line (names_in guests w.progress)))) was
script-prints w v guests e (Start job ∷ []) line events starts was =
    let jobs = w.progress.jobs in
    let names = more guests jobs starts.line in
    let number : job ≡ length jobs = starts.number ∙ sym was.started in
    let said = lines-push names w.progress.log.events e (lines-more guests jobs starts.line w.progress.log.events was.can.lines) (line names) in
    let begun : CanHaveLine names (Start job) = rw number (start-line guests jobs starts.line starts.named) in
    let all = lines-push names (w.progress.log.events ++ e ∷ []) (Start job) said begun in
    let many = length-append jobs (starts.line ∷ []) in
    let size : length v.progress.jobs ≡ length (jobs ++ starts.line ∷ []) = ap length starts.jobs in
    let before = was.started in
    let now = starts.started in
    record {
      can = record {
        lines = subst (λ (lines : List JobLine). CanHaveLines (record { guests = guests; jobs = lines }) v.progress.log.events) (sym starts.jobs)
            (rw events (subst (CanHaveLines names) (append_assoc w.progress.log.events (e ∷ []) (Start job ∷ [])) all));
        ids = subst AreJobsNamed (sym starts.jobs) (ids-more guests jobs starts.line starts.named was.can.ids);
      };
      started = omega (arith, size, many, before, now);
    }
script-prints w v guests e (Start job ∷ a ∷ es) line events starts was = absurd starts
script-prints w v guests e (Admit g r op ∷ es) line events starts was = absurd starts
script-prints w v guests e (Refuse g r op why ∷ es) line events starts was = absurd starts
script-prints w v guests e (Piece g r k outcome got ∷ es) line events starts was = absurd starts
script-prints w v guests e (Retire g r ∷ es) line events starts was = absurd starts
script-prints w v guests e (Reply n given command text ∷ es) line events starts was = absurd starts
script-prints w v guests e (Reached n what ∷ es) line events starts was = absurd starts
script-prints w v guests e (Ready job ∷ es) line events starts was = absurd starts
script-prints w v guests e (End job outcome offset ∷ es) line events starts was = absurd starts
script-prints w v guests e (Done actor ∷ es) line events starts was = absurd starts

-- ---- all of it

module _ (w v : WorldSeen) (before after : ScriptTask) (tasks : List Task) (e : Event) (es : List Event) (move : IsScriptMove w.progress v.progress before after e es)
    (starts : NamesStarts w v es) where
  -- the actors that are done, by its entry alone
  ended-then : ended_in v.progress.log.events ≡ ended_in (w.progress.log.events ++ e ∷ [])
  ended-then =
      ap ended_in (move.events ∙ sym (append_assoc w.progress.log.events (e ∷ []) es))
      ∙ starts-ended w v (w.progress.log.events ++ e ∷ []) es starts

  pub script-can : CanGoOn w.progress (record { script = before; guests = tasks }) → CanGoOn v.progress (record { script = after; guests = tasks })
  script-can can =
      let had = can.entries in
      let more = move.entries in
      let had_bytes = can.bytes in
      let more_bytes = move.bytes in
      record {
        few = can.few;
        count = can.count ∙ ap length (sym move.guests);
        guests = λ g task is. let was = can.guests g task is in record {
          row = rw move.guests was.row;
          ended = was.ended ∙ sym (ap (is_listed (g + 1)) ended-then ∙ guest-ended w.progress.log.events before after e g move.own);
        };
        script = record {
          ended = script-ended w.progress.log.events before after e move.runs move.own can.script.ended ∙ ap (is_listed 0) (sym ended-then);
          used = script-used before after e move.own;
        };
        entries = omega arith;
        bytes = omega arith;
      }

  pub script-order : (orders : List Order) (traces : List (List Wish)) → KeepsTo orders traces w.progress.log.events (record { script = before; guests = tasks })
      → KeepsTo orders traces v.progress.log.events (record { script = after; guests = tasks })
  script-order orders traces keeps =
      let c = course_after (course_of orders traces) w.progress.log.events in
      let first = each-push onward IsOwn (course_of orders traces) w.progress.log.events e keeps.order (is-own c before after e keeps.rests.script move.own) in
      let behind : course_after (course_of orders traces) (w.progress.log.events ++ e ∷ []) ≡ onward c e = course-push (course_of orders traces) w.progress.log.events e in
      let all : v.progress.log.events ≡ (w.progress.log.events ++ e ∷ []) ++ es = move.events ∙ sym (append_assoc w.progress.log.events (e ∷ []) es) in
      rw all (record {
        order = each-append onward IsOwn (course_of orders traces) (w.progress.log.events ++ e ∷ []) es first (starts-order w v (course_after (course_of orders traces) (w.progress.log.events ++ e ∷ [])) es starts);
        rests = rw (course-append (course_of orders traces) (w.progress.log.events ++ e ∷ []) es, behind, starts-course w v (onward c e) es starts)
            (rests-answer c (onward c e) before after tasks (answers c before after e keeps.rests.script move.own) keeps.rests);
      })

  pub script-lines : (guests : List (List ℕ)) → CanPrintSoFar guests w → CanPrintSoFar guests v
  script-lines guests was = script-prints w v guests e es (λ names. has-line names before after e move.own) move.events starts was
