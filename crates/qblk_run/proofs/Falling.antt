-- The entries of a run fall into those of its events.
use Rattle.std.proofs.Common.{◌≡◌, ℕ, ◌+◌, Bool, true, false, List, [], ◌∷◌, ◌++◌, append-nil, map, refl, sym, ◌∙◌, ap, subst, arith, Option, Some, None, Result, Ok, Err, inl, inr}
use Rattle.std.specs.Prelude.{◌-◌, if◌then◌else◌, is_some}
use Rattle.std.specs.List.{range_with_len}
use Rattle.std.proofs.lemmas.Bool.{false≢true}
use Rattle.blk_base.specs.declared.file.File.{File}
use Rattle.qmp_codec.specs.Commands.{Cmd}
use Rattle.qmp_codec.specs.Lines.{Stop, command_at}
use Rattle.qmp_codec.specs.declared.command.Command.TheVariants as command
use Rattle.qmp_codec.specs.declared.nodes.Created.{Created}
use Rattle.qmp_codec.specs.declared.nodes.Created.TheVariants as created
use Rattle.qmp_rules.specs.Answers.{command_edits}
use Rattle.qmp_rules.specs.Changes.{all_changed, changed}
use Rattle.qmp_rules.specs.Edits.{spoiled}
use Rattle.qmp_rules.specs.Table.{RunTable, job_at}
use Rattle.qmp_rules.specs.declared.rows.JobRecord.{JobRecord}
use Rattle.trace_codec.specs.Script.{Order}
use Rattle.blk_history.specs.Fold.{With}
use Rattle.blk_history.specs.declared.entry.JobEnd.{JobEnd}
use Rattle.blk_history.specs.declared.event.Event.{Event}
use Rattle.blk_history.specs.declared.event.Event.TheVariants.{Admit, Refuse, Piece, Retire, Reply, Reached, Start, Ready, End, Done}
use Rattle.flat_machine.specs.State.{State}
use Rattle.flat_machine.specs.Courses.{Course, course_after}
use Rattle.flat_machine.specs.Entries.{AreEnds, AreEvents, FallsIntoEvents, IsEvent, all_of, new_jobs, starts_of}
use Rattle.flat_machine.specs.Jobs.{noted_start, started, unleft}
use Rattle.flat_machine.specs.Machine.{after, replay}
use Rattle.flat_machine.specs.Opening.{start}
use Rattle.flat_machine.specs.Replies.{edits_by, failed_edits, is_accepted, replied, tells_failure}
use Rattle.flat_machine.specs.Sights.{expected}
use Rattle.flat_machine.specs.declared.opening.Opening.{Opening}
use Rattle.flat_machine.proofs.Resting.{stepped_table}
use Rattle.world_parts.specs.Comes.{Comes}
use Rattle.world_parts.specs.Face.{WorldSeen}
use Rattle.qblk_run.specs.Worlds.{AreStartsBehind, GoesThrough, IsEndOf, IsLeftAlone, IsLeftBy, IsReplyOf, IsUneventful, MakesEvent}
use Rattle.qblk_run.proofs.History.{run-append}
use Rattle.qblk_run.proofs.Lists.{at-with}
use Rattle.qblk_run.proofs.SlotTurns.{job-there}
use Rattle.qblk_run.proofs.Worlds.{guarded-kept, put-off-left}

-- ---- the store tells as much behind each event

told-alone : (w v : WorldSeen) (e : Event) → IsLeftAlone w v e → is_some v.files ≡ is_some w.files
told-alone w v (Admit g r op) left = ap (λ (u : WorldSeen). is_some u.files) left.1
told-alone w v (Refuse g r op why) left = ap (λ (u : WorldSeen). is_some u.files) left.1
told-alone w v (Piece g r k outcome got) left =
    ap (λ (u : WorldSeen). is_some u.files) left.makes.made.kept
    ∙ ap (λ (u : WorldSeen). is_some u.files) (guarded-kept w left.makes.between g left.flight left.makes.guarded)
told-alone w v (Retire g r) left = ap (λ (u : WorldSeen). is_some u.files) left
told-alone w v (Reached line what) left = ap (λ (u : WorldSeen). is_some u.files) left
told-alone w v (End job why offset) left = ap (λ (u : WorldSeen). is_some u.files) left.ends.kept
told-alone w v (Done actor) left = ap (λ (u : WorldSeen). is_some u.files) left
told-alone w v (Start job) left = absurd left
told-alone w v (Ready job) left = ap (λ (u : WorldSeen). is_some u.files) left.readies.kept
told-alone w v (Reply line given command text) left = absurd left

told-starts : (t : RunTable) (w v : WorldSeen) (es : List Event) → AreStartsBehind t w v es → is_some v.files ≡ is_some w.files
told-starts t w v [] begins = ap (λ (u : WorldSeen). is_some u.files) begins.kept
told-starts t w v (Start job ∷ []) begins = ap (λ (u : WorldSeen). is_some u.files) begins.0.begins.kept
told-starts t w v (Start job ∷ e ∷ es) begins = absurd begins
told-starts t w v (Admit g r op ∷ es) begins = absurd begins
told-starts t w v (Refuse g r op why ∷ es) begins = absurd begins
told-starts t w v (Piece g r k outcome got ∷ es) begins = absurd begins
told-starts t w v (Retire g r ∷ es) begins = absurd begins
told-starts t w v (Reply line given command text ∷ es) begins = absurd begins
told-starts t w v (Reached line what ∷ es) begins = absurd begins
told-starts t w v (Ready job ∷ es) begins = absurd begins
told-starts t w v (End job outcome offset ∷ es) begins = absurd begins
told-starts t w v (Done actor ∷ es) begins = absurd begins

told-by : (w v : WorldSeen) (e : Event) (es : List Event) → IsLeftBy w v e es → is_some v.files ≡ is_some w.files
told-by w v (Reply line given command text) es left = told-starts w.table left.between v es left.begins ∙ left.replied.runs.told
told-by w v (Admit g r op) es left = told-alone w v (Admit g r op) left.1
told-by w v (Refuse g r op why) es left = told-alone w v (Refuse g r op why) left.1
told-by w v (Piece g r k outcome got) es left = told-alone w v (Piece g r k outcome got) left.1
told-by w v (Retire g r) es left = told-alone w v (Retire g r) left.1
told-by w v (Reached line what) es left = told-alone w v (Reached line what) left.1
told-by w v (Start job) es left = told-alone w v (Start job) left.1
told-by w v (Ready job) es left = told-alone w v (Ready job) left.1
told-by w v (End job outcome offset) es left = told-alone w v (End job outcome offset) left.1
told-by w v (Done actor) es left = told-alone w v (Done actor) left.1

pub uneventful-kept : (orders : List Order) (w v : WorldSeen) → IsUneventful orders w v → v ≡ record w { nodes = v.nodes; works = v.works; drains = v.drains }
uneventful-kept orders w v (inl off) = rw (put-off-left orders w v off) refl
uneventful-kept orders w v (inr (inl took)) = rw took.takes.copies.kept refl
uneventful-kept orders w v (inr (inr (inl settled))) = rw settled.settles.copies.kept refl
uneventful-kept orders w v (inr (inr (inr drains))) = rw drains.kept refl

pub told-made : (orders : List Order) (w v : WorldSeen) (es : List Event) → MakesEvent orders w v es → is_some v.files ≡ is_some w.files
told-made orders w v [] made = ap (λ (u : WorldSeen). is_some u.files) (uneventful-kept orders w v made)
told-made orders w v (e ∷ es) made = told-by w v e es made.left

pub adds-made : (orders : List Order) (w v : WorldSeen) (es : List Event) → MakesEvent orders w v es → v.progress.log.events ≡ w.progress.log.events ++ es
adds-made orders w v [] made = ap (λ (u : WorldSeen). u.progress.log.events) (uneventful-kept orders w v made) ∙ sym (append-nil w.progress.log.events)
adds-made orders w v (e ∷ es) made = made.adds

-- ---- what isn't accepted starts no job

spoiled-starts : (t : RunTable) (c : Created (List ℕ)) (u : RunTable) → (all_changed u (spoiled t c)).started ≡ u.started
unfolding changed
spoiled-starts t (created.File c) u = refl
spoiled-starts t (created.Qcow2 c) u = refl
spoiled-starts t created.Unknown u = refl

failed-starts : (t : RunTable) (c : Cmd) (u : RunTable) → (all_changed u (failed_edits t c)).started ≡ u.started
failed-starts t (command.BlockdevCreate c) u = spoiled-starts t c.options u
failed-starts t _ u = refl

unaccepted-starts : (s : State) (text : List ℕ) (r : Result Cmd Stop) → is_accepted text ≡ false → (all_changed s.table (edits_by s text r)).started ≡ s.table.started
unaccepted-starts s text (Err why) not = refl
unaccepted-starts s text (Ok c) not = by_tests (is_accepted text) not (tells_failure text)
  where
    by_tests : (a : Bool) → a ≡ false → (b : Bool)
        → (all_changed s.table (if a then command_edits s.table (expected s c) c else if b then failed_edits s.table c else [])).started ≡ s.table.started
    by_tests true is b = absurd (false≢true (sym is))
    by_tests false is true = failed-starts s.table c s.table
    by_tests false is false = refl

-- ---- the entries of one event

module _ (s : State) (given text : List ℕ) where
  now : ℕ
  now = (replied s given text).table.started

  minus : (n m k : ℕ) → n ≡ m + k → n - m ≡ k
  minus n m k is = omega (arith, is)

  no-starts : (replied s given text).table.started ≡ s.table.started → starts_of s given text ≡ []
  no-starts same = by_accepted (is_accepted text)
    where
      none : new_jobs s given text ≡ 0
      none = let is = same in omega (arith, is)

      by_accepted : (b : Bool) → (if b then map Start (range_with_len s.table.started (new_jobs s given text)) else []) ≡ []
      by_accepted true = ap (λ (n : ℕ). map Start (range_with_len s.table.started n)) none
      by_accepted false = refl

  one-start : (replied s given text).table.started ≡ s.table.started + 1 → starts_of s given text ≡ Start s.table.started ∷ []
  one-start more = by_accepted (is_accepted text) refl
    where
      one : new_jobs s given text ≡ 1
      one = let is = more in omega (arith, is)

      by_accepted : (b : Bool) → is_accepted text ≡ b → (if b then map Start (range_with_len s.table.started (new_jobs s given text)) else []) ≡ Start s.table.started ∷ []
      by_accepted true e = ap (λ (n : ℕ). map Start (range_with_len s.table.started n)) one
      by_accepted false e =
          let same = ap (λ (t : RunTable). t.started) (stepped_table (edits_by s text (command_at given)) s) ∙ unaccepted-starts s text (command_at given) e in
          absurd (let is = more in omega (arith, is, same))

unleft-table : (name : Option (List ℕ)) (s : State) → (unleft name s).table ≡ s.table
unleft-table None s = refl
unleft-table (Some name) s = refl

started-table : (s : State) (row : Option JobRecord) → (started s row).table ≡ s.table
started-table s None = refl
started-table s (Some row) = unleft-table _ (noted_start s row)

module _ (o : Opening) (w x : WorldSeen) (comes : Comes o w) (told : is_some w.files ≡ true) (then' : Comes o x) where
  abbrev state : State
  state = replay (start o) w.progress.log.events

  table-is : state.table ≡ w.table
  table-is = (comes.shows told).table.table_is

  -- the state behind the event
  module _ (h : List Event) (adds : x.progress.log.events ≡ w.progress.log.events ++ h) (same : is_some x.files ≡ is_some w.files) where
    behind : (replay state h).table ≡ x.table
    behind =
        ap (λ (s : State). s.table) (sym (run-append after (start o) w.progress.log.events h) ∙ ap (replay (start o)) (sym adds))
        ∙ (then'.shows (same ∙ told)).table.table_is

  reply-starts : (line : ℕ) (given : List ℕ) (command' : Option Cmd) (text : List ℕ) (es : List Event) → IsReplyOf w x line given text es
      → x.progress.log.events ≡ w.progress.log.events ++ Reply line given command' text ∷ es → is_some x.files ≡ is_some w.files → es ≡ starts_of state given text
  reply-starts line given command' text [] reply adds same =
      let table = behind (Reply line given command' text ∷ []) adds same in
      let more : (replied state given text).table.started ≡ state.table.started =
      ap (λ (t : RunTable). t.started) table ∙ ap (λ (u : WorldSeen). u.table.started) reply.begins.kept ∙ reply.begins.started ∙ ap (λ (t : RunTable). t.started) (sym table-is) in
      sym (no-starts state given text more)
  reply-starts line given command' text (Start job ∷ []) reply adds same =
      let one = reply.begins.0 in
      let table = behind (Reply line given command' text ∷ Start job ∷ []) adds same in
      let first : (started (replied state given text) (job_at (replied state given text).table job)).table ≡ (replied state given text).table =
      started-table (replied state given text) (job_at (replied state given text).table job) in
      let more : (replied state given text).table.started ≡ state.table.started + 1 =
      ap (λ (t : RunTable). t.started) (sym first ∙ table) ∙ ap (λ (u : WorldSeen). u.table.started) one.begins.kept ∙ one.started
      ∙ ap (λ (t : RunTable). t.started + 1) (sym table-is) in
      let number : job ≡ state.table.started = sym reply.begins.1 ∙ one.number ∙ ap (λ (t : RunTable). t.started) (sym table-is) in
      ap (λ (n : ℕ). Start n ∷ []) number ∙ sym (one-start state given text more)
  reply-starts line given command' text (Start job ∷ e ∷ es) reply adds same = absurd reply.begins
  reply-starts line given command' text (Admit g r op ∷ es) reply adds same = absurd reply.begins
  reply-starts line given command' text (Refuse g r op why ∷ es) reply adds same = absurd reply.begins
  reply-starts line given command' text (Piece g r k outcome got ∷ es) reply adds same = absurd reply.begins
  reply-starts line given command' text (Retire g r ∷ es) reply adds same = absurd reply.begins
  reply-starts line given command' text (Reply n other command'' words ∷ es) reply adds same = absurd reply.begins
  reply-starts line given command' text (Reached n what ∷ es) reply adds same = absurd reply.begins
  reply-starts line given command' text (Ready job ∷ es) reply adds same = absurd reply.begins
  reply-starts line given command' text (End job outcome offset ∷ es) reply adds same = absurd reply.begins
  reply-starts line given command' text (Done actor ∷ es) reply adds same = absurd reply.begins

  -- a lone job ends alone
  end-alone : (job : ℕ) (why : JobEnd) (offset : ℕ) (es : List Event) → es ≡ [] → IsEndOf w x job why offset
      → With (job_at state.table job) (λ row. AreEnds state.table row.group (End job why offset ∷ es))
  end-alone job why offset es none ends =
      let there : job_at w.table job ≡ Some ends.row = ap (job_at w.table) (sym ends.number) ∙ ends.ends.there in
      let lone = comes.jobs.lone ends.row (job-there w.table ends.row.number ends.row ends.ends.there) in
      at-with (job_at state.table job) ends.row (λ row. AreEnds state.table row.group (End job why offset ∷ es)) (ap (λ (t : RunTable). job_at t job) table-is ∙ there)
      (subst (λ (group : Option ℕ). AreEnds state.table group (End job why offset ∷ es)) (sym lone.group) none)

  one-event : (e : Event) (es : List Event) → IsLeftBy w x e es → x.progress.log.events ≡ w.progress.log.events ++ e ∷ es → is_some x.files ≡ is_some w.files
      → IsEvent state (e ∷ es)
  one-event (Reply line given command' text) es left adds same = reply-starts line given command' text es left adds same
  one-event (Admit g r op) es left adds same = left.0
  one-event (Refuse g r op why) es left adds same = left.0
  one-event (Piece g r k outcome got) es left adds same = left.0
  one-event (Retire g r) es left adds same = left.0
  one-event (Reached line what) es left adds same = left.0
  one-event (Start job) es left adds same = absurd left.1
  one-event (Ready job) es left adds same = left.0
  one-event (End job why offset) es left adds same = end-alone job why offset es left.0 left.1
  one-event (Done actor) es left adds same = left.0

  made-event : (orders : List Order) (es : List Event) → MakesEvent orders w x es → IsEvent state es
  made-event orders [] made = tt
  made-event orders (e ∷ es) made = one-event e es made.left made.adds (told-by w x e es made.left)

-- ---- all of them

-- the world that events begin with comes of the opening
first-comes : (o : Opening) (c : Course) (w : WorldSeen) (events : List (List Event)) (v : WorldSeen) → GoesThrough o c w events v → Comes o w
first-comes o c w [] v through = through.1
first-comes o c w (es ∷ events) v through = through.1

are-events : (o : Opening) (c : Course) (w : WorldSeen) (events : List (List Event)) (v : WorldSeen) → GoesThrough o c w events v → is_some w.files ≡ true
    → AreEvents (replay (start o) w.progress.log.events) events
are-events o c w [] v through told = tt
are-events o c w (es ∷ events) v through told =
    let x = through.0 in
    let next = first-comes o (course_after c es) x events v through.3 in
    let rest = are-events o (course_after c es) x events v through.3 (told-made c.script w x es through.2 ∙ told) in
    let here : replay (start o) x.progress.log.events ≡ replay (replay (start o) w.progress.log.events) es =
    ap (replay (start o)) (adds-made c.script w x es through.2) ∙ run-append after (start o) w.progress.log.events es in (
      made-event o w x through.1 told next c.script es through.2,
      subst (λ (s : State). AreEvents s events) here rest,
    )

-- a run from a world without entries
pub run-falls : (o : Opening) (c : Course) (w : WorldSeen) (events : List (List Event)) (v : WorldSeen) (h : List Event) → w.progress.log.events ≡ [] → is_some w.files ≡ true
    → GoesThrough o c w events v → all_of events ≡ h → FallsIntoEvents (start o) h
run-falls o c w events v h none told through all =
    (events, all, subst (λ (before : List Event). AreEvents (replay (start o) before) events) none (are-events o c w events v through told))
