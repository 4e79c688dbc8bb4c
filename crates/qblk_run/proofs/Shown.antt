-- What the finished copies of a run show: jobs stand in each world that an end is made in.
use Rattle.std.proofs.Common.{◌≡◌, true, List, [], ◌∷◌, ◌++◌, sym, ◌∙◌, ap, subst}
use Rattle.std.specs.Prelude.{is_some}
use Rattle.std.proofs.lemmas.List.{append-nil, append_assoc}
use Rattle.trace_codec.specs.Script.{Order}
use Rattle.blk_history.specs.declared.event.Event.{Event}
use Rattle.blk_history.specs.declared.event.Event.TheVariants.{Admit, Refuse, Piece, Retire, Reply, Reached, Start, Ready, End, Done}
use Rattle.qmp_rules.specs.Table.{RunTable}
use Rattle.flat_machine.specs.Courses.{Course, course_after}
use Rattle.flat_machine.specs.Entries.{all_of}
use Rattle.flat_machine.specs.Legal.{Legal}
use Rattle.flat_machine.specs.Machine.{replay}
use Rattle.flat_machine.specs.Opening.{start}
use Rattle.flat_machine.specs.declared.opening.Opening.{Opening}
use Rattle.job_tables.specs.Jobs.{JobsStand}
use Rattle.job_results.specs.Finished.{AreNoEnds, CopiesAreShown, EndsFirst, StandAtEnds}
use Rattle.job_results.proofs.Finished.{copies_shown, stand_beginning, stand_on}
use Rattle.world_parts.specs.Face.{WorldSeen}
use Rattle.qblk_run.specs.Worlds.{AreStartsBehind, GoesThrough, IsLeftBy, MakesEvent}
use Rattle.qblk_run.proofs.Falling.{adds-made, told-made}

-- ---- no entry of an event but the first is an end

starts_only : (t : RunTable) (w v : WorldSeen) (es : List Event) → AreStartsBehind t w v es → AreNoEnds es
starts_only t w v [] begins = tt
starts_only t w v (Start job ∷ []) begins = (tt, tt)
starts_only t w v (Start job ∷ e ∷ es) begins = absurd begins
starts_only t w v (Admit g r op ∷ es) begins = absurd begins
starts_only t w v (Refuse g r op why ∷ es) begins = absurd begins
starts_only t w v (Piece g r k outcome got ∷ es) begins = absurd begins
starts_only t w v (Retire g r ∷ es) begins = absurd begins
starts_only t w v (Reply line given command text ∷ es) begins = absurd begins
starts_only t w v (Reached line what ∷ es) begins = absurd begins
starts_only t w v (Ready job ∷ es) begins = absurd begins
starts_only t w v (End job why offset ∷ es) begins = absurd begins
starts_only t w v (Done actor ∷ es) begins = absurd begins

alone : (es : List Event) → es ≡ [] → AreNoEnds es
alone es none = subst AreNoEnds (sym none) tt

first_ends : (w x : WorldSeen) (e : Event) (es : List Event) → IsLeftBy w x e es → AreNoEnds es
first_ends w x (Reply line given command text) es left = starts_only w.table left.between x es left.begins
first_ends w x (Admit g r op) es left = alone es left.0
first_ends w x (Refuse g r op why) es left = alone es left.0
first_ends w x (Piece g r k outcome got) es left = alone es left.0
first_ends w x (Retire g r) es left = alone es left.0
first_ends w x (Reached line what) es left = alone es left.0
first_ends w x (Start job) es left = alone es left.0
first_ends w x (Ready job) es left = alone es left.0
first_ends w x (End job why offset) es left = alone es left.0
first_ends w x (Done actor) es left = alone es left.0

made_first : (orders : List Order) (w x : WorldSeen) (es : List Event) → MakesEvent orders w x es → EndsFirst es
made_first orders w x [] made = tt
made_first orders w x (e ∷ es) made = first_ends w x e es made.left

-- ---- all events

-- the entries of a world, and then those of these events
abbrev then_all : WorldSeen → List (List Event) → List Event
then_all w events = w.progress.log.events ++ all_of events

joined : (orders : List Order) (w x : WorldSeen) (es : List Event) (events : List (List Event)) → MakesEvent orders w x es
    → then_all x events ≡ then_all w (es ∷ events)
joined orders w x es events made =
    ap (λ (h : List Event). h ++ all_of events) (adds-made orders w x es made) ∙ append_assoc w.progress.log.events es (all_of events)

all_stand : (o : Opening) (c : Course) (w : WorldSeen) (events : List (List Event)) (v : WorldSeen) → GoesThrough o c w events v → is_some w.files ≡ true
    → StandAtEnds o w.progress.log.events → StandAtEnds o (then_all w events)
all_stand o c w [] v through told stand = subst (StandAtEnds o) (sym (append-nil w.progress.log.events)) stand
all_stand o c w (es ∷ events) v through told stand =
    let x = through.0 in
    let jobs : JobsStand (replay (start o) w.progress.log.events).table = subst JobsStand (sym (through.1.shows told).table.table_is) through.1.jobs.stand in
    let next : StandAtEnds o x.progress.log.events =
    subst (StandAtEnds o) (sym (adds-made c.script w x es through.2)) (stand_on o w.progress.log.events es stand jobs (made_first c.script w x es through.2)) in
    subst (StandAtEnds o) (joined c.script w x es events through.2)
    (all_stand o (course_after c es) x events v through.3 (told-made c.script w x es through.2 ∙ told) next)

all_legal : (o : Opening) (c : Course) (w : WorldSeen) (events : List (List Event)) (v : WorldSeen) → GoesThrough o c w events v → is_some w.files ≡ true
    → Legal (start o) (then_all w events)
all_legal o c w [] v through told = subst (Legal (start o)) (sym (append-nil w.progress.log.events)) (through.1.history.history told).legal
all_legal o c w (es ∷ events) v through told =
    let x = through.0 in
    subst (Legal (start o)) (joined c.script w x es events through.2)
    (all_legal o (course_after c es) x events v through.3 (told-made c.script w x es through.2 ∙ told))

-- a run from a world without entries
pub run_shown : (o : Opening) (c : Course) (w : WorldSeen) (events : List (List Event)) (v : WorldSeen) (h : List Event) → w.progress.log.events ≡ [] → is_some w.files ≡ true
    → GoesThrough o c w events v → all_of events ≡ h → CopiesAreShown o h
run_shown o c w events v h none told through all =
    let from_none : (P : List Event → Type 0) → P (then_all w events) → P h
    = λ P is. subst P all (subst (λ (before : List Event). P (before ++ all_of events)) none is) in
    copies_shown o h (from_none (Legal (start o)) (all_legal o c w events v through told))
    (from_none (StandAtEnds o) (all_stand o c w events v through told (subst (StandAtEnds o) (sym none) (stand_beginning o))))
