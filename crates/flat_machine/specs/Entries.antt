-- Which entries one event makes.
use Rattle.std.specs.Prelude.{◌≡◌, ℕ, false, ◌-◌, if◌then◌else◌, List, [], ◌∷◌, ◌++◌, filter, map, Option, Some, None}
use Rattle.std.specs.List.{range_with_len}
use Rattle.qmp_rules.specs.Table.{RunTable, job_at}
use Rattle.blk_history.specs.Fold.{With}
use Rattle.flat_machine.specs.State.{State}
use Rattle.flat_machine.specs.Replies.{begins_job, replied, is_accepted}
use Rattle.flat_machine.specs.Jobs.{in_group}
use Rattle.flat_machine.specs.Machine.{replay}
use Rattle.blk_history.specs.declared.event.Event.{Event}
use Rattle.blk_history.specs.declared.event.Event.TheVariants.{Reply, Start, End}

-- how many jobs the answer to a line has started
abbrev pub new_jobs : State → List ℕ → List ℕ → ℕ
new_jobs s given text = (replied s given text).table.started - s.table.started

-- the starts of its jobs, in the order of its actions
abbrev pub starts_of : State → List ℕ → List ℕ → List Event
starts_of s given text =
    if is_accepted text then map Start (range_with_len s.table.started (new_jobs s given text))
    else []

-- it is no answer to a command that begins a job
abbrev pub BeginsNoJob : Event → Type 0
BeginsNoJob (Reply line given (Some command) text) = begins_job command ≡ false
BeginsNoJob e = Unit {0}

abbrev pub ended_job : Event → Option ℕ
ended_job (End job outcome offset) = Some job
ended_job e = None

-- the ends of all members of a group, in the order of their starts
abbrev pub AreEndsOf : RunTable → ℕ → List Event → Type 0
AreEndsOf t group es =
    map ended_job es ≡ map (λ row. Some row.number) (filter (in_group group) t.jobs)

-- the end of a job without a group, or those of all members of its group side by side
abbrev pub AreEnds : RunTable → Option ℕ → List Event → Type 0
AreEnds t None (e ∷ es) = es ≡ []
AreEnds t None [] = ⊥
AreEnds t (Some group) es = AreEndsOf t group es

-- The entries of one event: an admission one or none, a piece, a retirement, an await and the end of an actor one, a command
-- none or its reply with the starts behind it, and a turn of a job none, that it is ready, or ends.
abbrev pub IsEvent : State → List Event → Type 0
IsEvent s [] = Unit {0}
IsEvent s (Reply line given command text ∷ es) = es ≡ starts_of s given text
IsEvent s (End job outcome offset ∷ es) =
    With (job_at s.table job) (λ row. AreEnds s.table row.group (End job outcome offset ∷ es))
IsEvent s (Start job ∷ es) = ⊥
IsEvent s (e ∷ es) = es ≡ []

-- events one after another
abbrev pub AreEvents : State → List (List Event) → Type 0
AreEvents s [] = Unit {0}
AreEvents s (es ∷ events) = IsEvent s es × AreEvents (replay s es) events

abbrev pub all_of : List (List Event) → List Event
all_of [] = []
all_of (es ∷ events) = es ++ all_of events

-- a history's entries fall into events
abbrev pub FallsIntoEvents : State → List Event → Type 0
FallsIntoEvents s h = (events : List (List Event)) × (all_of events ≡ h) × AreEvents s events
