-- Histories that come of an opening.
use Rattle.std.specs.Prelude.{◌≡◌, ℕ, Bool, true, List, [], ◌∷◌, map, length, All, Option, Some, None}
use Rattle.qmp_rules.specs.declared.rows.JobRecord.{JobRecord}
use Rattle.qmp_rules.specs.Table.{job_at}
use Rattle.qmp_rules.specs.Queries.{bytes_of_node}
use Rattle.blk_history.specs.Fold.{run, change}
use Rattle.blk_history.specs.Names.{JobLine, RowNames, no_job}
use Rattle.flat_machine.specs.State.{State, Guest}
use Rattle.flat_machine.specs.Machine.{after, replay, admitted, finished, past_piece}
use Rattle.flat_machine.specs.Legal.{Legal, IsAtRest}
use Rattle.flat_machine.specs.Marks.{NoneSplits}
use Rattle.trace_codec.specs.declared.wish.Wish.{Wish}
use Rattle.trace_codec.specs.Script.{Order}
use Rattle.flat_machine.specs.Courses.{KeepsOrder, course_of, IsWhole}
use Rattle.flat_machine.specs.Licence.{Counts, AreLicensed}
use Rattle.flat_machine.specs.Opening.{start, new_guest}
use Rattle.blk_history.specs.Transcript.{transcript}
use Rattle.flat_machine.specs.declared.opening.Opening.{Opening}
use Rattle.blk_history.specs.declared.event.Event.{Event}
use Rattle.blk_history.specs.declared.event.Event.TheVariants.{Admit, Refuse, Piece, Retire, Start}

-- ---- names of a history

-- the line of a job, by its row
abbrev pub job_line_of : State → Option JobRecord → JobLine
job_line_of s None = no_job
job_line_of s (Some row) = record {
  id = row.id;
  kind = row.kind;
  size = bytes_of_node s.table row.source;
}

-- the jobs that a history starts, in order
abbrev pub jobs_from : State → List Event → List JobLine
jobs_from s [] = []
jobs_from s (Start job ∷ es) =
    job_line_of s (job_at s.table job) ∷ jobs_from (after s (Start job)) es
jobs_from s (e ∷ es) = jobs_from (after s e) es

abbrev pub names_of : Opening → List Event → RowNames
names_of o h = record { guests = o.guests; jobs = jobs_from (start o) h }

-- what is printed of a history
abbrev pub transcript_of : Opening → List Event → List ℕ
transcript_of o h = transcript (names_of o h) h

-- ---- from an opening

-- The history is legal from that opening, it stops behind a whole event, and no mark of it splits a request.
pub record IsHistoryOf (o : Opening) (h : List Event) : Type 0 where
  pub legal : Legal (start o) h
  pub rest : IsAtRest (replay (start o) h)
  pub marks : NoneSplits (start o) h

-- These guests are the opening's, and each fault that the history names is a rise that it names once. Where the store tells
-- its files, the history is one of that opening.
pub record ComesOf (o : Opening) (is_told : Bool) (guests : List (List ℕ)) (opened now : Counts)
    (h : List Event) : Type 0 where
  pub guests_are : guests ≡ o.guests
  pub licensed : AreLicensed opened now h
  pub history : is_told ≡ true → IsHistoryOf o h

-- Each guest's requests are its trace's, in order, and so it is with the script; no bytes are needed to say so.
pub record IsInOrder (o : Opening) (script : List Order) (traces : List (List Wish))
    (h : List Event) : Type 0 where
  pub guests : length traces ≡ length o.guests
  pub order : KeepsOrder (course_of script traces) h

-- a guest's row as its own entries make it
abbrev pub guest_step : List Guest → Event → List Guest
guest_step guests (Admit g r op) = change g (admitted op) guests
guest_step guests (Refuse g r op why) = change g finished guests
guest_step guests (Piece g r k outcome got) = change g (past_piece outcome) guests
guest_step guests (Retire g r) = change g finished guests
guest_step guests e = guests

abbrev pub guests_after : Opening → List Event → List Guest
guests_after o h = run guest_step (map (λ name. new_guest) o.guests) h

-- A run that is done: script and traces are used up, each actor is done, and no request is in flight.
pub record IsRunDone (o : Opening) (script : List Order) (traces : List (List Wish))
    (h : List Event) : Type 0 where
  pub guests : length traces ≡ length o.guests
  pub whole : IsWhole script traces h
  pub idle : All (λ row. row.flight ≡ None) (guests_after o h)

-- Where the store tells its files, what was done is a history of that opening, after which no job is left.
pub record HasEnded (o : Opening) (is_told : Bool) (script : List Order) (traces : List (List Wish))
    (h : List Event) : Type 0 where
  pub done : IsRunDone o script traces h
  pub history : is_told ≡ true → IsHistoryOf o h
  pub jobs : is_told ≡ true → (replay (start o) h).table.jobs ≡ []
