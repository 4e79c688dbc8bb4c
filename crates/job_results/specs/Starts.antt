-- Where a job began in a history, and where it is to end.
use Rattle.std.specs.Prelude.{◌≡◌, ◌++◌, [], ◌∷◌, ℕ, List, Option, Some}
use Rattle.blk_history.specs.declared.entry.JobEnd.{JobEnd}
use Rattle.blk_history.specs.declared.event.Event.{Event}
use Rattle.blk_history.specs.declared.event.Event.TheVariants.{Reply, Start, End}
use Rattle.qmp_codec.specs.Commands.{Cmd}
use Rattle.qmp_rules.specs.declared.rows.JobRecord.{JobRecord}
use Rattle.qmp_rules.specs.Table.{job_at}
use Rattle.flat_machine.specs.Legal.{Fits, Legal}
use Rattle.flat_machine.specs.Machine.{replay}
use Rattle.flat_machine.specs.Opening.{start}
use Rattle.flat_machine.specs.State.{State}
use Rattle.flat_machine.specs.declared.opening.Opening.{Opening}

-- a job's row at two times: what is asked of the job may differ, and whether it is ready
pub record IsOneJob (was row : JobRecord) : Type 0 where
  pub number : row.number ≡ was.number
  pub kind : row.kind ≡ was.kind
  pub source : row.source ≡ was.source
  pub target : row.target ≡ was.target
  pub bitmap : row.bitmap ≡ was.bitmap

-- The history has the start of the job of this number. What came before it is `before`, and the job's row, which is `row`
-- behind the history, was `was` there.
pub record StartOf (first : State) (h : List Event) (number : ℕ) (row : JobRecord) : Type 0 where
  pub before : List Event
  pub behind : List Event
  pub place : h ≡ before ++ Start number ∷ behind
  pub was : JobRecord
  pub found : job_at (replay first before).table number ≡ Some was
  pub same : IsOneJob was row

-- starts, and nothing else
abbrev pub IsStart : Event → Type 0
IsStart (Start job) = Unit {0}
IsStart e = ⊥

abbrev pub AreStarts : List Event → Type 0
AreStarts [] = Unit {0}
AreStarts (e ∷ es) = IsStart e × AreStarts es

-- The history ends with a reply, and what starts stand behind it.
pub record EndsByReply (h : List Event) : Type 0 where
  pub earlier : List Event
  pub line : ℕ
  pub given : List ℕ
  pub command : Option Cmd
  pub text : List ℕ
  pub starts : List Event
  pub place : h ≡ earlier ++ Reply line given command text ∷ starts
  pub only : AreStarts starts

-- behind a legal history the end of the job of this number, whose row is `row`, is an entry that fits
pub record EndsNext (o : Opening) (h : List Event) (number : ℕ) (row : JobRecord) (why : JobEnd)
    (offset : ℕ) : Type 0 where
  pub legal : Legal (start o) h
  pub found : job_at (replay (start o) h).table number ≡ Some row
  pub fits : Fits (replay (start o) h) (End number why offset)
