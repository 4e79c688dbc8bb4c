-- What an accepted command meets, and what the table is by then.
use Rattle.std.specs.Prelude.{◌≡◌, ◌<◌, Contains, None}
use Rattle.qmp_codec.specs.Commands.{Cmd}
use Rattle.qmp_asks.specs.CommandAsks.{asks_of}
use Rattle.qmp_rules.specs.declared.rows.NodeRecord.{NodeRecord}
use Rattle.qmp_rules.specs.declared.rows.JobRecord.{JobRecord}
use Rattle.qmp_rules.specs.declared.told.Told.{Told}
use Rattle.qmp_rules.specs.Answers.{refusal_behind}
use Rattle.qmp_rules.specs.Asks.{first_unmet_ask}
use Rattle.qmp_rules.specs.Table.{RunTable}
use Rattle.job_tables.specs.Jobs.{JobsStand, EdgesAreDrawn}
use Rattle.job_tables.specs.Running.{JobsRun, RunBegins}
use Rattle.job_tables.specs.Starts.{JobBegins}

-- no ask of the command refuses it, nor do the edges that its changes make
pub record IsMet (t : RunTable) (told : Told) (c : Cmd) : Type 0 where
  pub asks : first_unmet_ask t told (asks_of c) ≡ None
  pub behind : refusal_behind t told c ≡ None

-- each node has a number that a graph's node can have
abbrev pub HaveSmallIds : RunTable → Type 0
HaveSmallIds t = (row : NodeRecord) → Contains t.nodes row → row.id < 64

-- a job begins by its row, so that it stands and runs
pub record Begins (t : RunTable) (row : JobRecord) : Type 0 where
  pub job : JobBegins t row
  pub run : RunBegins t row

-- jobs stand and run
pub record JobsGoOn (t : RunTable) : Type 0 where
  pub stand : JobsStand t
  pub run : JobsRun t

-- and their edges are drawn, between nodes with such numbers
pub record JobsAreDrawn (t : RunTable) : Type 0 where
  pub jobs : JobsGoOn t
  pub edges : EdgesAreDrawn t
  pub small : HaveSmallIds t
