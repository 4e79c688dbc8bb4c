-- What the start of a job does to nodes and files.
use Rattle.std.specs.Prelude.{◌≡◌, ℕ, Some}
use Rattle.qmp_codec.specs.declared.event.JobKind.{JobKind}
use Rattle.qmp_codec.specs.declared.event.JobKind.TheVariants.{Commit}
use Rattle.qmp_rules.specs.declared.rows.JobRecord.{JobRecord}
use Rattle.qmp_rules.specs.Edits.{to_be_written}
use Rattle.qmp_rules.specs.Table.{RunTable}
use Rattle.flat_machine.specs.Agreement.{Contents}
use Rattle.flat_machine.specs.Performing.{ReadSame, HeldSame, Nothing}

-- The job's filter, where it has one, reads as its source; all other nodes read the same, and files hold the same.
pub record ShowsFilter (row : JobRecord) (old new : Contents) : Type 0 where
  pub nodes : ReadSame (λ node. row.filter ≡ Some node) old new
  pub files : HeldSame Nothing old new
  pub filter : (node : ℕ) → row.filter ≡ Some node → new.reads node ≡ old.reads row.source

-- a commit makes its base and the file of that writable where they may not be written
abbrev pub LendsAsRead : RunTable → JobRecord → JobKind → Type 0
LendsAsRead t row Commit = row.made_writable ≡ to_be_written t row.target
LendsAsRead t row kind = Unit {0}
