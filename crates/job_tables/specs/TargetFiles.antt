-- What is known of the files that jobs write: nothing, and no disk is left in them.
use Rattle.std.specs.Prelude.{◌≡◌, ◌≢◌, ◌<◌, ℕ, List, Contains, Some}
use Rattle.qmp_codec.specs.declared.event.JobKind.{JobKind}
use Rattle.qmp_codec.specs.declared.event.JobKind.TheVariants.{Mirror, Backup}
use Rattle.qmp_rules.specs.declared.rows.NodeRecord.{NodeRecord}
use Rattle.qmp_rules.specs.declared.rows.JobRecord.{JobRecord}
use Rattle.qmp_rules.specs.Table.{RunTable}
use Rattle.flat_machine.specs.State.{State, Unknown, Left, content_in}
use Rattle.flat_machine.specs.Jobs.{target_written}

-- the job writes a `file` node that stands for the file
pub record WritesFile (t : RunTable) (row : JobRecord) (name : List ℕ) : Type 0 where
  pub node : NodeRecord
  pub there : Contains t.nodes node
  pub target : target_written row ≡ Some node.id
  pub filename : node.filename ≡ Some name

abbrev pub IsCopier : JobKind → Type 0
IsCopier Backup = Unit {0}
IsCopier Mirror = Unit {0}
IsCopier kind = ⊥

-- Nothing is known of such a file; and in that of a backup or mirror whose start stands in the history no disk is left. Of the
-- file under a format node that a job writes the same follows, since a node is over it.
pub record TargetFilesStand (s : State) : Type 0 where
  pub unknown : (row : JobRecord) (name : List ℕ) → Contains s.table.jobs row
      → WritesFile s.table row name → content_in s.files name ≡ Some Unknown
  pub none_left : (row : JobRecord) (name : List ℕ) (left : Left) → Contains s.table.jobs row
      → row.number < s.starts → IsCopier row.kind → WritesFile s.table row name
      → Contains s.left left
      → left.file ≢ name
