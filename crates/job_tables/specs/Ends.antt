-- What the end of a job needs of the state, beside what holds of the table while it runs.
use Rattle.std.specs.Prelude.{◌≡◌, ◌≢◌, ℕ, true, false, List, Contains, slice_get, Option, Some, None}
use Rattle.blk_graph.specs.declared.edge.Edge.{Edge}
use Rattle.blk_graph.specs.declared.edge.Role.TheVariants.{File, Filtered}
use Rattle.qmp_codec.specs.declared.event.JobKind.{JobKind}
use Rattle.qmp_codec.specs.declared.event.JobKind.TheVariants.{Stream, Commit}
use Rattle.qmp_rules.specs.declared.rows.NodeRecord.{NodeRecord}
use Rattle.qmp_rules.specs.declared.rows.JobRecord.{JobRecord}
use Rattle.qmp_rules.specs.Table.{RunTable, node_by_id}
use Rattle.flat_machine.specs.State.{State}
use Rattle.flat_machine.specs.Jobs.{target_written}
use Rattle.flat_machine.specs.Standing.{IsUsedFile}
use Rattle.flat_machine.specs.Suiting.{HaveOneSize, NoneLeftIn}
use Rattle.flat_machine.specs.Wiring.{StandsFor}

-- The target or base has its source's size, and may be written. A file that it stands for was used, and no disk is left in that.
pub record TargetSuits (s : State) (row : JobRecord) (target : ℕ) : Type 0 where
  pub sizes : HaveOneSize s.table row.source target
  pub writable : (node : NodeRecord) → node_by_id s.table target ≡ Some node → node.read_only ≡ false
  pub used : (name : List ℕ) (node : NodeRecord) → StandsFor s.table name node → node.id ≡ target
      → IsUsedFile s name
  pub left : NoneLeftIn s target

-- the node that gets another backing node: the top of a stream, the overlay over the top of an inner commit
abbrev pub rebased_by : JobRecord → JobKind → Option ℕ
rebased_by row Stream = Some row.source
rebased_by row Commit = slice_get row.read 0
rebased_by row kind = None

-- no filter is over the node
abbrev pub IsBare : RunTable → ℕ → Type 0
IsBare t node =
    (edge : Edge) → Contains t.edges edge → edge.child ≡ node
    → (edge.role ≢ File) × (edge.role ≢ Filtered)

-- A base that the commit made writable has no filter over it, and its file was made writable with it alone.
pub record LentSuits (t : RunTable) (row : JobRecord) : Type 0 where
  pub bare : (base : ℕ) → row.made_writable.base ≡ true → row.target ≡ Some base → IsBare t base
  pub file : row.made_writable.file ≡ true → row.made_writable.base ≡ true

pub record EndSuits (s : State) (row : JobRecord) : Type 0 where
  pub source : NoneLeftIn s row.source
  pub target : (target : ℕ) → target_written row ≡ Some target → TargetSuits s row target
  pub rebased : (node base : ℕ) → rebased_by row row.kind ≡ Some node → row.target ≡ Some base
      → HaveOneSize s.table node base
  pub lent : LentSuits s.table row
