-- What is written of the target of a backup or mirror, or of the base of a commit, beside all else.
use Rattle.std.specs.Prelude.{◌≡◌, ◌⊎◌, ℕ, Some}
use Rattle.blk_graph.specs.declared.edge.Role.TheVariants.{File}
use Rattle.qmp_rules.specs.declared.rows.NodeRecord.{NodeRecord}
use Rattle.qmp_rules.specs.Table.{RunTable, child, node_by_id}
use Rattle.flat_machine.specs.Agreement.{Contents, HasDisk}
use Rattle.flat_machine.specs.Changed.{written_file}
use Rattle.flat_machine.specs.Imaging.{KeepsMapping}
use Rattle.flat_machine.specs.Performing.{ReadSame, HeldSame}
use Rattle.flat_machine.specs.State.{State}

-- The target and the `file` node under it read otherwise, and the file that it writes holds something else; where its image
-- mapped a cluster it still does.
pub record WritesAside (t : RunTable) (target : ℕ) (old new : Contents) : Type 0 where
  pub nodes : ReadSame (λ node. (node ≡ target) ⊎ (child t target File ≡ Some node)) old new
  pub files : HeldSame (λ name. written_file t target ≡ Some name) old new
  pub mapping : KeepsMapping t target old new

-- Of a commit's base more nodes read otherwise, as those between it and the top; but each that has a flat disk reads the same.
pub record WritesBase (s : State) (base : ℕ) (old new : Contents) : Type 0 where
  pub nodes : (node : ℕ) (row : NodeRecord) → node_by_id s.table node ≡ Some row → HasDisk row
      → new.reads node ≡ old.reads node
  pub files : HeldSame (λ name. written_file s.table base ≡ Some name) old new
  pub mapping : KeepsMapping s.table base old new
