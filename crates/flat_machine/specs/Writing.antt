-- What a piece of a guest's request does to nodes and files.
use Rattle.std.specs.Prelude.{◌≡◌, ◌≢◌, ◌⊎◌, ℕ, true, ◌==◌, List, All, find, Some, IsSome}
use Rattle.blk_base.specs.Pieces.{Extent}
use Rattle.blk_graph.specs.declared.edge.Role.TheVariants.{File}
use Rattle.trace_codec.specs.declared.op.Op.{Op}
use Rattle.trace_codec.specs.declared.op.Op.TheVariants.{Read, Write, Zero}
use Rattle.blk_base.specs.declared.fault.Outcome.{Outcome}
use Rattle.qmp_rules.specs.declared.rows.NodeRecord.{NodeRecord}
use Rattle.qmp_rules.specs.Table.{RunTable, node_by_id, child, has_name}
use Rattle.qmp_rules.specs.Chains.{disk_node, is_over}
use Rattle.blk_history.specs.Disk.{done_in}
use Rattle.blk_history.specs.Machine.{done_by}
use Rattle.flat_machine.specs.State.{State, Unknown, content_in}
pub use Rattle.flat_machine.specs.Changed.{written_file}
use Rattle.flat_machine.specs.Machine.{copies_through}
use Rattle.flat_machine.specs.Agreement.{Contents, HasDisk}
use Rattle.flat_machine.specs.Performing.{ReadSame, HeldSame, IsQuiet}

-- ---- the node that is written

-- A node that a guest may write: it has a flat disk, the `file` node under it has none, and of its file nothing is known, no
-- disk is left in it, and a command named it.
pub record IsGuestWritable (s : State) (node : ℕ) : Type 0 where
  pub disk : IsSome (find (λ d. d.node == node) s.disks)
  pub under : (file : ℕ) (row : NodeRecord) → child s.table node File ≡ Some file
      → node_by_id s.table file ≡ Some row → HasDisk row → ⊥
  pub known : (name : List ℕ) → written_file s.table node ≡ Some name
      → content_in s.files name ≡ Some Unknown
  pub left : (name : List ℕ) → written_file s.table node ≡ Some name
      → All (λ l. l.file ≢ name) s.left
  pub named : (name : List ℕ) → written_file s.table node ≡ Some name → has_name name s.named ≡ true

-- ---- what is done

-- a node reads otherwise: the written one, and a filter over it, the `file` node under it, and what reads it as a backing node
abbrev pub ReadsWritten : RunTable → ℕ → ℕ → Type 0
ReadsWritten t node other =
    (disk_node t other ≡ node) ⊎ ((child t node File ≡ Some other) ⊎ (is_over t node other ≡ true))

-- so many bytes of a part of the request are done
pub record WritesDisks (s : State) (node : ℕ) (op : Op) (part : Extent) (done : ℕ)
    (old new : Contents) : Type 0 where
  pub written : new.reads node ≡ done_in op part done (old.reads node)
  pub nodes : ReadSame (ReadsWritten s.table node) old new
  pub files : HeldSame (λ name. written_file s.table node ≡ Some name) old new

-- A read through a filter that copies may write clusters of the image below, of which no disk is another one afterwards.
pub record Copies (s : State) (node : ℕ) (old new : Contents) : Type 0 where
  pub nodes : ReadSame (λ other. child s.table node File ≡ Some other) old new
  pub files : HeldSame (λ name. written_file s.table node ≡ Some name) old new

abbrev pub ReadDone : State → ℕ → Contents → Contents → Type 0
ReadDone s drive old new =
    IsQuiet old new
    ⊎ ((copies_through s.table drive ≡ true) × Copies s (disk_node s.table drive) old new)

-- a piece on a guest's drive; one of a flush or a discard changes nothing
abbrev pub PieceDone : State → ℕ → Op → Outcome → Extent → Contents → Contents → Type 0
PieceDone s drive (Read span) outcome part old new = ReadDone s drive old new
PieceDone s drive (Write span payload) outcome part old new =
    WritesDisks s (disk_node s.table drive) (Write span payload) part (done_by outcome part) old new
PieceDone s drive (Zero span) outcome part old new =
    WritesDisks s (disk_node s.table drive) (Zero span) part (done_by outcome part) old new
PieceDone s drive op outcome part old new = IsQuiet old new

abbrev pub CanWrite : State → ℕ → Op → Type 0
CanWrite s drive (Read span) =
    copies_through s.table drive ≡ true → IsGuestWritable s (disk_node s.table drive)
CanWrite s drive (Write span payload) = IsGuestWritable s (disk_node s.table drive)
CanWrite s drive (Zero span) = IsGuestWritable s (disk_node s.table drive)
CanWrite s drive op = Unit {0}
