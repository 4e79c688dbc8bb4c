-- The headers that the ends of streams and inner commits rewrite are in files that were named for writing.
use Rattle.std.specs.Prelude.{◌≡◌, ℕ, true, false, List, Contains, Some}
use Rattle.blk_graph.specs.declared.kind.Kind.TheVariants.{Qcow2}
use Rattle.qmp_codec.specs.declared.event.JobKind.{JobKind}
use Rattle.qmp_codec.specs.declared.event.JobKind.TheVariants.{Stream}
use Rattle.qmp_rules.specs.declared.rows.NodeRecord.{NodeRecord}
use Rattle.qmp_rules.specs.declared.rows.JobRecord.{JobRecord}
use Rattle.qmp_rules.specs.Table.{RunTable, node_by_id, has_name}
use Rattle.flat_machine.specs.State.{State}
use Rattle.flat_machine.specs.Changed.{written_file}
use Rattle.flat_machine.specs.Imaging.{is_qcow2_at}
use Rattle.job_tables.specs.Ends.{rebased_by}

-- a qcow2 node whose file was named for writing
pub record IsNamedImage (s : State) (node : ℕ) : Type 0 where
  pub image : is_qcow2_at s.table node ≡ true
  pub named : (name : List ℕ) → written_file s.table node ≡ Some name
      → has_name name s.named ≡ true

-- such is each node that gets another backing node at the end of a job
abbrev pub HeadersAreNamed : State → Type 0
HeadersAreNamed s = (row : JobRecord) (node : ℕ) → Contains s.table.jobs row
    → rebased_by row row.kind ≡ Some node
    → IsNamedImage s node

-- ---- starts

-- a qcow2 node that may be written
pub record IsWritableImage (t : RunTable) (node : ℕ) : Type 0 where
  pub row : NodeRecord
  pub found : node_by_id t node ≡ Some row
  pub driver : row.kind ≡ Qcow2
  pub writable : row.read_only ≡ false

-- The top of a stream is to be such a node. Of commits it isn't asked: the overlay above the top may be read-only.
abbrev pub HeaderBegins : RunTable → JobRecord → JobKind → Type 0
HeaderBegins t row Stream = IsWritableImage t row.source
HeaderBegins t row kind = Unit {0}
