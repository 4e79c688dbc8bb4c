-- The granules of bitmaps.
use Rattle.std.specs.Prelude.{◌≡◌, ◌≢◌, true, List, length, Contains, Some}
use Rattle.blk_bitmaps.specs.Rows.{is_granule_size, granule_count}
use Rattle.blk_graph.specs.declared.edge.Role.TheVariants.{Filtered}
use Rattle.qmp_rules.specs.declared.rows.NodeRecord.{NodeRecord}
use Rattle.qmp_rules.specs.Chains.{filter_role}
use Rattle.qmp_rules.specs.Table.{RunTable, node_by_id}
use Rattle.flat_machine.specs.State.{Dirty}

-- A power of two from 512 bytes to 2 MiB each, and as many as its node's disk has. The node is there, and no job's filter.
pub record GranulesOf (t : RunTable) (d : Dirty) : Type 0 where
  pub row : NodeRecord
  pub there : node_by_id t d.node ≡ Some row
  pub shown : filter_role row.kind ≢ Some Filtered
  pub bytes : is_granule_size d.granularity ≡ true
  pub count : length d.set ≡ granule_count row.size d.granularity

-- so it is with each bitmap
abbrev pub GranulesStand : RunTable → List Dirty → Type 0
GranulesStand t ds = (d : Dirty) → Contains ds d → GranulesOf t d
