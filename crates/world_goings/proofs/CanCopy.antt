-- A backup may begin in a world that comes of its opening.
use Rattle.std.proofs.Common.{◌≤◌}
use Rattle.std.specs.Prelude.{◌^◌}
use Rattle.blk_nodes.specs.Joined.{IsJoined}
use Rattle.qmp_rules.specs.Queries.{bytes_of_node}
use Rattle.qmp_rules.specs.declared.rows.JobRecord.{JobRecord}
use Rattle.flat_machine.specs.declared.opening.Opening.{Opening}
use Rattle.world_parts.specs.Coherent.{IsWholeWorld}
use Rattle.world_parts.specs.Comes.{Comes}
use Rattle.world_parts.specs.Face.{WorldSeen}
use Rattle.world_parts.proofs.WholeDisks.{row_sizes}
use Rattle.world_goings.specs.Begun.{CanCopyWhole}

pub can_copy_whole : (o : Opening) (w : WorldSeen) (row : JobRecord) → IsWholeWorld w → IsJoined w.nodes → Comes o w → bytes_of_node w.table row.source ≤ 2 ^ 47 → CanCopyWhole o w row
can_copy_whole o w row whole joined comes small = record {
  size = small;
  granules = comes.granules;
  reads = λ told. row_sizes w.table w.nodes whole.coherent.alike joined (whole.tell told);
  disks = λ told. (comes.going told).whole;
}
