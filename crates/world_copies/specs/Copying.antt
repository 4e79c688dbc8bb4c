-- What is known of a step of a job's copying in the nodes of a world.
use Rattle.std.specs.Prelude.{◌≡◌, Some}
use Rattle.block_jobs.specs.Work.{JobWork}
use Rattle.blk_nodes.specs.Joined.{IsJoined}
use Rattle.blk_nodes.specs.Nodes.{AreTold}
use Rattle.job_works.specs.Works.{ChangesWork}
use Rattle.qmp_rules.specs.Table.{job_at}
use Rattle.qmp_rules.specs.declared.rows.JobRecord.{JobRecord}
use Rattle.world_parts.specs.Face.{WorldSeen}
use Rattle.world_goings.specs.Copied.{HasSmallFault, IsDoneOnceFailed}

-- Nodes and works alone changed, by a step of one job's work.
pub record IsStepOf (w v : WorldSeen) (row : JobRecord) (Does : JobWork → JobWork → Type 0) : Type 0
  where
    pub there : job_at w.table row.number ≡ Some row
    pub kept : v ≡ record w { nodes = v.nodes; works = v.works }
    pub joined : IsJoined w.nodes
    pub joined_then : IsJoined v.nodes
    pub told : AreTold w.nodes.devices → AreTold v.nodes.devices
    pub changes : ChangesWork row.number Does w.works v.works
    pub done : IsDoneOnceFailed changes.was
    pub small : HasSmallFault changes.now
