-- What the start of a backup rests on, so that its copy can be made.
use Rattle.std.specs.Prelude.{◌≡◌, ◌≤◌, ◌^◌, true, is_some}
use Rattle.blk_nodes.specs.Contents.{disk_of}
use Rattle.qmp_rules.specs.Queries.{bytes_of_node}
use Rattle.qmp_rules.specs.declared.rows.JobRecord.{JobRecord}
use Rattle.flat_machine.specs.Machine.{replay}
use Rattle.flat_machine.specs.Opening.{start}
use Rattle.flat_machine.specs.declared.opening.Opening.{Opening}
use Rattle.job_commands.specs.Granules.{GranulesStand}
use Rattle.job_commands.specs.Whole.{DisksAreWhole, HaveRowSizes}
use Rattle.world_parts.specs.Face.{WorldSeen, dirty_of}

-- Its source has no more bytes than a job can count, and bitmaps have granules as their nodes' disks ask. Where the store tells its
-- files, disks are as long as the rows of their nodes say.
pub record CanCopyWhole (o : Opening) (w : WorldSeen) (row : JobRecord) : Type 0 where
  pub size : bytes_of_node w.table row.source ≤ 2 ^ 47
  pub granules : GranulesStand w.table (dirty_of w)
  pub reads : is_some w.files ≡ true → HaveRowSizes w.table (disk_of w.nodes)
  pub disks : is_some w.files ≡ true → DisksAreWhole (replay (start o) w.progress.log.events)
