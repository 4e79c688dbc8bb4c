-- What a mirror or a commit has to copy again once a guest wrote on its source.
use Rattle.std.specs.Prelude.{ℕ, List, Option, Some, None}
use Rattle.blk_base.specs.Pieces.{Extent}
use Rattle.block_jobs.specs.Work.{JobWork}
use Rattle.job_progress.specs.Piecing.{marked_for, follower_of}
use Rattle.qmp_rules.specs.Table.{RunTable}

-- what was written on a node, if anything was, the mirror or commit of the node has to copy again
abbrev pub marked_in : Option Extent → RunTable → ℕ → List JobWork → List JobWork
marked_in None t node works = works
marked_in (Some part) t node works = marked_for (follower_of t node) part works
