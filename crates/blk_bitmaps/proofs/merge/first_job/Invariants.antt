use Rattle.std.proofs.Common.{◌≡◌, drop}
use Rattle.blk_bitmaps.specs.Refusals.{first_job}
use Rattle.blk_bitmaps.proofs.merge.first_job.Given as goal

abbrev pub invariant-loop-source : goal.invariant-loop-source
invariant-loop-source l = first_job l.rows (drop l.source-index l.sources) ≡ first_job l.rows l.sources
