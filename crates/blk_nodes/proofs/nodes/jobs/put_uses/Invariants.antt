use Rattle.std.proofs.Common.{◌≡◌, drop}
use Rattle.blk_nodes.specs.Jobs.{with_job_edges}
use Rattle.blk_nodes.proofs.nodes.jobs.put_uses.Given as goal

abbrev pub invariant-loop-used : goal.invariant-loop-used
invariant-loop-used l = with_job_edges l.job (drop l.used-index l.uses) l.draft ≡ with_job_edges l.job l.uses l.fn.draft
