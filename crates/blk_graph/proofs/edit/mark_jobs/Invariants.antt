use Rattle.std.proofs.Common.{◌≡◌, drop, length}
use Rattle.blk_graph.specs.Doubles.{AreJobsAt}
use Rattle.blk_graph.proofs.edit.mark_jobs.Given as goal

abbrev pub invariant-loop-i : goal.invariant-loop-i
invariant-loop-i l = record {
  jobs : AreJobsAt (drop l.i l.edges) l.node l.marks;
  room : length l.marks ≡ 16;
}
