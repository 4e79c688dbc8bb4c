use Rattle.std.proofs.Common.{◌<◌, ℕ}
use Rattle.std.specs.List.{Contains}
use Rattle.blk_graph.proofs.ids.free_id.Given as goal

abbrev pub invariant-loop-id : goal.invariant-loop-id
invariant-loop-id l = (k : ℕ) → k < l.id → Contains l.nodes k
