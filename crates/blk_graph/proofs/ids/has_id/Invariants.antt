use Rattle.std.proofs.Common.{◌≡◌, ◌<◌, ℕ, get_or}
use Rattle.blk_graph.proofs.ids.has_id.Given as goal

abbrev pub invariant-loop-other : goal.invariant-loop-other
invariant-loop-other l = (k d : ℕ) → k < l.other-index → get_or l.nodes k d ≡ l.node → ⊥
