use Rattle.std.proofs.Common.{◌≡◌, ◌<◌, ℕ, get_or}
use Rattle.blk_graph.specs.Layout.{name_of, key_of}
use Rattle.blk_graph.proofs.names.node_named.Given as goal

abbrev pub invariant-loop-node : goal.invariant-loop-node
invariant-loop-node l = (k d : ℕ) → k < l.node-index → name_of l.names (key_of l.keys (get_or l.order k d)) ≡ l.name → ⊥
