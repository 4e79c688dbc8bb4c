use Rattle.std.proofs.Common.{◌≡◌, length}
use Rattle.blk_nodes.specs.Rewiring.{rows_by}
use Rattle.blk_nodes.proofs.nodes.rewiring.set_access.Given as goal

abbrev pub invariant-loop-i : goal.invariant-loop-i
invariant-loop-i l = record {
  so_far : l.rows.items ≡ rows_by l.i l.kinds l.fn.rows.items;
  count : length l.rows.items ≡ 64;
}
