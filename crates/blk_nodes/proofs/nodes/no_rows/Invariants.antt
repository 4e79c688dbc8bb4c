use Rattle.std.proofs.Common.{◌≡◌, ◌-◌, ◌≤◌, replicate, None, vec_len}
use Rattle.blk_nodes.proofs.nodes.no_rows.Given as goal

abbrev pub invariant-loop-rows : goal.invariant-loop-rows
invariant-loop-rows l = record { free : l.rows.items ≡ replicate (vec_len l.rows) None; few : vec_len l.rows ≤ 64 }

abbrev pub decreases-loop-rows : goal.decreases-loop-rows
decreases-loop-rows l = 64 - vec_len l.rows
