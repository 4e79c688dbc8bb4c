use Rattle.std.proofs.Common.{◌≡◌, ◌++◌, take, drop, map, vec_capacity, vec_len}
use Rattle.qmp_rules.specs.Changes.{node_changed, kept_from_writes}
use Rattle.qmp_rules.proofs.edit.make_read_only.Given as goal

abbrev pub invariant-loop-i : goal.invariant-loop-i
invariant-loop-i l = record {
  so_far : take l.i l.rows.items ++ map (node_changed l.id kept_from_writes) (drop l.i l.rows.items) ≡ map (node_changed l.id kept_from_writes) l.fn.rows.items;
  count : vec_len l.rows ≡ vec_len l.fn.rows;
  room : vec_capacity l.rows ≡ vec_capacity l.fn.rows;
}
