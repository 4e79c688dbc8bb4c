use Rattle.std.proofs.Common.{◌≡◌, ◌++◌, take, drop, map, vec_capacity, vec_len}
use Rattle.qmp_rules.specs.Changes.{bitmap_changed, with_recording}
use Rattle.qmp_rules.proofs.edit.turn_bitmap.Given as goal

abbrev pub invariant-loop-i : goal.invariant-loop-i
invariant-loop-i l = record {
  so_far : take l.i l.rows.items ++ map (bitmap_changed l.node l.name (with_recording l.on)) (drop l.i l.rows.items) ≡ map (bitmap_changed l.node l.name (with_recording l.on)) l.fn.rows.items;
  count : vec_len l.rows ≡ vec_len l.fn.rows;
  room : vec_capacity l.rows ≡ vec_capacity l.fn.rows;
}
