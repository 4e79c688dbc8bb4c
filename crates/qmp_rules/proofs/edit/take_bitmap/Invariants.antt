use Rattle.std.proofs.Common.{◌≡◌, ◌++◌, take, drop, map, vec_capacity, vec_len, Some}
use Rattle.qmp_rules.specs.Changes.{bitmap_changed}
use Rattle.qmp_rules.proofs.edit.take_bitmap.Given as goal

abbrev pub invariant-loop-i : goal.invariant-loop-i
invariant-loop-i l = record {
  so_far : take l.i l.rows.items ++ map (bitmap_changed l.node l.name (λ row. record row { busy = Some l.job })) (drop l.i l.rows.items) ≡ map (bitmap_changed l.node l.name (λ row. record row { busy = Some l.job })) l.fn.rows.items;
  count : vec_len l.rows ≡ vec_len l.fn.rows;
  room : vec_capacity l.rows ≡ vec_capacity l.fn.rows;
}
