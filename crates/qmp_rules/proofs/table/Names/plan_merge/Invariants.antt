use Rattle.std.proofs.Common.{◌≡◌, ◌++◌, drop, map}
use Rattle.qmp_codec.specs.Bitmaps.{seen_source, seen_bitmap_merge}
use Rattle.qmp_rules.specs.Edits.{merge_edits, merges}
use Rattle.qmp_rules.proofs.table.Names.plan_merge.Given as goal

abbrev pub invariant-loop-source : goal.invariant-loop-source
invariant-loop-source l =
    l.edits.items ++ merges l.self.table (seen_bitmap_merge l.c).node (seen_bitmap_merge l.c).target
    (map seen_source (drop l.source-index (l.c).bitmaps.items))
    ≡ l.initial.edits.items ++ merge_edits l.self.table (seen_bitmap_merge l.c)
