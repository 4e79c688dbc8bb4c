use Rattle.std.proofs.Common.{◌≡◌, drop, map}
use Rattle.qmp_codec.specs.Bitmaps.{seen_bitmap_merge, seen_source}
use Rattle.world_parts.specs.Recorded.{bitmaps_merged}
use Rattle.world_changes.proofs.bitmaps.merge.Given as goal

abbrev pub invariant-loop-source : goal.invariant-loop-source
invariant-loop-source l =
    bitmaps_merged l.names.table (seen_bitmap_merge l.c).node (seen_bitmap_merge l.c).target (map seen_source (drop l.source-index (l.c).bitmaps.items)) l.bitmaps
    ≡ bitmaps_merged l.names.table (seen_bitmap_merge l.c).node (seen_bitmap_merge l.c).target (seen_bitmap_merge l.c).bitmaps l.initial.bitmaps
