use Rattle.std.proofs.Common.{◌≡◌, ◌++◌, drop, map}
use Rattle.qmp_codec.specs.Bitmaps.{seen_source}
use Rattle.qmp_asks.specs.BitmapAsks.{sources_found}
use Rattle.qmp_asks.specs.Seen.{seen_asks}
use Rattle.qmp_asks.proofs.bitmap_asks.put_sources_found.Given as goal

abbrev pub invariant-loop-source : goal.invariant-loop-source
invariant-loop-source l =
    seen_asks l.asks.items ++ sources_found l.node (map seen_source (drop l.source-index l.sources))
    ≡ seen_asks l.initial.asks.items ++ sources_found l.node (map seen_source l.sources)
