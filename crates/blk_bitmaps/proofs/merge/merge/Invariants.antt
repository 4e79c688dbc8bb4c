use Rattle.std.proofs.Common.{◌≡◌, drop}
use Rattle.blk_bitmaps.specs.Calls.{with_sources}
use Rattle.blk_bitmaps.proofs.merge.merge.Given as goal

abbrev pub invariant-loop-source : goal.invariant-loop-source
invariant-loop-source l =
    with_sources l.rows l.node l.target (drop l.source-index l.sources) ≡ with_sources l.initial.rows l.node l.target l.sources
