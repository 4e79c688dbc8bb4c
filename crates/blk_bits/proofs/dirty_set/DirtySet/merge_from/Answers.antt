use Rattle.std.proofs.Common.{◌≡◌, length, arith}
use Rattle.blk_bits.proofs.MergeLemmas.{merged-same}
use Rattle.blk_bits.proofs.dirty_set.DirtySet.merge_from.Goals as goal

pub returns-then-granules : goal.returns-then-granules
returns-then-granules c =
    merged-same c.args.ratio c.args.self.now c.args.other.now c.add_all.new.self c.requires c.if-ratio.true
    (omega (arith, c.granules.ensures, c.granules-then-ratio.ensures, c.if-granules.true)) c.add_all.ensures
