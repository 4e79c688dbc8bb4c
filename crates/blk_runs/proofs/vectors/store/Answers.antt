use Rattle.std.proofs.Common.{◌≡◌, ◌+◌, ◌-◌, take, ap, sym, ◌∙◌, arith}
use borrow.Rule.Slice.PartMut.{put_mid, mid_of}
use Rattle.std.proofs.lemmas.Slice.{take-put_mid}
use Rattle.std.proofs.lemmas.Simd.{put_chunk_whole, length-chunk}
use Rattle.blk_runs.proofs.vectors.store.Goals as goal

pub returns : goal.returns
returns c =
    let words = c.args.words.now in
    let short : c.args.at + 16 - c.args.at ≡ 16 = omega arith in
    let long = put_chunk_whole (mid_of c.args.at (c.args.at + 16 - c.args.at) words) c.args.lanes (length-chunk c.args.at (c.args.at + 16 - c.args.at) words (omega (arith, c.told-words)) ∙ short ∙ sym c.fits-lanes.0) in
    ap (λ part. take (c.args.at + 16) (put_mid c.args.at (c.args.at + 16 - c.args.at) words part)) long
    ∙ take-put_mid c.args.at (c.args.at + 16 - c.args.at) words c.args.lanes (c.args.at + 16) (omega (arith, c.fits-lanes.0)) (omega (arith, c.told-words))
