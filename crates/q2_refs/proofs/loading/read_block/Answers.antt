use Rattle.std.proofs.Common.{ℕ, ◌+◌, ◌-◌, ◌*◌, ◌∙◌, List, ap, sym, arith}
use Rattle.blk_base.specs.Content.{bytes_at}
use Rattle.q2_format.specs.Bytes.{number_at}
use Rattle.q2_format.specs.Sizes.{cluster_size}
use Rattle.q2_refs.proofs.Decoding.{number_read}
use Rattle.q2_refs.proofs.Ranges.{block_is_whole, in_block}
use Rattle.q2_refs.proofs.Standing.{block_stands}
use Rattle.q2_refs.proofs.loading.read_block.Goals as goal

pub returns-clause-stands : goal.returns-clause-stands
returns-clause-stands g c = λ there.
    let h = c.args.h.now in
    let n : ℕ = in_block h in
    let from : ℕ = c.args.i * n in
    let offset : ℕ = c.block_offset-offset.result in
    let len = c.block_len.ensures in
    let to = rw (len, c.block_len-2.ensures) at c.min-to.ensures in
    rw (sym c.block_offset-offset.ensures) (block_stands (g.D.Device.content c.args.dev.now) (g.D.Device.size c.args.dev.now) offset 2 n from c.read.new.buf c.put_counts.new.counts
    (g.met.D.Device.told_size c.args.dev.now) c.in_ok-read.ensures.past
    (λ file told k below.
    ap (λ (read : List ℕ). number_at read (k * 2) 2) (c.in_ok-read.ensures.read file told ∙ ap (bytes_at file offset) c.requires.buffer)
    ∙ number_read file offset (cluster_size h.cluster_bits) (k * 2) 2 (omega (arith, block_is_whole h c.requires.shape)))
    (λ k below within.
    c.put_counts.ensures.put (from + k) (rw len (omega arith)) (omega (arith, to, below, within))
    ∙ ap (λ (b : ℕ). number_at c.read.new.buf ((from + k - c.args.i * b) * 2) 2) len
    ∙ ap (λ (j : ℕ). number_at c.read.new.buf (j * 2) 2) (omega arith)))
