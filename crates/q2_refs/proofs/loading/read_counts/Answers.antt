use Rattle.std.proofs.Common.{ℕ, ◌*◌, ◌≤◌, sym, length, arith, rules}
use Rattle.std.proofs.lemmas.Result.{err_from_is_err_and}
use Rattle.q2_refs.specs.Kept.{AreAbsentZero}
use Rattle.q2_refs.proofs.Loads.{passed_on}
use Rattle.q2_refs.proofs.Ranges.{absent_further, in_block}
use Rattle.q2_refs.proofs.Standing.{all_within, blocks_all, blocks_further, counts_are}
use Rattle.q2_refs.proofs.loading.read_counts.Goals as goal

pub loop-i-preserved : goal.loop-i-preserved
loop-i-preserved g c =
    let had = c.loop-i.invariant in
    let read = c.in_ok-read_block.ensures in
    record {
      zeros = search rules;
      absent = absent_further (in_block c.args.h.now) c.loop-i.i c.args.table.now c.loop-i.counts c.read_block.new.counts had.absent had.zeros read.before read.absent;
      stands = blocks_further (g.D.Device.content c.args.dev.now) (g.D.Device.size c.args.dev.now) 2 (in_block c.args.h.now) c.loop-i.i c.args.table.now c.loop-i.counts c.read_block.new.counts
          had.stands (omega arith) read.before (λ there. rw (had.device.reads.content, had.device.reads.size) at (read.stands there));
      device = search rules;
    }

pub returns-in_err-read_block-clause-device : goal.returns-in_err-read_block-clause-device
returns-in_err-read_block-clause-device g c =
    let p = err_from_is_err_and c.from_residual.result c.from_residual.ensures.1 in
    passed_on g.D.Device p.0 c.in_err-read_block.field-0.0 c.from_residual.result p.1 p.2 c.args.dev.now c.loop-i.dev c.read_block.new.dev
    c.loop-i.invariant.device c.in_err-read_block.ensures.device

pub returns-clause-stands : goal.returns-clause-stands
returns-clause-stands g c =
    let ends = rw (c.block_len.ensures, sym c.loop-i.auto.counts) at c.div_ceil-blocks.ensures in
    blocks_all (g.D.Device.content c.args.dev.now) (g.D.Device.size c.args.dev.now) 2 (in_block c.args.h.now) c.loop-i.i (length c.args.table.now) c.args.table.now c.loop-i.counts (g.met.D.Device.told_size c.args.dev.now) c.loop-i.invariant.stands
    (all_within c.args.h.now (length c.loop-i.counts) c.loop-i.i c.requires.shape (omega (arith, ends)))

pub returns-clause-counts : goal.returns-clause-counts
returns-clause-counts g c = λ file told is k low below within.
    let h = c.args.h.now in
    let had = c.loop-i.invariant in
    let n : ℕ = in_block h in
    let ends = rw (c.block_len.ensures, sym c.loop-i.auto.counts) at c.div_ceil-blocks.ensures in
    let all = all_within h (length c.loop-i.counts) c.loop-i.i c.requires.shape (omega (arith, ends)) in
    let absent : AreAbsentZero n c.args.table.now c.loop-i.counts (length c.loop-i.counts) = λ k below none. had.absent k (omega (arith, below, all)) none in
    let stands = blocks_all (g.D.Device.content c.args.dev.now) (g.D.Device.size c.args.dev.now) 2 n c.loop-i.i (length c.args.table.now) c.args.table.now c.loop-i.counts
    (g.met.D.Device.told_size c.args.dev.now) had.stands all in
    let reach : length c.loop-i.counts ≤ length c.args.table.now * n = rw (c.requires.table, c.loop-i.auto.counts) c.requires.reach in
    counts_are (g.D.Device.content c.args.dev.now) (g.D.Device.size c.args.dev.now) h c.args.table.now c.loop-i.counts file told c.requires.shape is reach absent stands k low within within
