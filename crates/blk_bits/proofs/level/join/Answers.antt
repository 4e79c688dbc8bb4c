use Rattle.std.proofs.Common.{ℕ, ◌≡◌, ◌+◌, ◌<◌, ◌≤◌, ◌≢◌, get_or, length, arith, below_more, get_or-set_same, get_or-set_other, ap, sym, refl, ◌∙◌}
use lib.Bits.{or_lt}
use Rattle.blk_bits.proofs.WriteLemmas.{bits-joined, fits-set}
use Rattle.blk_bits.proofs.level.join.Goals as goal

pub loop-k-preserved : goal.loop-k-preserved
loop-k-preserved c =
    let there : c.loop-k.k < length c.loop-k.words = omega arith in
    let was = c.loop-k.invariant.others c.loop-k.k (omega arith) in
    record {
      joined = below_more _ _
          (λ i below. let ne : i ≢ c.loop-k.k = omega arith in rw get_or-set_other (c.loop-k.invariant.joined i below))
          (rw get_or-set_same (rw was refl));
      others = λ i past. let ne : i ≢ c.loop-k.k = omega arith in rw get_or-set_other (c.loop-k.invariant.others i (omega arith));
      fits = fits-set c.loop-k.words c.loop-k.k _ there (or_lt 64 (get_or c.loop-k.words c.loop-k.k 0) (get_or c.args.other.now c.loop-k.k 0) (c.loop-k.invariant.fits c.loop-k.k) (c.type_inv.other c.loop-k.k).fits) c.loop-k.invariant.fits;
    }

pub returns-clause-written : goal.returns-clause-written
returns-clause-written c = bits-joined c.args.words.now c.args.other.now c.loop-k.words c.requires (omega arith) (λ i below. c.loop-k.invariant.joined i (omega arith))
