use Rattle.std.proofs.Common.{ℕ, [], ◌∷◌, sym, subst}
use Rattle.std.proofs.lemmas.Result.{err_from_is_err_and}
use Rattle.blk_base.specs.Device.{Writes, stop_of}
use Rattle.blk_base.specs.declared.fault.DevStop.{DevStop}
use Rattle.q2_refs.specs.Allocating.{StopsAllocating, count_write, with_block_for}
use Rattle.q2_refs.specs.Kept.{KeptRefs}
use Rattle.q2_refs.proofs.Allocated.{block_left, on_err_is, take_left, taken_writes}
use Rattle.q2_refs.proofs.refs.Refs.take.Goals as goal

pub returns-in_err-ensure_block-clause-left : goal.returns-in_err-ensure_block-clause-left
returns-in_err-ensure_block-clause-left g c =
    let kept : KeptRefs = c.args.self.now in
    let n : ℕ = c.args.cluster in
    let p = err_from_is_err_and c.from_residual.result c.from_residual.ensures.1 in
    let Q : DevStop → Type 0 = λ e. StopsAllocating g.D.Device kept n e c.ensure_block.new.self c.args.dev.now c.ensure_block.new.dev in
    rw p.1 (subst Q (sym p.2)
    (block_left g.D.Device kept c.ensure_block.new.self n c.in_err-ensure_block.field-0.0 c.args.dev.now c.ensure_block.new.dev
    c.in_err-ensure_block.ensures.writes c.in_err-ensure_block.ensures.err))

pub returns-clause-writes : goal.returns-clause-writes
returns-clause-writes g c =
    let kept : KeptRefs = c.args.self.now in
    let n : ℕ = c.args.cluster in
    let P : KeptRefs → Type 0 = λ k. Writes g.D.Device (count_write k n ∷ []) (stop_of c.count_one.result) c.ensure_block.new.dev c.count_one.new.dev in
    taken_writes g.D.Device kept n c.count_one.result c.args.dev.now c.ensure_block.new.dev c.count_one.new.dev
    c.in_ok-ensure_block.ensures.writes (subst P c.in_ok-ensure_block.ensures.ok c.count_one.ensures.writes)

pub returns-clause-left : goal.returns-clause-left
returns-clause-left g c =
    let kept : KeptRefs = c.args.self.now in
    let n : ℕ = c.args.cluster in
    let P : KeptRefs → Type 0 = λ k. Writes g.D.Device (count_write k n ∷ []) (stop_of c.count_one.result) c.ensure_block.new.dev c.count_one.new.dev in
    take_left g.D.Device kept c.count_one.new.self n c.count_one.result c.args.dev.now c.ensure_block.new.dev c.count_one.new.dev
    c.in_ok-ensure_block.ensures.writes (subst P c.in_ok-ensure_block.ensures.ok c.count_one.ensures.writes)
    (on_err_is c.count_one.result c.count_one.new.self c.ensure_block.new.self (with_block_for kept n) c.count_one.ensures.err c.in_ok-ensure_block.ensures.ok)
