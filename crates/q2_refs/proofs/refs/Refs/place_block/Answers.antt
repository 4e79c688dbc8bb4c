use Rattle.std.proofs.Common.{◌≡◌, ℕ, List, None, length, drop, ap, subst, sym, ◌∙◌, arith, Some}
use Rattle.std.proofs.lemmas.List.{take_at}
use Rattle.std.proofs.lemmas.Result.{err_from_is_err_and}
use Rattle.blk_base.specs.Content.{Write}
use Rattle.blk_base.specs.Device.{Writes}
use Rattle.blk_base.specs.declared.fault.DevStop.{DevStop}
use Rattle.q2_format.specs.Sizes.{cluster_size}
use Rattle.q2_refs.specs.Allocating.{block_writes, new_block}
use Rattle.q2_refs.specs.Kept.{KeptRefs}
use Rattle.q2_refs.proofs.Allocated.{block_writes_are}
use Rattle.q2_refs.proofs.refs.Refs.place_block.Goals as goal

pub returns-in_err-write_block-clause-writes : goal.returns-in_err-write_block-clause-writes
returns-in_err-write_block-clause-writes g c =
    let kept : KeptRefs = c.args.self.now in
    let block : List ℕ = c.make_block.new.block in
    let len : length block ≡ c.self.inside.buffer.len = omega (arith, c.make_block.auto.block, c.as_mut_slice.ensures.len) in
    let bytes : c.as_slice.result.now ≡ block = c.as_slice.ensures.value ∙ take_at block (drop (length block) c.self.inside.buffer.items) c.self.inside.buffer.len len in
    let view = ap (λ (k : KeptRefs). cluster_size k.cluster_bits) c.self.view_is in
    let whole : length c.as_mut_slice.result.now ≡ cluster_size kept.cluster_bits = omega (arith, len, c.make_block.auto.block, c.self.inside.buffer.ok.0, c.self.invariant.buffer, view) in
    let made = bytes ∙ c.make_block.ensures ∙ ap new_block whole in
    let is = block_writes_are kept c.args.i c.block_place-offset.result c.entry_place-entry.result c.as_slice.result.now
    c.block_place-offset.ensures c.entry_place-entry.ensures.place made in
    let p = err_from_is_err_and c.from_residual.result c.from_residual.ensures.1 in
    let stop : DevStop = c.in_err-write_block.field-0.0 in
    let P : List Write → Type 0 = λ ws. Writes g.D.Device ws (Some stop) c.args.dev.now c.write_block.new.dev in
    let Q : DevStop → Type 0 = λ e. Writes g.D.Device (block_writes kept c.args.i) (Some e) c.args.dev.now c.write_block.new.dev in
    rw p.1 (subst Q (sym p.2) (subst P is c.in_err-write_block.ensures))

pub returns-clause-writes : goal.returns-clause-writes
returns-clause-writes g c =
    let kept : KeptRefs = c.args.self.now in
    let block : List ℕ = c.make_block.new.block in
    let len : length block ≡ c.self.inside.buffer.len = omega (arith, c.make_block.auto.block, c.as_mut_slice.ensures.len) in
    let bytes : c.as_slice.result.now ≡ block = c.as_slice.ensures.value ∙ take_at block (drop (length block) c.self.inside.buffer.items) c.self.inside.buffer.len len in
    let view = ap (λ (k : KeptRefs). cluster_size k.cluster_bits) c.self.view_is in
    let whole : length c.as_mut_slice.result.now ≡ cluster_size kept.cluster_bits = omega (arith, len, c.make_block.auto.block, c.self.inside.buffer.ok.0, c.self.invariant.buffer, view) in
    let made = bytes ∙ c.make_block.ensures ∙ ap new_block whole in
    let is = block_writes_are kept c.args.i c.block_place-offset.result c.entry_place-entry.result c.as_slice.result.now
    c.block_place-offset.ensures c.entry_place-entry.ensures.place made in
    let P : List Write → Type 0 = λ ws. Writes g.D.Device ws None c.args.dev.now c.write_block.new.dev in
    subst P is c.in_ok-write_block.ensures
