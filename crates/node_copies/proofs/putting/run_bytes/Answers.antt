use Rattle.std.proofs.Common.{◌≡◌, ◌+◌, ◌-◌, ◌*◌, ◌≤◌, ℕ, length, take, drop, refl, sym, ◌∙◌, ap, arith}
use Rattle.blk_base.proofs.Contents.{bytes_at-within}
use Rattle.blk_base.specs.Pieces.{Extent}
use Rattle.node_copies.specs.Sectors.{run_len, run_start}
use Rattle.node_copies.proofs.putting.run_bytes.Goals as goal

pub returns : goal.returns
returns c =
    let order = c.requires.order in
    let few = c.requires.within in
    let whole = c.requires.whole in
    let from = c.from-from.ensures in
    let to = c.min-to.ensures in
    let start : 512 * c.from-from.result ≡ run_start c.args.run = ap (λ (n : ℕ). 512 * n) from in
    let end = c.from.ensures in
    let block : c.block.inside.len ≡ c.args.block.len = ap (λ (s : Extent). s.len) c.block.view_is in
    let len : c.min-to.result - 512 * c.from-from.result ≡ run_len c.args.block c.args.run = rw (to, end, block, from) refl in
    let within : run_start c.args.run + run_len c.args.block c.args.run ≤ length c.args.bytes.now = omega (arith, order, few, whole) in
    ap (λ (n : ℕ). take n (drop (512 * c.from-from.result) c.args.bytes.now)) len
    ∙ ap (λ (n : ℕ). take (run_len c.args.block c.args.run) (drop n c.args.bytes.now)) start
    ∙ sym (bytes_at-within c.args.bytes.now (run_start c.args.run) (run_len c.args.block c.args.run) within)
