use Rattle.std.proofs.Common.{◌≡◌, true, false, sym, ◌∙◌}
use Rattle.node_copies.proofs.Puts.{put_bytes, put_zeros}
use Rattle.node_copies.proofs.putting.put_run.Goals as goal

pub returns-then-is_zero_block : goal.returns-then-is_zero_block
returns-then-is_zero_block g c =
    let e = c.zero_piece-outcome.ensures in
    put_zeros c.args.block c.args.nodes.now c.zero_piece-outcome.new.self c.edges.ensures.joined c.args.to c.args.span c.args.bytes.now c.zero_piece-outcome.result c.requires.whole
    e.others e.kept (c.is_zero_block.ensures.0 c.if-is_zero_block.true) (e.wrote c.requires.some) e.disk

pub returns : goal.returns
returns g c =
    let e = c.write_piece-outcome.ensures in
    put_bytes c.args.block c.args.nodes.now c.write_piece-outcome.new.self c.edges-2.ensures.joined c.args.to c.args.span c.args.bytes.now c.write_piece-outcome.result c.requires.whole
    e.others e.kept (λ zeros. let bad : true ≡ false = sym (c.is_zero_block.ensures.1 zeros) ∙ c.if-is_zero_block.false in cc bad) (e.wrote c.requires.some) e.disk
