use Rattle.std.proofs.Common.{◌≡◌, arith}
use Rattle.blk_bitmaps.proofs.RowLemmas.{join_back, join_front, joined_self}
use Rattle.blk_bitmaps.proofs.merge.join.Goals as goal

pub returns-then-from-to : goal.returns-then-from-to
returns-then-from-to c = λ d. join_back c.args.rows.now c.split_at_mut-front.result.0.now c.split_at_mut-front.result.1.now c.args.from c.args.to d c.join.new.self
    c.index-front-from.result c.index-back-0.result (omega arith) (omega arith) c.split_at_mut-front.ensures.front c.split_at_mut-front.ensures.back c.join.ensures

pub returns-then-to-from : goal.returns-then-to-from
returns-then-to-from c = λ d. join_front c.args.rows.now c.split_at_mut-front-then-to-from.result.0.now c.split_at_mut-front-then-to-from.result.1.now
    c.args.from c.args.to d c.join-then-to-from.new.self c.index-back-0-then-to-from.result c.index-front-to.result (omega arith) (omega arith)
    c.split_at_mut-front-then-to-from.ensures.front c.split_at_mut-front-then-to-from.ensures.back c.join-then-to-from.ensures

pub returns-else-to-from : goal.returns-else-to-from
returns-else-to-from c = λ d.
    let same : c.args.from ≡ c.args.to = omega arith in
    rw same (joined_self c.args.rows.now c.args.to d)
