use Rattle.std.proofs.Common.{◌≡◌, Some, sym, ◌∙◌, ap, subst, arith}
use Rattle.block_jobs.specs.Ahead.{IsAhead, is_owed}
use Rattle.block_jobs.specs.Work.{JobWork, next_block}
use Rattle.block_jobs.proofs.PartLemmas.{next_is}
use Rattle.job_copies.proofs.Taken.{take_ahead}
use Rattle.job_copies.proofs.taking.take.Goals as goal

pub read_block-requires-clause-block : goal.read_block-requires-clause-block
read_block-requires-clause-block g c =
    let is : next_block c.args.work.now ≡ Some c.in-Some.block = sym c.next_block.ensures ∙ c.in-Some.is in
    let within = (next_is c.args.work.now c.in-Some.block is).0 in
    let size = c.requires.source in
    omega (arith, within, size)

pub returns-in-Ok-clause-ahead : goal.returns-in-Ok-clause-ahead
returns-in-Ok-clause-ahead g c = λ none due disk goal made same ahead.
    let own = ap (λ (t : _). t.job) c.begin.ensures.transfer in
    subst (λ (w : JobWork). IsAhead due (is_owed c.args.kind w) disk goal made) (sym c.begin.ensures.work)
    (take_ahead c.args.work.now c.law.ensures c.begin.result own due disk goal made c.args.kind same ahead)
