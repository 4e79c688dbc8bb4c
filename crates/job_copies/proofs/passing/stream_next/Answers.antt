use Rattle.std.proofs.Common.{◌≡◌, Some, refl, sym, ◌∙◌, arith}
use Rattle.block_jobs.specs.Work.{next_block}
use Rattle.block_jobs.proofs.PartLemmas.{next_is}
use Rattle.job_copies.proofs.Passed.{passed_disk}
use Rattle.job_copies.proofs.passing.stream_next.Goals as goal

pub is_streamed-must-requires : goal.is_streamed-must-requires
is_streamed-must-requires g c =
    let is : next_block c.args.work.now ≡ Some c.in-Some.block = sym c.next_block.ensures ∙ c.in-Some.is in
    let within = (next_is c.args.work.now c.in-Some.block is).0 in
    let size = c.requires.top in
    omega (arith, within, size)

pub pass_block-requires-clause-block : goal.pass_block-requires-clause-block
pass_block-requires-clause-block g c =
    let is : next_block c.args.work.now ≡ Some c.in-Some.block = sym c.next_block.ensures ∙ c.in-Some.is in
    (next_is c.args.work.now c.in-Some.block is).0

pub returns-clause-disk : goal.returns-clause-disk
returns-clause-disk g c = λ told.
    passed_disk c.args.nodes.now c.pass_block.new.nodes c.args.work.now c.pass_block.new.work c.args.top c.args.top c.in-Some.block c.is_streamed-must.result _ refl
    c.pass_block.ensures.passes (λ must. c.pass_block.ensures.put must told)
