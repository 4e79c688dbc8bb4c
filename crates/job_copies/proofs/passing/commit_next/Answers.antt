use Rattle.std.proofs.Common.{◌≡◌, ℕ, Some, sym, ◌∙◌, ap, arith}
use Rattle.blk_base.specs.Content.{bytes_at}
use Rattle.blk_base.specs.Pieces.{Extent}
use Rattle.blk_nodes.specs.Contents.{disk_of, disk_under}
use Rattle.blk_nodes.specs.Nodes.{Nodes}
use Rattle.block_jobs.specs.Work.{JobWork, next_block}
use Rattle.block_jobs.proofs.PartLemmas.{next_is}
use Rattle.node_copies.proofs.Chained.{chain_shows}
use Rattle.node_copies.specs.Sectors.{block_of}
use Rattle.job_copies.proofs.Left.{length_is}
use Rattle.job_copies.proofs.Passed.{passed_ahead}
use Rattle.job_copies.proofs.passing.commit_next.Goals as goal

pub held_between-must-requires : goal.held_between-must-requires
held_between-must-requires g c =
    let is : next_block c.args.work.now ≡ Some c.in-Some.block = sym c.next_block.ensures ∙ c.in-Some.is in
    let within = (next_is c.args.work.now c.in-Some.block is).0 in
    let size = c.requires.top in
    omega (arith, within, size)

pub pass_block-requires-clause-block : goal.pass_block-requires-clause-block
pass_block-requires-clause-block g c =
    let is : next_block c.args.work.now ≡ Some c.in-Some.block = sym c.next_block.ensures ∙ c.in-Some.is in
    (next_is c.args.work.now c.in-Some.block is).0

pub returns-clause-ahead : goal.returns-clause-ahead
returns-clause-ahead g c = λ told ends none due ahead.
    let old : Nodes = c.args.nodes.now in
    let work : JobWork = c.args.work.now in
    let block : ℕ = c.in-Some.block in
    let span : Extent = block_of work.size block in
    let is : next_block work ≡ Some block = sym c.next_block.ensures ∙ c.in-Some.is in
    let within = (next_is work block is).0 in
    let size = c.requires.top in
    passed_ahead old c.pass_block.new.nodes work c.pass_block.new.work c.args.top c.args.base block c.law.ensures
    (length_is old c.args.base work.size c.edges.ensures.joined told c.requires.may.row c.requires.may.there c.requires.base) none due ahead
    c.held_between-must.result c.pass_block.ensures.passes (λ must. c.pass_block.ensures.put must told)
    (λ bare.
    chain_shows old c.edges.ensures.joined told (Some c.args.base) span.start span.len (omega arith) c.args.top (omega (arith, within, size)) (sym c.held_between-must.ensures ∙ bare)
    ∙ ap (λ (e : _). bytes_at (disk_under (disk_of old) e) span.start span.len) ends)
