use Rattle.std.proofs.Common.{◌≡◌, ◌<◌, Some, None, sym, ◌∙◌, ap, subst, arith}
use Rattle.std.specs.Prelude.{IsOk, unwrap_or}
use Rattle.blk_base.specs.Pieces.{Extent}
use Rattle.blk_nodes.specs.Contents.{disk_of}
use Rattle.blk_nodes.specs.Nodes.{Nodes, node_size}
use Rattle.block_jobs.specs.Work.{JobWork}
use Rattle.node_copies.specs.Putting.{CopiesBlock}
use Rattle.node_copies.specs.Sectors.{block_of}
use Rattle.node_copies.proofs.Owned.{copied_owns}
use Rattle.job_copies.specs.Passing.{all_sectors}
use Rattle.job_copies.proofs.Left.{is_ok_of}
use Rattle.job_copies.proofs.Passed.{put_sized}
use Rattle.job_copies.proofs.Settled.{all_set}
use Rattle.job_copies.proofs.passing.pass_block.Goals as goal

pub returns-in-Ok-clause-put : goal.returns-in-Ok-clause-put
returns-in-Ok-clause-put g c = λ must told.
    let old : Nodes = c.args.nodes.now in
    let new : Nodes = c.copy_block.new.nodes in
    let ok : IsOk c.copy_block.result = is_ok_of c.copy_block.result _ c.in-Ok.is in
    put_sized (node_size old c.args.to) c.args.work.now.size c.args.block (disk_of old c.args.top) (disk_of old c.args.to) (disk_of new c.args.to)
    (IsOk c.copy_block.result) _ c.requires.to (λ _. ok) (c.copy_block.ensures.disk told)

pub returns-in-Ok-clause-owns : goal.returns-in-Ok-clause-owns
returns-in-Ok-clause-owns g c = λ must is_image none.
    let old : Nodes = c.args.nodes.now in
    let new : Nodes = c.copy_block.new.nodes in
    let block : Extent = block_of (node_size old c.args.to) c.args.block in
    let within = c.requires.block in
    let size = c.requires.to in
    let some : 0 < block.len = omega (arith, within, size) in
    copied_owns old new c.args.top c.args.to block all_sectors _ (all_set 0 (omega arith)) some is_image
    (subst (CopiesBlock old new c.args.top c.args.to block all_sectors) c.in-Ok.is c.copy_block.ensures.copies)

pub returns-in-Err-clause-put : goal.returns-in-Err-clause-put
returns-in-Err-clause-put g c = λ must told.
    let old : Nodes = c.args.nodes.now in
    let new : Nodes = c.copy_block.new.nodes in
    put_sized (node_size old c.args.to) c.args.work.now.size c.args.block (disk_of old c.args.top) (disk_of old c.args.to) (disk_of new c.args.to)
    (IsOk c.copy_block.result) _ c.requires.to
    (λ none.
    let bad : Some (unwrap_or c.args.work.now.met c.in-Err.fault) ≡ None = sym (ap (λ (w : JobWork). w.met) c.fail.ensures) ∙ none in
    absurd (cc bad))
    (c.copy_block.ensures.disk told)
