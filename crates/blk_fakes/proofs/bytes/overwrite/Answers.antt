use Rattle.std.proofs.Common.{◌≡◌, ◌∙◌, arith}
use Rattle.std.proofs.lemmas.List.{take_at}
use Rattle.blk_base.specs.Content.{with_bytes}
use Rattle.blk_fakes.proofs.Places.{put_over}
use Rattle.blk_fakes.proofs.bytes.overwrite.Goals as goal

pub returns-clause-bytes : goal.returns-clause-bytes
returns-clause-bytes c =
    let put = c.put_at.ensures in
    let all : c.put_at.new.all ≡ with_bytes c.args.bytes.now.items c.args.off c.args.written.now =
    rw c.as_mut_slice.ensures.value at put ∙ put_over c.args.bytes.now.items c.grow.new.bytes.items c.args.written.now c.args.off c.requires.some (omega arith) c.grow.ensures.same in
    take_at c.put_at.new.all _ c.grow.new.bytes.len (omega arith) ∙ all
