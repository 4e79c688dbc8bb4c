use Rattle.std.proofs.Common.{◌∙◌, arith, ap, length}
use Rattle.blk_fakes.specs.Disk.{DiskState}
use Rattle.blk_base.proofs.Contents.{length-with_bytes}
use Rattle.blk_fakes.proofs.Logs.{told_with}
use Rattle.blk_fakes.proofs.disk.Disk.write.Goals as goal

pub invariant_of-self : goal.invariant_of-self
invariant_of-self c =
    let told = told_with c.self.inside.bytes.items c.self.inside.log c.args.off c.args.written.now c.self.invariant.0 in
    let room = ap (λ (d : DiskState). d.capacity) c.self.view_is in
    (rw (c.overwrite.ensures.bytes, c.push.ensures) told, omega (arith, room), omega arith)

pub returns-clause-told : goal.returns-clause-told
returns-clause-told c =
    let told = told_with c.self.inside.bytes.items c.self.inside.log c.args.off c.args.written.now c.self.invariant.0 in
    rw (c.overwrite.ensures.bytes, c.push.ensures, ← c.self.view_is, c.self.invariant.0) told

pub returns-clause-size : goal.returns-clause-size
returns-clause-size c =
    let b = c.self.inside.bytes.items in
    let told = told_with b c.self.inside.log c.args.off c.args.written.now c.self.invariant.0 in
    rw (c.overwrite.ensures.bytes, c.push.ensures, ← c.self.view_is, c.self.invariant.0) (ap length told ∙ length-with_bytes b c.args.off c.args.written.now)
