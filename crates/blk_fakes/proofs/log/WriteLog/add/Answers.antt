use Rattle.std.proofs.Common.{◌++◌, refl, arith, ap, length, length-append}
use Rattle.blk_fakes.specs.Disk.{LogState}
use Rattle.blk_fakes.proofs.Logs.{goes, within_push, writes_push}
use Rattle.blk_fakes.proofs.log.WriteLog.add.Goals as goal

pub invariant_of-self : goal.invariant_of-self
invariant_of-self c =
    let old = c.self.inside.bytes.items in
    let parts = goes c.args.self.now (length c.args.written.now) c.requires in
    let writes = ap (λ (l : LogState). l.writes_left) c.self.view_is in
    let bytes = ap (λ (l : LogState). l.bytes_left) c.self.view_is in
    let within = within_push (length old) (length (old ++ c.args.written.now)) c.self.inside.rows.items (record { off = c.args.off; from = c.len-from.result; to = c.len-to.result })
    c.self.invariant.2 (omega (arith, length-append old c.args.written.now)) (omega arith) (omega (arith, length-append old c.args.written.now)) in
    (omega (arith, writes, parts.0), omega (arith, bytes, parts.1), rw (c.append.ensures.items, c.push_reserved.ensures.items) within)

pub returns : goal.returns
returns c =
    let writes = writes_push c.self.inside.bytes.items c.args.written.now c.self.inside.rows.items (record { off = c.args.off; from = c.len-from.result; to = c.len-to.result })
    c.self.invariant.2 (omega arith) (omega arith) in
    rw (c.append.ensures.items, c.push_reserved.ensures.items, ← c.self.view_is, writes) refl
