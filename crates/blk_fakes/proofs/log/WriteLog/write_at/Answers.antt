use Rattle.std.proofs.Common.{◌<◌, arith, ap, length}
use Rattle.std.proofs.lemmas.List.{length-map}
use Rattle.blk_fakes.specs.Rows.{logged_write}
use Rattle.blk_fakes.specs.Disk.{LogState}
use Rattle.blk_fakes.proofs.Logs.{within_read, row_read}
use Rattle.blk_fakes.proofs.log.WriteLog.write_at.Goals as goal

pub part-requires-clause-order : goal.part-requires-clause-order
part-requires-clause-order c =
    let rows = c.self.inside.rows.items in
    let below : c.args.k < length rows = omega (arith, ap (λ (v : LogState). length v.writes) c.self.view_is, length-map rows (logged_write c.self.inside.bytes.items)) in
    (within_read (length c.self.inside.bytes.items) rows c.args.k c.index-row.result.now c.self.invariant.2 below c.index-row.ensures).0

pub part-requires-clause-within : goal.part-requires-clause-within
part-requires-clause-within c =
    let rows = c.self.inside.rows.items in
    let below : c.args.k < length rows = omega (arith, ap (λ (v : LogState). length v.writes) c.self.view_is, length-map rows (logged_write c.self.inside.bytes.items)) in
    rw c.deref.ensures.value ((within_read (length c.self.inside.bytes.items) rows c.args.k c.index-row.result.now c.self.invariant.2 below c.index-row.ensures).1)

pub returns : goal.returns
returns c =
    let rows = c.self.inside.rows.items in
    let below : c.args.k < length rows = omega (arith, ap (λ (v : LogState). length v.writes) c.self.view_is, length-map rows (logged_write c.self.inside.bytes.items)) in
    rw (c.part.ensures, c.deref.ensures.value, ← c.self.view_is) (row_read c.self.inside.bytes.items rows c.args.k c.index-row.result.now below c.index-row.ensures)
