use Rattle.std.proofs.Common.{sym}
use Rattle.image_rows.proofs.opened.open.Goals as goal

pub invariant_of-result : goal.invariant_of-result
invariant_of-result c = record { told = c.in-Ok.ensures.image _ (sym c.in-Ok.ensures.device.reads.content) }
