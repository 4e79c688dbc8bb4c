use Rattle.std.proofs.Common.{refl}
use Rattle.image_rows.proofs.opened.Opened.put.Goals as goal

pub invariant_of-self : goal.invariant_of-self
invariant_of-self c = record { told = c.put_cluster.ensures.image _ refl }
