use Rattle.std.proofs.Common.{refl}
use Rattle.image_rows.proofs.opened.Opened.zero.Goals as goal

pub invariant_of-self : goal.invariant_of-self
invariant_of-self c = record { told = c.zero_cluster.ensures.image _ refl }
