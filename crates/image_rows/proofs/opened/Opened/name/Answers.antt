use Rattle.std.proofs.Common.{refl}
use Rattle.image_rows.proofs.opened.Opened.name.Goals as goal

pub invariant_of-self : goal.invariant_of-self
invariant_of-self c = record { told = c.set_backing_name.ensures.image _ refl }
