use Rattle.std.proofs.Common.{refl}
use Rattle.qmp_rules.proofs.table.Names.used_bitmap.Goals as goal

pub returns : goal.returns
returns c =
    rw (c.in_ok-copied.ensures, c.mode_or_default.ensures, c.is_settled.ensures, c.id_of.ensures, c.as_str.ensures.value) refl
