use Rattle.std.proofs.Common.{◌-◌}
use Rattle.node_copies.proofs.putting.+put_from.Given as goal

abbrev pub decreases-put_from : goal.decreases-put_from
decreases-put_from g l = 128 - l.from
