use Rattle.std.proofs.Common.{◌≡◌, drop, map}
use Rattle.qmp_codec.specs.Tables.{named}
use Rattle.qmp_codec.specs.Walk.{accepts}
use Rattle.qmp_codec.proofs.unknown.has_row.Given as goal

abbrev pub invariant-loop-row : goal.invariant-loop-row
invariant-loop-row l = accepts (map named (drop l.row-index l.rows)) l.name ≡ accepts (map named l.rows) l.name
