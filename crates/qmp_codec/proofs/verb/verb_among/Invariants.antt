use Rattle.std.proofs.Common.{◌≡◌, drop, map}
use Rattle.qmp_codec.specs.Verbs.{verb_row, verb_among}
use Rattle.qmp_codec.proofs.verb.verb_among.Given as goal

abbrev pub invariant-loop-known : goal.invariant-loop-known
invariant-loop-known l = verb_among (map verb_row (drop l.known-index l.rows)) l.name ≡ verb_among (map verb_row l.rows) l.name
