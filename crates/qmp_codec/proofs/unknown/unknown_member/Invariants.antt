use Rattle.std.proofs.Common.{◌≡◌, map, None, option_map}
use Rattle.serde_json.specs.View.{members_view}
use Rattle.qmp_codec.specs.Tables.{named}
use Rattle.qmp_codec.specs.Walk.{unknown_in}
use Rattle.qmp_codec.proofs.unknown.unknown_member.Given as goal

abbrev pub invariant-loop-name : goal.invariant-loop-name
invariant-loop-name l =
    unknown_in (map named l.rows) (option_map (λ s. s.now) l.found) (members_view l.name-iterator)
    ≡ unknown_in (map named l.rows) None (members_view l.members.entries)
