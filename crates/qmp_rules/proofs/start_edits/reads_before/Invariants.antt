use Rattle.std.proofs.Common.{◌≡◌, drop}
use Rattle.std.specs.List.{list_any}
use Rattle.qmp_rules.specs.Chains.{is_listed}
use Rattle.qmp_rules.specs.Edits.{up_to}
use Rattle.qmp_rules.proofs.start_edits.reads_before.Given as goal

abbrev pub invariant-loop-id : goal.invariant-loop-id
invariant-loop-id l =
    list_any (λ id. is_listed id l.nodes) (up_to l.top (drop l.id-index l.chain))
    ≡ list_any (λ id. is_listed id l.nodes) (up_to l.top l.chain)
