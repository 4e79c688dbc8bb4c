use Rattle.std.proofs.Common.{◌<◌, sym, arith}
use Rattle.qmp_rules.proofs.EditLemmas.{lowest_free_is}
use Rattle.qmp_rules.proofs.edits.lowest.Goals as goal

pub returns-in-Some : goal.returns-in-Some
returns-in-Some c =
    let small : c.in-Some.id < 64 = omega (arith, c.index.ensures.value, c.index.ensures.small) in
    sym (lowest_free_is c.args.taken.now c.in-Some.id small c.in-Some.ensures.free)
