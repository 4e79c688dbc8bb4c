use Rattle.std.proofs.Common.{sym, ap, ◌∙◌, arith, ◌<◌, ◌+◌, ◌∷◌, drop, length}
use Rattle.std.proofs.lemmas.List.{at_drop_more}
use Rattle.qmp_rules.specs.Asks.{first_reached, mirrored}
use Rattle.qmp_rules.proofs.ClashLemmas.{mirrored_first}
use Rattle.qmp_rules.proofs.table.Names.reaches_mirrored.Goals as goal

pub returns-then-is_some : goal.returns-then-is_some
returns-then-is_some c =
    let t = c.args.self.now.table in
    let jobs = c.jobs-job-items.result.now in
    let rest = drop (c.loop-job.job-index + 1) jobs in
    let less : c.loop-job.job-index < length jobs = omega arith in
    sym (sym c.loop-job.invariant
    ∙ at_drop_more (λ js. first_reached t c.args.target (mirrored js)) jobs c.loop-job.job-index c.job-item.result less
    ∙ ap (λ j. first_reached t c.args.target (mirrored (j ∷ rest))) (sym c.job-item.is)
    ∙ mirrored_first t c.args.target c.job-item.result rest c.in_ok-found.found c.in_ok-found.ensures (sym c.if-is_some.ensures))
