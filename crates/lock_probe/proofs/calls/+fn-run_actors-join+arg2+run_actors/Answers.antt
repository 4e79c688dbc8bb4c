use Rattle.std.proofs.Common.{rules, ◌<◌, ◌+◌, ◌-◌, arith, sym, subst}
use Rattle.blk_lock.specs.Views.{view}
use Rattle.lock_probe.specs.Runs.{MayRun, HasRun, MayWrite, HasWritten}
use Rattle.lock_probe.proofs.Running.{V, rest_may_run, first_may_write, all_have_run}
use Rattle.lock_probe.proofs.calls.+fn-run_actors-join+arg2+run_actors.Goals as goal

pub join-rest-requires-after_bounds : goal.join-rest-requires-after_bounds
join-rest-requires-after_bounds g t c κs within =
    let some : 0 < c.args.count = omega arith in
    let rest : MayRun (view c.split-one.new.pass) (c.args.first + 1) (c.args.count - 1) c.args.rounds = subst (λ (v : V). MayRun v (c.args.first + 1) (c.args.count - 1) c.args.rounds) (sym c.split-one.ensures.kept) (rest_may_run (view c.args.pass) c.args.first c.args.count c.args.rounds some c.requires.may) in
    let one : MayWrite (view c.split-one.result) c.args.first c.args.rounds = subst (λ (v : V). MayWrite v c.args.first c.args.rounds) (sym c.split-one.ensures.given) (first_may_write (view c.args.pass) c.args.first c.args.rounds c.requires.may.free) in
    search rules

pub returns-clause-run : goal.returns-clause-run
returns-clause-run g t c =
    let some : 0 < c.args.count = omega arith in
    let rest = subst (λ (v : V). HasRun v (view c.join-rest.result.0) (c.args.first + 1) (c.args.count - 1) c.args.rounds) c.split-one.ensures.kept c.join-rest.ensures.first.1 in
    let one = subst (λ (v : V). HasWritten v (view c.join-rest.result.1) c.args.first c.args.rounds) c.split-one.ensures.given c.join-rest.ensures.second.1 in
    all_have_run (view c.args.pass) (view c.join-rest.result.0) (view c.join-rest.result.1) (view c.join.new.pass) _ _ _ some c.requires.may rest one c.join.ensures.pass c.join.ensures.goes_on c.join.ensures.other_goes_on
