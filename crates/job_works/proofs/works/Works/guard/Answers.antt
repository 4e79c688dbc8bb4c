use Rattle.std.proofs.Common.{sym}
use Rattle.job_works.specs.Steps.{Guarded}
use Rattle.job_works.proofs.Stepped.{found_at, changes_at, nowhere, guard_keeps}
use Rattle.job_works.proofs.works.Works.guard.Goals as goal

pub guard-requires-clause-block : goal.guard-requires-clause-block
guard-requires-clause-block g c =
    (c.requires.there c.index_mut-work.result.now
    (found_at c.args.job c.args.self.now c.self.inside.list.items c.in-Some.at c.index_mut-work.result.now
    (record { view = c.self.view_is; place_is = sym c.in-Some.ensures.place; seen_is = c.index_mut-work.ensures.value }))).0

pub guard-requires-clause-source : goal.guard-requires-clause-source
guard-requires-clause-source g c =
    (c.requires.there c.index_mut-work.result.now
    (found_at c.args.job c.args.self.now c.self.inside.list.items c.in-Some.at c.index_mut-work.result.now
    (record { view = c.self.view_is; place_is = sym c.in-Some.ensures.place; seen_is = c.index_mut-work.ensures.value }))).1

pub guard-requires-clause-target : goal.guard-requires-clause-target
guard-requires-clause-target g c =
    (c.requires.there c.index_mut-work.result.now
    (found_at c.args.job c.args.self.now c.self.inside.list.items c.in-Some.at c.index_mut-work.result.now
    (record { view = c.self.view_is; place_is = sym c.in-Some.ensures.place; seen_is = c.index_mut-work.ensures.value }))).2

pub unreachable-requires : goal.unreachable-requires
unreachable-requires g c = nowhere c.args.job c.args.self.now c.in-None.ensures.place c.requires.some

pub returns-clause-guards : goal.returns-clause-guards
returns-clause-guards g c =
    changes_at c.args.job c.args.self.now c.self.inside.list.items c.in-Some.at c.index_mut-work.result.now
    (record { view = c.self.view_is; place_is = sym c.in-Some.ensures.place; seen_is = c.index_mut-work.ensures.value })
    (Guarded c.args.nodes.now c.guard.new.nodes c.args.source c.args.target c.args.block) c.guard.new.work
    (guard_keeps c.args.nodes.now c.guard.new.nodes c.index_mut-work.result.now c.guard.new.work c.args.source c.args.target c.args.block c.guard.ensures.guards)
    (record { guards = c.guard.ensures.guards; ahead = c.guard.ensures.ahead; free = c.guard.ensures.free })
