use Rattle.std.proofs.Common.{sym}
use Rattle.job_works.specs.Steps.{Taken}
use Rattle.job_works.proofs.Stepped.{found_at, changes_at, nowhere, take_keeps}
use Rattle.job_works.proofs.works.Works.take.Goals as goal

pub take-requires-clause-source : goal.take-requires-clause-source
take-requires-clause-source g c =
    (c.requires.there c.index_mut-work.result.now
    (found_at c.args.job c.args.self.now c.self.inside.list.items c.in-Some.at c.index_mut-work.result.now
    (record { view = c.self.view_is; place_is = sym c.in-Some.ensures.place; seen_is = c.index_mut-work.ensures.value }))).0

pub take-requires-clause-room : goal.take-requires-clause-room
take-requires-clause-room g c =
    (c.requires.there c.index_mut-work.result.now
    (found_at c.args.job c.args.self.now c.self.inside.list.items c.in-Some.at c.index_mut-work.result.now
    (record { view = c.self.view_is; place_is = sym c.in-Some.ensures.place; seen_is = c.index_mut-work.ensures.value }))).1

pub unreachable-requires : goal.unreachable-requires
unreachable-requires g c = nowhere c.args.job c.args.self.now c.in-None.ensures.place c.requires.some

pub returns-clause-takes : goal.returns-clause-takes
returns-clause-takes g c =
    changes_at c.args.job c.args.self.now c.self.inside.list.items c.in-Some.at c.index_mut-work.result.now
    (record { view = c.self.view_is; place_is = sym c.in-Some.ensures.place; seen_is = c.index_mut-work.ensures.value })
    (Taken c.args.kind c.args.nodes.now c.take.new.nodes c.args.source c.args.position c.take.new.buffer c.take.result) c.take.new.work
    (take_keeps c.args.kind c.args.nodes.now c.take.new.nodes c.index_mut-work.result.now c.take.new.work c.args.source c.args.position c.take.new.buffer c.take.result
    c.take.ensures.takes)
    (record { takes = c.take.ensures.takes; ahead = c.take.ensures.ahead })
