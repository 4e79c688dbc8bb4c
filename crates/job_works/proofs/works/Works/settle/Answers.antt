use Rattle.std.proofs.Common.{sym}
use Rattle.job_works.specs.Steps.{Settled}
use Rattle.job_works.proofs.Stepped.{found_at, changes_at, nowhere, settle_keeps}
use Rattle.job_works.proofs.Changed.{job_found}
use Rattle.job_works.proofs.works.Works.settle.Goals as goal

pub settle-requires-clause-own : goal.settle-requires-clause-own
settle-requires-clause-own g c =
    sym (job_found c.args.self.now c.args.t.job c.index_mut-work.result.now
    (found_at c.args.t.job c.args.self.now c.self.inside.list.items c.in-Some.at c.index_mut-work.result.now
    (record { view = c.self.view_is; place_is = sym c.in-Some.ensures.place; seen_is = c.index_mut-work.ensures.value })))

pub settle-requires-clause-target : goal.settle-requires-clause-target
settle-requires-clause-target g c =
    (c.requires.there c.index_mut-work.result.now
    (found_at c.args.t.job c.args.self.now c.self.inside.list.items c.in-Some.at c.index_mut-work.result.now
    (record { view = c.self.view_is; place_is = sym c.in-Some.ensures.place; seen_is = c.index_mut-work.ensures.value }))).0

pub settle-requires-clause-whole : goal.settle-requires-clause-whole
settle-requires-clause-whole g c =
    (c.requires.there c.index_mut-work.result.now
    (found_at c.args.t.job c.args.self.now c.self.inside.list.items c.in-Some.at c.index_mut-work.result.now
    (record { view = c.self.view_is; place_is = sym c.in-Some.ensures.place; seen_is = c.index_mut-work.ensures.value }))).1

pub unreachable-requires : goal.unreachable-requires
unreachable-requires g c = nowhere c.args.t.job c.args.self.now c.in-None.ensures.place c.requires.some

pub returns-clause-settles : goal.returns-clause-settles
returns-clause-settles g c =
    changes_at c.args.t.job c.args.self.now c.self.inside.list.items c.in-Some.at c.index_mut-work.result.now
    (record { view = c.self.view_is; place_is = sym c.in-Some.ensures.place; seen_is = c.index_mut-work.ensures.value })
    (Settled c.args.kind c.args.nodes.now c.settle.new.nodes c.args.target c.args.t c.args.bytes.now c.settle.result) c.settle.new.work
    (settle_keeps c.args.kind c.args.nodes.now c.settle.new.nodes c.index_mut-work.result.now c.settle.new.work c.args.target c.args.t c.args.bytes.now c.settle.result
    c.settle.ensures.settles)
    (record { settles = c.settle.ensures.settles; ahead = c.settle.ensures.ahead })
