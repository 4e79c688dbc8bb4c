use Rattle.std.proofs.Common.{List, subst, sym}
use Rattle.blk_base.specs.declared.file.Opened.{Opened}
use Rattle.world_parts.specs.Stores.{StopsOpening, StoreInRun, first_opened, last_opened}
use Rattle.world_parts.proofs.RunOpenings.{in-last, out-last, stops-last}
use Rattle.world_parts.proofs.run_store.RunStore.open_file.Goals as goal

pub returns-in-Ok-clause-there : goal.returns-in-Ok-clause-there
returns-in-Ok-clause-there g c =
    let whole : List Opened = g.S.Store.opened c.self.inside.store in
    let cause = c.in-Ok.ensures.cause in
    rw (sym c.self.view_is)
    (in-last c.args.name.now whole (last_opened c.self.inside.openings whole) (out-last c.self.inside.openings whole c.self.invariant c.args.name.now) cause.0, cause.1)

pub returns-in-Err-clause-cause : goal.returns-in-Err-clause-cause
returns-in-Err-clause-cause g c =
    let whole : List Opened = g.S.Store.opened c.self.inside.store in
    let seen : StoreInRun = record {
      files = g.S.Store.files c.self.inside.store;
      earlier = first_opened c.self.inside.openings whole;
      opened = last_opened c.self.inside.openings whole;
      room = g.S.Store.room c.self.inside.store;
      faults = g.S.Store.faults c.self.inside.store;
      failed_call = g.S.Store.failed_call c.self.inside.store;
    } in
    subst (λ (v : StoreInRun). StopsOpening c.args.name.now v (g.S.Store.faults c.open_file.new.self) c.in-Err.stop) c.self.view_is
    (stops-last c.args.name.now seen whole (g.S.Store.faults c.open_file.new.self) c.open_file.result c.in-Err.stop
    (out-last c.self.inside.openings whole c.self.invariant c.args.name.now) c.in-Err.is c.open_file.ensures.cause)
