use Rattle.std.proofs.Common.{List, sym}
use Rattle.blk_base.specs.declared.file.Opened.{Opened}
use Rattle.world_parts.specs.Stores.{last_opened}
use Rattle.world_parts.proofs.RunOpenings.{create-last, out-last}
use Rattle.world_parts.proofs.run_store.RunStore.create_file.Goals as goal

pub returns-clause-cause : goal.returns-clause-cause
returns-clause-cause g c =
    let whole : List Opened = g.S.Store.opened c.self.inside.store in
    rw (sym c.self.view_is)
    (create-last c.args.name.now whole (last_opened c.self.inside.openings whole) (out-last c.self.inside.openings whole c.self.invariant c.args.name.now)
    c.args.len (g.S.Store.room c.self.inside.store) (g.S.Store.faults c.self.inside.store) (g.S.Store.faults c.create_file.new.self) c.create_file.result
    c.create_file.ensures.cause)
