use Rattle.std.proofs.Common.{◌≡◌}
use Rattle.flat_machine.specs.declared.opening.Opening.{Opening}
use Rattle.world_parts.specs.Face.{WorldSeen}
use Rattle.world_parts.specs.Comes.{Comes}
use Rattle.world_parts.specs.Steps.{StoreSeen, new_world, IsOpeningOf}
use Rattle.world_parts.proofs.Beginning.{comes-start, ok-map}
use Rattle.blk_world.proofs.world.World.new.Goals as goal

pub returns-clause-comes : goal.returns-clause-comes
returns-clause-comes g c =
    let store : StoreSeen = record {
      files = g.S.Store.files c.args.store;
      opened = g.S.Store.opened c.args.store;
      room = g.S.Store.room c.args.store;
      faults = g.S.Store.faults c.args.store;
      failed_call = g.S.Store.failed_call c.args.store;
    } in
    ok-map c.put_world.result (λ (world : WorldSeen). world ≡ new_world store c.args.guests c.args.room)
    (λ (world : WorldSeen). (o : Opening) → IsOpeningOf store c.args.guests o → Comes o world)
    (λ world is o opening. rw is (comes-start store c.args.guests c.args.room o opening)) c.put_world.ensures.ok
