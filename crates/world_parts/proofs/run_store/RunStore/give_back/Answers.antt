use Rattle.std.proofs.Common.{ℕ, List, IsTrue, refl, sym, ◌∙◌}
use Rattle.std.specs.Prelude.{Option}
use Rattle.blk_base.specs.Files.{is_out}
use Rattle.blk_base.specs.declared.device.DeviceCall.{DeviceCall}
use Rattle.blk_base.specs.declared.file.Opened.{Opened}
use Rattle.world_parts.specs.Stores.{last_opened}
use Rattle.world_parts.proofs.RunOpenings.{are-last-back, first-back, last-back, out-last}
use Rattle.world_parts.proofs.run_store.RunStore.give_back.Goals as goal

pub give_back-requires : goal.give_back-requires
give_back-requires g c =
    let whole : List Opened = g.S.Store.opened c.self.inside.store in
    let out : IsTrue (is_out c.args.name.now (last_opened c.self.inside.openings whole)) = rw (sym c.self.view_is) at c.requires in
    out-last c.self.inside.openings whole c.self.invariant c.args.name.now ∙ out

pub invariant_of-self : goal.invariant_of-self
invariant_of-self g c =
    let whole : List Opened = g.S.Store.opened c.self.inside.store in
    rw c.give_back.ensures.opened
    (are-last-back c.self.inside.openings whole c.self.invariant c.args.name.now (g.S.Dev.Device.faults c.args.device)
    (g.S.Dev.Device.failed_call c.args.device))

pub returns : goal.returns
returns g c =
    let whole : List Opened = g.S.Store.opened c.self.inside.store in
    let count : ℕ = g.S.Dev.Device.faults c.args.device in
    let call : Option DeviceCall = g.S.Dev.Device.failed_call c.args.device in
    rw (
      sym c.self.view_is,
      c.give_back.ensures.files,
      c.give_back.ensures.opened,
      c.give_back.ensures.room,
      c.give_back.ensures.call,
      c.give_back.ensures.faults,
      last-back c.self.inside.openings whole c.self.invariant c.args.name.now count call,
      first-back c.self.inside.openings whole c.self.invariant c.args.name.now count call,
    ) refl
