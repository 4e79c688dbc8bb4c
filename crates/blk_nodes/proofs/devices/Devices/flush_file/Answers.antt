use Rattle.std.proofs.Common.{List, refl, sym, ◌∙◌, subst, inr}
use Rattle.blk_nodes.specs.Nodes.{DeviceSeen}
use Rattle.blk_nodes.specs.Flushing.{IsFlushOf}
use Rattle.blk_nodes.proofs.Dropped.{unplaced}
use Rattle.blk_nodes.proofs.HeldDevices.{flushed_over}
use Rattle.blk_nodes.proofs.devices.Devices.flush_file.Goals as goal

pub returns-in-Some : goal.returns-in-Some
returns-in-Some g c =
    let items : List DeviceSeen = c.self.inside.list.items in
    let x : DeviceSeen = c.index_mut-held.result.now in
    let y : DeviceSeen = c.flush.new.self in
    let place = rw (sym c.self.view_is) at (sym c.in-Some.ensures.place) in
    rw (sym c.self.view_is)
    (flushed_over c.args.file items c.in-Some.at x y c.flush.result place
    (subst (λ (d : DeviceSeen). IsFlushOf d y c.flush.result) c.index_mut-held.ensures.value c.flush.ensures))

pub returns-in-None : goal.returns-in-None
returns-in-None g c = inr (unplaced c.args.file c.args.self.now (sym c.place_of.ensures.place ∙ c.in-None.is), refl, refl)
