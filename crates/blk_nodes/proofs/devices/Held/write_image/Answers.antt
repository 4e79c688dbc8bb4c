use Rattle.std.proofs.Common.{◌≡◌, ◌≤◌, ℕ, List, Some, length, refl, sym, ◌∙◌, ap, subst}
use Rattle.blk_base.specs.declared.device.Stop.TheVariants as why
use Rattle.blk_base.specs.declared.fault.Outcome.{Outcome}
use Rattle.q2_image.specs.Writing.{IsDiskWith, own_end, own_place}
use Rattle.blk_nodes.specs.Nodes.{DeviceSeen}
use Rattle.blk_nodes.specs.Writing.{HasImageCause, taken_by}
use Rattle.blk_nodes.specs.Changing.{ChangesInPlace}
use Rattle.blk_nodes.proofs.ImageCalls.{own_cause, own_header, own_made, own_mapped, own_stopped, own_taken, untouched_seen}
use Rattle.blk_nodes.proofs.devices.Held.write_image.Goals as goal

pub write_own-requires-clause-image : goal.write_own-requires-clause-image
write_own-requires-clause-image g c = λ file told. let known = rw (sym c.self.view_is) at c.requires.known in known file told

pub returns-in-Ok : goal.returns-in-Ok
returns-in-Ok g c =
    let e = c.in-Ok.ensures in
    rw (sym c.self.view_is) (record {
      wrote = record {
        device = record { node = refl; number = refl; told = e.told; capacity = e.capacity; faults = e.faults };
        image = e.image;
        disk = e.disk;
        header = own_header c.args.image.now c.write_own.new.self e.known;
        taken = e.taken;
        mapped = own_mapped c.args.image.now c.write_own.new.self e.known;
      };
      cause = (e.fits, e.quiet);
      changed = own_made g.D.Device c.self.inside.node c.self.inside.number c.self.inside.device c.write_own.new.dev c.args.image.now c.write_own.new.self
          c.args.span c.args.bytes.now e.wrote e.cleared e.stops e.header_kept;
    })

pub returns-in-Err : goal.returns-in-Err
returns-in-Err g c =
    let stop = c.in-Err.stop in
    let e = c.in-Err.ensures in
    let old : DeviceSeen = record {
      node = c.self.inside.node;
      number = c.self.inside.number;
      content = g.D.Device.content c.self.inside.device;
      is_flushed = g.D.Device.is_flushed c.self.inside.device;
      log = g.D.Device.log c.self.inside.device;
      size = g.D.Device.size c.self.inside.device;
      capacity = g.D.Device.capacity c.self.inside.device;
      faults = g.D.Device.faults c.self.inside.device;
      failed_call = g.D.Device.failed_call c.self.inside.device;
    } in
    let new : DeviceSeen = record {
      node = c.self.inside.node;
      number = c.self.inside.number;
      content = g.D.Device.content c.write_own.new.dev;
      is_flushed = g.D.Device.is_flushed c.write_own.new.dev;
      log = g.D.Device.log c.write_own.new.dev;
      size = g.D.Device.size c.write_own.new.dev;
      capacity = g.D.Device.capacity c.write_own.new.dev;
      faults = g.D.Device.faults c.write_own.new.dev;
      failed_call = g.D.Device.failed_call c.write_own.new.dev;
    } in
    let nothing : (stop.why ≡ why.NoSpace) → stop.done ≡ 0 = λ none. (e.stop.no_space none).1 in
    let bytes : List ℕ = c.args.bytes.now in
    let some = ap (λ (o : Outcome). taken_by o bytes) c.stopped.ensures ∙ own_taken new stop bytes nothing in
    rw (sym c.self.view_is) (record {
      wrote = record {
        device = record {
          node = refl;
          number = refl;
          told = e.told;
          capacity = e.capacity;
          faults = e.faults;
        };
        image = e.image;
        disk = λ b now was is. subst (λ (xs : List ℕ). IsDiskWith b now c.args.span.start xs) (sym some) (e.disk b now was is);
        header = own_header c.args.image.now c.write_own.new.self e.known;
        taken = e.taken;
        mapped = own_mapped c.args.image.now c.write_own.new.self e.known;
      };
      cause = subst (HasImageCause (own_end c.args.image.now c.args.span ≤ old.capacity) (Some (own_place c.args.image.now c.args.span)) (length bytes) old new c.args.image.now c.write_own.new.self)
          (sym c.stopped.ensures)
          (own_cause old new c.args.image.now c.write_own.new.self (own_place c.args.image.now c.args.span) (length bytes) (own_end c.args.image.now c.args.span) stop refl e.stop
          (λ none. let all = e.untouched none in (untouched_seen g.D.Device c.self.inside.node c.self.inside.number c.self.inside.device c.write_own.new.dev all.1, all.0)));
      changed = subst (ChangesInPlace c.args.span bytes c.args.image.now c.write_own.new.self old new) (sym c.stopped.ensures)
          (own_stopped g.D.Device c.self.inside.node c.self.inside.number c.self.inside.device c.write_own.new.dev c.args.image.now c.write_own.new.self c.args.span bytes
          stop e.wrote e.cleared e.stops e.header_kept
          (λ none. let all = e.untouched none in (untouched_seen g.D.Device c.self.inside.node c.self.inside.number c.self.inside.device c.write_own.new.dev all.1, all.0)));
    })
