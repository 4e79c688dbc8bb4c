use Rattle.std.proofs.Common.{◌*◌, ℕ, List, None, length, refl, sym, subst}
use Rattle.std.proofs.lemmas.Result.{on_ok_weaker}
use Rattle.blk_base.specs.declared.fault.Outcome.{Outcome}
use Rattle.q2_image.specs.Image.{cluster_size_in, entry_in}
use Rattle.q2_image.specs.Made.{put_steps}
use Rattle.q2_image.specs.Reading.{IsHost}
use Rattle.q2_image.specs.Writing.{IsDiskWith, PutFits}
use Rattle.blk_nodes.specs.Changing.{PutsCluster}
use Rattle.blk_nodes.specs.Nodes.{DeviceSeen}
use Rattle.blk_nodes.specs.Writing.{HasImageCause, taken_by}
use Rattle.blk_nodes.proofs.ImageCalls.{host_mapped, cluster_mapped, cluster_cause, cluster_change, cluster_disk}
use Rattle.blk_nodes.proofs.devices.Held.put_image.Goals as goal

pub put_cluster-written-requires-clause-image : goal.put_cluster-written-requires-clause-image
put_cluster-written-requires-clause-image g c = λ file told. let known = rw (sym c.self.view_is) at c.requires.known in known file told

pub returns : goal.returns
returns g c =
    let e = c.put_cluster-written.ensures in
    let written = c.put_cluster-written.result in
    let image = c.args.image.now in
    let left = c.put_cluster-written.new.self in
    let old : DeviceSeen = record {
      node = c.self.inside.node;
      number = c.self.inside.number;
      content = g.D.Device.content c.self.inside.device;
      is_flushed = g.D.Device.is_flushed c.self.inside.device;
      log = g.D.Device.log c.self.inside.device;
      size = g.D.Device.size c.self.inside.device;
      capacity = g.D.Device.capacity c.self.inside.device;
      faults = g.D.Device.faults c.self.inside.device;
      failed_call = g.D.Device.failed_call c.self.inside.device;
    } in
    let new : DeviceSeen = record {
      node = c.self.inside.node;
      number = c.self.inside.number;
      content = g.D.Device.content c.put_cluster-written.new.dev;
      is_flushed = g.D.Device.is_flushed c.put_cluster-written.new.dev;
      log = g.D.Device.log c.put_cluster-written.new.dev;
      size = g.D.Device.size c.put_cluster-written.new.dev;
      capacity = g.D.Device.capacity c.put_cluster-written.new.dev;
      faults = g.D.Device.faults c.put_cluster-written.new.dev;
      failed_call = g.D.Device.failed_call c.put_cluster-written.new.dev;
    } in
    let fits = rw (sym c.self.view_is) at c.requires.fits in
    let place : ℕ = c.args.cluster * cluster_size_in image in
    let bytes : List ℕ = c.args.bytes.now in
    rw (sym c.self.view_is) (record {
      wrote = record {
        device = record {
          node = refl;
          number = refl;
          told = e.told;
          capacity = e.capacity;
          faults = e.faults;
        };
        image = e.image;
        disk = λ b now was is.
            subst (λ (o : Outcome). IsDiskWith b now place (taken_by o bytes)) (sym c.cluster_outcome.ensures)
            (cluster_disk new written old.content new.content place bytes e.disk e.kept b now was is);
        header = e.header;
        taken = e.taken;
        mapped = cluster_mapped written image left c.args.cluster e.others (on_ok_weaker written (host_mapped (entry_in left c.args.cluster)) e.mapped) e.unmapped;
      };
      cause = subst (HasImageCause (PutFits image c.args.cluster old.capacity) None (length bytes) old new image left) (sym c.cluster_outcome.ensures)
          (cluster_cause g.D.Device (PutFits image c.args.cluster old.capacity) None (length bytes) image _ written left c.self.inside.device c.put_cluster-written.new.dev old new refl refl refl e.changes
          (λ other. fits) (λ is. absurd (e.no_space.0 is fits)));
      changed = subst (PutsCluster c.args.cluster bytes image left old new) (sym c.cluster_outcome.ensures)
          (cluster_change g.D.Device c.self.inside.node c.self.inside.number c.self.inside.device c.put_cluster-written.new.dev image left
          (put_steps image c.args.cluster bytes) place bytes (λ now. IsHost (entry_in now c.args.cluster)) written e.changes e.cleared (λ other. e.stops fits) (λ other. e.header_kept fits) e.mapped);
    })
