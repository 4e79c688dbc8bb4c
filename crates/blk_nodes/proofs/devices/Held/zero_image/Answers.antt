use Rattle.std.proofs.Common.{◌≡◌, ◌*◌, ℕ, List, None, Result, length, replicate, refl, sym, subst}
use Rattle.std.proofs.lemmas.Result.{on_ok_weaker}
use Rattle.blk_base.specs.declared.fault.DevStop.{DevStop}
use Rattle.blk_base.specs.declared.fault.Outcome.{Outcome}
use Rattle.q2_format.specs.Entry.{host_of}
use Rattle.q2_format.specs.declared.entries.L2Entry.TheVariants.{Zero}
use Rattle.q2_image.specs.Image.{cluster_size_in, entry_in}
use Rattle.q2_image.specs.Made.{ChangesImage, zero_steps}
use Rattle.q2_image.specs.Writing.{IsDiskWith, ZeroFits}
use Rattle.blk_nodes.specs.Changing.{ClearsCluster}
use Rattle.blk_nodes.specs.Nodes.{DeviceSeen}
use Rattle.blk_nodes.specs.Writing.{HasImageCause, taken_by}
use Rattle.blk_nodes.proofs.ImageCalls.{zero_mapped, cluster_mapped, cluster_change, cluster_zeros, stable_zero, zeros_disk, cluster_cause, cluster_disk, untouched_seen}
use Rattle.blk_nodes.proofs.devices.Held.zero_image.Goals as goal

pub zero_cluster-written-requires-clause-image : goal.zero_cluster-written-requires-clause-image
zero_cluster-written-requires-clause-image g c = λ file told. let known = rw (sym c.self.view_is) at c.requires.known in known file told

pub returns : goal.returns
returns g c =
    let e = c.zero_cluster-written.ensures in
    let written = c.zero_cluster-written.result in
    let image = c.args.image.now in
    let left = c.zero_cluster-written.new.self in
    let size : ℕ = cluster_size_in image in
    let place : ℕ = c.args.cluster * size in
    let old : DeviceSeen = record {
      node = c.self.inside.node;
      number = c.self.inside.number;
      content = g.D.Device.content c.self.inside.device;
      is_flushed = g.D.Device.is_flushed c.self.inside.device;
      log = g.D.Device.log c.self.inside.device;
      size = g.D.Device.size c.self.inside.device;
      capacity = g.D.Device.capacity c.self.inside.device;
      faults = g.D.Device.faults c.self.inside.device;
      failed_call = g.D.Device.failed_call c.self.inside.device;
    } in
    let new : DeviceSeen = record {
      node = c.self.inside.node;
      number = c.self.inside.number;
      content = g.D.Device.content c.zero_cluster-written.new.dev;
      is_flushed = g.D.Device.is_flushed c.zero_cluster-written.new.dev;
      log = g.D.Device.log c.zero_cluster-written.new.dev;
      size = g.D.Device.size c.zero_cluster-written.new.dev;
      capacity = g.D.Device.capacity c.zero_cluster-written.new.dev;
      faults = g.D.Device.faults c.zero_cluster-written.new.dev;
      failed_call = g.D.Device.failed_call c.zero_cluster-written.new.dev;
    } in
    let ok = zeros_disk size written old.content new.content place e.disk in
    let bytes : List ℕ = replicate size 0 in
    rw (sym c.self.view_is) (record {
      wrote = record {
        device = record {
          node = refl;
          number = refl;
          told = e.told;
          capacity = e.capacity;
          faults = e.faults;
        };
        image = e.image;
        disk = λ b now was is.
            subst (λ (o : Outcome). IsDiskWith b now place (taken_by o bytes)) (sym c.cluster_outcome.ensures)
            (cluster_disk new written old.content new.content place bytes ok e.kept b now was is);
        header = e.header;
        taken = e.taken;
        mapped = cluster_mapped written image left c.args.cluster e.others (on_ok_weaker written (zero_mapped (entry_in left c.args.cluster) (host_of (entry_in image c.args.cluster))) e.mapped) e.unmapped;
      };
      cause = subst (HasImageCause (ZeroFits image c.args.cluster old.capacity) None (length bytes) old new image left) (sym c.cluster_outcome.ensures)
          (cluster_cause g.D.Device (ZeroFits image c.args.cluster old.capacity) None (length bytes) image _ written left c.self.inside.device c.zero_cluster-written.new.dev old new refl refl refl e.changes
          (λ other. stable_zero c.args.image.now c.args.cluster old.capacity (λ none. other (e.no_space.1 none)))
          (λ is.
          let full = subst (λ (r : Result (Unit {0}) DevStop). ChangesImage g.D.Device image (zero_steps image c.args.cluster) r left c.self.inside.device c.zero_cluster-written.new.dev) is e.changes in
          (e.no_space.0 is, untouched_seen g.D.Device c.self.inside.node c.self.inside.number c.self.inside.device c.zero_cluster-written.new.dev full.1, full.0)));
      changed = subst (ClearsCluster c.args.cluster image left old new) (sym c.cluster_outcome.ensures)
          (cluster_change g.D.Device c.self.inside.node c.self.inside.number c.self.inside.device c.zero_cluster-written.new.dev image left
          (zero_steps image c.args.cluster) place bytes
          (λ now. entry_in now c.args.cluster ≡ Zero (host_of (entry_in image c.args.cluster))) written e.changes e.cleared
          (λ other.
          let fits = stable_zero c.args.image.now c.args.cluster old.capacity (λ none. other (e.no_space.1 none)) in
          e.stops fits bytes (cluster_zeros size))
          (λ other. e.header_kept (stable_zero c.args.image.now c.args.cluster old.capacity (λ none. other (e.no_space.1 none)))) e.mapped);
    })
