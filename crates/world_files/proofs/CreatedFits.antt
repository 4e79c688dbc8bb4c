-- A creation that was carried out passed no capacity.
use Rattle.std.proofs.Common.{◌≡◌, ℕ, ◌<◌, ◌≤◌, List, refl, ap, subst, arith, Option, Some, None, Ok}
use Rattle.std.specs.Prelude.{AllPairs, option_map, unwrap_or}
use Rattle.blk_base.specs.declared.fault.DevNo.{DevNo}
use Rattle.q2_format.specs.Created.{created_length}
use Rattle.blk_history.specs.Fold.{With}
use Rattle.blk_nodes.specs.Formatting.{IsFormatAt}
use Rattle.blk_nodes.specs.Nodes.{DeviceSeen, device_in, is_device_of}
use Rattle.blk_graph.proofs.Members.{find-Some}
use Rattle.qmp_codec.specs.declared.command.Command.TheVariants as command
use Rattle.qmp_codec.specs.declared.nodes.BlockdevCreate.{BlockdevCreate}
use Rattle.qmp_codec.specs.declared.nodes.CreateQcow2.{CreateQcow2}
use Rattle.qmp_codec.specs.declared.nodes.Created.{Created}
use Rattle.qmp_codec.specs.declared.nodes.Created.TheVariants as created
use Rattle.qmp_rules.specs.Asks.{id_or}
use Rattle.qmp_rules.specs.Table.{id_named}
use Rattle.flat_machine.specs.EventLicence.{IsOfCreation}
use Rattle.world_parts.specs.Carrying.{FitsAll, creation_passes}
use Rattle.world_parts.specs.Counting.{seen_sources}
use Rattle.world_parts.specs.Creating.{HasCreated, creation_for}
use Rattle.world_parts.specs.Deleting.{Ground, ground_of}
use Rattle.world_parts.specs.Face.{WorldSeen, counts_now, device_numbered}
use Rattle.world_parts.proofs.CountLemmas.{DifferInNumber, numbered}
use Rattle.world_parts.proofs.InStep.{with-at}

module _ (w : WorldSeen) (now : Ground) (once : AllPairs DifferInNumber w.nodes.devices) where
  -- the device that was written is the one that is called
  fits-in : (node dev : ℕ) (q : CreateQcow2 (List ℕ)) → IsFormatAt node w.nodes.devices now.nodes.devices
      (creation_for q) (Ok tt)
      → option_map (λ (device : DeviceSeen). device.number.0) (device_in w.nodes.devices node) ≡ Some dev
      → With (device_numbered w.nodes.devices dev) (λ device. device.capacity < created_length (creation_for q)) → ⊥
  fits-in node dev q made called passes =
      let number : made.before.number.0 ≡ dev = let told = rw made.held at called in cc told in
      let there = (find-Some (is_device_of node) w.nodes.devices made.before made.held).0 in
      let found : device_numbered w.nodes.devices dev ≡ Some made.before =
      subst (λ (n : ℕ). device_numbered w.nodes.devices n ≡ Some made.before) number
      (numbered w.nodes.devices made.before once there) in
      let above : made.before.capacity < created_length (creation_for q) =
      with-at (device_numbered w.nodes.devices dev) made.before
      (λ (device : DeviceSeen). device.capacity < created_length (creation_for q)) found passes in
      let room : created_length (creation_for q) ≤ made.before.capacity = made.formatted.cause.0 in
      omega arith

  fits-of : (options : Created (List ℕ)) → HasCreated w.table options (ground_of w) now → (dev : DevNo)
      → IsOfCreation w.table (seen_sources w) (counts_now w) dev.0 options → creation_passes w options dev.0 → ⊥
  fits-of (created.File f) made dev called passes = called
  fits-of created.Unknown made dev called passes = called
  fits-of (created.Qcow2 q) made dev called passes = by_name (id_named w.table q.file) refl called
    where
      by_name : (found : Option ℕ) → id_named w.table q.file ≡ found
          → With found (λ node. option_map (λ (device : DeviceSeen). device.number.0)
          (device_in w.nodes.devices node) ≡ Some dev.0) → ⊥
      by_name None e is = is
      by_name (Some node) e is =
          let same : id_or 0 w.table (Some q.file) ≡ node = ap (λ (o : Option ℕ). unwrap_or o 0) e in
          fits-in node dev.0 q
          (subst (λ (n : ℕ). IsFormatAt n w.nodes.devices now.nodes.devices (creation_for q)
          (Ok tt)) same made.format) is passes

  pub created_fits : (c : BlockdevCreate (List ℕ)) → HasCreated w.table c.options (ground_of w) now → FitsAll w
      (command.BlockdevCreate c)
  created_fits c made dev called passes = fits-of c.options made dev called passes.1
