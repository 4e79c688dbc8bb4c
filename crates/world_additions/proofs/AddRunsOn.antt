-- Counts run on behind an addition, carried out or not.
use Rattle.std.proofs.Common.{◌≡◌, ℕ, ◌≤◌, List, [], ◌∷◌, ◌++◌, length, inl, inr, sym, ◌∙◌, ap, subst, arith, Option}
use Rattle.std.specs.Prelude.{is_some, slice_get}
use Rattle.blk_base.specs.declared.fault.DevNo.{DevNo}
use Rattle.blk_base.specs.declared.file.Opened.{Opened}
use Rattle.blk_history.specs.Fold.{With}
use Rattle.blk_nodes.specs.Nodes.{DeviceSeen, Nodes}
use Rattle.q2_image.specs.Image.{Known}
use Rattle.qmp_codec.specs.declared.nodes.Added.{Added}
use Rattle.qmp_rules.specs.Table.{RunTable}
use Rattle.world_parts.specs.Adding.{Adding, Taken, of_node, opening_of}
use Rattle.world_parts.specs.Counting.{AreSameDevices, HaveNotFallen, IsLater, RunsOn}
use Rattle.world_parts.specs.Face.{WorldSeen, counts_from, counts_now}
use Rattle.world_parts.specs.Joining.{HasAdded}
use Rattle.world_parts.specs.Looking.{Site, site}
use Rattle.world_parts.specs.Staging.{back_if, opened_name, site_of, store_of}
use Rattle.world_parts.specs.Stores.{StoreInRun}
use Rattle.world_additions.proofs.AddKinds.{IsLookedSo, has-device, no-device-more}
use Rattle.world_additions.proofs.AddRuns.{back-is, closed-opening, counts-more, not-fallen-itself, runs-opened}
use Rattle.world_parts.proofs.CountLemmas.{goes-on, not-fallen, same-risen, with-of}

-- ---- no opening more

pub runs-still : (w v : WorldSeen) → is_some v.files ≡ is_some w.files → v.room ≡ w.room → v.first_faults ≡ w.first_faults → v.earlier ≡ w.earlier → w.faults ≤ v.faults
    → v.opened ≡ w.opened → AreSameDevices w.nodes.devices v.nodes.devices → RunsOn w v
runs-still w v told room first earlier store opened same = record {
  told = told;
  room = room;
  first = first;
  earlier = earlier;
  store = store;
  openings = λ n o is.
      subst (λ (all : List Opened). With (slice_get all n) (IsLater o)) (sym opened)
      (with-of (slice_get w.opened n) o (IsLater o) is (goes-on o));
  devices =
      subst (λ (all : List Opened). HaveNotFallen (counts_now w).devices (counts_from v.nodes.devices 0 all)) (sym opened)
      (not-fallen w.nodes.devices v.nodes.devices same w.opened 0);
}

-- ---- by what the looks left

module _ (w v : WorldSeen) (first : v.first_faults ≡ w.first_faults) (now : Site) (driver : Added (List ℕ)) (out : Option Taken) where
  -- a device that is out, of which nothing is left; or none
  pub runs-back : IsLookedSo (opened_name driver) (site_of w) now out → site_of v ≡ site (back_if driver out now.store) now.nodes → RunsOn w v
  runs-back (inl called) is =
      let store : store_of v ≡ record (store_of w) { faults = now.store.faults; failed_call = now.store.failed_call } =
      ap (λ (x : Site). x.store) is ∙ ap (λ (o : Option Taken). back_if driver o now.store) called.none ∙ called.store in
      let faults : v.faults ≡ now.store.faults = ap (λ (x : StoreInRun). x.faults) store in
      let least = called.faults in
      runs-still w v (ap (λ (x : StoreInRun). is_some x.files) store) (ap (λ (x : StoreInRun). x.room) store) first (ap (λ (x : StoreInRun). x.earlier) store)
      (omega (arith, faults, least)) (ap (λ (x : StoreInRun). x.opened) store)
      (subst (AreSameDevices w.nodes.devices) (sym (ap (λ (x : Site). x.nodes.devices) is)) (same-risen w.nodes.devices now.nodes.devices called.called.risen))
  runs-back (inr opened) is =
      let store : store_of v ≡ record (store_of w) { opened = w.opened ++ closed-opening (store_of w) now.store (opened_name driver) opened.first opened.device opened.taken opened.read.same opened.inside ∷ [] } =
      ap (λ (x : Site). x.store) is ∙ ap (λ (o : Option Taken). back_if driver o now.store) opened.is
      ∙ back-is (store_of w) now.store (opened_name driver) opened.first opened.device opened.taken opened.read.same opened.inside in
      let faults : v.faults ≡ w.faults = ap (λ (x : StoreInRun). x.faults) store in
      let devices : v.nodes.devices ≡ w.nodes.devices = ap (λ (x : Site). x.nodes.devices) is ∙ ap (λ (n : Nodes). n.devices) opened.nodes in
      runs-opened w v (ap (λ (x : StoreInRun). is_some x.files) store) (ap (λ (x : StoreInRun). x.room) store) first (ap (λ (x : StoreInRun). x.earlier) store)
      (omega (arith, faults)) _ (ap (λ (x : StoreInRun). x.opened) store)
      (subst (λ (ds : List DeviceSeen). HaveNotFallen (counts_from w.nodes.devices 0 w.opened) (counts_from ds 0 w.opened)) (sym devices)
      (not-fallen-itself (counts_from w.nodes.devices 0 w.opened)))

  -- its node is there
  pub runs-added : (t : RunTable) (c : Adding) (image : Option Known) → IsLookedSo (opened_name driver) (site_of w) now out → store_of v ≡ now.store
      → HasAdded t c out image now.nodes v.nodes → RunsOn w v
  runs-added t c image (inl called) same has =
      let store : store_of v ≡ record (store_of w) { faults = now.store.faults; failed_call = now.store.failed_call } = same ∙ called.store in
      let faults : v.faults ≡ now.store.faults = ap (λ (x : StoreInRun). x.faults) store in
      let least = called.faults in
      let devices : v.nodes.devices ≡ now.nodes.devices =
      no-device-more t c image now.nodes v.nodes (subst (λ (o : Option Taken). HasAdded t c o image now.nodes v.nodes) called.none has) in
      runs-still w v (ap (λ (x : StoreInRun). is_some x.files) store) (ap (λ (x : StoreInRun). x.room) store) first (ap (λ (x : StoreInRun). x.earlier) store)
      (omega (arith, faults, least)) (ap (λ (x : StoreInRun). x.opened) store)
      (subst (AreSameDevices w.nodes.devices) (sym devices) (same-risen w.nodes.devices now.nodes.devices called.called.risen))
  runs-added t c image (inr opened) same has =
      let store : store_of v ≡ record (store_of w) { opened = w.opened ++ opening_of (opened_name driver) opened.first ∷ [] } = same ∙ opened.taken.kept in
      let faults : v.faults ≡ w.faults = ap (λ (x : StoreInRun). x.faults) store in
      let made = has-device t c image now.nodes v.nodes opened.device (subst (λ (o : Option Taken). HasAdded t c o image now.nodes v.nodes) opened.is has) in
      let devices : v.nodes.devices ≡ w.nodes.devices ++ of_node made.id opened.device ∷ [] =
      made.devices ∙ ap (λ (n : Nodes). n.devices ++ of_node made.id opened.device ∷ []) opened.nodes in
      let number : opened.device.number.0 ≡ length w.opened =
      ap (λ (d : Taken). d.number.0) opened.read.same ∙ ap (λ (n : DevNo). n.0) opened.taken.number in
      let counts : counts_from v.nodes.devices 0 w.opened ≡ counts_from w.nodes.devices 0 w.opened =
      ap (λ (ds : List DeviceSeen). counts_from ds 0 w.opened) devices
      ∙ counts-more w.nodes.devices (of_node made.id opened.device) 0 w.opened (omega (arith, number)) in
      runs-opened w v (ap (λ (x : StoreInRun). is_some x.files) store) (ap (λ (x : StoreInRun). x.room) store) first (ap (λ (x : StoreInRun). x.earlier) store)
      (omega (arith, faults)) (opening_of (opened_name driver) opened.first) (ap (λ (x : StoreInRun). x.opened) store)
      (subst (HaveNotFallen (counts_from w.nodes.devices 0 w.opened)) (sym counts) (not-fallen-itself (counts_from w.nodes.devices 0 w.opened)))
