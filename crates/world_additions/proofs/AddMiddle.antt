-- One more node leaves together what belongs together, but for what the table keeps at rest.
use Rattle.std.proofs.Common.{◌≡◌, ◌≢◌, ◌⊎◌, ℕ, true, false, List, [], ◌∷◌, ◌++◌, length, inl, inr, refl, sym, ◌∙◌, ap, subst, Option, Some, None}
use Rattle.std.specs.Prelude.{Contains, option_map, slice_get}
use Rattle.std.proofs.lemmas.Bool.{false≢true}
use Rattle.blk_base.specs.Files.{is_out, is_out_as}
use Rattle.blk_base.specs.declared.file.Opened.{Opened}
use Rattle.blk_graph.specs.declared.edge.Edge.{Edge}
use Rattle.blk_graph.specs.declared.edge.Parent.TheVariants.{Guest}
use Rattle.blk_history.specs.Fold.{With}
use Rattle.blk_nodes.specs.Nodes.{DeviceSeen, Nodes}
use Rattle.qmp_rules.specs.Table.{RunTable, device_by_number, node_by_id}
use Rattle.qmp_rules.specs.declared.rows.DeviceRow.{DeviceRow}
use Rattle.qmp_rules.specs.declared.rows.NodeRecord.{NodeRecord}
use Rattle.flat_machine.specs.Legal.{IsForbidden}
use Rattle.flat_machine.specs.State.{drive_of, filename_of}
use Rattle.flat_machine.specs.Wiring.{TableAtRest}
use Rattle.flat_machine.proofs.Finds.{bytes_eq-same}
use Rattle.world_parts.specs.Adding.{Taken, of_node, opening_of}
use Rattle.world_parts.specs.Coherent.{AreAllowed, AreNodesOf, AreOnDisks, AreOnWritable, AreOut, AreWithin, AskToWrite, HaveDrives, IsCoherent, NamesAreOutOnce}
use Rattle.world_parts.specs.Progress.{Progress}
use Rattle.world_additions.proofs.AddGrown.{GrowsByNode, device-same, disks-grown, drive-other, drive-same, drives-grown, within-grown}
use Rattle.world_additions.proofs.AddOut.{all-out, each-out, get-cases, once-out, order-out}
use Rattle.world_parts.proofs.DeletedLists.{out_there}

pub record Middle (t : RunTable) (nodes : Nodes) (opened : List Opened) (p : Progress) : Type 0 where
  pub drives : HaveDrives t
  pub disks : AreOnDisks t
  pub alike : AreNodesOf t nodes
  pub asks : AskToWrite t
  pub writable : AreOnWritable t
  pub within : AreWithin t p.guests
  pub allowed : AreAllowed t p.guests
  pub count : length p.guests ≡ length t.guests
  pub out : AreOut t nodes opened

pub middle-of : (t : RunTable) (nodes : Nodes) (opened : List Opened) (p : Progress) → IsCoherent t nodes opened p → Middle t nodes opened p
middle-of t nodes opened p is = record {
  drives = is.drives;
  disks = is.disks;
  alike = is.alike;
  asks = is.asks;
  writable = is.writable;
  within = is.within;
  allowed = is.allowed;
  count = is.count;
  out = is.out;
}

pub coherent-of : (t : RunTable) (nodes : Nodes) (opened : List Opened) (p : Progress) → TableAtRest t → Middle t nodes opened p → IsCoherent t nodes opened p
coherent-of t nodes opened p rest is = record {
  table = rest;
  drives = is.drives;
  disks = is.disks;
  alike = is.alike;
  asks = is.asks;
  writable = is.writable;
  within = is.within;
  allowed = is.allowed;
  count = is.count;
  out = is.out;
}

-- ---- a table that has grown by one node

pub record HasMore (t t' : RunTable) (change : NodeRecord → NodeRecord) : Type 0 where
  pub access : (row : NodeRecord) → (change row).read_only ≡ row.read_only
  pub guests : t'.guests ≡ t.guests
  pub edges : (edge : Edge) (g : ℕ) → Contains t'.edges edge → edge.parent ≡ Guest g → Contains t.edges edge

module _ (t t' : RunTable) (new but : ℕ) (change : NodeRecord → NodeRecord) (grows : GrowsByNode t t' new but change) (more : HasMore t t' change)
    (nodes now : Nodes) (opened opened' : List Opened) (p : Progress) (was : Middle t nodes opened p) (alike : AreNodesOf t' now) (out : AreOut t' now opened') where
  still-writable : AreOnWritable t'
  still-writable g node device there writes on =
      let on_t : drive_of t g ≡ Some node = sym (drive-same t t' new but change grows g) ∙ on in
      let there_t : device_by_number t g ≡ Some device = sym (device-same t t' new but change grows g) ∙ there in
      let other : node ≢ new = drive-other t t' new but change grows g node on_t in
      rw (grows.rows node other) (by_row (node_by_id t node) (was.writable g node device there_t writes on_t))
    where
      by_row : (found : Option NodeRecord) → With found (λ row. row.read_only ≡ false) → With (option_map change found) (λ row. row.read_only ≡ false)
      by_row None is = absurd is
      by_row (Some row) is = more.access row ∙ is

  pub grown-middle : Middle t' now opened' p
  grown-middle = record {
    drives = drives-grown t t' new but change grows was.drives;
    disks = disks-grown t t' new but change grows was.disks;
    alike = alike;
    asks = λ g device edge there writes on from.
        was.asks g device edge (sym (device-same t t' new but change grows g) ∙ there) writes (more.edges edge g on from) from;
    writable = still-writable;
    within = within-grown t t' new but change grows p.guests was.within;
    allowed = λ g f flies.
        subst (λ (d : Option DeviceRow). With d (λ device. IsForbidden f.op device.read_only → ⊥)) (sym (device-same t t' new but change grows g)) (was.allowed g f flies);
    count = was.count ∙ ap length (sym more.guests);
    out = out;
  }

-- ---- openings

-- no name that isn't out is out twice then
pub names-more : (opened : List Opened) (new : Opened) → NamesAreOutOnce opened → is_out new.name opened ≡ false → NamesAreOutOnce (opened ++ new ∷ [])
names-more opened new names inside a b o p at_a at_b out_o out_p same = by_places (get-cases opened new o a at_a) (get-cases opened new p b at_b)
  where
    none : (k : ℕ) (x : Opened) → slice_get opened k ≡ Some x → x.returned ≡ None → x.name ≡ new.name → ⊥
    none k x at out named =
        let is : is_out_as new.name x ≡ true = rw (named, out, bytes_eq-same new.name) refl in
        false≢true (sym inside ∙ out_there new.name opened k x at is)

    by_places : (slice_get opened a ≡ Some o) ⊎ ((a ≡ length opened) × (o ≡ new)) → (slice_get opened b ≡ Some p) ⊎ ((b ≡ length opened) × (p ≡ new)) → a ≡ b
    by_places (inl here) (inl there) = names a b o p here there out_o out_p same
    by_places (inl here) (inr last) = absurd (none a o here out_o (same ∙ ap (λ (x : Opened). x.name) last.1))
    by_places (inr last) (inl there) = absurd (none b p there out_p (sym same ∙ ap (λ (x : Opened). x.name) last.1))
    by_places (inr one) (inr other) = one.0 ∙ sym other.0

-- devices that stay are out under the same names
pub out-over : (t t' : RunTable) (nodes now : Nodes) (opened : List Opened) → now.devices ≡ nodes.devices
    → ((held : DeviceSeen) → Contains nodes.devices held → filename_of t' held.node ≡ filename_of t held.node) → AreOut t nodes opened → AreOut t' now opened
out-over t t' nodes now opened same named was =
    subst (λ (devices : List DeviceSeen). AreOut t' (record now { devices = devices }) opened) (sym same)
    (record {
      each = λ held there.
          let is = was.each held there in
          record { opening = is.opening; there = is.there; out = is.out; named = named held there ∙ is.named; capacity = is.capacity; faults = is.faults };
      once = was.once;
      order = was.order;
      all = was.all;
      names = was.names;
    })

-- one more device is out
pub out-more : (t t' : RunTable) (nodes now : Nodes) (opened : List Opened) (id : ℕ) (filename : List ℕ) (device : Taken) (out : AreOut t nodes opened)
    → device.number ≡ record { 0 = length opened }
    → ((held : DeviceSeen) → Contains nodes.devices held → filename_of t' held.node ≡ filename_of t held.node) → filename_of t' id ≡ Some filename
    → is_out filename opened ≡ false → now.devices ≡ nodes.devices ++ of_node id device ∷ [] → AreOut t' now (opened ++ opening_of filename device ∷ [])
out-more t t' nodes now opened id filename device out number named own inside devices =
    subst (λ (l : List DeviceSeen). AreOut t' (record now { devices = l }) (opened ++ opening_of filename device ∷ [])) (sym devices)
    (record {
      each = each-out t t' nodes opened out id filename device number named own;
      once = once-out t t' nodes opened out id filename device number named own;
      order = order-out t t' nodes opened out id filename device number named own;
      all = all-out t t' nodes opened out id filename device number named own;
      names = names-more opened (opening_of filename device) out.names inside;
    })
