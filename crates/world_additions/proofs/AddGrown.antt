-- A table that has grown by one node, whose edges are the only new ones: guests' disks are where they were.
use Rattle.std.proofs.Common.{◌≡◌, ◌≢◌, ◌⊎◌, ℕ, zero, suc, ◌≤◌, List, inl, inr, refl, sym, ◌∙◌, ap, subst, Option, Some, None}
use Rattle.std.specs.Prelude.{IsSome, Contains, option_map, option_and_then, unwrap_or}
use Rattle.blk_base.specs.Pieces.{end_of}
use Rattle.blk_graph.specs.declared.edge.Edge.{Edge}
use Rattle.blk_graph.specs.declared.edge.Parent.{Parent}
use Rattle.blk_graph.specs.declared.edge.Parent.TheVariants.{Node, Guest}
use Rattle.blk_graph.specs.declared.edge.Role.{Role}
use Rattle.blk_graph.specs.declared.edge.Role.TheVariants.{Drive}
use Rattle.blk_graph.specs.Edits.{child_of}
use Rattle.blk_graph.proofs.ChildLemmas.{child-edge}
use Rattle.qmp_rules.specs.declared.rows.DeviceRow.{DeviceRow}
use Rattle.qmp_rules.specs.declared.rows.NodeRecord.{NodeRecord}
use Rattle.qmp_rules.specs.Table.{RunTable, child, device_by_number, node_by_id}
use Rattle.qmp_rules.specs.Chains.{disk_from, disk_node, filter_role, filtered}
use Rattle.qmp_rules.specs.Queries.{bytes_of_node}
use Rattle.blk_history.specs.Disk.{span_of}
use Rattle.blk_history.specs.Fold.{With}
use Rattle.flat_machine.specs.Agreement.{HasDisk}
use Rattle.flat_machine.specs.State.{Guest as GuestRow, disk_of_guest, drive_of, filename_of}
use Rattle.world_parts.specs.Coherent.{AreOnDisks, AreWithin, HaveDrives}

-- what stays of a row that was there
pub record StaysRow (old new : NodeRecord) : Type 0 where
  pub kind : new.kind ≡ old.kind
  pub size : new.size ≡ old.size
  pub filename : new.filename ≡ old.filename

-- nodes but the new one are as before, and but for one without parents each is as settled as before
pub record GrowsByNode (t t' : RunTable) (new but : ℕ) (change : NodeRecord → NodeRecord) : Type 0 where
  pub rows : (id : ℕ) → id ≢ new → node_by_id t' id ≡ option_map change (node_by_id t id)
  pub stays : (row : NodeRecord) → StaysRow row (change row)
  pub settled : (id : ℕ) (row : NodeRecord) → node_by_id t id ≡ Some row → id ≢ but → (change row).is_settled ≡ row.is_settled
  pub children : (parent : Parent) (role : Role) → parent ≢ Node new → child_of parent role t'.edges ≡ child_of parent role t.edges
  pub away : (edge : Edge) → Contains t.edges edge → edge.child ≢ new
  pub lone : (edge : Edge) → Contains t.edges edge → edge.child ≢ but
  pub devices : t'.devices ≡ t.devices

-- one step through filters
step-none : (t : RunTable) (more id : ℕ) → filtered t id ≡ None → disk_from (suc more) t id ≡ id
step-none t more id e = rw (e, disk_from) refl

step-some : (t : RunTable) (more id below : ℕ) → filtered t id ≡ Some below → disk_from (suc more) t id ≡ disk_from more t below
step-some t more id below e = rw (e, disk_from) refl

module _ (t t' : RunTable) (new but : ℕ) (change : NodeRecord → NodeRecord) (grows : GrowsByNode t t' new but change) where
  other-node : (id : ℕ) → id ≢ new → Node id ≢ Node new
  other-node id other = λ same. other (let is : id ≡ new = cc same in is)

  role_by : (found : Option NodeRecord) → option_and_then (λ (row : NodeRecord). filter_role row.kind) (option_map change found)
      ≡ option_and_then (λ (row : NodeRecord). filter_role row.kind) found
  role_by None = refl
  role_by (Some row) = ap filter_role (grows.stays row).kind

  filtered-same : (id : ℕ) → id ≢ new → filtered t' id ≡ filtered t id
  filtered-same id other =
      let roles : option_and_then (λ (row : NodeRecord). filter_role row.kind) (node_by_id t' id) ≡ option_and_then (λ (row : NodeRecord). filter_role row.kind) (node_by_id t id) =
      ap (option_and_then (λ (row : NodeRecord). filter_role row.kind)) (grows.rows id other) ∙ role_by (node_by_id t id) in
      ap (option_and_then (child t' id)) roles ∙ by_role (option_and_then (λ (row : NodeRecord). filter_role row.kind) (node_by_id t id))
    where
      by_role : (role : Option Role) → option_and_then (child t' id) role ≡ option_and_then (child t id) role
      by_role None = refl
      by_role (Some role) = grows.children (Node id) role (other-node id other)

  -- an edge leads to a filter's child
  below-led : (id below : ℕ) → filtered t id ≡ Some below → (edge : Edge) × Contains t.edges edge × (edge.child ≡ below)
  below-led id below is = by_role (option_and_then (λ (row : NodeRecord). filter_role row.kind) (node_by_id t id)) is
    where
      by_role : (role : Option Role) → option_and_then (child t id) role ≡ Some below → (edge : Edge) × Contains t.edges edge × (edge.child ≡ below)
      by_role None none = absurd (cc none)
      by_role (Some role) found = let led = child-edge (Node id) role t.edges below found in (led.edge, led.there, led.to)

  same-below : (more id : ℕ) (found : Option ℕ) → id ≢ new → filtered t id ≡ found
      → ((below : ℕ) → below ≢ new → disk_from more t' below ≡ disk_from more t below) → disk_from (suc more) t' id ≡ disk_from (suc more) t id
  same-below more id None other e rest = step-none t' more id (filtered-same id other ∙ e) ∙ sym (step-none t more id e)
  same-below more id (Some below) other e rest =
      let led = below-led id below e in
      let apart : below ≢ new = subst (λ (n : ℕ). n ≢ new) led.2 (grows.away led.0 led.1) in
      step-some t' more id below (filtered-same id other ∙ e) ∙ rest below apart ∙ sym (step-some t more id below e)

  disk_from-same : (more id : ℕ) → id ≢ new → disk_from more t' id ≡ disk_from more t id
  disk_from-same zero id other = refl
  disk_from-same (suc more) id other = same-below more id (filtered t id) other refl (λ below apart. disk_from-same more below apart)

  -- a node's disk is its own, or an edge leads to it
  abbrev IsLed : ℕ → ℕ → Type 0
  IsLed more id = (disk_from more t id ≡ id) ⊎ ((edge : Edge) × Contains t.edges edge × (edge.child ≡ disk_from more t id))

  led-rest : (more id below : ℕ) → filtered t id ≡ Some below → IsLed more below → IsLed (suc more) id
  led-rest more id below e (inl same) =
      let led = below-led id below e in
      inr (led.0, led.1, led.2 ∙ sym (step-some t more id below e ∙ same))
  led-rest more id below e (inr led) = inr (led.0, led.1, led.2 ∙ sym (step-some t more id below e))

  led-below : (more id : ℕ) (found : Option ℕ) → filtered t id ≡ found → ((below : ℕ) → IsLed more below) → IsLed (suc more) id
  led-below more id None e rest = inl (step-none t more id e)
  led-below more id (Some below) e rest = led-rest more id below e (rest below)

  disk_from-led : (more id : ℕ) → IsLed more id
  disk_from-led zero id = inl refl
  disk_from-led (suc more) id = led-below more id (filtered t id) refl (λ below. disk_from-led more below)

  pub disk-same : (id : ℕ) → id ≢ new → disk_node t' id ≡ disk_node t id
  unfolding disk_node
  disk-same id other = disk_from-same 64 id other

  disk-led : (id : ℕ) → (disk_node t id ≡ id) ⊎ ((edge : Edge) × Contains t.edges edge × (edge.child ≡ disk_node t id))
  unfolding disk_node
  disk-led id = disk_from-led 64 id

  -- ---- drives

  guest-other : (g : ℕ) → Guest g ≢ Node new
  guest-other g = λ same. absurd (cc same)

  pub drive-same : (g : ℕ) → drive_of t' g ≡ drive_of t g
  drive-same g = grows.children (Guest g) Drive (guest-other g)

  pub device-same : (g : ℕ) → device_by_number t' g ≡ device_by_number t g
  device-same g = ap (λ (devices : List DeviceRow). device_by_number (record t { devices = devices }) g) grows.devices

  pub drives-grown : HaveDrives t → HaveDrives t'
  drives-grown drives g there =
      subst IsSome (sym (drive-same g)) (drives g (subst IsSome (device-same g) there))

  -- the node of a drive, and its disk, are other nodes than these
  drive-led : (g node : ℕ) → drive_of t g ≡ Some node → (edge : Edge) × Contains t.edges edge × (edge.child ≡ node)
  drive-led g node on = let led = child-edge (Guest g) Drive t.edges node on in (led.edge, led.there, led.to)

  drive-disk-led : (g node : ℕ) → drive_of t g ≡ Some node → (edge : Edge) × Contains t.edges edge × (edge.child ≡ disk_node t node)
  drive-disk-led g node on = elim (disk-led node) [
    | inl own ↦ let led = drive-led g node on in (led.0, led.1, led.2 ∙ sym own)
    | inr led ↦ led
  ]

  pub drive-other : (g node : ℕ) → drive_of t g ≡ Some node → node ≢ new
  drive-other g node on = let led = drive-led g node on in subst (λ (n : ℕ). n ≢ new) led.2 (grows.away led.0 led.1)

  disk-other : (g node : ℕ) → drive_of t g ≡ Some node → disk_node t node ≢ new
  disk-other g node on = let led = drive-disk-led g node on in subst (λ (n : ℕ). n ≢ new) led.2 (grows.away led.0 led.1)

  disk-settled : (g node : ℕ) → drive_of t g ≡ Some node → disk_node t node ≢ but
  disk-settled g node on = let led = drive-disk-led g node on in subst (λ (n : ℕ). n ≢ but) led.2 (grows.lone led.0 led.1)

  pub disks-grown : AreOnDisks t → AreOnDisks t'
  disks-grown on_disks g node on' =
      let on : drive_of t g ≡ Some node = sym (drive-same g) ∙ on' in
      let at : disk_node t' node ≡ disk_node t node = disk-same node (drive-other g node on) in
      rw (at, grows.rows (disk_node t node) (disk-other g node on)) (by_row (disk_node t node) (disk-settled g node on) (node_by_id t (disk_node t node)) refl (on_disks g node on))
    where
      by_row : (id : ℕ) → id ≢ but → (found : Option NodeRecord) → node_by_id t id ≡ found → With found HasDisk → With (option_map change found) HasDisk
      by_row id other None e disk = absurd disk
      by_row id other (Some row) e disk = record {
        settled = grows.settled id row e other ∙ disk.settled;
        own = ap filter_role (grows.stays row).kind ∙ disk.own;
      }

  size-same : (id : ℕ) → id ≢ new → bytes_of_node t' id ≡ bytes_of_node t id
  size-same id other = ap (λ (found : Option NodeRecord). unwrap_or (option_map (λ (row : NodeRecord). row.size) found) 0) (grows.rows id other) ∙ by_row (node_by_id t id)
    where
      by_row : (found : Option NodeRecord) → unwrap_or (option_map (λ (row : NodeRecord). row.size) (option_map change found)) 0 ≡ unwrap_or (option_map (λ (row : NodeRecord). row.size) found) 0
      by_row None = refl
      by_row (Some row) = (grows.stays row).size

  pub filename-same : (id : ℕ) → id ≢ new → filename_of t' id ≡ filename_of t id
  filename-same id other = ap (option_and_then (λ (row : NodeRecord). row.filename)) (grows.rows id other) ∙ by_row (node_by_id t id)
    where
      by_row : (found : Option NodeRecord) → option_and_then (λ (row : NodeRecord). row.filename) (option_map change found) ≡ option_and_then (λ (row : NodeRecord). row.filename) found
      by_row None = refl
      by_row (Some row) = (grows.stays row).filename

  pub within-grown : (guests : List GuestRow) → AreWithin t guests → AreWithin t' guests
  within-grown guests within g f flies = by_drive (drive_of t g) refl (within g f flies)
    where
      by_drive : (found : Option ℕ) → drive_of t g ≡ found → With (option_map (disk_node t) found) (λ node. end_of (span_of f.op) ≤ bytes_of_node t node)
          → With (disk_of_guest t' g) (λ node. end_of (span_of f.op) ≤ bytes_of_node t' node)
      by_drive None e is = absurd is
      by_drive (Some node) e is =
          let on : drive_of t' g ≡ Some node = drive-same g ∙ e in
          let at : disk_node t' node ≡ disk_node t node = disk-same node (drive-other g node e) in
          rw (on, at, size-same (disk_node t node) (disk-other g node e)) is
