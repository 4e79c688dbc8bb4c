-- Tables in which rows may have lost their flat disks, and the parts of a world that belong to them.
use Rattle.std.proofs.Common.{◌≡◌, ℕ, ◌≤◌, ◌==◌, false, List, length, Option, Some, None, refl, sym, ◌∙◌, ap, subst, inl, inr}
use Rattle.std.specs.Prelude.{IsSome, Contains, find, option_map, option_and_then, unwrap_or}
use Rattle.blk_base.specs.Pieces.{end_of}
use Rattle.blk_base.specs.declared.file.Opened.{Opened}
use Rattle.blk_graph.specs.Edits.{child_of}
use Rattle.blk_graph.specs.declared.edge.Edge.{Edge}
use Rattle.blk_graph.specs.declared.edge.Parent.TheVariants.{Node, Guest as GuestOf}
use Rattle.blk_graph.specs.declared.edge.Role.{Role}
use Rattle.blk_graph.specs.declared.edge.Role.TheVariants.{Drive}
use Rattle.blk_history.specs.Disk.{span_of}
use Rattle.blk_history.specs.Fold.{With}
use Rattle.qmp_rules.specs.Changes.{unsettled}
use Rattle.qmp_rules.specs.Chains.{filter_role, filtered, disk_node}
use Rattle.qmp_rules.specs.Table.{RunTable, node_by_id, device_by_number, child}
use Rattle.qmp_rules.specs.declared.rows.DeviceRow.{DeviceRow}
use Rattle.qmp_rules.specs.declared.rows.NodeRecord.{NodeRecord}
use Rattle.qmp_rules.specs.Queries.{bytes_of_node}
use Rattle.flat_machine.specs.Legal.{IsForbidden}
use Rattle.flat_machine.specs.State.{drive_of, disk_of_guest}
use Rattle.flat_machine.specs.Wiring.{TableAtRest}
use Rattle.flat_machine.proofs.Rows.{disk_node-same}
use Rattle.blk_nodes.specs.Nodes.{Nodes}
use Rattle.world_parts.specs.Coherent.{IsCoherent, AreOnDisks}
use Rattle.world_parts.specs.Progress.{Progress}
use Rattle.world_parts.proofs.CountLemmas.{out-same}
use Rattle.world_parts.proofs.EasedTables.{IsTableEased, eased_at, nodes_of_eased, out_eased}
use Rattle.world_parts.proofs.NodesAfter.{AreNodesAfter, alike_after}

-- ---- tables in which rows may have lost their flat disks

module _ (t now : RunTable) (e : IsTableEased t now) where
  -- what doesn't speak of flat disks is the same of a row
  pub row_same : {A : Type 0} (g : NodeRecord → A) → ((row : NodeRecord) → g (unsettled row) ≡ g row) → (row : NodeRecord) → g (e.f row) ≡ g row
  row_same g blind row = elim (e.only row) [ inl same ↦ ap g same | inr lost ↦ ap g lost ∙ blind row ]

  found_same : {A : Type 0} (g : NodeRecord → A) → ((row : NodeRecord) → g (unsettled row) ≡ g row) → (id : ℕ) → option_map g (node_by_id now id) ≡ option_map g (node_by_id t id)
  found_same g blind id = ap (option_map g) (eased_at t now e id) ∙ by_row (node_by_id t id)
    where
      by_row : (found : Option NodeRecord) → option_map g (option_map e.f found) ≡ option_map g found
      by_row None = refl
      by_row (Some row) = ap Some (row_same g blind row)

  device_same : (g : ℕ) → device_by_number now g ≡ device_by_number t g
  device_same g = ap (find (λ (device : DeviceRow). device.number == g)) e.devices

  drive_same : (g : ℕ) → drive_of now g ≡ drive_of t g
  drive_same g = ap (child_of (GuestOf g) Drive) e.edges

  filtered_same : (id : ℕ) → filtered now id ≡ filtered t id
  filtered_same id = ap (λ (found : Option NodeRecord). option_and_then (child now id) (option_and_then (λ (row : NodeRecord). filter_role row.kind) found)) (eased_at t now e id) ∙ by_row (node_by_id t id)
    where
      by_role : (role : Option Role) → option_and_then (child now id) role ≡ option_and_then (child t id) role
      by_role None = refl
      by_role (Some role) = ap (child_of (Node id) role) e.edges

      by_row : (found : Option NodeRecord) → option_and_then (child now id) (option_and_then (λ (row : NodeRecord). filter_role row.kind) (option_map e.f found))
          ≡ option_and_then (child t id) (option_and_then (λ (row : NodeRecord). filter_role row.kind) found)
      by_row None = refl
      by_row (Some row) = ap (option_and_then (child now id)) (row_same (λ r. filter_role r.kind) (λ r. refl) row) ∙ by_role (filter_role row.kind)

  pub disk_same : (id : ℕ) → disk_node now id ≡ disk_node t id
  disk_same id = disk_node-same t now (λ n. Unit {0}) (λ n here. filtered_same n) (λ n c here at. tt) id tt

  pub size_same : (id : ℕ) → bytes_of_node now id ≡ bytes_of_node t id
  size_same id = ap (λ (size : Option ℕ). unwrap_or size 0) (found_same (λ r. r.size) (λ r. refl) id)

  pub guest_disk_same : (g : ℕ) → disk_of_guest now g ≡ disk_of_guest t g
  guest_disk_same g = ap (option_map (disk_node now)) (drive_same g) ∙ by_drive (drive_of t g)
    where
      by_drive : (drive : Option ℕ) → option_map (disk_node now) drive ≡ option_map (disk_node t) drive
      by_drive None = refl
      by_drive (Some node) = ap Some (disk_same node)

  within_same : (disk : Option ℕ) (end : ℕ) → With disk (λ node. end ≤ bytes_of_node t node) → With disk (λ node. end ≤ bytes_of_node now node)
  within_same None end never = absurd never
  within_same (Some node) end fits = subst (λ size. end ≤ size) (sym (size_same node)) fits

  writable_same : (row : Option NodeRecord) → With row (λ r. r.read_only ≡ false) → With (option_map e.f row) (λ r. r.read_only ≡ false)
  writable_same None never = absurd never
  writable_same (Some row) is = row_same (λ r. r.read_only) (λ r. refl) row ∙ is

  module _ (nodes next : Nodes) (opened : List Opened) (p : Progress) (after : AreNodesAfter nodes next) (rests : TableAtRest now) (disks : AreOnDisks now) where
    pub coherent_moved : IsCoherent t nodes opened p → IsCoherent now next opened p
    coherent_moved was = record {
      table = rests;
      drives = λ g there. subst IsSome (sym (drive_same g)) (was.drives g (subst IsSome (device_same g) there));
      disks = disks;
      alike = alike_after now nodes next after (nodes_of_eased t now e nodes was.alike);
      asks = λ g device edge there writes on from.
          was.asks g device edge (sym (device_same g) ∙ there) writes (subst (λ (es : List Edge). Contains es edge) e.edges on) from;
      writable = λ g node device there writes on.
          subst (λ (row : Option NodeRecord). With row (λ r. r.read_only ≡ false)) (sym (eased_at t now e node))
          (writable_same (node_by_id t node) (was.writable g node device (sym (device_same g) ∙ there) writes (sym (drive_same g) ∙ on)));
      within = λ g f flies.
          subst (λ (disk : Option ℕ). With disk (λ node. end_of (span_of f.op) ≤ bytes_of_node now node)) (sym (guest_disk_same g))
          (within_same (disk_of_guest t g) (end_of (span_of f.op)) (was.within g f flies));
      allowed = λ g f flies.
          subst (λ (device : Option DeviceRow). With device (λ d. IsForbidden f.op d.read_only → ⊥)) (sym (device_same g)) (was.allowed g f flies);
      count = was.count ∙ ap length (sym e.guests);
      out = out-same now nodes next opened after.devices (out_eased t now e nodes opened was.out);
    }
