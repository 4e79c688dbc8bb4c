-- Guests' disks stay what they were where a change leaves all nodes that an edge leads to.
use Rattle.std.proofs.Common.{◌≡◌, ◌≤◌, ℕ, zero, suc, false, List, Option, Some, None, refl, sym, ◌∙◌, ap, subst}
use Rattle.std.specs.Prelude.{IsSome, Contains, option_map, option_and_then, unwrap_or}
use Rattle.blk_base.specs.Pieces.{end_of}
use Rattle.blk_graph.specs.declared.edge.Edge.{Edge}
use Rattle.blk_graph.specs.declared.edge.Parent.TheVariants.{Node, Guest as GuestOf}
use Rattle.blk_graph.specs.declared.edge.Role.{Role}
use Rattle.blk_graph.specs.declared.edge.Role.TheVariants.{Drive}
use Rattle.blk_graph.proofs.ChildLemmas.{child-edge}
use Rattle.blk_history.specs.Disk.{span_of}
use Rattle.blk_history.specs.Fold.{With}
use Rattle.qmp_rules.specs.Chains.{filter_role, filtered, disk_from, disk_node}
use Rattle.qmp_rules.specs.Table.{RunTable, node_by_id, device_by_number, child}
use Rattle.qmp_rules.specs.declared.rows.NodeRecord.{NodeRecord}
use Rattle.qmp_rules.specs.Queries.{bytes_of_node}
use Rattle.flat_machine.specs.Agreement.{HasDisk}
use Rattle.flat_machine.specs.State.{Guest, drive_of}
use Rattle.world_parts.specs.Coherent.{HaveDrives, AreOnDisks, AreOnWritable, AreWithin}

-- an edge leads to the node
pub record IsLedTo (t : RunTable) (node : ℕ) : Type 0 where
  pub edge : Edge
  pub there : Contains t.edges edge
  pub leads : edge.child ≡ node

pub drive-entered : (t : RunTable) (g node : ℕ) → drive_of t g ≡ Some node → IsLedTo t node
drive-entered t g node is = let e = child-edge (GuestOf g) Drive t.edges node is in record { edge = e.edge; there = e.there; leads = e.to }

filtered-entered : (t : RunTable) (node below : ℕ) → filtered t node ≡ Some below → IsLedTo t below
filtered-entered t node below is = by_role (option_and_then (λ (row : NodeRecord). filter_role row.kind) (node_by_id t node)) is
  where
    by_role : (role : Option Role) → option_and_then (child t node) role ≡ Some below → IsLedTo t below
    by_role None bad = absurd (let e : ⊥ = cc bad in e)
    by_role (Some role) at = let e = child-edge (Node node) role t.edges below at in record { edge = e.edge; there = e.there; leads = e.to }

-- such nodes, their children and all drives are in another table as they are
pub record KeepsEntered (t now : RunTable) : Type 0 where
  pub devices : (g : ℕ) → device_by_number now g ≡ device_by_number t g
  pub drives : (g : ℕ) → drive_of now g ≡ drive_of t g
  pub rows : (node : ℕ) → IsLedTo t node → node_by_id now node ≡ node_by_id t node
  pub children : (node : ℕ) (role : Role) → IsLedTo t node → child now node role ≡ child t node role

module _ (t now : RunTable) (keeps : KeepsEntered t now) where
  filtered-same : (node : ℕ) → IsLedTo t node → filtered now node ≡ filtered t node
  filtered-same node here =
      ap (λ (row : Option NodeRecord). option_and_then (child now node) (option_and_then (λ (r : NodeRecord). filter_role r.kind) row)) (keeps.rows node here)
      ∙ by_role (option_and_then (λ (r : NodeRecord). filter_role r.kind) (node_by_id t node))
    where
      by_role : (role : Option Role) → option_and_then (child now node) role ≡ option_and_then (child t node) role
      by_role None = refl
      by_role (Some role) = keeps.children node role here

  at_child : (more : ℕ) (table : RunTable) (node : ℕ) (below : Option ℕ) → filtered table node ≡ below
      → disk_from (suc more) table node ≡ elim below as (λ _. ℕ) [ None ↦ node | Some under ↦ disk_from more table under ]
  at_child more table node below is = ap (λ (b : Option ℕ). elim b as (λ _. ℕ) [ None ↦ node | Some under ↦ disk_from more table under ]) is

  from-same : (more node : ℕ) → IsLedTo t node → disk_from more now node ≡ disk_from more t node
  from-same zero node here = refl
  from-same (suc more) node here = by_child (filtered t node) refl (from-same more)
    where
      by_child : (below : Option ℕ) → filtered t node ≡ below → ((n : ℕ) → IsLedTo t n → disk_from more now n ≡ disk_from more t n)
          → disk_from (suc more) now node ≡ disk_from (suc more) t node
      by_child None is rest = at_child more now node None (filtered-same node here ∙ is) ∙ sym (at_child more t node None is)
      by_child (Some under) is rest =
          at_child more now node (Some under) (filtered-same node here ∙ is) ∙ rest under (filtered-entered t node under is)
          ∙ sym (at_child more t node (Some under) is)

  from-entered : (more node : ℕ) → IsLedTo t node → IsLedTo t (disk_from more t node)
  from-entered zero node here = here
  from-entered (suc more) node here = by_child (filtered t node) refl (from-entered more)
    where
      by_child : (below : Option ℕ) → filtered t node ≡ below → ((n : ℕ) → IsLedTo t n → IsLedTo t (disk_from more t n))
          → IsLedTo t (disk_from (suc more) t node)
      by_child None is rest = subst (IsLedTo t) (sym (at_child more t node None is)) here
      by_child (Some under) is rest =
          subst (IsLedTo t) (sym (at_child more t node (Some under) is)) (rest under (filtered-entered t node under is))

  pub disk-same : (node : ℕ) → IsLedTo t node → disk_node now node ≡ disk_node t node
  unfolding disk_node
  disk-same node here = from-same 64 node here

  pub disk-entered : (node : ℕ) → IsLedTo t node → IsLedTo t (disk_node t node)
  unfolding disk_node
  disk-entered node here = from-entered 64 node here

  pub drives_kept : HaveDrives t → HaveDrives now
  drives_kept have g some = subst IsSome (sym (keeps.drives g)) (have g (subst IsSome (keeps.devices g) some))

  pub disks_kept : AreOnDisks t → AreOnDisks now
  disks_kept are g node is =
      let old : drive_of t g ≡ Some node = sym (keeps.drives g) ∙ is in
      let here = drive-entered t g node old in
      subst (λ (row : Option NodeRecord). With row HasDisk)
      (sym (ap (node_by_id now) (disk-same node here) ∙ keeps.rows (disk_node t node) (disk-entered node here))) (are g node old)

  pub writable_kept : AreOnWritable t → AreOnWritable now
  writable_kept are g node device there writes is =
      let old : drive_of t g ≡ Some node = sym (keeps.drives g) ∙ is in
      subst (λ (row : Option NodeRecord). With row (λ r. r.read_only ≡ false)) (sym (keeps.rows node (drive-entered t g node old)))
      (are g node device (sym (keeps.devices g) ∙ there) writes old)

  pub within_kept : (guests : List Guest) → AreWithin t guests → AreWithin now guests
  within_kept guests are g f flies = by_drive (drive_of t g) refl (are g f flies)
    where
      by_drive : (drive : Option ℕ) → drive_of t g ≡ drive → With (option_map (disk_node t) drive) (λ node. end_of (span_of f.op) ≤ bytes_of_node t node)
          → With (option_map (disk_node now) (drive_of now g)) (λ node. end_of (span_of f.op) ≤ bytes_of_node now node)
      by_drive None is bad = absurd bad
      by_drive (Some node) is fit =
          let here = drive-entered t g node is in
          let disk : ℕ = disk_node t node in
          subst (λ (drive : Option ℕ). With (option_map (disk_node now) drive) (λ n. end_of (span_of f.op) ≤ bytes_of_node now n)) (sym (keeps.drives g ∙ is))
          (subst (λ (n : ℕ). end_of (span_of f.op) ≤ bytes_of_node now n) (sym (disk-same node here))
          (subst (λ (n : ℕ). end_of (span_of f.op) ≤ n)
          (sym (ap (λ (row : Option NodeRecord). unwrap_or (option_map (λ (r : NodeRecord). r.size) row) 0) (keeps.rows disk (disk-entered node here)))) fit))
