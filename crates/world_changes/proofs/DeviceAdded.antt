-- A guest's device that comes, where nothing refuses it: what its changes make of the table, and that its node has a flat disk.
use Rattle.std.proofs.Common.{◌≡◌, ℕ, Bool, true, false, cond, List, [], ◌∷◌, ◌++◌, refl, ◌∙◌, ap, Option, Some, None}
use Rattle.std.specs.Prelude.{if◌then◌else◌, option_map, unwrap_or}
use Rattle.blk_graph.specs.declared.edge.Edge.{Edge}
use Rattle.blk_graph.specs.declared.edge.Parent.TheVariants.{Node}
use Rattle.blk_graph.specs.Edits.{child_of, with_edge}
use Rattle.blk_graph.specs.Refreshed.{refreshed}
use Rattle.blk_graph.proofs.ChildLemmas.{child-kept}
use Rattle.blk_graph.proofs.RefreshLemmas.{child_of-refreshed}
use Rattle.blk_history.specs.Fold.{With}
use Rattle.qmp_codec.specs.declared.command.Command.TheVariants as command
use Rattle.qmp_codec.specs.declared.nodes.DeviceAdd.{DeviceAdd}
use Rattle.qmp_rules.specs.Answers.{command_edits, refusal_to, told_none}
use Rattle.qmp_rules.specs.Asks.{is_file}
use Rattle.qmp_rules.specs.Chains.{disk_node}
use Rattle.qmp_rules.specs.Changes.{changed, all_changed, device_edge}
use Rattle.qmp_asks.specs.CommandAsks.{asks_of}
use Rattle.qmp_rules.specs.Edits.{device_uses, edits_of, new_device, of_row, file_uses}
use Rattle.qmp_asks.specs.NodeAsks.{device_add_asks}
use Rattle.qmp_rules.specs.Table.{RunTable, device_by_number, kinds_of, node_by_id}
use Rattle.qmp_rules.specs.declared.change.Change.{Change}
use Rattle.qmp_rules.specs.declared.change.Change.TheVariants.{AddDevice}
use Rattle.qmp_rules.specs.declared.rows.DeviceRow.{DeviceRow}
use Rattle.qmp_rules.specs.declared.rows.NodeRecord.{NodeRecord}
use Rattle.flat_machine.specs.Agreement.{HasDisk}
use Rattle.flat_machine.specs.Wiring.{IsDiskOf, TableStands}
use Rattle.flat_machine.proofs.Asked.{NoneHolds}
use Rattle.flat_machine.proofs.Suited.{fresh_number}
use Rattle.flat_machine.proofs.TableSuited.{NamedDrive, device-suits, named-drive}
use Rattle.blk_nodes.specs.Rewiring.{AreChildrenKept}
use Rattle.world_parts.proofs.Accepted.{asked}
use Rattle.world_parts.proofs.GuestsKept.{IsDeviceOnDisk, IsWithDevice}
use Rattle.world_parts.proofs.Placed.{table_with_use, shape_by, changed_used}

-- ---- one device more

with_device : (t : RunTable) (file : Option (List ℕ)) (device : DeviceRow) (node : ℕ) → IsWithDevice t (changed (table_with_use t file) (AddDevice device node)) device node
unfolding changed
with_device t file device node =
    let shape = shape_by t file in
    record {
      rows = shape.nodes;
      edges =
          ap (λ (rows : List NodeRecord). refreshed (kinds_of rows) (with_edge (device_edge device node) (table_with_use t file).edges)) shape.nodes
          ∙ ap (λ (edges : List Edge). refreshed (kinds_of t.nodes) (with_edge (device_edge device node) edges)) shape.edges;
      devices = ap (λ (devices : List DeviceRow). devices ++ device ∷ []) shape.devices;
    }

module _ (t : RunTable) (h : TableStands t) (c : DeviceAdd (List ℕ)) (none : refusal_to t told_none (command.DeviceAdd c) ≡ None) where
  asks : NoneHolds t told_none (device_add_asks c)
  unfolding asks_of
  asks = asked t told_none (command.DeviceAdd c) none

  pub of : NamedDrive t told_none h c.drive
  of = named-drive t told_none h c.drive asks.1.1.1.1.0 asks.1.1.1.1.1.1.1.0

  abbrev pub row : NodeRecord
  row = of.row

  abbrev pub device : DeviceRow
  device = new_device t c of.row

  -- the file that is used, where the node is a `file` node
  abbrev pub file : Option (List ℕ)
  file = cond (is_file of.row) of.row.filename None

  uses_is : device_uses of.row ≡ file_uses file
  uses_is = by_test (is_file of.row) of.row.filename
    where
      by_test : (b : Bool) (name : Option (List ℕ)) → (if b then file_uses name else []) ≡ file_uses (cond b name None)
      by_test true name = refl
      by_test false name = refl

  pub edits : command_edits t told_none (command.DeviceAdd c) ≡ file_uses file ++ AddDevice device of.row.id ∷ []
  unfolding edits_of
  edits =
      ap (of_row (λ (r : NodeRecord). device_uses r ++ AddDevice (new_device t c r) r.id ∷ [])) of.found
      ∙ ap (λ (more : List Change). more ++ AddDevice device of.row.id ∷ []) uses_is

  abbrev pub table_then : RunTable
  table_then = changed (table_with_use t file) (AddDevice device of.row.id)

  pub table_is : all_changed t (command_edits t told_none (command.DeviceAdd c)) ≡ table_then
  table_is = ap (all_changed t) edits ∙ changed_used t file (AddDevice device of.row.id ∷ [])

  pub is_with : IsWithDevice t table_then device of.row.id
  is_with = with_device t file device of.row.id

  -- ---- its number and its disk

  pub fresh : device_by_number t device.number ≡ None
  fresh = fresh_number t told_none c.id h asks.1.1.1.1.1.0 asks.1.1.1.1.1.1.0

  pub at_row : node_by_id t of.row.id ≡ Some of.row
  at_row = h.apart of.row of.there

  on_disk : With (node_by_id t (disk_node t row.id)) HasDisk
  on_disk = by_row (node_by_id t (disk_node t row.id)) (h.reads row.id row at_row) of.settled
    where
      by_row : (found : Option NodeRecord) → With found (IsDiskOf t row) → unwrap_or (option_map (λ (r : NodeRecord). r.is_settled) found) false ≡ true → With found HasDisk
      by_row None reads settled = absurd reads
      by_row (Some d) reads settled = record { settled = settled; own = reads.own }

  pub is_on_disk : IsDeviceOnDisk t device row.id
  is_on_disk = record {
    suits = device-suits t told_none h c of;
    fresh = fresh;
    row = row;
    found = at_row;
    disk = on_disk;
    writable = λ writes. writes;
  }

  pub guests_kept : table_then.guests ≡ t.guests
  unfolding changed
  guests_kept = (shape_by t file).guests

  -- each node keeps its children
  pub children_kept : AreChildrenKept t.edges table_then.edges
  children_kept n role =
      ap (child_of (Node n) role) is_with.edges
      ∙ child_of-refreshed (kinds_of t.nodes) (Node n) role (with_edge (device_edge device row.id) t.edges)
      ∙ child-kept (Node n) role (device_edge device row.id) t.edges (λ same. absurd (let bad : ⊥ = cc same in bad))
