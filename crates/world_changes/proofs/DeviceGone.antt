-- A guest's device that goes, where nothing refuses it: what its change makes of the table, and that its guest is idle.
use Rattle.std.proofs.Common.{◌≡◌, ℕ, ◌≤◌, false, List, [], ◌∷◌, refl, sym, ◌∙◌, ap, subst, Option, Some, None}
use Rattle.std.specs.Prelude.{is_none, option_and_then, option_map, slice_get}
use Rattle.std.proofs.lemmas.List.Elements.{All-head}
use Rattle.blk_base.specs.Pieces.{end_of}
use Rattle.blk_graph.specs.declared.edge.Parent.TheVariants.{Node, Guest as GuestOf}
use Rattle.blk_graph.specs.Edits.{without_parent}
use Rattle.blk_graph.proofs.ChildLemmas.{child-without}
use Rattle.blk_graph.proofs.RefreshLemmas.{child_of-refreshed}
use Rattle.blk_history.specs.Disk.{span_of}
use Rattle.blk_history.specs.Fold.{With}
use Rattle.blk_history.specs.Machine.{Flight}
use Rattle.qmp_asks.specs.CommandAsks.{asks_of}
use Rattle.qmp_asks.specs.NodeAsks.{device_del_asks}
use Rattle.qmp_codec.specs.declared.command.Command.TheVariants as command
use Rattle.qmp_rules.specs.Answers.{command_edits, refusal_to, told_none}
use Rattle.qmp_rules.specs.Asks.{holds}
use Rattle.qmp_rules.specs.Chains.{disk_node}
use Rattle.qmp_rules.specs.Changes.{changed}
use Rattle.qmp_rules.specs.Edits.{edits_of}
use Rattle.qmp_rules.specs.Queries.{bytes_of_node}
use Rattle.qmp_rules.specs.Table.{RunTable, device_named, kinds_of, node_by_id}
use Rattle.qmp_rules.specs.declared.change.Change.{Change}
use Rattle.qmp_rules.specs.declared.change.Change.TheVariants.{RemoveDevice}
use Rattle.qmp_rules.specs.declared.rows.DeviceRow.{DeviceRow}
use Rattle.qmp_rules.specs.declared.rows.NodeRecord.{NodeRecord}
use Rattle.flat_machine.specs.Agreement.{HasDisk}
use Rattle.flat_machine.specs.Marks.{AreCalm, IsCalm, device_disk, ids_of}
use Rattle.flat_machine.specs.State.{Guest, disk_of_guest, drive_of}
use Rattle.flat_machine.proofs.Asked.{NoneHolds, not-refused}
use Rattle.flat_machine.proofs.Kept.{own_disk}
use Rattle.blk_nodes.specs.Rewiring.{AreChildrenKept}
use Rattle.world_parts.specs.Guests.{GuestsStand}
use Rattle.world_parts.specs.Progress.{flight_at}
use Rattle.world_parts.proofs.Accepted.{asked}
use Rattle.world_parts.proofs.GuestsKept.{IsIdle}

-- it is there
pub record IsThatDevice (t : RunTable) (id : List ℕ) : Type 0 where
  pub device : DeviceRow
  pub named : device_named t id ≡ Some device

pub device_there : (t : RunTable) (id : List ℕ) → refusal_to t told_none (command.DeviceDel id) ≡ None → IsThatDevice t id
unfolding asks_of holds
device_there t id none =
    let asks : NoneHolds t told_none (device_del_asks id) = asked t told_none (command.DeviceDel id) none in
    by_found (device_named t id) refl (not-refused (is_none (device_named t id)) _ asks.1.0)
  where
    by_found : (found : Option DeviceRow) → device_named t id ≡ found → is_none found ≡ false → IsThatDevice t id
    by_found None at bad = absurd cc
    by_found (Some device) at is = record { device = device; named = at }

module _ (t : RunTable) (id : List ℕ) (device : DeviceRow) (named : device_named t id ≡ Some device) where
  abbrev pub table_then : RunTable
  table_then = changed t (RemoveDevice device.number)

  pub edits : command_edits t told_none (command.DeviceDel id) ≡ RemoveDevice device.number ∷ []
  unfolding edits_of
  edits = ap (λ (found : Option DeviceRow). elim found as (λ _. List Change) [ None ↦ [] | Some d ↦ RemoveDevice d.number ∷ [] ]) named

  -- each node keeps its children
  pub children_kept : AreChildrenKept t.edges table_then.edges
  unfolding changed
  children_kept n role =
      child_of-refreshed (kinds_of t.nodes) (Node n) role (without_parent (GuestOf device.number) t.edges)
      ∙ child-without (GuestOf device.number) (Node n) role t.edges (λ same. absurd (let bad : ⊥ = cc same in bad))

  -- its guest has no request in flight, where none is on its disk
  module _ (guests : List Guest) (was : GuestsStand t guests) (calm : AreCalm t guests (device_disk t id)) where
    flying_row : (g : ℕ) (f : Flight) → flight_at guests g ≡ Some f → (row : Guest) × (slice_get guests g ≡ Some row) × (row.flight ≡ Some f)
    flying_row g f flies = by_row (slice_get guests g) refl flies
      where
        by_row : (found : Option Guest) → slice_get guests g ≡ found → option_and_then (λ (row : Guest). row.flight) found ≡ Some f
            → (row : Guest) × (slice_get guests g ≡ Some row) × (row.flight ≡ Some f)
        by_row None e bad = absurd cc
        by_row (Some row) e is = (row, e, is)

    own_calm : (drive : ℕ) → drive_of t device.number ≡ Some drive → IsCalm t guests (disk_node t drive)
    own_calm drive on =
        let disk : device_disk t id ≡ disk_node t drive ∷ [] =
        ap (λ (found : Option DeviceRow). ids_of (option_and_then (λ (d : DeviceRow). disk_of_guest t d.number) found)) named
        ∙ ap (λ (found : Option ℕ). ids_of (option_map (disk_node t) found)) on in
        All-head (IsCalm t guests) (disk_node t drive) [] (subst (AreCalm t guests) disk calm)

    -- a disk reads as itself
    itself : (drive : ℕ) → drive_of t device.number ≡ Some drive → disk_node t (disk_node t drive) ≡ disk_node t drive
    itself drive on = by_row (node_by_id t (disk_node t drive)) refl (was.disks device.number drive on)
      where
        by_row : (found : Option NodeRecord) → node_by_id t (disk_node t drive) ≡ found → With found HasDisk
            → disk_node t (disk_node t drive) ≡ disk_node t drive
        by_row None e bad = absurd bad
        by_row (Some row) e has = own_disk t (disk_node t drive) row e has.own

    pub idle : IsIdle guests device.number
    idle f flies = by_drive (drive_of t device.number) refl (was.within device.number f flies)
      where
        by_drive : (found : Option ℕ) → drive_of t device.number ≡ found
            → With (option_map (disk_node t) found) (λ node. end_of (span_of f.op) ≤ bytes_of_node t node) → ⊥
        by_drive None on bad = bad
        by_drive (Some drive) on fits =
            let row = flying_row device.number f flies in
            let own : disk_of_guest t device.number ≡ Some (disk_node t (disk_node t drive)) =
            ap (option_map (disk_node t)) on ∙ ap (λ (n : ℕ). Some n) (sym (itself drive on)) in
            let none = own_calm drive on device.number row.0 row.1 own in
            let bad : None ≡ Some f = sym none ∙ row.2 in
            let no : ⊥ = cc bad in no
