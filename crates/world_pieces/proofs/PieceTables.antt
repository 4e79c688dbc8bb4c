-- The table after a piece, and that guests' disks keep their bytes.
use Rattle.std.proofs.Common.{◌≡◌, ◌⊎◌, ℕ, ◌==◌, Bool, true, false, cond, List, Option, Some, None, refl, sym, ap, subst, inl, inr}
use Rattle.std.specs.Prelude.{option_map}
use Rattle.std.proofs.lemmas.Bool.{eqb-true}
use Rattle.blk_base.specs.declared.file.Opened.{Opened}
use Rattle.trace_codec.specs.declared.op.Op.{Op}
use Rattle.trace_codec.specs.declared.op.Op.TheVariants.{Read, Write, Zero, Flush, Discard}
use Rattle.blk_graph.proofs.Members.{find-Some}
use Rattle.blk_history.specs.Disk.{is_write}
use Rattle.blk_history.specs.Fold.{With}
use Rattle.qmp_rules.specs.Changes.{unsettled}
use Rattle.qmp_rules.specs.Chains.{disk_node, is_over, unsettled_over, written_under}
use Rattle.qmp_rules.specs.Table.{RunTable, node_by_id, device_by_number}
use Rattle.qmp_rules.specs.declared.rows.DeviceRow.{DeviceRow}
use Rattle.qmp_rules.specs.declared.rows.NodeRecord.{NodeRecord}
use Rattle.flat_machine.specs.Agreement.{HasDisk}
use Rattle.flat_machine.specs.State.{drive_of}
use Rattle.flat_machine.specs.Wiring.{TableAtRest}
use Rattle.flat_machine.proofs.TableRests.{written_rests}
use Rattle.blk_nodes.specs.Joined.{IsJoined}
use Rattle.blk_nodes.specs.Nodes.{Nodes}
use Rattle.world_parts.specs.Coherent.{IsCoherent, AreOnDisks}
use Rattle.world_parts.specs.Piecing.{table_after}
use Rattle.world_parts.specs.Progress.{Progress}
use Rattle.world_parts.proofs.EasedTables.{IsTableEased, eased_at, kept_rows}
use Rattle.world_pieces.proofs.PieceWriters.{HasNoCommit, none_over}
use Rattle.world_parts.proofs.TablesAfter.{disk_same}

-- ---- the table after a piece

over_by : (b : Bool) (row : NodeRecord) → (cond b (unsettled row) row ≡ row) ⊎ (cond b (unsettled row) row ≡ unsettled row)
over_by true row = inr refl
over_by false row = inl refl

pub eased_written : (t : RunTable) (node : ℕ) → IsTableEased t (written_under node t)
unfolding written_under
eased_written t node = record {
  f = unsettled_over t node;
  only = λ row. over_by (is_over t node row.id) row;
  rows = refl;
  edges = refl;
  devices = refl;
  guests = refl;
  jobs = refl;
}

pub eased_after : (op : Op) (node : ℕ) (t : RunTable) → IsTableEased t (table_after op node t)
eased_after (Read span) node t = kept_rows t t refl refl refl refl refl
eased_after (Write span payload) node t = eased_written t node
eased_after (Zero span) node t = eased_written t node
eased_after Flush node t = kept_rows t t refl refl refl refl refl
eased_after (Discard span) node t = kept_rows t t refl refl refl refl refl

pub rests_after : (op : Op) (node : ℕ) (t : RunTable) → TableAtRest t → TableAtRest (table_after op node t)
rests_after (Read span) node t rests = rests
rests_after (Write span payload) node t rests = written_rests t node rests
rests_after (Zero span) node t rests = written_rests t node rests
rests_after Flush node t rests = rests
rests_after (Discard span) node t rests = rests

-- ---- guests' disks keep their bytes

-- a row over which nothing is lost
module _ (t : RunTable) (node : ℕ) where
  kept_over : (row : NodeRecord) → is_over t node row.id ≡ false → unsettled_over t node row ≡ row
  kept_over row apart = ap (λ (b : Bool). cond b (unsettled row) row) apart

  kept_at : (id : ℕ) → is_over t node id ≡ false → (found : Option NodeRecord) → node_by_id t id ≡ found → With found HasDisk → With (option_map (unsettled_over t node) found) HasDisk
  kept_at id apart None at never = absurd never
  kept_at id apart (Some row) at has =
      let same : row.id ≡ id = eqb-true row.id id (find-Some (λ (r : NodeRecord). r.id == id) t.nodes row at).1 in
      subst HasDisk (sym (kept_over row (subst (λ (n : ℕ). is_over t node n ≡ false) (sym same) apart))) has

module _ (t : RunTable) (nodes : Nodes) (opened : List Opened) (p : Progress) (joined : IsJoined nodes) (was : IsCoherent t nodes opened p)
    (none : HasNoCommit nodes) (writer drive : ℕ) (on : drive_of t writer ≡ Some drive) where
  written_disks : (device : DeviceRow) → device_by_number t writer ≡ Some device → device.read_only ≡ false → AreOnDisks (written_under (disk_node t drive) t)
  unfolding written_under eased_written
  written_disks device there writes g other is =
      let node : ℕ = disk_node t drive in
      let e = eased_written t node in
      let apart = none_over t nodes joined was.alike was.table.stands none writer g drive other device was.asks there writes on is in
      let same = disk_same t (written_under node t) e other in
      subst (λ (id : ℕ). With (node_by_id (written_under node t) id) HasDisk) (sym same)
      (subst (λ (row : Option NodeRecord). With row HasDisk) (sym (eased_at t (written_under node t) e (disk_node t other)))
      (kept_at t node (disk_node t other) apart (node_by_id t (disk_node t other)) refl (was.disks g other is)))

  pub disks_after : (op : Op) → (is_write op ≡ true → (d : DeviceRow) × (device_by_number t writer ≡ Some d) × (d.read_only ≡ false)) → AreOnDisks (table_after op (disk_node t drive) t)
  disks_after (Read span) by = was.disks
  disks_after (Write span payload) by = let d = by refl in written_disks d.0 d.1 d.2
  disks_after (Zero span) by = let d = by refl in written_disks d.0 d.1 d.2
  disks_after Flush by = was.disks
  disks_after (Discard span) by = was.disks
