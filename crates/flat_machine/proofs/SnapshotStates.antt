-- States after the changes of a snapshot: guests that were on the node are on the overlay, which they can write.
use Rattle.std.proofs.Common.{◌≡◌, ℕ, List, [], ◌∷◌, ◌++◌, sym, ◌∙◌, ap, subst, Some, None}
use Rattle.blk_graph.specs.declared.edge.Role.TheVariants.{Backing}
use Rattle.qmp_codec.specs.declared.nodes.Snapshot.{Snapshot}
use Rattle.qmp_rules.specs.declared.change.Change.TheVariants as change
use Rattle.qmp_rules.specs.declared.rows.NodeRecord.{NodeRecord}
use Rattle.qmp_rules.specs.declared.told.Told.{Told}
use Rattle.qmp_rules.specs.Table.{child, kinds_of}
use Rattle.qmp_asks.specs.NodeAsks.{snapshot_values, snapshot_names, snapshot_rest}
use Rattle.qmp_rules.specs.Edits.{snapshot_edits}
use Rattle.qmp_rules.specs.Changes.{changed}
use Rattle.flat_machine.specs.State.{State, Disk, bytes_at_node}
use Rattle.flat_machine.specs.Changed.{with_bytes_of}
use Rattle.flat_machine.specs.Writing.{written_file}
use Rattle.flat_machine.specs.Standing.{Stands}
use Rattle.flat_machine.specs.Suiting.{AllSuit, MoveSuits}
use Rattle.flat_machine.proofs.Asked.{NoneHolds}
use Rattle.flat_machine.proofs.Redirected.{LiesOver, overlay_named}
use Rattle.flat_machine.proofs.MovedStates.{attached_holds, moved_writes}
use Rattle.flat_machine.proofs.Covered.{staying, attached}
use Rattle.flat_machine.proofs.Rows.{same_row}
use Rattle.flat_machine.proofs.Snapshots.{attach_suits, attached_edges, attached_table, covered_table, edits_are, move_suits, snapshot_nodes}

module _ (s : State) (node overlay : NodeRecord) (over : LiesOver s.table node overlay) (bare : child s.table overlay.id Backing ≡ None)
    (h : Stands s) where
  abbrev disks : List Disk
  disks = with_bytes_of overlay.id (bytes_at_node s node.id) s.disks

  abbrev attached_state : State
  attached_state = record s { table = attached_table s.table node overlay over bare h.table; disks = disks }

  abbrev covered_state : State
  covered_state = record s { table = covered_table s.table node overlay over bare h.table; disks = disks }

  -- the overlay is no `file` node
  unnamed : overlay.filename ≡ None
  unnamed = overlay_named s.table (attached_edges s.table node overlay over bare h.table) node overlay staying over
      (attached s.table node overlay (kinds_of s.table.nodes) bare) h.table

  attached_stand : Stands attached_state
  unfolding changed
  attached_stand = attached_holds s overlay.id node.id (attach_suits s.table node overlay over bare h.table) h

  to_overlay : MoveSuits attached_state node.id overlay.id overlay.id
  to_overlay = record {
    suits = move_suits s.table node overlay over bare h.table;
    used = λ name named. absurd (
        let at = (move_suits s.table node overlay over bare h.table).onto.there in
        let found = h.table.apart overlay over.overlay_there in
        let same : (move_suits s.table node overlay over bare h.table).onto.row ≡ overlay = cc in
        let none = ap (λ r. r.filename) same ∙ unnamed in
        cc);
    left = λ name row of same. absurd (
        let is : row ≡ overlay = same_row s.table h.table.apart overlay row over.overlay_there of.there same in
        let none = ap (λ r. r.filename) is ∙ unnamed in
        let some = of.filename in
        cc);
  }

  -- the move to the overlay leaves which file a node writes
  pub moved_files : (n : ℕ) (name : List ℕ) → written_file covered_state.table n ≡ Some name → written_file attached_state.table n ≡ Some name
  moved_files = moved_writes attached_state node.id overlay.id overlay.id to_overlay attached_stand

  pub covered_suits : AllSuit s (change.Attach overlay.id node.id ∷ change.Move node.id overlay.id overlay.id ∷ [])
  unfolding changed
  covered_suits = (attach_suits s.table node overlay over bare h.table, (to_overlay, tt))

pub snapshot_suits : (s : State) (told : Told) (c : Snapshot (List ℕ)) → Stands s
    → NoneHolds s.table told (snapshot_values c ++ snapshot_names c ++ snapshot_rest c) → AllSuit s (snapshot_edits s.table c)
snapshot_suits s told c h asks =
    let of = snapshot_nodes s.table told c h.table asks in
    subst (AllSuit s) (sym (edits_are s.table c of)) (covered_suits s of.node of.overlay of.over of.bare h)
