-- A guest on a node can write its disk.
use Rattle.std.proofs.Common.{◌≡◌, ◌≢◌, ℕ, true, false, List, [], refl, sym, ap, subst, ◌∙◌, inl, inr, Option, Some, None}
use Rattle.std.specs.Prelude.{◌==◌, All, IsSome}
use Rattle.std.specs.List.{Contains}
use Rattle.std.proofs.lemmas.Bool.{eqb-true}
use Rattle.std.proofs.lemmas.List.Elements.{All-weaker}
use Rattle.blk_graph.specs.declared.edge.Parent.TheVariants.{Node}
use Rattle.blk_graph.specs.declared.edge.Role.TheVariants.{File}
use Rattle.blk_graph.proofs.Members.{find-Some}
use Rattle.qmp_rules.specs.declared.rows.NodeRecord.{NodeRecord}
use Rattle.qmp_rules.specs.declared.rows.DeviceRow.{DeviceRow}
use Rattle.qmp_rules.specs.Table.{RunTable, node_by_id, child, has_name}
use Rattle.qmp_rules.specs.Chains.{filter_role, disk_node}
use Rattle.blk_history.specs.Fold.{With}
use Rattle.flat_machine.specs.State.{State, Unknown, Left, content_in}
use Rattle.flat_machine.specs.Agreement.{HasDisk}
use Rattle.flat_machine.specs.Writing.{IsGuestWritable}
use Rattle.flat_machine.specs.Wiring.{StandsFor, LeadsToFile, IsDiskOf, writes_through}
use Rattle.flat_machine.specs.Standing.{IsUsedUp, MayGuestWrite, Stands}
use Rattle.flat_machine.proofs.Kept.{own_disk}
use Rattle.flat_machine.proofs.WritingKept.{role_edge, WritesFileUnder, writes_file}

-- Of a plain node that may be written a guest may write what it reads as, where nothing is known of a file that it stands for, and no
-- disk is left in that.
pub node_writable : (s : State) (d : NodeRecord) → Stands s → Contains s.table.nodes d → filter_role d.kind ≡ None → d.read_only ≡ false
    → ((name : List ℕ) → d.filename ≡ Some name → (content_in s.files name ≡ Some Unknown) × All (λ (l : Left). l.file ≢ name) s.left)
    → IsGuestWritable s d.id
node_writable s d h here own writable file = record {
  disk = h.writing.disks d here own;
  under = no_disk;
  known = λ name is. is_known name (writes_file s.table d.id name is);
  left = λ name is. not_left name (writes_file s.table d.id name is);
  named = λ name is. is_named name (writes_file s.table d.id name is);
}
  where
    same_row : (a : NodeRecord) → Contains s.table.nodes a → a.id ≡ d.id → d ≡ a
    same_row a there ids =
        let at_d = h.table.apart d here in
        let at_a = subst (λ n. node_by_id s.table n ≡ Some a) ids (h.table.apart a there) in
        cc

    -- the file under it
    has_file : (under : NodeRecord) → Contains s.table.nodes under → child s.table d.id File ≡ Some under.id → LeadsToFile s.table d under
    has_file under under_there is =
        let to = role_edge (Node d.id) File s.table.edges under.id is in
        record { over_there = here; under_there = under_there; edge = to.edge; there = to.there; parent = to.from; role = to.role_is; child = to.to }

    no_disk : (file : ℕ) (r : NodeRecord) → child s.table d.id File ≡ Some file → node_by_id s.table file ≡ Some r → HasDisk r → ⊥
    no_disk file r is found has =
        let r_here = find-Some (λ x. x.id == file) s.table.nodes r found in
        let f = has_file r r_here.0 (is ∙ ap Some (sym (eqb-true r.id file r_here.1))) in
        by_name r f r.filename refl has
      where
        by_name : (r : NodeRecord) → LeadsToFile s.table d r → (name : Option (List ℕ)) → r.filename ≡ name → HasDisk r → ⊥
        by_name r f None k has = let filter = h.table.filtered d r f k in let none = subst IsSome own filter in cc
        by_name r f (Some name) k has =
            let gone = (h.table.taken d r f (subst IsSome (sym k) refl) own).gone in
            let kept = has.settled in
            cc

    of_own : (name : List ℕ) (row : NodeRecord) → StandsFor s.table name row → row.id ≡ d.id → d.filename ≡ Some name
    of_own name row of is = ap (λ r. r.filename) (same_row row of.there is) ∙ of.filename

    is_known : (name : List ℕ) → WritesFileUnder s.table d.id name → content_in s.files name ≡ Some Unknown
    is_known name w = elim w.from [
      | inl is ↦ (file name (of_own name w.row w.stands is)).0
      | inr is ↦ h.writing.unknown name d w.row (has_file w.row w.stands.there is.0) w.stands.filename
    ]

    not_left : (name : List ℕ) → WritesFileUnder s.table d.id name → All (λ (l : Left). l.file ≢ name) s.left
    not_left name w = elim w.from [
      | inl is ↦ (file name (of_own name w.row w.stands is)).1
      | inr is ↦
          let f = has_file w.row w.stands.there is.0 in
          All-weaker (IsUsedUp s) (λ l. l.file ≢ name)
          (λ l used same_file.
          used.is_open w.row (subst (λ n. StandsFor s.table n w.row) (sym same_file) w.stands)
          (record { edge = f.edge; there = f.there; over = f.role; child = f.child })) s.left h.writing.left
    ]

    is_named : (name : List ℕ) → WritesFileUnder s.table d.id name → has_name name s.named ≡ true
    is_named name w = elim w.from [
      | inl is ↦ h.writing.named name w.row w.stands (subst (λ r. r.read_only ≡ false) (same_row w.row w.stands.there is) writable)
      | inr is ↦
          let f = has_file w.row w.stands.there is.0 in
          let taken = h.table.taken d w.row f (subst IsSome (sym w.stands.filename) refl) own in
          h.writing.named name w.row w.stands (taken.writable writable)
    ]

-- in the file of a `file` node that has its disk none is left
pub settled_unleft : (s : State) → Stands s → (row : NodeRecord) (name : List ℕ) → StandsFor s.table name row → row.is_settled ≡ true
    → All (λ (l : Left). l.file ≢ name) s.left
settled_unleft s h row name of settled = All-weaker (IsUsedUp s) (λ l. l.file ≢ name)
    (λ l used same_file. let gone = used.gone row (subst (λ n. StandsFor s.table n row) (sym same_file) of) in cc) s.left h.writing.left

-- A guest on a node writes what may be written, where a `file` node that it reads as has its flat disk and was used.
pub drive_may : (s : State) (device : DeviceRow) (row : NodeRecord) → Stands s → Contains s.table.nodes row → device.read_only ≡ row.read_only
    → ((disk : NodeRecord) → node_by_id s.table (disk_node s.table row.id) ≡ Some disk → IsSome disk.filename → disk.is_settled ≡ true)
    → ((disk : NodeRecord) (name : List ℕ) → node_by_id s.table (disk_node s.table row.id) ≡ Some disk → disk.filename ≡ Some name
    → content_in s.files name ≡ Some Unknown)
    → MayGuestWrite s device row.id
drive_may s device row h there same settled known writes = by_disk (node_by_id s.table disk) refl (h.table.reads row.id row (h.table.apart row there))
  where
    disk : ℕ
    disk = disk_node s.table row.id

    did : writes_through s.table row.read_only row.id ≡ true
    did = subst (λ b. writes_through s.table b row.id ≡ true) same writes

    by_disk : (found : Option NodeRecord) → node_by_id s.table disk ≡ found → With found (IsDiskOf s.table row) → IsGuestWritable s disk
    by_disk None e of = absurd of
    by_disk (Some d) e of =
        let here = find-Some (λ r. r.id == disk) s.table.nodes d e in
        subst (IsGuestWritable s) (eqb-true d.id disk here.1)
        (node_writable s d h here.0 of.own (of.writable did) (λ name is. (
          known d name e is,
          settled_unleft s h d name (record { there = here.0; filename = is }) (settled d e (subst IsSome (sym is) refl)),
        )))

-- a node that is no filter has its own disk
pub one-disk : (t : RunTable) (row : NodeRecord) → node_by_id t row.id ≡ Some row → filter_role row.kind ≡ None
    → (disk : NodeRecord) → node_by_id t (disk_node t row.id) ≡ Some disk → disk ≡ row
one-disk t row found own disk at =
    let at_row : node_by_id t row.id ≡ Some disk = subst (λ n. node_by_id t n ≡ Some disk) (own_disk t row.id row found own) at in
    cc

-- so does one on a node that may be written, and is neither a filter nor a `file` node
pub own_writable : (s : State) (row : NodeRecord) → Stands s → Contains s.table.nodes row → filter_role row.kind ≡ None → row.filename ≡ None
    → row.read_only ≡ false → IsGuestWritable s row.id
own_writable s row h there own none writable =
    subst (IsGuestWritable s) (own_disk s.table row.id row (h.table.apart row there) own)
    (drive_may s (record { id = []; number = 0; share_rw = false; read_only = row.read_only }) row h there refl
    (λ disk at some. absurd (let bad = subst IsSome (unnamed disk at) some in cc)) (λ disk name at is. absurd (let bad = unnamed disk at in cc))
    (rw writable refl))
  where
    unnamed : (disk : NodeRecord) → node_by_id s.table (disk_node s.table row.id) ≡ Some disk → disk.filename ≡ None
    unnamed disk at = ap (λ r. r.filename) (one-disk s.table row (h.table.apart row there) own disk at) ∙ none
