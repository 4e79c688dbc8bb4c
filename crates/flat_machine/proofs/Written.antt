-- A piece of a guest's request keeps what nodes read as and what files hold as the flat machine says.
use Rattle.std.proofs.Common.{◌≡◌, ◌≢◌, ◌⊎◌, ℕ, Bool, true, false, cond, List, [], ◌∷◌, map, refl, sym, ap, subst, ◌∙◌, inl, inr, Option, Some, None, option_map}
use Rattle.std.specs.Prelude.{◌==◌, All, IsSome, slice_index_or}
use Rattle.std.specs.List.{find, list_any}
use Rattle.std.proofs.lemmas.Bool.{eqb-true, ne_eqb, cases_eq}
use Rattle.std.proofs.Math.Seq.{take-nil}
use Rattle.blk_base.specs.Pieces.{Extent}
use Rattle.blk_base.specs.declared.fault.Outcome.{Outcome}
use Rattle.blk_graph.proofs.Members.{find-Some}
use Rattle.trace_codec.specs.declared.op.Op.{Op}
use Rattle.trace_codec.specs.declared.op.Op.TheVariants.{Read, Write, Zero, Flush, Discard}
use Rattle.qmp_rules.specs.declared.rows.NodeRecord.{NodeRecord}
use Rattle.qmp_rules.specs.Table.{RunTable, node_by_id, has_name}
use Rattle.qmp_rules.specs.Chains.{disk_node, is_over, unsettled_over, written_under}
use Rattle.blk_history.specs.Fold.{With}
use Rattle.blk_history.specs.Disk.{done_in, payload_in}
use Rattle.blk_history.specs.Machine.{done_by}
use Rattle.flat_machine.specs.State.{State, Content, Unknown, Left, Disk, bytes_in, content_in}
use Rattle.flat_machine.specs.Machine.{disk_changed, with_disk, node_written, with_part, note, noted as noted_dirty, is_noted, read_through, copies_at, path}
use Rattle.flat_machine.specs.Jobs.{unsure}
use Rattle.flat_machine.specs.Final.{IsDiskIn}
use Rattle.flat_machine.specs.Agreement.{Contents, HasDisk, ReadAsDisks, IsAsKnown, IsLeftAs, Agrees}
use Rattle.flat_machine.specs.Performing.{HeldSame, IsQuiet}
use Rattle.flat_machine.specs.Writing.{IsGuestWritable, ReadsWritten, WritesDisks, Copies, PieceDone, CanWrite, written_file}
use Rattle.flat_machine.proofs.Finds.{find-map, cases_name}
use Rattle.flat_machine.proofs.Agreeing.{HadDisk, rows_same, rows_mapped}
use Rattle.flat_machine.proofs.Kept.{own_disk, quiet_keeps}

-- ---- disks

pub bytes_in-changed : (node : ℕ) (f : List ℕ → List ℕ) (disks : List Disk) → IsSome (find (λ d. d.node == node) disks)
    → bytes_in (map (disk_changed node f) disks) node ≡ f (bytes_in disks node)
bytes_in-changed node f [] h = absurd cc
bytes_in-changed node f (d ∷ disks) h = by_test (d.node == node) refl h (bytes_in-changed node f disks)
  where
    by_test : (b : Bool) → (d.node == node) ≡ b → IsSome (cond b (Some d) (find (λ x. x.node == node) disks))
        → (IsSome (find (λ x. x.node == node) disks) → bytes_in (map (disk_changed node f) disks) node ≡ f (bytes_in disks node))
        → bytes_in (cond b (record d { bytes = f d.bytes }) d ∷ map (disk_changed node f) disks) node ≡ f (cond b d.bytes (bytes_in disks node))
    by_test true e some ih = rw e refl
    by_test false e some ih = rw e (ih some)

pub bytes_in-unchanged : (node n : ℕ) (f : List ℕ → List ℕ) (disks : List Disk) → n ≢ node
    → bytes_in (map (disk_changed node f) disks) n ≡ bytes_in disks n
bytes_in-unchanged node n f [] differ = refl
bytes_in-unchanged node n f (d ∷ disks) differ = by_test (d.node == node) refl (bytes_in-unchanged node n f disks differ)
  where
    by_test : (b : Bool) → (d.node == node) ≡ b → bytes_in (map (disk_changed node f) disks) n ≡ bytes_in disks n
        → bytes_in (cond b (record d { bytes = f d.bytes }) d ∷ map (disk_changed node f) disks) n ≡ cond (d.node == n) d.bytes (bytes_in disks n)
    by_test true e ih =
        let other : (d.node == n) ≡ false = ne_eqb d.node n (λ k. differ (sym k ∙ eqb-true d.node node e)) in
        rw other ih
    by_test false e ih = ap (λ rest. cond (d.node == n) d.bytes rest) ih

-- ---- rows

like_over : (t : RunTable) (node : ℕ) (row : NodeRecord) → (unsettled_over t node row).id ≡ row.id
like_over t node row = by_test (is_over t node row.id)
  where
    by_test : (b : Bool) → (cond b (record row { is_settled = false }) row).id ≡ row.id
    by_test true = refl
    by_test false = refl

-- one that keeps its disk doesn't read the node as a backing node
disk_over : (t : RunTable) (node : ℕ) (row : NodeRecord) → HasDisk (unsettled_over t node row) → (is_over t node row.id ≡ false) × HasDisk row
disk_over t node row = by_test (is_over t node row.id) refl
  where
    by_test : (b : Bool) → is_over t node row.id ≡ b → HasDisk (cond b (record row { is_settled = false }) row)
        → (is_over t node row.id ≡ false) × HasDisk row
    by_test true e h = absurd (let settled = h.settled in cc)
    by_test false e h = (e, h)

not_over : (t : RunTable) (node n : ℕ) (row : NodeRecord) → find (λ r. r.id == n) (map (unsettled_over t node) t.nodes) ≡ Some row → HasDisk row
    → is_over t node n ≡ false
not_over t node n row found disk =
    let of_old = sym (find-map (λ r. r.id == n) (unsettled_over t node) (λ r. ap (λ k. k == n) (like_over t node r)) t.nodes) ∙ found in
    by_row (find (λ r. r.id == n) t.nodes) refl of_old
  where
    by_row : (was : Option NodeRecord) → find (λ r. r.id == n) t.nodes ≡ was → option_map (unsettled_over t node) was ≡ Some row
        → is_over t node n ≡ false
    by_row None e k = absurd cc
    by_row (Some r) e k =
        let same : unsettled_over t node r ≡ row = cc in
        let id_is : r.id ≡ n = eqb-true r.id n (find-Some (λ x. x.id == n) t.nodes r e).1 in
        subst (λ m. is_over t node m ≡ false) id_is (disk_over t node r (subst HasDisk (sym same) disk)).0

-- ---- a write

module _ (opening : List ℕ → Option (List ℕ)) (s now : State) (node : ℕ) (old new : Contents) where
  -- its file alone changes, of which nothing is known
  file_written : ReadAsDisks now new → now.files ≡ s.files → now.left ≡ s.left → now.named ≡ s.named
      → IsGuestWritable s node → HeldSame (λ name. written_file s.table node ≡ Some name) old new → Agrees opening s old → Agrees opening now new
  file_written disks files left named can did h = record {
    disks = disks;
    known = λ name content found.
        by_file name content (subst (λ fs. content_in fs name ≡ Some content) files found);
    absent = λ name none.
        let was : content_in s.files name ≡ None = subst (λ fs. content_in fs name ≡ None) files none in
        did name (λ is. let known = can.known name is in cc) ∙ h.absent name was;
    left = subst (λ ls. All (IsLeftAs new) ls) (sym left) (λ k d within. kept_left k d within);
    unchanged = λ name not_named.
        let was : has_name name s.named ≡ false = subst (λ names. has_name name names ≡ false) named not_named in
        did name (λ is. let was_named = can.named name is in cc) ∙ h.unchanged name was;
  }
    where
      file_is : (name : List ℕ) → (written_file s.table node ≡ Some name) ⊎ (written_file s.table node ≡ Some name → ⊥)
      file_is name = by_file (written_file s.table node) refl
        where
          by_file : (file : Option (List ℕ)) → written_file s.table node ≡ file
              → (written_file s.table node ≡ Some name) ⊎ (written_file s.table node ≡ Some name → ⊥)
          by_file None e = inr (λ is. cc)
          by_file (Some other) e = elim (cases_name other name) [
            | inl same ↦ inl (e ∙ ap Some same)
            | inr differ ↦ inr (λ is. differ cc)
          ]

      by_file : (name : List ℕ) (content : Content) → content_in s.files name ≡ Some content → IsAsKnown content (new.held name)
      by_file name content found = elim (file_is name) [
        | inl is ↦ let unknown = can.known name is in let same : Unknown ≡ content = cc in subst (λ c. IsAsKnown c (new.held name)) same tt
        | inr other ↦ subst (IsAsKnown content) (sym (did name other)) (h.known name content found)
      ]

      kept_left : All (IsLeftAs new) s.left
      kept_left k d within =
          let l : Left = slice_index_or s.left k d in
          subst (λ bytes. With bytes (IsDiskIn l.kind l.offset l.bytes))
          (sym (did l.file (λ is. can.left l.file is k d within refl))) (h.left k d within)

  -- a read that copies
  copied_keeps : now.table.nodes ≡ s.table.nodes → ((n : ℕ) → bytes_in now.disks n ≡ bytes_in s.disks n)
      → now.files ≡ s.files → now.left ≡ s.left → now.named ≡ s.named
      → IsGuestWritable s node → Copies s node old new → Agrees opening s old → Agrees opening now new
  copied_keeps nodes disks files left named can did h =
      file_written (λ n row found disk. elim (rows_same s now nodes n row found disk) [
        | inl never ↦ absurd never
        | inr had ↦
            did.nodes n (λ is. can.under n had.row is had.found had.disk) ∙ h.disks n had.row had.found had.disk ∙ sym (disks n)
      ]) files left named can did.files h

module _ (opening : List ℕ → Option (List ℕ)) (s now : State) (node : ℕ) (op : Op) (part : Extent) (done : ℕ) (old new : Contents) where
  write_keeps : now.table.nodes ≡ map (unsettled_over s.table node) s.table.nodes
      → now.disks ≡ map (disk_changed node (done_in op part done)) s.disks → now.files ≡ s.files → now.left ≡ s.left → now.named ≡ s.named
      → IsGuestWritable s node → WritesDisks s node op part done old new → Agrees opening s old → Agrees opening now new
  write_keeps nodes disks files left named can did h =
      file_written opening s now node old new (λ n row found disk.
      let in_list = subst (λ rows. find (λ r. r.id == n) rows ≡ Some row) nodes found in
      let over = not_over s.table node n row in_list disk in
      subst (λ ds. new.reads n ≡ bytes_in ds n) (sym disks)
      (by_node n over (rows_mapped s now (unsettled_over s.table node) (like_over s.table node)
      (λ r has. (disk_over s.table node r has).1) nodes n row found disk) (cases_eq n node)))
      files left named can did.files h
    where
      by_node : (n : ℕ) → is_over s.table node n ≡ false → (⊥ ⊎ HadDisk s n) → ((n ≡ node) ⊎ (n ≢ node))
          → new.reads n ≡ bytes_in (map (disk_changed node (done_in op part done)) s.disks) n
      by_node n over (inl never) same = absurd never
      by_node n over (inr had) (inl same) =
          let at_node : node_by_id s.table node ≡ Some had.row = subst (λ m. node_by_id s.table m ≡ Some had.row) same had.found in
          subst (λ m. new.reads m ≡ bytes_in (map (disk_changed node (done_in op part done)) s.disks) m) (sym same)
          (did.written ∙ ap (done_in op part done) (h.disks node had.row at_node had.disk)
          ∙ sym (bytes_in-changed node (done_in op part done) s.disks can.disk))
      by_node n over (inr had) (inr differ) =
          did.nodes n (apart n over had differ) ∙ h.disks n had.row had.found had.disk
          ∙ sym (bytes_in-unchanged node n (done_in op part done) s.disks differ)
        where
          apart : (m : ℕ) → is_over s.table node m ≡ false → HadDisk s m → m ≢ node → ReadsWritten s.table node m → ⊥
          apart m no_over was other (inl same) = other (sym (own_disk s.table m was.row was.found was.disk.own) ∙ same)
          apart m no_over was other (inr (inl file)) = can.under m was.row file was.found was.disk
          apart m no_over was other (inr (inr is_read)) = cc

-- ---- what stands beside the disks

record IsBeside (s now : State) : Type 0 where
  nodes : now.table.nodes ≡ s.table.nodes
  disks : now.disks ≡ s.disks
  files : now.files ≡ s.files
  left : now.left ≡ s.left
  named : now.named ≡ s.named

noted : (outcome : Outcome) (part : Extent) (drive : ℕ) (s : State) → IsBeside s (note outcome part drive s)
noted outcome part drive s = by_test (is_noted outcome)
  where
    by_test : (b : Bool) → IsBeside s (cond b (record s { dirty = noted_dirty s.table part s.dirty (path s.table drive) }) s)
    by_test true = record { nodes = refl; disks = refl; files = refl; left = refl; named = refl }
    by_test false = record { nodes = refl; disks = refl; files = refl; left = refl; named = refl }

read_beside : (drive : ℕ) (s : State) → IsBeside s (read_through drive s)
read_beside drive s = by_test (list_any (copies_at s.table) (path s.table drive))
  where
    by_test : (b : Bool) → IsBeside s (cond b (record s { images = map (unsure (disk_node s.table drive ∷ [])) s.images }) s)
    by_test true = record { nodes = refl; disks = refl; files = refl; left = refl; named = refl }
    by_test false = record { nodes = refl; disks = refl; files = refl; left = refl; named = refl }

-- ---- a piece

-- a disk of which nothing is done stays
pub unwritten : (node : ℕ) (f : List ℕ → List ℕ) (disks : List Disk) → ((bytes : List ℕ) → f bytes ≡ bytes)
    → (n : ℕ) → bytes_in (map (disk_changed node f) disks) n ≡ bytes_in disks n
unwritten node f [] same n = refl
unwritten node f (d ∷ disks) same n = by_test (d.node == node) (unwritten node f disks same n)
  where
    by_test : (b : Bool) → bytes_in (map (disk_changed node f) disks) n ≡ bytes_in disks n
        → bytes_in (cond b (record d { bytes = f d.bytes }) d ∷ map (disk_changed node f) disks) n ≡ cond (d.node == n) d.bytes (bytes_in disks n)
    by_test true ih = rw (same d.bytes, ih) refl
    by_test false ih = rw ih refl

module _ (opening : List ℕ → Option (List ℕ)) where
  -- nothing is written, and nodes read the same
  unwritten_keeps : (s now : State) (old new : Contents) → now.table.nodes ≡ s.table.nodes
      → ((n : ℕ) → bytes_in now.disks n ≡ bytes_in s.disks n) → now.files ≡ s.files → now.left ≡ s.left → now.named ≡ s.named
      → IsQuiet old new → Agrees opening s old → Agrees opening now new
  unwritten_keeps s now old new nodes disks files left named q h =
      let kept = quiet_keeps opening s (record now { disks = s.disks }) old new (rows_same s (record now { disks = s.disks }) nodes)
      refl files left named q h in
      record {
        disks = λ n row found disk. kept.disks n row found disk ∙ sym (disks n);
        known = kept.known;
        absent = kept.absent;
        left = kept.left;
        unchanged = kept.unchanged;
      }

  writes_nothing : (op : Op) (part : Extent) (done : ℕ) → payload_in op part ≡ [] → (bytes : List ℕ) → done_in op part done bytes ≡ bytes
  writes_nothing op part done none bytes = rw (none, take-nil done) refl

  quiet_piece : (s now : State) (node : ℕ) (op : Op) (part : Extent) (done : ℕ) (old new : Contents) → payload_in op part ≡ []
      → IsBeside (with_disk node (done_in op part done) s) now → IsQuiet old new → Agrees opening s old → Agrees opening now new
  quiet_piece s now node op part done old new none beside q h =
      unwritten_keeps s now old new beside.nodes
      (λ n. ap (λ ds. bytes_in ds n) beside.disks ∙ unwritten node (done_in op part done) s.disks (writes_nothing op part done none) n)
      beside.files beside.left beside.named q h

  itself : (s : State) → IsBeside s s
  itself s = record { nodes = refl; disks = refl; files = refl; left = refl; named = refl }

  pub piece_keeps : (s : State) (drive : ℕ) (op : Op) (outcome : Outcome) (part : Extent) (old new : Contents) → CanWrite s drive op
      → PieceDone s drive op outcome part old new → Agrees opening s old → Agrees opening (with_part drive op outcome part s) new
  unfolding written_under
  piece_keeps s drive (Read span) outcome part old new can did h = elim did [
    | inl quiet ↦ quiet_piece s now node (Read span) part done old new refl beside quiet h
    | inr copied ↦
        copied_keeps opening s now node old new beside.nodes
        (λ n. ap (λ ds. bytes_in ds n) beside.disks
        ∙ unwritten node (done_in (Read span) part done) s.disks (writes_nothing (Read span) part done refl) n)
        beside.files beside.left beside.named (can copied.0) copied.1 h
  ]
    where
      node : ℕ
      node = disk_node s.table drive

      done : ℕ
      done = done_by outcome part

      now : State
      now = with_part drive (Read span) outcome part s

      beside : IsBeside (with_disk node (done_in (Read span) part done) s) now
      beside = read_beside drive (with_disk node (done_in (Read span) part done) s)
  piece_keeps s drive Flush outcome part old new can did h =
      let node : ℕ = disk_node s.table drive in
      let done : ℕ = done_by outcome part in
      quiet_piece s (with_part drive Flush outcome part s) node Flush part done old new refl
      (itself (with_disk node (done_in Flush part done) s)) did h
  piece_keeps s drive (Discard span) outcome part old new can did h =
      let node : ℕ = disk_node s.table drive in
      let done : ℕ = done_by outcome part in
      quiet_piece s (with_part drive (Discard span) outcome part s) node (Discard span) part done old new refl
      (itself (with_disk node (done_in (Discard span) part done) s)) did h
  piece_keeps s drive (Write span payload) outcome part old new can did h =
      let node : ℕ = disk_node s.table drive in
      let op : Op = Write span payload in
      let beside = noted outcome part drive (node_written node (with_disk node (done_in op part (done_by outcome part)) s)) in
      write_keeps opening s (with_part drive op outcome part s) node op part (done_by outcome part) old new
      beside.nodes beside.disks beside.files beside.left beside.named can did h
  piece_keeps s drive (Zero span) outcome part old new can did h =
      let node : ℕ = disk_node s.table drive in
      let op : Op = Zero span in
      let beside = noted outcome part drive (node_written node (with_disk node (done_in op part (done_by outcome part)) s)) in
      write_keeps opening s (with_part drive op outcome part s) node op part (done_by outcome part) old new
      beside.nodes beside.disks beside.files beside.left beside.named can did h
