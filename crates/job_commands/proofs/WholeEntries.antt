-- Disks stay whole behind pieces of guests' requests, starts, readiness and ends.
use Rattle.std.proofs.Common.{◌≡◌, ℕ, ◌-◌, ◌≤◌, Bool, true, false, cond, List, [], ◌∷◌, map, length, take, refl, sym, ap, ◌∙◌, arith, Option, Some, None}
use Rattle.std.specs.Prelude.{◌==◌}
use Rattle.std.proofs.lemmas.Bool.{eqb-true}
use Rattle.std.proofs.lemmas.List.{length-replicate, length-take}
use Rattle.blk_base.specs.Pieces.{Extent, end_of}
use Rattle.blk_base.specs.declared.fault.Outcome.{Outcome}
use Rattle.blk_base.proofs.Contents.{length-bytes_at, length-with_bytes_within}
use Rattle.blk_history.specs.Disk.{payload_in, done_in}
use Rattle.blk_history.specs.Machine.{done_by}
use Rattle.trace_codec.specs.declared.op.Op.{Op}
use Rattle.trace_codec.specs.declared.op.Op.TheVariants.{Read, Write, Zero, Flush, Discard}
use Rattle.trace_codec.specs.declared.op.Payload.TheVariants.{Fill, Raw}
use Rattle.qmp_rules.specs.declared.change.Change.TheVariants as change
use Rattle.qmp_rules.specs.declared.rows.JobRecord.{JobRecord}
use Rattle.qmp_rules.specs.declared.rows.NodeRecord.{NodeRecord}
use Rattle.qmp_rules.specs.Chains.{filter_role, disk_node, is_over, unsettled_over, written_under}
use Rattle.qmp_rules.specs.Changes.{unsettled}
use Rattle.qmp_rules.specs.Queries.{bytes_of_node}
use Rattle.qmp_rules.specs.Table.{RunTable, node_by_id, job_at}
use Rattle.flat_machine.specs.Jobs.{unsure, readied, readied_by, started}
use Rattle.flat_machine.specs.Machine.{with_part, with_disk, disk_changed, node_written, note, noted, is_noted, path, read_through, copies_through}
use Rattle.flat_machine.specs.Opening.{start}
use Rattle.flat_machine.specs.declared.opening.Opening.{Opening}
use Rattle.flat_machine.specs.State.{State, Disk, bytes_in}
use Rattle.job_entries.proofs.Noted.{started_table, started_disks}
use Rattle.job_commands.specs.Whole.{DisksAreWhole}
use Rattle.job_commands.proofs.Sizes.{keeps_where, keeps_unsettled, size_there}
use Rattle.job_commands.proofs.Whole.{WasAt, was_mapped, changes_keep_whole}

-- ---- a piece

payload_short : (op : Op) (part : Extent) → length (payload_in op part) ≤ part.len
payload_short (Read span) part = omega arith
payload_short (Write span (Fill byte)) part = omega (arith, length-replicate {A = ℕ} part.len byte)
payload_short (Write span (Raw bytes)) part = omega (arith, length-bytes_at bytes (part.start - span.start) part.len)
payload_short (Zero span) part = omega (arith, length-replicate {A = ℕ} part.len 0)
payload_short Flush part = omega arith
payload_short (Discard span) part = omega arith

-- what is written lies within the disk, which stays as long
done_same : (op : Op) (part : Extent) (n : ℕ) (disk : List ℕ) → end_of part ≤ length disk → length (done_in op part n disk) ≡ length disk
done_same op part n disk within =
    let short = payload_short op part in
    length-with_bytes_within disk part.start (take n (payload_in op part)) (omega (arith, within, short, length-take {A = ℕ} n (payload_in op part)))

-- one of the disks changes, and stays as long
changed_same : (id : ℕ) (f : List ℕ → List ℕ) (disks : List Disk) (node : ℕ) (size : ℕ) → (node ≡ id → (bytes : List ℕ) → length bytes ≡ size → length (f bytes) ≡ size)
    → length (bytes_in disks node) ≡ size → length (bytes_in (map (disk_changed id f) disks) node) ≡ size
changed_same id f [] node size keeps whole = whole
changed_same id f (d ∷ disks) node size keeps whole = by_tests (d.node == id) (d.node == node) refl refl whole (changed_same id f disks node size keeps)
  where
    by_tests : (b c : Bool) → (d.node == id) ≡ b → (d.node == node) ≡ c → length (cond c d.bytes (bytes_in disks node)) ≡ size
        → (length (bytes_in disks node) ≡ size → length (bytes_in (map (disk_changed id f) disks) node) ≡ size)
        → length (bytes_in (cond b (record d { bytes = f d.bytes }) d ∷ map (disk_changed id f) disks) node) ≡ size
    by_tests true true e k is more = rw k (keeps (sym (eqb-true d.node node k) ∙ eqb-true d.node id e) d.bytes is)
    by_tests true false e k is more = rw k (more is)
    by_tests false true e k is more = rw k is
    by_tests false false e k is more = rw k (more is)

note_disks : (s : State) (outcome : Outcome) (part : Extent) (drive : ℕ) → (note outcome part drive s).disks ≡ s.disks
note_disks s outcome part drive = by_flag (is_noted outcome)
  where
    by_flag : (b : Bool) → (cond b (record s { dirty = noted s.table part s.dirty (path s.table drive) }) s).disks ≡ s.disks
    by_flag true = refl
    by_flag false = refl

note_table : (s : State) (outcome : Outcome) (part : Extent) (drive : ℕ) → (note outcome part drive s).table ≡ s.table
note_table s outcome part drive = by_flag (is_noted outcome)
  where
    by_flag : (b : Bool) → (cond b (record s { dirty = noted s.table part s.dirty (path s.table drive) }) s).table ≡ s.table
    by_flag true = refl
    by_flag false = refl

-- a node of the table behind a piece was there, and its disk is one of those where one has changed
record IsBehindPiece (s now : State) (id : ℕ) (f : List ℕ → List ℕ) : Type 0 where
  rows : (node : ℕ) (later : NodeRecord) → node_by_id now.table node ≡ Some later → WasAt s.table node later
  disks : now.disks ≡ map (disk_changed id f) s.disks

was_same : (t : RunTable) (node : ℕ) (later : NodeRecord) → node_by_id t node ≡ Some later → WasAt t node later
was_same t node later found = record { row = later; found = found; kind = refl; size = refl }

written_rows : (t : RunTable) (id node : ℕ) (later : NodeRecord) → node_by_id (written_under id t) node ≡ Some later → WasAt t node later
unfolding written_under
written_rows t id node later found =
    was_mapped t (written_under id t) (unsettled_over t id) (keeps_where (λ r. is_over t id r.id) unsettled keeps_unsettled) refl node later found

module _ (s : State) (drive : ℕ) (outcome : Outcome) (part : Extent) where
  abbrev id : ℕ
  id = disk_node s.table drive

  abbrev done : Op → List ℕ → List ℕ
  done op = done_in op part (done_by outcome part)

  wrote : (op : Op) → IsBehindPiece s (note outcome part drive (node_written id (with_disk id (done op) s))) id (done op)
  wrote op =
      let now : State = node_written id (with_disk id (done op) s) in
      record {
        rows = λ node later found. written_rows s.table id node later (ap (λ (t : RunTable). node_by_id t node) (sym (note_table now outcome part drive)) ∙ found);
        disks = note_disks now outcome part drive;
      }

  read_piece : (op : Op) → IsBehindPiece s (read_through drive (with_disk id (done op) s)) id (done op)
  read_piece op = by_flag (copies_through s.table drive)
    where
      by_flag : (b : Bool) → IsBehindPiece s (cond b (record (with_disk id (done op) s) { images = map (unsure (disk_node s.table drive ∷ [])) s.images }) (with_disk id (done op) s)) id (done op)
      by_flag true = record { rows = was_same s.table; disks = refl }
      by_flag false = record { rows = was_same s.table; disks = refl }

  part_is : (op : Op) → IsBehindPiece s (with_part drive op outcome part s) id (done op)
  part_is (Read span) = read_piece (Read span)
  part_is (Write span payload) = wrote (Write span payload)
  part_is (Zero span) = wrote (Zero span)
  part_is Flush = record { rows = was_same s.table; disks = refl }
  part_is (Discard span) = record { rows = was_same s.table; disks = refl }

pub piece_keeps_whole : (s : State) (drive : ℕ) (op : Op) (outcome : Outcome) (part : Extent) → end_of part ≤ bytes_of_node s.table (disk_node s.table drive) → DisksAreWhole s
    → DisksAreWhole (with_part drive op outcome part s)
piece_keeps_whole s drive op outcome part within whole node later found own =
    let p = part_is s drive outcome part op in
    let w = p.rows node later found in
    let was : length (bytes_in s.disks node) ≡ w.row.size = whole node w.row w.found (ap filter_role (sym w.kind) ∙ own) in
    ap (λ ds. length (bytes_in ds node)) p.disks
    ∙ changed_same (disk_node s.table drive) (done_in op part (done_by outcome part)) s.disks node w.row.size
    (λ same bytes is.
    let size : bytes_of_node s.table (disk_node s.table drive) ≡ w.row.size = ap (bytes_of_node s.table) (sym same) ∙ size_there s.table node w.row w.found in
    done_same op part (done_by outcome part) bytes (omega (arith, within, size, is)) ∙ is) was
    ∙ sym w.size

-- ---- starts and readiness

pub started_whole : (s : State) (row : Option JobRecord) → DisksAreWhole s → DisksAreWhole (started s row)
started_whole s row whole node later found own =
    ap (λ ds. length (bytes_in ds node)) (started_disks s row)
    ∙ whole node later (ap (λ (t : RunTable). node_by_id t node) (sym (started_table s row)) ∙ found) own

pub readied_whole : (s : State) (job : ℕ) → DisksAreWhole s → DisksAreWhole (readied job s)
readied_whole s job whole = by_row (job_at s.table job)
  where
    by_row : (row : Option JobRecord) → DisksAreWhole (readied_by s row)
    by_row None = whole
    by_row (Some row) = λ node later found own.
        changes_keep_whole (λ n. ⊥) (change.ReadyJob row.number ∷ []) s (tt, tt) (λ n r f o kept. whole n r f o) node later found own (λ never. never)

-- ---- the beginning, and entries beside disks

pub opening_whole : (o : Opening) → DisksAreWhole (start o)
opening_whole o node row found own = absurd cc

pub beside_whole : (s now : State) → now.table ≡ s.table → now.disks ≡ s.disks → DisksAreWhole s → DisksAreWhole now
beside_whole s now table disks whole node row found own =
    ap (λ ds. length (bytes_in ds node)) disks ∙ whole node row (ap (λ (t : RunTable). node_by_id t node) (sym table) ∙ found) own
