-- Dirty granules after changes and pieces are what the table alone says.
use Rattle.std.proofs.Common.{◌≡◌, ℕ, Bool, true, false, cond, List, [], ◌∷◌, map, refl, ap, ◌∙◌, Option, Some, None}
use Rattle.std.specs.Prelude.{option_and_then}
use Rattle.blk_base.specs.Pieces.{Extent}
use Rattle.blk_base.specs.declared.fault.Outcome.{Outcome}
use Rattle.blk_graph.specs.declared.kind.Kind.{Kind}
use Rattle.blk_graph.specs.declared.kind.Kind.TheVariants as kind
use Rattle.trace_codec.specs.declared.op.Op.{Op}
use Rattle.trace_codec.specs.declared.op.Op.TheVariants.{Read, Write, Zero, Flush, Discard}
use Rattle.qmp_rules.specs.declared.change.Change.{Change}
use Rattle.qmp_rules.specs.declared.change.Change.TheVariants as change
use Rattle.qmp_rules.specs.declared.rows.NodeRecord.{NodeRecord}
use Rattle.qmp_rules.specs.Table.{node_by_id}
use Rattle.qmp_rules.specs.Chains.{disk_node}
use Rattle.qmp_rules.specs.Changes.{changed}
use Rattle.qmp_rules.specs.Asks.{name_of_file}
use Rattle.blk_history.specs.Disk.{done_in}
use Rattle.blk_history.specs.Machine.{done_by}
use Rattle.flat_machine.specs.State.{State, Content, Left, Mapped, Unknown, content_in, filename_of}
use Rattle.flat_machine.specs.Contents.{mapped_in, file_bytes}
use Rattle.flat_machine.specs.Changed.{stepped, all_stepped, put, name_file, name_if, know_if, add_file, note_image, bytes_by_format, content_under, leave, left_disk, overlay_file}
use Rattle.flat_machine.specs.Machine.{note, is_noted, noted, path, read_through, copies_through, with_disk, node_written, with_part}
use Rattle.flat_machine.specs.Jobs.{unsure}
use Rattle.flat_machine.specs.Recording.{dirty_beside, dirty_after, dirty_by}

-- ---- changes

left-dirty : (left : Option Left) (s : State) → (leave left s).dirty ≡ s.dirty
left-dirty None s = refl
left-dirty (Some left) s = refl

known-dirty : (name : Option (List ℕ)) (content : Content) (s : State) → (know_if name content s).dirty ≡ s.dirty
known-dirty None content s = refl
known-dirty (Some name) content s = refl

image-dirty : (driver : Kind) (node : ℕ) (mapped : Mapped) (s : State) → (note_image driver node mapped s).dirty ≡ s.dirty
image-dirty kind.Qcow2 node mapped s = refl
image-dirty _ node mapped s = refl

named-dirty : (name : Option (List ℕ)) (s : State) → (name_if name s).dirty ≡ s.dirty
named-dirty None s = refl
named-dirty (Some name) s = refl

file-dirty : (row : NodeRecord) (s : State) → (add_file row s).dirty ≡ s.dirty
file-dirty row s = by_flag row.read_only
  where
    added : State
    added = put row.id (file_bytes row.size (content_in s.files (name_of_file row))) s

    by_flag : (b : Bool) → (cond b added (name_file (name_of_file row) added)).dirty ≡ s.dirty
    by_flag true = refl
    by_flag false = refl

pub stepped-dirty : (s : State) (c : Change) → (stepped s c).dirty ≡ dirty_beside s.table s.dirty c
stepped-dirty s (change.AddFile row) = file-dirty row s
stepped-dirty s (change.AddFormat row file backing) =
    known-dirty (filename_of s.table file) Unknown
    (note_image row.kind row.id (mapped_in (content_under s file)) (put row.id (bytes_by_format s row file backing row.kind) s))
    ∙ image-dirty row.kind row.id (mapped_in (content_under s file)) (put row.id (bytes_by_format s row file backing row.kind) s)
stepped-dirty s (change.RemoveNode node) = rw (left-dirty (option_and_then (left_disk s) (node_by_id s.table node)) s) refl
stepped-dirty s (change.MakeWritable node) = named-dirty (filename_of s.table node) s
stepped-dirty s (change.StartJob row) = named-dirty (overlay_file s.table row row.kind) s
stepped-dirty s change.Negotiate = refl
stepped-dirty s (change.KeepId id) = refl
stepped-dirty s (change.DropId id) = refl
stepped-dirty s (change.MakeFile name size) = refl
stepped-dirty s (change.FormatFile node name size backing_file backing_fmt) = refl
stepped-dirty s (change.SpoilFile name) = refl
stepped-dirty s (change.UseFile name) = refl
stepped-dirty s (change.AddFilter row child) = refl
stepped-dirty s (change.Unsettle id) = refl
stepped-dirty s (change.PutFilter row node) = refl
stepped-dirty s (change.UseNode slot what node) = refl
stepped-dirty s (change.AskJob number asked) = refl
stepped-dirty s (change.ReadyJob number) = refl
stepped-dirty s (change.EndJob number slot drops) = refl
stepped-dirty s (change.PullFilter filter) = refl
stepped-dirty s (change.Rebase node backing) = refl
stepped-dirty s (change.Settle node disk) = refl
stepped-dirty s (change.MakeReadOnly id) = refl
stepped-dirty s (change.AddDevice device node) = refl
stepped-dirty s (change.RemoveDevice number) = refl
stepped-dirty s (change.Attach overlay node) = refl
stepped-dirty s (change.Move from to but) = refl
stepped-dirty s (change.AddBitmap row) = refl
stepped-dirty s (change.RemoveBitmap node name) = refl
stepped-dirty s (change.TurnBitmap node name on) = refl
stepped-dirty s (change.ClearBitmap node name) = refl
stepped-dirty s (change.MergeBitmap node name source_node source) = refl

pub all_stepped-dirty : (changes : List Change) (s : State) → (all_stepped s changes).dirty ≡ dirty_after s.table s.dirty changes
all_stepped-dirty [] s = refl
all_stepped-dirty (c ∷ changes) s =
    all_stepped-dirty changes (stepped s c) ∙ ap (λ ds. dirty_after (changed s.table c) ds changes) (stepped-dirty s c)

-- ---- pieces

note-dirty : (s : State) (outcome : Outcome) (part : Extent) (drive : ℕ)
    → (note outcome part drive s).dirty ≡ cond (is_noted outcome) (noted s.table part s.dirty (path s.table drive)) s.dirty
note-dirty s outcome part drive = by_flag (is_noted outcome)
  where
    by_flag : (b : Bool) → (cond b (record s { dirty = noted s.table part s.dirty (path s.table drive) }) s).dirty
        ≡ cond b (noted s.table part s.dirty (path s.table drive)) s.dirty
    by_flag true = refl
    by_flag false = refl

note-table : (s : State) (outcome : Outcome) (part : Extent) (drive : ℕ) → (note outcome part drive s).table ≡ s.table
note-table s outcome part drive = by_flag (is_noted outcome)
  where
    by_flag : (b : Bool) → (cond b (record s { dirty = noted s.table part s.dirty (path s.table drive) }) s).table ≡ s.table
    by_flag true = refl
    by_flag false = refl

read-dirty : (s : State) (drive : ℕ) → (read_through drive s).dirty ≡ s.dirty
read-dirty s drive = by_flag (copies_through s.table drive)
  where
    by_flag : (b : Bool) → (cond b (record s { images = map (unsure (disk_node s.table drive ∷ [])) s.images }) s).dirty ≡ s.dirty
    by_flag true = refl
    by_flag false = refl

-- the table is that behind the piece
pub part-dirty : (s : State) (drive : ℕ) (op : Op) (outcome : Outcome) (part : Extent)
    → (with_part drive op outcome part s).dirty ≡ dirty_by op outcome part drive (with_part drive op outcome part s).table s.dirty
part-dirty s drive (Read span) outcome part =
    read-dirty (with_disk (disk_node s.table drive) (done_in (Read span) part (done_by outcome part)) s) drive
part-dirty s drive (Write span payload) outcome part =
    let done : State = node_written (disk_node s.table drive) (with_disk (disk_node s.table drive) (done_in (Write span payload) part (done_by outcome part)) s) in
    rw (note-table done outcome part drive) (note-dirty done outcome part drive)
part-dirty s drive (Zero span) outcome part =
    let done : State = node_written (disk_node s.table drive) (with_disk (disk_node s.table drive) (done_in (Zero span) part (done_by outcome part)) s) in
    rw (note-table done outcome part drive) (note-dirty done outcome part drive)
part-dirty s drive Flush outcome part = refl
part-dirty s drive (Discard span) outcome part = refl
