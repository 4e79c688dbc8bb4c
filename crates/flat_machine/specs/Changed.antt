-- What each kind of change of the table does to disks, files and bitmaps.
use Rattle.std.specs.Prelude.{ℕ, ◌==◌, ◌&&◌, not, Bool, if◌then◌else◌, List, [], ◌∷◌, ◌++◌, filter, replicate, bytes_eq, codes, Option, Some, None, is_none, option_map, option_and_then}
use Rattle.q2_format.specs.Contents.{raw_disk}
use Rattle.q2_format.specs.Created.{creation_of}
use Rattle.blk_graph.specs.declared.kind.Kind.{Kind}
use Rattle.blk_graph.specs.declared.kind.Kind.TheVariants.{Protocol, Raw, Qcow2}
use Rattle.blk_graph.specs.declared.edge.Role.TheVariants.{File, Backing}
use Rattle.qmp_codec.specs.declared.words.ImageFormat.{ImageFormat}
use Rattle.qmp_codec.specs.declared.words.ImageFormat.TheVariants as format
use Rattle.qmp_codec.specs.declared.event.JobKind.{JobKind}
use Rattle.qmp_codec.specs.declared.event.JobKind.TheVariants.{Commit}
use Rattle.qmp_rules.specs.declared.rows.NodeRecord.{NodeRecord}
use Rattle.qmp_rules.specs.declared.rows.JobRecord.{JobRecord}
use Rattle.qmp_rules.specs.declared.rows.BitmapRow.{BitmapRow}
use Rattle.qmp_rules.specs.declared.change.NewDisk.{NewDisk}
use Rattle.qmp_rules.specs.declared.change.NewDisk.TheVariants.{OfNode, OfStart}
use Rattle.qmp_rules.specs.declared.rows.UsedBitmap.{UsedBitmap}
use Rattle.qmp_rules.specs.declared.change.Change.{Change}
use Rattle.qmp_rules.specs.declared.change.Change.TheVariants as change
use Rattle.qmp_rules.specs.Table.{RunTable, node_by_id, job_at, child}
use Rattle.qmp_rules.specs.Changes.{changed}
use Rattle.qmp_rules.specs.Queries.{bytes_of_node}
use Rattle.qmp_rules.specs.Asks.{name_of_file}
use Rattle.blk_history.specs.Fold.{run}
use Rattle.flat_machine.specs.State.{State, Disk, Dirty, Left, Content, Bytes, Unknown, Mapped, bytes_in, bytes_at_node, content_in, filename_of}
use Rattle.flat_machine.specs.Contents.{with_content, formatted, mapped_in, file_bytes, image_bytes}
use Rattle.flat_machine.specs.Marking.{clean, made_clean, is_dirty_of, dirty_at, where_dirty, merge_from, taken_back}
use Rattle.flat_machine.specs.Begun.{begun_of, copy_bytes}

-- ---- rows

-- the disk of a node is this
abbrev pub with_bytes_of : ℕ → List ℕ → List Disk → List Disk
with_bytes_of node bytes [] = record { node = node; bytes = bytes } ∷ []
with_bytes_of node bytes (d ∷ disks) =
    if d.node == node then record { node = node; bytes = bytes } ∷ disks
    else d ∷ with_bytes_of node bytes disks

abbrev pub put : ℕ → List ℕ → State → State
put node bytes s = record s { disks = with_bytes_of node bytes s.disks }

-- this is known of a file
abbrev pub know : List ℕ → Content → State → State
know name content s = record s { files = with_content name content s.files }

-- a command named the file for writing
abbrev pub name_file : List ℕ → State → State
name_file name s = record s { named = s.named ++ name ∷ [] }

-- a file is made anew: no disk is left in it
abbrev pub forget_left : List ℕ → State → State
forget_left name s = record s { left = filter (λ l. not (bytes_eq l.file name)) s.left }

abbrev pub name_if : Option (List ℕ) → State → State
name_if None s = s
name_if (Some name) s = name_file name s

abbrev pub make : List ℕ → Content → State → State
make name content s = name_file name (know name content (forget_left name s))

-- ---- nodes that are added

-- a `file` node reads as its file, and names it for writing where it may be written
abbrev pub add_file : NodeRecord → State → State
add_file row s =
    let added = put row.id (file_bytes row.size (content_in s.files (name_of_file row))) s in
    if row.read_only then added else name_file (name_of_file row) added

-- what is known of the file under a format node
abbrev pub content_under : State → ℕ → Option Content
content_under s file = option_and_then (content_in s.files) (filename_of s.table file)

abbrev pub bytes_below : State → Option ℕ → List ℕ
bytes_below s None = []
bytes_below s (Some node) = bytes_at_node s node

-- a raw node reads as its part of the `file` node, and a qcow2 node as the image over its backing node
abbrev pub bytes_by_format : State → NodeRecord → ℕ → Option ℕ → Kind → List ℕ
bytes_by_format s row file backing Raw = raw_disk row.offset row.size (bytes_in s.disks file)
bytes_by_format s row file backing Qcow2 =
    image_bytes (content_under s file) (bytes_below s backing)
bytes_by_format s row file backing kind = []

abbrev pub note_image : Kind → ℕ → Mapped → State → State
note_image Qcow2 node mapped s =
    record s { images = s.images ++ record { node = node; mapped = mapped } ∷ [] }
note_image kind node mapped s = s

-- what is known of a file, where there is one
abbrev pub know_if : Option (List ℕ) → Content → State → State
know_if None content s = s
know_if (Some name) content s = know name content s

-- What is written through a format node changes the file, of which nothing is known any more.
abbrev pub add_format : NodeRecord → ℕ → Option ℕ → State → State
add_format row file backing s =
    know_if (filename_of s.table file) Unknown
    (note_image row.kind row.id (mapped_in (content_under s file))
    (put row.id (bytes_by_format s row file backing row.kind) s))

-- ---- nodes that go

-- the file that a node reads by itself
abbrev pub own_filename : RunTable → NodeRecord → Kind → Option (List ℕ)
own_filename t row Protocol = row.filename
own_filename t row Raw = option_and_then (filename_of t) (child t row.id File)
own_filename t row Qcow2 = option_and_then (filename_of t) (child t row.id File)
own_filename t row kind = None

-- the file that a node writes
abbrev pub written_file : RunTable → ℕ → Option (List ℕ)
written_file t node = option_and_then (λ row. own_filename t row row.kind) (node_by_id t node)

-- a settled node without a backing node leaves its disk in its file
abbrev pub left_in : List Disk → NodeRecord → List ℕ → Left
left_in disks row file = record {
  file = file;
  kind = row.kind;
  offset = row.offset;
  bytes = bytes_in disks row.id;
}

abbrev pub leave : Option Left → State → State
leave None s = s
leave (Some left) s = record s { left = s.left ++ left ∷ [] }

abbrev pub left_disk : State → NodeRecord → Option Left
left_disk s row =
    if row.is_settled && is_none (child s.table row.id Backing)
    then option_map (left_in s.disks row) (own_filename s.table row row.kind)
    else None

abbrev pub drop_node : ℕ → State → State
drop_node node s = record s {
  disks = filter (λ d. not (d.node == node)) s.disks;
  images = filter (λ i. not (i.node == node)) s.images;
  dirty = filter (λ d. not (d.node == node)) s.dirty;
}

abbrev pub remove_node : ℕ → State → State
remove_node node s =
    drop_node node (leave (option_and_then (left_disk s) (node_by_id s.table node)) s)

-- ---- bitmaps

abbrev pub add_bitmap : BitmapRow → State → State
add_bitmap row s = record s { dirty = s.dirty ++ clean row (bytes_of_node s.table row.node) ∷ [] }

-- ---- jobs

-- the file of the overlay in whose header a commit to an inner base writes a name
abbrev pub overlay_file : RunTable → JobRecord → JobKind → Option (List ℕ)
overlay_file t row Commit = over_file row.read
  where
    over_file : List ℕ → Option (List ℕ)
    over_file [] = None
    over_file (overlay ∷ rest) = option_and_then (filename_of t) (child t overlay File)
overlay_file t row kind = None

-- what is settled reads so
abbrev pub new_bytes : State → NewDisk → List ℕ
new_bytes s (OfNode node) = bytes_at_node s node
new_bytes s (OfStart job) = copy_bytes (begun_of s.begun job)

-- the bitmap that a job copied by has its granules back, or those alone that were written since
abbrev pub back_of : ℕ → Option UsedBitmap → Bool → List Dirty → List Dirty
back_of source None drops ds = ds
back_of source (Some used) drops ds = where_dirty (is_dirty_of source used.name) (taken_back drops) ds

abbrev pub back_by : Option JobRecord → Bool → List Dirty → List Dirty
back_by None drops ds = ds
back_by (Some row) drops ds = back_of row.source row.bitmap drops ds

-- ---- each kind of change

abbrev pub format_name : ImageFormat → List ℕ
format_name format.Raw = codes "raw"
format_name other = codes "qcow2"

-- Beside the table. A kind that isn't listed changes the table alone: what is unsettled keeps its bytes, and parents that
-- move read the same. What the start of a job finds is kept from its own entry on.
abbrev pub beside : State → Change → State
beside s (change.MakeFile name size) = make name (Bytes (replicate size 0)) s
beside s (change.FormatFile node name size backing_file backing_fmt) =
    make name (formatted (creation_of size backing_file (option_map format_name backing_fmt))
    (content_in s.files name)) s
beside s (change.SpoilFile name) = make name Unknown s
beside s (change.UseFile name) = know name Unknown s
beside s (change.AddFile row) = add_file row s
beside s (change.AddFormat row file backing) = add_format row file backing s
beside s (change.RemoveNode node) = remove_node node s
beside s (change.MakeWritable node) = name_if (filename_of s.table node) s
beside s (change.StartJob row) = name_if (overlay_file s.table row row.kind) s
beside s (change.Attach overlay node) = put overlay (bytes_at_node s node) s
beside s (change.AddBitmap row) = add_bitmap row s
beside s (change.RemoveBitmap node name) =
    record s { dirty = filter (λ d. not (is_dirty_of node name d)) s.dirty }
beside s (change.ClearBitmap node name) =
    record s { dirty = where_dirty (is_dirty_of node name) made_clean s.dirty }
beside s (change.MergeBitmap node name source_node source) =
    record s { dirty = merge_from (dirty_at s.dirty source_node source) node name s.dirty }
beside s (change.EndJob number slot drops) =
    record s { dirty = back_by (job_at s.table number) drops s.dirty }
beside s (change.Settle node disk) = put node (new_bytes s disk) s
beside s other = s

abbrev pub stepped : State → Change → State
stepped s c = record (beside s c) { table = changed s.table c }

-- the state after changes in turn
abbrev pub all_stepped : State → List Change → State
all_stepped = run stepped
