-- The changes that an accepted command makes.
use Rattle.std.specs.Prelude.{ℕ, zero, suc, ◌+◌, ◌==◌, Bool, true, false, not, ◌&&◌, if◌then◌else◌, List, [], ◌∷◌, ◌++◌, map, filter, drop, length, find, bytes_eq, codes, Option, Some, None, option_map, option_and_then, unwrap_or}
use Rattle.std.specs.List.{list_any}
use Rattle.blk_graph.specs.declared.edge.Role.TheVariants.{File}
use Rattle.blk_graph.specs.declared.kind.Kind.{Kind}
use Rattle.blk_graph.specs.declared.kind.Kind.TheVariants as kind
use Rattle.blk_graph.specs.declared.kind.JobUse.{JobUse}
use Rattle.blk_graph.specs.declared.kind.JobUse.TheVariants.{CopyTarget, CommitTop, CommitBetween, CommitBase, StreamTop, StreamBelow}
use Rattle.blk_graph.specs.Ids.{lowest_free}
use Rattle.qmp_codec.specs.declared.command.Action.{Action}
use Rattle.qmp_codec.specs.declared.command.Action.TheVariants as action
use Rattle.qmp_codec.specs.declared.command.Command.{Command}
use Rattle.qmp_codec.specs.declared.command.Command.TheVariants as command
use Rattle.qmp_codec.specs.declared.event.JobKind.{JobKind}
use Rattle.qmp_codec.specs.declared.event.JobKind.TheVariants as job_kind
use Rattle.qmp_codec.specs.declared.words.BitmapMode.TheVariants.{OnSuccess}
use Rattle.qmp_codec.specs.declared.jobs.Stream.{Stream as StreamCommand}
use Rattle.qmp_codec.specs.declared.jobs.Commit.{Commit as CommitCommand}
use Rattle.qmp_codec.specs.declared.jobs.Mirror.{Mirror}
use Rattle.qmp_codec.specs.declared.jobs.Backup.{Backup}
use Rattle.qmp_codec.specs.declared.bitmaps.BitmapAdd.{BitmapAdd}
use Rattle.qmp_codec.specs.declared.bitmaps.BitmapName.{BitmapName}
use Rattle.qmp_codec.specs.declared.bitmaps.BitmapMerge.{BitmapMerge}
use Rattle.qmp_codec.specs.declared.nodes.InlineFile.{InlineFile}
use Rattle.qmp_codec.specs.declared.nodes.FileRef.{FileRef}
use Rattle.qmp_codec.specs.declared.nodes.FileRef.TheVariants as file_ref
use Rattle.qmp_codec.specs.declared.nodes.AddRaw.{AddRaw}
use Rattle.qmp_codec.specs.declared.nodes.AddQcow2.{AddQcow2}
use Rattle.qmp_codec.specs.declared.nodes.Added.{Added}
use Rattle.qmp_codec.specs.declared.nodes.Added.TheVariants as added
use Rattle.qmp_codec.specs.declared.nodes.BlockdevAdd.{BlockdevAdd}
use Rattle.qmp_codec.specs.declared.nodes.CreateFile.{CreateFile}
use Rattle.qmp_codec.specs.declared.nodes.CreateQcow2.{CreateQcow2}
use Rattle.qmp_codec.specs.declared.nodes.Created.{Created}
use Rattle.qmp_codec.specs.declared.nodes.Created.TheVariants as created
use Rattle.qmp_codec.specs.declared.nodes.BlockdevCreate.{BlockdevCreate}
use Rattle.qmp_codec.specs.declared.nodes.Snapshot.{Snapshot}
use Rattle.qmp_codec.specs.declared.nodes.DeviceAdd.{DeviceAdd}
use Rattle.qmp_codec.specs.Commands.{Act, Cmd, SeenSources}
use Rattle.qmp_rules.specs.declared.change.Change.{Change}
use Rattle.qmp_rules.specs.declared.change.Change.TheVariants.{Negotiate, KeepId, DropId, MakeFile, FormatFile, SpoilFile, UseFile, AddFile, AddFormat, AddFilter, RemoveNode, Unsettle, MakeWritable, PutFilter, UseNode, StartJob, AskJob, AddDevice, RemoveDevice, Attach, Move, AddBitmap, RemoveBitmap, TurnBitmap, ClearBitmap, MergeBitmap}
use Rattle.qmp_rules.specs.declared.rows.NodeRecord.{NodeRecord}
use Rattle.qmp_rules.specs.declared.rows.DeviceRow.{DeviceRow}
use Rattle.qmp_rules.specs.declared.rows.AskedEnd.{AskedEnd}
use Rattle.qmp_rules.specs.declared.rows.AskedEnd.TheVariants as asked
use Rattle.qmp_rules.specs.declared.rows.BitmapRow.{BitmapRow}
use Rattle.qmp_rules.specs.declared.rows.JobRecord.{JobRecord}
use Rattle.qmp_rules.specs.declared.rows.MadeWritable.{MadeWritable}
use Rattle.qmp_rules.specs.declared.rows.UsedBitmap.{UsedBitmap}
use Rattle.qmp_asks.specs.declared.ask.JobNodes.TheVariants.{Stream, Commit, Copy}
use Rattle.qmp_rules.specs.declared.told.Told.{Told}
use Rattle.qmp_asks.specs.Naming.{inline_name}
use Rattle.qmp_rules.specs.Table.{RunTable, node_named, node_by_id, id_named, device_named, job_named, child}
use Rattle.qmp_rules.specs.Chains.{disk_node, is_settled, is_listed, chain}
use Rattle.qmp_asks.specs.Asking.{Nodes1}
use Rattle.qmp_rules.specs.Asks.{id_or, name_of_file, is_base, is_file, top_of, job_base, held_nodes, read_nodes}
use Rattle.qmp_asks.specs.JobAsks.{stream_nodes, commit_nodes}
use Rattle.qmp_asks.specs.NodeAsks.{is_read_only, backing_name}
use Rattle.qmp_asks.specs.BitmapAsks.{source_node, source_name}
use Rattle.qmp_asks.specs.Values.{amount_or, part_offset, part_size, flag_or_false, shares}

-- ---- numbers

abbrev pub node_ids : RunTable → List ℕ
node_ids t = map (λ row. row.id) t.nodes

abbrev pub free_id : RunTable → ℕ
free_id t = lowest_free (node_ids t)

-- the one of the node that is added after that
abbrev pub next_free_id : RunTable → ℕ
next_free_id t = lowest_free (node_ids t ++ free_id t ∷ [])

-- the first place of a name
abbrev pub place_from : ℕ → List ℕ → List (List ℕ) → Option ℕ
place_from k name [] = None
place_from k name (other ∷ names) =
    if bytes_eq other name then Some k else place_from (k + 1) name names

-- the lowest of so many numbers from one on that no device has
abbrev pub unused_from : ℕ → ℕ → List DeviceRow → ℕ
unused_from zero k devices = k
unused_from (suc more) k devices =
    if list_any (λ device. device.number == k) devices then unused_from more (k + 1) devices else k

-- a device's number: the guest's of its name, or else the lowest above those of guests that no device has
abbrev pub device_number : RunTable → List ℕ → ℕ
device_number t id =
    unwrap_or (place_from 0 id t.guests) (unused_from 64 (length t.guests) t.devices)

-- ---- blockdev-create

abbrev pub file_of_node : RunTable → List ℕ → List ℕ
file_of_node t name = unwrap_or (option_map name_of_file (node_named t name)) []

abbrev pub created_change : RunTable → Created (List ℕ) → List Change
created_change t (created.File c) = MakeFile c.filename (amount_or 0 (Some c.size)) ∷ []
created_change t (created.Qcow2 c) =
    FormatFile (id_or 0 t (Some c.file)) (file_of_node t c.file) (amount_or 0 (Some c.size))
    c.backing_file c.backing_fmt
    ∷ []
created_change t created.Unknown = []

abbrev pub create_edits : RunTable → BlockdevCreate (List ℕ) → List Change
create_edits t c = KeepId c.job_id ∷ created_change t c.options

-- what one leaves of which a call failed: its file used, and a file node over it unsettled
abbrev pub spoiled : RunTable → Created (List ℕ) → List Change
spoiled t (created.File c) = SpoilFile c.filename ∷ []
spoiled t (created.Qcow2 c) = SpoilFile (file_of_node t c.file) ∷ []
spoiled t created.Unknown = []

-- ---- blockdev-add

abbrev pub length_told : Told → ℕ
length_told told = unwrap_or told.length 0

abbrev pub file_row : ℕ → List ℕ → ℕ → Bool → List ℕ → Option ℕ → NodeRecord
file_row id name size read_only filename made_with = record {
  id = id;
  name = name;
  kind = kind.Protocol;
  size = size;
  read_only = read_only;
  is_settled = true;
  filename = Some filename;
  offset = 0;
  made_with = made_with;
}

abbrev pub format_row : Kind → ℕ → List ℕ → ℕ → ℕ → Bool → NodeRecord
format_row driver id name size offset read_only = record {
  id = id;
  name = name;
  kind = driver;
  size = size;
  read_only = read_only;
  is_settled = true;
  filename = None;
  offset = offset;
  made_with = None;
}

-- where a file node goes with the node over it, that node's id
abbrev pub goes_with : ℕ → Option (List ℕ) → Option ℕ
goes_with id None = Some id
goes_with id (Some own) = None

-- the file node that is made with the node over it, which comes next
abbrev pub inline_row : RunTable → Told → List ℕ → InlineFile (List ℕ) → NodeRecord
inline_row t told name file =
    file_row (free_id t) (inline_name name file.node_name) (length_told told)
    (is_read_only file.options) file.filename (goes_with (next_free_id t) file.node_name)

abbrev pub size_by_name : RunTable → List ℕ → ℕ
size_by_name t name = unwrap_or (option_map (λ row. row.size) (node_named t name)) 0

abbrev pub raw_record : ℕ → List ℕ → ℕ → Bool → AddRaw (List ℕ) → NodeRecord
raw_record id name length read_only raw =
    format_row kind.Raw id name (part_size raw.offset raw.size length) (part_offset raw.offset)
    read_only

abbrev pub raw_edits : RunTable → Told → List ℕ → Bool → AddRaw (List ℕ) → FileRef (List ℕ)
    → List Change
raw_edits t told name read_only raw (file_ref.Name file) =
    AddFormat (raw_record (free_id t) name (size_by_name t file) read_only raw)
    (id_or 0 t (Some file)) None
    ∷ []
raw_edits t told name read_only raw (file_ref.Inline file) =
    AddFile (inline_row t told name file)
    ∷ AddFormat (raw_record (next_free_id t) name (length_told told) read_only raw) (free_id t) None
    ∷ []

abbrev pub image_row : ℕ → Told → List ℕ → Bool → NodeRecord
image_row id told name read_only = format_row kind.Qcow2 id name (unwrap_or told.size 0) 0 read_only

abbrev pub qcow2_edits : RunTable → Told → List ℕ → Bool → Option (List ℕ) → FileRef (List ℕ)
    → List Change
qcow2_edits t told name read_only back (file_ref.Name file) =
    AddFormat (image_row (free_id t) told name read_only) (id_or 0 t (Some file))
    (option_and_then (id_named t) back) ∷ []
qcow2_edits t told name read_only back (file_ref.Inline file) =
    AddFile (inline_row t told name file)
    ∷ AddFormat (image_row (next_free_id t) told name read_only) (free_id t)
    (option_and_then (id_named t) back)
    ∷ []

abbrev pub added_edits : RunTable → Told → List ℕ → Bool → Added (List ℕ) → List Change
added_edits t told name read_only (added.File filename) =
    AddFile (file_row (free_id t) name (length_told told) read_only filename None) ∷ []
added_edits t told name read_only (added.Raw raw) = raw_edits t told name read_only raw raw.file
added_edits t told name read_only (added.Qcow2 image) =
    qcow2_edits t told name read_only (backing_name image.backing) image.file
added_edits t told name read_only (added.CopyOnRead file) =
    AddFilter (format_row kind.CopyOnRead (free_id t) name (size_by_name t file) 0 read_only)
    (id_or 0 t (Some file)) ∷ []
added_edits t told name read_only added.Unknown = []

abbrev pub add_edits : RunTable → Told → BlockdevAdd (List ℕ) → List Change
add_edits t told c = added_edits t told c.node_name (is_read_only c.options) c.driver

-- ---- blockdev-del

-- the file over which a node stands: its own, or that of the file node under it
abbrev pub name_of_file_at : RunTable → Option ℕ → Option (List ℕ)
name_of_file_at t id = option_and_then (λ row. row.filename) (option_and_then (node_by_id t) id)

abbrev pub file_under : RunTable → NodeRecord → Option (List ℕ)
file_under t row = elim row.kind as (λ _. Option (List ℕ)) [
  | kind.Protocol ↦ row.filename
  | kind.Raw ↦ name_of_file_at t (child t row.id File)
  | kind.Qcow2 ↦ name_of_file_at t (child t row.id File)
  | _ ↦ None
]

abbrev pub file_uses : Option (List ℕ) → List Change
file_uses None = []
file_uses (Some name) = UseFile name ∷ []

abbrev pub goes_with_node : ℕ → NodeRecord → Bool
goes_with_node id row = unwrap_or (option_map (λ other. other == id) row.made_with) false

abbrev pub with_inline : RunTable → ℕ → List Change
with_inline t id =
    elim (find (goes_with_node id) t.nodes) as (λ _. List Change) [
      | None ↦ []
      | Some
          row ↦ RemoveNode row.id ∷ []
    ]

-- the file is used before its node goes
abbrev pub row_gone : RunTable → NodeRecord → List Change
row_gone t row = file_uses (file_under t row) ++ RemoveNode row.id ∷ with_inline t row.id

abbrev pub of_row : (NodeRecord → List Change) → Option NodeRecord → List Change
of_row edits None = []
of_row edits (Some row) = edits row

abbrev pub del_edits : RunTable → List ℕ → List Change
del_edits t name = of_row (row_gone t) (node_named t name)

-- ---- devices

abbrev pub new_device : RunTable → DeviceAdd (List ℕ) → NodeRecord → DeviceRow
new_device t c row = record {
  id = c.id;
  number = device_number t c.id;
  share_rw = shares c.share_rw;
  read_only = row.read_only;
}

-- a guest on a file node uses its file
abbrev pub device_uses : NodeRecord → List Change
device_uses row = if is_file row then file_uses row.filename else []

abbrev pub device_add_edits : RunTable → DeviceAdd (List ℕ) → List Change
device_add_edits t c =
    of_row (λ row. device_uses row ++ AddDevice (new_device t c row) row.id ∷ [])
    (node_named t c.drive)

abbrev pub device_del_edits : RunTable → List ℕ → List Change
device_del_edits t id = elim (device_named t id) as (λ _. List Change) [
  | None ↦ []
  | Some device ↦ RemoveDevice device.number ∷ []
]

-- ---- blockdev-snapshot

abbrev pub snapshot_edits : RunTable → Snapshot (List ℕ) → List Change
snapshot_edits t c =
    let node : ℕ = id_or 0 t (Some c.node) in
    let overlay : ℕ = id_or 0 t (Some c.overlay) in
    Attach overlay node ∷ Move node overlay overlay ∷ []

-- ---- bitmaps

abbrev pub bitmap_row : ℕ → BitmapAdd (List ℕ) → BitmapRow
bitmap_row node c = record {
  node = node;
  name = c.name;
  granularity = amount_or 65536 c.granularity;
  enabled = not (flag_or_false c.disabled);
  busy = None;
}

abbrev pub bitmap_add_edits : RunTable → BitmapAdd (List ℕ) → List Change
bitmap_add_edits t c = AddBitmap (bitmap_row (id_or 0 t (Some c.node)) c) ∷ []

abbrev pub bitmap_remove_edits : RunTable → BitmapName (List ℕ) → List Change
bitmap_remove_edits t c = RemoveBitmap (id_or 0 t (Some c.node)) c.name ∷ []

abbrev pub bitmap_turn_edits : RunTable → Bool → BitmapName (List ℕ) → List Change
bitmap_turn_edits t on c = TurnBitmap (id_or 0 t (Some c.node)) c.name on ∷ []

abbrev pub bitmap_clear_edits : RunTable → BitmapName (List ℕ) → List Change
bitmap_clear_edits t c = ClearBitmap (id_or 0 t (Some c.node)) c.name ∷ []

-- one source after another
abbrev pub merges : RunTable → List ℕ → List ℕ → SeenSources → List Change
merges t node target [] = []
merges t node target (s ∷ sources) =
    MergeBitmap (id_or 0 t (Some node)) target (id_or 0 t (Some (source_node node s)))
    (source_name s)
    ∷ merges t node target sources

abbrev pub merge_edits : RunTable → BitmapMerge (List ℕ) SeenSources → List Change
merge_edits t c = merges t c.node c.target c.bitmaps

-- ---- jobs that begin

abbrev pub next_slot : RunTable → ℕ
next_slot t = lowest_free (map (λ job. job.slot) t.jobs)

-- the row of a job, without what some kinds alone have
abbrev pub new_job : RunTable → Option ℕ → List ℕ → JobKind → Nodes1 → JobRecord
new_job t group id what nodes = record {
  id = id;
  number = t.started;
  slot = next_slot t;
  kind = what;
  is_ready = false;
  group = group;
  asked = asked.Nothing;
  source = top_of t nodes;
  target = job_base t nodes;
  filter = None;
  held = held_nodes t nodes;
  read = read_nodes t nodes;
  bitmap = None;
  made_writable = record { base = false; file = false };
  backing_file = None;
}

-- its filter is the node that is added next
abbrev pub filtered_job : RunTable → JobRecord → JobRecord
filtered_job t job = record job { filter = Some (free_id t) }

abbrev pub filter_name : Kind → List ℕ → List ℕ
filter_name kind.Mirror id = codes "#mirror:" ++ id
filter_name kind.Commit id = codes "#commit:" ++ id
filter_name driver id = codes "#cbw:" ++ id

-- as large as the node under it, and read-only where that is
abbrev pub filter_row : RunTable → Kind → List ℕ → NodeRecord → NodeRecord
filter_row t driver id row =
    format_row driver (free_id t) (filter_name driver id) row.size 0 row.read_only

abbrev pub filter_edits : RunTable → Kind → JobRecord → List Change
filter_edits t driver job =
    of_row (λ row. PutFilter (filter_row t driver job.id row) row.id ∷ []) (node_by_id t job.source)

-- a job's target or base that is a `file` node has its file used
abbrev pub file_used : RunTable → Option ℕ → List Change
file_used t node = of_row device_uses (option_and_then (node_by_id t) node)

-- ---- what the start of a job makes of the table, by the row that it gets

abbrev pub uses_as : ℕ → JobUse → List ℕ → List Change
uses_as slot what nodes = map (UseNode slot what) nodes

-- A base that is read-only may be written while the job runs, with the `file` node under it.
abbrev pub file_below : RunTable → Option ℕ → Option ℕ
file_below t base = option_and_then (λ id. child t id File) base

abbrev pub writable_if : Bool → Option ℕ → List Change
writable_if true (Some id) = MakeWritable id ∷ []
writable_if _ _ = []

abbrev pub base_edits : RunTable → JobRecord → List Change
base_edits t job =
    writable_if job.made_writable.file (file_below t job.target)
    ++ writable_if job.made_writable.base job.target

-- what a node reads one after another, as far as the top of the commit
abbrev pub up_to : ℕ → List ℕ → List ℕ
up_to top [] = []
up_to top (id ∷ ids) = if id == top then [] else id ∷ up_to top ids

-- It reads one of the nodes that the commit writes, or may leave without their disks, and not through the top.
abbrev pub reads_one_of : RunTable → ℕ → List ℕ → NodeRecord → Bool
reads_one_of t top nodes row =
    list_any (λ id. is_listed id nodes) (up_to top (chain t (disk_node t row.id)))

-- the base, and the nodes strictly between it and the top
abbrev pub under_top : JobRecord → List ℕ
under_top job = drop 1 job.held

-- what has no flat disk from then on
abbrev pub commit_unsettles : RunTable → JobRecord → List Change
commit_unsettles t job =
    map (λ row. Unsettle row.id) (filter (reads_one_of t job.source (under_top job)) t.nodes)

abbrev pub commit_uses : JobRecord → List Change
commit_uses job =
    map (λ id. UseNode job.slot (if is_base job.target id then CommitBase else CommitBetween) id)
    (under_top job)

-- the target of a backup or mirror has no flat disk from then on
abbrev pub target_edits : RunTable → Option ℕ → List Change
target_edits t None = []
target_edits t (Some target) = file_used t (Some target) ++ Unsettle target ∷ []

abbrev pub uses_target : JobRecord → Option ℕ → List Change
uses_target job None = []
uses_target job (Some target) = UseNode job.slot CopyTarget target ∷ []

abbrev pub copy_edits : RunTable → Kind → JobRecord → List Change
copy_edits t driver job =
    target_edits t job.target ++ filter_edits t driver job ++ StartJob job
    ∷ uses_target job job.target

abbrev pub edits_by_kind : RunTable → JobRecord → JobKind → List Change
edits_by_kind t job job_kind.Stream =
    file_used t job.target ++ StartJob job ∷ UseNode job.slot StreamTop job.source
    ∷ uses_as job.slot StreamBelow job.read
edits_by_kind t job job_kind.Commit =
    file_used t job.target ++ commit_unsettles t job ++ base_edits t job
    ++ filter_edits t kind.Commit job
    ++ StartJob job ∷ UseNode job.slot CommitTop job.source ∷ commit_uses job
edits_by_kind t job job_kind.Mirror = copy_edits t kind.Mirror job
edits_by_kind t job job_kind.Backup = copy_edits t kind.BeforeWrite job

unfoldable pub start_edits : RunTable → JobRecord → List Change
start_edits t job = edits_by_kind t job job.kind

-- ---- the rows of jobs, by the commands that begin them

abbrev pub stream_job : RunTable → StreamCommand (List ℕ) → JobRecord
stream_job t c =
    record (new_job t None c.job_id job_kind.Stream (stream_nodes c)) {
      backing_file = c.backing_file;
    }

abbrev pub reads_only : RunTable → Option ℕ → Bool
reads_only t node =
    unwrap_or (option_map (λ row. row.read_only) (option_and_then (node_by_id t) node)) false

abbrev pub to_be_written : RunTable → Option ℕ → MadeWritable
to_be_written t base = record { base = reads_only t base; file = reads_only t (file_below t base) }

abbrev pub commit_job : RunTable → CommitCommand (List ℕ) → JobRecord
commit_job t c =
    let job : JobRecord = new_job t None c.job_id job_kind.Commit (commit_nodes c) in
    filtered_job t
    (record job { made_writable = to_be_written t job.target; backing_file = c.backing_file })

abbrev pub mirror_job : RunTable → Mirror (List ℕ) → JobRecord
mirror_job t c = filtered_job t (new_job t None c.job_id job_kind.Mirror (Copy c.device c.target))

abbrev pub used_bitmap : RunTable → Backup (List ℕ) → List ℕ → UsedBitmap
used_bitmap t c name = record {
  name = name;
  mode = unwrap_or c.bitmap_mode OnSuccess;
  onto_settled = is_settled t (id_or 0 t (Some c.target));
}

abbrev pub backup_job : RunTable → Option ℕ → Backup (List ℕ) → JobRecord
backup_job t group c =
    record (filtered_job t (new_job t group c.job_id job_kind.Backup (Copy c.device c.target))) {
      bitmap = option_map (used_bitmap t c) c.bitmap;
    }

-- ---- block-job-cancel and block-job-complete

-- A mirror that is ready and is cancelled without force leaves its copy behind; every other cancel is final.
abbrev pub leaves_copy : Bool → Bool → JobKind → Bool
leaves_copy false true job_kind.Mirror = true
leaves_copy force is_ready what = false

abbrev pub asked_by_cancel : Bool → JobRecord → AskedEnd
asked_by_cancel force job =
    if leaves_copy force job.is_ready job.kind then asked.Leave else asked.Stop

abbrev pub ask_edits : RunTable → List ℕ → (JobRecord → AskedEnd) → List Change
ask_edits t id ask =
    elim (job_named t id) as (λ _. List Change) [
      | None ↦ []
      | Some job ↦ AskJob job.number (ask job)
          ∷ []
    ]

abbrev pub cancel_edits : RunTable → List ℕ → Option Bool → List Change
cancel_edits t id force = ask_edits t id (asked_by_cancel (flag_or_false force))

abbrev pub complete_edits : RunTable → List ℕ → List Change
complete_edits t id = ask_edits t id (λ job. asked.Complete)

-- ---- commands and actions

-- What a command makes of the table once it is accepted. A transaction's actions are judged one by one and have their
-- changes there.
unfoldable pub edits_of : RunTable → Told → Cmd → List Change
edits_of t told (command.Capabilities enable) = Negotiate ∷ []
edits_of t told (command.BlockdevCreate c) = create_edits t c
edits_of t told (command.JobDismiss id) = DropId id ∷ []
edits_of t told (command.BlockdevAdd c) = add_edits t told c
edits_of t told (command.BlockdevDel name) = del_edits t name
edits_of t told (command.DeviceAdd c) = device_add_edits t c
edits_of t told (command.DeviceDel id) = device_del_edits t id
edits_of t told (command.BlockdevSnapshot c) = snapshot_edits t c
edits_of t told (command.BlockStream c) = start_edits t (stream_job t c)
edits_of t told (command.BlockCommit c) = start_edits t (commit_job t c)
edits_of t told (command.BlockdevMirror c) = start_edits t (mirror_job t c)
edits_of t told (command.BlockdevBackup c) = start_edits t (backup_job t None c)
edits_of t told (command.BlockJobCancel job force) = cancel_edits t job force
edits_of t told (command.BlockJobComplete job) = complete_edits t job
edits_of t told (command.BitmapAdd c) = bitmap_add_edits t c
edits_of t told (command.BitmapRemove c) = bitmap_remove_edits t c
edits_of t told (command.BitmapClear c) = bitmap_clear_edits t c
edits_of t told (command.BitmapEnable c) = bitmap_turn_edits t true c
edits_of t told (command.BitmapDisable c) = bitmap_turn_edits t false c
edits_of t told (command.BitmapMerge c) = merge_edits t c
edits_of t told _ = []

-- an action's, of a transaction whose jobs have this group
unfoldable pub action_edits : RunTable → Option ℕ → Act → List Change
action_edits t group (action.Snapshot c) = snapshot_edits t c
action_edits t group (action.Backup c) = start_edits t (backup_job t group c)
action_edits t group (action.BitmapAdd c) = bitmap_add_edits t c
action_edits t group (action.BitmapRemove c) = bitmap_remove_edits t c
action_edits t group (action.BitmapClear c) = bitmap_clear_edits t c
action_edits t group (action.BitmapEnable c) = bitmap_turn_edits t true c
action_edits t group (action.BitmapDisable c) = bitmap_turn_edits t false c
action_edits t group (action.BitmapMerge c) = merge_edits t c
action_edits t group _ = []
