-- What each kind of change makes of the table: a line each.
use Rattle.std.specs.Prelude.{ℕ, ◌+◌, ◌==◌, Bool, true, false, not, ◌&&◌, if◌then◌else◌, List, [], ◌∷◌, ◌++◌, map, filter, bytes_eq, Option, Some, None}
use Rattle.blk_graph.specs.declared.edge.Edge.{Edge}
use Rattle.blk_graph.specs.declared.edge.Parent.TheVariants.{Node, Guest, Job}
use Rattle.blk_graph.specs.declared.edge.Role.TheVariants.{File, Backing}
use Rattle.blk_graph.specs.Edits.{with_edge, with_filter, with_replaced, without_edge, without_filter, without_parent}
use Rattle.blk_graph.specs.Permissions.{idle_uses, node_edge, drive_edge, job_edge}
use Rattle.blk_graph.specs.Refreshed.{refreshed}
use Rattle.qmp_rules.specs.declared.change.Change.{Change}
use Rattle.qmp_rules.specs.declared.change.Change.TheVariants as change
use Rattle.qmp_rules.specs.declared.rows.NodeRecord.{NodeRecord}
use Rattle.qmp_rules.specs.declared.rows.DeviceRow.{DeviceRow}
use Rattle.qmp_rules.specs.declared.rows.AskedEnd.{AskedEnd}
use Rattle.qmp_rules.specs.declared.rows.AskedEnd.TheVariants as asked
use Rattle.qmp_rules.specs.declared.rows.JobRecord.{JobRecord}
use Rattle.qmp_rules.specs.declared.rows.UsedBitmap.{UsedBitmap}
use Rattle.qmp_rules.specs.declared.rows.BitmapRow.{BitmapRow}
use Rattle.qmp_rules.specs.declared.rows.FileState.TheVariants.{Made, Formatted, Used}
use Rattle.qmp_rules.specs.Table.{RunTable, with_file, kinds_of, is_bitmap}

-- the table with these nodes and edges, of which each asks and shares what the edges into its parent say
abbrev pub rewired : List NodeRecord → List Edge → RunTable → RunTable
rewired nodes edges t = record t { nodes = nodes; edges = refreshed (kinds_of nodes) edges }

-- ---- nodes

abbrev pub node_changed : ℕ → (NodeRecord → NodeRecord) → NodeRecord → NodeRecord
node_changed id change row = if row.id == id then change row else row

abbrev pub unsettled : NodeRecord → NodeRecord
unsettled row = record row { is_settled = false }

abbrev pub with_unsettled : ℕ → List NodeRecord → List NodeRecord
with_unsettled id nodes = map (node_changed id unsettled) nodes

abbrev pub writable : NodeRecord → NodeRecord
writable row = record row { read_only = false }

abbrev pub with_writable : ℕ → List NodeRecord → List NodeRecord
with_writable id nodes = map (node_changed id writable) nodes

-- no node over a file of which nothing is known has a flat disk
abbrev pub stands_over : List ℕ → Option (List ℕ) → Bool
stands_over name None = false
stands_over name (Some filename) = bytes_eq filename name

abbrev pub lost_with : List ℕ → NodeRecord → NodeRecord
lost_with name row = if stands_over name row.filename then unsettled row else row

abbrev pub settled : NodeRecord → NodeRecord
settled row = record row { is_settled = true }

abbrev pub with_settled : ℕ → List NodeRecord → List NodeRecord
with_settled id nodes = map (node_changed id settled) nodes

abbrev pub kept_from_writes : NodeRecord → NodeRecord
kept_from_writes row = record row { read_only = true }

abbrev pub with_read_only : ℕ → List NodeRecord → List NodeRecord
with_read_only id nodes = map (node_changed id kept_from_writes) nodes

abbrev pub without_record : ℕ → List NodeRecord → List NodeRecord
without_record id nodes = filter (λ row. not (row.id == id)) nodes

-- a format node's edges, the one to its file first
abbrev pub with_backing_edge : ℕ → Option ℕ → List Edge → List Edge
with_backing_edge id None edges = edges
with_backing_edge id (Some backing) edges = with_edge (node_edge id Backing backing) edges

-- another backing node in the place of the one that there is, or none
abbrev pub with_backing : ℕ → Option ℕ → List Edge → List Edge
with_backing id None edges = without_edge (Node id) Backing edges
with_backing id (Some backing) edges = with_edge (node_edge id Backing backing) edges

abbrev pub with_format_edges : ℕ → ℕ → Option ℕ → List Edge → List Edge
with_format_edges id file backing edges =
    with_backing_edge id backing (with_edge (node_edge id File file) edges)

-- ---- bitmaps

abbrev pub bitmap_changed : ℕ → List ℕ → (BitmapRow → BitmapRow) → BitmapRow → BitmapRow
bitmap_changed node name change row = if is_bitmap node name row then change row else row

abbrev pub with_recording : Bool → BitmapRow → BitmapRow
with_recording on row = record row { enabled = on }

abbrev pub with_turned : ℕ → List ℕ → Bool → List BitmapRow → List BitmapRow
with_turned node name on rows = map (bitmap_changed node name (with_recording on)) rows

abbrev pub without_bitmap : ℕ → List ℕ → List BitmapRow → List BitmapRow
without_bitmap node name rows = filter (λ row. not (is_bitmap node name row)) rows

abbrev pub bitmaps_but_of : ℕ → List BitmapRow → List BitmapRow
bitmaps_but_of node rows = filter (λ row. not (row.node == node)) rows

-- the bitmap of a job's source that the job copies by, where it does
abbrev pub busy_by : ℕ → Option UsedBitmap → ℕ → List BitmapRow → List BitmapRow
busy_by job None source rows = rows
busy_by job (Some used) source rows =
    map (bitmap_changed source used.name (λ row. record row { busy = Some job })) rows

-- ---- jobs

-- the parents of a node have the filter in its place, and the filter has the node
abbrev pub filtered_edges : ℕ → ℕ → List Edge → List Edge
filtered_edges filter node edges = with_filter node filter idle_uses.perm idle_uses.shared edges

-- what is still to follow of what a job is asked: once it is to end cancelled, no later command changes that
abbrev pub followed : AskedEnd → AskedEnd → AskedEnd
followed asked.Stop new = asked.Stop
followed old new = new

abbrev pub asked_for : ℕ → AskedEnd → JobRecord → JobRecord
asked_for number new job =
    if job.number == number then record job { asked = followed job.asked new } else job

abbrev pub ready_for : ℕ → JobRecord → JobRecord
ready_for number job = if job.number == number then record job { is_ready = true } else job

abbrev pub without_job : ℕ → List JobRecord → List JobRecord
without_job number jobs = filter (λ job. not (job.number == number)) jobs

-- no bitmap is in the use of a job that is over
abbrev pub is_used_by : ℕ → Option ℕ → Bool
is_used_by number None = false
is_used_by number (Some job) = job == number

abbrev pub given_back : ℕ → BitmapRow → BitmapRow
given_back number row = if is_used_by number row.busy then record row { busy = None } else row

-- ---- devices and ids

abbrev pub without_device : ℕ → List DeviceRow → List DeviceRow
without_device number devices = filter (λ device. not (device.number == number)) devices

abbrev pub device_edge : DeviceRow → ℕ → Edge
device_edge device node = drive_edge device.number node (not device.read_only) device.share_rw

abbrev pub without_name : List ℕ → List (List ℕ) → List (List ℕ)
without_name name names = filter (λ other. not (bytes_eq other name)) names

-- ---- changes

unfoldable pub changed : RunTable → Change → RunTable
changed t change.Negotiate = record t { negotiated = true }
changed t (change.KeepId id) = record t { kept = t.kept ++ id ∷ [] }
changed t (change.DropId id) = record t { kept = without_name id t.kept }
changed t (change.MakeFile name size) = record t { files = with_file name Made t.files }
changed t (change.FormatFile node name size backing_file backing_fmt) =
    record t { nodes = with_unsettled node t.nodes; files = with_file name Formatted t.files }
changed t (change.SpoilFile name) =
    record t { nodes = map (lost_with name) t.nodes; files = with_file name Used t.files }
changed t (change.UseFile name) = record t { files = with_file name Used t.files }
changed t (change.AddFile row) = rewired (t.nodes ++ row ∷ []) t.edges t
changed t (change.AddFormat row file backing) =
    rewired (with_unsettled file t.nodes ++ row ∷ [])
    (with_format_edges row.id file backing t.edges) t
changed t (change.AddFilter row child) =
    rewired (t.nodes ++ row ∷ []) (with_edge (node_edge row.id File child) t.edges) t
changed t (change.RemoveNode id) =
    record (rewired (without_record id t.nodes) (without_parent (Node id) t.edges) t) {
      bitmaps = bitmaps_but_of id t.bitmaps;
    }
changed t (change.Unsettle id) = record t { nodes = with_unsettled id t.nodes }
changed t (change.MakeWritable id) = rewired (with_writable id t.nodes) t.edges t
changed t (change.PutFilter row node) =
    rewired (t.nodes ++ row ∷ []) (filtered_edges row.id node t.edges) t
changed t (change.UseNode slot what node) =
    rewired t.nodes (with_edge (job_edge slot what node) t.edges) t
changed t (change.StartJob row) = record t {
  jobs = t.jobs ++ row ∷ [];
  started = t.started + 1;
  bitmaps = busy_by row.number row.bitmap row.source t.bitmaps;
}
changed t (change.AskJob number new) = record t { jobs = map (asked_for number new) t.jobs }
changed t (change.ReadyJob number) = record t { jobs = map (ready_for number) t.jobs }
changed t (change.EndJob number slot drops) =
    record (rewired t.nodes (without_parent (Job slot) t.edges) t) {
      jobs = without_job number t.jobs;
      bitmaps = map (given_back number) t.bitmaps;
    }
changed t (change.PullFilter filter) =
    rewired (without_record filter t.nodes) (without_filter filter t.edges) t
changed t (change.Rebase node backing) = rewired t.nodes (with_backing node backing t.edges) t
changed t (change.Settle node disk) = record t { nodes = with_settled node t.nodes }
changed t (change.MakeReadOnly id) = rewired (with_read_only id t.nodes) t.edges t
changed t (change.AddDevice device node) =
    record (rewired t.nodes (with_edge (device_edge device node) t.edges) t) {
      devices = t.devices
          ++ device ∷ [];
    }
changed t (change.RemoveDevice number) =
    record (rewired t.nodes (without_parent (Guest number) t.edges) t) {
      devices = without_device
          number t.devices;
    }
changed t (change.Attach overlay node) =
    rewired t.nodes (with_edge (node_edge overlay Backing node) t.edges) t
changed t (change.Move from to but) =
    rewired t.nodes (with_replaced from to (Some (Node but)) t.edges) t
changed t (change.AddBitmap row) = record t { bitmaps = t.bitmaps ++ row ∷ [] }
changed t (change.RemoveBitmap node name) =
    record t { bitmaps = without_bitmap node name t.bitmaps }
changed t (change.TurnBitmap node name on) =
    record t { bitmaps = with_turned node name on t.bitmaps }
changed t (change.ClearBitmap node name) = t
changed t (change.MergeBitmap node name source_node source) = t

-- the table after changes, one after another
abbrev pub all_changed : RunTable → List Change → RunTable
all_changed t [] = t
all_changed t (c ∷ changes) = all_changed (changed t c) changes
