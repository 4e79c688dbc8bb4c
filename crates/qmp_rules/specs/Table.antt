-- The table that commands are judged by and change.
use Rattle.std.specs.Prelude.{ℕ, ◌==◌, Bool, false, not, ◌&&◌, if◌then◌else◌, List, [], ◌∷◌, ◌++◌, map, find, bytes_eq, Option, option_map, option_and_then, unwrap_or, slice_set, replicate}
use Rattle.std.specs.List.{list_any}
use Rattle.blk_graph.specs.declared.edge.Edge.{Edge}
use Rattle.blk_graph.specs.declared.edge.Parent.{Parent}
use Rattle.blk_graph.specs.declared.edge.Parent.TheVariants.{Node, Guest, Job}
use Rattle.blk_graph.specs.declared.edge.Role.{Role}
use Rattle.blk_graph.specs.declared.kind.Kind.{Kind}
use Rattle.blk_graph.specs.declared.kind.NodeKind.{NodeKind}
use Rattle.blk_graph.specs.Edits.{child_of}
use Rattle.blk_graph.specs.Refreshed.{no_kind}
use Rattle.qmp_rules.specs.declared.rows.NodeRecord.{NodeRecord}
use Rattle.qmp_rules.specs.declared.rows.DeviceRow.{DeviceRow}
use Rattle.qmp_rules.specs.declared.rows.JobRecord.{JobRecord}
use Rattle.qmp_rules.specs.declared.rows.BitmapRow.{BitmapRow}
use Rattle.qmp_rules.specs.declared.rows.FileRow.{FileRow}
use Rattle.qmp_rules.specs.declared.rows.FileState.{FileState}

-- What commands look at and change. Nodes, devices, bitmaps and edges stand in the order of their making, jobs in that of
-- their starts. The names of the guests never change: the guest of a number is the device of its name. Requests of guests
-- stand beside the table, since no command looks at them or changes them.
pub record RunTable : Type 0 where
  pub nodes : List NodeRecord
  pub edges : List Edge
  pub guests : List (List ℕ)
  pub devices : List DeviceRow
  pub jobs : List JobRecord
  -- how many jobs were started so far
  pub started : ℕ
  pub bitmaps : List BitmapRow
  -- a file without a row is as it was found
  pub files : List FileRow
  -- the ids that `blockdev-create` keeps until `job-dismiss`
  pub kept : List (List ℕ)
  -- whether capabilities are negotiated
  pub negotiated : Bool

-- the table of a run at its beginning
abbrev pub opening_table : List (List ℕ) → RunTable
opening_table guests = record {
  nodes = [];
  edges = [];
  guests = guests;
  devices = [];
  jobs = [];
  started = 0;
  bitmaps = [];
  files = [];
  kept = [];
  negotiated = false;
}

-- ---- rows by name and by number

abbrev pub node_named : RunTable → List ℕ → Option NodeRecord
node_named t name = find (λ row. bytes_eq row.name name) t.nodes

abbrev pub id_named : RunTable → List ℕ → Option ℕ
id_named t name = option_map (λ row. row.id) (node_named t name)

abbrev pub node_by_id : RunTable → ℕ → Option NodeRecord
node_by_id t id = find (λ row. row.id == id) t.nodes

abbrev pub device_named : RunTable → List ℕ → Option DeviceRow
device_named t name = find (λ device. bytes_eq device.id name) t.devices

abbrev pub device_by_number : RunTable → ℕ → Option DeviceRow
device_by_number t number = find (λ device. device.number == number) t.devices

abbrev pub job_named : RunTable → List ℕ → Option JobRecord
job_named t name = find (λ job. bytes_eq job.id name) t.jobs

abbrev pub job_at : RunTable → ℕ → Option JobRecord
job_at t number = find (λ job. job.number == number) t.jobs

-- the job in a slot, of which each holds one at most
abbrev pub job_in : RunTable → ℕ → Option JobRecord
job_in t slot = find (λ job. job.slot == slot) t.jobs

abbrev pub is_bitmap : ℕ → List ℕ → BitmapRow → Bool
is_bitmap node name row = (row.node == node) && bytes_eq row.name name

abbrev pub bitmap_at : RunTable → ℕ → List ℕ → Option BitmapRow
bitmap_at t node name = find (is_bitmap node name) t.bitmaps

-- the bitmap of a node, both by name
abbrev pub bitmap_named : RunTable → List ℕ → List ℕ → Option BitmapRow
bitmap_named t node name = option_and_then (λ id. bitmap_at t id name) (id_named t node)

abbrev pub has_name : List ℕ → List (List ℕ) → Bool
has_name name names = list_any (λ other. bytes_eq other name) names

-- what became of a file; none where it is as it was found
abbrev pub file_state : RunTable → List ℕ → Option FileState
file_state t name = option_map (λ row. row.state) (find (λ row. bytes_eq row.name name) t.files)

abbrev pub row_in_state : List ℕ → FileState → FileRow → FileRow
row_in_state name state row = if bytes_eq row.name name then record row { state = state } else row

unfoldable pub has_file : List ℕ → List FileRow → Bool
has_file name rows = list_any (λ row. bytes_eq row.name name) rows

-- the file is in the state: its row says so, or one more does
unfoldable pub with_file : List ℕ → FileState → List FileRow → List FileRow
with_file name state rows =
    if has_file name rows then map (row_in_state name state) rows
    else rows ++ record { name = name; state = state } ∷ []

-- ---- names of what an edge comes from: a node, a guest by its number, or a job by its slot

abbrev pub name_at : RunTable → ℕ → List ℕ
name_at t id = unwrap_or (option_map (λ row. row.name) (node_by_id t id)) []

abbrev pub device_id : RunTable → ℕ → List ℕ
device_id t number = unwrap_or (option_map (λ device. device.id) (device_by_number t number)) []

abbrev pub job_id : RunTable → ℕ → List ℕ
job_id t number = unwrap_or (option_map (λ job. job.id) (job_at t number)) []

abbrev pub parent_name : RunTable → Parent → List ℕ
parent_name t (Node id) = name_at t id
parent_name t (Guest number) = device_id t number
parent_name t (Job slot) = unwrap_or (option_map (λ job. job.id) (job_in t slot)) []

-- ---- edges and kinds

abbrev pub child : RunTable → ℕ → Role → Option ℕ
child t id role = child_of (Node id) role t.edges

-- the first edge into a node
abbrev pub first_into : ℕ → List Edge → Option Edge
first_into id edges = find (λ edge. edge.child == id) edges

abbrev pub kind_of_record : NodeRecord → NodeKind
kind_of_record row = record { kind = row.kind; writes = not row.read_only }

-- the kinds of the nodes, by id
abbrev pub kinds_from : List NodeKind → List NodeRecord → List NodeKind
kinds_from kinds [] = kinds
kinds_from kinds (row ∷ rows) = kinds_from (slice_set kinds row.id (kind_of_record row)) rows

abbrev pub kinds_of : List NodeRecord → List NodeKind
kinds_of rows = kinds_from (replicate 64 no_kind) rows
