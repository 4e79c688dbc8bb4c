-- What the queries print of the table.
use Rattle.std.specs.Prelude.{ℕ, ◌==◌, Bool, true, false, if◌then◌else◌, List, [], ◌∷◌, codes, Option, Some, None, is_some, option_map, unwrap_or}
use Rattle.serde_json.specs.Data.{Data, boolean, number, unsigned, string, array, object, Items, no_items, item, Members, no_members, member}
use Rattle.blk_graph.specs.declared.kind.Kind.{Kind}
use Rattle.blk_graph.specs.declared.kind.Kind.TheVariants as kind
use Rattle.qmp_codec.specs.Events.{kind_text}
use Rattle.qmp_rules.specs.declared.rows.NodeRecord.{NodeRecord}
use Rattle.qmp_rules.specs.declared.rows.JobRecord.{JobRecord}
use Rattle.qmp_rules.specs.declared.rows.BitmapRow.{BitmapRow}
use Rattle.qmp_rules.specs.Table.{RunTable, node_by_id}
use Rattle.qmp_rules.specs.Chains.{disk_node}

abbrev pub amount_data : ℕ → Data
amount_data n = number (unsigned n)

-- ---- query-block-jobs, in order of start

abbrev pub bytes_of_node : RunTable → ℕ → ℕ
bytes_of_node t id = unwrap_or (option_map (λ row. row.size) (node_by_id t id)) 0

abbrev pub job_status_text : Bool → List ℕ
job_status_text false = codes "running"
job_status_text true = codes "ready"

abbrev pub block_job_data : RunTable → JobRecord → Data
block_job_data t job =
    object (member (codes "auto-dismiss") (boolean true)
    (member (codes "auto-finalize") (boolean true)
    (member (codes "busy") (boolean false)
    (member (codes "device") (string job.id)
    (member (codes "io-status") (string (codes "ok"))
    (member (codes "len") (amount_data (bytes_of_node t job.source))
    (member (codes "offset") (amount_data (if job.is_ready then bytes_of_node t job.source else 0))
    (member (codes "paused") (boolean false)
    (member (codes "ready") (boolean job.is_ready)
    (member (codes "speed") (amount_data 0)
    (member (codes "status") (string (job_status_text job.is_ready))
    (member (codes "type") (string (kind_text job.kind))
    no_members))))))))))))

abbrev pub jobs_items : RunTable → List JobRecord → Items
jobs_items t [] = no_items
jobs_items t (job ∷ jobs) = item (block_job_data t job) (jobs_items t jobs)

unfoldable pub jobs_data : RunTable → Data
jobs_data t = array (jobs_items t t.jobs)

-- ---- query-named-block-nodes, in order of addition

abbrev pub driver_text : Kind → List ℕ
driver_text kind.Protocol = codes "file"
driver_text kind.Raw = codes "raw"
driver_text kind.Qcow2 = codes "qcow2"
driver_text kind.CopyOnRead = codes "copy-on-read"
driver_text kind.BeforeWrite = codes "copy-before-write"
driver_text kind.Mirror = codes "mirror_top"
driver_text kind.Commit = codes "commit_top"

abbrev pub bitmap_data : BitmapRow → ℕ → Data
bitmap_data row dirty =
    object (member (codes "busy") (boolean (is_some row.busy))
    (member (codes "count") (amount_data dirty)
    (member (codes "granularity") (amount_data row.granularity)
    (member (codes "name") (string row.name)
    (member (codes "persistent") (boolean false)
    (member (codes "recording") (boolean row.enabled)
    no_members))))))

-- the bitmaps of a node, each with the bytes of its dirty granules
abbrev pub bitmap_items : ℕ → List BitmapRow → List ℕ → Items
bitmap_items node (row ∷ rows) (dirty ∷ counts) =
    if row.node == node then item (bitmap_data row dirty) (bitmap_items node rows counts)
    else bitmap_items node rows counts
bitmap_items node _ _ = no_items

-- a job's filter is as its child
abbrev pub is_job_filter : Kind → Bool
is_job_filter kind.BeforeWrite = true
is_job_filter kind.Mirror = true
is_job_filter kind.Commit = true
is_job_filter _ = false

abbrev pub shown_read_only : RunTable → NodeRecord → Bool
shown_read_only t row =
    if is_job_filter row.kind
    then unwrap_or (option_map (λ below. below.read_only) (node_by_id t (disk_node t row.id)))
    row.read_only
    else row.read_only

abbrev pub node_data : RunTable → List ℕ → NodeRecord → Data
node_data t counts row =
    object (member (codes "dirty-bitmaps") (array (bitmap_items row.id t.bitmaps counts))
    (member (codes "drv") (string (driver_text row.kind))
    (member (codes "node-name") (string row.name)
    (member (codes "ro") (boolean (shown_read_only t row))
    (member (codes "size") (amount_data row.size)
    no_members)))))

abbrev pub nodes_items : RunTable → List ℕ → List NodeRecord → Items
nodes_items t counts [] = no_items
nodes_items t counts (row ∷ rows) = item (node_data t counts row) (nodes_items t counts rows)

unfoldable pub nodes_data : RunTable → List ℕ → Data
nodes_data t counts = array (nodes_items t counts t.nodes)
