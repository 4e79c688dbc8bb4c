-- What the end of a job needs of table and nodes, and what it leaves of them.
use Rattle.std.specs.Prelude.{◌≡◌, ◌≤◌, ℕ, true, List, Some, None, IsSome, ◌||◌, if◌then◌else◌}
use Rattle.std.specs.List.{list_all}
use Rattle.blk_graph.specs.Graph.{HasNode}
use Rattle.blk_graph.specs.Judged.{first_parent}
use Rattle.blk_history.specs.declared.entry.JobEnd.{JobEnd}
use Rattle.blk_history.specs.declared.event.Event.TheVariants.{End, Ready}
use Rattle.blk_nodes.specs.Dropping.{nodes_without}
use Rattle.blk_nodes.specs.Joined.{IsJoined}
use Rattle.blk_nodes.specs.Nodes.{Nodes, device_in}
use Rattle.blk_nodes.specs.Rewiring.{IsWiring, rewired}
use Rattle.block_jobs.specs.Work.{JobWork}
use Rattle.flat_machine.specs.Jobs.{is_success, outcome_of}
use Rattle.job_works.specs.Works.{without_work, work_of}
use Rattle.qmp_rules.specs.Changes.{all_changed, changed}
use Rattle.qmp_rules.specs.Ends.{drops_aside, end_edits, is_of_event}
use Rattle.qmp_rules.specs.Queries.{bytes_of_node}
use Rattle.qmp_rules.specs.declared.change.Change.TheVariants.{ReadyJob}
use Rattle.qmp_rules.specs.Table.{RunTable, kinds_of}
use Rattle.qmp_rules.specs.declared.rows.JobRecord.{JobRecord}
use Rattle.blk_nodes.specs.declared.row.FilterKind.{FilterKind}
use Rattle.flat_machine.specs.Marks.{after_end}
use Rattle.world_jobs.specs.Filtering.{filter_of, kinds_with}
use Rattle.world_jobs.specs.declared.running.ending.PlannedEnd.{PlannedEnd}
use Rattle.world_parts.specs.Coherent.{entries_owed}
use Rattle.world_parts.specs.Face.{WorldSeen}
use Rattle.world_parts.specs.Jobs.{bitmaps_ended}
use Rattle.world_parts.specs.Progress.{Progress, with_job_entry}

-- the table behind the end
abbrev pub ended_table : RunTable → JobRecord → JobEnd → RunTable
ended_table t row why = all_changed t (end_edits t row (outcome_of why))

-- the source's size once the job was ready and at an end without error, and else 0
abbrev pub offset_by : RunTable → JobRecord → JobEnd → ℕ
offset_by t row why =
    if row.is_ready || is_success why then bytes_of_node t row.source else 0

pub record IsPlanned (t : RunTable) (row : JobRecord) (why : JobEnd) (end : PlannedEnd) : Type 0
  where
    pub edits : end.edits ≡ end_edits t row (outcome_of why)
    pub kind : end.kind ≡ filter_of row.kind
    pub events : list_all is_of_event end.edits ≡ true
    pub filter : end.filter ≡ row.filter
    pub drops : end.drops ≡ drops_aside (outcome_of why) row.bitmap
    pub owed : end.owed ≡ entries_owed row
    pub offset : end.offset ≡ offset_by t row why

-- a filter may go: no edge of the table leads to it, with which the nodes may go on
pub record FilterCanGo (u : RunTable) (nodes : Nodes) (kind : FilterKind) (filter : ℕ) : Type 0
  where
    pub wiring : IsWiring nodes (kinds_with kind filter (kinds_of u.nodes)) u.edges
    pub there : HasNode nodes.graph filter
    pub lone : first_parent filter u.edges ≡ None
    pub bare : device_in nodes.devices filter ≡ None

-- A job may end: its filter may go, it has its work, and there is room for its entries.
pub record CanBeEnded (t : RunTable) (nodes : Nodes) (works : List JobWork) (p : Progress)
    (why : JobEnd) (row : JobRecord) : Type 0 where
  pub filter : ℕ
  pub filter_is : row.filter ≡ Some filter
  pub goes : FilterCanGo (ended_table t row why) nodes (filter_of row.kind) filter
  pub work : IsSome (work_of works row.number)
  pub room : entries_owed row ≤ p.aside

-- the nodes without a filter have the table's kinds and edges
pub record HasPulled (u : RunTable) (row : JobRecord) (nodes now : Nodes) : Type 0 where
  pub filter : ℕ
  pub filter_is : row.filter ≡ Some filter
  pub are : now ≡ nodes_without filter
      (rewired (kinds_with (filter_of row.kind) filter (kinds_of u.nodes)) u.edges nodes)

-- a world behind the end of a job
pub record IsBehindEnd (w v : WorldSeen) (row : JobRecord) (why : JobEnd) : Type 0 where
  pub pulls : HasPulled (ended_table w.table row why) row w.nodes v.nodes
  pub joined : IsJoined v.nodes
  pub kept : v ≡ record w {
    nodes = v.nodes;
    table = ended_table w.table row why;
    bitmaps = bitmaps_ended row why w.bitmaps;
    works = without_work row.number w.works;
    drains = after_end row.number w.drains;
    progress = with_job_entry (entries_owed row)
        (End row.number why (offset_by w.table row why)) w.progress;
  }

-- and behind the entry that it is ready
abbrev pub IsBehindReady : WorldSeen → WorldSeen → JobRecord → Type 0
IsBehindReady w v row = v ≡ record w {
  table = changed w.table (ReadyJob row.number);
  progress = with_job_entry 1 (Ready row.number) w.progress;
}
