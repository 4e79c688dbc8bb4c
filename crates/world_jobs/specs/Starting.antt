-- What a command that starts a backup or a mirror leaves of table, nodes and drains, and the job that begins behind its reply.
use Rattle.std.specs.Prelude.{◌≡◌, ◌<◌, ℕ, true, if◌then◌else◌, List, Some, None, Result, Ok, Err, length, string_bytes}
use Rattle.blk_bitmaps.specs.declared.row.Bitmap.{Bitmap}
use Rattle.blk_graph.specs.Graph.{HasName, ids}
use Rattle.blk_graph.specs.Ids.{IsLowestFree}
use Rattle.blk_nodes.specs.Adding.{filtering_row, with_node_row}
use Rattle.blk_nodes.specs.Contents.{disk_of}
use Rattle.blk_nodes.specs.Joined.{IsJoined}
use Rattle.blk_nodes.specs.Nodes.{Nodes, filter_kind}
use Rattle.blk_nodes.specs.Rewiring.{AreReadings, IsWiring, rewired}
use Rattle.blk_nodes.specs.declared.row.Row.{Row}
use Rattle.flat_machine.specs.Marks.{AreCalm, Drained, MustWait, after_later, drained_by}
use Rattle.flat_machine.specs.State.{State}
use Rattle.job_commands.specs.Begun.{CopyCmd, cmd_of, copy_job}
use Rattle.job_progress.specs.Going.{copies_blocks}
use Rattle.qmp_codec.specs.Commands.{Cmd}
use Rattle.qmp_codec.specs.Lines.{Stop}
use Rattle.qmp_codec.specs.declared.event.JobKind.{JobKind}
use Rattle.qmp_rules.specs.Answers.{command_edits, refusal_to, returned, told_none}
use Rattle.qmp_rules.specs.Changes.{all_changed}
use Rattle.qmp_rules.specs.Edits.{filter_name, filter_row, free_id}
use Rattle.qmp_rules.specs.Queries.{bytes_of_node}
use Rattle.qmp_rules.specs.Table.{RunTable, kinds_of, node_by_id, node_named}
use Rattle.qmp_rules.specs.declared.rows.NodeRecord.{NodeRecord}
use Rattle.qmp_rules.specs.declared.refusal.Refusal.{Refusal}
use Rattle.world_jobs.specs.Beginning.{BegunJob, IsNewJob, IsUsable}
use Rattle.world_jobs.specs.Filtering.{filter_of}
use Rattle.world_jobs.specs.Plans.{Plan, is_start}
use Rattle.world_jobs.specs.declared.filtering.FilterShape.{FilterShape}
use Rattle.world_jobs.specs.declared.start.Started.{Started}
use Rattle.world_jobs.specs.declared.start.Started.TheVariants.{Refused, Later, Begun}
use Rattle.world_parts.specs.Jobs.{PutsFilter}
use Rattle.world_parts.specs.Saying.{IsSaid}

-- The entries of a line: its reply, and where it starts a job the start, with two that are set aside for the job.
abbrev pub entries_of : Result Cmd Stop → ℕ
entries_of (Ok c) = if is_start c then 4 else 1
entries_of line = 1

-- ---- before

-- What an accepted start has: its source and its target, and a bitmap that no job uses, where it copies by one.
pub record CanStart (t : RunTable) (rows : List Bitmap) (plan : Plan) : Type 0 where
  pub kind : copies_blocks plan.kind ≡ true
  pub source : NodeRecord
  pub source_is : node_named t plan.device ≡ Some source
  pub source_at : node_by_id t source.id ≡ Some source
  pub target : NodeRecord
  pub target_is : node_named t plan.target ≡ Some target
  pub usable : IsUsable rows source.id plan.bitmap

-- the table behind it
abbrev pub started_table : RunTable → CopyCmd → RunTable
started_table t c = all_changed t (command_edits t told_none (cmd_of c))

-- the name of its filter, and what that is beside
abbrev pub name_of : Plan → List ℕ
name_of plan = filter_name (filter_kind (filter_of plan.kind)) plan.job_id

abbrev pub shape_over : JobKind → NodeRecord → FilterShape
shape_over kind source = record {
  kind = filter_of kind;
  size = source.size;
  read_only = source.read_only;
}

abbrev pub filter_node : FilterShape → Row
filter_node shape = filtering_row shape.kind shape.size shape.read_only

-- A filter of this name and shape may be put: no node has the name, there are fewer than may be, and once it is one of them the nodes
-- may have the kinds and edges of the table.
pub record FilterFits (nodes : Nodes) (u : RunTable) (name : List ℕ) (shape : FilterShape) : Type 0
  where
    pub fresh : HasName nodes.graph name → ⊥
    pub few : length nodes.graph.nodes < 64
    pub wiring : (id : ℕ) → IsLowestFree (ids nodes.graph) id
        → IsJoined (with_node_row nodes id name (filter_node shape))
        → IsWiring (with_node_row nodes id name (filter_node shape)) (kinds_of u.nodes) u.edges

abbrev pub FilterCanBePut : RunTable → Nodes → CopyCmd → Plan → Type 0
FilterCanBePut t nodes c plan =
    (source : NodeRecord) → node_named t plan.device ≡ Some source
    → node_named t (name_of plan) ≡ None
    → FilterFits nodes (started_table t c) (name_of plan) (shape_over plan.kind source)

-- A start fits table and nodes: its filter may be put, gets the id that the table gives it, and stands in the table then; its source has
-- the size that it had.
pub record StartFits (t : RunTable) (nodes : Nodes) (c : CopyCmd) (plan : Plan) : Type 0 where
  pub filter : FilterCanBePut t nodes c plan
  pub id : (id : ℕ) → IsLowestFree (ids nodes.graph) id → id ≡ free_id t
  pub there : (source : NodeRecord) → node_named t plan.device ≡ Some source
      → node_by_id (started_table t c) (free_id t)
      ≡ Some (filter_row t (filter_kind (filter_of plan.kind)) plan.job_id source)
  pub size : (source : NodeRecord) → node_named t plan.device ≡ Some source
      → bytes_of_node (started_table t c) source.id ≡ bytes_of_node t source.id

-- it was put
pub record HasFilter (nodes now : Nodes) (u : RunTable) (name : List ℕ) (shape : FilterShape)
    : Type 0 where
  pub id : ℕ
  pub lowest : IsLowestFree (ids nodes.graph) id
  pub are : now ≡ rewired (kinds_of u.nodes) u.edges
      (with_node_row nodes id name (filter_node shape))
  pub reads : (reads : ℕ → List ℕ) → AreReadings now reads → (n : ℕ) → disk_of now n ≡ reads n

-- ---- behind

-- a table, the nodes, and the disks that are held
pub record StartScene : Type 0 where
  pub table : RunTable
  pub nodes : Nodes
  pub drains : Drained

abbrev pub start_scene : RunTable → Nodes → Drained → StartScene
start_scene table nodes drains = record { table = table; nodes = nodes; drains = drains }

-- nothing has changed
pub record IsRefusedStart (given : List ℕ) (c : Cmd) (x y : StartScene) (text : List ℕ) : Type 0
  where
    pub cause : Refusal
    pub judged : refusal_to x.table told_none c ≡ Some cause
    pub said : IsSaid given (Err cause) text
    pub kept : y ≡ x

-- nothing refuses it, and this request is in flight on its source: that is held, and nothing else changes
pub record HasToStartLater (s : State) (c : Cmd) (x y : StartScene) (g r : ℕ) : Type 0 where
  pub accepted : refusal_to x.table told_none c ≡ None
  pub waits : MustWait s (drained_by x.table c) g r
  pub left : y ≡ record x { drains = after_later (drained_by x.table c) x.drains }

-- Its changes are made, its filter is there, and its job is to begin.
pub record IsStarted (s : State) (given : List ℕ) (c : CopyCmd) (bitmaps : List Bitmap)
    (x y : StartScene) (text : List ℕ) (new : BegunJob) : Type 0 where
  pub accepted : refusal_to x.table told_none (cmd_of c) ≡ None
  pub calm : AreCalm s.table s.guests (drained_by x.table (cmd_of c))
  pub table : y.table ≡ started_table x.table c
  pub drains : y.drains ≡ x.drains
  pub puts : PutsFilter y.table (copy_job x.table c) x.nodes y.nodes
  pub said : IsSaid given (Ok (returned x.table told_none (cmd_of c))) text
  pub new_is : IsNewJob y.table bitmaps (copy_job x.table c) new

-- so it is where no request is in the way
abbrev pub BeginsBehind : List ℕ → CopyCmd → List Bitmap → RunTable → Nodes → RunTable → Nodes
    → Started → Type 0
BeginsBehind given c bitmaps t nodes u now (Begun text new) =
    (u ≡ started_table t c) × PutsFilter u (copy_job t c) nodes now
    × IsSaid given (Ok (returned t told_none (cmd_of c))) (string_bytes text)
    × IsNewJob u bitmaps (copy_job t c) new
BeginsBehind given c bitmaps t nodes u now answer = ⊥

abbrev pub IsStartOf : State → List ℕ → CopyCmd → List Bitmap → StartScene → StartScene → Started
    → Type 0
IsStartOf s given c bitmaps x y (Refused text) =
    IsRefusedStart given (cmd_of c) x y (string_bytes text)
IsStartOf s given c bitmaps x y (Later g r) = HasToStartLater s (cmd_of c) x y g r
IsStartOf s given c bitmaps x y (Begun text new) =
    IsStarted s given c bitmaps x y (string_bytes text) new
