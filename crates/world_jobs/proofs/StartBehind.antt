-- What a start leaves, once its filter was put, and how it is answered.
use Rattle.std.proofs.Common.{◌≡◌, ◌++◌, ℕ, Bool, List, map, refl, sym, ◌∙◌, ap, subst, Option, Some, None, Ok, Err, option_map}
use Rattle.std.specs.Prelude.{IfOk, IfSome, Result, string_bytes, unwrap_or}
use Rattle.std.proofs.lemmas.Option.{same_Some}
use Rattle.blk_bitmaps.specs.declared.row.Bitmap.{Bitmap}
use Rattle.blk_graph.specs.declared.kind.NodeKind.{NodeKind}
use Rattle.blk_nodes.specs.Adding.{with_node_row}
use Rattle.blk_nodes.specs.Nodes.{Nodes, filter_kind}
use Rattle.blk_nodes.specs.Rewiring.{rewired}
use Rattle.blk_history.specs.Fold.{With}
use Rattle.blk_history.specs.Names.{JobLine}
use Rattle.flat_machine.specs.Bitmaps.{dirty_in}
use Rattle.flat_machine.specs.Comes.{job_line_of}
use Rattle.flat_machine.specs.Jobs.{granules_of}
use Rattle.flat_machine.specs.Marks.{AreCalm, Drained, MustWait, after_later, drained_by, ids_of}
use Rattle.flat_machine.specs.State.{Dirty, Guest, State}
use Rattle.job_commands.specs.Begun.{CopyCmd, cmd_of, copy_job}
use Rattle.job_progress.specs.Beginning.{begun_by, work_begun}
use Rattle.qmp_codec.specs.Commands.{Cmd}
use Rattle.qmp_rules.specs.Answers.{command_edits, refusal_to, returned, told_none}
use Rattle.qmp_rules.specs.Changes.{all_changed}
use Rattle.qmp_rules.specs.Edits.{filter_row, free_id}
use Rattle.qmp_rules.specs.Prepared.{IsStoppedFor}
use Rattle.qmp_rules.specs.Queries.{bytes_of_node}
use Rattle.qmp_rules.specs.Table.{RunTable, kinds_of, node_by_id, node_named}
use Rattle.qmp_rules.specs.declared.change.Change.{Change}
use Rattle.qmp_rules.specs.declared.judge.PrepareStop.{PrepareStop}
use Rattle.qmp_rules.specs.declared.judge.PrepareStop.TheVariants.{NoMemory, Refused}
use Rattle.qmp_rules.specs.declared.rows.JobRecord.{JobRecord}
use Rattle.qmp_rules.specs.declared.rows.NodeRecord.{NodeRecord}
use Rattle.qmp_rules.specs.declared.rows.UsedBitmap.{UsedBitmap}
use Rattle.world_jobs.specs.Beginning.{BegunJob, IsNewJob}
use Rattle.world_jobs.specs.Filtering.{filter_of}
use Rattle.world_jobs.specs.Plans.{Plan, drained_node, plan_of}
use Rattle.world_jobs.specs.Starting.{BeginsBehind, CanStart, FilterFits, HasFilter, HasToStartLater, IsRefusedStart, IsStartOf, StartFits, StartScene, filter_node, name_of, shape_over, start_scene, started_table}
use Rattle.world_jobs.specs.declared.filtering.FilterShape.{FilterShape}
use Rattle.world_jobs.specs.declared.start.Started.{Started}
use Rattle.world_jobs.specs.declared.start.Started.TheVariants as started
use Rattle.world_jobs.proofs.CopyPlans.{IsRowOfPlan, planned_drains, planned_row}
use Rattle.world_parts.specs.Handling.{SaysRefusal}
use Rattle.world_parts.specs.Jobs.{PutsFilter}
use Rattle.world_parts.specs.Saying.{IsSaid}

-- the granules of a bitmap don't rest on the table
granules_as : (s : State) (t : RunTable) (row : JobRecord) (used : Option UsedBitmap) → granules_of (record s { table = t }) row used ≡ granules_of s row used
granules_as s t row None = refl
granules_as s t row (Some used) = refl

-- the job is that of another table in which its source has the same size
new_job_as : (t u : RunTable) (rows : List Bitmap) (row : JobRecord) (new : BegunJob) → bytes_of_node u row.source ≡ bytes_of_node t row.source
    → IsNewJob t rows row new → IsNewJob u rows row new
new_job_as t u rows row new size is = record {
  work = λ s table dirty.
      is.work (record s { table = t }) refl dirty
      ∙ ap (begun_by row (bytes_of_node t row.source)) (granules_as s t row row.bitmap)
      ∙ ap (λ (n : ℕ). begun_by row n (granules_of s row row.bitmap)) (sym size ∙ ap (λ (x : RunTable). bytes_of_node x row.source) (sym table));
  line = λ s table.
      is.line (record s { table = t }) refl
      ∙ ap (λ (n : ℕ). let l : JobLine = record { id = row.id; kind = row.kind; size = n } in l)
      (sym size ∙ ap (λ (x : RunTable). bytes_of_node x row.source) (sym table));
  source = is.source;
  target = is.target;
  aside = is.aside;
  spare = is.spare;
}

module _ (t : RunTable) (nodes : Nodes) (rows : List Bitmap) (c : CopyCmd) (can : CanStart t rows (plan_of c)) (fits : StartFits t nodes c (plan_of c)) where
  abbrev row : JobRecord
  row = copy_job t c

  abbrev own_plan : Plan
  own_plan = plan_of c

  of : IsRowOfPlan t (plan_of c) (copy_job t c)
  of = planned_row t c

  source_is : row.source ≡ can.source.id
  source_is = of.source ∙ ap (λ (o : Option NodeRecord). unwrap_or (option_map (λ (r : NodeRecord). r.id) o) 0) can.source_is

  same_size : bytes_of_node (started_table t c) row.source ≡ bytes_of_node t row.source
  same_size =
      ap (bytes_of_node (started_table t c)) source_is ∙ fits.size can.source can.source_is ∙ ap (bytes_of_node t) (sym source_is)

  abbrev own : NodeRecord
  own = filter_row t (filter_kind (filter_of own_plan.kind)) own_plan.job_id can.source

  puts_filter : (u : RunTable) (now : Nodes) → u ≡ started_table t c → HasFilter nodes now u (name_of own_plan) (shape_over own_plan.kind can.source) → PutsFilter u row nodes now
  puts_filter u now is has = record {
    node = own;
    kind = filter_of own_plan.kind;
    there = subst (λ (filter : Option ℕ). With filter (λ id. node_by_id u id ≡ Some own)) (sym of.filter)
        (ap (λ (x : RunTable). node_by_id x (free_id t)) is ∙ fits.there can.source can.source_is);
    of_kind = refl;
    are = has.are ∙ ap (λ (id : ℕ). rewired (kinds_of u.nodes) u.edges
        (with_node_row nodes id (name_of own_plan) (filter_node (shape_over own_plan.kind can.source)))) (fits.id has.id has.lowest);
    reads = has.reads;
  }

  pub begins_behind : (given : List ℕ) (u : RunTable) (now : Nodes) (name : List ℕ) (shape : FilterShape) (answer : Started) (text : _) (new : _)
      → answer ≡ started.Begun text new → u ≡ started_table t c → HasFilter nodes now u name shape → name ≡ name_of own_plan
      → IfSome (node_named t own_plan.device) (λ source. shape ≡ shape_over own_plan.kind source)
      → IsSaid given (Ok (returned t told_none (cmd_of c))) (string_bytes text) → IsNewJob t rows row new
      → BeginsBehind given c rows t nodes u now answer
  begins_behind given u now name shape answer text new is table has named over said job =
      let over' : shape ≡ shape_over own_plan.kind can.source = subst (λ (o : Option NodeRecord). IfSome o (λ source. shape ≡ shape_over own_plan.kind source)) can.source_is over in
      let has' : HasFilter nodes now u (name_of own_plan) (shape_over own_plan.kind can.source)
      = subst (λ (n : List ℕ). HasFilter nodes now u n (shape_over own_plan.kind can.source)) named (subst (λ (x : FilterShape). HasFilter nodes now u name x) over' has) in
      subst (BeginsBehind given c rows t nodes u now) (sym is)
      (table, puts_filter u now table has', said, subst (λ (x : RunTable). IsNewJob x rows row new) (sym table) (new_job_as t (started_table t c) rows row new same_size job))

-- ---- a filter that may be put, as it is made

pub fits_so : (t : RunTable) (nodes : Nodes) (rows : List Bitmap) (command : Cmd) (plan : Plan) (can : CanStart t rows plan)
    → (x : (c : CopyCmd) × (command ≡ cmd_of c) × (plan ≡ plan_of c)) → StartFits t nodes x.0 plan → (edits : List Change) → edits ≡ command_edits t told_none command
    → (name : List ℕ) → name ≡ name_of plan → node_named t (name_of plan) ≡ None → (shape : FilterShape)
    → IfSome (node_named t plan.device) (λ source. shape ≡ shape_over plan.kind source) → FilterFits nodes (all_changed t edits) name shape
fits_so t nodes rows command plan can x fits edits made name named fresh shape over =
    let over' : shape ≡ shape_over plan.kind can.source = subst (λ (o : Option NodeRecord). IfSome o (λ source. shape ≡ shape_over plan.kind source)) can.source_is over in
    subst (λ (cs : List Change). FilterFits nodes (all_changed t cs) name shape) (sym (made ∙ ap (command_edits t told_none) x.1))
    (subst (λ (n : List ℕ). FilterFits nodes (started_table t x.0) n shape) (sym named)
    (subst (λ (y : FilterShape). FilterFits nodes (started_table t x.0) (name_of plan) y) (sym over') (fits.filter can.source can.source_is fresh)))

-- ---- answers

module _ (s : State) (given : List ℕ) (c : CopyCmd) (rows : List Bitmap) (t u : RunTable) (nodes now : Nodes) (drains after : Drained) where
  behind_so : (a : Started) → BeginsBehind given c rows t nodes u now a → refusal_to t told_none (cmd_of c) ≡ None
      → AreCalm s.table s.guests (drained_by t (cmd_of c)) → after ≡ drains
      → IsStartOf s given c rows (start_scene t nodes drains) (start_scene u now after) a
  behind_so (started.Begun text new) is none calm same = record {
    accepted = none;
    calm = calm;
    table = is.0;
    drains = same;
    puts = is.1;
    said = is.2;
    new_is = is.3;
  }
  behind_so (started.Refused text) is none calm same = absurd is
  behind_so (started.Later g r) is none calm same = absurd is

pub starts_so : {E : Type 0} (given : List ℕ) (command : Cmd) (plan : Plan) (rows : List Bitmap) (t u : RunTable) (nodes now : Nodes) (drains after : Drained)
    (guests : List Guest) (r : Result Started E) → IfOk r (λ a. (c : CopyCmd) → command ≡ cmd_of c → plan ≡ plan_of c → BeginsBehind given c rows t nodes u now a)
    → refusal_to t told_none command ≡ None
    → ((s : State) → s.table ≡ t → s.guests ≡ guests → AreCalm s.table s.guests (ids_of (drained_node t plan))) → after ≡ drains
    → IfOk r (λ a. (s : State) (c : CopyCmd) → s.table ≡ t → s.guests ≡ guests → command ≡ cmd_of c → plan ≡ plan_of c
    → IsStartOf s given c rows (start_scene t nodes drains) (start_scene u now after) a)
starts_so given command plan rows t u nodes now drains after guests (Ok a) is none calm same = λ s c table at seen planned.
    behind_so s given c rows t u nodes now drains after a (is c seen planned) (subst (λ (x : Cmd). refusal_to t told_none x ≡ None) seen none)
    (subst (AreCalm s.table s.guests) (ap (λ (p : Plan). ids_of (drained_node t p)) planned ∙ sym (planned_drains t c)) (calm s table at)) same
starts_so given command plan rows t u nodes now drains after guests (Err e) is none calm same = is

-- it has to wait
pub later_so : (s : State) (c : CopyCmd) (command : Cmd) (plan : Plan) (x y : StartScene) (g r : ℕ) → command ≡ cmd_of c → plan ≡ plan_of c
    → refusal_to x.table told_none command ≡ None → MustWait s (ids_of (drained_node x.table plan)) g r
    → y ≡ record x { drains = after_later (ids_of (drained_node x.table plan)) x.drains } → HasToStartLater s (cmd_of c) x y g r
later_so s c command plan x y g r seen planned none waits left =
    let drained : ids_of (drained_node x.table plan) ≡ drained_by x.table (cmd_of c)
    = ap (λ (p : Plan). ids_of (drained_node x.table p)) planned ∙ sym (planned_drains x.table c) in
    record {
      accepted = subst (λ (z : Cmd). refusal_to x.table told_none z ≡ None) seen none;
      waits = subst (λ (disks : List ℕ). MustWait s disks g r) drained waits;
      left = left ∙ ap (λ (disks : List ℕ). record x { drains = after_later disks x.drains }) drained;
    }

-- it was not prepared
pub refused_so : (given : List ℕ) (c : Cmd) (x y : StartScene) (text : List ℕ) (stop : PrepareStop) → IsStoppedFor (refusal_to x.table told_none c) stop → y ≡ x
    → SaysRefusal given stop text → IsRefusedStart given c x y text
refused_so given c x y text (Refused cause) is same said = record { cause = cause; judged = is; said = said; kept = same }
refused_so given c x y text NoMemory is same said = absurd said
