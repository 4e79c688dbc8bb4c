-- Jobs and the sizes of their sources stay where others come and go.
use Rattle.std.proofs.Common.{◌≡◌, ◌≢◌, ℕ, ◌<◌, ◌≤◌, Bool, true, false, cond, List, [], ◌∷◌, ◌++◌, map, refl, sym, ◌∙◌, ap, subst, arith, inl, inr, Option, Some, None}
use Rattle.std.specs.Prelude.{◌==◌, not, IsSome, unwrap_or}
use Rattle.std.specs.Option.{option_map}
use Rattle.std.specs.List.{find, Contains}
use Rattle.std.proofs.lemmas.Bool.{ne_eqb}
use Rattle.blk_graph.proofs.Members.{Contains-filter, Contains-map}
use Rattle.qmp_rules.specs.declared.change.Change.{Change}
use Rattle.qmp_rules.specs.declared.change.Change.TheVariants as change
use Rattle.qmp_rules.specs.declared.rows.AskedEnd.{AskedEnd}
use Rattle.qmp_rules.specs.declared.rows.NodeRecord.{NodeRecord}
use Rattle.qmp_rules.specs.declared.rows.JobRecord.{JobRecord}
use Rattle.qmp_rules.specs.Changes.{changed, all_changed, node_changed, unsettled, with_unsettled, writable, settled, kept_from_writes, lost_with, stands_over, followed, asked_for, ready_for}
use Rattle.qmp_rules.specs.Queries.{bytes_of_node}
use Rattle.qmp_rules.specs.Table.{RunTable, node_by_id}
use Rattle.flat_machine.specs.Jobs.{target_written}
use Rattle.flat_machine.specs.Suiting.{IsThere, TableSuits, AllTableSuit}
use Rattle.flat_machine.specs.Wiring.{TableStands}
use Rattle.flat_machine.proofs.ImagesKept.{find_before}
use Rattle.flat_machine.proofs.Tables.{pushed-cases}
use Rattle.flat_machine.proofs.TableRests.{table_keeps}
use Rattle.job_tables.specs.Changes.{LeavesJobs, AllLeaveJobs}
use Rattle.job_tables.specs.Jobs.{JobsStand}
use Rattle.job_tables.specs.Rows.{nodes_of_job}
use Rattle.job_tables.proofs.Changes.{there_node, change_leaves_jobs}
use Rattle.job_tables.proofs.NodeKinds.{found_mapped, still_found}
use Rattle.job_tables.proofs.RowEdges.{in_left, holds_source}

-- ---- rows that were there

-- a row of a job was there, but for what is asked of it, and its source has the same size
pub record WasJob (t now : RunTable) (row : JobRecord) : Type 0 where
  pub old : JobRecord
  pub there : Contains t.jobs old
  pub number : old.number ≡ row.number
  pub source : old.source ≡ row.source
  pub target : target_written old ≡ target_written row
  pub size : bytes_of_node now row.source ≡ bytes_of_node t row.source

-- so were those of numbers below one
abbrev pub KeepSources : ℕ → RunTable → RunTable → Type 0
KeepSources from t now = (row : JobRecord) → Contains now.jobs row → row.number < from → WasJob t now row

pub sources_then : (from : ℕ) (a b c : RunTable) → KeepSources from a b → KeepSources from b c → KeepSources from a c
sources_then from a b c ab bc row there small =
    let w = bc row there small in
    let v = ab w.old w.there (subst (λ n. n < from) (sym w.number) small) in
    record {
      old = v.old;
      there = v.there;
      number = v.number ∙ w.number;
      source = v.source ∙ w.source;
      target = v.target ∙ w.target;
      size = w.size ∙ subst (λ n. bytes_of_node b n ≡ bytes_of_node a n) w.source v.size;
    }

pub same_sources : (from : ℕ) (t now : RunTable) → now.jobs ≡ t.jobs
    → ((row : JobRecord) → Contains t.jobs row → row.number < from → bytes_of_node now row.source ≡ bytes_of_node t row.source) → KeepSources from t now
same_sources from t now jobs sizes row there small =
    let at : Contains t.jobs row = subst (λ rows. Contains rows row) jobs there in
    record { old = row; there = at; number = refl; source = refl; target = refl; size = sizes row at small }

abbrev size_of : Option NodeRecord → ℕ
size_of found = unwrap_or (option_map (λ (r : NodeRecord). r.size) found) 0

pub still_sources : (from : ℕ) (t now : RunTable) → now.nodes ≡ t.nodes → now.jobs ≡ t.jobs → KeepSources from t now
still_sources from t now nodes jobs =
    same_sources from t now jobs (λ row at small. ap (λ (rows : List NodeRecord). size_of (find (λ (r : NodeRecord). r.id == row.source) rows)) nodes)

-- rows that keep ids and sizes
pub record KeepsSize (f : NodeRecord → NodeRecord) (row : NodeRecord) : Type 0 where
  pub id : (f row).id ≡ row.id
  pub size : (f row).size ≡ row.size

pub mapped_sizes : (t now : RunTable) (f : NodeRecord → NodeRecord) → ((row : NodeRecord) → KeepsSize f row) → now.nodes ≡ map f t.nodes
    → (n : ℕ) → bytes_of_node now n ≡ bytes_of_node t n
mapped_sizes t now f keeps nodes n = ap size_of (found_mapped t now f (λ row. (keeps row).id) nodes n) ∙ by_row (node_by_id t n)
  where
    by_row : (found : Option NodeRecord) → size_of (option_map f found) ≡ size_of found
    by_row None = refl
    by_row (Some row) = (keeps row).size

if_keeps : (f : NodeRecord → NodeRecord) (row : NodeRecord) → (f row).id ≡ row.id → (f row).size ≡ row.size → (b : Bool)
    → ((cond b (f row) row).id ≡ row.id) × ((cond b (f row) row).size ≡ row.size)
if_keeps f row id size true = (id, size)
if_keeps f row id size false = (refl, refl)

changed_keeps : (id : ℕ) (f : NodeRecord → NodeRecord) → ((row : NodeRecord) → (f row).id ≡ row.id) → ((row : NodeRecord) → (f row).size ≡ row.size)
    → (row : NodeRecord) → KeepsSize (node_changed id f) row
changed_keeps id f ids sizes row = let k = if_keeps f row (ids row) (sizes row) (row.id == id) in record { id = k.0; size = k.1 }

mapped_sources : (from : ℕ) (t now : RunTable) (f : NodeRecord → NodeRecord) → ((row : NodeRecord) → KeepsSize f row) → now.nodes ≡ map f t.nodes
    → now.jobs ≡ t.jobs → KeepSources from t now
mapped_sources from t now f keeps nodes jobs = same_sources from t now jobs (λ row at small. mapped_sizes t now f keeps nodes row.source)

-- ---- nodes that come and go

-- the node is no source of those
abbrev pub HaveOtherSources : ℕ → RunTable → ℕ → Type 0
HaveOtherSources from t node = (row : JobRecord) → Contains t.jobs row → row.number < from → row.source ≢ node

pushed_sources : (from : ℕ) (t now between : RunTable) (new : NodeRecord) → now.nodes ≡ between.nodes ++ new ∷ [] → now.jobs ≡ t.jobs
    → ((n : ℕ) → bytes_of_node between n ≡ bytes_of_node t n) → HaveOtherSources from t new.id → KeepSources from t now
pushed_sources from t now between new nodes jobs sizes others =
    same_sources from t now jobs (λ row at small.
    ap (λ (rows : List NodeRecord). size_of (find (λ (r : NodeRecord). r.id == row.source) rows)) nodes
    ∙ ap size_of (find_before (λ (r : NodeRecord). r.id == row.source) between.nodes new (ne_eqb new.id row.source (λ same. others row at small (sym same))))
    ∙ sizes row.source)

dropped_sources : (from : ℕ) (t now : RunTable) (gone : ℕ) → ((n : ℕ) → n ≢ gone → node_by_id now n ≡ node_by_id t n) → now.jobs ≡ t.jobs
    → HaveOtherSources from t gone → KeepSources from t now
dropped_sources from t now gone found jobs others =
    same_sources from t now jobs (λ row at small. ap size_of (found row.source (others row at small)))

-- ---- jobs that come and go

asked_sources : (from : ℕ) (t : RunTable) (number : ℕ) (new : AskedEnd) → KeepSources from t (changed t (change.AskJob number new))
unfolding changed
asked_sources from t number new row there small = by_row (Contains-map (asked_for number new) t.jobs row there)
  where
    was : (job : JobRecord) → Contains t.jobs job → (b : Bool) → row ≡ cond b (record job { asked = followed job.asked new }) job
        → WasJob t (changed t (change.AskJob number new)) row
    was job at true is =
        record { old = job; there = at; number = ap (λ (r : JobRecord). r.number) (sym is); source = ap (λ (r : JobRecord). r.source) (sym is); target = ap target_written (sym is); size = refl }
    was job at false is =
        record { old = job; there = at; number = ap (λ (r : JobRecord). r.number) (sym is); source = ap (λ (r : JobRecord). r.source) (sym is); target = ap target_written (sym is); size = refl }

    by_row : (job : JobRecord) × Contains t.jobs job × (row ≡ asked_for number new job) → WasJob t (changed t (change.AskJob number new)) row
    by_row (job, at, is) = was job at (job.number == number) is

pub readied_sources : (from : ℕ) (t : RunTable) (number : ℕ) → KeepSources from t (changed t (change.ReadyJob number))
unfolding changed
readied_sources from t number row there small = by_row (Contains-map (ready_for number) t.jobs row there)
  where
    was : (job : JobRecord) → Contains t.jobs job → (b : Bool) → row ≡ cond b (record job { is_ready = true }) job
        → WasJob t (changed t (change.ReadyJob number)) row
    was job at true is =
        record { old = job; there = at; number = ap (λ (r : JobRecord). r.number) (sym is); source = ap (λ (r : JobRecord). r.source) (sym is); target = ap target_written (sym is); size = refl }
    was job at false is =
        record { old = job; there = at; number = ap (λ (r : JobRecord). r.number) (sym is); source = ap (λ (r : JobRecord). r.source) (sym is); target = ap target_written (sym is); size = refl }

    by_row : (job : JobRecord) × Contains t.jobs job × (row ≡ ready_for number job) → WasJob t (changed t (change.ReadyJob number)) row
    by_row (job, at, is) = was job at (job.number == number) is

started_sources : (from : ℕ) (t : RunTable) (new : JobRecord) → from ≤ new.number → KeepSources from t (changed t (change.StartJob new))
unfolding changed
started_sources from t new late row there small = elim (pushed-cases t.jobs new row there) [
  | inl old ↦ record { old = row; there = old; number = refl; source = refl; target = refl; size = refl }
  | inr same ↦ (let number : row.number ≡ new.number = ap (λ (r : JobRecord). r.number) same in absurd (omega (arith, late, small, number)))
]

pub ended_sources : (from : ℕ) (t : RunTable) (number slot : ℕ) (drops : Bool) → KeepSources from t (changed t (change.EndJob number slot drops))
unfolding changed
ended_sources from t number slot drops row there small =
    let old = Contains-filter (λ (job : JobRecord). not (job.number == number)) t.jobs row there in
    record { old = row; there = old.0; number = refl; source = refl; target = refl; size = refl }

-- ---- each kind of change

-- It leaves the sources of jobs of numbers below one, and starts none of these.
abbrev pub SparesSources : ℕ → RunTable → Change → Type 0
SparesSources from t (change.AddFile row) = HaveOtherSources from t row.id
SparesSources from t (change.AddFormat row file backing) = HaveOtherSources from t row.id
SparesSources from t (change.AddFilter row child) = HaveOtherSources from t row.id
SparesSources from t (change.PutFilter row node) = HaveOtherSources from t row.id
SparesSources from t (change.RemoveNode node) = HaveOtherSources from t node
SparesSources from t (change.PullFilter filter) = HaveOtherSources from t filter
SparesSources from t (change.StartJob row) = from ≤ row.number
SparesSources from t c = Unit {0}

abbrev pub AllSpare : ℕ → RunTable → List Change → Type 0
AllSpare from t [] = Unit {0}
AllSpare from t (c ∷ changes) = SparesSources from t c × AllSpare from (changed t c) changes

pub change_spares : (from : ℕ) (t : RunTable) (c : Change) → SparesSources from t c → KeepSources from t (changed t c)
unfolding changed
change_spares from t change.Negotiate h = still_sources from t (changed t change.Negotiate) refl refl
change_spares from t (change.KeepId id) h = still_sources from t (changed t (change.KeepId id)) refl refl
change_spares from t (change.DropId id) h = still_sources from t (changed t (change.DropId id)) refl refl
change_spares from t (change.MakeFile name size) h = still_sources from t (changed t (change.MakeFile name size)) refl refl
change_spares from t (change.FormatFile node name size backing_file backing_fmt) h =
    mapped_sources from t (changed t (change.FormatFile node name size backing_file backing_fmt)) (node_changed node unsettled)
    (changed_keeps node unsettled (λ row. refl) (λ row. refl)) refl refl
change_spares from t (change.SpoilFile name) h =
    mapped_sources from t (changed t (change.SpoilFile name)) (lost_with name)
    (λ row. let k = if_keeps unsettled row refl refl (stands_over name row.filename) in record { id = k.0; size = k.1 }) refl refl
change_spares from t (change.UseFile name) h = still_sources from t (changed t (change.UseFile name)) refl refl
change_spares from t (change.AddFile row) h = pushed_sources from t (changed t (change.AddFile row)) t row refl refl (λ n. refl) h
change_spares from t (change.AddFormat row file backing) h =
    let between : RunTable = record t { nodes = with_unsettled file t.nodes } in
    pushed_sources from t (changed t (change.AddFormat row file backing)) between row refl refl
    (mapped_sizes t between (node_changed file unsettled) (changed_keeps file unsettled (λ r. refl) (λ r. refl)) refl) h
change_spares from t (change.AddFilter row child) h = pushed_sources from t (changed t (change.AddFilter row child)) t row refl refl (λ n. refl) h
change_spares from t (change.RemoveNode node) h = dropped_sources from t (changed t (change.RemoveNode node)) node (λ n other. still_found t node n other) refl h
change_spares from t (change.Unsettle node) h =
    mapped_sources from t (changed t (change.Unsettle node)) (node_changed node unsettled) (changed_keeps node unsettled (λ row. refl) (λ row. refl)) refl refl
change_spares from t (change.MakeWritable node) h =
    mapped_sources from t (changed t (change.MakeWritable node)) (node_changed node writable) (changed_keeps node writable (λ row. refl) (λ row. refl)) refl refl
change_spares from t (change.PutFilter row node) h = pushed_sources from t (changed t (change.PutFilter row node)) t row refl refl (λ n. refl) h
change_spares from t (change.UseNode slot what node) h = still_sources from t (changed t (change.UseNode slot what node)) refl refl
change_spares from t (change.StartJob row) h = started_sources from t row h
change_spares from t (change.AskJob number asked) h = asked_sources from t number asked
change_spares from t (change.ReadyJob number) h = readied_sources from t number
change_spares from t (change.EndJob number slot drops) h = ended_sources from t number slot drops
change_spares from t (change.PullFilter filter) h =
    dropped_sources from t (changed t (change.PullFilter filter)) filter (λ n other. still_found t filter n other) refl h
change_spares from t (change.Rebase node backing) h = still_sources from t (changed t (change.Rebase node backing)) refl refl
change_spares from t (change.Settle node disk) h =
    mapped_sources from t (changed t (change.Settle node disk)) (node_changed node settled) (changed_keeps node settled (λ row. refl) (λ row. refl)) refl refl
change_spares from t (change.MakeReadOnly node) h =
    mapped_sources from t (changed t (change.MakeReadOnly node)) (node_changed node kept_from_writes) (changed_keeps node kept_from_writes (λ row. refl) (λ row. refl))
    refl refl
change_spares from t (change.AddDevice device node) h = still_sources from t (changed t (change.AddDevice device node)) refl refl
change_spares from t (change.RemoveDevice number) h = still_sources from t (changed t (change.RemoveDevice number)) refl refl
change_spares from t (change.Attach overlay node) h = still_sources from t (changed t (change.Attach overlay node)) refl refl
change_spares from t (change.Move from_node to but) h = still_sources from t (changed t (change.Move from_node to but)) refl refl
change_spares from t (change.AddBitmap row) h = still_sources from t (changed t (change.AddBitmap row)) refl refl
change_spares from t (change.RemoveBitmap node name) h = still_sources from t (changed t (change.RemoveBitmap node name)) refl refl
change_spares from t (change.TurnBitmap node name on) h = still_sources from t (changed t (change.TurnBitmap node name on)) refl refl
change_spares from t (change.ClearBitmap node name) h = still_sources from t (changed t (change.ClearBitmap node name)) refl refl
change_spares from t (change.MergeBitmap node name source_node source) h =
    still_sources from t (changed t (change.MergeBitmap node name source_node source)) refl refl

pub changes_spare : (from : ℕ) (changes : List Change) (t : RunTable) → AllSpare from t changes → KeepSources from t (all_changed t changes)
changes_spare from [] t h = still_sources from t t refl refl
changes_spare from (c ∷ changes) t h =
    sources_then from t (changed t c) (all_changed (changed t c) changes) (change_spares from t c h.0) (changes_spare from changes (changed t c) h.1)

pub spare-append : (from : ℕ) (a b : List Change) (t : RunTable) → AllSpare from t a → AllSpare from (all_changed t a) b → AllSpare from t (a ++ b)
spare-append from [] b t h k = k
spare-append from (c ∷ a) b t h k = (h.0, spare-append from a b (changed t c) h.1 k)

-- ---- changes that leave jobs

pub source_there : (t : RunTable) (j : JobsStand t) (row : JobRecord) → Contains t.jobs row → IsThere t row.source
source_there t j row here =
    there_node t j row row.source here (in_left row.held row.read row.source (holds_source t row (j.each row here)))

-- no job's source is a new node
pub new_others : (from : ℕ) (t : RunTable) (j : JobsStand t) (node : ℕ) → node_by_id t node ≡ None → HaveOtherSources from t node
new_others from t j node fresh row here small same =
    let bad = subst IsSome (ap (node_by_id t) same ∙ fresh) (source_there t j row here) in cc

leaving_spares : (from : ℕ) (t : RunTable) (c : Change) → JobsStand t → TableSuits t c → LeavesJobs t c → SparesSources from t c
leaving_spares from t change.Negotiate j suits leaves = tt
leaving_spares from t (change.KeepId id) j suits leaves = tt
leaving_spares from t (change.DropId id) j suits leaves = tt
leaving_spares from t (change.MakeFile name size) j suits leaves = tt
leaving_spares from t (change.FormatFile node name size backing_file backing_fmt) j suits leaves = tt
leaving_spares from t (change.SpoilFile name) j suits leaves = tt
leaving_spares from t (change.UseFile name) j suits leaves = tt
leaving_spares from t (change.AddFile row) j suits leaves = new_others from t j row.id suits.fresh
leaving_spares from t (change.AddFormat row file backing) j suits leaves = new_others from t j row.id suits.fresh
leaving_spares from t (change.AddFilter row child) j suits leaves = new_others from t j row.id suits.fresh
leaving_spares from t (change.RemoveNode node) j suits leaves =
    λ row here small same. leaves.held row here (subst (Contains (nodes_of_job row)) same (in_left row.held row.read row.source (holds_source t row (j.each row here))))
leaving_spares from t (change.Unsettle node) j suits leaves = tt
leaving_spares from t (change.AskJob number asked) j suits leaves = tt
leaving_spares from t (change.ReadyJob number) j suits leaves = tt
leaving_spares from t (change.AddDevice device node) j suits leaves = tt
leaving_spares from t (change.RemoveDevice number) j suits leaves = tt
leaving_spares from t (change.AddBitmap row) j suits leaves = tt
leaving_spares from t (change.RemoveBitmap node name) j suits leaves = tt
leaving_spares from t (change.TurnBitmap node name on) j suits leaves = tt
leaving_spares from t (change.ClearBitmap node name) j suits leaves = tt
leaving_spares from t (change.MergeBitmap node name source_node source) j suits leaves = tt
leaving_spares from t c j suits leaves = absurd leaves

pub all_leaving_spare : (from : ℕ) (changes : List Change) (t : RunTable) → TableStands t → JobsStand t → AllTableSuit t changes → AllLeaveJobs t changes
    → AllSpare from t changes
all_leaving_spare from [] t h j suits leaves = tt
all_leaving_spare from (c ∷ changes) t h j suits leaves =
    (leaving_spares from t c j suits.0 leaves.0, all_leaving_spare from changes (changed t c) (table_keeps t c suits.0 h) (change_leaves_jobs t c h j suits.0 leaves.0) suits.1 leaves.1)
