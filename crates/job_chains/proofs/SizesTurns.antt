-- Nodes along a chain keep one size behind the starts and the ends of jobs.
use Rattle.std.proofs.Common.{◌≡◌, ◌≢◌, ℕ, List, [], ◌∷◌, ◌++◌, map, refl, sym, ◌∙◌, ap, subst, Bool, true, false, cond, Option, Some, None}
use Rattle.std.specs.Prelude.{◌==◌, slice_get}
use Rattle.std.specs.Option.{option_map}
use Rattle.std.specs.List.{Contains}
use Rattle.std.proofs.lemmas.Bool.{eqb-true}
use Rattle.blk_graph.specs.declared.edge.Parent.TheVariants.{Node, Job}
use Rattle.blk_graph.specs.declared.edge.Role.TheVariants.{Filtered}
use Rattle.blk_graph.specs.declared.kind.Kind.{Kind}
use Rattle.blk_graph.specs.declared.kind.Kind.TheVariants as driver
use Rattle.blk_graph.specs.declared.kind.JobUse.{JobUse}
use Rattle.blk_graph.specs.declared.kind.JobUse.TheVariants.{CommitTop, CommitBetween, CommitBase, StreamTop, StreamBelow}
use Rattle.blk_graph.specs.Edits.{without_parent}
use Rattle.blk_graph.proofs.ChildLemmas.{child-without}
use Rattle.blk_graph.proofs.Members.{Contains-here, find-Some}
use Rattle.blk_graph.proofs.RefreshLemmas.{child_of-refreshed}
use Rattle.qmp_codec.specs.declared.event.JobKind.{JobKind}
use Rattle.qmp_codec.specs.declared.event.JobKind.TheVariants.{Stream, Commit, Mirror, Backup}
use Rattle.qmp_codec.specs.declared.nodes.Created.{Created}
use Rattle.qmp_codec.specs.declared.nodes.Created.TheVariants as created
use Rattle.blk_history.specs.declared.entry.JobEnd.{JobEnd}
use Rattle.qmp_rules.specs.declared.change.Change.{Change}
use Rattle.qmp_rules.specs.declared.change.Change.TheVariants as change
use Rattle.qmp_rules.specs.declared.change.JobOutcome.{JobOutcome}
use Rattle.qmp_rules.specs.declared.change.JobOutcome.TheVariants.{Completed, Pivoted, Copied, Stopped}
use Rattle.qmp_rules.specs.declared.rows.NodeRecord.{NodeRecord}
use Rattle.qmp_rules.specs.declared.rows.JobRecord.{JobRecord}
use Rattle.qmp_rules.specs.Asks.{is_base}
use Rattle.qmp_rules.specs.Chains.{filter_role, is_over, unsettled_over, written_under}
use Rattle.qmp_rules.specs.Changes.{changed, all_changed, node_changed, unsettled, writable}
use Rattle.qmp_rules.specs.Edits.{free_id, of_row, filter_row, filter_edits, file_used, base_edits, under_top, commit_unsettles, commit_uses, target_edits, uses_target, uses_as, edits_by_kind, start_edits, spoiled}
use Rattle.qmp_rules.specs.Ends.{drops_aside, filter_gone as pulled, overlay_to, parents_to, given_back_to, end_edits, ready_edits}
use Rattle.qmp_rules.specs.Table.{RunTable, node_by_id, child, job_at, kinds_of}
use Rattle.flat_machine.specs.State.{State}
use Rattle.flat_machine.specs.Jobs.{target_written, outcome_of, changes_at_end, ended, readied_by, readied}
use Rattle.flat_machine.specs.Suiting.{HaveOneSize, IsPlainNode}
use Rattle.flat_machine.specs.Wiring.{TableStands}
use Rattle.flat_machine.proofs.Resting.{stepped_table}
use Rattle.flat_machine.proofs.TableRests.{table_keeps}
use Rattle.job_edges.specs.Held.{is_job_filter}
use Rattle.job_tables.specs.Rows.{nodes_of_job}
use Rattle.job_tables.specs.Jobs.{JobsStand}
use Rattle.job_tables.specs.Starts.{IsToFilter, BeginsByKind, JobBegins}
use Rattle.job_tables.specs.Copiers.{CopiesGo}
use Rattle.job_tables.specs.Ends.{rebased_by}
use Rattle.job_tables.proofs.NodeKinds.{found_mapped}
use Rattle.job_tables.proofs.RowEdges.{in_right}
use Rattle.job_tables.proofs.Changes.{filter_of, plain_no_filter}
use Rattle.job_tables.proofs.Ended.{IsQuiet, AreQuiet, quiet-append, quiet_given, quiet_rest, moves_by, rest_by, end_is}
use Rattle.job_tables.proofs.Begun.{IsBefore, AreBefore, all_before}
use Rattle.job_tables.proofs.Started.{before_used, before_target, before_commit}
use Rattle.job_tables.proofs.Runs.{written_by, target_of, source_has}
use Rattle.job_tables.proofs.TargetEdges.{one_size_kept, one_size_mapped}
use Rattle.job_chains.specs.Sizes.{ChainsHaveOneSize}
use Rattle.job_chains.proofs.SizesKept.{row_keeps, one_size_back, HasSize, KeepsSizes, AllKeepSizes, changes_sized}
use Rattle.job_chains.proofs.SizesSuit.{pulls_sized}
use Rattle.job_chains.proofs.SizesJobs.{rebased_size, written_size}

keep-append : (a b : List Change) (t : RunTable) → AllKeepSizes t a → AllKeepSizes (all_changed t a) b → AllKeepSizes t (a ++ b)
keep-append [] b t h k = k
keep-append (c ∷ a) b t h k = (h.0, keep-append a b (changed t c) h.1 k)

-- ---- what comes first in a start: files are used, nodes are unsettled, or may be written

before_keeps : (changes : List Change) (t : RunTable) → AreBefore changes → AllKeepSizes t changes
before_keeps [] t q = tt
before_keeps (c ∷ changes) t q = (one c q.0, before_keeps changes (changed t c) q.1)
  where
    one : (c : Change) → IsBefore c → KeepsSizes t c
    one (change.UseFile name) k = tt
    one (change.Unsettle node) k = tt
    one (change.MakeWritable node) k = tt
    one c k = absurd k

size_mapped : (t now : RunTable) (f : NodeRecord → NodeRecord) → ((row : NodeRecord) → ((f row).id ≡ row.id) × ((f row).size ≡ row.size))
    → now.nodes ≡ map f t.nodes → (node size : ℕ) → HasSize t node size → HasSize now node size
size_mapped t now f keeps nodes node size s = record {
  row = f s.row;
  found = found_mapped t now f (λ r. (keeps r).0) nodes node ∙ ap (option_map f) s.found;
  is = s.is ∙ sym (keeps s.row).1;
}

before_size : (t : RunTable) (c : Change) → IsBefore c → (node size : ℕ) → HasSize t node size → HasSize (changed t c) node size
unfolding changed
before_size t (change.UseFile name) q node size s = record { row = s.row; found = s.found; is = s.is }
before_size t (change.Unsettle id) q node size s =
    size_mapped t (changed t (change.Unsettle id)) (node_changed id unsettled) (λ r. row_keeps id unsettled r (refl, refl)) refl node size s
before_size t (change.MakeWritable id) q node size s =
    size_mapped t (changed t (change.MakeWritable id)) (node_changed id writable) (λ r. row_keeps id writable r (refl, refl)) refl node size s
before_size t c q node size s = absurd q

all_before_size : (changes : List Change) (t : RunTable) → AreBefore changes → (node size : ℕ) → HasSize t node size → HasSize (all_changed t changes) node size
all_before_size [] t q node size s = s
all_before_size (c ∷ changes) t q node size s = all_before_size changes (changed t c) q.1 node size (before_size t c q.0 node size s)

-- ---- starts

uses_keep : (t now : RunTable) (slot : ℕ) (what : ℕ → JobUse) (ids : List ℕ) → AllKeepSizes now (map (λ id. change.UseNode slot (what id) id) ids)
uses_keep t now slot what [] = tt
uses_keep t now slot what (id ∷ ids) = (tt, uses_keep t (changed now (change.UseNode slot (what id) id)) slot what ids)

module _ (t : RunTable) (row : JobRecord) where
  -- a filter is as large as the node under it
  filter_keeps : (kind : Kind) (first : List Change) → IsToFilter t row → AreBefore first → AllKeepSizes (all_changed t first) (filter_edits t kind row)
  filter_keeps kind first f before = by_found (node_by_id t row.source) refl
    where
      by_found : (found : Option NodeRecord) → node_by_id t row.source ≡ found
          → AllKeepSizes (all_changed t first) (of_row (λ r. change.PutFilter (filter_row t kind row.id r) r.id ∷ []) found)
      by_found None is = tt
      by_found (Some r) is =
          let id : r.id ≡ row.source = eqb-true r.id row.source (find-Some (λ (x : NodeRecord). x.id == row.source) t.nodes r is).1 in
          (((all_before first t before).absent (free_id t) f.fresh, all_before_size first t before r.id r.size (record { row = r; found = ap (node_by_id t) id ∙ is; is = refl })), tt)

  copy_keeps : (kind : Kind) → IsToFilter t row → (target : Option ℕ)
      → AllKeepSizes t (target_edits t target ++ filter_edits t kind row ++ change.StartJob row ∷ uses_target row target)
  copy_keeps kind f target =
      keep-append (target_edits t target ++ filter_edits t kind row) (change.StartJob row ∷ uses_target row target) t
      (keep-append (target_edits t target) (filter_edits t kind row) t (before_keeps (target_edits t target) t (before_target t target))
      (filter_keeps kind (target_edits t target) f (before_target t target)))
      (tt, by_target target (changed (all_changed t (target_edits t target ++ filter_edits t kind row)) (change.StartJob row)))
    where
      by_target : (o : Option ℕ) (now : RunTable) → AllKeepSizes now (uses_target row o)
      by_target None now = tt
      by_target (Some node) now = (tt, tt)

  start_keeps : (k : JobKind) → BeginsByKind t row k → AllKeepSizes t (edits_by_kind t row k)
  start_keeps Stream b =
      keep-append (file_used t row.target) (change.StartJob row ∷ change.UseNode row.slot StreamTop row.source ∷ uses_as row.slot StreamBelow row.read) t
      (before_keeps (file_used t row.target) t (before_used t row.target))
      (tt, (tt, uses_keep t _ row.slot (λ id. StreamBelow) row.read))
  start_keeps Commit b =
      keep-append (first ++ filter_edits t driver.Commit row) (change.StartJob row ∷ change.UseNode row.slot CommitTop row.source ∷ commit_uses row) t
      (keep-append first (filter_edits t driver.Commit row) t (before_keeps first t (before_commit t row))
      (filter_keeps driver.Commit first b.filter (before_commit t row)))
      (tt, (tt, uses_keep t _ row.slot (λ id. cond (is_base row.target id) CommitBase CommitBetween) (under_top row)))
    where
      first : List Change
      first = file_used t row.target ++ commit_unsettles t row ++ base_edits t row
  start_keeps Mirror b = copy_keeps driver.Mirror b.copies.filter row.target
  start_keeps Backup b = copy_keeps driver.BeforeWrite b.filter row.target

pub starts_keep_sizes : (t : RunTable) (row : JobRecord) → JobBegins t row → ChainsHaveOneSize t → ChainsHaveOneSize (all_changed t (start_edits t row))
unfolding start_edits
starts_keep_sizes t row b = changes_sized (edits_by_kind t row row.kind) t (start_keeps t row row.kind b.shape)

-- ---- ends

quiet_keeps : (changes : List Change) (t : RunTable) → AreQuiet changes → AllKeepSizes t changes
quiet_keeps [] t q = tt
quiet_keeps (c ∷ changes) t q = (one c q.0, quiet_keeps changes (changed t c) q.1)
  where
    one : (c : Change) → IsQuiet c → KeepsSizes t c
    one (change.Settle node disk) k = tt
    one (change.Unsettle node) k = tt
    one (change.MakeReadOnly node) k = tt
    one c k = absurd k

filter_down : (kind : Kind) → is_job_filter kind ≡ true → filter_role kind ≡ Some Filtered
filter_down driver.Mirror is = refl
filter_down driver.Commit is = refl
filter_down driver.BeforeWrite is = refl
filter_down kind is = absurd cc

module _ (t : RunTable) (h : TableStands t) (j : JobsStand t) (g : CopiesGo t) (s : ChainsHaveOneSize t) (row : JobRecord) (here : Contains t.jobs row) (drops : Bool) where
  abbrev first : Change
  first = change.EndJob row.number row.slot drops

  abbrev over : RunTable
  over = changed t first

  plain_in : (n : ℕ) → Contains (nodes_of_job row) n → IsPlainNode t n
  plain_in n has = (j.each row here).plain n has

  -- its filter goes
  pull_keeps : (filter : Option ℕ) → row.filter ≡ filter → AllKeepSizes over (pulled filter)
  unfolding changed
  pull_keeps None is = tt
  pull_keeps (Some filter) is =
      let f = filter_of t row row.kind (j.each row here).shape filter is in
      let low = plain_in row.source (source_has t row (j.each row here)) in
      let left = without_parent (Job row.slot) t.edges in (
        pulls_sized over filter row.source f.2.node low.row (table_keeps t first tt h) (ap (node_by_id t) (sym f.3) ∙ f.2.there)
            (filter_down f.2.node.kind (ap is_job_filter f.2.kind_is ∙ f.1))
            (child_of-refreshed (kinds_of t.nodes) (Node filter) Filtered left
            ∙ child-without (Job row.slot) (Node filter) Filtered t.edges (λ same. let bad : Job row.slot ≡ Node filter = same in cc bad)
            ∙ ap (λ n. child t n Filtered) (sym f.3)
            ∙ f.2.over)
            low.there low.own,
        tt,
      )

  -- two of its nodes keep their sizes by then
  one_size_over : (filter : Option ℕ) → row.filter ≡ filter → (a b : ℕ) → Contains (nodes_of_job row) a → Contains (nodes_of_job row) b → HaveOneSize t a b
      → HaveOneSize (all_changed over (pulled filter)) a b
  one_size_over None is a b a_in b_in one = one_size_kept t first a b tt tt one
  one_size_over (Some filter) is a b a_in b_in one =
      one_size_kept over (change.PullFilter filter) a b (not_filter a a_in) (not_filter b b_in) (one_size_kept t first a b tt tt one)
    where
      not_filter : (n : ℕ) → Contains (nodes_of_job row) n → filter ≢ n
      not_filter n has same = plain_no_filter t j n (plain_in n has) row here (is ∙ ap Some same)

  source_in : Contains (nodes_of_job row) row.source
  source_in = source_has t row (j.each row here)

  target_in : (target : ℕ) → row.target ≡ Some target → Contains (nodes_of_job row) target
  target_in = target_of t row (j.each row here)

  -- another backing node
  rebase_keeps : (node : ℕ) → Contains (nodes_of_job row) node → rebased_by row row.kind ≡ Some node
      → AllKeepSizes (all_changed over (pulled row.filter)) (change.Rebase node row.target ∷ [])
  rebase_keeps node has by =
      (λ base is. one_size_over row.filter refl node base has (target_in base is) (rebased_size t row node base j s here by is), tt)

  overlay_keeps : row.kind ≡ Commit → (read : List ℕ) → row.read ≡ read
      → AllKeepSizes (all_changed over (pulled row.filter)) (overlay_to (slice_get read 0) row.target)
  overlay_keeps k [] is = tt
  overlay_keeps k (overlay ∷ ids) is =
      rebase_keeps overlay (in_right row.held row.read overlay (subst (λ xs. Contains xs overlay) (sym is) (Contains-here overlay ids)))
      (ap (rebased_by row) k ∙ ap (λ xs. slice_get xs 0) is)

  parents_keep : (filter target : Option ℕ) → row.target ≡ target → ((node : ℕ) → row.target ≡ Some node → target_written row ≡ Some node)
      → AllKeepSizes (all_changed over (pulled row.filter)) (parents_to row.source filter target)
  parents_keep (Some filter) (Some target) is written =
      (one_size_over row.filter refl row.source target source_in (target_in target is) (written_size t row target j g s here (written target is)), tt)
  parents_keep (Some filter) None is written = tt
  parents_keep None target is written = tt

  moves_keep : (k : JobKind) → row.kind ≡ k → (o : JobOutcome) → AllKeepSizes (all_changed over (pulled row.filter)) (moves_by row k o)
  moves_keep Stream k Completed = rebase_keeps row.source source_in (ap (rebased_by row) k)
  moves_keep Commit k Completed = overlay_keeps k row.read refl
  moves_keep Commit k Pivoted = parents_keep row.filter row.target refl (λ node is. written_by row Commit k ∙ is)
  moves_keep Mirror k Pivoted = parents_keep row.filter row.target refl (λ node is. written_by row Mirror k ∙ is)
  moves_keep Stream k Pivoted = tt
  moves_keep Stream k Copied = tt
  moves_keep Commit k Copied = tt
  moves_keep Mirror k Completed = tt
  moves_keep Mirror k Copied = tt
  moves_keep Backup k Completed = tt
  moves_keep Backup k Pivoted = tt
  moves_keep Backup k Copied = tt
  moves_keep k is Stopped = tt

pub ends_keep_sizes : (t : RunTable) (row : JobRecord) (o : JobOutcome) → TableStands t → JobsStand t → Contains t.jobs row → CopiesGo t → ChainsHaveOneSize t
    → ChainsHaveOneSize (all_changed t (end_edits t row o))
ends_keep_sizes t row o h j here g s =
    let drops : Bool = drops_aside o row.bitmap in
    let ended : Change = change.EndJob row.number row.slot drops in
    let tail : List Change = rest_by row row.kind o ++ given_back_to t row o in
    subst (λ changes. ChainsHaveOneSize (all_changed t changes)) (sym (end_is t row o))
    (changes_sized ((ended ∷ pulled row.filter ++ moves_by row row.kind o) ++ tail) t
    (keep-append (ended ∷ pulled row.filter ++ moves_by row row.kind o) tail t
    (tt, keep-append (pulled row.filter) (moves_by row row.kind o) (changed t ended) (pull_keeps t h j g s row here drops row.filter refl) (moves_keep t h j g s row here drops row.kind refl o))
    (quiet_keeps tail (all_changed t (ended ∷ pulled row.filter ++ moves_by row row.kind o))
    (quiet-append (rest_by row row.kind o) (given_back_to t row o) (quiet_rest row row.kind o) (quiet_given t row o)))) s)

-- ---- what is noted, failed and written

pub ended_sizes : (s : State) (number : ℕ) (why : JobEnd) → TableStands s.table → JobsStand s.table → CopiesGo s.table → ChainsHaveOneSize s.table
    → ChainsHaveOneSize (ended s (job_at s.table number) why).table
ended_sizes s number why h j g sized = by_found (job_at s.table number) refl
  where
    by_found : (found : Option JobRecord) → job_at s.table number ≡ found → ChainsHaveOneSize (ended s found why).table
    by_found None is = sized
    by_found (Some row) is =
        subst ChainsHaveOneSize (sym (stepped_table (changes_at_end s row why) s))
        (ends_keep_sizes s.table row (outcome_of why) h j (find-Some (λ (job : JobRecord). job.number == number) s.table.jobs row is).0 g sized)

pub readied_sizes : (s : State) (number : ℕ) → ChainsHaveOneSize s.table → ChainsHaveOneSize (readied number s).table
readied_sizes s number sized = by_found (job_at s.table number)
  where
    by_found : (found : Option JobRecord) → ChainsHaveOneSize (readied_by s found).table
    by_found None = sized
    by_found (Some row) =
        subst ChainsHaveOneSize (sym (stepped_table (ready_edits row) s)) (changes_sized (ready_edits row) s.table (tt, tt) sized)

pub spoiled_sizes : (t : RunTable) (options : Created (List ℕ)) → ChainsHaveOneSize t → ChainsHaveOneSize (all_changed t (spoiled t options))
spoiled_sizes t (created.File c) s = changes_sized (spoiled t (created.File c)) t (tt, tt) s
spoiled_sizes t (created.Qcow2 c) s = changes_sized (spoiled t (created.Qcow2 c)) t (tt, tt) s
spoiled_sizes t created.Unknown s = s

pub written_sizes : (t : RunTable) (node : ℕ) → ChainsHaveOneSize t → ChainsHaveOneSize (written_under node t)
unfolding written_under
written_sizes t node s e over there from goes =
    one_size_mapped t (written_under node t) (unsettled_over t node) (λ r. keeps r (is_over t node r.id)) refl over e.child (s e over there from goes)
  where
    keeps : (r : NodeRecord) (b : Bool) → ((cond b (record r { is_settled = false }) r).id ≡ r.id) × ((cond b (record r { is_settled = false }) r).size ≡ r.size)
    keeps r true = (refl, refl)
    keeps r false = (refl, refl)

pub snapshots_keep_sizes : (t : RunTable) (node overlay : ℕ) → HaveOneSize t overlay node → ChainsHaveOneSize t
    → ChainsHaveOneSize (all_changed t (change.Attach overlay node ∷ change.Move node overlay overlay ∷ []))
snapshots_keep_sizes t node overlay one =
    changes_sized (change.Attach overlay node ∷ change.Move node overlay overlay ∷ []) t
    (one, (one_size_kept t (change.Attach overlay node) node overlay tt tt (one_size_back t overlay node one), tt))
