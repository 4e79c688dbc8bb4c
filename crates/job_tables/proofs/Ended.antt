-- The changes of an end leave edges that a graph may have.
use Rattle.std.proofs.Common.{◌≡◌, ℕ, List, [], ◌∷◌, ◌++◌, map, replicate, refl, sym, ◌∙◌, ap, subst, Bool, true, false, cond, Option, Some, None}
use Rattle.std.specs.Prelude.{◌==◌}
use Rattle.std.specs.Option.{option_and_then}
use Rattle.std.specs.List.{Contains}
use Rattle.std.proofs.lemmas.List.{append_assoc}
use Rattle.blk_graph.specs.declared.edge.Role.TheVariants.{File}
use Rattle.blk_graph.specs.declared.kind.Kind.TheVariants as driver
use Rattle.blk_graph.specs.declared.kind.Kind.{Kind}
use Rattle.blk_graph.specs.declared.kind.NodeKind.{NodeKind}
use Rattle.blk_graph.specs.Paths.{IsAcyclic}
use Rattle.blk_graph.specs.Refreshed.{no_kind}
use Rattle.qmp_codec.specs.declared.event.JobKind.{JobKind}
use Rattle.qmp_codec.specs.declared.event.JobKind.TheVariants.{Stream, Commit, Mirror, Backup}
use Rattle.qmp_rules.specs.declared.change.Change.{Change}
use Rattle.qmp_rules.specs.declared.change.Change.TheVariants as change
use Rattle.qmp_rules.specs.declared.change.NewDisk.{NewDisk}
use Rattle.qmp_rules.specs.declared.change.NewDisk.TheVariants.{OfNode, OfStart}
use Rattle.qmp_rules.specs.declared.change.JobOutcome.{JobOutcome}
use Rattle.qmp_rules.specs.declared.change.JobOutcome.TheVariants.{Completed, Pivoted, Copied, Stopped}
use Rattle.qmp_rules.specs.declared.rows.NodeRecord.{NodeRecord}
use Rattle.qmp_rules.specs.declared.rows.JobRecord.{JobRecord}
use Rattle.qmp_rules.specs.Changes.{changed, all_changed, node_changed, settled, unsettled, without_record}
use Rattle.qmp_rules.specs.Ends.{drops_aside, filter_gone as pulled, moves, settle_if, settles_target, settled_by, top_lost, read_only_if, given_back_to, done_edits, end_edits}
use Rattle.qmp_rules.specs.Table.{RunTable, child, kind_of_record, kinds_of}
use Rattle.flat_machine.specs.Wiring.{HaveDistinctIds, TableStands}
use Rattle.flat_machine.proofs.RowKinds.{kinds-mapped}
use Rattle.job_edges.specs.Held.{EdgesStand, FilterStands, is_copiers, is_job_filter}
use Rattle.job_edges.specs.Ended.{AreOthers, job_gone, filter_gone, moved_to, rebased}
use Rattle.job_edges.proofs.Ended.{written_no_more, copies_stop, commits_stop, pivots, commits_complete, streams_complete, jobs_go, nodes_unbacked}
use Rattle.job_tables.specs.Rows.{HasFilterOf}
use Rattle.job_tables.specs.Jobs.{CopyStands, CommitJobStands, StreamJobStands, StandsByKind, JobsStand, EdgesAreDrawn}
use Rattle.job_tables.proofs.NodeKinds.{gone_apart, others_gone, mapped_apart, read_only_apart, read_only_less}
use Rattle.job_tables.proofs.JobsRest.{edges_stand, filter_at, filter_stands}
use Rattle.job_tables.proofs.Shapes.{mirror_target, through, commit_stands, commit_target, overlay_stands, stream_way, stream_stands, stream_backing}

-- a table whose edges stand
pub record IsDrawn (t : RunTable) : Type 0 where
  pub apart : HaveDistinctIds t
  pub edges : EdgesStand (kinds_of t.nodes) t.edges

-- ---- nodes that are settled, or may be written no more

abbrev pub IsQuiet : Change → Type 0
IsQuiet (change.Settle node disk) = Unit {0}
IsQuiet (change.Unsettle node) = Unit {0}
IsQuiet (change.MakeReadOnly node) = Unit {0}
IsQuiet c = ⊥

abbrev pub AreQuiet : List Change → Type 0
AreQuiet [] = Unit {0}
AreQuiet (c ∷ changes) = IsQuiet c × AreQuiet changes

pub quiet-append : (a b : List Change) → AreQuiet a → AreQuiet b → AreQuiet (a ++ b)
quiet-append [] b h k = k
quiet-append (c ∷ a) b h k = (h.0, quiet-append a b h.1 k)

settled_id : (id : ℕ) (row : NodeRecord) → (node_changed id settled row).id ≡ row.id
settled_id id row = by_test (row.id == id)
  where
    by_test : (b : Bool) → (cond b (settled row) row).id ≡ row.id
    by_test true = refl
    by_test false = refl

settled_kind : (id : ℕ) (row : NodeRecord) → kind_of_record (node_changed id settled row) ≡ kind_of_record row
settled_kind id row = by_test (row.id == id)
  where
    by_test : (b : Bool) → kind_of_record (cond b (settled row) row) ≡ kind_of_record row
    by_test true = refl
    by_test false = refl

unsettled_id : (id : ℕ) (row : NodeRecord) → (node_changed id unsettled row).id ≡ row.id
unsettled_id id row = by_test (row.id == id)
  where
    by_test : (b : Bool) → (cond b (unsettled row) row).id ≡ row.id
    by_test true = refl
    by_test false = refl

unsettled_kind : (id : ℕ) (row : NodeRecord) → kind_of_record (node_changed id unsettled row) ≡ kind_of_record row
unsettled_kind id row = by_test (row.id == id)
  where
    by_test : (b : Bool) → kind_of_record (cond b (unsettled row) row) ≡ kind_of_record row
    by_test true = refl
    by_test false = refl

-- rows that change in something else than their kinds
mapped_drawn : (t now : RunTable) (f : NodeRecord → NodeRecord) → ((row : NodeRecord) → (f row).id ≡ row.id)
    → ((row : NodeRecord) → kind_of_record (f row) ≡ kind_of_record row) → now.nodes ≡ map f t.nodes → now.edges ≡ t.edges → IsDrawn t → IsDrawn now
mapped_drawn t now f ids kinds nodes edges d = record {
  apart = mapped_apart t now f ids nodes d.apart;
  edges =
      let same : kinds_of now.nodes ≡ kinds_of t.nodes = ap kinds_of nodes ∙ kinds-mapped f ids kinds t.nodes (replicate 64 no_kind) in
      subst (λ ks. EdgesStand ks now.edges) (sym same) (subst (EdgesStand (kinds_of t.nodes)) (sym edges) d.edges);
}

quiet_drawn : (t : RunTable) (c : Change) → IsQuiet c → IsDrawn t → IsDrawn (changed t c)
unfolding changed
quiet_drawn t (change.Settle node disk) q d =
    mapped_drawn t (changed t (change.Settle node disk)) (node_changed node settled) (settled_id node) (settled_kind node) refl refl d
quiet_drawn t (change.Unsettle node) q d =
    mapped_drawn t (changed t (change.Unsettle node)) (node_changed node unsettled) (unsettled_id node) (unsettled_kind node) refl refl d
quiet_drawn t (change.MakeReadOnly node) q d =
    let now : RunTable = changed t (change.MakeReadOnly node) in
    record {
      apart = read_only_apart t now node refl d.apart;
      edges = written_no_more (kinds_of t.nodes) (kinds_of now.nodes) t.edges d.edges (read_only_less t now node refl d.apart);
    }
quiet_drawn t c q d = absurd q

all_quiet : (changes : List Change) (t : RunTable) → AreQuiet changes → IsDrawn t → IsDrawn (all_changed t changes)
all_quiet [] t q d = d
all_quiet (c ∷ changes) t q d = all_quiet changes (changed t c) q.1 (quiet_drawn t c q.0 d)

pub all_changed-append : (t : RunTable) (a b : List Change) → all_changed t (a ++ b) ≡ all_changed (all_changed t a) b
all_changed-append t [] b = refl
all_changed-append t (c ∷ a) b = all_changed-append (changed t c) a b

-- ---- what stands behind the moves

quiet_settle : (b : Bool) (target : Option ℕ) (disk : NewDisk) → AreQuiet (settle_if b target disk)
quiet_settle true (Some target) disk = (tt, tt)
quiet_settle true None disk = tt
quiet_settle false target disk = tt

quiet_settled : (row : JobRecord) (k : JobKind) → AreQuiet (settled_by row k)
quiet_settled row Stream = tt
quiet_settled row Commit = quiet_settle true row.target (OfNode row.source)
quiet_settled row Mirror = quiet_settle true row.target (OfNode row.source)
quiet_settled row Backup = quiet_settle (settles_target row.bitmap) row.target (OfStart row.number)

quiet_top : (row : JobRecord) (k : JobKind) (o : JobOutcome) → AreQuiet (top_lost row k o)
quiet_top row Commit Pivoted = (tt, tt)
quiet_top row k o = tt

quiet_if : (b : Bool) (node : Option ℕ) → AreQuiet (read_only_if b node)
quiet_if true (Some node) = (tt, tt)
quiet_if true None = tt
quiet_if false node = tt

quiet_back : (t : RunTable) (row : JobRecord)
    → AreQuiet (read_only_if row.made_writable.base row.target ++ read_only_if row.made_writable.file (option_and_then (λ base. child t base File) row.target))
quiet_back t row =
    quiet-append (read_only_if row.made_writable.base row.target) (read_only_if row.made_writable.file (option_and_then (λ base. child t base File) row.target))
    (quiet_if row.made_writable.base row.target) (quiet_if row.made_writable.file (option_and_then (λ base. child t base File) row.target))

pub quiet_given : (t : RunTable) (row : JobRecord) (o : JobOutcome) → AreQuiet (given_back_to t row o)
quiet_given t row Pivoted = tt
quiet_given t row Completed = quiet_back t row
quiet_given t row Copied = quiet_back t row
quiet_given t row Stopped = quiet_back t row

-- the moves, and what stands behind them
abbrev pub moves_by : JobRecord → JobKind → JobOutcome → List Change
moves_by row k Stopped = []
moves_by row k Completed = moves row k Completed
moves_by row k Pivoted = moves row k Pivoted
moves_by row k Copied = moves row k Copied

abbrev pub rest_by : JobRecord → JobKind → JobOutcome → List Change
rest_by row k Stopped = []
rest_by row k Completed = settled_by row k ++ top_lost row k Completed
rest_by row k Pivoted = settled_by row k ++ top_lost row k Pivoted
rest_by row k Copied = settled_by row k ++ top_lost row k Copied

done_is : (row : JobRecord) (o : JobOutcome) → done_edits row o ≡ moves_by row row.kind o ++ rest_by row row.kind o
done_is row Stopped = refl
done_is row Completed = append_assoc (moves row row.kind Completed) (settled_by row row.kind) (top_lost row row.kind Completed)
done_is row Pivoted = append_assoc (moves row row.kind Pivoted) (settled_by row row.kind) (top_lost row row.kind Pivoted)
done_is row Copied = append_assoc (moves row row.kind Copied) (settled_by row row.kind) (top_lost row row.kind Copied)

pub quiet_rest : (row : JobRecord) (k : JobKind) (o : JobOutcome) → AreQuiet (rest_by row k o)
quiet_rest row k Stopped = tt
quiet_rest row k Completed = quiet-append (settled_by row k) (top_lost row k Completed) (quiet_settled row k) (quiet_top row k Completed)
quiet_rest row k Pivoted = quiet-append (settled_by row k) (top_lost row k Pivoted) (quiet_settled row k) (quiet_top row k Pivoted)
quiet_rest row k Copied = quiet-append (settled_by row k) (top_lost row k Copied) (quiet_settled row k) (quiet_top row k Copied)

pub end_is : (t : RunTable) (row : JobRecord) (o : JobOutcome)
    → end_edits t row o
    ≡ (change.EndJob row.number row.slot (drops_aside o row.bitmap) ∷ pulled row.filter ++ moves_by row row.kind o) ++ (rest_by row row.kind o ++ given_back_to t row o)
unfolding end_edits
end_is t row o =
    let first : Change = change.EndJob row.number row.slot (drops_aside o row.bitmap) in
    let m : List Change = moves_by row row.kind o in
    let r : List Change = rest_by row row.kind o in
    let g : List Change = given_back_to t row o in
    ap (λ d. first ∷ (pulled row.filter ++ d) ++ g) (done_is row o)
    ∙ ap (λ d. first ∷ d ++ g) (sym (append_assoc (pulled row.filter) m r))
    ∙ ap (λ d. first ∷ d) (append_assoc (pulled row.filter ++ m) r g)

-- ---- the job, its filter and the moves

module _ (t : RunTable) (h : TableStands t) (j : JobsStand t) (d : EdgesAreDrawn t) (row : JobRecord) (here : Contains t.jobs row) (number : ℕ) (drops : Bool) where
  abbrev kinds : List NodeKind
  kinds = kinds_of t.nodes

  abbrev first : Change
  first = change.EndJob number row.slot drops

  stand : EdgesStand kinds t.edges
  stand = edges_stand t h j d

  job_over : IsDrawn (all_changed t (first ∷ []))
  unfolding changed
  job_over = record { apart = h.apart; edges = jobs_go kinds t.edges row.slot stand }

  -- ---- streams

  stream_moves : (k : row.kind ≡ Stream) → StreamJobStands t row → (o : JobOutcome) → IsDrawn (all_changed t (first ∷ moves_by row Stream o))
  unfolding changed
  stream_moves k s Completed = by_target row.target refl
    where
      by_target : (target : Option ℕ) → row.target ≡ target → IsDrawn (all_changed t (first ∷ change.Rebase row.source target ∷ []))
      by_target None is = record { apart = h.apart; edges = nodes_unbacked kinds (job_gone kinds row.slot t.edges) row.source (jobs_go kinds t.edges row.slot stand) }
      by_target (Some base) is =
          let r = s.reads base is in
          record {
            apart = h.apart;
            edges = streams_complete kinds t.edges row.source base row.slot stand (stream_stands t h j d row here k base r)
                (stream_backing t h j d row here k base r) (stream_way t h j d row here k base r);
          }
  stream_moves k s Pivoted = job_over
  stream_moves k s Copied = job_over
  stream_moves k s Stopped = job_over

  -- ---- jobs with a filter

  module _ (kind : Kind) (of_job : is_job_filter kind ≡ true) (f : HasFilterOf t row kind) where
    abbrev pull : Change
    pull = change.PullFilter f.filter

    abbrev after : List NodeKind
    after = kinds_of (without_record f.filter t.nodes)

    own : FilterStands kinds t.edges f.filter row.source row.slot
    own = filter_stands t h j d row here kind of_job f

    others : AreOthers kinds after f.filter
    others = others_gone t (record t { nodes = without_record f.filter t.nodes }) f.filter refl h.apart

    apart_after : HaveDistinctIds (record t { nodes = without_record f.filter t.nodes })
    apart_after = gone_apart t (record t { nodes = without_record f.filter t.nodes }) f.filter refl h.apart

    filter_over : EdgesStand after (filter_gone kinds after row.slot f.filter t.edges) → IsDrawn (all_changed t (first ∷ pull ∷ []))
    unfolding changed
    filter_over edges = record { apart = apart_after; edges = edges }

    moved_over : (target : ℕ) → EdgesStand after (moved_to kinds after row.slot f.filter row.source target t.edges)
        → IsDrawn (all_changed t (first ∷ pull ∷ change.Move row.source target f.filter ∷ []))
    unfolding changed
    moved_over target edges = record { apart = apart_after; edges = edges }

    rebased_over : (overlay base : ℕ) → EdgesStand after (rebased after overlay base (filter_gone kinds after row.slot f.filter t.edges))
        → IsDrawn (all_changed t (first ∷ pull ∷ change.Rebase overlay (Some base) ∷ []))
    unfolding changed
    rebased_over overlay base edges = record { apart = apart_after; edges = edges }

  copy_over : (kind : Kind) → is_job_filter kind ≡ true → is_copiers kind ≡ true → (c : CopyStands t row kind)
      → IsDrawn (all_changed t (first ∷ change.PullFilter c.filter.filter ∷ []))
  copy_over kind of_job copies c =
      filter_over kind of_job c.filter
      (copies_stop kinds (after kind of_job c.filter) t.edges c.filter.filter row.source row.slot stand (own kind of_job c.filter) (others kind of_job c.filter)
      (ap is_copiers (filter_at t h j d row kind c.filter) ∙ copies))

  mirror_moves : (k : row.kind ≡ Mirror) → (c : CopyStands t row driver.Mirror) → (o : JobOutcome) → IsDrawn (all_changed t (first ∷ pulled row.filter ++ moves_by row Mirror o))
  mirror_moves k c Pivoted =
      rw (c.filter.is_filter, c.is_target) (moved_over driver.Mirror refl c.filter c.target
      (pivots kinds (after driver.Mirror refl c.filter) t.edges c.filter.filter row.source row.slot stand (own driver.Mirror refl c.filter) (others driver.Mirror refl c.filter)
      c.target (mirror_target t h j d row here k c)))
  mirror_moves k c Completed = rw c.filter.is_filter (copy_over driver.Mirror refl refl c)
  mirror_moves k c Copied = rw c.filter.is_filter (copy_over driver.Mirror refl refl c)
  mirror_moves k c Stopped = rw c.filter.is_filter (copy_over driver.Mirror refl refl c)

  backup_moves : (c : CopyStands t row driver.BeforeWrite) → (o : JobOutcome) → IsDrawn (all_changed t (first ∷ pulled row.filter ++ moves_by row Backup o))
  backup_moves c Pivoted = rw c.filter.is_filter (copy_over driver.BeforeWrite refl refl c)
  backup_moves c Completed = rw c.filter.is_filter (copy_over driver.BeforeWrite refl refl c)
  backup_moves c Copied = rw c.filter.is_filter (copy_over driver.BeforeWrite refl refl c)
  backup_moves c Stopped = rw c.filter.is_filter (copy_over driver.BeforeWrite refl refl c)

  commit_over : (k : row.kind ≡ Commit) (c : CommitJobStands t row) → IsDrawn (all_changed t (first ∷ change.PullFilter c.filter.filter ∷ []))
  commit_over k c =
      filter_over driver.Commit refl c.filter
      (commits_stop kinds (after driver.Commit refl c.filter) t.edges c.filter.filter row.source row.slot stand (own driver.Commit refl c.filter) (others driver.Commit refl c.filter)
      (through t h j d row here k c) c.base (commit_stands t h j d row here k c c.filter.filter (own driver.Commit refl c.filter).kind))

  commit_moves : (k : row.kind ≡ Commit) (c : CommitJobStands t row) (o : JobOutcome) → IsDrawn (all_changed t (first ∷ pulled row.filter ++ moves_by row Commit o))
  commit_moves k c Pivoted =
      rw (c.filter.is_filter, c.is_base) (moved_over driver.Commit refl c.filter c.base
      (pivots kinds (after driver.Commit refl c.filter) t.edges c.filter.filter row.source row.slot stand (own driver.Commit refl c.filter) (others driver.Commit refl c.filter)
      c.base (commit_target t h j d row here k c)))
  commit_moves k c Completed = by_read row.read refl
    where
      by_read : (read : List ℕ) → row.read ≡ read → IsDrawn (all_changed t (first ∷ pulled row.filter ++ moves row Commit Completed))
      by_read [] is = rw (c.filter.is_filter, c.is_base, is) (commit_over k c)
      by_read (overlay ∷ ids) is =
          let o = overlay_stands t h j d row here k c overlay ids is in
          rw (c.filter.is_filter, c.is_base, is) (rebased_over driver.Commit refl c.filter overlay c.base
          (commits_complete kinds (after driver.Commit refl c.filter) t.edges c.filter.filter row.source row.slot stand (own driver.Commit refl c.filter)
          (others driver.Commit refl c.filter) (through t h j d row here k c) c.base overlay
          (commit_stands t h j d row here k c c.filter.filter (own driver.Commit refl c.filter).kind) o.0 o.1))
  commit_moves k c Copied = rw c.filter.is_filter (commit_over k c)
  commit_moves k c Stopped = rw c.filter.is_filter (commit_over k c)

  any_moves : (k : JobKind) → row.kind ≡ k → StandsByKind t row k → (o : JobOutcome) → IsDrawn (all_changed t (first ∷ pulled row.filter ++ moves_by row k o))
  any_moves Stream k s o = rw s.bare (stream_moves k s o)
  any_moves Commit k s o = commit_moves k s o
  any_moves Mirror k s o = mirror_moves k s o
  any_moves Backup k s o = backup_moves s o

-- ---- the whole list

pub ends_drawn : (t : RunTable) (row : JobRecord) (o : JobOutcome) → TableStands t → JobsStand t → EdgesAreDrawn t → Contains t.jobs row
    → IsDrawn (all_changed t (end_edits t row o))
ends_drawn t row o h j d here =
    let head : List Change = change.EndJob row.number row.slot (drops_aside o row.bitmap) ∷ pulled row.filter ++ moves_by row row.kind o in
    let tail : List Change = rest_by row row.kind o ++ given_back_to t row o in
    subst (λ changes. IsDrawn (all_changed t changes)) (sym (end_is t row o))
    (subst IsDrawn (sym (all_changed-append t head tail))
    (all_quiet tail (all_changed t head) (quiet-append (rest_by row row.kind o) (given_back_to t row o) (quiet_rest row row.kind o) (quiet_given t row o))
    (any_moves t h j d row here row.number (drops_aside o row.bitmap) row.kind refl (j.each row here).shape o)))

pub ends_keep : (t : RunTable) (row : JobRecord) (o : JobOutcome) → TableStands t → JobsStand t → EdgesAreDrawn t → Contains t.jobs row
    → EdgesAreDrawn (all_changed t (end_edits t row o)) × IsAcyclic (all_changed t (end_edits t row o)).edges
ends_keep t row o h j d here =
    let r = (ends_drawn t row o h j d here).edges in
    (record { listed = r.listed; table = r.table; refreshed = r.refreshed; rule = r.rule }, r.acyclic)
