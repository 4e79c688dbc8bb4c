-- Backups and mirrors go on behind the start of one more job, and begin with a target of their own.
use Rattle.std.proofs.Common.{◌≡◌, ◌≢◌, ℕ, List, [], ◌∷◌, ◌++◌, map, refl, sym, ◌∙◌, ap, subst, inl, inr, cond, Option, Some, None}
use Rattle.std.specs.Prelude.{◌==◌, IsSome}
use Rattle.std.specs.List.{Contains}
use Rattle.std.proofs.lemmas.Bool.{eqb-true}
use Rattle.blk_graph.specs.declared.edge.Edge.{Edge}
use Rattle.blk_graph.specs.declared.kind.Kind.{Kind}
use Rattle.blk_graph.specs.declared.kind.Kind.TheVariants as driver
use Rattle.blk_graph.specs.declared.kind.JobUse.{JobUse}
use Rattle.blk_graph.specs.declared.kind.JobUse.TheVariants.{CopyTarget, CommitTop, CommitBetween, CommitBase, StreamTop, StreamBelow}
use Rattle.blk_graph.specs.Permissions.{job_edge}
use Rattle.blk_graph.proofs.EditLemmas.{Contains-with_edge}
use Rattle.blk_graph.proofs.Members.{Contains-nil, Contains-here, Contains-there, Contains-cases, find-Some}
use Rattle.qmp_codec.specs.declared.event.JobKind.{JobKind}
use Rattle.qmp_codec.specs.declared.event.JobKind.TheVariants.{Stream, Commit, Mirror, Backup}
use Rattle.qmp_rules.specs.declared.change.Change.{Change}
use Rattle.qmp_rules.specs.declared.change.Change.TheVariants as change
use Rattle.qmp_rules.specs.declared.rows.NodeRecord.{NodeRecord}
use Rattle.qmp_rules.specs.declared.rows.JobRecord.{JobRecord}
use Rattle.qmp_rules.specs.Asks.{is_base}
use Rattle.qmp_rules.specs.Changes.{changed, all_changed}
use Rattle.qmp_rules.specs.Edits.{free_id, of_row, filter_row, filter_edits, file_used, base_edits, under_top, commit_unsettles, commit_uses, target_edits, uses_target, uses_as, copy_edits, edits_by_kind, start_edits}
use Rattle.qmp_rules.specs.Table.{RunTable, node_by_id, kinds_of}
use Rattle.flat_machine.specs.Jobs.{copied_to}
use Rattle.flat_machine.specs.Suiting.{IsThere}
use Rattle.flat_machine.specs.Wiring.{TableStands}
use Rattle.flat_machine.proofs.Tables.{pushed-cases, refreshed-old}
use Rattle.job_tables.specs.Rows.{nodes_of_job}
use Rattle.job_tables.specs.Jobs.{JobsStand}
use Rattle.job_tables.specs.Starts.{IsToFilter, CopyBegins, BeginsByKind, JobBegins}
use Rattle.job_tables.specs.Copiers.{CopyGoes, CopiesGo, CopyCanGo, CopierBegins}
use Rattle.job_tables.proofs.RowEdges.{in_left, in_right, in_drop}
use Rattle.job_tables.proofs.Changes.{there_node}
use Rattle.job_tables.proofs.Ended.{all_changed-append}
use Rattle.job_tables.proofs.Begun.{IsBefore, AreBefore}
use Rattle.job_tables.proofs.Started.{before_used, before_target, before_commit, source_held}
use Rattle.job_tables.proofs.TargetEdges.{one_size_kept}
use Rattle.job_tables.proofs.Copiers.{copied_target, copied_held, copied_has, copy_kept, can_kept, KeepsRows, PassesCopies, AllPassCopies, pass-append, RowsGo, rows_go, rows_same}

-- what comes first passes by all that is copied
before_passes : (jobs : List JobRecord) (changes : List Change) → AreBefore changes → AllPassCopies jobs changes
before_passes jobs [] h = tt
before_passes jobs (c ∷ changes) h = (one c h.0, before_passes jobs changes h.1)
  where
    one : (c : Change) → IsBefore c → KeepsRows c × PassesCopies jobs c
    one (change.UseFile name) k = (tt, λ row target at is. (tt, tt))
    one (change.Unsettle node) k = (tt, λ row target at is. (tt, tt))
    one (change.MakeWritable node) k = (tt, λ row target at is. (tt, tt))
    one c k = absurd k

-- ---- the job itself

all_can : (row : JobRecord) (target : ℕ) → copied_to row row.kind ≡ Some target → (changes : List Change) (t : RunTable) → AllPassCopies (row ∷ []) changes
    → CopyCanGo t row target → CopyCanGo (all_changed t changes) row target
all_can row target is [] t h g = g
all_can row target is (c ∷ changes) t h g =
    let p = h.0.1 row target (Contains-here row []) is in
    all_can row target is changes (changed t c) h.1 (can_kept t c row target p.0 p.1 g)

-- with its edge it goes
goes_then : (t : RunTable) (row : JobRecord) (target : ℕ) → CopyCanGo t row target → CopyGoes (changed t (change.UseNode row.slot CopyTarget target)) row target
unfolding changed
goes_then t row target g = record {
  alone = λ e there at.
      let x = refreshed-old (kinds_of t.nodes) _ e there in
      elim (Contains-with_edge (job_edge row.slot CopyTarget target) t.edges x.edge x.there) [
        | inl own ↦ sym x.same.parent ∙ ap (λ (y : Edge). y.parent) own
        | inr old ↦ absurd (g.alone x.edge old (x.same.child ∙ at))
      ];
  sizes = one_size_kept t (change.UseNode row.slot CopyTarget target) row.source target tt tt g.sizes;
}

module _ (t : RunTable) (h : TableStands t) (j : JobsStand t) (row : JobRecord) (b : JobBegins t row) (g : CopiesGo t) where
  abbrev mine : List JobRecord
  mine = row ∷ []

  is_mine : (other : JobRecord) → Contains mine other → other ≡ row
  is_mine other at = elim (Contains-cases row [] other at) [
    | inl same ↦ same
    | inr none ↦ absurd (Contains-nil other none)
  ]

  -- ---- its filter

  not_free : (f : IsToFilter t row) (node : ℕ) → IsThere t node → free_id t ≢ node
  not_free f node there same = let bad = subst IsSome (ap (node_by_id t) (sym same) ∙ f.fresh) there in cc bad

  pass_filter : (jobs : List JobRecord) (kind : Kind)
      → ((other : JobRecord) (target : ℕ) → Contains jobs other → copied_to other other.kind ≡ Some target → (free_id t ≢ target) × (row.source ≢ target))
      → AllPassCopies jobs (filter_edits t kind row)
  pass_filter jobs kind apart = by_found (node_by_id t row.source) refl
    where
      by_found : (found : Option NodeRecord) → node_by_id t row.source ≡ found
          → AllPassCopies jobs (of_row (λ r. change.PutFilter (filter_row t kind row.id r) r.id ∷ []) found)
      by_found None e = tt
      by_found (Some r) e =
          let id : r.id ≡ row.source = eqb-true r.id row.source (find-Some (λ (x : NodeRecord). x.id == row.source) t.nodes r e).1 in
          ((tt, λ other target at is. let a = apart other target at is in (tt, (a.0, λ same. a.1 (sym id ∙ same)))), tt)

  filter_old : (kind : Kind) → IsToFilter t row → AllPassCopies t.jobs (filter_edits t kind row)
  filter_old kind f =
      pass_filter t.jobs kind
      (λ other target at is. (
        not_free f target (there_node t j other target at (copied_has t other (j.each other at) target is)),
        λ same. b.holds other target at (subst (Contains row.held) same (source_held t h j row b)) (copied_has t other (j.each other at) target is),
      ))

  -- ---- its edges

  pass_use : (what : JobUse) (node : ℕ) → Contains (nodes_of_job row) node → KeepsRows (change.UseNode row.slot what node) × PassesCopies t.jobs (change.UseNode row.slot what node)
  pass_use what node has = (
    tt,
    λ other target at is. (tt, λ same. b.reads other target at (copied_held t other (j.each other at) target is) (subst (Contains (nodes_of_job row)) same has)),
  )

  pass_uses : (what : ℕ → JobUse) (ids : List ℕ) → ((id : ℕ) → Contains ids id → Contains (nodes_of_job row) id)
      → AllPassCopies t.jobs (map (λ id. change.UseNode row.slot (what id) id) ids)
  pass_uses what [] has = tt
  pass_uses what (id ∷ ids) has = (pass_use (what id) id (has id (Contains-here id ids)), pass_uses what ids (λ other at. has other (Contains-there id ids other at)))

  source_has : Contains (nodes_of_job row) row.source
  source_has = in_left row.held row.read row.source (source_held t h j row b)

  -- ---- all of a start

  begins : (pre tail : List Change) → AllPassCopies t.jobs pre → AllPassCopies t.jobs tail
      → ((target : ℕ) → copied_to row row.kind ≡ Some target → CopyGoes (all_changed (changed (all_changed t pre) (change.StartJob row)) tail) row target)
      → CopiesGo (all_changed t (pre ++ change.StartJob row ∷ tail))
  unfolding changed
  begins pre tail before behind own = subst CopiesGo (sym (all_changed-append t pre (change.StartJob row ∷ tail))) go
    where
      begun : RunTable
      begun = changed (all_changed t pre) (change.StartJob row)

      jobs_begun : begun.jobs ≡ t.jobs ++ row ∷ []
      jobs_begun = ap (λ rows. rows ++ row ∷ []) (rows_same t.jobs pre t before)

      old : RowsGo (all_changed begun tail) t.jobs
      old =
          rows_go t.jobs tail begun behind
          (λ other target at is. copy_kept (all_changed t pre) (change.StartJob row) other target tt tt (rows_go t.jobs pre t before g other target at is))

      go : CopiesGo (all_changed begun tail)
      go other target at is = elim (pushed-cases t.jobs row other (subst (λ rows. Contains rows other) (rows_same t.jobs tail begun behind ∙ jobs_begun) at)) [
        | inl was ↦ old other target was is
        | inr new ↦
            subst (λ (x : JobRecord). CopyGoes (all_changed begun tail) x target) (sym new)
            (own target (subst (λ (x : JobRecord). copied_to x x.kind ≡ Some target) new is))
      ]

  -- ---- by kind

  stream_goes : row.kind ≡ Stream → CopiesGo (all_changed t (edits_by_kind t row Stream))
  stream_goes k =
      begins (file_used t row.target) (change.UseNode row.slot StreamTop row.source ∷ uses_as row.slot StreamBelow row.read)
      (before_passes t.jobs (file_used t row.target) (before_used t row.target))
      (pass_use StreamTop row.source source_has, pass_uses (λ id. StreamBelow) row.read (λ id at. in_right row.held row.read id at))
      (λ target is. absurd (let bad : None ≡ Some target = sym (ap (copied_to row) k) ∙ is in cc bad))

  commit_goes : row.kind ≡ Commit → IsToFilter t row → CopiesGo (all_changed t (edits_by_kind t row Commit))
  commit_goes k f =
      begins (file_used t row.target ++ commit_unsettles t row ++ base_edits t row ++ filter_edits t driver.Commit row)
      (change.UseNode row.slot CommitTop row.source ∷ commit_uses row)
      (pass-append t.jobs (file_used t row.target ++ commit_unsettles t row ++ base_edits t row) (filter_edits t driver.Commit row)
      (before_passes t.jobs (file_used t row.target ++ commit_unsettles t row ++ base_edits t row) (before_commit t row)) (filter_old driver.Commit f)) (
        pass_use CommitTop row.source source_has,
        pass_uses (λ id. cond (is_base row.target id) CommitBase CommitBetween) (under_top row) (λ id at. in_left row.held row.read id (in_drop row.held id at)),
      )
      (λ target is. absurd (let bad : None ≡ Some target = sym (ap (copied_to row) k) ∙ is in cc bad))

  copy_goes : (kind : Kind) → CopyBegins t row → CopierBegins t row → ((target : ℕ) → row.target ≡ Some target → copied_to row row.kind ≡ Some target)
      → CopiesGo (all_changed t (copy_edits t kind row))
  copy_goes kind c can copied =
      subst (λ o. CopiesGo (all_changed t (target_edits t o ++ filter_edits t kind row ++ change.StartJob row ∷ uses_target row o))) (sym c.is_target)
      (begins (first ++ filter_edits t kind row) (change.UseNode row.slot CopyTarget c.target ∷ [])
      (pass-append t.jobs first (filter_edits t kind row) (before_passes t.jobs first (before_target t (Some c.target))) (filter_old kind c.filter))
      (pass_use CopyTarget c.target target_has, tt) own)
    where
      first : List Change
      first = target_edits t (Some c.target)

      target_in : Contains row.held c.target
      target_in = subst (λ ids. Contains ids c.target) (sym c.held) (Contains-there row.source (c.target ∷ []) c.target (Contains-here c.target []))

      target_has : Contains (nodes_of_job row) c.target
      target_has = in_left row.held row.read c.target target_in

      own_passes : AllPassCopies mine (first ++ filter_edits t kind row)
      own_passes =
          pass-append mine first (filter_edits t kind row) (before_passes mine first (before_target t (Some c.target)))
          (pass_filter mine kind (λ other target at is.
          let to : row.target ≡ Some target = copied_target row target (subst (λ (x : JobRecord). copied_to x x.kind ≡ Some target) (is_mine other at) is) in
          let both : Some c.target ≡ Some target = sym c.is_target ∙ to in
          let same : c.target ≡ target = cc both in
          let p = b.plain c.target target_has in
          subst (λ n. (free_id t ≢ n) × (row.source ≢ n)) same (not_free c.filter c.target (subst IsSome (sym p.there) refl), λ at_source. c.other (sym at_source))))

      can_then : CopyCanGo (changed (all_changed t (first ++ filter_edits t kind row)) (change.StartJob row)) row c.target
      can_then =
          can_kept (all_changed t (first ++ filter_edits t kind row)) (change.StartJob row) row c.target tt tt
          (all_can row c.target (copied c.target c.is_target) (first ++ filter_edits t kind row) t own_passes (can c.target (copied c.target c.is_target)))

      own : (target : ℕ) → copied_to row row.kind ≡ Some target
          → CopyGoes (changed (changed (all_changed t (first ++ filter_edits t kind row)) (change.StartJob row)) (change.UseNode row.slot CopyTarget c.target)) row target
      own target is =
          let both : Some c.target ≡ Some target = sym c.is_target ∙ copied_target row target is in
          let same : c.target ≡ target = cc both in
          let now : RunTable = changed (all_changed t (first ++ filter_edits t kind row)) (change.StartJob row) in
          subst (CopyGoes (changed now (change.UseNode row.slot CopyTarget c.target)) row) same (goes_then now row c.target can_then)

  any_goes : (k : JobKind) → row.kind ≡ k → BeginsByKind t row k → CopierBegins t row → CopiesGo (all_changed t (edits_by_kind t row k))
  any_goes Stream k s can = stream_goes k
  any_goes Commit k s can = commit_goes k s.filter
  any_goes Mirror k s can = copy_goes driver.Mirror s.copies can (λ target is. ap (copied_to row) k ∙ is)
  any_goes Backup k s can = copy_goes driver.BeforeWrite s can (λ target is. ap (copied_to row) k ∙ is)

pub starts_keep_copies : (t : RunTable) (row : JobRecord) → TableStands t → JobsStand t → JobBegins t row → CopierBegins t row → CopiesGo t
    → CopiesGo (all_changed t (start_edits t row))
unfolding start_edits
starts_keep_copies t row h j b can g = any_goes t h j row b g row.kind refl b.shape can
