-- The changes of a start make edges that may be drawn, where they keep the rule on permissions.
use Rattle.std.proofs.Common.{◌≡◌, ℕ, ◌<◌, List, [], ◌∷◌, ◌++◌, map, refl, sym, ◌∙◌, ap, subst, inl, inr, true, Option, Some, None}
use Rattle.std.specs.Prelude.{◌==◌, IsSome}
use Rattle.std.specs.List.{Contains}
use Rattle.std.proofs.lemmas.Bool.{eqb-true}
use Rattle.blk_graph.specs.declared.edge.Role.TheVariants.{Filtered}
use Rattle.blk_graph.specs.declared.kind.Kind.{Kind}
use Rattle.blk_graph.specs.declared.kind.Kind.TheVariants as driver
use Rattle.blk_graph.specs.declared.kind.JobUse.TheVariants.{CopyTarget, CommitTop, StreamTop, StreamBelow}
use Rattle.blk_graph.specs.Permissions.{has_role}
use Rattle.blk_graph.proofs.Members.{Contains-nil, Contains-here, Contains-cases, Contains-map, find-Some}
use Rattle.qmp_codec.specs.declared.event.JobKind.{JobKind}
use Rattle.qmp_codec.specs.declared.event.JobKind.TheVariants.{Stream, Commit, Mirror, Backup}
use Rattle.qmp_rules.specs.declared.change.Change.{Change}
use Rattle.qmp_rules.specs.declared.change.Change.TheVariants as change
use Rattle.qmp_rules.specs.declared.rows.NodeRecord.{NodeRecord}
use Rattle.qmp_rules.specs.declared.rows.JobRecord.{JobRecord}
use Rattle.qmp_rules.specs.Changes.{changed, all_changed}
use Rattle.qmp_rules.specs.Edits.{free_id, of_row, filter_row, filter_edits, file_used, base_edits, under_top, commit_unsettles, commit_uses, target_edits, uses_target, uses_as, copy_edits, edits_by_kind, start_edits}
use Rattle.qmp_rules.specs.Table.{RunTable, node_by_id}
use Rattle.flat_machine.specs.Suiting.{IsPlainNode, IsThere}
use Rattle.flat_machine.specs.Wiring.{EdgesHaveEnds, TableStands}
use Rattle.job_tables.specs.Accepted.{HaveSmallIds}
use Rattle.job_tables.specs.Jobs.{JobsStand, EdgesAreDrawn}
use Rattle.job_tables.specs.Rows.{nodes_of_job}
use Rattle.job_tables.specs.Starts.{IsToFilter, CopyBegins, BeginsByKind, JobBegins}
use Rattle.job_tables.proofs.Begun.{IsLikeTable, AreBefore, all_before}
use Rattle.job_tables.proofs.Drawn.{IsDraft, IsDrawnDraft, all_before_draft, row_draft, put_draft, all_uses}
use Rattle.job_tables.proofs.Ended.{all_changed-append}
use Rattle.job_tables.proofs.Put.{plain_put}
use Rattle.job_tables.proofs.RowEdges.{in_left, in_right, in_drop}
use Rattle.job_tables.proofs.Started.{before_used, before_target, before_commit, source_held, source_plain}
use Rattle.job_tables.proofs.Uses.{UseOf, change_of, below_use, commit_use, target_uses, uses_by, stream_changes, commit_changes, target_changes}

module _ (t : RunTable) (h : TableStands t) (j : JobsStand t) (d : EdgesAreDrawn t) (small : HaveSmallIds t) (row : JobRecord) (b : JobBegins t row) where
  draft : IsDraft t
  draft = record { apart = h.apart; ends = h.edges; small = small; listed = d.listed; table = d.table; acyclic = h.acyclic }

  -- ---- the nodes that it uses

  source_use : (us : List UseOf) (u top : UseOf) → top.node ≡ row.source → (Contains us u → Contains (nodes_of_job row) u.node) → Contains (top ∷ us) u
      → Contains (nodes_of_job row) u.node
  source_use us u top is rest at = elim (Contains-cases top us u at) [
    | inl same ↦
        subst (Contains (nodes_of_job row)) (sym (ap (λ (x : UseOf). x.node) same ∙ is)) (in_left row.held row.read row.source (source_held t h j row b))
    | inr more ↦ rest more
  ]

  target_use : CopyBegins t row → (u : UseOf) → Contains (target_uses row.target) u → Contains (nodes_of_job row) u.node
  target_use c u at =
      elim (Contains-cases (record { what = CopyTarget; node = c.target }) [] u (subst (λ o. Contains (target_uses o) u) c.is_target at)) [
        | inl same ↦
            in_left row.held row.read u.node
            (subst (Contains row.held) (sym (ap (λ (x : UseOf). x.node) same))
            (subst (λ ids. Contains ids c.target) (sym c.held) (in_right (row.source ∷ []) (c.target ∷ []) c.target (here c.target))))
        | inr none ↦ absurd (Contains-nil u none)
      ]
    where
      here : (n : ℕ) → Contains (n ∷ []) n
      here n = Contains-here n []

  uses_in : (k : JobKind) → BeginsByKind t row k → (u : UseOf) → Contains (uses_by row k) u → Contains (nodes_of_job row) u.node
  uses_in Stream s u at =
      source_use (map below_use row.read) u (record { what = StreamTop; node = row.source }) refl
      (λ more. let r = Contains-map below_use row.read u more in
      subst (Contains (nodes_of_job row)) (sym (ap (λ (x : UseOf). x.node) r.2)) (in_right row.held row.read r.0 r.1)) at
  uses_in Commit s u at =
      source_use (map (commit_use row) (under_top row)) u (record { what = CommitTop; node = row.source }) refl
      (λ more. let r = Contains-map (commit_use row) (under_top row) u more in
      subst (Contains (nodes_of_job row)) (sym (ap (λ (x : UseOf). x.node) r.2)) (in_left row.held row.read r.0 (in_drop row.held r.0 r.1))) at
  uses_in Mirror s u at = target_use s.copies u at
  uses_in Backup s u at = target_use s u at

  plain_there : (now : RunTable) (node : ℕ) → IsPlainNode now node → IsThere now node
  plain_there now node p = subst IsSome (sym p.there) refl

  -- ---- its row and its edges, in a table where its nodes are plain

  uses_drawn : (now : RunTable) → IsDraft now → ((node : ℕ) → IsPlainNode t node → IsPlainNode now node) → (u : UseOf) (us : List UseOf)
      → ((v : UseOf) → Contains (u ∷ us) v → Contains (nodes_of_job row) v.node)
      → IsDrawnDraft (all_changed now (change.StartJob row ∷ map (change_of row.slot) (u ∷ us)))
  unfolding changed
  uses_drawn now dr plain u us own =
      all_uses u us (changed now (change.StartJob row)) row.slot b.slot
      (λ v at. plain_there now v.node (plain v.node (b.plain v.node (own v at)))) (row_draft now row dr)

  stream_drawn : BeginsByKind t row Stream → IsDrawnDraft (all_changed t (edits_by_kind t row Stream))
  stream_drawn s =
      let pre : List Change = file_used t row.target in
      let uses : List Change = change.UseNode row.slot StreamTop row.source ∷ uses_as row.slot StreamBelow row.read in
      let like = all_before pre t (before_used t row.target) in
      subst IsDrawnDraft (sym (all_changed-append t pre (change.StartJob row ∷ uses)))
      (subst (λ (changes : List Change). IsDrawnDraft (all_changed (all_changed t pre) (change.StartJob row ∷ changes))) (stream_changes row)
      (uses_drawn (all_changed t pre) (all_before_draft pre t (before_used t row.target) draft) like.plain (record { what = StreamTop; node = row.source })
      (map below_use row.read) (uses_in Stream s)))

  -- ---- with a filter

  module _ (pre : List Change) (before : AreBefore pre) (kind : Kind) (filters : has_role kind Filtered ≡ true) (f : IsToFilter t row) (few : free_id t < 64) where
    abbrev first : RunTable
    first = all_changed t pre

    like : IsLikeTable t first
    like = all_before pre t before

    p : IsPlainNode t row.source
    p = source_plain t h j row b

    abbrev new : NodeRecord
    new = filter_row t kind row.id p.row

    abbrev ready : RunTable
    ready = changed first (change.PutFilter new row.source)

    fresh : node_by_id first new.id ≡ None
    fresh = like.absent (free_id t) f.fresh

    ends : EdgesHaveEnds first
    ends = like.ends h.edges

    first_draft : IsDraft first
    first_draft = all_before_draft pre t before draft

    ready_draft : IsDraft ready
    ready_draft = put_draft first new row.source fresh few filters (plain_there first row.source (like.plain row.source p)) first_draft

    ready_plain : (node : ℕ) → IsPlainNode t node → IsPlainNode ready node
    ready_plain node q = plain_put first new row.source fresh ends node (like.plain node q)

    filter_is : filter_edits t kind row ≡ change.PutFilter new row.source ∷ []
    filter_is =
        ap (of_row (λ r. change.PutFilter (filter_row t kind row.id r) r.id ∷ [])) p.there
        ∙ ap (λ n. change.PutFilter new n ∷ []) (eqb-true p.row.id row.source (find-Some (λ (r : NodeRecord). r.id == row.source) t.nodes p.row p.there).1)

    ready_is : all_changed t (pre ++ filter_edits t kind row) ≡ ready
    ready_is = all_changed-append t pre (filter_edits t kind row) ∙ ap (all_changed first) filter_is

    with_drawn : (u : UseOf) (us : List UseOf) → ((v : UseOf) → Contains (u ∷ us) v → Contains (nodes_of_job row) v.node) → (uses : List Change)
        → map (change_of row.slot) (u ∷ us) ≡ uses → IsDrawnDraft (all_changed t (pre ++ filter_edits t kind row ++ change.StartJob row ∷ uses))
    with_drawn u us own uses is =
        subst IsDrawnDraft (sym (all_changed-append t (pre ++ filter_edits t kind row) (change.StartJob row ∷ uses)))
        (subst (λ x. IsDrawnDraft (all_changed x (change.StartJob row ∷ uses))) (sym ready_is)
        (subst (λ (changes : List Change). IsDrawnDraft (all_changed ready (change.StartJob row ∷ changes))) is (uses_drawn ready ready_draft ready_plain u us own)))

  copy_drawn : (kind : Kind) → has_role kind Filtered ≡ true → CopyBegins t row → free_id t < 64 → IsDrawnDraft (all_changed t (copy_edits t kind row))
  copy_drawn kind filters c few =
      subst (λ (o : Option ℕ). IsDrawnDraft (all_changed t (target_edits t o ++ filter_edits t kind row ++ change.StartJob row ∷ uses_target row o))) (sym c.is_target)
      (with_drawn (target_edits t (Some c.target)) (before_target t (Some c.target)) kind filters c.filter few (record { what = CopyTarget; node = c.target }) []
      (λ v at. target_use c v (subst (λ o. Contains (target_uses o) v) (sym c.is_target) at)) (uses_target row (Some c.target)) (target_changes row (Some c.target)))

  commit_drawn : (s : BeginsByKind t row Commit) → free_id t < 64 → IsDrawnDraft (all_changed t (edits_by_kind t row Commit))
  commit_drawn s few =
      with_drawn (file_used t row.target ++ commit_unsettles t row ++ base_edits t row) (before_commit t row) driver.Commit refl s.filter few
      (record { what = CommitTop; node = row.source }) (map (commit_use row) (under_top row)) (uses_in Commit s)
      (change.UseNode row.slot CommitTop row.source ∷ commit_uses row) (commit_changes row)

  any_drawn : (k : JobKind) → BeginsByKind t row k → free_id t < 64 → IsDrawnDraft (all_changed t (edits_by_kind t row k))
  any_drawn Stream s few = stream_drawn s
  any_drawn Commit s few = commit_drawn s few
  any_drawn Mirror s few = copy_drawn driver.Mirror refl s.copies few
  any_drawn Backup s few = copy_drawn driver.BeforeWrite refl s few

  pub starts_drawn : free_id t < 64 → IsDrawnDraft (all_changed t (start_edits t row))
  unfolding start_edits
  starts_drawn few = any_drawn row.kind b.shape few

  -- a stream adds no node
  pub streams_drawn : row.kind ≡ Stream → IsDrawnDraft (all_changed t (start_edits t row))
  unfolding start_edits
  streams_drawn is =
      subst (λ k. IsDrawnDraft (all_changed t (edits_by_kind t row k))) (sym is) (stream_drawn (subst (BeginsByKind t row) is b.shape))
