-- What jobs made writable stays so behind the start of one more, which can give back what it makes writable.
use Rattle.std.proofs.Common.{◌≡◌, ◌≢◌, ℕ, List, [], ◌∷◌, ◌++◌, map, refl, sym, ◌∙◌, ap, subst, inl, inr, cond, Option, Some, None}
use Rattle.std.specs.Prelude.{◌==◌, IsSome}
use Rattle.std.specs.List.{Contains}
use Rattle.std.proofs.lemmas.Bool.{eqb-true}
use Rattle.blk_graph.specs.declared.kind.Kind.{Kind}
use Rattle.blk_graph.specs.declared.kind.Kind.TheVariants as driver
use Rattle.blk_graph.specs.declared.kind.JobUse.{JobUse}
use Rattle.blk_graph.specs.declared.kind.JobUse.TheVariants.{CopyTarget, CommitTop, CommitBetween, CommitBase, StreamTop, StreamBelow}
use Rattle.blk_graph.specs.Paths.{Reaches}
use Rattle.blk_graph.proofs.Members.{Contains-here, find-Some}
use Rattle.qmp_codec.specs.declared.event.JobKind.{JobKind}
use Rattle.qmp_codec.specs.declared.event.JobKind.TheVariants.{Stream, Commit, Mirror, Backup}
use Rattle.qmp_rules.specs.declared.change.Change.{Change}
use Rattle.qmp_rules.specs.declared.change.Change.TheVariants as change
use Rattle.qmp_rules.specs.declared.rows.NodeRecord.{NodeRecord}
use Rattle.qmp_rules.specs.declared.rows.JobRecord.{JobRecord}
use Rattle.qmp_rules.specs.Asks.{is_base}
use Rattle.qmp_rules.specs.Changes.{changed, all_changed}
use Rattle.qmp_rules.specs.Edits.{free_id, of_row, filter_row, filter_edits, file_used, base_edits, under_top, commit_unsettles, commit_uses, target_edits, uses_target, uses_as, copy_edits, edits_by_kind, start_edits}
use Rattle.qmp_rules.specs.Table.{RunTable, node_by_id}
use Rattle.flat_machine.specs.Suiting.{IsThere}
use Rattle.flat_machine.specs.Wiring.{TableStands}
use Rattle.flat_machine.proofs.Tables.{pushed-cases}
use Rattle.job_tables.specs.Ends.{LentSuits}
use Rattle.job_tables.specs.Jobs.{JobsStand}
use Rattle.job_tables.specs.Rows.{nodes_of_job}
use Rattle.job_tables.specs.Starts.{IsToFilter, CopyBegins, CommitBegins, BeginsByKind, JobBegins}
use Rattle.job_tables.proofs.Begun.{IsBefore, AreBefore}
use Rattle.job_tables.proofs.Changes.{there_node}
use Rattle.job_tables.proofs.Copiers.{KeepsRows}
use Rattle.job_tables.proofs.Ended.{all_changed-append}
use Rattle.job_tables.proofs.RowEdges.{in_left, in_right}
use Rattle.job_tables.proofs.Runs.{target_of}
use Rattle.job_tables.proofs.Started.{before_used, before_target, before_commit, chain_way, source_held}
use Rattle.job_chains.specs.Lent.{BasesAreLent}
use Rattle.job_chains.proofs.LentKept.{PassesBases, AllPassBases, pass-append, AreLent, one_lent, all_lent, all_jobs_kept}

-- what comes first passes by all bases, and so do a job's edges
before_passes : (jobs : List JobRecord) (changes : List Change) → AreBefore changes → AllPassBases jobs changes
before_passes jobs [] h = tt
before_passes jobs (c ∷ changes) h = (one c h.0, before_passes jobs changes h.1)
  where
    one : (c : Change) → IsBefore c → KeepsRows c × PassesBases jobs c
    one (change.UseFile name) k = (tt, λ row base at is. tt)
    one (change.Unsettle node) k = (tt, λ row base at is. tt)
    one (change.MakeWritable node) k = (tt, λ row base at is. tt)
    one c k = absurd k

uses_pass : (jobs : List JobRecord) (slot : ℕ) (what : ℕ → JobUse) (ids : List ℕ) → AllPassBases jobs (map (λ id. change.UseNode slot (what id) id) ids)
uses_pass jobs slot what [] = tt
uses_pass jobs slot what (id ∷ ids) = ((tt, λ row base at is. tt), uses_pass jobs slot what ids)

module _ (t : RunTable) (h : TableStands t) (j : JobsStand t) (row : JobRecord) (b : JobBegins t row) where
  abbrev both : List JobRecord
  both = t.jobs ++ row ∷ []

  -- ---- its filter

  not_free : (f : IsToFilter t row) (node : ℕ) → IsThere t node → free_id t ≢ node
  not_free f node there same = let bad = subst IsSome (ap (node_by_id t) (sym same) ∙ f.fresh) there in cc bad

  pass_filter : (kind : Kind) → IsToFilter t row → ((base : ℕ) → row.target ≡ Some base → Contains (nodes_of_job row) base)
      → ((base : ℕ) → row.target ≡ Some base → row.source ≢ base) → AllPassBases both (filter_edits t kind row)
  pass_filter kind f has other = by_found (node_by_id t row.source) refl
    where
      apart : (job : JobRecord) (base : ℕ) → Contains both job → job.target ≡ Some base → (free_id t ≢ base) × (row.source ≢ base)
      apart job base at is = elim (pushed-cases t.jobs row job at) [
        | inl old ↦
            let held = target_of t job (j.each job old) base is in
            (not_free f base (there_node t j job base old held), λ same. b.holds job base old (subst (Contains row.held) same (source_held t h j row b)) held)
        | inr new ↦
            let own : row.target ≡ Some base = ap (λ (x : JobRecord). x.target) (sym new) ∙ is in
            (not_free f base (subst IsSome (sym (b.plain base (has base own)).there) refl), other base own)
      ]

      by_found : (found : Option NodeRecord) → node_by_id t row.source ≡ found
          → AllPassBases both (of_row (λ r. change.PutFilter (filter_row t kind row.id r) r.id ∷ []) found)
      by_found None e = tt
      by_found (Some r) e =
          let id : r.id ≡ row.source = eqb-true r.id row.source (find-Some (λ (x : NodeRecord). x.id == row.source) t.nodes r e).1 in
          ((tt, λ job base at is. let a = apart job base at is in (a.0, λ same. a.1 (sym id ∙ same))), tt)

  -- ---- all of a start

  module _ (lent : LentSuits t row) (g : BasesAreLent t) where
    before : AreLent t both
    before job at = elim (pushed-cases t.jobs row job at) [
      | inl old ↦ g job old
      | inr new ↦ subst (LentSuits t) (sym new) lent
    ]

    begins : (pre tail : List Change) → AllPassBases both pre → AllPassBases both tail → BasesAreLent (all_changed t (pre ++ change.StartJob row ∷ tail))
    unfolding changed
    begins pre tail first behind = subst BasesAreLent (sym (all_changed-append t pre (change.StartJob row ∷ tail))) go
      where
        begun : RunTable
        begun = changed (all_changed t pre) (change.StartJob row)

        jobs_begun : begun.jobs ≡ t.jobs ++ row ∷ []
        jobs_begun = ap (λ rows. rows ++ row ∷ []) (all_jobs_kept both pre t first)

        go : BasesAreLent (all_changed begun tail)
        go job at =
            all_lent both tail begun behind
            (one_lent (all_changed t pre) both (change.StartJob row) (λ other base there is. tt) (all_lent both pre t first before)) job
            (subst (λ rows. Contains rows job) (all_jobs_kept both tail begun behind ∙ jobs_begun) at)

    stream_lent : BasesAreLent (all_changed t (edits_by_kind t row Stream))
    stream_lent =
        begins (file_used t row.target) (change.UseNode row.slot StreamTop row.source ∷ uses_as row.slot StreamBelow row.read)
        (before_passes both (file_used t row.target) (before_used t row.target))
        ((tt, λ job base at is. tt), uses_pass both row.slot (λ id. StreamBelow) row.read)

    commit_lent : CommitBegins t row → BasesAreLent (all_changed t (edits_by_kind t row Commit))
    commit_lent x =
        begins (file_used t row.target ++ commit_unsettles t row ++ base_edits t row ++ filter_edits t driver.Commit row)
        (change.UseNode row.slot CommitTop row.source ∷ commit_uses row)
        (pass-append both (file_used t row.target ++ commit_unsettles t row ++ base_edits t row) (filter_edits t driver.Commit row)
        (before_passes both (file_used t row.target ++ commit_unsettles t row ++ base_edits t row) (before_commit t row))
        (pass_filter driver.Commit x.filter has other))
        ((tt, λ job base at is. tt), uses_pass both row.slot (λ id. cond (is_base row.target id) CommitBase CommitBetween) (under_top row))
      where
        same_base : (base : ℕ) → row.target ≡ Some base → x.base ≡ base
        same_base base is = let both : Some x.base ≡ Some base = sym x.is_base ∙ is in cc both

        below : Contains (x.between ++ x.base ∷ []) x.base
        below = in_right x.between (x.base ∷ []) x.base (Contains-here x.base [])

        has : (base : ℕ) → row.target ≡ Some base → Contains (nodes_of_job row) base
        has base is =
            subst (Contains (nodes_of_job row)) (same_base base is)
            (in_left row.held row.read x.base (subst (λ ids. Contains ids x.base) (sym x.held) (in_right (row.source ∷ []) (x.between ++ x.base ∷ []) x.base below)))

        other : (base : ℕ) → row.target ≡ Some base → row.source ≢ base
        other base is same =
            let way = chain_way t row.source (x.between ++ x.base ∷ []) x.linked x.base below in
            h.acyclic row.source (subst (λ n. Reaches t.edges row.source n) (same_base base is ∙ sym same) way)

    copy_lent : (kind : Kind) → CopyBegins t row → BasesAreLent (all_changed t (copy_edits t kind row))
    copy_lent kind c =
        subst (λ o. BasesAreLent (all_changed t (target_edits t o ++ filter_edits t kind row ++ change.StartJob row ∷ uses_target row o))) (sym c.is_target)
        (begins (first ++ filter_edits t kind row) (change.UseNode row.slot CopyTarget c.target ∷ [])
        (pass-append both first (filter_edits t kind row) (before_passes both first (before_target t (Some c.target))) (pass_filter kind c.filter has other))
        ((tt, λ job base at is. tt), tt))
      where
        first : List Change
        first = target_edits t (Some c.target)

        same_target : (base : ℕ) → row.target ≡ Some base → c.target ≡ base
        same_target base is = let both : Some c.target ≡ Some base = sym c.is_target ∙ is in cc both

        has : (base : ℕ) → row.target ≡ Some base → Contains (nodes_of_job row) base
        has base is =
            subst (Contains (nodes_of_job row)) (same_target base is)
            (in_left row.held row.read c.target
            (subst (λ ids. Contains ids c.target) (sym c.held) (in_right (row.source ∷ []) (c.target ∷ []) c.target (Contains-here c.target []))))

        other : (base : ℕ) → row.target ≡ Some base → row.source ≢ base
        other base is same = c.other (same_target base is ∙ sym same)

    any_lent : (k : JobKind) → BeginsByKind t row k → BasesAreLent (all_changed t (edits_by_kind t row k))
    any_lent Stream s = stream_lent
    any_lent Commit s = commit_lent s
    any_lent Mirror s = copy_lent driver.Mirror s.copies
    any_lent Backup s = copy_lent driver.BeforeWrite s

pub starts_keep_lent : (t : RunTable) (row : JobRecord) → TableStands t → JobsStand t → JobBegins t row → LentSuits t row → BasesAreLent t
    → BasesAreLent (all_changed t (start_edits t row))
unfolding start_edits
starts_keep_lent t row h j b lent g = any_lent t h j row b lent g row.kind b.shape
