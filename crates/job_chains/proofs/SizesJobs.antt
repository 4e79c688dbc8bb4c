-- The nodes of streams and commits are of one size, and stay so behind starts and ends.
use Rattle.std.proofs.Common.{◌≡◌, ℕ, List, [], ◌∷◌, ◌++◌, refl, sym, ◌∙◌, ap, subst, inl, inr, Some, None}
use Rattle.std.specs.Prelude.{slice_get}
use Rattle.std.specs.List.{Contains}
use Rattle.blk_graph.specs.declared.edge.Parent.TheVariants.{Node}
use Rattle.blk_graph.specs.declared.edge.Role.{Role}
use Rattle.blk_graph.specs.declared.edge.Role.TheVariants.{Backing, Filtered}
use Rattle.blk_graph.proofs.Members.{Contains-nil, Contains-here, Contains-cases}
use Rattle.qmp_codec.specs.declared.event.JobKind.{JobKind}
use Rattle.qmp_codec.specs.declared.event.JobKind.TheVariants.{Stream, Commit, Mirror, Backup}
use Rattle.qmp_rules.specs.declared.rows.JobRecord.{JobRecord}
use Rattle.qmp_rules.specs.Table.{RunTable, child}
use Rattle.flat_machine.specs.Jobs.{target_written, copied_to}
use Rattle.flat_machine.specs.Suiting.{HaveOneSize}
use Rattle.flat_machine.proofs.WritingKept.{role_edge}
use Rattle.job_tables.specs.Rows.{AreLinked}
use Rattle.job_tables.specs.Jobs.{CommitJobStands, IsOverFilter, StreamJobStands, StandsByKind, JobsStand}
use Rattle.job_tables.specs.Copiers.{CopiesGo}
use Rattle.job_tables.specs.Ends.{rebased_by}
use Rattle.job_tables.proofs.RowEdges.{in_right}
use Rattle.job_tables.proofs.Runs.{written_by}
use Rattle.job_chains.specs.Sizes.{GoesOn, ChainsHaveOneSize}
use Rattle.job_chains.proofs.SizesKept.{one_size_then}

-- ---- along a chain

child_size : (t : RunTable) (node below : ℕ) (role : Role) → GoesOn role → ChainsHaveOneSize t → child t node role ≡ Some below → HaveOneSize t node below
child_size t node below role goes s is =
    let x = role_edge (Node node) role t.edges below is in
    subst (HaveOneSize t node) x.to (s x.edge node x.there x.from (subst GoesOn (sym x.role_is) goes))

pub linked_size : (t : RunTable) (node : ℕ) (ids : List ℕ) → ChainsHaveOneSize t → AreLinked t node ids → (n : ℕ) → Contains ids n → HaveOneSize t node n
linked_size t node [] s l n there = absurd (Contains-nil n there)
linked_size t node (below ∷ ids) s l n there =
    let first = child_size t node below Backing tt s l.0 in
    elim (Contains-cases below ids n there) [
      | inl same ↦ subst (HaveOneSize t node) (sym same) first
      | inr more ↦ one_size_then t node below n first (linked_size t below ids s l.1 n more)
    ]

last_in : (between : List ℕ) (base : ℕ) → Contains (between ++ base ∷ []) base
last_in between base = in_right between (base ∷ []) base (Contains-here base [])

-- ---- jobs

module _ (t : RunTable) (s : ChainsHaveOneSize t) (row : JobRecord) where
  commit_size : CommitJobStands t row → (base : ℕ) → row.target ≡ Some base → HaveOneSize t row.source base
  commit_size c base is =
      let both : Some c.base ≡ Some base = sym c.is_base ∙ is in
      let same : c.base ≡ base = cc in
      subst (HaveOneSize t row.source) same (linked_size t row.source (c.between ++ c.base ∷ []) s c.linked c.base (last_in c.between c.base))

  stream_size : StreamJobStands t row → (base : ℕ) → row.target ≡ Some base → HaveOneSize t row.source base
  stream_size c base is =
      let r = c.reads base is in
      linked_size t row.source (r.between ++ base ∷ []) s r.linked base (last_in r.between base)

  -- the overlay over the top of an inner commit has the commit's filter as its backing node
  overlay_size : (c : CommitJobStands t row) (read : List ℕ) → IsOverFilter t read row.filter → (node base : ℕ) → slice_get read 0 ≡ Some node
      → row.target ≡ Some base → HaveOneSize t node base
  overlay_size c [] over node base at is = absurd (let bad : None ≡ Some node = at in cc bad)
  overlay_size c (overlay ∷ ids) over node base at is =
      let same : overlay ≡ node = let both : Some overlay ≡ Some node = at in cc in
      subst (λ n. HaveOneSize t n base) same
      (one_size_then t overlay c.filter.filter base (child_size t overlay c.filter.filter Backing tt s (over.0 ∙ c.filter.is_filter))
      (one_size_then t c.filter.filter row.source base (child_size t c.filter.filter row.source Filtered tt s c.filter.over) (commit_size c base is)))

  rebased_by_kind : (k : JobKind) → StandsByKind t row k → (node base : ℕ) → rebased_by row k ≡ Some node → row.target ≡ Some base → HaveOneSize t node base
  rebased_by_kind Stream stands node base at is =
      let same : row.source ≡ node = cc in
      subst (λ n. HaveOneSize t n base) same (stream_size stands base is)
  rebased_by_kind Commit stands node base at is = overlay_size stands row.read stands.overlay node base at is
  rebased_by_kind Mirror stands node base at is = absurd (let bad : None ≡ Some node = at in cc bad)
  rebased_by_kind Backup stands node base at is = absurd (let bad : None ≡ Some node = at in cc bad)

  written_by_kind : CopiesGo t → Contains t.jobs row → (k : JobKind) → row.kind ≡ k → StandsByKind t row k → (target : ℕ) → target_written row ≡ Some target
      → HaveOneSize t row.source target
  written_by_kind g here Stream k stands target is = absurd (let bad : None ≡ Some target = sym (written_by row Stream k) ∙ is in cc bad)
  written_by_kind g here Commit k stands target is = commit_size stands target (sym (written_by row Commit k) ∙ is)
  written_by_kind g here Mirror k stands target is = (g row target here (ap (copied_to row) k ∙ sym (written_by row Mirror k) ∙ is)).sizes
  written_by_kind g here Backup k stands target is = (g row target here (ap (copied_to row) k ∙ sym (written_by row Backup k) ∙ is)).sizes

pub rebased_size : (t : RunTable) (row : JobRecord) (node base : ℕ) → JobsStand t → ChainsHaveOneSize t → Contains t.jobs row
    → rebased_by row row.kind ≡ Some node → row.target ≡ Some base → HaveOneSize t node base
rebased_size t row node base j s here = rebased_by_kind t s row row.kind (j.each row here).shape node base

pub written_size : (t : RunTable) (row : JobRecord) (target : ℕ) → JobsStand t → CopiesGo t → ChainsHaveOneSize t → Contains t.jobs row
    → target_written row ≡ Some target → HaveOneSize t row.source target
written_size t row target j g s here = written_by_kind t s row g here row.kind refl (j.each row here).shape target

pub base_size : (t : RunTable) (row : JobRecord) (base : ℕ) → JobsStand t → ChainsHaveOneSize t → Contains t.jobs row → row.kind ≡ Commit
    → row.target ≡ Some base → HaveOneSize t row.source base
base_size t row base j s here k is = commit_size t s row (subst (StandsByKind t row) k (j.each row here).shape) base is
