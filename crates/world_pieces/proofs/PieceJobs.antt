-- Jobs beside a piece of a guest's request: no commit runs, jobs stay as they stand, and are as far as before but for what a mirror or commit has to copy again.
use Rattle.std.proofs.Common.{◌≡◌, ◌≢◌, ℕ, ◌==◌, Bool, true, false, cond, List, [], ◌∷◌, Option, Some, None, refl, sym, ◌∙◌, ap, subst}
use Rattle.std.specs.Prelude.{AllPairs, Contains}
use Rattle.std.specs.List.{cons_option}
use Rattle.std.proofs.lemmas.Bool.{false≢true}
use Rattle.blk_base.specs.Pieces.{Extent}
use Rattle.blk_base.specs.declared.fault.Outcome.{Outcome}
use Rattle.blk_graph.proofs.Members.{find-Some}
use Rattle.blk_graph.specs.declared.kind.Kind.TheVariants as kinds
use Rattle.block_jobs.specs.Work.{JobWork, left_again}
use Rattle.trace_codec.specs.declared.op.Op.{Op}
use Rattle.trace_codec.specs.declared.op.Op.TheVariants.{Read, Write, Zero, Flush, Discard}
use Rattle.blk_history.specs.Disk.{is_write}
use Rattle.blk_nodes.specs.Nodes.{Nodes, driver_kind}
use Rattle.qmp_codec.specs.declared.event.JobKind.{JobKind}
use Rattle.qmp_codec.specs.declared.event.JobKind.TheVariants.{Stream, Commit, Mirror, Backup}
use Rattle.qmp_rules.specs.Chains.{is_over, written_under}
use Rattle.qmp_rules.specs.Table.{RunTable, node_by_id}
use Rattle.qmp_rules.specs.declared.rows.JobRecord.{JobRecord}
use Rattle.qmp_rules.specs.declared.rows.NodeRecord.{NodeRecord}
use Rattle.flat_machine.specs.Machine.{is_noted}
use Rattle.flat_machine.specs.Wiring.{TableStands}
use Rattle.job_commands.specs.Bitmaps.{UsesStand}
use Rattle.job_ends.specs.Rows.{AreCopyRows}
use Rattle.job_progress.specs.Belonging.{AreWorksOf}
use Rattle.job_progress.specs.Going.{copies_blocks}
use Rattle.job_progress.specs.Piecing.{CanPass, IsGuarded, NoTargetReads, NoTargetUnder, follower_of, marked_by, marked_for, marked_if}
use Rattle.job_progress.proofs.Belong.{sizes_belong}
use Rattle.job_progress.proofs.Pieces.{marks_keep}
use Rattle.job_works.specs.Works.{with_changed}
use Rattle.job_edges.specs.Held.{is_job_filter}
use Rattle.job_tables.specs.Jobs.{filter_kind}
use Rattle.job_tables.proofs.Copiers.{written_copies}
use Rattle.job_tables.proofs.Failed.{written_jobs, written_run}
use Rattle.world_parts.specs.Coherent.{AreAlike, AreJobsKept, AreNodesOf, entries_owed_by}
use Rattle.world_parts.specs.Keeping.{faults_kept, rise_of}
use Rattle.world_parts.specs.Piecing.{table_after}
use Rattle.world_parts.proofs.EasedTables.{IsTableEased}
use Rattle.world_parts.proofs.TablesAfter.{size_same}
use Rattle.world_pieces.proofs.PieceTables.{eased_after}
use Rattle.world_pieces.proofs.PieceWriters.{HasNoCommit}

-- ---- no commit runs

module _ (t : RunTable) (works : List JobWork) (aside : ℕ) (jobs : AreJobsKept t works aside) where
  pub no_commit : (nodes : Nodes) → AreNodesOf t nodes → HasNoCommit nodes
  no_commit nodes are a own at driver = by_row (node_by_id t a) refl (subst (AreAlike (node_by_id t a)) at (are.rows a))
    where
      by_kind : (kind : JobKind) → copies_blocks kind ≡ true → filter_kind kind ≡ Some kinds.Commit → ⊥
      by_kind Stream copies is = false≢true copies
      by_kind Commit copies is = false≢true copies
      by_kind Mirror copies is = cc is
      by_kind Backup copies is = cc is

      by_row : (found : Option NodeRecord) → node_by_id t a ≡ found → AreAlike found (Some own) → ⊥
      by_row None is never = never
      by_row (Some node) is alike =
          let there = (find-Some (λ (r : NodeRecord). r.id == a) t.nodes node is).0 in
          let kind : node.kind ≡ kinds.Commit = alike.kind ∙ ap (λ d. driver_kind d) driver in
          let of = jobs.stand.filters node there (ap is_job_filter kind) in
          by_kind of.row.kind (jobs.lone of.row of.there).kind (of.kind ∙ ap Some kind)

-- ---- a mirror's or a commit's part is marked

-- which leaves the faults that jobs keep
changed_faults : (job : ℕ) (f : JobWork → JobWork) → ((work : JobWork) → (f work).met ≡ work.met) → (works : List JobWork) → faults_kept (with_changed job f works) ≡ faults_kept works
changed_faults job f same [] = refl
changed_faults job f same (work ∷ works) = by_test (work.job == job) (changed_faults job f same works)
  where
    by_test : (b : Bool) → faults_kept (with_changed job f works) ≡ faults_kept works → faults_kept (cond b (f work ∷ works) (work ∷ with_changed job f works)) ≡ faults_kept (work ∷ works)
    by_test true rest = ap (λ met. cons_option (rise_of met) (faults_kept works)) (same work)
    by_test false rest = ap (cons_option (rise_of work.met)) rest

pub marked_faults : (op : Op) (outcome : Outcome) (t : RunTable) (node : ℕ) (part : Extent) (works : List JobWork) → faults_kept (marked_by op outcome t node part works) ≡ faults_kept works
marked_faults op outcome t node part works = by_op op
  where
    by_follower : (found : Option JobRecord) → faults_kept (marked_for found part works) ≡ faults_kept works
    by_follower None = refl
    by_follower (Some row) = changed_faults row.number (left_again part) (λ work. (marks_keep part work).met) works

    by_test : (so : Bool) → faults_kept (marked_if so t node part works) ≡ faults_kept works
    by_test true = by_follower (follower_of t node)
    by_test false = refl

    by_op : (o : Op) → faults_kept (marked_by o outcome t node part works) ≡ faults_kept works
    by_op (Write span payload) = by_test (is_noted outcome)
    by_op (Zero span) = by_test (is_noted outcome)
    by_op (Read span) = refl
    by_op Flush = refl
    by_op (Discard span) = refl

-- ---- jobs stay as they stand

-- no source of a job is over what is written, and no target reads it
pub record IsApartFromJobs (t : RunTable) (node : ℕ) (op : Op) : Type 0 where
  pub under : NoTargetUnder t node
  pub reads : is_write op ≡ true → NoTargetReads t node
  pub sources : is_write op ≡ true → (row : JobRecord) → Contains t.jobs row → is_over t node row.source ≡ false

uses_written : (t : RunTable) (node : ℕ) → UsesStand t → UsesStand (written_under node t)
unfolding written_under
uses_written t node uses = record { busy = uses.busy; there = uses.there }

kept_written : (t : RunTable) (node : ℕ) (works : List JobWork) (aside : ℕ) → TableStands t → AreJobsKept t works aside
    → ((row : JobRecord) → Contains t.jobs row → is_over t node row.source ≡ false) → IsTableEased t (written_under node t) → AreJobsKept (written_under node t) works aside
kept_written t node works aside stands jobs sources eased = record {
  stand = written_jobs t node stands jobs.stand;
  run = written_run t node sources jobs.run;
  copies = written_copies t node jobs.copies;
  rows = subst AreCopyRows (sym eased.jobs) jobs.rows;
  once = subst (AllPairs (λ (a b : JobRecord). a.number ≢ b.number)) (sym eased.jobs) jobs.once;
  uses = uses_written t node jobs.uses;
  belong = sizes_belong t (written_under node t) works eased.jobs (λ row there. size_same t (written_under node t) eased row.source) jobs.belong;
  room = jobs.room ∙ ap entries_owed_by (sym eased.jobs);
  lone = λ row there. jobs.lone row (subst (λ rows. Contains rows row) eased.jobs there);
}

-- and each has its work still
pub jobs_after : (t : RunTable) (node : ℕ) (works now : List JobWork) (aside : ℕ) (op : Op) → TableStands t → AreJobsKept t works aside → AreWorksOf t now → IsApartFromJobs t node op
    → AreJobsKept (table_after op node t) now aside
jobs_after t node works now aside op stands jobs belong apart = by_op op apart
  where
    kept : AreJobsKept t now aside
    kept = record {
      stand = jobs.stand;
      run = jobs.run;
      copies = jobs.copies;
      rows = jobs.rows;
      once = jobs.once;
      uses = jobs.uses;
      belong = belong;
      room = jobs.room;
      lone = jobs.lone;
    }

    by_op : (o : Op) → IsApartFromJobs t node o → AreJobsKept (table_after o node t) now aside
    by_op (Read span) apart = kept
    by_op (Write span payload) apart = kept_written t node now aside stands kept (apart.sources refl) (eased_after (Write span payload) node t)
    by_op (Zero span) apart = kept_written t node now aside stands kept (apart.sources refl) (eased_after (Zero span) node t)
    by_op Flush apart = kept
    by_op (Discard span) apart = kept

-- ---- and are as far as before

pub can_pass : (t : RunTable) (works : List JobWork) (node : ℕ) (op : Op) (part : Extent) → IsApartFromJobs t node op → (is_write op ≡ true → IsGuarded t works node part)
    → CanPass t works node op part
can_pass t works node (Read span) part apart guarded = apart.under
can_pass t works node (Write span payload) part apart guarded = (apart.reads refl, guarded refl)
can_pass t works node (Zero span) part apart guarded = (apart.reads refl, guarded refl)
can_pass t works node Flush part apart guarded = tt
can_pass t works node (Discard span) part apart guarded = tt
