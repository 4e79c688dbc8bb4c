-- What the end of a backup or mirror needs of the state, and that its changes, and those of a commit, are performed where its
-- filter alone goes.
use Rattle.std.proofs.Common.{◌≡◌, ◌≢◌, ℕ, ◌<◌, true, cond, List, [], ◌∷◌, refl, sym, ◌∙◌, ap, subst, Some, None}
use Rattle.std.specs.Prelude.{◌==◌, All}
use Rattle.std.specs.List.{Contains}
use Rattle.std.proofs.lemmas.Bool.{false≢true, eqb-true}
use Rattle.std.proofs.lemmas.List.Elements.{All-weaker, All-nil, All-cons}
use Rattle.blk_graph.specs.declared.kind.Kind.{Kind}
use Rattle.blk_graph.specs.declared.kind.Kind.TheVariants as driver
use Rattle.blk_graph.proofs.Members.{Contains-here, Contains-there, find-Some}
use Rattle.blk_history.specs.declared.entry.JobEnd.{JobEnd}
use Rattle.blk_history.specs.declared.event.Event.{Event}
use Rattle.block_jobs.specs.Work.{JobWork}
use Rattle.qmp_codec.specs.declared.event.JobKind.{JobKind}
use Rattle.qmp_codec.specs.declared.event.JobKind.TheVariants.{Stream, Commit, Mirror, Backup}
use Rattle.qmp_rules.specs.declared.change.JobOutcome.{JobOutcome}
use Rattle.qmp_rules.specs.declared.change.JobOutcome.TheVariants.{Completed, Pivoted, Copied, Stopped}
use Rattle.qmp_rules.specs.declared.rows.NodeRecord.{NodeRecord}
use Rattle.qmp_rules.specs.declared.rows.JobRecord.{JobRecord}
use Rattle.qmp_rules.specs.Ends.{is_done, settles_target}
use Rattle.qmp_rules.specs.Table.{RunTable}
use Rattle.flat_machine.specs.State.{State, Left, bytes_in, bytes_at_node}
use Rattle.flat_machine.specs.Agreement.{Contents, ReadAsDisks}
use Rattle.flat_machine.specs.Jobs.{changes_at_end, copied_to, outcome_of, target_written, writes_target}
use Rattle.flat_machine.specs.Legal.{AllStarted}
use Rattle.flat_machine.specs.Performing.{AllPerformed}
use Rattle.flat_machine.specs.Standing.{IsUsedUp, Stands}
use Rattle.flat_machine.specs.Suiting.{IsPlainNode, NoneLeftIn}
use Rattle.flat_machine.proofs.Kept.{own_disk}
use Rattle.job_entries.specs.Ends.{ReadsAsMade, RestsToEnd, ShowsEnd, renamed}
use Rattle.job_entries.proofs.Ending.{end_performed}
use Rattle.job_entries.proofs.Headers.{rests_by}
use Rattle.job_progress.specs.Going.{copies_blocks, goal_by}
use Rattle.job_progress.specs.Piecing.{follows}
use Rattle.job_progress.proofs.Copies.{copies_made}
use Rattle.job_tables.specs.Ends.{EndSuits, TargetSuits, rebased_by}
use Rattle.job_tables.specs.Jobs.{CopyStands, JobsStand, StandsByKind}
use Rattle.job_tables.specs.Rows.{nodes_of_job}
use Rattle.job_tables.specs.Running.{JobsRun}
use Rattle.job_tables.specs.TargetFiles.{IsCopier, TargetFilesStand}
use Rattle.job_tables.proofs.Changes.{plain_no_filter}
use Rattle.job_tables.proofs.RowEdges.{copy_holds, holds_source, in_left}
use Rattle.job_tables.proofs.Runs.{target_held as held_target}
use Rattle.job_tables.specs.Copiers.{CopiesGo}
use Rattle.job_ends.specs.Rows.{AreCopyRows}
use Rattle.job_ends.specs.Ended.{LosesFilter, MayEndSo}

-- ---- by kinds

pub copier : (k : JobKind) → copies_blocks k ≡ true → IsCopier k
copier Mirror is = tt
copier Backup is = tt
copier Stream is = absurd (false≢true is)
copier Commit is = absurd (false≢true is)

pub writes : (k : JobKind) → copies_blocks k ≡ true → writes_target k ≡ true
writes Mirror is = refl
writes Backup is = refl
writes Stream is = absurd (false≢true is)
writes Commit is = absurd (false≢true is)

pub written_is : (row : JobRecord) → copies_blocks row.kind ≡ true → target_written row ≡ row.target
written_is row copies = ap (λ b. cond b row.target None) (writes row.kind copies)

pub copied_is : (row : JobRecord) → copies_blocks row.kind ≡ true → copied_to row row.kind ≡ row.target
copied_is row copies = by_kind row.kind copies
  where
    by_kind : (k : JobKind) → copies_blocks k ≡ true → copied_to row k ≡ row.target
    by_kind Mirror is = refl
    by_kind Backup is = refl
    by_kind Stream is = absurd (false≢true is)
    by_kind Commit is = absurd (false≢true is)

rebased_none : (row : JobRecord) (k : JobKind) → copies_blocks k ≡ true → rebased_by row k ≡ None
rebased_none row Mirror is = refl
rebased_none row Backup is = refl
rebased_none row Stream is = absurd (false≢true is)
rebased_none row Commit is = absurd (false≢true is)

pub all_of : {X : Type 0} (P : X → Type 0) (xs : List X) → ((x : X) → Contains xs x → P x) → All P xs
all_of P [] each = All-nil P
all_of P (x ∷ xs) each = All-cons P x xs (each x (Contains-here x xs)) (all_of P xs (λ y at. each y (Contains-there x xs y at)))

-- ---- its target

module _ (t : RunTable) (row : JobRecord) (j : JobsStand t) (here : Contains t.jobs row) (copies : copies_blocks row.kind ≡ true) where
  copy_stands : (kind : Kind) × CopyStands t row kind
  copy_stands = by_kind row.kind copies (j.each row here).shape
    where
      by_kind : (k : JobKind) → copies_blocks k ≡ true → StandsByKind t row k → (kind : Kind) × CopyStands t row kind
      by_kind Mirror is c = (driver.Mirror, c)
      by_kind Backup is c = (driver.BeforeWrite, c)
      by_kind Stream is c = absurd (false≢true is)
      by_kind Commit is c = absurd (false≢true is)

  pub target_held : (target : ℕ) → row.target ≡ Some target → Contains (nodes_of_job row) target
  target_held target is =
      let c = copy_stands.1 in
      let both : Some c.target ≡ Some target = sym c.is_target ∙ is in
      let same : c.target ≡ target = cc both in
      in_left row.held row.read target (subst (Contains row.held) same (copy_holds t row copy_stands.0 c))

  pub target_plain_of : (target : ℕ) → row.target ≡ Some target → IsPlainNode t target
  target_plain_of target is = (j.each row here).plain target (target_held target is)

-- ---- what its end needs

module _ (s : State) (row : JobRecord) (h : Stands s) (run : JobsRun s.table) (here : Contains s.table.jobs row) (copies : copies_blocks row.kind ≡ true)
    (rows : AreCopyRows s.table.jobs) where
  source_left : NoneLeftIn s row.source
  source_left name node of id =
      All-weaker (IsUsedUp s) (λ (l : Left). l.file ≢ name)
      (λ l used same.
      let gone = used.gone node (record { there = of.there; filename = of.filename ∙ ap Some (sym same) }) in
      let kept = run.sources row here node of.there id in
      false≢true (sym gone ∙ kept)) s.left h.writing.left

  target_suits : CopiesGo s.table → TargetFilesStand s → AllStarted s → (target : ℕ) → target_written row ≡ Some target → TargetSuits s row target
  target_suits go files started target is =
      let w = run.targets row target here is in
      record {
        sizes = (go row target here (copied_is row copies ∙ sym (written_is row copies) ∙ is)).sizes;
        writable = λ node found.
            let at = find-Some (λ (r : NodeRecord). r.id == target) s.table.nodes node found in
            w.writable node at.0 (eqb-true node.id target at.1);
        used = λ name node of id. record {
          state = w.used node of.there id name of.filename;
          content = files.unknown row name here (record { node = node; there = of.there; target = is ∙ ap Some (sym id); filename = of.filename });
        };
        left = λ name node of id.
            all_of (λ (l : Left). l.file ≢ name) s.left
            (λ l at.
            files.none_left row name l here (subst (λ n. row.number < n) (sym started) (run.numbers row here)) (copier row.kind copies)
            (record { node = node; there = of.there; target = is ∙ ap Some (sym id); filename = of.filename }) at);
      }

  pub copy_suits : CopiesGo s.table → TargetFilesStand s → AllStarted s → EndSuits s row
  copy_suits go files started = record {
    source = source_left;
    target = target_suits go files started;
    rebased = λ node base is. absurd (let bad : None ≡ Some node = sym (rebased_none row row.kind copies) ∙ is in cc bad);
    lent = record {
      bare = λ base is. absurd (false≢true (sym (rows row here copies).base ∙ is));
      file = λ is. absurd (false≢true (sym (rows row here copies).file ∙ is));
    };
  }

-- of what an end rests on there is no header
pub copy_rests : (s : State) (row : JobRecord) → Stands s → JobsStand s.table → JobsRun s.table → Contains s.table.jobs row → copies_blocks row.kind ≡ true
    → RestsToEnd s row
copy_rests s row h j run here copies =
    rests_by s row h j run here (λ node is. absurd (let bad : None ≡ Some node = sym (rebased_none row row.kind copies) ∙ is in cc bad))

-- ---- what it leaves

-- of whatever writes a target
module _ (s : State) (row : JobRecord) (j : JobsStand s.table) (run : JobsRun s.table) (here : Contains s.table.jobs row) (written : writes_target row.kind ≡ true) where
  target_plain : (target : ℕ) → row.target ≡ Some target → IsPlainNode s.table target
  target_plain target is =
      let at : target_written row ≡ Some target = ap (λ b. cond b row.target None) written ∙ is in
      (j.each row here).plain target (in_left row.held row.read target (held_target s.table row (j.each row here) target at))

  source_plain : IsPlainNode s.table row.source
  source_plain = (j.each row here).plain row.source (in_left row.held row.read row.source (holds_source s.table row (j.each row here)))

  module _ (first : State) (past : List Event) (work : JobWork) (why : JobEnd) (old new : Contents) (reads : ReadAsDisks s old)
      (may : MayEndSo first past s old.reads row work why) (same_at : (node : ℕ) → IsPlainNode s.table node → new.reads node ≡ old.reads node) where
    source_reads : new.reads row.source ≡ bytes_at_node s row.source
    source_reads =
        let p = source_plain in
        let at = find-Some (λ (r : NodeRecord). r.id == row.source) s.table.nodes p.row p.there in
        let settled = run.sources row here p.row at.0 (eqb-true p.row.id row.source at.1) in
        same_at row.source p ∙ reads row.source p.row p.there (record { settled = settled; own = p.own })
        ∙ ap (bytes_in s.disks) (sym (own_disk s.table row.source p.row p.there p.own))

    reads_made : is_done (outcome_of why) ≡ true → (target : ℕ) → row.target ≡ Some target → settles_target row.bitmap ≡ true
        → new.reads target ≡ goal_by s row row.kind
    reads_made done target is settles =
        let made = may done in
        same_at target (target_plain target is)
        ∙ copies_made first s past old.reads row work target is made.none.rows made.none.left settles made.ahead

    pub made_target : is_done (outcome_of why) ≡ true → (target : ℕ) → row.target ≡ Some target → ReadsAsMade s row new target row.kind
    made_target done target is = by_kind row.kind refl written
      where
        whole : follows row.kind ≡ true → settles_target row.bitmap ≡ true
        whole f = ap settles_target ((may done).ahead.whole f)

        by_kind : (k : JobKind) → row.kind ≡ k → writes_target k ≡ true → ReadsAsMade s row new target k
        by_kind Stream e c = absurd (false≢true c)
        by_kind Backup e c = λ settles. reads_made done target is settles ∙ ap (goal_by s row) e
        by_kind Mirror e c = reads_made done target is (whole (ap follows e)) ∙ ap (goal_by s row) e ∙ sym source_reads
        by_kind Commit e c = reads_made done target is (whole (ap follows e)) ∙ ap (goal_by s row) e ∙ sym source_reads

  module _ (first : State) (past : List Event) (work : JobWork) (why : JobEnd) (old new : Contents) (reads : ReadAsDisks s old)
      (may : MayEndSo first past s old.reads row work why) (loses : LosesFilter row old new) where
    pub shows_end : ShowsEnd s row why old new
    shows_end = record {
      nodes = loses.nodes;
      files = loses.files;
      made = made_target first past work why old new reads may (λ node p. loses.nodes node (plain_no_filter s.table j node p row here));
    }

    pub end_done_bare : renamed row (outcome_of why) ≡ None → AllPerformed s (changes_at_end s row why) old new
    end_done_bare bare = end_performed s row why old new bare shows_end

-- a backup or mirror rewrites no header
renames_none : (row : JobRecord) → copies_blocks row.kind ≡ true → (o : JobOutcome) → renamed row o ≡ None
renames_none row copies Completed = rebased_none row row.kind copies
renames_none row copies Pivoted = refl
renames_none row copies Copied = refl
renames_none row copies Stopped = refl

pub end_done : (s : State) (row : JobRecord) → JobsStand s.table → JobsRun s.table → Contains s.table.jobs row → copies_blocks row.kind ≡ true
    → (first : State) (past : List Event) (work : JobWork) (why : JobEnd) (old new : Contents) → ReadAsDisks s old
    → MayEndSo first past s old.reads row work why → LosesFilter row old new → AllPerformed s (changes_at_end s row why) old new
end_done s row j run here copies first past work why old new reads may loses =
    end_done_bare s row j run here (writes row.kind copies) first past work why old new reads may loses (renames_none row copies (outcome_of why))
