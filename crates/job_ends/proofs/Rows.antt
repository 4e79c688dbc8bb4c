-- Rows of jobs stay as their starts put them, but for what is asked of the jobs and whether they are ready.
use Rattle.std.proofs.Common.{◌≡◌, ◌⊎◌, ℕ, Bool, true, false, cond, List, [], ◌∷◌, ◌++◌, map, refl, sym, ◌∙◌, subst, inl, inr, Option, Some, None}
use Rattle.std.specs.Prelude.{◌==◌, if◌then◌else◌, not, slice_get, option_and_then}
use Rattle.std.specs.List.{Contains, filter}
use Rattle.blk_graph.specs.declared.edge.Role.TheVariants.{File}
use Rattle.blk_graph.specs.declared.kind.Kind.{Kind}
use Rattle.blk_graph.specs.declared.kind.Kind.TheVariants as driver
use Rattle.blk_graph.specs.declared.kind.JobUse.{JobUse}
use Rattle.blk_graph.specs.declared.kind.JobUse.TheVariants.{CommitBase, CommitBetween, CommitTop, StreamBelow, StreamTop}
use Rattle.blk_graph.proofs.Members.{Contains-filter, Contains-map, Contains-nil}
use Rattle.qmp_codec.specs.declared.event.JobKind.{JobKind}
use Rattle.qmp_codec.specs.declared.event.JobKind.TheVariants.{Stream, Commit, Mirror, Backup}
use Rattle.qmp_codec.specs.declared.jobs.Backup.{Backup as BackupCommand}
use Rattle.qmp_codec.specs.declared.jobs.Mirror.{Mirror as MirrorCommand}
use Rattle.qmp_rules.specs.declared.change.Change.{Change}
use Rattle.qmp_rules.specs.declared.change.Change.TheVariants as change
use Rattle.qmp_rules.specs.declared.change.JobOutcome.{JobOutcome}
use Rattle.qmp_rules.specs.declared.change.JobOutcome.TheVariants.{Completed, Pivoted, Copied, Stopped}
use Rattle.qmp_rules.specs.declared.change.NewDisk.{NewDisk}
use Rattle.qmp_rules.specs.declared.change.NewDisk.TheVariants.{OfNode, OfStart}
use Rattle.qmp_rules.specs.declared.rows.AskedEnd.{AskedEnd}
use Rattle.qmp_rules.specs.declared.rows.NodeRecord.{NodeRecord}
use Rattle.qmp_rules.specs.declared.rows.JobRecord.{JobRecord}
use Rattle.qmp_rules.specs.Asks.{is_base, is_file}
use Rattle.qmp_rules.specs.Changes.{all_changed, asked_for, changed, followed, ready_for}
use Rattle.qmp_rules.specs.Edits.{backup_job, base_edits, commit_unsettles, commit_uses, device_uses, edits_by_kind, file_below, file_used, file_uses, filter_edits, filter_row, mirror_job, of_row, reads_one_of, start_edits, target_edits, under_top, uses_as, uses_target, writable_if}
use Rattle.qmp_rules.specs.Ends.{done_edits, drops_aside, end_edits, filter_gone, given_back_to, moves, overlay_to, parents_to, read_only_if, settle_if, settled_by, settles_target, top_lost}
use Rattle.qmp_rules.specs.Table.{RunTable, child, node_by_id}
use Rattle.flat_machine.proofs.Tables.{pushed-cases}
use Rattle.job_progress.specs.Going.{copies_blocks}
use Rattle.job_tables.specs.Changes.{AllLeaveJobs, LeavesJobs}
use Rattle.job_ends.specs.Rows.{AllBeginCopyRows, AreCopyRows, BeginsCopyRow, IsCopyRow}

-- ---- rows that were there

pub record IsSameJob (old row : JobRecord) : Type 0 where
  pub number : row.number ≡ old.number
  pub kind : row.kind ≡ old.kind
  pub source : row.source ≡ old.source
  pub held : row.held ≡ old.held
  pub read : row.read ≡ old.read
  pub bitmap : row.bitmap ≡ old.bitmap
  pub lent : row.made_writable ≡ old.made_writable

pub record HadJob (jobs : List JobRecord) (row : JobRecord) : Type 0 where
  pub old : JobRecord
  pub there : Contains jobs old
  pub same : IsSameJob old row

-- the change begins the job
abbrev pub Begins : Change → JobRecord → Type 0
Begins (change.StartJob new) row = row ≡ new
Begins c row = ⊥

same_self : (row : JobRecord) → IsSameJob row row
same_self row = record { number = refl; kind = refl; source = refl; held = refl; read = refl; bitmap = refl; lent = refl }

pub had_self : (jobs : List JobRecord) (row : JobRecord) → Contains jobs row → HadJob jobs row
had_self jobs row here = record { old = row; there = here; same = same_self row }

asked_same : (number : ℕ) (new : AskedEnd) (row : JobRecord) → IsSameJob row (asked_for number new row)
asked_same number new row = by_test (row.number == number)
  where
    by_test : (b : Bool) → IsSameJob row (cond b (record row { asked = followed row.asked new }) row)
    by_test true = record { number = refl; kind = refl; source = refl; held = refl; read = refl; bitmap = refl; lent = refl }
    by_test false = same_self row

ready_same : (number : ℕ) (row : JobRecord) → IsSameJob row (ready_for number row)
ready_same number row = by_test (row.number == number)
  where
    by_test : (b : Bool) → IsSameJob row (cond b (record row { is_ready = true }) row)
    by_test true = record { number = refl; kind = refl; source = refl; held = refl; read = refl; bitmap = refl; lent = refl }
    by_test false = same_self row

pub had_mapped : (jobs : List JobRecord) (f : JobRecord → JobRecord) → ((row : JobRecord) → IsSameJob row (f row)) → (row : JobRecord)
    → Contains (map f jobs) row → HadJob jobs row
had_mapped jobs f same row here =
    let at = Contains-map f jobs row here in
    record { old = at.0; there = at.1; same = subst (IsSameJob at.0) (sym at.2) (same at.0) }

pub had_readied : (jobs : List JobRecord) (number : ℕ) (row : JobRecord) → Contains (map (ready_for number) jobs) row → HadJob jobs row
had_readied jobs number = had_mapped jobs (ready_for number) (ready_same number)

pub was_there : (t : RunTable) (c : Change) (row : JobRecord) → Contains (changed t c).jobs row → HadJob t.jobs row ⊎ Begins c row
unfolding changed
was_there t (change.StartJob new) row here = elim (pushed-cases t.jobs new row here) [
  | inl old ↦ inl (had_self t.jobs row old)
  | inr is ↦ inr is
]
was_there t (change.AskJob number new) row here = inl (had_mapped t.jobs (asked_for number new) (asked_same number new) row here)
was_there t (change.ReadyJob number) row here = inl (had_readied t.jobs number row here)
was_there t (change.EndJob number slot drops) row here =
    inl (had_self t.jobs row (Contains-filter (λ (job : JobRecord). not (job.number == number)) t.jobs row here).0)
was_there t c row here = inl (had_self t.jobs row here)

-- ---- rows of copies

same_row : (old row : JobRecord) → IsSameJob old row → IsCopyRow old → IsCopyRow row
same_row old row same is = record {
  base = subst (λ (lent : _). lent.base ≡ false) (sym same.lent) is.base;
  file = subst (λ (lent : _). lent.file ≡ false) (sym same.lent) is.file;
  whole = λ mirror. subst (λ used. used ≡ None) (sym same.bitmap) (is.whole (sym (sym mirror ∙ same.kind)));
}

copies_by : (old row : JobRecord) → IsSameJob old row → copies_blocks row.kind ≡ true → copies_blocks old.kind ≡ true
copies_by old row same = subst (λ k. copies_blocks k ≡ true) same.kind

change_rows : (c : Change) (t : RunTable) → BeginsCopyRow c → AreCopyRows t.jobs → AreCopyRows (changed t c).jobs
change_rows c t begins rows row here copies = elim (was_there t c row here) [
  | inl had ↦ same_row had.old row had.same (rows had.old had.there (copies_by had.old row had.same copies))
  | inr new ↦ by_change c begins new
]
  where
    by_change : (x : Change) → BeginsCopyRow x → Begins x row → IsCopyRow row
    by_change (change.StartJob new) own is = subst IsCopyRow (sym is) (own (subst (λ (r : JobRecord). copies_blocks r.kind ≡ true) is copies))
    by_change x own is = absurd is

pub changes_rows : (changes : List Change) (t : RunTable) → AllBeginCopyRows changes → AreCopyRows t.jobs → AreCopyRows (all_changed t changes).jobs
changes_rows [] t begins rows = rows
changes_rows (c ∷ changes) t begins rows = changes_rows changes (changed t c) begins.1 (change_rows c t begins.0 rows)

pub no_rows : AreCopyRows []
no_rows row here = absurd (Contains-nil row here)

-- ---- changes that begin no job

abbrev BeginsNone : Change → Type 0
BeginsNone (change.StartJob row) = ⊥
BeginsNone c = Unit {0}

begins_none : (c : Change) → BeginsNone c → BeginsCopyRow c
begins_none (change.StartJob row) none = absurd none
begins_none c none = tt

leaving_none : (t : RunTable) (c : Change) → LeavesJobs t c → BeginsNone c
leaving_none t (change.StartJob row) leaves = leaves
leaving_none t c leaves = tt

pub leaving_rows : (changes : List Change) (t : RunTable) → AllLeaveJobs t changes → AreCopyRows t.jobs → AreCopyRows (all_changed t changes).jobs
leaving_rows [] t leaves rows = rows
leaving_rows (c ∷ changes) t leaves rows =
    leaving_rows changes (changed t c) leaves.1 (change_rows c t (begins_none c (leaving_none t c leaves.0)) rows)

pub rows-append : (a b : List Change) → AllBeginCopyRows a → AllBeginCopyRows b → AllBeginCopyRows (a ++ b)
rows-append [] b h k = k
rows-append (c ∷ a) b h k = (h.0, rows-append a b h.1 k)

-- ---- starts

module _ (t : RunTable) (row : JobRecord) (own : copies_blocks row.kind ≡ true → IsCopyRow row) where
  of_uses : (b : Bool) (name : Option (List ℕ)) → AllBeginCopyRows (cond b (file_uses name) [])
  of_uses true None = tt
  of_uses true (Some name) = (tt, tt)
  of_uses false name = tt

  of_used : (node : Option ℕ) → AllBeginCopyRows (file_used t node)
  of_used node = by_row (option_and_then (node_by_id t) node)
    where
      by_row : (found : Option NodeRecord) → AllBeginCopyRows (of_row device_uses found)
      by_row None = tt
      by_row (Some r) = of_uses (is_file r) r.filename

  of_unsettles : (rows : List NodeRecord) → AllBeginCopyRows (map (λ r. change.Unsettle r.id) rows)
  of_unsettles [] = tt
  of_unsettles (r ∷ rows) = (tt, of_unsettles rows)

  of_writable : (b : Bool) (node : Option ℕ) → AllBeginCopyRows (writable_if b node)
  of_writable true (Some id) = (tt, tt)
  of_writable true None = tt
  of_writable false _ = tt

  of_filter : (kind : Kind) → AllBeginCopyRows (filter_edits t kind row)
  of_filter kind = by_row (node_by_id t row.source)
    where
      by_row : (found : Option NodeRecord) → AllBeginCopyRows (of_row (λ r. change.PutFilter (filter_row t kind row.id r) r.id ∷ []) found)
      by_row None = tt
      by_row (Some r) = (tt, tt)

  of_target : (target : Option ℕ) → AllBeginCopyRows (target_edits t target)
  of_target None = tt
  of_target (Some target) = rows-append (file_used t (Some target)) (change.Unsettle target ∷ []) (of_used (Some target)) (tt, tt)

  of_as : (what : JobUse) (nodes : List ℕ) → AllBeginCopyRows (uses_as row.slot what nodes)
  of_as what [] = tt
  of_as what (node ∷ nodes) = (tt, of_as what nodes)

  of_commit : (nodes : List ℕ)
      → AllBeginCopyRows (map (λ id. change.UseNode row.slot (if is_base row.target id then CommitBase else CommitBetween) id) nodes)
  of_commit [] = tt
  of_commit (id ∷ nodes) = (tt, of_commit nodes)

  of_uses_target : (target : Option ℕ) → AllBeginCopyRows (uses_target row target)
  of_uses_target None = tt
  of_uses_target (Some target) = (tt, tt)

  of_copy : (kind : Kind) → AllBeginCopyRows (target_edits t row.target ++ filter_edits t kind row ++ change.StartJob row ∷ uses_target row row.target)
  of_copy kind =
      rows-append (target_edits t row.target ++ filter_edits t kind row) (change.StartJob row ∷ uses_target row row.target)
      (rows-append (target_edits t row.target) (filter_edits t kind row) (of_target row.target) (of_filter kind)) (own, of_uses_target row.target)

  pub start_begins : AllBeginCopyRows (start_edits t row)
  unfolding start_edits
  start_begins = by_kind row.kind
    where
      by_kind : (k : JobKind) → AllBeginCopyRows (edits_by_kind t row k)
      by_kind Stream =
          rows-append (file_used t row.target) (change.StartJob row ∷ change.UseNode row.slot StreamTop row.source ∷ uses_as row.slot StreamBelow row.read)
          (of_used row.target) (own, (tt, of_as StreamBelow row.read))
      by_kind Commit =
          let last : List Change = change.StartJob row ∷ change.UseNode row.slot CommitTop row.source ∷ commit_uses row in
          let used : List Change = file_used t row.target in
          rows-append (used ++ commit_unsettles t row ++ base_edits t row ++ filter_edits t driver.Commit row) last
          (rows-append (used ++ commit_unsettles t row ++ base_edits t row) (filter_edits t driver.Commit row)
          (rows-append (used ++ commit_unsettles t row) (base_edits t row)
          (rows-append used (commit_unsettles t row) (of_used row.target) (of_unsettles (filter (reads_one_of t row.source (under_top row)) t.nodes)))
          (rows-append (writable_if row.made_writable.file (file_below t row.target)) (writable_if row.made_writable.base row.target)
          (of_writable row.made_writable.file (file_below t row.target)) (of_writable row.made_writable.base row.target)))
          (of_filter driver.Commit)) (own, (tt, of_commit (under_top row)))
      by_kind Mirror = of_copy driver.Mirror
      by_kind Backup = of_copy driver.BeforeWrite

  pub start_rows : AreCopyRows t.jobs → AreCopyRows (all_changed t (start_edits t row)).jobs
  start_rows = changes_rows (start_edits t row) t start_begins

pub backup_row : (t : RunTable) (group : Option ℕ) (c : BackupCommand (List ℕ)) → IsCopyRow (backup_job t group c)
backup_row t group c = record { base = refl; file = refl; whole = λ mirror. let bad : Backup ≡ Mirror = mirror in absurd cc }

pub mirror_row : (t : RunTable) (c : MirrorCommand (List ℕ)) → IsCopyRow (mirror_job t c)
mirror_row t c = record { base = refl; file = refl; whole = λ mirror. refl }

-- ---- ends

-- behind the first change of an end none changes rows of jobs
abbrev pub IsOfEnd : Change → Type 0
IsOfEnd (change.PullFilter filter) = Unit {0}
IsOfEnd (change.Move from to but) = Unit {0}
IsOfEnd (change.Rebase node backing) = Unit {0}
IsOfEnd (change.Settle node disk) = Unit {0}
IsOfEnd (change.Unsettle node) = Unit {0}
IsOfEnd (change.MakeReadOnly node) = Unit {0}
IsOfEnd c = ⊥

abbrev pub AreOfEnd : List Change → Type 0
AreOfEnd [] = Unit {0}
AreOfEnd (c ∷ changes) = IsOfEnd c × AreOfEnd changes

end-append : (a b : List Change) → AreOfEnd a → AreOfEnd b → AreOfEnd (a ++ b)
end-append [] b h k = k
end-append (c ∷ a) b h k = (h.0, end-append a b h.1 k)

of_end_jobs : (t : RunTable) (c : Change) → IsOfEnd c → (changed t c).jobs ≡ t.jobs
unfolding changed
of_end_jobs t (change.PullFilter filter) h = refl
of_end_jobs t (change.Move from to but) h = refl
of_end_jobs t (change.Rebase node backing) h = refl
of_end_jobs t (change.Settle node disk) h = refl
of_end_jobs t (change.Unsettle node) h = refl
of_end_jobs t (change.MakeReadOnly node) h = refl
of_end_jobs t c h = absurd h

pub end_jobs : (changes : List Change) (t : RunTable) → AreOfEnd changes → (all_changed t changes).jobs ≡ t.jobs
end_jobs [] t h = refl
end_jobs (c ∷ changes) t h = end_jobs changes (changed t c) h.1 ∙ of_end_jobs t c h.0

begins_of_end : (c : Change) → IsOfEnd c → BeginsCopyRow c
begins_of_end (change.StartJob row) h = absurd h
begins_of_end c h = tt

begin_of_end : (changes : List Change) → AreOfEnd changes → AllBeginCopyRows changes
begin_of_end [] h = tt
begin_of_end (c ∷ changes) h = (begins_of_end c h.0, begin_of_end changes h.1)

module _ (row : JobRecord) where
  of_gone : (filter : Option ℕ) → AreOfEnd (filter_gone filter)
  of_gone None = tt
  of_gone (Some node) = (tt, tt)

  of_parents : (filter target : Option ℕ) → AreOfEnd (parents_to row.source filter target)
  of_parents (Some filter) (Some target) = (tt, tt)
  of_parents (Some filter) None = tt
  of_parents None target = tt

  of_overlay : (overlay base : Option ℕ) → AreOfEnd (overlay_to overlay base)
  of_overlay None base = tt
  of_overlay (Some overlay) base = (tt, tt)

  of_moves : (k : JobKind) (o : JobOutcome) → AreOfEnd (moves row k o)
  of_moves Stream Completed = (tt, tt)
  of_moves Stream Pivoted = tt
  of_moves Stream Copied = tt
  of_moves Stream Stopped = tt
  of_moves Commit Completed = of_overlay (slice_get row.read 0) row.target
  of_moves Commit Pivoted = of_parents row.filter row.target
  of_moves Commit Copied = tt
  of_moves Commit Stopped = tt
  of_moves Mirror Completed = tt
  of_moves Mirror Pivoted = of_parents row.filter row.target
  of_moves Mirror Copied = tt
  of_moves Mirror Stopped = tt
  of_moves Backup o = tt

  of_settle : (so : Bool) (target : Option ℕ) (disk : NewDisk) → AreOfEnd (settle_if so target disk)
  of_settle true (Some target) disk = (tt, tt)
  of_settle true None disk = tt
  of_settle false target disk = tt

  of_settled : (k : JobKind) → AreOfEnd (settled_by row k)
  of_settled Stream = tt
  of_settled Commit = of_settle true row.target (OfNode row.source)
  of_settled Mirror = of_settle true row.target (OfNode row.source)
  of_settled Backup = of_settle (settles_target row.bitmap) row.target (OfStart row.number)

  of_top : (k : JobKind) (o : JobOutcome) → AreOfEnd (top_lost row k o)
  of_top Commit Pivoted = (tt, tt)
  of_top Commit Completed = tt
  of_top Commit Copied = tt
  of_top Commit Stopped = tt
  of_top Stream o = tt
  of_top Mirror o = tt
  of_top Backup o = tt

  of_by : (o : JobOutcome) → AreOfEnd (moves row row.kind o ++ settled_by row row.kind ++ top_lost row row.kind o)
  of_by o =
      end-append (moves row row.kind o ++ settled_by row row.kind) (top_lost row row.kind o)
      (end-append (moves row row.kind o) (settled_by row row.kind) (of_moves row.kind o) (of_settled row.kind)) (of_top row.kind o)

  of_done : (o : JobOutcome) → AreOfEnd (done_edits row o)
  of_done Stopped = tt
  of_done Completed = of_by Completed
  of_done Pivoted = of_by Pivoted
  of_done Copied = of_by Copied

  of_if : (b : Bool) (node : Option ℕ) → AreOfEnd (read_only_if b node)
  of_if true (Some node) = (tt, tt)
  of_if true None = tt
  of_if false _ = tt

  of_back : (t : RunTable)
      → AreOfEnd (read_only_if row.made_writable.base row.target ++ read_only_if row.made_writable.file (option_and_then (λ b. child t b File) row.target))
  of_back t =
      end-append (read_only_if row.made_writable.base row.target) (read_only_if row.made_writable.file (option_and_then (λ b. child t b File) row.target))
      (of_if row.made_writable.base row.target) (of_if row.made_writable.file (option_and_then (λ b. child t b File) row.target))

  of_given : (t : RunTable) (o : JobOutcome) → AreOfEnd (given_back_to t row o)
  of_given t Pivoted = tt
  of_given t Completed = of_back t
  of_given t Copied = of_back t
  of_given t Stopped = of_back t

  -- an end is the end of the row, and those changes
  abbrev pub end_tail : RunTable → JobOutcome → List Change
  end_tail t o = filter_gone row.filter ++ done_edits row o ++ given_back_to t row o

  abbrev pub end_head : JobOutcome → Change
  end_head o = change.EndJob row.number row.slot (drops_aside o row.bitmap)

  pub end_parts : (t : RunTable) (o : JobOutcome) → end_edits t row o ≡ end_head o ∷ end_tail t o
  unfolding end_edits
  end_parts t o = refl

  pub tail_of_end : (t : RunTable) (o : JobOutcome) → AreOfEnd (end_tail t o)
  tail_of_end t o =
      end-append (filter_gone row.filter ++ done_edits row o) (given_back_to t row o)
      (end-append (filter_gone row.filter) (done_edits row o) (of_gone row.filter) (of_done o)) (of_given t o)

  pub end_rows : (t : RunTable) (o : JobOutcome) → AreCopyRows t.jobs → AreCopyRows (all_changed t (end_edits t row o)).jobs
  end_rows t o =
      changes_rows (end_edits t row o) t (subst AllBeginCopyRows (sym (end_parts t o)) (tt, begin_of_end (end_tail t o) (tail_of_end t o)))
