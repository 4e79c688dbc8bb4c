-- Of the files that jobs write nothing is known, and no disk is left in them, behind the events of jobs, commands and guests.
use Rattle.std.proofs.Common.{◌≡◌, ◌⊎◌, ℕ, ◌+◌, ◌<◌, List, [], ◌∷◌, ◌++◌, map, refl, sym, ◌∙◌, ap, subst, inl, inr, arith, Bool, true, false, cond, Option, Some, None}
use Rattle.std.specs.Prelude.{◌==◌, not, bytes_eq, IsSome}
use Rattle.std.specs.Option.{option_and_then}
use Rattle.std.specs.List.{Contains}
use Rattle.std.proofs.lemmas.Bool.{false≢true, eqb-true, eq-eqb, cases_lt}
use Rattle.blk_base.specs.Pieces.{Extent}
use Rattle.blk_base.specs.declared.fault.Outcome.{Outcome}
use Rattle.blk_graph.specs.declared.kind.Kind.TheVariants as driver
use Rattle.blk_graph.proofs.Members.{Contains-nil, Contains-here, Contains-filter, Contains-map, find-Some}
use Rattle.blk_history.specs.Disk.{done_in}
use Rattle.blk_history.specs.Machine.{done_by}
use Rattle.blk_history.specs.declared.entry.JobEnd.{JobEnd}
use Rattle.trace_codec.specs.declared.op.Op.{Op}
use Rattle.trace_codec.specs.declared.op.Op.TheVariants.{Read, Write, Zero, Flush, Discard}
use Rattle.qmp_codec.specs.Commands.{Cmd}
use Rattle.qmp_codec.specs.declared.event.JobKind.{JobKind}
use Rattle.qmp_codec.specs.declared.event.JobKind.TheVariants.{Stream, Commit, Mirror, Backup}
use Rattle.qmp_rules.specs.declared.change.Change.{Change}
use Rattle.qmp_rules.specs.declared.change.Change.TheVariants as change
use Rattle.qmp_rules.specs.declared.rows.NodeRecord.{NodeRecord}
use Rattle.qmp_rules.specs.declared.rows.JobRecord.{JobRecord}
use Rattle.qmp_rules.specs.declared.told.Told.{Told}
use Rattle.qmp_rules.specs.Answers.{refusal_to, command_edits}
use Rattle.qmp_rules.specs.Asks.{is_file, takes}
use Rattle.qmp_asks.specs.declared.ask.Drivers.TheVariants as drivers
use Rattle.qmp_rules.specs.Chains.{disk_node, is_over, written_under, unsettled_over}
use Rattle.qmp_rules.specs.Changes.{changed, all_changed}
use Rattle.qmp_rules.specs.Edits.{of_row, device_uses, file_uses, file_used, start_edits}
use Rattle.qmp_rules.specs.Ends.{drops_aside, ready_edits}
use Rattle.qmp_rules.specs.Table.{RunTable, node_by_id, job_at}
use Rattle.flat_machine.specs.State.{State, Unknown, Left, content_in}
use Rattle.flat_machine.specs.Changed.{overlay_file, name_if, stepped, all_stepped}
use Rattle.flat_machine.specs.Jobs.{copied_to, target_written, target_file, unleft, noted_start, started, outcome_of, changes_at_end, noted_end, ended, readied_by, readied}
use Rattle.flat_machine.specs.Machine.{copies_through, is_noted, note, noted, path, with_disk, node_written, read_through, with_part}
use Rattle.flat_machine.specs.Jobs.{unsure}
use Rattle.flat_machine.specs.Replies.{begins_job}
use Rattle.flat_machine.specs.Wiring.{TableStands, TableAtRest}
use Rattle.flat_machine.proofs.Finds.{bytes_eq-same, content_in-with}
use Rattle.flat_machine.proofs.Fresh.{no-found}
use Rattle.flat_machine.proofs.Resting.{stepped_table}
use Rattle.flat_machine.proofs.Tables.{pushed-cases}
use Rattle.job_tables.specs.Jobs.{JobsStand, EdgesAreDrawn}
use Rattle.job_tables.specs.Running.{JobsRun, RunBegins}
use Rattle.job_tables.specs.Starts.{JobBegins}
use Rattle.job_tables.specs.TargetFiles.{WritesFile, IsCopier, TargetFilesStand}
use Rattle.job_tables.proofs.Commands.{accepted_leave}
use Rattle.job_tables.proofs.Ended.{end_is}
use Rattle.job_tables.proofs.RunStarts.{StartParts, start_parts}
use Rattle.job_tables.proofs.Runs.{written_by, AllSpare, spare-behind, behind_over, over_jobs, end_spares, spared_target}
use Rattle.job_tables.proofs.StartCommands.{accepted_start}
use Rattle.job_tables.proofs.TargetFiles.{files_stand, same_files, wrote_before, unknown_kept, spared_other, starts_same, changes_leave_files, all_spared_files}

all_stepped-append : (s : State) (a b : List Change) → all_stepped s (a ++ b) ≡ all_stepped (all_stepped s a) b
all_stepped-append s [] b = refl
all_stepped-append s (c ∷ a) b = all_stepped-append (stepped s c) a b

-- ---- a job begins

row_added : (s : State) (row : JobRecord) → TargetFilesStand s
    → ((name : List ℕ) → WritesFile s.table row name → content_in s.files name ≡ Some Unknown) → (row.number < s.starts → ⊥)
    → TargetFilesStand (stepped s (change.StartJob row))
unfolding changed
row_added s row f own late = by_file (overlay_file s.table row row.kind)
  where
    again : (r : JobRecord) (name : List ℕ) → WritesFile (changed s.table (change.StartJob row)) r name → WritesFile s.table r name
    again r name w = record { node = w.node; there = w.there; target = w.target; filename = w.filename }

    as_new : (r : JobRecord) (name : List ℕ) → r ≡ row → WritesFile s.table r name → WritesFile s.table row name
    as_new r name is w = subst (λ (x : JobRecord). WritesFile s.table x name) is w

    by_file : (other : Option (List ℕ)) → TargetFilesStand (record (name_if other s) { table = changed s.table (change.StartJob row) })
    by_file None = record {
      unknown = λ r name here w. elim (pushed-cases s.table.jobs row r here) [
        | inl old ↦ f.unknown r name old (again r name w)
        | inr is ↦ own name (as_new r name is (again r name w))
      ];
      none_left = λ r name l here less copier w at. elim (pushed-cases s.table.jobs row r here) [
        | inl old ↦ f.none_left r name l old less copier (again r name w) at
        | inr is ↦ absurd (late (subst (λ (x : JobRecord). x.number < s.starts) is less))
      ];
    }
    by_file (Some other) = record {
      unknown = λ r name here w. elim (pushed-cases s.table.jobs row r here) [
        | inl old ↦ f.unknown r name old (again r name w)
        | inr is ↦ own name (as_new r name is (again r name w))
      ];
      none_left = λ r name l here less copier w at. elim (pushed-cases s.table.jobs row r here) [
        | inl old ↦ f.none_left r name l old less copier (again r name w) at
        | inr is ↦ absurd (late (subst (λ (x : JobRecord). x.number < s.starts) is less))
      ];
    }

all_unknown : (changes : List Change) (s : State) (jobs : List JobRecord) (name : List ℕ) → AllSpare jobs changes → content_in s.files name ≡ Some Unknown
    → content_in (all_stepped s changes).files name ≡ Some Unknown
all_unknown [] s jobs name spares is = is
all_unknown (c ∷ changes) s jobs name spares is =
    all_unknown changes (stepped s c) jobs name spares.1 (unknown_kept s c name (spared_other jobs c name spares.0) is)

-- the file was its node's before
all_wrote : (changes : List Change) (t : RunTable) (jobs : List JobRecord) (row : JobRecord) (name : List ℕ) → AllSpare jobs changes → Contains jobs row
    → WritesFile (all_changed t changes) row name → WritesFile t row name
all_wrote [] t jobs row name spares here w = w
all_wrote (c ∷ changes) t jobs row name spares here w =
    let b = all_wrote changes (changed t c) jobs row name spares.1 here w in
    wrote_before t c row name b.node (spared_target t jobs c spares.0 row b.node.id here b.target) b.there b.target b.filename

-- the file of the target is used first
used_unknown : (s : State) → TableStands s.table → (row : JobRecord) (target : ℕ) → target_written row ≡ Some target → (name : List ℕ) → WritesFile s.table row name
    → content_in (all_stepped s (file_used s.table (Some target))).files name ≡ Some Unknown
used_unknown s h row target is name w = by_found (node_by_id s.table target) refl
  where
    both : Some w.node.id ≡ Some target
    both = sym w.target ∙ is

    id : w.node.id ≡ target
    id = cc both

    by_name : (filename : Option (List ℕ)) → filename ≡ Some name → content_in (all_stepped s (file_uses filename)).files name ≡ Some Unknown
    by_name None e = absurd (let bad : None ≡ Some name = e in cc bad)
    by_name (Some other) e =
        let same : other ≡ name = cc e in
        subst (λ n. content_in (stepped s (change.UseFile other)).files n ≡ Some Unknown) same (content_in-with other Unknown s.files)

    by_file : (found : NodeRecord) → found ≡ w.node → (b : Bool) → is_file found ≡ b
        → content_in (all_stepped s (cond b (file_uses found.filename) [])).files name ≡ Some Unknown
    by_file found e true file = by_name found.filename (ap (λ (r : NodeRecord). r.filename) e ∙ w.filename)
    by_file found e false file =
        let protocol : w.node.kind ≡ driver.Protocol = h.drivers name w.node (record { there = w.there; filename = w.filename }) in
        absurd (false≢true (sym file ∙ ap is_file e ∙ ap (takes drivers.File) protocol))

    by_found : (found : Option NodeRecord) → node_by_id s.table target ≡ found → content_in (all_stepped s (of_row device_uses found)).files name ≡ Some Unknown
    by_found None e = absurd (no-found (λ (r : NodeRecord). r.id == target) s.table.nodes w.node e w.there (eq-eqb w.node.id target id))
    by_found (Some found) e =
        let here : node_by_id s.table target ≡ Some w.node = subst (λ n. node_by_id s.table n ≡ Some w.node) id (h.apart w.node w.there) in
        let one : Some found ≡ Some w.node = sym e ∙ here in
        let same : found ≡ w.node = cc one in
        by_file found same (is_file found) refl

-- what a job writes is its target or base
target_is : (row : JobRecord) (target : ℕ) → target_written row ≡ Some target → row.target ≡ Some target
target_is row target is = by_kind row.kind refl
  where
    by_kind : (k : JobKind) → row.kind ≡ k → row.target ≡ Some target
    by_kind Stream e = absurd (let bad : None ≡ Some target = sym (written_by row Stream e) ∙ is in cc bad)
    by_kind Commit e = sym (written_by row Commit e) ∙ is
    by_kind Mirror e = sym (written_by row Mirror e) ∙ is
    by_kind Backup e = sym (written_by row Backup e) ∙ is

all_starts : (changes : List Change) (s : State) → (all_stepped s changes).starts ≡ s.starts
all_starts [] s = refl
all_starts (c ∷ changes) s = all_starts changes (stepped s c) ∙ starts_same s c

later : (n m : ℕ) → n ≡ m → n < m → ⊥
later n m same less = omega (arith, same, less)

module _ (s : State) (row : JobRecord) (h : TableStands s.table) (j : JobsStand s.table) (r : JobsRun s.table) (b : JobBegins s.table row) (g : RunBegins s.table row)
    (started : s.starts ≡ s.table.started) (f : TargetFilesStand s) where
  abbrev parts : StartParts s.table row row.target (start_edits s.table row)
  parts = start_parts s.table h j r row b g

  abbrev used : List Change
  used = file_used s.table row.target

  abbrev now : State
  now = all_stepped s (used ++ parts.rest)

  own : (name : List ℕ) → WritesFile now.table row name → content_in now.files name ≡ Some Unknown
  own name w =
      let again : WritesFile (all_changed s.table (used ++ parts.rest)) row name = subst (λ t. WritesFile t row name) (stepped_table (used ++ parts.rest) s) w in
      let w0 = all_wrote (used ++ parts.rest) s.table (row ∷ []) row name parts.own (Contains-here row []) again in
      let at : row.target ≡ Some w0.node.id = target_is row w0.node.id w0.target in
      let first : content_in (all_stepped s used).files name ≡ Some Unknown =
      subst (λ o. content_in (all_stepped s (file_used s.table o)).files name ≡ Some Unknown) (sym at) (used_unknown s h row w0.node.id w0.target name w0) in
      subst (λ (x : State). content_in x.files name ≡ Some Unknown) (sym (all_stepped-append s used parts.rest))
      (all_unknown parts.rest (all_stepped s used) (row ∷ []) name (spare-behind (row ∷ []) used parts.rest parts.own) first)

  not_yet : row.number < now.starts → ⊥
  not_yet less = later row.number s.starts (g.number ∙ sym started) (subst (λ n. row.number < n) (all_starts (used ++ parts.rest) s) less)

  pub starts_keep_files : TargetFilesStand (all_stepped s (start_edits s.table row))
  starts_keep_files =
      subst (λ changes. TargetFilesStand (all_stepped s changes)) (sym parts.is)
      (subst TargetFilesStand (sym (all_stepped-append s (used ++ parts.rest) (change.StartJob row ∷ parts.tail)))
      (all_spared_files parts.tail (stepped now (change.StartJob row)) (parts.behind (stepped now (change.StartJob row)).table.jobs)
      (row_added now row (all_spared_files (used ++ parts.rest) s parts.old f) own not_yet)))

-- ---- its start stands in the history

copied_is : (row : JobRecord) (target : ℕ) → IsCopier row.kind → target_written row ≡ Some target → copied_to row row.kind ≡ Some target
copied_is row target copier is = by_kind row.kind refl copier
  where
    by_kind : (k : JobKind) → row.kind ≡ k → IsCopier k → copied_to row k ≡ Some target
    by_kind Mirror e c = sym (written_by row Mirror e) ∙ is
    by_kind Backup e c = sym (written_by row Backup e) ∙ is
    by_kind Stream e c = absurd c
    by_kind Commit e c = absurd c

target_own : (t : RunTable) (node : NodeRecord) → node.kind ≡ driver.Protocol → target_file t (Some node) ≡ node.filename
target_own t node e = rw e refl

one_more : (n m : ℕ) → n < m + 1 → (n < m) ⊎ (n ≡ m)
one_more n m less = elim (cases_lt n m) [
  | inl below ↦ inl below
  | inr above ↦ inr (omega (arith, less, above))
]

abbrev file_found : State → JobRecord → Option (List ℕ)
file_found s row = target_file s.table (option_and_then (node_by_id s.table) (copied_to row row.kind))

module _ (s : State) (h : TableStands s.table) (j : JobsStand s.table) (f : TargetFilesStand s) (row : JobRecord) (here : Contains s.table.jobs row)
    (turn : row.number ≡ s.starts) where
  -- of the job that begins it is the file that was found
  own_file : (r : JobRecord) (name : List ℕ) → Contains s.table.jobs r → r.number ≡ s.starts → IsCopier r.kind → WritesFile s.table r name
      → file_found s row ≡ Some name
  own_file r name at same copier w =
      let one : r ≡ row = j.numbers r row at here (same ∙ sym turn) in
      let found : file_found s r ≡ Some name =
      ap (λ o. target_file s.table (option_and_then (node_by_id s.table) o)) (copied_is r w.node.id copier w.target)
      ∙ ap (target_file s.table) (h.apart w.node w.there)
      ∙ target_own s.table w.node (h.drivers name w.node (record { there = w.there; filename = w.filename })) ∙ w.filename in
      subst (λ (x : JobRecord). file_found s x ≡ Some name) one found

  start_by : (file : Option (List ℕ)) → file_found s row ≡ file → TargetFilesStand (unleft file (noted_start s row))
  start_by None is = record {
    unknown = λ r name at w. f.unknown r name at (again r name w);
    none_left = λ r name l at less copier w left_at. elim (one_more r.number s.starts less) [
      | inl below ↦ f.none_left r name l at below copier (again r name w) left_at
      | inr same ↦ absurd (let bad : None ≡ Some name = sym is ∙ own_file r name at same copier (again r name w) in cc bad)
    ];
  }
    where
      again : (r : JobRecord) (name : List ℕ) → WritesFile (noted_start s row).table r name → WritesFile s.table r name
      again r name w = record { node = w.node; there = w.there; target = w.target; filename = w.filename }
  start_by (Some file) is = record {
    unknown = λ r name at w. f.unknown r name at (again r name w);
    none_left = λ r name l at less copier w left_at named.
        let kept = Contains-filter (λ (x : Left). not (bytes_eq x.file file)) s.left l left_at in
        elim (one_more r.number s.starts less) [
          | inl below ↦ f.none_left r name l at below copier (again r name w) kept.0 named
          | inr same ↦
              let both : Some file ≡ Some name = sym is ∙ own_file r name at same copier (again r name w) in
              let equal : file ≡ name = cc both in
              let yes : bytes_eq l.file file ≡ true = subst (λ n. bytes_eq l.file n ≡ true) (named ∙ sym equal) (bytes_eq-same l.file) in
              false≢true (sym (ap not yes) ∙ kept.1)
        ];
  }
    where
      again : (r : JobRecord) (name : List ℕ) → WritesFile (unleft (Some file) (noted_start s row)).table r name → WritesFile s.table r name
      again r name w = record { node = w.node; there = w.there; target = w.target; filename = w.filename }

pub start_noted : (s : State) (number : ℕ) → TableStands s.table → JobsStand s.table → number ≡ s.starts → TargetFilesStand s
    → IsSome (job_at s.table number) → TargetFilesStand (started s (job_at s.table number))
start_noted s number h j turn f some = by_found (job_at s.table number) refl some
  where
    by_found : (found : Option JobRecord) → job_at s.table number ≡ found → IsSome found → TargetFilesStand (started s found)
    by_found None e some = absurd (let bad = some in cc)
    by_found (Some row) e some =
        let x = find-Some (λ (job : JobRecord). job.number == number) s.table.jobs row e in
        start_by s h j f row x.0 (eqb-true row.number number x.1 ∙ turn) (file_found s row) refl

-- ---- a job is ready, or ends

pub readied_files : (s : State) (number : ℕ) → TableStands s.table → JobsStand s.table → TargetFilesStand s → TargetFilesStand (readied number s)
readied_files s number h j f = by_found (job_at s.table number)
  where
    by_found : (found : Option JobRecord) → TargetFilesStand (readied_by s found)
    by_found None = f
    by_found (Some row) = changes_leave_files (ready_edits row) s h j (tt, tt) (tt, tt) (tt, tt) f

over_files : (s : State) (row : JobRecord) (drops : Bool) → TargetFilesStand s → TargetFilesStand (stepped s (change.EndJob row.number row.slot drops))
unfolding changed
over_files s row drops f = record {
  unknown = λ r name at w. f.unknown r name (was r at) (again r name w);
  none_left = λ r name l at less copier w left_at. f.none_left r name l (was r at) less copier (again r name w) left_at;
}
  where
    was : (r : JobRecord) → Contains (changed s.table (change.EndJob row.number row.slot drops)).jobs r → Contains s.table.jobs r
    was r at = (Contains-filter (λ (x : JobRecord). not (x.number == row.number)) s.table.jobs r at).0

    again : (r : JobRecord) (name : List ℕ) → WritesFile (changed s.table (change.EndJob row.number row.slot drops)) r name → WritesFile s.table r name
    again r name w = record { node = w.node; there = w.there; target = w.target; filename = w.filename }

pub noted_end_files : (s : State) (row : JobRecord) (why : JobEnd) → TableStands s.table → JobsStand s.table → Contains s.table.jobs row → TargetFilesStand s
    → TargetFilesStand (noted_end s row why)
noted_end_files s row why h j here f =
    same_files (all_stepped s (changes_at_end s row why)) (noted_end s row why) refl refl refl refl
    (subst (λ changes. TargetFilesStand (all_stepped s changes)) (sym (end_is s.table row (outcome_of why)))
    (all_spared_files behind (stepped s over)
    (subst (λ jobs. AllSpare jobs behind) (sym (over_jobs s.table h j row here drops)) (end_spares s.table h j row here (outcome_of why)))
    (over_files s row drops f)))
  where
    drops : Bool
    drops = drops_aside (outcome_of why) row.bitmap

    over : Change
    over = change.EndJob row.number row.slot drops

    behind : List Change
    behind = behind_over s.table h j row here (outcome_of why)

pub ended_files : (s : State) (number : ℕ) (why : JobEnd) → TableStands s.table → JobsStand s.table → TargetFilesStand s
    → TargetFilesStand (ended s (job_at s.table number) why)
ended_files s number why h j f = by_found (job_at s.table number) refl
  where
    by_found : (found : Option JobRecord) → job_at s.table number ≡ found → TargetFilesStand (ended s found why)
    by_found None e = f
    by_found (Some row) e = noted_end_files s row why h j (find-Some (λ (job : JobRecord). job.number == number) s.table.jobs row e).0 f

-- ---- accepted commands

pub accepted_files : (s : State) (told exp : Told) (c : Cmd) → TableAtRest s.table → JobsStand s.table → JobsRun s.table → EdgesAreDrawn s.table
    → s.starts ≡ s.table.started → refusal_to s.table told c ≡ None → TargetFilesStand s → TargetFilesStand (all_stepped s (command_edits s.table exp c))
accepted_files s told exp c rests j r d started quiet f = by_start (begins_job c) refl
  where
    by_start : (b : Bool) → begins_job c ≡ b → TargetFilesStand (all_stepped s (command_edits s.table exp c))
    by_start true begins =
        let x = accepted_start s.table told exp c rests.stands (record { stand = j; run = r }) d begins quiet in
        subst (λ (changes : List Change). TargetFilesStand (all_stepped s changes)) (sym x.is)
        (starts_keep_files s x.row rests.stands j r x.begins.job x.begins.run started f)
    by_start false begins = elim (accepted_leave s.table told exp c begins rests j quiet) [
      | inl l ↦ changes_leave_files (command_edits s.table exp c) s rests.stands j l.0 l.1.0 l.1.1 f
      | inr of ↦
          subst (λ (changes : List Change). TargetFilesStand (all_stepped s changes)) (sym of.is)
          (all_spared_files (change.Attach of.overlay of.node ∷ change.Move of.node of.overlay of.overlay ∷ []) s (tt, (tt, tt)) f)
    ]

-- ---- a guest's piece

written_files : (s : State) (node : ℕ) → TargetFilesStand s → TargetFilesStand (node_written node s)
unfolding written_under
written_files s node f =
    files_stand s (node_written node s) f
    (λ row name at w.
    let r = Contains-map (unsettled_over s.table node) s.table.nodes w.node w.there in
    let same = as_before r.0 (is_over s.table node r.0.id) in
    record {
      old = row;
      there = at;
      number = refl;
      kind = refl;
      writes = record {
        node = r.0;
        there = r.1;
        target = w.target ∙ ap Some (ap (λ (x : NodeRecord). x.id) r.2 ∙ same.0);
        filename = sym (ap (λ (x : NodeRecord). x.filename) r.2 ∙ same.1) ∙ w.filename;
      };
    })
    (λ row name at w known. known) (λ row name l at w left_at named. left_at) refl
  where
    as_before : (row : NodeRecord) (b : Bool) → ((cond b (record row { is_settled = false }) row).id ≡ row.id)
        × ((cond b (record row { is_settled = false }) row).filename ≡ row.filename)
    as_before row true = (refl, refl)
    as_before row false = (refl, refl)

note_files : (s : State) (outcome : Outcome) (part : Extent) (drive : ℕ) → TargetFilesStand s → TargetFilesStand (note outcome part drive s)
note_files s outcome part drive f = by_flag (is_noted outcome)
  where
    by_flag : (b : Bool) → TargetFilesStand (cond b (record s { dirty = noted s.table part s.dirty (path s.table drive) }) s)
    by_flag true = same_files s (record s { dirty = noted s.table part s.dirty (path s.table drive) }) refl refl refl refl f
    by_flag false = f

read_files : (s : State) (drive : ℕ) → TargetFilesStand s → TargetFilesStand (read_through drive s)
read_files s drive f = by_flag (copies_through s.table drive)
  where
    by_flag : (b : Bool) → TargetFilesStand (cond b (record s { images = map (unsure (disk_node s.table drive ∷ [])) s.images }) s)
    by_flag true = same_files s (record s { images = map (unsure (disk_node s.table drive ∷ [])) s.images }) refl refl refl refl f
    by_flag false = f

pub piece_files : (s : State) (drive : ℕ) (op : Op) (outcome : Outcome) (part : Extent) → TargetFilesStand s
    → TargetFilesStand (with_part drive op outcome part s)
piece_files s drive op outcome part f = by_op op
  where
    node : ℕ
    node = disk_node s.table drive

    done : Op → State
    done op = with_disk node (done_in op part (done_by outcome part)) s

    done_files : (op : Op) → TargetFilesStand (done op)
    done_files op = same_files s (done op) refl refl refl refl f

    by_op : (op : Op) → TargetFilesStand (with_part drive op outcome part s)
    by_op (Read span) = read_files (done (Read span)) drive (done_files (Read span))
    by_op (Write span payload) =
        note_files (node_written node (done (Write span payload))) outcome part drive (written_files (done (Write span payload)) node (done_files (Write span payload)))
    by_op (Zero span) = note_files (node_written node (done (Zero span))) outcome part drive (written_files (done (Zero span)) node (done_files (Zero span)))
    by_op (Discard span) = done_files (Discard span)
    by_op Flush = done_files Flush

-- ---- the beginning

pub opening_files : (s : State) → s.table.jobs ≡ [] → TargetFilesStand s
opening_files s none = record {
  unknown = λ row name at w. absurd (Contains-nil row (subst (λ rows. Contains rows row) none at));
  none_left = λ row name l at less copier w left_at. absurd (Contains-nil row (subst (λ rows. Contains rows row) none at));
}
