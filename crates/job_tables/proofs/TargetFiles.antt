-- Of the files that jobs write nothing is known, and no disk is left in them, behind changes and events.
use Rattle.std.proofs.Common.{◌≡◌, ◌≢◌, ◌⊎◌, ℕ, ◌<◌, List, [], ◌∷◌, replicate, refl, sym, ◌∙◌, ap, subst, inl, inr, Bool, true, false, cond, Option, Some, None, option_map}
use Rattle.std.specs.Prelude.{◌==◌, ◌&&◌, not, bytes_eq, is_none, IsSome}
use Rattle.std.specs.Option.{option_and_then}
use Rattle.std.specs.List.{Contains}
use Rattle.std.proofs.lemmas.Bool.{eqb-true}
use Rattle.blk_graph.specs.declared.edge.Parent.TheVariants.{Node}
use Rattle.blk_graph.specs.declared.edge.Role.TheVariants.{File, Backing}
use Rattle.blk_graph.specs.declared.kind.Kind.{Kind}
use Rattle.blk_graph.specs.declared.kind.Kind.TheVariants as driver
use Rattle.blk_graph.proofs.Members.{Contains-filter, find-Some}
use Rattle.qmp_rules.specs.declared.change.Change.{Change}
use Rattle.qmp_rules.specs.declared.change.Change.TheVariants as change
use Rattle.qmp_rules.specs.declared.rows.NodeRecord.{NodeRecord}
use Rattle.qmp_rules.specs.declared.rows.JobRecord.{JobRecord}
use Rattle.qmp_rules.specs.Asks.{name_of_file}
use Rattle.qmp_rules.specs.Chains.{filter_role}
use Rattle.qmp_rules.specs.Changes.{changed}
use Rattle.qmp_rules.specs.Table.{RunTable, node_by_id, child}
use Rattle.flat_machine.specs.State.{State, Content, Bytes, Unknown, Mapped, Left, content_in, filename_of}
use Rattle.q2_format.specs.Created.{creation_of}
use Rattle.flat_machine.specs.Contents.{with_content, formatted, mapped_in, file_bytes}
use Rattle.flat_machine.specs.Changed.{put, name_file, name_if, add_file, content_under, bytes_by_format, know_if, note_image, own_filename, left_in, leave, left_disk, overlay_file, format_name, stepped, all_stepped}
use Rattle.flat_machine.specs.Jobs.{target_written}
use Rattle.flat_machine.specs.Suiting.{TableSuits, AllTableSuit}
use Rattle.flat_machine.specs.Wiring.{LeadsToFile, TableStands}
use Rattle.flat_machine.proofs.Finds.{cases_name, content_in-with, content_in-with_other}
use Rattle.flat_machine.proofs.TableRests.{table_keeps}
use Rattle.flat_machine.proofs.Tables.{pushed-cases}
use Rattle.flat_machine.proofs.WritingKept.{role_edge}
use Rattle.job_tables.specs.Changes.{IsNoJobs, LeavesJobs, AllLeaveJobs}
use Rattle.job_tables.specs.Jobs.{JobsStand}
use Rattle.job_tables.specs.Rows.{nodes_of_job}
use Rattle.job_tables.specs.Running.{LeavesDisks, AllLeaveDisks}
use Rattle.job_tables.specs.TargetFiles.{WritesFile, IsCopier, TargetFilesStand}
use Rattle.job_tables.proofs.Changes.{change_leaves_jobs}
use Rattle.job_tables.proofs.Nobodys.{under_no_job}
use Rattle.job_tables.proofs.RowEdges.{in_left}
use Rattle.job_tables.proofs.RunRows.{KeepsWritten, was_row, not_new, id_by, file_by}
use Rattle.job_tables.proofs.Runs.{was_job, leaves_target, target_held, Spares, AllSpare, spared_jobs, spared_target}

-- ---- from one state to another

-- a job that writes a file was one that wrote it
pub record WroteFile (t : RunTable) (row : JobRecord) (name : List ℕ) : Type 0 where
  pub old : JobRecord
  pub there : Contains t.jobs old
  pub number : row.number ≡ old.number
  pub kind : row.kind ≡ old.kind
  pub writes : WritesFile t old name

module _ (s now : State) (f : TargetFilesStand s)
    (back : (row : JobRecord) (name : List ℕ) → Contains now.table.jobs row → WritesFile now.table row name → WroteFile s.table row name)
    (files : (row : JobRecord) (name : List ℕ) → Contains s.table.jobs row → WritesFile s.table row name → content_in s.files name ≡ Some Unknown
    → content_in now.files name ≡ Some Unknown)
    (left : (row : JobRecord) (name : List ℕ) (l : Left) → Contains s.table.jobs row → WritesFile s.table row name → Contains now.left l → l.file ≡ name
    → Contains s.left l)
    (starts : now.starts ≡ s.starts) where
  pub files_stand : TargetFilesStand now
  files_stand = record {
    unknown = λ row name here writes.
        let w = back row name here writes in
        files w.old name w.there w.writes (f.unknown w.old name w.there w.writes);
    none_left = λ row name l here less copier writes at is.
        let w = back row name here writes in
        f.none_left w.old name l w.there (subst (λ n. n < s.starts) w.number (subst (λ n. row.number < n) starts less)) (subst IsCopier w.kind copier) w.writes
        (left w.old name l w.there w.writes at is) is;
  }

same_writes : (t : RunTable) (row : JobRecord) (name : List ℕ) → Contains t.jobs row → WritesFile t row name → WroteFile t row name
same_writes t row name here writes = record { old = row; there = here; number = refl; kind = refl; writes = writes }

-- beside the table, and but for its files' rows
pub same_files : (s now : State) → now.table ≡ s.table → now.files ≡ s.files → now.left ≡ s.left → now.starts ≡ s.starts → TargetFilesStand s → TargetFilesStand now
same_files s now table files left starts f =
    files_stand s now f
    (λ row name here writes.
    same_writes s.table row name (subst (λ (t : RunTable). Contains t.jobs row) table here) (subst (λ t. WritesFile t row name) table writes))
    (λ row name here writes known. ap (λ fs. content_in fs name) files ∙ known)
    (λ row name l here writes at is. subst (λ ls. Contains ls l) left at) starts

-- ---- what changes do to files and to disks that are left

known_with : (name other : List ℕ) (content : Content) (s : State) → name ≢ other → content_in s.files name ≡ Some Unknown
    → content_in (with_content other content s.files) name ≡ Some Unknown
known_with name other content s differ is = content_in-with_other other name content s.files differ ∙ is

unknown_with : (name other : List ℕ) (s : State) → content_in s.files name ≡ Some Unknown → content_in (with_content other Unknown s.files) name ≡ Some Unknown
unknown_with name other s is = elim (cases_name name other) [
  | inl same ↦ subst (λ n. content_in (with_content other Unknown s.files) n ≡ Some Unknown) (sym same) (content_in-with other Unknown s.files)
  | inr differ ↦ known_with name other Unknown s differ is
]

-- the change doesn't make the file anew
abbrev pub MakesOther : Change → List ℕ → Type 0
MakesOther (change.MakeFile other size) name = name ≢ other
MakesOther (change.FormatFile node other size backing_file backing_fmt) name = name ≢ other
MakesOther c name = Unit {0}

-- the same files, disks that are left and starts
record HasSameFiles (s now : State) : Type 0 where
  files : now.files ≡ s.files
  left : now.left ≡ s.left
  starts : now.starts ≡ s.starts

imaged : (kind : Kind) (id : ℕ) (mapped : Mapped) (s : State) → HasSameFiles s (note_image kind id mapped s)
imaged driver.Qcow2 id mapped s = record { files = refl; left = refl; starts = refl }
imaged driver.Protocol id mapped s = record { files = refl; left = refl; starts = refl }
imaged driver.Raw id mapped s = record { files = refl; left = refl; starts = refl }
imaged driver.CopyOnRead id mapped s = record { files = refl; left = refl; starts = refl }
imaged driver.BeforeWrite id mapped s = record { files = refl; left = refl; starts = refl }
imaged driver.Mirror id mapped s = record { files = refl; left = refl; starts = refl }
imaged driver.Commit id mapped s = record { files = refl; left = refl; starts = refl }

abbrev pictured : State → NodeRecord → ℕ → Option ℕ → State
pictured s row file backing =
    note_image row.kind row.id (mapped_in (content_under s file)) (put row.id (bytes_by_format s row file backing row.kind) s)

pictured_same : (s : State) (row : NodeRecord) (file : ℕ) (backing : Option ℕ) → HasSameFiles s (pictured s row file backing)
pictured_same s row file backing =
    let same = imaged row.kind row.id (mapped_in (content_under s file)) (put row.id (bytes_by_format s row file backing row.kind) s) in
    record { files = same.files; left = same.left; starts = same.starts }

named_same : (other : Option (List ℕ)) (s : State) → HasSameFiles s (name_if other s)
named_same None s = record { files = refl; left = refl; starts = refl }
named_same (Some other) s = record { files = refl; left = refl; starts = refl }

added_same : (row : NodeRecord) (s : State) → HasSameFiles s (add_file row s)
added_same row s = by_flag row.read_only
  where
    with_disk : State
    with_disk = put row.id (file_bytes row.size (content_in s.files (name_of_file row))) s

    by_flag : (b : Bool) → HasSameFiles s (cond b with_disk (name_file (name_of_file row) with_disk))
    by_flag true = record { files = refl; left = refl; starts = refl }
    by_flag false = record { files = refl; left = refl; starts = refl }

known_in : (s now : State) (name : List ℕ) → HasSameFiles s now → content_in s.files name ≡ Some Unknown → content_in now.files name ≡ Some Unknown
known_in s now name same is = ap (λ fs. content_in fs name) same.files ∙ is

pub unknown_kept : (s : State) (c : Change) (name : List ℕ) → MakesOther c name → content_in s.files name ≡ Some Unknown
    → content_in (stepped s c).files name ≡ Some Unknown
unknown_kept s (change.MakeFile other size) name differ is = known_with name other (Bytes (replicate size 0)) s differ is
unknown_kept s (change.FormatFile node other size backing_file backing_fmt) name differ is =
    known_with name other (formatted (creation_of size backing_file (option_map format_name backing_fmt)) (content_in s.files other)) s differ is
unknown_kept s (change.SpoilFile other) name m is = unknown_with name other s is
unknown_kept s (change.UseFile other) name m is = unknown_with name other s is
unknown_kept s (change.AddFile row) name m is = known_in s (add_file row s) name (added_same row s) is
unknown_kept s (change.AddFormat row file backing) name m is = by_file (filename_of s.table file)
  where
    by_file : (other : Option (List ℕ)) → content_in (know_if other Unknown (pictured s row file backing)).files name ≡ Some Unknown
    by_file None = known_in s (pictured s row file backing) name (pictured_same s row file backing) is
    by_file (Some other) =
        ap (λ fs. content_in (with_content other Unknown fs) name) (pictured_same s row file backing).files ∙ unknown_with name other s is
unknown_kept s (change.RemoveNode node) name m is = by_left (option_and_then (left_disk s) (node_by_id s.table node))
  where
    by_left : (gone : Option Left) → content_in (leave gone s).files name ≡ Some Unknown
    by_left None = is
    by_left (Some l) = is
unknown_kept s (change.MakeWritable node) name m is = known_in s (name_if (filename_of s.table node) s) name (named_same (filename_of s.table node) s) is
unknown_kept s (change.StartJob row) name m is =
    known_in s (name_if (overlay_file s.table row row.kind) s) name (named_same (overlay_file s.table row row.kind) s) is
unknown_kept s c name m is = is

-- a disk that is left was left, or is that of the node that goes
pub record IsLeftBy (s : State) (node : ℕ) (l : Left) : Type 0 where
  pub row : NodeRecord
  pub at : node_by_id s.table node ≡ Some row
  pub file : own_filename s.table row row.kind ≡ Some l.file

abbrev pub LeavesMore : State → Change → Left → Type 0
LeavesMore s (change.RemoveNode node) l = IsLeftBy s node l
LeavesMore s c l = ⊥

left_in_same : (s now : State) (l : Left) → HasSameFiles s now → Contains now.left l → Contains s.left l
left_in_same s now l same at = subst (λ ls. Contains ls l) same.left at

pub left_before : (s : State) (c : Change) (l : Left) → Contains (stepped s c).left l → Contains s.left l ⊎ LeavesMore s c l
left_before s (change.MakeFile other size) l at = inl (Contains-filter (λ (x : Left). not (bytes_eq x.file other)) s.left l at).0
left_before s (change.FormatFile node other size backing_file backing_fmt) l at = inl (Contains-filter (λ (x : Left). not (bytes_eq x.file other)) s.left l at).0
left_before s (change.SpoilFile other) l at = inl (Contains-filter (λ (x : Left). not (bytes_eq x.file other)) s.left l at).0
left_before s (change.AddFile row) l at = inl (left_in_same s (add_file row s) l (added_same row s) at)
left_before s (change.AddFormat row file backing) l at = inl (by_file (filename_of s.table file) at)
  where
    by_file : (other : Option (List ℕ)) → Contains (know_if other Unknown (pictured s row file backing)).left l → Contains s.left l
    by_file None h = left_in_same s (pictured s row file backing) l (pictured_same s row file backing) h
    by_file (Some other) h = left_in_same s (pictured s row file backing) l (pictured_same s row file backing) h
left_before s (change.RemoveNode node) l at = by_row (node_by_id s.table node) refl at
  where
    by_own : (row : NodeRecord) → node_by_id s.table node ≡ Some row → (own : Option (List ℕ)) → own_filename s.table row row.kind ≡ own
        → Contains (leave (option_map (left_in s.disks row) own) s).left l → Contains s.left l ⊎ IsLeftBy s node l
    by_own row e None is h = inl h
    by_own row e (Some file) is h = elim (pushed-cases s.left (left_in s.disks row file) l h) [
      | inl old ↦ inl old
      | inr new ↦ inr (record { row = row; at = e; file = is ∙ ap Some (sym (ap (λ (x : Left). x.file) new)) })
    ]

    by_test : (row : NodeRecord) → node_by_id s.table node ≡ Some row → (b : Bool)
        → Contains (leave (cond b (option_map (left_in s.disks row) (own_filename s.table row row.kind)) None) s).left l → Contains s.left l ⊎ IsLeftBy s node l
    by_test row e true h = by_own row e (own_filename s.table row row.kind) refl h
    by_test row e false h = inl h

    by_row : (found : Option NodeRecord) → node_by_id s.table node ≡ found → Contains (leave (option_and_then (left_disk s) found) s).left l
        → Contains s.left l ⊎ IsLeftBy s node l
    by_row None e h = inl h
    by_row (Some row) e h = by_test row e (row.is_settled && is_none (child s.table row.id Backing)) h
left_before s (change.MakeWritable node) l at = inl (left_in_same s (name_if (filename_of s.table node) s) l (named_same (filename_of s.table node) s) at)
left_before s (change.StartJob row) l at =
    inl (left_in_same s (name_if (overlay_file s.table row row.kind) s) l (named_same (overlay_file s.table row row.kind) s) at)
left_before s c l at = inl at

pub starts_same : (s : State) (c : Change) → (stepped s c).starts ≡ s.starts
starts_same s (change.AddFile row) = (added_same row s).starts
starts_same s (change.AddFormat row file backing) = by_file (filename_of s.table file)
  where
    by_file : (other : Option (List ℕ)) → (know_if other Unknown (pictured s row file backing)).starts ≡ s.starts
    by_file None = (pictured_same s row file backing).starts
    by_file (Some other) = (pictured_same s row file backing).starts
starts_same s (change.RemoveNode node) = by_left (option_and_then (left_disk s) (node_by_id s.table node))
  where
    by_left : (gone : Option Left) → (leave gone s).starts ≡ s.starts
    by_left None = refl
    by_left (Some l) = refl
starts_same s (change.MakeWritable node) = (named_same (filename_of s.table node) s).starts
starts_same s (change.StartJob row) = (named_same (overlay_file s.table row row.kind) s).starts
starts_same s c = refl

-- ---- changes that leave jobs and their disks

-- the file of a node that goes is no job's
file_apart : (t : RunTable) → TableStands t → JobsStand t → (gone : ℕ) → IsNoJobs t gone → (row : NodeRecord) → node_by_id t gone ≡ Some row
    → (job : JobRecord) → Contains t.jobs job → (name : List ℕ) → WritesFile t job name → own_filename t row row.kind ≢ Some name
file_apart t h j gone free row found job here name w own = by_kind row.kind refl own
  where
    at : Contains t.nodes row
    at = (find-Some (λ (r : NodeRecord). r.id == gone) t.nodes row found).0

    id : row.id ≡ gone
    id = eqb-true row.id gone (find-Some (λ (r : NodeRecord). r.id == gone) t.nodes row found).1

    has : Contains (nodes_of_job job) w.node.id
    has = in_left job.held job.read w.node.id (target_held t job (j.each job here) w.node.id w.target)

    itself : row.filename ≡ Some name → ⊥
    itself named =
        let same : w.node.id ≡ row.id = h.alone name w.node row (record { there = w.there; filename = w.filename }) (record { there = at; filename = named }) in
        free.held job here (subst (Contains (nodes_of_job job)) (same ∙ id) has)

    under : filter_role row.kind ≡ None → option_and_then (filename_of t) (child t row.id File) ≡ Some name → ⊥
    under format is = by_child (child t row.id File) refl is
      where
        by_row : (file : ℕ) → child t row.id File ≡ Some file → (found : Option NodeRecord) → node_by_id t file ≡ found
            → option_and_then (λ (r : NodeRecord). r.filename) found ≡ Some name → ⊥
        by_row file e None f named = let bad : None ≡ Some name = named in cc bad
        by_row file e (Some below) f named =
            let below_at = find-Some (λ (r : NodeRecord). r.id == file) t.nodes below f in
            let x = role_edge (Node row.id) File t.edges file e in
            let leads : LeadsToFile t row below = record {
              over_there = at;
              under_there = below_at.0;
              edge = x.edge;
              there = x.there;
              parent = x.from;
              role = x.role_is;
              child = x.to ∙ sym (eqb-true below.id file below_at.1);
            } in
            let same : w.node.id ≡ below.id =
            h.alone name w.node below (record { there = w.there; filename = w.filename }) (record { there = below_at.0; filename = named }) in
            (under_no_job t h j row below leads (subst IsSome (sym named) refl) format).held job here (subst (Contains (nodes_of_job job)) same has)

        by_child : (below : Option ℕ) → child t row.id File ≡ below → option_and_then (filename_of t) below ≡ Some name → ⊥
        by_child None e named = let bad : None ≡ Some name = named in cc bad
        by_child (Some file) e named = by_row file e (node_by_id t file) refl named

    by_kind : (k : Kind) → row.kind ≡ k → own_filename t row k ≡ Some name → ⊥
    by_kind driver.Protocol e is = itself is
    by_kind driver.Raw e is = under (ap filter_role e) is
    by_kind driver.Qcow2 e is = under (ap filter_role e) is
    by_kind driver.CopyOnRead e is = let bad : None ≡ Some name = is in cc bad
    by_kind driver.BeforeWrite e is = let bad : None ≡ Some name = is in cc bad
    by_kind driver.Mirror e is = let bad : None ≡ Some name = is in cc bad
    by_kind driver.Commit e is = let bad : None ≡ Some name = is in cc bad

-- a node that a job writes had the same file before
pub wrote_before : (t : RunTable) (c : Change) (old : JobRecord) (name : List ℕ) (node : NodeRecord) → KeepsWritten t c node.id
    → Contains (changed t c).nodes node → target_written old ≡ Some node.id → node.filename ≡ Some name → WritesFile t old name
wrote_before t c old name node keeps there target named =
    let w = was_row t c node (not_new t c node.id keeps) there in
    let id : w.row.id ≡ node.id = sym (id_by c w.row) ∙ ap (λ (r : NodeRecord). r.id) (sym w.is) in
    record {
      node = w.row;
      there = w.there;
      target = target ∙ ap Some (sym id);
      filename = sym (file_by c w.row) ∙ ap (λ (r : NodeRecord). r.filename) (sym w.is) ∙ named;
    }

makes_other : (t : RunTable) (c : Change) (row : JobRecord) (name : List ℕ) (w : WritesFile t row name) → KeepsWritten t c w.node.id → MakesOther c name
makes_other t (change.MakeFile other size) row name w keeps = λ same. keeps w.node w.there refl (w.filename ∙ ap Some same)
makes_other t (change.FormatFile node other size backing_file backing_fmt) row name w keeps = λ same. keeps w.node w.there refl (w.filename ∙ ap Some same)
makes_other t c row name w keeps = tt

change_leaves_files : (s : State) (c : Change) → TableStands s.table → JobsStand s.table → TableSuits s.table c → LeavesJobs s.table c → LeavesDisks s.table c
    → TargetFilesStand s → TargetFilesStand (stepped s c)
change_leaves_files s c h j suits leaves disks f =
    files_stand s (stepped s c) f
    (λ row name here writes.
    let w = was_job s.table c leaves row here in
    let is : target_written w.old ≡ Some writes.node.id = sym w.written ∙ writes.target in
    record {
      old = w.old;
      there = w.there;
      number = w.number;
      kind = w.kind;
      writes = wrote_before s.table c w.old name writes.node (leaves_target s.table h j w.old w.there writes.node.id is c suits leaves disks) writes.there is
          writes.filename;
    })
    (λ row name here writes known.
    unknown_kept s c name
    (makes_other s.table c row name writes (leaves_target s.table h j row here writes.node.id writes.target c suits leaves disks)) known)
    (λ row name l here writes at is. elim (left_before s c l at) [
      | inl old ↦ old
      | inr more ↦ absurd (by_change c leaves row name l here writes is more)
    ])
    (starts_same s c)
  where
    by_change : (c : Change) → LeavesJobs s.table c → (row : JobRecord) (name : List ℕ) (l : Left) → Contains s.table.jobs row → WritesFile s.table row name
        → l.file ≡ name → LeavesMore s c l → ⊥
    by_change (change.RemoveNode node) leaves row name l here writes is more =
        file_apart s.table h j node leaves more.row more.at row here name writes (more.file ∙ ap Some is)
    by_change c leaves row name l here writes is more = absurd more

pub changes_leave_files : (changes : List Change) (s : State) → TableStands s.table → JobsStand s.table → AllTableSuit s.table changes
    → AllLeaveJobs s.table changes → AllLeaveDisks s.table changes → TargetFilesStand s → TargetFilesStand (all_stepped s changes)
changes_leave_files [] s h j suits leaves disks f = f
changes_leave_files (c ∷ changes) s h j suits leaves disks f =
    changes_leave_files changes (stepped s c) (table_keeps s.table c suits.0 h) (change_leaves_jobs s.table c h j suits.0 leaves.0) suits.1 leaves.1 disks.1
    (change_leaves_files s c h j suits.0 leaves.0 disks.0 f)

-- ---- changes that spare what jobs read and write, as those of starts and ends

pub spared_other : (jobs : List JobRecord) (c : Change) (name : List ℕ) → Spares jobs c → MakesOther c name
spared_other jobs (change.MakeFile other size) name s = absurd s
spared_other jobs (change.FormatFile node other size backing_file backing_fmt) name s = absurd s
spared_other jobs c name s = tt

spared_left : (s : State) (jobs : List JobRecord) (c : Change) (l : Left) → Spares jobs c → Contains (stepped s c).left l → Contains s.left l
spared_left s jobs c l spares at = elim (left_before s c l at) [
  | inl old ↦ old
  | inr more ↦ absurd (by_change c spares more)
]
  where
    by_change : (c : Change) → Spares jobs c → LeavesMore s c l → ⊥
    by_change (change.RemoveNode node) spares more = spares
    by_change c spares more = more

spared_files : (s : State) (c : Change) → Spares s.table.jobs c → TargetFilesStand s → TargetFilesStand (stepped s c)
spared_files s c spares f =
    files_stand s (stepped s c) f
    (λ row name here writes.
    let was : Contains s.table.jobs row = subst (λ rows. Contains rows row) (spared_jobs s.table s.table.jobs c spares) here in
    record {
      old = row;
      there = was;
      number = refl;
      kind = refl;
      writes = wrote_before s.table c row name writes.node (spared_target s.table s.table.jobs c spares row writes.node.id was writes.target) writes.there writes.target
          writes.filename;
    })
    (λ row name here writes known. unknown_kept s c name (spared_other s.table.jobs c name spares) known)
    (λ row name l here writes at is. spared_left s s.table.jobs c l spares at) (starts_same s c)

pub all_spared_files : (changes : List Change) (s : State) → AllSpare s.table.jobs changes → TargetFilesStand s → TargetFilesStand (all_stepped s changes)
all_spared_files [] s spares f = f
all_spared_files (c ∷ changes) s spares f =
    all_spared_files changes (stepped s c)
    (subst (λ jobs. AllSpare jobs changes) (sym (spared_jobs s.table s.table.jobs c spares.0)) spares.1) (spared_files s c spares.0 f)
