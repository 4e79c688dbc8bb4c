-- Nodes that come and go, and devices that come, leave what a guest's writing rests on.
use Rattle.std.proofs.Common.{◌≡◌, ◌≢◌, ◌⊎◌, ℕ, Bool, true, false, cond, List, [], ◌∷◌, ◌++◌, refl, sym, ap, subst, ◌∙◌, inl, inr, Option, Some, None, option_map}
use Rattle.std.specs.Prelude.{◌==◌, ◌&&◌, ◌||◌, not, bytes_eq, All, IsSome, is_none, option_and_then, unwrap_or}
use Rattle.std.specs.List.{find, filter, Contains}
use Rattle.std.proofs.lemmas.Bool.{eqb-true, eq-eqb, ne_eqb}
use Rattle.std.proofs.lemmas.List.Elements.{All-weaker, All-push}
use Rattle.std.proofs.lemmas.List.Folds.{list_any-append}
use Rattle.blk_graph.specs.declared.edge.Edge.{Edge}
use Rattle.blk_graph.specs.declared.edge.Parent.TheVariants.{Node, Guest}
use Rattle.blk_graph.specs.declared.edge.Role.TheVariants.{Drive, File, Backing, Between}
use Rattle.blk_graph.specs.declared.kind.NodeKind.{NodeKind}
use Rattle.blk_graph.specs.Edges.{same_parent, same_role}
use Rattle.blk_graph.specs.Edits.{is_edge, child_of, with_edge, without_parent, takes_place}
use Rattle.blk_graph.specs.Refreshed.{refreshed}
use Rattle.blk_graph.specs.Permissions.{node_edge}
use Rattle.blk_graph.proofs.CycleLemmas.{and-left, and-right, same_parent-true}
use Rattle.blk_graph.proofs.InverseLemmas.{same_parent-refl}
use Rattle.blk_graph.proofs.RoleLemmas.{same_role-true, same_role-refl}
use Rattle.blk_graph.proofs.ChildLemmas.{child-kept, child-without}
use Rattle.blk_graph.proofs.RefreshLemmas.{child_of-refreshed}
use Rattle.blk_graph.proofs.Members.{find-Some}
use Rattle.qmp_rules.specs.declared.change.Change.TheVariants as change
use Rattle.qmp_rules.specs.declared.rows.NodeRecord.{NodeRecord}
use Rattle.qmp_rules.specs.declared.rows.DeviceRow.{DeviceRow}
use Rattle.qmp_rules.specs.declared.rows.FileState.TheVariants.{Used}
use Rattle.qmp_rules.specs.Table.{RunTable, node_by_id, child, device_by_number, file_state, has_name, kinds_of}
use Rattle.qmp_rules.specs.Chains.{filter_role, disk_node}
use Rattle.qmp_rules.specs.Changes.{changed, unsettled, with_unsettled, without_record, device_edge, with_backing_edge, with_format_edges}
use Rattle.qmp_rules.specs.Asks.{name_of_file}
use Rattle.blk_history.specs.Fold.{With}
use Rattle.flat_machine.specs.State.{State, Disk, Left, Unknown, content_in, filename_of, drive_of}
use Rattle.flat_machine.specs.Contents.{with_content, mapped_in, file_bytes}
use Rattle.flat_machine.specs.Changed.{stepped, put, name_file, add_file, with_bytes_of, know_if, content_under, bytes_by_format, left_disk, left_in, leave, own_filename}
use Rattle.flat_machine.specs.Wiring.{StandsFor, IsUnder, LeadsToFile, EdgesHaveEnds}
use Rattle.flat_machine.specs.Standing.{HasBytes, IsUsedUp, MayGuestWrite, WritingStands, Stands}
use Rattle.flat_machine.specs.Suiting.{IsThere, FileSuits, FormatSuits, SuitsFilter, RemovalSuits, DeviceSuits}
use Rattle.flat_machine.proofs.Finds.{find-filter, find-push, bytes_eq-same, cases_name, content_in-with, content_in-with_other}
use Rattle.flat_machine.proofs.Kept.{with_format, left_alone}
use Rattle.flat_machine.proofs.Wired.{OldEdge, Grows, NoRow, NoEdge}
use Rattle.flat_machine.proofs.TablesKept.{IsOther, file_grow, IsNewEdge, format_grow, is_under, of_file, IsNewFilterEdge, filter_grow, filter_disk, is_child, kept_row, removed_grow, IsDriveEdge, device_grow}
use Rattle.flat_machine.proofs.WritingKept.{role_edge, IsEntered, IsNoFilter, WritesFileUnder, writes_file, may_still, grown_writing, left_still}

-- ---- names, bytes and drives

pub has_name-grows : (name other : List ℕ) (names : List (List ℕ)) → has_name other names ≡ true → has_name other (names ++ name ∷ []) ≡ true
has_name-grows name other names h =
    list_any-append (λ n. bytes_eq n other) names (name ∷ []) ∙ ap (λ b. b || has_name other (name ∷ [])) h

pub has_name-own : (name : List ℕ) (names : List (List ℕ)) → has_name name (names ++ name ∷ []) ≡ true
has_name-own name names =
    list_any-append (λ n. bytes_eq n name) names (name ∷ []) ∙ ap (λ b. has_name name names || (b || false)) (bytes_eq-same name)
    ∙ last (has_name name names)
  where
    last : (b : Bool) → (b || true) ≡ true
    last true = refl
    last false = refl

cond-some : {A : Type 0} (b : Bool) (x y : A) (f g : Option A) → (IsSome f → IsSome g) → IsSome (cond b (Some x) f) → IsSome (cond b (Some y) g)
cond-some true x y f g h some = refl
cond-some false x y f g h some = h some

pub bytes-put : (node k : ℕ) (bytes : List ℕ) (disks : List Disk) → IsSome (find (λ d. d.node == k) disks)
    → IsSome (find (λ d. d.node == k) (with_bytes_of node bytes disks))
bytes-put node k bytes [] h = absurd cc
bytes-put node k bytes (d ∷ disks) h = by_test (d.node == node) refl h (bytes-put node k bytes disks)
  where
    by_test : (b : Bool) → (d.node == node) ≡ b → IsSome (cond (d.node == k) (Some d) (find (λ x. x.node == k) disks))
        → (IsSome (find (λ x. x.node == k) disks) → IsSome (find (λ x. x.node == k) (with_bytes_of node bytes disks)))
        → IsSome (find (λ x. x.node == k) (cond b (record { node = node; bytes = bytes } ∷ disks) (d ∷ with_bytes_of node bytes disks)))
    by_test true e some ih =
        let same : (d.node == k) ≡ (node == k) = ap (λ n. n == k) (eqb-true d.node node e) in
        subst (λ b. IsSome (cond b (Some (record { node = node; bytes = bytes })) (find (λ x. x.node == k) disks))) same
        (cond-some (d.node == k) d (record { node = node; bytes = bytes }) (find (λ x. x.node == k) disks) (find (λ x. x.node == k) disks) (λ s. s) some)
    by_test false e some ih =
        cond-some (d.node == k) d d (find (λ x. x.node == k) disks) (find (λ x. x.node == k) (with_bytes_of node bytes disks)) ih some

-- a disk at the head is found
head-own : {node : ℕ} (disks : List Disk) (d : Disk) → d.node ≡ node → IsSome (find (λ x. x.node == node) (d ∷ disks))
head-own {node} disks d is = by_test (d.node == node) (eq-eqb d.node node is)
  where
    by_test : (b : Bool) → b ≡ true → IsSome (cond b (Some d) (find (λ x. x.node == node) disks))
    by_test true e = refl
    by_test false e = absurd cc

bytes-own : (node : ℕ) (bytes : List ℕ) (disks : List Disk) → IsSome (find (λ d. d.node == node) (with_bytes_of node bytes disks))
bytes-own node bytes [] = head-own [] (record { node = node; bytes = bytes }) refl
bytes-own node bytes (d ∷ disks) = by_test (d.node == node) refl (bytes-own node bytes disks)
  where
    behind : (b : Bool) (x : Disk) → IsSome (find (λ x. x.node == node) (with_bytes_of node bytes disks))
        → IsSome (cond b (Some x) (find (λ x. x.node == node) (with_bytes_of node bytes disks)))
    behind true x some = refl
    behind false x some = some

    by_test : (b : Bool) → (d.node == node) ≡ b → IsSome (find (λ x. x.node == node) (with_bytes_of node bytes disks))
        → IsSome (find (λ x. x.node == node) (cond b (record { node = node; bytes = bytes } ∷ disks) (d ∷ with_bytes_of node bytes disks)))
    by_test true e ih = head-own disks (record { node = node; bytes = bytes }) refl
    by_test false e ih = cond-some (d.node == node) d d (find (λ x. x.node == node) (with_bytes_of node bytes disks))
        (find (λ x. x.node == node) (with_bytes_of node bytes disks)) (λ s. s) (behind (d.node == node) d ih)

bytes-drop : (node k : ℕ) (disks : List Disk) → k ≢ node → IsSome (find (λ d. d.node == k) disks)
    → IsSome (find (λ d. d.node == k) (filter (λ d. not (d.node == node)) disks))
bytes-drop node k disks differ h =
    subst IsSome (sym (find-filter (λ d. d.node == k) (λ d. not (d.node == node))
    (λ d e. ap not (ne_eqb d.node node (λ same. differ (sym (eqb-true d.node k e) ∙ same)))) disks)) h

-- a drive is there
pub drive_there : (t : RunTable) → EdgesHaveEnds t → (g node : ℕ) → drive_of t g ≡ Some node → IsThere t node
drive_there t ends g node is = let e = role_edge (Guest g) Drive t.edges node is in subst (IsThere t) e.to (ends e.edge e.there).child

-- devices that stay, with their drives
pub same_devices : (s now : State) → now.table.devices ≡ s.table.devices → ((g : ℕ) → drive_of now.table g ≡ drive_of s.table g)
    → (number : ℕ) (device : DeviceRow) → device_by_number now.table number ≡ Some device
    → ((device_by_number s.table number ≡ Some device) × (drive_of now.table number ≡ drive_of s.table number))
    ⊎ With (drive_of now.table number) (MayGuestWrite now device)
same_devices s now devices drives number device found =
    inl (subst (λ ds. find (λ d. d.number == number) ds ≡ Some device) devices found, drives number)

drive_derived : (t now : RunTable) (kinds : List NodeKind) (before : List Edge) → now.edges ≡ refreshed kinds before
    → ((g : ℕ) → child_of (Guest g) Drive before ≡ drive_of t g) → (g : ℕ) → drive_of now g ≡ drive_of t g
drive_derived t now kinds before derived same g =
    ap (child_of (Guest g) Drive) derived ∙ child_of-refreshed kinds (Guest g) Drive before ∙ same g

-- ---- a `file` node

record IsWithFile (s now : State) (row : NodeRecord) : Type 0 where
  disks : (bytes : List ℕ) × (now.disks ≡ with_bytes_of row.id bytes s.disks)
  files : now.files ≡ s.files
  left : now.left ≡ s.left
  names : (name : List ℕ) → has_name name s.named ≡ true → has_name name now.named ≡ true
  own : row.read_only ≡ false → has_name (name_of_file row) now.named ≡ true

with_file_node : (row : NodeRecord) (s : State) → IsWithFile s (add_file row s) row
with_file_node row s = by_flag row.read_only refl
  where
    added : State
    added = put row.id (file_bytes row.size (content_in s.files (name_of_file row))) s

    by_flag : (b : Bool) → row.read_only ≡ b → IsWithFile s (cond b added (name_file (name_of_file row) added)) row
    by_flag true e = record {
      disks = (file_bytes row.size (content_in s.files (name_of_file row)), refl);
      files = refl;
      left = refl;
      names = λ name h. h;
      own = λ writes. absurd cc;
    }
    by_flag false e = record {
      disks = (file_bytes row.size (content_in s.files (name_of_file row)), refl);
      files = refl;
      left = refl;
      names = λ name h. has_name-grows (name_of_file row) name s.named h;
      own = λ writes. has_name-own (name_of_file row) s.named;
    }

pub file_writing : (s : State) (row : NodeRecord) → FileSuits s row → Stands s → WritingStands (stepped s (change.AddFile row))
unfolding changed
file_writing s row suits h =
    grown_writing s now (IsThere s.table) (λ r. r ≡ row) NoEdge grow
    (record {
      names = same.names;
      names_new = λ name r is named writes.
          let mine : row.filename ≡ Some name = sym (ap (λ x. x.filename) is) ∙ named in
          let or_is : name_of_file row ≡ name = ap (λ f. unwrap_or f []) mine in
          subst (λ n. has_name n now.named ≡ true) or_is (same.own (sym (ap (λ x. x.read_only) is) ∙ writes));
      known = λ name over under f is known. subst (λ fs. content_in fs name ≡ Some Unknown) (sym same.files) known;
      known_new = λ name over under f never. absurd never;
      bytes = λ node here some. subst (λ ds. IsSome (find (λ d. d.node == node) ds)) (sym same.disks.1) (bytes-put row.id node same.disks.0 s.disks some);
      bytes_new = λ r is own. subst (λ x. HasBytes now x.id) (sym is)
          (subst (λ ds. IsSome (find (λ d. d.node == row.id) ds)) (sym same.disks.1) (bytes-own row.id same.disks.0 s.disks));
      left = subst (All (IsUsedUp now)) (sym same.left)
          (All-weaker (IsUsedUp s) (IsUsedUp now) (λ l used. left_still s now (IsThere s.table) (λ r. r ≡ row) NoEdge grow l used.used
          (λ r is named. unused l used (sym (ap (λ x. x.filename) is) ∙ named)) (λ e r never. absurd never) used) s.left h.writing.left);
      written = λ node name here entered file known. subst (λ fs. content_in fs name ≡ Some Unknown) (sym same.files) known;
      used = λ node name here entered file used. used;
      copies_new = λ r disk is filter at. absurd (let none = ap (λ x. filter_role x.kind) is ∙ ap filter_role suits.suits.driver in cc);
      emptied = λ node name here entered file none. subst (All (λ l. l.file ≢ name)) (sym same.left) none;
      devices = same_devices s now refl (drive_derived s.table now.table kinds s.table.edges refl (λ g. refl));
      drives = λ g node is. drive_there s.table h.table.edges g node is;
    })
    h.table h.writing
  where
    now : State
    now = stepped s (change.AddFile row)

    kinds : List NodeKind
    kinds = kinds_of (s.table.nodes ++ row ∷ [])

    grow : Grows s.table now.table (IsThere s.table) (λ r. r ≡ row) NoEdge
    grow = file_grow s.table now.table row suits.suits refl kinds refl h.table

    same : IsWithFile s (add_file row s) row
    same = with_file_node row s

    unused : (l : Left) → IsUsedUp s l → row.filename ≡ Some l.file → ⊥
    unused l used named =
        let mine = suits.suits.filename in
        let is : suits.suits.name ≡ l.file = cc in
        suits.unused (subst (λ n. file_state s.table n ≡ Some Used) (sym is) used.used)

-- ---- a format node

known_if : (under : Option (List ℕ)) (s : State) (name : List ℕ) → content_in s.files name ≡ Some Unknown
    → content_in (know_if under Unknown s).files name ≡ Some Unknown
known_if None s name h = h
known_if (Some file) s name h = by_name (cases_name name file)
  where
    by_name : ((name ≡ file) ⊎ (name ≢ file)) → content_in (with_content file Unknown s.files) name ≡ Some Unknown
    by_name (inl same) = subst (λ n. content_in (with_content file Unknown s.files) n ≡ Some Unknown) (sym same) (content_in-with file Unknown s.files)
    by_name (inr differ) = content_in-with_other file name Unknown s.files differ ∙ h

pub format_writing : (s : State) (row : NodeRecord) (file : ℕ) (backing : Option ℕ) → FormatSuits s row file backing → Stands s
    → WritingStands (stepped s (change.AddFormat row file backing))
unfolding changed
format_writing s row file backing suits h =
    grown_writing s now (IsThere s.table) (λ r. r ≡ row) New grow
    (record {
      names = λ name named. subst (λ ns. has_name name ns ≡ true) (sym named_are) named;
      names_new = λ name r is named writes. absurd (no_name name (sym (ap (λ x. x.filename) is) ∙ named));
      known = λ name over under f is known. subst (λ fs. content_in fs name ≡ Some Unknown) (sym files_are) (known_if (filename_of s.table file) s name known);
      known_new = λ name over under f is_new named. of_new name under (under_is f.edge under is_new f.role f.child f.under_there) named;
      bytes = λ node here some. subst (λ ds. IsSome (find (λ d. d.node == node) ds)) (sym disks_are) (bytes-put row.id node bytes s.disks some);
      bytes_new = λ r is own. subst (λ x. HasBytes now x.id) (sym is)
          (subst (λ ds. IsSome (find (λ d. d.node == row.id) ds)) (sym disks_are) (bytes-own row.id bytes s.disks));
      left = subst (All (IsUsedUp now)) (sym left_is)
          (All-weaker (IsUsedUp s) (IsUsedUp now) (λ l used. left_still s now (IsThere s.table) (λ r. r ≡ row) New grow l used.used
          (λ r is named. no_name l.file (sym (ap (λ x. x.filename) is) ∙ named))
          (λ e r is_new role child over. unused l used (under_is e r is_new role child over.there) over.filename) used) s.left h.writing.left);
      written = λ node name here entered of known. subst (λ fs. content_in fs name ≡ Some Unknown) (sym files_are) (known_if (filename_of s.table file) s name known);
      used = λ node name here entered of used. used;
      copies_new = λ r disk is filter at. absurd (let none = ap (λ x. filter_role x.kind) is ∙ suits.suits.format in cc);
      emptied = λ node name here entered of none. subst (All (λ l. l.file ≢ name)) (sym left_is) none;
      devices = same_devices s now refl (drive_derived s.table now.table kinds (with_format_edges row.id file backing s.table.edges) refl drives_same);
      drives = λ g node is. drive_there s.table h.table.edges g node is;
    })
    h.table h.writing
  where
    now : State
    now = stepped s (change.AddFormat row file backing)

    kinds : List NodeKind
    kinds = kinds_of (with_unsettled file s.table.nodes ++ row ∷ [])

    New : Edge → Type 0
    New = IsNewEdge s.table now.table row file backing suits.suits refl kinds refl h.table

    grow : Grows s.table now.table (IsThere s.table) (λ r. r ≡ row) New
    grow = format_grow s.table now.table row file backing suits.suits refl kinds refl h.table

    bytes : List ℕ
    bytes = bytes_by_format s row file backing row.kind

    disks_are : now.disks ≡ with_bytes_of row.id bytes s.disks
    disks_are = (with_format (λ name. None) (filename_of s.table file) row.kind row.id (mapped_in (content_under s file)) bytes s now.table).disks

    files_are : now.files ≡ (know_if (filename_of s.table file) Unknown s).files
    files_are = (with_format (λ name. None) (filename_of s.table file) row.kind row.id (mapped_in (content_under s file)) bytes s now.table).files

    left_is : now.left ≡ s.left
    left_is = (with_format (λ name. None) (filename_of s.table file) row.kind row.id (mapped_in (content_under s file)) bytes s now.table).left

    named_are : now.named ≡ s.named
    named_are = (with_format (λ name. None) (filename_of s.table file) row.kind row.id (mapped_in (content_under s file)) bytes s now.table).named

    no_name : (name : List ℕ) → row.filename ≡ Some name → ⊥
    no_name name named = let none = suits.suits.filename in cc

    under_is : (e : Edge) (r : NodeRecord) → New e → e.role ≡ File → e.child ≡ r.id → Contains now.table.nodes r → r ≡ unsettled suits.suits.under
    under_is e r is_new role child there =
        let own = of_file s.table now.table row file backing suits.suits refl kinds refl h.table e is_new role in
        is_under s.table now.table row file backing suits.suits refl kinds refl h.table r there (own.child ∙ child)

    name_is : (name : List ℕ) (r : NodeRecord) → r ≡ unsettled suits.suits.under → r.filename ≡ Some name → suits.suits.name ≡ name
    name_is name r is named =
        let mine : r.filename ≡ Some suits.suits.name = ap (λ x. x.filename) is ∙ suits.suits.of_file in cc

    of_new : (name : List ℕ) (r : NodeRecord) → r ≡ unsettled suits.suits.under → r.filename ≡ Some name → content_in now.files name ≡ Some Unknown
    of_new name r is named =
        let mine : filename_of s.table file ≡ Some name =
        ap (option_and_then (λ x. x.filename)) suits.suits.found ∙ suits.suits.of_file ∙ ap Some (name_is name r is named) in
        subst (λ fs. content_in fs name ≡ Some Unknown) (sym files_are)
        (subst (λ u. content_in (know_if u Unknown s).files name ≡ Some Unknown) (sym mine) (content_in-with name Unknown s.files))

    unused : (l : Left) → IsUsedUp s l → {r : NodeRecord} → r ≡ unsettled suits.suits.under → r.filename ≡ Some l.file → ⊥
    unused l used {r} is named =
        suits.unused (subst (λ n. file_state s.table n ≡ Some Used) (sym (name_is l.file r is named)) used.used)

    drives_same : (g : ℕ) → child_of (Guest g) Drive (with_format_edges row.id file backing s.table.edges) ≡ drive_of s.table g
    drives_same g = of_backing backing ∙ child-kept (Guest g) Drive (node_edge row.id File file) s.table.edges (λ is. cc)
      where
        of_backing : (below : Option ℕ)
            → child_of (Guest g) Drive (with_backing_edge row.id below (with_edge (node_edge row.id File file) s.table.edges))
            ≡ child_of (Guest g) Drive (with_edge (node_edge row.id File file) s.table.edges)
        of_backing None = refl
        of_backing (Some node) = child-kept (Guest g) Drive (node_edge row.id Backing node) (with_edge (node_edge row.id File file) s.table.edges) (λ is. cc)

-- ---- a filter

pub filter_writing : (s : State) (row : NodeRecord) (child : ℕ) → SuitsFilter s.table row child → Stands s
    → WritingStands (stepped s (change.AddFilter row child))
unfolding changed
filter_writing s row child suits h =
    grown_writing s now (IsThere s.table) (λ r. r ≡ row) New grow
    (record {
      names = λ name named. named;
      names_new = λ name r is named writes. absurd (no_name name (sym (ap (λ x. x.filename) is) ∙ named));
      known = λ name over under f is known. known;
      known_new = λ name over under f is_new named. absurd (no_file f.edge under name is_new f.child f.under_there named);
      bytes = λ node here some. some;
      bytes_new = λ r is own. absurd (let mine = ap (λ x. filter_role x.kind) (sym is) ∙ own in let filter = suits.filter in cc);
      left = All-weaker (IsUsedUp s) (IsUsedUp now) (λ l used. left_still s now (IsThere s.table) (λ r. r ≡ row) New grow l used.used
          (λ r is named. no_name l.file (sym (ap (λ x. x.filename) is) ∙ named))
          (λ e r is_new role to over. no_file e r l.file is_new to over.there over.filename) used) s.left h.writing.left;
      written = λ node name here entered of known. known;
      used = λ node name here entered of used. used;
      copies_new = λ r disk is filter at. new_disk disk (subst (λ x. node_by_id now.table (disk_node now.table x.id) ≡ Some disk) is at);
      emptied = λ node name here entered of none. none;
      devices = same_devices s now refl (drive_derived s.table now.table kinds (with_edge (node_edge row.id File child) s.table.edges) refl
          (λ g. child-kept (Guest g) Drive (node_edge row.id File child) s.table.edges (λ is. cc)));
      drives = λ g node is. drive_there s.table h.table.edges g node is;
    })
    h.table h.writing
  where
    now : State
    now = stepped s (change.AddFilter row child)

    kinds : List NodeKind
    kinds = kinds_of (s.table.nodes ++ row ∷ [])

    New : Edge → Type 0
    New = IsNewFilterEdge s.table now.table row child suits refl kinds refl h.table

    grow : Grows s.table now.table (IsThere s.table) (λ r. r ≡ row) New
    grow = filter_grow s.table now.table row child suits refl kinds refl h.table

    no_name : (name : List ℕ) → row.filename ≡ Some name → ⊥
    no_name name named = let none = suits.filename in cc

    new_disk : (disk : NodeRecord) → node_by_id now.table (disk_node now.table row.id) ≡ Some disk → disk.filename ≡ None
    new_disk disk at =
        let is = filter_disk s.table now.table row child suits refl kinds refl h.table in
        let same : disk ≡ suits.under = cc in
        ap (λ r. r.filename) same ∙ suits.no_file

    no_file : (e : Edge) (r : NodeRecord) (name : List ℕ) → New e → e.child ≡ r.id → Contains now.table.nodes r → r.filename ≡ Some name → ⊥
    no_file e r name is_new to there named =
        let is = is_child s.table now.table row child suits refl kinds refl h.table r there (is_new.child ∙ to) in
        let none : r.filename ≡ None = ap (λ x. x.filename) is ∙ suits.no_file in
        cc

-- ---- a node that goes

pub remove_writing : (s : State) (node : ℕ) → RemovalSuits s.table node → Stands s → WritingStands (stepped s (change.RemoveNode node))
unfolding changed
remove_writing s node suits h =
    grown_writing s now (IsOther s.table node) NoRow NoEdge grow
    (record {
      names = λ name named. subst (λ ns. has_name name ns ≡ true) (sym named_are) named;
      names_new = λ name r never. absurd never;
      known = λ name over under f is known. subst (λ fs. content_in fs name ≡ Some Unknown) (sym files_are) known;
      known_new = λ name over under f never. absurd never;
      bytes = λ other here some. subst (λ ds. IsSome (find (λ d. d.node == other) (filter (λ d. not (d.node == node)) ds))) (sym disks_are)
          (bytes-drop node other s.disks here.1 some);
      bytes_new = λ r never. absurd never;
      left = by_row (node_by_id s.table node) refl refl;
      written = λ other name here entered of known. subst (λ fs. content_in fs name ≡ Some Unknown) (sym files_are) known;
      used = λ other name here entered of used. used;
      copies_new = λ r disk never. absurd never;
      emptied = λ other name here entered of none. empty_row other name here entered of none (node_by_id s.table node) refl refl;
      devices = same_devices s now refl (drive_derived s.table now.table kinds (without_parent (Node node) s.table.edges) refl
          (λ g. child-without (Node node) (Guest g) Drive s.table.edges (λ is. cc)));
      drives = λ g drive is. (
        drive_there s.table h.table.edges g drive is,
        λ gone. (let e = role_edge (Guest g) Drive s.table.edges drive is in suits.alone e.edge e.there (e.to ∙ gone)),
      );
    })
    h.table h.writing
  where
    now : State
    now = stepped s (change.RemoveNode node)

    kinds : List NodeKind
    kinds = kinds_of (without_record node s.table.nodes)

    grow : Grows s.table now.table (IsOther s.table node) NoRow NoEdge
    grow = removed_grow s.table now.table node suits.alone refl kinds refl h.table

    gone_one : Option Left
    gone_one = option_and_then (left_disk s) (node_by_id s.table node)

    disks_are : (leave gone_one s).disks ≡ s.disks
    disks_are = (left_alone (λ name. None) gone_one s).disks

    files_are : now.files ≡ s.files
    files_are = (left_alone (λ name. None) gone_one s).files

    named_are : now.named ≡ s.named
    named_are = (left_alone (λ name. None) gone_one s).named

    all_still : All (IsUsedUp now) s.left
    all_still = All-weaker (IsUsedUp s) (IsUsedUp now) (λ l used. left_still s now (IsOther s.table node) NoRow NoEdge grow l used.used
        (λ r never. absurd never) (λ e r never. absurd never) used) s.left h.writing.left

    row_of : (row : NodeRecord) → node_by_id s.table node ≡ Some row → Contains s.table.nodes row × (row.id ≡ node)
    row_of row found =
        let here = find-Some (λ r. r.id == node) s.table.nodes row found in
        (here.0, eqb-true row.id node here.1)

    -- the edge by which it has the file under it
    file_edge : (row file : NodeRecord) → node_by_id s.table node ≡ Some row → Contains s.table.nodes file → child s.table node File ≡ Some file.id
        → LeadsToFile s.table row file
    file_edge row file found there is =
        let e = role_edge (Node node) File s.table.edges file.id is in
        let own = row_of row found in
        record {
          over_there = own.0;
          under_there = there;
          edge = e.edge;
          there = e.there;
          parent = e.from ∙ ap Node (sym own.1);
          role = e.role_is;
          child = e.to;
        }

    same_node : (a b : NodeRecord) → Contains s.table.nodes a → Contains s.table.nodes b → a.id ≡ b.id → a ≡ b
    same_node a b there_a there_b is =
        let at_a = h.table.apart a there_a in
        let at_b = subst (λ n. node_by_id s.table n ≡ Some b) (sym is) (h.table.apart b there_b) in
        cc

    used_up : (row : NodeRecord) (name : List ℕ) → node_by_id s.table node ≡ Some row → WritesFileUnder s.table node name
        → IsUsedUp now (left_in s.disks row name)
    used_up row name found of = by_from of.from
      where
        alone : (later : NodeRecord) → StandsFor now.table name later → (later.id ≡ of.row.id) × (later.id ≢ node)
        alone later over =
            let old = kept_row s.table now.table node suits.alone refl kinds refl h.table later over.there in
            (h.table.alone name later of.row (record { there = old.0; filename = over.filename }) of.stands, old.1)

        by_from : ((of.row.id ≡ node) ⊎ ((child s.table node File ≡ Some of.row.id) × IsNoFilter s.table node)) → IsUsedUp now (left_in s.disks row name)
        by_from (inl own) = record {
          used = suits.own name of.row of.stands own;
          gone = λ later over. let is = alone later over in absurd (is.1 (is.0 ∙ own));
          is_open = λ later over under. let is = alone later over in is.1 (is.0 ∙ own);
        }
        by_from (inr child) =
            let f = file_edge row of.row found of.stands.there child.0 in
            let taken = h.table.taken row of.row f (subst IsSome (sym of.stands.filename) refl) (child.1 row found) in
            record {
              used = suits.under name of.row f.edge of.stands f.there (f.parent ∙ ap Node (row_of row found).1) f.role f.child;
              gone = λ later over.
                  let is = alone later over in
                  let old = kept_row s.table now.table node suits.alone refl kinds refl h.table later over.there in
                  ap (λ r. r.is_settled) (same_node later of.row old.0 of.stands.there is.0) ∙ taken.gone;
              is_open = λ later over under. not_under later over under (grow.edges under.edge under.there);
            }
          where
            not_under : (later : NodeRecord) → StandsFor now.table name later → (under : IsUnder now.table.edges later.id)
                → (OldEdge s.table (IsOther s.table node) under.edge ⊎ NoEdge under.edge) → ⊥
            not_under later over under (inr never) = never
            not_under later over under (inl old) =
                let f = file_edge row of.row found of.stands.there child.0 in
                let taken = h.table.taken row of.row f (subst IsSome (sym of.stands.filename) refl) (child.1 row found) in
                let sole = taken.sole old.edge old.there (old.same.child ∙ under.child ∙ (alone later over).0) in
                (old.parent node (sole.0 ∙ ap Node (row_of row found).1)).1 refl

    -- the disk that it leaves is in the file that it writes
    left_of : (row : NodeRecord) (gone : Left) → node_by_id s.table node ≡ Some row → left_disk s row ≡ Some gone
        → WritesFileUnder s.table node gone.file × (gone ≡ left_in s.disks row gone.file)
    left_of row gone found is =
        by_test (row.is_settled && is_none (child s.table row.id Backing)) (own_filename s.table row row.kind) refl is
      where
        by_test : (b : Bool) (file : Option (List ℕ)) → own_filename s.table row row.kind ≡ file
            → cond b (option_map (left_in s.disks row) file) None ≡ Some gone
            → WritesFileUnder s.table node gone.file × (gone ≡ left_in s.disks row gone.file)
        by_test false file e k = absurd cc
        by_test true None e k = absurd cc
        by_test true (Some name) e k =
            let same : left_in s.disks row name ≡ gone = cc in
            let name_is : name ≡ gone.file = ap (λ l. l.file) same in
            let of = writes_file s.table node name (ap (option_and_then (λ r. own_filename s.table r r.kind)) found ∙ e) in
            (subst (WritesFileUnder s.table node) name_is of, sym same ∙ ap (left_in s.disks row) name_is)

    used_left : (row : NodeRecord) (gone : Left) → node_by_id s.table node ≡ Some row → left_disk s row ≡ Some gone → IsUsedUp now gone
    used_left row gone found is =
        let of = left_of row gone found is in
        subst (IsUsedUp now) (sym of.1) (used_up row gone.file found of.0)

    by_left : (row : NodeRecord) → node_by_id s.table node ≡ Some row → (gone : Option Left) → left_disk s row ≡ gone
        → now.left ≡ (leave gone s).left → All (IsUsedUp now) now.left
    by_left row found None none is = subst (All (IsUsedUp now)) (sym is) all_still
    by_left row found (Some gone) left is =
        subst (All (IsUsedUp now)) (sym is) (All-push (IsUsedUp now) s.left gone all_still (used_left row gone found left))

    by_row : (found : Option NodeRecord) → node_by_id s.table node ≡ found
        → now.left ≡ (leave (option_and_then (left_disk s) found) s).left → All (IsUsedUp now) now.left
    by_row None e is = subst (All (IsUsedUp now)) (sym is) all_still
    by_row (Some row) e is = by_left row e (left_disk s row) refl is

    -- no guest that stays writes the same file
    apart : (row : NodeRecord) (other : ℕ) (name : List ℕ) → node_by_id s.table node ≡ Some row → IsOther s.table node other
        → IsEntered s.table other → WritesFileUnder s.table node name → WritesFileUnder s.table other name → ⊥
    apart row other name found here entered mine its = by_from mine.from its.from
      where
        ids : mine.row.id ≡ its.row.id
        ids = h.table.alone name mine.row its.row mine.stands its.stands

        own : Contains s.table.nodes row × (row.id ≡ node)
        own = row_of row found

        by_from : ((mine.row.id ≡ node) ⊎ ((child s.table node File ≡ Some mine.row.id) × IsNoFilter s.table node))
            → ((its.row.id ≡ other) ⊎ ((child s.table other File ≡ Some its.row.id) × IsNoFilter s.table other)) → ⊥
        by_from (inl a) (inl b) = here.1 (sym b ∙ sym ids ∙ a)
        by_from (inl a) (inr b) =
            let e = role_edge (Node other) File s.table.edges its.row.id b.0 in
            suits.alone e.edge e.there (e.to ∙ sym ids ∙ a)
        by_from (inr a) (inl b) =
            let f = file_edge row mine.row found mine.stands.there a.0 in
            let taken = h.table.taken row mine.row f (subst IsSome (sym mine.stands.filename) refl) (a.1 row found) in
            let sole = taken.sole entered.edge entered.there (entered.child ∙ sym b ∙ sym ids) in
            let filter = subst IsSome (a.1 row found) (entered.from row own.0 sole.0) in
            cc
        by_from (inr a) (inr b) =
            let f = file_edge row mine.row found mine.stands.there a.0 in
            let taken = h.table.taken row mine.row f (subst IsSome (sym mine.stands.filename) refl) (a.1 row found) in
            let e = role_edge (Node other) File s.table.edges its.row.id b.0 in
            let sole = taken.sole e.edge e.there (e.to ∙ sym ids) in
            let same : other ≡ row.id = (let both = sym e.from ∙ sole.0 in cc) in
            here.1 (same ∙ own.1)

    empty_left : (other : ℕ) (name : List ℕ) → IsOther s.table node other → IsEntered s.table other → WritesFileUnder s.table other name
        → All (λ l. l.file ≢ name) s.left → (row : NodeRecord) → node_by_id s.table node ≡ Some row → (gone : Option Left)
        → left_disk s row ≡ gone → now.left ≡ (leave gone s).left → All (λ l. l.file ≢ name) now.left
    empty_left other name here entered of none row found None left is = subst (All (λ l. l.file ≢ name)) (sym is) none
    empty_left other name here entered of none row found (Some gone) left is =
        subst (All (λ l. l.file ≢ name)) (sym is)
        (All-push (λ l. l.file ≢ name) s.left gone none
        (λ same. apart row other name found here entered (subst (WritesFileUnder s.table node) same (left_of row gone found left).0) of))

    empty_row : (other : ℕ) (name : List ℕ) → IsOther s.table node other → IsEntered s.table other → WritesFileUnder s.table other name
        → All (λ l. l.file ≢ name) s.left → (found : Option NodeRecord) → node_by_id s.table node ≡ found
        → now.left ≡ (leave (option_and_then (left_disk s) found) s).left → All (λ l. l.file ≢ name) now.left
    empty_row other name here entered of none None e is = subst (All (λ l. l.file ≢ name)) (sym is) none
    empty_row other name here entered of none (Some row) e is =
        empty_left other name here entered of none row e (left_disk s row) refl is

-- ---- a device

-- a parent's new edge leads to its child of that role, whether or not it takes an old one's place
with_edge-child : (new : Edge) (edges : List Edge) → same_role new.role Between ≡ false → child_of new.parent new.role (with_edge new edges) ≡ Some new.child
with_edge-child new edges single = ap (option_map (λ (e : Edge). e.child)) (found edges)
  where
    own : is_edge new.parent new.role new ≡ true
    own = rw (same_parent-refl new.parent, same_role-refl new.role) refl

    takes : (old : Edge) → is_edge new.parent new.role old ≡ true → takes_place new old ≡ true
    takes old is =
        let parent = same_parent-true old.parent new.parent (and-left (same_parent old.parent new.parent) (same_role old.role new.role) is) in
        let role = same_role-true old.role new.role (and-right (same_parent old.parent new.parent) (same_role old.role new.role) is) in
        rw (parent, role, same_parent-refl new.parent, same_role-refl new.role, single) refl

    found : (es : List Edge) → find (is_edge new.parent new.role) (with_edge new es) ≡ Some new
    found [] = rw own refl
    found (old ∷ es) = by_place (takes_place new old) refl (is_edge new.parent new.role old) refl (found es)
      where
        by_place : (b : Bool) → takes_place new old ≡ b → (c : Bool) → is_edge new.parent new.role old ≡ c
            → find (is_edge new.parent new.role) (with_edge new es) ≡ Some new
            → find (is_edge new.parent new.role) (cond b (new ∷ es) (old ∷ with_edge new es)) ≡ Some new
        by_place true e c f rest = rw own refl
        by_place false e true f rest = let taken = takes old f in absurd cc
        by_place false e false f rest = rw f rest

pub device_writing : (s : State) (device : DeviceRow) (node : ℕ) → DeviceSuits s device node → Stands s
    → WritingStands (stepped s (change.AddDevice device node))
unfolding changed
device_writing s device node suits h =
    grown_writing s now (IsThere s.table) NoRow New grow
    (record {
      names = λ name named. named;
      names_new = λ name r never. absurd never;
      known = λ name over under f is known. known;
      known_new = λ name over under f is_new named. absurd (no_node f.edge over.id is_new f.parent);
      bytes = λ other here some. some;
      bytes_new = λ r never. absurd never;
      left = All-weaker (IsUsedUp s) (IsUsedUp now) (λ l used. left_still s now (IsThere s.table) NoRow New grow l used.used
          (λ r never. absurd never) (λ e r is_new role child over. absurd (let is = is_new.role ∙ role in cc)) used) s.left h.writing.left;
      written = λ other name here entered of known. known;
      used = λ other name here entered of used. used;
      copies_new = λ r disk never. absurd never;
      emptied = λ other name here entered of none. none;
      devices = λ number other found. elim (find-push (λ d. d.number == number) s.table.devices device other found) [
        | inl was ↦ inl (was, by_other number other was)
        | inr is_new ↦ inr (subst (λ d. With (drive_of now.table number) (MayGuestWrite now d)) (sym is_new.1) (on_node number (eqb-true device.number number is_new.0)))
      ];
      drives = λ g drive is. drive_there s.table h.table.edges g drive is;
    })
    h.table h.writing
  where
    now : State
    now = stepped s (change.AddDevice device node)

    kinds : List NodeKind
    kinds = kinds_of s.table.nodes

    New : Edge → Type 0
    New = IsDriveEdge s.table now.table device node suits.suits refl kinds refl h.table

    grow : Grows s.table now.table (IsThere s.table) NoRow New
    grow = device_grow s.table now.table device node suits.suits refl kinds refl h.table

    no_node : (e : Edge) (other : ℕ) → New e → e.parent ≡ Node other → ⊥
    no_node e other is_new is = let from = is_new.parent in cc

    drive_now : (g : ℕ) → drive_of now.table g ≡ child_of (Guest g) Drive (with_edge (device_edge device node) s.table.edges)
    drive_now g = child_of-refreshed kinds (Guest g) Drive (with_edge (device_edge device node) s.table.edges)

    by_other : (number : ℕ) (other : DeviceRow) → device_by_number s.table number ≡ Some other → drive_of now.table number ≡ drive_of s.table number
    by_other number other was =
        drive_now number
        ∙ child-kept (Guest number) Drive (device_edge device node) s.table.edges (λ same. (
        let is : device.number ≡ number = cc in
        let none = subst (λ n. device_by_number s.table n ≡ None) is suits.fresh in
        cc))

    may : MayGuestWrite now device node
    may = may_still s now (IsThere s.table) NoRow New grow device node suits.suits.there
        (record { bytes = λ some. some; known = λ name of known. known; left = λ name of none. none; named = λ name named. named })
        suits.writes

    on_node : (number : ℕ) → device.number ≡ number → With (drive_of now.table number) (MayGuestWrite now device)
    on_node number is = subst (λ drive. With drive (MayGuestWrite now device)) (sym (to_node number is)) may
      where
        to_node : (number : ℕ) → device.number ≡ number → drive_of now.table number ≡ Some node
        to_node number is = subst (λ n. drive_of now.table n ≡ Some node) is
            (drive_now device.number ∙ with_edge-child (device_edge device node) s.table.edges refl)
