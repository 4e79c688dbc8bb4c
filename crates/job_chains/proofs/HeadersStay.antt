-- Nodes whose headers ends rewrite stay qcow2 nodes over files that were named for writing.
use Rattle.std.proofs.Common.{◌≡◌, ◌≢◌, ◌⊎◌, ℕ, Bool, true, false, cond, List, [], ◌∷◌, ◌++◌, map, refl, sym, ◌∙◌, ap, subst, inl, inr, Option, Some, None}
use Rattle.std.specs.Prelude.{◌==◌, ◌&&◌, not, slice_get, IsSome}
use Rattle.std.specs.List.{Contains}
use Rattle.std.specs.Option.{option_and_then}
use Rattle.std.proofs.lemmas.Bool.{ne_eqb}
use Rattle.blk_graph.specs.declared.edge.Edge.{Edge}
use Rattle.blk_graph.specs.declared.edge.Parent.TheVariants.{Node, Guest, Job}
use Rattle.blk_graph.specs.declared.edge.Role.TheVariants.{File, Backing}
use Rattle.blk_graph.specs.declared.kind.Kind.{Kind}
use Rattle.blk_graph.specs.declared.kind.Kind.TheVariants as driver
use Rattle.blk_graph.specs.declared.kind.NodeKind.{NodeKind}
use Rattle.blk_graph.specs.Edits.{child_of, with_edge, without_parent}
use Rattle.blk_graph.specs.Permissions.{job_edge, node_edge}
use Rattle.blk_graph.proofs.ChildLemmas.{child-kept, child-without}
use Rattle.blk_graph.proofs.DraftLemmas.{children_removed}
use Rattle.blk_graph.proofs.Members.{Contains-filter, Contains-here, Contains-map, Contains-nil}
use Rattle.blk_graph.proofs.RefreshLemmas.{child_of-refreshed}
use Rattle.qmp_codec.specs.declared.event.JobKind.{JobKind}
use Rattle.qmp_codec.specs.declared.event.JobKind.TheVariants.{Stream, Commit, Mirror, Backup}
use Rattle.qmp_rules.specs.declared.change.Change.{Change}
use Rattle.qmp_rules.specs.declared.change.Change.TheVariants as change
use Rattle.qmp_rules.specs.declared.rows.AskedEnd.{AskedEnd}
use Rattle.qmp_rules.specs.declared.rows.NodeRecord.{NodeRecord}
use Rattle.qmp_rules.specs.declared.rows.JobRecord.{JobRecord}
use Rattle.qmp_rules.specs.Asks.{name_of_file}
use Rattle.qmp_rules.specs.Chains.{filter_role}
use Rattle.qmp_rules.specs.Changes.{asked_for, changed, device_edge, followed, kept_from_writes, ready_for, settled, stands_over, unsettled, with_backing, with_read_only, with_unsettled, with_writable, without_record, writable}
use Rattle.qmp_rules.specs.Table.{RunTable, child, has_name, kinds_of, node_by_id}
use Rattle.flat_machine.specs.State.{Content, Left, Mapped, State, Unknown, content_in, filename_of}
use Rattle.flat_machine.specs.Changed.{add_file, all_stepped, bytes_by_format, content_under, know_if, leave, left_disk, name_file, name_if, note_image, overlay_file, put, stepped, written_file}
use Rattle.flat_machine.specs.Contents.{file_bytes, mapped_in}
use Rattle.flat_machine.specs.Imaging.{is_qcow2_at}
use Rattle.flat_machine.specs.Suiting.{AllTableSuit, IsAlone, IsThere, SuitsFile, SuitsFilter, SuitsFormat, TableSuits}
use Rattle.flat_machine.specs.Wiring.{TableStands}
use Rattle.flat_machine.proofs.ImagesKept.{AreOverFiles, IsSameRow, find_before, is_image_row, mapped_over_files, qcow2_row, same_over_files}
use Rattle.flat_machine.proofs.TableRests.{table_keeps}
use Rattle.flat_machine.proofs.Tables.{pushed-cases}
use Rattle.flat_machine.proofs.TablesKept.{IsNewEdge, IsNewFilterEdge, IsOther, child-role, file_grow, filter_grow, format_grow, removed_grow}
use Rattle.flat_machine.proofs.Wired.{Grows, NoEdge, NoRow}
use Rattle.flat_machine.proofs.WritingAdded.{has_name-grows}
use Rattle.flat_machine.proofs.WritingKept.{file_same}
use Rattle.job_tables.specs.Changes.{AllLeaveJobs, LeavesJobs}
use Rattle.job_tables.specs.Ends.{rebased_by}
use Rattle.job_tables.specs.Jobs.{JobStands, JobsStand}
use Rattle.job_tables.specs.Rows.{nodes_of_job}
use Rattle.job_tables.proofs.Changes.{change_leaves_jobs}
use Rattle.job_tables.proofs.NodeKinds.{still_found}
use Rattle.job_tables.proofs.RowEdges.{holds_source, in_left, in_right}
use Rattle.job_entries.proofs.Files.{IsNoFile, IsOwn, free_no_file, move_keeps_images, pull_keeps_images, put_keeps_images, steady_pulled}
use Rattle.job_entries.proofs.Steps.{AllSteps, IsStep}
use Rattle.job_chains.specs.Headers.{HeadersAreNamed, IsNamedImage}

-- ---- a qcow2 node stays over its file

pub record StaysAt (t now : RunTable) (n : ℕ) : Type 0 where
  pub image : is_qcow2_at now n ≡ true
  pub file : (name : List ℕ) → written_file now n ≡ Some name → written_file t n ≡ Some name

over_stays : (t now : RunTable) → AreOverFiles t now → (n : ℕ) → is_qcow2_at t n ≡ true → StaysAt t now n
over_stays t now over n is = record { image = over.kind n ∙ is; file = λ name. over.file n name is }

-- rows that are changed where a test holds
if_field : {X : Type 0} (g : NodeRecord → X) (new row : NodeRecord) → g new ≡ g row → (b : Bool) → g (cond b new row) ≡ g row
if_field g new row same true = same
if_field g new row same false = refl

pub cond_same : (test : NodeRecord → Bool) (f : NodeRecord → NodeRecord) → ((row : NodeRecord) → IsSameRow f row) → (row : NodeRecord)
    → IsSameRow (λ (r : NodeRecord). cond (test r) (f r) r) row
cond_same test f same row = record {
  id = if_field (λ r. r.id) (f row) row (same row).id (test row);
  kind = if_field (λ r. r.kind) (f row) row (same row).kind (test row);
  filename = if_field (λ r. r.filename) (f row) row (same row).filename (test row);
}

-- of a row that is there, a new one is another
not_new : (t : RunTable) (new : NodeRecord) (n : ℕ) → node_by_id t new.id ≡ None → is_qcow2_at t n ≡ true → new.id ≢ n
not_new t new n fresh is same =
    let row = qcow2_row t n is in
    let bad : None ≡ Some row.0 = sym fresh ∙ ap (node_by_id t) same ∙ row.1 in
    cc

there_at : (t : RunTable) (n : ℕ) → is_qcow2_at t n ≡ true → IsThere t n
there_at t n is = subst IsSome (sym (qcow2_row t n is).1) refl

-- what isn't clear from the kind of a change alone
abbrev pub KeepsFile : State → Change → ℕ → Type 0
KeepsFile s (change.AddFile row) n = StaysAt s.table (changed s.table (change.AddFile row)) n
KeepsFile s (change.AddFormat row file backing) n = StaysAt s.table (changed s.table (change.AddFormat row file backing)) n
KeepsFile s (change.AddFilter row below) n = StaysAt s.table (changed s.table (change.AddFilter row below)) n
KeepsFile s (change.RemoveNode node) n = StaysAt s.table (changed s.table (change.RemoveNode node)) n
KeepsFile s (change.PutFilter row node) n = StaysAt s.table (changed s.table (change.PutFilter row node)) n
KeepsFile s (change.PullFilter filter) n = StaysAt s.table (changed s.table (change.PullFilter filter)) n
KeepsFile s (change.Move from to but) n = StaysAt s.table (changed s.table (change.Move from to but)) n
KeepsFile s c n = Unit {0}

-- a header that is rewritten leaves its file
backing_other : (n node : ℕ) (backing : Option ℕ) (edges : List Edge) → child_of (Node n) File (with_backing node backing edges) ≡ child_of (Node n) File edges
backing_other n node None edges = children_removed (Node node) Backing edges (Node n) File (no_file (n == node))
  where
    no_file : (b : Bool) → (b && false) ≡ false
    no_file true = refl
    no_file false = refl
backing_other n node (Some below) edges = child-role (Node n) File (node_edge node Backing below) edges refl

module _ (s : State) (n : ℕ) (is : is_qcow2_at s.table n ≡ true) where
  -- the same nodes and edges
  pub beside_stays : (now : RunTable) → now.nodes ≡ s.table.nodes → now.edges ≡ s.table.edges → StaysAt s.table now n
  beside_stays now nodes edges =
      over_stays s.table now (same_over_files s.table now nodes (λ node. ap (λ (es : List Edge). child (record s.table { edges = es }) node File) edges)) n is

  -- edges that are derived anew, of which those of nodes to files stay
  rewired_stays : (now : RunTable) (edges : List Edge) → now.nodes ≡ s.table.nodes
      → ((node : ℕ) → child now node File ≡ child_of (Node node) File edges)
      → ((node : ℕ) → child_of (Node node) File edges ≡ child s.table node File) → StaysAt s.table now n
  rewired_stays now edges nodes derived same = over_stays s.table now (same_over_files s.table now nodes (λ node. derived node ∙ same node)) n is

  -- rows that are changed in other parts
  pub mapped_stays : (now : RunTable) (test : NodeRecord → Bool) (f : NodeRecord → NodeRecord) → ((row : NodeRecord) → IsSameRow f row)
      → now.nodes ≡ map (λ (r : NodeRecord). cond (test r) (f r) r) s.table.nodes
      → ((node : ℕ) → child now node File ≡ child s.table node File) → StaysAt s.table now n
  mapped_stays now test f same nodes files =
      over_stays s.table now (mapped_over_files s.table now (λ (r : NodeRecord). cond (test r) (f r) r) (cond_same test f same) nodes files) n is

  pub stays : (c : Change) → KeepsFile s c n → StaysAt s.table (changed s.table c) n
  unfolding changed
  stays change.Negotiate k = beside_stays (changed s.table change.Negotiate) refl refl
  stays (change.KeepId id) k = beside_stays (changed s.table (change.KeepId id)) refl refl
  stays (change.DropId id) k = beside_stays (changed s.table (change.DropId id)) refl refl
  stays (change.MakeFile name size) k = beside_stays (changed s.table (change.MakeFile name size)) refl refl
  stays (change.FormatFile node name size backing_file backing_fmt) k =
      mapped_stays (changed s.table (change.FormatFile node name size backing_file backing_fmt)) (λ r. r.id == node) unsettled
      (λ row. record { id = refl; kind = refl; filename = refl }) refl (λ m. refl)
  stays (change.SpoilFile name) k =
      mapped_stays (changed s.table (change.SpoilFile name)) (λ r. stands_over name r.filename) unsettled
      (λ row. record { id = refl; kind = refl; filename = refl }) refl (λ m. refl)
  stays (change.UseFile name) k = beside_stays (changed s.table (change.UseFile name)) refl refl
  stays (change.AddFile row) k = k
  stays (change.AddFormat row file backing) k = k
  stays (change.AddFilter row below) k = k
  stays (change.RemoveNode node) k = k
  stays (change.PutFilter row node) k = k
  stays (change.PullFilter filter) k = k
  stays (change.Move from to but) k = k
  stays (change.Unsettle node) k =
      mapped_stays (changed s.table (change.Unsettle node)) (λ r. r.id == node) unsettled (λ row. record { id = refl; kind = refl; filename = refl }) refl (λ m. refl)
  stays (change.MakeWritable node) k =
      mapped_stays (changed s.table (change.MakeWritable node)) (λ r. r.id == node) writable (λ row. record { id = refl; kind = refl; filename = refl }) refl
      (λ m. child_of-refreshed (kinds_of (with_writable node s.table.nodes)) (Node m) File s.table.edges)
  stays (change.UseNode slot what node) k =
      rewired_stays (changed s.table (change.UseNode slot what node)) (with_edge (job_edge slot what node) s.table.edges) refl
      (λ m. child_of-refreshed (kinds_of s.table.nodes) (Node m) File (with_edge (job_edge slot what node) s.table.edges))
      (λ m. child-kept (Node m) File (job_edge slot what node) s.table.edges (λ same. cc))
  stays (change.StartJob row) k = beside_stays (changed s.table (change.StartJob row)) refl refl
  stays (change.AskJob number asked) k = beside_stays (changed s.table (change.AskJob number asked)) refl refl
  stays (change.ReadyJob number) k = beside_stays (changed s.table (change.ReadyJob number)) refl refl
  stays (change.EndJob number slot drops) k =
      rewired_stays (changed s.table (change.EndJob number slot drops)) (without_parent (Job slot) s.table.edges) refl
      (λ m. child_of-refreshed (kinds_of s.table.nodes) (Node m) File (without_parent (Job slot) s.table.edges))
      (λ m. child-without (Job slot) (Node m) File s.table.edges (λ same. cc))
  stays (change.Rebase node backing) k =
      rewired_stays (changed s.table (change.Rebase node backing)) (with_backing node backing s.table.edges) refl
      (λ m. child_of-refreshed (kinds_of s.table.nodes) (Node m) File (with_backing node backing s.table.edges))
      (λ m. backing_other m node backing s.table.edges)
  stays (change.Settle node disk) k =
      mapped_stays (changed s.table (change.Settle node disk)) (λ r. r.id == node) settled (λ row. record { id = refl; kind = refl; filename = refl }) refl (λ m. refl)
  stays (change.MakeReadOnly node) k =
      mapped_stays (changed s.table (change.MakeReadOnly node)) (λ r. r.id == node) kept_from_writes (λ row. record { id = refl; kind = refl; filename = refl }) refl
      (λ m. child_of-refreshed (kinds_of (with_read_only node s.table.nodes)) (Node m) File s.table.edges)
  stays (change.AddDevice device node) k =
      rewired_stays (changed s.table (change.AddDevice device node)) (with_edge (device_edge device node) s.table.edges) refl
      (λ m. child_of-refreshed (kinds_of s.table.nodes) (Node m) File (with_edge (device_edge device node) s.table.edges))
      (λ m. child-kept (Node m) File (device_edge device node) s.table.edges (λ same. cc))
  stays (change.RemoveDevice number) k =
      rewired_stays (changed s.table (change.RemoveDevice number)) (without_parent (Guest number) s.table.edges) refl
      (λ m. child_of-refreshed (kinds_of s.table.nodes) (Node m) File (without_parent (Guest number) s.table.edges))
      (λ m. child-without (Guest number) (Node m) File s.table.edges (λ same. cc))
  stays (change.Attach overlay node) k =
      rewired_stays (changed s.table (change.Attach overlay node)) (with_edge (node_edge overlay Backing node) s.table.edges) refl
      (λ m. child_of-refreshed (kinds_of s.table.nodes) (Node m) File (with_edge (node_edge overlay Backing node) s.table.edges))
      (λ m. child-role (Node m) File (node_edge overlay Backing node) s.table.edges refl)
  stays (change.AddBitmap row) k = beside_stays (changed s.table (change.AddBitmap row)) refl refl
  stays (change.RemoveBitmap node name) k = beside_stays (changed s.table (change.RemoveBitmap node name)) refl refl
  stays (change.TurnBitmap node name on) k = beside_stays (changed s.table (change.TurnBitmap node name on)) refl refl
  stays (change.ClearBitmap node name) k = beside_stays (changed s.table (change.ClearBitmap node name)) refl refl
  stays (change.MergeBitmap node name source_node source) k = beside_stays (changed s.table (change.MergeBitmap node name source_node source)) refl refl

  -- ---- nodes that come and go

  kind_before : (rows : List NodeRecord) (row : NodeRecord) → node_by_id s.table row.id ≡ None
      → is_image_row (node_by_id (record s.table { nodes = rows ++ row ∷ [] }) n) ≡ is_image_row (node_by_id (record s.table { nodes = rows }) n)
  kind_before rows row fresh =
      ap is_image_row (find_before (λ (r : NodeRecord). r.id == n) rows row (ne_eqb row.id n (not_new s.table row n fresh is)))

  pub file_stays : TableStands s.table → (row : NodeRecord) → SuitsFile s.table row → StaysAt s.table (changed s.table (change.AddFile row)) n
  unfolding changed
  file_stays h row suits = record {
    image = kind_before s.table.nodes row suits.fresh ∙ is;
    file = λ name file.
        sym (file_same s now (IsThere s.table) (λ r. r ≡ row) NoEdge grow n (there_at s.table n is)) ∙ file;
  }
    where
      now : State
      now = stepped s (change.AddFile row)

      grow : Grows s.table now.table (IsThere s.table) (λ r. r ≡ row) NoEdge
      grow = file_grow s.table now.table row suits refl (kinds_of (s.table.nodes ++ row ∷ [])) refl h

  pub filter_stays : TableStands s.table → (row : NodeRecord) (below : ℕ) → SuitsFilter s.table row below
      → StaysAt s.table (changed s.table (change.AddFilter row below)) n
  unfolding changed
  filter_stays h row below suits = record {
    image = kind_before s.table.nodes row suits.fresh ∙ is;
    file = λ name file.
        sym (file_same s now (IsThere s.table) (λ r. r ≡ row) New grow n (there_at s.table n is)) ∙ file;
  }
    where
      now : State
      now = stepped s (change.AddFilter row below)

      kinds : List NodeKind
      kinds = kinds_of (s.table.nodes ++ row ∷ [])

      New : Edge → Type 0
      New = IsNewFilterEdge s.table now.table row below suits refl kinds refl h

      grow : Grows s.table now.table (IsThere s.table) (λ r. r ≡ row) New
      grow = filter_grow s.table now.table row below suits refl kinds refl h

  pub format_stays : TableStands s.table → (row : NodeRecord) (file : ℕ) (backing : Option ℕ) → SuitsFormat s.table row file backing
      → StaysAt s.table (changed s.table (change.AddFormat row file backing)) n
  unfolding changed
  format_stays h row file backing suits = record {
    image = kind_before (with_unsettled file s.table.nodes) row suits.fresh
        ∙ (mapped_stays (record s.table { nodes = with_unsettled file s.table.nodes }) (λ r. r.id == file) unsettled
        (λ r. record { id = refl; kind = refl; filename = refl }) refl (λ m. refl)).image;
    file = λ name over.
        sym (file_same s now (IsThere s.table) (λ r. r ≡ row) New grow n (there_at s.table n is)) ∙ over;
  }
    where
      now : State
      now = stepped s (change.AddFormat row file backing)

      kinds : List NodeKind
      kinds = kinds_of (with_unsettled file s.table.nodes ++ row ∷ [])

      New : Edge → Type 0
      New = IsNewEdge s.table now.table row file backing suits refl kinds refl h

      grow : Grows s.table now.table (IsThere s.table) (λ r. r ≡ row) New
      grow = format_grow s.table now.table row file backing suits refl kinds refl h

  pub removed_stays : TableStands s.table → (node : ℕ) → IsAlone s.table node → n ≢ node → StaysAt s.table (changed s.table (change.RemoveNode node)) n
  unfolding changed
  removed_stays h node alone differ = record {
    image = ap is_image_row (still_found s.table node n differ) ∙ is;
    file = λ name file.
        sym (file_same s now (IsOther s.table node) NoRow NoEdge grow n (there_at s.table n is, differ)) ∙ file;
  }
    where
      now : State
      now = stepped s (change.RemoveNode node)

      grow : Grows s.table now.table (IsOther s.table node) NoRow NoEdge
      grow = removed_grow s.table now.table node alone refl (kinds_of (without_record node s.table.nodes)) refl h

  -- ---- filters of jobs come and go, and parents move

  pub moved_stays : (from to but : ℕ) → IsNoFile s.table from → StaysAt s.table (changed s.table (change.Move from to but)) n
  unfolding changed
  moved_stays from to but none = record { image = is; file = λ name. move_keeps_images s.table from to but none n name is }

  own_at : IsOwn s.table n
  own_at = let row = qcow2_row s.table n is in record { row = row.0; found = row.1; own = ap filter_role row.2 }

  pub step_keeps : (c : Change) → IsStep s.table c → KeepsFile s c n
  unfolding changed
  step_keeps (change.PutFilter row node) h = record {
    image = kind_before s.table.nodes row h.fresh ∙ is;
    file = λ name. put_keeps_images s.table row node h.fresh h.unnamed h.none n name is;
  }
  step_keeps (change.PullFilter filter) h = record {
    image = ap is_image_row ((steady_pulled s.table filter h.row h.found h.is_filter h.none).rows n own_at ∙ sym own_at.found) ∙ is;
    file = λ name. (pull_keeps_images s.table filter h.row h.found h.is_filter h.none).file n name is;
  }
  step_keeps (change.Move from to but) h = moved_stays from to but h
  step_keeps (change.AddFile row) h = absurd h
  step_keeps (change.AddFormat row file backing) h = absurd h
  step_keeps (change.AddFilter row below) h = absurd h
  step_keeps (change.RemoveNode node) h = absurd h
  step_keeps c h = tt

-- ---- what was named stays named

names_if : (found : Option (List ℕ)) (s : State) (name : List ℕ) → has_name name s.named ≡ true → has_name name (name_if found s).named ≡ true
names_if None s name h = h
names_if (Some other) s name h = has_name-grows other name s.named h

-- what keeps the names
named_add : (row : NodeRecord) (s : State) (name : List ℕ) → has_name name s.named ≡ true → has_name name (add_file row s).named ≡ true
named_add row s name h = by_flag row.read_only
  where
    with_disk : State
    with_disk = put row.id (file_bytes row.size (content_in s.files (name_of_file row))) s

    by_flag : (b : Bool) → has_name name (cond b with_disk (name_file (name_of_file row) with_disk)).named ≡ true
    by_flag true = h
    by_flag false = has_name-grows (name_of_file row) name s.named h

named_image : (kind : Kind) (id : ℕ) (mapped : Mapped) (s : State) → (note_image kind id mapped s).named ≡ s.named
named_image driver.Qcow2 id mapped s = refl
named_image driver.Protocol id mapped s = refl
named_image driver.Raw id mapped s = refl
named_image driver.CopyOnRead id mapped s = refl
named_image driver.BeforeWrite id mapped s = refl
named_image driver.Mirror id mapped s = refl
named_image driver.Commit id mapped s = refl

named_known : (found : Option (List ℕ)) (what : Content) (s : State) → (know_if found what s).named ≡ s.named
named_known None what s = refl
named_known (Some name) what s = refl

named_left : (gone : Option Left) (s : State) → (leave gone s).named ≡ s.named
named_left None s = refl
named_left (Some left) s = refl

pub names_stay : (s : State) (c : Change) (name : List ℕ) → has_name name s.named ≡ true → has_name name (stepped s c).named ≡ true
names_stay s (change.MakeFile other size) name h = has_name-grows other name s.named h
names_stay s (change.FormatFile node other size backing_file backing_fmt) name h = has_name-grows other name s.named h
names_stay s (change.SpoilFile other) name h = has_name-grows other name s.named h
names_stay s (change.AddFile row) name h = named_add row s name h
names_stay s (change.AddFormat row file backing) name h =
    let with_disk : State = put row.id (bytes_by_format s row file backing row.kind) s in
    subst (λ names. has_name name names ≡ true)
    (sym (named_known (filename_of s.table file) Unknown (note_image row.kind row.id (mapped_in (content_under s file)) with_disk)
    ∙ named_image row.kind row.id (mapped_in (content_under s file)) with_disk)) h
names_stay s (change.RemoveNode node) name h =
    subst (λ names. has_name name names ≡ true) (sym (named_left (option_and_then (left_disk s) (node_by_id s.table node)) s)) h
names_stay s (change.MakeWritable node) name h = names_if (filename_of s.table node) s name h
names_stay s (change.StartJob row) name h = names_if (overlay_file s.table row row.kind) s name h
names_stay s c name h = h

-- ---- one node

pub image_kept : (s : State) (c : Change) (n : ℕ) → KeepsFile s c n → IsNamedImage s n → IsNamedImage (stepped s c) n
image_kept s c n keeps h =
    let still = stays s n h.image c keeps in
    record { image = still.image; named = λ name file. names_stay s c name (h.named name (still.file name file)) }

pub images_kept : (changes : List Change) (s : State) (n : ℕ) → AllSteps s changes → IsNamedImage s n → IsNamedImage (all_stepped s changes) n
images_kept [] s n steps h = h
images_kept (c ∷ changes) s n steps h =
    images_kept changes (stepped s c) n steps.1 (image_kept s c n (step_keeps s n h.image c steps.0) h)

pub qcow2_kept : (changes : List Change) (s : State) (n : ℕ) → AllSteps s changes → is_qcow2_at s.table n ≡ true
    → is_qcow2_at (all_stepped s changes).table n ≡ true
qcow2_kept [] s n steps is = is
qcow2_kept (c ∷ changes) s n steps is =
    qcow2_kept changes (stepped s c) n steps.1 (stays s n is c (step_keeps s n is c steps.0)).image

-- what a state says of it beside rows of other nodes
pub image_beside : (s now : State) → now.named ≡ s.named → (n : ℕ) → (is_qcow2_at s.table n ≡ true → StaysAt s.table now.table n)
    → IsNamedImage s n → IsNamedImage now n
image_beside s now named n still h =
    let over = still h.image in
    record {
      image = over.image;
      named = λ name file. subst (λ names. has_name name names ≡ true) (sym named) (h.named name (over.file name file));
    }

-- ---- rows of jobs

-- a job was there, and gives the same header another name
pub record HadHeader (jobs : List JobRecord) (row : JobRecord) : Type 0 where
  pub old : JobRecord
  pub there : Contains jobs old
  pub same : rebased_by row row.kind ≡ rebased_by old old.kind

-- the change begins the job
abbrev pub StartsRow : Change → JobRecord → Type 0
StartsRow (change.StartJob new) row = row ≡ new
StartsRow c row = ⊥

header_self : (jobs : List JobRecord) (row : JobRecord) → Contains jobs row → HadHeader jobs row
header_self jobs row here = record { old = row; there = here; same = refl }

header_mapped : (jobs : List JobRecord) (f : JobRecord → JobRecord) → ((row : JobRecord) → rebased_by (f row) (f row).kind ≡ rebased_by row row.kind)
    → (row : JobRecord) → Contains (map f jobs) row → HadHeader jobs row
header_mapped jobs f same row here =
    let at = Contains-map f jobs row here in
    record { old = at.0; there = at.1; same = ap (λ (r : JobRecord). rebased_by r r.kind) at.2 ∙ same at.0 }

rebased_same : (row : JobRecord) (a : AskedEnd) (b : Bool) (k : JobKind) → rebased_by (record row { asked = a; is_ready = b }) k ≡ rebased_by row k
rebased_same row a b Stream = refl
rebased_same row a b Commit = refl
rebased_same row a b Mirror = refl
rebased_same row a b Backup = refl

pub had_header : (t : RunTable) (c : Change) (row : JobRecord) → Contains (changed t c).jobs row → HadHeader t.jobs row ⊎ StartsRow c row
unfolding changed
had_header t (change.StartJob new) row here = elim (pushed-cases t.jobs new row here) [
  | inl old ↦ inl (header_self t.jobs row old)
  | inr is ↦ inr is
]
had_header t (change.AskJob number new) row here = inl (header_mapped t.jobs (asked_for number new) same row here)
  where
    same : (job : JobRecord) → rebased_by (asked_for number new job) (asked_for number new job).kind ≡ rebased_by job job.kind
    same job = by_test (job.number == number)
      where
        asks : JobRecord
        asks = record job { asked = followed job.asked new }

        by_test : (b : Bool) → rebased_by (cond b asks job) (cond b asks job).kind ≡ rebased_by job job.kind
        by_test true = rebased_same job (followed job.asked new) job.is_ready job.kind
        by_test false = refl
had_header t (change.ReadyJob number) row here = inl (header_mapped t.jobs (ready_for number) same row here)
  where
    same : (job : JobRecord) → rebased_by (ready_for number job) (ready_for number job).kind ≡ rebased_by job job.kind
    same job = by_test (job.number == number)
      where
        ready : JobRecord
        ready = record job { is_ready = true }

        by_test : (b : Bool) → rebased_by (cond b ready job) (cond b ready job).kind ≡ rebased_by job job.kind
        by_test true = rebased_same job job.asked true job.kind
        by_test false = refl
had_header t (change.EndJob number slot drops) row here =
    inl (header_self t.jobs row (Contains-filter (λ (job : JobRecord). not (job.number == number)) t.jobs row here).0)
had_header t c row here = inl (header_self t.jobs row here)

-- it is one of its nodes
first_read : (ids : List ℕ) (id : ℕ) → slice_get ids 0 ≡ Some id → Contains ids id
first_read [] id is = absurd cc
first_read (x ∷ ids) id is =
    let same : x ≡ id = (let both : Some x ≡ Some id = is in cc both) in
    subst (Contains (x ∷ ids)) same (Contains-here x ids)

pub rebased_at : (t : RunTable) (row : JobRecord) → JobStands t row → (node : ℕ) → rebased_by row row.kind ≡ Some node → Contains (nodes_of_job row) node
rebased_at t row stands node = by_kind row.kind
  where
    by_kind : (k : JobKind) → rebased_by row k ≡ Some node → Contains (nodes_of_job row) node
    by_kind Stream is =
        let same : row.source ≡ node = (let both : Some row.source ≡ Some node = is in cc both) in
        subst (Contains (nodes_of_job row)) same (in_left row.held row.read row.source (holds_source t row stands))
    by_kind Commit is = in_right row.held row.read node (first_read row.read node is)
    by_kind Mirror is = absurd cc
    by_kind Backup is = absurd cc

-- ---- all headers

-- jobs that were there, or begin with such a header
pub headers_by : (s now : State) → ((row : JobRecord) (node : ℕ) → Contains now.table.jobs row → rebased_by row row.kind ≡ Some node
    → HadHeader s.table.jobs row ⊎ IsNamedImage now node)
    → ((row : JobRecord) (node : ℕ) → Contains s.table.jobs row → rebased_by row row.kind ≡ Some node → IsNamedImage s node → IsNamedImage now node)
    → HeadersAreNamed s → HeadersAreNamed now
headers_by s now back kept h row node here is = elim (back row node here is) [
  | inl had ↦
      let was : rebased_by had.old had.old.kind ≡ Some node = sym had.same ∙ is in
      kept had.old node had.there was (h had.old node had.there was)
  | inr new ↦ new
]

-- a change by which no job begins
pub headers_change : (s : State) (c : Change) → ((row : JobRecord) → StartsRow c row → ⊥)
    → ((row : JobRecord) (node : ℕ) → Contains s.table.jobs row → rebased_by row row.kind ≡ Some node → is_qcow2_at s.table node ≡ true → KeepsFile s c node)
    → HeadersAreNamed s → HeadersAreNamed (stepped s c)
headers_change s c none keeps h =
    headers_by s (stepped s c)
    (λ row node here is. elim (had_header s.table c row here) [
      | inl had ↦ inl had
      | inr new ↦ absurd (none row new)
    ])
    (λ row node here is image. image_kept s c node (keeps row node here is image.image) image) h

-- the same jobs, over the same files
pub headers_beside : (s now : State) → now.named ≡ s.named → now.table.jobs ≡ s.table.jobs
    → ((n : ℕ) → is_qcow2_at s.table n ≡ true → StaysAt s.table now.table n) → HeadersAreNamed s → HeadersAreNamed now
headers_beside s now named jobs still =
    headers_by s now (λ row node here is. inl (header_self s.table.jobs row (subst (λ rows. Contains rows row) jobs here)))
    (λ row node here is image. image_beside s now named node (still node) image)

pub no_headers : (s : State) → s.table.jobs ≡ [] → HeadersAreNamed s
no_headers s none row node here = absurd (Contains-nil row (subst (λ rows. Contains rows row) none here))

-- ---- changes that leave jobs

starts_none : (t : RunTable) (c : Change) (row : JobRecord) → LeavesJobs t c → StartsRow c row → ⊥
starts_none t (change.StartJob new) row leaves is = leaves
starts_none t c row leaves is = is

leaving_keeps : (s : State) (c : Change) → TableStands s.table → JobsStand s.table → TableSuits s.table c → LeavesJobs s.table c
    → (row : JobRecord) (node : ℕ) → Contains s.table.jobs row → rebased_by row row.kind ≡ Some node → is_qcow2_at s.table node ≡ true → KeepsFile s c node
leaving_keeps s (change.AddFile new) h j suits leaves row node here is image = file_stays s node image h new suits
leaving_keeps s (change.AddFormat new file backing) h j suits leaves row node here is image = format_stays s node image h new file backing suits
leaving_keeps s (change.AddFilter new below) h j suits leaves row node here is image = filter_stays s node image h new below suits
leaving_keeps s (change.RemoveNode gone) h j suits leaves row node here is image =
    removed_stays s node image h gone suits
    (λ same. leaves.held row here (subst (Contains (nodes_of_job row)) same (rebased_at s.table row (j.each row here) node is)))
leaving_keeps s (change.PutFilter new below) h j suits leaves row node here is image = absurd leaves
leaving_keeps s (change.PullFilter filter) h j suits leaves row node here is image = absurd leaves
leaving_keeps s (change.Move from to but) h j suits leaves row node here is image = absurd leaves
leaving_keeps s c h j suits leaves row node here is image = tt

pub leaving_headers : (changes : List Change) (s : State) → TableStands s.table → JobsStand s.table → AllTableSuit s.table changes
    → AllLeaveJobs s.table changes → HeadersAreNamed s → HeadersAreNamed (all_stepped s changes)
leaving_headers [] s h j suits leaves named = named
leaving_headers (c ∷ changes) s h j suits leaves named =
    leaving_headers changes (stepped s c) (table_keeps s.table c suits.0 h) (change_leaves_jobs s.table c h j suits.0 leaves.0) suits.1 leaves.1
    (headers_change s c (λ row. starts_none s.table c row leaves.0) (leaving_keeps s c h j suits.0 leaves.0) named)

-- ---- snapshots

pub snapshot_headers : (s : State) (node overlay : ℕ) → TableStands s.table
    → AllTableSuit s.table (change.Attach overlay node ∷ change.Move node overlay overlay ∷ []) → HeadersAreNamed s
    → HeadersAreNamed (all_stepped s (change.Attach overlay node ∷ change.Move node overlay overlay ∷ []))
snapshot_headers s node overlay h suits named =
    headers_change between (change.Move node overlay overlay) (λ row none. none)
    (λ row n here is image.
    moved_stays between n image node overlay overlay
    (free_no_file between.table (table_keeps s.table (change.Attach overlay node) suits.0 h) node suits.1.0.plain.free))
    (headers_change s (change.Attach overlay node) (λ row none. none) (λ row n here is image. tt) named)
  where
    between : State
    between = stepped s (change.Attach overlay node)
