-- Changes leave what holds of all states.
use Rattle.std.proofs.Common.{◌≡◌, ◌≢◌, ◌⊎◌, ℕ, Bool, true, false, List, [], ◌∷◌, ◌++◌, refl, sym, ap, subst, ◌∙◌, inl, inr, Option, Some, None, option_map}
use Rattle.std.specs.Prelude.{◌==◌, ◌&&◌, ◌||◌, not, bytes_eq, All, IsSome, option_and_then}
use Rattle.std.specs.List.{find, Contains}
use Rattle.std.proofs.lemmas.Bool.{eqb-true, eqb-false, ne_eqb, cases_eq}
use Rattle.std.proofs.lemmas.List.Elements.{All-weaker}
use Rattle.blk_graph.specs.declared.edge.Edge.{Edge}
use Rattle.blk_graph.specs.declared.edge.Parent.TheVariants.{Node, Guest, Job}
use Rattle.blk_graph.specs.declared.edge.Role.TheVariants.{Drive, File, Backing}
use Rattle.blk_graph.specs.declared.kind.JobUse.{JobUse}
use Rattle.blk_graph.specs.declared.kind.NodeKind.{NodeKind}
use Rattle.blk_graph.specs.Edges.{same_parent}
use Rattle.blk_graph.specs.Edits.{child_of, takes_place, with_edge, without_parent}
use Rattle.blk_graph.specs.Permissions.{node_edge, job_edge}
use Rattle.blk_graph.proofs.Members.{find-Some, Contains-filter}
use Rattle.blk_graph.proofs.CycleLemmas.{same_parent-true}
use Rattle.blk_graph.proofs.EditLemmas.{Contains-with_edge_new}
use Rattle.qmp_rules.specs.declared.rows.NodeRecord.{NodeRecord}
use Rattle.qmp_rules.specs.declared.rows.DeviceRow.{DeviceRow}
use Rattle.qmp_rules.specs.declared.rows.JobRecord.{JobRecord}
use Rattle.qmp_rules.specs.declared.rows.FileState.{FileState}
use Rattle.qmp_rules.specs.declared.rows.FileState.TheVariants.{Made, Formatted, Used}
use Rattle.qmp_rules.specs.declared.change.Change.{Change}
use Rattle.qmp_rules.specs.declared.change.Change.TheVariants as change
use Rattle.qmp_rules.specs.Table.{RunTable, node_by_id, file_state, has_name, kinds_of}
use Rattle.qmp_rules.specs.Changes.{changed, node_changed, unsettled, with_unsettled, without_record, with_format_edges, with_backing_edge, device_edge}
use Rattle.flat_machine.specs.State.{State, Content, Unknown, content_in, filename_of}
use Rattle.flat_machine.specs.Contents.{with_content, mapped_in}
use Rattle.flat_machine.specs.Changed.{stepped, all_stepped, name_if, name_file, overlay_file, know_if, content_under, bytes_by_format, left_disk}
use Rattle.flat_machine.specs.Wiring.{StandsFor, IsUnder, TableStands}
use Rattle.flat_machine.specs.Standing.{IsLostBy, IsOfState, IsOpenlyKnown, IsUsedUp, WritingStands, Stands}
use Rattle.flat_machine.specs.Suiting.{IsThere, IsPlainNode, FileSuits, FormatSuits, SuitsFilter, RemovalSuits, UnsettleSuits, DeviceSuits, Suits, AllSuit}
use Rattle.flat_machine.proofs.Finds.{content_in-with, content_in-with_other, cases_name}
use Rattle.flat_machine.proofs.Accepted.{added_files}
use Rattle.flat_machine.proofs.Kept.{with_format, left_alone}
use Rattle.flat_machine.proofs.Tables.{filter-keeps, with_edge-keeps, apart-parents}
use Rattle.flat_machine.proofs.Rows.{under-refreshed, IsLike, SameRows, rows-same, rows-mapped, same_row, changed_row, like_unsettled, kept_unsettled}
use Rattle.flat_machine.proofs.TablesKept.{new_parent, rows_table, file_table, format_table, filter_table, removed_table, device_table, rows_grow}
use Rattle.flat_machine.proofs.Wired.{Grows, NoRow, NoEdge}
use Rattle.flat_machine.proofs.WritingKept.{grown_writing, left_still}
use Rattle.flat_machine.proofs.WritingAdded.{has_name-grows, drive_there, same_devices, file_writing, format_writing, filter_writing, remove_writing, device_writing}
use Rattle.flat_machine.proofs.DevicesGone.{gone_table, gone_writing}
use Rattle.flat_machine.proofs.JobEdges.{over_table, over_writing, use_table, use_writing}
use Rattle.flat_machine.proofs.StandingAdded.{IsNewRow, HasEdges, under-kept, added_stands, open-before, stands-pushed, no_file_row}
use Rattle.flat_machine.proofs.LentStates.{settled_holds, writable_holds, kept_holds}
use Rattle.flat_machine.proofs.MovedStates.{attached_holds, moved_holds, rebased_holds}
use Rattle.flat_machine.proofs.FilterStates.{put_holds, pulled_holds}
use Rattle.flat_machine.proofs.FilesStand.{use_stands, spoil_stands, make_stands, format_stands}

-- ---- one node more

file_node_stands : (s : State) (row : NodeRecord) → FileSuits s row → Stands s → Stands (stepped s (change.AddFile row))
unfolding changed
file_node_stands s row suits h =
    added_stands s now s.table row rows refl es refl is_new
    (λ name some. subst (λ fs. IsSome (content_in fs name)) (sym (added_files row s)) some)
    (λ other old later over like there gone. inl (subst (λ r. r.is_settled ≡ false) (same_row s.table h.table.apart old later over.there there like.id) gone))
    (λ name what found is_open. h.states name what (subst (λ fs. content_in fs name ≡ Some what) (added_files row s) found)
    (open-before s now es (stands-pushed s.table s.table now.table row rows refl) name is_open))
    (file_table s.table now.table row suits.suits refl es.kinds refl h.table refl refl) (file_writing s row suits h) h
  where
    now : State
    now = stepped s (change.AddFile row)

    rows : SameRows s.table s.table
    rows = rows-same s.table s.table refl h.table.apart

    es : HasEdges s now
    es = record {
      kinds = kinds_of (s.table.nodes ++ row ∷ []);
      before = s.table.edges;
      derived = refl;
      keeps = λ e there over. there;
    }

    same_name : (name : List ℕ) → row.filename ≡ Some name → suits.suits.name ≡ name
    same_name name is = let known = suits.suits.filename in cc

    is_new : IsNewRow now row
    is_new = record {
      file_there = λ name is. subst (λ fs. IsSome (content_in fs name)) (sym (added_files row s))
          (subst (λ n. IsSome (content_in s.files n)) (same_name name is) suits.there);
      settled = λ name is. suits.settled;
    }

filter_stands : (s : State) (row : NodeRecord) (child : ℕ) → SuitsFilter s.table row child → Stands s → Stands (stepped s (change.AddFilter row child))
unfolding changed
filter_stands s row child suits h =
    added_stands s now s.table row rows refl es refl
    (no_file_row now row suits.filename) (λ name some. some)
    (λ other old later over like there gone. inl (subst (λ r. r.is_settled ≡ false) (same_row s.table h.table.apart old later over.there there like.id) gone))
    (λ name what found is_open. h.states name what found
    (open-before s now es (stands-pushed s.table s.table now.table row rows refl) name is_open))
    (filter_table s.table now.table row child suits refl es.kinds refl h.table refl refl) (filter_writing s row child suits h) h
  where
    now : State
    now = stepped s (change.AddFilter row child)

    rows : SameRows s.table s.table
    rows = rows-same s.table s.table refl h.table.apart

    es : HasEdges s now
    es = record {
      kinds = kinds_of (s.table.nodes ++ row ∷ []);
      before = with_edge (node_edge row.id File child) s.table.edges;
      derived = refl;
      keeps = λ e there over. with_edge-keeps (node_edge row.id File child) s.table.edges e
          (apart-parents (node_edge row.id File child) e (new_parent s.table row.id h.table.edges suits.fresh e there)) there;
    }

-- ---- a format node

-- what is known of other files stays, and of the one under the node nothing is
known_if_there : (under : Option (List ℕ)) (s : State) (name : List ℕ) → IsSome (content_in s.files name)
    → IsSome (content_in (know_if under Unknown s).files name)
known_if_there None s name h = h
known_if_there (Some file) s name h = by_name (cases_name name file)
  where
    by_name : ((name ≡ file) ⊎ (name ≢ file)) → IsSome (content_in (with_content file Unknown s.files) name)
    by_name (inl same) = subst (λ n. IsSome (content_in (with_content file Unknown s.files) n)) (sym same)
        (subst IsSome (sym (content_in-with file Unknown s.files)) refl)
    by_name (inr differ) = subst IsSome (sym (content_in-with_other file name Unknown s.files differ)) h

known_if_before : (under : Option (List ℕ)) (s : State) (name : List ℕ) (what : Content)
    → content_in (know_if under Unknown s).files name ≡ Some what → (under ≡ Some name) ⊎ (content_in s.files name ≡ Some what)
known_if_before None s name what h = inr h
known_if_before (Some file) s name what h = by_name (cases_name name file)
  where
    by_name : ((name ≡ file) ⊎ (name ≢ file)) → (Some file ≡ Some name) ⊎ (content_in s.files name ≡ Some what)
    by_name (inl same) = inl (ap Some (sym same))
    by_name (inr differ) = inr (sym (content_in-with_other file name Unknown s.files differ) ∙ h)

backed-keeps : (id : ℕ) (backing : Option ℕ) (edges : List Edge) (e : Edge)
    → (e.role ≡ File) ⊎ (Node id ≢ e.parent) → Contains edges e → Contains (with_backing_edge id backing edges) e
backed-keeps id None edges e apart there = there
backed-keeps id (Some node) edges e apart there = with_edge-keeps (node_edge id Backing node) edges e (by_cause apart) there
  where
    by_cause : ((e.role ≡ File) ⊎ (Node id ≢ e.parent)) → takes_place (node_edge id Backing node) e ≡ false
    by_cause (inl file) = rw file (by_parent (same_parent (Node id) e.parent))
      where
        by_parent : (b : Bool) → (b && false && (not false || (node == e.child))) ≡ false
        by_parent true = refl
        by_parent false = refl
    by_cause (inr differ) = apart-parents (node_edge id Backing node) e differ

format_node_stands : (s : State) (row : NodeRecord) (file : ℕ) (backing : Option ℕ) → FormatSuits s row file backing → Stands s
    → Stands (stepped s (change.AddFormat row file backing))
unfolding changed
format_node_stands s row file backing suits h =
    added_stands s now between row rows refl es refl (no_file_row now row suits.suits.filename)
    (λ name some. subst (λ fs. IsSome (content_in fs name)) (sym contents) (known_if_there (filename_of s.table file) s name some))
    loses
    (λ name what found is_open. by_file name what is_open
    (known_if_before (filename_of s.table file) s name what (subst (λ fs. content_in fs name ≡ Some what) contents found)))
    (format_table s.table now.table row file backing suits.suits refl es.kinds refl h.table refl refl) (format_writing s row file backing suits h) h
  where
    now : State
    now = stepped s (change.AddFormat row file backing)

    between : RunTable
    between = record s.table { nodes = with_unsettled file s.table.nodes }

    rows : SameRows s.table between
    rows = rows-mapped s.table between (node_changed file unsettled) (like_unsettled file) refl h.table.apart

    contents : now.files ≡ (know_if (filename_of s.table file) Unknown s).files
    contents = (with_format (λ name. None) (filename_of s.table file) row.kind row.id (mapped_in (content_under s file))
        (bytes_by_format s row file backing row.kind) s now.table).files

    own : Edge
    own = node_edge row.id File file

    es : HasEdges s now
    es = record {
      kinds = kinds_of (with_unsettled file s.table.nodes ++ row ∷ []);
      before = with_format_edges row.id file backing s.table.edges;
      derived = refl;
      keeps = λ e there over. backed-keeps row.id backing (with_edge own s.table.edges) e (inl over)
          (with_edge-keeps own s.table.edges e (apart-parents own e (new_parent s.table row.id h.table.edges suits.suits.fresh e there)) there);
    }

    -- the file node is under the new one
    under_new : IsUnder now.table.edges file
    under_new = under-refreshed es.kinds es.before file (record {
      edge = own;
      there = backed-keeps row.id backing (with_edge own s.table.edges) own (inl refl) (Contains-with_edge_new own s.table.edges);
      over = refl;
      child = refl;
    })

    loses : (other : List ℕ) (old later : NodeRecord) → StandsFor s.table other old → IsLike old later → Contains between.nodes later
        → later.is_settled ≡ false → (old.is_settled ≡ false) ⊎ IsLostBy now.table other later
    loses other old later over like there gone = elim (cases_eq old.id file) [
      | inl same ↦ inr (inr (inr (subst (IsUnder now.table.edges) (sym (like.id ∙ same)) under_new)))
      | inr differ ↦
          let is : later ≡ node_changed file unsettled old =
          changed_row s.table (node_changed file unsettled) (like_unsettled file) h.table.apart old later over.there there like.id in
          inl (subst (λ r. r.is_settled ≡ false) (is ∙ kept_unsettled file old differ) gone)
    ]

    -- a file under the node is not open
    closed_now : (name : List ℕ) (found : Option NodeRecord) → node_by_id s.table file ≡ found → option_and_then (λ r. r.filename) found ≡ Some name
        → IsOpenlyKnown now.table name → ⊥
    closed_now name None e is is_open = cc
    closed_now name (Some r) e is is_open =
        let passed = find-Some (λ x. x.id == file) s.table.nodes r e in
        let id_is : r.id ≡ file = eqb-true r.id file passed.1 in
        let later = stands-pushed s.table between now.table row rows refl name r (record { there = passed.0; filename = is }) in
        is_open later.0 later.1.0 (subst (IsUnder now.table.edges) (sym (later.1.1 ∙ id_is)) under_new)

    by_file : (name : List ℕ) (what : Content) → IsOpenlyKnown now.table name
        → ((filename_of s.table file ≡ Some name) ⊎ (content_in s.files name ≡ Some what)) → IsOfState (file_state now.table name) what
    by_file name what is_open (inl under) = absurd (closed_now name (node_by_id s.table file) refl under is_open)
    by_file name what is_open (inr found) = h.states name what found
        (open-before s now es (stands-pushed s.table between now.table row rows refl) name is_open)

-- ---- changes of the table beside rows and files

table_stands : (s now : State) → now.table.nodes ≡ s.table.nodes
    → ((file : ℕ) → IsUnder s.table.edges file → IsUnder now.table.edges file) → now.table.files ≡ s.table.files → now.files ≡ s.files
    → TableStands now.table → WritingStands now → Stands s → Stands now
table_stands s now nodes unders files contents table writing h = record {
  table = table;
  files = λ name row over. subst (λ fs. IsSome (content_in fs name)) (sym contents) (h.files name row (stood name row over));
  lost = λ name row over gone. as_before name row (h.lost name row (stood name row over) gone);
  states = λ name what found is_open. subst (λ st. IsOfState st what) (sym (state_same name))
      (h.states name what (subst (λ fs. content_in fs name ≡ Some what) contents found)
      (λ row over under. is_open row (stands name row over) (unders row.id under)));
  formatted = λ name is.
      let row = h.formatted name (sym (state_same name) ∙ is) in (row.0, stands name row.0 row.1);
  writing = writing;
}
  where
    stood : (name : List ℕ) (row : NodeRecord) → StandsFor now.table name row → StandsFor s.table name row
    stood name row over = record { there = subst (λ ns. Contains ns row) nodes over.there; filename = over.filename }

    stands : (name : List ℕ) (row : NodeRecord) → StandsFor s.table name row → StandsFor now.table name row
    stands name row over = record { there = subst (λ ns. Contains ns row) (sym nodes) over.there; filename = over.filename }

    state_same : (name : List ℕ) → file_state now.table name ≡ file_state s.table name
    state_same name = ap (λ fs. option_map (λ r. r.state) (find (λ r. bytes_eq r.name name) fs)) files

    as_before : (name : List ℕ) (row : NodeRecord) → IsLostBy s.table name row → IsLostBy now.table name row
    as_before name row (inl used) = inl (state_same name ∙ used)
    as_before name row (inr (inl image)) = inr (inl (state_same name ∙ image))
    as_before name row (inr (inr under)) = inr (inr (unders row.id under))

device_stands : (s : State) (device : DeviceRow) (node : ℕ) → DeviceSuits s device node → Stands s → Stands (stepped s (change.AddDevice device node))
unfolding changed
device_stands s device node suits h =
    table_stands s now refl (λ file under. under-kept s now es file under) refl refl
    (device_table s.table now.table device node suits.suits refl es.kinds refl h.table refl refl) (device_writing s device node suits h) h
  where
    now : State
    now = stepped s (change.AddDevice device node)

    es : HasEdges s now
    es = record {
      kinds = kinds_of s.table.nodes;
      before = with_edge (device_edge device node) s.table.edges;
      derived = refl;
      keeps = λ e there over.
          let of = h.table.single e there over in
          with_edge-keeps (device_edge device node) s.table.edges e
          (apart-parents (device_edge device node) e (λ same. (let from = same ∙ of.1.0 in cc))) there;
    }

device_gone_stands : (s : State) (number : ℕ) → Stands s → Stands (stepped s (change.RemoveDevice number))
unfolding changed
device_gone_stands s number h =
    table_stands s now refl (λ file under. under-kept s now es file under) refl refl
    (gone_table s.table now.table number refl es.kinds refl h.table refl refl) (gone_writing s number h) h
  where
    now : State
    now = stepped s (change.RemoveDevice number)

    es : HasEdges s now
    es = record {
      kinds = kinds_of s.table.nodes;
      before = without_parent (Guest number) s.table.edges;
      derived = refl;
      keeps = λ e there over.
          let of = h.table.single e there over in
          let apart : same_parent e.parent (Guest number) ≡ false = rw of.1.0 refl in
          filter-keeps (λ x. not (same_parent x.parent (Guest number))) s.table.edges e (ap not apart) there;
    }

-- rows stay, but for their disks, and all else does
rows_stand : (s now : State) → SameRows s.table now.table → now.table.edges ≡ s.table.edges → now.table.guests ≡ s.table.guests
    → now.table.devices ≡ s.table.devices → now.table.files ≡ s.table.files → now.files ≡ s.files → now.disks ≡ s.disks
    → now.left ≡ s.left → ((name : List ℕ) → has_name name s.named ≡ true → has_name name now.named ≡ true)
    → ((name : List ℕ) (row later : NodeRecord) → StandsFor s.table name row → IsLike row later → Contains now.table.nodes later
    → later.is_settled ≡ false → (row.is_settled ≡ false) ⊎ IsLostBy s.table name row)
    → Stands s → Stands now
rows_stand s now rows edges guests devices states files disks left named loses h = record {
  table = rows_table s.table now.table rows edges guests devices h.table;
  files = λ name later over.
      let old = rows.back later over.there in
      subst (λ fs. IsSome (content_in fs name)) (sym files) (h.files name old.0 (stood name later old over));
  lost = λ name later over gone.
      let old = rows.back later over.there in
      let was = stood name later old over in
      elim (loses name old.0 later was old.1.1 over.there gone) [
        | inl unsettled_before ↦ as_before name old.0 later old.1.1 (h.lost name old.0 was unsettled_before)
        | inr cause ↦ as_before name old.0 later old.1.1 cause
      ];
  states = λ name what found is_open. subst (λ st. IsOfState st what) (sym (state_same name))
      (h.states name what (subst (λ fs. content_in fs name ≡ Some what) files found)
      (λ row over under.
      let after = stands name row over in
      is_open after.0 after.1.0 (still_under row.id after.0.id after.1.1.id under)));
  formatted = λ name is.
      let row = h.formatted name (sym (state_same name) ∙ is) in
      let after = stands name row.0 row.1 in (after.0, after.1.0);
  writing = grown_writing s now (IsThere s.table) NoRow NoEdge grow
      (record {
        names = named;
        names_new = λ name r never. absurd never;
        known = λ name over under f is known. subst (λ fs. content_in fs name ≡ Some Unknown) (sym files) known;
        known_new = λ name over under f never. absurd never;
        bytes = λ node here some. subst (λ ds. IsSome (find (λ d. d.node == node) ds)) (sym disks) some;
        bytes_new = λ r never. absurd never;
        left = subst (All (IsUsedUp now)) (sym left)
            (All-weaker (IsUsedUp s) (IsUsedUp now) (λ l used. left_still s now (IsThere s.table) NoRow NoEdge grow l
            (ap (λ fs. option_map (λ r. r.state) (find (λ r. bytes_eq r.name l.file) fs)) states ∙ used.used)
            (λ r never. absurd never) (λ e r never. absurd never) used) s.left h.writing.left);
        written = λ node name here entered of known. subst (λ fs. content_in fs name ≡ Some Unknown) (sym files) known;
        used = λ node name here entered of used.
            ap (λ fs. option_map (λ r. r.state) (find (λ r. bytes_eq r.name name) fs)) states ∙ used;
        copies_new = λ r disk never. absurd never;
        emptied = λ node name here entered of none. subst (All (λ l. l.file ≢ name)) (sym left) none;
        devices = same_devices s now devices (λ g. ap (child_of (Guest g) Drive) edges);
        drives = λ g node is. drive_there s.table h.table.edges g node is;
      })
      h.table h.writing;
}
  where
    grow : Grows s.table now.table (IsThere s.table) NoRow NoEdge
    grow = rows_grow s.table now.table rows edges h.table

    stood : (name : List ℕ) (later : NodeRecord) (old : (r : NodeRecord) × (Contains s.table.nodes r × IsLike r later)) → StandsFor now.table name later
        → StandsFor s.table name old.0
    stood name later old over = record { there = old.1.0; filename = sym old.1.1.filename ∙ over.filename }

    stands : (name : List ℕ) (row : NodeRecord) → StandsFor s.table name row
        → (later : NodeRecord) × (StandsFor now.table name later × IsLike row later)
    stands name row over =
        let after = rows.forth row over.there in
        (after.0, (record { there = after.1.0; filename = after.1.1.filename ∙ over.filename }, after.1.1))

    state_same : (name : List ℕ) → file_state now.table name ≡ file_state s.table name
    state_same name = ap (λ fs. option_map (λ r. r.state) (find (λ r. bytes_eq r.name name) fs)) states

    still_under : (node later : ℕ) → later ≡ node → IsUnder s.table.edges node → IsUnder now.table.edges later
    still_under node later same under =
        subst (λ es. IsUnder es later) (sym edges) (subst (IsUnder s.table.edges) (sym same) under)

    as_before : (name : List ℕ) (row later : NodeRecord) → IsLike row later → IsLostBy s.table name row → IsLostBy now.table name later
    as_before name row later like (inl used) = inl (state_same name ∙ used)
    as_before name row later like (inr (inl image)) = inr (inl (state_same name ∙ image))
    as_before name row later like (inr (inr under)) = inr (inr (still_under row.id later.id like.id under))

-- neither rows nor edges nor devices nor files change, and what was named is
named_stand : (s now : State) → now.table.nodes ≡ s.table.nodes → now.table.edges ≡ s.table.edges → now.table.guests ≡ s.table.guests
    → now.table.devices ≡ s.table.devices → now.table.files ≡ s.table.files → now.files ≡ s.files → now.disks ≡ s.disks
    → now.left ≡ s.left → ((name : List ℕ) → has_name name s.named ≡ true → has_name name now.named ≡ true) → Stands s → Stands now
named_stand s now nodes edges guests devices states files disks left named h =
    rows_stand s now (rows-same s.table now.table nodes h.table.apart) edges guests devices states files disks left named
    (λ name row later over like there gone. inl (subst (λ r. r.is_settled ≡ false)
    (same_row s.table h.table.apart row later over.there (subst (λ ns. Contains ns later) nodes there) like.id) gone)) h

still_stands : (s now : State) → now.table.nodes ≡ s.table.nodes → now.table.edges ≡ s.table.edges → now.table.guests ≡ s.table.guests
    → now.table.devices ≡ s.table.devices → now.table.files ≡ s.table.files → now.files ≡ s.files → now.disks ≡ s.disks
    → now.left ≡ s.left → now.named ≡ s.named → Stands s → Stands now
still_stands s now nodes edges guests devices states files disks left named h =
    named_stand s now nodes edges guests devices states files disks left (λ name is. subst (λ ns. has_name name ns ≡ true) (sym named) is) h

-- ---- jobs

unsettle_stands : (s : State) (node : ℕ) → UnsettleSuits s.table node → Stands s → Stands (stepped s (change.Unsettle node))
unfolding changed
unsettle_stands s node suits h =
    rows_stand s now (rows-mapped s.table now.table (node_changed node unsettled) (like_unsettled node) refl h.table.apart)
    refl refl refl refl refl refl refl (λ name is. is)
    (λ name row later over like there gone. elim (cases_eq row.id node) [
      | inl same ↦ inr (suits name row over same)
      | inr differ ↦
          let is : later ≡ node_changed node unsettled row =
          changed_row s.table (node_changed node unsettled) (like_unsettled node) h.table.apart row later over.there there like.id in
          inl (subst (λ r. r.is_settled ≡ false) (is ∙ kept_unsettled node row differ) gone)
    ]) h
  where
    now : State
    now = stepped s (change.Unsettle node)

-- a commit names the file of an overlay
start_stands : (s : State) (row : JobRecord) → Stands s → Stands (stepped s (change.StartJob row))
unfolding changed
start_stands s row h = by_name (overlay_file s.table row row.kind)
  where
    t : RunTable
    t = changed s.table (change.StartJob row)

    by_name : (name : Option (List ℕ)) → Stands (record (name_if name s) { table = t })
    by_name None = still_stands s (record s { table = t }) refl refl refl refl refl refl refl refl refl h
    by_name (Some name) =
        named_stand s (record (name_file name s) { table = t }) refl refl refl refl refl refl refl refl (λ n is. has_name-grows name n s.named is) h

over_stands : (s : State) (number slot : ℕ) (drops : Bool) → Stands s → Stands (stepped s (change.EndJob number slot drops))
unfolding changed
over_stands s number slot drops h =
    table_stands s now refl (λ file under. under-kept s now es file under) refl refl
    (over_table s.table now.table slot refl es.kinds refl h.table refl refl) (over_writing s number slot drops h) h
  where
    now : State
    now = stepped s (change.EndJob number slot drops)

    es : HasEdges s now
    es = record {
      kinds = kinds_of s.table.nodes;
      before = without_parent (Job slot) s.table.edges;
      derived = refl;
      keeps = λ e there over.
          let of = h.table.single e there over in
          let apart : same_parent e.parent (Job slot) ≡ false = rw of.1.0 refl in
          filter-keeps (λ x. not (same_parent x.parent (Job slot))) s.table.edges e (ap not apart) there;
    }

node_used_stands : (s : State) (slot : ℕ) (what : JobUse) (node : ℕ) → IsPlainNode s.table node → Stands s
    → Stands (stepped s (change.UseNode slot what node))
unfolding changed
node_used_stands s slot what node plain h =
    table_stands s now refl (λ file under. under-kept s now es file under) refl refl
    (use_table s.table now.table slot what node plain refl es.kinds refl h.table refl refl) (use_writing s slot what node plain h) h
  where
    now : State
    now = stepped s (change.UseNode slot what node)

    es : HasEdges s now
    es = record {
      kinds = kinds_of s.table.nodes;
      before = with_edge (job_edge slot what node) s.table.edges;
      derived = refl;
      keeps = λ e there over.
          let of = h.table.single e there over in
          with_edge-keeps (job_edge slot what node) s.table.edges e
          (apart-parents (job_edge slot what node) e (λ same. (let from = same ∙ of.1.0 in cc))) there;
    }

-- ---- a node that goes

remove_stands : (s : State) (node : ℕ) → RemovalSuits s.table node → Stands s → Stands (stepped s (change.RemoveNode node))
unfolding changed
remove_stands s node suits h = record {
  table = removed_table s.table now.table node suits.alone refl kinds refl h.table refl refl;
  files = λ name row over. subst (λ fs. IsSome (content_in fs name)) (sym contents) (h.files name row (stood name row over));
  lost = λ name row over gone. as_before name row (stood name row over) (h.lost name row (stood name row over) gone);
  states = λ name what found is_open.
      by_state name what (file_state s.table name) refl (subst (λ fs. content_in fs name ≡ Some what) contents found) is_open;
  formatted = λ name is.
      let row = h.formatted name is in
      (row.0, stays name row.0 row.1 (λ same. let used = suits.own name row.0 row.1 same in cc));
  writing = remove_writing s node suits h;
}
  where
    now : State
    now = stepped s (change.RemoveNode node)

    kinds : List NodeKind
    kinds = kinds_of (without_record node s.table.nodes)

    before : List Edge
    before = without_parent (Node node) s.table.edges

    contents : now.files ≡ s.files
    contents = (left_alone (λ name. None) (option_and_then (left_disk s) (node_by_id s.table node)) s).files

    not_true : (b : Bool) → not b ≡ true → b ≡ false
    not_true true e = absurd cc
    not_true false e = refl

    kept : (row : NodeRecord) → Contains now.table.nodes row → Contains s.table.nodes row × (row.id ≢ node)
    kept row there =
        let old = Contains-filter (λ r. not (r.id == node)) s.table.nodes row there in
        (old.0, eqb-false row.id node (not_true (row.id == node) old.1))

    stood : (name : List ℕ) (row : NodeRecord) → StandsFor now.table name row → StandsFor s.table name row
    stood name row over = record { there = (kept row over.there).0; filename = over.filename }

    stays : (name : List ℕ) (row : NodeRecord) → StandsFor s.table name row → row.id ≢ node → StandsFor now.table name row
    stays name row over differ = record {
      there = filter-keeps (λ r. not (r.id == node)) s.table.nodes row (ap not (ne_eqb row.id node differ)) over.there;
      filename = over.filename;
    }

    -- a format node over a `file` node stays, or its file was used
    under_stays : (name : List ℕ) (row : NodeRecord) → StandsFor s.table name row → (under : IsUnder s.table.edges row.id)
        → (file_state s.table name ≡ Some Used) ⊎ IsUnder now.table.edges row.id
    under_stays name row over under = by_parent (same_parent under.edge.parent (Node node)) refl
      where
        by_parent : (b : Bool) → same_parent under.edge.parent (Node node) ≡ b
            → (file_state s.table name ≡ Some Used) ⊎ IsUnder now.table.edges row.id
        by_parent true e =
            inl (suits.under name row under.edge over under.there (same_parent-true under.edge.parent (Node node) e) under.over under.child)
        by_parent false e = inr (under-refreshed kinds before row.id (record {
          edge = under.edge;
          there = filter-keeps (λ x. not (same_parent x.parent (Node node))) s.table.edges under.edge (ap not e) under.there;
          over = under.over;
          child = under.child;
        }))

    as_before : (name : List ℕ) (row : NodeRecord) → StandsFor s.table name row → IsLostBy s.table name row → IsLostBy now.table name row
    as_before name row over (inl used) = inl used
    as_before name row over (inr (inl image)) = inr (inl image)
    as_before name row over (inr (inr under)) = elim (under_stays name row over under) [
      | inl used ↦ inl used
      | inr stays_under ↦ inr (inr stays_under)
    ]

    -- of a file that was not used what is open was open
    open_so : (name : List ℕ) → (file_state s.table name ≡ Some Used → ⊥) → IsOpenlyKnown now.table name → IsOpenlyKnown s.table name
    open_so name unused is_open row over under = elim (under_stays name row over under) [
      | inl used ↦ unused used
      | inr stays_under ↦ is_open row (stays name row over (λ same. unused (suits.own name row over same))) stays_under
    ]

    by_state : (name : List ℕ) (what : Content) (state : Option FileState) → file_state s.table name ≡ state
        → content_in s.files name ≡ Some what → IsOpenlyKnown now.table name → IsOfState (file_state s.table name) what
    by_state name what None e found is_open = h.states name what found (open_so name (λ used. cc) is_open)
    by_state name what (Some Made) e found is_open = h.states name what found (open_so name (λ used. cc) is_open)
    by_state name what (Some Formatted) e found is_open = h.states name what found (open_so name (λ used. cc) is_open)
    by_state name what (Some Used) e found is_open = subst (λ st. IsOfState st what) (sym e) tt

-- ---- every kind

pub stands_keep : (s : State) (c : Change) → Suits s c → Stands s → Stands (stepped s c)
unfolding changed
stands_keep s change.Negotiate suits h = still_stands s (stepped s change.Negotiate) refl refl refl refl refl refl refl refl refl h
stands_keep s (change.KeepId id) suits h = still_stands s (stepped s (change.KeepId id)) refl refl refl refl refl refl refl refl refl h
stands_keep s (change.DropId id) suits h = still_stands s (stepped s (change.DropId id)) refl refl refl refl refl refl refl refl refl h
stands_keep s (change.MakeFile name size) suits h = make_stands s name size suits h
stands_keep s (change.FormatFile node name size backing_file backing_fmt) suits h =
    format_stands s node name size backing_file backing_fmt suits h
stands_keep s (change.SpoilFile name) suits h = spoil_stands s name h
stands_keep s (change.UseFile name) suits h = use_stands s name h
stands_keep s (change.AddFile row) suits h = file_node_stands s row suits h
stands_keep s (change.AddFormat row file backing) suits h = format_node_stands s row file backing suits h
stands_keep s (change.AddFilter row child) suits h = filter_stands s row child suits h
stands_keep s (change.RemoveNode node) suits h = remove_stands s node suits h
stands_keep s (change.AddDevice device node) suits h = device_stands s device node suits h
stands_keep s (change.Unsettle id) suits h = unsettle_stands s id suits h
stands_keep s (change.MakeWritable id) suits h = writable_holds s id suits h
stands_keep s (change.PutFilter row node) suits h = put_holds s row node suits h
stands_keep s (change.UseNode slot what node) suits h = node_used_stands s slot what node suits h
stands_keep s (change.StartJob row) suits h = start_stands s row h
stands_keep s (change.AskJob number asked) suits h =
    still_stands s (stepped s (change.AskJob number asked)) refl refl refl refl refl refl refl refl refl h
stands_keep s (change.ReadyJob number) suits h =
    still_stands s (stepped s (change.ReadyJob number)) refl refl refl refl refl refl refl refl refl h
stands_keep s (change.EndJob number slot drops) suits h = over_stands s number slot drops h
stands_keep s (change.PullFilter filter) suits h = pulled_holds s filter suits h
stands_keep s (change.Rebase node backing) suits h = rebased_holds s node backing suits h
stands_keep s (change.Settle node disk) suits h = settled_holds s node disk suits h
stands_keep s (change.MakeReadOnly id) suits h = kept_holds s id suits h
stands_keep s (change.RemoveDevice number) suits h = device_gone_stands s number h
stands_keep s (change.Attach overlay node) suits h = attached_holds s overlay node suits h
stands_keep s (change.Move from to but) suits h = moved_holds s from to but suits h
stands_keep s (change.AddBitmap row) suits h =
    still_stands s (stepped s (change.AddBitmap row)) refl refl refl refl refl refl refl refl refl h
stands_keep s (change.RemoveBitmap node name) suits h =
    still_stands s (stepped s (change.RemoveBitmap node name)) refl refl refl refl refl refl refl refl refl h
stands_keep s (change.TurnBitmap node name on) suits h =
    still_stands s (stepped s (change.TurnBitmap node name on)) refl refl refl refl refl refl refl refl refl h
stands_keep s (change.ClearBitmap node name) suits h =
    still_stands s (stepped s (change.ClearBitmap node name)) refl refl refl refl refl refl refl refl refl h
stands_keep s (change.MergeBitmap node name source_node source) suits h =
    still_stands s (stepped s (change.MergeBitmap node name source_node source)) refl refl refl refl refl refl refl refl refl h

-- changes in turn
pub all_stand : (changes : List Change) (s : State) → AllSuit s changes → Stands s → Stands (all_stepped s changes)
all_stand [] s suits h = h
all_stand (c ∷ changes) s suits h = all_stand changes (stepped s c) suits.1 (stands_keep s c suits.0 h)
