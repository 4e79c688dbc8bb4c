-- What is said of images stays so with each kind of change, and with changes in turn.
use Rattle.std.proofs.Common.{◌≡◌, ◌≢◌, ◌⊎◌, ℕ, Bool, true, false, cond, List, [], ◌∷◌, ◌++◌, refl, sym, ap, subst, ◌∙◌, inl, inr, Option, Some, None}
use Rattle.std.specs.Prelude.{◌==◌, ◌&&◌, not, IsSome, is_some, option_and_then}
use Rattle.std.specs.List.{filter}
use Rattle.std.proofs.lemmas.Bool.{eqb-true, eq-eqb, ne_eqb, cases_eq}
use Rattle.q2_format.specs.Header.{header_of}
use Rattle.blk_graph.specs.declared.edge.Edge.{Edge}
use Rattle.blk_graph.specs.declared.edge.Parent.TheVariants.{Node, Guest, Job}
use Rattle.blk_graph.specs.declared.edge.Role.TheVariants.{File, Backing}
use Rattle.blk_graph.specs.declared.kind.Kind.{Kind}
use Rattle.blk_graph.specs.declared.kind.Kind.TheVariants.{Protocol, Raw, Qcow2, CopyOnRead, BeforeWrite, Mirror, Commit}
use Rattle.blk_graph.specs.declared.kind.NodeKind.{NodeKind}
use Rattle.blk_graph.specs.Edits.{child_of, with_edge, without_parent}
use Rattle.blk_graph.specs.Permissions.{node_edge, job_edge}
use Rattle.blk_graph.proofs.ChildLemmas.{child-kept, child-without}
use Rattle.blk_graph.proofs.DraftLemmas.{children_removed}
use Rattle.blk_graph.proofs.RefreshLemmas.{child_of-refreshed}
use Rattle.qmp_rules.specs.declared.change.Change.{Change}
use Rattle.qmp_rules.specs.declared.change.Change.TheVariants as change
use Rattle.qmp_rules.specs.declared.rows.NodeRecord.{NodeRecord}
use Rattle.qmp_rules.specs.Table.{RunTable, node_by_id, child, kinds_of}
use Rattle.qmp_rules.specs.Chains.{filter_role}
use Rattle.qmp_rules.specs.Changes.{changed, node_changed, unsettled, writable, with_writable, with_unsettled, settled, kept_from_writes, with_read_only, with_backing, without_record, lost_with, stands_over, device_edge}
use Rattle.qmp_rules.specs.Asks.{name_of_file}
use Rattle.blk_history.specs.Fold.{With}
use Rattle.flat_machine.specs.State.{State, Image, Left, Content, Unknown, Mapped, content_in, filename_of}
use Rattle.flat_machine.specs.Contents.{maps_none, mapped_in, file_bytes}
use Rattle.flat_machine.specs.Changed.{put, name_file, name_if, add_file, know_if, note_image, content_under, bytes_by_format, left_disk, leave, own_filename, overlay_file, stepped, all_stepped}
use Rattle.flat_machine.specs.Sights.{AgreesWith, mapped_at}
use Rattle.flat_machine.specs.Agreement.{Contents, AreAsKnown, Agrees}
use Rattle.flat_machine.specs.Performing.{HeldSame, Nothing, Rewrites, Can, Performed, AllCan, AllPerformed}
use Rattle.flat_machine.specs.Writing.{written_file}
use Rattle.flat_machine.specs.Wiring.{TableStands}
use Rattle.flat_machine.specs.Standing.{IsOpenlyKnown, Stands}
use Rattle.flat_machine.specs.Suiting.{IsThere, HasNoNode, SuitsFile, SuitsFormat, SuitsFilter, FormattingSuits, RemovalSuits, Suits, AllSuit}
use Rattle.flat_machine.specs.Imaging.{maps_some, image_at, is_qcow2, is_qcow2_at, ShowsImage, ShowsImages, StayInFiles, PullKeepsImages, KeepsImages, AllKeepImages}
use Rattle.flat_machine.proofs.Finds.{cases_found, find-filter}
use Rattle.flat_machine.proofs.Fresh.{found-new}
use Rattle.flat_machine.proofs.Kept.{change_keeps}
use Rattle.flat_machine.proofs.Wired.{Grows, NoRow, NoEdge}
use Rattle.flat_machine.proofs.TablesKept.{IsOther, child-role, file_grow, IsNewEdge, format_grow, found_row, format_child, IsNewFilterEdge, filter_grow, removed_grow}
use Rattle.flat_machine.proofs.WritingKept.{file_same}
use Rattle.flat_machine.proofs.StandingKept.{stands_keep}
use Rattle.flat_machine.proofs.Mapping.{found_maps}
use Rattle.flat_machine.proofs.ImagesKept.{mapped_of, mapped_at-found, nothing_said, image_still, AreOverFiles, IsSameRow, same_over_files, mapped_over_files, find_before, find_dropped, is_image_row, pushed_kind, qcow2_row, no_image, images_still}

-- ---- what is the same

same_unsettled : (id : ℕ) (row : NodeRecord) → IsSameRow (node_changed id unsettled) row
same_unsettled id row = record { id = by_id (row.id == id); kind = by_kind (row.id == id); filename = by_name (row.id == id) }
  where
    by_id : (b : Bool) → (cond b (unsettled row) row).id ≡ row.id
    by_id true = refl
    by_id false = refl

    by_kind : (b : Bool) → (cond b (unsettled row) row).kind ≡ row.kind
    by_kind true = refl
    by_kind false = refl

    by_name : (b : Bool) → (cond b (unsettled row) row).filename ≡ row.filename
    by_name true = refl
    by_name false = refl

same_writable : (id : ℕ) (row : NodeRecord) → IsSameRow (node_changed id writable) row
same_writable id row = record { id = by_id (row.id == id); kind = by_kind (row.id == id); filename = by_name (row.id == id) }
  where
    by_id : (b : Bool) → (cond b (writable row) row).id ≡ row.id
    by_id true = refl
    by_id false = refl

    by_kind : (b : Bool) → (cond b (writable row) row).kind ≡ row.kind
    by_kind true = refl
    by_kind false = refl

    by_name : (b : Bool) → (cond b (writable row) row).filename ≡ row.filename
    by_name true = refl
    by_name false = refl

same_settled : (id : ℕ) (row : NodeRecord) → IsSameRow (node_changed id settled) row
same_settled id row = record { id = by_id (row.id == id); kind = by_kind (row.id == id); filename = by_name (row.id == id) }
  where
    by_id : (b : Bool) → (cond b (settled row) row).id ≡ row.id
    by_id true = refl
    by_id false = refl

    by_kind : (b : Bool) → (cond b (settled row) row).kind ≡ row.kind
    by_kind true = refl
    by_kind false = refl

    by_name : (b : Bool) → (cond b (settled row) row).filename ≡ row.filename
    by_name true = refl
    by_name false = refl

same_read_only : (id : ℕ) (row : NodeRecord) → IsSameRow (node_changed id kept_from_writes) row
same_read_only id row = record { id = by_id (row.id == id); kind = by_kind (row.id == id); filename = by_name (row.id == id) }
  where
    by_id : (b : Bool) → (cond b (kept_from_writes row) row).id ≡ row.id
    by_id true = refl
    by_id false = refl

    by_kind : (b : Bool) → (cond b (kept_from_writes row) row).kind ≡ row.kind
    by_kind true = refl
    by_kind false = refl

    by_name : (b : Bool) → (cond b (kept_from_writes row) row).filename ≡ row.filename
    by_name true = refl
    by_name false = refl

same_lost : (name : List ℕ) (row : NodeRecord) → IsSameRow (lost_with name) row
same_lost name row = record {
  id = by_id (stands_over name row.filename);
  kind = by_kind (stands_over name row.filename);
  filename = by_name (stands_over name row.filename);
}
  where
    by_id : (b : Bool) → (cond b (unsettled row) row).id ≡ row.id
    by_id true = refl
    by_id false = refl

    by_kind : (b : Bool) → (cond b (unsettled row) row).kind ≡ row.kind
    by_kind true = refl
    by_kind false = refl

    by_name : (b : Bool) → (cond b (unsettled row) row).filename ≡ row.filename
    by_name true = refl
    by_name false = refl

added_images : (row : NodeRecord) (s : State) → (add_file row s).images ≡ s.images
added_images row s = by_flag row.read_only
  where
    with_disk : State
    with_disk = put row.id (file_bytes row.size (content_in s.files (name_of_file row))) s

    by_flag : (b : Bool) → (cond b with_disk (name_file (name_of_file row) with_disk)).images ≡ s.images
    by_flag true = refl
    by_flag false = refl

named_images : (name : Option (List ℕ)) (s : State) → (name_if name s).images ≡ s.images
named_images None s = refl
named_images (Some name) s = refl

known_images : (name : Option (List ℕ)) (what : Content) (s : State) → (know_if name what s).images ≡ s.images
known_images None what s = refl
known_images (Some name) what s = refl

left_images : (gone : Option Left) (s : State) → (leave gone s).images ≡ s.images
left_images None s = refl
left_images (Some left) s = refl

other_images : (driver : Kind) (id : ℕ) (mapped : Mapped) (s : State) → is_qcow2 driver ≡ false → (note_image driver id mapped s).images ≡ s.images
other_images Protocol id mapped s other = refl
other_images Raw id mapped s other = refl
other_images Qcow2 id mapped s other = absurd cc
other_images CopyOnRead id mapped s other = refl
other_images BeforeWrite id mapped s other = refl
other_images Mirror id mapped s other = refl
other_images Commit id mapped s other = refl

-- a filter is no image
filter_other : (kind : Kind) → IsSome (filter_role kind) → is_qcow2 kind ≡ false
filter_other Protocol some = absurd cc
filter_other Raw some = absurd cc
filter_other Qcow2 some = absurd cc
filter_other CopyOnRead some = refl
filter_other BeforeWrite some = refl
filter_other Mirror some = refl
filter_other Commit some = refl

-- a node with an image is there
image_there : (t : RunTable) (node : ℕ) → is_qcow2_at t node ≡ true → IsThere t node
image_there t node is = subst IsSome (sym (qcow2_row t node is).1) refl

-- ---- nodes over the same files

-- the table but for what is beside its nodes and edges
over_same : (s now : State) (old new : Contents) → now.images ≡ s.images → now.table.nodes ≡ s.table.nodes → now.table.edges ≡ s.table.edges
    → HeldSame Nothing old new → ShowsImages s old → ShowsImages now new
over_same s now old new images nodes edges held h =
    images_still s now old new images
    (same_over_files s.table now.table nodes (λ node. ap (λ (es : List Edge). child (record s.table { edges = es }) node File) edges))
    (λ node name image is. held name (λ never. never)) h

-- edges that are derived anew, of which those of nodes to files stay
over_rewired : (s now : State) (old new : Contents) (edges : List Edge) → now.images ≡ s.images
    → now.table.nodes ≡ s.table.nodes → ((node : ℕ) → child now.table node File ≡ child (record s.table { edges = edges }) node File)
    → ((node : ℕ) → child (record s.table { edges = edges }) node File ≡ child s.table node File)
    → HeldSame Nothing old new → ShowsImages s old → ShowsImages now new
over_rewired s now old new edges images nodes derived same held h =
    images_still s now old new images
    (same_over_files s.table now.table nodes (λ node. derived node ∙ same node))
    (λ node name image is. held name (λ never. never)) h

-- a file in which no image is gets other bytes
over_file : (s now : State) (old new : Contents) (name : List ℕ) → now.images ≡ s.images → AreOverFiles s.table now.table → TableStands s.table
    → IsOpenlyKnown s.table name → HeldSame (λ other. other ≡ name) old new → ShowsImages s old → ShowsImages now new
over_file s now old new name images over stands is_open held h =
    images_still s now old new images over
    (λ node other image is. held other (λ same. no_image s.table stands name is_open node image (is ∙ ap Some same))) h

pub closed_open : (t : RunTable) (name : List ℕ) → HasNoNode t name → IsOpenlyKnown t name
closed_open t name closed row over under = closed row over

pub formatted_open : (t : RunTable) (node : ℕ) (name : List ℕ) → TableStands t → FormattingSuits t node name → IsOpenlyKnown t name
formatted_open t node name h suits row over under =
    suits.alone under.edge under.there (under.child ∙ h.alone name row suits.row over suits.stands ∙ suits.is_node)

-- ---- nodes that come

add_file_images : (s : State) (row : NodeRecord) (old new : Contents) → SuitsFile s.table row → TableStands s.table → HeldSame Nothing old new
    → ShowsImages s old → ShowsImages (stepped s (change.AddFile row)) new
unfolding changed
add_file_images s row old new suits stands held h =
    images_still s now old new (added_images row s)
    (record {
      kind = λ node. pushed_kind s.table.nodes row node (ap is_qcow2 suits.driver);
      file = λ node name image is.
          sym (file_same s now (IsThere s.table) (λ r. r ≡ row) NoEdge grow node (image_there s.table node image)) ∙ is;
    })
    (λ node name image is. held name (λ never. never)) h
  where
    now : State
    now = stepped s (change.AddFile row)

    grow : Grows s.table now.table (IsThere s.table) (λ r. r ≡ row) NoEdge
    grow = file_grow s.table now.table row suits refl (kinds_of (s.table.nodes ++ row ∷ [])) refl stands

add_filter_images : (s : State) (row : NodeRecord) (below : ℕ) (old new : Contents) → SuitsFilter s.table row below → TableStands s.table
    → HeldSame Nothing old new → ShowsImages s old → ShowsImages (stepped s (change.AddFilter row below)) new
unfolding changed
add_filter_images s row below old new suits stands held h =
    images_still s now old new refl
    (record {
      kind = λ node. pushed_kind s.table.nodes row node (filter_other row.kind (subst IsSome (sym suits.filter) refl));
      file = λ node name image is.
          sym (file_same s now (IsThere s.table) (λ r. r ≡ row) New grow node (image_there s.table node image)) ∙ is;
    })
    (λ node name image is. held name (λ never. never)) h
  where
    now : State
    now = stepped s (change.AddFilter row below)

    kinds : List NodeKind
    kinds = kinds_of (s.table.nodes ++ row ∷ [])

    New : Edge → Type 0
    New = IsNewFilterEdge s.table now.table row below suits refl kinds refl stands

    grow : Grows s.table now.table (IsThere s.table) (λ r. r ≡ row) New
    grow = filter_grow s.table now.table row below suits refl kinds refl stands

-- the entry of a new image
image_noted : (driver : Kind) (id : ℕ) (mapped : Mapped) (s : State) → is_qcow2 driver ≡ true
    → (note_image driver id mapped s).images ≡ s.images ++ record { node = id; mapped = mapped } ∷ []
image_noted Protocol id mapped s is = absurd cc
image_noted Raw id mapped s is = absurd cc
image_noted Qcow2 id mapped s is = refl
image_noted CopyOnRead id mapped s is = absurd cc
image_noted BeforeWrite id mapped s is = absurd cc
image_noted Mirror id mapped s is = absurd cc
image_noted Commit id mapped s is = absurd cc

no_entry : {A : Type 0} (found : Option A) → is_some found ≡ false → found ≡ None
no_entry None e = refl
no_entry (Some a) e = absurd cc

add_format_images : (s : State) (row : NodeRecord) (file : ℕ) (backing : Option ℕ) (old new : Contents) → SuitsFormat s.table row file backing
    → TableStands s.table → AreAsKnown s old → HeldSame Nothing old new → ShowsImages s old
    → ShowsImages (stepped s (change.AddFormat row file backing)) new
unfolding changed
add_format_images s row file backing old new suits stands known held h = by_kind (is_qcow2 row.kind) refl
  where
    now : State
    now = stepped s (change.AddFormat row file backing)

    kinds : List NodeKind
    kinds = kinds_of (with_unsettled file s.table.nodes ++ row ∷ [])

    New : Edge → Type 0
    New = IsNewEdge s.table now.table row file backing suits refl kinds refl stands

    grow : Grows s.table now.table (IsThere s.table) (λ r. r ≡ row) New
    grow = format_grow s.table now.table row file backing suits refl kinds refl stands

    between : RunTable
    between = record s.table { nodes = with_unsettled file s.table.nodes }

    kinds_before : (node : ℕ) → is_qcow2_at between node ≡ is_qcow2_at s.table node
    kinds_before node = (mapped_over_files s.table between (node_changed file unsettled) (same_unsettled file) refl (λ n. refl)).kind node

    stays : StayInFiles s.table now.table
    stays node name image is =
        sym (file_same s now (IsThere s.table) (λ r. r ≡ row) New grow node (image_there s.table node image)) ∙ is

    with_disk : State
    with_disk = put row.id (bytes_by_format s row file backing row.kind) s

    mapped : Mapped
    mapped = mapped_in (content_under s file)

    entry : Image
    entry = record { node = row.id; mapped = mapped }

    noted : now.images ≡ (note_image row.kind row.id mapped with_disk).images
    noted = known_images (filename_of s.table file) Unknown (note_image row.kind row.id mapped with_disk)

    row_found : node_by_id now.table row.id ≡ Some row
    row_found = found_row s.table now.table row file backing suits refl kinds refl stands

    -- the new node is over the file
    name_same : filename_of now.table file ≡ filename_of s.table file
    name_same =
        let both = grow.stays file (subst IsSome (sym suits.found) refl) in
        ap (option_and_then (λ (r : NodeRecord). r.filename)) both.found_later ∙ both.like.filename
        ∙ sym (ap (option_and_then (λ (r : NodeRecord). r.filename)) both.found)

    file_by : (kind : Kind) → is_qcow2 kind ≡ true → own_filename now.table row kind ≡ filename_of s.table file
    file_by Protocol is = absurd cc
    file_by Raw is = absurd cc
    file_by Qcow2 is =
        ap (option_and_then (filename_of now.table)) (format_child s.table now.table row file backing suits refl kinds refl stands) ∙ name_same
    file_by CopyOnRead is = absurd cc
    file_by BeforeWrite is = absurd cc
    file_by Mirror is = absurd cc
    file_by Commit is = absurd cc

    found_in : (name bytes : List ℕ) → filename_of s.table file ≡ Some name → new.held name ≡ Some bytes → AgreesWith mapped (maps_some bytes)
    found_in name bytes is told =
        let under : content_under s file ≡ content_in s.files name = ap (option_and_then (content_in s.files)) is in
        subst (λ what. AgreesWith (mapped_in what) (maps_some bytes)) (sym under)
        (found_maps (content_in s.files name) (old.held name) bytes (sym (held name (λ never. never)) ∙ told) (known name))

    images_are : is_qcow2 row.kind ≡ true → now.images ≡ s.images ++ entry ∷ []
    images_are image = noted ∙ image_noted row.kind row.id mapped with_disk image

    entry_found : is_qcow2 row.kind ≡ true → image_at now.images row.id ≡ Some entry
    entry_found image =
        ap (λ (is : List Image). image_at is row.id) (images_are image)
        ∙ found-new (λ (i : Image). i.node == row.id) s.images entry
        (no_entry (image_at s.images row.id) ((h row.id).noted ∙ ap is_image_row suits.fresh)) (eq-eqb row.id row.id refl)

    file_is : is_qcow2 row.kind ≡ true → written_file now.table row.id ≡ filename_of s.table file
    file_is image = ap (option_and_then (λ (r : NodeRecord). own_filename now.table r r.kind)) row_found ∙ file_by row.kind image

    new_shown : is_qcow2 row.kind ≡ true → ShowsImage now new row.id
    new_shown image = record {
      noted = ap is_some (entry_found image) ∙ sym (ap is_image_row row_found ∙ image);
      mapped = λ name bytes is told.
          subst (λ m. AgreesWith m (maps_some bytes)) (sym (mapped_at-found now.images row.id ∙ ap mapped_of (entry_found image)))
          (found_in name bytes (sym (file_is image) ∙ is) told);
    }

    by_node : is_qcow2 row.kind ≡ true → (node : ℕ) → ((node ≡ row.id) ⊎ (node ≢ row.id)) → ShowsImage now new node
    by_node image node (inl same) = subst (ShowsImage now new) (sym same) (new_shown image)
    by_node image node (inr differ) =
        let other : (row.id == node) ≡ false = ne_eqb row.id node (λ same. differ (sym same)) in
        image_still s now old new node
        (record {
          entry = ap (λ (is : List Image). image_at is node) (images_are image) ∙ find_before (λ (i : Image). i.node == node) s.images entry other;
          kind = ap is_image_row (find_before (λ (r : NodeRecord). r.id == node) between.nodes row other) ∙ kinds_before node;
          file = stays node;
          held = λ is name file_is. held name (λ never. never);
        })
        (h node)

    by_kind : (b : Bool) → is_qcow2 row.kind ≡ b → ShowsImages now new
    by_kind true image = λ node. by_node image node (cases_eq node row.id)
    by_kind false other =
        images_still s now old new (noted ∙ other_images row.kind row.id mapped with_disk other)
        (record { kind = λ node. pushed_kind between.nodes row node other ∙ kinds_before node; file = stays })
        (λ node name image is. held name (λ never. never)) h

-- ---- a node that goes

remove_images : (s : State) (node : ℕ) (old new : Contents) → RemovalSuits s.table node → TableStands s.table → HeldSame Nothing old new
    → ShowsImages s old → ShowsImages (stepped s (change.RemoveNode node)) new
unfolding changed
remove_images s node old new suits stands held h = λ other. by_node other (cases_eq other node)
  where
    now : State
    now = stepped s (change.RemoveNode node)

    grow : Grows s.table now.table (IsOther s.table node) NoRow NoEdge
    grow = removed_grow s.table now.table node suits.alone refl (kinds_of (without_record node s.table.nodes)) refl stands

    images_are : now.images ≡ filter (λ (i : Image). not (i.node == node)) s.images
    images_are = ap (filter (λ (i : Image). not (i.node == node))) (left_images (option_and_then (left_disk s) (node_by_id s.table node)) s)

    gone_entry : image_at now.images node ≡ None
    gone_entry = ap (λ (is : List Image). image_at is node) images_are ∙ find_dropped (λ (i : Image). i.node == node) s.images

    by_node : (other : ℕ) → ((other ≡ node) ⊎ (other ≢ node)) → ShowsImage now new other
    by_node other (inl same) = subst (ShowsImage now new) (sym same) (record {
      noted = ap is_some gone_entry ∙ sym (ap is_image_row (find_dropped (λ (r : NodeRecord). r.id == node) s.table.nodes));
      mapped = λ name file is told. nothing_said now.images node (maps_some file) (ap is_some gone_entry);
    })
    by_node other (inr differ) =
        image_still s now old new other
        (record {
          entry = ap (λ (is : List Image). image_at is other) images_are
              ∙ find-filter (λ (i : Image). i.node == other) (λ i. not (i.node == node))
              (λ i e. ap not (ne_eqb i.node node (λ same. differ (sym (eqb-true i.node other e) ∙ same)))) s.images;
          kind = ap is_image_row (find-filter (λ (r : NodeRecord). r.id == other) (λ r. not (r.id == node))
              (λ r e. ap not (ne_eqb r.id node (λ same. differ (sym (eqb-true r.id other e) ∙ same)))) s.table.nodes);
          file = λ name image is.
              sym (file_same s now (IsOther s.table node) NoRow NoEdge grow other (image_there s.table other image, differ)) ∙ is;
          held = λ image name is. held name (λ never. never);
        })
        (h other)

-- ---- a filter that goes

pull_images : (s : State) (filter : ℕ) (old new : Contents) → PullKeepsImages s.table filter → HeldSame Nothing old new → ShowsImages s old
    → ShowsImages (stepped s (change.PullFilter filter)) new
unfolding changed
pull_images s filter old new keeps held h =
    images_still s now old new refl (record { kind = λ node. by_node node (cases_eq node filter); file = keeps.file })
    (λ n name image is. held name (λ never. never)) h
  where
    now : State
    now = stepped s (change.PullFilter filter)

    by_node : (node : ℕ) → ((node ≡ filter) ⊎ (node ≢ filter)) → is_qcow2_at now.table node ≡ is_qcow2_at s.table node
    by_node node (inl same) = subst (λ n. is_qcow2_at now.table n ≡ is_qcow2_at s.table n) (sym same)
        (ap is_image_row (find_dropped (λ (r : NodeRecord). r.id == filter) s.table.nodes) ∙ sym keeps.other)
    by_node node (inr differ) = ap is_image_row
        (find-filter (λ (r : NodeRecord). r.id == node) (λ r. not (r.id == filter))
        (λ r e. ap not (ne_eqb r.id filter (λ same. differ (sym (eqb-true r.id node e) ∙ same)))) s.table.nodes)

-- ---- a header that is rewritten

backing_other : (n node : ℕ) (backing : Option ℕ) (edges : List Edge) → child_of (Node n) File (with_backing node backing edges) ≡ child_of (Node n) File edges
backing_other n node None edges = children_removed (Node node) Backing edges (Node n) File (no_file (n == node))
  where
    no_file : (b : Bool) → (b && false) ≡ false
    no_file true = refl
    no_file false = refl
backing_other n node (Some below) edges = child-role (Node n) File (node_edge node Backing below) edges refl

rebase_images : (s : State) (node : ℕ) (backing : Option ℕ) (old new : Contents) → Rewrites s node old new → ShowsImages s old
    → ShowsImages (stepped s (change.Rebase node backing)) new
unfolding changed maps_some
rebase_images s node backing old new did h = λ n. record { noted = (h n).noted; mapped = by_kind n (is_qcow2_at s.table n) refl }
  where
    now : State
    now = stepped s (change.Rebase node backing)

    over : AreOverFiles s.table now.table
    over = same_over_files s.table now.table refl
        (λ n. child_of-refreshed (kinds_of s.table.nodes) (Node n) File (with_backing node backing s.table.edges) ∙ backing_other n node backing s.table.edges)

    rewritten : (n : ℕ) (name file : List ℕ) → written_file s.table n ≡ Some name → (before : Option (List ℕ)) → old.held name ≡ before
        → With before (λ bytes. maps_none file (header_of file) ≡ maps_none bytes (header_of bytes)) → AgreesWith (mapped_at s.images n) (maps_some file)
    rewritten n name file was None e same = absurd same
    rewritten n name file was (Some bytes) e same =
        subst (λ (b : Bool). AgreesWith (mapped_at s.images n) b) (ap not (sym same)) ((h n).mapped name bytes was e)

    by_kind : (n : ℕ) (b : Bool) → is_qcow2_at s.table n ≡ b → (name file : List ℕ) → written_file now.table n ≡ Some name
        → new.held name ≡ Some file → AgreesWith (mapped_at now.images n) (maps_some file)
    by_kind n false e name file is told = nothing_said now.images n (maps_some file) ((h n).noted ∙ e)
    by_kind n true e name file is told =
        let was : written_file s.table n ≡ Some name = over.file n name e is in
        elim (cases_found (written_file s.table node) name) [
          | inl its ↦ rewritten n name file was (old.held name) refl (did.mapping name file its told)
          | inr other ↦ (h n).mapped name file was (sym (did.files name other) ∙ told)
        ]

-- ---- every kind

pub images_keep : (s : State) (c : Change) (old new : Contents) → Suits s c → Can s c → KeepsImages s c → TableStands s.table → AreAsKnown s old
    → Performed s c old new → ShowsImages s old → ShowsImages (stepped s c) new
unfolding changed
images_keep s change.Negotiate old new suits can keeps stands known did h = over_same s (stepped s change.Negotiate) old new refl refl refl did.files h
images_keep s (change.KeepId id) old new suits can keeps stands known did h = over_same s (stepped s (change.KeepId id)) old new refl refl refl did.files h
images_keep s (change.DropId id) old new suits can keeps stands known did h = over_same s (stepped s (change.DropId id)) old new refl refl refl did.files h
images_keep s (change.MakeFile name size) old new suits can keeps stands known did h =
    over_file s (stepped s (change.MakeFile name size)) old new name refl (same_over_files s.table (changed s.table (change.MakeFile name size)) refl (λ n. refl))
    stands (closed_open s.table name suits) did.0.files h
images_keep s (change.FormatFile node name size backing_file backing_fmt) old new suits can keeps stands known did h =
    over_file s (stepped s (change.FormatFile node name size backing_file backing_fmt)) old new name refl
    (mapped_over_files s.table (changed s.table (change.FormatFile node name size backing_file backing_fmt)) (node_changed node unsettled) (same_unsettled node) refl (λ n. refl))
    stands (formatted_open s.table node name stands suits) did.0.files h
images_keep s (change.SpoilFile name) old new suits can keeps stands known did h =
    over_file s (stepped s (change.SpoilFile name)) old new name refl
    (mapped_over_files s.table (changed s.table (change.SpoilFile name)) (lost_with name) (same_lost name) refl (λ n. refl))
    stands keeps did.files h
images_keep s (change.UseFile name) old new suits can keeps stands known did h = over_same s (stepped s (change.UseFile name)) old new refl refl refl did.files h
images_keep s (change.AddFile row) old new suits can keeps stands known did h = add_file_images s row old new suits.suits stands did.files h
images_keep s (change.AddFormat row file backing) old new suits can keeps stands known did h =
    add_format_images s row file backing old new suits.suits stands known did.files h
images_keep s (change.AddFilter row node) old new suits can keeps stands known did h = add_filter_images s row node old new suits stands did.files h
images_keep s (change.PutFilter row node) old new suits can keeps stands known did h =
    images_still s (stepped s (change.PutFilter row node)) old new refl
    (record { kind = λ n. pushed_kind s.table.nodes row n (filter_other row.kind can.filter); file = keeps })
    (λ n name image is. did.files name (λ never. never)) h
images_keep s (change.RemoveNode node) old new suits can keeps stands known did h = remove_images s node old new suits stands did.files h
images_keep s (change.Unsettle id) old new suits can keeps stands known did h =
    images_still s (stepped s (change.Unsettle id)) old new refl
    (mapped_over_files s.table (changed s.table (change.Unsettle id)) (node_changed id unsettled) (same_unsettled id) refl (λ n. refl))
    (λ n name image is. did.files name (λ never. never)) h
images_keep s (change.MakeWritable id) old new suits can keeps stands known did h =
    images_still s (stepped s (change.MakeWritable id)) old new (named_images (filename_of s.table id) s)
    (mapped_over_files s.table (changed s.table (change.MakeWritable id)) (node_changed id writable) (same_writable id) refl
    (λ n. child_of-refreshed (kinds_of (with_writable id s.table.nodes)) (Node n) File s.table.edges))
    (λ n name image is. did.files name (λ never. never)) h
images_keep s (change.UseNode slot what node) old new suits can keeps stands known did h =
    over_rewired s (stepped s (change.UseNode slot what node)) old new (with_edge (job_edge slot what node) s.table.edges) refl refl
    (λ n. child_of-refreshed (kinds_of s.table.nodes) (Node n) File (with_edge (job_edge slot what node) s.table.edges))
    (λ n. child-kept (Node n) File (job_edge slot what node) s.table.edges (λ same. cc)) did.files h
images_keep s (change.StartJob row) old new suits can keeps stands known did h =
    over_same s (stepped s (change.StartJob row)) old new (named_images (overlay_file s.table row row.kind) s) refl refl did.files h
images_keep s (change.AskJob number asked) old new suits can keeps stands known did h = over_same s (stepped s (change.AskJob number asked)) old new refl refl refl did.files h
images_keep s (change.ReadyJob number) old new suits can keeps stands known did h = over_same s (stepped s (change.ReadyJob number)) old new refl refl refl did.files h
images_keep s (change.EndJob number slot drops) old new suits can keeps stands known did h =
    over_rewired s (stepped s (change.EndJob number slot drops)) old new (without_parent (Job slot) s.table.edges) refl refl
    (λ n. child_of-refreshed (kinds_of s.table.nodes) (Node n) File (without_parent (Job slot) s.table.edges))
    (λ n. child-without (Job slot) (Node n) File s.table.edges (λ same. cc)) did.files h
images_keep s (change.PullFilter filter) old new suits can keeps stands known did h = pull_images s filter old new keeps did.files h
images_keep s (change.Rebase node backing) old new suits can keeps stands known did h = rebase_images s node backing old new did h
images_keep s (change.Settle node disk) old new suits can keeps stands known did h =
    images_still s (stepped s (change.Settle node disk)) old new refl
    (mapped_over_files s.table (changed s.table (change.Settle node disk)) (node_changed node settled) (same_settled node) refl (λ n. refl))
    (λ n name image is. did.files name (λ never. never)) h
images_keep s (change.MakeReadOnly id) old new suits can keeps stands known did h =
    images_still s (stepped s (change.MakeReadOnly id)) old new refl
    (mapped_over_files s.table (changed s.table (change.MakeReadOnly id)) (node_changed id kept_from_writes) (same_read_only id) refl
    (λ n. child_of-refreshed (kinds_of (with_read_only id s.table.nodes)) (Node n) File s.table.edges))
    (λ n name image is. did.files name (λ never. never)) h
images_keep s (change.AddDevice device node) old new suits can keeps stands known did h =
    over_rewired s (stepped s (change.AddDevice device node)) old new (with_edge (device_edge device node) s.table.edges) refl refl
    (λ n. child_of-refreshed (kinds_of s.table.nodes) (Node n) File (with_edge (device_edge device node) s.table.edges))
    (λ n. child-kept (Node n) File (device_edge device node) s.table.edges (λ same. cc)) did.files h
images_keep s (change.RemoveDevice number) old new suits can keeps stands known did h =
    over_rewired s (stepped s (change.RemoveDevice number)) old new (without_parent (Guest number) s.table.edges) refl refl
    (λ n. child_of-refreshed (kinds_of s.table.nodes) (Node n) File (without_parent (Guest number) s.table.edges))
    (λ n. child-without (Guest number) (Node n) File s.table.edges (λ same. cc)) did.files h
images_keep s (change.Attach overlay node) old new suits can keeps stands known did h =
    over_rewired s (stepped s (change.Attach overlay node)) old new (with_edge (node_edge overlay Backing node) s.table.edges) refl refl
    (λ n. child_of-refreshed (kinds_of s.table.nodes) (Node n) File (with_edge (node_edge overlay Backing node) s.table.edges))
    (λ n. child-role (Node n) File (node_edge overlay Backing node) s.table.edges refl) did.files h
images_keep s (change.Move from to but) old new suits can keeps stands known did h =
    images_still s (stepped s (change.Move from to but)) old new refl (record { kind = λ n. refl; file = keeps })
    (λ n name image is. did.files name (λ never. never)) h
images_keep s (change.AddBitmap row) old new suits can keeps stands known did h = over_same s (stepped s (change.AddBitmap row)) old new refl refl refl did.files h
images_keep s (change.RemoveBitmap node name) old new suits can keeps stands known did h = over_same s (stepped s (change.RemoveBitmap node name)) old new refl refl refl did.files h
images_keep s (change.TurnBitmap node name on) old new suits can keeps stands known did h = over_same s (stepped s (change.TurnBitmap node name on)) old new refl refl refl did.files h
images_keep s (change.ClearBitmap node name) old new suits can keeps stands known did h = over_same s (stepped s (change.ClearBitmap node name)) old new refl refl refl did.files h
images_keep s (change.MergeBitmap node name source_node source) old new suits can keeps stands known did h =
    over_same s (stepped s (change.MergeBitmap node name source_node source)) old new refl refl refl did.files h

-- changes in turn
pub all_images_keep : (opening : List ℕ → Option (List ℕ)) (changes : List Change) (s : State) (old new : Contents) → AllSuit s changes → AllCan s changes
    → AllKeepImages s changes → Stands s → Agrees opening s old → AllPerformed s changes old new → ShowsImages s old
    → ShowsImages (all_stepped s changes) new
all_images_keep opening [] s old new suits can keeps stands agrees did h = over_same s s old new refl refl refl did.files h
all_images_keep opening (c ∷ changes) s old new suits can keeps stands agrees did h =
    all_images_keep opening changes (stepped s c) did.0 new suits.1 can.1 keeps.1 (stands_keep s c suits.0 stands)
    (change_keeps opening s c old did.0 can.0 did.1 agrees) did.2
    (images_keep s c old did.0 suits.0 can.0 keeps.0 stands.table agrees.known did.1 h)
