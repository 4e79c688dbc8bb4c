-- Each kind of change keeps what is said of images.
use Rattle.std.proofs.Common.{◌≡◌, ℕ, Bool, true, false, cond, List, [], ◌∷◌, ◌++◌, map, refl, sym, ap, subst, ◌∙◌, inl, inr, Option, Some, None, option_map}
use Rattle.std.specs.Prelude.{◌==◌, not, is_some, option_and_then, unwrap_or}
use Rattle.std.specs.List.{find, filter, Contains}
use Rattle.q2_format.specs.Sound.{IsSound}
use Rattle.blk_graph.specs.declared.edge.Edge.{Edge}
use Rattle.blk_graph.specs.declared.edge.Parent.TheVariants.{Node}
use Rattle.blk_graph.specs.declared.edge.Role.TheVariants.{File}
use Rattle.blk_graph.specs.declared.kind.Kind.{Kind}
use Rattle.blk_graph.specs.declared.kind.Kind.TheVariants.{Protocol, Raw, Qcow2, CopyOnRead, BeforeWrite, Mirror, Commit}
use Rattle.qmp_rules.specs.declared.rows.NodeRecord.{NodeRecord}
use Rattle.qmp_rules.specs.Table.{RunTable, node_by_id, child}
use Rattle.blk_history.specs.Fold.{With}
use Rattle.flat_machine.specs.State.{State, Image, Mapped, Unsure, filename_of}
use Rattle.flat_machine.specs.Changed.{own_filename}
use Rattle.flat_machine.specs.Sights.{AgreesWith, mapped_at}
use Rattle.flat_machine.specs.Agreement.{Contents}
use Rattle.flat_machine.specs.Writing.{written_file}
use Rattle.flat_machine.specs.Wiring.{HaveDistinctIds, AreFileNodes, TableStands}
use Rattle.flat_machine.specs.Standing.{IsOpenlyKnown}
use Rattle.flat_machine.specs.Imaging.{maps_some, image_at, is_qcow2, is_qcow2_at, ImagesAreSound, ShowsImage, ShowsImages, StayInFiles}
use Rattle.flat_machine.proofs.Finds.{find-map}
use Rattle.flat_machine.proofs.WritingKept.{role_edge, writes_file}

-- ---- entries by node

abbrev pub mapped_of : Option Image → Mapped
mapped_of None = Unsure
mapped_of (Some image) = image.mapped

pub mapped_at-found : (images : List Image) (node : ℕ) → mapped_at images node ≡ mapped_of (image_at images node)
mapped_at-found [] node = refl
mapped_at-found (image ∷ images) node = by_test (image.node == node) (mapped_at-found images node)
  where
    by_test : (b : Bool) → mapped_at images node ≡ mapped_of (image_at images node)
        → cond b image.mapped (mapped_at images node) ≡ mapped_of (cond b (Some image) (image_at images node))
    by_test true ih = refl
    by_test false ih = ih

-- where there is no entry, nothing is said
pub nothing_said : (images : List Image) (node : ℕ) (told : Bool) → is_some (image_at images node) ≡ false
    → AgreesWith (mapped_at images node) told
nothing_said images node told none =
    subst (λ m. AgreesWith m told) (sym (mapped_at-found images node)) (by_found (image_at images node) none)
  where
    by_found : (found : Option Image) → is_some found ≡ false → AgreesWith (mapped_of found) told
    by_found None e = tt
    by_found (Some image) e = absurd cc

-- ---- one image stays

pub record ImageStays (s now : State) (old new : Contents) (node : ℕ) : Type 0 where
  pub entry : image_at now.images node ≡ image_at s.images node
  pub kind : is_qcow2_at now.table node ≡ is_qcow2_at s.table node
  pub file : (name : List ℕ) → is_qcow2_at s.table node ≡ true → written_file now.table node ≡ Some name
      → written_file s.table node ≡ Some name
  pub held : is_qcow2_at s.table node ≡ true → (name : List ℕ) → written_file s.table node ≡ Some name
      → new.held name ≡ old.held name

pub image_still : (s now : State) (old new : Contents) (node : ℕ) → ImageStays s now old new node → ShowsImage s old node
    → ShowsImage now new node
image_still s now old new node stays h = record {
  noted = ap is_some stays.entry ∙ h.noted ∙ sym stays.kind;
  mapped = by_kind (is_qcow2_at s.table node) refl;
}
  where
    same : mapped_at now.images node ≡ mapped_at s.images node
    same = mapped_at-found now.images node ∙ ap mapped_of stays.entry ∙ sym (mapped_at-found s.images node)

    by_kind : (b : Bool) → is_qcow2_at s.table node ≡ b → (name file : List ℕ) → written_file now.table node ≡ Some name
        → new.held name ≡ Some file → AgreesWith (mapped_at now.images node) (maps_some file)
    by_kind false e name file is held =
        nothing_said now.images node (maps_some file) (ap is_some stays.entry ∙ h.noted ∙ e)
    by_kind true e name file is held =
        let was : written_file s.table node ≡ Some name = stays.file name e is in
        subst (λ m. AgreesWith m (maps_some file)) (sym same) (h.mapped name file was (sym (stays.held e name was) ∙ held))

-- ---- tables whose nodes stay over their files

pub record AreOverFiles (t now : RunTable) : Type 0 where
  pub kind : (node : ℕ) → is_qcow2_at now node ≡ is_qcow2_at t node
  pub file : StayInFiles t now

-- rows that were changed in other parts
pub record IsSameRow (f : NodeRecord → NodeRecord) (row : NodeRecord) : Type 0 where
  pub id : (f row).id ≡ row.id
  pub kind : (f row).kind ≡ row.kind
  pub filename : (f row).filename ≡ row.filename

module _ (t now : RunTable) (f : NodeRecord → NodeRecord) (same : (row : NodeRecord) → IsSameRow f row)
    (found : (node : ℕ) → node_by_id now node ≡ option_map f (node_by_id t node))
    (files : (node : ℕ) → child now node File ≡ child t node File) where
  filename_same : (node : ℕ) → filename_of now node ≡ filename_of t node
  filename_same node = ap (option_and_then (λ (r : NodeRecord). r.filename)) (found node) ∙ by_row (node_by_id t node)
    where
      by_row : (row : Option NodeRecord)
          → option_and_then (λ (r : NodeRecord). r.filename) (option_map f row) ≡ option_and_then (λ (r : NodeRecord). r.filename) row
      by_row None = refl
      by_row (Some row) = (same row).filename

  under_same : (node : ℕ) → option_and_then (filename_of now) (child now node File) ≡ option_and_then (filename_of t) (child t node File)
  under_same node = ap (option_and_then (filename_of now)) (files node) ∙ by_child (child t node File)
    where
      by_child : (below : Option ℕ) → option_and_then (filename_of now) below ≡ option_and_then (filename_of t) below
      by_child None = refl
      by_child (Some below) = filename_same below

  under_of : (row : NodeRecord) → option_and_then (filename_of now) (child now (f row).id File)
      ≡ option_and_then (filename_of t) (child t row.id File)
  under_of row = ap (λ (n : ℕ). option_and_then (filename_of now) (child now n File)) (same row).id ∙ under_same row.id

  file_of_kind : (row : NodeRecord) (kind : Kind) → own_filename now (f row) kind ≡ own_filename t row kind
  file_of_kind row Protocol = (same row).filename
  file_of_kind row Raw = under_of row
  file_of_kind row Qcow2 = under_of row
  file_of_kind row CopyOnRead = refl
  file_of_kind row BeforeWrite = refl
  file_of_kind row Mirror = refl
  file_of_kind row Commit = refl

  file_same_at : (node : ℕ) → written_file now node ≡ written_file t node
  file_same_at node = ap (option_and_then (λ (r : NodeRecord). own_filename now r r.kind)) (found node) ∙ by_row (node_by_id t node)
    where
      by_row : (row : Option NodeRecord) → option_and_then (λ (r : NodeRecord). own_filename now r r.kind) (option_map f row)
          ≡ option_and_then (λ (r : NodeRecord). own_filename t r r.kind) row
      by_row None = refl
      by_row (Some row) = ap (own_filename now (f row)) (same row).kind ∙ file_of_kind row row.kind

  kind_same_at : (node : ℕ) → is_qcow2_at now node ≡ is_qcow2_at t node
  kind_same_at node = ap (λ (o : Option NodeRecord). unwrap_or (option_map (λ (r : NodeRecord). is_qcow2 r.kind) o) false) (found node)
      ∙ by_row (node_by_id t node)
    where
      by_row : (row : Option NodeRecord) → unwrap_or (option_map (λ (r : NodeRecord). is_qcow2 r.kind) (option_map f row)) false
          ≡ unwrap_or (option_map (λ (r : NodeRecord). is_qcow2 r.kind) row) false
      by_row None = refl
      by_row (Some row) = ap is_qcow2 (same row).kind

  pub rows_over_files : AreOverFiles t now
  rows_over_files = record { kind = kind_same_at; file = λ node name image is. sym (file_same_at node) ∙ is }

itself : (row : NodeRecord) → IsSameRow (λ (r : NodeRecord). r) row
itself row = record { id = refl; kind = refl; filename = refl }

found_as_it_was : (t now : RunTable) → now.nodes ≡ t.nodes → (node : ℕ) → node_by_id now node ≡ option_map (λ (r : NodeRecord). r) (node_by_id t node)
found_as_it_was t now nodes node = ap (find (λ (r : NodeRecord). r.id == node)) nodes ∙ by_row (node_by_id t node)
  where
    by_row : (row : Option NodeRecord) → row ≡ option_map (λ (r : NodeRecord). r) row
    by_row None = refl
    by_row (Some row) = refl

-- the same nodes, over the same files
pub same_over_files : (t now : RunTable) → now.nodes ≡ t.nodes → ((node : ℕ) → child now node File ≡ child t node File) → AreOverFiles t now
same_over_files t now nodes files =
    rows_over_files t now (λ (r : NodeRecord). r) itself (found_as_it_was t now nodes) files

-- nodes of which rows were changed
pub mapped_over_files : (t now : RunTable) (f : NodeRecord → NodeRecord) → ((row : NodeRecord) → IsSameRow f row) → now.nodes ≡ map f t.nodes
    → ((node : ℕ) → child now node File ≡ child t node File) → AreOverFiles t now
mapped_over_files t now f same nodes files =
    rows_over_files t now f same
    (λ node. ap (find (λ (r : NodeRecord). r.id == node)) nodes
    ∙ find-map (λ (r : NodeRecord). r.id == node) f (λ row. ap (λ (k : ℕ). k == node) (same row).id) t.nodes)
    files

-- what is found in a longer list, where the test doesn't find what is new
pub find_before : {X : Type 0} (p : X → Bool) (xs : List X) (y : X) → p y ≡ false → find p (xs ++ y ∷ []) ≡ find p xs
find_before p [] y other = rw other refl
find_before p (x ∷ xs) y other = by_test (p x) (find_before p xs y other)
  where
    by_test : (b : Bool) → find p (xs ++ y ∷ []) ≡ find p xs → cond b (Some x) (find p (xs ++ y ∷ [])) ≡ cond b (Some x) (find p xs)
    by_test true ih = refl
    by_test false ih = ih

pub find_dropped : {X : Type 0} (p : X → Bool) (xs : List X) → find p (filter (λ x. not (p x)) xs) ≡ None
find_dropped p [] = refl
find_dropped p (x ∷ xs) = by_test (p x) refl (find_dropped p xs)
  where
    by_test : (b : Bool) → p x ≡ b → find p (filter (λ z. not (p z)) xs) ≡ None
        → find p (cond (not b) (x ∷ filter (λ z. not (p z)) xs) (filter (λ z. not (p z)) xs)) ≡ None
    by_test true e ih = ih
    by_test false e ih = rw e ih

-- one node more, of another kind
abbrev pub is_image_row : Option NodeRecord → Bool
is_image_row found = unwrap_or (option_map (λ row. is_qcow2 row.kind) found) false

pub pushed_kind : (rows : List NodeRecord) (row : NodeRecord) (node : ℕ) → is_qcow2 row.kind ≡ false
    → is_image_row (find (λ r. r.id == node) (rows ++ row ∷ [])) ≡ is_image_row (find (λ r. r.id == node) rows)
pushed_kind [] row node other = by_test (row.id == node)
  where
    by_test : (b : Bool) → is_image_row (cond b (Some row) None) ≡ false
    by_test true = other
    by_test false = refl
pushed_kind (first ∷ rows) row node other = by_test (first.id == node) (pushed_kind rows row node other)
  where
    by_test : (b : Bool)
        → is_image_row (find (λ r. r.id == node) (rows ++ row ∷ [])) ≡ is_image_row (find (λ r. r.id == node) rows)
        → is_image_row (cond b (Some first) (find (λ r. r.id == node) (rows ++ row ∷ [])))
        ≡ is_image_row (cond b (Some first) (find (λ r. r.id == node) rows))
    by_test true ih = refl
    by_test false ih = ih

-- ---- files in which no image is

-- the row of a qcow2 node
pub qcow2_row : (t : RunTable) (node : ℕ) → is_qcow2_at t node ≡ true → (row : NodeRecord) × (node_by_id t node ≡ Some row) × (row.kind ≡ Qcow2)
qcow2_row t node is = by_row (node_by_id t node) refl is
  where
    by_kind : (kind : Kind) → is_qcow2 kind ≡ true → kind ≡ Qcow2
    by_kind Protocol e = absurd cc
    by_kind Raw e = absurd cc
    by_kind Qcow2 e = refl
    by_kind CopyOnRead e = absurd cc
    by_kind BeforeWrite e = absurd cc
    by_kind Mirror e = absurd cc
    by_kind Commit e = absurd cc

    by_row : (found : Option NodeRecord) → node_by_id t node ≡ found → unwrap_or (option_map (λ (r : NodeRecord). is_qcow2 r.kind) found) false ≡ true
        → (row : NodeRecord) × (node_by_id t node ≡ Some row) × (row.kind ≡ Qcow2)
    by_row None e image = absurd cc
    by_row (Some row) e image = (row, e, by_kind row.kind image)

-- an image is over a `file` node, by an edge
pub record IsImageIn (t : RunTable) (node : ℕ) (name : List ℕ) : Type 0 where
  pub over : NodeRecord
  pub found : node_by_id t node ≡ Some over
  pub qcow2 : over.kind ≡ Qcow2
  pub under : NodeRecord
  pub there : Contains t.nodes under
  pub filename : under.filename ≡ Some name
  pub below : child t node File ≡ Some under.id
  pub edge : Edge
  pub edge_there : Contains t.edges edge
  pub parent : edge.parent ≡ Node node
  pub role : edge.role ≡ File
  pub to : edge.child ≡ under.id

pub image_in_file : (t : RunTable) → HaveDistinctIds t → AreFileNodes t → (node : ℕ) (name : List ℕ) → is_qcow2_at t node ≡ true → written_file t node ≡ Some name
    → IsImageIn t node name
image_in_file t apart drivers node name is file =
    let of = writes_file t node name file in
    let row = qcow2_row t node is in
    elim of.from [
      | inl own ↦
          let at_node : node_by_id t node ≡ Some of.row = subst (λ (n : ℕ). node_by_id t n ≡ Some of.row) own (apart of.row of.stands.there) in
          let same : row.0 ≡ of.row = (let found = row.1 in cc) in
          let driver : of.row.kind ≡ Protocol = drivers name of.row of.stands in
          let kinds : Qcow2 ≡ Protocol = sym row.2 ∙ ap (λ (r : NodeRecord). r.kind) same ∙ driver in
          absurd cc
      | inr below ↦
          let e = role_edge (Node node) File t.edges of.row.id below.0 in
          record {
            over = row.0;
            found = row.1;
            qcow2 = row.2;
            under = of.row;
            there = of.stands.there;
            filename = of.stands.filename;
            below = below.0;
            edge = e.edge;
            edge_there = e.there;
            parent = e.from;
            role = e.role_is;
            to = e.to;
          }
    ]

-- no image is in a file without a format node
pub no_image : (t : RunTable) → TableStands t → (name : List ℕ) → IsOpenlyKnown t name → (node : ℕ) → is_qcow2_at t node ≡ true
    → written_file t node ≡ Some name → ⊥
no_image t h name is_open node is file =
    let of = image_in_file t h.apart h.drivers node name is file in
    is_open of.under (record { there = of.there; filename = of.filename })
    (record { edge = of.edge; there = of.edge_there; over = of.role; child = of.to })

-- ---- all images stay

pub images_still : (s now : State) (old new : Contents) → now.images ≡ s.images → AreOverFiles s.table now.table
    → ((node : ℕ) (name : List ℕ) → is_qcow2_at s.table node ≡ true → written_file s.table node ≡ Some name → new.held name ≡ old.held name)
    → ShowsImages s old → ShowsImages now new
images_still s now old new images over held h node =
    image_still s now old new node
    (record {
      entry = ap (λ (is : List Image). image_at is node) images;
      kind = over.kind node;
      file = over.file node;
      held = λ image name is. held node name image is;
    })
    (h node)

-- ---- sound images

-- they are in files that hold the same
pub sound_same : (t now : RunTable) (old new : List ℕ → Option (List ℕ)) → now ≡ t → ((name : List ℕ) → new name ≡ old name)
    → ImagesAreSound t old → ImagesAreSound now new
sound_same t now old new table held sound =
    subst (λ (x : RunTable). ImagesAreSound x new) (sym table) (λ node image. by_name (written_file t node) (sound node image))
  where
    by_name : (found : Option (List ℕ)) → With found (λ name. With (old name) IsSound) → With found (λ name. With (new name) IsSound)
    by_name None never = never
    by_name (Some name) is = subst (λ (bytes : Option (List ℕ)). With bytes IsSound) (sym (held name)) is
