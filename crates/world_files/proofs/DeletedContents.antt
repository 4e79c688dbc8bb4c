-- What nodes read as and what files hold where a node has gone that no edge led to: its device is back in its file, and its
-- disk is left there.
use Rattle.std.proofs.Common.{◌≡◌, ◌≢◌, ℕ, ◌+◌, ◌≤◌, ◌==◌, Bool, true, false, cond, not, List, [], ◌∷◌, length, Option, Some, None, refl, sym, ◌∙◌, ap, subst, arith, inl, inr}
use Rattle.std.specs.Prelude.{IsSome, is_some, Contains, find, filter, option_map, option_and_then, unwrap_or, bytes_eq, slice_index}
use Rattle.std.proofs.lemmas.Bool.{eqb-true, eq-eqb, ne_eqb, cases_eq}
use Rattle.blk_base.specs.Files.{file_at, put_file}
use Rattle.blk_base.specs.Stored.{files_with_returned}
use Rattle.blk_base.specs.declared.file.File.{File as StoreFile}
use Rattle.blk_graph.proofs.Members.{Contains-here, Contains-there, Contains-filter, find-Some}
use Rattle.blk_graph.specs.Edits.{child_of}
use Rattle.blk_graph.specs.declared.edge.Edge.{Edge}
use Rattle.blk_graph.specs.declared.edge.Parent.TheVariants.{Node}
use Rattle.blk_graph.specs.declared.edge.Role.TheVariants.{File as FileRole, Backing}
use Rattle.blk_graph.specs.declared.kind.Kind.{Kind}
use Rattle.blk_graph.specs.declared.kind.Kind.TheVariants as kinds
use Rattle.blk_history.specs.Fold.{With}
use Rattle.q2_format.specs.Bytes.{place_bytes}
use Rattle.q2_format.specs.Contents.{file_disk, raw_disk, image_disk}
use Rattle.q2_format.proofs.ByPlace.{length-bytes_at, get_or-bytes_at, bytes_from_places}
use Rattle.qmp_rules.specs.Asks.{stands_for}
use Rattle.qmp_rules.specs.Changes.{without_record}
use Rattle.qmp_rules.specs.Table.{RunTable, node_by_id, child}
use Rattle.qmp_rules.specs.declared.rows.NodeRecord.{NodeRecord}
use Rattle.flat_machine.specs.Changed.{own_filename}
use Rattle.flat_machine.specs.Final.{IsDiskIn, read_as}
use Rattle.flat_machine.specs.Performing.{Removes}
use Rattle.flat_machine.specs.Wiring.{HaveDistinctIds, AreFileNodes, StandAlone}
use Rattle.flat_machine.specs.State.{State, filename_of}
use Rattle.flat_machine.proofs.Finds.{bytes_eq-same, same-bytes_eq, bytes_eq-other}
use Rattle.blk_nodes.specs.Contents.{told, disk_under, disk_of, disk_down, disk_by, bytes_by, bytes_of, file_node_disk, Unfolds}
use Rattle.blk_nodes.specs.Dropping.{nodes_without}
use Rattle.blk_nodes.specs.Joined.{IsJoined, IsPartOfFile, IsOverlay}
use Rattle.blk_nodes.specs.Nodes.{Nodes, DeviceSeen, AreTold, is_device_of, row_at, device_in, driver_kind, filter_kind, size_by, node_size, backing_of}
use Rattle.blk_nodes.specs.declared.row.Driver.{Driver}
use Rattle.blk_nodes.specs.declared.row.Driver.TheVariants.{File, Raw, Qcow2, CopyOnRead, Filter}
use Rattle.blk_nodes.specs.declared.row.FilterKind.{FilterKind}
use Rattle.blk_nodes.specs.declared.row.FilterKind.TheVariants.{BeforeWrite, Mirror, Commit}
use Rattle.blk_nodes.specs.declared.row.Row.{Row}
use Rattle.blk_nodes.proofs.Dropped.{other_device}
use Rattle.world_parts.specs.Coherent.{AreAlike, AreNodesOf, IsRowOf, AreOut, offset_by_driver}
use Rattle.world_parts.specs.Deleting.{name_under, with_back, ground_of}
use Rattle.world_files.specs.Deletions.{after_deletion}
use Rattle.world_parts.specs.Face.{WorldSeen, node_over, told_bytes, held_in_file, held, contents_of}
use Rattle.world_parts.proofs.DeletedLists.{find_none}
use Rattle.world_files.proofs.DeletedParts.{nodes_left}
use Rattle.world_parts.proofs.OverFiles.{over, over-row, over_by, stands-named}
use Rattle.world_parts.proofs.JobFilters.{no_file}

-- ---- lists

-- a filter that keeps what the test finds among the elements
find-kept : {X : Type 0} (p q : X → Bool) (xs : List X) → ((x : X) → Contains xs x → p x ≡ true → q x ≡ true) → find p (filter q xs) ≡ find p xs
find-kept p q [] keeps = refl
find-kept {X} p q (x ∷ xs) keeps =
    by_test (p x) (q x) refl refl (find-kept p q xs (λ y there. keeps y (Contains-there x xs y there)))
  where
    by_test : (b c : Bool) → p x ≡ b → q x ≡ c → find p (filter q xs) ≡ find p xs
        → find p (cond c (x ∷ filter q xs) (filter q xs)) ≡ cond b (Some x) (find p xs)
    by_test true true e f ih = rw e refl
    by_test false true e f ih = rw e ih
    by_test false false e f ih = ih
    by_test true false e f ih = let kept : q x ≡ true = keeps x (Contains-here x xs) e in absurd cc

-- ---- files of a store

pub file_at-put : (f : StoreFile) (files : List StoreFile) → file_at f.name (put_file f files) ≡ Some f
file_at-put f [] = rw (bytes_eq-same f.name) refl
file_at-put f (g ∷ files) = by_test (bytes_eq f.name g.name) refl (file_at-put f files)
  where
    by_test : (b : Bool) → bytes_eq f.name g.name ≡ b → file_at f.name (put_file f files) ≡ Some f
        → file_at f.name (cond b (f ∷ files) (g ∷ put_file f files)) ≡ Some f
    by_test true is rest = rw (bytes_eq-same f.name) refl
    by_test false is rest = rw is rest

pub file_at-put_other : (f : StoreFile) (name : List ℕ) (files : List StoreFile) → name ≢ f.name → file_at name (put_file f files) ≡ file_at name files
file_at-put_other f name [] apart = rw (bytes_eq-other name f.name apart) refl
file_at-put_other f name (g ∷ files) apart = by_test (bytes_eq f.name g.name) refl (file_at-put_other f name files apart)
  where
    by_test : (b : Bool) → bytes_eq f.name g.name ≡ b → file_at name (put_file f files) ≡ file_at name files
        → file_at name (cond b (f ∷ files) (g ∷ put_file f files)) ≡ cond (bytes_eq name g.name) (Some g) (file_at name files)
    by_test true is rest =
        let same : f.name ≡ g.name = same-bytes_eq f.name g.name is in
        rw (bytes_eq-other name f.name apart, bytes_eq-other name g.name (λ e. apart (e ∙ sym same))) refl
    by_test false is rest = ap (λ (found : Option StoreFile). cond (bytes_eq name g.name) (Some g) found) rest

-- a job's filter has no file of its own
no_own_file : (t : RunTable) (row : NodeRecord) (kind : FilterKind) → own_filename t row (filter_kind kind) ≡ None
no_own_file t row BeforeWrite = refl
no_own_file t row Mirror = refl
no_own_file t row Commit = refl

-- ---- the node that goes

module _ (w : WorldSeen) (node : ℕ) (joined : IsJoined w.nodes) (unfolds : Unfolds w.nodes) (alike : AreNodesOf w.table w.nodes) (apart : HaveDistinctIds w.table)
    (alone : StandAlone w.table) (drivers : AreFileNodes w.table) (all : AreTold w.nodes.devices)
    (out : AreOut w.table w.nodes w.opened) (files : List StoreFile) (told_files : w.files ≡ Some files) where
  abbrev t : RunTable
  t = w.table

  abbrev nodes : Nodes
  nodes = w.nodes

  -- a device that is held tells its bytes
  told_by : (n : ℕ) → IsSome (device_in nodes.devices n) → (d : DeviceSeen) × (device_in nodes.devices n ≡ Some d) × (d.content ≡ Some (bytes_of nodes n))
  told_by n some = by_device (device_in nodes.devices n) refl some
    where
      content_is : (content : Option (List ℕ)) → is_some content ≡ true → content ≡ Some (told content)
      content_is None bad = absurd (let e : ⊥ = cc bad in e)
      content_is (Some bytes) some = refl

      by_device : (found : Option DeviceSeen) → device_in nodes.devices n ≡ found → IsSome found
          → (d : DeviceSeen) × (device_in nodes.devices n ≡ Some d) × (d.content ≡ Some (bytes_by found))
      by_device None is bad = absurd (let e : ⊥ = cc bad in e)
      by_device (Some d) is here = (d, is, content_is d.content (all d (find-Some (is_device_of n) nodes.devices d is).0))

  -- what the file under a `file` node holds is what its device does
  held_under : (name : List ℕ) (n : ℕ) → filename_of t n ≡ Some name → IsSome (device_in nodes.devices n) → held w name ≡ Some (bytes_of nodes n)
  held_under name n is some =
      let d = told_by n some in
      ap (held_in_file w name) (over t alone name n is)
      ∙ ap (λ (found : Option DeviceSeen). option_and_then (λ (x : DeviceSeen). x.content) found) d.1 ∙ d.2

  -- the row of a node, and what the node is
  own_row : (n : ℕ) (row : NodeRecord) → node_by_id t n ≡ Some row → (own : Row) × (row_at nodes n ≡ Some own) × IsRowOf row own
  own_row n row is = by_rows (row_at nodes n) refl (subst (λ (found : Option NodeRecord). AreAlike found (row_at nodes n)) is (alike.rows n))
    where
      by_rows : (found : Option Row) → row_at nodes n ≡ found → AreAlike (Some row) found → (own : Row) × (row_at nodes n ≡ Some own) × IsRowOf row own
      by_rows None at bad = absurd bad
      by_rows (Some own) at same = (own, at, same)

  -- a node that stands for a file has a device
  file_kind : (driver : Driver) → driver_kind driver ≡ kinds.Protocol → driver ≡ File
  file_kind File is = refl
  file_kind (Raw part) is = absurd (let bad : ⊥ = cc is in bad)
  file_kind (Qcow2 image) is = absurd (let bad : ⊥ = cc is in bad)
  file_kind CopyOnRead is = absurd (let bad : ⊥ = cc is in bad)
  file_kind (Filter kind) is = absurd (no_file kind is)

  file_device : (name : List ℕ) (n : ℕ) → filename_of t n ≡ Some name → IsSome (device_in nodes.devices n)
  file_device name n is = by_row (node_by_id t n) refl is
    where
      by_row : (found : Option NodeRecord) → node_by_id t n ≡ found → option_and_then (λ (r : NodeRecord). r.filename) found ≡ Some name
          → IsSome (device_in nodes.devices n)
      by_row None at named = absurd (let bad : ⊥ = cc named in bad)
      by_row (Some row) at named =
          let found = find-Some (λ (r : NodeRecord). r.id == n) t.nodes row at in
          let kind = drivers name row (record { there = found.0; filename = named }) in
          let own = own_row n row at in
          let driver : own.0.driver ≡ File = file_kind own.0.driver (sym own.2.kind ∙ kind) in
          rw driver at (joined.below n own.0 own.1)

  -- ---- what the files hold

  abbrev v : WorldSeen
  v = after_deletion node w

  -- over which nodes stand
  over_left : (name : List ℕ) → (node_over t name ≡ Some node → ⊥) → node_over v.table name ≡ node_over t name
  over_left name other =
      ap (λ (rows : List NodeRecord). option_map (λ (r : NodeRecord). r.id) (find (stands_for name) rows)) (nodes_left t node)
      ∙ ap (option_map (λ (r : NodeRecord). r.id))
      (find-kept (stands_for name) (λ (r : NodeRecord). not (r.id == node)) t.nodes
      (λ row there stands. ap not (ne_eqb row.id node
      (λ same. other (over_by t alone name row there (stands-named name row stands) ∙ ap (λ (n : ℕ). Some n) same)))))

  none_left : (name : List ℕ) → filename_of t node ≡ Some name → node_over v.table name ≡ None
  none_left name is =
      ap (λ (rows : List NodeRecord). option_map (λ (r : NodeRecord). r.id) (find (stands_for name) rows)) (nodes_left t node)
      ∙ ap (option_map (λ (r : NodeRecord). r.id)) (find_none (stands_for name) (without_record node t.nodes) (λ row there. not_standing row there (stands_for name row) refl))
    where
      not_standing : (row : NodeRecord) → Contains (without_record node t.nodes) row → (b : Bool) → stands_for name row ≡ b → b ≡ false
      not_standing row there false stands = refl
      not_standing row there true stands =
          let old = Contains-filter (λ (r : NodeRecord). not (r.id == node)) t.nodes row there in
          let standing = over_by t alone name row old.0 (stands-named name row stands) in
          let same : row.id ≡ node = cc (sym standing ∙ over t alone name node is) in
          let bad : false ≡ true = ap not (sym (eq-eqb row.id node same)) ∙ old.1 in
          absurd (let e : ⊥ = cc bad in e)

  module _ (flushed : (d : DeviceSeen) → device_in nodes.devices node ≡ Some d → is_some d.is_flushed ≡ true) where
    -- the files once the device is back
    pub files_left : (d : DeviceSeen) → device_in nodes.devices node ≡ Some d → (f : StoreFile) × (f.name ≡ name_under t node)
        × (Some f.bytes ≡ d.content) × (v.files ≡ Some (put_file f files))
    files_left d is = by_flush d.is_flushed refl (flushed d is)
      where
        bytes : List ℕ
        bytes = bytes_of nodes node

        content : d.content ≡ Some bytes
        content = let e = told_by node (rw is refl) in let same : e.0 ≡ d = cc (sym e.1 ∙ is) in ap (λ (x : DeviceSeen). x.content) (sym same) ∙ e.2

        by_flush : (f : Option Bool) → d.is_flushed ≡ f → is_some f ≡ true → (f : StoreFile) × (f.name ≡ name_under t node)
            × (Some f.bytes ≡ d.content) × (v.files ≡ Some (put_file f files))
        by_flush None at bad = absurd (let e : ⊥ = cc bad in e)
        by_flush (Some flag) at some = (
          record { name = name_under t node; bytes = bytes; capacity = d.capacity; is_flushed = flag },
          refl,
          sym content,
          ap (λ (found : Option DeviceSeen). (with_back (name_under t node) found (ground_of w).store).files) is
              ∙ (ap (λ (c : Option (List ℕ)). files_with_returned (name_under t node) c d.capacity d.is_flushed w.files) content
              ∙ ap (λ (f : Option Bool). files_with_returned (name_under t node) (Some bytes) d.capacity f w.files) at
              ∙ ap (files_with_returned (name_under t node) (Some bytes) d.capacity (Some flag)) told_files),
        )

    -- each file holds what it did
    pub held_left : (name : List ℕ) → held v name ≡ held w name
    held_left name = by_over (node_over t name) refl
      where
        -- that of the node itself, in the store from now on
        own_file : node_over t name ≡ Some node → held v name ≡ held w name
        own_file over_it =
            let named : filename_of t node ≡ Some name = over-row t name node apart over_it in
            let d = told_by node (file_device name node named) in
            let left = files_left d.0 d.1 in
            let called : left.0.name ≡ name = left.1 ∙ ap (λ (found : Option (List ℕ)). unwrap_or found []) named in
            ap (held_in_file v name) (none_left name named)
            ∙ ap (λ (fs : Option (List StoreFile)). told_bytes fs name) left.3
            ∙ ap (λ (n : List ℕ). option_map (λ (f : StoreFile). f.bytes) (file_at n (put_file left.0 files))) (sym called)
            ∙ ap (option_map (λ (f : StoreFile). f.bytes)) (file_at-put left.0 files)
            ∙ left.2 ∙ d.2 ∙ sym (held_under name node named (file_device name node named))

        -- a file that the store has
        in_store : node_over t name ≡ None → told_bytes v.files name ≡ told_bytes w.files name
        in_store closed = by_device (device_in nodes.devices node) refl
          where
            by_device : (found : Option DeviceSeen) → device_in nodes.devices node ≡ found → told_bytes v.files name ≡ told_bytes w.files name
            by_device None is = ap (λ (found : Option DeviceSeen). told_bytes (with_back (name_under t node) found (ground_of w).store).files name) is
            by_device (Some d) is =
                let left = files_left d is in
                let found = find-Some (is_device_of node) nodes.devices d is in
                let o = out.each d found.0 in
                let named : filename_of t node ≡ Some o.opening.name = ap (filename_of t) (sym (eqb-true d.node node found.1)) ∙ o.named in
                let called : left.0.name ≡ o.opening.name = left.1 ∙ ap (λ (x : Option (List ℕ)). unwrap_or x []) named in
                let differs : name ≢ left.0.name = λ same.
                let bad : None ≡ Some node = sym closed ∙ ap (node_over t) (same ∙ called) ∙ over t alone o.opening.name node named in
                (let e : ⊥ = cc bad in e) in
                ap (λ (fs : Option (List StoreFile)). told_bytes fs name) left.3
                ∙ ap (option_map (λ (f : StoreFile). f.bytes)) (file_at-put_other left.0 name files differs)
                ∙ sym (ap (λ (fs : Option (List StoreFile)). told_bytes fs name) told_files)

        by_over : (found : Option ℕ) → node_over t name ≡ found → held v name ≡ held w name
        by_over None is =
            ap (held_in_file v name) (over_left name (λ bad. let e : ⊥ = cc (sym is ∙ bad) in e) ∙ is) ∙ in_store is ∙ sym (ap (held_in_file w name) is)
        by_over (Some n) is = elim (cases_eq n node) [
          | inl same ↦ own_file (is ∙ ap (λ (m : ℕ). Some m) same)
          | inr differ ↦
              ap (held_in_file v name)
              (over_left name (λ bad. let e : Some n ≡ Some node = sym is ∙ bad in differ (let same : n ≡ node = cc e in same)) ∙ is)
              ∙ ap (λ (found : Option DeviceSeen). option_and_then (λ (d : DeviceSeen). d.content) found) (other_device node n nodes.devices differ)
              ∙ sym (ap (held_in_file w name) is)
        ]

  -- ---- what is left of the disk

  -- a part of a file node is that part of its file
  part_of_file : (b : List ℕ) (offset size whole : ℕ) → offset + size ≤ whole → raw_disk offset size b ≡ raw_disk offset size (file_disk whole b)
  part_of_file b offset size whole within =
      let len = length-bytes_at b offset size in
      bytes_from_places (place_bytes b 0 whole) (place_bytes b offset size) offset
      (λ k below. get_or-bytes_at b offset size k (omega (arith, below, len)) ∙ ap (slice_index b) (let e : offset + k ≡ 0 + (offset + k) = omega arith in e)
      ∙ sym (get_or-bytes_at b 0 whole (offset + k) (omega (arith, below, len, within))))
      ∙ ap (place_bytes (place_bytes b 0 whole) offset) len

  abbrev disk : List ℕ
  disk = disk_of nodes node

  alone_by : (row : NodeRecord) (own : Row) (driver : Driver) → node_by_id t node ≡ Some row → row_at nodes node ≡ Some own → own.driver ≡ driver → IsRowOf row own
      → child t node Backing ≡ None → (name : List ℕ) → own_filename t row row.kind ≡ Some name
      → With (held w name) (IsDiskIn row.kind row.offset disk)
  alone_by row own File at there is same none name under =
      let kind : row.kind ≡ kinds.Protocol = same.kind ∙ ap driver_kind is in
      let named : filename_of t node ≡ Some name
      = ap (λ (r : Option NodeRecord). option_and_then (λ (x : NodeRecord). x.filename) r) at ∙ ap (own_filename t row) (sym kind) ∙ under in
      let b : List ℕ = bytes_of nodes node in
      let disk_is : disk ≡ file_disk own.size b
      = unfolds node own there ∙ ap (disk_by nodes (disk_of nodes) node) is ∙ ap (λ (n : ℕ). file_disk n b) (ap size_by there) in
      let len : length disk ≡ own.size = ap length disk_is ∙ length-bytes_at b 0 own.size in
      subst (λ (h : Option (List ℕ)). With h (IsDiskIn row.kind row.offset disk))
      (sym (held_under name node named (file_device name node named)))
      (record {
        reads = ap (λ (k : Kind). read_as k row.offset (length disk) b) kind ∙ ap (λ (n : ℕ). file_disk n b) len ∙ sym disk_is;
        sound = λ image. let bad : kinds.Protocol ≡ kinds.Qcow2 = sym kind ∙ image in absurd (let e : ⊥ = cc bad in e);
      })
  alone_by row own (Raw part) at there is same none name under =
      let kind : row.kind ≡ kinds.Raw = same.kind ∙ ap driver_kind is in
      let id : row.id ≡ node = eqb-true row.id node (find-Some (λ (r : NodeRecord). r.id == node) t.nodes row at).1 in
      let below : IsPartOfFile nodes node part.offset part.size = rw is at (joined.below node own there) in
      let edge : child t node FileRole ≡ Some below.file = ap (child_of (Node node) FileRole) (sym alike.edges) ∙ below.edge in
      let named : filename_of t below.file ≡ Some name
      = sym (ap (option_and_then (filename_of t)) (ap (λ (n : ℕ). child t n FileRole) id ∙ edge)) ∙ ap (own_filename t row) (sym kind) ∙ under in
      let b : List ℕ = bytes_of nodes below.file in
      let disk_is : disk ≡ raw_disk part.offset part.size (file_node_disk nodes below.file)
      = unfolds node own there ∙ ap (disk_by nodes (disk_of nodes) node) is
      ∙ ap (λ (f : Option ℕ). raw_disk part.offset part.size (disk_under (file_node_disk nodes) f)) below.edge in
      let len : length disk ≡ part.size = ap length disk_is ∙ length-bytes_at (file_node_disk nodes below.file) part.offset part.size in
      let from : row.offset ≡ part.offset = same.place ∙ ap offset_by_driver is in
      subst (λ (h : Option (List ℕ)). With h (IsDiskIn row.kind row.offset disk))
      (sym (held_under name below.file named (file_device name below.file named)))
      (record {
        reads = ap (λ (k : Kind). read_as k row.offset (length disk) b) kind ∙ ap (λ (n : ℕ). raw_disk n (length disk) b) from
            ∙ ap (λ (n : ℕ). raw_disk part.offset n b) len ∙ part_of_file b part.offset part.size (node_size nodes below.file) below.within ∙ sym disk_is;
        sound = λ image. let bad : kinds.Raw ≡ kinds.Qcow2 = sym kind ∙ image in absurd (let e : ⊥ = cc bad in e);
      })
  alone_by row own (Qcow2 image) at there is same none name under =
      let kind : row.kind ≡ kinds.Qcow2 = same.kind ∙ ap driver_kind is in
      let id : row.id ≡ node = eqb-true row.id node (find-Some (λ (r : NodeRecord). r.id == node) t.nodes row at).1 in
      let below : IsOverlay nodes node image = rw is at (joined.below node own there) in
      let edge : child t node FileRole ≡ Some below.file = ap (child_of (Node node) FileRole) (sym alike.edges) ∙ below.edge in
      let lone : backing_of nodes node ≡ None = ap (child_of (Node node) Backing) alike.edges ∙ none in
      let named : filename_of t below.file ≡ Some name
      = sym (ap (option_and_then (filename_of t)) (ap (λ (n : ℕ). child t n FileRole) id ∙ edge)) ∙ ap (own_filename t row) (sym kind) ∙ under in
      let b : List ℕ = bytes_of nodes below.file in
      let disk_is : disk ≡ image_disk b []
      = unfolds node own there ∙ ap (disk_by nodes (disk_of nodes) node) is
      ∙ ap (λ (f : Option ℕ). image_disk (disk_under (bytes_of nodes) f) (disk_under (disk_of nodes) (backing_of nodes node))) below.edge
      ∙ ap (λ (f : Option ℕ). image_disk b (disk_under (disk_of nodes) f)) lone in
      subst (λ (h : Option (List ℕ)). With h (IsDiskIn row.kind row.offset disk))
      (sym (held_under name below.file named (file_device name below.file named)))
      (record {
        reads = ap (λ (k : Kind). read_as k row.offset (length disk) b) kind ∙ sym disk_is;
        sound = λ image'. let d = told_by below.file (file_device name below.file named) in (below.known d.0 b d.1 d.2).sound;
      })
  alone_by row own CopyOnRead at there is same none name under =
      let kind : row.kind ≡ kinds.CopyOnRead = same.kind ∙ ap driver_kind is in
      let bad : None ≡ Some name = ap (own_filename t row) (sym kind) ∙ under in
      absurd (let e : ⊥ = cc bad in e)
  alone_by row own (Filter kind) at there is same none name under =
      let kind_is : row.kind ≡ filter_kind kind = same.kind ∙ ap driver_kind is in
      let bad : None ≡ Some name = sym (no_own_file t row kind) ∙ ap (own_filename t row) (sym kind_is) ∙ under in
      absurd (let e : ⊥ = cc bad in e)

  -- ---- the removal, as the flat machine makes it

  pub removes : (s : State) → s.table.nodes ≡ t.nodes → s.table.edges ≡ t.edges
      → (flushed : (d : DeviceSeen) → device_in nodes.devices node ≡ Some d → is_some d.is_flushed ≡ true)
      → ((other : ℕ) → other ≢ node → disk_of (nodes_without node nodes) other ≡ disk_of nodes other)
      → Removes s node (contents_of w) (contents_of v)
  removes s rows edges flushed disks = record {
    nodes = λ other apart. disks other apart;
    files = λ name but. held_left flushed name;
    alone = λ row at none name under.
        let here : node_by_id t node ≡ Some row = ap (find (λ (r : NodeRecord). r.id == node)) (sym rows) ∙ at in
        let own = own_row node row here in
        alone_by row own.0 own.0.driver here own.1 refl own.2 (ap (child_of (Node node) Backing) (sym edges) ∙ none) name
        (sym (file_same row row.kind) ∙ under);
  }
    where
      names_same : (n : ℕ) → filename_of s.table n ≡ filename_of t n
      names_same n = ap (λ (rs : List NodeRecord). option_and_then (λ (r : NodeRecord). r.filename) (find (λ (r : NodeRecord). r.id == n) rs)) rows

      under_same : (row : NodeRecord) → option_and_then (filename_of s.table) (child s.table row.id FileRole) ≡ option_and_then (filename_of t) (child t row.id FileRole)
      under_same row =
          ap (λ (es : List Edge). option_and_then (filename_of s.table) (child_of (Node row.id) FileRole es)) edges ∙ by_child (child t row.id FileRole)
        where
          by_child : (found : Option ℕ) → option_and_then (filename_of s.table) found ≡ option_and_then (filename_of t) found
          by_child None = refl
          by_child (Some n) = names_same n

      file_same : (row : NodeRecord) (kind : Kind) → own_filename s.table row kind ≡ own_filename t row kind
      file_same row kinds.Protocol = refl
      file_same row kinds.Raw = under_same row
      file_same row kinds.Qcow2 = under_same row
      file_same row kinds.CopyOnRead = refl
      file_same row kinds.BeforeWrite = refl
      file_same row kinds.Mirror = refl
      file_same row kinds.Commit = refl

-- what a node that isn't there reads as
pub no_disk : (nodes : Nodes) (node : ℕ) → row_at nodes node ≡ None → disk_of nodes node ≡ []
unfolding disk_of
no_disk nodes node none =
    ap (λ (found : Option Row). elim found as (λ _. List ℕ) [ None ↦ [] | Some row ↦ disk_by nodes (disk_down 63 nodes) node row.driver ]) none
