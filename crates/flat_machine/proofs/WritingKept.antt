-- What a guest's writing rests on stays where rows and edges stay, with new ones beside them.
use Rattle.std.proofs.Common.{◌≡◌, ◌≢◌, ◌⊎◌, ℕ, Bool, true, false, List, refl, sym, ap, subst, ◌∙◌, inl, inr, Option, Some, None, option_map}
use Rattle.std.specs.Prelude.{◌==◌, ◌||◌, not, All, IsSome, option_and_then}
use Rattle.std.specs.List.{find, Contains}
use Rattle.std.proofs.lemmas.Bool.{eqb-true}
use Rattle.blk_graph.specs.declared.edge.Edge.{Edge}
use Rattle.blk_graph.specs.declared.edge.Parent.{Parent}
use Rattle.blk_graph.specs.declared.edge.Parent.TheVariants.{Node, Guest}
use Rattle.blk_graph.specs.declared.edge.Role.{Role}
use Rattle.blk_graph.specs.declared.edge.Role.TheVariants.{Drive, File}
use Rattle.blk_graph.specs.declared.kind.Kind.{Kind}
use Rattle.blk_graph.specs.declared.kind.Kind.TheVariants.{Protocol, Raw, Qcow2, CopyOnRead, BeforeWrite, Mirror, Commit}
use Rattle.blk_graph.proofs.Members.{find-Some}
use Rattle.blk_graph.specs.Edges.{same_parent, same_role}
use Rattle.blk_graph.specs.Edits.{is_edge, child_of}
use Rattle.blk_graph.proofs.CycleLemmas.{and-left, and-right, same_parent-true}
use Rattle.blk_graph.proofs.RoleLemmas.{same_role-true}
use Rattle.qmp_rules.specs.declared.rows.NodeRecord.{NodeRecord}
use Rattle.qmp_rules.specs.declared.rows.DeviceRow.{DeviceRow}
use Rattle.qmp_rules.specs.declared.rows.FileState.TheVariants.{Used}
use Rattle.qmp_rules.specs.Table.{RunTable, node_by_id, child, device_by_number, file_state, has_name}
use Rattle.qmp_rules.specs.Chains.{filter_role, filtered, disk_node}
use Rattle.blk_history.specs.Fold.{With}
use Rattle.flat_machine.specs.State.{State, Unknown, Left, content_in, filename_of, drive_of}
use Rattle.flat_machine.specs.Changed.{own_filename}
use Rattle.flat_machine.specs.Writing.{IsGuestWritable, written_file}
use Rattle.flat_machine.specs.Wiring.{HaveDistinctIds, StandsFor, LeadsToFile, TableStands, writes_through}
use Rattle.flat_machine.specs.Standing.{HasBytes, IsUsedFile, IsUsedUp, MayGuestWrite, WritingStands}
use Rattle.flat_machine.proofs.Rows.{BothAt, disk_node-there, disk_reached}
use Rattle.flat_machine.proofs.Wired.{OldRow, Grows, was_file, stood_for, same_disk, disk_there, same_copies}

-- ---- nodes that guests reach

-- an edge by which a parent has its child
pub record RoleEdge (edges : List Edge) (parent : Parent) (role : Role) (child : ℕ) : Type 0 where
  pub edge : Edge
  pub there : Contains edges edge
  pub from : edge.parent ≡ parent
  pub role_is : edge.role ≡ role
  pub to : edge.child ≡ child

pub role_edge : (parent : Parent) (role : Role) (edges : List Edge) (child : ℕ) → child_of parent role edges ≡ Some child
    → RoleEdge edges parent role child
role_edge parent role edges child = by_found (find (is_edge parent role) edges) refl
  where
    by_found : (found : Option Edge) → find (is_edge parent role) edges ≡ found → option_map (λ e. e.child) found ≡ Some child
        → RoleEdge edges parent role child
    by_found None e is = absurd cc
    by_found (Some edge) e is =
        let found = find-Some (is_edge parent role) edges edge e in
        record {
          edge = edge;
          there = found.0;
          from = same_parent-true edge.parent parent (and-left (same_parent edge.parent parent) (same_role edge.role role) found.1);
          role_is = same_role-true edge.role role (and-right (same_parent edge.parent parent) (same_role edge.role role) found.1);
          to = cc;
        }

-- an edge of a guest or of a filter leads to the node
pub record IsEntered (t : RunTable) (node : ℕ) : Type 0 where
  pub edge : Edge
  pub there : Contains t.edges edge
  pub child : edge.child ≡ node
  pub from : (over : NodeRecord) → Contains t.nodes over → edge.parent ≡ Node over.id → IsSome (filter_role over.kind)

filtered-enters : (t : RunTable) → HaveDistinctIds t → (node below : ℕ) → filtered t node ≡ Some below → IsEntered t below
filtered-enters t apart node below = by_row (node_by_id t node) refl
  where
    by_row : (found : Option NodeRecord) → node_by_id t node ≡ found
        → option_and_then (child t node) (option_and_then (λ row. filter_role row.kind) found) ≡ Some below → IsEntered t below
    by_row None e is = absurd cc
    by_row (Some row) e is = by_role (filter_role row.kind) refl is
      where
        by_role : (role : Option Role) → filter_role row.kind ≡ role → option_and_then (child t node) role ≡ Some below → IsEntered t below
        by_role None f is = absurd cc
        by_role (Some role) f is =
            let to = role_edge (Node node) role t.edges below is in
            record {
              edge = to.edge;
              there = to.there;
              child = to.to;
              from = λ over there parent.
                  let id_is : over.id ≡ node = (let both = sym parent ∙ to.from in cc) in
                  let at_node : node_by_id t node ≡ Some over = subst (λ n. node_by_id t n ≡ Some over) id_is (apart over there) in
                  let same : over ≡ row = cc in
                  subst IsSome (sym (ap (λ r. filter_role r.kind) same ∙ f)) refl;
            }

-- so it is with the disk of a drive
pub drive-enters : (t : RunTable) (g drive : ℕ) → drive_of t g ≡ Some drive → IsEntered t drive
drive-enters t g drive is =
    let to = role_edge (Guest g) Drive t.edges drive is in
    record {
      edge = to.edge;
      there = to.there;
      child = to.to;
      from = λ over there parent. absurd (let both = sym parent ∙ to.from in cc);
    }

pub disk-enters : (t : RunTable) → HaveDistinctIds t → (drive : ℕ) → IsEntered t drive → IsEntered t (disk_node t drive)
disk-enters t apart drive here =
    disk_node-there t t (IsEntered t) (λ node h. refl) (λ node below h is. filtered-enters t apart node below is) drive here

-- ---- the file that a node writes

-- it is no filter
abbrev pub IsNoFilter : RunTable → ℕ → Type 0
IsNoFilter t node = (row : NodeRecord) → node_by_id t node ≡ Some row → filter_role row.kind ≡ None

-- the `file` node is the node, or under it where that is a format node
pub record WritesFileUnder (t : RunTable) (node : ℕ) (name : List ℕ) : Type 0 where
  pub row : NodeRecord
  pub stands : StandsFor t name row
  pub from : (row.id ≡ node) ⊎ ((child t node File ≡ Some row.id) × IsNoFilter t node)

pub writes_file : (t : RunTable) (node : ℕ) (name : List ℕ) → written_file t node ≡ Some name → WritesFileUnder t node name
writes_file t node name = by_row (node_by_id t node) refl
  where
    under : IsNoFilter t node → (found : Option ℕ) → child t node File ≡ found → option_and_then (filename_of t) found ≡ Some name
        → WritesFileUnder t node name
    under own None e is = absurd cc
    under own (Some file) e is = at_file (node_by_id t file) refl is
      where
        at_file : (row : Option NodeRecord) → node_by_id t file ≡ row → option_and_then (λ r. r.filename) row ≡ Some name → WritesFileUnder t node name
        at_file None f named = absurd cc
        at_file (Some row) f named =
            let here = find-Some (λ r. r.id == file) t.nodes row f in
            record {
              row = row;
              stands = record { there = here.0; filename = named };
              from = inr (e ∙ ap Some (sym (eqb-true row.id file here.1)), own);
            }

    no_filter : (row : NodeRecord) → node_by_id t node ≡ Some row → filter_role row.kind ≡ None → IsNoFilter t node
    no_filter row e own other f = let same : other ≡ row = cc in ap (λ r. filter_role r.kind) same ∙ own

    by_kind : (row : NodeRecord) → node_by_id t node ≡ Some row → (kind : Kind) → row.kind ≡ kind → own_filename t row kind ≡ Some name
        → WritesFileUnder t node name
    by_kind row e Protocol k is =
        let here = find-Some (λ r. r.id == node) t.nodes row e in
        record { row = row; stands = record { there = here.0; filename = is }; from = inl (eqb-true row.id node here.1) }
    by_kind row e Raw k is =
        let id_is = eqb-true row.id node (find-Some (λ r. r.id == node) t.nodes row e).1 in
        under (no_filter row e (ap filter_role k)) (child t node File) refl (subst (λ n. option_and_then (filename_of t) (child t n File) ≡ Some name) id_is is)
    by_kind row e Qcow2 k is =
        let id_is = eqb-true row.id node (find-Some (λ r. r.id == node) t.nodes row e).1 in
        under (no_filter row e (ap filter_role k)) (child t node File) refl (subst (λ n. option_and_then (filename_of t) (child t n File) ≡ Some name) id_is is)
    by_kind row e CopyOnRead k is = absurd cc
    by_kind row e BeforeWrite k is = absurd cc
    by_kind row e Mirror k is = absurd cc
    by_kind row e Commit k is = absurd cc

    by_row : (found : Option NodeRecord) → node_by_id t node ≡ found → option_and_then (λ row. own_filename t row row.kind) found ≡ Some name
        → WritesFileUnder t node name
    by_row None e is = absurd cc
    by_row (Some row) e is = by_kind row e row.kind refl is

module _ (s now : State) (P : ℕ → Type 0) (IsNewRow : NodeRecord → Type 0) (IsNewEdge : Edge → Type 0)
    (g : Grows s.table now.table P IsNewRow IsNewEdge) where
  -- ---- a node that may be written

  pub file_same : (node : ℕ) → P node → written_file now.table node ≡ written_file s.table node
  file_same node here =
      let both = g.stays node here in
      ap (option_and_then (λ row. own_filename now.table row row.kind)) both.found_later
      ∙ of_rows both both.row.kind refl
      ∙ sym (ap (option_and_then (λ row. own_filename s.table row row.kind)) both.found)
    where
      names_same : (found : Option ℕ) → child s.table node File ≡ found
          → option_and_then (filename_of now.table) found ≡ option_and_then (filename_of s.table) found
      names_same None e = refl
      names_same (Some file) e =
          let under = g.stays file (g.goes node file File here e) in
          rw (under.found_later, under.found) under.like.filename

      under_same : option_and_then (filename_of now.table) (child now.table node File)
          ≡ option_and_then (filename_of s.table) (child s.table node File)
      under_same = ap (option_and_then (filename_of now.table)) (g.children node File here) ∙ names_same (child s.table node File) refl

      of_kind : (row later : NodeRecord) → row.id ≡ node → later.id ≡ node → later.filename ≡ row.filename → (kind : Kind)
          → own_filename now.table later kind ≡ own_filename s.table row kind
      of_kind row later is is_later same Protocol = same
      of_kind row later is is_later same Raw = rw (is, is_later) under_same
      of_kind row later is is_later same Qcow2 = rw (is, is_later) under_same
      of_kind row later is is_later same CopyOnRead = refl
      of_kind row later is is_later same BeforeWrite = refl
      of_kind row later is is_later same Mirror = refl
      of_kind row later is is_later same Commit = refl

      of_rows : (both : BothAt s.table now.table node) (kind : Kind) → both.row.kind ≡ kind
          → own_filename now.table both.later both.later.kind ≡ own_filename s.table both.row both.row.kind
      of_rows both kind is =
          let id_is = eqb-true both.row.id node (find-Some (λ r. r.id == node) s.table.nodes both.row both.found).1 in
          ap (own_filename now.table both.later) both.like.kind
          ∙ of_kind both.row both.later id_is (both.like.id ∙ id_is) both.like.filename both.row.kind

  -- what is done to the file that it writes
  pub record LeavesFile (node : ℕ) : Type 0 where
    pub bytes : HasBytes s node → HasBytes now node
    pub known : (name : List ℕ) → WritesFileUnder s.table node name → content_in s.files name ≡ Some Unknown → content_in now.files name ≡ Some Unknown
    pub left : (name : List ℕ) → WritesFileUnder s.table node name → All (λ l. l.file ≢ name) s.left → All (λ l. l.file ≢ name) now.left
    pub named : (name : List ℕ) → has_name name s.named ≡ true → has_name name now.named ≡ true

  pub still_writable : (node : ℕ) → P node → LeavesFile node → IsGuestWritable s node → IsGuestWritable now node
  still_writable node here leaves can = record {
    disk = leaves.bytes can.disk;
    under = λ file later is found disk.
        let was : child s.table node File ≡ Some file = sym (g.children node File here) ∙ is in
        let both = g.stays file (g.goes node file File here was) in
        let found_later = both.found_later in
        let same : later ≡ both.later = cc in
        can.under file both.row was both.found (record {
          settled = both.like.settled (ap (λ r. r.is_settled) (sym same) ∙ disk.settled);
          own = sym (ap filter_role both.like.kind) ∙ ap (λ r. filter_role r.kind) (sym same) ∙ disk.own;
        });
    known = λ name is. leaves.known name (of_file name is) (can.known name (sym (file_same node here) ∙ is));
    left = λ name is. leaves.left name (of_file name is) (can.left name (sym (file_same node here) ∙ is));
    named = λ name is. leaves.named name (can.named name (sym (file_same node here) ∙ is));
  }
    where
      of_file : (name : List ℕ) → written_file now.table node ≡ Some name → WritesFileUnder s.table node name
      of_file name is = writes_file s.table node name (sym (file_same node here) ∙ is)

  pub may_still : (device : DeviceRow) (drive : ℕ) → P drive → LeavesFile (disk_node s.table drive) → MayGuestWrite s device drive
      → MayGuestWrite now device drive
  may_still device drive here leaves may writes =
      let disk = same_disk s.table now.table P IsNewRow IsNewEdge g drive here in
      let copies = same_copies s.table now.table P IsNewRow IsNewEdge g drive here in
      let did : writes_through s.table device.read_only drive ≡ true = ap (λ b. not device.read_only || b) (sym copies) ∙ writes in
      subst (IsGuestWritable now) (sym disk)
      (still_writable (disk_node s.table drive) (disk_there s.table now.table P IsNewRow IsNewEdge g drive here) leaves (may did))

  -- ---- all of it

  pub record KeepsWritable : Type 0 where
    -- what was named stays named, and what is new is
    pub names : (name : List ℕ) → has_name name s.named ≡ true → has_name name now.named ≡ true
    pub names_new : (name : List ℕ) (row : NodeRecord) → IsNewRow row → row.filename ≡ Some name → row.read_only ≡ false
        → has_name name now.named ≡ true
    -- of files under format nodes nothing is known
    pub known : (name : List ℕ) (over under : NodeRecord) → LeadsToFile s.table over under → under.filename ≡ Some name
        → content_in s.files name ≡ Some Unknown → content_in now.files name ≡ Some Unknown
    pub known_new : (name : List ℕ) (over under : NodeRecord) (f : LeadsToFile now.table over under) → IsNewEdge f.edge
        → under.filename ≡ Some name → content_in now.files name ≡ Some Unknown
    -- nodes keep their bytes, and new ones have them
    pub bytes : (node : ℕ) → P node → HasBytes s node → HasBytes now node
    pub bytes_new : (row : NodeRecord) → IsNewRow row → filter_role row.kind ≡ None → HasBytes now row.id
    -- disks that were left are still left in files that were used
    pub left : All (IsUsedUp now) now.left
    -- of the file that a guest may write nothing is known, and no disk is left in it
    pub written : (node : ℕ) (name : List ℕ) → P node → IsEntered s.table node → WritesFileUnder s.table node name
        → content_in s.files name ≡ Some Unknown → content_in now.files name ≡ Some Unknown
    pub used : (node : ℕ) (name : List ℕ) → P node → IsEntered s.table node → WritesFileUnder s.table node name
        → file_state s.table name ≡ Some Used → file_state now.table name ≡ Some Used
    -- a new `copy-on-read` reads as no `file` node
    pub copies_new : (row disk : NodeRecord) → IsNewRow row → filter_role row.kind ≡ Some File
        → node_by_id now.table (disk_node now.table row.id) ≡ Some disk → disk.filename ≡ None
    pub emptied : (node : ℕ) (name : List ℕ) → P node → IsEntered s.table node → WritesFileUnder s.table node name
        → All (λ l. l.file ≢ name) s.left → All (λ l. l.file ≢ name) now.left
    -- a device was there, with its drive, or it may write as it does
    pub devices : (number : ℕ) (device : DeviceRow) → device_by_number now.table number ≡ Some device
        → ((device_by_number s.table number ≡ Some device) × (drive_of now.table number ≡ drive_of s.table number))
        ⊎ With (drive_of now.table number) (MayGuestWrite now device)
    pub drives : (number drive : ℕ) → drive_of s.table number ≡ Some drive → P drive

  drive_still : KeepsWritable → HaveDistinctIds s.table → (device : DeviceRow) (number : ℕ) (found : Option ℕ) → drive_of s.table number ≡ found
      → With found (MayGuestWrite s device) → With found (MayGuestWrite now device)
  drive_still keeps apart device number None is may = may
  drive_still keeps apart device number (Some drive) is may =
      let here = keeps.drives number drive is in
      let disk = disk_node s.table drive in
      let there = disk_there s.table now.table P IsNewRow IsNewEdge g drive here in
      let entered = disk-enters s.table apart drive (drive-enters s.table number drive is) in
      may_still device drive here
      (record {
        bytes = keeps.bytes disk there;
        known = λ name file. keeps.written disk name there entered file;
        left = λ name file. keeps.emptied disk name there entered file;
        named = keeps.names;
      })
      may

  -- the file that a `copy-on-read` reads stays used
  copied_still : KeepsWritable → TableStands s.table → WritingStands s → (name : List ℕ) (row disk : NodeRecord) → OldRow s.table P row
      → filter_role row.kind ≡ Some File → node_by_id now.table (disk_node now.table row.id) ≡ Some disk → disk.filename ≡ Some name
      → IsUsedFile now name
  copied_still keeps t h name row disk old filter at named =
      let used = h.copied name old.row both.row old.there filter_was (subst (λ n. node_by_id s.table n ≡ Some both.row) (ap (disk_node s.table) old.like.id) both.found)
      stands.filename in
      record {
        state = keeps.used (disk_node s.table row.id) name there entered writes used.state;
        content = keeps.written (disk_node s.table row.id) name there entered writes used.content;
      }
    where
      here : P row.id
      here = subst P (sym old.like.id) old.kept

      there : P (disk_node s.table row.id)
      there = disk_there s.table now.table P IsNewRow IsNewEdge g row.id here

      both : BothAt s.table now.table (disk_node s.table row.id)
      both = g.stays (disk_node s.table row.id) there

      filter_was : filter_role old.row.kind ≡ Some File
      filter_was = sym (ap filter_role old.like.kind) ∙ filter

      found : Contains s.table.nodes both.row × (both.row.id ≡ disk_node s.table row.id)
      found =
          let f = find-Some (λ r. r.id == disk_node s.table row.id) s.table.nodes both.row both.found in
          (f.0, eqb-true both.row.id (disk_node s.table row.id) f.1)

      stands : StandsFor s.table name both.row
      stands =
          let same_disk_now = same_disk s.table now.table P IsNewRow IsNewEdge g row.id here in
          let at_later : node_by_id now.table (disk_node s.table row.id) ≡ Some disk =
          subst (λ n. node_by_id now.table n ≡ Some disk) same_disk_now at in
          let found_later = both.found_later in
          let same : both.later ≡ disk = cc in
          record { there = found.0; filename = sym both.like.filename ∙ ap (λ r. r.filename) same ∙ named }

      writes : WritesFileUnder s.table (disk_node s.table row.id) name
      writes = record { row = both.row; stands = stands; from = inl found.1 }

      entered : IsEntered s.table (disk_node s.table row.id)
      entered = elim (disk_reached s.table (IsEntered s.table) (λ n below is. filtered-enters s.table t.apart n below is) row.id) [
        | inr reached ↦ reached
        | inl own ↦
            let at_old = t.apart old.row old.there in
            let at_both : node_by_id s.table old.row.id ≡ Some both.row =
            subst (λ n. node_by_id s.table n ≡ Some both.row) (own ∙ old.like.id) both.found in
            let same : old.row ≡ both.row = cc in
            let none : filter_role old.row.kind ≡ None = ap (λ r. filter_role r.kind) same ∙ ap filter_role (t.drivers name both.row stands) in
            absurd cc
      ]

  pub grown_writing : KeepsWritable → TableStands s.table → WritingStands s → WritingStands now
  grown_writing keeps t h = record {
    named = λ name row over writes. elim (g.rows row over.there) [
      | inl old ↦
          keeps.names name (h.named name old.row (stood_for s.table now.table P IsNewRow IsNewEdge g name row old over)
          (sym old.like.read_only ∙ writes))
      | inr is_new ↦ keeps.names_new name row is_new over.filename writes
    ];
    unknown = λ name over under f is. elim (g.edges f.edge f.there) [
      | inl old ↦
          let w = was_file s.table now.table P IsNewRow IsNewEdge g over under f old in
          let name_is = sym w.under_row.like.filename ∙ is in
          keeps.known name w.over_row.row w.under_row.row w.file name_is (h.unknown name w.over_row.row w.under_row.row w.file name_is)
      | inr is_new ↦ keeps.known_new name over under f is_new is
    ];
    copied = λ name row disk there filter at named. elim (g.rows row there) [
      | inl old ↦ copied_still keeps t h name row disk old filter at named
      | inr is_new ↦ let none = keeps.copies_new row disk is_new filter at in absurd cc
    ];
    disks = λ row there own. elim (g.rows row there) [
      | inl old ↦ subst (HasBytes now) (sym old.like.id)
          (keeps.bytes old.row.id old.kept (h.disks old.row old.there (sym (ap filter_role old.like.kind) ∙ own)))
      | inr is_new ↦ keeps.bytes_new row is_new own
    ];
    left = keeps.left;
    writers = λ number device found. elim (keeps.devices number device found) [
      | inl was ↦
          subst (λ drive. With drive (MayGuestWrite now device)) (sym was.1)
          (drive_still keeps t.apart device number (drive_of s.table number) refl (h.writers number device was.0))
      | inr may ↦ may
    ];
  }

  -- ---- a disk that was left

  -- it still is, where its file is still used, and no node is put over that
  pub left_still : (l : Left) → file_state now.table l.file ≡ Some Used
      → ((row : NodeRecord) → IsNewRow row → row.filename ≡ Some l.file → ⊥)
      → ((e : Edge) (row : NodeRecord) → IsNewEdge e → e.role ≡ File → e.child ≡ row.id → StandsFor now.table l.file row → ⊥)
      → IsUsedUp s l → IsUsedUp now l
  left_still l used no_row no_edge h = record {
    used = used;
    gone = λ row over. elim (g.rows row over.there) [
      | inl old ↦ by_disk row old row.is_settled refl
          (h.gone old.row (stood_for s.table now.table P IsNewRow IsNewEdge g l.file row old over))
      | inr is_new ↦ absurd (no_row row is_new over.filename)
    ];
    is_open = λ row over under. elim (g.edges under.edge under.there) [
      | inr is_new ↦ no_edge under.edge row is_new under.over under.child over
      | inl old ↦ elim (g.rows row over.there) [
        | inl was ↦
            h.is_open was.row (stood_for s.table now.table P IsNewRow IsNewEdge g l.file row was over)
            (record { edge = old.edge; there = old.there; over = old.same.role ∙ under.over; child = old.same.child ∙ under.child ∙ was.like.id })
        | inr is_new ↦ no_row row is_new over.filename
      ]
    ];
  }
    where
      by_disk : (row : NodeRecord) (old : OldRow s.table P row) (b : Bool) → row.is_settled ≡ b → old.row.is_settled ≡ false
          → b ≡ false
      by_disk row old false e gone = refl
      by_disk row old true e gone = let had = old.like.settled e in absurd cc
