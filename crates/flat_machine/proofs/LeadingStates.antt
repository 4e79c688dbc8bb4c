-- What holds of states stays where edges are sent to other nodes, and nodes get other backing nodes.
use Rattle.std.proofs.Common.{◌≡◌, ◌≢◌, ◌⊎◌, ℕ, true, List, refl, sym, ap, subst, ◌∙◌, inl, inr, Option, Some, None, option_map}
use Rattle.std.specs.Prelude.{◌==◌, ◌||◌, not, All, slice_index_or, IsSome, option_and_then}
use Rattle.std.specs.List.{find, Contains}
use Rattle.std.proofs.lemmas.Bool.{eqb-true}
use Rattle.blk_graph.specs.declared.edge.Edge.{Edge}
use Rattle.blk_graph.specs.declared.edge.Parent.{Parent}
use Rattle.blk_graph.specs.declared.edge.Parent.TheVariants.{Node, Guest}
use Rattle.blk_graph.specs.declared.edge.Role.{Role}
use Rattle.blk_graph.specs.declared.edge.Role.TheVariants.{Drive, File}
use Rattle.blk_graph.specs.declared.kind.Kind.{Kind}
use Rattle.blk_graph.specs.declared.kind.Kind.TheVariants.{Protocol, Raw, Qcow2, CopyOnRead, BeforeWrite, Mirror, Commit}
use Rattle.blk_graph.specs.Permissions.{has_role}
use Rattle.blk_graph.proofs.Members.{find-Some}
use Rattle.qmp_rules.specs.declared.rows.NodeRecord.{NodeRecord}
use Rattle.qmp_rules.specs.declared.rows.DeviceRow.{DeviceRow}
use Rattle.qmp_rules.specs.declared.rows.FileState.{FileState}
use Rattle.qmp_rules.specs.declared.rows.FileState.TheVariants.{Made, Formatted, Used}
use Rattle.qmp_rules.specs.Table.{RunTable, node_by_id, child, file_state}
use Rattle.qmp_rules.specs.Chains.{filter_role, disk_node}
use Rattle.blk_history.specs.Fold.{With}
use Rattle.flat_machine.specs.State.{State, Content, Disk, Left, content_in, filename_of, drive_of}
use Rattle.flat_machine.specs.Changed.{own_filename}
use Rattle.flat_machine.specs.Machine.{copies_through}
use Rattle.flat_machine.specs.Writing.{IsGuestWritable, written_file}
use Rattle.flat_machine.specs.Wiring.{IsDiskOf, IsUnder, LeadsToFile, StandsFor, TableStands, writes_through}
use Rattle.flat_machine.specs.Standing.{CopiedAreUsed, HasBytes, IsLostBy, IsOfState, IsOpenlyKnown, IsUsedFile, IsUsedUp, MayGuestWrite, Stands}
use Rattle.flat_machine.proofs.CopiedFiles.{copied_used, file_parent}
use Rattle.flat_machine.proofs.WritingKept.{role_edge}
use Rattle.flat_machine.proofs.Wired.{at_with}
use Rattle.flat_machine.proofs.Leading.{Leads, row_there, stays_put, stood}

-- a node that is no filter
abbrev pub IsOwn : RunTable → ℕ → Type 0
IsOwn t n = (row : NodeRecord) → node_by_id t n ≡ Some row → filter_role row.kind ≡ None

-- a file that was used, with no disk left in it
abbrev pub IsFreed : State → List ℕ → Type 0
IsFreed s name = IsUsedFile s name × All (λ (l : Left). l.file ≢ name) s.left

-- an edge to a file leads where it led, or to a node that stands for such a one
abbrev pub SendsFile : State → (Parent → ℕ → ℕ) → Edge → Type 0
SendsFile s lead e =
    (lead e.parent e.child ≡ e.child)
    ⊎ ((under : NodeRecord) → Contains s.table.nodes under → under.id ≡ lead e.parent e.child → (name : List ℕ) → under.filename ≡ Some name → IsFreed s name)

module _ (s : State) (es : List Edge) (lead : Parent → ℕ → ℕ) (l : Leads s.table es lead) (disks : List Disk)
    (more : (n : ℕ) → HasBytes s n → IsSome (find (λ d. d.node == n) disks)) where
  abbrev pub led_state : State
  led_state = record s { table = record s.table { edges = es }; disks = disks }

  -- the drive of a guest: where it leads reads as before, or as a node that may be written
  pub record DriveStays (g drive : ℕ) : Type 0 where
    pub copies : copies_through led_state.table (lead (Guest g) drive) ≡ copies_through s.table drive
    pub disk : (disk_node led_state.table (lead (Guest g) drive) ≡ disk_node s.table drive)
        ⊎ (IsGuestWritable s (disk_node led_state.table (lead (Guest g) drive)) × IsOwn s.table (disk_node led_state.table (lead (Guest g) drive)))

  module _ (table : TableStands led_state.table) (files : (e : Edge) → Contains s.table.edges e → e.role ≡ File → SendsFile s lead e)
      (copied : CopiedAreUsed led_state) (drives : (g drive : ℕ) → drive_of s.table g ≡ Some drive → DriveStays g drive) (h : Stands s) where
    -- ---- files

    -- a `file` node stays under a node, or its file was used
    still_under : (name : List ℕ) (row : NodeRecord) → StandsFor s.table name row → IsUnder s.table.edges row.id
        → IsUnder es row.id ⊎ (file_state s.table name ≡ Some Used)
    still_under name row of under = by_role above.0 above.1 (filter_role above.0.kind) refl
      where
        above : (x : NodeRecord) × LeadsToFile s.table x row
        above = file_parent s.table h.table under.edge under.there under.over row of.there under.child

        by_role : (x : NodeRecord) → LeadsToFile s.table x row → (role : Option Role) → filter_role x.kind ≡ role
            → IsUnder es row.id ⊎ (file_state s.table name ≡ Some Used)
        by_role x f (Some role) is = inr (copied_used s h x row f (subst IsSome (sym is) refl) name of.filename).state
        by_role x f None is =
            let kept = l.keeps f.edge f.there f.role in
            let same = stays_put s.table es lead l h.table x f.edge f.over_there f.there f.parent f.role is in
            inl (record { edge = kept.edge; there = kept.there; over = kept.role ∙ f.role; child = kept.child ∙ same ∙ f.child })

    -- what is under a node was, or no disk is left in its file
    under_before : (name : List ℕ) (row : NodeRecord) → StandsFor s.table name row → IsUnder es row.id
        → IsUnder s.table.edges row.id ⊎ All (λ (x : Left). x.file ≢ name) s.left
    under_before name row of under = elim (l.old under.edge under.there) [
      | inr new ↦ absurd (let bad = sym new.role ∙ under.over in cc)
      | inl o ↦ elim (files o.edge o.there (o.role ∙ under.over)) [
        | inl same ↦ inl (record { edge = o.edge; there = o.there; over = o.role ∙ under.over; child = sym same ∙ sym o.child ∙ under.child })
        | inr freed ↦ inr (freed row of.there (sym under.child ∙ o.child) name of.filename).1
      ]
    ]

    lost_still : (name : List ℕ) (row : NodeRecord) → StandsFor s.table name row → IsLostBy s.table name row → IsLostBy led_state.table name row
    lost_still name row of (inl used) = inl used
    lost_still name row of (inr (inl formatted)) = inr (inl formatted)
    lost_still name row of (inr (inr under)) = elim (still_under name row of under) [
      | inl kept ↦ inr (inr kept)
      | inr used ↦ inl used
    ]

    open_before : (name : List ℕ) → (file_state s.table name ≡ Some Used → ⊥) → IsOpenlyKnown led_state.table name → IsOpenlyKnown s.table name
    open_before name unused is_open row of under = elim (still_under name row of under) [
      | inl kept ↦ is_open row (record { there = of.there; filename = of.filename }) kept
      | inr used ↦ unused used
    ]

    of_state : (name : List ℕ) (content : Content) (state : Option FileState) → file_state s.table name ≡ state → content_in s.files name ≡ Some content
        → IsOpenlyKnown led_state.table name → IsOfState (file_state s.table name) content
    of_state name content None e is closed = h.states name content is (open_before name (λ used. cc) closed)
    of_state name content (Some Made) e is closed = h.states name content is (open_before name (λ used. cc) closed)
    of_state name content (Some Formatted) e is closed = h.states name content is (open_before name (λ used. cc) closed)
    of_state name content (Some Used) e is closed = subst (λ state. IsOfState state content) (sym e) tt

    used_still : (x : Left) → IsUsedUp s x → ((name : List ℕ) → All (λ (y : Left). y.file ≢ name) s.left → x.file ≢ name) → IsUsedUp led_state x
    used_still x used apart = record {
      used = used.used;
      gone = λ row of. used.gone row (stood s.table es lead l h.table x.file row of);
      is_open = λ row of under.
          let was = stood s.table es lead l h.table x.file row of in
          elim (under_before x.file row was under) [
            | inl before ↦ used.is_open row was before
            | inr none ↦ apart x.file none refl
          ];
    }

    -- ---- nodes that may be written

    -- one that is no filter keeps its file
    file_was : (n : ℕ) → IsOwn s.table n → (file : ℕ) → child led_state.table n File ≡ Some file → child s.table n File ≡ Some file
    file_was n own file is =
        let e = role_edge (Node n) File es file is in
        by_row (row_there s.table es lead l h.table n ((table.edges e.edge e.there).parent n e.from)) e.edge e.there e.from e.role_is
      where
        by_child : (row : NodeRecord) → Contains s.table.nodes row → row.id ≡ n → filter_role row.kind ≡ None → (found : Option ℕ) → child s.table n File ≡ found
            → option_map (lead (Node n)) found ≡ Some file → found ≡ Some file
        by_child row there id format None at led = absurd cc
        by_child row there id format (Some c) at led =
            let e = role_edge (Node n) File s.table.edges c at in
            let same = stays_put s.table es lead l h.table row e.edge there e.there (e.from ∙ ap Node (sym id)) e.role_is format in
            let to : lead (Node n) c ≡ c = ap (λ p. lead p c) (sym e.from) ∙ ap (lead e.edge.parent) (sym e.to) ∙ same ∙ e.to in
            ap (λ (m : ℕ). Some m) (sym to) ∙ led

        by_row : ((row : NodeRecord) × Contains s.table.nodes row × (row.id ≡ n)) → (e : Edge) → Contains es e → e.parent ≡ Node n → e.role ≡ File
            → child s.table n File ≡ Some file
        by_row (row, there, id) e at from role =
            let found : node_by_id s.table n ≡ Some row = subst (λ m. node_by_id s.table m ≡ Some row) id (h.table.apart row there) in
            let has = subst (λ r. has_role row.kind r ≡ true) role (table.roles e row at there (from ∙ ap Node (sym id))) in
            by_child row there id (own row found) (child s.table n File) refl
            (sym (l.children n row File found has (λ same. absurd cc) (λ same. absurd cc)) ∙ is)

    -- no node writes another file than before
    pub writes_before : (n : ℕ) (name : List ℕ) → written_file led_state.table n ≡ Some name → written_file s.table n ≡ Some name
    writes_before n name = by_row (node_by_id s.table n) refl
      where
        below : (row : NodeRecord) → IsOwn s.table row.id → (found : Option ℕ) → child led_state.table row.id File ≡ found
            → option_and_then (filename_of s.table) found ≡ Some name → option_and_then (filename_of s.table) (child s.table row.id File) ≡ Some name
        below row own None at is = absurd cc
        below row own (Some c) at is = ap (option_and_then (filename_of s.table)) (file_was row.id own c at) ∙ is

        by_kind : (row : NodeRecord) (kind : Kind) → row.kind ≡ kind → IsOwn s.table row.id ⊎ IsSome (filter_role kind) → own_filename led_state.table row kind ≡ Some name
            → own_filename s.table row kind ≡ Some name
        by_kind row Protocol k own is = is
        by_kind row Raw k (inl own) is = below row own (child led_state.table row.id File) refl is
        by_kind row Qcow2 k (inl own) is = below row own (child led_state.table row.id File) refl is
        by_kind row Raw k (inr filters) is = absurd cc
        by_kind row Qcow2 k (inr filters) is = absurd cc
        by_kind row CopyOnRead k own is = absurd cc
        by_kind row BeforeWrite k own is = absurd cc
        by_kind row Mirror k own is = absurd cc
        by_kind row Commit k own is = absurd cc

        which : (row : NodeRecord) → node_by_id s.table n ≡ Some row → (role : Option Role) → filter_role row.kind ≡ role
            → IsOwn s.table row.id ⊎ IsSome (filter_role row.kind)
        which row at None is =
            let id : row.id ≡ n = eqb-true row.id n (find-Some (λ r. r.id == n) s.table.nodes row at).1 in
            inl (λ other found.
            let at_n : node_by_id s.table n ≡ Some other = subst (λ m. node_by_id s.table m ≡ Some other) id found in
            let same : other ≡ row = cc in
            ap (λ r. filter_role r.kind) same ∙ is)
        which row at (Some role) is = inr (subst IsSome (sym is) refl)

        by_row : (found : Option NodeRecord) → node_by_id s.table n ≡ found
            → option_and_then (λ row. own_filename led_state.table row row.kind) found ≡ Some name
            → option_and_then (λ row. own_filename s.table row row.kind) found ≡ Some name
        by_row None at is = is
        by_row (Some row) at is = by_kind row row.kind refl (which row at (filter_role row.kind) refl) is

    pub still_writable : (n : ℕ) → IsOwn s.table n → IsGuestWritable s n → IsGuestWritable led_state n
    still_writable n own can = record {
      disk = more n can.disk;
      under = λ file row is found has. can.under file row (file_was n own file is) found has;
      known = λ name is. can.known name (writes_before n name is);
      left = λ name is. can.left name (writes_before n name is);
      named = λ name is. can.named name (writes_before n name is);
    }

    -- what a node reads as is no filter
    disk_own : (n : ℕ) → IsSome (node_by_id s.table n) → IsOwn s.table (disk_node s.table n)
    disk_own n some disk at =
        let row = row_there s.table es lead l h.table n some in
        let found : node_by_id s.table n ≡ Some row.0 = subst (λ m. node_by_id s.table m ≡ Some row.0) row.2 (h.table.apart row.0 row.1) in
        (at_with (IsDiskOf s.table row.0) (node_by_id s.table (disk_node s.table n)) disk at (h.table.reads n row.0 found)).own

    may_still : (g : ℕ) (device : DeviceRow) (drive : ℕ) → drive_of s.table g ≡ Some drive → MayGuestWrite s device drive
        → MayGuestWrite led_state device (lead (Guest g) drive)
    may_still g device drive at may w =
        let stays = drives g drive at in
        elim stays.disk [
          | inr onto ↦ still_writable (disk_node led_state.table (lead (Guest g) drive)) onto.1 onto.0
          | inl same ↦
              let e = role_edge (Guest g) Drive s.table.edges drive at in
              let there : IsSome (node_by_id s.table drive) = subst (λ n. IsSome (node_by_id s.table n)) e.to (h.table.edges e.edge e.there).child in
              let did : writes_through s.table device.read_only drive ≡ true = ap (λ b. not device.read_only || b) (sym stays.copies) ∙ w in
              subst (IsGuestWritable led_state) (sym same) (still_writable (disk_node s.table drive) (disk_own drive there) (may did))
        ]

    drives_still : (g : ℕ) (device : DeviceRow) (found : Option ℕ) → drive_of s.table g ≡ found → With found (MayGuestWrite s device)
        → With (option_map (lead (Guest g)) found) (MayGuestWrite led_state device)
    drives_still g device None at may = may
    drives_still g device (Some drive) at may = may_still g device drive at may

    -- ---- all that holds of the state

    pub led_holds : Stands led_state
    led_holds = record {
      table = table;
      files = λ name row of. h.files name row (stood s.table es lead l h.table name row of);
      lost = λ name row of gone. let was = stood s.table es lead l h.table name row of in lost_still name row was (h.lost name row was gone);
      states = λ name content is closed. of_state name content (file_state s.table name) refl is closed;
      formatted = λ name is. let of = h.formatted name is in (of.0, record { there = of.1.there; filename = of.1.filename });
      writing = record {
        named = λ name row of. h.writing.named name row (stood s.table es lead l h.table name row of);
        unknown = λ name over under f named. elim (l.old f.edge f.there) [
          | inr new ↦ absurd (let bad = sym new.role ∙ f.role in cc)
          | inl o ↦ elim (files o.edge o.there (o.role ∙ f.role)) [
            | inl same ↦
                h.writing.unknown name over under (record {
                  over_there = f.over_there;
                  under_there = f.under_there;
                  edge = o.edge;
                  there = o.there;
                  parent = o.parent ∙ f.parent;
                  role = o.role ∙ f.role;
                  child = sym same ∙ sym o.child ∙ f.child;
                }) named
            | inr freed ↦ (freed under f.under_there (sym f.child ∙ o.child) name named).0.content
          ]
        ];
        copied = copied;
        disks = λ row there own. more row.id (h.writing.disks row there own);
        left = λ k d within. used_still (slice_index_or s.left k d) (h.writing.left k d within) (λ name none. none k d within);
        writers = λ g device found.
            subst (λ drive. With drive (MayGuestWrite led_state device)) (sym (l.drives g))
            (drives_still g device (drive_of s.table g) refl (h.writing.writers g device found));
      };
    }
