-- Nodes are settled, may be written, or may be written no more: what holds of states stays.
use Rattle.std.proofs.Common.{◌≡◌, ◌≢◌, ◌⊎◌, ℕ, Bool, true, false, cond, List, map, refl, sym, ap, subst, ◌∙◌, inl, inr, Option, Some, None, option_map}
use Rattle.std.specs.Prelude.{◌==◌, ◌||◌, not, All, slice_index_or, IsSome, option_and_then}
use Rattle.std.specs.List.{Contains}
use Rattle.std.proofs.lemmas.Bool.{eqb-true, cases_eq}
use Rattle.blk_graph.specs.declared.edge.Edge.{Edge}
use Rattle.blk_graph.specs.declared.edge.Parent.TheVariants.{Node, Guest}
use Rattle.blk_graph.specs.declared.edge.Role.{Role}
use Rattle.blk_graph.specs.declared.edge.Role.TheVariants.{Drive, File}
use Rattle.blk_graph.specs.declared.kind.Kind.{Kind}
use Rattle.blk_graph.specs.declared.kind.Kind.TheVariants.{Protocol, Raw, Qcow2, CopyOnRead, BeforeWrite, Mirror, Commit}
use Rattle.blk_graph.specs.Edits.{child_of}
use Rattle.blk_graph.specs.Refreshed.{refreshed}
use Rattle.blk_graph.proofs.Members.{find-Some, map-Contains}
use Rattle.blk_graph.proofs.RefreshLemmas.{child_of-refreshed}
use Rattle.qmp_rules.specs.declared.change.Change.TheVariants as change
use Rattle.qmp_rules.specs.declared.change.NewDisk.{NewDisk}
use Rattle.qmp_rules.specs.declared.rows.NodeRecord.{NodeRecord}
use Rattle.qmp_rules.specs.declared.rows.DeviceRow.{DeviceRow}
use Rattle.qmp_rules.specs.Changes.{changed, node_changed, settled, writable, kept_from_writes, with_writable, with_read_only}
use Rattle.qmp_rules.specs.Table.{RunTable, node_by_id, child, has_name, kinds_of}
use Rattle.qmp_rules.specs.Chains.{filter_role, disk_node}
use Rattle.blk_history.specs.Fold.{With}
use Rattle.flat_machine.specs.State.{State, Disk, Left, filename_of, drive_of}
use Rattle.flat_machine.specs.Changed.{stepped, name_file, name_if, new_bytes, own_filename, with_bytes_of}
use Rattle.flat_machine.specs.Agreement.{HasDisk}
use Rattle.flat_machine.specs.Suiting.{MayBeKept, MayBeWritten, SettleSuits}
use Rattle.flat_machine.specs.Standing.{HasBytes, IsLostBy, IsUsedUp, MayGuestWrite, Stands}
use Rattle.flat_machine.specs.Wiring.{IsDiskOf, IsUnder, IsUnderNoFormat, LeadsToFile, StandsFor, TableStands}
use Rattle.flat_machine.specs.Writing.{IsGuestWritable, written_file}
use Rattle.flat_machine.proofs.Tables.{HasLike, refreshed-old, refreshed-new, same-edge}
use Rattle.flat_machine.proofs.Wired.{at_with}
use Rattle.flat_machine.proofs.WritingAdded.{bytes-put, has_name-grows, has_name-own}
use Rattle.flat_machine.proofs.WritingKept.{role_edge}
use Rattle.flat_machine.proofs.Lent.{IsLater, KeepsMost, changed_not, found, kept_stands, most_kept, most_settled, most_writable, same_copies, same_disk, settled_stands, was, was_over, writable_stands}

module _ (s : State) (f : NodeRecord → NodeRecord) (keeps : (row : NodeRecord) → KeepsMost row (f row)) (es : List Edge) (disks : List Disk)
    (named : List (List ℕ)) (like : (e : Edge) → Contains es e → HasLike s.table.edges e) (forth : (e : Edge) → Contains s.table.edges e → HasLike es e)
    (children : (node : ℕ) (role : Role) → child_of (Node node) role es ≡ child s.table node role)
    (drives : (g : ℕ) → child_of (Guest g) Drive es ≡ drive_of s.table g) where
  abbrev pub after : State
  after = record s { table = record s.table { nodes = map f s.table.nodes; edges = es }; disks = disks; named = named }

  abbrev t : RunTable
  t = s.table

  abbrev now : RunTable
  now = after.table

  -- what the rows and the disks are to keep
  pub record RowsStay : Type 0 where
    pub more : (n : ℕ) → HasBytes s n → HasBytes after n
    pub names : (name : List ℕ) → has_name name s.named ≡ true → has_name name named ≡ true
    pub lost : (row : NodeRecord) → (f row).is_settled ≡ false → row.is_settled ≡ false
    pub settles : (row : NodeRecord) → Contains t.nodes row → (f row).is_settled ≡ true → (row.is_settled ≡ true) ⊎ IsUnderNoFormat t row.id
    pub unleft : (name : List ℕ) (row : NodeRecord) → StandsFor t name row → row.is_settled ≡ false
        → ((f row).is_settled ≡ false) ⊎ All (λ (l : Left). l.file ≢ name) s.left
    pub written : (name : List ℕ) (row : NodeRecord) → StandsFor t name row → (f row).read_only ≡ false → has_name name named ≡ true

  module _ (table : TableStands now) (keeps_rows : RowsStay) (h : Stands s) where
    row_was : (later : NodeRecord) → Contains now.nodes later → IsLater t now f keeps refl like children later
    row_was later there = was t now f keeps refl like children later there

    stood : (name : List ℕ) (later : NodeRecord) (of : StandsFor now name later) → StandsFor t name (row_was later of.there).row
    stood name later of =
        let r = row_was later of.there in
        record { there = r.there; filename = sym (ap (λ (x : NodeRecord). x.filename) r.is ∙ (keeps r.row).filename) ∙ of.filename }

    stands : (name : List ℕ) (row : NodeRecord) → StandsFor t name row → StandsFor now name (f row)
    stands name row of = record { there = map-Contains f t.nodes row of.there; filename = (keeps row).filename ∙ of.filename }

    under_now : (node later : ℕ) → later ≡ node → IsUnder t.edges node → IsUnder es later
    under_now node later id under =
        let x = forth under.edge under.there in
        record { edge = x.edge; there = x.there; over = x.same.role ∙ under.over; child = x.same.child ∙ under.child ∙ sym id }

    under_before : (node later : ℕ) → later ≡ node → IsUnder es later → IsUnder t.edges node
    under_before node later id under =
        let x = like under.edge under.there in
        record { edge = x.edge; there = x.there; over = x.same.role ∙ under.over; child = x.same.child ∙ under.child ∙ id }

    id_now : (later : NodeRecord) (r : IsLater t now f keeps refl like children later) → later.id ≡ r.row.id
    id_now later r = ap (λ (x : NodeRecord). x.id) r.is ∙ (keeps r.row).id

    lost_now : (name : List ℕ) (later row : NodeRecord) → later.id ≡ row.id → IsLostBy t name row → IsLostBy now name later
    lost_now name later row id (inl used) = inl used
    lost_now name later row id (inr (inl formatted)) = inr (inl formatted)
    lost_now name later row id (inr (inr under)) = inr (inr (under_now row.id later.id id under))

    -- a row that is found was
    record WasFound (n : ℕ) (later : NodeRecord) : Type 0 where
      row : NodeRecord
      at : node_by_id t n ≡ Some row
      is : later ≡ f row

    was_found : (n : ℕ) (later : NodeRecord) → node_by_id now n ≡ Some later → WasFound n later
    was_found n later at = by_row (node_by_id t n) refl
      where
        by_row : (o : Option NodeRecord) → node_by_id t n ≡ o → WasFound n later
        by_row None is = absurd (let bad : None ≡ Some later = sym (found t now f keeps refl like children n ∙ ap (option_map f) is) ∙ at in cc bad)
        by_row (Some row) is = record {
          row = row;
          at = is;
          is = let both : Some later ≡ Some (f row) = sym at ∙ found t now f keeps refl like children n ∙ ap (option_map f) is in cc both;
        }

    used_still : (l : Left) → IsUsedUp s l → ((name : List ℕ) → All (λ (y : Left). y.file ≢ name) s.left → l.file ≢ name) → IsUsedUp after l
    used_still l used apart = record {
      used = used.used;
      gone = λ later of.
          let r = row_was later of.there in
          let before = stood l.file later of in
          elim (keeps_rows.unleft l.file r.row before (used.gone r.row before)) [
            | inl gone ↦ ap (λ (x : NodeRecord). x.is_settled) r.is ∙ gone
            | inr none ↦ absurd (apart l.file none refl)
          ];
      is_open = λ later of under.
          let r = row_was later of.there in
          used.is_open r.row (stood l.file later of) (under_before r.row.id later.id (id_now later r) under);
    }

    -- ---- nodes that may be written

    abbrev IsOwn : ℕ → Type 0
    IsOwn n = (row : NodeRecord) → node_by_id t n ≡ Some row → filter_role row.kind ≡ None

    file_still : (n : ℕ) (name : List ℕ) → written_file now n ≡ Some name → written_file t n ≡ Some name
    file_still n name is = by_row (node_by_id t n) refl (found t now f keeps refl like children n)
      where
        named_so : (c : ℕ) → filename_of now c ≡ filename_of t c
        named_so c = ap (option_and_then (λ (row : NodeRecord). row.filename)) (found t now f keeps refl like children c) ∙ by_found (node_by_id t c)
          where
            by_found : (o : Option NodeRecord) → option_and_then (λ (row : NodeRecord). row.filename) (option_map f o)
                ≡ option_and_then (λ (row : NodeRecord). row.filename) o
            by_found None = refl
            by_found (Some row) = (keeps row).filename

        below : (o : Option ℕ) → option_and_then (filename_of now) o ≡ option_and_then (filename_of t) o
        below None = refl
        below (Some c) = named_so c

        under : (row : NodeRecord) → option_and_then (filename_of now) (child now (f row).id File) ≡ option_and_then (filename_of t) (child t row.id File)
        under row = ap (λ m. option_and_then (filename_of now) (child now m File)) (keeps row).id
            ∙ ap (option_and_then (filename_of now)) (children row.id File) ∙ below (child t row.id File)

        by_kind : (row : NodeRecord) (kind : Kind) → own_filename now (f row) kind ≡ own_filename t row kind
        by_kind row Protocol = (keeps row).filename
        by_kind row Raw = under row
        by_kind row Qcow2 = under row
        by_kind row CopyOnRead = refl
        by_kind row BeforeWrite = refl
        by_kind row Mirror = refl
        by_kind row Commit = refl

        by_row : (o : Option NodeRecord) → node_by_id t n ≡ o → node_by_id now n ≡ option_map f (node_by_id t n) → written_file t n ≡ Some name
        by_row None at later = absurd (let none = later ∙ ap (option_map f) at in
            let bad = sym (ap (option_and_then (λ (row : NodeRecord). own_filename now row row.kind)) none) ∙ is in cc)
        by_row (Some row) at later =
            let here : node_by_id now n ≡ Some (f row) = later ∙ ap (option_map f) at in
            ap (option_and_then (λ (row : NodeRecord). own_filename t row row.kind)) at
            ∙ sym (by_kind row row.kind) ∙ sym (ap (own_filename now (f row)) (keeps row).kind)
            ∙ sym (ap (option_and_then (λ (row : NodeRecord). own_filename now row row.kind)) here) ∙ is

    still_writable : (n : ℕ) → IsOwn n → IsGuestWritable s n → IsGuestWritable after n
    still_writable n own can = record {
      disk = keeps_rows.more n can.disk;
      under = λ file later is at has.
          let w = was_found file later at in
          no_disk file later (sym (children n File) ∙ is) w has;
      known = λ name is. can.known name (file_still n name is);
      left = λ name is. can.left name (file_still n name is);
      named = λ name is. keeps_rows.names name (can.named name (file_still n name is));
    }
      where
        no_disk : (file : ℕ) (later : NodeRecord) → child t n File ≡ Some file → WasFound file later → HasDisk later → ⊥
        no_disk file later is w has = elim (keeps_rows.settles w.row here.0 (ap (λ (x : NodeRecord). x.is_settled) (sym w.is) ∙ has.settled)) [
          | inl settled_before ↦ can.under file w.row is w.at (record {
            settled = settled_before;
            own = sym (ap filter_role (keeps w.row).kind) ∙ ap (λ (x : NodeRecord). filter_role x.kind) (sym w.is) ∙ has.own;
          })
          | inr free ↦ by_over free (node_by_id t n) refl
        ]
          where
            here : Contains t.nodes w.row × ((w.row.id == file) ≡ true)
            here = find-Some (λ (r : NodeRecord). r.id == file) t.nodes w.row w.at

            id : w.row.id ≡ file
            id = eqb-true w.row.id file here.1

            by_over : IsUnderNoFormat t w.row.id → (o : Option NodeRecord) → node_by_id t n ≡ o → ⊥
            by_over free None none =
                let e = role_edge (Node n) File t.edges file is in
                let some = (h.table.edges e.edge e.there).parent n e.from in
                let bad = subst IsSome none some in
                cc
            by_over free (Some over) at =
                let e = role_edge (Node n) File t.edges file is in
                let over_here = find-Some (λ (r : NodeRecord). r.id == n) t.nodes over at in
                let leads : LeadsToFile t over w.row = record {
                  over_there = over_here.0;
                  under_there = here.0;
                  edge = e.edge;
                  there = e.there;
                  parent = e.from ∙ ap Node (sym (eqb-true over.id n over_here.1));
                  role = e.role_is;
                  child = e.to ∙ sym id;
                } in
                by_name over leads (own over at) w.row.filename refl
              where
                by_name : (over : NodeRecord) → LeadsToFile t over w.row → filter_role over.kind ≡ None → (name : Option (List ℕ)) → w.row.filename ≡ name → ⊥
                by_name over leads format (Some name) k =
                    free w.row over (subst (λ m. node_by_id t m ≡ Some w.row) (sym id) w.at) (subst IsSome (sym k) refl) leads format
                by_name over leads format None k =
                    let filter = h.table.filtered over w.row leads k in let none = subst IsSome format filter in cc

    drive_still : (device : DeviceRow) (g : ℕ) (drive : Option ℕ) → drive_of t g ≡ drive → With drive (MayGuestWrite s device) → With drive (MayGuestWrite after device)
    drive_still device g None at may = may
    drive_still device g (Some drive) at may = λ w.
        subst (IsGuestWritable after) (sym (same_disk t now f keeps refl like children drive))
        (still_writable (disk_node t drive) (own_disk (node_by_id t drive) refl) (may (ap (λ b. not device.read_only || b) (sym (same_copies t now f keeps refl like children drive)) ∙ w)))
      where
        there : IsSome (node_by_id t drive)
        there = let e = role_edge (Guest g) Drive t.edges drive at in subst (λ n. IsSome (node_by_id t n)) e.to (h.table.edges e.edge e.there).child

        own_disk : (o : Option NodeRecord) → node_by_id t drive ≡ o → IsOwn (disk_node t drive)
        own_disk None none disk found_disk = absurd (let bad = subst IsSome none there in cc)
        own_disk (Some row) found_row disk found_disk =
            (at_with (IsDiskOf t row) (node_by_id t (disk_node t drive)) disk found_disk (h.table.reads drive row found_row)).own

    -- ---- all that holds of the state

    pub lent_holds : Stands after
    lent_holds = record {
      table = table;
      files = λ name later of. h.files name (row_was later of.there).row (stood name later of);
      lost = λ name later of gone.
          let r = row_was later of.there in
          lost_now name later r.row (id_now later r)
          (h.lost name r.row (stood name later of) (keeps_rows.lost r.row (ap (λ (x : NodeRecord). x.is_settled) (sym r.is) ∙ gone)));
      states = λ name what is is_open. h.states name what is (λ row of under. is_open (f row) (stands name row of) (under_now row.id (f row).id (keeps row).id under));
      formatted = λ name is. let of = h.formatted name is in (f of.0, stands name of.0 of.1);
      writing = record {
        named = λ name later of writes.
            let r = row_was later of.there in
            keeps_rows.written name r.row (stood name later of) (ap (λ (x : NodeRecord). x.read_only) (sym r.is) ∙ writes);
        unknown = λ name over under leads is.
            let a = row_was over leads.over_there in
            let b = row_was under leads.under_there in
            h.writing.unknown name a.row b.row (was_over t now f keeps refl like children over under a b leads)
            (sym (ap (λ (x : NodeRecord). x.filename) b.is ∙ (keeps b.row).filename) ∙ is);
        copied = λ name later disk there filter at is.
            let r = row_was later there in
            let d = was_found (disk_node now later.id) disk at in
            let at_disk : node_by_id t (disk_node t r.row.id) ≡ Some d.row =
            ap (node_by_id t) (ap (disk_node t) (sym (id_now later r)) ∙ sym (same_disk t now f keeps refl like children later.id)) ∙ d.at in
            let used = h.writing.copied name r.row d.row r.there (sym (ap filter_role (keeps r.row).kind) ∙ ap (λ (x : NodeRecord). filter_role x.kind) (sym r.is) ∙ filter)
            at_disk (sym (ap (λ (x : NodeRecord). x.filename) d.is ∙ (keeps d.row).filename) ∙ is) in
            record { state = used.state; content = used.content };
        disks = λ later there own.
            let r = row_was later there in
            subst (HasBytes after) (sym (id_now later r))
            (keeps_rows.more r.row.id (h.writing.disks r.row r.there (sym (ap filter_role (keeps r.row).kind) ∙ ap (λ (x : NodeRecord). filter_role x.kind) (sym r.is) ∙ own)));
        left = λ k d within. used_still (slice_index_or s.left k d) (h.writing.left k d within) (λ name none. none k d within);
        writers = λ g device at.
            subst (λ drive. With drive (MayGuestWrite after device)) (sym (drives g)) (drive_still device g (drive_of t g) refl (h.writing.writers g device at));
      };
    }

-- ---- the three kinds

same_settled : (id : ℕ) (row : NodeRecord) → (node_changed id writable row).is_settled ≡ row.is_settled
same_settled id row = by_test (row.id == id)
  where
    by_test : (b : Bool) → (cond b (writable row) row).is_settled ≡ row.is_settled
    by_test true = refl
    by_test false = refl

kept_settled : (id : ℕ) (row : NodeRecord) → (node_changed id kept_from_writes row).is_settled ≡ row.is_settled
kept_settled id row = by_test (row.id == id)
  where
    by_test : (b : Bool) → (cond b (kept_from_writes row) row).is_settled ≡ row.is_settled
    by_test true = refl
    by_test false = refl

pub settled_holds : (s : State) (node : ℕ) (disk : NewDisk) → SettleSuits s node → Stands s → Stands (stepped s (change.Settle node disk))
unfolding changed
settled_holds s node disk suits h =
    lent_holds s (node_changed node settled) (most_settled node) s.table.edges (with_bytes_of node (new_bytes s disk) s.disks) s.named
    (λ e there. record { edge = e; there = there; same = same-edge e }) (λ e there. record { edge = e; there = there; same = same-edge e })
    (λ n role. refl) (λ g. refl) (settled_stands s.table h.table node disk suits.plain) (record {
      more = λ n has. bytes-put node n (new_bytes s disk) s.disks has;
      names = λ name is. is;
      lost = λ row gone. by_lost row (row.id == node) gone;
      settles = λ row there is. elim (cases_eq row.id node) [
        | inl same ↦ inr (subst (IsUnderNoFormat s.table) (sym same) suits.plain.free)
        | inr other ↦ inl (ap (λ (r : NodeRecord). r.is_settled) (sym (changed_not node settled row other)) ∙ is)
      ];
      unleft = λ name row of gone. elim (cases_eq row.id node) [
        | inl same ↦ inr (suits.left name row of same)
        | inr other ↦ inl (ap (λ (r : NodeRecord). r.is_settled) (changed_not node settled row other) ∙ gone)
      ];
      written = λ name row of writes. h.writing.named name row of (by_writes row (row.id == node) writes);
    }) h
  where
    by_lost : (row : NodeRecord) (b : Bool) → (cond b (settled row) row).is_settled ≡ false → row.is_settled ≡ false
    by_lost row true is = absurd cc
    by_lost row false is = is

    by_writes : (row : NodeRecord) (b : Bool) → (cond b (settled row) row).read_only ≡ false → row.read_only ≡ false
    by_writes row true is = is
    by_writes row false is = is

pub writable_holds : (s : State) (node : ℕ) → MayBeWritten s.table node → Stands s → Stands (stepped s (change.MakeWritable node))
unfolding changed
writable_holds s node may h = by_name (filename_of s.table node) refl
  where
    before : (name : List ℕ) (row : NodeRecord) → StandsFor s.table name row → row.id ≢ node → (node_changed node writable row).read_only ≡ false
        → has_name name s.named ≡ true
    before name row of other writes = h.writing.named name row of (ap (λ (r : NodeRecord). r.read_only) (sym (changed_not node writable row other)) ∙ writes)

    with_names : (names : List (List ℕ)) → ((name : List ℕ) → has_name name s.named ≡ true → has_name name names ≡ true)
        → ((name : List ℕ) (row : NodeRecord) → StandsFor s.table name row → row.id ≡ node → has_name name names ≡ true)
        → Stands (record s { table = changed s.table (change.MakeWritable node); named = names })
    with_names names grow own =
        lent_holds s (node_changed node writable) (most_writable node) (refreshed (kinds_of (with_writable node s.table.nodes)) s.table.edges) s.disks names
        (λ e there. refreshed-old (kinds_of (with_writable node s.table.nodes)) s.table.edges e there)
        (λ e there. refreshed-new (kinds_of (with_writable node s.table.nodes)) s.table.edges e there)
        (λ n role. child_of-refreshed (kinds_of (with_writable node s.table.nodes)) (Node n) role s.table.edges)
        (λ g. child_of-refreshed (kinds_of (with_writable node s.table.nodes)) (Guest g) Drive s.table.edges)
        (writable_stands s.table h.table node may) (record {
          more = λ n has. has;
          names = grow;
          lost = λ row gone. sym (same_settled node row) ∙ gone;
          settles = λ row there is. inl (sym (same_settled node row) ∙ is);
          unleft = λ name row of gone. inl (same_settled node row ∙ gone);
          written = λ name row of writes. elim (cases_eq row.id node) [
            | inl same ↦ own name row of same
            | inr other ↦ grow name (before name row of other writes)
          ];
        }) h

    at_node : (name : List ℕ) (row : NodeRecord) → StandsFor s.table name row → row.id ≡ node → filename_of s.table node ≡ Some name
    at_node name row of same =
        ap (option_and_then (λ (r : NodeRecord). r.filename)) (subst (λ n. node_by_id s.table n ≡ Some row) same (h.table.apart row of.there)) ∙ of.filename

    by_name : (name : Option (List ℕ)) → filename_of s.table node ≡ name → Stands (record (name_if name s) { table = changed s.table (change.MakeWritable node) })
    by_name None is = with_names s.named (λ name known. known) (λ name row of same. absurd (let bad = sym is ∙ at_node name row of same in cc))
    by_name (Some file) is =
        with_names (name_file file s).named (λ name known. has_name-grows file name s.named known)
        (λ name row of same. (
        let both : Some file ≡ Some name = sym is ∙ at_node name row of same in
        let names : file ≡ name = cc both in
        subst (λ n. has_name n (name_file file s).named ≡ true) names (has_name-own file s.named)))

pub kept_holds : (s : State) (node : ℕ) → MayBeKept s.table node → Stands s → Stands (stepped s (change.MakeReadOnly node))
unfolding changed
kept_holds s node may h =
    lent_holds s (node_changed node kept_from_writes) (most_kept node) (refreshed (kinds_of (with_read_only node s.table.nodes)) s.table.edges) s.disks s.named
    (λ e there. refreshed-old (kinds_of (with_read_only node s.table.nodes)) s.table.edges e there)
    (λ e there. refreshed-new (kinds_of (with_read_only node s.table.nodes)) s.table.edges e there)
    (λ n role. child_of-refreshed (kinds_of (with_read_only node s.table.nodes)) (Node n) role s.table.edges)
    (λ g. child_of-refreshed (kinds_of (with_read_only node s.table.nodes)) (Guest g) Drive s.table.edges)
    (kept_stands s.table h.table node may) (record {
      more = λ n has. has;
      names = λ name is. is;
      lost = λ row gone. sym (kept_settled node row) ∙ gone;
      settles = λ row there is. inl (sym (kept_settled node row) ∙ is);
      unleft = λ name row of gone. inl (kept_settled node row ∙ gone);
      written = λ name row of writes. h.writing.named name row of (by_writes row (row.id == node) writes);
    }) h
  where
    by_writes : (row : NodeRecord) (b : Bool) → (cond b (kept_from_writes row) row).read_only ≡ false → row.read_only ≡ false
    by_writes row true is = absurd cc
    by_writes row false is = is
