-- The changes of an accepted command leave what holds of tables, whatever is told of files.
use Rattle.std.proofs.Common.{inl, inr, ◌≡◌, ◌≢◌, ℕ, zero, suc, ◌+◌, ◌≤◌, Bool, true, false, cond, List, [], ◌∷◌, ◌++◌, length, refl, sym, ap, subst, ◌∙◌, arith, Option, Some, None}
use Rattle.std.specs.Prelude.{◌==◌, ◌||◌, ◌&&◌, not, if◌then◌else◌, option_and_then, unwrap_or, IsSome, bytes_eq, codes}
use Rattle.std.specs.List.{list_any, Contains}
use Rattle.std.proofs.lemmas.Bool.{eq-eqb, not-false}
use Rattle.blk_graph.specs.declared.edge.Parent.TheVariants.{Node}
use Rattle.blk_graph.specs.declared.edge.Role.TheVariants.{Backing}
use Rattle.blk_graph.specs.declared.kind.Kind.{Kind}
use Rattle.blk_graph.specs.declared.kind.Kind.TheVariants.{Protocol, Raw, Qcow2, CopyOnRead, BeforeWrite, Mirror, Commit}
use Rattle.blk_graph.specs.Permissions.{has_role}
use Rattle.blk_graph.proofs.Members.{find-Some}
use Rattle.qmp_codec.specs.declared.nodes.FileRef.{FileRef}
use Rattle.qmp_codec.specs.declared.nodes.FileRef.TheVariants as file_ref
use Rattle.qmp_codec.specs.declared.nodes.InlineFile.{InlineFile}
use Rattle.qmp_codec.specs.declared.nodes.AddRaw.{AddRaw}
use Rattle.qmp_codec.specs.declared.nodes.Added.{Added}
use Rattle.qmp_codec.specs.declared.nodes.Added.TheVariants as added
use Rattle.qmp_codec.specs.declared.nodes.BlockdevAdd.{BlockdevAdd}
use Rattle.qmp_codec.specs.declared.nodes.DeviceAdd.{DeviceAdd}
use Rattle.qmp_asks.specs.declared.ask.Ask.TheVariants as ask
use Rattle.qmp_asks.specs.declared.ask.Drivers.TheVariants as drivers
use Rattle.qmp_rules.specs.declared.change.Change.TheVariants as change
use Rattle.qmp_rules.specs.declared.rows.NodeRecord.{NodeRecord}
use Rattle.qmp_rules.specs.declared.rows.DeviceRow.{DeviceRow}
use Rattle.qmp_rules.specs.declared.told.Told.{Told}
use Rattle.qmp_rules.specs.Table.{RunTable, node_by_id, node_named, id_named, kinds_of}
use Rattle.qmp_rules.specs.Chains.{filter_role, is_settled}
use Rattle.qmp_rules.specs.Changes.{changed}
use Rattle.qmp_rules.specs.Edits.{free_id, next_free_id, place_from, unused_from, file_row, format_row, inline_row, image_row, raw_record, length_told, size_by_name, raw_edits, qcow2_edits, added_edits, add_edits, file_uses, new_device, device_add_edits}
use Rattle.qmp_asks.specs.Naming.{is_name}
use Rattle.qmp_asks.specs.NodeAsks.{device_add_asks, add_asks, add_names, add_values, file_names, added_names, is_read_only, added_rest, raw_rest, qcow2_rest, copy_on_read_rest, is_added, backing_name}
use Rattle.qmp_rules.specs.Asks.{id_or, holds, lends, takes, is_file}
use Rattle.flat_machine.specs.Wiring.{IsNumberBy, IsUnderNoFormat, TableStands}
use Rattle.flat_machine.specs.Suiting.{IsThere, IsAlone, SuitsFile, SuitsBacking, SuitsDevice, AllTableSuit}
use Rattle.flat_machine.proofs.Finds.{bytes_eq-same, same-bytes_eq}
use Rattle.flat_machine.proofs.Fresh.{found-longer, found-new}
use Rattle.flat_machine.proofs.Tables.{pushed-cases, refreshed-old}
use Rattle.flat_machine.proofs.Kept.{own_disk}
use Rattle.flat_machine.proofs.OwnNames.{IsNameIf, inline-own, name-asked, named-if, names-asked, own-name}
use Rattle.flat_machine.proofs.Asked.{not-refused, NoneHolds, none-ahead, none-behind, good-value, found-named, takes-driver, room-left, none-stands, lone-node, settled-node}
use Rattle.flat_machine.proofs.Accepted.{free_fresh, next_fresh, none-over, no_filter, is_protocol, no_edge}
use Rattle.flat_machine.proofs.TablesKept.{not-there, not_copying}

-- ---- rows by name

-- the row there copies nothing of what is read
plain-row : (t : RunTable) (row : NodeRecord) (node : ℕ) → filter_role row.kind ≡ None → node_by_id t node ≡ Some row
    → (other : NodeRecord) → node_by_id t node ≡ Some other → other.kind ≢ CopyOnRead
plain-row t row node own found other is = let same : other ≡ row = cc in not_copying other.kind (ap (λ r. filter_role r.kind) same ∙ own)

-- a file that is used leaves what is over its node
pub free-used : (t : RunTable) (name : List ℕ) (node : ℕ) → IsUnderNoFormat t node → IsUnderNoFormat (changed t (change.UseFile name)) node
unfolding changed
free-used t name node free row over at some f own =
    free row over at some
    (record {
      over_there = f.over_there;
      under_there = f.under_there;
      edge = f.edge;
      there = f.there;
      parent = f.parent;
      role = f.role;
      child = f.child;
    })
    own

module _ (t : RunTable) (told : Told) (h : TableStands t) where
  pub named-row : (name : List ℕ) (row : NodeRecord) → node_named t name ≡ Some row → Contains t.nodes row × (bytes_eq row.name name ≡ true)
  named-row name row found = find-Some (λ r. bytes_eq r.name name) t.nodes row found

  -- a `file` node with a flat disk is under no format node
  pub settled-free : (row : NodeRecord) → Contains t.nodes row → row.is_settled ≡ true → IsUnderNoFormat t row.id
  settled-free row there settled other over found some f own =
      let at_row = h.apart row there in
      let same : other ≡ row = cc in
      let gone = (h.taken over other f some own).gone in
      let kept = ap (λ r. r.is_settled) same ∙ settled in
      cc

  -- what the table says of a node that has a flat disk of its own
  pub own-settled : (row : NodeRecord) → node_by_id t row.id ≡ Some row → filter_role row.kind ≡ None → is_settled t row.id ≡ true
      → row.is_settled ≡ true
  own-settled row found own settled =
      let here = own_disk t row.id row found own in rw (here, found) at settled

  pub file-own : (row : NodeRecord) → Contains t.nodes row → IsSome row.filename → filter_role row.kind ≡ None
  file-own row there = by_name row.filename refl
    where
      by_name : (name : Option (List ℕ)) → row.filename ≡ name → IsSome name → filter_role row.kind ≡ None
      by_name None e some = absurd cc
      by_name (Some name) e some = ap filter_role (h.drivers name row (record { there = there; filename = e }))

  -- a settled node is no `file` node under another one
  pub free-node : (row : NodeRecord) → Contains t.nodes row → is_settled t row.id ≡ true → IsUnderNoFormat t row.id
  free-node row there settled other over found some f format =
      let at_row = h.apart row there in
      let same : other ≡ row = cc in
      let own = file-own row there (subst (λ r. IsSome r.filename) same some) in
      settled-free row there (own-settled row at_row own settled) other over found some f format

  -- ---- asks

  pub writable-under : (name : List ℕ) (read_only : Bool) (row : NodeRecord) → node_named t name ≡ Some row
      → holds t told (ask.WritableUnder name read_only) ≡ None → read_only ≡ false → row.read_only ≡ false
  unfolding holds
  writable-under name read_only row found quiet writes =
      let none : (row.read_only && not read_only) ≡ false = not-refused _ _ (rw found at quiet) in
      by_flags row.read_only read_only none writes
    where
      by_flags : (a b : Bool) → (a && not b) ≡ false → b ≡ false → a ≡ false
      by_flags false b e k = refl
      by_flags true false e k = absurd cc
      by_flags true true e k = absurd cc

  pub writable-node : (name : List ℕ) (row : NodeRecord) → node_named t name ≡ Some row → holds t told (ask.Writable name) ≡ None
      → row.read_only ≡ false
  unfolding holds
  writable-node name row found quiet = by_flags row.read_only (list_any (lends row.id) t.jobs) (not-refused _ _ (rw found at quiet))
    where
      by_flags : (a b : Bool) → (a || b) ≡ false → a ≡ false
      by_flags false b e = refl
      by_flags true b e = absurd cc

  pub writable-with : (name : List ℕ) (own : Option (List ℕ)) (ok : Bool) → holds t told (ask.WritableWith name own ok) ≡ None → ok ≡ true
  unfolding holds
  writable-with name own ok quiet = not-false ok (not-refused _ _ quiet)

  pub beside-other : (name file : List ℕ) → holds t told (ask.Beside (Some name) file) ≡ None → bytes_eq name file ≡ false
  unfolding holds
  beside-other name file quiet = not-refused _ _ quiet

  -- ---- a format node over a node that is there

  -- the `file` node that it names
  pub record NamedFile (file : List ℕ) : Type 0 where
    pub row : NodeRecord
    pub found : node_named t file ≡ Some row
    pub there : Contains t.nodes row
    pub id_is : id_or 0 t (Some file) ≡ row.id
    pub name : List ℕ
    pub filename : row.filename ≡ Some name
    pub alone : IsAlone t row.id

  pub named-file : (file : List ℕ) → holds t told (ask.Found (Some file)) ≡ None → holds t told (ask.Drives (Some file) drivers.File) ≡ None
      → holds t told (ask.Lone file) ≡ None → NamedFile file
  named-file file found drives lone = by_row (found-named t told file found)
    where
      by_row : ((row : NodeRecord) × (node_named t file ≡ Some row)) → NamedFile file
      by_row named =
          let row : NodeRecord = named.0 in
          let here = named-row file row named.1 in
          let driver = is_protocol row.kind (takes-driver t told file drivers.File row named.1 drives) in
          by_name row named.1 here.0 row.filename refl (h.names row here.0 driver)
        where
          by_name : (row : NodeRecord) → node_named t file ≡ Some row → Contains t.nodes row → (name : Option (List ℕ)) → row.filename ≡ name
              → IsSome name → NamedFile file
          by_name row e there None is some = absurd cc
          by_name row e there (Some name) is some = record {
            row = row;
            found = e;
            there = there;
            id_is = rw e refl;
            name = name;
            filename = is;
            alone = no_edge row.id t.edges (lone-node t told file row e lone);
          }

  -- the backing node that it names
  pub record NamedBacking (back : Option (List ℕ)) (node : ℕ) : Type 0 where
    pub row : NodeRecord
    pub there : Contains t.nodes row
    pub id_is : row.id ≡ node
    pub free : IsUnderNoFormat t node
    pub own : filter_role row.kind ≡ None
    pub name : List ℕ
    pub said : back ≡ Some name
    pub named : bytes_eq row.name name ≡ true

  pub named-backing : (back : Option (List ℕ)) → holds t told (ask.Found back) ≡ None
      → holds t told (ask.Drives back drivers.FileRawOrQcow2) ≡ None → holds t told (ask.Settled back) ≡ None
      → (node : ℕ) → option_and_then (id_named t) back ≡ Some node → NamedBacking back node
  named-backing None found drives settled node is = absurd cc
  named-backing (Some name) found drives settled node is = by_row (found-named t told name found)
    where
      by_row : ((row : NodeRecord) × (node_named t name ≡ Some row)) → NamedBacking (Some name) node
      by_row named =
          let row : NodeRecord = named.0 in
          let here = named-row name row named.1 in
          let same : row.id ≡ node = id_is row named.1 in
          record {
            row = row;
            there = here.0;
            id_is = same;
            free = subst (IsUnderNoFormat t) same (free-node row here.0 (settled-node t told name row named.1 settled));
            own = no_filter row.kind (takes-driver t told name drivers.FileRawOrQcow2 row named.1 drives);
            name = name;
            said = refl;
            named = here.1;
          }
        where
          id_is : (row : NodeRecord) → node_named t name ≡ Some row → row.id ≡ node
          id_is row e = let of_name = rw e at is in cc

  -- ---- each driver

  pub file-table : (name : List ℕ) (read_only : Bool) (filename : List ℕ) (exp : Told) → is_name name ≡ true
      → NoneHolds t told (added_rest name read_only (added.File filename))
      → AllTableSuit t (added_edits t exp name read_only (added.File filename))
  file-table name read_only filename exp said asks = (
    record {
      fresh = free_fresh t (room-left t told 1 asks.1.0);
      own_name = own-name (file_row (free_id t) name (length_told exp) read_only filename None) said;
      driver = refl;
      name = filename;
      filename = refl;
      closed = none-over t filename (none-stands t told filename asks.1.1.0);
    },
    tt,
  )

  pub raw-named-table : (name : List ℕ) (read_only : Bool) (raw : AddRaw (List ℕ)) (file : List ℕ) (exp : Told) → is_name name ≡ true
      → NoneHolds t told (raw_rest name read_only raw (file_ref.Name file))
      → AllTableSuit t (raw_edits t exp name read_only raw (file_ref.Name file))
  raw-named-table name read_only raw file exp said asks =
      let of = named-file file asks.0 asks.1.1.1.0 asks.1.1.1.1.1.1.1.0 in (
        record {
          fresh = free_fresh t (room-left t told 1 asks.1.1.0);
          own_name = own-name (raw_record (free_id t) name (size_by_name t file) read_only raw) said;
          format = refl;
          role = refl;
          filename = refl;
          under = of.row;
          found = subst (λ n. node_by_id t n ≡ Some of.row) (sym of.id_is) (h.apart of.row of.there);
          name = of.name;
          of_file = of.filename;
          alone = subst (IsAlone t) (sym of.id_is) of.alone;
          writable = writable-under file read_only of.row of.found asks.1.1.1.1.1.1.0;
          backed = λ node is. absurd cc;
        },
        tt,
      )

  pub qcow2-named-table : (name : List ℕ) (read_only : Bool) (back : Option (List ℕ)) (file : List ℕ) (exp : Told) → is_name name ≡ true
      → NoneHolds t told (qcow2_rest name read_only back (file_ref.Name file))
      → AllTableSuit t (qcow2_edits t exp name read_only back (file_ref.Name file))
  qcow2-named-table name read_only back file exp said asks =
      let of = named-file file asks.0 asks.1.1.1.1.0 asks.1.1.1.1.1.1.1.1.1.1.1.1.1.0 in (
        record {
          fresh = free_fresh t (room-left t told 1 asks.1.1.1.0);
          own_name = own-name (image_row (free_id t) exp name read_only) said;
          format = refl;
          role = refl;
          filename = refl;
          under = of.row;
          found = subst (λ n. node_by_id t n ≡ Some of.row) (sym of.id_is) (h.apart of.row of.there);
          name = of.name;
          of_file = of.filename;
          alone = subst (IsAlone t) (sym of.id_is) of.alone;
          writable = writable-under file read_only of.row of.found asks.1.1.1.1.1.1.1.1.1.1.1.0;
          backed = λ node is. backed of node (named-backing back asks.1.0 asks.1.1.1.1.1.0 asks.1.1.1.1.1.1.1.1.1.0 node is);
        },
        tt,
      )
    where
      backed : (of : NamedFile file) (node : ℕ) → NamedBacking back node
          → SuitsBacking t (image_row (free_id t) exp name read_only) (id_or 0 t (Some file)) node
      backed of node b = record {
        role = refl;
        there = subst (IsThere t) b.id_is (subst IsSome (sym (h.apart b.row b.there)) refl);
        other = λ same. differs (b.id_is ∙ same ∙ of.id_is);
        free = b.free;
        plain = plain-row t b.row node b.own (subst (λ n. node_by_id t n ≡ Some b.row) b.id_is (h.apart b.row b.there));
      }
        where
          differs : b.row.id ≡ of.row.id → ⊥
          differs same =
              let at_back = subst (λ n. node_by_id t n ≡ Some b.row) same (h.apart b.row b.there) in
              let at_file = h.apart of.row of.there in
              let rows : b.row ≡ of.row = cc in
              let name_of = same-bytes_eq b.row.name b.name b.named in
              let file_of = same-bytes_eq of.row.name file (named-row file of.row of.found).1 in
              let names : b.name ≡ file = sym name_of ∙ ap (λ r. r.name) rows ∙ file_of in
              let quiet : holds t told (ask.Beside (Some b.name) file) ≡ None =
              subst (λ o. holds t told (ask.Beside o file) ≡ None) b.said asks.1.1.1.1.1.1.1.1.1.1.0 in
              let no = beside-other b.name file quiet in
              let yes : bytes_eq b.name file ≡ true = subst (λ n. bytes_eq n file ≡ true) (sym names) (bytes_eq-same file) in
              cc

  pub copy-table : (name : List ℕ) (read_only : Bool) (file : List ℕ) (exp : Told) → is_name name ≡ true
      → NoneHolds t told (copy_on_read_rest name file) → AllTableSuit t (added_edits t exp name read_only (added.CopyOnRead file))
  copy-table name read_only file exp said asks = by_row (found-named t told file asks.0)
    where
      plain : (kind : Kind) → takes drivers.RawOrQcow2 kind ≡ true → (filter_role kind ≡ None) × (kind ≢ Protocol)
      plain Protocol e = absurd cc
      plain Raw e = (refl, λ is. cc)
      plain Qcow2 e = (refl, λ is. cc)
      plain CopyOnRead e = absurd cc
      plain BeforeWrite e = absurd cc
      plain Mirror e = absurd cc
      plain Commit e = absurd cc

      no_name : (row : NodeRecord) → Contains t.nodes row → row.kind ≢ Protocol → (name : Option (List ℕ)) → row.filename ≡ name → row.filename ≡ None
      no_name row there other None e = e
      no_name row there other (Some name) e = absurd (other (h.drivers name row (record { there = there; filename = e })))

      by_row : ((row : NodeRecord) × (node_named t file ≡ Some row)) → AllTableSuit t (added_edits t exp name read_only (added.CopyOnRead file))
      by_row named =
          let row : NodeRecord = named.0 in
          let found : node_named t file ≡ Some row = named.1 in
          let here = named-row file row found in
          let kind = plain row.kind (takes-driver t told file drivers.RawOrQcow2 row found asks.1.1.1.0) in
          let id_is : id_or 0 t (Some file) ≡ row.id = rw found refl in (
            record {
              fresh = free_fresh t (room-left t told 1 asks.1.1.0);
              own_name = own-name (format_row CopyOnRead (free_id t) name (size_by_name t file) 0 read_only) said;
              filter = refl;
              filename = refl;
              under = row;
              found = subst (λ n. node_by_id t n ≡ Some row) (sym id_is) (h.apart row here.0);
              own = kind.0;
              no_file = no_name row here.0 kind.1 row.filename refl;
              writable = writable-node file row found asks.1.1.1.1.0;
            },
            tt,
          )

  -- ---- a format node with a `file` node of its own

  inline-suits : (name : List ℕ) (file : InlineFile (List ℕ)) (exp : Told) → IsNameIf file.node_name → length t.nodes + 2 ≤ 64
      → holds t told (ask.Closed file.filename) ≡ None → SuitsFile t (inline_row t exp name file)
  inline-suits name file exp named room closed = record {
    fresh = free_fresh t (omega arith);
    own_name = inline-own t exp name file named;
    driver = refl;
    name = file.filename;
    filename = refl;
    closed = none-over t file.filename (none-stands t told file.filename closed);
  }

  -- beside a node that was added
  module _ (row : NodeRecord) (id_is : row.id ≡ free_id t) (room : length t.nodes + 1 ≤ 64) where
    abbrev pub with_file_added : RunTable
    with_file_added = changed t (change.AddFile row)

    pub inline-found : node_by_id with_file_added (free_id t) ≡ Some row
    unfolding changed
    inline-found = found-new (λ r. r.id == free_id t) t.nodes row (free_fresh t room) (eq-eqb row.id (free_id t) id_is)

    inline-alone : IsAlone with_file_added (free_id t)
    unfolding changed
    inline-alone e there is =
        let old = refreshed-old (kinds_of (t.nodes ++ row ∷ [])) t.edges e there in
        not-there t (free_id t) (free_fresh t room) (subst (IsThere t) (old.same.child ∙ is) (h.edges old.edge old.there).child)

    there-with : (r : NodeRecord) → Contains t.nodes r → node_by_id with_file_added r.id ≡ Some r
    unfolding changed
    there-with r there = found-longer (λ x. x.id == r.id) t.nodes row r (h.apart r there)

    free-with : (r : NodeRecord) → Contains t.nodes r → IsUnderNoFormat t r.id → IsUnderNoFormat with_file_added r.id
    unfolding changed
    free-with r there free other over found some f own =
        let at_row = there-with r there in
        let same : r ≡ other = cc in
        let old = refreshed-old (kinds_of (t.nodes ++ row ∷ [])) t.edges f.edge f.there in
        let from = old.same.parent ∙ f.parent in
        free other over (subst (λ x. node_by_id t r.id ≡ Some x) same (h.apart r there)) some
        (record {
          over_there = elim (pushed-cases t.nodes row over f.over_there) [
            | inl was ↦ was
            | inr new ↦ absurd (not-there t (free_id t) (free_fresh t room)
                ((h.edges old.edge old.there).parent (free_id t) (from ∙ ap (λ x. Node x.id) new ∙ ap Node id_is)))
          ];
          under_there = subst (Contains t.nodes) same there;
          edge = old.edge;
          there = old.there;
          parent = from;
          role = old.same.role ∙ f.role;
          child = old.same.child ∙ f.child;
        }) own

    backing-with : (new : NodeRecord) → has_role new.kind Backing ≡ true → (back : Option (List ℕ)) (node : ℕ) → NamedBacking back node
        → SuitsBacking with_file_added new (free_id t) node
    backing-with new role back node b =
        let found = subst (λ n. node_by_id with_file_added n ≡ Some b.row) b.id_is (there-with b.row b.there) in
        record {
          role = role;
          there = subst IsSome (sym found) refl;
          other = λ same.
              not-there t (free_id t) (free_fresh t room) (subst (IsThere t) (b.id_is ∙ same) (subst IsSome (sym (h.apart b.row b.there)) refl));
          free = subst (IsUnderNoFormat with_file_added) b.id_is (free-with b.row b.there (subst (IsUnderNoFormat t) (sym b.id_is) b.free));
          plain = plain-row with_file_added b.row node b.own found;
        }

  writes-with : (ro_file read_only : Bool) → (not ro_file || read_only) ≡ true → read_only ≡ false → ro_file ≡ false
  writes-with false read_only e k = refl
  writes-with true false e k = absurd cc
  writes-with true true e k = absurd cc

  pub raw-inline-table : (name : List ℕ) (read_only : Bool) (raw : AddRaw (List ℕ)) (file : InlineFile (List ℕ)) (exp : Told)
      → is_name name ≡ true → IsNameIf file.node_name → NoneHolds t told (raw_rest name read_only raw (file_ref.Inline file))
      → AllTableSuit t (raw_edits t exp name read_only raw (file_ref.Inline file))
  unfolding changed
  raw-inline-table name read_only raw file exp said named asks =
      let room = room-left t told 2 asks.1.1.1.0 in
      let row : NodeRecord = inline_row t exp name file in (
        inline-suits name file exp named room asks.1.1.1.1.0,
        (
          record {
            fresh = next_fresh t row refl room;
            own_name = own-name (raw_record (next_free_id t) name (length_told exp) read_only raw) said;
            format = refl;
            role = refl;
            filename = refl;
            under = row;
            found = inline-found row refl (omega arith);
            name = file.filename;
            of_file = refl;
            alone = inline-alone row refl (omega arith);
            writable = writes-with (is_read_only file.options) read_only
                (writable-with name file.node_name (not (is_read_only file.options) || read_only) asks.1.1.1.1.1.1.1.0);
            backed = λ node is. absurd cc;
          },
          tt,
        ),
      )

  pub qcow2-inline-table : (name : List ℕ) (read_only : Bool) (back : Option (List ℕ)) (file : InlineFile (List ℕ)) (exp : Told)
      → is_name name ≡ true → IsNameIf file.node_name → NoneHolds t told (qcow2_rest name read_only back (file_ref.Inline file))
      → AllTableSuit t (qcow2_edits t exp name read_only back (file_ref.Inline file))
  unfolding changed
  qcow2-inline-table name read_only back file exp said named asks =
      let room = room-left t told 2 asks.1.1.1.1.0 in
      let row : NodeRecord = inline_row t exp name file in (
        inline-suits name file exp named room asks.1.1.1.1.1.1.0,
        (
          record {
            fresh = next_fresh t row refl room;
            own_name = own-name (image_row (next_free_id t) exp name read_only) said;
            format = refl;
            role = refl;
            filename = refl;
            under = row;
            found = inline-found row refl (omega arith);
            name = file.filename;
            of_file = refl;
            alone = inline-alone row refl (omega arith);
            writable = writes-with (is_read_only file.options) read_only
                (writable-with name file.node_name (not (is_read_only file.options) || read_only) asks.1.1.1.1.1.1.1.1.1.1.1.1.0);
            backed = λ node is.
                backing-with row refl (omega arith) (image_row (next_free_id t) exp name read_only) refl back node
                (named-backing back asks.0 asks.1.1.1.1.1.0 asks.1.1.1.1.1.1.1.1.1.1.1.0 node is);
          },
          tt,
        ),
      )

  pub add-table : (c : BlockdevAdd (List ℕ)) (exp : Told) → NoneHolds t told (add_asks c) → AllTableSuit t (add_edits t exp c)
  add-table c exp asks =
      by_driver c.driver (good-value t told (codes "driver") (is_added c.driver) asks.0) names.1
      (none-behind t told (add_values c ++ add_names c) (added_rest c.node_name (is_read_only c.options) c.driver) asks)
    where
      name : List ℕ
      name = c.node_name

      read_only : Bool
      read_only = is_read_only c.options

      names : NoneHolds t told (add_names c)
      names = names-asked t told c asks

      said : is_name name ≡ true
      said = name-asked t told c asks

      of_raw : (raw : AddRaw (List ℕ)) (file : FileRef (List ℕ)) → NoneHolds t told (file_names file) → NoneHolds t told (raw_rest name read_only raw file)
          → AllTableSuit t (raw_edits t exp name read_only raw file)
      of_raw raw (file_ref.Name file) named asks = raw-named-table name read_only raw file exp said asks
      of_raw raw (file_ref.Inline file) named asks =
          raw-inline-table name read_only raw file exp said (named-if t told (codes "node-name") file.node_name named.1.0) asks

      of_qcow2 : (back : Option (List ℕ)) (file : FileRef (List ℕ)) → NoneHolds t told (file_names file)
          → NoneHolds t told (qcow2_rest name read_only back file) → AllTableSuit t (qcow2_edits t exp name read_only back file)
      of_qcow2 back (file_ref.Name file) named asks = qcow2-named-table name read_only back file exp said asks
      of_qcow2 back (file_ref.Inline file) named asks =
          qcow2-inline-table name read_only back file exp said (named-if t told (codes "node-name") file.node_name named.1.0) asks

      by_driver : (driver : Added (List ℕ)) → is_added driver ≡ true → NoneHolds t told (added_names driver)
          → NoneHolds t told (added_rest name read_only driver) → AllTableSuit t (added_edits t exp name read_only driver)
      by_driver (added.File filename) known named asks = file-table name read_only filename exp said asks
      by_driver (added.Raw raw) known named asks = of_raw raw raw.file named asks
      by_driver (added.Qcow2 image) known named asks =
          let backing : Option (List ℕ) = backing_name image.backing in
          of_qcow2 backing image.file (none-ahead t told (file_names image.file) (ask.Named (codes "backing") backing ∷ []) named) asks
      by_driver (added.CopyOnRead file) known named asks = copy-table name read_only file exp said asks
      by_driver added.Unknown known named asks = absurd cc

  -- ---- devices

  unused-above : (more k : ℕ) (devices : List DeviceRow) → k ≤ unused_from more k devices
  unused-above zero k devices = omega arith
  unused-above (suc more) k devices = by_test (list_any (λ device. device.number == k) devices) (unused-above more (k + 1) devices)
    where
      by_test : (b : Bool) → k + 1 ≤ unused_from more (k + 1) devices → k ≤ cond b (unused_from more (k + 1) devices) k
      by_test true rest = omega arith
      by_test false rest = omega arith

  device-numbered : (id : List ℕ) (place : Option ℕ) → IsNumberBy (length t.guests) (unwrap_or place (unused_from 64 (length t.guests) t.devices)) place
  device-numbered id None = unused-above 64 (length t.guests) t.devices
  device-numbered id (Some guest) = refl

  -- the drive, by its name
  pub record NamedDrive (drive : List ℕ) : Type 0 where
    pub row : NodeRecord
    pub found : node_named t drive ≡ Some row
    pub there : Contains t.nodes row
    pub settled : is_settled t row.id ≡ true

  pub named-drive : (drive : List ℕ) → holds t told (ask.Found (Some drive)) ≡ None → holds t told (ask.Settled (Some drive)) ≡ None → NamedDrive drive
  named-drive drive found settled = by_row (found-named t told drive found)
    where
      by_row : ((row : NodeRecord) × (node_named t drive ≡ Some row)) → NamedDrive drive
      by_row named = record {
        row = named.0;
        found = named.1;
        there = (named-row drive named.0 named.1).0;
        settled = settled-node t told drive named.0 named.1 settled;
      }

  pub device-suits : (c : DeviceAdd (List ℕ)) (of : NamedDrive c.drive) → SuitsDevice t (new_device t c of.row) of.row.id
  device-suits c of = record {
    there = subst IsSome (sym (h.apart of.row of.there)) refl;
    free = free-node of.row of.there of.settled;
    number = device-numbered c.id (place_from 0 c.id t.guests);
  }

  pub device-table : (c : DeviceAdd (List ℕ)) → NoneHolds t told (device_add_asks c) → AllTableSuit t (device_add_edits t c)
  unfolding changed
  device-table c asks =
      let of = named-drive c.drive asks.1.1.1.1.0 asks.1.1.1.1.1.1.1.0 in
      rw of.found (by_use of (is_file of.row))
    where
      by_name : (of : NamedDrive c.drive) (name : Option (List ℕ))
          → AllTableSuit t (file_uses name ++ change.AddDevice (new_device t c of.row) of.row.id ∷ [])
      by_name of None = (device-suits c of, tt)
      by_name of (Some name) = (tt, (moved (device-suits c of), tt))
        where
          moved : SuitsDevice t (new_device t c of.row) of.row.id
              → SuitsDevice (changed t (change.UseFile name)) (new_device t c of.row) of.row.id
          moved suits = record { there = suits.there; free = free-used t name of.row.id suits.free; number = suits.number }

      by_use : (of : NamedDrive c.drive) (b : Bool)
          → AllTableSuit t ((if b then file_uses of.row.filename else []) ++ change.AddDevice (new_device t c of.row) of.row.id ∷ [])
      by_use of true = by_name of of.row.filename
      by_use of false = by_name of None
