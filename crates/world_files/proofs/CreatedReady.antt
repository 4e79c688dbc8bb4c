-- A creation that nothing refuses can be carried out.
use Rattle.std.proofs.Common.{◌≡◌, ◌≢◌, ℕ, suc, ◌≤◌, ◌==◌, nat_lt, Bool, true, false, not, List, [], ◌∷◌, length, Option, Some, None, refl, sym, ◌∙◌, ap, subst, arith}
use Rattle.std.specs.Prelude.{IsSome, IsTrue, find, slice_get, option_map, option_and_then, bytes_eq, is_none, ◌||◌, ◌&&◌, nat_le, codes}
use Rattle.std.specs.List.{list_any}
use Rattle.std.specs.Option.{ForSome}
use Rattle.std.proofs.lemmas.Bool.{eqb-true, eqb-false, leb-true, ltb-false, not-false}
use Rattle.blk_base.specs.Files.{is_out, is_out_as}
use Rattle.blk_base.specs.declared.file.Opened.{Opened}
use Rattle.blk_graph.specs.declared.kind.Kind.TheVariants as kinds
use Rattle.blk_graph.specs.declared.edge.Edge.{Edge}
use Rattle.blk_graph.proofs.Members.{find-Some, list_any-there}
use Rattle.q2_format.specs.Created.{IsNewName}
use Rattle.qmp_codec.specs.declared.nodes.CreateFile.{CreateFile}
use Rattle.qmp_codec.specs.declared.nodes.Created.{Created}
use Rattle.qmp_codec.specs.declared.nodes.Created.TheVariants as created
use Rattle.qmp_codec.specs.declared.command.Command.TheVariants as command
use Rattle.qmp_rules.specs.Answers.{refusal_to}
use Rattle.qmp_rules.specs.Asks.{holds, stands_for, told_at}
use Rattle.qmp_rules.specs.Looks.{create_told, too_long, stop_at}
use Rattle.qmp_asks.specs.Naming.{is_file_name}
use Rattle.qmp_rules.specs.Table.{RunTable, node_by_id}
use Rattle.qmp_asks.specs.Values.{amount_or}
use Rattle.qmp_asks.specs.declared.ask.Ask.TheVariants as ask
use Rattle.qmp_rules.specs.declared.rows.NodeRecord.{NodeRecord}
use Rattle.qmp_asks.specs.declared.look.Look.TheVariants as look
use Rattle.qmp_rules.specs.declared.told.Told.{Told}
use Rattle.flat_machine.specs.State.{filename_of}
use Rattle.flat_machine.proofs.Asked.{not-refused}
use Rattle.flat_machine.proofs.Finds.{same-bytes_eq}
use Rattle.blk_nodes.specs.Joined.{IsFile}
use Rattle.blk_nodes.specs.Nodes.{Nodes, DeviceSeen, row_at, driver_kind}
use Rattle.blk_nodes.specs.declared.row.Driver.{Driver}
use Rattle.blk_nodes.specs.declared.row.Driver.TheVariants.{File, Raw, Qcow2, CopyOnRead, Filter}
use Rattle.blk_nodes.specs.declared.row.Row.{Row}
use Rattle.world_parts.specs.Coherent.{AreAlike, AreNodesOf, AreOut}
use Rattle.world_files.specs.Creations.{CanCreate}
use Rattle.world_parts.specs.Deleting.{Ground}
use Rattle.world_files.specs.Deletions.{Belong}
use Rattle.world_parts.specs.Face.{device_numbered}
use Rattle.world_files.proofs.CreatedAsked.{file_asked, format_asked, unknown_refused}
use Rattle.world_parts.proofs.OverFiles.{named-stands}
use Rattle.world_parts.proofs.JobFilters.{no_file}

-- ---- openings

-- a name that is out is that of an opening that is
out-some : (name : List ℕ) (opened : List Opened) → is_out name opened ≡ true
    → (k : ℕ) × (o : Opened) × (slice_get opened k ≡ Some o) × (is_out_as name o ≡ true)
out-some name [] is = absurd (let bad : ⊥ = cc is in bad)
out-some name (o ∷ opened) is = by_test (is_out_as name o) refl is (out-some name opened)
  where
    by_test : (b : Bool) → is_out_as name o ≡ b → (b || is_out name opened) ≡ true
        → (is_out name opened ≡ true → (k : ℕ) × (p : Opened) × (slice_get opened k ≡ Some p) × (is_out_as name p ≡ true))
        → (k : ℕ) × (p : Opened) × (slice_get (o ∷ opened) k ≡ Some p) × (is_out_as name p ≡ true)
    by_test true out some rest = (0, o, refl, out)
    by_test false out some rest = let r = rest some in (suc r.0, r.1, r.2, r.3)

out-parts : (name : List ℕ) (o : Opened) → is_out_as name o ≡ true → (name ≡ o.name) × (o.returned ≡ None)
out-parts name o is = by_tests (bytes_eq name o.name) refl o.returned refl is
  where
    by_tests : (b : Bool) → bytes_eq name o.name ≡ b → (r : Option ℕ) → o.returned ≡ r → (b && is_none r) ≡ true → (name ≡ o.name) × (o.returned ≡ None)
    by_tests true same None back passes = (same-bytes_eq name o.name same, back)
    by_tests true same (Some count) back passes = absurd (let bad : ⊥ = cc passes in bad)
    by_tests false same r back passes = absurd (let bad : ⊥ = cc passes in bad)

-- no device of a file is out for which no node stands
pub closed_in : (t : RunTable) (nodes : Nodes) (opened : List Opened) (name : List ℕ) → AreOut t nodes opened → list_any (stands_for name) t.nodes ≡ false
    → IsTrue (is_out name opened) → ⊥
closed_in t nodes opened name out none is =
    let open' = out-some name opened is in
    let parts = out-parts name open'.1 open'.3 in
    by_device open'.0 open'.1 open'.2 parts.0 (device_numbered nodes.devices open'.0) refl (out.all open'.0 open'.1 open'.2 parts.1)
  where
    by_node : (node : ℕ) → filename_of t node ≡ Some name → ⊥
    by_node node named = by_row (node_by_id t node) refl named
      where
        by_row : (row : Option NodeRecord) → node_by_id t node ≡ row → option_and_then (λ (r : NodeRecord). r.filename) row ≡ Some name → ⊥
        by_row None at bad = let e : ⊥ = cc bad in e
        by_row (Some row) at stands =
            let found = find-Some (λ (r : NodeRecord). r.id == node) t.nodes row at in
            let bad = sym none ∙ list_any-there (stands_for name) t.nodes row found.0 (named-stands name row stands) in
            let e : ⊥ = cc bad in e

    by_device : (k : ℕ) (o : Opened) → slice_get opened k ≡ Some o → name ≡ o.name → (found : Option DeviceSeen) → device_numbered nodes.devices k ≡ found
        → IsSome found → ⊥
    by_device k o at same None found some = let e : ⊥ = cc some in e
    by_device k o at same (Some d) found some =
        let there = find-Some (λ (x : DeviceSeen). x.number.0 == k) nodes.devices d found in
        let number : d.number.0 ≡ k = eqb-true d.number.0 k there.1 in
        let is_out = out.each d there.0 in
        let one : Some is_out.opening ≡ Some o = sym is_out.there ∙ ap (slice_get opened) number ∙ at in
        let opening : is_out.opening ≡ o = cc one in
        by_node d.node (is_out.named ∙ ap (λ (x : Opened). Some x.name) opening ∙ ap (λ (n : List ℕ). Some n) (sym same))

-- ---- files

-- the store has room where nothing is told against the length
room_for : (c : CreateFile (List ℕ)) (room : ℕ) → told_at look.File (create_told (created.File c) room).stopped ≡ None → amount_or 0 (Some c.size) ≤ room
unfolding create_told
room_for c room quiet = ltb-false room (amount_or 0 (Some c.size)) (by_test (nat_lt room (amount_or 0 (Some c.size))) refl quiet)
  where
    by_test : (b : Bool) → nat_lt room (amount_or 0 (Some c.size)) ≡ b
        → told_at look.File (stop_at look.File (too_long c.filename b) None) ≡ None → b ≡ false
    by_test false is none = refl
    by_test true is bad = absurd (let e : ⊥ = cc bad in e)

-- ---- images

file_kind : (driver : Driver) → driver_kind driver ≡ kinds.Protocol → driver ≡ File
file_kind File is = refl
file_kind (Raw part) is = absurd (let bad : ⊥ = cc is in bad)
file_kind (Qcow2 image) is = absurd (let bad : ⊥ = cc is in bad)
file_kind CopyOnRead is = absurd (let bad : ⊥ = cc is in bad)
file_kind (Filter kind) is = absurd (no_file kind is)

-- a `file` node of the table is one of the nodes
pub file_of_table : (t : RunTable) (nodes : Nodes) → AreNodesOf t nodes → (row : NodeRecord) → node_by_id t row.id ≡ Some row → row.kind ≡ kinds.Protocol → IsFile nodes row.id
file_of_table t nodes alike row at kind = by_own (row_at nodes row.id) refl (subst (λ (r : Option NodeRecord). AreAlike r (row_at nodes row.id)) at (alike.rows row.id))
  where
    by_own : (own : Option Row) → row_at nodes row.id ≡ own → AreAlike (Some row) own → IsFile nodes row.id
    by_own None there bad = absurd bad
    by_own (Some own) there same = record { row = own; there = there; driver = file_kind own.driver (sym same.kind ∙ kind) }

-- a name of a file is one that an image may have
new_name : (name : List ℕ) → is_file_name name ≡ true → IsNewName name
new_name name is =
    let parts = and-parts (not (length name == 0)) _ is in
    let short = and-parts (nat_le (length name) 1023) _ parts.1 in
    let some : length name ≢ 0 = eqb-false (length name) 0 (not-true (length name == 0) parts.0) in
    (omega (arith, some), leb-true (length name) 1023 short.0)
  where
    and-parts : (a b : Bool) → (a && b) ≡ true → (a ≡ true) × (b ≡ true)
    and-parts true b both = (refl, both)
    and-parts false b both = absurd (let e : ⊥ = cc both in e)

    not-true : (b : Bool) → not b ≡ true → b ≡ false
    not-true false is' = refl
    not-true true is' = absurd (let e : ⊥ = cc is' in e)

names_new : (t : RunTable) (told : Told) (name : Option (List ℕ)) → holds t told (ask.FileNamed (codes "backing-file") name) ≡ None → ForSome name IsNewName
unfolding holds
names_new t told None none = λ x is. absurd (let e : ⊥ = cc is in e)
names_new t told (Some name) none = λ x is.
    let same : name ≡ x = cc is in
    subst IsNewName same (new_name name (not-false (is_file_name name) (not-refused (not (is_file_name name)) _ none)))

-- ---- all of it

module _ (t : RunTable) (x : Ground) (belong : Belong t x) (id : List ℕ) where
  pub can_create : (options : Created (List ℕ))
      → refusal_to t (create_told options x.store.room) (command.BlockdevCreate (record { job_id = id; options = options })) ≡ None
      → CanCreate t options x
  can_create (created.File c) none =
      let asked = file_asked t (create_told (created.File c) x.store.room) id c none in
      record {
        closed = closed_in t x.nodes x.store.opened c.filename belong.out asked.closed;
        room = room_for c x.store.room asked.quiet;
      }
  can_create (created.Qcow2 c) none =
      let told : Told = create_told (created.Qcow2 c) x.store.room in
      let asked = format_asked t told id c none in
      let row : NodeRecord = asked.row in
      let there = (find-Some (λ (r : NodeRecord). bytes_eq r.name c.file) t.nodes row asked.found).0 in
      record {
        node = row.id;
        found = ap (option_map (λ (r : NodeRecord). r.id)) asked.found;
        is_file = file_of_table t x.nodes belong.alike row (belong.apart row there) asked.driver;
        lone = ap (option_map (λ (e : Edge). e.parent)) (ap (find (λ (e : Edge). e.child == row.id)) belong.alike.edges ∙ asked.lone);
        small = asked.small;
        named = names_new t told c.backing_file asked.named;
      }
  can_create created.Unknown none = absurd (unknown_refused t (create_told created.Unknown x.store.room) id none)
