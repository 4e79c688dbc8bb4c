-- The nodes of an addition that nothing refuses can be made.
use Rattle.std.proofs.Common.{◌≡◌, ℕ, ◌+◌, ◌<◌, ◌≤◌, List, length, refl, sym, subst, ◌∙◌, ap, arith, Option, Some, None}
use Rattle.std.specs.Prelude.{IfSome, bytes_eq, option_and_then, option_map}
use Rattle.std.proofs.lemmas.Bool.{not-false}
use Rattle.blk_graph.specs.declared.edge.Edge.{Edge}
use Rattle.blk_graph.specs.declared.kind.Kind.{Kind}
use Rattle.blk_graph.specs.declared.kind.Kind.TheVariants as kinds
use Rattle.blk_graph.specs.Edits.{with_edge}
use Rattle.blk_graph.specs.Graph.{HasNode}
use Rattle.blk_graph.proofs.Members.{find-Some}
use Rattle.blk_nodes.specs.Adding.{file_edge}
use Rattle.blk_nodes.specs.Joined.{IsJoined}
use Rattle.blk_nodes.specs.Nodes.{Nodes, size_by, node_size}
use Rattle.blk_nodes.specs.Overlays.{Asked, backing_node, edges_for, format_edges}
use Rattle.qmp_codec.specs.declared.command.Command.TheVariants as command
use Rattle.qmp_codec.specs.declared.nodes.AddRaw.{AddRaw}
use Rattle.qmp_codec.specs.declared.nodes.Added.TheVariants as added
use Rattle.qmp_codec.specs.declared.nodes.BackingRef.{BackingRef}
use Rattle.qmp_codec.specs.declared.nodes.BackingRef.TheVariants as said
use Rattle.qmp_codec.specs.declared.nodes.FileRef.TheVariants as file_ref
use Rattle.qmp_rules.specs.Answers.{refusal_to}
use Rattle.qmp_rules.specs.Asks.{holds}
use Rattle.qmp_rules.specs.Changes.{changed, with_format_edges, with_unsettled}
use Rattle.qmp_rules.specs.Edits.{edits_of, format_row, free_id, raw_record}
use Rattle.qmp_asks.specs.NodeAsks.{backing_name, is_read_only}
use Rattle.qmp_rules.specs.Table.{RunTable, id_named, node_by_id, node_named}
use Rattle.qmp_asks.specs.Values.{most_length}
use Rattle.qmp_asks.specs.declared.ask.Ask.TheVariants as ask
use Rattle.qmp_asks.specs.declared.ask.Drivers.TheVariants as drivers
use Rattle.qmp_rules.specs.declared.rows.NodeRecord.{NodeRecord}
use Rattle.qmp_rules.specs.declared.told.Told.{Told}
use Rattle.flat_machine.specs.Wiring.{HaveDistinctIds}
use Rattle.flat_machine.proofs.Accepted.{is_protocol}
use Rattle.flat_machine.proofs.Asked.{found-named, not-refused, room-left, takes-driver}
use Rattle.world_parts.specs.Adding.{Adding}
use Rattle.world_parts.specs.Coherent.{AreNodesOf, IsOfFileLength}
use Rattle.world_additions.specs.Additions.{CanPutFilter, CanPutPart}
use Rattle.world_parts.specs.Joining.{backing_at, backing_for, part_in}
use Rattle.world_additions.proofs.AddAsked.{all-asked, fresh-node, keeps-rule, part-within, rest-asked}
use Rattle.world_additions.proofs.AddPlaces.{allowed-of, file-of, node-of, place-of, row-of, unsettled-ids, unsettled-kinds}

-- the nodes have a row's size
pub size-alike : (t : RunTable) (nodes : Nodes) (id : ℕ) (row : NodeRecord) → AreNodesOf t nodes → node_by_id t id ≡ Some row → node_size nodes id ≡ row.size
size-alike t nodes id row alike there =
    let own = row-of t nodes id row alike there in
    ap size_by own.1 ∙ sym own.2.size

-- ---- backing nodes

backing-named : (found : Option ℕ) → backing_node (backing_at found) ≡ found
backing-named None = refl
backing-named (Some node) = refl

pub backing-same : (t : RunTable) (b : Option (BackingRef (List ℕ))) → backing_node (backing_for t b) ≡ option_and_then (id_named t) (backing_name b)
backing-same t None = refl
backing-same t (Some said.Null) = refl
backing-same t (Some (said.Name name)) = backing-named (id_named t name)

-- it is there, where nothing refuses it
pub backing-there : (t : RunTable) (nodes : Nodes) (told : Told) → AreNodesOf t nodes → IsJoined nodes → HaveDistinctIds t → (name : Option (List ℕ))
    → holds t told (ask.Found name) ≡ None → IfSome (option_and_then (id_named t) name) (HasNode nodes.graph)
backing-there t nodes told alike joined apart None found = tt
backing-there t nodes told alike joined apart (Some name) found =
    let row = found-named t told name found in
    let is : id_named t name ≡ Some row.0.id = ap (option_map (λ (r : NodeRecord). r.id)) row.1 in
    let there : node_by_id t row.0.id ≡ Some row.0 = apart row.0 (find-Some (λ (r : NodeRecord). bytes_eq r.name name) t.nodes row.0 row.1).0 in
    rw is (node-of t nodes row.0.id row.0 alike joined there)

-- ---- edges

node-edges : (id file : ℕ) (backing : Option ℕ) (edges : List Edge) → format_edges id file backing edges ≡ with_format_edges id file backing edges
node-edges id file None edges = refl
node-edges id file (Some over) edges = refl

pub same-edges : (asked : Asked) (backing : Option ℕ) → backing_node asked.backing ≡ backing → (id : ℕ) (edges : List Edge)
    → edges_for asked id edges ≡ with_format_edges id asked.file backing edges
same-edges asked backing is id edges = ap (λ (b : Option ℕ). format_edges id asked.file b edges) is ∙ node-edges id asked.file backing edges

-- ---- over nodes that are there

module _ (t : RunTable) (nodes : Nodes) (alike : AreNodesOf t nodes) (joined : IsJoined nodes) (apart : HaveDistinctIds t) (told : Told) (c : Adding)
    (none : refusal_to t told (command.BlockdevAdd c) ≡ None) where
  pub by-name : (name : List ℕ) (row : NodeRecord) → node_named t name ≡ Some row → node_by_id t row.id ≡ Some row
  by-name name row found = apart row (find-Some (λ (r : NodeRecord). bytes_eq r.name name) t.nodes row found).0

  -- a part of a `file` node
  pub can-part : (raw : AddRaw (List ℕ)) (file : List ℕ) → c.driver ≡ added.Raw raw → raw.file ≡ file_ref.Name file
      → (row : NodeRecord) → node_named t file ≡ Some row → CanPutPart nodes c.node_name (is_read_only c.options) row.id (part_in raw row.size)
  unfolding changed edits_of holds
  can-part raw file e f row found =
      let asks = rw (e, f) at (all-asked t told c none) in
      let rest = rw (e, f) at (rest-asked t told c none) in
      let there = by-name file row found in
      let takes_file = takes-driver t told file drivers.File row found rest.1.1.1.0 in
      let room : length t.nodes + 1 ≤ 64 = room-left t told 1 rest.1.1.0 in
      let begins = not-false _ (not-refused _ _ (rw (found, takes_file) at asks.1.1.1.0)) in
      let ends = not-false _ (not-refused _ _ (rw (found, takes_file) at asks.1.1.1.1.1.0)) in
      let within = part-within raw.offset raw.size row.size begins ends in
      let small : row.size ≤ most_length =
      subst (λ (k : Kind). IsOfFileLength k row.size) (is_protocol row.kind takes_file) (row-of t nodes row.id row alike there).2.small in
      let few : length t.nodes < 64 = omega (arith, room) in
      let joins = rw (e, f, found) at (keeps-rule t told c none (rw e refl)) in
      record {
        is_file = file-of t nodes row.id row alike there (is_protocol row.kind takes_file);
        within = rw (size-alike t nodes row.id row alike there) within;
        fits = omega (arith, within, small);
        place = place-of t nodes c.node_name 1 alike (fresh-node t told c.node_name rest.1.0) (omega arith) room;
        allowed = allowed-of t nodes alike joined few (with_unsettled row.id t.nodes) (unsettled-ids row.id t.nodes) (unsettled-kinds row.id t.nodes)
            (raw_record (free_id t) c.node_name row.size (is_read_only c.options) raw) refl (λ id. with_edge (file_edge id row.id)) joins;
      }

  -- a filter
  pub can-filter : (child : List ℕ) → c.driver ≡ added.CopyOnRead child → (row : NodeRecord) → node_named t child ≡ Some row
      → CanPutFilter nodes c.node_name (is_read_only c.options) row.id
  unfolding changed edits_of
  can-filter child e row found =
      let rest = rw e at (rest-asked t told c none) in
      let there = by-name child row found in
      let room : length t.nodes + 1 ≤ 64 = room-left t told 1 rest.1.1.0 in
      let few : length t.nodes < 64 = omega (arith, room) in
      let joins = rw (e, found) at (keeps-rule t told c none (rw e refl)) in
      record {
        is_node = node-of t nodes row.id row alike joined there;
        place = place-of t nodes c.node_name 1 alike (fresh-node t told c.node_name rest.1.0) (omega arith) room;
        allowed = allowed-of t nodes alike joined few t.nodes refl refl
            (format_row kinds.CopyOnRead (free_id t) c.node_name row.size 0 (is_read_only c.options)) refl (λ id. with_edge (file_edge id row.id)) joins;
      }
