-- What belongs together does so after an addition.
use Rattle.std.proofs.Common.{◌≡◌, ◌≢◌, ℕ, ◌==◌, Bool, true, false, cond, List, [], ◌∷◌, ◌++◌, map, set, refl, sym, ◌∙◌, ap, subst, Option, Some, None}
use Rattle.std.specs.Prelude.{Contains, find, option_and_then, option_map}
use Rattle.std.proofs.lemmas.Bool.{eq-eqb}
use Rattle.blk_base.specs.declared.file.Opened.{Opened}
use Rattle.blk_graph.specs.declared.edge.Edge.{Edge}
use Rattle.blk_graph.specs.declared.edge.Role.TheVariants.{File}
use Rattle.blk_graph.specs.Edits.{with_edge}
use Rattle.blk_graph.specs.Permissions.{node_edge}
use Rattle.blk_graph.specs.Refreshed.{refreshed}
use Rattle.blk_graph.proofs.StillLemmas.{refreshed-fixed}
use Rattle.blk_nodes.specs.Joined.{IsJoined}
use Rattle.blk_nodes.specs.Nodes.{DeviceSeen, Nodes, row_at}
use Rattle.blk_nodes.specs.Overlays.{format_edges}
use Rattle.blk_nodes.specs.declared.row.Row.{Row}
use Rattle.qmp_rules.specs.Changes.{changed, with_format_edges, node_changed, unsettled, with_unsettled}
use Rattle.qmp_rules.specs.Table.{RunTable, node_by_id}
use Rattle.qmp_rules.specs.declared.change.Change.TheVariants.{AddFile, AddFilter, AddFormat}
use Rattle.qmp_rules.specs.declared.rows.NodeRecord.{NodeRecord}
use Rattle.flat_machine.specs.State.{filename_of}
use Rattle.flat_machine.proofs.Finds.{find-map}
use Rattle.flat_machine.proofs.Fresh.{found-new}
use Rattle.world_parts.specs.Coherent.{AreAlike, AreNodesOf, AreOut, IsRowOf, node_row}
use Rattle.world_additions.proofs.AddAlike.{alike-added}

-- ---- rows

-- a row that is only unsettled says the same of its node
alike-unsettled : (file : ℕ) (found : Option NodeRecord) (own : Option Row) → AreAlike found own → AreAlike (option_map (node_changed file unsettled) found) own
alike-unsettled file None None is = is
alike-unsettled file None (Some row) is = is
alike-unsettled file (Some record') None is = is
alike-unsettled file (Some record') (Some row) is = by_test (record'.id == file)
  where
    by_test : (b : Bool) → IsRowOf (cond b (unsettled record') record') row
    by_test true = record { kind = is.kind; size = is.size; access = is.access; place = is.place; small = is.small }
    by_test false = is

id-unsettled : (file : ℕ) (row : NodeRecord) → (node_changed file unsettled row).id ≡ row.id
id-unsettled file row = by_test (row.id == file)
  where
    by_test : (b : Bool) → (cond b (unsettled row) row).id ≡ row.id
    by_test true = refl
    by_test false = refl

row-unsettled : (file : ℕ) (row : NodeRecord) → node_row (node_changed file unsettled row) ≡ node_row row
row-unsettled file row = by_test (row.id == file)
  where
    by_test : (b : Bool) → node_row (cond b (unsettled row) row) ≡ node_row row
    by_test true = refl
    by_test false = refl

names-unsettled : (file : ℕ) (rows : List NodeRecord) → map node_row (with_unsettled file rows) ≡ map node_row rows
names-unsettled file [] = refl
names-unsettled file (row ∷ rows) = rw (row-unsettled file row, names-unsettled file rows) refl

find-unsettled : (file id : ℕ) (rows : List NodeRecord)
    → find (λ r. r.id == id) (with_unsettled file rows) ≡ option_map (node_changed file unsettled) (find (λ r. r.id == id) rows)
find-unsettled file id rows =
    find-map (λ (r : NodeRecord). r.id == id) (node_changed file unsettled) (λ r. ap (λ (n : ℕ). n == id) (id-unsettled file r)) rows

none-unsettled : (file id : ℕ) (rows : List NodeRecord) → find (λ r. r.id == id) rows ≡ None → find (λ r. r.id == id) (with_unsettled file rows) ≡ None
none-unsettled file id rows none = find-unsettled file id rows ∙ ap (option_map (node_changed file unsettled)) none

edges-same : (id file : ℕ) (backing : Option ℕ) (edges : List Edge) → format_edges id file backing edges ≡ with_format_edges id file backing edges
edges-same id file None edges = refl
edges-same id file (Some over) edges = refl

-- ---- a `file` node

module _ (t : RunTable) (nodes : Nodes) (alike : AreNodesOf t nodes) (joined : IsJoined nodes) (row : NodeRecord) (own : Row)
    (fresh : node_by_id t row.id ≡ None) (after : Nodes) (joined' : IsJoined after) (is_row : IsRowOf row own)
    (graph_nodes : after.graph.nodes ≡ nodes.graph.nodes ++ record { id = row.id; name = row.name } ∷ [])
    (graph_rows : after.rows ≡ set nodes.rows row.id (Some own)) (graph_edges : after.graph.edges ≡ nodes.graph.edges) where
  -- edges that stay are as those into their parents say already
  still : refreshed after.graph.kinds t.edges ≡ t.edges
  still =
      ap (refreshed after.graph.kinds) (sym (graph_edges ∙ alike.edges))
      ∙ refreshed-fixed after.graph.kinds after.graph.edges joined'.sound.just.refreshed ∙ graph_edges ∙ alike.edges

  pub alike-filed : AreNodesOf (changed t (AddFile row)) after
  unfolding changed
  alike-filed =
      alike-added t (changed t (AddFile row)) nodes after joined joined' row own is_row t.nodes t.edges refl alike alike.rows fresh refl refl graph_nodes graph_rows
      (graph_edges ∙ alike.edges ∙ sym still)

-- the new node stands for its file
pub filed-filename : (t : RunTable) (row : NodeRecord) (filename : List ℕ) → node_by_id t row.id ≡ None → row.filename ≡ Some filename
    → filename_of (changed t (AddFile row)) row.id ≡ Some filename
unfolding changed
filed-filename t row filename fresh named =
    ap (option_and_then (λ (r : NodeRecord). r.filename)) (found-new (λ (r : NodeRecord). r.id == row.id) t.nodes row fresh (eq-eqb row.id row.id refl)) ∙ named

-- a node that holds a device isn't new
pub held-other : (t : RunTable) (nodes : Nodes) (opened : List Opened) (new : ℕ) → AreOut t nodes opened → node_by_id t new ≡ None
    → (held : DeviceSeen) → Contains nodes.devices held → held.node ≢ new
held-other t nodes opened new out fresh held there = λ same.
    let is = out.each held there in
    let none : filename_of t new ≡ None = ap (option_and_then (λ (r : NodeRecord). r.filename)) fresh in
    let bad : Some is.opening.name ≡ None = sym is.named ∙ ap (filename_of t) same ∙ none in
    absurd (cc bad)

-- ---- a node over others

module _ (t : RunTable) (nodes : Nodes) (alike : AreNodesOf t nodes) (joined : IsJoined nodes) (row : NodeRecord) (own : Row)
    (fresh : node_by_id t row.id ≡ None) (after : Nodes) (joined' : IsJoined after) (is_row : IsRowOf row own)
    (graph_nodes : after.graph.nodes ≡ nodes.graph.nodes ++ record { id = row.id; name = row.name } ∷ [])
    (graph_rows : after.rows ≡ set nodes.rows row.id (Some own)) (child : ℕ) (backing : Option ℕ)
    (graph_edges : after.graph.edges ≡ refreshed after.graph.kinds (format_edges row.id child backing nodes.graph.edges)) where
  drawn : after.graph.edges ≡ refreshed after.graph.kinds (with_format_edges row.id child backing t.edges)
  drawn =
      graph_edges
      ∙ ap (refreshed after.graph.kinds) (edges-same row.id child backing nodes.graph.edges ∙ ap (with_format_edges row.id child backing) alike.edges)

  pub alike-formatted : AreNodesOf (changed t (AddFormat row child backing)) after
  unfolding changed
  alike-formatted =
      alike-added t (changed t (AddFormat row child backing)) nodes after joined joined' row own is_row (with_unsettled child t.nodes)
      (with_format_edges row.id child backing t.edges) (names-unsettled child t.nodes) alike
      (λ id. subst (λ (found : Option NodeRecord). AreAlike found (row_at nodes id)) (sym (find-unsettled child id t.nodes))
      (alike-unsettled child (node_by_id t id) (row_at nodes id) (alike.rows id)))
      (none-unsettled child row.id t.nodes fresh) refl refl graph_nodes graph_rows drawn

module _ (t : RunTable) (nodes : Nodes) (alike : AreNodesOf t nodes) (joined : IsJoined nodes) (row : NodeRecord) (own : Row)
    (fresh : node_by_id t row.id ≡ None) (after : Nodes) (joined' : IsJoined after) (is_row : IsRowOf row own)
    (graph_nodes : after.graph.nodes ≡ nodes.graph.nodes ++ record { id = row.id; name = row.name } ∷ [])
    (graph_rows : after.rows ≡ set nodes.rows row.id (Some own)) (child : ℕ)
    (graph_edges : after.graph.edges ≡ refreshed after.graph.kinds (format_edges row.id child None nodes.graph.edges)) where
  pub alike-filtered : AreNodesOf (changed t (AddFilter row child)) after
  unfolding changed
  alike-filtered =
      alike-added t (changed t (AddFilter row child)) nodes after joined joined' row own is_row t.nodes
      (with_edge (node_edge row.id File child) t.edges) refl alike alike.rows fresh refl refl graph_nodes graph_rows
      (graph_edges ∙ ap (λ (e : List Edge). refreshed after.graph.kinds (with_edge (node_edge row.id File child) e)) alike.edges)
