-- Nodes that have the edges behind the end of a backup or mirror and have lost its filter are those of the table.
use Rattle.std.proofs.Common.{◌≡◌, ◌≢◌, ℕ, ◌==◌, Bool, true, false, cond, not, List, [], ◌∷◌, map, Option, Some, None, refl, sym, ◌∙◌, ap, subst, arith, inl, inr}
use Rattle.std.specs.Prelude.{IsSome, option_map}
use Rattle.std.proofs.lemmas.Bool.{cases_eq}
use Rattle.std.proofs.lemmas.List.{get_or-set_other, get_or-set_same}
use Rattle.blk_graph.specs.Edges.{same_parent}
use Rattle.blk_graph.specs.Graph.{NodeRow}
use Rattle.blk_graph.specs.Judged.{other_nodes}
use Rattle.blk_graph.specs.Refreshed.{kind_at, refreshed}
use Rattle.blk_graph.specs.declared.edge.Edge.{Edge}
use Rattle.blk_graph.specs.declared.edge.Parent.TheVariants.{Node}
use Rattle.blk_graph.specs.declared.kind.NodeKind.{NodeKind}
use Rattle.blk_graph.proofs.InverseLemmas.{same_parent-false}
use Rattle.blk_graph.proofs.Members.{filter-all}
use Rattle.blk_graph.proofs.RuleLemmas.{find-None}
use Rattle.blk_graph.proofs.StillLemmas.{refreshed-fixed}
use Rattle.blk_nodes.specs.Dropping.{nodes_without}
use Rattle.blk_nodes.specs.Jobs.{with_read_only}
use Rattle.blk_nodes.specs.Joined.{IsJoined}
use Rattle.blk_nodes.specs.Nodes.{DeviceSeen, Nodes, is_device_of, row_at}
use Rattle.blk_nodes.specs.Rewiring.{rewired}
use Rattle.blk_nodes.specs.declared.row.FilterKind.{FilterKind}
use Rattle.blk_nodes.specs.declared.row.Row.{Row}
use Rattle.blk_nodes.proofs.Rewired.{joined_wiring, readings, row_then}
use Rattle.qmp_rules.specs.Changes.{without_record}
use Rattle.qmp_rules.specs.Table.{RunTable, node_by_id}
use Rattle.qmp_rules.specs.declared.rows.JobRecord.{JobRecord}
use Rattle.qmp_rules.specs.declared.rows.NodeRecord.{NodeRecord}
use Rattle.flat_machine.specs.Wiring.{TableStands}
use Rattle.world_parts.specs.Coherent.{AreAlike, AreNodesOf, IsOfFileLength, IsRowOf, node_row}
use Rattle.world_parts.specs.Jobs.{PullsFilter}
use Rattle.world_goings.proofs.EndTables.{row_of}
use Rattle.world_jobs.proofs.EndNodes as go
use Rattle.world_jobs.proofs.EndTable.{IsFilterOver, LosesNode}

not-not : (b : Bool) → not (not b) ≡ b
not-not true = refl
not-not false = refl

-- the nodes that are left, in their order
listed_left : (n : ℕ) (rows : List NodeRecord) → other_nodes n (map node_row rows) ≡ map node_row (without_record n rows)
listed_left n [] = refl
listed_left n (row ∷ rows) = by_test (row.id == n) (listed_left n rows)
  where
    by_test : (b : Bool) → other_nodes n (map node_row rows) ≡ map node_row (without_record n rows)
        → cond (not b) (node_row row ∷ other_nodes n (map node_row rows)) (other_nodes n (map node_row rows)) ≡ map node_row (cond (not b) (row ∷ without_record n rows) (without_record n rows))
    by_test true rest = rest
    by_test false rest = ap (λ (rs : List NodeRow). node_row row ∷ rs) rest

module _ (t u : RunTable) (filter source : ℕ) (kind : FilterKind) (h : TableStands t) (f : IsFilterOver t filter source kind) (e : LosesNode t u filter source) (nodes : Nodes)
    (alike : AreNodesOf t nodes) (joined : IsJoined nodes) where
  abbrev kinds : List NodeKind
  kinds = go.kinds t u filter source kind h f e nodes alike joined

  abbrev between : Nodes
  between = rewired kinds u.edges nodes

  abbrev pub left : Nodes
  left = nodes_without filter between

  between_joined : IsJoined between
  between_joined = joined_wiring nodes kinds u.edges joined (go.wiring t u filter source kind h f e nodes alike joined)

  -- ---- rows

  row_gone : row_at left filter ≡ None
  row_gone =
      let rows = between_joined.rows in let small = go.small t u filter source kind h f e nodes alike joined in get_or-set_same between.rows filter None None (omega (arith, rows, small))

  row_left : (n : ℕ) → n ≢ filter → row_at left n ≡ option_map (with_read_only (not (kind_at kinds n).writes)) (row_at nodes n)
  row_left n apart = get_or-set_other between.rows filter n None None apart ∙ row_then nodes kinds u.edges joined n

  small_still : (listed : NodeRecord) → IsOfFileLength listed.kind listed.size → IsOfFileLength (e.ended.f listed).kind (e.ended.f listed).size
  small_still listed is = elim (e.ended.only listed) [
    | inl same ↦ subst (λ (r : NodeRecord). IsOfFileLength r.kind r.size) (sym same) is
    | inr settles ↦ subst (λ (r : NodeRecord). IsOfFileLength r.kind r.size) (sym settles) is
  ]

  row_is : (n : ℕ) (listed : NodeRecord) (own : Row) → n ≢ filter → node_by_id t n ≡ Some listed → row_at nodes n ≡ Some own → IsRowOf listed own
      → IsRowOf (e.ended.f listed) (with_read_only (not (kind_at kinds n).writes) own)
  row_is n listed own apart found there is = record {
    kind = row_of e.ended.f e.ended.only (λ (r : NodeRecord). r.kind) (λ r. refl) listed ∙ is.kind;
    size = row_of e.ended.f e.ended.only (λ (r : NodeRecord). r.size) (λ r. refl) listed ∙ is.size;
    access =
        let less = joined.sound.small n (joined.only n (subst IsSome (sym there) refl)) in
        sym (ap (λ (k : NodeKind). not k.writes) (go.kind_row t u filter source kind h f e nodes alike joined n listed apart less found) ∙ not-not (e.ended.f listed).read_only);
    place = row_of e.ended.f e.ended.only (λ (r : NodeRecord). r.offset) (λ r. refl) listed ∙ is.place;
    small = small_still listed is.small;
  }

  rows_left : (n : ℕ) → AreAlike (node_by_id u n) (row_at left n)
  rows_left n = elim (cases_eq n filter) [
    | inl same ↦
        subst (λ (a : Option NodeRecord). AreAlike a (row_at left n)) (sym (ap (node_by_id u) same ∙ e.ended.gone))
        (subst (AreAlike None) (sym (ap (row_at left) same ∙ row_gone)) tt)
    | inr apart ↦
        subst (λ (a : Option NodeRecord). AreAlike a (row_at left n)) (sym (e.ended.found n apart))
        (subst (AreAlike (option_map e.ended.f (node_by_id t n))) (sym (row_left n apart)) (by_rows apart (node_by_id t n) (row_at nodes n) refl refl (alike.rows n)))
  ]
    where
      by_rows : n ≢ filter → (listed : Option NodeRecord) (own : Option Row) → node_by_id t n ≡ listed → row_at nodes n ≡ own → AreAlike listed own
          → AreAlike (option_map e.ended.f listed) (option_map (with_read_only (not (kind_at kinds n).writes)) own)
      by_rows apart None None found there is = tt
      by_rows apart None (Some own) found there is = is
      by_rows apart (Some listed) None found there is = is
      by_rows apart (Some listed) (Some own) found there is = row_is n listed own apart found there is

  -- ---- edges and devices

  edges_left : left.graph.edges ≡ u.edges
  edges_left =
      ap (refreshed kinds)
      (filter-all (λ (x : Edge). not (same_parent x.parent (Node filter))) u.edges
      (λ edge there. ap not (same_parent-false edge.parent (Node filter) (go.not_own t u filter source kind h f e nodes alike joined edge there))))
      ∙ refreshed-fixed kinds u.edges (go.refreshed_with t u filter source kind h f e nodes alike joined)

  pub devices_left : left.devices ≡ nodes.devices
  devices_left =
      filter-all (λ (d : DeviceSeen). not (is_device_of filter d)) nodes.devices
      (λ d there. ap not (find-None (is_device_of filter) nodes.devices (go.bare t u filter source kind h f e nodes alike joined) d there))

  left_alike : AreNodesOf u left
  left_alike = record { listed = ap (other_nodes filter) alike.listed ∙ listed_left filter t.nodes ∙ sym e.listed; edges = edges_left; rows = rows_left }

  driver_left : (n : ℕ) → n ≢ filter → option_map (λ (r : Row). r.driver) (row_at left n) ≡ option_map (λ (r : Row). r.driver) (row_at nodes n)
  driver_left n apart = ap (option_map (λ (r : Row). r.driver)) (row_left n apart) ∙ by_row (row_at nodes n)
    where
      by_row : (own : Option Row) → option_map (λ (r : Row). r.driver) (option_map (with_read_only (not (kind_at kinds n).writes)) own) ≡ option_map (λ (r : Row). r.driver) own
      by_row None = refl
      by_row (Some own) = refl

  pub pulls : (row : JobRecord) (now : Nodes) → row.filter ≡ Some filter → now ≡ left → IsJoined now → PullsFilter u row nodes now
  pulls row now is are after = record {
    alike = subst (AreNodesOf u) (sym are) left_alike;
    devices = ap (λ (x : Nodes). x.devices) are ∙ devices_left;
    drivers = λ n other. ap (λ (x : Nodes). option_map (λ (r : Row). r.driver) (row_at x n)) are ∙ driver_left n (λ same. other (is ∙ ap Some (sym same)));
    reads = λ reads goes n. readings now reads after goes n;
  }
