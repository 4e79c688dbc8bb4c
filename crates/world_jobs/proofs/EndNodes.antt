-- The nodes may take the edges that the end of a backup or mirror leaves, and then lose its filter.
use Rattle.std.proofs.Common.{◌≡◌, ◌≢◌, ℕ, ◌<◌, ◌==◌, ◌&&◌, true, List, Option, Some, None, refl, sym, ◌∙◌, ap, subst, arith, inl, inr}
use Rattle.std.specs.Prelude.{Contains, IsSome, option_map, unwrap_or}
use Rattle.std.proofs.lemmas.Bool.{cases_eq, ne_eqb}
use Rattle.std.proofs.lemmas.List.{get_or-set_other, get_or-set_same, length-set}
use Rattle.blk_graph.specs.Edges.{HasNumber, same_role}
use Rattle.blk_graph.specs.Edits.{child_of, is_edge}
use Rattle.blk_graph.specs.Graph.{HasNode, HasParent}
use Rattle.blk_graph.specs.Judged.{first_parent}
use Rattle.blk_graph.specs.Permissions.{has_role, uses_by}
use Rattle.blk_graph.specs.Refreshed.{IsOf, IsRefreshed, kind_at, no_kind, ruled_from, uses_into, with_uses}
use Rattle.blk_graph.specs.declared.edge.Edge.{Edge}
use Rattle.blk_graph.specs.declared.edge.Parent.{Parent}
use Rattle.blk_graph.specs.declared.edge.Parent.TheVariants.{Guest, Job, Node}
use Rattle.blk_graph.specs.declared.edge.Role.{Role}
use Rattle.blk_graph.specs.declared.edge.Role.TheVariants.{Between, File as FileRole, Filtered}
use Rattle.blk_graph.specs.declared.kind.Kind.{Kind}
use Rattle.blk_graph.specs.declared.kind.NodeKind.{NodeKind}
use Rattle.blk_graph.proofs.InverseLemmas.{same_parent-false}
use Rattle.blk_graph.proofs.RuleLemmas.{find-none}
use Rattle.blk_history.specs.Fold.{With}
use Rattle.blk_nodes.specs.Joined.{HasBelow, HasSize, IsCopying, IsFile, IsJoined}
use Rattle.blk_nodes.specs.Nodes.{Nodes, device_in, driver_kind, filter_kind, row_at}
use Rattle.blk_nodes.specs.Rewiring.{AreKindsKept, IsWiring}
use Rattle.blk_nodes.specs.declared.row.Driver.{Driver}
use Rattle.blk_nodes.specs.declared.row.Driver.TheVariants.{CopyOnRead}
use Rattle.blk_nodes.specs.declared.row.FilterKind.{FilterKind}
use Rattle.blk_nodes.specs.declared.row.Row.{Row}
use Rattle.qmp_rules.specs.Chains.{filter_role}
use Rattle.qmp_rules.specs.Queries.{bytes_of_node}
use Rattle.qmp_rules.specs.Table.{RunTable, kind_of_record, kinds_of, node_by_id}
use Rattle.qmp_rules.specs.declared.rows.NodeRecord.{NodeRecord}
use Rattle.flat_machine.specs.Agreement.{HasDisk}
use Rattle.flat_machine.specs.Suiting.{IsThere}
use Rattle.flat_machine.specs.Wiring.{TableStands}
use Rattle.flat_machine.proofs.Redrawn.{keeps_size}
use Rattle.flat_machine.proofs.RowKinds.{kind_by, kind_of_none, kind_or, length-kinds_of}
use Rattle.job_entries.proofs.Files.{IsNoFile, IsOwn, filter_no_file, free_no_file}
use Rattle.world_parts.specs.Coherent.{AreAlike, AreNodesOf, IsRowOf}
use Rattle.world_parts.proofs.JobFilters.{filter_keeps, filters_role}
use Rattle.world_goings.proofs.EndTables.{led, led_filter, led_other, led_source, row_of}
use Rattle.world_jobs.specs.Ending.{FilterCanGo}
use Rattle.world_jobs.specs.Filtering.{filter_only, kinds_with}
use Rattle.world_jobs.proofs.EndTable.{IsFilterOver, LosesNode}
use Rattle.world_jobs.proofs.StartWired.{between_keeps, sized_below}
use Rattle.world_jobs.proofs.Wirings.{EdgesFit, takes_wiring}

-- a row of the table and one of the nodes
pub record HasListed (t : RunTable) (n : ℕ) (own : Row) : Type 0 where
  pub listed : NodeRecord
  pub found : node_by_id t n ≡ Some listed
  pub is : IsRowOf listed own

pub record HasOwn (nodes : Nodes) (n : ℕ) (listed : NodeRecord) : Type 0 where
  pub own : Row
  pub there : row_at nodes n ≡ Some own
  pub is : IsRowOf listed own

pub has_listed : (t : RunTable) (nodes : Nodes) → AreNodesOf t nodes → (n : ℕ) (own : Row) → row_at nodes n ≡ Some own → HasListed t n own
has_listed t nodes alike n own there = by_row (node_by_id t n) refl (subst (AreAlike (node_by_id t n)) there (alike.rows n))
  where
    by_row : (found : Option NodeRecord) → node_by_id t n ≡ found → AreAlike found (Some own) → HasListed t n own
    by_row None e bad = absurd bad
    by_row (Some listed) e is = record { listed = listed; found = e; is = is }

pub has_own : (t : RunTable) (nodes : Nodes) → AreNodesOf t nodes → (n : ℕ) (listed : NodeRecord) → node_by_id t n ≡ Some listed → HasOwn nodes n listed
has_own t nodes alike n listed found = by_row (row_at nodes n) refl (subst (λ (x : Option NodeRecord). AreAlike x (row_at nodes n)) found (alike.rows n))
  where
    by_row : (own : Option Row) → row_at nodes n ≡ own → AreAlike (Some listed) own → HasOwn nodes n listed
    by_row None e bad = absurd bad
    by_row (Some own) e is = record { own = own; there = e; is = is }

some_of : {A : Type 0} (found : Option A) → IsSome found → (a : A) × (found ≡ Some a)
some_of None some = absurd cc
some_of (Some a) some = (a, refl)

none_if : {A : Type 0} (found : Option A) → (IsSome found → ⊥) → found ≡ None
none_if None not = refl
none_if (Some a) not = absurd (not refl)

module _ (t u : RunTable) (filter source : ℕ) (kind : FilterKind) (h : TableStands t) (f : IsFilterOver t filter source kind) (e : LosesNode t u filter source) (nodes : Nodes)
    (alike : AreNodesOf t nodes) (joined : IsJoined nodes) where
  abbrev pub kinds : List NodeKind
  kinds = kinds_with kind filter (kinds_of u.nodes)

  -- ---- nodes

  in_graph : (n : ℕ) → IsThere t n → HasNode nodes.graph n
  in_graph n there =
      let found = some_of (node_by_id t n) there in
      joined.only n (subst IsSome (sym (has_own t nodes alike n found.0 found.1).there) refl)

  pub filter_there : HasNode nodes.graph filter
  filter_there = in_graph filter (subst IsSome (sym f.is.there) refl)

  pub small : filter < 64
  small = joined.sound.small filter filter_there

  was_there : (n : ℕ) → IsThere u n → (n ≢ filter) × IsThere t n
  was_there n there = elim (cases_eq n filter) [
    | inl same ↦ absurd (let bad : IsSome {T = NodeRecord} None = subst IsSome (ap (node_by_id u) same ∙ e.ended.gone) there in let no : ⊥ = cc bad in no)
    | inr apart ↦ (apart, by_row (node_by_id t n) refl (subst IsSome (e.ended.found n apart) there))
  ]
    where
      by_row : (found : Option NodeRecord) → node_by_id t n ≡ found → IsSome (option_map e.ended.f (node_by_id t n)) → IsThere t n
      by_row None is bad = absurd (let no : IsSome {T = NodeRecord} None = subst (λ (x : Option NodeRecord). IsSome (option_map e.ended.f x)) is bad in let bot : ⊥ = cc no in bot)
      by_row (Some r) is some = subst IsSome (sym is) refl

  -- ---- kinds

  pub kind_other : (n : ℕ) → n ≢ filter → kind_at kinds n ≡ kind_at (kinds_of u.nodes) n
  kind_other n apart = get_or-set_other (kinds_of u.nodes) filter n (filter_only kind) no_kind apart

  kind_own : kind_at kinds filter ≡ filter_only kind
  kind_own = get_or-set_same (kinds_of u.nodes) filter (filter_only kind) no_kind (omega (arith, small, length-kinds_of u.nodes))

  -- that of a node by its row
  pub kind_row : (n : ℕ) (listed : NodeRecord) → n ≢ filter → n < 64 → node_by_id t n ≡ Some listed → kind_at kinds n ≡ kind_of_record (e.ended.f listed)
  kind_row n listed apart less found =
      kind_other n apart ∙ kind_by u n e.stands.apart less ∙ ap (kind_or no_kind) (e.ended.found n apart ∙ ap (option_map e.ended.f) found)

  -- ---- edges

  -- no edge is one of the filter
  pub not_own : (edge : Edge) → Contains u.edges edge → edge.parent ≢ Node filter
  not_own edge there is = (was_there filter ((e.stands.edges edge there).parent filter is)).0 refl

  -- and none leads to it
  pub not_into : (edge : Edge) → Contains u.edges edge → edge.child ≢ filter
  not_into edge there is = (was_there edge.child (e.stands.edges edge there).child).0 is

  parent_fits : (edge : Edge) → Contains u.edges edge → (p : Parent) → edge.parent ≡ p → HasParent nodes.graph p
  parent_fits edge there (Node n) is = in_graph n (was_there n ((e.stands.edges edge there).parent n is)).1
  parent_fits edge there (Guest g) is = subst (λ (p : Parent). HasNumber p) is (e.drawn.listed.each edge there).number
  parent_fits edge there (Job j) is = subst (λ (p : Parent). HasNumber p) is (e.drawn.listed.each edge there).number

  by_table : (edge : Edge) → Contains u.edges edge → (p : Parent) → edge.parent ≡ p → IsOf (kinds_of u.nodes) edge p → IsOf kinds edge p
  by_table edge there (Node n) is has =
      subst (λ (k : NodeKind). has_role k.kind edge.role ≡ true) (sym (kind_other n (λ same. not_own edge there (is ∙ ap Node same)))) has
  by_table edge there (Guest g) is has = has
  by_table edge there (Job j) is has = has

  ruled_same : (edge : Edge) → Contains u.edges edge → (p : Parent) → edge.parent ≡ p → ruled_from kinds (uses_into u.edges) edge p ≡ ruled_from (kinds_of u.nodes) (uses_into u.edges) edge p
  ruled_same edge there (Node n) is =
      ap (λ (k : NodeKind). with_uses edge (uses_by k edge.role (uses_into u.edges n))) (kind_other n (λ same. not_own edge there (is ∙ ap Node same)))
  ruled_same edge there (Guest g) is = refl
  ruled_same edge there (Job j) is = refl

  pub refreshed_with : IsRefreshed kinds u.edges
  refreshed_with edge there = ruled_same edge there edge.parent refl ∙ e.drawn.refreshed edge there

  -- ---- below the nodes

  -- the filter's row
  filter_row : (own : Row) → row_at nodes filter ≡ Some own → driver_kind own.driver ≡ filter_kind kind
  filter_row own there =
      let a = has_listed t nodes alike filter own there in
      let rows : Some a.listed ≡ Some f.is.node = sym a.found ∙ f.is.there in
      let one : a.listed ≡ f.is.node = cc rows in
      sym a.is.kind ∙ ap (λ (r : NodeRecord). r.kind) one ∙ f.of_kind

  -- a node that filters nothing isn't it
  filter_other : (n : ℕ) (own : Row) → row_at nodes n ≡ Some own → filter_role (driver_kind own.driver) ≢ Some Filtered → n ≢ filter
  filter_other n own there role same = role (ap filter_role (filter_row own (ap (row_at nodes) (sym same) ∙ there)) ∙ filters_role kind)

  kinds_kept : AreKindsKept nodes kinds
  kinds_kept n row there = elim (cases_eq n filter) [
    | inl same ↦ ap (λ m. (kind_at kinds m).kind) same ∙ ap (λ (k : NodeKind). k.kind) kind_own ∙ sym (filter_row row (ap (row_at nodes) (sym same) ∙ there))
    | inr apart ↦
        let a = has_listed t nodes alike n row there in
        let less = joined.sound.small n (joined.only n (subst IsSome (sym there) refl)) in
        ap (λ (k : NodeKind). k.kind) (kind_row n a.listed apart less a.found) ∙ row_of e.ended.f e.ended.only (λ (r : NodeRecord). r.kind) (λ r. refl) a.listed ∙ a.is.kind
  ]

  edges_fit : EdgesFit nodes kinds u.edges
  edges_fit = record {
    count = length-set (kinds_of u.nodes) filter (filter_only kind) ∙ length-kinds_of u.nodes;
    vacant = λ n absent.
        let apart : n ≢ filter = λ same. absent (subst (HasNode nodes.graph) (sym same) filter_there) in
        kind_other n apart ∙ kind_of_none u n (none_if (node_by_id u n) (λ there. absent (in_graph n (was_there n there).1)));
    alike = kinds_kept;
    fit = record {
      each = λ edge there. record {
        parent = parent_fits edge there edge.parent refl;
        child = in_graph edge.child (was_there edge.child (e.stands.edges edge there).child).1;
        table = by_table edge there edge.parent refl (e.drawn.table edge there);
      };
      places = e.drawn.listed.places;
    };
    acyclic = e.stands.acyclic;
    derived = refreshed_with;
    rule = e.drawn.rule;
  }

  -- ---- where edges lead

  child_then : (n : ℕ) (role : Role) → n ≢ filter → role ≢ Between → child_of (Node n) role u.edges ≡ option_map (led filter source e.to) (child_of (Node n) role nodes.graph.edges)
  child_then n role apart single = e.ended.nodes n role apart single ∙ ap (λ (es : List Edge). option_map (led filter source e.to) (child_of (Node n) role es)) (sym alike.edges)

  no_child : (role : Role) → child_of (Node filter) role u.edges ≡ None
  no_child role =
      ap (option_map (λ (x : Edge). x.child))
      (find-none (is_edge (Node filter) role) u.edges
      (λ edge there. ap (λ b. b && same_role edge.role role) (same_parent-false edge.parent (Node filter) (not_own edge there))))

  -- a format node's file stays
  files : (n : ℕ) (row : Row) → row_at nodes n ≡ Some row → filter_role (driver_kind row.driver) ≡ None
      → child_of (Node n) FileRole u.edges ≡ child_of (Node n) FileRole nodes.graph.edges
  files n row there none =
      child_then n FileRole (filter_other n row there (λ same. let bad : None ≡ Some Filtered = sym none ∙ same in let no : ⊥ = cc bad in no))
      (λ same. let no : ⊥ = cc same in no)
      ∙ by_child (child_of (Node n) FileRole nodes.graph.edges) refl
    where
      format : IsOwn t n
      format = let a = has_listed t nodes alike n row there in record { row = a.listed; found = a.found; own = ap filter_role a.is.kind ∙ none }

      other : (c : ℕ) → child_of (Node n) FileRole nodes.graph.edges ≡ Some c → (m : ℕ) → IsNoFile t m → c ≢ m
      other c is m free same = free n format (ap (child_of (Node n) FileRole) (sym alike.edges) ∙ is ∙ ap Some same)

      by_child : (found : Option ℕ) → child_of (Node n) FileRole nodes.graph.edges ≡ found → option_map (led filter source e.to) found ≡ found
      by_child None is = refl
      by_child (Some c) is =
          ap Some
          (led_other filter source e.to c
          (other c is filter (filter_no_file t h filter f.is.node f.is.there (subst IsSome (sym f.is.role) refl)))
          (other c is source (free_no_file t h source f.is.plain.free)))

  copies : (n : ℕ) (row : Row) → row_at nodes n ≡ Some row → row.driver ≡ CopyOnRead → (below : ℕ) × (child_of (Node n) FileRole u.edges ≡ Some below)
  copies n row there is =
      let below : IsCopying nodes n row.size = subst (HasBelow nodes n row.size) is (joined.below n row there) in (
        led filter source e.to below.child,
        child_then n FileRole
            (filter_other n row there
            (λ same. let bad : Some FileRole ≡ Some Filtered = sym (ap (λ (d : Driver). filter_role (driver_kind d)) is) ∙ same in let no : ⊥ = cc bad in no))
            (λ same. let no : ⊥ = cc same in no)
            ∙ ap (option_map (led filter source e.to)) below.edge,
      )

  -- what used the source finds its size
  onto_size : (size : ℕ) → HasSize nodes source size → HasSize nodes e.to size
  onto_size size has =
      let s = has_listed t nodes alike source has.row has.there in
      let there = was_there e.to (some_with (node_by_id u e.to) e.onto.disk) in
      let l = some_of (node_by_id t e.to) there.1 in
      let own = has_own t nodes alike e.to l.0 l.1 in
      let to_size : bytes_of_node t e.to ≡ own.own.size = ap size_in l.1 ∙ own.is.size in
      let source_size : bytes_of_node t source ≡ has.row.size = ap size_in s.found ∙ s.is.size in
      record { row = own.own; there = own.there; is = sym to_size ∙ e.onto.size ∙ source_size ∙ has.is }
    where
      size_in : Option NodeRecord → ℕ
      size_in found = unwrap_or (option_map (λ (r : NodeRecord). r.size) found) 0

      some_with : (found : Option NodeRecord) → With found HasDisk → IsSome found
      some_with None none = absurd none
      some_with (Some r) disk = refl

  led_size : (n size : ℕ) → HasSize nodes n size → HasSize nodes (led filter source e.to n) size
  led_size n size has = elim (cases_eq n filter) [
    | inl same ↦
        subst (λ m. HasSize nodes m size) (sym (ap (led filter source e.to) same ∙ led_filter filter source e.to))
        (onto_size size
        (subst (HasSize nodes source) has.is
        (sized_below nodes joined filter has.row Filtered source (ap (row_at nodes) (sym same) ∙ has.there) (ap (child_of (Node filter) Filtered) alike.edges ∙ f.is.over)
        (ap (λ (k : Kind). keeps_size k Filtered) (filter_row has.row (ap (row_at nodes) (sym same) ∙ has.there)) ∙ filter_keeps kind))))
    | inr apart ↦ elim (cases_eq n source) [
      | inl same ↦
          subst (λ m. HasSize nodes m size) (sym (ap (led filter source e.to) same ∙ led_source filter source e.to (λ is. apart (same ∙ is))))
          (onto_size size (subst (λ m. HasSize nodes m size) same has))
      | inr other ↦ subst (λ m. HasSize nodes m size) (sym (led_other filter source e.to n apart other)) has
    ]
  ]

  sizes : (n : ℕ) (row : Row) (role : Role) (below : ℕ) → row_at nodes n ≡ Some row → child_of (Node n) role u.edges ≡ Some below
      → keeps_size (driver_kind row.driver) role ≡ true → HasSize nodes below row.size
  sizes n row role below there is keeps = elim (cases_eq n filter) [
    | inl same ↦ absurd (let bad : None ≡ Some below = sym (no_child role) ∙ ap (λ m. child_of (Node m) role u.edges) (sym same) ∙ is in let no : ⊥ = cc bad in no)
    | inr apart ↦ by_child (child_of (Node n) role nodes.graph.edges) refl (sym (child_then n role apart single) ∙ is)
  ]
    where
      single : role ≢ Between
      single same = between_keeps (driver_kind row.driver) (subst (λ (r : Role). keeps_size (driver_kind row.driver) r ≡ true) same keeps)

      by_child : (found : Option ℕ) → child_of (Node n) role nodes.graph.edges ≡ found → option_map (led filter source e.to) (child_of (Node n) role nodes.graph.edges) ≡ Some below
          → HasSize nodes below row.size
      by_child None was to = absurd (let bad : None ≡ Some below = sym (ap (option_map (led filter source e.to)) was) ∙ to in let no : ⊥ = cc bad in no)
      by_child (Some m) was to =
          let both : Some (led filter source e.to m) ≡ Some below = sym (ap (option_map (led filter source e.to)) was) ∙ to in
          let same : led filter source e.to m ≡ below = cc both in
          subst (λ x. HasSize nodes x row.size) same (led_size m row.size (sized_below nodes joined n row role m there was keeps))

  -- ---- all of it

  pub wiring : IsWiring nodes kinds u.edges
  wiring = takes_wiring nodes kinds u.edges joined edges_fit (record { files = files; copies = copies; sizes = sizes })

  pub bare : device_in nodes.devices filter ≡ None
  bare = none_if (device_in nodes.devices filter) (λ some. file_apart (joined.devices filter some))
    where
      file_apart : IsFile nodes filter → ⊥
      file_apart is =
          filter_other filter is.row is.there
          (λ same. let bad : None ≡ Some Filtered = sym (ap (λ (d : Driver). filter_role (driver_kind d)) is.driver) ∙ same in let no : ⊥ = cc bad in no) refl

  lone : first_parent filter u.edges ≡ None
  lone = ap (option_map (λ (x : Edge). x.parent)) (find-none (λ (x : Edge). x.child == filter) u.edges (λ edge there. ne_eqb edge.child filter (not_into edge there)))

  pub can_go : FilterCanGo u nodes kind filter
  can_go = record { wiring = wiring; there = filter_there; lone = lone; bare = bare }
