-- An overlay that is put over a node: it has the node as backing node, and then all parents of the node have it.
use Rattle.std.proofs.Common.{◌≡◌, ◌≢◌, ◌⊎◌, ℕ, Bool, true, false, cond, List, [], ◌∷◌, refl, sym, ap, subst, ◌∙◌, inl, inr, Option, Some, None, option_map}
use Rattle.std.specs.Prelude.{◌==◌, ◌&&◌, ◌||◌, not, IsSome}
use Rattle.std.specs.List.{find, Contains}
use Rattle.std.proofs.lemmas.Bool.{eqb-true, eq-eqb, ne_eqb, cases_eq, false_from_ne_true}
use Rattle.blk_graph.specs.declared.edge.Edge.{Edge}
use Rattle.blk_graph.specs.declared.edge.Parent.{Parent}
use Rattle.blk_graph.specs.declared.edge.Parent.TheVariants.{Node, Guest}
use Rattle.blk_graph.specs.declared.edge.Role.{Role}
use Rattle.blk_graph.specs.declared.edge.Role.TheVariants.{Drive, File, Backing, Filtered, Source, Target, Between, Base}
use Rattle.blk_graph.specs.declared.kind.Kind.TheVariants.{Protocol, Qcow2}
use Rattle.blk_graph.specs.declared.kind.NodeKind.{NodeKind}
use Rattle.blk_graph.specs.Edges.{same_parent, same_role}
use Rattle.blk_graph.specs.Edits.{is_edge, child_after, stays, replaced, takes_place, with_child, with_edge, with_replaced}
use Rattle.blk_graph.specs.Judged.{IsOverlayApart}
use Rattle.blk_graph.specs.Paths.{IsPath, Reaches}
use Rattle.blk_graph.specs.Permissions.{has_role, node_edge}
use Rattle.blk_graph.specs.Refreshed.{refreshed}
use Rattle.blk_graph.proofs.Members.{Contains-map, find-Some, map-Contains}
use Rattle.blk_graph.proofs.EditLemmas.{IsSameEdge, Contains-with_edge}
use Rattle.blk_graph.proofs.CycleLemmas.{and-left, same_parent-true}
use Rattle.blk_graph.proofs.RoleLemmas.{same_role-refl, same_role-true, takes_place-role}
use Rattle.blk_graph.proofs.ChildLemmas.{child-kept}
use Rattle.blk_graph.proofs.RuleLemmas.{find-None}
use Rattle.blk_graph.proofs.DraftLemmas.{children_replaced}
use Rattle.blk_graph.proofs.RefreshLemmas.{child_of-refreshed}
use Rattle.qmp_rules.specs.declared.rows.NodeRecord.{NodeRecord}
use Rattle.qmp_rules.specs.Table.{RunTable, child, node_by_id}
use Rattle.qmp_rules.specs.Chains.{filter_role}
use Rattle.qmp_rules.specs.Answers.{told_none}
use Rattle.flat_machine.specs.State.{drive_of}
use Rattle.flat_machine.specs.Wiring.{LeadsToFile, TableStands}
use Rattle.flat_machine.proofs.Rows.{same_row}
use Rattle.flat_machine.proofs.Tables.{refreshed-old, refreshed-new, with_edge-keeps}
use Rattle.flat_machine.proofs.TablesKept.{child-role}
use Rattle.flat_machine.proofs.TableSuited.{settled-free}
use Rattle.flat_machine.proofs.WritingKept.{role_edge}
use Rattle.flat_machine.proofs.Redirected.{LiesOver, Redirects}

-- ---- the backing edge

-- where edges lead that stay
abbrev pub staying : ℕ → ℕ
staying c = c

map-staying : (found : Option ℕ) → option_map staying found ≡ found
map-staying None = refl
map-staying (Some c) = refl

-- a node without a child of a role has no edge of it
pub no_edge_of : (t : RunTable) (node : ℕ) (role : Role) → child t node role ≡ None → (e : Edge) → Contains t.edges e → e.parent ≡ Node node
    → e.role ≡ role → ⊥
no_edge_of t node role none e there from is =
    let passes_not = find-None (is_edge (Node node) role) t.edges (none_found (find (is_edge (Node node) role) t.edges) refl none) e there in
    let passes : is_edge (Node node) role e ≡ true = rw (from, is, eq-eqb node node refl, same_role-refl role) refl in
    cc
  where
    none_found : (found : Option Edge) → find (is_edge (Node node) role) t.edges ≡ found → option_map (λ x. x.child) found ≡ None → found ≡ None
    none_found None f h = refl
    none_found (Some x) f h = absurd cc

-- so no edge has the place of a new one
place-free : (t : RunTable) (node overlay : ℕ) → child t overlay Backing ≡ None → (e : Edge) → Contains t.edges e
    → takes_place (node_edge overlay Backing node) e ≡ false
place-free t node overlay bare e there = false_from_ne_true (takes_place (node_edge overlay Backing node) e) (λ takes.
    let both = and-left (same_parent (Node overlay) e.parent && same_role Backing e.role)
    (not (same_role Backing Between) || node == e.child) takes in
    let from : e.parent ≡ Node overlay
    = sym (same_parent-true (Node overlay) e.parent (and-left (same_parent (Node overlay) e.parent) (same_role Backing e.role) both)) in
    no_edge_of t overlay Backing bare e there from (sym (takes_place-role (node_edge overlay Backing node) e takes)))

module _ (t : RunTable) (node overlay : NodeRecord) (kinds : List NodeKind) (bare : child t overlay.id Backing ≡ None) where
  abbrev backing_edge : Edge
  backing_edge = node_edge overlay.id Backing node.id

  other-role : (role : Role) → role ≢ Backing → same_role Backing role ≡ false
  other-role role differ = false_from_ne_true (same_role Backing role) (λ same. differ (sym (same_role-true Backing role same)))

  pub attached : Redirects t (refreshed kinds (with_edge backing_edge t.edges)) node.id overlay.id staying
  attached = record {
    others = λ c other. refl;
    at_node = inl refl;
    old = λ e there.
        let from = refreshed-old kinds (with_edge backing_edge t.edges) e there in
        elim (Contains-with_edge backing_edge t.edges from.edge from.there) [
          | inl is ↦ inr (subst (λ x. IsSameEdge x e) is from.same)
          | inr was ↦ inl (record {
            edge = from.edge;
            there = was;
            parent = from.same.parent;
            role = from.same.role;
            leads = inl (sym from.same.child);
            file = λ file. sym from.same.child;
          })
        ];
    keeps = λ e there other.
        refreshed-new kinds (with_edge backing_edge t.edges) e
        (with_edge-keeps backing_edge t.edges e (place-free t node.id overlay.id bare e there) there);
    children = λ n role other.
        child_of-refreshed kinds (Node n) role (with_edge backing_edge t.edges)
        ∙ child-role (Node n) role backing_edge t.edges (other-role role other) ∙ sym (map-staying (child t n role));
    drives = λ g.
        child_of-refreshed kinds (Guest g) Drive (with_edge backing_edge t.edges)
        ∙ child-kept (Guest g) Drive backing_edge t.edges (λ same. cc) ∙ sym (map-staying (drive_of t g));
  }

-- ---- edges that lead to the overlay

abbrev pub moving : ℕ → ℕ → ℕ → ℕ
moving node overlay c = cond (c == node) overlay c

module _ (t : RunTable) (node overlay : NodeRecord) (kinds : List NodeKind) (over : LiesOver t node overlay) (h : TableStands t) where
  abbrev but : Option Parent
  but = Some (Node overlay.id)

  abbrev moved_edges : List Edge
  moved_edges = with_replaced node.id overlay.id but t.edges

  -- the overlay isn't over the node by its file
  apart_by_file : (e : Edge) → Contains t.edges e → e.role ≡ File → e.parent ≡ Node overlay.id → e.child ≡ node.id → ⊥
  apart_by_file e there role parent is = by_name node.filename refl
    where
      own : filter_role overlay.kind ≡ None
      own = ap filter_role over.driver

      leads : LeadsToFile t overlay node
      leads = record {
        over_there = over.overlay_there;
        under_there = over.node_there;
        edge = e;
        there = there;
        parent = parent;
        role = role;
        child = is;
      }

      by_name : (name : Option (List ℕ)) → node.filename ≡ name → ⊥
      by_name (Some name) k =
          settled-free t told_none h node over.node_there over.disk.settled node overlay (h.apart node over.node_there) (subst IsSome (sym k) refl) leads own
      by_name None k =
          let filter = h.filtered overlay node leads k in
          let bad = subst IsSome own filter in
          cc

  leads_either : (e : Edge) → ((replaced node.id overlay.id but e).child ≡ e.child) ⊎ ((replaced node.id overlay.id but e).child ≡ moving node.id overlay.id e.child)
  leads_either e = by_test (e.child == node.id) (stays but e.parent)
    where
      by_test : (a b : Bool) → ((cond (a && not b) (with_child overlay.id e) e).child ≡ e.child)
          ⊎ ((cond (a && not b) (with_child overlay.id e) e).child ≡ cond a overlay.id e.child)
      by_test true true = inl refl
      by_test true false = inr refl
      by_test false b = inl refl

  replaced_parent : (e : Edge) → (replaced node.id overlay.id but e).parent ≡ e.parent
  replaced_parent e = by_test (e.child == node.id && not (stays but e.parent))
    where
      by_test : (b : Bool) → (cond b (with_child overlay.id e) e).parent ≡ e.parent
      by_test true = refl
      by_test false = refl

  replaced_role : (e : Edge) → (replaced node.id overlay.id but e).role ≡ e.role
  replaced_role e = by_test (e.child == node.id && not (stays but e.parent))
    where
      by_test : (b : Bool) → (cond b (with_child overlay.id e) e).role ≡ e.role
      by_test true = refl
      by_test false = refl

  -- a node's file edge goes where edges into its child go
  leads_files : (e : Edge) → Contains t.edges e → e.role ≡ File
      → (replaced node.id overlay.id but e).child ≡ moving node.id overlay.id e.child
  leads_files e there role = elim (cases_eq e.child node.id) [
    | inr other ↦ rw (ne_eqb e.child node.id other) refl
    | inl is ↦
        let of = h.single e there role in
        let apart : overlay.id ≢ of.0 = λ same. apart_by_file e there role (of.1.0 ∙ ap Node (sym same)) is in
        let leaves : stays but e.parent ≡ false = rw (of.1.0, ne_eqb overlay.id of.0 apart) refl in
        rw (leaves, eq-eqb e.child node.id is) refl
  ]

  after_moves : (n c : ℕ) → n ≢ overlay.id → child_after node.id overlay.id but (Node n) c ≡ moving node.id overlay.id c
  after_moves n c apart = by_child (c == node.id)
    where
      leaves : stays but (Node n) ≡ false
      leaves = rw (ne_eqb overlay.id n (λ same. apart (sym same))) refl

      by_child : (b : Bool) → cond (b && not (stays but (Node n))) overlay.id c ≡ cond b overlay.id c
      by_child true = rw leaves refl
      by_child false = refl

  after_guest : (g c : ℕ) → child_after node.id overlay.id but (Guest g) c ≡ moving node.id overlay.id c
  after_guest g c = by_child (c == node.id)
    where
      by_child : (b : Bool) → cond (b && not (stays but (Guest g))) overlay.id c ≡ cond b overlay.id c
      by_child true = refl
      by_child false = refl

  map-both : (f g : ℕ → ℕ) → ((c : ℕ) → f c ≡ g c) → (found : Option ℕ) → option_map f found ≡ option_map g found
  map-both f g each None = refl
  map-both f g each (Some c) = ap (λ (n : ℕ). Some n) (each c)

  -- the overlay's file stays
  own_child : (role : Role) → role ≢ Backing → (found : Option ℕ) → child t overlay.id role ≡ found
      → option_map (child_after node.id overlay.id but (Node overlay.id)) found ≡ option_map (moving node.id overlay.id) found
  own_child role other None is = refl
  own_child role other (Some c) is =
      let e = role_edge (Node overlay.id) role t.edges c is in
      let has = h.roles e.edge overlay e.there over.overlay_there e.from in
      let file : e.edge.role ≡ File = image_role e.edge.role (subst (λ k. has_role k e.edge.role ≡ true) over.driver has) (λ same. other (sym e.role_is ∙ same)) in
      let apart : c ≢ node.id = λ same. apart_by_file e.edge e.there file e.from (e.to ∙ same) in
      rw (ne_eqb c node.id apart) refl
    where
      image_role : (r : Role) → has_role Qcow2 r ≡ true → r ≢ Backing → r ≡ File
      image_role File has differ = refl
      image_role Backing has differ = absurd (differ refl)
      image_role Drive has differ = absurd cc
      image_role Filtered has differ = absurd cc
      image_role Source has differ = absurd cc
      image_role Target has differ = absurd cc
      image_role Between has differ = absurd cc
      image_role Base has differ = absurd cc

  pub moved : Redirects t (refreshed kinds moved_edges) node.id overlay.id (moving node.id overlay.id)
  moved = record {
    others = λ c other. rw (ne_eqb c node.id other) refl;
    at_node = inr (rw (eq-eqb node.id node.id refl) refl);
    old = λ e there.
        let from = refreshed-old kinds moved_edges e there in
        let was = Contains-map (replaced node.id overlay.id but) t.edges from.edge from.there in
        let child_is : e.child ≡ (replaced node.id overlay.id but was.0).child = sym from.same.child ∙ ap (λ x. x.child) was.2 in
        inl (record {
          edge = was.0;
          there = was.1;
          parent = sym (replaced_parent was.0) ∙ ap (λ x. x.parent) (sym was.2) ∙ from.same.parent;
          role = sym (replaced_role was.0) ∙ ap (λ x. x.role) (sym was.2) ∙ from.same.role;
          leads = elim (leads_either was.0) [
            | inl same ↦ inl (child_is ∙ same)
            | inr led ↦ inr (child_is ∙ led)
          ];
          file = λ role. child_is ∙ leads_files was.0 was.1 role;
        });
    keeps = λ e there other.
        let same : replaced node.id overlay.id but e ≡ e = rw (ne_eqb e.child node.id other) refl in
        refreshed-new kinds moved_edges e
        (subst (λ x. Contains moved_edges x) same (map-Contains (replaced node.id overlay.id but) t.edges e there));
    children = λ n role other.
        child_of-refreshed kinds (Node n) role moved_edges ∙ children_replaced node.id overlay.id but t.edges (Node n) role
        ∙ elim (cases_eq n overlay.id) [
          | inl is ↦
              ap (λ m. option_map (child_after node.id overlay.id but (Node m)) (child t m role)) is
              ∙ own_child role other (child t overlay.id role) refl
              ∙ ap (λ m. option_map (moving node.id overlay.id) (child t m role)) (sym is)
          | inr apart ↦ map-both _ _ (λ c. after_moves n c apart) (child t n role)
        ];
    drives = λ g.
        child_of-refreshed kinds (Guest g) Drive moved_edges ∙ children_replaced node.id overlay.id but t.edges (Guest g) Drive
        ∙ map-both _ _ (λ c. after_guest g c) (drive_of t g);
  }

-- ---- no cycle

module _ (t : RunTable) (node overlay : NodeRecord) (over : LiesOver t node overlay) (bare : child t overlay.id Backing ≡ None) (h : TableStands t) where
  -- a `file` node makes no edges
  none_from_file : (e : Edge) (row : NodeRecord) → Contains t.edges e → Contains t.nodes row → e.parent ≡ Node row.id → IsSome row.filename → ⊥
  none_from_file e row there row_there from = by_name row.filename refl
    where
      no_role : (role : Role) → has_role Protocol role ≡ true → ⊥
      no_role role has = cc

      by_name : (name : Option (List ℕ)) → row.filename ≡ name → IsSome name → ⊥
      by_name None is some = cc
      by_name (Some name) is some =
          let kind = h.drivers name row (record { there = row_there; filename = is }) in
          no_role e.role (subst (λ k. has_role k e.role ≡ true) kind (h.roles e row there row_there from))

  -- the overlay's only edge leads to its file
  pub record LeadsToOwnFile (e : Edge) : Type 0 where
    pub under : NodeRecord
    pub there : Contains t.nodes under
    pub leads : e.child ≡ under.id
    pub named : IsSome under.filename
    pub gone : under.is_settled ≡ false

  from_overlay : (e : Edge) → Contains t.edges e → e.parent ≡ Node overlay.id → LeadsToOwnFile e
  from_overlay e there from = by_row (node_by_id t e.child) refl (h.edges e there).child
    where
      role_is : (role : Role) → e.role ≡ role → has_role Qcow2 role ≡ true → e.role ≡ File
      role_is File is has = is
      role_is Backing is has = absurd (no_edge_of t overlay.id Backing bare e there from is)
      role_is Drive is has = absurd cc
      role_is Filtered is has = absurd cc
      role_is Source is has = absurd cc
      role_is Target is has = absurd cc
      role_is Between is has = absurd cc
      role_is Base is has = absurd cc

      file : e.role ≡ File
      file = role_is e.role refl (subst (λ k. has_role k e.role ≡ true) over.driver (h.roles e overlay there over.overlay_there from))

      by_row : (found : Option NodeRecord) → node_by_id t e.child ≡ found → IsSome found → LeadsToOwnFile e
      by_row None is some = absurd cc
      by_row (Some under) is some =
          let here = find-Some (λ r. r.id == e.child) t.nodes under is in
          let to : e.child ≡ under.id = sym (eqb-true under.id e.child here.1) in
          by_name under here.0 to (record {
            over_there = over.overlay_there;
            under_there = here.0;
            edge = e;
            there = there;
            parent = from;
            role = file;
            child = to;
          }) under.filename refl
        where
          by_name : (under : NodeRecord) → Contains t.nodes under → e.child ≡ under.id → LeadsToFile t overlay under → (name : Option (List ℕ))
              → under.filename ≡ name → LeadsToOwnFile e
          by_name under there to of None is =
              let filter = h.filtered overlay under of is in
              let none = subst (λ k. IsSome (filter_role k)) over.driver filter in
              absurd cc
          by_name under there to of (Some name) is =
              let some : IsSome under.filename = subst IsSome (sym is) refl in
              record { under = under; there = there; leads = to; named = some; gone = (h.taken overlay under of some (ap filter_role over.driver)).gone }

  away : Reaches t.edges overlay.id node.id → ⊥
  away reaches = by_rest reaches.rest reaches.path.2
    where
      below : LeadsToOwnFile reaches.first
      below = from_overlay reaches.first reaches.path.0 reaches.path.1

      by_rest : (rest : List Edge) → IsPath t.edges reaches.first.child rest node.id → ⊥
      by_rest [] is =
          let same = same_row t h.apart node below.under over.node_there below.there (sym below.leads ∙ is) in
          let settled = ap (λ r. r.is_settled) same ∙ over.disk.settled in
          let gone = below.gone in
          cc
      by_rest (e ∷ rest) path = none_from_file e below.under path.0 below.there (path.1 ∙ ap Node below.leads) below.named

  -- nothing leads to the overlay, and it doesn't lead to the node
  pub overlay_apart : IsOverlayApart t.edges node.id overlay.id
  overlay_apart = record { differ = over.other; unused = λ e there is. over.lone e there is; away = away }
