-- A node gets another backing node, or none: what holds of tables stays.
use Rattle.std.proofs.Common.{◌≡◌, ◌≢◌, ℕ, Bool, true, false, List, refl, sym, ap, subst, ◌∙◌, inl, inr, Option, Some, None, option_map}
use Rattle.std.specs.Prelude.{◌==◌, ◌&&◌, ◌||◌, not, option_and_then}
use Rattle.std.specs.List.{Contains}
use Rattle.std.proofs.lemmas.Bool.{eqb-true, false_from_ne_true}
use Rattle.blk_graph.specs.declared.edge.Edge.{Edge}
use Rattle.blk_graph.specs.declared.edge.Parent.{Parent}
use Rattle.blk_graph.specs.declared.edge.Parent.TheVariants.{Node, Guest}
use Rattle.blk_graph.specs.declared.edge.Role.{Role}
use Rattle.blk_graph.specs.declared.edge.Role.TheVariants.{Drive, File, Backing, Filtered, Between}
use Rattle.blk_graph.specs.declared.kind.Kind.{Kind}
use Rattle.blk_graph.specs.declared.kind.Kind.TheVariants.{Protocol, Raw, Qcow2, CopyOnRead, BeforeWrite, Mirror, Commit}
use Rattle.blk_graph.specs.Edges.{same_parent, same_role}
use Rattle.blk_graph.specs.Edits.{is_edge, takes_place, with_edge, without_edge}
use Rattle.blk_graph.specs.Paths.{IsAcyclic}
use Rattle.blk_graph.specs.Permissions.{node_edge, has_role}
use Rattle.blk_graph.specs.Refreshed.{refreshed}
use Rattle.blk_graph.proofs.Members.{find-Some, Contains-filter}
use Rattle.blk_graph.proofs.EditLemmas.{IsSameEdge, Contains-with_edge}
use Rattle.blk_graph.proofs.RoleLemmas.{same_role-true}
use Rattle.blk_graph.proofs.ChildLemmas.{child-kept}
use Rattle.blk_graph.proofs.DraftLemmas.{acyclic_fewer, acyclic_put, children_removed}
use Rattle.blk_graph.proofs.RefreshLemmas.{child_of-refreshed, IsAcyclic-refreshed}
use Rattle.qmp_rules.specs.declared.change.Change.TheVariants as change
use Rattle.qmp_rules.specs.declared.rows.NodeRecord.{NodeRecord}
use Rattle.qmp_rules.specs.Changes.{changed}
use Rattle.qmp_rules.specs.Table.{RunTable, node_by_id, child, kinds_of}
use Rattle.qmp_rules.specs.Chains.{filter_role, filtered, disk_node}
use Rattle.flat_machine.specs.State.{drive_of}
use Rattle.flat_machine.specs.Machine.{copies_through}
use Rattle.flat_machine.specs.Suiting.{SuitsAttach, SuitsRebase}
use Rattle.flat_machine.specs.Wiring.{IsUnderNoFormat, TableStands}
use Rattle.flat_machine.proofs.Tables.{filter-keeps, refreshed-old, refreshed-new, with_edge-keeps}
use Rattle.flat_machine.proofs.Rows.{disk_node-same, copies-same}
use Rattle.flat_machine.proofs.TablesKept.{child-role}
use Rattle.flat_machine.proofs.Leading.{Leads, led_table, kept_reads}

-- where edges lead that stay
abbrev pub unled : Parent → ℕ → ℕ
unled p c = c

pub map_unled : (p : Parent) (found : Option ℕ) → found ≡ option_map (unled p) found
map_unled p None = refl
map_unled p (Some c) = refl

-- a filter reads by a role of its own
pub filter_other : (kind : Kind) (role : Role) → filter_role kind ≡ Some role → (role ≢ Backing) × (role ≢ Between) × (has_role kind role ≡ true)
filter_other Protocol role is = absurd cc
filter_other Raw role is = absurd cc
filter_other Qcow2 role is = absurd cc
filter_other CopyOnRead role is = (λ same. cc, λ same. cc, let file : File ≡ role = cc in subst (λ r. has_role CopyOnRead r ≡ true) file refl)
filter_other BeforeWrite role is = (λ same. cc, λ same. cc, let over : Filtered ≡ role = cc in subst (λ r. has_role BeforeWrite r ≡ true) over refl)
filter_other Mirror role is = (λ same. cc, λ same. cc, let over : Filtered ≡ role = cc in subst (λ r. has_role Mirror r ≡ true) over refl)
filter_other Commit role is = (λ same. cc, λ same. cc, let over : Filtered ≡ role = cc in subst (λ r. has_role Commit r ≡ true) over refl)

-- ---- nodes read as they did

module _ (t : RunTable) (es : List Edge) (l : Leads t es unled) (h : TableStands t) where
  abbrev now : RunTable
  now = record t { edges = es }

  abbrev Any : ℕ → Type 0
  Any n = Unit {0}

  same_filtered : (n : ℕ) → Any n → filtered now n ≡ filtered t n
  same_filtered n any = by_row (node_by_id t n) refl
    where
      by_role : (row : NodeRecord) → node_by_id t n ≡ Some row → (role : Option Role) → filter_role row.kind ≡ role
          → option_and_then (child now n) role ≡ option_and_then (child t n) role
      by_role row at None is = refl
      by_role row at (Some role) is =
          let other = filter_other row.kind role is in
          l.children n row role at other.2 other.0 other.1 ∙ sym (map_unled (Node n) (child t n role))

      by_row : (found : Option NodeRecord) → node_by_id t n ≡ found → option_and_then (child now n) (option_and_then (λ row. filter_role row.kind) found)
          ≡ option_and_then (child t n) (option_and_then (λ row. filter_role row.kind) found)
      by_row None at = refl
      by_row (Some row) at = by_role row at (filter_role row.kind) refl

  pub disk_same : (n : ℕ) → disk_node now n ≡ disk_node t n
  disk_same n = disk_node-same t now Any same_filtered (λ n below here is. tt) n tt

  pub copies_same : (n : ℕ) → copies_through now n ≡ copies_through t n
  copies_same n = copies-same t now Any same_filtered (λ n below here is. tt) (λ n here. refl) n tt

  pub backed_table : IsAcyclic es → TableStands now
  backed_table acyclic = led_table t es unled l h (kept_reads t es unled l h (λ n there. disk_same n) (λ n there. copies_same n)) acyclic

-- ---- another backing node

-- edges of other roles than Backing keep their place
pub keeps_place : (over base : ℕ) (e : Edge) → e.role ≡ File → takes_place (node_edge over Backing base) e ≡ false
keeps_place over base e file = rw file (by_parent (same_parent (Node over) e.parent))
  where
    by_parent : (b : Bool) → (b && false && (not false || (base == e.child))) ≡ false
    by_parent true = refl
    by_parent false = refl

other_role : (role : Role) → role ≢ Backing → same_role Backing role ≡ false
other_role role differ = false_from_ne_true (same_role Backing role) (λ same. differ (sym (same_role-true Backing role same)))

module _ (t : RunTable) (over base : ℕ) (suits : SuitsAttach t over base) (h : TableStands t) where
  abbrev new_edge : Edge
  new_edge = node_edge over Backing base

  abbrev pub put_edges : List Edge
  put_edges = refreshed (kinds_of t.nodes) (with_edge new_edge t.edges)

  over_here : Contains t.nodes suits.sizes.row × ((suits.sizes.row.id == over) ≡ true)
  over_here = find-Some (λ r. r.id == over) t.nodes suits.sizes.row suits.sizes.found

  base_here : Contains t.nodes suits.sizes.other × ((suits.sizes.other.id == base) ≡ true)
  base_here = find-Some (λ r. r.id == base) t.nodes suits.sizes.other suits.sizes.other_found

  over_id : suits.sizes.row.id ≡ over
  over_id = eqb-true suits.sizes.row.id over over_here.1

  base_id : suits.sizes.other.id ≡ base
  base_id = eqb-true suits.sizes.other.id base base_here.1

  pub put_leads : Leads t put_edges unled
  put_leads = record {
    sent = λ p c. inl refl;
    old = λ e there.
        let from = refreshed-old (kinds_of t.nodes) (with_edge new_edge t.edges) e there in
        elim (Contains-with_edge new_edge t.edges from.edge from.there) [
          | inl is ↦
              let same = subst (λ x. IsSameEdge x e) is from.same in
              inr (record {
                role = sym same.role;
                over = suits.sizes.row;
                over_there = over_here.0;
                parent = sym same.parent ∙ ap Node (sym over_id);
                can = suits.role;
                under = suits.sizes.other;
                under_there = base_here.0;
                child = sym same.child ∙ sym base_id;
                free = subst (λ n. IsUnderNoFormat t n) (sym base_id) suits.free;
                plain = suits.plain;
              })
          | inr was ↦ inl (record { edge = from.edge; there = was; parent = from.same.parent; role = from.same.role; child = sym from.same.child })
        ];
    keeps = λ e there role.
        let like = refreshed-new (kinds_of t.nodes) (with_edge new_edge t.edges) e
        (with_edge-keeps new_edge t.edges e (keeps_place over base e role) there) in
        record { edge = like.edge; there = like.there; parent = like.same.parent; role = like.same.role; child = like.same.child };
    children = λ n row role at has other single.
        child_of-refreshed (kinds_of t.nodes) (Node n) role (with_edge new_edge t.edges)
        ∙ child-role (Node n) role new_edge t.edges (other_role role other) ∙ map_unled (Node n) (child t n role);
    drives = λ g.
        child_of-refreshed (kinds_of t.nodes) (Guest g) Drive (with_edge new_edge t.edges)
        ∙ child-kept (Guest g) Drive new_edge t.edges (λ same. cc) ∙ map_unled (Guest g) (drive_of t g);
  }

  pub put_acyclic : IsAcyclic put_edges
  put_acyclic = IsAcyclic-refreshed (kinds_of t.nodes) (with_edge new_edge t.edges) (acyclic_put new_edge t.edges suits.apart h.acyclic)

-- ---- no backing node

module _ (t : RunTable) (node : ℕ) (h : TableStands t) where
  abbrev bare : List Edge
  bare = without_edge (Node node) Backing t.edges

  abbrev pub bare_edges : List Edge
  bare_edges = refreshed (kinds_of t.nodes) bare

  -- an edge for another role is none for a backing node
  not_gone : (parent : Parent) (role : Role) → role ≢ Backing → (same_parent parent (Node node) && same_role role Backing) ≡ false
  not_gone parent role other =
      rw (false_from_ne_true (same_role role Backing) (λ same. other (same_role-true role Backing same))) (by_parent (same_parent parent (Node node)))
    where
      by_parent : (b : Bool) → (b && false) ≡ false
      by_parent true = refl
      by_parent false = refl

  pub bare_leads : Leads t bare_edges unled
  bare_leads = record {
    sent = λ p c. inl refl;
    old = λ e there.
        let from = refreshed-old (kinds_of t.nodes) bare e there in
        let was = Contains-filter (λ x. not (is_edge (Node node) Backing x)) t.edges from.edge from.there in
        inl (record { edge = from.edge; there = was.0; parent = from.same.parent; role = from.same.role; child = sym from.same.child });
    keeps = λ e there role.
        let like = refreshed-new (kinds_of t.nodes) bare e
        (filter-keeps (λ x. not (is_edge (Node node) Backing x)) t.edges e
        (ap not (not_gone e.parent e.role (λ same. (let bad = sym role ∙ same in cc)))) there) in
        record { edge = like.edge; there = like.there; parent = like.same.parent; role = like.same.role; child = like.same.child };
    children = λ n row role at has other single.
        child_of-refreshed (kinds_of t.nodes) (Node n) role bare
        ∙ children_removed (Node node) Backing t.edges (Node n) role (not_gone (Node n) role other) ∙ map_unled (Node n) (child t n role);
    drives = λ g.
        child_of-refreshed (kinds_of t.nodes) (Guest g) Drive bare
        ∙ children_removed (Node node) Backing t.edges (Guest g) Drive refl ∙ map_unled (Guest g) (drive_of t g);
  }

  pub bare_acyclic : IsAcyclic bare_edges
  bare_acyclic = IsAcyclic-refreshed (kinds_of t.nodes) bare (acyclic_fewer (λ x. not (is_edge (Node node) Backing x)) t.edges h.acyclic)

-- ---- the kinds

pub attached_table : (t : RunTable) (over base : ℕ) → SuitsAttach t over base → TableStands t → TableStands (changed t (change.Attach over base))
unfolding changed
attached_table t over base suits h =
    backed_table t (put_edges t over base suits h) (put_leads t over base suits h) h (put_acyclic t over base suits h)

pub rebased_table : (t : RunTable) (node : ℕ) (backing : Option ℕ) → SuitsRebase t node backing → TableStands t
    → TableStands (changed t (change.Rebase node backing))
unfolding changed
rebased_table t node None suits h = backed_table t (bare_edges t node h) (bare_leads t node h) h (bare_acyclic t node h)
rebased_table t node (Some base) suits h =
    backed_table t (put_edges t node base suits h) (put_leads t node base suits h) h (put_acyclic t node base suits h)
