-- A job's filter is put over a node: what holds of tables stays.
use Rattle.std.proofs.Common.{◌≡◌, ◌≢◌, ◌⊎◌, ℕ, suc, Bool, true, false, cond, List, [], ◌∷◌, ◌++◌, refl, sym, ap, subst, ◌∙◌, inl, inr, Option, Some, None, option_map}
use Rattle.std.specs.Prelude.{◌==◌, ◌&&◌, ◌||◌, not, IsSome, option_and_then}
use Rattle.std.specs.List.{list_any, Contains}
use Rattle.std.proofs.lemmas.Bool.{eqb-true, eq-eqb, ne_eqb, cases_eq}
use Rattle.blk_graph.specs.declared.edge.Edge.{Edge}
use Rattle.blk_graph.specs.declared.edge.Parent.{Parent}
use Rattle.blk_graph.specs.declared.edge.Parent.TheVariants.{Node, Guest}
use Rattle.blk_graph.specs.declared.edge.Role.{Role}
use Rattle.blk_graph.specs.declared.edge.Role.TheVariants.{Drive, File, Backing, Filtered, Between}
use Rattle.blk_graph.specs.declared.kind.Kind.{Kind}
use Rattle.blk_graph.specs.declared.kind.Kind.TheVariants.{Protocol, Raw, Qcow2, CopyOnRead, BeforeWrite, Mirror, Commit}
use Rattle.blk_graph.specs.declared.kind.NodeKind.{NodeKind}
use Rattle.blk_graph.specs.Edges.{same_parent, same_role}
use Rattle.blk_graph.specs.Edits.{IsLone, child_of, filter_edge, is_double, moved, but_doubles, with_edge, with_moved}
use Rattle.blk_graph.specs.Paths.{IsAcyclic, LeadsBack}
use Rattle.blk_graph.specs.Permissions.{has_role, idle_uses}
use Rattle.blk_graph.specs.Refreshed.{refreshed}
use Rattle.blk_graph.proofs.ChildLemmas.{child-kept, child-new, reached-entered}
use Rattle.blk_graph.proofs.DraftLemmas.{acyclic_put, children_filter, child_filter}
use Rattle.blk_graph.proofs.EditLemmas.{IsSameEdge, moved-parent, Contains-with_edge, Contains-with_edge_new, Contains-with_moved}
use Rattle.blk_graph.proofs.FilterLemmas.{IsAcyclic-with_filter}
use Rattle.blk_graph.proofs.InverseLemmas.{same_parent-false, same_parent-refl}
use Rattle.blk_graph.proofs.Members.{find-Some, map-Contains}
use Rattle.blk_graph.proofs.RefreshLemmas.{child_of-refreshed, IsAcyclic-refreshed}
use Rattle.blk_graph.proofs.RoleLemmas.{moved-role}
use Rattle.qmp_asks.specs.Naming.{is_name}
use Rattle.qmp_rules.specs.declared.change.Change.TheVariants as change
use Rattle.qmp_rules.specs.declared.rows.NodeRecord.{NodeRecord}
use Rattle.qmp_rules.specs.Changes.{changed, filtered_edges}
use Rattle.qmp_rules.specs.Table.{RunTable, node_by_id, child, kinds_of}
use Rattle.qmp_rules.specs.Chains.{filter_role, filtered, disk_from, disk_node}
use Rattle.blk_history.specs.Fold.{With}
use Rattle.flat_machine.specs.Machine.{copies_at, copies_through, is_copying, path, path_from}
use Rattle.flat_machine.specs.Suiting.{IsThere, SuitsPut}
use Rattle.flat_machine.specs.Wiring.{HasOwnName, IsDiskOf, IsUnderNoFormat, TableStands}
use Rattle.flat_machine.proofs.Tables.{same-edge, like-then, pushed-cases, pushed-old, filter-keeps, refreshed-old, refreshed-new, with_edge-keeps, apart-parents}
use Rattle.flat_machine.proofs.Rows.{copies-at, copies-same, disk_node-same, from-child, path-child, rows-same}
use Rattle.flat_machine.proofs.Wired.{Grows, NewEdges, NewRows, with_at, was_file, grown_stands}
use Rattle.flat_machine.proofs.TablesKept.{Adds, adds_grow, later_found, new_found, new_parent, not-there, not_copying, no_copies, over_own, row_now, same_numbers}
use Rattle.flat_machine.proofs.Leading.{IsSent, Leads, led_table, kept_reads}
use Rattle.flat_machine.proofs.Backed.{filter_other}
use Rattle.flat_machine.proofs.MovedTables.{moving}
use Rattle.flat_machine.proofs.WritingKept.{role_edge}

-- a job's filter has but the role of its edge
pub filter_alone : (kind : Kind) (role : Role) → filter_role kind ≡ Some Filtered → has_role kind role ≡ true → role ≡ Filtered
filter_alone Protocol role is has = absurd cc
filter_alone Raw role is has = absurd cc
filter_alone Qcow2 role is has = absurd cc
filter_alone CopyOnRead role is has = absurd cc
filter_alone BeforeWrite Filtered is has = refl
filter_alone BeforeWrite role is has = absurd cc
filter_alone Mirror Filtered is has = refl
filter_alone Mirror role is has = absurd cc
filter_alone Commit Filtered is has = refl
filter_alone Commit role is has = absurd cc

filtered_role : (kind : Kind) → filter_role kind ≡ Some Filtered → has_role kind Filtered ≡ true
filtered_role Protocol is = absurd cc
filtered_role Raw is = absurd cc
filtered_role Qcow2 is = absurd cc
filtered_role CopyOnRead is = absurd cc
filtered_role BeforeWrite is = refl
filtered_role Mirror is = refl
filtered_role Commit is = refl

-- it copies nothing
pub filter_still : (kind : Kind) → filter_role kind ≡ Some Filtered → is_copying kind ≡ false
filter_still Protocol is = absurd cc
filter_still Raw is = absurd cc
filter_still Qcow2 is = absurd cc
filter_still CopyOnRead is = absurd cc
filter_still BeforeWrite is = refl
filter_still Mirror is = refl
filter_still Commit is = refl

pub filter_kind_other : (kind : Kind) → filter_role kind ≡ Some Filtered → kind ≢ CopyOnRead
filter_kind_other kind is same = let filters : filter_role CopyOnRead ≡ Some Filtered = subst (λ k. filter_role k ≡ Some Filtered) same is in cc

-- any filter is of one of two kinds
pub two_filters : (kind : Kind) (role : Role) → filter_role kind ≡ Some role → (kind ≡ CopyOnRead) ⊎ (role ≡ Filtered)
two_filters Protocol role is = absurd cc
two_filters Raw role is = absurd cc
two_filters Qcow2 role is = absurd cc
two_filters CopyOnRead role is = inl refl
two_filters BeforeWrite role is = inr cc
two_filters Mirror role is = inr cc
two_filters Commit role is = inr cc

-- an edge whose role is not Between is no double
pub no_double : (edges : List Edge) (from to : ℕ) (e : Edge) → same_role e.role Between ≡ false → not (is_double edges from to e) ≡ true
no_double edges from to e other = rw other (none (not (from == to)) (e.child == from))
  where
    none : (a b : Bool) → not (a && b && false && list_any (λ x. same_parent x.parent e.parent && same_role x.role Between && x.child == to) edges) ≡ true
    none true true = refl
    none true false = refl
    none false b = refl

-- it stays, and leads where it is sent
pub moved_there : (edges : List Edge) (from to : ℕ) (e : Edge) → e.role ≡ File → Contains edges e → Contains (with_moved from to edges) (moved from to e)
moved_there edges from to e file there =
    map-Contains (moved from to) (but_doubles from to edges) e
    (filter-keeps (λ x. not (is_double edges from to x)) edges e (no_double edges from to e (ap (λ r. same_role r Between) file)) there)

pub moved_child : (from to : ℕ) (e : Edge) → (moved from to e).child ≡ moving from to e.child
moved_child from to e = by_test (e.child == from)
  where
    by_test : (b : Bool) → (cond b (record e { child = to }) e).child ≡ cond b to e.child
    by_test true = refl
    by_test false = refl

module _ (t : RunTable) (row : NodeRecord) (node : ℕ) (suits : SuitsPut t row node) (h : TableStands t) where
  abbrev pub own : Edge
  own = filter_edge row.id node idle_uses.perm idle_uses.shared

  abbrev kinds : List NodeKind
  kinds = kinds_of (t.nodes ++ row ∷ [])

  -- the filter is there, over the node
  abbrev pub between : RunTable
  between = record t { nodes = t.nodes ++ row ∷ []; edges = refreshed kinds (with_edge own t.edges) }

  abbrev pub IsOwn : Edge → Type 0
  IsOwn e = IsSameEdge own e

  pub apart_from : (e : Edge) → Contains t.edges e → e.parent ≢ Node row.id
  apart_from e there same = new_parent t row.id h.edges suits.fresh e there (sym same)

  abbrev adds : Adds t t between row IsOwn
  adds = record {
    rows = rows-same t t refl h.apart;
    nodes = refl;
    fresh = suits.fresh;
    kinds = kinds;
    before = with_edge own t.edges;
    derived = refl;
    cases = λ e there. elim (Contains-with_edge own t.edges e there) [
      | inl is ↦ inl (subst (IsSameEdge own) (sym is) (same-edge own))
      | inr old ↦ inr old
    ];
    like = λ a b same is_new. like-then own a b is_new same;
    keeps = λ e there apart. with_edge-keeps own t.edges e (apart-parents own e apart) there;
    children = λ n role apart. child-kept (Node n) role own t.edges apart;
  }

  pub put_grow : Grows t between (IsThere t) (λ r. r ≡ row) IsOwn
  put_grow = adds_grow t t between row IsOwn adds h

  pub found_row : node_by_id between row.id ≡ Some row
  found_row = new_found t t between row IsOwn adds h

  pub found_under : node_by_id between node ≡ Some suits.under.row
  found_under = later_found t t between row IsOwn adds h node suits.under.row suits.under.there

  is_filter : (over : NodeRecord) → Contains between.nodes over → row.id ≡ over.id → over ≡ row
  is_filter over there same =
      row_now t t between row IsOwn adds h over row there (find-Some (λ r. r.id == row.id) between.nodes row found_row).0 (sym same)

  is_under : (under : NodeRecord) → Contains between.nodes under → node ≡ under.id → under ≡ suits.under.row
  is_under under there same =
      let here = find-Some (λ r. r.id == node) between.nodes suits.under.row found_under in
      row_now t t between row IsOwn adds h under suits.under.row there here.0 (sym same ∙ sym (eqb-true suits.under.row.id node here.1))

  free_between : (n : ℕ) → IsUnderNoFormat t n → IsUnderNoFormat between n
  free_between n free under over at some f over_own = elim (put_grow.edges f.edge f.there) [
    | inr new ↦ absurd (let bad = new.role ∙ f.role in cc)
    | inl old ↦
        let w = was_file t between (IsThere t) (λ r. r ≡ row) IsOwn put_grow over under f old in
        let id : w.under_row.row.id ≡ n = sym w.under_row.like.id ∙ eqb-true under.id n (find-Some (λ r. r.id == n) between.nodes under at).1 in
        free w.under_row.row w.over_row.row (subst (λ m. node_by_id t m ≡ Some w.under_row.row) id (h.apart w.under_row.row w.under_row.there))
        (subst IsSome w.under_row.like.filename some) w.file (sym (ap filter_role w.over_row.like.kind) ∙ over_own)
  ]

  own_below : child between row.id Filtered ≡ Some node
  own_below = child_of-refreshed kinds (Node row.id) Filtered (with_edge own t.edges) ∙ child-new own t.edges apart_from

  filter_below : filtered between row.id ≡ Some node
  filter_below = rw (found_row, suits.filter) own_below

  node_alone : filtered between node ≡ None
  node_alone = rw (found_under, suits.under.own) refl

  at_two : (more : ℕ) → list_any (copies_at between) (path_from (suc (suc more)) between row.id) ≡ false
  at_two more =
      path-child (suc more) between row.id (copies_at between) (Some node) filter_below
      ∙ ap (λ b. copies_at between row.id || b) (path-child more between node (copies_at between) None node_alone)
      ∙ rw (copies-at between row.id row found_row ∙ filter_still row.kind suits.filter, copies-at between node suits.under.row found_under ∙ no_copies suits.under.row.kind suits.under.own) refl

  pub row_copies : copies_through between row.id ≡ false
  unfolding path
  row_copies = at_two 62

  pub row_disk : disk_node between row.id ≡ node
  row_disk = over_own between row.id node filter_below node_alone

  over_id : (e : Edge) (n : ℕ) → IsOwn e → e.parent ≡ Node n → row.id ≡ n
  over_id e n is_new from = let mine = is_new.parent in cc

  put_rows : NewRows t between (λ r. r ≡ row)
  put_rows = record {
    drivers = λ name r is named. let none = ap (λ x. x.filename) is ∙ suits.filename in absurd cc;
    names = λ r is driver.
        let kind = sym (ap (λ x. x.kind) is) ∙ driver in
        let filters = suits.filter in
        absurd (let none = rw kind at filters in cc);
    own_names = λ r is. subst HasOwnName (sym is) suits.own_name;
    hidden = λ r is filters. ap (λ x. is_name x.name) is ∙ suits.hidden;
    closed = λ name r old is named over. let none = ap (λ x. x.filename) is ∙ suits.filename in cc;
    reads = λ r is. subst (λ x. With (node_by_id between (disk_node between x.id)) (IsDiskOf between x)) (sym is)
        (with_at (IsDiskOf between row) (node_by_id between (disk_node between row.id)) suits.under.row
        (ap (node_by_id between) row_disk ∙ found_under)
        (record {
          own = suits.under.own;
          itself = λ some. inr (subst (IsUnderNoFormat between) (sym (eqb-true suits.under.row.id node (find-Some (λ r. r.id == node) between.nodes suits.under.row found_under).1))
              (free_between node suits.under.free));
          writable = λ w. suits.writable (by_copies w);
        }));
  }
    where
      by_copies : (not row.read_only || copies_through between row.id) ≡ true → row.read_only ≡ false
      by_copies w = by_bool row.read_only (subst (λ b. (not row.read_only || b) ≡ true) row_copies w)
        where
          by_bool : (b : Bool) → (not b || false) ≡ true → b ≡ false
          by_bool true k = absurd cc
          by_bool false k = refl

  put_new_edges : NewEdges t between IsOwn
  put_new_edges = record {
    ends = λ e is_new. record {
      parent = λ n is. subst (IsThere between) (over_id e n is_new is) (subst IsSome (sym found_row) refl);
      child = subst (IsThere between) is_new.child (subst IsSome (sym found_under) refl);
    };
    roles = λ e r is_new there is. subst (λ x. has_role x.kind e.role ≡ true) (sym (is_filter r there (over_id e r.id is_new is)))
        (subst (λ x. has_role row.kind x ≡ true) is_new.role (filtered_role row.kind suits.filter));
    single = λ e is_new role. absurd (let bad = is_new.role ∙ role in cc);
    taken = λ over under f is_new some own. absurd (let bad = is_new.role ∙ f.role in cc);
    first = λ over under f is_new some own. absurd (let bad = is_new.role ∙ f.role in cc);
    filtered = λ over under f is_new none. absurd (let bad = is_new.role ∙ f.role in cc);
    on_top = λ e r over is_new there from to.
        not_copying r.kind (ap (λ x. filter_role x.kind) (is_under r there (is_new.child ∙ to)) ∙ suits.under.own);
    free = λ e over under is_new f some own is.
        let same : node ≡ under.id = is_new.child ∙ is in
        suits.under.free under over (subst (λ n. node_by_id t n ≡ Some under) (sym same) (h.apart under f.under_there)) some f own;
  }

  node_apart : row.id ≢ node
  node_apart same = not-there t row.id suits.fresh (subst (IsThere t) (sym same) (subst IsSome (sym suits.under.there) refl))

  unreached : (e : Edge) → Contains t.edges e → e.child ≢ row.id
  unreached e there same = not-there t row.id suits.fresh (subst (IsThere t) same (h.edges e there).child)

  no_way : LeadsBack t.edges node (Node row.id) → ⊥
  no_way (inl same) = node_apart (sym same)
  no_way (inr way) = reached-entered t.edges node row.id way.first way.rest way.path unreached

  pub between_stands : TableStands between
  between_stands =
      grown_stands t between (IsThere t) (λ r. r ≡ row) IsOwn put_grow put_rows put_new_edges h (same_numbers t between refl refl h.numbers)
      (IsAcyclic-refreshed kinds (with_edge own t.edges) (acyclic_put own t.edges no_way h.acyclic))

  -- ---- then its parents are the filter's

  abbrev put : List Edge
  put = filtered_edges row.id node t.edges

  abbrev pub put_edges : List Edge
  put_edges = refreshed kinds put

  abbrev pub now : RunTable
  now = record between { edges = put_edges }

  abbrev pub lead : Parent → ℕ → ℕ
  lead p c = cond (same_parent p (Node row.id)) c (moving node row.id c)

  other_parent : (p : Parent) → p ≢ Node row.id → (c : ℕ) → lead p c ≡ moving node row.id c
  other_parent p apart c = rw (same_parent-false p (Node row.id) apart) refl

  own_parent : (c : ℕ) → lead (Node row.id) c ≡ c
  own_parent c = rw (same_parent-refl (Node row.id)) refl

  pub sent : (p : Parent) (c : ℕ) → (lead p c ≡ c) ⊎ IsSent between c (lead p c)
  sent p c = by_test (same_parent p (Node row.id)) (c == node) refl
    where
      by_test : (a b : Bool) → (c == node) ≡ b → (cond a c (cond b row.id c) ≡ c) ⊎ IsSent between c (cond a c (cond b row.id c))
      by_test true b is = inl refl
      by_test false false is = inl refl
      by_test false true is = inr (record {
        row = row;
        there = (find-Some (λ r. r.id == row.id) between.nodes row found_row).0;
        id = refl;
        plain = filter_kind_other row.kind suits.filter;
        free = λ under over at some f own.
            let found = found_row in
            let same : under ≡ row = cc in
            let none = ap (λ r. r.filename) same ∙ suits.filename in
            let bad = subst IsSome none some in
            cc;
        away = subst (IsUnderNoFormat between) (sym (eqb-true c node is)) (free_between node suits.under.free);
      })

  lone : IsLone t.edges row.id
  lone = record { enters = unreached; leaves = apart_from }

  -- an edge of the table is there beside the filter's
  in_between : (e : Edge) → Contains t.edges e → (x : Edge) × Contains between.edges x × IsSameEdge x e
  in_between e there =
      let like = refreshed-new kinds (with_edge own t.edges) e (with_edge-keeps own t.edges e (apart-parents own e (λ same. apart_from e there (sym same))) there) in
      (like.edge, like.there, like.same)

  pub put_leads : Leads between put_edges lead
  put_leads = record {
    sent = sent;
    old = λ e there.
        let from = refreshed-old kinds put e there in
        elim (pushed-cases (with_moved node row.id t.edges) own from.edge from.there) [
          | inr is ↦
              let mine = refreshed-new kinds (with_edge own t.edges) own (Contains-with_edge_new own t.edges) in
              let same = subst (λ x. IsSameEdge x e) is from.same in
              inl (record {
                edge = mine.edge;
                there = mine.there;
                parent = mine.same.parent ∙ same.parent;
                role = mine.same.role ∙ same.role;
                child = sym same.child ∙ sym mine.same.child ∙ sym (own_parent mine.edge.child) ∙ ap (λ p. lead p mine.edge.child) (sym mine.same.parent);
              })
          | inl old ↦
              let r = Contains-with_moved node row.id t.edges from.edge old in
              let x = in_between r.0 r.1 in
              let parent : x.0.parent ≡ e.parent =
              x.2.parent ∙ sym (moved-parent node row.id r.0) ∙ ap (λ (y : Edge). y.parent) (sym r.2) ∙ from.same.parent in
              let apart : x.0.parent ≢ Node row.id = λ same. apart_from r.0 r.1 (sym x.2.parent ∙ same) in
              inl (record {
                edge = x.0;
                there = x.1;
                parent = parent;
                role = x.2.role ∙ sym (moved-role node row.id r.0) ∙ ap (λ (y : Edge). y.role) (sym r.2) ∙ from.same.role;
                child = sym from.same.child ∙ ap (λ (y : Edge). y.child) r.2 ∙ moved_child node row.id r.0 ∙ ap (moving node row.id) (sym x.2.child)
                    ∙ sym (other_parent x.0.parent apart x.0.child);
              })
        ];
    keeps = λ e there role.
        let from = refreshed-old kinds (with_edge own t.edges) e there in
        elim (Contains-with_edge own t.edges from.edge from.there) [
          | inl is ↦ absurd (let bad = ap (λ (x : Edge). x.role) (sym is) ∙ from.same.role ∙ role in cc)
          | inr old ↦
              let moves : Contains put (moved node row.id from.edge) =
              pushed-old (with_moved node row.id t.edges) own (moved node row.id from.edge) (moved_there t.edges node row.id from.edge (from.same.role ∙ role) old) in
              let like = refreshed-new kinds put (moved node row.id from.edge) moves in
              let apart : e.parent ≢ Node row.id = λ same. apart_from from.edge old (from.same.parent ∙ same) in
              record {
                edge = like.edge;
                there = like.there;
                parent = like.same.parent ∙ moved-parent node row.id from.edge ∙ from.same.parent;
                role = like.same.role ∙ moved-role node row.id from.edge ∙ from.same.role;
                child = like.same.child ∙ moved_child node row.id from.edge ∙ ap (moving node row.id) from.same.child ∙ sym (other_parent e.parent apart e.child);
              }
        ];
    children = λ n r role at has other single. by_id n r role at has single (cases_eq n row.id);
    drives = λ g.
        child_of-refreshed kinds (Guest g) Drive put
        ∙ children_filter node row.id idle_uses.perm idle_uses.shared t.edges (Guest g) Drive (λ same. cc) (λ same. cc)
        ∙ ap (option_map (moving node row.id))
        (sym (child_of-refreshed kinds (Guest g) Drive (with_edge own t.edges) ∙ child-kept (Guest g) Drive own t.edges (λ same. cc)));
  }
    where
      by_id : (n : ℕ) (r : NodeRecord) (role : Role) → node_by_id between n ≡ Some r → has_role r.kind role ≡ true → role ≢ Between
          → ((n ≡ row.id) ⊎ (n ≢ row.id)) → child_of (Node n) role put_edges ≡ option_map (lead (Node n)) (child between n role)
      by_id n r role at has single (inl is) =
          let found = found_row in
          let at_row : node_by_id between row.id ≡ Some r = subst (λ m. node_by_id between m ≡ Some r) is at in
          let same : r ≡ row = cc in
          let only : role ≡ Filtered = filter_alone row.kind role suits.filter (subst (λ x. has_role x.kind role ≡ true) same has) in
          subst (λ m. child_of (Node m) role put_edges ≡ option_map (lead (Node m)) (child between m role)) (sym is)
          (subst (λ x. child_of (Node row.id) x put_edges ≡ option_map (lead (Node row.id)) (child between row.id x)) (sym only)
          (child_of-refreshed kinds (Node row.id) Filtered put ∙ child_filter node row.id idle_uses.perm idle_uses.shared t.edges lone
          ∙ ap (λ (c : ℕ). Some c) (sym (own_parent node)) ∙ ap (option_map (lead (Node row.id))) (sym own_below)))
      by_id n r role at has single (inr apart) =
          let other : Node n ≢ Node row.id = λ same. apart (let both : Node n ≡ Node row.id = same in cc) in
          child_of-refreshed kinds (Node n) role put
          ∙ children_filter node row.id idle_uses.perm idle_uses.shared t.edges (Node n) role single other
          ∙ ap (option_map (moving node row.id))
          (sym (child_of-refreshed kinds (Node n) role (with_edge own t.edges) ∙ child-kept (Node n) role own t.edges (λ same. other (sym same))))
          ∙ map_both (λ c. sym (other_parent (Node n) other c)) (child between n role)
        where
          map_both : {f g : ℕ → ℕ} → ((c : ℕ) → f c ≡ g c) → (found : Option ℕ) → option_map f found ≡ option_map g found
          map_both each None = refl
          map_both each (Some c) = ap (λ (m : ℕ). Some m) (each c)

  -- ---- what nodes read as

  filter_below_now : filtered now row.id ≡ Some node
  filter_below_now =
      let has = filtered_role row.kind suits.filter in
      let led = put_leads.children row.id row Filtered found_row has (λ same. let no : Filtered ≡ Backing = same in cc no) (λ same. let no : Filtered ≡ Between = same in cc no) in
      rw (found_row, suits.filter) (led ∙ ap (option_map (lead (Node row.id))) own_below ∙ ap (λ (c : ℕ). Some c) (own_parent node))

  node_alone_now : filtered now node ≡ None
  node_alone_now = rw (found_under, suits.under.own) refl

  -- the edges of other filters move
  filtered_moves : (n : ℕ) → n ≢ row.id → filtered now n ≡ option_map (moving node row.id) (filtered between n)
  filtered_moves n apart = by_row (node_by_id between n) refl
    where
      other : Node n ≢ Node row.id
      other same = apart (let both : Node n ≡ Node row.id = same in cc)

      map_both : {f g : ℕ → ℕ} → ((c : ℕ) → f c ≡ g c) → (found : Option ℕ) → option_map f found ≡ option_map g found
      map_both each None = refl
      map_both each (Some c) = ap (λ (m : ℕ). Some m) (each c)

      by_role : (r : NodeRecord) → node_by_id between n ≡ Some r → (role : Option Role) → filter_role r.kind ≡ role
          → option_and_then (child now n) role ≡ option_map (moving node row.id) (option_and_then (child between n) role)
      by_role r at None is = refl
      by_role r at (Some role) is =
          let others = filter_other r.kind role is in
          put_leads.children n r role at others.2 others.0 others.1 ∙ map_both (λ c. other_parent (Node n) other c) (child between n role)

      by_row : (found : Option NodeRecord) → node_by_id between n ≡ found → option_and_then (child now n) (option_and_then (λ r. filter_role r.kind) found)
          ≡ option_map (moving node row.id) (option_and_then (child between n) (option_and_then (λ r. filter_role r.kind) found))
      by_row None at = refl
      by_row (Some r) at = by_role r at (filter_role r.kind) refl

  -- a filter reads by an edge of its own
  record HasFilterEdge (n c : ℕ) : Type 0 where
    own_row : NodeRecord
    found : node_by_id between n ≡ Some own_row
    role : Role
    is : filter_role own_row.kind ≡ Some role
    child_is : child between n role ≡ Some c

  filter_edge_of : (n c : ℕ) → filtered between n ≡ Some c → HasFilterEdge n c
  filter_edge_of n c is = by_row (node_by_id between n) refl is
    where
      by_row : (found : Option NodeRecord) → node_by_id between n ≡ found
          → option_and_then (child between n) (option_and_then (λ r. filter_role r.kind) found) ≡ Some c → HasFilterEdge n c
      by_row None at k = absurd cc
      by_row (Some r) at k = by_role (filter_role r.kind) refl k
        where
          by_role : (role : Option Role) → filter_role r.kind ≡ role → option_and_then (child between n) role ≡ Some c → HasFilterEdge n c
          by_role None e l = absurd cc
          by_role (Some role) e l = record { own_row = r; found = at; role = role; is = e; child_is = l }

  -- below a filter no other one is over the node
  none_below : (n c : ℕ) → filtered between n ≡ Some c → filtered between c ≡ Some node → c ≡ row.id
  none_below n c above below = elim (cases_eq c row.id) [
    | inl is ↦ is
    | inr apart ↦ absurd (by_kind apart (filter_edge_of n c above) (filter_edge_of c node below))
  ]
    where
      by_kind : c ≢ row.id → HasFilterEdge n c → HasFilterEdge c node → ⊥
      by_kind apart up down = elim (two_filters down.own_row.kind down.role down.is) [
        | inl copies ↦
            let e = role_edge (Node n) up.role between.edges c up.child_is in
            let here = find-Some (λ r. r.id == c) between.nodes down.own_row down.found in
            between_stands.on_top e.edge down.own_row n e.there here.0 e.from (e.to ∙ sym (eqb-true down.own_row.id c here.1)) copies
        | inr over ↦
            let e = role_edge (Node c) down.role between.edges node down.child_is in
            elim (put_grow.edges e.edge e.there) [
              | inl old ↦ suits.single old.edge old.there (old.same.child ∙ e.to) (old.same.role ∙ e.role_is ∙ over)
              | inr mine ↦ apart (sym (over_id e.edge c mine e.from))
            ]
      ]

  -- the filter, and nodes that have no filter over the node between
  abbrev IsApart : ℕ → Type 0
  IsApart n = (n ≡ row.id) ⊎ (filtered between n ≢ Some node)

  apart_same : (n : ℕ) → IsApart n → filtered now n ≡ filtered between n
  apart_same n (inl is) = ap (filtered now) is ∙ filter_below_now ∙ sym (ap (filtered between) is ∙ filter_below)
  apart_same n (inr other) = by_below (cases_eq n row.id) (filtered between n) refl
    where
      by_below : ((n ≡ row.id) ⊎ (n ≢ row.id)) → (below : Option ℕ) → filtered between n ≡ below → filtered now n ≡ below
      by_below (inl is) below e = absurd (other (ap (filtered between) is ∙ filter_below))
      by_below (inr apart) None e = filtered_moves n apart ∙ ap (option_map (moving node row.id)) e
      by_below (inr apart) (Some c) e =
          let differ : c ≢ node = λ same. other (e ∙ ap (λ (m : ℕ). Some m) same) in
          let kept : moving node row.id c ≡ c = rw (ne_eqb c node differ) refl in
          filtered_moves n apart ∙ ap (option_map (moving node row.id)) e ∙ ap (λ (m : ℕ). Some m) kept

  apart_goes : (n c : ℕ) → IsApart n → filtered between n ≡ Some c → IsApart c
  apart_goes n c here is = elim (cases_eq c row.id) [
    | inl same ↦ inl same
    | inr other ↦ inr (λ over. other (none_below n c is over))
  ]

  -- a filter over the node is over the job's filter then
  two_below : (more n : ℕ) → n ≢ row.id → filtered between n ≡ Some node
      → (disk_from (suc (suc (suc more))) now n ≡ node) × (disk_from (suc (suc (suc more))) between n ≡ node)
  two_below more n apart is = (
    from-child (suc (suc more)) now n (Some row.id) over_now ∙ from-child (suc more) now row.id (Some node) filter_below_now
        ∙ from-child more now node None node_alone_now,
    from-child (suc (suc more)) between n (Some node) is ∙ from-child (suc more) between node None node_alone,
  )
    where
      over_now : filtered now n ≡ Some row.id
      over_now = filtered_moves n apart ∙ ap (option_map (moving node row.id)) is ∙ ap (λ (m : ℕ). Some m) (rw (eq-eqb node node refl) refl)

  two_copies : (more n : ℕ) → n ≢ row.id → filtered between n ≡ Some node
      → list_any (copies_at between) (path_from (suc (suc (suc more))) now n) ≡ list_any (copies_at between) (path_from (suc (suc (suc more))) between n)
  two_copies more n apart is =
      path-child (suc (suc more)) now n (copies_at between) (Some row.id) over_now
      ∙ ap (λ b. copies_at between n || b) (path-child (suc more) now row.id (copies_at between) (Some node) filter_below_now
      ∙ rw (copies-at between row.id row found_row ∙ filter_still row.kind suits.filter) (path-child more now node (copies_at between) None node_alone_now))
      ∙ sym (path-child (suc (suc more)) between n (copies_at between) (Some node) is
      ∙ ap (λ b. copies_at between n || b) (path-child (suc more) between node (copies_at between) None node_alone))
    where
      over_now : filtered now n ≡ Some row.id
      over_now = filtered_moves n apart ∙ ap (option_map (moving node row.id)) is ∙ ap (λ (m : ℕ). Some m) (rw (eq-eqb node node refl) refl)

  pub put_disk : (n : ℕ) → disk_node now n ≡ disk_node between n
  unfolding disk_node
  put_disk n = elim (cases_eq n row.id) [
    | inl is ↦ disk_node-same between now IsApart apart_same apart_goes n (inl is)
    | inr apart ↦ by_below apart (filtered between n) refl
  ]
    where
      over : n ≢ row.id → filtered between n ≡ Some node → disk_from 64 now n ≡ disk_from 64 between n
      over apart is = let both = two_below 61 n apart is in both.0 ∙ sym both.1

      by_below : n ≢ row.id → (below : Option ℕ) → filtered between n ≡ below → disk_from 64 now n ≡ disk_from 64 between n
      by_below apart None e = disk_node-same between now IsApart apart_same apart_goes n (inr (λ some. let bad = sym e ∙ some in cc))
      by_below apart (Some c) e = elim (cases_eq c node) [
        | inl is ↦ over apart (e ∙ ap (λ (m : ℕ). Some m) is)
        | inr differ ↦ disk_node-same between now IsApart apart_same apart_goes n (inr (λ some. differ (let both = sym e ∙ some in cc)))
      ]

  pub put_copies : (n : ℕ) → copies_through now n ≡ copies_through between n
  unfolding path
  put_copies n = elim (cases_eq n row.id) [
    | inl is ↦ copies-same between now IsApart apart_same apart_goes (λ m here. refl) n (inl is)
    | inr apart ↦ by_below apart (filtered between n) refl
  ]
    where
      by_below : n ≢ row.id → (below : Option ℕ) → filtered between n ≡ below
          → list_any (copies_at now) (path_from 64 now n) ≡ list_any (copies_at between) (path_from 64 between n)
      by_below apart None e = copies-same between now IsApart apart_same apart_goes (λ m here. refl) n (inr (λ some. let bad = sym e ∙ some in cc))
      by_below apart (Some c) e = elim (cases_eq c node) [
        | inl is ↦ two_copies 61 n apart (e ∙ ap (λ (m : ℕ). Some m) is)
        | inr differ ↦ copies-same between now IsApart apart_same apart_goes (λ m here. refl) n (inr (λ some. differ (let both = sym e ∙ some in cc)))
      ]

  pub put_ways : IsAcyclic put_edges
  put_ways = IsAcyclic-refreshed kinds put (IsAcyclic-with_filter t.edges node row.id idle_uses.perm idle_uses.shared node_apart lone h.acyclic)

  pub put_stands : TableStands now
  put_stands =
      led_table between put_edges lead put_leads between_stands
      (kept_reads between put_edges lead put_leads between_stands (λ n there. put_disk n) (λ n there. put_copies n)) put_ways

pub put_table : (t : RunTable) (row : NodeRecord) (node : ℕ) → SuitsPut t row node → TableStands t → TableStands (changed t (change.PutFilter row node))
unfolding changed
put_table t row node suits h = put_stands t row node suits h
