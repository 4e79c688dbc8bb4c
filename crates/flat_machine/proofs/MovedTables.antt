-- The parents of a node go over to another one: what holds of tables stays.
use Rattle.std.proofs.Common.{◌≡◌, ◌≢◌, ◌⊎◌, ℕ, zero, suc, Bool, true, false, cond, List, refl, sym, ap, subst, ◌∙◌, inl, inr, Option, Some, None, option_map}
use Rattle.std.specs.Prelude.{◌==◌, ◌&&◌, ◌||◌, not, option_and_then}
use Rattle.std.specs.List.{list_any, Contains}
use Rattle.std.proofs.lemmas.Bool.{eqb-true, eq-eqb, ne_eqb, cases_eq}
use Rattle.blk_graph.specs.declared.edge.Edge.{Edge}
use Rattle.blk_graph.specs.declared.edge.Parent.{Parent}
use Rattle.blk_graph.specs.declared.edge.Parent.TheVariants.{Node, Guest}
use Rattle.blk_graph.specs.declared.edge.Role.{Role}
use Rattle.blk_graph.specs.declared.edge.Role.TheVariants.{Drive}
use Rattle.blk_graph.specs.Edits.{child_after, replaced, stays, with_child, with_replaced}
use Rattle.blk_graph.specs.Paths.{IsAcyclic}
use Rattle.blk_graph.specs.Refreshed.{refreshed}
use Rattle.blk_graph.proofs.DraftLemmas.{children_replaced}
use Rattle.blk_graph.proofs.EditLemmas.{replaced-parent}
use Rattle.blk_graph.proofs.Members.{Contains-map, find-Some, map-Contains}
use Rattle.blk_graph.proofs.RefreshLemmas.{child_of-refreshed, IsAcyclic-refreshed}
use Rattle.blk_graph.proofs.RoleLemmas.{replaced-role}
use Rattle.qmp_rules.specs.declared.change.Change.TheVariants as change
use Rattle.qmp_rules.specs.declared.rows.NodeRecord.{NodeRecord}
use Rattle.qmp_rules.specs.Changes.{changed}
use Rattle.qmp_rules.specs.Table.{RunTable, node_by_id, child, kinds_of}
use Rattle.qmp_rules.specs.Chains.{filter_role, filtered, disk_from, disk_node}
use Rattle.blk_history.specs.Fold.{With}
use Rattle.flat_machine.specs.Machine.{copies_at, copies_through, path, path_from}
use Rattle.flat_machine.specs.Suiting.{SuitsMove}
use Rattle.flat_machine.specs.Wiring.{IsDiskOf, IsUnderNoFormat, TableStands}
use Rattle.flat_machine.proofs.Tables.{refreshed-old, refreshed-new}
use Rattle.flat_machine.proofs.Rows.{copies-at, from-child, path-child}
use Rattle.flat_machine.proofs.Wired.{with_at}
use Rattle.flat_machine.proofs.TablesKept.{no_copies, not_copying, own_reads}
use Rattle.flat_machine.proofs.Leading.{IsSent, Leads, led_table, free_led}
use Rattle.flat_machine.proofs.Backed.{filter_other}
use Rattle.flat_machine.proofs.MovedWays.{moved_acyclic}

-- where edges of nodes lead that move
abbrev pub moving : ℕ → ℕ → ℕ → ℕ
moving from to c = cond (c == from) to c

abbrev pub led_by : ℕ → ℕ → ℕ → Parent → ℕ → ℕ
led_by from to but p c = child_after from to (Some (Node but)) p c

module _ (t : RunTable) (from to but : ℕ) (suits : SuitsMove t from to but) (h : TableStands t) where
  abbrev lead : Parent → ℕ → ℕ
  lead = led_by from to but

  abbrev pub moved_edges : List Edge
  moved_edges = refreshed (kinds_of t.nodes) (with_replaced from to (Some (Node but)) t.edges)

  abbrev pub now : RunTable
  now = record t { edges = moved_edges }

  onto_here : Contains t.nodes suits.onto.row × ((suits.onto.row.id == to) ≡ true)
  onto_here = find-Some (λ r. r.id == to) t.nodes suits.onto.row suits.onto.there

  pub sent : (p : Parent) (c : ℕ) → (lead p c ≡ c) ⊎ IsSent t c (lead p c)
  sent p c = by_test (c == from) (not (stays (Some (Node but)) p)) refl
    where
      by_test : (a b : Bool) → (c == from) ≡ a → (cond (a && b) to c ≡ c) ⊎ IsSent t c (cond (a && b) to c)
      by_test false b is = inl refl
      by_test true false is = inl refl
      by_test true true is = inr (record {
        row = suits.onto.row;
        there = onto_here.0;
        id = eqb-true suits.onto.row.id to onto_here.1;
        plain = not_copying suits.onto.row.kind suits.onto.own;
        free = suits.onto.free;
        away = subst (IsUnderNoFormat t) (sym (eqb-true c from is)) suits.plain.free;
      })

  child_led : (e : Edge) → (replaced from to (Some (Node but)) e).child ≡ lead e.parent e.child
  child_led e = by_test (e.child == from && not (stays (Some (Node but)) e.parent))
    where
      by_test : (b : Bool) → (cond b (with_child to e) e).child ≡ cond b to e.child
      by_test true = refl
      by_test false = refl

  pub moved_leads : Leads t moved_edges lead
  moved_leads = record {
    sent = sent;
    old = λ e there.
        let like = refreshed-old (kinds_of t.nodes) (with_replaced from to (Some (Node but)) t.edges) e there in
        let was = Contains-map (replaced from to (Some (Node but))) t.edges like.edge like.there in
        inl (record {
          edge = was.0;
          there = was.1;
          parent = sym (replaced-parent from to (Some (Node but)) was.0) ∙ ap (λ (x : Edge). x.parent) (sym was.2) ∙ like.same.parent;
          role = sym (replaced-role from to (Some (Node but)) was.0) ∙ ap (λ (x : Edge). x.role) (sym was.2) ∙ like.same.role;
          child = sym like.same.child ∙ ap (λ (x : Edge). x.child) was.2 ∙ child_led was.0;
        });
    keeps = λ e there role.
        let like = refreshed-new (kinds_of t.nodes) (with_replaced from to (Some (Node but)) t.edges) (replaced from to (Some (Node but)) e)
        (map-Contains (replaced from to (Some (Node but))) t.edges e there) in
        record {
          edge = like.edge;
          there = like.there;
          parent = like.same.parent ∙ replaced-parent from to (Some (Node but)) e;
          role = like.same.role ∙ replaced-role from to (Some (Node but)) e;
          child = like.same.child ∙ child_led e;
        };
    children = λ n row role at has other single.
        child_of-refreshed (kinds_of t.nodes) (Node n) role (with_replaced from to (Some (Node but)) t.edges)
        ∙ children_replaced from to (Some (Node but)) t.edges (Node n) role;
    drives = λ g.
        child_of-refreshed (kinds_of t.nodes) (Guest g) Drive (with_replaced from to (Some (Node but)) t.edges)
        ∙ children_replaced from to (Some (Node but)) t.edges (Guest g) Drive;
  }

  -- ---- what nodes read as

  pub to_other : to ≢ from
  to_other same = suits.apart (inl same)

  moving_other : (c : ℕ) → c ≢ from → moving from to c ≡ c
  moving_other c other = rw (ne_eqb c from other) refl

  moving_from : moving from to from ≡ to
  moving_from = rw (eq-eqb from from refl) refl

  after_moves : (n c : ℕ) → n ≢ but → lead (Node n) c ≡ moving from to c
  after_moves n c apart = by_child (c == from)
    where
      leaves : stays (Some (Node but)) (Node n) ≡ false
      leaves = rw (ne_eqb but n (λ same. apart (sym same))) refl

      by_child : (b : Bool) → cond (b && not (stays (Some (Node but)) (Node n))) to c ≡ cond b to c
      by_child true = rw leaves refl
      by_child false = refl

  pub guest_moves : (g c : ℕ) → lead (Guest g) c ≡ moving from to c
  guest_moves g c = by_child (c == from)
    where
      by_child : (b : Bool) → cond (b && not (stays (Some (Node but)) (Guest g))) to c ≡ cond b to c
      by_child true = refl
      by_child false = refl

  map_both : (f g : ℕ → ℕ) → ((c : ℕ) → f c ≡ g c) → (found : Option ℕ) → option_map f found ≡ option_map g found
  map_both f g each None = refl
  map_both f g each (Some c) = ap (λ (n : ℕ). Some n) (each c)

  -- filters' edges all move
  filtered_moves : (n : ℕ) → filtered now n ≡ option_map (moving from to) (filtered t n)
  filtered_moves n = by_row (node_by_id t n) refl
    where
      by_role : (row : NodeRecord) → node_by_id t n ≡ Some row → (role : Option Role) → filter_role row.kind ≡ role → (n ≢ but) ⊎ (role ≡ None)
          → option_and_then (child now n) role ≡ option_map (moving from to) (option_and_then (child t n) role)
      by_role row at None is which = refl
      by_role row at (Some role) is (inr none) = absurd cc
      by_role row at (Some role) is (inl apart) =
          let other = filter_other row.kind role is in
          moved_leads.children n row role at other.2 other.0 other.1 ∙ map_both (lead (Node n)) (moving from to) (λ c. after_moves n c apart) (child t n role)

      by_row : (found : Option NodeRecord) → node_by_id t n ≡ found → option_and_then (child now n) (option_and_then (λ row. filter_role row.kind) found)
          ≡ option_map (moving from to) (option_and_then (child t n) (option_and_then (λ row. filter_role row.kind) found))
      by_row None at = refl
      by_row (Some row) at = by_role row at (filter_role row.kind) refl (elim (cases_eq n but) [
        | inl is ↦ inr (suits.stays row (subst (λ m. node_by_id t m ≡ Some row) is at))
        | inr apart ↦ inl apart
      ])

  alone : (table : RunTable) (n : ℕ) (row : NodeRecord) → node_by_id table n ≡ Some row → filter_role row.kind ≡ None → filtered table n ≡ None
  alone table n row at own = rw (at, own) refl

  from_alone : filtered t from ≡ None
  from_alone = alone t from suits.plain.row suits.plain.there suits.plain.own

  pub to_alone : filtered now to ≡ None
  to_alone = alone now to suits.onto.row suits.onto.there suits.onto.own

  disk_alone : (more : ℕ) (table : RunTable) (n : ℕ) → filtered table n ≡ None → disk_from more table n ≡ n
  disk_alone zero table n none = refl
  disk_alone (suc more) table n none = from-child more table n None none

  path_alone : (more : ℕ) (table : RunTable) (n : ℕ) (p : ℕ → Bool) → filtered table n ≡ None → list_any p (path_from more table n) ≡ (p n || false)
  path_alone zero table n p none = refl
  path_alone (suc more) table n p none = path-child more table n p None none

  disk_from_moves : (more n : ℕ) → n ≢ from → disk_from more now n ≡ moving from to (disk_from more t n)
  disk_from_moves zero n differ = sym (moving_other n differ)
  disk_from_moves (suc more) n differ = by_child (filtered t n) refl (disk_from_moves more)
    where
      by_child : (below : Option ℕ) → filtered t n ≡ below → ((c : ℕ) → c ≢ from → disk_from more now c ≡ moving from to (disk_from more t c))
          → disk_from (suc more) now n ≡ moving from to (disk_from (suc more) t n)
      by_child None e rest =
          from-child more now n None (filtered_moves n ∙ ap (option_map (moving from to)) e) ∙ sym (moving_other n differ)
          ∙ ap (moving from to) (sym (from-child more t n None e))
      by_child (Some c) e rest =
          from-child more now n (Some (moving from to c)) (filtered_moves n ∙ ap (option_map (moving from to)) e) ∙ below
          ∙ ap (moving from to) (sym (from-child more t n (Some c) e))
        where
          below : disk_from more now (moving from to c) ≡ moving from to (disk_from more t c)
          below = elim (cases_eq c from) [
            | inr other ↦ ap (disk_from more now) (moving_other c other) ∙ rest c other
            | inl is ↦
                ap (disk_from more now) (ap (moving from to) is ∙ moving_from) ∙ disk_alone more now to to_alone
                ∙ sym (ap (λ m. moving from to (disk_from more t m)) is ∙ ap (moving from to) (disk_alone more t from from_alone) ∙ moving_from)
          ]

  pub disk_moves : (n : ℕ) → n ≢ from → disk_node now n ≡ moving from to (disk_node t n)
  unfolding disk_node
  disk_moves n differ = disk_from_moves 64 n differ

  still : (n : ℕ) (row : NodeRecord) → node_by_id t n ≡ Some row → filter_role row.kind ≡ None → copies_at t n ≡ false
  still n row at own = copies-at t n row at ∙ no_copies row.kind own

  path_from_moves : (more n : ℕ) → n ≢ from → list_any (copies_at t) (path_from more now n) ≡ list_any (copies_at t) (path_from more t n)
  path_from_moves zero n differ = refl
  path_from_moves (suc more) n differ = by_child (filtered t n) refl (path_from_moves more)
    where
      by_child : (below : Option ℕ) → filtered t n ≡ below
          → ((c : ℕ) → c ≢ from → list_any (copies_at t) (path_from more now c) ≡ list_any (copies_at t) (path_from more t c))
          → list_any (copies_at t) (path_from (suc more) now n) ≡ list_any (copies_at t) (path_from (suc more) t n)
      by_child None e rest =
          path-child more now n (copies_at t) None (filtered_moves n ∙ ap (option_map (moving from to)) e)
          ∙ sym (path-child more t n (copies_at t) None e)
      by_child (Some c) e rest =
          path-child more now n (copies_at t) (Some (moving from to c)) (filtered_moves n ∙ ap (option_map (moving from to)) e)
          ∙ ap (λ b. copies_at t n || b) below
          ∙ sym (path-child more t n (copies_at t) (Some c) e)
        where
          below : list_any (copies_at t) (path_from more now (moving from to c)) ≡ list_any (copies_at t) (path_from more t c)
          below = elim (cases_eq c from) [
            | inr other ↦ ap (λ m. list_any (copies_at t) (path_from more now m)) (moving_other c other) ∙ rest c other
            | inl is ↦
                ap (λ m. list_any (copies_at t) (path_from more now m)) (ap (moving from to) is ∙ moving_from)
                ∙ path_alone more now to (copies_at t) to_alone
                ∙ ap (λ b. b || false) (still to suits.onto.row suits.onto.there suits.onto.own ∙ sym (still from suits.plain.row suits.plain.there suits.plain.own))
                ∙ sym (path_alone more t from (copies_at t) from_alone)
                ∙ ap (λ m. list_any (copies_at t) (path_from more t m)) (sym is)
          ]

  pub copies_moves : (n : ℕ) → n ≢ from → copies_through now n ≡ copies_through t n
  unfolding path
  copies_moves n differ = path_from_moves 64 n differ

  reads_moved : (n : ℕ) (row : NodeRecord) → node_by_id t n ≡ Some row → With (node_by_id t (disk_node now n)) (IsDiskOf now row)
  reads_moved n row at = elim (cases_eq n from) [
    | inl is ↦
        let id : row.id ≡ n = eqb-true row.id n (find-Some (λ r. r.id == n) t.nodes row at).1 in
        let at_from = subst (λ m. node_by_id t m ≡ Some row) is at in
        let plain = suits.plain.there in
        let same : row ≡ suits.plain.row = cc in
        subst (λ m. With (node_by_id t (disk_node now m)) (IsDiskOf now row)) id
        (own_reads now row (subst (λ m. node_by_id t m ≡ Some row) (sym id) at) (ap (λ r. filter_role r.kind) same ∙ suits.plain.own))
    | inr differ ↦ by_disk differ (node_by_id t (disk_node t n)) refl (h.reads n row at)
  ]
    where
      row_id : row.id ≡ n
      row_id = eqb-true row.id n (find-Some (λ r. r.id == n) t.nodes row at).1

      kept : n ≢ from → (d : NodeRecord) → IsDiskOf t row d → IsDiskOf now row d
      kept differ d k = record {
        own = k.own;
        itself = λ some. elim (k.itself some) [ inl same ↦ inl same | inr free ↦ inr (free_led t moved_edges lead moved_leads h d.id free) ];
        writable = λ w. k.writable (ap (λ b. not row.read_only || b) (sym (copies_moves row.id (λ is. differ (sym row_id ∙ is)))) ∙ w);
      }

      by_disk : n ≢ from → (d : Option NodeRecord) → node_by_id t (disk_node t n) ≡ d → With d (IsDiskOf t row)
          → With (node_by_id t (disk_node now n)) (IsDiskOf now row)
      by_disk differ None e k = absurd k
      by_disk differ (Some d) e k = elim (cases_eq (disk_node t n) from) [
        | inr other ↦
            subst (λ m. With (node_by_id t m) (IsDiskOf now row)) (sym (disk_moves n differ ∙ moving_other (disk_node t n) other))
            (with_at (IsDiskOf now row) (node_by_id t (disk_node t n)) d e (kept differ d k))
        | inl is ↦
            subst (λ m. With (node_by_id t m) (IsDiskOf now row)) (sym (disk_moves n differ ∙ ap (moving from to) is ∙ moving_from))
            (with_at (IsDiskOf now row) (node_by_id t to) suits.onto.row suits.onto.there (record {
              own = suits.onto.own;
              itself = λ some. inr (subst (IsUnderNoFormat now) (sym (eqb-true suits.onto.row.id to onto_here.1)) (free_led t moved_edges lead moved_leads h to suits.onto.free));
              writable = λ w. suits.writable;
            }))
      ]

  pub moved_ways : IsAcyclic moved_edges
  moved_ways = IsAcyclic-refreshed (kinds_of t.nodes) (with_replaced from to (Some (Node but)) t.edges) (moved_acyclic t.edges from to but h.acyclic suits.apart)

  pub moved_stands : TableStands now
  moved_stands = led_table t moved_edges lead moved_leads h reads_moved moved_ways

pub moved_table : (t : RunTable) (from to but : ℕ) → SuitsMove t from to but → TableStands t → TableStands (changed t (change.Move from to but))
unfolding changed
moved_table t from to but suits h = moved_stands t from to but suits h
