-- Nodes are named, added and removed.
use Rattle.std.proofs.Common.{◌≡◌, ◌≢◌, ◌⊎◌, ℕ, zero, suc, get_or, set, replicate, get_or-set_other, get_or-set_same, ◌<◌, ◌+◌, ◌≤◌, List, [], ◌∷◌, ◌++◌, length, map, refl, sym, ◌∙◌, ap, subst, inl, inr, arith, Bool, true, false, cond, Option, Some, None, length-append}
use Rattle.std.specs.Prelude.{not, ◌==◌, nat_eq, IfSome, IfNone, is_some}
use Rattle.std.specs.List.{Contains, filter, find, IsDistinct, AllByRecursion, list_any}
use Rattle.std.specs.Option.{option_map}
use Rattle.std.specs.Cmp.{nat_eq_equiv, unsigned_Decides}
use Rattle.std.proofs.lemmas.Bool.{ne_eqb, eqb-true, eqb-false, eq-eqb, cases_eq}
use Rattle.std.proofs.lemmas.List.{map-append, length-map}
use Rattle.std.proofs.lemmas.List.{length-set}
use Rattle.std.proofs.lemmas.List.Elements.{Contains-push, Contains-push_cases, Contains-append_left}
use Rattle.std.proofs.lemmas.Map.Keys.{IsDistinct-push, IsDistinct-cons, IsDistinct-head, IsDistinct-tail}
use Rattle.std.proofs.lemmas.Map.Made.{is_member-Decides}
use Rattle.blk_base.specs.Written.{Written}
use Rattle.slab.specs.Slab.{Slab, get, slab_len, Updates}
use Rattle.blk_graph.specs.declared.edge.Edge.{Edge}
use Rattle.blk_graph.specs.declared.edge.Parent.{Parent}
use Rattle.blk_graph.specs.declared.edge.Parent.TheVariants.{Node, Guest, Job}
use Rattle.blk_graph.specs.Edges.{same_parent}
use Rattle.blk_graph.specs.Edits.{without_parent, IsLone}
use Rattle.blk_graph.specs.Permissions.{uses_by, has_role}
use Rattle.blk_graph.specs.Refreshed.{no_kind, kind_at, IsOf, IsByTable, uses_into, with_uses, ruled, ruled_from, refreshed}
use Rattle.blk_graph.specs.declared.edge.Uses.{Uses}
use Rattle.blk_graph.specs.declared.kind.NodeKind.{NodeKind}
use Rattle.blk_graph.specs.Graph.{NodeRow, Graph, HasNode, HasParent, HasName, DifferentNames, IsJust, IsSoundGraph, no_graph}
use Rattle.blk_graph.specs.Judged.{first_parent, other_nodes}
use Rattle.blk_graph.specs.Layout.{name_of, key_of, row_of, graph_of, HasNames, IsKept}
use Rattle.blk_graph.proofs.Members.{Contains-here, Contains-there, Contains-cases, Contains-nil, Contains-map, map-Contains, Contains-filter}
use Rattle.blk_graph.proofs.InverseLemmas.{same_parent-refl}
use Rattle.blk_graph.proofs.RuleLemmas.{find-None}
use Rattle.blk_graph.proofs.ChildLemmas.{lone-absent}
use Rattle.blk_graph.proofs.GraphLemmas.{ids-graph_of}
use Rattle.blk_graph.proofs.RefreshLemmas.{ruled-same, refreshed-by}
use Rattle.blk_graph.proofs.StillLemmas.{get_or-replicate}

distinct-nil : IsDistinct nat_eq []
unfolding IsDistinct
distinct-nil = tt

-- the empty graph
pub IsSound-none : IsSoundGraph no_graph
IsSound-none = record {
  different_nodes = distinct-nil;
  different_names = λ a b h. absurd (Contains-nil a h);
  few_nodes = omega arith;
  small = λ id h. absurd (Contains-nil id h);
  kinds = refl;
  vacant = λ id h. get_or-replicate 64 id no_kind;
  fit = record {
    each = λ e h. absurd (Contains-nil e h);
    places = λ i j d below within. absurd (omega (arith, within));
  };
  just = record {
    acyclic = λ node cycle. absurd (Contains-nil cycle.first cycle.path.0);
    refreshed = λ e h. absurd (Contains-nil e h);
    rule = λ i j asking other at_i. absurd cc;
  };
}

pub IsKept-empty : (names : Slab Written) (room : ℕ) → names.slots ≡ [] → names.capacity ≡ 64 → 64 ≤ room
    → IsKept names (replicate 64 0) [] (replicate 64 no_kind) [] room
IsKept-empty names room empty names_room fits = record {
  named = λ id h. absurd (Contains-nil id h);
  apart = λ a b h. absurd (Contains-nil a h);
  keys_room = refl;
  count = rw empty refl;
  names_room = names_room;
  nodes_fit = fits;
  sound = IsSound-none;
}

pub set-default : {X : Type 0} (xs : List X) (i : ℕ) (d : X) → get_or (set xs i d) i d ≡ d
set-default [] i d = refl
set-default (x ∷ xs) zero d = refl
set-default (x ∷ xs) (suc i) d = set-default xs i d

-- another kind of a node without edges changes nothing
pub kind_at-other : (kinds : List NodeKind) (node other : ℕ) (kind : NodeKind) → other ≢ node
    → kind_at (set kinds node kind) other ≡ kind_at kinds other
kind_at-other kinds node other kind differ = get_or-set_other kinds node other kind no_kind differ

ruled-kinds : (kinds : List NodeKind) (node : ℕ) (kind : NodeKind) (above : ℕ → Uses) (e : Edge) → e.parent ≢ Node node
    → ruled (set kinds node kind) above e ≡ ruled kinds above e
ruled-kinds kinds node kind above e differ = by_parent e.parent differ
  where
    by_parent : (p : Parent) → p ≢ Node node → ruled_from (set kinds node kind) above e p ≡ ruled_from kinds above e p
    by_parent (Node n) differ =
        ap (λ k. with_uses e (uses_by k e.role (above n))) (kind_at-other kinds node n kind (λ is. differ (ap Node is)))
    by_parent (Guest n) differ = refl
    by_parent (Job n) differ = refl

table-kinds : (kinds : List NodeKind) (node : ℕ) (kind : NodeKind) (e : Edge) → e.parent ≢ Node node → IsByTable kinds e
    → IsByTable (set kinds node kind) e
table-kinds kinds node kind e differ h = by_parent e.parent differ h
  where
    by_parent : (p : Parent) → p ≢ Node node → IsOf kinds e p → IsOf (set kinds node kind) e p
    by_parent (Node n) differ own =
        ap (λ k. has_role k.kind e.role) (kind_at-other kinds node n kind (λ is. differ (ap Node is))) ∙ own
    by_parent (Guest n) differ own = own
    by_parent (Job n) differ own = own

IsJust-kinds : (kinds : List NodeKind) (node : ℕ) (kind : NodeKind) (edges : List Edge)
    → ((e : Edge) → Contains edges e → e.parent ≢ Node node) → IsJust kinds edges → IsJust (set kinds node kind) edges
IsJust-kinds kinds node kind edges apart just = record {
  acyclic = just.acyclic;
  refreshed = λ e h. ruled-kinds kinds node kind (uses_into edges) e (apart e h) ∙ just.refreshed e h;
  rule = just.rule;
}

module _ (names : Slab Written) (keys order : List ℕ) (kinds : List NodeKind) (edges : List Edge) where
  pub Contains-order : (id : ℕ) → HasNode (graph_of names keys order kinds edges) id → Contains order id
  Contains-order id h = rw (ids-graph_of names keys order kinds edges) at h

  -- a node stands among the nodes with its name
  pub Contains-row : (id : ℕ) → Contains order id → Contains (map (row_of names keys) order) (record { id = id; name = name_of names (key_of keys id) })
  Contains-row id h = map-Contains (row_of names keys) order id h

  -- a node that has a name is one of the keys
  pub named_node : (name : List ℕ) → HasName (graph_of names keys order kinds edges) name
      → (id : ℕ) × Contains order id × (name_of names (key_of keys id) ≡ name)
  named_node name h =
      let r = Contains-map (λ (row : NodeRow). row.name) (map (row_of names keys) order) name h in
      let s = Contains-map (row_of names keys) order r.0 r.1 in
      (s.0, s.1, sym (r.2 ∙ ap (λ (row : NodeRow). row.name) s.2))

  pub has_name : (id : ℕ) → Contains order id → HasName (graph_of names keys order kinds edges) (name_of names (key_of keys id))
  has_name id h = map-Contains (λ (row : NodeRow). row.name) (map (row_of names keys) order) (row_of names keys id) (Contains-row id h)

  -- what a look for a name finds
  pub found_row : (slice : List ℕ) (name : List ℕ) (result : Option ℕ) → slice ≡ order
      → IfSome result (λ id. Contains slice id) → IfSome result (λ id. name_of names (key_of keys id) ≡ name)
      → IfSome result (λ id. Contains (map (row_of names keys) order) (record { id = id; name = name }))
  found_row slice name None is there named = tt
  found_row slice name (Some id) is there named = rw (← named) (Contains-row id (rw is at there))

  pub no_row : (slice : List ℕ) (name : List ℕ) (result : Option ℕ) → slice ≡ order
      → IfNone result ((id : ℕ) → Contains slice id → name_of names (key_of keys id) ≢ name)
      → IfNone result (HasName (graph_of names keys order kinds edges) name → ⊥)
  no_row slice name None is none = λ h. let r = named_node name h in none r.0 (rw is r.1) r.2
  no_row slice name (Some id) is none = tt

  -- a look that found a node, and one that found none
  pub taken_name : (slice : List ℕ) (name : List ℕ) (result : Option ℕ) → is_some result ≡ true → slice ≡ order
      → IfSome result (λ id. Contains slice id) → IfSome result (λ id. name_of names (key_of keys id) ≡ name)
      → HasName (graph_of names keys order kinds edges) name
  taken_name slice name None some is there named = absurd cc
  taken_name slice name (Some id) some is there named = rw (← named) (has_name id (rw is at there))

  pub free_name : (slice : List ℕ) (name : List ℕ) (result : Option ℕ) → is_some result ≡ false → slice ≡ order
      → IfNone result ((id : ℕ) → Contains slice id → name_of names (key_of keys id) ≢ name)
      → HasName (graph_of names keys order kinds edges) name → ⊥
  free_name slice name None some is none h = no_row slice name None is none h
  free_name slice name (Some id) some is none h = cc

-- where each node keeps its name, the rows are as they were
pub rows_kept : (old new : Slab Written) (keys keys' order : List ℕ)
    → ((id : ℕ) → Contains order id → name_of new (key_of keys' id) ≡ name_of old (key_of keys id))
    → map (row_of new keys') order ≡ map (row_of old keys) order
rows_kept old new keys keys' [] same = refl
rows_kept old new keys keys' (id ∷ order) same =
    let here : row_of new keys' id ≡ row_of old keys id
    = ap (λ (name : List ℕ). let row : NodeRow = record { id = id; name = name } in row) (same id (Contains-here id order)) in
    ap (λ (row : NodeRow). row ∷ map (row_of new keys') order) here
    ∙ ap (λ (rows : List NodeRow). row_of old keys id ∷ rows)
    (rows_kept old new keys keys' order (λ x h. same x (Contains-there id order x h)))

-- a vacant key is none of the nodes'
pub vacant_apart : (names : Slab Written) (keys order : List ℕ) (key : ℕ) → HasNames names keys order → get names key ≡ None
    → (id : ℕ) → Contains order id → key_of keys id ≢ key
vacant_apart names keys order key named vacant id h is =
    let there = named id h in
    let none : is_some (get names (key_of keys id)) ≡ false = rw (is, vacant) refl in cc

key-other : (keys : List ℕ) (id other key : ℕ) → other ≢ id → key_of (set keys id key) other ≡ key_of keys other
key-other keys id other key differ = get_or-set_other keys id other key 0 differ

key-own : (keys : List ℕ) (id key : ℕ) → id < length keys → key_of (set keys id key) id ≡ key
key-own keys id key within = get_or-set_same keys id key 0 within

-- the rows after an addition
pub rows_added : (old new : Slab Written) (keys order : List ℕ) (id key : ℕ) (text : Written) → HasNames old keys order
    → (Contains order id → ⊥) → id < length keys → get old key ≡ None → Updates old new key (Some text)
    → map (row_of new (set keys id key)) (order ++ id ∷ []) ≡ map (row_of old keys) order ++ (record { id = id; name = text.bytes }) ∷ []
rows_added old new keys order id key text named free within vacant updates =
    let keys' : List ℕ = set keys id key in
    let same : (x : ℕ) → Contains order x → name_of new (key_of keys' x) ≡ name_of old (key_of keys x)
    = λ x h.
    let at : key_of keys' x ≡ key_of keys x = key-other keys id x key (λ e. free (rw e at h)) in
    let kept : get new (key_of keys x) ≡ get old (key_of keys x)
    = updates.others (key_of keys x) (vacant_apart old keys order key named vacant x h) in
    ap (name_of new) at ∙ ap (λ found. elim found as (λ _. List ℕ) [ None ↦ [] | Some t ↦ t.bytes ]) kept in
    let own : name_of new (key_of keys' id) ≡ text.bytes
    = ap (name_of new) (key-own keys id key within)
    ∙ ap (λ found. elim found as (λ _. List ℕ) [ None ↦ [] | Some t ↦ t.bytes ]) updates.changed in
    let last : row_of new keys' id ≡ record { id = id; name = text.bytes }
    = ap (λ (name : List ℕ). let row : NodeRow = record { id = id; name = name } in row) own in
    map-append (row_of new keys') order (id ∷ [])
    ∙ ap (λ (rows : List NodeRow). rows ++ row_of new keys' id ∷ []) (rows_kept old new keys keys' order same)
    ∙ ap (λ (row : NodeRow). map (row_of old keys) order ++ row ∷ []) last

not_member : (order : List ℕ) (key : ℕ) → (Contains order key → ⊥) → list_any (nat_eq key) order ≡ false
not_member order key none = by_test (list_any (nat_eq key) order) refl
  where
    by_test : (b : Bool) → list_any (nat_eq key) order ≡ b → list_any (nat_eq key) order ≡ false
    by_test true e = absurd (none ((is_member-Decides unsigned_Decides order key).0 e))
    by_test false e = e

-- a node of one graph is one of another
HasParent-kept : (g h : Graph) → ((n : ℕ) → HasNode g n → HasNode h n) → (parent : Parent) → HasParent g parent → HasParent h parent
HasParent-kept g h kept (Node n) is = kept n is
HasParent-kept g h kept (Guest n) is = is
HasParent-kept g h kept (Job n) is = is

-- the names differ where a node with a new one is added
names-added : (rows : List NodeRow) (new : NodeRow) → DifferentNames rows
    → (Contains (map (λ (row : NodeRow). row.name) rows) new.name → ⊥) → DifferentNames (rows ++ new ∷ [])
names-added rows new differ free a b at_a at_b same = by_cases (Contains-push_cases rows new a at_a) (Contains-push_cases rows new b at_b)
  where
    taken : (old other : NodeRow) → Contains rows old → new ≡ other → other.name ≡ old.name → ⊥
    taken old other there is equal =
        let P : List ℕ → Type 0 = λ name. Contains (map (λ (row : NodeRow). row.name) rows) name in
        let e : new.name ≡ old.name = ap (λ (row : NodeRow). row.name) is ∙ equal in
        free (subst P (sym e) (map-Contains (λ (row : NodeRow). row.name) rows old there))

    by_cases : Contains rows a ⊎ (new ≡ a) → Contains rows b ⊎ (new ≡ b) → a.id ≡ b.id
    by_cases (inl was_a) (inl was_b) = differ a b was_a was_b same
    by_cases (inl was_a) (inr is_b) = absurd (taken a b was_a is_b (sym same))
    by_cases (inr is_a) (inl was_b) = absurd (taken b a was_b is_a same)
    by_cases (inr is_a) (inr is_b) = ap (λ (row : NodeRow). row.id) (sym is_a ∙ is_b)

-- and where one is removed
names-removed : (node : ℕ) (rows : List NodeRow) → DifferentNames rows → DifferentNames (other_nodes node rows)
names-removed node rows differ a b at_a at_b same =
    let test : NodeRow → Bool = λ row. not (row.id == node) in
    differ a b (Contains-filter test rows a at_a).0 (Contains-filter test rows b at_b).0 same

pub IsKept-added : (old new : Slab Written) (keys order : List ℕ) (kinds : List NodeKind) (edges : List Edge) (id key : ℕ)
    (text : Written) (kind : NodeKind) (room : ℕ)
    → IsKept old keys order kinds edges room → length order ≢ 64 → (HasName (graph_of old keys order kinds edges) text.bytes → ⊥)
    → (Contains order id → ⊥) → id < 64 → get old key ≡ None → Updates old new key (Some text)
    → slab_len new ≡ slab_len old + 1 → new.capacity ≡ old.capacity
    → IsKept new (set keys id key) (order ++ id ∷ []) (set kinds id kind) edges room
IsKept-added old new keys order kinds edges id key text kind room kept few free apart small vacant updates count same_room =
    let keys' : List ℕ = set keys id key in
    let kinds' : List NodeKind = set kinds id kind in
    let before : Graph = graph_of old keys order kinds edges in
    let after : Graph = graph_of new keys' (order ++ id ∷ []) kinds' edges in
    let within : id < length keys = omega (arith, small, kept.keys_room) in
    let at_most : length order ≤ 64 = omega (arith, kept.sound.few_nodes, length-map order (row_of old keys)) in
    let longer : length (order ++ id ∷ []) ≡ length order + 1 = omega (arith, length-append order (id ∷ [])) in
    let stays : (n : ℕ) → HasNode before n → HasNode after n
    = λ n h. rw (ids-graph_of new keys' (order ++ id ∷ []) kinds' edges)
    (Contains-append_left order (id ∷ []) n (Contains-order old keys order kinds edges n h)) in
    let lone : IsLone edges id = lone-absent before id kept.sound (λ h. apart (Contains-order old keys order kinds edges id h)) in
    let new_there : HasNode after id
    = rw (ids-graph_of new keys' (order ++ id ∷ []) kinds' edges) (Contains-push order id) in
    let other : (x : ℕ) → Contains order x → key_of keys' x ≡ key_of keys x
    = λ x h. key-other keys id x key (λ e. apart (rw e at h)) in
    let own : key_of keys' id ≡ key = key-own keys id key within in
    let unused : (x : ℕ) → Contains order x → key_of keys x ≢ key = vacant_apart old keys order key kept.named vacant in
    record {
      named = λ x h. elim (Contains-push_cases order id x h) [
        | inl was ↦ rw (other x was, updates.others (key_of keys x) (unused x was)) (kept.named x was)
        | inr is ↦ rw (← is, own, updates.changed) refl
      ];
      apart = λ a b h k same. elim (Contains-push_cases order id a h) [
        | inl was_a ↦ elim (Contains-push_cases order id b k) [
          | inl was_b ↦ kept.apart a b was_a was_b (sym (other a was_a) ∙ same ∙ other b was_b)
          | inr is_b ↦ absurd (unused a was_a (sym (other a was_a) ∙ same ∙ ap (key_of keys') (sym is_b) ∙ own))
        ]
        | inr is_a ↦ elim (Contains-push_cases order id b k) [
          | inl was_b ↦ absurd (unused b was_b (sym (other b was_b) ∙ sym same ∙ ap (key_of keys') (sym is_a) ∙ own))
          | inr is_b ↦ sym is_a ∙ is_b
        ]
      ];
      keys_room = length-set keys id key ∙ kept.keys_room;
      count = omega (arith, longer, kept.count);
      names_room = same_room ∙ kept.names_room;
      nodes_fit = kept.nodes_fit;
      sound = record {
        different_nodes = rw (ids-graph_of new keys' (order ++ id ∷ []) kinds' edges)
            (IsDistinct-push nat_eq_equiv order id (rw (ids-graph_of old keys order kinds edges) at kept.sound.different_nodes)
            (not_member order id apart));
        different_names =
            let P : List NodeRow → Type 0 = λ rows. DifferentNames rows in
            subst P (sym (rows_added old new keys order id key text kept.named apart within vacant updates))
            (names-added (map (row_of old keys) order) (record { id = id; name = text.bytes }) kept.sound.different_names free);
        few_nodes = omega (arith, at_most, longer, few, length-map (order ++ id ∷ []) (row_of new keys'));
        small = λ x h. elim (Contains-push_cases order id x (rw (ids-graph_of new keys' (order ++ id ∷ []) kinds' edges) at h)) [
          | inl was ↦ kept.sound.small x (rw (ids-graph_of old keys order kinds edges) was)
          | inr is ↦ rw (← is) small
        ];
        kinds = length-set kinds id kind ∙ kept.sound.kinds;
        vacant = λ x none. kind_at-other kinds id x kind (λ same. none (subst (HasNode after) (sym same) new_there))
            ∙ kept.sound.vacant x (λ h. none (stays x h));
        fit = record {
          each = λ e h. let own = kept.sound.fit.each e h in
              record {
                parent = HasParent-kept before after stays e.parent own.parent;
                child = stays e.child own.child;
                table = table-kinds kinds id kind e (lone.leaves e h) own.table;
              };
          places = kept.sound.fit.places;
        };
        just = IsJust-kinds kinds id kind edges lone.leaves kept.sound.just;
      };
    }

-- whether a node stays where another is removed
abbrev pub is_other_node : ℕ → ℕ → Bool
is_other_node node id = not (id == node)

filter_apart : (x node : ℕ) (xs : List ℕ) → x ≡ node → AllByRecursion (λ y. nat_eq x y ≡ false) xs
    → filter (is_other_node node) xs ≡ xs
filter_apart x node [] same apart = refl
filter_apart x node (y ∷ xs) same apart =
    let differ : y ≢ node = λ e. eqb-false x y apart.0 (same ∙ sym e) in
    rw (ne_eqb y node differ, filter) (ap (λ ys. y ∷ ys) (filter_apart x node xs same apart.1))

-- one node fewer
length_removed : (node : ℕ) (order : List ℕ) → IsDistinct nat_eq order → Contains order node
    → length (filter (is_other_node node) order) + 1 ≡ length order
length_removed node [] distinct h = absurd (Contains-nil node h)
length_removed node (x ∷ xs) distinct h =
    by_test (x == node) refl (λ there. length_removed node xs (IsDistinct-tail nat_eq x xs distinct) there) (Contains-cases x xs node h)
  where
    by_test : (b : Bool) → (x == node) ≡ b → (Contains xs node → length (filter (is_other_node node) xs) + 1 ≡ length xs)
        → (node ≡ x) ⊎ Contains xs node
        → length (cond (not b) (x ∷ filter (is_other_node node) xs) (filter (is_other_node node) xs)) + 1 ≡ length (x ∷ xs)
    by_test true e ih m =
        let same : filter (is_other_node node) xs ≡ xs
        = filter_apart x node xs (eqb-true x node e) (IsDistinct-head nat_eq x xs distinct) in
        omega (arith, ap length same)
    by_test false e ih (inl here) = absurd (eqb-false x node e (sym here))
    by_test false e ih (inr there) = omega (arith, ih there)

all_filtered : (P : ℕ → Type 0) (p : ℕ → Bool) (xs : List ℕ) → AllByRecursion P xs → AllByRecursion P (filter p xs)
all_filtered P p [] h = tt
all_filtered P p (x ∷ xs) h = by_test (p x) (all_filtered P p xs h.1)
  where
    by_test : (b : Bool) → AllByRecursion P (filter p xs) → AllByRecursion P (cond b (x ∷ filter p xs) (filter p xs))
    by_test true ih = (h.0, ih)
    by_test false ih = ih

distinct_filtered : (p : ℕ → Bool) (xs : List ℕ) → IsDistinct nat_eq xs → IsDistinct nat_eq (filter p xs)
distinct_filtered p [] h = distinct-nil
distinct_filtered p (x ∷ xs) h = by_test (p x) (distinct_filtered p xs (IsDistinct-tail nat_eq x xs h))
  where
    by_test : (b : Bool) → IsDistinct nat_eq (filter p xs) → IsDistinct nat_eq (cond b (x ∷ filter p xs) (filter p xs))
    by_test true ih = IsDistinct-cons nat_eq x (filter p xs) (all_filtered _ p xs (IsDistinct-head nat_eq x xs h)) ih
    by_test false ih = ih

other-apart : (node id : ℕ) → is_other_node node id ≡ true → id ≢ node
other-apart node id h e = let is : (id == node) ≡ true = eq-eqb id node e in let no : not true ≡ true = rw is at h in cc

apart-other : (node id : ℕ) → id ≢ node → is_other_node node id ≡ true
apart-other node id h = rw (ne_eqb id node h) refl

-- the rows after a removal
filtered_rows : (f : ℕ → NodeRow) (node : ℕ) (order : List ℕ) → ((id : ℕ) → (f id).id ≡ id)
    → map f (filter (is_other_node node) order) ≡ other_nodes node (map f order)
filtered_rows f node [] own = refl
filtered_rows f node (id ∷ order) own =
    let same : ((f id).id == node) ≡ (id == node) = ap (λ x. x == node) (own id) in
    rw same (by_test (id == node) (filtered_rows f node order own))
  where
    by_test : (b : Bool) → map f (filter (is_other_node node) order) ≡ other_nodes node (map f order)
        → map f (cond (not b) (id ∷ filter (is_other_node node) order) (filter (is_other_node node) order))
        ≡ cond (not b) (f id ∷ other_nodes node (map f order)) (other_nodes node (map f order))
    by_test true ih = ih
    by_test false ih = ap (λ rows. f id ∷ rows) ih

pub rows_removed : (old new : Slab Written) (keys : List ℕ) (node : ℕ) (order : List ℕ)
    → ((id : ℕ) → Contains order id → id ≢ node → get new (key_of keys id) ≡ get old (key_of keys id))
    → map (row_of new keys) (filter (is_other_node node) order) ≡ other_nodes node (map (row_of old keys) order)
rows_removed old new keys node order same =
    rows_kept old new keys keys (filter (is_other_node node) order)
    (λ id h. let r = Contains-filter (is_other_node node) order id h in
    ap (λ found. elim found as (λ _. List ℕ) [ None ↦ [] | Some t ↦ t.bytes ]) (same id r.0 (other-apart node id r.1)))
    ∙ filtered_rows (row_of old keys) node order (λ id. refl)

option_map-none : {X Y : Type 0} (f : X → Y) (o : Option X) → option_map f o ≡ None → o ≡ None
option_map-none f None h = refl
option_map-none f (Some x) h = cc

-- where no edge's parent is found, no edge leads to the node
pub no_child_from_None : (node : ℕ) (edges : List Edge) → first_parent node edges ≡ None → (e : Edge) → Contains edges e
    → e.child ≢ node
no_child_from_None node edges none e h =
    eqb-false e.child node
    (find-None (λ edge. edge.child == node) edges
    (option_map-none (λ edge. edge.parent) (find (λ edge. edge.child == node) edges) none) e h)

HasParent-unless : (g h : Graph) (node : ℕ) → ((n : ℕ) → n ≢ node → HasNode g n → HasNode h n) → (parent : Parent)
    → parent ≢ Node node → HasParent g parent → HasParent h parent
HasParent-unless g h node kept (Node n) apart is = kept n (λ e. apart (ap Node e)) is
HasParent-unless g h node kept (Guest n) apart is = is
HasParent-unless g h node kept (Job n) apart is = is

filter-Contains : (p : ℕ → Bool) (xs : List ℕ) (x : ℕ) → Contains xs x → p x ≡ true → Contains (filter p xs) x
filter-Contains p [] x h passes = absurd (Contains-nil x h)
filter-Contains p (y ∷ xs) x h passes =
    by_test (p y) refl (λ there. filter-Contains p xs x there passes) (Contains-cases y xs x h)
  where
    by_test : (b : Bool) → p y ≡ b → (Contains xs x → Contains (filter p xs) x) → (x ≡ y) ⊎ Contains xs x
        → Contains (cond b (y ∷ filter p xs) (filter p xs)) x
    by_test true e ih (inl here) = rw here (Contains-here y (filter p xs))
    by_test true e ih (inr there) = Contains-there y (filter p xs) x (ih there)
    by_test false e ih (inl here) = absurd (let is : p x ≡ false = ap p here ∙ e in cc)
    by_test false e ih (inr there) = ih there

pub IsKept-removed : (old new : Slab Written) (keys order : List ℕ) (kinds : List NodeKind) (edges : List Edge) (node room : ℕ)
    → IsKept old keys order kinds edges room → Contains order node
    → ((e : Edge) → Contains edges e → e.child ≢ node) → ((e : Edge) → Contains edges e → e.parent ≢ Node node)
    → Updates old new (key_of keys node) None → slab_len new + 1 ≡ slab_len old → new.capacity ≡ old.capacity
    → IsKept new keys (filter (is_other_node node) order) (set kinds node no_kind) edges room
IsKept-removed old new keys order kinds edges node room kept there no_child no_parent updates count same_room =
    let before : Graph = graph_of old keys order kinds edges in
    let after : Graph = graph_of new keys (filter (is_other_node node) order) (set kinds node no_kind) edges in
    let distinct : IsDistinct nat_eq order = rw (ids-graph_of old keys order kinds edges) at kept.sound.different_nodes in
    let fewer : length (filter (is_other_node node) order) + 1 ≡ length order = length_removed node order distinct there in
    let at_most : length order ≤ 64 = omega (arith, kept.sound.few_nodes, length-map order (row_of old keys)) in
    let stays : (n : ℕ) → n ≢ node → HasNode before n → HasNode after n
    = λ n apart h. rw (ids-graph_of new keys (filter (is_other_node node) order) (set kinds node no_kind) edges)
    (filter-Contains (is_other_node node) order n (Contains-order old keys order kinds edges n h) (apart-other node n apart)) in
    let differ : (id : ℕ) → Contains order id → id ≢ node → key_of keys id ≢ key_of keys node
    = λ id h differs same. differs (kept.apart id node h there same) in
    record {
      named = λ id h.
          let r = Contains-filter (is_other_node node) order id h in
          rw (updates.others (key_of keys id) (differ id r.0 (other-apart node id r.1))) (kept.named id r.0);
      apart = λ a b h k.
          kept.apart a b (Contains-filter (is_other_node node) order a h).0 (Contains-filter (is_other_node node) order b k).0;
      keys_room = kept.keys_room;
      count = omega (arith, fewer, count, kept.count);
      names_room = same_room ∙ kept.names_room;
      nodes_fit = kept.nodes_fit;
      sound = record {
        different_nodes = rw (ids-graph_of new keys (filter (is_other_node node) order) (set kinds node no_kind) edges)
            (distinct_filtered (is_other_node node) order distinct);
        different_names =
            let P : List NodeRow → Type 0 = λ rows. DifferentNames rows in
            subst P (sym (rows_removed old new keys node order (λ id h differs. updates.others (key_of keys id) (differ id h differs)))) (names-removed node (map (row_of old keys) order) kept.sound.different_names);
        few_nodes = omega (arith, fewer, at_most, length-map (filter (is_other_node node) order) (row_of new keys));
        small = λ x h.
            let there = (Contains-filter (is_other_node node) order x
            (rw (ids-graph_of new keys (filter (is_other_node node) order) (set kinds node no_kind) edges) at h)).0 in
            kept.sound.small x (rw (ids-graph_of old keys order kinds edges) there);
        kinds = length-set kinds node no_kind ∙ kept.sound.kinds;
        vacant = λ x none. elim (cases_eq x node) [
          | inl same ↦ rw same (set-default kinds node no_kind)
          | inr other ↦ kind_at-other kinds node x no_kind other ∙ kept.sound.vacant x (λ h. none (stays x other h))
        ];
        fit = record {
          each = λ e h. let own = kept.sound.fit.each e h in
              record {
                parent = HasParent-unless before after node stays e.parent (no_parent e h) own.parent;
                child = stays e.child (no_child e h) own.child;
                table = table-kinds kinds node no_kind e (no_parent e h) own.table;
              };
          places = kept.sound.fit.places;
        };
        just = IsJust-kinds kinds node no_kind edges no_parent kept.sound.just;
      };
    }

-- where a parent's edges are gone, none has that parent
pub without_parent-apart : (parent : Parent) (edges : List Edge) (e : Edge) → Contains (without_parent parent edges) e
    → Contains edges e × (e.parent ≢ parent)
without_parent-apart parent edges e h =
    let r = Contains-filter (λ edge. not (same_parent edge.parent parent)) edges e h in (
      r.0,
      λ is.
          let same : same_parent e.parent parent ≡ true = rw is (same_parent-refl parent) in
          let no : not true ≡ true = rw same at r.1 in cc,
    )

-- the edges after a removal neither enter nor leave the node
pub removed-apart : (kinds : List NodeKind) (node : ℕ) (edges : List Edge) → ((e : Edge) → Contains edges e → e.child ≢ node)
    → (e : Edge) → Contains (refreshed kinds (without_parent (Node node) edges)) e → (e.child ≢ node) × (e.parent ≢ Node node)
removed-apart kinds node edges none =
    refreshed-by kinds (λ now. (e : Edge) → Contains now e → (e.child ≢ node) × (e.parent ≢ Node node))
    (λ now h e there.
    let r = Contains-map (ruled kinds (uses_into now)) now e there in
    let same = ruled-same kinds (uses_into now) r.0 in
    let child : e.child ≡ r.0.child = ap (λ (x : Edge). x.child) r.2 ∙ same.child in
    let parent : e.parent ≡ r.0.parent = ap (λ (x : Edge). x.parent) r.2 ∙ same.parent in
    (λ is. (h r.0 r.1).0 (sym child ∙ is), λ is. (h r.0 r.1).1 (sym parent ∙ is)))
    (without_parent (Node node) edges)
    (λ e there. let r = without_parent-apart (Node node) edges e there in (none e r.0, r.1))
