-- What used a job's filter uses the node that the job wrote.
use Rattle.std.proofs.Common.{◌≡◌, ◌≢◌, ℕ, List, [], ◌∷◌, map, refl, sym, ◌∙◌, ap, subst, ◌<◌, ◌⊎◌, inl, inr, Bool, true, false, cond, Option, Some, None}
use Rattle.std.specs.Prelude.{◌==◌, ◌&&◌, not}
use Rattle.std.specs.List.{Contains, filter, find, list_any}
use Rattle.std.specs.Option.{option_map}
use Rattle.std.proofs.lemmas.Bool.{eqb-true, eq-eqb}
use Rattle.blk_graph.specs.declared.edge.Edge.{Edge}
use Rattle.blk_graph.specs.declared.edge.Parent.TheVariants.{Node, Job}
use Rattle.blk_graph.specs.declared.edge.Role.{Role}
use Rattle.blk_graph.specs.declared.edge.Role.TheVariants.{Filtered, Between}
use Rattle.blk_graph.specs.declared.kind.Kind.{Kind}
use Rattle.blk_graph.specs.declared.kind.Kind.TheVariants.{Protocol, Raw, Qcow2, CopyOnRead, BeforeWrite, Mirror, Commit}
use Rattle.blk_graph.specs.Drafts.{KeepsAcyclic}
use Rattle.blk_graph.specs.Edges.{is_job, same_parent, same_role, IsListed}
use Rattle.blk_graph.specs.Edits.{child_of, is_between, is_double, but_doubles, moved, with_child, with_moved, stays, replaced, with_replaced, is_filters, but_filters, without_filter, without_parent, with_pivot}
use Rattle.blk_graph.specs.Filters.{LeavesRoom}
use Rattle.blk_graph.specs.Graph.{Graph, HasNode, IsFit}
use Rattle.blk_graph.specs.Paths.{Reaches, IsAcyclic}
use Rattle.blk_graph.specs.Permissions.{has_role}
use Rattle.blk_graph.specs.Refreshed.{kind_at, IsOf, refreshed, IsRefreshed}
use Rattle.blk_graph.specs.Rule.{KeepsPermissions}
use Rattle.blk_graph.proofs.CycleLemmas.{and-left, and-right, same_parent-true, IsAcyclic-with_replaced}
use Rattle.blk_graph.proofs.DraftLemmas.{acyclic_fewer, acyclic_handed}
use Rattle.blk_graph.proofs.EaseLemmas.{KeepsPermissions-fewer}
use Rattle.blk_graph.proofs.EditLemmas.{moved-cases}
use Rattle.blk_graph.proofs.FilterLemmas.{IsAcyclic-without_filter}
use Rattle.blk_graph.proofs.FitLemmas.{IsFit-filter, IsFit-replaced, IsFit-without_filter}
use Rattle.blk_graph.proofs.InverseLemmas.{same_parent-refl}
use Rattle.blk_graph.proofs.ListedLemmas.{IsListed-filter, IsListed-replaced, IsListed-without_filter}
use Rattle.blk_graph.proofs.Members.{Contains-here, Contains-there, Contains-filter, find-Some, filter-all, filter-same}
use Rattle.blk_graph.proofs.RoleLemmas.{same_role-true, between_job}
use Rattle.blk_graph.proofs.TakeOutLemmas.{KeepsPermissions-handed}

-- by whether the filter has a child
pub pivot-None : (over to job : ℕ) (edges : List Edge) → child_of (Node over) Filtered edges ≡ None
    → with_pivot over to job edges ≡ without_parent (Job job) edges
pivot-None over to job edges is = rw (is, with_pivot) refl

pub pivot-Some : (over to job : ℕ) (edges : List Edge) (node : ℕ) → child_of (Node over) Filtered edges ≡ Some node
    → with_pivot over to job edges ≡ with_replaced node to None (without_filter over (without_parent (Job job) edges))
pivot-Some over to job edges node is = rw (is, with_pivot) refl

pub IsListed-pivot : (over to job : ℕ) (edges : List Edge) → to < 64 → IsListed edges → IsListed (with_pivot over to job edges)
IsListed-pivot over to job edges small listed = by_child (child_of (Node over) Filtered edges)
  where
    fewer : IsListed (without_parent (Job job) edges)
    fewer = IsListed-filter (λ e. not (same_parent e.parent (Job job))) edges listed

    by_child : (found : Option ℕ) → IsListed (elim found as (λ _. List Edge) [
      | None ↦ without_parent (Job job) edges
      | Some node ↦ with_replaced node to None (without_filter over (without_parent (Job job) edges))
    ])
    by_child None = fewer
    by_child (Some node) =
        IsListed-replaced node to None (without_filter over (without_parent (Job job) edges)) small
        (IsListed-without_filter over (without_parent (Job job) edges) fewer)

pub IsFit-pivot : (g : Graph) (over to job : ℕ) (edges : List Edge) → HasNode g to → IsFit g edges → IsFit g (with_pivot over to job edges)
IsFit-pivot g over to job edges there fit = by_child (child_of (Node over) Filtered edges)
  where
    fewer : IsFit g (without_parent (Job job) edges)
    fewer = IsFit-filter g (λ e. not (same_parent e.parent (Job job))) edges fit

    by_child : (found : Option ℕ) → IsFit g (elim found as (λ _. List Edge) [
      | None ↦ without_parent (Job job) edges
      | Some node ↦ with_replaced node to None (without_filter over (without_parent (Job job) edges))
    ])
    by_child None = fewer
    by_child (Some node) =
        IsFit-replaced g node to None (without_filter over (without_parent (Job job) edges)) there
        (IsFit-without_filter g over (without_parent (Job job) edges) fewer)

abbrev at_child : ℕ → ℕ → ℕ → List Edge → Option ℕ → List Edge
at_child over to job edges found = elim found as (λ _. List Edge) [
  | None ↦ without_parent (Job job) edges
  | Some node ↦ with_replaced node to None (without_filter over (without_parent (Job job) edges))
]

pub acyclic_pivot : (over to job : ℕ) (edges : List Edge) → (Reaches (with_pivot over to job edges) to to → ⊥)
    → KeepsAcyclic edges (with_pivot over to job edges)
acyclic_pivot over to job edges none acyclic = by_child (child_of (Node over) Filtered edges) none
  where
    fewer : IsAcyclic (without_parent (Job job) edges)
    fewer = acyclic_fewer (λ e. not (same_parent e.parent (Job job))) edges acyclic

    by_child : (found : Option ℕ) → (Reaches (at_child over to job edges found) to to → ⊥) → IsAcyclic (at_child over to job edges found)
    by_child None none = fewer
    by_child (Some node) none =
        IsAcyclic-with_replaced node to None (without_filter over (without_parent (Job job) edges))
        (IsAcyclic-without_filter (without_parent (Job job) edges) over fewer) none

-- a node with a filter's edge has no other
only_filtered : (k : Kind) (r : Role) → has_role k Filtered ≡ true → has_role k r ≡ true → r ≡ Filtered
only_filtered BeforeWrite Filtered h is = refl
only_filtered Mirror Filtered h is = refl
only_filtered Commit Filtered h is = refl
only_filtered BeforeWrite _ h is = absurd cc
only_filtered Mirror _ h is = absurd cc
only_filtered Commit _ h is = absurd cc
only_filtered Protocol r h is = absurd cc
only_filtered Raw r h is = absurd cc
only_filtered Qcow2 r h is = absurd cc
only_filtered CopyOnRead r h is = absurd cc

map_twice : (f g h : Edge → Edge) (edges : List Edge) → ((e : Edge) → Contains edges e → f (g e) ≡ h e)
    → map f (map g edges) ≡ map h edges
map_twice f g h [] same = refl
map_twice f g h (e ∷ edges) same =
    ap (λ x. x ∷ map f (map g edges)) (same e (Contains-here e edges))
    ∙ ap (λ xs. h e ∷ xs) (map_twice f g h edges (λ x k. same x (Contains-there e edges x k)))

filter_swap : (p q : Edge → Bool) (edges : List Edge) → filter p (filter q edges) ≡ filter q (filter p edges)
filter_swap p q [] = refl
filter_swap p q (e ∷ edges) = by_tests (p e) refl (q e) refl (filter_swap p q edges)
  where
    by_tests : (a : Bool) → p e ≡ a → (b : Bool) → q e ≡ b → filter p (filter q edges) ≡ filter q (filter p edges)
        → filter p (cond b (e ∷ filter q edges) (filter q edges)) ≡ filter q (cond a (e ∷ filter p edges) (filter p edges))
    by_tests true is_p true is_q ih = rw (is_p, is_q) (ap (λ xs. e ∷ xs) ih)
    by_tests true is_p false is_q ih = rw is_q ih
    by_tests false is_p true is_q ih = rw is_p ih
    by_tests false is_p false is_q ih = ih

-- edges that go for another reason leave the first of a kind
find_kept : (p q : Edge → Bool) → ((e : Edge) → p e ≡ true → q e ≡ true) → (edges : List Edge) → find p (filter q edges) ≡ find p edges
find_kept p q keeps [] = refl
find_kept p q keeps (e ∷ edges) = by_tests (q e) (p e) refl (keeps e) (find_kept p q keeps edges)
  where
    by_tests : (b a : Bool) → p e ≡ a → (p e ≡ true → b ≡ true) → find p (filter q edges) ≡ find p edges
        → find p (cond b (e ∷ filter q edges) (filter q edges)) ≡ cond a (Some e) (find p edges)
    by_tests true a is keeps ih = rw is (ap (λ found. cond a (Some e) found) ih)
    by_tests false true is keeps ih = absurd (let no : false ≡ true = keeps is in cc)
    by_tests false false is keeps ih = ih

not_true : (b : Bool) → not b ≡ true → b ≡ false
not_true true k = absurd cc
not_true false k = refl

unlike : (a b : ℕ) → a ≢ b → (a == b) ≡ false
unlike a b differ = by_test (a == b) refl
  where
    by_test : (t : Bool) → (a == b) ≡ t → (a == b) ≡ false
    by_test true is = absurd (differ (eqb-true a b is))
    by_test false is = is

not_all : (a b c d : Bool) → (b ≡ true → c ≡ true → ⊥) → (a && b && c && d) ≡ false
not_all false b c d h = refl
not_all true false c d h = refl
not_all true true false d h = refl
not_all true true true d h = absurd (h refl refl)

module _ (g : Graph) (edges : List Edge) (over to job : ℕ) (room : LeavesRoom edges over to job) (listed : IsListed edges)
    (fit : IsFit g edges) (node : ℕ) (leads : child_of (Node over) Filtered edges ≡ Some node) where
  abbrev released : List Edge
  released = without_parent (Job job) edges

  abbrev rest : List Edge
  rest = but_filters over released

  released_there : (e : Edge) → Contains released e → Contains edges e
  released_there e h = (Contains-filter (λ x. not (same_parent x.parent (Job job))) edges e h).0

  rest_there : (e : Edge) → Contains rest e → Contains edges e × (is_filters over e ≡ false)
  rest_there e h =
      let r = Contains-filter (λ x. not (is_filters over x)) released e h in
      (released_there e r.0, not_true (is_filters over e) r.1)

  -- no job leads to the filter, so nothing is there twice
  no_double : (others : List Edge) (child : ℕ) → ((e : Edge) → Contains others e → Contains edges e) → but_doubles over child others ≡ others
  no_double others child was =
      filter-all (λ e. not (is_double others over child e)) others
      (λ e h. ap not (not_all (not (over == child)) (e.child == over) (same_role e.role Between) (list_any (is_between e.parent child) others)
      (λ at role.
      let none : is_job e.parent ≡ false = room.apart e (was e h) (eqb-true e.child over at) in
      let is : is_job e.parent ≡ true = between_job e.parent e.role (listed.each e (was e h)).role (same_role-true e.role Between role) in
      absurd (let no : false ≡ true = sym none ∙ is in cc))))

  own : (e : Edge) × (find (is_filters over) edges ≡ Some e) × (e.child ≡ node)
  own = by_found (find (is_filters over) edges) refl leads
    where
      by_found : (found : Option Edge) → find (is_filters over) edges ≡ found → option_map (λ (e : Edge). e.child) found ≡ Some node
          → (e : Edge) × (find (is_filters over) edges ≡ Some e) × (e.child ≡ node)
      by_found None is k = absurd cc
      by_found (Some e) is k = (e, is, cc)

  -- all edges of the filter lead to what it filters
  all_filtered : (e : Edge) → Contains edges e → e.parent ≡ Node over → e.role ≡ Filtered
  all_filtered e h from =
      let found = find-Some (is_filters over) edges own.0 own.1 in
      let parent : own.0.parent ≡ Node over
      = same_parent-true own.0.parent (Node over) (and-left (same_parent own.0.parent (Node over)) (same_role own.0.role Filtered) found.1) in
      let role : own.0.role ≡ Filtered
      = same_role-true own.0.role Filtered (and-right (same_parent own.0.parent (Node over)) (same_role own.0.role Filtered) found.1) in
      let kind : has_role (kind_at g.kinds over).kind own.0.role ≡ true
      = subst (IsOf g.kinds own.0) parent (fit.each own.0 found.0).table in
      let its : has_role (kind_at g.kinds over).kind e.role ≡ true = subst (IsOf g.kinds e) from (fit.each e h).table in
      only_filtered (kind_at g.kinds over).kind e.role (rw role at kind) its

  -- without the filter, what led to it leads to its child
  left_out : without_filter over released ≡ map (moved over node) rest
  left_out =
      let same : find (is_filters over) released ≡ Some own.0
      = find_kept (is_filters over) (λ e. not (same_parent e.parent (Job job)))
      (λ e is.
      let from : e.parent ≡ Node over
      = same_parent-true e.parent (Node over) (and-left (same_parent e.parent (Node over)) (same_role e.role Filtered) is) in
      rw from refl)
      edges
      ∙ own.1 in
      let left : with_moved over own.0.child rest ≡ map (moved over node) rest
      = ap (λ n. with_moved over n rest) own.2 ∙ ap (map (moved over node)) (no_double rest node (λ e h. (rest_there e h).0)) in
      rw (same, without_filter) left

  handed_rest : without_parent (Job job) (without_parent (Node over) edges) ≡ rest
  handed_rest =
      filter_swap (λ e. not (same_parent e.parent (Job job))) (λ e. not (same_parent e.parent (Node over))) edges
      ∙ filter-same (λ e. not (same_parent e.parent (Node over))) (λ e. not (is_filters over e)) released (λ e h.
      by_test e (released_there e h) (same_parent e.parent (Node over)) refl)
    where
      by_test : (e : Edge) → Contains edges e → (b : Bool) → same_parent e.parent (Node over) ≡ b
          → not (same_parent e.parent (Node over)) ≡ not (is_filters over e)
      by_test e h true is =
          let role : e.role ≡ Filtered = all_filtered e h (same_parent-true e.parent (Node over) is) in
          rw (is, role) refl
      by_test e h false is = rw is refl

  -- each edge is moved once
  moved_on : (e : Edge) → Contains rest e → replaced node to None (moved over node e) ≡ moved over to e
  moved_on e h = by_child (moved-cases over node e)
    where
      was : Contains edges e × (is_filters over e ≡ false)
      was = rest_there e h

      -- a parent of the filter's child is a job
      stays_there : (b : Bool) → (e.child == node) ≡ b → replaced node to None e ≡ e
      stays_there false is = rw is refl
      stays_there true is = by_parent (room.alone e was.0 (leads ∙ ap Some (sym (eqb-true e.child node is))))
        where
          by_parent : (e.parent ≡ Node over) ⊎ (is_job e.parent ≡ true) → replaced node to None e ≡ e
          by_parent (inl from) =
              let role : e.role ≡ Filtered = all_filtered e was.0 from in
              let own_edge : is_filters over e ≡ true = rw (from, role, same_parent-refl (Node over)) refl in
              absurd (let no : false ≡ true = sym was.1 ∙ own_edge in cc)
          by_parent (inr from) = rw (is, from) refl

      by_child : ((e.child ≡ over) × (moved over node e ≡ with_child node e)) ⊎ ((e.child ≢ over) × (moved over node e ≡ e))
          → replaced node to None (moved over node e) ≡ moved over to e
      by_child (inl x) =
          ap (replaced node to None) x.1
          ∙ (let first : replaced node to None (with_child node e) ≡ with_child to e = rw (eq-eqb node node refl, room.apart e was.0 x.0) refl in first)
          ∙ (let second : with_child to e ≡ moved over to e = rw (eq-eqb e.child over x.0) refl in second)
      by_child (inr x) =
          ap (replaced node to None) x.1 ∙ stays_there (e.child == node) refl
          ∙ (let same : e ≡ moved over to e = rw (unlike e.child over x.0) refl in same)

  pub pivot-handed : with_pivot over to job edges ≡ with_moved over to (without_parent (Job job) (without_parent (Node over) edges))
  pivot-handed =
      pivot-Some over to job edges node leads
      ∙ ap (map (replaced node to None)) left_out
      ∙ map_twice (replaced node to None) (moved over node) (moved over to) rest moved_on
      ∙ ap (map (moved over to)) (sym (no_double rest to (λ e h. (rest_there e h).0)))
      ∙ ap (with_moved over to) (sym handed_rest)

module _ (g : Graph) (edges : List Edge) (over to job : ℕ) (room : LeavesRoom edges over to job) (listed : IsListed edges)
    (fit : IsFit g edges) where
  pub KeepsPermissions-pivot : IsRefreshed g.kinds edges → KeepsPermissions edges
      → KeepsPermissions (refreshed g.kinds (with_pivot over to job edges))
  KeepsPermissions-pivot stays rule = by_child (child_of (Node over) Filtered edges) refl
    where
      by_child : (found : Option ℕ) → child_of (Node over) Filtered edges ≡ found
          → KeepsPermissions (refreshed g.kinds (with_pivot over to job edges))
      by_child None is =
          rw (pivot-None over to job edges is)
          (KeepsPermissions-fewer g.kinds (λ e. not (same_parent e.parent (Job job))) edges stays rule)
      by_child (Some node) is =
          rw (pivot-handed g edges over to job room listed fit node is)
          (KeepsPermissions-handed g.kinds edges over to job room stays rule)

  pub acyclic_below : Reaches edges over to → KeepsAcyclic edges (with_pivot over to job edges)
  acyclic_below leads acyclic = by_child (child_of (Node over) Filtered edges) refl
    where
      by_child : (found : Option ℕ) → child_of (Node over) Filtered edges ≡ found → IsAcyclic (with_pivot over to job edges)
      by_child None is = rw (pivot-None over to job edges is) (acyclic_fewer (λ e. not (same_parent e.parent (Job job))) edges acyclic)
      by_child (Some node) is =
          rw (pivot-handed g edges over to job room listed fit node is) (acyclic_handed over to (Job job) edges leads acyclic)
