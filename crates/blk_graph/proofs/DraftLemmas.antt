-- What the edits of a draft keep of it.
use Rattle.std.proofs.Common.{◌≡◌, ◌≢◌, ℕ, Bool, true, false, ◌&&◌, ◌==◌, not, cond, List, [], ◌∷◌, ◌++◌, map, Option, Some, None, refl, sym, ap, ◌∙◌, inl, inr}
use Rattle.std.specs.List.{Contains, find, filter, list_any}
use Rattle.std.specs.Option.{option_map}
use Rattle.blk_graph.specs.declared.edge.Edge.{Edge}
use Rattle.blk_graph.specs.declared.edge.Parent.{Parent}
use Rattle.blk_graph.specs.declared.edge.Parent.TheVariants.{Node}
use Rattle.blk_graph.specs.declared.edge.Perms.{Perms}
use Rattle.blk_graph.specs.declared.edge.Role.{Role}
use Rattle.blk_graph.specs.declared.edge.Role.TheVariants.{Filtered, Between}
use Rattle.blk_graph.specs.Drafts.{KeepsAcyclic, KeepsChildren}
use Rattle.blk_graph.specs.Edges.{same_parent, same_role}
use Rattle.blk_graph.specs.Edits.{is_edge, is_between, IsLone, child_of, child_after, child_moved, takes_place, with_child, with_edge, stays, replaced, with_replaced, moved, is_double, but_doubles, with_moved, filter_edge, with_filter, is_filters, but_filters, without_filter, without_parent}
use Rattle.blk_graph.specs.Paths.{Reaches, LeadsBack}
use Rattle.blk_graph.proofs.CycleLemmas.{and-left, and-right, same_parent-true, takes_place-parent, IsAcyclic-with_edge, LeadsBack-from_cycle}
use Rattle.blk_graph.proofs.Members.{Contains-filter}
use Rattle.blk_graph.proofs.PathLemmas.{Reaches-edge, Reaches-joined, IsAcyclic-covered, IsAcyclic-fewer}
use Rattle.blk_graph.proofs.EditLemmas.{moved-parent, moved-cases, replaced-parent, Contains-with_moved}
use Rattle.blk_graph.proofs.InverseLemmas.{same_parent-false, same_parent-refl, find-push}
use Rattle.blk_graph.proofs.RoleLemmas.{same_role-true, same_role-refl, apart, moved-role, replaced-role, takes_place-role}

pub acyclic_put : (new : Edge) (edges : List Edge) → (LeadsBack edges new.child new.parent → ⊥) → KeepsAcyclic edges (with_edge new edges)
acyclic_put new edges none acyclic =
    IsAcyclic-with_edge new edges acyclic (λ cycle. none (LeadsBack-from_cycle new edges acyclic cycle))

pub acyclic_fewer : (p : Edge → Bool) (edges : List Edge) → KeepsAcyclic edges (filter p edges)
acyclic_fewer p edges = IsAcyclic-fewer (filter p edges) edges (λ e h. (Contains-filter p edges e h).0)

-- an edge takes the place of one of the same parent and role
is_edge-taken : (parent : Parent) (role : Role) (new old : Edge) → takes_place new old ≡ true → is_edge parent role old ≡ is_edge parent role new
is_edge-taken parent role new old is =
    ap (λ p. same_parent p parent && same_role old.role role) (sym (takes_place-parent new old is))
    ∙ ap (λ r. same_parent new.parent parent && same_role r role) (sym (takes_place-role new old is))

pub children_put : (new : Edge) (edges : List Edge) → KeepsChildren (λ parent role. is_edge parent role new) edges (with_edge new edges)
children_put new edges parent role fails = ap (option_map (λ (e : Edge). e.child)) (kept edges)
  where
    kept : (es : List Edge) → find (is_edge parent role) (with_edge new es) ≡ find (is_edge parent role) es
    kept [] = rw fails refl
    kept (old ∷ es) = by_place (takes_place new old) refl (kept es)
      where
        by_place : (b : Bool) → takes_place new old ≡ b → find (is_edge parent role) (with_edge new es) ≡ find (is_edge parent role) es
            → find (is_edge parent role) (cond b (new ∷ es) (old ∷ with_edge new es)) ≡ cond (is_edge parent role old) (Some old) (find (is_edge parent role) es)
        by_place true is rest = rw (is_edge-taken parent role new old is, fails) refl
        by_place false is rest = ap (λ (found : Option Edge). cond (is_edge parent role old) (Some old) found) rest

-- edges that go leave the children of those of which none goes
children_fewer : (p : Edge → Bool) (parent : Parent) (role : Role) → ((e : Edge) → is_edge parent role e ≡ true → p e ≡ true)
    → (edges : List Edge) → child_of parent role (filter p edges) ≡ child_of parent role edges
children_fewer p parent role stays edges = ap (option_map (λ (e : Edge). e.child)) (kept edges)
  where
    kept : (es : List Edge) → find (is_edge parent role) (filter p es) ≡ find (is_edge parent role) es
    kept [] = refl
    kept (e ∷ es) = by_test (p e) (is_edge parent role e) refl (stays e) (kept es)
      where
        by_test : (b t : Bool) → is_edge parent role e ≡ t → (is_edge parent role e ≡ true → b ≡ true)
            → find (is_edge parent role) (filter p es) ≡ find (is_edge parent role) es
            → find (is_edge parent role) (cond b (e ∷ filter p es) (filter p es)) ≡ cond t (Some e) (find (is_edge parent role) es)
        by_test true t is stays rest = rw is (ap (λ (found : Option Edge). cond t (Some e) found) rest)
        by_test false true is stays rest = absurd (let no : false ≡ true = stays is in cc)
        by_test false false is stays rest = rest

not_both : (a b : Bool) → a ≡ true → (a && b) ≡ false → b ≡ false
not_both true b h k = k
not_both false b h k = absurd cc

pub children_removed : (gone : Parent) (of : Role) (edges : List Edge)
    → KeepsChildren (λ parent role. same_parent parent gone && same_role role of) edges (filter (λ e. not (is_edge gone of e)) edges)
children_removed gone of edges parent role other =
    children_fewer (λ e. not (is_edge gone of e)) parent role
    (λ e is.
    let parents : e.parent ≡ parent = same_parent-true e.parent parent (and-left (same_parent e.parent parent) (same_role e.role role) is) in
    let roles : e.role ≡ role = same_role-true e.role role (and-right (same_parent e.parent parent) (same_role e.role role) is) in
    let no : is_edge gone of e ≡ false = rw (parents, roles) other in rw no refl)
    edges

pub children_dropped : (gone : Parent) (edges : List Edge)
    → KeepsChildren (λ parent role. same_parent parent gone) edges (filter (λ e. not (same_parent e.parent gone)) edges)
children_dropped gone edges parent role other =
    children_fewer (λ e. not (same_parent e.parent gone)) parent role
    (λ e is.
    let parents : e.parent ≡ parent = same_parent-true e.parent parent (and-left (same_parent e.parent parent) (same_role e.role role) is) in
    let no : same_parent e.parent gone ≡ false = rw parents other in rw no refl)
    edges

-- a new edge leads to its parent's child of its role
pub child_put : (new : Edge) (edges : List Edge) → new.role ≢ Between → child_of new.parent new.role (with_edge new edges) ≡ Some new.child
child_put new edges single = ap (option_map (λ (e : Edge). e.child)) (found edges)
  where
    own : is_edge new.parent new.role new ≡ true
    own = rw (same_parent-refl new.parent, same_role-refl new.role) refl

    passed : (old : Edge) → takes_place new old ≡ false → (b : Bool) → is_edge new.parent new.role old ≡ b → is_edge new.parent new.role old ≡ false
    passed old is false same = same
    passed old is true same =
        let parents = same_parent-true old.parent new.parent (and-left (same_parent old.parent new.parent) (same_role old.role new.role) same) in
        let roles = same_role-true old.role new.role (and-right (same_parent old.parent new.parent) (same_role old.role new.role) same) in
        absurd (single (sym roles ∙ apart new old is parents roles))

    found : (es : List Edge) → find (is_edge new.parent new.role) (with_edge new es) ≡ Some new
    found [] = rw own refl
    found (old ∷ es) = by_place (takes_place new old) refl (found es)
      where
        by_place : (b : Bool) → takes_place new old ≡ b → find (is_edge new.parent new.role) (with_edge new es) ≡ Some new
            → find (is_edge new.parent new.role) (cond b (new ∷ es) (old ∷ with_edge new es)) ≡ Some new
        by_place true is rest = rw own refl
        by_place false is rest = rw (passed old is (is_edge new.parent new.role old) refl) rest

-- where edges are replaced, so are their parents' children
pub children_replaced : (from to : ℕ) (but : Option Parent) (edges : List Edge) (parent : Parent) (role : Role)
    → child_of parent role (with_replaced from to but edges) ≡ option_map (child_after from to but parent) (child_of parent role edges)
children_replaced from to but [] parent role = refl
children_replaced from to but (e ∷ edges) parent role =
    let f : Edge → Edge = replaced from to but in
    let test : is_edge parent role (f e) ≡ is_edge parent role e
    = ap (λ p. same_parent p parent && same_role (f e).role role) (replaced-parent from to but e)
    ∙ ap (λ r. same_parent e.parent parent && same_role r role) (replaced-role from to but e) in
    rw test (by_test (is_edge parent role e) refl (children_replaced from to but edges parent role))
  where
    child : (b : Bool) → (cond b (with_child to e) e).child ≡ cond b to e.child
    child true = refl
    child false = refl

    by_test : (b : Bool) → is_edge parent role e ≡ b
        → child_of parent role (with_replaced from to but edges) ≡ option_map (child_after from to but parent) (child_of parent role edges)
        → option_map (λ (x : Edge). x.child) (cond b (Some (replaced from to but e)) (find (is_edge parent role) (with_replaced from to but edges)))
        ≡ option_map (child_after from to but parent) (option_map (λ (x : Edge). x.child) (cond b (Some e) (find (is_edge parent role) edges)))
    by_test true is ih =
        let own : e.parent ≡ parent = same_parent-true e.parent parent (and-left (same_parent e.parent parent) (same_role e.role role) is) in
        ap Some (child (e.child == from && not (stays but e.parent)) ∙ ap (λ p. child_after from to but p e.child) own)
    by_test false is ih = ih

-- where all edges into a node lead to another, so do their parents' children
children_moved-each : (from to : ℕ) (parent : Parent) (role : Role) (edges : List Edge)
    → child_of parent role (map (moved from to) edges) ≡ option_map (child_moved from to) (child_of parent role edges)
children_moved-each from to parent role [] = refl
children_moved-each from to parent role (e ∷ edges) =
    let f : Edge → Edge = moved from to in
    let test : is_edge parent role (f e) ≡ is_edge parent role e
    = ap (λ p. same_parent p parent && same_role (f e).role role) (moved-parent from to e)
    ∙ ap (λ r. same_parent e.parent parent && same_role r role) (moved-role from to e) in
    rw test (by_test (is_edge parent role e) (children_moved-each from to parent role edges))
  where
    child : (b : Bool) → (cond b (with_child to e) e).child ≡ cond b to e.child
    child true = refl
    child false = refl

    by_test : (b : Bool)
        → child_of parent role (map (moved from to) edges) ≡ option_map (child_moved from to) (child_of parent role edges)
        → option_map (λ (x : Edge). x.child) (cond b (Some (moved from to e)) (find (is_edge parent role) (map (moved from to) edges)))
        ≡ option_map (child_moved from to) (option_map (λ (x : Edge). x.child) (cond b (Some e) (find (is_edge parent role) edges)))
    by_test true ih = ap Some (child (e.child == from))
    by_test false ih = ih

same_role-other : (a b : Role) → a ≢ b → same_role a b ≡ false
same_role-other a b differ = by_test (same_role a b) refl
  where
    by_test : (t : Bool) → same_role a b ≡ t → same_role a b ≡ false
    by_test true is = absurd (differ (same_role-true a b is))
    by_test false is = is

-- an edge of another role than Between is no double
single_stays : (edges : List Edge) (from to : ℕ) (parent : Parent) (role : Role) → role ≢ Between → (e : Edge)
    → is_edge parent role e ≡ true → not (is_double edges from to e) ≡ true
single_stays edges from to parent role single e is =
    let roles : e.role ≡ role = same_role-true e.role role (and-right (same_parent e.parent parent) (same_role e.role role) is) in
    let other : same_role e.role Between ≡ false = same_role-other e.role Between (λ q. single (sym roles ∙ q)) in
    rw other (none (not (from == to)) (e.child == from))
  where
    none : (a b : Bool) → not (a && b && false && list_any (is_between e.parent to) edges) ≡ true
    none true true = refl
    none true false = refl
    none false b = refl

pub children_moved : (from to : ℕ) (edges : List Edge) (parent : Parent) (role : Role) → role ≢ Between
    → child_of parent role (with_moved from to edges) ≡ option_map (child_moved from to) (child_of parent role edges)
children_moved from to edges parent role single =
    children_moved-each from to parent role (but_doubles from to edges)
    ∙ ap (option_map (child_moved from to))
    (children_fewer (λ e. not (is_double edges from to e)) parent role (single_stays edges from to parent role single) edges)

find_end : (p : Edge → Bool) (new : Edge) → p new ≡ false → (edges : List Edge) → find p (edges ++ new ∷ []) ≡ find p edges
find_end p new fails [] = rw fails refl
find_end p new fails (e ∷ edges) = by_test (p e) (find_end p new fails edges)
  where
    by_test : (b : Bool) → find p (edges ++ new ∷ []) ≡ find p edges → cond b (Some e) (find p (edges ++ new ∷ [])) ≡ cond b (Some e) (find p edges)
    by_test true rest = refl
    by_test false rest = rest

pub children_filter : (node over : ℕ) (perm shared : Perms) (edges : List Edge) (parent : Parent) (role : Role) → role ≢ Between
    → parent ≢ Node over
    → child_of parent role (with_filter node over perm shared edges) ≡ option_map (child_moved node over) (child_of parent role edges)
children_filter node over perm shared edges parent role single other =
    let new : Edge = filter_edge over node perm shared in
    let fails : is_edge parent role new ≡ false = rw (same_parent-false (Node over) parent (λ is. other (sym is))) refl in
    ap (option_map (λ (e : Edge). e.child)) (find_end (is_edge parent role) new fails (with_moved node over edges))
    ∙ children_moved node over edges parent role single

-- a filter that had no edge leads to the node
pub child_filter : (node over : ℕ) (perm shared : Perms) (edges : List Edge) → IsLone edges over
    → child_of (Node over) Filtered (with_filter node over perm shared edges) ≡ Some node
child_filter node over perm shared edges lone =
    let new : Edge = filter_edge over node perm shared in
    ap (option_map (λ (e : Edge). e.child)) (find-push (is_edge (Node over) Filtered) new
    (rw (same_parent-refl (Node over)) refl) (with_moved node over edges)
    (λ e there.
    let r = Contains-with_moved node over edges e there in
    let from : e.parent ≢ Node over
    = λ is. lone.leaves r.0 r.1 (sym (moved-parent node over r.0) ∙ ap (λ (x : Edge). x.parent) (sym r.2) ∙ is) in
    rw (same_parent-false e.parent (Node over) from) refl))

none_left : (p : Edge → Bool) (edges : List Edge) → find p (filter (λ e. not (p e)) edges) ≡ None
none_left p [] = refl
none_left p (e ∷ edges) = by_test (p e) refl (none_left p edges)
  where
    by_test : (b : Bool) → p e ≡ b → find p (filter (λ x. not (p x)) edges) ≡ None
        → find p (cond (not b) (e ∷ filter (λ x. not (p x)) edges) (filter (λ x. not (p x)) edges)) ≡ None
    by_test true is rest = rest
    by_test false is rest = rw is rest

-- a filter that is taken out leads to no node
pub child_without : (over : ℕ) (edges : List Edge) → child_of (Node over) Filtered (without_filter over edges) ≡ None
child_without over edges = by_found (find (is_filters over) edges) refl
  where
    by_found : (found : Option Edge) → find (is_filters over) edges ≡ found
        → child_of (Node over) Filtered (elim found as (λ _. List Edge) [
          | None ↦ edges
          | Some edge ↦ with_moved over edge.child (but_filters over edges)
        ]) ≡ None
    by_found None is = ap (option_map (λ (e : Edge). e.child)) is
    by_found (Some edge) is =
        children_moved over edge.child (but_filters over edges) (Node over) Filtered (λ q. absurd cc)
        ∙ ap (λ (found : Option Edge). option_map (child_moved over edge.child) (option_map (λ (e : Edge). e.child) found)) (none_left (is_filters over) edges)

-- its parents, other filters among them, have its child
pub children_without : (over : ℕ) (edges : List Edge) (node : ℕ) → child_of (Node over) Filtered edges ≡ Some node
    → (parent : Parent) (role : Role) → role ≢ Between → (same_parent parent (Node over) && same_role role Filtered) ≡ false
    → child_of parent role (without_filter over edges) ≡ option_map (child_moved over node) (child_of parent role edges)
children_without over edges node is parent role single other = by_found (find (is_filters over) edges) refl is
  where
    by_found : (found : Option Edge) → find (is_filters over) edges ≡ found → option_map (λ (e : Edge). e.child) found ≡ Some node
        → child_of parent role (elim found as (λ _. List Edge) [
          | None ↦ edges
          | Some edge ↦ with_moved over edge.child (but_filters over edges)
        ]) ≡ option_map (child_moved over node) (child_of parent role edges)
    by_found None at k = absurd cc
    by_found (Some edge) at k =
        let same : edge.child ≡ node = cc in
        ap (λ n. child_of parent role (with_moved over n (but_filters over edges))) same
        ∙ children_moved over node (but_filters over edges) parent role single
        ∙ ap (option_map (child_moved over node)) (children_fewer (λ e. not (is_filters over e)) parent role
        (λ e own.
        let parents : e.parent ≡ parent = same_parent-true e.parent parent (and-left (same_parent e.parent parent) (same_role e.role role) own) in
        let roles : e.role ≡ role = same_role-true e.role role (and-right (same_parent e.parent parent) (same_role e.role role) own) in
        let no : is_filters over e ≡ false = rw (parents, roles) other in rw no refl)
        edges)

-- what has no child is no filter
pub without_none : (over : ℕ) (edges : List Edge) → child_of (Node over) Filtered edges ≡ None → without_filter over edges ≡ edges
without_none over edges is = by_found (find (is_filters over) edges) is
  where
    by_found : (found : Option Edge) → option_map (λ (e : Edge). e.child) found ≡ None → elim found as (λ _. List Edge) [
      | None ↦ edges
      | Some edge ↦ with_moved over edge.child (but_filters over edges)
    ] ≡ edges
    by_found None k = refl
    by_found (Some edge) k = absurd cc

-- where a filter's parents are moved to a node that it leads to already, each edge stands for a path that was there
pub acyclic_handed : (over to : ℕ) (job : Parent) (edges : List Edge) → Reaches edges over to
    → KeepsAcyclic edges (with_moved over to (without_parent job (without_parent (Node over) edges)))
acyclic_handed over to job edges leads =
    IsAcyclic-covered (with_moved over to (without_parent job (without_parent (Node over) edges))) edges (λ a x h k.
    let r = Contains-with_moved over to (without_parent job (without_parent (Node over) edges)) x h in
    let q = Contains-filter (λ e. not (same_parent e.parent job)) (without_parent (Node over) edges) r.0 r.1 in
    let was : Contains edges r.0 = (Contains-filter (λ e. not (same_parent e.parent (Node over))) edges r.0 q.0).0 in
    let from : r.0.parent ≡ Node a = sym (moved-parent over to r.0) ∙ ap (λ (y : Edge). y.parent) (sym r.2) ∙ k in
    elim (moved-cases over to r.0) [
      | inl at_filter ↦
          let child : x.child ≡ to = ap (λ (y : Edge). y.child) (r.2 ∙ at_filter.1) in
          let first : Reaches edges a over = rw (← at_filter.0) (Reaches-edge edges a r.0 was from) in
          rw child (Reaches-joined edges a over to first leads)
      | inr other ↦
          let child : x.child ≡ r.0.child = ap (λ (y : Edge). y.child) (r.2 ∙ other.1) in
          rw child (Reaches-edge edges a r.0 was from)
    ])
