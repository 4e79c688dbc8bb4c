-- The child of a parent's edge of a role.
use Rattle.std.proofs.Common.{◌≡◌, ◌≢◌, ◌==◌, ℕ, Bool, true, false, not, cond, List, [], ◌∷◌, ◌++◌, Option, Some, None, refl, sym, ap, ◌∙◌, subst, inl, inr}
use Rattle.std.proofs.lemmas.Bool.{eqb-true}
use Rattle.std.specs.Prelude.{IfSome}
use Rattle.std.specs.List.{Contains, find}
use Rattle.std.specs.Option.{option_map}
use Rattle.blk_graph.specs.declared.edge.Edge.{Edge}
use Rattle.blk_graph.specs.declared.edge.Parent.{Parent}
use Rattle.blk_graph.specs.declared.edge.Role.{Role}
use Rattle.blk_graph.specs.declared.edge.Role.TheVariants.{Drive, File, Backing, Filtered, Source, Target, Between, Base}
use Rattle.blk_graph.specs.Edges.{same_parent, same_role}
use Rattle.blk_graph.specs.Edits.{is_edge, child_of, takes_place, with_edge, IsLone, without_parent}
use Rattle.blk_graph.specs.Paths.{IsPath, IsAcyclic, HasCycle, LeadsBack}
use Rattle.blk_graph.specs.Judged.{first_parent}
use Rattle.blk_graph.specs.declared.edge.Parent.TheVariants.{Node}
use Rattle.blk_graph.specs.Graph.{Graph, HasNode, HasParent, IsSoundGraph}
use Rattle.blk_graph.proofs.CycleLemmas.{same_parent-true, and-left, takes_place-parent}
use Rattle.blk_graph.proofs.InverseLemmas.{same_parent-false, same_parent-refl, find-push}
use Rattle.blk_graph.proofs.Members.{find-Some, filter-all, Contains-here, Contains-there}
use Rattle.blk_graph.proofs.RuleLemmas.{find-none}

-- an edge of a list leads from a parent to a child
pub record HasEdge (edges : List Edge) (parent : Parent) (child : ℕ) : Type 0 where
  pub edge : Edge
  pub there : Contains edges edge
  pub from : edge.parent ≡ parent
  pub to : edge.child ≡ child

pub child-edge : (parent : Parent) (role : Role) (edges : List Edge) (child : ℕ) → child_of parent role edges ≡ Some child → HasEdge edges parent child
child-edge parent role edges child is = by_found (find (is_edge parent role) edges) refl is
  where
    by_found : (found : Option Edge) → find (is_edge parent role) edges ≡ found → option_map (λ (e : Edge). e.child) found ≡ Some child → HasEdge edges parent child
    by_found None e k = absurd cc
    by_found (Some edge) e k =
        let found = find-Some (is_edge parent role) edges edge e in
        let to : edge.child ≡ child = cc in
        record {
          edge = edge;
          there = found.0;
          from = same_parent-true edge.parent parent (and-left (same_parent edge.parent parent) (same_role edge.role role) found.1);
          to = to;
        }

-- which is a node
pub child-node : (graph : Graph) (parent : Parent) (role : Role) (found : Option ℕ) → IsSoundGraph graph → found ≡ child_of parent role graph.edges → IfSome found (λ node. HasNode graph node)
child-node graph parent role None sound is = tt
child-node graph parent role (Some child) sound is =
    let e = child-edge parent role graph.edges child (sym is) in
    rw (← e.to) (sound.fit.each e.edge e.there).child

-- what isn't a node has no edges
pub lone-absent : (graph : Graph) (id : ℕ) → IsSoundGraph graph → (HasNode graph id → ⊥) → IsLone graph.edges id
lone-absent graph id sound absent = record {
  enters = λ e there at. absent (subst (HasNode graph) at (sound.fit.each e there).child);
  leaves = λ e there from. absent (subst (HasParent graph) from (sound.fit.each e there).parent);
}

-- removing it leaves the edges
pub lone-removed : (id : ℕ) (edges : List Edge) → IsLone edges id → without_parent (Node id) edges ≡ edges
lone-removed id edges lone = filter-all (λ e. not (same_parent e.parent (Node id))) edges (λ e there. rw (same_parent-false e.parent (Node id) (lone.leaves e there)) refl)

pub lone-unused : (id : ℕ) (edges : List Edge) → IsLone edges id → first_parent id edges ≡ None
lone-unused id edges lone = ap (option_map (λ (e : Edge). e.parent)) (find-none (λ e. e.child == id) edges (λ e there. differ (e.child == id) refl (lone.enters e there)))
  where
    differ : {child : ℕ} (t : Bool) → (child == id) ≡ t → child ≢ id → (child == id) ≡ false
    differ {child} true is apart = absurd (apart (eqb-true child id is))
    differ false is apart = is

same_role-refl : (role : Role) → same_role role role ≡ true
same_role-refl Drive = refl
same_role-refl File = refl
same_role-refl Backing = refl
same_role-refl Filtered = refl
same_role-refl Source = refl
same_role-refl Target = refl
same_role-refl Between = refl
same_role-refl Base = refl

-- an edge of a parent that has none comes to the end
pub with_edge-end : (new : Edge) (edges : List Edge) → ((e : Edge) → Contains edges e → e.parent ≢ new.parent) → with_edge new edges ≡ edges ++ new ∷ []
with_edge-end new [] apart = refl
with_edge-end new (old ∷ edges) apart = by_test (takes_place new old) refl (with_edge-end new edges (λ e there. apart e (Contains-there old edges e there)))
  where
    by_test : (b : Bool) → takes_place new old ≡ b → with_edge new edges ≡ edges ++ new ∷ [] → cond b (new ∷ edges) (old ∷ with_edge new edges) ≡ old ∷ (edges ++ new ∷ [])
    by_test true is rest = absurd (apart old (Contains-here old edges) (sym (takes_place-parent new old is)))
    by_test false is rest = ap (λ (es : List Edge). old ∷ es) rest

-- it leads to the parent's child of its role
pub child-new : (new : Edge) (edges : List Edge) → ((e : Edge) → Contains edges e → e.parent ≢ new.parent) → child_of new.parent new.role (with_edge new edges) ≡ Some new.child
child-new new edges apart =
    ap (child_of new.parent new.role) (with_edge-end new edges apart)
    ∙ ap (option_map (λ (e : Edge). e.child)) (find-push (is_edge new.parent new.role) new (own_edge new) edges
    (λ e there. rw (same_parent-false e.parent new.parent (apart e there)) refl))
  where
    own_edge : (e : Edge) → is_edge e.parent e.role e ≡ true
    own_edge e = rw (same_parent-refl e.parent, same_role-refl e.role) refl

find-end : (p : Edge → Bool) (new : Edge) → p new ≡ false → (edges : List Edge) → find p (edges ++ new ∷ []) ≡ find p edges
find-end p new fails [] = rw fails refl
find-end p new fails (e ∷ edges) = by_test (p e) (find-end p new fails edges)
  where
    by_test : (b : Bool) → find p (edges ++ new ∷ []) ≡ find p edges → cond b (Some e) (find p (edges ++ new ∷ [])) ≡ cond b (Some e) (find p edges)
    by_test true rest = refl
    by_test false rest = rest

-- and another parent's children stay
pub child-other : (parent : Parent) (role : Role) (new : Edge) (edges : List Edge) → ((e : Edge) → Contains edges e → e.parent ≢ new.parent) → new.parent ≢ parent
    → child_of parent role (with_edge new edges) ≡ child_of parent role edges
child-other parent role new edges apart other =
    ap (child_of parent role) (with_edge-end new edges apart)
    ∙ ap (option_map (λ (e : Edge). e.child)) (find-end (is_edge parent role) new (rw (same_parent-false new.parent parent other) refl) edges)

-- a node that is reached has an edge into it
pub reached-entered : (edges : List Edge) (from to : ℕ) (first : Edge) (rest : List Edge) → IsPath edges from (first ∷ rest) to → ((e : Edge) → Contains edges e → e.child ≢ to) → ⊥
reached-entered edges from to first [] path none = none first path.0 path.2
reached-entered edges from to first (next ∷ rest) path none = reached-entered edges first.child to next rest path.2 none

pub no-way-back : (edges : List Edge) (id child : ℕ) → IsLone edges id → child ≢ id → LeadsBack edges child (Node id) → ⊥
no-way-back edges id child lone apart (inl same) = apart same
no-way-back edges id child lone apart (inr reaches) = reached-entered edges child id reaches.first reaches.rest reaches.path lone.enters

-- an edge of one parent leaves another's children, also where it takes an old one's place
pub child-kept : (parent : Parent) (role : Role) (new : Edge) (edges : List Edge) → new.parent ≢ parent → child_of parent role (with_edge new edges) ≡ child_of parent role edges
child-kept parent role new edges other = ap (option_map (λ (e : Edge). e.child)) (kept edges)
  where
    fails : (e : Edge) → e.parent ≢ parent → is_edge parent role e ≡ false
    fails e apart = rw (same_parent-false e.parent parent apart) refl

    kept : (es : List Edge) → find (is_edge parent role) (with_edge new es) ≡ find (is_edge parent role) es
    kept [] = rw (fails new other) refl
    kept (old ∷ es) = by_place (takes_place new old) refl (kept es)
      where
        by_place : (b : Bool) → takes_place new old ≡ b → find (is_edge parent role) (with_edge new es) ≡ find (is_edge parent role) es
            → find (is_edge parent role) (cond b (new ∷ es) (old ∷ with_edge new es)) ≡ cond (is_edge parent role old) (Some old) (find (is_edge parent role) es)
        by_place true is rest = rw (fails new other, fails old (λ same. other (takes_place-parent new old is ∙ same))) refl
        by_place false is rest = ap (λ (found : Option Edge). cond (is_edge parent role old) (Some old) found) rest

-- and so does taking one parent's edges away
pub child-without : (gone parent : Parent) (role : Role) (edges : List Edge) → gone ≢ parent → child_of parent role (without_parent gone edges) ≡ child_of parent role edges
child-without gone parent role edges other = ap (option_map (λ (e : Edge). e.child)) (kept edges)
  where
    kept : (es : List Edge) → find (is_edge parent role) (without_parent gone es) ≡ find (is_edge parent role) es
    kept [] = refl
    kept (e ∷ es) = by_parent (same_parent e.parent gone) refl (kept es)
      where
        by_parent : (b : Bool) → same_parent e.parent gone ≡ b → find (is_edge parent role) (without_parent gone es) ≡ find (is_edge parent role) es
            → find (is_edge parent role) (cond (not b) (e ∷ without_parent gone es) (without_parent gone es)) ≡ cond (is_edge parent role e) (Some e) (find (is_edge parent role) es)
        by_parent true is rest =
            let apart : e.parent ≢ parent = λ same. other (sym (same_parent-true e.parent gone is) ∙ same) in
            rest ∙ rw (same_parent-false e.parent parent apart) refl
        by_parent false is rest = ap (λ (found : Option Edge). cond (is_edge parent role e) (Some e) found) rest

pub acyclic-unless : (edges : List Edge) → (HasCycle edges → ⊥) → IsAcyclic edges
acyclic-unless edges none = λ node cycle. none (record { node = node; cycle = cycle })
