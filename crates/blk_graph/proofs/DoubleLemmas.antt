-- The edges that a move drops, found by one mark for each job.
use Rattle.std.proofs.Common.{◌≡◌, ◌≢◌, ℕ, ◌<◌, List, [], ◌∷◌, length, map, get_or, set, refl, sym, ◌∙◌, ap, arith, inl, inr, Bool, true, false}
use Rattle.std.specs.Prelude.{◌==◌, ◌&&◌, ◌||◌, not}
use Rattle.std.specs.List.{Contains, list_any, filter}
use Rattle.std.proofs.lemmas.Bool.{ne_eqb, eq-eqb, eqb-true, eqb-false}
use Rattle.std.proofs.lemmas.List.{get_or-set_other, get_or-set_same}
use Rattle.blk_graph.specs.declared.edge.Edge.{Edge}
use Rattle.blk_graph.specs.declared.edge.Parent.{Parent}
use Rattle.blk_graph.specs.declared.edge.Parent.TheVariants.{Node, Guest, Job}
use Rattle.blk_graph.specs.declared.edge.Role.TheVariants.{Between}
use Rattle.blk_graph.specs.Doubles.{AreJobsAt, MarksJob, has_mark, is_double_by}
use Rattle.blk_graph.specs.Edges.{same_parent, same_role, may_have, IsListed}
use Rattle.blk_graph.specs.Edits.{with_child, moved, is_between, is_double, but_doubles, with_moved}
use Rattle.blk_graph.proofs.EditLemmas.{moved-cases}
use Rattle.blk_graph.proofs.Members.{filter-all, filter-same}
use Rattle.blk_graph.proofs.RoleLemmas.{same_role-true}

-- an edge of the role Between is a job's, and the job's mark says whether another one leads there
marked_double : (edges : List Edge) (from to : ℕ) (marks : List Bool) (e : Edge) → from ≢ to → IsListed edges → AreJobsAt edges to marks
    → Contains edges e → is_double_by marks from e ≡ is_double edges from to e
marked_double edges from to marks e differ listed jobs there =
    rw (ne_eqb from to differ) (by_role (same_role e.role Between) refl)
  where
    at_parent : (p : Parent) → e.parent ≡ p → e.role ≡ Between → has_mark marks p ≡ list_any (is_between p to) edges
    at_parent (Node n) is between = absurd (let no : may_have (Node n) Between ≡ true = rw (is, between) at (listed.each e there).role in cc)
    at_parent (Guest n) is between = absurd (let no : may_have (Guest n) Between ≡ true = rw (is, between) at (listed.each e there).role in cc)
    at_parent (Job n) is between = jobs n (rw is at (listed.each e there).number)

    by_role : (b : Bool) → same_role e.role Between ≡ b
        → ((e.child == from) && b && has_mark marks e.parent) ≡ ((e.child == from) && b && list_any (is_between e.parent to) edges)
    by_role true is = ap (λ t. (e.child == from) && true && t) (at_parent e.parent refl (same_role-true e.role Between is))
    by_role false is = both (e.child == from)
      where
        both : (a : Bool) → (a && false && has_mark marks e.parent) ≡ (a && false && list_any (is_between e.parent to) edges)
        both true = refl
        both false = refl

pub but_doubles-marked : (edges : List Edge) (from to : ℕ) (marks : List Bool) → from ≢ to → IsListed edges → AreJobsAt edges to marks
    → filter (λ e. not (is_double_by marks from e)) edges ≡ but_doubles from to edges
but_doubles-marked edges from to marks differ listed jobs =
    filter-same (λ e. not (is_double_by marks from e)) (λ e. not (is_double edges from to e)) edges
    (λ e there. ap not (marked_double edges from to marks e differ listed jobs there))

-- a move to where the edges are changes nothing
pub with_moved-same : (from to : ℕ) (edges : List Edge) → from ≡ to → with_moved from to edges ≡ edges
with_moved-same from to edges same =
    ap (map (moved from to)) (filter-all (λ e. not (is_double edges from to e)) edges (λ e there. none e))
    ∙ map_same edges
  where
    none : (e : Edge) → not (is_double edges from to e) ≡ true
    none e = rw (eq-eqb from to same) refl

    stays : (e : Edge) → moved from to e ≡ e
    stays e = elim (moved-cases from to e) [
      | inl at ↦ at.1 ∙ ap (λ n. with_child n e) (sym (at.0 ∙ same))
      | inr away ↦ away.1
    ]

    map_same : (es : List Edge) → map (moved from to) es ≡ es
    map_same [] = refl
    map_same (e ∷ es) = ap (λ x. x ∷ map (moved from to) es) (stays e) ∙ ap (λ xs. e ∷ xs) (map_same es)

-- one edge more is looked at
marked_here : (a b c : Bool) → a ≡ true → b ≡ true → c ≡ true → (d : Bool) → (a && b && c || d) ≡ true
marked_here true true c ha hb hc d = rw hc refl
marked_here false b c ha hb hc d = absurd cc
marked_here true false c ha hb hc d = absurd cc

-- the marks after an edge of a job to the node, and after any other edge
pub marks_set : (e : Edge) (node job : ℕ) (marks : List Bool) → length marks ≡ 16 → e.parent ≡ Job job → job < 16
    → same_role e.role Between ≡ true → e.child ≡ node → MarksJob e node marks (set marks job true)
marks_set e node job marks room parent less role child j small = by_job (j == job) refl
  where
    by_job : (b : Bool) → (j == job) ≡ b
        → get_or (set marks job true) j false ≡ (is_between (Job j) node e || get_or marks j false)
    by_job true is =
        let same : j ≡ job = eqb-true j job is in
        let within : job < length marks = omega (arith, room, less) in
        let own : same_parent e.parent (Job j) ≡ true = rw (parent, same) (eq-eqb job job refl) in
        ap (λ n. get_or (set marks job true) n false) same ∙ get_or-set_same marks job true false within
        ∙ sym (marked_here (same_parent e.parent (Job j)) (same_role e.role Between) (e.child == node) own role
        (eq-eqb e.child node child) (get_or marks j false))
    by_job false is =
        let differ : j ≢ job = eqb-false j job is in
        let other : same_parent e.parent (Job j) ≡ false = rw parent (ne_eqb job j (λ same. differ (sym same))) in
        get_or-set_other marks job j true false differ ∙ sym (rw other refl)

pub marks_kept : (e : Edge) (node : ℕ) (marks : List Bool) → ((j : ℕ) → j < 16 → is_between (Job j) node e ≡ false)
    → MarksJob e node marks marks
marks_kept e node marks none j small = rw (none j small) refl
