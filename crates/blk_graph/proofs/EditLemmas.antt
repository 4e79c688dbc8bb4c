-- What the edited lists contain, and that they keep the graph without cycles.
use Rattle.std.proofs.Common.{◌≡◌, ◌≢◌, ◌⊎◌, ℕ, ◌≤◌, List, [], ◌∷◌, length, arith, refl, ap, inl, inr, Bool, true, false, cond, Option}
use Rattle.std.specs.Prelude.{◌==◌, ◌&&◌, not}
use Rattle.std.specs.List.{Contains, filter, list_any}
use Rattle.std.proofs.lemmas.Bool.{eqb-true, eqb-false, ne_eqb}
use Rattle.std.proofs.lemmas.List.{length-map}
use Rattle.blk_graph.specs.declared.edge.Edge.{Edge}
use Rattle.blk_graph.specs.declared.edge.Parent.{Parent}
use Rattle.blk_graph.specs.declared.edge.Role.TheVariants.{Between}
use Rattle.blk_graph.specs.Edges.{same_role}
use Rattle.blk_graph.specs.Edits.{takes_place, with_edge, with_child, stays, replaced, moved, is_edge, is_between, is_double, but_doubles, with_moved}
use Rattle.blk_graph.proofs.Members.{Contains-here, Contains-there, Contains-cases, Contains-map, Contains-filter, filter-all, list_any-none}

-- one edge is another but for what it asks and shares
pub record IsSameEdge (a b : Edge) : Type 0 where
  pub parent : a.parent ≡ b.parent
  pub role : a.role ≡ b.role
  pub child : a.child ≡ b.child

-- an edge of the list with a new edge is that edge, or was there
pub Contains-with_edge : (new : Edge) (edges : List Edge) (e : Edge) → Contains (with_edge new edges) e
    → (e ≡ new) ⊎ Contains edges e
Contains-with_edge new [] e h = elim (Contains-cases new [] e h) [
  | inl here ↦ inl here
  | inr there ↦ inr there
]
Contains-with_edge new (old ∷ edges) e h = by_test (takes_place new old) (Contains-with_edge new edges e) h
  where
    by_test : (b : Bool) → (Contains (with_edge new edges) e → (e ≡ new) ⊎ Contains edges e)
        → Contains (cond b (new ∷ edges) (old ∷ with_edge new edges)) e → (e ≡ new) ⊎ Contains (old ∷ edges) e
    by_test true ih k = elim (Contains-cases new edges e k) [
      | inl here ↦ inl here
      | inr there ↦ inr (Contains-there old edges e there)
    ]
    by_test false ih k = elim (Contains-cases old (with_edge new edges) e k) [
      | inl here ↦ inr (rw here (Contains-here old edges))
      | inr there ↦ elim (ih there) [
        | inl is_new ↦ inl is_new
        | inr kept ↦ inr (Contains-there old edges e kept)
      ]
    ]

-- the new edge is one of the list
pub Contains-with_edge_new : (new : Edge) (edges : List Edge) → Contains (with_edge new edges) new
Contains-with_edge_new new [] = Contains-here new []
Contains-with_edge_new new (old ∷ edges) = by_test (takes_place new old) (Contains-with_edge_new new edges)
  where
    by_test : (b : Bool) → Contains (with_edge new edges) new
        → Contains (cond b (new ∷ edges) (old ∷ with_edge new edges)) new
    by_test true ih = Contains-here new edges
    by_test false ih = Contains-there old (with_edge new edges) new ih

-- a moved edge has its parent and one of two children
pub moved-parent : (from to : ℕ) (e : Edge) → (moved from to e).parent ≡ e.parent
moved-parent from to e = by_test (e.child == from)
  where
    by_test : (b : Bool) → (cond b (with_child to e) e).parent ≡ e.parent
    by_test true = refl
    by_test false = refl

pub moved-cases : (from to : ℕ) (e : Edge)
    → ((e.child ≡ from) × (moved from to e ≡ with_child to e)) ⊎ ((e.child ≢ from) × (moved from to e ≡ e))
moved-cases from to e = by_test (e.child == from) refl
  where
    by_test : (b : Bool) → (e.child == from) ≡ b
        → ((e.child ≡ from) × (cond b (with_child to e) e ≡ with_child to e))
        ⊎ ((e.child ≢ from) × (cond b (with_child to e) e ≡ e))
    by_test true h = inl (eqb-true e.child from h, refl)
    by_test false h = inr (eqb-false e.child from h, refl)

-- an edge that was replaced leads to `to`, the others are as they were; parents stay
pub replaced-parent : (from to : ℕ) (but : Option Parent) (e : Edge) → (replaced from to but e).parent ≡ e.parent
replaced-parent from to but e = by_test (e.child == from && not (stays but e.parent))
  where
    by_test : (b : Bool) → (cond b (with_child to e) e).parent ≡ e.parent
    by_test true = refl
    by_test false = refl

pub replaced-cases : (from to : ℕ) (but : Option Parent) (e : Edge)
    → ((replaced from to but e).child ≡ to) ⊎ (replaced from to but e ≡ e)
replaced-cases from to but e = by_test (e.child == from && not (stays but e.parent))
  where
    by_test : (b : Bool) → ((cond b (with_child to e) e).child ≡ to) ⊎ (cond b (with_child to e) e ≡ e)
    by_test true = inl refl
    by_test false = inr refl

pub length-with_moved : (from to : ℕ) (edges : List Edge) → length (with_moved from to edges) ≤ length edges
length-with_moved from to edges =
    omega (
      arith,
      length-map (but_doubles from to edges) (moved from to),
      length-filter-le (λ edge. not (is_double edges from to edge)) edges,
    )
  where
    length-filter-le : (p : Edge → Bool) (xs : List Edge) → length (filter p xs) ≤ length xs
    length-filter-le p [] = omega arith
    length-filter-le p (x ∷ xs) = by_test (p x) (length-filter-le p xs)
      where
        by_test : (b : Bool) → length (filter p xs) ≤ length xs → length (cond b (x ∷ filter p xs) (filter p xs)) ≤ length (x ∷ xs)
        by_test true ih = omega (arith, ih)
        by_test false ih = omega (arith, ih)

-- a moved edge was there
pub Contains-with_moved : (from to : ℕ) (edges : List Edge) (e : Edge) → Contains (with_moved from to edges) e
    → (x : Edge) × Contains edges x × (e ≡ moved from to x)
Contains-with_moved from to edges e h =
    let r = Contains-map (moved from to) (but_doubles from to edges) e h in
    (r.0, (Contains-filter (λ edge. not (is_double edges from to edge)) edges r.0 r.1).0, r.2)

-- where no edge leads to the other node, none is doubled
pub but_doubles-none : (from to : ℕ) (edges : List Edge) → ((e : Edge) → Contains edges e → e.child ≢ to)
    → but_doubles from to edges ≡ edges
but_doubles-none from to edges none =
    filter-all (λ edge. not (is_double edges from to edge)) edges
    (λ e h. single (not (from == to) && e.child == from && same_role e.role Between) (list_any (is_between e.parent to) edges)
    (list_any-none (is_between e.parent to) edges
    (λ x there. last_false (is_edge e.parent Between x) (x.child == to) (ne_eqb x.child to (none x there)))))
  where
    last_false : (a b : Bool) → b ≡ false → (a && b) ≡ false
    last_false true b h = h
    last_false false b h = refl

    single : (a b : Bool) → b ≡ false → not (a && b) ≡ true
    single a b h = ap not (last_false a b h)
