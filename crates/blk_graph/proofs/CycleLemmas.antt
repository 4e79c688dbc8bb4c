-- When an edge that is set, or edges that are replaced, make a cycle.
use Rattle.std.proofs.Common.{◌≡◌, ◌≢◌, ◌⊎◌, ℕ, List, [], ◌∷◌, refl, sym, ◌∙◌, ap, inl, inr, Bool, true, false, cond, Option}
use Rattle.std.specs.Prelude.{◌&&◌, ◌||◌, not, ◌==◌}
use Rattle.std.specs.List.{Contains}
use Rattle.std.proofs.lemmas.Bool.{eqb-true, eqb-false}
use Rattle.blk_graph.specs.declared.edge.Edge.{Edge}
use Rattle.blk_graph.specs.declared.edge.Parent.{Parent}
use Rattle.blk_graph.specs.declared.edge.Parent.TheVariants.{Node, Guest, Job}
use Rattle.blk_graph.specs.Edges.{same_parent, same_role}
use Rattle.blk_graph.specs.Edits.{takes_place, with_edge, replaced, with_replaced, with_moved}
use Rattle.blk_graph.specs.Paths.{IsPath, Reaches, IsAcyclic, HasCycle, LeadsBack}
use Rattle.blk_graph.proofs.Members.{Contains-here, Contains-there, Contains-cases, Contains-nil, Contains-map}
use Rattle.blk_graph.proofs.PathLemmas.{Reaches-edge, Reaches-joined, Reaches-last, Reaches-through}
use Rattle.blk_graph.proofs.EditLemmas.{Contains-with_edge, Contains-with_edge_new, replaced-cases, moved-cases, Contains-with_moved}

-- all that is new where an edge is set leads to its child
pub new_leads-with_edge : (new : Edge) (edges : List Edge) (e : Edge) → Contains (with_edge new edges) e
    → Contains edges e ⊎ (e.child ≡ new.child)
new_leads-with_edge new edges e h = elim (Contains-with_edge new edges e h) [
  | inl is_new ↦ inr (ap (λ (x : Edge). x.child) is_new)
  | inr kept ↦ inl kept
]

-- an edge that is set makes a cycle only through its child
pub IsAcyclic-with_edge : (new : Edge) (edges : List Edge) → IsAcyclic edges
    → (Reaches (with_edge new edges) new.child new.child → ⊥) → IsAcyclic (with_edge new edges)
IsAcyclic-with_edge new edges acyclic none node cycle =
    none (Reaches-through (with_edge new edges) edges new.child (new_leads-with_edge new edges) acyclic node cycle)

-- edges that are replaced make one only through their new child
pub IsAcyclic-with_replaced : (from to : ℕ) (but : Option Parent) (edges : List Edge) → IsAcyclic edges
    → (Reaches (with_replaced from to but edges) to to → ⊥)
    → IsAcyclic (with_replaced from to but edges)
IsAcyclic-with_replaced from to but edges acyclic none node cycle =
    none (Reaches-through (with_replaced from to but edges) edges to
    (λ e h. let r = Contains-map (replaced from to but) edges e h in
    elim (replaced-cases from to but r.0) [
      | inl leads ↦ inr (ap (λ (x : Edge). x.child) r.2 ∙ leads)
      | inr same ↦ inl (rw (r.2 ∙ same) r.1)
    ])
    acyclic node cycle)

-- and so do those that are moved
pub IsAcyclic-with_moved : (from to : ℕ) (edges : List Edge) → IsAcyclic edges
    → (Reaches (with_moved from to edges) to to → ⊥) → IsAcyclic (with_moved from to edges)
IsAcyclic-with_moved from to edges acyclic none node cycle =
    none (Reaches-through (with_moved from to edges) edges to
    (λ e h. let r = Contains-with_moved from to edges e h in
    elim (moved-cases from to r.0) [
      | inl at ↦ inr (ap (λ (x : Edge). x.child) (r.2 ∙ at.1))
      | inr away ↦ inl (rw (r.2 ∙ away.1) r.1)
    ])
    acyclic node cycle)

pub and-left : (a b : Bool) → (a && b) ≡ true → a ≡ true
and-left true b h = refl
and-left false b h = cc

pub and-right : (a b : Bool) → (a && b) ≡ true → b ≡ true
and-right true b h = h
and-right false b h = cc

pub same_parent-true : (a b : Parent) → same_parent a b ≡ true → a ≡ b
same_parent-true (Node a) (Node b) h = ap Node (eqb-true a b h)
same_parent-true (Guest a) (Guest b) h = ap Guest (eqb-true a b h)
same_parent-true (Job a) (Job b) h = ap Job (eqb-true a b h)
same_parent-true (Node a) (Guest b) h = cc
same_parent-true (Node a) (Job b) h = cc
same_parent-true (Guest a) (Node b) h = cc
same_parent-true (Guest a) (Job b) h = cc
same_parent-true (Job a) (Node b) h = cc
same_parent-true (Job a) (Guest b) h = cc

-- an edge whose place is taken has the new edge's parent
pub takes_place-parent : (new old : Edge) → takes_place new old ≡ true → new.parent ≡ old.parent
takes_place-parent new old h =
    same_parent-true new.parent old.parent
    (and-left (same_parent new.parent old.parent) (same_role new.role old.role)
    (and-left (same_parent new.parent old.parent && same_role new.role old.role)
    (not (same_role new.role _) || new.child == old.child) h))

-- an edge of another parent stays
pub Contains-with_edge_other : (new : Edge) (edges : List Edge) (e : Edge) → Contains edges e
    → e.parent ≢ new.parent → Contains (with_edge new edges) e
Contains-with_edge_other new [] e h other = absurd (Contains-nil e h)
Contains-with_edge_other new (old ∷ edges) e h other =
    by_test (takes_place new old) refl (λ there. Contains-with_edge_other new edges e there other)
    (Contains-cases old edges e h)
  where
    by_test : (b : Bool) → takes_place new old ≡ b → (Contains edges e → Contains (with_edge new edges) e)
        → (e ≡ old) ⊎ Contains edges e → Contains (cond b (new ∷ edges) (old ∷ with_edge new edges)) e
    by_test true t ih (inl here) = absurd (other (ap (λ (x : Edge). x.parent) here ∙ sym (takes_place-parent new old t)))
    by_test true t ih (inr there) = Contains-there new edges e there
    by_test false t ih (inl here) = rw here (Contains-here old (with_edge new edges))
    by_test false t ih (inr there) = Contains-there old (with_edge new edges) e (ih there)

Node-injective : (a b : ℕ) → Node a ≡ Node b → a ≡ b
Node-injective a b h = cc

-- a path to the new edge's parent goes without the edge whose place it takes
pub IsPath-with_edge : (new : Edge) (edges : List Edge) (to : ℕ) → new.parent ≡ Node to
    → (from : ℕ) (p : List Edge) → IsPath edges from p to
    → (q : List Edge) × IsPath (with_edge new edges) from q to
IsPath-with_edge new edges to is_to from [] h = ([], h)
IsPath-with_edge new edges to is_to from (e ∷ p) h =
    by_test (from == to) refl (IsPath-with_edge new edges to is_to e.child p h.2)
  where
    by_test : (b : Bool) → (from == to) ≡ b → ((q : List Edge) × IsPath (with_edge new edges) e.child q to)
        → (q : List Edge) × IsPath (with_edge new edges) from q to
    by_test true t ih = ([], eqb-true from to t)
    by_test false t ih = (
      e ∷ ih.0,
      (
        Contains-with_edge_other new edges e h.0
            (λ same. eqb-false from to t (Node-injective from to (sym h.1 ∙ same ∙ is_to))),
        h.1,
        ih.1,
      ),
    )

-- a path in the list with a new edge is one without it, or leads to its parent
pub IsPath-without_edge : (new : Edge) (edges : List Edge) (from to : ℕ) (p : List Edge)
    → IsPath (with_edge new edges) from p to
    → IsPath edges from p to ⊎ ((n : ℕ) × (new.parent ≡ Node n) × ((from ≡ n) ⊎ Reaches edges from n))
IsPath-without_edge new edges from to [] h = inl h
IsPath-without_edge new edges from to (e ∷ p) h = elim (Contains-with_edge new edges e h.0) [
  | inl is_new ↦ inr (from, ap (λ (x : Edge). x.parent) (sym is_new) ∙ h.1, inl refl)
  | inr kept ↦ elim (IsPath-without_edge new edges e.child to p h.2) [
    | inl rest ↦ inl (kept, h.1, rest)
    | inr by_new ↦ inr (
      by_new.0,
      by_new.1,
      elim by_new.2 [
        | inl here ↦ inr (rw here at (Reaches-edge edges from e kept h.1))
        | inr further ↦ inr (Reaches-joined edges from e.child by_new.0 (Reaches-edge edges from e kept h.1) further)
      ],
    )
  ]
]

-- so the new edge makes a cycle exactly where its child is its parent or reaches it
pub LeadsBack-from_cycle : (new : Edge) (edges : List Edge) → IsAcyclic edges
    → Reaches (with_edge new edges) new.child new.child → LeadsBack edges new.child new.parent
LeadsBack-from_cycle new edges acyclic h =
    elim (IsPath-without_edge new edges new.child new.child (h.first ∷ h.rest) h.path) [
      | inl old_path ↦ absurd (acyclic new.child (record { first = h.first; rest = h.rest; path = old_path }))
      | inr by_new ↦ let goal : LeadsBack edges new.child (Node by_new.0) = by_new.2 in rw by_new.1 goal
    ]

pub cycle_from_LeadsBack : (new : Edge) (edges : List Edge) → LeadsBack edges new.child new.parent
    → Reaches (with_edge new edges) new.child new.child
cycle_from_LeadsBack new edges h = by_parent new.parent refl h
  where
    by_parent : (parent : Parent) → new.parent ≡ parent → LeadsBack edges new.child parent
        → Reaches (with_edge new edges) new.child new.child
    by_parent (Node n) e (inl same) =
        Reaches-edge (with_edge new edges) new.child new (Contains-with_edge_new new edges) (e ∙ ap Node (sym same))
    by_parent (Node n) e (inr further) =
        let q = IsPath-with_edge new edges n e new.child (further.first ∷ further.rest) further.path in
        Reaches-last (with_edge new edges) new.child n new.child q.0 q.1
        (Reaches-edge (with_edge new edges) n new (Contains-with_edge_new new edges) e)
    by_parent (Guest g) e h = absurd h
    by_parent (Job j) e h = absurd h

-- some cycle, where the edge is set, is one through its child
pub LeadsBack-from_HasCycle : (new : Edge) (edges : List Edge) → IsAcyclic edges
    → HasCycle (with_edge new edges) → LeadsBack edges new.child new.parent
LeadsBack-from_HasCycle new edges acyclic has =
    LeadsBack-from_cycle new edges acyclic
    (Reaches-through (with_edge new edges) edges new.child (new_leads-with_edge new edges) acyclic has.node has.cycle)

pub HasCycle-from_LeadsBack : (new : Edge) (edges : List Edge) → LeadsBack edges new.child new.parent
    → HasCycle (with_edge new edges)
HasCycle-from_LeadsBack new edges back = record { node = new.child; cycle = cycle_from_LeadsBack new edges back }
