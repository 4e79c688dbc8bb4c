-- A move of parents makes no cycle where the node that they go to leads to theirs by edges of one parent alone, which stay.
use Rattle.std.proofs.Common.{◌≡◌, ◌⊎◌, ℕ, Bool, true, false, List, [], ◌∷◌, refl, sym, ap, subst, ◌∙◌, inl, inr, Some}
use Rattle.std.specs.Prelude.{◌==◌, ◌&&◌, not}
use Rattle.std.specs.List.{Contains}
use Rattle.std.proofs.lemmas.Bool.{eqb-true, eq-eqb}
use Rattle.blk_graph.specs.declared.edge.Edge.{Edge}
use Rattle.blk_graph.specs.declared.edge.Parent.{Parent}
use Rattle.blk_graph.specs.declared.edge.Parent.TheVariants.{Node}
use Rattle.blk_graph.specs.Edges.{same_parent}
use Rattle.blk_graph.specs.Edits.{stays, replaced, with_child, with_replaced}
use Rattle.blk_graph.specs.Paths.{IsAcyclic, IsPath, LeadsBack, Reaches}
use Rattle.blk_graph.proofs.CycleLemmas.{and-left, and-right}
use Rattle.blk_graph.proofs.EditLemmas.{replaced-parent}
use Rattle.blk_graph.proofs.Members.{Contains-map}
use Rattle.blk_graph.proofs.PathLemmas.{Reaches-edge, Reaches-joined}
use Rattle.flat_machine.specs.Suiting.{without_way}
use Rattle.flat_machine.proofs.Tables.{filter-keeps}

module _ (edges : List Edge) (from to but : ℕ) (acyclic : IsAcyclic edges) (apart : LeadsBack (without_way but from edges) to (Node from) → ⊥) where
  abbrev left : List Edge
  left = without_way but from edges

  abbrev is_way : Edge → Bool
  is_way e = same_parent e.parent (Node but) && e.child == from

  -- a path is left, or goes through the source
  still_left : (a z : ℕ) (path : List Edge) → IsPath edges a path z → IsPath left a path z ⊎ ((from ≡ z) ⊎ Reaches edges from z)
  still_left a z [] h = inl h
  still_left a z (e ∷ path) h = by_test (is_way e) refl (still_left e.child z path h.2)
    where
      onward : (p : List Edge) → IsPath edges from p z → (from ≡ z) ⊎ Reaches edges from z
      onward [] k = inl k
      onward (x ∷ xs) k = inr (record { first = x; rest = xs; path = k })

      by_test : (b : Bool) → is_way e ≡ b → IsPath left e.child path z ⊎ ((from ≡ z) ⊎ Reaches edges from z)
          → IsPath left a (e ∷ path) z ⊎ ((from ≡ z) ⊎ Reaches edges from z)
      by_test true is rest =
          let at : e.child ≡ from = eqb-true e.child from (and-right (same_parent e.parent (Node but)) (e.child == from) is) in
          inr (onward path (subst (λ n. IsPath edges n path z) at h.2))
      by_test false is (inl kept) = inl (filter-keeps (λ x. not (is_way x)) edges e (ap not is) h.0, h.1, kept)
      by_test false is (inr through) = inr through

  -- a way from a node to an edge into the source that is moved
  record IsOn (a : ℕ) : Type 0 where
    edge : Edge
    there : Contains edges edge
    parent : ℕ
    of : edge.parent ≡ Node parent
    at : edge.child ≡ from
    kept : is_way edge ≡ false
    way : (a ≡ parent) ⊎ Reaches edges a parent

  reaches_from : (a : ℕ) → IsOn a → Reaches edges a from
  reaches_from a on = by_way on.way
    where
      last : Reaches edges on.parent from
      last = subst (Reaches edges on.parent) on.at (Reaches-edge edges on.parent on.edge on.there on.of)

      by_way : ((a ≡ on.parent) ⊎ Reaches edges a on.parent) → Reaches edges a from
      by_way (inl same) = subst (λ n. Reaches edges n from) (sym same) last
      by_way (inr way) = Reaches-joined edges a on.parent from way last

  -- the second node is on no such way
  never : IsOn to → ⊥
  never on = by_way on.way
    where
      own : Contains left on.edge
      own = filter-keeps (λ x. not (is_way x)) edges on.edge (ap not on.kept) on.there

      last : Reaches left on.parent from
      last = subst (Reaches left on.parent) on.at (Reaches-edge left on.parent on.edge own on.of)

      back : (from ≡ on.parent) ⊎ Reaches edges from on.parent → ⊥
      back (inl same) = acyclic from (subst (λ n. Reaches edges n from) (sym same) (subst (Reaches edges on.parent) on.at (Reaches-edge edges on.parent on.edge on.there on.of)))
      back (inr way) = acyclic from (Reaches-joined edges from on.parent from way
          (subst (Reaches edges on.parent) on.at (Reaches-edge edges on.parent on.edge on.there on.of)))

      by_way : ((to ≡ on.parent) ⊎ Reaches edges to on.parent) → ⊥
      by_way (inl same) = apart (inr (subst (λ n. Reaches left n from) (sym same) last))
      by_way (inr way) = elim (still_left to on.parent (way.first ∷ way.rest) way.path) [
        | inl kept ↦ apart (inr (Reaches-joined left to on.parent from (record { first = way.first; rest = way.rest; path = kept }) last))
        | inr through ↦ back through
      ]

  abbrev after : List Edge
  after = with_replaced from to (Some (Node but)) edges

  abbrev Beyond : ℕ → Type 0
  Beyond z = (to ≡ z) ⊎ Reaches edges to z

  -- a path of the new list is one of the old list, or comes to the second node and goes on from there
  abbrev Goes : ℕ → ℕ → Type 0
  Goes a z = Reaches edges a z ⊎ (IsOn a × Beyond z)

  abbrev Steps : ℕ → Edge → Type 0
  Steps a e = Reaches edges a e.child ⊎ (IsOn a × (e.child ≡ to))

  step : (a : ℕ) (e : Edge) → Contains after e → e.parent ≡ Node a → Steps a e
  step a e there of =
      let r = Contains-map (replaced from to (Some (Node but))) edges e there in
      let parent : r.0.parent ≡ Node a = sym (replaced-parent from to (Some (Node but)) r.0) ∙ ap (λ (x : Edge). x.parent) (sym r.2) ∙ of in
      by_test r.0 r.1 parent (r.0.child == from && not (stays (Some (Node but)) r.0.parent)) refl r.2
    where
      by_test : (x : Edge) → Contains edges x → x.parent ≡ Node a → (b : Bool) → (x.child == from && not (stays (Some (Node but)) x.parent)) ≡ b
          → e ≡ replaced from to (Some (Node but)) x → Steps a e
      by_test x at own false test is =
          let same : e ≡ x = is ∙ rw test refl in
          inl (subst (λ (y : Edge). Reaches edges a y.child) (sym same) (Reaches-edge edges a x at own))
      by_test x at own true test is =
          let same : e ≡ with_child to x = is ∙ rw test refl in
          let into : x.child ≡ from = eqb-true x.child from (and-left (x.child == from) (not (stays (Some (Node but)) x.parent)) test) in
          let moves : not (stays (Some (Node but)) x.parent) ≡ true = and-right (x.child == from) (not (stays (Some (Node but)) x.parent)) test in
          let apart_from : same_parent x.parent (Node but) ≡ false = other x.parent own moves in
          inr (
            record { edge = x; there = at; parent = a; of = own; at = into; kept = rw apart_from refl; way = inl refl },
            ap (λ (y : Edge). y.child) same,
          )
        where
          other : (p : Parent) → p ≡ Node a → not (stays (Some (Node but)) p) ≡ true → same_parent p (Node but) ≡ false
          other p is_a moves = by_eq (a == but) refl
            where
              by_eq : (b : Bool) → (a == but) ≡ b → same_parent p (Node but) ≡ false
              by_eq false e = rw is_a e
              by_eq true e =
                  let same_ids : a ≡ but = eqb-true a but e in
                  let stays_there : stays (Some (Node but)) p ≡ true = rw (is_a, same_ids, eq-eqb but but refl) refl in
                  absurd (let bad = ap not stays_there in cc)

  on_before : (a c : ℕ) → Reaches edges a c → IsOn c → IsOn a
  on_before a c first on = record {
    edge = on.edge;
    there = on.there;
    parent = on.parent;
    of = on.of;
    at = on.at;
    kept = on.kept;
    way = elim on.way [
      | inl same ↦ inr (subst (Reaches edges a) same first)
      | inr way ↦ inr (Reaches-joined edges a c on.parent first way)
    ];
  }

  goes_on : (a z : ℕ) (e : Edge) → Steps a e → Goes e.child z → Goes a z
  goes_on a z e (inl way) (inl rest) = inl (Reaches-joined edges a e.child z way rest)
  goes_on a z e (inl way) (inr rest) = inr (on_before a e.child way rest.0, rest.1)
  goes_on a z e (inr moved) (inl rest) = inr (moved.0, inr (subst (λ n. Reaches edges n z) moved.1 rest))
  goes_on a z e (inr moved) (inr rest) = absurd (never (subst IsOn moved.1 rest.0))

  goes : (a z : ℕ) (e : Edge) (path : List Edge) → IsPath after a (e ∷ path) z → Goes a z
  goes a z e [] h = by_step (step a e h.0 h.1)
    where
      by_step : Steps a e → Goes a z
      by_step (inl way) = inl (subst (Reaches edges a) h.2 way)
      by_step (inr moved) = inr (moved.0, inl (sym moved.1 ∙ h.2))
  goes a z e (x ∷ path) h = goes_on a z e (step a e h.0 h.1) (goes e.child z x path h.2)

  pub moved_acyclic : IsAcyclic after
  moved_acyclic n cycle = elim (goes n n cycle.first cycle.rest cycle.path) [
    | inl way ↦ acyclic n way
    | inr through ↦ elim through.1 [
      | inl same ↦ never (subst IsOn (sym same) through.0)
      | inr way ↦ never (on_before to n way through.0)
    ]
  ]
