-- An overlay that nothing leads to, and that doesn't lead to the node, makes no cycle where it is put over it.
use Rattle.std.proofs.Common.{◌≡◌, ◌≢◌, ◌⊎◌, ℕ, List, [], ◌∷◌, refl, sym, ◌∙◌, ap, inl, inr, Bool, true, false, cond, Option, Some}
use Rattle.std.specs.Prelude.{◌==◌, ◌&&◌, not}
use Rattle.std.specs.List.{Contains}
use Rattle.std.proofs.lemmas.Bool.{eqb-true, eq-eqb, false≢true}
use Rattle.blk_graph.specs.declared.edge.Edge.{Edge}
use Rattle.blk_graph.specs.declared.edge.Parent.{Parent}
use Rattle.blk_graph.specs.declared.edge.Parent.TheVariants.{Node}
use Rattle.blk_graph.specs.declared.edge.Role.TheVariants.{Backing}
use Rattle.blk_graph.specs.Edits.{with_child, with_edge, stays, replaced, with_over}
use Rattle.blk_graph.specs.Judged.{IsOverlayApart}
use Rattle.blk_graph.specs.Paths.{IsPath, Reaches, IsAcyclic}
use Rattle.blk_graph.specs.Permissions.{node_edge}
use Rattle.blk_graph.proofs.ChildLemmas.{reached-entered}
use Rattle.blk_graph.proofs.CycleLemmas.{and-left, and-right, IsAcyclic-with_replaced, IsPath-without_edge}
use Rattle.blk_graph.proofs.DraftLemmas.{acyclic_put}
use Rattle.blk_graph.proofs.EditLemmas.{Contains-with_edge, replaced-parent}
use Rattle.blk_graph.proofs.Members.{Contains-map}
use Rattle.blk_graph.proofs.PathLemmas.{Reaches-edge, Reaches-joined, Reaches-cons}

-- an edge is replaced where its parent doesn't stay
replaced-split : (from to : ℕ) (but : Option Parent) (e : Edge)
    → ((e.child ≡ from) × (stays but e.parent ≡ false)) ⊎ (replaced from to but e ≡ e)
replaced-split from to but e = by_test (e.child == from && not (stays but e.parent)) refl
  where
    single : (b : Bool) → not b ≡ true → b ≡ false
    single true h = absurd cc
    single false h = refl

    by_test : (b : Bool) → (e.child == from && not (stays but e.parent)) ≡ b
        → ((e.child ≡ from) × (stays but e.parent ≡ false)) ⊎ (cond b (with_child to e) e ≡ e)
    by_test true is = inl (
      eqb-true e.child from (and-left (e.child == from) (not (stays but e.parent)) is),
      single (stays but e.parent) (and-right (e.child == from) (not (stays but e.parent)) is),
    )
    by_test false is = inr refl

module _ (node overlay : ℕ) (edges : List Edge) (acyclic : IsAcyclic edges) (apart : IsOverlayApart edges node overlay) where
  abbrev new : Edge
  new = node_edge overlay Backing node

  abbrev backed : List Edge
  backed = with_edge new edges

  backed-acyclic : IsAcyclic backed
  backed-acyclic = acyclic_put new edges none acyclic
    where
      none : (node ≡ overlay) ⊎ Reaches edges node overlay → ⊥
      none (inl same) = apart.differ (sym same)
      none (inr reaches) = reached-entered edges node overlay reaches.first reaches.rest reaches.path apart.unused

  -- nothing leads to the overlay then
  backed-unused : (e : Edge) → Contains backed e → e.child ≢ overlay
  backed-unused e there is = elim (Contains-with_edge new edges e there) [
    | inl is_new ↦ apart.differ (sym is ∙ ap (λ (x : Edge). x.child) is_new)
    | inr kept ↦ apart.unused e kept is
  ]

  -- what it leads to by the new edge is behind the node, and all else it led to before
  behind_overlay : (a : ℕ) → Reaches backed overlay a → Reaches edges overlay a ⊎ ((a ≡ node) ⊎ Reaches backed node a)
  behind_overlay a reaches = elim (Contains-with_edge new edges reaches.first reaches.path.0) [
    | inl is_new ↦
        let to : reaches.first.child ≡ node = ap (λ (x : Edge). x.child) is_new in
        inr (after_new reaches.first.child to reaches.rest reaches.path.2)
    | inr kept ↦ elim (IsPath-without_edge new edges reaches.first.child a reaches.rest reaches.path.2) [
      | inl old_path ↦ inl (Reaches-cons edges overlay a reaches.first reaches.rest kept reaches.path.1 old_path)
      | inr by_new ↦
          let at : overlay ≡ by_new.0 = let e : Node overlay ≡ Node by_new.0 = by_new.1 in cc in
          absurd (elim by_new.2 [
            | inl here ↦ backed-unused reaches.first reaches.path.0 (here ∙ sym at)
            | inr further ↦
                let r : Reaches edges reaches.first.child overlay = rw at further in
                reached-entered edges reaches.first.child overlay r.first r.rest r.path apart.unused
          ])
    ]
  ]
    where
      after_new : (c : ℕ) → c ≡ node → (p : List Edge) → IsPath backed c p a → (a ≡ node) ⊎ Reaches backed node a
      after_new c is [] here = inl (sym here ∙ is)
      after_new c is (e ∷ p) path = let from : IsPath backed node (e ∷ p) a = rw is at path in inr (record { first = e; rest = p; path = from })

  -- so none of the node's parents is reached from the overlay
  no_parent : (a : ℕ) (e : Edge) → a ≢ overlay → Contains backed e → e.parent ≡ Node a → e.child ≡ node → Reaches backed overlay a → ⊥
  no_parent a e other there from to reaches =
      let step : Reaches backed a node = rw to at (Reaches-edge backed a e there from) in
      elim (behind_overlay a reaches) [
        | inl before ↦ elim (Contains-with_edge new edges e there) [
          | inl is_new ↦ other (let same : Node a ≡ Node overlay = sym from ∙ ap (λ (x : Edge). x.parent) is_new in cc)
          | inr kept ↦
              let last : Reaches edges a node = rw to at (Reaches-edge edges a e kept from) in
              apart.away (Reaches-joined edges overlay a node before last)
        ]
        | inr after ↦ elim after [
          | inl same ↦ backed-acyclic node (rw same at step)
          | inr further ↦ backed-acyclic node (Reaches-joined backed node a node further step)
        ]
      ]

  abbrev over : List Edge
  over = with_over node overlay edges

  -- so a step from where the overlay leads is one of the edges before
  one_step : (a : ℕ) (e : Edge) → (a ≡ overlay) ⊎ Reaches backed overlay a → Contains over e → e.parent ≡ Node a
      → Reaches backed overlay e.child
  one_step a e so_far there parent =
      let r = Contains-map (replaced node overlay (Some (Node overlay))) backed e there in
      let from : r.0.parent ≡ Node a
      = sym (replaced-parent node overlay (Some (Node overlay)) r.0) ∙ sym (ap (λ (x : Edge). x.parent) r.2) ∙ parent in
      elim (replaced-split node overlay (Some (Node overlay)) r.0) [
        | inl moved ↦
            let stay : stays (Some (Node overlay)) (Node a) ≡ false = rw from at moved.1 in
            let other : a ≢ overlay = λ same. false≢true (sym stay ∙ eq-eqb overlay a (sym same)) in
            absurd (elim so_far [
              | inl start ↦ other start
              | inr reaches ↦ no_parent a r.0 other r.1 from moved.0 reaches
            ])
        | inr kept ↦
            let same : e ≡ r.0 = r.2 ∙ kept in
            let step : Reaches backed a e.child = rw same (Reaches-edge backed a r.0 r.1 from) in
            elim so_far [
              | inl start ↦ rw start at step
              | inr reaches ↦ Reaches-joined backed overlay a e.child reaches step
            ]
      ]

  no_return : (a : ℕ) (e : Edge) (p : List Edge) → (a ≡ overlay) ⊎ Reaches backed overlay a → IsPath over a (e ∷ p) overlay → ⊥
  no_return a e [] so_far path =
      let reaches : Reaches backed overlay overlay = rw path.2 at (one_step a e so_far path.0 path.1) in
      reached-entered backed overlay overlay reaches.first reaches.rest reaches.path backed-unused
  no_return a e (f ∷ q) so_far path = no_return e.child f q (inr (one_step a e so_far path.0 path.1)) path.2

  pub IsAcyclic-with_over : IsAcyclic over
  IsAcyclic-with_over =
      IsAcyclic-with_replaced node overlay (Some (Node overlay)) backed backed-acyclic
      (λ cycle. no_return overlay cycle.first cycle.rest (inl refl) cycle.path)
