-- Filters: set above a node, and taken away again.
use Rattle.std.proofs.Common.{◌≡◌, ◌≢◌, ◌⊎◌, ℕ, List, [], ◌∷◌, refl, sym, ◌∙◌, ap, inl, inr, cond, Option, Some, None}
use Rattle.std.specs.Prelude.{not, ◌==◌}
use Rattle.std.specs.List.{Contains, filter, find}
use Rattle.std.proofs.lemmas.Bool.{ne_eqb, eq-eqb}
use Rattle.std.proofs.lemmas.List.Elements.{Contains-push_cases}
use Rattle.blk_graph.specs.declared.edge.Edge.{Edge}
use Rattle.blk_graph.specs.declared.edge.Perms.{Perms}
use Rattle.blk_graph.specs.declared.edge.Parent.TheVariants.{Node}
use Rattle.blk_graph.specs.declared.edge.Role.TheVariants.{Filtered}
use Rattle.blk_graph.specs.Edges.{same_parent, same_role}
use Rattle.blk_graph.specs.Edits.{IsLone, with_moved, filter_edge, with_filter, is_filters, but_filters, without_filter}
use Rattle.blk_graph.specs.Paths.{IsPath, Reaches, IsAcyclic}
use Rattle.blk_graph.proofs.Members.{Contains-filter, find-Some}
use Rattle.blk_graph.proofs.PathLemmas.{Reaches-edge, Reaches-joined, IsAcyclic-covered}
use Rattle.blk_graph.proofs.EditLemmas.{moved-parent, moved-cases, Contains-with_moved}
use Rattle.blk_graph.proofs.CycleLemmas.{and-left, same_parent-true}

-- where each node stood before the filter was set
abbrev pub before_filter : ℕ → ℕ → ℕ → ℕ
before_filter node filter x = cond (x == filter) node x

pub behind-filter : (node filter x : ℕ) → x ≡ filter → before_filter node filter x ≡ node
behind-filter node filter x h = rw (eq-eqb x filter h) refl

pub behind-other : (node filter x : ℕ) → x ≢ filter → before_filter node filter x ≡ x
behind-other node filter x h = rw (ne_eqb x filter h) refl

module _ (edges : List Edge) (node filter : ℕ) (perm shared : Perms)
    (differ : filter ≢ node) (lone : IsLone edges filter) where
  -- an edge of the edited list is the filter's, or stands for one that was there
  filter_step : (a : ℕ) (e : Edge) → Contains (with_filter node filter perm shared edges) e
      → e.parent ≡ Node a
      → ((a ≡ filter) × (e.child ≡ node)) ⊎ Reaches edges (before_filter node filter a) (before_filter node filter e.child)
  filter_step a e h k =
      elim (Contains-push_cases (with_moved node filter edges) (filter_edge filter node perm shared) e h) [
        | inl was ↦
            let r = Contains-with_moved node filter edges e was in
            let parent : r.0.parent ≡ Node a = sym (moved-parent node filter r.0) ∙ ap (λ (x : Edge). x.parent) (sym r.2) ∙ k in
            let from : before_filter node filter a ≡ a
            = behind-other node filter a (λ same. lone.leaves r.0 r.1 (parent ∙ ap Node same)) in
            let to : before_filter node filter e.child ≡ r.0.child
            = elim (moved-cases node filter r.0) [
              | inl is ↦ behind-filter node filter e.child (ap (λ (x : Edge). x.child) (r.2 ∙ is.1)) ∙ sym is.0
              | inr is ↦
                  let same : e.child ≡ r.0.child = ap (λ (x : Edge). x.child) (r.2 ∙ is.1) in
                  behind-other node filter e.child (λ q. lone.enters r.0 r.1 (sym same ∙ q)) ∙ same
            ] in
            inr (rw (from, to) (Reaches-edge edges a r.0 r.1 parent))
        | inr is_filter ↦
            let parent : Node a ≡ Node filter = sym k ∙ ap (λ (x : Edge). x.parent) (sym is_filter) in
            let same : a ≡ filter = cc in
            inl (same, ap (λ (x : Edge). x.child) (sym is_filter))
      ]

  -- a path of the edited list was one before, or it is the filter's edge
  filter_path : (a b : ℕ) (e : Edge) (p : List Edge)
      → IsPath (with_filter node filter perm shared edges) a (e ∷ p) b
      → Reaches edges (before_filter node filter a) (before_filter node filter b) ⊎ ((a ≡ filter) × (b ≡ node))
  filter_path a b e [] h = elim (filter_step a e h.0 h.1) [
    | inl is ↦ inr (is.0, sym h.2 ∙ is.1)
    | inr was ↦ inl (rw (sym h.2) was)
  ]
  filter_path a b e (f ∷ p) h = elim (filter_step a e h.0 h.1) [
    | inl is ↦ elim (filter_path e.child b f p h.2) [
      | inl rest ↦
          let same : before_filter node filter a ≡ before_filter node filter e.child
          = behind-filter node filter a is.0
          ∙ sym (behind-other node filter e.child (λ q. differ (sym q ∙ is.1)) ∙ is.1) in
          inl (rw same rest)
      | inr at_filter ↦ absurd (differ (sym at_filter.0 ∙ is.1))
    ]
    | inr was ↦ elim (filter_path e.child b f p h.2) [
      | inl rest ↦ inl (Reaches-joined edges (before_filter node filter a) (before_filter node filter e.child) (before_filter node filter b) was rest)
      | inr at_filter ↦
          let same : before_filter node filter b ≡ before_filter node filter e.child
          = behind-other node filter b (λ q. differ (sym q ∙ at_filter.1)) ∙ at_filter.1
          ∙ sym (behind-filter node filter e.child at_filter.0) in
          inl (rw same was)
    ]
  ]

  -- a filter makes no cycle
  pub IsAcyclic-with_filter : IsAcyclic edges → IsAcyclic (with_filter node filter perm shared edges)
  IsAcyclic-with_filter acyclic n cycle = elim (filter_path n n cycle.first cycle.rest cycle.path) [
    | inl was ↦ acyclic (before_filter node filter n) was
    | inr is ↦ differ (sym is.0 ∙ is.1)
  ]

module _ (edges : List Edge) (filter_node : ℕ) where
  -- without a filter, each edge stands for a path that was there
  pub IsAcyclic-without_filter : IsAcyclic edges → IsAcyclic (without_filter filter_node edges)
  IsAcyclic-without_filter acyclic = by_found (find (is_filters filter_node) edges) refl
    where
      by_found : (found : Option Edge) → find (is_filters filter_node) edges ≡ found
          → IsAcyclic (elim found as (λ _. List Edge) [
            | None ↦ edges
            | Some edge ↦ with_moved filter_node edge.child (but_filters filter_node edges)
          ])
      by_found None e = acyclic
      by_found (Some edge) e =
          let is = find-Some (is_filters filter_node) edges edge e in
          let parent : edge.parent ≡ Node filter_node
          = same_parent-true edge.parent (Node filter_node)
          (and-left (same_parent edge.parent (Node filter_node)) (same_role edge.role Filtered) is.1) in
          IsAcyclic-covered
          (with_moved filter_node edge.child (but_filters filter_node edges)) edges
          (λ a x h k.
          let r = Contains-with_moved filter_node edge.child (but_filters filter_node edges) x h in
          let was : Contains edges r.0
          = (Contains-filter (λ other. not (is_filters filter_node other)) edges r.0 r.1).0 in
          let from : r.0.parent ≡ Node a
          = sym (moved-parent filter_node edge.child r.0) ∙ ap (λ (y : Edge). y.parent) (sym r.2) ∙ k in
          elim (moved-cases filter_node edge.child r.0) [
            | inl at_filter ↦
                let to : x.child ≡ edge.child = ap (λ (y : Edge). y.child) (r.2 ∙ at_filter.1) in
                let first : Reaches edges a filter_node = rw (← at_filter.0) (Reaches-edge edges a r.0 was from) in
                rw to (Reaches-joined edges a filter_node edge.child first (Reaches-edge edges filter_node edge is.0 parent))
            | inr other ↦
                let to : x.child ≡ r.0.child = ap (λ (y : Edge). y.child) (r.2 ∙ other.1) in
                rw to (Reaches-edge edges a r.0 was from)
          ])
          acyclic
