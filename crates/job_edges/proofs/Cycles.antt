-- A move to a node that doesn't lead to the source makes no cycle, and keeps the targets of other mirrors apart from sources.
use Rattle.std.proofs.Common.{◌≡◌, ◌⊎◌, ℕ, List, [], ◌∷◌, ◌++◌, refl, sym, ◌∙◌, ap, subst, inl, inr, Bool, true, false, Option}
use Rattle.std.specs.Prelude.{◌==◌, ◌&&◌, not}
use Rattle.std.specs.List.{Contains}
use Rattle.std.proofs.lemmas.Bool.{eqb-true}
use Rattle.blk_graph.specs.declared.edge.Edge.{Edge}
use Rattle.blk_graph.specs.declared.edge.Parent.{Parent}
use Rattle.blk_graph.specs.declared.edge.Parent.TheVariants.{Node, Job}
use Rattle.blk_graph.specs.declared.edge.Role.TheVariants.{Filtered}
use Rattle.blk_graph.specs.Edges.{same_parent, same_role}
use Rattle.blk_graph.specs.Edits.{with_child, stays, replaced, with_replaced, moved, is_filters, without_filter, without_parent}
use Rattle.blk_graph.specs.Paths.{IsPath, Reaches, IsAcyclic}
use Rattle.blk_graph.specs.Rule.{KeepsPermissions}
use Rattle.blk_graph.proofs.CycleLemmas.{and-left, same_parent-true}
use Rattle.blk_graph.proofs.EditLemmas.{moved-cases}
use Rattle.blk_graph.proofs.Members.{Contains-here, Contains-there, Contains-map, Contains-cases, find-Some}
use Rattle.blk_graph.proofs.PathLemmas.{Reaches-edge, Reaches-joined, IsAcyclic-covered}
use Rattle.job_edges.proofs.Rests.{HasFilter}
use Rattle.job_edges.specs.Copies.{Copied, AreApart}
use Rattle.job_edges.proofs.Ends.{left, left_is, left_kept}

-- each edge of the new list leads along the old one, or to a node from a parent that led to the source
module _ (new old : List Edge) (source to : ℕ)
    (leads : (a : ℕ) (e : Edge) → Contains new e → e.parent ≡ Node a → Reaches old a e.child ⊎ ((e.child ≡ to) × Reaches old a source))
    (apart : Reaches old to source → ⊥) where
  abbrev pub Led : ℕ → ℕ → Type 0
  Led a z = Reaches old a z ⊎ (Reaches old a source × ((z ≡ to) ⊎ Reaches old to z))

  led_on : (a c z : ℕ) → Reaches old a c → Led c z → Led a z
  led_on a c z first (inl rest) = inl (Reaches-joined old a c z first rest)
  led_on a c z first (inr rest) = inr (Reaches-joined old a c source first rest.0, rest.1)

  led_to : (a z : ℕ) → Reaches old a source → Led to z → Led a z
  led_to a z first (inl rest) = inr (first, inr rest)
  led_to a z first (inr rest) = absurd (apart rest.0)

  pub led : (a z : ℕ) (e : Edge) (path : List Edge) → IsPath new a (e ∷ path) z → Led a z
  led a z e [] h = elim (leads a e h.0 h.1) [
    | inl old_way ↦ inl (subst (Reaches old a) h.2 old_way)
    | inr way ↦ inr (way.1, inl (sym h.2 ∙ way.0))
  ]
  led a z e (f ∷ path) h = elim (leads a e h.0 h.1) [
    | inl old_way ↦ led_on a e.child z old_way (led e.child z f path h.2)
    | inr way ↦ led_to a z way.1 (subst (λ c. Led c z) way.0 (led e.child z f path h.2))
  ]

  pub moved_acyclic : IsAcyclic old → IsAcyclic new
  moved_acyclic acyclic n cycle = elim (led n n cycle.first cycle.rest cycle.path) [
    | inl way ↦ acyclic n way
    | inr way ↦ elim way.1 [
      | inl same ↦ apart (subst (λ k. Reaches old k source) same way.0)
      | inr back ↦ apart (Reaches-joined old to n source back way.0)
    ]
  ]

  -- the pivot of one of the mirrors leaves the others as they should be
  pub moved_apart : (copies before after : List Copied) → copies ≡ before ++ record { source = source; target = to } ∷ after
      → AreApart old copies → AreApart new (before ++ after)
  moved_apart copies before after is all = by_before before (subst (AreApart old) is all)
    where
      one : Copied
      one = record { source = source; target = to }

      later : (more : List Copied) → ((x : Copied) → Contains more x → Reaches old x.target source → ⊥) → AreApart old more → AreApart new more
      later [] none h = tt
      later (m ∷ more) none h = (
        λ x there. (
          λ way. elim (led x.target m.source way.first way.rest way.path) [
            | inl old_way ↦ (h.0 x there).0 old_way
            | inr by ↦ none x there by.0
          ],
          (h.0 x there).1,
        ),
        later more (λ x there. none x (Contains-there m more x there)) h.1,
      )

      in_both : (xs : List Copied) (x : Copied) → Contains (xs ++ after) x → Contains (xs ++ one ∷ after) x
      in_both [] x there = Contains-there one after x there
      in_both (y ∷ xs) x there = elim (Contains-cases y (xs ++ after) x there) [
        | inl here ↦ rw here (Contains-here y (xs ++ one ∷ after))
        | inr more ↦ Contains-there y (xs ++ one ∷ after) x (in_both xs x more)
      ]

      the_one : (xs : List Copied) → Contains (xs ++ one ∷ after) one
      the_one [] = Contains-here one after
      the_one (y ∷ xs) = Contains-there y (xs ++ one ∷ after) one (the_one xs)

      by_before : (xs : List Copied) → AreApart old (xs ++ one ∷ after) → AreApart new (xs ++ after)
      by_before [] h = later after (λ x there. (h.0 x (Contains-there one after x there)).0) h.1
      by_before (m ∷ xs) h = (
        λ x there. (
          λ way. elim (led x.target m.source way.first way.rest way.path) [
            | inl old_way ↦ (h.0 x (in_both (m ∷ xs) x there)).0 old_way
            | inr by ↦ elim by.1 [
              | inl same ↦ (h.0 one (the_one (m ∷ xs))).1 (sym same)
              | inr down ↦ (h.0 one (the_one (m ∷ xs))).0 down
            ]
          ],
          (h.0 x (in_both (m ∷ xs) x there)).1,
        ),
        by_before xs h.1,
      )

-- ---- the edited lists

module _ (edges : List Edge) (over node job : ℕ) (has : HasFilter edges over node job) (rule : KeepsPermissions edges) where
  own_way : Reaches edges over node
  own_way =
      let at = find-Some (is_filters over) edges has.own has.found in
      let from : has.own.parent ≡ Node over = same_parent-true has.own.parent (Node over) (and-left (same_parent has.own.parent (Node over)) (same_role has.own.role Filtered) at.1) in
      subst (Reaches edges over) has.leads (Reaches-edge edges over has.own at.0 from)

  -- where the filter goes, nobody leads where it didn't
  pub pulled_leads : (a : ℕ) (e : Edge) → Contains (without_filter over (without_parent (Job job) edges)) e → e.parent ≡ Node a → Reaches edges a e.child
  pulled_leads a e there from =
      let r = Contains-map (moved over node) (left edges over node job has rule) e (subst (λ (es : List Edge). Contains es e) (left_is edges over node job has rule) there) in
      let at = ((left_kept edges over node job has rule).was r.0 r.1).0 in
      elim (moved-cases over node r.0) [
        | inl x ↦
            let was : r.0.parent ≡ Node a = sym (ap (λ (y : Edge). y.parent) (r.2 ∙ x.1)) ∙ from in
            let up : Reaches edges a over = subst (Reaches edges a) x.0 (Reaches-edge edges a r.0 at was) in
            subst (Reaches edges a) (sym (ap (λ (y : Edge). y.child) (r.2 ∙ x.1))) (Reaches-joined edges a over node up own_way)
        | inr x ↦
            let same : e ≡ r.0 = r.2 ∙ x.1 in
            Reaches-edge edges a e (subst (Contains edges) (sym same) at) from
      ]

  pub pivot_leads : (to : ℕ) (but : Option Parent) (a : ℕ) (e : Edge)
      → Contains (with_replaced node to but (without_filter over (without_parent (Job job) edges))) e → e.parent ≡ Node a
      → Reaches edges a e.child ⊎ ((e.child ≡ to) × Reaches edges a node)
  pivot_leads to but a e there from =
      let r = Contains-map (replaced node to but) (without_filter over (without_parent (Job job) edges)) e there in
      by_test r.0 r.1 (r.0.child == node && not (stays but r.0.parent)) refl r.2
    where
      by_test : (x : Edge) → Contains (without_filter over (without_parent (Job job) edges)) x → (b : Bool) → (x.child == node && not (stays but x.parent)) ≡ b
          → e ≡ replaced node to but x → Reaches edges a e.child ⊎ ((e.child ≡ to) × Reaches edges a node)
      by_test x at true test is =
          let shape : replaced node to but x ≡ with_child to x = rw test refl in
          let was : x.parent ≡ Node a = sym (ap (λ (y : Edge). y.parent) (is ∙ shape)) ∙ from in
          let at_node : x.child ≡ node = eqb-true x.child node (and-left (x.child == node) (not (stays but x.parent)) test) in
          inr (ap (λ (y : Edge). y.child) (is ∙ shape), subst (Reaches edges a) at_node (pulled_leads a x at was))
      by_test x at false test is =
          let shape : replaced node to but x ≡ x = rw test refl in
          let same : e ≡ x = is ∙ shape in
          inl (subst (λ (y : Edge). Reaches edges a y.child) (sym same) (pulled_leads a x at (sym (ap (λ (y : Edge). y.parent) same) ∙ from)))

  pub IsAcyclic-pivoted : (to : ℕ) (but : Option Parent) → (Reaches edges to node → ⊥) → IsAcyclic edges
      → IsAcyclic (with_replaced node to but (without_filter over (without_parent (Job job) edges)))
  IsAcyclic-pivoted to but apart =
      moved_acyclic (with_replaced node to but (without_filter over (without_parent (Job job) edges))) edges node to (pivot_leads to but) apart

  pub IsAcyclic-pulled : IsAcyclic edges → IsAcyclic (without_filter over (without_parent (Job job) edges))
  IsAcyclic-pulled = IsAcyclic-covered (without_filter over (without_parent (Job job) edges)) edges pulled_leads
