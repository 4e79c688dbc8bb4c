-- Taking away the filter that was set gives back the list.
use Rattle.std.proofs.Common.{◌≡◌, ◌≢◌, ℕ, ◌<◌, length, get_or, List, [], ◌∷◌, ◌++◌, map, refl, sym, ◌∙◌, ap, inl, inr, Bool, true, false, Option, Some, None}
use Rattle.std.specs.Prelude.{◌||◌, not, ◌==◌}
use Rattle.std.specs.List.{Contains, filter, find}
use Rattle.std.proofs.lemmas.Bool.{eqb-true, eq-eqb}
use Rattle.blk_graph.specs.declared.edge.Edge.{Edge}
use Rattle.blk_graph.specs.declared.edge.Perms.{Perms}
use Rattle.blk_graph.specs.declared.edge.Parent.{Parent}
use Rattle.blk_graph.specs.declared.edge.Parent.TheVariants.{Node, Guest, Job}
use Rattle.blk_graph.specs.Edges.{same_parent}
use Rattle.blk_graph.specs.Edits.{with_child, IsLone, moved, with_moved, filter_edge, with_filter, is_filters, but_filters, without_filter, touches}
use Rattle.blk_graph.proofs.Members.{Contains-here, Contains-there, Contains-map}
use Rattle.blk_graph.proofs.EditLemmas.{moved-parent, moved-cases, but_doubles-none}
use Rattle.blk_graph.proofs.CycleLemmas.{same_parent-true}

module _ {X : Type 0} (p : X → Bool) (y : X) (last : p y ≡ true) where
  -- where only the last element passes, `find` finds it
  pub find-push : (xs : List X) → ((x : X) → Contains xs x → p x ≡ false) → find p (xs ++ y ∷ []) ≡ Some y
  find-push [] none = rw last refl
  find-push (x ∷ xs) none =
      rw (none x (Contains-here x xs)) (find-push xs (λ z h. none z (Contains-there x xs z h)))

  -- and the filter of the others gives them
  pub filter-push : (xs : List X) → ((x : X) → Contains xs x → p x ≡ false)
      → filter (λ z. not (p z)) (xs ++ y ∷ []) ≡ xs
  filter-push [] none = rw last refl
  filter-push (x ∷ xs) none =
      rw (none x (Contains-here x xs))
      (ap (λ zs. x ∷ zs) (filter-push xs (λ z h. none z (Contains-there x xs z h))))

pub same_parent-false : (a b : Parent) → a ≢ b → same_parent a b ≡ false
same_parent-false a b differ = by_test (same_parent a b) refl
  where
    by_test : (t : Bool) → same_parent a b ≡ t → same_parent a b ≡ false
    by_test true h = absurd (differ (same_parent-true a b h))
    by_test false h = h

pub same_parent-refl : (a : Parent) → same_parent a a ≡ true
same_parent-refl (Node a) = eq-eqb a a refl
same_parent-refl (Guest a) = eq-eqb a a refl
same_parent-refl (Job a) = eq-eqb a a refl

-- an edge that was moved to the filter and back
pub moved-back : (node over : ℕ) (e : Edge) → e.child ≢ over → moved over node (moved node over e) ≡ e
moved-back node over e lone = elim (moved-cases node over e) [
  | inl is ↦
      let back : moved over node (with_child over e) ≡ with_child node (with_child over e)
      = elim (moved-cases over node (with_child over e)) [
        | inl at ↦ at.1
        | inr away ↦ absurd (away.0 refl)
      ] in
      let same : with_child node (with_child over e) ≡ e = ap (λ n. with_child n e) (sym is.0) in
      ap (moved over node) is.1 ∙ back ∙ same
  | inr is ↦ ap (moved over node) is.1 ∙ elim (moved-cases over node e) [
    | inl at ↦ absurd (lone at.0)
    | inr away ↦ away.1
  ]
]

pub map-moved_back : (node over : ℕ) (edges : List Edge) → ((e : Edge) → Contains edges e → e.child ≢ over)
    → map (moved over node) (map (moved node over) edges) ≡ edges
map-moved_back node over [] lone = refl
map-moved_back node over (e ∷ edges) lone =
    ap (λ x. x ∷ map (moved over node) (map (moved node over) edges))
    (moved-back node over e (lone e (Contains-here e edges)))
    ∙ ap (λ xs. e ∷ xs) (map-moved_back node over edges (λ x h. lone x (Contains-there e edges x h)))

pub without_filter-with_filter : (edges : List Edge) (node over : ℕ) (perm shared : Perms) → over ≢ node
    → IsLone edges over → without_filter over (with_filter node over perm shared edges) ≡ edges
without_filter-with_filter edges node over perm shared differ lone =
    let new : Edge = filter_edge over node perm shared in
    let others : List Edge = map (moved node over) edges in
    let all_moved : with_moved node over edges ≡ others
    = ap (map (moved node over)) (but_doubles-none node over edges lone.enters) in
    let none : (e : Edge) → Contains others e → is_filters over e ≡ false
    = λ e h.
    let r = Contains-map (moved node over) edges e h in
    let parent : e.parent ≢ Node over
    = λ is. lone.leaves r.0 r.1
    (sym (moved-parent node over r.0) ∙ ap (λ (x : Edge). x.parent) (sym r.2) ∙ is) in
    rw (same_parent-false e.parent (Node over) parent) refl in
    let away : (e : Edge) → Contains others e → e.child ≢ node
    = λ e h is.
    let r = Contains-map (moved node over) edges e h in
    elim (moved-cases node over r.0) [
      | inl at ↦ differ (sym (ap (λ (x : Edge). x.child) (r.2 ∙ at.1)) ∙ is)
      | inr other ↦ other.0 (sym (ap (λ (x : Edge). x.child) (r.2 ∙ other.1)) ∙ is)
    ] in
    let is_last : is_filters over new ≡ true = rw (same_parent-refl (Node over)) refl in
    let rest : List Edge → Option Edge → List Edge
    = λ all found. elim found as (λ _. List Edge) [
      | None ↦ all
      | Some edge ↦ with_moved over edge.child (but_filters over all)
    ] in
    ap (λ es. without_filter over (es ++ new ∷ [])) all_moved
    ∙ ap (rest (others ++ new ∷ [])) (find-push (is_filters over) new is_last others none)
    ∙ ap (with_moved over node) (filter-push (is_filters over) new is_last others none)
    ∙ ap (map (moved over node)) (but_doubles-none over node others away)
    ∙ map-moved_back node over edges lone.enters

-- edges that don't touch the node leave it alone
pub IsLone-untouched : (edges : List Edge) (node : ℕ)
    → ((k : ℕ) (d : Edge) → k < length edges → touches node (get_or edges k d) ≡ false) → IsLone edges node
IsLone-untouched edges node each = record {
  enters = λ e h is.
      let free : touches node e ≡ false = rw h.2 at (each h.0 e h.1) in
      let hit : touches node e ≡ true = rw (eq-eqb e.child node is) refl in cc;
  leaves = λ e h is.
      let free : touches node e ≡ false = rw h.2 at (each h.0 e h.1) in
      let same : same_parent e.parent (Node node) ≡ true = rw is (same_parent-refl (Node node)) in
      let hit : touches node e ≡ true = either (e.child == node) (same_parent e.parent (Node node)) same in cc;
}
  where
    either : (a b : Bool) → b ≡ true → (a || b) ≡ true
    either true b h = refl
    either false b h = h

pub touched_not_lone : (edges : List Edge) (node : ℕ) (e : Edge) → Contains edges e → touches node e ≡ true
    → IsLone edges node → ⊥
touched_not_lone edges node e h hit lone = by_test (e.child == node) refl hit
  where
    by_test : (a : Bool) → (e.child == node) ≡ a → (a || same_parent e.parent (Node node)) ≡ true → ⊥
    by_test true is hit = lone.enters e h (eqb-true e.child node is)
    by_test false is hit = lone.leaves e h (same_parent-true e.parent (Node node) hit)
