-- What all edges into each node share, and the nodes at which an edge asks more, edge after edge.
use Rattle.std.proofs.Common.{◌≡◌, ◌≢◌, ℕ, zero, suc, ◌+◌, ◌<◌, ◌≤◌, List, [], ◌∷◌, length, get_or, set, refl, sym, ◌∙◌, ap, arith, Bool, true, false, Some, None}
use Rattle.std.specs.Prelude.{◌==◌}
use Rattle.std.specs.List.{slice_get}
use Rattle.std.proofs.lemmas.Bool.{eqb-true, eqb-false}
use Rattle.std.proofs.lemmas.List.{get_or_default}
use Rattle.blk_graph.specs.declared.edge.Edge.{Edge}
use Rattle.blk_graph.specs.declared.edge.Perms.{Perms}
use Rattle.blk_graph.specs.Edges.{ArePermsWithin}
use Rattle.blk_graph.specs.Rule.{EachShares, RestIsCalm, first_denied}

module _ {X : Type 0} where
  slice_get-set_same : (xs : List X) (i : ℕ) (x y : X) → slice_get (set xs i x) i ≡ Some y → y ≡ x
  slice_get-set_same [] zero x y h = absurd cc
  slice_get-set_same [] (suc i) x y h = absurd cc
  slice_get-set_same (z ∷ xs) zero x y h = cc
  slice_get-set_same (z ∷ xs) (suc i) x y h = slice_get-set_same xs i x y h

  slice_get-set_other : (xs : List X) (i j : ℕ) (x : X) → j ≢ i → slice_get (set xs i x) j ≡ slice_get xs j
  slice_get-set_other [] i j x h = refl
  slice_get-set_other (z ∷ xs) zero zero x h = absurd (h refl)
  slice_get-set_other (z ∷ xs) zero (suc j) x h = refl
  slice_get-set_other (z ∷ xs) (suc i) zero x h = refl
  slice_get-set_other (z ∷ xs) (suc i) (suc j) x h = slice_get-set_other xs i j x (λ e. h (ap suc e))

-- the edges before a place share what stands at their children
abbrev pub SharedBelow : List Edge → List Perms → ℕ → Type 0
SharedBelow edges shares i = (k : ℕ) (d : Edge) (common : Perms) → k < i → k < length edges
    → slice_get shares (get_or edges k d).child ≡ Some common → ArePermsWithin common (get_or edges k d).shared

-- the edges before a place ask what stands at their children, or these have a mark
abbrev pub CalmBelow : List Edge → List Perms → List Bool → ℕ → Type 0
CalmBelow edges shares marks i = (k : ℕ) (d : Edge) (common : Perms) → k < i → k < length edges
    → slice_get shares (get_or edges k d).child ≡ Some common
    → slice_get marks (get_or edges k d).child ≡ Some false
    → first_denied (get_or edges k d).perm common ≡ None

at_place : (edges : List Edge) (i k : ℕ) (item d : Edge) → i < length edges → item ≡ get_or edges i item → k ≡ i
    → get_or edges k d ≡ item
at_place edges i k item d within is same =
    ap (λ n. get_or edges n d) same ∙ get_or_default edges i d item within ∙ sym is

pub SharedBelow-next : (edges : List Edge) (shares : List Perms) (i : ℕ) (item : Edge) (old new : Perms)
    → SharedBelow edges shares i → i < length edges → item ≡ get_or edges i item
    → slice_get shares item.child ≡ Some old → ArePermsWithin new old → ArePermsWithin new item.shared
    → SharedBelow edges (set shares item.child new) (i + 1)
SharedBelow-next edges shares i item old new below within is there less own k d common low inside found =
    by_place (k == i) refl
  where
    by_child : k ≢ i → (b : Bool) → ((get_or edges k d).child == item.child) ≡ b
        → ArePermsWithin common (get_or edges k d).shared
    by_child differ true e =
        let same : (get_or edges k d).child ≡ item.child = eqb-true (get_or edges k d).child item.child e in
        let is_new : common ≡ new
        = slice_get-set_same shares item.child new common (rw same at found) in
        let before : ArePermsWithin old (get_or edges k d).shared
        = below k d old (omega arith) inside (rw same there) in
        rw is_new (λ perm asked. before perm (less perm asked))
    by_child differ false e =
        let apart : (get_or edges k d).child ≢ item.child = eqb-false (get_or edges k d).child item.child e in
        below k d common (omega arith) inside
        (sym (slice_get-set_other shares item.child (get_or edges k d).child new apart) ∙ found)

    by_place : (b : Bool) → (k == i) ≡ b → ArePermsWithin common (get_or edges k d).shared
    by_place true e =
        let same : get_or edges k d ≡ item = at_place edges i k item d within is (eqb-true k i e) in
        let is_new : common ≡ new = slice_get-set_same shares item.child new common (rw same at found) in
        rw (is_new, same) own
    by_place false e = by_child (eqb-false k i e) ((get_or edges k d).child == item.child) refl

pub EachShares-at_end : (edges : List Edge) (shares : List Perms) (i : ℕ) → length edges ≤ i → SharedBelow edges shares i
    → EachShares edges shares
EachShares-at_end edges shares i past below node common found e h child =
    rw h.2 at (below h.0 e common (omega (arith, h.1)) h.1 (rw (h.2, child) found))

pub CalmBelow-kept : (edges : List Edge) (shares : List Perms) (marks : List Bool) (i : ℕ) (item : Edge) (common : Perms)
    → CalmBelow edges shares marks i → i < length edges → item ≡ get_or edges i item
    → slice_get shares item.child ≡ Some common → first_denied item.perm common ≡ None
    → CalmBelow edges shares marks (i + 1)
CalmBelow-kept edges shares marks i item common below within is there none k d c low inside found free = by_place (k == i) refl
  where
    by_place : (b : Bool) → (k == i) ≡ b → first_denied (get_or edges k d).perm c ≡ None
    by_place true e =
        let same : get_or edges k d ≡ item = at_place edges i k item d within is (eqb-true k i e) in
        let at : Some c ≡ Some common = sym (rw same at found) ∙ there in
        let is_common : c ≡ common = cc in
        rw (same, is_common) none
    by_place false e = let differ : k ≢ i = eqb-false k i e in below k d c (omega arith) inside found free

pub CalmBelow-marked : (edges : List Edge) (shares : List Perms) (marks : List Bool) (i : ℕ) (item : Edge)
    → CalmBelow edges shares marks i → i < length edges → item ≡ get_or edges i item
    → CalmBelow edges shares (set marks item.child true) (i + 1)
CalmBelow-marked edges shares marks i item below within is k d c low inside found free = by_place (k == i) refl
  where
    marked : (get_or edges k d).child ≡ item.child → ⊥
    marked same =
        let is_true : false ≡ true = slice_get-set_same marks item.child true false (rw same at free) in cc

    by_place : (b : Bool) → (k == i) ≡ b → first_denied (get_or edges k d).perm c ≡ None
    by_place true e =
        let same : get_or edges k d ≡ item = at_place edges i k item d within is (eqb-true k i e) in
        absurd (marked (ap (λ (x : Edge). x.child) same))
    by_place false e =
        let differ : k ≢ i = eqb-false k i e in
        below k d c (omega arith) inside found
        (sym (slice_get-set_other marks item.child (get_or edges k d).child true marked) ∙ free)

pub RestIsCalm-at_end : (edges : List Edge) (shares : List Perms) (marks : List Bool) (i : ℕ) → length edges ≤ i
    → CalmBelow edges shares marks i → RestIsCalm edges shares marks
RestIsCalm-at_end edges shares marks i past below node common found free e h child =
    rw h.2 at (below h.0 e common (omega (arith, h.1)) h.1 (rw (h.2, child) found) (rw (h.2, child) free))
