-- The lowest id that is free is that of no node, and rows that are found stay found in longer lists.
use Rattle.std.proofs.Common.{◌≡◌, ◌⊎◌, ℕ, zero, suc, ◌+◌, ◌<◌, ◌≤◌, Bool, true, false, cond, List, [], ◌∷◌, ◌++◌, map, length, refl, sym, ap, ◌∙◌, inl, inr, arith, Some, None}
use Rattle.std.specs.Prelude.{◌==◌, ◌||◌, nat_eq}
use Rattle.std.specs.List.{find, list_any, Contains}
use Rattle.std.proofs.lemmas.Bool.{eqb-true, eqb-false, ne_eqb, cases_eq}
use Rattle.blk_graph.specs.Ids.{lowest_from, lowest_free}
use Rattle.blk_graph.proofs.Members.{Contains-here, Contains-there, Contains-nil, Contains-cases}
use Rattle.blk_graph.proofs.IdLemmas.{length-taken}
use Rattle.qmp_rules.specs.declared.rows.NodeRecord.{NodeRecord}

-- ---- ids

pub any-Contains : (k : ℕ) (taken : List ℕ) → list_any (nat_eq k) taken ≡ true → Contains taken k
any-Contains k [] h = absurd cc
any-Contains k (id ∷ taken) h = by_test (nat_eq k id) refl (any-Contains k taken) h
  where
    by_test : (b : Bool) → nat_eq k id ≡ b → (list_any (nat_eq k) taken ≡ true → Contains taken k)
        → (b || list_any (nat_eq k) taken) ≡ true → Contains (id ∷ taken) k
    by_test true e ih t = let same : k ≡ id = eqb-true k id e in rw same (Contains-here id taken)
    by_test false e ih t = Contains-there id taken k (ih t)

-- either the id isn't taken, or all from the first one on are
pub lowest_from-cases : (more id : ℕ) (taken : List ℕ)
    → (list_any (nat_eq (lowest_from more id taken)) taken ≡ false)
    ⊎ ((k : ℕ) → id ≤ k → k < id + more → list_any (nat_eq k) taken ≡ true)
lowest_from-cases zero id taken = inr (λ k low high. absurd (omega arith))
lowest_from-cases (suc more) id taken = by_test (list_any (nat_eq id) taken) refl (lowest_from-cases more (id + 1) taken)
  where
    by_test : (b : Bool) → list_any (nat_eq id) taken ≡ b
        → (list_any (nat_eq (lowest_from more (id + 1) taken)) taken ≡ false)
        ⊎ ((k : ℕ) → id + 1 ≤ k → k < (id + 1) + more → list_any (nat_eq k) taken ≡ true)
        → (list_any (nat_eq (cond b (lowest_from more (id + 1) taken) id)) taken ≡ false)
        ⊎ ((k : ℕ) → id ≤ k → k < id + suc more → list_any (nat_eq k) taken ≡ true)
    by_test false e ih = inl e
    by_test true e (inl free) = inl free
    by_test true e (inr all) = inr (λ k low high. at_least k (cases_eq k id) low high)
      where
        at_least : (k : ℕ) → ((k ≡ id) ⊎ (k ≡ id → ⊥)) → id ≤ k → k < id + suc more → list_any (nat_eq k) taken ≡ true
        at_least k (inl same) low high = rw same e
        at_least k (inr differ) low high = all k (omega arith) (omega arith)

pub lowest_free-free : (taken : List ℕ) → length taken < 64 → list_any (nat_eq (lowest_free taken)) taken ≡ false
unfolding lowest_free
lowest_free-free taken few = elim (lowest_from-cases 64 0 taken) [
  | inl free ↦ free
  | inr all ↦
      let many : 64 ≤ length taken = length-taken 64 taken (λ k below. any-Contains k taken (all k (omega arith) (omega arith))) in
      absurd (omega arith)
]

pub free-row : (k : ℕ) (rows : List NodeRecord) → list_any (nat_eq k) (map (λ r. r.id) rows) ≡ false → find (λ r. r.id == k) rows ≡ None
free-row k [] h = refl
free-row k (row ∷ rows) h = by_test (nat_eq k row.id) refl (free-row k rows) h
  where
    by_test : (b : Bool) → nat_eq k row.id ≡ b
        → (list_any (nat_eq k) (map (λ r. r.id) rows) ≡ false → find (λ r. r.id == k) rows ≡ None)
        → (b || list_any (nat_eq k) (map (λ r. r.id) rows)) ≡ false
        → find (λ r. r.id == k) (row ∷ rows) ≡ None
    by_test true e ih t = absurd cc
    by_test false e ih t =
        let differ : (row.id == k) ≡ false = ne_eqb row.id k (λ same. eqb-false k row.id e (sym same)) in
        rw differ (ih t)

-- ---- rows in lists

module _ {X : Type 0} where
  -- what isn't found isn't there
  pub no-found : (p : X → Bool) (xs : List X) (x : X) → find p xs ≡ None → Contains xs x → p x ≡ true → ⊥
  no-found p [] x none there passes = Contains-nil x there
  no-found p (y ∷ xs) x none there passes = by_test (p y) refl none (λ e k. no-found p xs x e k passes) (Contains-cases y xs x there)
    where
      by_test : (b : Bool) → p y ≡ b → cond b (Some y) (find p xs) ≡ None → (find p xs ≡ None → Contains xs x → ⊥) → ((x ≡ y) ⊎ Contains xs x) → ⊥
      by_test true e k rest from = absurd cc
      by_test false e k rest (inl here) = let yes = ap p (sym here) ∙ passes in cc
      by_test false e k rest (inr behind) = rest k behind

  pub found-longer : (p : X → Bool) (xs : List X) (y x : X) → find p xs ≡ Some x → find p (xs ++ y ∷ []) ≡ Some x
  found-longer p [] y x h = absurd cc
  found-longer p (z ∷ xs) y x h = by_test (p z) (found-longer p xs y x) h
    where
      by_test : (b : Bool) → (find p xs ≡ Some x → find p (xs ++ y ∷ []) ≡ Some x) → cond b (Some z) (find p xs) ≡ Some x → cond b (Some z) (find p (xs ++ y ∷ [])) ≡ Some x
      by_test true ih t = t
      by_test false ih t = ih t

  pub found-new : (p : X → Bool) (xs : List X) (y : X) → find p xs ≡ None → p y ≡ true → find p (xs ++ y ∷ []) ≡ Some y
  found-new p [] y h t = rw t refl
  found-new p (z ∷ xs) y h t = by_test (p z) (λ e. found-new p xs y e t) h
    where
      by_test : (b : Bool) → (find p xs ≡ None → find p (xs ++ y ∷ []) ≡ Some y) → cond b (Some z) (find p xs) ≡ None → cond b (Some z) (find p (xs ++ y ∷ [])) ≡ Some y
      by_test true ih e = absurd cc
      by_test false ih e = ih e
