-- The lowest slot or id that is free is below each number that is more than how many are taken.
use Rattle.std.proofs.Common.{◌≡◌, ◌⊎◌, ℕ, zero, suc, ◌+◌, ◌<◌, ◌≤◌, Bool, true, false, cond, List, length, refl, sym, ap, ◌∙◌, inl, inr, arith}
use Rattle.std.specs.Prelude.{nat_eq}
use Rattle.std.specs.List.{Contains, list_any}
use Rattle.std.proofs.lemmas.Bool.{false≢true, eq-eqb, cases_eq}
use Rattle.blk_graph.specs.Ids.{lowest_from, lowest_free}
use Rattle.blk_graph.proofs.IdLemmas.{length-taken}
use Rattle.blk_graph.proofs.Members.{list_any-there}
use Rattle.flat_machine.proofs.Fresh.{any-Contains}

pub record IsFreeNumber (taken : List ℕ) (from to : ℕ) : Type 0 where
  pub number : ℕ
  pub least : from ≤ number
  pub most : number < to
  pub free : list_any (nat_eq number) taken ≡ false

free_within : (more id : ℕ) (taken : List ℕ) → IsFreeNumber taken id (id + more) ⊎ ((k : ℕ) → id ≤ k → k < id + more → list_any (nat_eq k) taken ≡ true)
free_within zero id taken = inr (λ k low high. absurd (omega arith))
free_within (suc more) id taken = by_test (list_any (nat_eq id) taken) refl (free_within more (id + 1) taken)
  where
    Both : ℕ → ℕ → Type 0
    Both from count = IsFreeNumber taken from (from + count) ⊎ ((k : ℕ) → from ≤ k → k < from + count → list_any (nat_eq k) taken ≡ true)

    by_test : (b : Bool) → list_any (nat_eq id) taken ≡ b → Both (id + 1) more → Both id (suc more)
    by_test false e rest = inl (record { number = id; least = omega arith; most = omega arith; free = e })
    by_test true e (inl f) = inl (record { number = f.number; least = less f.number f.least; most = later f.number f.most; free = f.free })
      where
        less : (k : ℕ) → id + 1 ≤ k → id ≤ k
        less k h = omega arith

        later : (k : ℕ) → k < (id + 1) + more → k < id + suc more
        later k h = omega arith
    by_test true e (inr all) = inr (λ k low high. at_least k (cases_eq k id) low high)
      where
        at_least : (k : ℕ) → ((k ≡ id) ⊎ (k ≡ id → ⊥)) → id ≤ k → k < id + suc more → list_any (nat_eq k) taken ≡ true
        at_least k (inl same) low high = rw same e
        at_least k (inr differ) low high = all k (omega arith) (omega arith)

lowest_least : (more id : ℕ) (taken : List ℕ) (k : ℕ) → id ≤ k → list_any (nat_eq k) taken ≡ false → lowest_from more id taken ≤ k
lowest_least zero id taken k low free = low
lowest_least (suc more) id taken k low free = by_test (list_any (nat_eq id) taken) refl (lowest_least more (id + 1) taken k)
  where
    by_test : (b : Bool) → list_any (nat_eq id) taken ≡ b → (id + 1 ≤ k → list_any (nat_eq k) taken ≡ false → lowest_from more (id + 1) taken ≤ k)
        → cond b (lowest_from more (id + 1) taken) id ≤ k
    by_test false e rest = low
    by_test true e rest = rest (by_case (cases_eq k id)) free
      where
        by_case : ((k ≡ id) ⊎ (k ≡ id → ⊥)) → id + 1 ≤ k
        by_case (inl same) = absurd (false≢true (sym free ∙ ap (λ n. list_any (nat_eq n) taken) same ∙ e))
        by_case (inr differ) = omega arith

at_most_less : (a b c : ℕ) → a ≤ b → b < c → a < c
at_most_less a b c h k = omega arith

pub lowest_below : (bound : ℕ) (taken : List ℕ) → length taken < bound → lowest_free taken < bound
unfolding lowest_free
lowest_below bound taken few = elim (free_within bound 0 taken) [
  | inl f ↦ at_most_less (lowest_from 64 0 taken) f.number bound (lowest_least 64 0 taken f.number f.least f.free) (within f.number f.most)
  | inr all ↦
      let many : bound ≤ length taken = length-taken bound taken (λ k below. any-Contains k taken (all k (omega arith) (omega arith))) in
      absurd (omega arith)
]
  where
    within : (k : ℕ) → k < 0 + bound → k < bound
    within k h = omega arith

-- a number that is free is none of those
pub free_apart : (taken : List ℕ) (number other : ℕ) → list_any (nat_eq number) taken ≡ false → Contains taken other → other ≡ number → ⊥
free_apart taken number other free there same =
    false≢true (sym free ∙ list_any-there (nat_eq number) taken other there (eq-eqb number other (sym same)))
