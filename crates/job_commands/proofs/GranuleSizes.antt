-- A size of granules is a power of two from 512 to 2 MiB: blocks are made of whole ones, or they of whole blocks.
use Rattle.std.proofs.Common.{◌≡◌, ◌⊎◌, ℕ, ◌*◌, ◌%◌, ◌/◌, ◌+◌, ◌-◌, ◌^◌, ◌<◌, ◌≤◌, zero, suc, Bool, true, false, refl, sym, ap, ◌∙◌, subst, inl, inr, arith, le_refl}
use Rattle.std.specs.Prelude.{◌&&◌, nat_le, count_ones}
use Rattle.std.specs.Int.{is_power_of_two}
use Rattle.std.proofs.lemmas.Bool.{false≢true, eqb-true, cases_lt}
use Rattle.std.proofs.lemmas.Bool.Decides.{nat_tests}
use Rattle.std.proofs.lemmas.Nat.{ones_le_self, zero_from_ones, pow-add, pow_below}
use Rattle.std.proofs.Math.Nat.{mul-mod_right, pow-succ'}
use lib.Count.{ones_step}
use Rattle.blk_bitmaps.specs.Rows.{is_granule_size}

record IsPower (n : ℕ) : Type 0 where
  exponent : ℕ
  is : n ≡ 2 ^ exponent

one_bit : (d n : ℕ) → n ≤ d → count_ones n ≡ 1 → IsPower n
one_bit zero n small one = absurd (let s = ones_le_self n in omega (arith, small, one, s))
one_bit (suc d) n small one = by_parity (cases_lt (n % 2) 1) (one_bit d (n / 2))
  where
    by_parity : ((n % 2 < 1) ⊎ (1 ≤ n % 2)) → (n / 2 ≤ d → count_ones (n / 2) ≡ 1 → IsPower (n / 2)) → IsPower n
    by_parity (inl even) more =
        let s = ones_step n in
        let some = ones_le_self n in
        let half : IsPower (n / 2) = more (omega (arith, small, one, some)) (omega (arith, even, one, s)) in
        let twice : n ≡ 2 * (n / 2) = omega (arith, even) in
        record { exponent = suc half.exponent; is = twice ∙ ap (λ m. 2 * m) half.is ∙ sym (pow-succ' 2 half.exponent) }
    by_parity (inr odd) more =
        let s = ones_step n in
        let none = zero_from_ones (n / 2) (omega (arith, odd, one, s)) in
        record { exponent = 0; is = omega (arith, none, odd) }

-- one power of two is made of a lower one
made_of_power : (low high : ℕ) → low ≤ high → 2 ^ high % 2 ^ low ≡ 0
made_of_power low high below =
    let whole : low + (high - low) ≡ high = omega (arith, below) in
    subst (λ n. 2 ^ n % 2 ^ low ≡ 0) whole (ap (λ n. n % 2 ^ low) (pow-add 2 low (high - low)) ∙ mul-mod_right (2 ^ low) (2 ^ (high - low)))

both_true : (a b : Bool) → (a && b) ≡ true → (a ≡ true) × (b ≡ true)
both_true true b is = (refl, is)
both_true false b is = absurd (false≢true is)

pub record IsGranule (g : ℕ) : Type 0 where
  pub some : 0 < g
  pub fit : ((g % 512 ≡ 0) × (65536 % g ≡ 0)) ⊎ (g % 65536 ≡ 0)

pub granule_fits : (g : ℕ) → is_granule_size g ≡ true → IsGranule g
granule_fits g is =
    let outer = both_true (nat_le 512 g) (nat_le g 2097152 && is_power_of_two g) is in
    let inner = both_true (nat_le g 2097152) (is_power_of_two g) outer.1 in
    let low : 512 ≤ g = least outer.0 in
    let power : IsPower g = one_bit g g (le_refl g) (eqb-true (count_ones g) 1 inner.1) in
    let nine : 9 ≤ power.exponent = by_size power.exponent power.is low in
    record { some = omega (arith, low); fit = by_exponent power.exponent power.is nine (cases_lt 16 power.exponent) }
  where
    least : nat_le 512 g ≡ true → 512 ≤ g
    least e = grind (arith, nat_tests)

    by_size : (k : ℕ) → g ≡ 2 ^ k → 512 ≤ g → 9 ≤ k
    by_size k is low = elim (cases_lt k 9) [
      | inl less ↦ absurd (let below : 2 ^ k < 512 = pow_below k 9 less in omega (arith, below, is, low))
      | inr more ↦ more
    ]

    by_exponent : (k : ℕ) → g ≡ 2 ^ k → 9 ≤ k → ((16 < k) ⊎ (k ≤ 16)) → ((g % 512 ≡ 0) × (65536 % g ≡ 0)) ⊎ (g % 65536 ≡ 0)
    by_exponent k is nine (inl large) = inr (ap (λ n. n % 65536) is ∙ made_of_power 16 k (omega (arith, large)))
    by_exponent k is nine (inr small) = inl (ap (λ n. n % 512) is ∙ made_of_power 9 k nine, ap (λ n. 65536 % n) is ∙ made_of_power k 16 small)
