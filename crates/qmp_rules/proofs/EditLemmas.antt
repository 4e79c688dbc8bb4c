-- What edits look for.
use Rattle.std.proofs.Common.{◌≡◌, ℕ, zero, suc, ◌+◌, ◌-◌, ◌<◌, ◌≤◌, List, Bool, true, false, refl, sym, ap, ◌∙◌, arith, if◌then◌else◌}
use Rattle.std.specs.Prelude.{◌==◌}
use Rattle.std.specs.List.{list_any}
use Rattle.blk_graph.specs.Ids.{IsLowestFree, lowest_free}
use Rattle.blk_graph.proofs.IdLemmas.{lowest_free-is}
use Rattle.qmp_rules.specs.declared.rows.DeviceRow.{DeviceRow}
use Rattle.qmp_rules.specs.Edits.{unused_from}

pub lowest_free_is : (taken : List ℕ) (id : ℕ) → id < 64 → IsLowestFree taken id → lowest_free taken ≡ id
lowest_free_is taken id small lowest = lowest_free-is taken id small lowest

-- ---- numbers that no device has

abbrev IsTaken : ℕ → List DeviceRow → Bool
IsTaken k devices = list_any (λ device. device.number == k) devices

free_at : (n k : ℕ) (devices : List DeviceRow) → IsTaken k devices ≡ false → unused_from n k devices ≡ k
free_at zero k devices h = refl
free_at (suc n) k devices h = ap (λ b. if b then unused_from n (k + 1) devices else k) h

taken_at : (n k : ℕ) (devices : List DeviceRow) → IsTaken k devices ≡ true
    → unused_from (suc n) k devices ≡ unused_from n (k + 1) devices
taken_at n k devices h = ap (λ b. if b then unused_from n (k + 1) devices else k) h

pub number_free : (k first number : ℕ) (devices : List DeviceRow) → number ≡ first + k
    → list_any (λ device. device.number == number) devices ≡ false
    → unused_from (64 - k) (first + k) devices ≡ number
number_free k first number devices is free =
    ap (λ n. unused_from (64 - k) n devices) (sym is) ∙ free_at (64 - k) number devices free

pub number_taken : (k first number : ℕ) (devices : List DeviceRow) → k < 64 → number ≡ first + k
    → list_any (λ device. device.number == number) devices ≡ true
    → unused_from (64 - k) (first + k) devices ≡ unused_from (64 - (k + 1)) (first + (k + 1)) devices
number_taken k first number devices less is taken =
    let one : 64 - k ≡ suc (64 - (k + 1)) = omega arith in
    let next : number + 1 ≡ first + (k + 1) = omega (arith, is) in
    ap (λ n. unused_from (64 - k) n devices) (sym is)
    ∙ ap (λ n. unused_from n number devices) one
    ∙ taken_at (64 - (k + 1)) number devices taken
    ∙ ap (λ n. unused_from (64 - (k + 1)) n devices) next

pub number_end : (k first : ℕ) (devices : List DeviceRow) → 64 ≤ k → unused_from (64 - k) (first + k) devices ≡ first + k
number_end k first devices past =
    let none : 64 - k ≡ 0 = omega arith in ap (λ n. unused_from n (first + k) devices) none
