-- A device that comes back, by the place of its opening.
use Rattle.std.proofs.Common.{◌≡◌, ℕ, zero, suc, ◌<◌, ◌≤◌, nat_lt, Bool, true, false, cond, List, [], ◌∷◌, length, get_or, set, refl, sym, ◌∙◌, ap, arith, Option, Some, None}
use Rattle.std.specs.List.{position, position_or_len}
use Rattle.std.proofs.lemmas.List.Quantifiers.{position-Some}
use Rattle.std.proofs.lemmas.List.Sums.{fails_before_first}
use Rattle.std.proofs.lemmas.Bool.Decides.{nat_tests}
use Rattle.blk_base.specs.Files.{is_out_as, closed_with, given_back}
use Rattle.blk_base.specs.declared.device.DeviceCall.{DeviceCall}
use Rattle.blk_base.specs.declared.file.Opened.{Opened}

-- that is the first place at which the test passes
record IsFirst {A : Type 0} (test : A → Bool) (xs : List A) (at : ℕ) (x : A) : Type 0 where
  pub within : at < length xs
  pub passes : test (get_or xs at x) ≡ true
  pub before : (k : ℕ) → k < at → test (get_or xs k x) ≡ false

first : {A : Type 0} (test : A → Bool) (xs : List A) (at : ℕ) (x : A) → position test xs ≡ Some at → IsFirst test xs at x
first test xs at x is = let p = position-Some test xs at x is in record { within = p.0; passes = p.1; before = p.2 }

later : {A : Type 0} (test : A → Bool) (y : A) (xs : List A) (at : ℕ) (x : A) → IsFirst test (y ∷ xs) (suc at) x → IsFirst test xs at x
later test y xs at x is = record { within = omega (arith, is.within); passes = is.passes; before = λ k below. is.before (suc k) (omega arith) }

-- no place where there is none
past : (n at : ℕ) → cond (nat_lt at n) (Some at) None ≡ None → n ≤ at
past n at is = grind (arith, nat_tests)

nowhere : {A : Type 0} (test : A → Bool) (xs : List A) (x : A) → position test xs ≡ None → (k : ℕ) → k < length xs → test (get_or xs k x) ≡ false
nowhere test xs x is k below = fails_before_first test xs k x (omega (arith, past (length xs) (position_or_len test xs) is))

back_found : (name : List ℕ) (count : ℕ) (call : Option DeviceCall) (opened : List Opened) (at : ℕ) (d : Opened) → IsFirst (is_out_as name) opened at d
    → given_back name count call opened ≡ set opened at (closed_with count call (get_or opened at d))
back_found name count call [] at d is = absurd (omega (arith, is.within))
back_found name count call (o ∷ opened) zero d is = rw is.passes refl
back_found name count call (o ∷ opened) (suc at) d is = rw (is.before 0 (omega arith)) (ap (λ (os : List Opened). o ∷ os) (back_found name count call opened at d (later _ o opened at d is)))

-- the opening at the first place that is out under that name is given back
pub back_read : (name : List ℕ) (count : ℕ) (call : Option DeviceCall) (opened : List Opened) (at : ℕ) (r n : Opened) → position (is_out_as name) opened ≡ Some at → r ≡ get_or opened at r → n ≡ closed_with count call r
    → set opened at n ≡ given_back name count call opened
back_read name count call opened at r n place read is =
    let back = back_found name count call opened at r (first (is_out_as name) opened at r place) in
    let same : n ≡ closed_with count call (get_or opened at r) = is ∙ ap (closed_with count call) read in
    rw same (sym back)

back_none : (name : List ℕ) (count : ℕ) (call : Option DeviceCall) (opened : List Opened) → ((k : ℕ) (d : Opened) → k < length opened → is_out_as name (get_or opened k d) ≡ false) → given_back name count call opened ≡ opened
back_none name count call [] none = refl
back_none name count call (o ∷ opened) none = rw (none 0 o (omega arith)) (ap (λ (os : List Opened). o ∷ os) (back_none name count call opened (λ k d below. none (suc k) d (omega arith))))

-- where none is out, nothing changes
pub back_missing : (name : List ℕ) (count : ℕ) (call : Option DeviceCall) (opened : List Opened) → position (is_out_as name) opened ≡ None → given_back name count call opened ≡ opened
back_missing name count call opened is = back_none name count call opened (λ k d below. nowhere (is_out_as name) opened d is k below)
