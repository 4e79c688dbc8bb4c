-- The bytes of a new refcount block.
use Rattle.std.proofs.Common.{◌≡◌, ◌⊎◌, inl, inr, ℕ, ◌-◌, ◌*◌, ◌<◌, ◌≤◌, List, ◌++◌, get_or, replicate, ◌∙◌, arith}
use Rattle.std.proofs.lemmas.Bool.{cases_lt}
use Rattle.std.proofs.lemmas.List.{get_or-append_right, get_or-replicate, get_or_past, length-replicate}
use Rattle.byteorder.specs.Endian.{big_bytes}
use Rattle.byteorder.specs.Numbers.{big_number-reads_back, length-bytes_high_first}
use Rattle.q2_format.specs.Bytes.{number_at}
use Rattle.q2_format.proofs.ByPlace.{number_at-zeros}

-- zeros are zero, and so is what is behind them
zero_at : (n i : ℕ) → (i < n) ⊎ (n ≤ i) → ◌≡◌ {A = ℕ} (get_or (replicate n 0) i 0) 0
zero_at n i (inl below) = get_or-replicate n i 0 0 below
zero_at n i (inr past) = get_or_past (replicate n 0) i 0 (omega (arith, length-replicate {A = ℕ} n 0))

pub counts_itself : (rest : List ℕ) → number_at (big_bytes 2 1 ++ rest) 0 2 ≡ 1
unfolding number_at
counts_itself rest = big_number-reads_back 2 1 rest (omega arith)

pub counts_no_other : (n j : ℕ) → 0 < j → number_at (big_bytes 2 1 ++ replicate n 0) (j * 2) 2 ≡ 0
counts_no_other n j some =
    number_at-zeros (big_bytes 2 1 ++ replicate n 0) (j * 2) 2
    (λ i low high. get_or-append_right (big_bytes 2 1) (replicate n 0) 2 i 0 (length-bytes_high_first 2 1) (omega arith)
    ∙ zero_at n (i - 2) (cases_lt (i - 2) n))
