-- Counts of faults, and what a failed call leaves.
use Rattle.std.specs.Prelude.{◌≡◌, ◌⊎◌, ℕ, ◌+◌, ◌%◌, ◌<◌, ◌≤◌, min, List, take, Result, Ok, Err}
use Rattle.blk_base.specs.declared.device.WriteStop.{WriteStop}

-- one call has failed; at its last value, 2^64 - 1, a count stands
abbrev pub Rose : ℕ → ℕ → Type 0
Rose before now = now ≡ min (before + 1) 18446744073709551615

-- one call has failed or several; at its last value a count counts as risen
abbrev pub HasFailedSince : ℕ → ℕ → Type 0
HasFailedSince before now = min (before + 1) 18446744073709551615 ≤ now

-- what a write that answered so has written of these bytes
abbrev pub taken : {A : Type 0} → Result A WriteStop → List ℕ → List ℕ
taken (Ok done) bytes = bytes
taken (Err stop) bytes = take stop.done bytes

-- a failed write ended within a sector of 512 bytes at no other place than its start
pub record IsFailedWrite (offset done length before now : ℕ) : Type 0 where
  pub part : done < length
  pub sector : (done ≡ 0) ⊎ ((offset + done) % 512 ≡ 0)
  pub rose : Rose before now
