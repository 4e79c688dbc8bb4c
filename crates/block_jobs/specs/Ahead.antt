-- What a job has made of its result, and what it still owes.
use Rattle.std.specs.Prelude.{◌≡◌, ℕ, ◌+◌, ◌<◌, ◌≤◌, Bool, true, false, ◌||◌, List, length, slice_index}
use Rattle.block_jobs.specs.Work.{JobWork, is_left, has_open, block_at}
use Rattle.qmp_codec.specs.declared.event.JobKind.{JobKind}
use Rattle.qmp_codec.specs.declared.event.JobKind.TheVariants.{Mirror}

-- while a place is owed the source has what the result is to have; where it isn't, the result has it
abbrev pub IsPlaceAhead : Bool → ℕ → ℕ → ℕ → Type 0
IsPlaceAhead true source goal made = source ≡ goal
IsPlaceAhead false source goal made = made ≡ goal

-- so it is with each place that is due
pub record IsAhead (due owed : ℕ → Bool) (source goal made : List ℕ) : Type 0 where
  pub source_whole : length source ≡ length goal
  pub made_whole : length made ≡ length goal
  pub at : (i : ℕ) → due i ≡ true
      → IsPlaceAhead (owed i) (slice_index source i) (slice_index goal i) (slice_index made i)

-- a place is owed while its part is left; of a mirror all of a block is while a copy of it is in flight
abbrev pub is_owed : JobKind → JobWork → ℕ → Bool
is_owed Mirror work place = is_left work place || has_open work (block_at place)
is_owed kind work place = is_left work place

-- each place of a stretch passes a test, or none does
abbrev pub AreAll : Bool → (ℕ → Bool) → ℕ → ℕ → Type 0
AreAll value test from n = (i : ℕ) → from ≤ i → i < from + n → test i ≡ value

-- no place is owed that wasn't
abbrev pub OwesNoMore : (ℕ → Bool) → (ℕ → Bool) → Type 0
OwesNoMore now owed = (i : ℕ) → now i ≡ true → owed i ≡ true

-- What isn't owed any more is as the source, and what wasn't owed is as before. A place that is still owed may have been written.
pub record CopiesOwed (due owed now_owed : ℕ → Bool) (source made now : List ℕ) : Type 0 where
  pub whole : length now ≡ length made
  pub less : OwesNoMore now_owed owed
  pub copied : (i : ℕ) → due i ≡ true → owed i ≡ true → now_owed i ≡ false
      → slice_index now i ≡ slice_index source i
  pub kept : (i : ℕ) → due i ≡ true → owed i ≡ false → slice_index now i ≡ slice_index made i
