-- The first actor that is not done.
use Rattle.std.proofs.Common.{◌≡◌, ◌≢◌, ◌⊎◌, ℕ, ◌+◌, ◌<◌, true, List, sym, ◌∙◌, arith, Option, Some, None, inl, inr}
use Rattle.std.specs.Prelude.{slice_get, MatchOption}
use Rattle.blk_base.specs.Written.{Written}
use Rattle.trace_codec.specs.declared.waits.Waits.{Waits}
use Rattle.world_parts.specs.Face.{WorldSeen}
use Rattle.qblk_run.specs.Run.{seen_waits}
use Rattle.qblk_run.specs.Rounds.{AllAreDone, AreDone, IsFirstUndone, IsFirstGuest}
use Rattle.qblk_run.specs.Tasks.{Task, Tasks}
use Rattle.qblk_run.proofs.Lists.{same_or_not}

-- one more of them is done
pub next-done : (tasks : List Task) (n : ℕ) (item : Task) → slice_get tasks n ≡ Some item → item.is_done ≡ true
    → ((other : ℕ) (task : Task) → other < n → slice_get tasks other ≡ Some task → task.is_done ≡ true)
    → (other : ℕ) (task : Task) → other < n + 1 → slice_get tasks other ≡ Some task → task.is_done ≡ true
next-done tasks n item there done before other task less is = by_place (same_or_not other n)
  where
    by_place : (other ≡ n) ⊎ (other ≢ n) → task.is_done ≡ true
    by_place (inl same) = let found : item ≡ task = some-same (sym there ∙ rw same at is) in rw (← found) done
      where
        some-same : {a b : Task} → Some a ≡ Some b → a ≡ b
        some-same e = cc
    by_place (inr apart) = before other task (omega arith) is

-- behind the script, which is done
pub first-behind : (w : WorldSeen) (a : Tasks) (r : Option (ℕ × Waits Written)) → a.script.is_done ≡ true
    → MatchOption r (AllAreDone a.guests) (λ x. (g : ℕ) × (x.0 ≡ g + 1) × IsFirstGuest w a.guests g (seen_waits x.1))
    → MatchOption r (AreDone a) (λ x. IsFirstUndone w a x.0 (seen_waits x.1))
first-behind w a None done all = record { script = done; guests = all }
first-behind w a (Some x) done first = inr (done, first)
