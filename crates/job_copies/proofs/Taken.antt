-- A block that is read for a mirror is owed from then on.
use Rattle.std.proofs.Common.{◌≡◌, ℕ, ◌==◌, Bool, true, false, List, refl, sym, ◌∙◌, subst}
use Rattle.std.specs.Prelude.{◌||◌, slice_index}
use Rattle.blk_copy.specs.declared.transfers.Transfer.{Transfer}
use Rattle.block_jobs.specs.Ahead.{IsAhead, IsPlaceAhead, is_owed}
use Rattle.block_jobs.specs.Work.{IsJobWork, JobWork, after_take, block_at}
use Rattle.block_jobs.proofs.Steps.{taken_is_owed}
use Rattle.qmp_codec.specs.declared.event.JobKind.{JobKind}
use Rattle.qmp_codec.specs.declared.event.JobKind.TheVariants.{Backup, Commit, Mirror, Stream}
use Rattle.job_copies.specs.Taking.{IsGoalOf}

module _ (work : JobWork) (is : IsJobWork work) (t : Transfer) (own : t.job ≡ work.job) (due : ℕ → Bool) (disk goal made : List ℕ) where
  mirror_ahead : disk ≡ goal → IsAhead due (is_owed Mirror work) disk goal made → IsAhead due (is_owed Mirror (after_take Mirror t work)) disk goal made
  mirror_ahead same ahead = record {
    source_whole = ahead.source_whole;
    made_whole = ahead.made_whole;
    at = λ place must. by place (is_owed Mirror work place) refl (is_owed Mirror (after_take Mirror t work) place) refl (ahead.at place must);
  }
    where
      by : (place : ℕ) → (was : Bool) → is_owed Mirror work place ≡ was → (now : Bool) → is_owed Mirror (after_take Mirror t work) place ≡ now
          → IsPlaceAhead was (slice_index disk place) (slice_index goal place) (slice_index made place)
          → IsPlaceAhead now (slice_index disk place) (slice_index goal place) (slice_index made place)
      by place was before true owed so = subst (λ (d : List ℕ). slice_index disk place ≡ slice_index d place) same refl
      by place false free false gone so = so
      by place true owed false gone so =
          let now : (is_owed Mirror work place || (block_at place == t.cluster)) ≡ false = sym (taken_is_owed work t place is own) ∙ gone in
          let bad : true ≡ false = rw owed at now in
          absurd (cc bad)

  pub take_ahead : (kind : JobKind) → IsGoalOf kind disk goal → IsAhead due (is_owed kind work) disk goal made → IsAhead due (is_owed kind (after_take kind t work)) disk goal made
  take_ahead Mirror same ahead = mirror_ahead same ahead
  take_ahead Backup same ahead = record { source_whole = ahead.source_whole; made_whole = ahead.made_whole; at = ahead.at }
  take_ahead Stream same ahead = record { source_whole = ahead.source_whole; made_whole = ahead.made_whole; at = ahead.at }
  take_ahead Commit same ahead = record { source_whole = ahead.source_whole; made_whole = ahead.made_whole; at = ahead.at }
