-- A backup or a mirror begins behind the reply to its command: what it leaves of bitmaps, works and history is what its row says.
use Rattle.std.proofs.Common.{◌≡◌, ℕ, ◌+◌, List, [], ◌∷◌, ◌++◌, map, Option, Some, None, refl, sym, ◌∙◌, ap}
use Rattle.blk_bitmaps.specs.Calls.{Freeze, NoteAll, rows_after_call}
use Rattle.blk_bitmaps.specs.declared.row.Bitmap.{Bitmap}
use Rattle.block_jobs.specs.Work.{JobWork}
use Rattle.flat_machine.specs.Bitmaps.{dirty_in}
use Rattle.flat_machine.specs.Comes.{job_line_of}
use Rattle.flat_machine.specs.Jobs.{granules_of, target_written}
use Rattle.flat_machine.specs.State.{Dirty, State}
use Rattle.job_progress.specs.Beginning.{begun_by, work_begun}
use Rattle.qmp_rules.specs.Queries.{bytes_of_node}
use Rattle.qmp_rules.specs.Table.{job_at}
use Rattle.qmp_rules.specs.declared.rows.JobRecord.{JobRecord}
use Rattle.qmp_rules.specs.declared.rows.UsedBitmap.{UsedBitmap}
use Rattle.world_jobs.specs.Beginning.{AsideSeen, BegunJob, IsAsideOf, IsNewJob, bitmaps_after, frozen_by}
use Rattle.world_parts.specs.Face.{WorldSeen, seen_state}
use Rattle.world_parts.specs.Jobs.{BeginsJob, bitmaps_begun, filled_for, frozen_for}
use Rattle.world_parts.specs.Progress.{Progress, with_start}

-- its work is its own
begun_number : (row : JobRecord) (size : ℕ) (found : Option Dirty) → (begun_by row size found).job ≡ row.number
begun_number row size None = refl
begun_number row size (Some d) = refl

module _ (x : WorldSeen) (row : JobRecord) (new : BegunJob) (is : IsNewJob x.table x.bitmaps row new) where
  work_is : new.work ≡ work_begun (seen_state x) row
  work_is = is.work (seen_state x) refl refl

  number_is : new.work.job ≡ row.number
  number_is =
      ap (λ (work : JobWork). work.job) work_is
      ∙ begun_number row (bytes_of_node x.table row.source) (granules_of (seen_state x) row row.bitmap)

  frozen_is : (by : Option UsedBitmap) (aside : Option AsideSeen) → IsAsideOf by aside → frozen_by new.source new.work.job aside x.bitmaps ≡ frozen_for row by x.bitmaps
  frozen_is None None same = refl
  frozen_is (Some used) (Some aside) same =
      ap (λ (source : ℕ). rows_after_call x.bitmaps (Freeze source aside.name new.work.job)) is.source
      ∙ ap (λ (name : List ℕ). rows_after_call x.bitmaps (Freeze row.source name new.work.job)) same
      ∙ ap (λ (job : ℕ). rows_after_call x.bitmaps (Freeze row.source used.name job)) number_is
  frozen_is None (Some aside) same = absurd same
  frozen_is (Some used) None same = absurd same

  bitmaps_are : bitmaps_after new x.bitmaps ≡ bitmaps_begun row x.bitmaps
  bitmaps_are =
      ap (λ (rows : List Bitmap). rows_after_call rows (NoteAll new.target)) (frozen_is row.bitmap new.aside is.aside)
      ∙ sym (ap (λ (target : Option ℕ). filled_for target (frozen_for row row.bitmap x.bitmaps)) is.target)

  progress_is : with_start new.work.job new.line x.progress ≡ with_start row.number (job_line_of (seen_state x) (Some row)) x.progress
  progress_is =
      ap (λ (job : ℕ). with_start job new.line x.progress) number_is
      ∙ ap (λ line. with_start row.number line x.progress) (is.line (seen_state x) refl)

  pub begins_so : (bitmaps : List Bitmap) (works : List JobWork) (progress : Progress) → job_at x.table row.number ≡ Some row → bitmaps ≡ bitmaps_after new x.bitmaps
      → works ≡ x.works ++ new.work ∷ [] → progress ≡ with_start new.work.job new.line x.progress
      → BeginsJob x (record x { bitmaps = bitmaps; works = works; progress = progress }) row
  begins_so bitmaps works progress there noted put started = record {
    there = there;
    kept =
        ap (λ (rows : List Bitmap). record x { bitmaps = rows; works = works; progress = progress }) (noted ∙ bitmaps_are)
        ∙ ap (λ (ws : List JobWork). record x { bitmaps = bitmaps_begun row x.bitmaps; works = ws; progress = progress })
        (put ∙ ap (λ (work : JobWork). x.works ++ work ∷ []) work_is)
        ∙ ap (λ (p : Progress). record x { bitmaps = bitmaps_begun row x.bitmaps; works = x.works ++ work_begun (seen_state x) row ∷ []; progress = p })
        (started ∙ progress_is);
  }
