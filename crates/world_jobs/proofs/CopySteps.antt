-- What the turn of a backup or a mirror is to do: no block is copied in it, for where none is to be read and none is in flight nothing is left.
use Rattle.std.proofs.Common.{◌≡◌, ℕ, ◌/◌, Bool, true, false, cond, not, List, [], ◌∷◌, length, refl, sym, ◌∙◌, ap, arith, Option, Some, None}
use Rattle.std.specs.Prelude.{◌==◌, ◌||◌, find, is_some}
use Rattle.std.specs.List.{list_any, range_with_len}
use Rattle.std.proofs.lemmas.Bool.{false≢true, ne_eqb}
use Rattle.blk_bits.specs.Granules.{contains}
use Rattle.blk_copy.specs.declared.transfers.Transfer.{Transfer}
use Rattle.blk_history.specs.declared.entry.Cause.TheVariants.{RunEnd}
use Rattle.blk_history.specs.declared.entry.JobEnd.{JobEnd}
use Rattle.blk_history.specs.declared.entry.JobEnd.TheVariants.{Cancelled, Completed}
use Rattle.block_jobs.specs.Work.{IsJobWork, JobWork, block_count, has_open, is_next, next_block, parts_a_block}
use Rattle.block_jobs.proofs.PartLemmas.{any_at, block_within, has_no, left_in, member_below}
use Rattle.flat_machine.specs.Jobs.{can_be_ready}
use Rattle.job_progress.specs.Going.{copies_blocks}
use Rattle.job_turns.specs.Turns.{copied_step, going_step, has_rows, ready_end, step_before, step_of, stop_of}
use Rattle.job_turns.specs.declared.step.Step.TheVariants as step
use Rattle.qmp_rules.specs.declared.rows.AskedEnd.{AskedEnd}
use Rattle.qmp_rules.specs.declared.rows.AskedEnd.TheVariants as asked
use Rattle.qmp_rules.specs.declared.rows.JobRecord.{JobRecord}
use Rattle.world_jobs.specs.Turning.{IsCopyStep}

none_any : (p : ℕ → Bool) (xs : List ℕ) → find p xs ≡ None → list_any p xs ≡ false
none_any p [] is = refl
none_any p (x ∷ xs) is = by_test (p x) (none_any p xs) is
  where
    by_test : (b : Bool) → (find p xs ≡ None → list_any p xs ≡ false) → cond b (Some x) (find p xs) ≡ None → (b || list_any p xs) ≡ false
    by_test true rest is = absurd (let bad : ⊥ = cc is in bad)
    by_test false rest is = rest is

pub none_open : (rows : List Transfer) → not (length rows == 0) ≡ false → rows ≡ []
none_open [] is = refl
none_open (row ∷ rows) is =
    let some : (length (row ∷ rows) == 0) ≡ false = ne_eqb (length (row ∷ rows)) 0 (λ same. omega (arith, same)) in
    absurd (false≢true (sym is ∙ ap not some))

-- ---- nothing is left

module _ (work : JobWork) (sound : IsJobWork work) where
  is_next_at : (k : ℕ) → work.rows ≡ [] → contains work.left k ≡ true → is_next work (k / parts_a_block work) ≡ true
  is_next_at k rows is_in =
      let left = left_in work sound k is_in in
      let open_ : has_open work (k / parts_a_block work) ≡ false = ap (λ (rs : List Transfer). has_open (record work { rows = rs }) (k / parts_a_block work)) rows in
      rw (left, open_) refl

  pub none_left : next_block work ≡ None → work.rows ≡ [] → list_any (λ part. part) work.left ≡ false
  none_left none rows = has_no work.left (λ k from. by_test k (contains work.left k) refl)
    where
      by_test : (k : ℕ) (b : Bool) → contains work.left k ≡ b → b ≡ false
      by_test k false is = refl
      by_test k true is =
          let within = block_within work sound k (member_below work.left k is) in
          let at = any_at (is_next work) 0 (block_count work.size) (k / parts_a_block work) (omega arith) (omega (arith, within)) (is_next_at k rows is) in
          absurd (false≢true (sym (none_any (is_next work) (range_with_len 0 (block_count work.size)) none) ∙ at))

-- ---- the step

module _ (all_done : Bool) (row : JobRecord) (work : JobWork) (copies : copies_blocks row.kind ≡ true) (sound : IsJobWork work) where
  by_asked : (asked : AskedEnd) → IsCopyStep (ready_end all_done asked)
  by_asked asked.Complete = tt
  by_asked asked.Leave = tt
  by_asked asked.Stop = tt
  by_asked asked.Nothing = by_done all_done
    where
      by_done : (b : Bool) → IsCopyStep (cond b (step.End (Cancelled RunEnd)) step.Wait)
      by_done true = tt
      by_done false = tt

  finishes : IsCopyStep (copied_step all_done row)
  finishes = by_can (can_be_ready row row.kind) row.is_ready
    where
      by_can : (can ready : Bool) → IsCopyStep (cond (not can) (step.Finish Completed) (cond ready (ready_end all_done row.asked) step.GetReady))
      by_can false ready = tt
      by_can true true = by_asked row.asked
      by_can true false = tt

  goes : next_block work ≡ None → IsCopyStep (going_step all_done row work)
  goes none = by_open (has_rows work) refl
    where
      by_left : (b : Bool) → list_any (λ part. part) work.left ≡ b → b ≡ false → IsCopyStep (cond b step.Go (copied_step all_done row))
      by_left false is none = finishes
      by_left true is none = absurd (false≢true (sym none))

      by_open : (b : Bool) → has_rows work ≡ b → IsCopyStep (cond b step.Wait (cond (list_any (λ part. part) work.left) step.Go (copied_step all_done row)))
      by_open true is = tt
      by_open false is = by_left (list_any (λ part. part) work.left) refl (none_left work sound none (none_open work.rows is))

  before : (stop : Option JobEnd) → IsCopyStep (step_before all_done row work stop)
  before (Some why) = tt
  before None = rw copies (by_next (next_block work) refl)
    where
      by_next : (found : Option ℕ) → next_block work ≡ found → IsCopyStep (cond (is_some found) step.Copy (going_step all_done row work))
      by_next (Some block) is = tt
      by_next None is = goes is

  pub copy_step : IsCopyStep (step_of all_done row work)
  unfolding step_of
  copy_step = before (stop_of row work)
