-- The entry of the end of a backup or mirror: that it fits the state before it, and what the flat machine comes to by it.
use Rattle.std.proofs.Common.{◌≡◌, ℕ, true, cond, List, [], ◌∷◌, Option, Some, None, refl, sym, ◌∙◌, ap, subst}
use Rattle.std.specs.Prelude.{◌||◌, Contains}
use Rattle.std.proofs.lemmas.Bool.{false≢true}
use Rattle.blk_history.specs.Fold.{With}
use Rattle.blk_history.specs.declared.entry.Cause.TheVariants.{Command, Group, RunEnd}
use Rattle.blk_history.specs.declared.entry.JobEnd.{JobEnd}
use Rattle.blk_history.specs.declared.entry.JobEnd.TheVariants.{Cancelled, Completed, Copied, Failed, Pivoted}
use Rattle.blk_history.specs.declared.event.Event.{Event}
use Rattle.blk_history.specs.declared.event.Event.TheVariants.{End}
use Rattle.block_jobs.specs.Work.{JobWork}
use Rattle.qmp_rules.specs.Ends.{is_done}
use Rattle.qmp_rules.specs.Queries.{bytes_of_node}
use Rattle.qmp_rules.specs.Table.{RunTable, job_at}
use Rattle.qmp_rules.specs.declared.change.Change.{Change}
use Rattle.qmp_rules.specs.declared.change.Change.TheVariants as change
use Rattle.qmp_rules.specs.declared.rows.JobRecord.{JobRecord}
use Rattle.flat_machine.specs.Agreement.{Agrees, Contents}
use Rattle.flat_machine.specs.Changed.{all_stepped, stepped}
use Rattle.flat_machine.specs.EventLicence.{EndsAsMet, Sources}
use Rattle.flat_machine.specs.Imaging.{ShowsImages}
use Rattle.flat_machine.specs.Jobs.{changes_at_end, ended, ending_after, is_success, noted_end, outcome_of}
use Rattle.flat_machine.specs.Legal.{AllStarted, CanEnd, EndsBeside, Fits, IsInGroup, MayEnd, offset_at_end}
use Rattle.flat_machine.specs.Machine.{after}
use Rattle.flat_machine.specs.Marks.{AreCalm, end_marks, marks_of, of_job}
use Rattle.flat_machine.specs.Performing.{AllPerformed}
use Rattle.flat_machine.specs.Standing.{StandsAtRest}
use Rattle.flat_machine.specs.State.{Ending, Guest, State}
use Rattle.flat_machine.proofs.ImagesChanged.{all_images_keep}
use Rattle.flat_machine.proofs.Kept.{changes_keep}
use Rattle.flat_machine.proofs.Resting.{beside_rests}
use Rattle.flat_machine.proofs.Wired.{with_at}
use Rattle.job_ends.specs.Ended.{LosesFilter, MayEndSo}
use Rattle.job_ends.specs.Rows.{AreCopyRows}
use Rattle.job_ends.proofs.Ends.{copy_rests, copy_suits, end_done}
use Rattle.job_ends.proofs.Rows.{AreOfEnd, IsOfEnd, end_head, end_parts, end_tail, tail_of_end}
use Rattle.job_entries.proofs.Ending.{end_can, end_steps}
use Rattle.job_entries.proofs.Inline.{steps_rest}
use Rattle.job_entries.proofs.Steps.{steps_keep}
use Rattle.job_entries.specs.Ends.{RestsToEnd}
use Rattle.job_progress.specs.Going.{IsJobAhead, copies_blocks}
use Rattle.job_tables.specs.Copiers.{CopiesGo}
use Rattle.job_tables.specs.Ends.{EndSuits}
use Rattle.job_tables.specs.Jobs.{EdgesAreDrawn, JobsStand}
use Rattle.job_tables.specs.Running.{JobsRun}
use Rattle.job_tables.specs.TargetFiles.{TargetFilesStand}
use Rattle.job_tables.proofs.EndSuits.{ends_suit}
use Rattle.job_entries.specs.Found.{HasBegun}
use Rattle.job_commands.specs.Whole.{DisksAreWhole}
use Rattle.job_commands.proofs.WholeEnds.{ended_whole}
use Rattle.world_parts.specs.Face.{WorldSeen, seen_state}
use Rattle.world_parts.specs.Jobs.{HasCopiedAll}

-- ---- why it ends

may_end : (s : State) (w : WorldSeen) (row : JobRecord) (why : JobEnd) → s.guests ≡ w.progress.guests → s.ended ≡ (seen_state w).ended → MayEnd (seen_state w) row why → MayEnd s row why
may_end s w row Completed guests ends may = may
may_end s w row Pivoted guests ends may = may
may_end s w row Copied guests ends may = may
may_end s w row (Failed fault) guests ends may = tt
may_end s w row (Cancelled Command) guests ends may = may
may_end s w row (Cancelled Group) guests ends may = may
may_end s w row (Cancelled RunEnd) guests ends may = rw (guests, ends) may

done_is : (why : JobEnd) → is_done (outcome_of why) ≡ true → is_success why ≡ true
done_is Completed done = refl
done_is Pivoted done = refl
done_is Copied done = refl
done_is (Failed fault) done = absurd (false≢true done)
done_is (Cancelled cause) done = absurd (false≢true done)

-- one without error has met none
pub success_met : (sources : Sources) (number : ℕ) (why : JobEnd) → is_done (outcome_of why) ≡ true → EndsAsMet sources number why → sources.met_by number ≡ None
success_met sources number Completed done met = met
success_met sources number Pivoted done met = met
success_met sources number Copied done met = met
success_met sources number (Failed fault) done met = absurd (false≢true done)
success_met sources number (Cancelled cause) done met = absurd (false≢true done)

-- and its copy is made
pub ends_so : (first : State) (h : List Event) (s : State) (reads : ℕ → List ℕ) (row : JobRecord) (work : JobWork) (found : Option JobWork) (why : JobEnd)
    → found ≡ Some work → (is_success why ≡ true → With found HasCopiedAll) → (is_done (outcome_of why) ≡ true → IsJobAhead first h s reads row work)
    → MayEndSo first h s reads row work why
ends_so first h s reads row work found why is made ahead done =
    let all : HasCopiedAll work = subst (λ (x : Option JobWork). With x HasCopiedAll) is (made (done_is why done)) in
    record { ahead = ahead done; none = record { left = all.left; rows = all.rows } }

-- ---- what its changes leave beside the table

pub record StaysBeside (s now : State) : Type 0 where
  pub room : now.room ≡ s.room
  pub guests : now.guests ≡ s.guests
  pub ended : now.ended ≡ s.ended
  pub starts : now.starts ≡ s.starts

of_end_beside : (s : State) (c : Change) → IsOfEnd c → StaysBeside s (stepped s c)
of_end_beside s (change.PullFilter filter) is = record { room = refl; guests = refl; ended = refl; starts = refl }
of_end_beside s (change.Move from to but) is = record { room = refl; guests = refl; ended = refl; starts = refl }
of_end_beside s (change.Rebase node backing) is = record { room = refl; guests = refl; ended = refl; starts = refl }
of_end_beside s (change.Settle node disk) is = record { room = refl; guests = refl; ended = refl; starts = refl }
of_end_beside s (change.Unsettle node) is = record { room = refl; guests = refl; ended = refl; starts = refl }
of_end_beside s (change.MakeReadOnly node) is = record { room = refl; guests = refl; ended = refl; starts = refl }
of_end_beside s c is = absurd is

all_beside : (changes : List Change) (s : State) → AreOfEnd changes → StaysBeside s (all_stepped s changes)
all_beside [] s are = record { room = refl; guests = refl; ended = refl; starts = refl }
all_beside (c ∷ changes) s are =
    let first = of_end_beside s c are.0 in
    let rest = all_beside changes (stepped s c) are.1 in
    record {
      room = rest.room ∙ first.room;
      guests = rest.guests ∙ first.guests;
      ended = rest.ended ∙ first.ended;
      starts = rest.starts ∙ first.starts;
    }

module _ (s : State) (row : JobRecord) (why : JobEnd) (offset : ℕ) (at : job_at s.table row.number ≡ Some row) (group : row.group ≡ None) where
  abbrev e : Event
  e = End row.number why offset

  pub after_end : after s e ≡ noted_end s row why
  after_end = ap (λ found. ended s found why) at

  pub end_beside : StaysBeside s (noted_end s row why)
  end_beside =
      let o = outcome_of why in
      let left : StaysBeside s (all_stepped s (changes_at_end s row why)) =
      subst (λ (changes : List Change). StaysBeside s (all_stepped s changes)) (sym (end_parts row s.table o)) by_parts in
      record { room = left.room; guests = left.guests; ended = left.ended; starts = left.starts }
    where
      by_parts : StaysBeside s (all_stepped s (end_head row (outcome_of why) ∷ end_tail row s.table (outcome_of why)))
      by_parts =
          let rest = all_beside (end_tail row s.table (outcome_of why)) (stepped s (end_head row (outcome_of why))) (tail_of_end row s.table (outcome_of why)) in
          record { room = rest.room; guests = rest.guests; ended = rest.ended; starts = rest.starts }

  pub end_alone : (noted_end s row why).ending ≡ None
  end_alone = ap (ending_after s row.number why) group

  -- it marks what its kind does
  pub end_calm : (t : RunTable) (guests : List Guest) → AreCalm t guests (end_marks row row.kind why) → AreCalm t guests (marks_of s e)
  end_calm t guests calm = subst (AreCalm t guests) (sym (ap (λ found. of_job found (λ (r : JobRecord). end_marks r r.kind why)) at)) calm

  pub end_fits : (w : WorldSeen) → s.table ≡ w.table → s.guests ≡ w.progress.guests → s.ended ≡ (seen_state w).ended → AllStarted s → s.ending ≡ None
      → MayEnd (seen_state w) row why → offset ≡ offset_at_end (seen_state w) row why → Fits s e
  end_fits w table guests ends started rest may progress = (
    (started, with_at (IsInGroup s.ending) (job_at s.table row.number) row at (subst (λ (x : Option Ending). IsInGroup x row) (sym rest) tt)),
    with_at (CanEnd s why offset) (job_at s.table row.number) row at (record {
      cause = may_end s w row why guests ends may;
      progress = progress ∙ ap (λ (u : RunTable). cond (row.is_ready || is_success why) (bytes_of_node u row.source) 0) (sym table);
      beside = subst (λ (g : Option ℕ). EndsBeside s row why g) (sym group) tt;
    }),
  )

-- ---- what it leaves of nodes and files

module _ (opening : List ℕ → Option (List ℕ)) (first s : State) (h : List Event) (row : JobRecord) (work : JobWork) (why : JobEnd) (old new : Contents)
    (rests : StandsAtRest s) (j : JobsStand s.table) (run : JobsRun s.table) (go : CopiesGo s.table) (rows : AreCopyRows s.table.jobs) (drawn : EdgesAreDrawn s.table)
    (files : TargetFilesStand s) (started : AllStarted s) (here : Contains s.table.jobs row) (copies : copies_blocks row.kind ≡ true) (agrees : Agrees opening s old)
    (may : MayEndSo first h s old.reads row work why) (loses : LosesFilter row old new) where
  suits : EndSuits s row
  suits = copy_suits s row rests.stands run here copies rows go files started

  pub end_performed : AllPerformed s (changes_at_end s row why) old new
  end_performed = end_done s row j run here copies first h work why old new agrees.disks may loses

  to_end : RestsToEnd s row
  to_end = copy_rests s row rests.stands j run here copies

  pub end_agrees : Agrees opening (noted_end s row why) new
  end_agrees =
      let kept = changes_keep opening (changes_at_end s row why) s old new (end_can s rests.stands.table j row here why to_end) end_performed agrees in
      record { disks = kept.disks; known = kept.known; absent = kept.absent; left = kept.left; unchanged = kept.unchanged }

  pub end_images : ShowsImages s old → ShowsImages (noted_end s row why) new
  end_images shows node =
      let kept = all_images_keep opening (changes_at_end s row why) s old new (ends_suit s row (outcome_of why) rests.stands j drawn here suits)
      (end_can s rests.stands.table j row here why to_end) (steps_keep (changes_at_end s row why) s (end_steps s rests.stands.table j row here why)) rests.stands agrees
      end_performed shows node in
      record { noted = kept.noted; mapped = kept.mapped }

  pub end_whole : HasBegun s row → DisksAreWhole s → DisksAreWhole (noted_end s row why)
  end_whole begun was = ended_whole s row why j here suits begun was

  pub end_rests : StandsAtRest (noted_end s row why)
  end_rests =
      beside_rests (all_stepped s (changes_at_end s row why)) (noted_end s row why) refl refl refl refl (λ node some. some)
      (steps_rest (changes_at_end s row why) s (end_steps s rests.stands.table j row here why) (ends_suit s row (outcome_of why) rests.stands j drawn here suits) rests)
