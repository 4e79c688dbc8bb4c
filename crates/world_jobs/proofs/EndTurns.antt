-- The job of a slot ends as its turn says: that it may end so, that where it ends without error nothing is left, and that no request is in flight
-- on a disk that its end marks.
use Rattle.std.proofs.Common.{◌≡◌, ℕ, ◌==◌, true, false, [], ◌∷◌, Some, refl, sym, ◌∙◌, ap, subst, option_and_then}
use Rattle.std.proofs.lemmas.Bool.{false≢true}
use Rattle.std.proofs.lemmas.List.Elements.{All-nil}
use Rattle.blk_graph.proofs.Members.{find-Some}
use Rattle.blk_history.specs.Fold.{With}
use Rattle.blk_history.specs.declared.entry.Cause.TheVariants.{Command, Group, RunEnd}
use Rattle.blk_history.specs.declared.entry.JobEnd.{JobEnd}
use Rattle.blk_history.specs.declared.entry.JobEnd.TheVariants.{Cancelled, Completed, Copied, Failed, Pivoted}
use Rattle.blk_nodes.specs.Joined.{IsJoined}
use Rattle.block_jobs.specs.Work.{JobWork}
use Rattle.qmp_codec.specs.declared.event.JobKind.{JobKind}
use Rattle.qmp_codec.specs.declared.event.JobKind.TheVariants.{Backup, Commit, Mirror, Stream}
use Rattle.qmp_rules.specs.Table.{RunTable, job_at, job_in}
use Rattle.qmp_rules.specs.declared.rows.AskedEnd.TheVariants as asked
use Rattle.qmp_rules.specs.declared.rows.JobRecord.{JobRecord}
use Rattle.flat_machine.specs.EventLicence.{EndsAsMet}
use Rattle.flat_machine.specs.Jobs.{can_be_ready, is_success}
use Rattle.flat_machine.specs.Legal.{MayEnd}
use Rattle.flat_machine.specs.Marks.{AreCalm, IsCalm, end_marks, must_drain}
use Rattle.flat_machine.proofs.Wired.{with_at}
use Rattle.job_ends.proofs.Others.{at_number}
use Rattle.job_progress.specs.Going.{copies_blocks}
use Rattle.job_turns.specs.declared.step.Step.TheVariants as step
use Rattle.job_works.specs.Works.{work_of}
use Rattle.world_parts.specs.Coherent.{IsWholeWorld}
use Rattle.world_parts.specs.Counting.{seen_sources}
use Rattle.world_parts.specs.Face.{WorldSeen, seen_state}
use Rattle.world_parts.specs.Jobs.{HasCopiedAll, PullsFilter}
use Rattle.world_jobs.specs.Ending.{CanBeEnded, IsBehindEnd, offset_by}
use Rattle.world_jobs.specs.Turning.{EndsAs, EndsInTurn, FindsCalm, HasTurn, IsTurnOf}
use Rattle.world_jobs.specs.declared.turned.Turn.{Turn}
use Rattle.world_jobs.specs.declared.turned.Turn.TheVariants as turn
use Rattle.world_jobs.proofs.EndReady.{can_end, has_pulled}
use Rattle.world_jobs.proofs.TurnSteps.{EndSays, FinishSays, Says, here, own, slot_job, step_is, step_says}

-- ---- what the ends of a job mark

-- without error, of a job that was ready
abbrev of_ready : JobEnd → Type 0
of_ready Pivoted = Unit {0}
of_ready Copied = Unit {0}
of_ready why = ⊥

pub ready_mirror : (row : JobRecord) (k : JobKind) → copies_blocks k ≡ true → can_be_ready row k ≡ true → k ≡ Mirror
ready_mirror row Mirror copies can = refl
ready_mirror row Backup copies can = absurd (false≢true can)
ready_mirror row Stream copies can = absurd (false≢true copies)
ready_mirror row Commit copies can = absurd (false≢true copies)

-- ---- by the work

-- a job may end so, as what was met for it says
pub record EndsWell (w : WorldSeen) (row : JobRecord) (work : JobWork) (why : JobEnd) : Type 0 where
  pub cause : MayEnd (seen_state w) row why
  pub met : EndsAsMet (seen_sources w) row.number why
  pub made : is_success why ≡ true → HasCopiedAll work
  pub calm : AreCalm w.table w.progress.guests (end_marks row row.kind why)

module _ (w : WorldSeen) (slot : ℕ) (is : Turn) (whole : IsWholeWorld w) (has : HasTurn w slot is) where
  abbrev row : JobRecord
  row = has.row

  abbrev work : JobWork
  work = (own w slot is whole has).work

  copies : copies_blocks row.kind ≡ true
  copies = (whole.jobs.lone row (here w slot is has)).kind

  met_is : (seen_sources w).met_by row.number ≡ work.met
  met_is = ap (option_and_then (λ (k : JobWork). k.met)) (own w slot is whole has).there

  marks_calm : (k : JobKind) → copies_blocks k ≡ true → (why : JobEnd) → (of_ready why → AreCalm w.table w.progress.guests (row.source ∷ []))
      → AreCalm w.table w.progress.guests (end_marks row k why)
  marks_calm Mirror both Pivoted calm = calm tt
  marks_calm Mirror both Copied calm = calm tt
  marks_calm Mirror both Completed calm = All-nil (IsCalm w.table w.progress.guests)
  marks_calm Mirror both (Failed fault) calm = All-nil (IsCalm w.table w.progress.guests)
  marks_calm Mirror both (Cancelled cause) calm = All-nil (IsCalm w.table w.progress.guests)
  marks_calm Backup both why calm = All-nil (IsCalm w.table w.progress.guests)
  marks_calm Stream both why calm = absurd (false≢true both)
  marks_calm Commit both why calm = absurd (false≢true both)

  by_end : (why : JobEnd) → EndSays has.all_done row work why → EndsWell w row work why
  by_end (Failed fault) says = record {
    cause = tt;
    met = met_is ∙ says;
    made = λ done. absurd (false≢true done);
    calm = marks_calm row.kind copies (Failed fault) (λ never. absurd never);
  }
  by_end (Cancelled Command) says = record {
    cause = says.1;
    met = met_is ∙ says.0;
    made = λ done. absurd (false≢true done);
    calm = marks_calm row.kind copies (Cancelled Command) (λ never. absurd never);
  }
  by_end (Cancelled RunEnd) says = record {
    cause = (has.done.0 says.0, says.1.ready, says.1.asked);
    met = met_is ∙ says.1.made.unmet;
    made = λ done. absurd (false≢true done);
    calm = marks_calm row.kind copies (Cancelled RunEnd) (λ never. absurd never);
  }
  by_end (Cancelled Group) says = absurd says
  by_end Completed says = absurd says
  by_end Pivoted says = absurd says
  by_end Copied says = absurd says

  by_finish : (why : JobEnd) → FinishSays row work why → (must_drain row ≡ true → AreCalm w.table w.progress.guests (row.source ∷ [])) → EndsWell w row work why
  by_finish Completed says calm = record {
    cause = (says.1, says.2);
    met = met_is ∙ says.0.unmet;
    made = λ done. says.0.all;
    calm = marks_calm row.kind copies Completed (λ never. absurd never);
  }
  by_finish Pivoted says calm = record {
    cause = (says.can, says.ready, says.asked);
    met = met_is ∙ says.made.unmet;
    made = λ done. says.made.all;
    calm = marks_calm row.kind copies Pivoted (λ so. calm (rw (says.can, says.asked) refl));
  }
  by_finish Copied says calm = record {
    cause = (ready_mirror row row.kind copies says.can, says.ready, says.asked);
    met = met_is ∙ says.made.unmet;
    made = λ done. says.made.all;
    calm = marks_calm row.kind copies Copied (λ so. calm (rw (says.can, says.asked) refl));
  }
  by_finish (Failed fault) says calm = absurd says
  by_finish (Cancelled cause) says calm = absurd says

  ends_well : (turn' : Turn) (why : JobEnd) → IsTurnOf has.all_done row work turn' → EndsAs turn' why → FindsCalm w turn' row → EndsWell w row work why
  ends_well (turn.End other) why is_step so calm =
      by_end why (subst (Says has.all_done row work) (is_step ∙ ap (λ (e : JobEnd). step.End e) (sym so)) (step_says has.all_done row work))
  ends_well (turn.Finish other) why is_step so calm =
      by_finish why (subst (Says has.all_done row work) (is_step ∙ ap (λ (e : JobEnd). step.Finish e) (sym so)) (step_says has.all_done row work)) calm
  ends_well turn.GetReady why is_step so calm = absurd so
  ends_well turn.Copy why is_step so calm = absurd so
  ends_well turn.Wait why is_step so calm = absurd so

-- ---- in its slot

pub ends_in_turn : (w v : WorldSeen) (slot : ℕ) (is : Turn) (why : JobEnd) → IsWholeWorld w → IsJoined w.nodes → (has : HasTurn w slot is) → EndsAs is why
    → FindsCalm w is has.row → IsBehindEnd w v has.row why → EndsInTurn w v slot
ends_in_turn w v slot is why whole joined has so calm did =
    let well = ends_well w slot is whole has is why (step_is w slot is whole has) so calm in
    let at = slot_job w slot is whole has in
    record {
      is = is;
      why = why;
      offset = offset_by w.table has.row why;
      has = has;
      so = so;
      calm = calm;
      ends = record {
        there = at;
        cause = well.cause;
        met = well.met;
        made = λ done. with_at HasCopiedAll (work_of w.works has.row.number) (own w slot is whole has).work (own w slot is whole has).there (well.made done);
        progress = refl;
        calm = well.calm;
        pulls =
            subst (λ (u : RunTable). PullsFilter u has.row w.nodes v.nodes) (sym (ap (λ (x : WorldSeen). x.table) did.kept))
            (has_pulled w has.row why whole joined at v.nodes did.pulls did.joined);
        kept = did.kept;
      };
    }

-- the job in a slot may end
pub slot_may_end : (w : WorldSeen) (slot : ℕ) (row : JobRecord) (why : JobEnd) → IsWholeWorld w → IsJoined w.nodes → job_in w.table slot ≡ Some row
    → With (job_at w.table row.number) (CanBeEnded w.table w.nodes w.works w.progress why)
slot_may_end w slot row why whole joined there =
    let at = at_number w.table whole.jobs.stand row (find-Some (λ (r : JobRecord). r.slot == slot) w.table.jobs row there).0 in
    with_at (CanBeEnded w.table w.nodes w.works w.progress why) (job_at w.table row.number) row at (can_end w row why whole joined at)
