-- Each event leaves a world of the same run.
use Rattle.std.proofs.Common.{◌≡◌, ◌∙◌, ℕ, Bool, true, false, List, ap, inl, inr, refl, subst, sym, Option, Some, None}
use Rattle.std.specs.Prelude.{is_some}
use Rattle.blk_base.specs.declared.fault.Outcome.{Outcome}
use Rattle.blk_copy.specs.declared.transfers.Transfer.{Transfer}
use Rattle.blk_history.specs.Fold.{With}
use Rattle.blk_history.specs.Machine.{Flight}
use Rattle.trace_codec.specs.declared.awaiting.Await.{Await}
use Rattle.trace_codec.specs.declared.op.Op.{Op}
use Rattle.flat_machine.specs.EventLicence.{Deed}
use Rattle.flat_machine.specs.Marks.{Drained}
use Rattle.qmp_rules.specs.declared.rows.JobRecord.{JobRecord}
use Rattle.world_jobs.specs.declared.turned.Turned.{Turned}
use Rattle.world_jobs.specs.declared.turned.Turned.TheVariants as turned
use Rattle.world_parts.specs.Coherent.{AreDrainsKept}
use Rattle.world_parts.specs.Face.{WorldSeen}
use Rattle.world_parts.specs.Jobs.{CopiesFor}
use Rattle.world_parts.specs.Progress.{Progress, HasNext, flight_at}
use Rattle.world_parts.specs.Steps.{after_admission, after_wait}
use Rattle.world_parts.specs.declared.admission.Admission.{Admission}
use Rattle.world_parts.specs.declared.admission.Admission.TheVariants.{Admitted, Refused, Held, Away}
use Rattle.blk_world.specs.Pieces.{IsPieceBehind}
use Rattle.qblk_run.specs.Slots.{HasSettled, HasTaken, IsTurned}
use Rattle.qblk_run.specs.Turns.{StaysIn}
use Rattle.qblk_run.specs.Worlds.{MakesPiece}
use Rattle.qblk_run.proofs.Turning.{makes_piece}
use Rattle.qblk_run.proofs.Worlds.{KeepDrains, StayComing, guarded-kept, kept_stay, runs_stay}

module _ (w v : WorldSeen) (comes : StayComing w v) where
  pub progress_stay : (p : Progress) → v ≡ record w { progress = p } → StaysIn w v
  progress_stay p kept =
      kept_stay w v (ap (λ (x : WorldSeen). x.files) kept) (ap (λ (x : WorldSeen). x.first_faults) kept) (ap (λ (x : WorldSeen). x.earlier) kept)
      (ap (λ (x : WorldSeen). x.room) kept) comes (λ was. subst (λ (x : WorldSeen). AreDrainsKept x.table x.drains) (sym kept) was)

  same_stay : v ≡ w → StaysIn w v
  same_stay same = progress_stay w.progress same

  pub admission_stay : (g : ℕ) (op : Op) (answer : Admission) → v ≡ after_admission w g op answer → StaysIn w v
  admission_stay g op (Admitted r) kept = progress_stay _ kept
  admission_stay g op (Refused why) kept = progress_stay _ kept
  admission_stay g op (Held back) kept = same_stay kept
  admission_stay g op (Away back) kept = same_stay kept

  pub wait_stay : (line : ℕ) (what : Await (List ℕ)) (met : Bool) → v ≡ after_wait w line what met → StaysIn w v
  wait_stay line what true kept = progress_stay _ kept
  wait_stay line what false kept = same_stay kept

  made_stay : (g : ℕ) (f : Flight) (outcome : Outcome) → MakesPiece w v g f outcome → KeepDrains w v → StaysIn w v
  made_stay g f outcome makes drains =
      let runs = makes.licence.runs in
      let same = guarded-kept w makes.between g f makes.guarded in
      record {
        told = runs.told ∙ ap (λ (x : WorldSeen). is_some x.files) same;
        first = runs.first ∙ ap (λ (x : WorldSeen). x.first_faults) same;
        earlier = runs.earlier ∙ ap (λ (x : WorldSeen). x.earlier) same;
        room = runs.room ∙ ap (λ (x : WorldSeen). x.room) same;
        comes = comes;
        drains = drains;
      }

  pub piece_stay : (g : ℕ) (outcome : Outcome) → With (flight_at w.progress.guests g) HasNext
      → ((f : Flight) → flight_at w.progress.guests g ≡ Some f → IsPieceBehind w v g f outcome) → KeepDrains w v → StaysIn w v
  piece_stay g outcome next made drains = by_flight (flight_at w.progress.guests g) refl next
    where
      by_flight : (found : Option Flight) → flight_at w.progress.guests g ≡ found → With found HasNext → StaysIn w v
      by_flight None is next = absurd next
      by_flight (Some f) is next = made_stay g f outcome (makes_piece w v g f outcome is (made f is)) drains

  pub turned_stay : (slot : ℕ) (t : Turned) → IsTurned w v slot t → KeepDrains w v → StaysIn w v
  turned_stay slot t did drains = by_turn t did
    where
      by_kept : v.files ≡ w.files → v.first_faults ≡ w.first_faults → v.earlier ≡ w.earlier → v.room ≡ w.room → StaysIn w v
      by_kept files first earlier room = kept_stay w v files first earlier room comes drains

      by_drains : (d : Drained) → v ≡ record w { drains = d } → StaysIn w v
      by_drains d kept =
          by_kept (ap (λ (x : WorldSeen). x.files) kept) (ap (λ (x : WorldSeen). x.first_faults) kept) (ap (λ (x : WorldSeen). x.earlier) kept) (ap (λ (x : WorldSeen). x.room) kept)

      by_turn : (t : Turned) → IsTurned w v slot t → StaysIn w v
      by_turn turned.Empty did = same_stay did.1
      by_turn turned.Copy did = by_drains _ did.kept
      by_turn turned.Idle did = by_drains _ did.kept
      by_turn (turned.Later g r) did = by_drains _ did.kept
      by_turn turned.Became (inl did) =
          by_kept (ap (λ (x : WorldSeen). x.files) did.ends.kept) (ap (λ (x : WorldSeen). x.first_faults) did.ends.kept)
          (ap (λ (x : WorldSeen). x.earlier) did.ends.kept) (ap (λ (x : WorldSeen). x.room) did.ends.kept)
      by_turn turned.Became (inr did) =
          by_kept (ap (λ (x : WorldSeen). x.files) did.readies.kept) (ap (λ (x : WorldSeen). x.first_faults) did.readies.kept)
          (ap (λ (x : WorldSeen). x.earlier) did.readies.kept) (ap (λ (x : WorldSeen). x.room) did.readies.kept)

  copied_stay : {deed : Deed} {passes : ℕ → Type 0} {row : JobRecord} → CopiesFor w v deed passes row → StaysIn w v
  copied_stay copies = runs_stay w v copies.runs comes (λ was. subst (λ (x : WorldSeen). AreDrainsKept x.table x.drains) (sym copies.kept) was)

  pub taken_stay : (slot : ℕ) (buffer : List ℕ) (result : Option Transfer) → HasTaken w v slot buffer result → StaysIn w v
  taken_stay slot buffer result (inl none) = same_stay none.1
  taken_stay slot buffer result (inr takes) = copied_stay takes.takes.copies

  pub settled_stay : (t : Transfer) (bytes : List ℕ) (answer : Bool) → HasSettled w v t bytes answer → StaysIn w v
  settled_stay t bytes answer (inl none) = same_stay none.1
  settled_stay t bytes answer (inr settles) = copied_stay settles.settles.copies
