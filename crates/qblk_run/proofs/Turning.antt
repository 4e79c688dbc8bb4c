-- What a world's calls say of jobs and pieces, as rounds ask for it.
use Rattle.std.proofs.Common.{◌≡◌, ◌∙◌, ℕ, true, List, ap, refl, subst, inl, inr, Option, Some, None}
use Rattle.std.specs.Prelude.{Bool, if◌then◌else◌, IfSome, Result, Ok, Err, option_and_then}
use Rattle.blk_base.specs.declared.fault.Fault.{Fault}
use Rattle.blk_base.specs.declared.fault.Outcome.{Outcome}
use Rattle.blk_copy.specs.declared.transfers.Transfer.{Transfer}
use Rattle.blk_history.specs.Fold.{With}
use Rattle.blk_history.specs.Machine.{Flight}
use Rattle.blk_history.specs.Small.{IsSmallEnd}
use Rattle.blk_history.specs.declared.entry.JobEnd.{JobEnd}
use Rattle.blk_history.specs.declared.entry.JobEnd.TheVariants.{Failed}
use Rattle.block_jobs.specs.Work.{JobWork, block_at}
use Rattle.flat_machine.specs.EventLicence.{EndsAsMet}
use Rattle.flat_machine.specs.Marks.{after_turn, must_drain}
use Rattle.flat_machine.specs.State.{drive_of}
use Rattle.job_turns.specs.Turns.{step_of}
use Rattle.job_turns.specs.declared.step.Step.{Step}
use Rattle.job_turns.specs.declared.step.Step.TheVariants as step
use Rattle.job_works.specs.Works.{work_of}
use Rattle.qmp_rules.specs.Chains.{disk_node}
use Rattle.qmp_rules.specs.Table.{job_at, job_in}
use Rattle.qmp_rules.specs.declared.rows.JobRecord.{JobRecord}
use Rattle.trace_codec.specs.declared.op.Op.{Op}
use Rattle.trace_codec.specs.declared.op.Op.TheVariants.{Discard, Flush, Read, Write, Zero}
use Rattle.blk_history.specs.Disk.{is_write}
use Rattle.flat_machine.proofs.Wired.{with_at}
use Rattle.world_jobs.specs.Copies as copies
use Rattle.world_jobs.specs.Guarding.{backup_of}
use Rattle.world_jobs.specs.Turning as turning
use Rattle.world_jobs.specs.declared.turned.Turn.{Turn}
use Rattle.world_jobs.specs.declared.turned.Turn.TheVariants as turn
use Rattle.world_jobs.specs.declared.turned.Turned.{Turned}
use Rattle.world_jobs.specs.declared.turned.Turned.TheVariants as turned
use Rattle.world_parts.specs.Counting.{seen_sources}
use Rattle.world_parts.specs.Face.{WorldSeen}
use Rattle.world_parts.specs.Jobs.{GuardsBlock}
use Rattle.world_parts.specs.Piecing.{part_of}
use Rattle.world_parts.specs.Progress.{flight_at}
use Rattle.blk_world.specs.Pieces.{GuardsBy, GuardsNext, GuardsPart, IsPieceBehind}
use Rattle.qblk_run.specs.Slots.{HasSettled, HasTaken, IsTurned, SlotStays, front_of, given_of}
use Rattle.qblk_run.specs.Worlds.{IsGuardedFor, MakesPiece, NeedsNoGuard}
use Rattle.qblk_run.proofs.Readiness.{ready_met}
use Rattle.qblk_run.proofs.Lists.{with-some}

-- ---- the turn of the job in a slot

-- the numbers of a fault that the job in a slot met have 64 bits
abbrev pub HasSmallFaults : WorldSeen → ℕ → Type 0
HasSmallFaults w slot =
    (row : JobRecord) (work : JobWork) → job_in w.table slot ≡ Some row → work_of w.works row.number ≡ Some work
    → IfSome work.met (λ fault. IsSmallEnd (Failed fault))

fault_small : (found : Option JobWork) (fault : Fault) → ((work : JobWork) → found ≡ Some work → IfSome work.met (λ fault. IsSmallEnd (Failed fault)))
    → option_and_then (λ (work : JobWork). work.met) found ≡ Some fault → IsSmallEnd (Failed fault)
fault_small None fault small met = absurd (cc met)
fault_small (Some work) fault small met = subst (λ (m : Option Fault). IfSome m (λ fault. IsSmallEnd (Failed fault))) met (small work refl)

end_small : (w : WorldSeen) (slot : ℕ) (row : JobRecord) (why : JobEnd) → job_in w.table slot ≡ Some row → HasSmallFaults w slot
    → EndsAsMet (seen_sources w) row.number why → IsSmallEnd why
end_small w slot row (Failed fault) there small met = fault_small (work_of w.works row.number) fault (λ work is. small row work there is) met
end_small w slot row _ there small met = tt

slot_stays : (w v : WorldSeen) (slot : ℕ) (is : Turn) (s : Step) → ((x : Step) → turning.IsStepFor x is → x ≡ s) → ((row : JobRecord) → turning.waits_first is row ≡ must_drain row)
    → turning.StaysAsTurn w v slot is → SlotStays w v slot s
slot_stays w v slot is s same drains did =
    let has = did.has in
    let work = with-some (work_of w.works has.row.number) (λ work. turning.IsTurnOf has.all_done has.row work is) has.step in
    record {
      has = record {
        row = has.row;
        work = work.0;
        all_done = has.all_done;
        done = has.done;
        there = has.there;
        copies = work.1;
        is = same (step_of has.all_done has.row work.0) work.2;
      };
      calm = λ asked. did.calm (drains has.row ∙ asked);
      kept = did.kept ∙ ap (λ (b : Bool). record w { drains = if b then after_turn has.row.number w.drains else w.drains }) (drains has.row);
    }

pub is_turned : (w v : WorldSeen) (slot : ℕ) (t : Turned) → turning.IsTurned w v slot t → HasSmallFaults w slot → IsTurned w v slot t
is_turned w v slot turned.Empty did small = did
is_turned w v slot turned.Copy did small = slot_stays w v slot turn.Copy step.Copy (λ x is. is) (λ row. refl) did
is_turned w v slot turned.Idle did small = slot_stays w v slot turn.Wait step.Wait (λ x is. is) (λ row. refl) did
is_turned w v slot (turned.Later g r) did small = record { row = did.has.row; there = did.has.there; waits = did.waits; kept = did.kept }
is_turned w v slot turned.Became (inl did) small = inl (record {
  row = did.has.row;
  why = did.why;
  offset = did.offset;
  there = did.has.there;
  ends = did.ends;
  fits = end_small w slot did.has.row did.why did.has.there small did.ends.met;
})
is_turned w v slot turned.Became (inr did) small = inr (record { row = did.has.row; there = did.has.there; met = ready_met w slot did.has; readies = did.readies })

-- ---- a block that is read, and one that is written

given : (answer : Result (Option Transfer) Fault) (result : Option Transfer) → copies.IsToldOf answer result → result ≡ given_of answer
given (Ok t) result told = told
given (Err fault) result told = told

pub has_taken : (w v : WorldSeen) (slot : ℕ) (buffer : List ℕ) (result : Option Transfer) → copies.IsTaken (job_in w.table slot) w v buffer result
    → HasTaken w v slot buffer result
has_taken w v slot buffer result = by_row (job_in w.table slot) refl
  where
    by_row : (found : Option JobRecord) → job_in w.table slot ≡ found → copies.IsTaken found w v buffer result → HasTaken w v slot buffer result
    by_row None e took = inl (e, took.1, took.0)
    by_row (Some row) e took =
        inr (record { row = row; answer = took.answer; there = e; given = given took.answer result took.told_is; takes = took.takes })

pub has_settled : (w v : WorldSeen) (t : Transfer) (bytes front : List ℕ) (answer : Bool) → ((work : JobWork) → work_of w.works t.job ≡ Some work → front ≡ front_of work t bytes)
    → copies.IsSettled (job_at w.table t.job) w v t front answer → HasSettled w v t bytes answer
has_settled w v t bytes front answer front_is = by_row (job_at w.table t.job) refl
  where
    by_row : (found : Option JobRecord) → job_at w.table t.job ≡ found → copies.IsSettled found w v t front answer → HasSettled w v t bytes answer
    by_row None e did = inl (e, did.1, did.0)
    by_row (Some row) e did = inr (record { row = row; target = did.target; block = front; front = front_is; there = e; settles = did.settles })

-- ---- a piece

module _ (w v : WorldSeen) (g : ℕ) (f : Flight) where
  abbrev backup_on : ℕ → Option JobRecord
  backup_on drive = backup_of w.table (disk_node w.table drive)

  unneeded : (drive : ℕ) → drive_of w.table g ≡ Some drive → (op : Op) → op ≡ f.op → NeedsNoGuard op (backup_on drive)
      → With (drive_of w.table g) (λ d. NeedsNoGuard f.op (backup_on d))
  unneeded drive on op is none =
      with_at (λ d. NeedsNoGuard f.op (backup_on d)) (drive_of w.table g) drive on (subst (λ (o : Op). NeedsNoGuard o (backup_on drive)) is none)

  guarded_by : (drive : ℕ) → drive_of w.table g ≡ Some drive → (op : Op) → op ≡ f.op → is_write op ≡ true → ((b : Option JobRecord) → b ≡ None → NeedsNoGuard op b)
      → (found : Option JobRecord) → backup_on drive ≡ found → GuardsBy found w v drive op (part_of f) → IsGuardedFor w v g f
  guarded_by drive on op is writes needs None there guards = inl (guards, unneeded drive on op is (needs (backup_on drive) there))
  guarded_by drive on op is writes needs (Some row) there guards = inr (record {
    drive = drive;
    on = on;
    writes = subst (λ (o : Op). is_write o ≡ true) is writes;
    row = row;
    backup = there;
    target = guards.0;
    block = block_at (part_of f).start;
    block_is = refl;
    guards = subst (λ (o : Op). GuardsBlock w v drive o row guards.0 (block_at (part_of f).start)) is guards.1;
  })

  guarded_part : (drive : ℕ) → drive_of w.table g ≡ Some drive → (op : Op) → op ≡ f.op → GuardsPart w v drive op (part_of f) → IsGuardedFor w v g f
  guarded_part drive on (Write span payload) is guards = guarded_by drive on (Write span payload) is refl (λ b none. none) (backup_on drive) refl guards
  guarded_part drive on (Zero span) is guards = guarded_by drive on (Zero span) is refl (λ b none. none) (backup_on drive) refl guards
  guarded_part drive on (Read span) is guards = inl (guards, unneeded drive on (Read span) is tt)
  guarded_part drive on Flush is guards = inl (guards, unneeded drive on Flush is tt)
  guarded_part drive on (Discard span) is guards = inl (guards, unneeded drive on (Discard span) is tt)

  guarded_drive : (found : Option ℕ) → drive_of w.table g ≡ found → With found (λ drive. GuardsPart w v drive f.op (part_of f)) → IsGuardedFor w v g f
  guarded_drive None on guards = absurd guards
  guarded_drive (Some drive) on guards = guarded_part drive on f.op refl guards

  guarded_next : flight_at w.progress.guests g ≡ Some f → GuardsNext w v g → IsGuardedFor w v g f
  guarded_next there guards =
      guarded_drive (drive_of w.table g) refl
      (subst (λ (o : Option Flight). With o (λ f. With (drive_of w.table g) (λ drive. GuardsPart w v drive f.op (part_of f)))) there guards)

pub makes_piece : (w v : WorldSeen) (g : ℕ) (f : Flight) (outcome : Outcome) → flight_at w.progress.guests g ≡ Some f → IsPieceBehind w v g f outcome
    → MakesPiece w v g f outcome
makes_piece w v g f outcome there is = record {
  between = is.between;
  guarded = guarded_next w is.between g f there is.guards;
  made = is.made;
  licence = is.licence;
}
