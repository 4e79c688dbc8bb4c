-- Each call leaves a world with what the next ones need.
use Rattle.std.proofs.Common.{◌≡◌, ℕ, ◌+◌, ◌-◌, ◌≤◌, ◌⊎◌, refl, sym, ◌∙◌, ap, subst, arith, Option, Some, None, Result, Ok, Err, inl, inr}
use Rattle.std.specs.Prelude.{slice_get, is_some, IfOk, OnErr}
use Rattle.blk_base.specs.declared.fault.Outcome.{Outcome}
use Rattle.blk_history.specs.Fold.{With}
use Rattle.blk_history.specs.Legal.{IsFlightOver}
use Rattle.blk_history.specs.Machine.{Flight}
use Rattle.blk_history.specs.declared.entry.Refused.{Refused as Why}
use Rattle.blk_history.specs.declared.event.Event.TheVariants.{Admit, Refuse, Piece, Retire, Start, Ready, End}
use Rattle.flat_machine.specs.Machine.{admitted, finished, past_piece}
use Rattle.flat_machine.specs.Marks.{Drained}
use Rattle.flat_machine.specs.State.{drive_of}
use Rattle.qmp_rules.specs.Chains.{disk_node}
use Rattle.qmp_rules.specs.declared.rows.JobRecord.{JobRecord}
use Rattle.trace_codec.specs.Request.{pieces_of}
use Rattle.trace_codec.specs.declared.op.Op.{Op}
use Rattle.trace_codec.specs.declared.op.Op.TheVariants.{Read, Write, Zero, Flush, Discard}
use Rattle.world_jobs.specs.Guarding.{backup_of}
use Rattle.world_jobs.specs.Turning.{EndsInTurn, IsTurned, ReadiesInTurn}
use Rattle.world_jobs.specs.declared.turned.Turned.{Turned}
use Rattle.world_jobs.specs.declared.turned.Turned.TheVariants as turned
use Rattle.world_parts.specs.Carrying.{AnswersLine, IsExecuted, IsPutBack, reply_entry}
use Rattle.world_parts.specs.Face.{WorldSeen}
use Rattle.world_parts.specs.Jobs.{BeginsNone, BeginsOne}
use Rattle.world_parts.specs.Piecing.{part_of, shown_in_flight}
use Rattle.world_parts.specs.Progress.{Progress, ended_in, flight_at, requests_done, with_retirement}
use Rattle.world_parts.specs.Saying.{Given}
use Rattle.world_parts.specs.Steps.{after_admission, with_history}
use Rattle.world_parts.specs.declared.admission.Admission.{Admission}
use Rattle.world_parts.specs.declared.admission.Admission.TheVariants.{Admitted, Refused}
use Rattle.world_parts.specs.declared.executed.Executed.{Executed}
use Rattle.world_parts.specs.declared.executed.Executed.TheVariants as executed
use Rattle.world_parts.proofs.InStep.{ended-push}
use Rattle.blk_world.specs.Pieces.{GuardsBy, GuardsNext, GuardsPart, IsPieceBehind}
use Rattle.world_rows.specs.Ready.{IsAsked, IsAtFirst, IsFlying, IsIdle, IsOver, IsReady}
use Rattle.world_rows.proofs.Ready.{flight_in, flying_finished, idle_admitted, idle_less, idle_refused, past_flight, row_after, row_so}

-- with less to come
pub less_ready : (w : WorldSeen) (more left : ℕ) → left ≤ more → IsReady w more → IsReady w left
less_ready w more left less ready =
    let room = ready.room in
    record {
      untold = ready.untold;
      ended = ready.ended;
      guest = row_so (IsIdle more) (IsIdle left) w.progress.guests (λ row idle. idle_less more left row less idle) ready.guest;
      room = omega (arith, room, less);
    }

-- the same files and history
pub same_ready : (w v : WorldSeen) (left : ℕ) → is_some v.files ≡ is_some w.files → v.progress ≡ w.progress → IsReady w left → IsReady v left
same_ready w v left files progress ready = record {
  untold = files ∙ ready.untold;
  ended = rw progress ready.ended;
  guest = rw progress ready.guest;
  room = rw progress ready.room;
}

-- ---- a request is asked for

module _ (w v : WorldSeen) (left : ℕ) (op : Op) (one : pieces_of op ≡ 1) (ready : IsReady w (3 + left)) where
  admission_asked : (r : ℕ) → v ≡ after_admission w 0 op (Admitted r) → IsAsked v left
  admission_asked r kept =
      let room = ready.room in
      subst (λ (x : WorldSeen). IsAsked x left) (sym kept) (record {
        untold = ready.untold;
        ended = ended-push w.progress.log.events (Admit 0 (requests_done w.progress.guests 0) op) refl ∙ ready.ended;
        guest = row_after (IsIdle (3 + left)) (IsFlying IsAtFirst left) (admitted op) w.progress.guests (λ row idle. idle_admitted left op row one idle) ready.guest;
        room = omega (arith, one, room);
      })

  admission_refused : (why : Why) → v ≡ after_admission w 0 op (Refused why) → IsReady v left
  admission_refused why kept =
      let room = ready.room in
      subst (λ (x : WorldSeen). IsReady x left) (sym kept) (record {
        untold = ready.untold;
        ended = ended-push w.progress.log.events (Refuse 0 (requests_done w.progress.guests 0) op why) refl ∙ ready.ended;
        guest = row_after (IsIdle (3 + left)) (IsIdle left) finished w.progress.guests (λ row idle. idle_refused left row idle) ready.guest;
        room = omega (arith, room);
      })

  -- it is in flight
  pub asked_now : (answer : Admission) (r : ℕ) → answer ≡ Admitted r → v ≡ after_admission w 0 op answer → IsAsked v left
  asked_now answer r is kept = admission_asked r (kept ∙ ap (after_admission w 0 op) is)

  -- or it is refused
  pub refused_now : (answer : Admission) (why : Why) → answer ≡ Refused why → v ≡ after_admission w 0 op answer → IsReady v left
  refused_now answer why is kept = admission_refused why (kept ∙ ap (after_admission w 0 op) is)

-- ---- its piece is made

module _ (w v : WorldSeen) (f : Flight) where
  guarded_by : (drive : ℕ) (op : Op) (found : Option JobRecord) → GuardsBy found w v drive op (part_of f) → v ≡ record w { nodes = v.nodes; works = v.works }
  guarded_by drive op None guards = rw guards refl
  guarded_by drive op (Some row) guards = guards.1.copies.kept

  guarded_part : (drive : ℕ) (op : Op) → GuardsPart w v drive op (part_of f) → v ≡ record w { nodes = v.nodes; works = v.works }
  guarded_part drive (Write span payload) guards = guarded_by drive (Write span payload) (backup_of w.table (disk_node w.table drive)) guards
  guarded_part drive (Zero span) guards = guarded_by drive (Zero span) (backup_of w.table (disk_node w.table drive)) guards
  guarded_part drive (Read span) guards = rw guards refl
  guarded_part drive Flush guards = rw guards refl
  guarded_part drive (Discard span) guards = rw guards refl

  guarded_drive : (found : Option ℕ) → With found (λ drive. GuardsPart w v drive f.op (part_of f)) → v ≡ record w { nodes = v.nodes; works = v.works }
  guarded_drive None guards = absurd guards
  guarded_drive (Some drive) guards = guarded_part drive f.op guards

  guarded : flight_at w.progress.guests 0 ≡ Some f → GuardsNext w v 0 → v ≡ record w { nodes = v.nodes; works = v.works }
  guarded there guards =
      guarded_drive (drive_of w.table 0)
      (subst (λ (o : Option Flight). With o (λ (f : Flight). With (drive_of w.table 0) (λ drive. GuardsPart w v drive f.op (part_of f)))) there guards)

module _ (w v : WorldSeen) (left : ℕ) (outcome : Outcome) where
  piece_over : (f : Flight) → flight_at w.progress.guests 0 ≡ Some f → IsPieceBehind w v 0 f outcome → IsAsked w left → IsOver v left
  piece_over f there made asked =
      let same = guarded w made.between f there made.guards in
      let progress : made.between.progress ≡ w.progress = ap (λ (x : WorldSeen). x.progress) same in
      let files : is_some made.between.files ≡ is_some w.files = ap (λ (x : WorldSeen). is_some x.files) same in
      let between : IsAsked made.between left = record {
        untold = files ∙ asked.untold;
        ended = rw progress asked.ended;
        guest = rw progress asked.guest;
        room = rw progress asked.room;
      } in
      let x = made.between in
      record {
        untold = ap (λ (y : WorldSeen). is_some y.files) made.made.kept ∙ between.untold;
        ended = ap (λ (y : WorldSeen). ended_in y.progress.log.events) made.made.kept
            ∙ ended-push x.progress.log.events (Piece 0 (requests_done x.progress.guests 0) f.next outcome (shown_in_flight f outcome made.made.buffer)) refl ∙ between.ended;
        guest = subst (λ (y : WorldSeen). With (slice_get y.progress.guests 0) (IsFlying IsFlightOver left)) (sym made.made.kept)
            (row_after (IsFlying IsAtFirst left) (IsFlying IsFlightOver left) (past_piece outcome) x.progress.guests (λ row flying. past_flight outcome left row flying) between.guest);
        room = subst (λ (y : WorldSeen). left ≤ y.progress.spare.entries) (sym made.made.kept) between.room;
      }

  pub made_now : ((f : Flight) → flight_at w.progress.guests 0 ≡ Some f → IsPieceBehind w v 0 f outcome) → IsAsked w left → IsOver v left
  made_now made asked = by_flight (flight_at w.progress.guests 0) refl (flight_in IsAtFirst left w.progress.guests asked.guest)
    where
      by_flight : (found : Option Flight) → flight_at w.progress.guests 0 ≡ found → With found IsAtFirst → IsOver v left
      by_flight None is first = absurd first
      by_flight (Some f) is first = piece_over f is (made f is) asked

-- ---- it ends

pub retired_now : (w v : WorldSeen) (left : ℕ) → v ≡ with_history w (with_retirement 0) → IsOver w left → IsReady v left
retired_now w v left kept over =
    subst (λ (x : WorldSeen). IsReady x left) (sym kept) (record {
      untold = over.untold;
      ended = ended-push w.progress.log.events (Retire 0 (requests_done w.progress.guests 0)) refl ∙ over.ended;
      guest = row_after (IsFlying IsFlightOver left) (IsIdle left) finished w.progress.guests (λ row flying. flying_finished left row flying) over.guest;
      room = over.room;
    })

-- ---- a line is answered

module _ (w v : WorldSeen) (left : ℕ) (line : Given) (ready : IsReady w (4 + left)) where
  answered : AnswersLine w v line → IsReady v left
  answered answers = by_begins answers.begins
    where
      x : WorldSeen
      x = answers.between

      replied : IsReady x (3 + left)
      replied =
          let progress = answers.replied.progress in
          let room = ready.room in
          let spare : x.progress.spare.entries ≡ w.progress.spare.entries - 1 = ap (λ (p : Progress). p.spare.entries) progress in
          record {
            untold = answers.replied.runs.told ∙ ready.untold;
            ended = ap (λ (p : Progress). ended_in p.log.events) progress
                ∙ ended-push w.progress.log.events (reply_entry w answers.replied.told line) refl ∙ ready.ended;
            guest = subst (λ (p : Progress). With (slice_get p.guests 0) (IsIdle (3 + left))) (sym progress)
                (row_so (IsIdle (4 + left)) (IsIdle (3 + left)) w.progress.guests (λ row idle. idle_less (4 + left) (3 + left) row (omega arith) idle) ready.guest);
            room = omega (arith, room, spare);
          }

      begun : BeginsOne w.table x v → IsReady v left
      begun one =
          let room = replied.room in
          subst (λ (y : WorldSeen). IsReady y left) (sym one.begins.kept) (record {
            untold = replied.untold;
            ended = ended-push x.progress.log.events (Start one.row.number) refl ∙ replied.ended;
            guest = row_so (IsIdle (3 + left)) (IsIdle left) x.progress.guests (λ row idle. idle_less (3 + left) left row (omega arith) idle) replied.guest;
            room = omega (arith, room);
          })

      by_begins : BeginsNone w.table x v ⊎ BeginsOne w.table x v → IsReady v left
      by_begins (inl none) = subst (λ (y : WorldSeen). IsReady y left) (sym none.kept) (less_ready x (3 + left) left (omega arith) replied)
      by_begins (inr one) = begun one

  now : IsReady w left
  now = less_ready w (4 + left) left (omega arith) ready

  pub executed_now : {E : Type 0} (r : Result Executed E) → IfOk r (λ answer. IsExecuted w v line answer) → OnErr r (IsPutBack w v) → IsReady v left
  executed_now (Ok executed.Replied) done back = answered done
  executed_now (Ok (executed.Later g r)) done back =
      same_ready w v left (ap (λ (x : WorldSeen). is_some x.files) done.left) (ap (λ (x : WorldSeen). x.progress) done.left) now
  executed_now (Err stop) done back = same_ready w v left back.runs.told back.progress now

-- ---- a job has its turn

module _ (w v : WorldSeen) (left : ℕ) (ready : IsReady w left) where
  -- but for the disks that jobs hold
  held : (drains : Drained) → v ≡ record w { drains = drains } → IsReady v left
  held drains same = same_ready w v left (ap (λ (x : WorldSeen). is_some x.files) same) (ap (λ (x : WorldSeen). x.progress) same) ready

  became : (slot : ℕ) → EndsInTurn w v slot ⊎ ReadiesInTurn w v slot → IsReady v left
  became slot (inl did) =
      subst (λ (x : WorldSeen). IsReady x left) (sym did.ends.kept) (record {
        untold = ready.untold;
        ended = ended-push w.progress.log.events (End did.has.row.number did.why did.offset) refl ∙ ready.ended;
        guest = ready.guest;
        room = ready.room;
      })
  became slot (inr did) =
      subst (λ (x : WorldSeen). IsReady x left) (sym did.readies.kept) (record {
        untold = ready.untold;
        ended = ended-push w.progress.log.events (Ready did.has.row.number) refl ∙ ready.ended;
        guest = ready.guest;
        room = ready.room;
      })

  pub turned_now : (slot : ℕ) (t : Turned) → IsTurned w v slot t → IsReady v left
  turned_now slot turned.Empty did = held w.drains did.1
  turned_now slot turned.Copy did = held _ did.kept
  turned_now slot turned.Idle did = held _ did.kept
  turned_now slot (turned.Later guest request) did = held _ did.kept
  turned_now slot turned.Became did = became slot did
