-- Why a run ended with its status.
use Rattle.std.proofs.Common.{◌≡◌, ◌⊎◌, ℕ, Bool, true, false, List, ◌++◌, length, take, refl, sym, ◌∙◌, ap, subst, arith, Option, Some, None, inl, inr}
use Rattle.std.specs.Prelude.{is_some, MatchOption, option_map}
use Rattle.std.proofs.lemmas.List.{take_all, take-append-le}
use Rattle.blk_base.specs.Counts.{Rose}
use Rattle.blk_base.specs.Files.{IfTold}
use Rattle.blk_base.specs.Written.{Written}
use Rattle.blk_base.specs.declared.fault.FaultAt.{FaultAt}
use Rattle.blk_base.specs.declared.fault.FaultFrom.{FaultFrom}
use Rattle.blk_base.specs.declared.fault.FaultFrom.TheVariants.{Dev, Sink}
use Rattle.blk_base.specs.declared.memory.Room.{Room}
use Rattle.trace_codec.specs.declared.waits.Waits.{Waits}
use Rattle.blk_history.specs.Names.{JobLine}
use Rattle.blk_history.specs.Recorded.{Recorded}
use Rattle.blk_history.specs.Transcript.{transcript}
use Rattle.blk_history.specs.declared.event.Event.{Event}
use Rattle.flat_machine.specs.Courses.{Course, course_of, course_after}
use Rattle.flat_machine.specs.Licence.{fault_at}
use Rattle.flat_machine.specs.declared.opening.Opening.{Opening}
use Rattle.world_parts.specs.Comes.{Comes}
use Rattle.world_parts.specs.Face.{WorldSeen}
use Rattle.world_parts.specs.Steps.{IsOpeningOf, new_world}
use Rattle.qblk_core.specs.Output.{SendsFront}
use Rattle.qblk_core.specs.declared.status.Status.{Status}
use Rattle.qblk_core.specs.declared.status.Status.TheVariants.{Done, Fault, Stuck, NoMemory}
use Rattle.qblk_core.specs.Session.{failed_as}
use Rattle.qblk_inputs.specs.Inputs.{Work, HasWork, IsWork}
use Rattle.qblk_words.specs.Words.{Cast, guests_of}
use Rattle.qblk_run.specs.Beginning.{new_tasks}
use Rattle.qblk_run.specs.Ending.{EndsAs, ended_as, WentOut}
use Rattle.qblk_run.specs.Run.{Setting, Account, IsRun, WasRun, HasRunStopped, IsFaulty, Answers, history_room, whole_transcript, seen_waits}
use Rattle.qblk_run.specs.Session.{IsPlayed}
use Rattle.qblk_run.specs.Tasks.{KeepsTo}
use Rattle.qblk_run.proofs.Accounts.{opening_by, opening-of, account, run-is, ends-done, ends-stuck, has-stopped, flush-failed}
use Rattle.qblk_run.proofs.Beginnings.{start-keeps}
use Rattle.qblk_run.proofs.Devices.{run-devices}
use Rattle.qblk_run.proofs.Worlds.{come-first}
use Rattle.qblk_run.specs.Devices.{HaveDevices}
use Rattle.qblk_run.specs.Worlds.{HasCome, IsLast}

-- ---- what went out

whole-out : (old new : Option (List ℕ)) (whole : List ℕ) → new ≡ option_map (λ s. s ++ whole) old → new ≡ option_map (λ s. s ++ take (length whole) whole) old
whole-out old new whole is = is ∙ ap (λ (x : List ℕ). option_map (λ s. s ++ x) old) (sym (take_all (length whole) whole (omega arith)))

front-is : (front rest whole : List ℕ) → front ++ rest ≡ whole → take (length front) whole ≡ front
front-is front rest whole is = rw (← is) (take-append-le (length front) front rest (omega arith) ∙ take_all (length front) front (omega arith))

front-out : (old new : Option (List ℕ)) (front rest whole : List ℕ) → front ++ rest ≡ whole → new ≡ option_map (λ s. s ++ front) old → new ≡ option_map (λ s. s ++ take (length front) whole) old
front-out old new front rest whole is sent = sent ∙ ap (λ (x : List ℕ). option_map (λ s. s ++ x) old) (sym (front-is front rest whole is))

-- ---- the statuses

module _ (cast : Cast) (work : Work) (old new : Setting) (room : Room) (sized : room ≡ history_room work) (log : Recorded) (jobs : List JobLine) (fault : Option FaultAt) (waiting : Option (ℕ × Waits Written))
    (said : IsWork cast work) (inputs : IfTold old.store.files (HasWork cast work)) (count : length work.traces ≡ length (guests_of cast))
    (played : IsPlayed (new_world old.store (guests_of cast) room) (new_tasks work.script work.traces) new.store log jobs fault waiting)
    (begins : (o : Opening) → IsOpeningOf old.store (guests_of cast) o → Comes o (new_world old.store (guests_of cast) room)) where
  abbrev w : WorldSeen
  w = new_world old.store (guests_of cast) room

  abbrev course : Course
  course = course_of work.script work.traces

  abbrev has : HasCome (opening_by old.store (guests_of cast)) course w played.now played.after.script.orders
  has = played.comes (opening_by old.store (guests_of cast)) course w (come-first (opening_by old.store (guests_of cast)) course w
      (begins (opening_by old.store (guests_of cast)) (opening-of old.store (guests_of cast))) refl)

  abbrev comes : Comes (opening_by old.store (guests_of cast)) played.now
  comes = has.comes

  abbrev keeps : KeepsTo work.script work.traces played.now.progress.log.events played.after
  keeps = played.so.order work.script work.traces (start-keeps work.script work.traces)

  abbrev its : Account
  its = account old.store (guests_of cast) w played.now new.store fault refl refl refl refl comes.counted played.stays comes played.end

  run : (had : Bool) → IsLast had (course_after course played.now.progress.log.events).script played.now played.now → IsRun cast work had fault old.store new.store its
  run had is_last =
      run-is old.store (guests_of cast) w played.now new.store fault refl refl refl refl comes.counted played.stays comes played.end
      cast work had refl count keeps.order room sized played.now has.events has.all has.through is_last

  run-as : (x : Option FaultAt) → fault ≡ x → IsRun cast work true x old.store new.store its
  run-as x is = subst (λ (f : Option FaultAt). IsRun cast work true f old.store new.store its) is (run true refl)

  was : (x : Option FaultAt) → fault ≡ x → (n : ℕ) → new.sent ≡ option_map (λ s. s ++ take n (whole_transcript its)) old.sent → WasRun cast work x old new its n
  was x is n sent = record { asked = said; inputs = inputs; run = run-as x is; sent = sent }

  devices : HaveDevices (guests_of cast) played.now.progress.log.events played.now.table
  devices = subst (λ (h : List Event). HaveDevices (guests_of cast) h played.now.table) has.all
      (run-devices (opening_by old.store (guests_of cast)) course old.store (guests_of cast) room has.events played.now has.through)

  stopped : HasRunStopped (is_some old.store.files) work its
  stopped = has-stopped old.store (guests_of cast) w played.now new.store fault refl refl refl refl comes.counted played.stays comes played.end
      work played.after played.so.can keeps count devices played.rest waiting played.named

  -- the flush was good, and all went out
  done : fault ≡ None → waiting ≡ None → new.sent ≡ option_map (λ s. s ++ whole_transcript its) old.sent → new.sink_faults ≡ old.sink_faults → Answers cast old new Done
  done good none sent sink =
      let all : MatchOption waiting _ _ = played.named in (
        work,
        its,
        record { was = was None good (length (whole_transcript its)) (whole-out old.sent new.sent (whole_transcript its) sent); sink = sink },
        ends-done old.store (guests_of cast) w played.now new.store fault refl refl refl refl comes.counted played.stays comes played.end
            work played.after played.so.can keeps count played.rest (rw none at played.named),
      )

  stuck : fault ≡ None → (r : ℕ × Waits Written) → waiting ≡ Some r → new.sent ≡ option_map (λ s. s ++ whole_transcript its) old.sent → new.sink_faults ≡ old.sink_faults
      → Answers cast old new (Stuck r.0 r.1)
  stuck good r some sent sink = (
    work,
    its,
    record { was = was None good (length (whole_transcript its)) (whole-out old.sent new.sent (whole_transcript its) sent); sink = sink },
    ends-stuck old.store (guests_of cast) w played.now new.store fault refl refl refl refl comes.counted played.stays comes played.end
        work played.after played.so.can keeps count devices played.rest r.0 (seen_waits r.1) (rw some at played.named),
  )

  flush : (f : FaultAt) → fault ≡ Some f → (n : ℕ) → new.sent ≡ option_map (λ s. s ++ take n (whole_transcript its)) old.sent
      → ((n ≡ length (whole_transcript its)) × (new.sink_faults ≡ old.sink_faults)) ⊎ Rose old.sink_faults new.sink_faults → Answers cast old new (Fault f.from f.count)
  flush f is n sent out =
      let failed = flush-failed old.store (guests_of cast) w played.now new.store fault refl refl refl refl comes.counted played.stays comes played.end f is in
      let named : f ≡ fault_at (Dev failed.0) f.count = ap (λ (from : FaultFrom). fault_at from f.count) failed.1 in
      subst (λ (from : FaultFrom). IsFaulty cast old new from f.count) (sym failed.1)
      (work, its, n, record { was = was (Some (fault_at (Dev failed.0) f.count)) (is ∙ ap (λ (x : FaultAt). Some x) named) n sent; stopped = stopped }, out)

  put : fault ≡ None → (n : ℕ) → new.sent ≡ option_map (λ s. s ++ take n (whole_transcript its)) old.sent → Rose old.sink_faults new.sink_faults → Answers cast old new (Fault Sink new.sink_faults)
  put good n sent rose = (work, its, n, record { was = was None good n sent; stopped = stopped }, rose, refl)

  unsent : new.sent ≡ old.sent → new.sink_faults ≡ old.sink_faults → Answers cast old new NoMemory
  unsent sent sink = (sent, sink, inr (work, fault, its, said, inputs, run false (inl refl)))

  by-end : (whole : List ℕ) → whole ≡ whole_transcript its → (x : Option FaultAt) → fault ≡ x → (y : Option (ℕ × Waits Written)) → waiting ≡ y → WentOut old.sent new.sent whole old.sink_faults new.sink_faults
      → Answers cast old new (ended_as x y)
  by-end whole is None good None none out = done good none (rw is at out.sent) out.sink
  by-end whole is None good (Some r) some out = stuck good r some (rw is at out.sent) out.sink
  by-end whole is (Some f) some y waits out =
      flush f some (length (whole_transcript its)) (whole-out old.sent new.sent (whole_transcript its) (rw is at out.sent)) (inl (refl, out.sink))

  by-failure : (whole : List ℕ) → whole ≡ whole_transcript its → (x : Option FaultAt) → fault ≡ x → SendsFront old.sent new.sent whole old.sink_faults new.sink_faults
      → Answers cast old new (failed_as x new.sink_faults)
  by-failure whole is None good front =
      put good (length front.part.0) (front-out old.sent new.sent front.part.0 front.part.1 (whole_transcript its) (front.part.2 ∙ is) front.part.3) front.rose
  by-failure whole is (Some f) some front =
      flush f some (length front.part.0) (front-out old.sent new.sent front.part.0 front.part.1 (whole_transcript its) (front.part.2 ∙ is) front.part.3) (inr front.rose)

  -- it is of the guests and jobs of the run
  whole-is : transcript (record { guests = guests_of cast; jobs = jobs }) log.events ≡ whole_transcript its
  whole-is =
      ap (λ (lines : List JobLine). transcript (record { guests = guests_of cast; jobs = lines }) log.events) played.jobs_are
      ∙ ap (λ (l : Recorded). transcript (record { guests = guests_of cast; jobs = played.now.progress.jobs }) l.events) played.log_is

  pub run-answers : (status : Status)
      → EndsAs fault waiting old.sent new.sent (transcript (record { guests = guests_of cast; jobs = jobs }) log.events) old.sink_faults new.sink_faults status → Answers cast old new status
  run-answers status (inl none) = rw none.0 (unsent none.1 none.2)
  run-answers status (inr (inl end)) = rw end.0 (by-end _ whole-is fault refl waiting refl end.1)
  run-answers status (inr (inr end)) = rw end.0 (by-failure _ whole-is fault refl end.1)
