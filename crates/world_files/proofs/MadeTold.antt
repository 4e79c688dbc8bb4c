-- What files tell a creation, and that a call of it that failed may be told.
use Rattle.std.proofs.Common.{◌≡◌, ℕ, nat_lt, Bool, true, false, List, [], map, inl, inr, refl, sym, ◌∙◌, ap, subst, Some, None}
use Rattle.blk_base.specs.declared.fault.FaultFrom.TheVariants as from
use Rattle.blk_graph.proofs.Members.{Contains-nil}
use Rattle.qmp_codec.specs.declared.command.Command.TheVariants as command
use Rattle.qmp_codec.specs.declared.nodes.BlockdevCreate.{BlockdevCreate}
use Rattle.qmp_codec.specs.declared.nodes.Created.{Created}
use Rattle.qmp_codec.specs.declared.nodes.Created.TheVariants as created
use Rattle.qmp_rules.specs.Answers.{answer, refusal_to}
use Rattle.qmp_rules.specs.Asks.{told_at}
use Rattle.qmp_rules.specs.Looks.{create_told, stop_at, too_long}
use Rattle.qmp_rules.specs.Table.{RunTable}
use Rattle.qmp_asks.specs.Values.{amount_or}
use Rattle.qmp_rules.specs.declared.judge.PrepareStop.TheVariants.{Refused}
use Rattle.qmp_rules.specs.declared.refusal.Refusal.{Refusal}
use Rattle.qmp_rules.specs.declared.refusal.Refusal.TheVariants as refusal
use Rattle.qmp_asks.specs.declared.look.Look.TheVariants as look
use Rattle.qmp_rules.specs.declared.told.Told.{Told}
use Rattle.flat_machine.specs.Marking.{dirty_bytes}
use Rattle.flat_machine.specs.Performing.{AllPerformed}
use Rattle.flat_machine.specs.Sights.{Fails, IsFailure, IsReached, IsTold, MayStop, calls_at, told_for}
use Rattle.flat_machine.specs.State.{State}
use Rattle.flat_machine.specs.declared.opening.Opening.{Opening}
use Rattle.blk_nodes.specs.declared.stop.FormatStop.{FormatStop}
use Rattle.blk_nodes.specs.declared.stop.FormatStop.TheVariants as stop
use Rattle.world_parts.specs.Carrying.{IsCarriedIn, with_counts}
use Rattle.world_parts.specs.Comes.{ShowsState}
use Rattle.world_parts.specs.Creating.{IsFailed, unformatted}
use Rattle.world_parts.specs.Deleting.{Ground}
use Rattle.world_parts.specs.Face.{WorldSeen, contents_of}
use Rattle.world_parts.proofs.Counted.{answer-counted}
use Rattle.world_parts.specs.Making.{look_of}
use Rattle.world_files.proofs.CreatedAsked.{file_asked}

-- ---- all but why it stops is nothing

pub record TellsNoMore (told : Told) : Type 0 where
  pub length : told.length ≡ None
  pub size : told.size ≡ None
  pub dirty : told.dirty ≡ []

pub create-tells : (options : Created (List ℕ)) (room : ℕ) → TellsNoMore (create_told options room)
unfolding create_told
create-tells (created.File c) room = record { length = refl; size = refl; dirty = refl }
create-tells (created.Qcow2 c) room = record { length = refl; size = refl; dirty = refl }
create-tells created.Unknown room = record { length = refl; size = refl; dirty = refl }

-- with what is dirty
pub is-told : (s : State) (c : BlockdevCreate (List ℕ)) (told : Told) → TellsNoMore told → MayStop s (command.BlockdevCreate c) (told_for s (command.BlockdevCreate c)).stopped told.stopped
    → IsTold s (command.BlockdevCreate c) (with_counts told (map dirty_bytes s.dirty))
is-told s c told tells stops =
    let first = create-tells c.options s.room in
    record {
      file = tells.length ∙ sym first.length;
      image = tells.size ∙ sym first.size;
      refusal = stops;
      clusters = λ name node there named. absurd (Contains-nil name there);
      bitmaps = refl;
    }

-- ---- where no call failed

pub told_by_room : (o : Opening) (s : State) (w v : WorldSeen) (c : BlockdevCreate (List ℕ)) → ShowsState o s w
    → AllPerformed s (answer w.table (create_told c.options w.room) (command.BlockdevCreate c)).changes (contents_of w) (contents_of v)
    → IsCarriedIn s w v (command.BlockdevCreate c) (create_told c.options w.room)
told_by_room o s w v c shows did =
    let same : (create_told c.options w.room).stopped ≡ (create_told c.options s.room).stopped = ap (λ (room : ℕ). (create_told c.options room).stopped) (sym shows.table.room_is) in
    record {
      seen = with_counts (create_told c.options w.room) (map dirty_bytes s.dirty);
      is_told = is-told s c (create_told c.options w.room) (create-tells c.options w.room) (inl same);
      exact = inl same;
      same = answer-counted (create_told c.options w.room) (map dirty_bytes s.dirty) w.table (command.BlockdevCreate c) (λ prints. absurd (let bad : ⊥ = cc prints in bad));
      performed = did;
    }

-- ---- where one did

pub stopped-none : (t : RunTable) (id : List ℕ) (options : Created (List ℕ)) (room : ℕ) → refusal_to t (create_told options room) (command.BlockdevCreate (record { job_id = id; options = options })) ≡ None
    → (create_told options room).stopped ≡ None
unfolding create_told
stopped-none t id (created.File c) room none = by_test (nat_lt room (amount_or 0 (Some c.size))) (file_asked t (create_told (created.File c) room) id c none).quiet
  where
    by_test : (b : Bool) → told_at look.File (stop_at look.File (too_long c.filename b) None) ≡ None → stop_at look.File (too_long c.filename b) None ≡ None
    by_test true bad = absurd (let e : ⊥ = cc bad in e)
    by_test false quiet = refl
stopped-none t id (created.Qcow2 c) room none = refl
stopped-none t id created.Unknown room none = refl

failure-of : (t : RunTable) (options : Created (List ℕ)) (old now : Ground) (cause : Refusal) → IsFailed t options old now cause → IsFailure (look_of options) cause
failure-of t (created.File c) old now cause failed = subst (IsFailure look.File) (sym failed.1.names) tt
failure-of t (created.Qcow2 c) old now cause failed = by_stop failed.why failed.is
  where
    by_stop : (why : FormatStop) → unformatted why ≡ Refused cause → IsFailure look.Format cause
    by_stop (stop.Io dev count) is = let e : refusal.Io (from.Dev dev) count ≡ cause = cc is in subst (IsFailure look.Format) e tt
    by_stop (stop.NoSpace dev) is = let e : refusal.NoSpace dev ≡ cause = cc is in subst (IsFailure look.Format) e tt
    by_stop stop.NoMemory bad = absurd (let e : ⊥ = cc bad in e)
failure-of t created.Unknown old now cause failed = absurd failed

calls-so : (s : State) (id : List ℕ) (options : Created (List ℕ)) (old now : Ground) (t : RunTable) (cause : Refusal) → IsFailed t options old now cause
    → calls_at s.table (look_of options) (command.BlockdevCreate (record { job_id = id; options = options })) ≡ true
calls-so s id (created.File c) old now t cause failed = refl
calls-so s id (created.Qcow2 c) old now t cause failed = refl
calls-so s id created.Unknown old now t cause failed = absurd failed

pub told_by_failure : (o : Opening) (s : State) (w v : WorldSeen) (id : List ℕ) (options : Created (List ℕ)) (old now : Ground) (cause : Refusal) → ShowsState o s w
    → refusal_to w.table (create_told options w.room) (command.BlockdevCreate (record { job_id = id; options = options })) ≡ None → IsFailed w.table options old now cause
    → AllPerformed s
    (answer w.table (record (create_told options w.room) { stopped = Some (record { look = look_of options; refusal = cause }) })
    (command.BlockdevCreate (record { job_id = id; options = options }))).changes (contents_of w) (contents_of v)
    → IsCarriedIn s w v (command.BlockdevCreate (record { job_id = id; options = options }))
    (record (create_told options w.room) { stopped = Some (record { look = look_of options; refusal = cause }) })
told_by_failure o s w v id options old now cause shows none failed did =
    let told : Told = record (create_told options w.room) { stopped = Some (record { look = look_of options; refusal = cause }) } in
    let first = create-tells options w.room in
    let quiet : (create_told options s.room).stopped ≡ None =
    ap (λ (room : ℕ). (create_told options room).stopped) shows.table.room_is ∙ stopped-none w.table id options w.room none in
    let fails : Fails s.table (command.BlockdevCreate (record { job_id = id; options = options })) (create_told options s.room).stopped (record { look = look_of options; refusal = cause }) =
    record {
      call = calls-so s id options old now w.table cause failed;
      failure = failure-of w.table options old now cause failed;
      reached = subst (IsReached (command.BlockdevCreate (record { job_id = id; options = options })) (look_of options)) (sym quiet) tt;
    } in
    record {
      seen = with_counts told (map dirty_bytes s.dirty);
      is_told = is-told s (record { job_id = id; options = options }) told (record { length = first.length; size = first.size; dirty = first.dirty }) (inr (inl fails));
      exact = inr fails;
      same = answer-counted told (map dirty_bytes s.dirty) w.table (command.BlockdevCreate (record { job_id = id; options = options })) (λ prints. absurd (let bad : ⊥ = cc prints in bad));
      performed = did;
    }
