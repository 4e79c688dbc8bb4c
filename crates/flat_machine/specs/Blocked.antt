-- Actors that can go no further.
use Rattle.std.specs.Prelude.{◌≡◌, ◌⊎◌, ℕ, ◌+◌, ◌<◌, ◌≤◌, true, List, [], ◌∷◌, length, Contains, Option, Some, None}
use Rattle.qmp_rules.specs.declared.rows.JobRecord.{JobRecord}
use Rattle.qmp_rules.specs.declared.rows.AskedEnd.TheVariants as asked
use Rattle.qmp_rules.specs.Table.{device_by_number, job_in}
use Rattle.trace_codec.specs.declared.awaiting.Await.{Await}
use Rattle.trace_codec.specs.declared.awaiting.Await.TheVariants as await
use Rattle.blk_history.specs.Fold.{With}
use Rattle.flat_machine.specs.State.{State, guest_at}
use Rattle.flat_machine.specs.Legal.{IsMet, AllDone}
use Rattle.trace_codec.specs.declared.wish.Wish.{Wish}
use Rattle.trace_codec.specs.declared.wish.Wish.TheVariants.{Ask, Wait}
use Rattle.trace_codec.specs.declared.order.Order.TheVariants.{Watch}
use Rattle.trace_codec.specs.declared.waits.Waits.{Waits}
use Rattle.trace_codec.specs.declared.waits.Waits.TheVariants.{Attached, Line, Guest, Ready, Ended}
use Rattle.trace_codec.specs.Script.{Order}
use Rattle.flat_machine.specs.Courses.{Course, past_waits, rest_of}

-- The script's next line is an await that isn't met; this is what it waits for.
abbrev pub what_of : Await (List ℕ) → Waits (List ℕ)
what_of (await.Guest g requests) = Guest g requests
what_of (await.Ready id) = Ready id
what_of (await.Ended id) = Ended id

abbrev pub ScriptWaits : State → List Order → Waits (List ℕ) → Type 0
ScriptWaits s (Watch line what ∷ orders) waits = (IsMet s what → ⊥) × (waits ≡ what_of what)
ScriptWaits s orders waits = ⊥

-- The guest's next line, past the waits that are over, waits for a line, or is a request while its device isn't attached.
abbrev pub TraceWaits : State → ℕ → List Wish → Waits (List ℕ) → Type 0
TraceWaits s g [] waits = ⊥
TraceWaits s g (Wait line ∷ wishes) waits = waits ≡ Line line
TraceWaits s g (Ask op ∷ wishes) waits = (device_by_number s.table g ≡ None) × (waits ≡ Attached)

pub record GuestWaits (s : State) (c : Course) (g : ℕ) (waits : Waits (List ℕ)) : Type 0 where
  pub idle : With (guest_at s g) (λ row. row.flight ≡ None)
  pub next : With (rest_of c g) (λ wishes. TraceWaits s g (past_waits c.answered wishes) waits)

-- A slot without a job is blocked, and one whose job is ready and was not asked to end, while the script or a guest is not
-- done.
abbrev pub JobWaits : State → Option JobRecord → Type 0
JobWaits s None = Unit {0}
JobWaits s (Some row) = (row.is_ready ≡ true) × (row.asked ≡ asked.Nothing) × (AllDone s → ⊥)

abbrev pub SlotWaits : State → ℕ → Type 0
SlotWaits s slot = JobWaits s (job_in s.table slot)

-- the script is actor 0, and guest g is actor g + 1
abbrev pub ActorWaits : State → Course → ℕ → Waits (List ℕ) → Type 0
ActorWaits s c actor waits =
    ((actor ≡ 0) × ScriptWaits s c.script waits)
    ⊎ ((g : ℕ) × (actor ≡ g + 1) × GuestWaits s c g waits)

-- the script or a guest has more to do
abbrev pub IsUnfinished : Course → ℕ → Type 0
IsUnfinished c actor = (actor ≤ length c.traces) × (Contains c.ended actor → ⊥)

-- Some actor is unfinished, each of those is blocked, and so is each slot; the first is named, with what it waits for.
pub record IsStuck (s : State) (c : Course) (actor : ℕ) (waits : Waits (List ℕ)) : Type 0 where
  pub unfinished : IsUnfinished c actor
  pub waiting : ActorWaits s c actor waits
  pub first : (other : ℕ) → other < actor → IsUnfinished c other → ⊥
  pub others : (other : ℕ) → IsUnfinished c other → (what : Waits (List ℕ))
      × ActorWaits s c other what
  pub slots : (slot : ℕ) → slot < 16 → SlotWaits s slot
