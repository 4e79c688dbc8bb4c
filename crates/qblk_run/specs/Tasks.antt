-- What the actors of a run have still to do.
use Rattle.std.specs.Prelude.{◌≡◌, ◌⊎◌, ℕ, zero, suc, ◌+◌, ◌*◌, ◌^◌, ◌<◌, ◌≤◌, Bool, true, false, if◌then◌else◌, List, [], ◌∷◌, length, slice_get, get_or, Option, Some, None, IsSome}
use Rattle.trace_codec.specs.declared.wish.Wish.{Wish}
use Rattle.trace_codec.specs.declared.waits.Waits.{Waits}
use Rattle.trace_codec.specs.declared.order.Order.TheVariants.{Give}
use Rattle.trace_codec.specs.Request.{pieces_of}
use Rattle.trace_codec.specs.Script.{Order}
use Rattle.qmp_asks.specs.Naming.{is_name}
use Rattle.qmp_rules.specs.Chains.{is_listed}
use Rattle.blk_history.specs.Fold.{With}
use Rattle.blk_history.specs.Legal.{IsFlightOver}
use Rattle.blk_history.specs.Line.{IsActorNamed, shown_by}
use Rattle.blk_history.specs.Machine.{Flight}
use Rattle.blk_history.specs.Names.{JobLine, RowNames, no_job}
use Rattle.blk_history.specs.declared.event.Event.{Event}
use Rattle.flat_machine.specs.State.{Guest}
use Rattle.flat_machine.specs.Blocked.{ScriptWaits, TraceWaits}
use Rattle.flat_machine.specs.Courses.{Course, KeepsOrder, course_of, course_after, past_waits, rest_of}
use Rattle.flat_machine.specs.Marks.{is_guest_held}
use Rattle.world_parts.specs.Coherent.{AreDrainsKept}
use Rattle.world_parts.specs.Face.{WorldSeen, seen_state}
use Rattle.world_parts.specs.Progress.{Progress, ended_in, answered_in}
use Rattle.qblk_inputs.specs.Room.{entries_for, bytes_for, HaveNumbers}

-- Of a guest: its wishes, how many pieces of its request in flight are left, where one is, and whether it is done.
pub record Task : Type 0 where
  pub wishes : List Wish
  pub left : Option ℕ
  pub is_done : Bool

-- of the script: its lines, and whether it is done
pub record ScriptTask : Type 0 where
  pub orders : List Order
  pub is_done : Bool

-- of both, the guests by number
pub record Tasks : Type 0 where
  pub script : ScriptTask
  pub guests : List Task

-- ---- how much that is

-- an actor that is not done has an end
abbrev pub end_entries : Bool → ℕ
end_entries is_done = if is_done then 0 else 1

-- entries for which no room is set aside yet
abbrev pub entries_to_come : Task → ℕ
entries_to_come task = entries_for task.wishes + end_entries task.is_done

abbrev pub entries_of_all : List Task → ℕ
entries_of_all [] = 0
entries_of_all (task ∷ tasks) = entries_to_come task + entries_of_all tasks

-- four of each line: its reply, and those of a job
abbrev pub entries_of_script : ScriptTask → ℕ
entries_of_script script = 4 * length script.orders + end_entries script.is_done

abbrev pub entries_of_tasks : Tasks → ℕ
entries_of_tasks tasks = entries_of_script tasks.script + entries_of_all tasks.guests

abbrev pub bytes_of_all : List Task → ℕ
bytes_of_all [] = 0
bytes_of_all (task ∷ tasks) = bytes_for task.wishes + bytes_of_all tasks

-- and those of a request in flight: its pieces, and its end
abbrev pub entries_in_flight : Option ℕ → ℕ
entries_in_flight None = 0
entries_in_flight (Some left) = left + 1

abbrev pub steps_of : Task → ℕ
steps_of task = entries_to_come task + entries_in_flight task.left

abbrev pub steps_of_all : List Task → ℕ
steps_of_all [] = 0
steps_of_all (task ∷ tasks) = steps_of task + steps_of_all tasks

abbrev pub steps_of_tasks : Tasks → ℕ
steps_of_tasks tasks = entries_of_script tasks.script + steps_of_all tasks.guests

-- ---- guests

-- so many pieces of a request in flight are left
abbrev pub HasPiecesLeft : ℕ → Flight → Type 0
HasPiecesLeft zero f = IsFlightOver f
HasPiecesLeft (suc n) f = (f.is_stopped ≡ false) × (f.next + suc n ≡ pieces_of f.op)

abbrev pub IsFlying : Option ℕ → Option Flight → Type 0
IsFlying None None = Unit {0}
IsFlying (Some left) (Some f) = HasPiecesLeft left f
IsFlying _ _ = ⊥

abbrev pub flight_entries : Option ℕ → ℕ
flight_entries None = 0
flight_entries (Some left) = 1

-- a guest's task is what its row says, its requests can be counted, and where it is done nothing is left
pub record IsTaskOf (row : Guest) (task : Task) : Type 0 where
  pub flying : IsFlying task.left row.flight
  pub count : ((row.done + flight_entries task.left) + length task.wishes) + 1 < 2 ^ 32
  pub numbers : HaveNumbers task.wishes
  pub used : task.is_done ≡ true → (task.wishes ≡ []) × (task.left ≡ None)

pub record IsTaskIn (p : Progress) (g : ℕ) (task : Task) : Type 0 where
  pub row : With (slice_get p.guests g) (λ row. IsTaskOf row task)
  pub ended : task.is_done ≡ is_listed (g + 1) (ended_in p.log.events)

abbrev pub AreTasksIn : Progress → List Task → Type 0
AreTasksIn p tasks = (g : ℕ) (task : Task) → slice_get tasks g ≡ Some task → IsTaskIn p g task

-- ---- the script

pub record IsScriptIn (p : Progress) (script : ScriptTask) : Type 0 where
  pub ended : script.is_done ≡ is_listed 0 (ended_in p.log.events)
  pub used : script.is_done ≡ true → script.orders ≡ []

-- ---- all of it

-- The tasks are those of the progress, and there is room for all that they add.
pub record CanGoOn (p : Progress) (tasks : Tasks) : Type 0 where
  pub few : length tasks.guests + 1 < 2 ^ 32
  pub count : length tasks.guests ≡ length p.guests
  pub guests : AreTasksIn p tasks.guests
  pub script : IsScriptIn p tasks.script
  pub entries : entries_of_tasks tasks ≤ p.spare.entries
  pub bytes : bytes_of_all tasks.guests ≤ p.spare.bytes

-- ---- script and traces

-- what is left of a trace is the same but for waits that are over
abbrev pub IsRestOf : Course → ℕ → Task → Type 0
IsRestOf c g task = With (rest_of c g) (λ wishes.
    past_waits c.answered wishes ≡ past_waits c.answered task.wishes)

pub record AreRestsOf (c : Course) (tasks : Tasks) : Type 0 where
  pub script : c.script ≡ tasks.script.orders
  pub count : length c.traces ≡ length tasks.guests
  pub traces : (g : ℕ) (task : Task) → slice_get tasks.guests g ≡ Some task → IsRestOf c g task

-- The history keeps the order of script and traces, and the tasks are what is left of them.
pub record KeepsTo (script : List Order) (traces : List (List Wish)) (h : List Event)
    (tasks : Tasks) : Type 0 where
  pub order : KeepsOrder (course_of script traces) h
  pub rests : AreRestsOf (course_after (course_of script traces) h) tasks

-- ---- lines of the transcript

-- the guests, and the jobs that began so far
abbrev pub names_in : List (List ℕ) → Progress → RowNames
names_in guests p = record { guests = guests; jobs = p.jobs }

-- the entry's guest, actor or job has a name, and it shows at most one block
pub record CanHaveLine (names : RowNames) (e : Event) : Type 0 where
  pub named : IsActorNamed names e
  pub shown : length (shown_by e) ≤ 65536

abbrev pub CanHaveLines : RowNames → List Event → Type 0
CanHaveLines names [] = Unit {0}
CanHaveLines names (e ∷ es) = CanHaveLine names e × CanHaveLines names es

-- each id of a job is a name
abbrev pub AreJobsNamed : List JobLine → Type 0
AreJobsNamed jobs = (job : ℕ) → job < length jobs → is_name (get_or jobs job no_job).id ≡ true

pub record CanPrint (names : RowNames) (events : List Event) : Type 0 where
  pub lines : CanHaveLines names events
  pub ids : AreJobsNamed names.jobs

-- so it is with the entries so far, and each job that began has its name
pub record CanPrintSoFar (guests : List (List ℕ)) (w : WorldSeen) : Type 0 where
  pub can : CanPrint (names_in guests w.progress) w.progress.log.events
  pub started : length w.progress.jobs ≡ w.table.started

-- ---- actors that can go no further

-- a guest waits for the line or the device that its wishes begin with; a wait that is over is no longer there
pub record TaskWaits (w : WorldSeen) (g : ℕ) (task : Task) : Type 0 where
  pub idle : task.left ≡ None
  pub passed : past_waits (answered_in w.progress.log.events) task.wishes ≡ task.wishes
  pub what : Waits (List ℕ)
  pub waits : TraceWaits (seen_state w) g task.wishes what

-- it is done, or waits
abbrev pub Rests : WorldSeen → ℕ → Task → Type 0
Rests w g task = (task.is_done ≡ true) ⊎ TaskWaits w g task

abbrev pub ScriptRests : WorldSeen → ScriptTask → Type 0
ScriptRests w script =
    (script.is_done ≡ true)
    ⊎ ((what : Waits (List ℕ)) × ScriptWaits (seen_state w) script.orders what)

-- ---- drains

-- a drain holds the guest, which asks for a request
pub record IsHeldBack (w : WorldSeen) (g : ℕ) (task : Task) : Type 0 where
  pub idle : task.left ≡ None
  pub held : is_guest_held (seen_state w) w.drains g ≡ true

-- a guest makes no entry: it is done, or waits, or a drain holds it
abbrev pub Halts : WorldSeen → ℕ → Task → Type 0
Halts w g task = Rests w g task ⊎ IsHeldBack w g task

-- the next line of the script is a command, or one that should be
abbrev pub IsGiving : List Order → Type 0
IsGiving (Give line given ∷ orders) = Unit {0}
IsGiving orders = ⊥

-- the script's line has to come again, for this guest's request in flight
pub record IsPutOffFor (p : Progress) (script : ScriptTask) : Type 0 where
  pub gives : IsGiving script.orders
  pub guest : ℕ
  pub flies : With (slice_get p.guests guest) (λ row. IsSome row.flight)

-- the script makes no entry: it is done, or waits, or its line has to come again
abbrev pub ScriptHalts : WorldSeen → ScriptTask → Type 0
ScriptHalts w script = ScriptRests w script ⊎ IsPutOffFor w.progress script

-- no drain stands but for the command that the script gives next, and for jobs that are asked to end
pub record AreDrainsOf (w : WorldSeen) (script : ScriptTask) : Type 0 where
  pub jobs : AreDrainsKept w.table w.drains
  pub command : (w.drains.command ≡ []) ⊎ IsGiving script.orders
