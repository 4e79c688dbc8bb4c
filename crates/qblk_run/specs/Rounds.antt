-- What several turns do, one behind the other.
use Rattle.std.specs.Prelude.{◌≡◌, ◌⊎◌, ℕ, ◌+◌, ◌<◌, ◌≤◌, Bool, true, false, List, length, slice_get, slice_set, Some}
use Rattle.trace_codec.specs.declared.wish.Wish.{Wish}
use Rattle.trace_codec.specs.declared.waits.Waits.{Waits}
use Rattle.trace_codec.specs.Script.{Order}
use Rattle.flat_machine.specs.Blocked.{ScriptWaits, SlotWaits, TraceWaits}
use Rattle.world_parts.specs.Face.{WorldSeen, seen_state}
use Rattle.qblk_run.specs.Slots.{SlotHalts, StandsInRun, parts_left}
use Rattle.qblk_run.specs.Tasks.{Task, Tasks, AreDrainsOf, CanGoOn, Halts, KeepsTo, CanPrintSoFar, Rests, ScriptHalts, ScriptRests, steps_of_tasks}
use Rattle.qblk_run.specs.Turns.{IsTurn}
use Rattle.qblk_run.specs.Worlds.{ComesOn, IsUndone}

-- The history still keeps the order of script and traces, and what is left of these are the tasks.
abbrev pub OrderStays : WorldSeen → WorldSeen → Tasks → Tasks → Type 0
OrderStays w v before after = (script : List Order) (traces : List (List Wish))
    → KeepsTo script traces w.progress.log.events before
    → KeepsTo script traces v.progress.log.events after

-- Its entries have lines.
abbrev pub LinesStay : WorldSeen → WorldSeen → Tasks → Type 0
LinesStay w v before = (guests : List (List ℕ)) → length before.guests ≤ length guests
    → CanPrintSoFar guests w → CanPrintSoFar guests v

-- entries to come, with those that are set aside for jobs
abbrev pub steps_in : WorldSeen → Tasks → ℕ
steps_in w tasks = steps_of_tasks tasks + w.progress.aside

-- Fewer entries are to come; or no more are, and less is left to copy.
abbrev pub LeavesLess : WorldSeen → WorldSeen → Tasks → Tasks → Type 0
LeavesLess w v before after =
    (steps_in v after < steps_in w before)
    ⊎ ((steps_in v after ≤ steps_in w before) × (parts_left v.works < parts_left w.works))

abbrev pub LeavesNoMore : WorldSeen → WorldSeen → Tasks → Tasks → Type 0
LeavesNoMore w v before after =
    (steps_in v after < steps_in w before)
    ⊎ ((steps_in v after ≤ steps_in w before) × (parts_left v.works ≤ parts_left w.works))

-- after some turns the actors can go on
pub record Continues (w v : WorldSeen) (before after : Tasks) : Type 0 where
  pub can : CanGoOn v.progress after
  pub order : OrderStays w v before after
  pub lines : LinesStay w v before
  pub drains : AreDrainsOf w before.script → AreDrainsOf v after.script
  pub stands : StandsInRun w → StandsInRun v
  pub more : LeavesNoMore w v before after
  pub count : length after.guests ≡ length before.guests

-- memory wasn't had for a line of the script, behind some turns
pub record GivesUp (w v : WorldSeen) (before : Tasks) : Type 0 where
  pub near : WorldSeen
  pub after : Tasks
  pub so : Continues w near before after
  pub comes : ComesOn w near before.script.orders after.script.orders
  pub undone : IsUndone after.script.orders near v

-- each guest is done or waits
abbrev pub GuestsRest : WorldSeen → ℕ → List Task → Type 0
GuestsRest w n tasks =
    (g : ℕ) (task : Task) → g < n → slice_get tasks g ≡ Some task → Rests w g task

-- each of the first n slots has no job, or one that is ready and waits
abbrev pub SlotsWait : WorldSeen → ℕ → Type 0
SlotsWait w n = (slot : ℕ) → slot < n → SlotWaits (seen_state w) slot

-- so is the script done or waits, and no job is there but those that are ready and wait
pub record AllRest (w : WorldSeen) (tasks : Tasks) : Type 0 where
  pub script : ScriptRests w tasks.script
  pub guests : GuestsRest w (length tasks.guests) tasks.guests
  pub slots : SlotsWait w 16

-- each of the first n guests makes no entry
abbrev pub GuestsHalt : WorldSeen → ℕ → List Task → Type 0
GuestsHalt w n tasks =
    (g : ℕ) (task : Task) → g < n → slice_get tasks g ≡ Some task → Halts w g task

-- for the first n slots nothing can be done
abbrev pub SlotsHalt : WorldSeen → ℕ → Type 0
SlotsHalt w n = (slot : ℕ) → slot < n → SlotHalts w slot

-- Something was done, and less is left to do; or nothing was by the script and the first n guests, which can make no entry now, nor
-- for the first so many slots.
abbrev pub Goes : WorldSeen → WorldSeen → Tasks → Tasks → ℕ → ℕ → Bool → Type 0
Goes w v before after n slots true = LeavesLess w v before after
Goes w v before after n slots false =
    ScriptHalts v after.script × GuestsHalt v n after.guests × SlotsHalt v slots

-- the guests had their turns: less is left, or nothing was done, and the first n make no entry now
abbrev pub AreGuestTurns : WorldSeen → WorldSeen → Tasks → Tasks → ℕ → Bool → Type 0
AreGuestTurns w v before after n true = LeavesLess w v before after
AreGuestTurns w v before after n false = (v ≡ w) × GuestsHalt v n after.guests

-- so it is with the first n slots, of which some may hold disks; where each of them waits, none does that did not
abbrev pub AreSlotTurns : WorldSeen → WorldSeen → Tasks → ℕ → Bool → Type 0
AreSlotTurns w v tasks n true = LeavesLess w v tasks tasks
AreSlotTurns w v tasks n false =
    (v ≡ record w { drains = v.drains }) × SlotsHalt v n × (SlotsWait v n → v ≡ w)

-- a guest of a list had its turn
pub record HasTurn (w v : WorldSeen) (before after : List Task) (g : ℕ)
    (moved : Bool) : Type 0 where
  pub task : Task
  pub now : Task
  pub there : slice_get before g ≡ Some task
  pub after_is : after ≡ slice_set before g now
  pub turn : IsTurn w v g task now moved

-- ---- who is named

abbrev pub AllAreDone : List Task → Type 0
AllAreDone tasks = (g : ℕ) (task : Task) → slice_get tasks g ≡ Some task → task.is_done ≡ true

-- script and guests are done
pub record AreDone (tasks : Tasks) : Type 0 where
  pub script : tasks.script.is_done ≡ true
  pub guests : AllAreDone tasks.guests

-- a guest is the first that is not done
pub record IsFirstGuest (w : WorldSeen) (tasks : List Task) (g : ℕ) (what : Waits (List ℕ)) : Type 0
  where
    pub task : Task
    pub there : slice_get tasks g ≡ Some task
    pub runs : task.is_done ≡ false
    pub waits : TraceWaits (seen_state w) g task.wishes what
    pub before : (other : ℕ) (done : Task) → other < g → slice_get tasks other ≡ Some done
        → done.is_done ≡ true

-- the first actor that is not done, and what it waits for
abbrev pub IsFirstUndone : WorldSeen → Tasks → ℕ → Waits (List ℕ) → Type 0
IsFirstUndone w tasks actor what =
    ((actor ≡ 0) × (tasks.script.is_done ≡ false)
    × ScriptWaits (seen_state w) tasks.script.orders what)
    ⊎ ((tasks.script.is_done ≡ true)
    × ((g : ℕ) × (actor ≡ g + 1) × IsFirstGuest w tasks.guests g what))
