-- Runs that can't end stuck, and runs that meet no fault.
use Rattle.std.specs.Prelude.{◌≡◌, ℕ, ◌<◌, true, List, [], ◌∷◌, All, IsSome, Option, Some, None}
use mathlib.Core.Logic.{inl, inr}
use Rattle.std.specs.List.{filter_map}
use Rattle.blk_base.specs.declared.fault.DevNo.{DevNo}
use Rattle.blk_base.specs.declared.fault.Fault.TheVariants as faults
use Rattle.blk_base.specs.declared.fault.Outcome.{Outcome}
use Rattle.blk_base.specs.declared.fault.Outcome.TheVariants.{NoSpace}
use Rattle.blk_base.specs.declared.file.Opened.{Opened}
use Rattle.trace_codec.specs.declared.order.Order.TheVariants.{Give, Watch}
use Rattle.trace_codec.specs.declared.wish.Wish.{Wish}
use Rattle.trace_codec.specs.declared.wish.Wish.TheVariants.{Ask, Wait}
use Rattle.trace_codec.specs.Script.{Order}
use Rattle.qmp_codec.specs.Commands.{Cmd}
use Rattle.qmp_codec.specs.Lines.{command_at}
use Rattle.qmp_rules.specs.Chains.{disk_node}
use Rattle.qmp_rules.specs.Table.{RunTable, device_by_number}
use Rattle.blk_history.specs.Machine.{Flight}
use Rattle.blk_nodes.specs.Nodes.{Nodes, node_size}
use Rattle.node_copies.specs.Putting.{PutsRuns}
use Rattle.node_copies.specs.Sectors.{block_of, runs_of}
use Rattle.blk_history.specs.declared.entry.JobEnd.{JobEnd}
use Rattle.blk_history.specs.declared.entry.JobEnd.TheVariants.{Failed}
use Rattle.blk_history.specs.declared.event.Event.{Event}
use Rattle.blk_history.specs.declared.event.Event.TheVariants.{Piece, Reply, End}
use Rattle.flat_machine.specs.Courses.{Course, course_after, is_answered}
use Rattle.flat_machine.specs.EventLicence.{ReachesDevice, full_by, full_in_text}
use Rattle.flat_machine.specs.Licence.{faults_of}
use Rattle.flat_machine.specs.Replies.{command_read}
use Rattle.flat_machine.specs.State.{drive_of}
use Rattle.flat_machine.specs.declared.opening.Opening.{Opening}
use Rattle.world_parts.specs.Carrying.{FitsAll}
use Rattle.world_parts.specs.Counting.{seen_sources}
use Rattle.world_parts.specs.Face.{WorldSeen}
use Rattle.world_pieces.specs.Pieces.{piece_passes}
use Rattle.world_parts.specs.Piecing.{part_of}
use Rattle.qblk_core.specs.Completeness.{HasStood}
use Rattle.qblk_core.specs.declared.status.Status.{Status}
use Rattle.qblk_core.specs.declared.status.Status.TheVariants.{Fault}
use Rattle.qblk_inputs.specs.Inputs.{Work}
use Rattle.qblk_run.specs.Run.{Setting, HasOpened}
use Rattle.qblk_run.specs.Worlds.{GoesThrough, IsGuardedFor, IsLeftBy, IsPieceEvent, IsUneventful, MakesEvent}

-- the script has no await
abbrev pub AwaitsNothing : List Order → Type 0
AwaitsNothing [] = Unit {0}
AwaitsNothing (Give line given ∷ orders) = AwaitsNothing orders
AwaitsNothing (Watch line what ∷ orders) = ⊥

-- the lines that aren't passed over
abbrev pub lines_in : List Order → List ℕ
lines_in [] = []
lines_in (Give line given ∷ orders) = line ∷ lines_in orders
lines_in (Watch line what ∷ orders) = line ∷ lines_in orders

-- each wait of a trace is for one of these lines
abbrev pub WaitsForLines : List ℕ → List Wish → Type 0
WaitsForLines lines [] = Unit {0}
WaitsForLines lines (Ask op ∷ wishes) = WaitsForLines lines wishes
WaitsForLines lines (Wait line ∷ wishes) =
    (is_answered lines line ≡ true) × WaitsForLines lines wishes

pub record CanBeWhole (work : Work) : Type 0 where
  pub script : AwaitsNothing work.script
  pub traces : All (WaitsForLines (lines_in work.script)) work.traces

-- each of so many guests has a device
abbrev pub AreAttached : RunTable → ℕ → Type 0
AreAttached t n = (g : ℕ) → g < n → IsSome (device_by_number t g)

-- ---- runs that meet no fault

-- the device that the end of a job says to be full, and that an entry does
abbrev pub full_at_end : JobEnd → Option ℕ
full_at_end (Failed (faults.NoSpace dev)) = Some dev.0
full_at_end outcome = None

abbrev pub full_in : Event → Option ℕ
full_in (Piece g r k outcome got) = full_by outcome
full_in (Reply line given command text) = full_in_text text
full_in (End job outcome offset) = full_at_end outcome
full_in e = None

-- no entry names a fault, nor a device that is full: each piece is good, no command fails with a call of it, and no job does
pub record MeetsNone (h : List Event) : Type 0 where
  pub faults : faults_of h ≡ []
  pub full : filter_map full_in h ≡ []

-- no write of sectors of a block to a job's target would pass the capacity of a device
abbrev pub BlockHasSpace : Nodes → (target block : ℕ) → Type 0
BlockHasSpace nodes target block =
    (now : Nodes) (sectors : ℕ) (bytes : List ℕ) (dev : DevNo)
    → PutsRuns (runs_of (block_of (node_size nodes target) block) sectors)
    (block_of (node_size nodes target) block) nodes now target bytes (NoSpace dev) → ⊥

-- No write of an event without an entry would: of a block that is settled its copy. A drain writes nothing.
abbrev pub StepHasSpace : (orders : List Order) (w v : WorldSeen) → IsUneventful orders w v → Type 0
StepHasSpace orders w v (inl off) = Unit {0}
StepHasSpace orders w v (inr (inl took)) = Unit {0}
StepHasSpace orders w v (inr (inr (inl settled))) =
    BlockHasSpace w.nodes settled.target settled.transfer.cluster
StepHasSpace orders w v (inr (inr (inr drains))) = Unit {0}

-- nor would the copy of a block that is guarded before a piece
abbrev pub GuardHasSpace : (w v : WorldSeen) (g : ℕ) (f : Flight) → IsGuardedFor w v g f → Type 0
GuardHasSpace w v g f (inl same) = Unit {0}
GuardHasSpace w v g f (inr guards) = BlockHasSpace w.nodes guards.target guards.block

-- Of a piece that writes, its write would not pass the capacity of the device of the file which the guest's disk writes; of one that
-- reads, nor what it puts into an image's file below the drive, where a copy-on-read keeps it.
abbrev pub PieceHasSpace : WorldSeen → ℕ → Flight → Type 0
PieceHasSpace w g f = (drive dev : ℕ) → drive_of w.table g ≡ Some drive
    → ReachesDevice w.table (seen_sources w) drive dev
    → piece_passes w.nodes drive (disk_node w.table drive) f.op (part_of f) dev → ⊥

pub record HasPieceSpace (w v : WorldSeen) (g : ℕ) (outcome : Outcome)
    (event : IsPieceEvent w v g outcome) : Type 0 where
  pub guard : GuardHasSpace w event.makes.between g event.flight event.makes.guarded
  pub own : PieceHasSpace event.makes.between g event.flight

-- No write of the event with this first entry would pass the capacity of a device; of a command, of one that it calls.
abbrev pub EventHasSpace : (w v : WorldSeen) (e : Event) (es : List Event) → IsLeftBy w v e es
    → Type 0
EventHasSpace w v (Piece g r k outcome got) es left = HasPieceSpace w v g outcome left.1
EventHasSpace w v (Reply line given command text) es left =
    (c : Cmd) → command_read (command_at given) ≡ Some c → FitsAll w c
EventHasSpace w v e es left = Unit {0}

abbrev pub HasSpaceFor : (orders : List Order) (w v : WorldSeen) (es : List Event)
    → MakesEvent orders w v es → Type 0
HasSpaceFor orders w v [] made = StepHasSpace orders w v made
HasSpaceFor orders w v (e ∷ es) made = EventHasSpace w v e es made.left

-- so it is with each event, in the world before it
abbrev pub HaveSpace : (o : Opening) (c : Course) (w : WorldSeen) (events : List (List Event))
    (v : WorldSeen) → GoesThrough o c w events v → Type 0
HaveSpace o c w [] v through = Unit {0}
HaveSpace o c w (es ∷ events) v through =
    HasSpaceFor c.script w through.0 es through.2
    × HaveSpace o (course_after c es) through.0 events v through.3

-- no count has risen: of the store, of a device that was opened, or of the sink
pub record NoneHasRisen (old new : Setting) : Type 0 where
  pub store : HasStood old.store.faults new.store.faults
  pub sink : HasStood old.sink_faults new.sink_faults
  pub devices : (made : List Opened) → HasOpened old.store.opened new.store.opened made
      → All (λ o. (count : ℕ) → o.returned ≡ Some count → HasStood o.faults count) made

abbrev pub NamesNoFault : Status → Type 0
NamesNoFault (Fault from count) = ⊥
NamesNoFault status = Unit {0}
