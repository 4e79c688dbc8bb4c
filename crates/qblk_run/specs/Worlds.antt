-- The worlds that a run goes through: one event of the world after another, each as its call says.
use Rattle.std.specs.Prelude.{◌≡◌, ◌⊎◌, ℕ, Bool, true, false, List, [], ◌∷◌, ◌++◌, Option, Some, None, Result}
use Rattle.trace_codec.specs.declared.order.Order.TheVariants.{Give}
use Rattle.trace_codec.specs.Script.{Order}
use Rattle.blk_base.specs.declared.fault.Fault.{Fault}
use Rattle.blk_base.specs.declared.fault.Outcome.{Outcome}
use Rattle.blk_copy.specs.declared.transfers.Transfer.{Transfer}
use Rattle.blk_history.specs.Disk.{is_write}
use Rattle.blk_history.specs.Fold.{With}
use Rattle.blk_history.specs.Legal.{IsFlightOver}
use Rattle.blk_history.specs.Machine.{Flight}
use Rattle.blk_history.specs.Small.{IsSmallEnd}
use Rattle.blk_history.specs.declared.entry.JobEnd.{JobEnd}
use Rattle.blk_history.specs.declared.event.Event.{Event}
use Rattle.blk_history.specs.declared.event.Event.TheVariants.{Admit, Refuse, Piece, Retire, Reply, Reached, Start, Ready, End, Done}
use Rattle.block_jobs.specs.Work.{block_at}
use Rattle.trace_codec.specs.declared.op.Op.{Op}
use Rattle.trace_codec.specs.declared.op.Op.TheVariants.{Write, Zero}
use Rattle.qmp_codec.specs.Lines.{command_at}
use Rattle.qmp_rules.specs.Answers.{line_text}
use Rattle.qmp_rules.specs.Chains.{disk_node}
use Rattle.qmp_rules.specs.Table.{RunTable, job_at}
use Rattle.qmp_rules.specs.declared.rows.JobRecord.{JobRecord}
use Rattle.flat_machine.specs.Courses.{Course, course_after}
use Rattle.flat_machine.specs.Entries.{all_of}
use Rattle.flat_machine.specs.Legal.{IsMet, IsNotDone}
use Rattle.flat_machine.specs.Marks.{after_turn, must_drain}
use Rattle.flat_machine.specs.State.{drive_of}
use Rattle.flat_machine.specs.declared.opening.Opening.{Opening}
use Rattle.world_parts.specs.declared.admission.Admission.TheVariants.{Admitted, Refused as NotAdmitted}
use Rattle.world_parts.specs.Carrying.{IsReplied, IsPutOff, IsPutBackIn}
use Rattle.world_parts.specs.Comes.{Comes}
use Rattle.world_parts.specs.Counting.{seen_sources}
use Rattle.world_parts.specs.Face.{WorldSeen, seen_state}
use Rattle.world_parts.specs.Jobs.{BeginsNone, BeginsOne, EndsJob, GuardsBlock, ReadiesJob, SettlesBlock, TakesBlock}
use Rattle.world_pieces.specs.Pieces.{IsPieceMade, HasPieceLicence}
use Rattle.world_goings.specs.Copied.{WasRead}
use Rattle.world_jobs.specs.Guarding.{backup_of}
use Rattle.world_parts.specs.Piecing.{part_of}
use Rattle.world_parts.specs.Progress.{flight_at, with_retirement, HasNext}
use Rattle.world_parts.specs.Saying.{given_line}
use Rattle.world_parts.specs.Steps.{with_history, after_admission, IsAnswered, after_wait, after_actor_end, IsActorIdle}

-- ---- pieces

-- what the backup of the disk that the request writes still needs of the block of its next piece is copied
pub record GuardsFor (w v : WorldSeen) (g : ℕ) (f : Flight) : Type 0 where
  pub drive : ℕ
  pub on : drive_of w.table g ≡ Some drive
  pub writes : is_write f.op ≡ true
  pub row : JobRecord
  pub backup : backup_of w.table (disk_node w.table drive) ≡ Some row
  pub target : ℕ
  pub block : ℕ
  pub block_is : block ≡ block_at (part_of f).start
  pub guards : GuardsBlock w v drive f.op row target block

-- the request writes nothing, or there is no such backup
abbrev pub NeedsNoGuard : Op → Option JobRecord → Type 0
NeedsNoGuard (Write span payload) backup = backup ≡ None
NeedsNoGuard (Zero span) backup = backup ≡ None
NeedsNoGuard op backup = Unit {0}

-- before a piece
abbrev pub IsGuardedFor : WorldSeen → WorldSeen → ℕ → Flight → Type 0
IsGuardedFor w v g f =
    ((v ≡ w) × With (drive_of w.table g)
    (λ drive. NeedsNoGuard f.op (backup_of w.table (disk_node w.table drive))))
    ⊎ GuardsFor w v g f

-- the next piece of this request was made, with its cause
pub record MakesPiece (w v : WorldSeen) (g : ℕ) (f : Flight) (outcome : Outcome) : Type 0 where
  pub between : WorldSeen
  pub guarded : IsGuardedFor w between g f
  pub made : IsPieceMade between v g f outcome
  pub licence : HasPieceLicence between v g f outcome made

-- that of the guest's request in flight
pub record IsPieceEvent (w v : WorldSeen) (g : ℕ) (outcome : Outcome) : Type 0 where
  pub flight : Flight
  pub there : flight_at w.progress.guests g ≡ Some flight
  pub makes : MakesPiece w v g flight outcome

-- ---- replies

-- behind a reply to which the table was this before: nothing, or the entry of the job that begins
abbrev pub AreStartsBehind : RunTable → WorldSeen → WorldSeen → List Event → Type 0
AreStartsBehind t w v [] = BeginsNone t w v
AreStartsBehind t w v (Start job ∷ []) = (one : BeginsOne t w v) × (one.row.number ≡ job)
AreStartsBehind t w v es = ⊥

-- the line was answered with this text, with its cause, and behind that stand these entries
pub record IsReplyOf (w v : WorldSeen) (line : ℕ) (given text : List ℕ)
    (es : List Event) : Type 0 where
  pub between : WorldSeen
  pub replied : IsReplied w between (given_line line given)
  pub says : text ≡ line_text w.table replied.told given
  pub begins : AreStartsBehind w.table between v es

-- ---- readiness and ends of jobs

-- with its cause; the numbers of a fault that it names have 64 bits
pub record IsEndOf (w v : WorldSeen) (job : ℕ) (why : JobEnd) (offset : ℕ) : Type 0 where
  pub row : JobRecord
  pub number : row.number ≡ job
  pub ends : EndsJob w v row why offset
  pub fits : IsSmallEnd why

-- and that it is ready: no call that was made for it failed, and where the store tells its files, its target reads as its source then
pub record IsReadyOf (w v : WorldSeen) (job : ℕ) : Type 0 where
  pub row : JobRecord
  pub number : row.number ≡ job
  pub met : (seen_sources w).met_by row.number ≡ None
  pub readies : ReadiesJob w v row

-- ---- events with entries

-- what the call leaves that makes this entry alone
abbrev pub IsLeftAlone : WorldSeen → WorldSeen → Event → Type 0
IsLeftAlone w v (Admit g r op) =
    IsAnswered w g op (Admitted r) × (v ≡ after_admission w g op (Admitted r))
IsLeftAlone w v (Refuse g r op why) =
    IsAnswered w g op (NotAdmitted why) × (v ≡ after_admission w g op (NotAdmitted why))
IsLeftAlone w v (Piece g r k outcome got) = IsPieceEvent w v g outcome
IsLeftAlone w v (Retire g r) = v ≡ with_history w (with_retirement g)
IsLeftAlone w v (Reached line what) = v ≡ after_wait w line what true
IsLeftAlone w v (Ready job) = IsReadyOf w v job
IsLeftAlone w v (End job why offset) = IsEndOf w v job why offset
IsLeftAlone w v (Done actor) = v ≡ after_actor_end w actor
IsLeftAlone w v e = ⊥

-- What the call leaves that makes these entries: a reply with the start of its job behind it, or one alone.
abbrev pub IsLeftBy : WorldSeen → WorldSeen → Event → List Event → Type 0
IsLeftBy w v (Reply line given command text) es = IsReplyOf w v line given text es
IsLeftBy w v e es = (es ≡ []) × IsLeftAlone w v e

-- What the call asks of the world that it is made in. Of a request that is asked for, its answer says it.
abbrev pub MayCome : WorldSeen → Event → Type 0
MayCome w (Piece g r k outcome got) = With (flight_at w.progress.guests g) HasNext
MayCome w (Retire g r) = With (flight_at w.progress.guests g) IsFlightOver
MayCome w (Reply line given command text) = IsNotDone (seen_state w) 0
MayCome w (Reached line what) = IsNotDone (seen_state w) 0 × IsMet (seen_state w) what
MayCome w (Done actor) = IsNotDone (seen_state w) actor × IsActorIdle w.progress.guests actor
MayCome w e = Unit {0}

pub record IsEventOf (w v : WorldSeen) (e : Event) (es : List Event) : Type 0 where
  pub may : MayCome w e
  pub adds : v.progress.log.events ≡ w.progress.log.events ++ e ∷ es
  pub left : IsLeftBy w v e es

-- ---- events without an entry

-- the script's next line has to come again
abbrev pub IsPutOffBy : List Order → WorldSeen → WorldSeen → Type 0
IsPutOffBy (Give line given ∷ orders) w v =
    (g : ℕ) × (r : ℕ) × IsPutOff w v (given_line line given) g r
IsPutOffBy orders w v = ⊥

-- a block is read for a job
pub record IsTakeStep (w v : WorldSeen) : Type 0 where
  pub row : JobRecord
  pub buffer : List ℕ
  pub answer : Result (Option Transfer) Fault
  pub takes : TakesBlock w v row buffer answer

-- a block is written for one, of the bytes that were read
pub record IsSettleStep (w v : WorldSeen) : Type 0 where
  pub row : JobRecord
  pub target : ℕ
  pub transfer : Transfer
  pub bytes : List ℕ
  pub answer : Bool
  pub read : (o : Opening) → Comes o w → WasRead o w row transfer bytes
  pub settles : SettlesBlock w v row target transfer bytes answer

-- the source of a job that is asked to end is held from now on
pub record IsDrainStep (w v : WorldSeen) : Type 0 where
  pub row : JobRecord
  pub there : job_at w.table row.number ≡ Some row
  pub asked : must_drain row ≡ true
  pub kept : v ≡ record w { drains = after_turn row.number w.drains }

abbrev pub IsUneventful : List Order → WorldSeen → WorldSeen → Type 0
IsUneventful orders w v =
    IsPutOffBy orders w v ⊎ IsTakeStep w v ⊎ IsSettleStep w v ⊎ IsDrainStep w v

-- ---- one event after another

-- what the next event does, while these lines are left of the script
abbrev pub MakesEvent : List Order → WorldSeen → WorldSeen → List Event → Type 0
MakesEvent orders w v [] = IsUneventful orders w v
MakesEvent orders w v (e ∷ es) = IsEventOf w v e es

-- These events lead from one world to another, in which script and traces have this to do at first. Each world between them comes
-- of the opening.
abbrev pub GoesThrough : Opening → Course → WorldSeen → List (List Event) → WorldSeen → Type 0
GoesThrough o c w [] v = (v ≡ w) × Comes o w
GoesThrough o c w (es ∷ events) v = (x : WorldSeen) × Comes o w × MakesEvent c.script w x es
    × GoesThrough o (course_after c es) x events v

-- ---- a world in its run

-- It comes of the opening, its entries are those of events that lead to it from the world that the run began with, and these
-- lines are left of the script.
pub record HasCome (o : Opening) (c : Course) (first w : WorldSeen)
    (orders : List Order) : Type 0 where
  pub comes : Comes o w
  pub left : (course_after c w.progress.log.events).script ≡ orders
  pub events : List (List Event)
  pub all : all_of events ≡ w.progress.log.events
  pub through : GoesThrough o c first events w

-- so it is with what is made of a world that has come
abbrev pub ComesOn : WorldSeen → WorldSeen → List Order → List Order → Type 0
ComesOn w v before after =
    (o : Opening) (c : Course) (first : WorldSeen) → HasCome o c first w before
    → HasCome o c first v after

-- by a turn that leaves the script as it is
abbrev pub ComesOnBeside : WorldSeen → WorldSeen → Type 0
ComesOnBeside w v = (orders : List Order) → ComesOn w v orders orders

-- ---- want of memory

-- memory wasn't had for the script's next line
abbrev pub IsUndoneBy : List Order → WorldSeen → WorldSeen → Type 0
IsUndoneBy (Give line given ∷ orders) w v = IsPutBackIn w v (command_at given)
IsUndoneBy orders w v = ⊥

pub record IsUndone (orders : List Order) (w v : WorldSeen) : Type 0 where
  pub by : IsUndoneBy orders w v
  pub comes : (o : Opening) → Comes o w → Comes o v

-- the world that is closed: the one that the events lead to, but where memory wasn't had for the line that the script gives next
abbrev pub IsLast : Bool → List Order → WorldSeen → WorldSeen → Type 0
IsLast true orders near last = last ≡ near
IsLast false orders near last = (last ≡ near) ⊎ IsUndoneBy orders near last
