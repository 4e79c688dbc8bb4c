-- Marks, and drained moments.
use Rattle.std.specs.Prelude.{◌≡◌, ℕ, ◌<◌, ◌==◌, Bool, true, false, ◌&&◌, not, if◌then◌else◌, List, [], ◌∷◌, ◌++◌, filter, slice_get, All, Option, Some, None, IsSome, option_and_then, Result, Ok}
use Rattle.std.specs.List.{list_any}
use Rattle.qmp_codec.specs.Commands.{Act, Cmd}
use Rattle.qmp_codec.specs.Lines.{Stop, command_at}
use Rattle.qmp_codec.specs.declared.command.Action.TheVariants as action
use Rattle.qmp_codec.specs.declared.command.Command.TheVariants as command
use Rattle.qmp_codec.specs.declared.event.JobKind.{JobKind}
use Rattle.qmp_codec.specs.declared.event.JobKind.TheVariants.{Commit, Mirror, Backup}
use Rattle.qmp_rules.specs.declared.rows.AskedEnd.{AskedEnd}
use Rattle.qmp_rules.specs.declared.rows.AskedEnd.TheVariants as asked
use Rattle.qmp_rules.specs.declared.rows.JobRecord.{JobRecord}
use Rattle.qmp_rules.specs.Table.{RunTable, id_named, device_named, job_at}
use Rattle.qmp_rules.specs.declared.told.Told.{Told}
use Rattle.qmp_rules.specs.Answers.{refusal_to}
use Rattle.qmp_rules.specs.Chains.{is_listed, disk_node}
use Rattle.blk_history.specs.Fold.{Each, With}
use Rattle.flat_machine.specs.State.{State, Guest, guest_at, disk_of_guest}
use Rattle.flat_machine.specs.Jobs.{can_be_ready}
use Rattle.flat_machine.specs.Replies.{is_accepted}
use Rattle.flat_machine.specs.Machine.{after}
use Rattle.blk_history.specs.declared.entry.JobEnd.{JobEnd}
use Rattle.blk_history.specs.declared.entry.JobEnd.TheVariants.{Completed, Pivoted, Copied}
use Rattle.blk_history.specs.declared.event.Event.{Event}
use Rattle.blk_history.specs.declared.event.Event.TheVariants.{Reply, Start, End}

-- ---- marks: the nodes whose disks an entry marks

abbrev pub ids_of : Option ℕ → List ℕ
ids_of None = []
ids_of (Some id) = id ∷ []

-- the node of a snapshot
abbrev pub action_marks : RunTable → List Act → List ℕ
action_marks t [] = []
action_marks t (action.Snapshot c ∷ actions) = ids_of (id_named t c.node) ++ action_marks t actions
action_marks t (act ∷ actions) = action_marks t actions

abbrev pub snapshot_marks : RunTable → Result Cmd Stop → List ℕ
snapshot_marks t (Ok (command.BlockdevSnapshot c)) = ids_of (id_named t c.node)
snapshot_marks t (Ok (command.Transaction c)) = action_marks t c.actions
snapshot_marks t line = []

abbrev pub start_marks : JobRecord → JobKind → List ℕ
start_marks row Backup = row.source ∷ []
start_marks row kind = []

abbrev pub end_marks : JobRecord → JobKind → JobEnd → List ℕ
end_marks row Mirror Pivoted = row.source ∷ []
end_marks row Mirror Copied = row.source ∷ []
end_marks row Commit Completed = row.source ∷ []
end_marks row Commit Pivoted = row.source ∷ []
end_marks row kind outcome = []

abbrev pub of_job : Option JobRecord → (JobRecord → List ℕ) → List ℕ
of_job None f = []
of_job (Some row) f = f row

-- an accepted line, what its command marks
abbrev pub reply_marks : RunTable → (given text : List ℕ) → List ℕ
reply_marks t given text = if is_accepted text then snapshot_marks t (command_at given) else []

-- The start of a backup marks its source, an accepted snapshot its node, the end of a mirror that pivots or leaves a copy its
-- source, and the end of a commit without error its top.
abbrev pub marks_of : State → Event → List ℕ
marks_of s (Reply line given command text) = reply_marks s.table given text
marks_of s (Start job) = of_job (job_at s.table job) (λ row. start_marks row row.kind)
marks_of s (End job outcome offset) =
    of_job (job_at s.table job) (λ row. end_marks row row.kind outcome)
marks_of s e = []

-- none of these guests that is on the node has a request in flight
abbrev pub IsCalm : RunTable → List Guest → ℕ → Type 0
IsCalm t guests node = (g : ℕ) (row : Guest) → slice_get guests g ≡ Some row
    → disk_of_guest t g ≡ Some (disk_node t node) → row.flight ≡ None

-- nor on any of these
abbrev pub AreCalm : RunTable → List Guest → List ℕ → Type 0
AreCalm t guests disks = All (IsCalm t guests) disks

-- no mark splits a request
abbrev pub NoneSplits : State → List Event → Type 0
NoneSplits = Each after (λ s e. AreCalm s.table s.guests (marks_of s e))

-- ---- what must be drained

-- the sources of the backups of a transaction
abbrev pub backup_sources : RunTable → List Act → List ℕ
backup_sources t [] = []
backup_sources t (action.Backup c ∷ actions) =
    ids_of (id_named t c.device) ++ backup_sources t actions
backup_sources t (act ∷ actions) = backup_sources t actions

-- the disk of the guest whose device goes
abbrev pub device_disk : RunTable → List ℕ → List ℕ
device_disk t id =
    ids_of (option_and_then (λ device. disk_of_guest t device.number) (device_named t id))

-- a command must drain the disks of the marks that it makes, and `device_del` that of its guest
abbrev pub drained_by : RunTable → Cmd → List ℕ
drained_by t (command.BlockdevSnapshot c) = ids_of (id_named t c.node)
drained_by t (command.BlockdevBackup c) = ids_of (id_named t c.device)
drained_by t (command.Transaction c) = action_marks t c.actions ++ backup_sources t c.actions
drained_by t (command.DeviceDel id) = device_disk t id
drained_by t c = []

-- a job is asked to end, and not cancelled for good
abbrev pub ends_by : AskedEnd → Bool
ends_by asked.Complete = true
ends_by asked.Leave = true
ends_by asked.Nothing = false
ends_by asked.Stop = false

-- A mirror or an active commit that is asked to end must drain its source. No guest is on the top of another commit.
abbrev pub must_drain : JobRecord → Bool
must_drain row = can_be_ready row row.kind && ends_by row.asked

-- ---- drains that stand

-- The disks that are held: of the last command, where it has to come again, and of the jobs that are about to end. No entry
-- tells of them.
pub record Drained : Type 0 where
  pub command : List ℕ
  pub jobs : List ℕ

abbrev pub none_drained : Drained
none_drained = record { command = []; jobs = [] }

-- a command has to come again, or was answered
abbrev pub after_later : List ℕ → Drained → Drained
after_later disks drains = record drains { command = disks }

abbrev pub after_reply : Drained → Drained
after_reply drains = record drains { command = [] }

-- a turn of a job that is asked to end, and its end
abbrev pub after_turn : ℕ → Drained → Drained
after_turn job drains =
    if is_listed job drains.jobs then drains else record drains { jobs = drains.jobs ++ job ∷ [] }

abbrev pub after_end : ℕ → Drained → Drained
after_end job drains = record drains { jobs = filter (λ other. not (other == job)) drains.jobs }

-- the disks that jobs hold
abbrev pub job_disks : RunTable → List ℕ → List ℕ
job_disks t [] = []
job_disks t (job ∷ jobs) = of_job (job_at t job) (λ row. row.source ∷ []) ++ job_disks t jobs

-- a drain holds the guests of these disks, and nothing else holds a guest
abbrev pub is_on : RunTable → ℕ → ℕ → Bool
is_on t node disk = disk_node t disk == node

abbrev pub holds_disk : RunTable → Drained → Option ℕ → Bool
holds_disk t drains None = false
holds_disk t drains (Some node) =
    list_any (is_on t node) (drains.command ++ job_disks t drains.jobs)

abbrev pub is_guest_held : State → Drained → ℕ → Bool
is_guest_held s drains g = holds_disk s.table drains (disk_of_guest s.table g)

-- ---- what has to come again

-- a request that is in flight on one of these disks
pub record IsInTheWay (s : State) (disks : List ℕ) (g r : ℕ) : Type 0 where
  pub request : With (guest_at s g) (λ row. (r ≡ row.done) × IsSome row.flight)
  pub on_disk : With (disk_of_guest s.table g) (λ node. list_any (is_on s.table node) disks ≡ true)

-- the first guest's, by number
pub record MustWait (s : State) (disks : List ℕ) (g r : ℕ) : Type 0 where
  pub waits : IsInTheWay s disks g r
  pub first : (other : ℕ) → other < g → (request : ℕ) → IsInTheWay s disks other request → ⊥

-- A command has to come again where nothing refuses it, and such a request is on a disk that it must drain; so has a job that
-- is asked to end, for its source.
pub record HasToComeAgain (s : State) (told : Told) (c : Cmd) (g r : ℕ) : Type 0 where
  pub accepted : refusal_to s.table told c ≡ None
  pub waits : MustWait s (drained_by s.table c) g r

pub record HasToWait (s : State) (row : JobRecord) (g r : ℕ) : Type 0 where
  pub asked : must_drain row ≡ true
  pub waits : MustWait s (row.source ∷ []) g r
