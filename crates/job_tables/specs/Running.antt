-- What running jobs rest on beside how they stand: their numbers, and the disks that they read and write.
use Rattle.std.specs.Prelude.{◌≡◌, ◌≢◌, ◌⊎◌, ◌<◌, ℕ, true, false, List, [], ◌∷◌, Contains, Some, Bool}
use Rattle.qmp_codec.specs.declared.event.JobKind.{JobKind}
use Rattle.qmp_codec.specs.declared.event.JobKind.TheVariants.{Commit}
use Rattle.qmp_rules.specs.declared.change.Change.{Change}
use Rattle.qmp_rules.specs.declared.change.Change.TheVariants as change
use Rattle.qmp_rules.specs.declared.rows.NodeRecord.{NodeRecord}
use Rattle.qmp_rules.specs.declared.rows.JobRecord.{JobRecord}
use Rattle.qmp_rules.specs.declared.rows.FileState.TheVariants.{Used}
use Rattle.qmp_rules.specs.Changes.{changed}
use Rattle.qmp_rules.specs.Edits.{under_top, reads_one_of}
use Rattle.qmp_rules.specs.Table.{RunTable, file_state}
use Rattle.flat_machine.specs.Jobs.{target_written}
use Rattle.flat_machine.specs.Suiting.{IsAlone, HasNoNode, FormattingSuits}
use Rattle.flat_machine.specs.Wiring.{StandsFor}

-- ---- nodes

-- so it is with the node of this id
abbrev pub IsAt : RunTable → ℕ → (NodeRecord → Type 0) → Type 0
IsAt t id P = (node : NodeRecord) → Contains t.nodes node → node.id ≡ id → P node

-- it has a flat disk
abbrev pub IsSettledAt : RunTable → ℕ → Type 0
IsSettledAt t id = IsAt t id (λ node. node.is_settled ≡ true)

abbrev pub IsUnsettledAt : RunTable → ℕ → Type 0
IsUnsettledAt t id = IsAt t id (λ node. node.is_settled ≡ false)

abbrev pub IsWritableAt : RunTable → ℕ → Type 0
IsWritableAt t id = IsAt t id (λ node. node.read_only ≡ false)

-- a file for which it stands was used
abbrev pub HasUsedFile : RunTable → ℕ → Type 0
HasUsedFile t id =
    IsAt t id (λ node. (name : List ℕ) → node.filename ≡ Some name → file_state t name ≡ Some Used)

-- a node that a job writes
pub record IsWrittenAt (t : RunTable) (id : ℕ) : Type 0 where
  pub writable : IsWritableAt t id
  pub unsettled : IsUnsettledAt t id
  pub used : HasUsedFile t id

-- ---- all jobs

-- the number of the next one is above those of all
abbrev pub NumbersAreBelow : RunTable → Type 0
NumbersAreBelow t = (row : JobRecord) → Contains t.jobs row → row.number < t.started

abbrev pub SourcesAreSettled : RunTable → Type 0
SourcesAreSettled t = (row : JobRecord) → Contains t.jobs row → IsSettledAt t row.source

-- the target of a backup or mirror, and the base of a commit
abbrev pub TargetsAreWritten : RunTable → Type 0
TargetsAreWritten t =
    (row : JobRecord) (target : ℕ) → Contains t.jobs row → target_written row ≡ Some target
    → IsWrittenAt t target

-- Each job has a number below that of the next one, a source with a flat disk, and where it writes a node, one that may be
-- written, has no flat disk, and stands for no file but a used one.
pub record JobsRun (t : RunTable) : Type 0 where
  pub numbers : NumbersAreBelow t
  pub sources : SourcesAreSettled t
  pub targets : TargetsAreWritten t

-- ---- changes that leave it

-- no job has the node as its source or top
abbrev pub IsNoSource : List JobRecord → ℕ → Type 0
IsNoSource jobs node = (row : JobRecord) → Contains jobs row → row.source ≢ node

-- what stands for the file has no parent
abbrev pub IsFreeFile : RunTable → List ℕ → Type 0
IsFreeFile t name = (row : NodeRecord) → StandsFor t name row → IsAlone t row.id

-- Of changes by which no job begins or ends. What no disk and no file changes is asked nothing.
abbrev pub LeavesDisks : RunTable → Change → Type 0
LeavesDisks t (change.MakeFile name size) = HasNoNode t name
LeavesDisks t (change.FormatFile node name size backing_file backing_fmt) =
    FormattingSuits t node name
LeavesDisks t (change.SpoilFile name) = IsFreeFile t name
LeavesDisks t (change.Unsettle node) = IsNoSource t.jobs node
LeavesDisks t c = Unit {0}

abbrev pub AllLeaveDisks : RunTable → List Change → Type 0
AllLeaveDisks t [] = Unit {0}
AllLeaveDisks t (c ∷ changes) = LeavesDisks t c × AllLeaveDisks (changed t c) changes

-- ---- starts

-- a commit makes its base writable
abbrev pub makes_writable : JobRecord → JobKind → Bool
makes_writable row Commit = row.made_writable.base
makes_writable row kind = false

-- what loses its disk by the start of a commit is no source of another job
abbrev pub UnsettlesNoSource : RunTable → JobRecord → JobKind → Type 0
UnsettlesNoSource t row Commit =
    (node : NodeRecord) → Contains t.nodes node
    → reads_one_of t row.source (under_top row) node ≡ true → IsNoSource t.jobs node.id
UnsettlesNoSource t row kind = Unit {0}

-- The number of a job is the next one, its source has a flat disk, and what it writes may be written, or is made so.
pub record RunBegins (t : RunTable) (row : JobRecord) : Type 0 where
  pub number : row.number ≡ t.started
  pub source : IsSettledAt t row.source
  pub target : (target : ℕ) → target_written row ≡ Some target
      → IsWritableAt t target ⊎ (makes_writable row row.kind ≡ true)
  pub others : UnsettlesNoSource t row row.kind
