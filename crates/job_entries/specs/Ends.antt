-- What the end of a job rests on, and what it leaves of nodes and files where it writes nothing.
use Rattle.std.specs.Prelude.{◌≡◌, ℕ, Bool, true, false, List, Option, Some, None}
use Rattle.qmp_codec.specs.declared.event.JobKind.{JobKind}
use Rattle.qmp_codec.specs.declared.event.JobKind.TheVariants.{Stream, Commit, Mirror, Backup}
use Rattle.qmp_rules.specs.declared.change.JobOutcome.{JobOutcome}
use Rattle.qmp_rules.specs.declared.change.JobOutcome.TheVariants.{Completed}
use Rattle.qmp_rules.specs.declared.rows.NodeRecord.{NodeRecord}
use Rattle.qmp_rules.specs.declared.rows.JobRecord.{JobRecord}
use Rattle.qmp_rules.specs.Ends.{is_done, settles_target}
use Rattle.qmp_rules.specs.Table.{node_by_id, has_name}
use Rattle.blk_history.specs.Fold.{With}
use Rattle.blk_history.specs.declared.entry.JobEnd.{JobEnd}
use Rattle.flat_machine.specs.State.{State}
use Rattle.flat_machine.specs.Changed.{written_file}
use Rattle.flat_machine.specs.Begun.{begun_of, copy_bytes}
use Rattle.flat_machine.specs.Agreement.{Contents, HasDisk}
use Rattle.flat_machine.specs.Performing.{CanRewrite, ReadSame, HeldSame, Nothing}
use Rattle.flat_machine.specs.Jobs.{outcome_of}
use Rattle.job_tables.specs.Ends.{rebased_by}

-- ---- when its changes can be made

-- the node in whose header the end writes another name
abbrev pub renamed : JobRecord → JobOutcome → Option ℕ
renamed row Completed = rebased_by row row.kind
renamed row outcome = None

-- its target is left as its source reads
abbrev pub copies_source : JobKind → Bool
copies_source Mirror = true
copies_source Commit = true
copies_source kind = false

-- What a job keeps for its end: the source of a mirror or commit has a flat disk, and where a stream or a commit completes, the
-- header that gets another name can be written.
pub record RestsToEnd (s : State) (row : JobRecord) : Type 0 where
  pub source : copies_source row.kind ≡ true → With (node_by_id s.table row.source) HasDisk
  pub header : (node : ℕ) → rebased_by row row.kind ≡ Some node → CanRewrite s node

-- the node whose header gets another name is no `file` node, and its file was named for writing
pub record HeaderIsNamed (s : State) (node : ℕ) : Type 0 where
  pub format : (row : NodeRecord) → node_by_id s.table node ≡ Some row → row.filename ≡ None
  pub named : (name : List ℕ) → written_file s.table node ≡ Some name
      → has_name name s.named ≡ true

-- ---- what it leaves

-- the target reads as the end leaves it: what the start of a backup found, or what the source reads as
abbrev pub ReadsAsMade : State → JobRecord → Contents → ℕ → JobKind → Type 0
ReadsAsMade s row c target Stream = Unit {0}
ReadsAsMade s row c target Backup =
    settles_target row.bitmap ≡ true
    → c.reads target ≡ copy_bytes (begun_of s.begun row.number)
ReadsAsMade s row c target kind = c.reads target ≡ c.reads row.source

-- The job's filter is gone, all other nodes read the same, and files hold the same; after an end without error the target
-- reads as it is to.
pub record ShowsEnd (s : State) (row : JobRecord) (why : JobEnd) (old new : Contents) : Type 0
  where
    pub nodes : ReadSame (λ node. row.filter ≡ Some node) old new
    pub files : HeldSame Nothing old new
    pub made : is_done (outcome_of why) ≡ true → (target : ℕ) → row.target ≡ Some target
        → ReadsAsMade s row new target row.kind
