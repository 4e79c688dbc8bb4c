-- What the start of a job asks of the table, so that jobs stand behind it.
use Rattle.std.specs.Prelude.{◌≡◌, ◌≢◌, ◌<◌, ℕ, List, [], ◌∷◌, ◌++◌, Contains, Some, None}
use Rattle.blk_graph.specs.declared.edge.Role.TheVariants.{Backing}
use Rattle.blk_graph.specs.Paths.{Reaches}
use Rattle.qmp_codec.specs.declared.event.JobKind.{JobKind}
use Rattle.qmp_codec.specs.declared.event.JobKind.TheVariants.{Stream, Commit, Mirror, Backup}
use Rattle.qmp_rules.specs.declared.rows.JobRecord.{JobRecord}
use Rattle.qmp_rules.specs.Edits.{free_id}
use Rattle.qmp_rules.specs.Table.{RunTable, node_by_id, child}
use Rattle.flat_machine.specs.Suiting.{IsPlainNode}
use Rattle.job_edges.specs.Copies.{Copied, IsApartFrom}
use Rattle.job_tables.specs.Rows.{nodes_of_job, AreLinked, mirrors}
use Rattle.job_tables.specs.Jobs.{StreamJobStands}

-- its filter is to be the next node
pub record IsToFilter (t : RunTable) (row : JobRecord) : Type 0 where
  pub filter : row.filter ≡ Some (free_id t)
  pub fresh : node_by_id t (free_id t) ≡ None

-- a backup or mirror holds its source and its target
pub record CopyBegins (t : RunTable) (row : JobRecord) : Type 0 where
  pub filter : IsToFilter t row
  pub target : ℕ
  pub is_target : row.target ≡ Some target
  pub held : row.held ≡ row.source ∷ target ∷ []
  pub read : row.read ≡ []
  pub other : target ≢ row.source

-- and a mirror's target leads neither to its source, nor to that of one that began before it
pub record MirrorBegins (t : RunTable) (row : JobRecord) : Type 0 where
  pub copies : CopyBegins t row
  pub own : Reaches t.edges copies.target row.source → ⊥
  pub earlier : (m : Copied) → Contains (mirrors t.jobs) m
      → IsApartFrom t.edges m (record { source = row.source; target = copies.target })

-- the overlay of a commit that has one has the top as its backing node
abbrev pub IsOverTop : RunTable → List ℕ → ℕ → Type 0
IsOverTop t [] top = Unit {0}
IsOverTop t (overlay ∷ ids) top = (child t overlay Backing ≡ Some top) × (ids ≡ [])

-- a commit holds the chain from its top to its base
pub record CommitBegins (t : RunTable) (row : JobRecord) : Type 0 where
  pub filter : IsToFilter t row
  pub base : ℕ
  pub is_base : row.target ≡ Some base
  pub between : List ℕ
  pub held : row.held ≡ row.source ∷ between ++ base ∷ []
  pub linked : AreLinked t row.source (between ++ base ∷ [])
  pub overlay : IsOverTop t row.read row.source

abbrev pub BeginsByKind : RunTable → JobRecord → JobKind → Type 0
BeginsByKind t row Stream = StreamJobStands t row
BeginsByKind t row Commit = CommitBegins t row
BeginsByKind t row Mirror = MirrorBegins t row
BeginsByKind t row Backup = CopyBegins t row

-- Slot and number are no other job's, its nodes are plain, and what one of two jobs holds for itself the other doesn't have.
pub record JobBegins (t : RunTable) (row : JobRecord) : Type 0 where
  pub slot : row.slot < 16
  pub own_slot : (other : JobRecord) → Contains t.jobs other → other.slot ≢ row.slot
  pub own_number : (other : JobRecord) → Contains t.jobs other → other.number ≢ row.number
  pub plain : (node : ℕ) → Contains (nodes_of_job row) node → IsPlainNode t node
  pub holds : (other : JobRecord) (node : ℕ) → Contains t.jobs other → Contains row.held node
      → Contains (nodes_of_job other) node → ⊥
  pub reads : (other : JobRecord) (node : ℕ) → Contains t.jobs other → Contains other.held node
      → Contains (nodes_of_job row) node → ⊥
  pub shape : BeginsByKind t row row.kind
