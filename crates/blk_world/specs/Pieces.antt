-- A guest's piece, before which what is left of its block is copied for the backup of its disk.
use Rattle.std.specs.Prelude.{◌≡◌, ℕ, List, Option, Some, None}
use Rattle.blk_base.specs.Pieces.{Extent}
use Rattle.blk_base.specs.declared.fault.Outcome.{Outcome}
use Rattle.blk_history.specs.Fold.{With}
use Rattle.blk_history.specs.Machine.{Flight}
use Rattle.blk_nodes.specs.Nodes.{Nodes}
use Rattle.block_jobs.specs.Work.{JobWork, block_at}
use Rattle.flat_machine.specs.State.{drive_of}
use Rattle.qmp_rules.specs.Chains.{disk_node}
use Rattle.qmp_rules.specs.Table.{RunTable}
use Rattle.qmp_rules.specs.declared.rows.JobRecord.{JobRecord}
use Rattle.trace_codec.specs.declared.op.Op.{Op}
use Rattle.trace_codec.specs.declared.op.Op.TheVariants.{Write, Zero}
use Rattle.world_jobs.specs.Guarding.{IsGuardedBy, backup_of}
use Rattle.world_parts.specs.Face.{WorldSeen}
use Rattle.world_parts.specs.Jobs.{GuardsBlock}
use Rattle.world_parts.specs.Piecing.{part_of}
use Rattle.world_parts.specs.Progress.{flight_at}
use Rattle.world_pieces.specs.Pieces.{HasPieceLicence, IsPieceMade}

-- for the backup of a node, before a part is written there
abbrev pub GuardsWritten : Option Extent → RunTable → ℕ → Nodes → Nodes → List JobWork → List JobWork
    → Type 0
GuardsWritten None t node nodes now works after = (now ≡ nodes) × (after ≡ works)
GuardsWritten (Some part) t node nodes now works after =
    IsGuardedBy (backup_of t node) nodes now (block_at part.start) works after

-- the block of a part that is to be written is copied for the backup, where there is one
abbrev pub GuardsBy : Option JobRecord → WorldSeen → WorldSeen → ℕ → Op → Extent → Type 0
GuardsBy None w v drive op part = v ≡ w
GuardsBy (Some row) w v drive op part =
    (target : ℕ) × GuardsBlock w v drive op row target (block_at part.start)

abbrev pub GuardsPart : WorldSeen → WorldSeen → ℕ → Op → Extent → Type 0
GuardsPart w v drive (Write span payload) part =
    GuardsBy (backup_of w.table (disk_node w.table drive)) w v drive (Write span payload) part
GuardsPart w v drive (Zero span) part =
    GuardsBy (backup_of w.table (disk_node w.table drive)) w v drive (Zero span) part
GuardsPart w v drive op part = v ≡ w

-- before the next piece of a guest's request in flight
abbrev pub GuardsNext : WorldSeen → WorldSeen → ℕ → Type 0
GuardsNext w v g = With (flight_at w.progress.guests g)
    (λ f. With (drive_of w.table g) (λ drive. GuardsPart w v drive f.op (part_of f)))

-- and then the piece is made
pub record IsPieceBehind (w v : WorldSeen) (g : ℕ) (f : Flight) (outcome : Outcome) : Type 0 where
  pub between : WorldSeen
  pub guards : GuardsNext w between g
  pub made : IsPieceMade between v g f outcome
  pub licence : HasPieceLicence between v g f outcome made
