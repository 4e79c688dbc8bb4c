-- A piece of a guest's request, before which a backup has copied what it still needs of the block that the piece writes.
use Rattle.std.specs.Prelude.{◌≡◌, ◌⊎◌, ℕ, Some}
use Rattle.blk_base.specs.declared.fault.Outcome.{Outcome}
use Rattle.blk_history.specs.Machine.{Flight}
use Rattle.flat_machine.specs.State.{drive_of}
use Rattle.qmp_rules.specs.declared.rows.JobRecord.{JobRecord}
use Rattle.world_parts.specs.Face.{WorldSeen}
use Rattle.world_parts.specs.Jobs.{GuardsBlock}
use Rattle.world_pieces.specs.Pieces.{HasPieceLicence, IsPieceMade}

-- what a backup still needs of a block that the request writes is copied
pub record GuardsFor (w v : WorldSeen) (g : ℕ) (f : Flight) : Type 0 where
  pub drive : ℕ
  pub on : drive_of w.table g ≡ Some drive
  pub row : JobRecord
  pub target : ℕ
  pub block : ℕ
  pub guards : GuardsBlock w v drive f.op row target block

-- before a piece
abbrev pub IsGuardedFor : WorldSeen → WorldSeen → ℕ → Flight → Type 0
IsGuardedFor w v g f = (v ≡ w) ⊎ GuardsFor w v g f

-- the next piece of this request was made, with its cause
pub record MakesPiece (w v : WorldSeen) (g : ℕ) (f : Flight) (outcome : Outcome) : Type 0 where
  pub between : WorldSeen
  pub guarded : IsGuardedFor w between g f
  pub made : IsPieceMade between v g f outcome
  pub licence : HasPieceLicence between v g f outcome made
