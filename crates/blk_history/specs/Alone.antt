-- That a transcript, with what its one guest asked, is that of one history.
use Rattle.std.specs.Prelude.{◌≡◌, ℕ, List, All}
use Rattle.trace_codec.specs.declared.op.Op.{Op}
use Rattle.blk_history.specs.Legal.{LegalIo}
use Rattle.blk_history.specs.Machine.{IoState}
use Rattle.blk_history.specs.Names.{RowNames}
use Rattle.blk_history.specs.Owned.{asked_by}
use Rattle.blk_history.specs.Small.{IsSmall}
use Rattle.blk_history.specs.Transcript.{transcript}
use Rattle.blk_history.specs.declared.event.Event.{Event}

-- a legal history from a state, in which the first guest asks this, and which prints so
pub record PrintsAlone (opening : IoState) (names : RowNames) (ops : List Op) (text : List ℕ)
    (h : List Event) : Type 0 where
  pub legal : LegalIo opening h
  pub asked : asked_by 0 h ≡ ops
  pub small : All IsSmall h
  pub printed : transcript names h ≡ text

-- each transcript is that of at most one such history
abbrev pub PrintsOneHistory : IoState → RowNames → List Op → Type 0
PrintsOneHistory opening names ops = (text : List ℕ) (h k : List Event)
    → PrintsAlone opening names ops text h → PrintsAlone opening names ops text k → h ≡ k
