-- That a transcript, with what the guest asked, is that of one history whatever the image: also where no device tells its bytes.
use Rattle.std.specs.Prelude.{◌≡◌, ℕ, List, All}
use Rattle.trace_codec.specs.declared.op.Op.{Op}
use Rattle.blk_history.specs.Machine.{IoState}
use Rattle.blk_history.specs.Owned.{asked_by}
use Rattle.blk_history.specs.Small.{IsSmall}
use Rattle.blk_history.specs.Transcript.{transcript}
use Rattle.blk_history.specs.declared.event.Event.{Event}
use Rattle.qblk_core.specs.Along.{GoesInTurn}
use Rattle.qblk_core.specs.Run.{guest_names}

-- a history in turn from a state, in which the guest asks this, and which prints so
pub record PrintsInTurn (opening : IoState) (ops : List Op) (text : List ℕ)
    (h : List Event) : Type 0
  where
    pub in_turn : GoesInTurn opening h
    pub asked : asked_by 0 h ≡ ops
    pub small : All IsSmall h
    pub printed : transcript guest_names h ≡ text
