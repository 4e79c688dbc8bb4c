use Rattle.blk_history.proofs.Tellings.{appends_both}
use Rattle.blk_history.proofs.telling.push_progress.Goals as goal

pub returns : goal.returns
returns c = appends_both _ _ _ _ _ 27 57 c.push_length.ensures (appends_both _ _ _ _ _ 30 27 c.push_offset.ensures c.push_kind.ensures)
