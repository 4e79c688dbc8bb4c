use Rattle.blk_history.proofs.Tellings.{event_text_parts}
use Rattle.blk_history.proofs.telling.push_event.Goals as goal

pub returns : goal.returns
returns c =
    rw (event_text_parts c.args.job.now c.args.name c.args.fault c.args.offset c.requires.plain c.push_parts.ensures.plain)
    c.push_parts.ensures.words
