use Rattle.std.proofs.Common.{rules}
use Rattle.std.proofs.lemmas.Str.{IsUtf8-from_ascii}
use Rattle.blk_runs.proofs.singles.push_ascii_text.Goals as goal

pub unreachable-requires : goal.unreachable-requires
unreachable-requires c = search (rules, IsUtf8-from_ascii _ c.requires.ascii, c.in-Err.ensures.cases)
