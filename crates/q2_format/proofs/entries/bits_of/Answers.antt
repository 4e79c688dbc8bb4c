use Rattle.std.proofs.Common.{◌/◌, ◌^◌, arith}
use Rattle.q2_format.proofs.Words.{masked}
use Rattle.q2_format.proofs.entries.bits_of.Goals as goal

pub returns : goal.returns
returns c = masked (c.args.word / 2 ^ c.args.first) c.args.count (omega arith)
