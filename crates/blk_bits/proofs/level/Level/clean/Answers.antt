use Rattle.std.proofs.Common.{arith}
use Rattle.blk_bits.proofs.LevelLemmas.{no_members, has-zeros}
use Rattle.blk_bits.proofs.level.Level.clean.Goals as goal

pub invariant_of-result : goal.invariant_of-result
invariant_of-result c = rw c.requires (has-zeros c.args.count (omega arith))

pub returns : goal.returns
returns c = rw c.requires (no_members c.args.count)
