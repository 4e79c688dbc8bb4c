use Rattle.std.proofs.Common.{◌≤◌, length}
use Rattle.blk_files.proofs.device.write_full.Given as goal

-- no more was written than there is
abbrev pub invariant-turns : goal.invariant-turns
invariant-turns l = l.done ≤ length l.bytes
