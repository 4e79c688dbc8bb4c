use Rattle.std.proofs.Common.{◌≡◌, drop}
use Rattle.blk_fakes.specs.Calls.{done_at}
use Rattle.blk_fakes.proofs.calls.done_by.Given as goal

abbrev pub invariant-loop-fail : goal.invariant-loop-fail
invariant-loop-fail l = done_at l.number (drop l.fail-index l.fails) ≡ done_at l.number l.fails
