use Rattle.std.proofs.Common.{◌≡◌, []}
use Rattle.row_stage.proofs.store.store_of.Given as goal

abbrev pub invariant-loop-file : goal.invariant-loop-file
invariant-loop-file l = l.store.opened ≡ []
