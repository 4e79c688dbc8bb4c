use Rattle.std.proofs.Common.{◌≡◌, []}
use Rattle.world_rows.proofs.stage.store_of.Given as goal

abbrev pub invariant-loop-file : goal.invariant-loop-file
invariant-loop-file l = l.store.opened ≡ []
