use Rattle.std.proofs.Common.{◌≡◌, take}
use Rattle.blk_world.proofs.world.names_of.Given as goal

-- the names before this place
abbrev pub invariant-loop-place : goal.invariant-loop-place
invariant-loop-place l = l.names.items ≡ take l.place l.guests
