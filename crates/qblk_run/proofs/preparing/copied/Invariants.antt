use Rattle.std.proofs.Common.{◌≡◌, take}
use Rattle.std.specs.Prelude.{map}
use Rattle.qblk_run.proofs.preparing.copied.Given as goal

-- the first names
abbrev pub invariant-loop-place : goal.invariant-loop-place
invariant-loop-place l = map (λ t. t.bytes) l.copies.items ≡ take l.place l.names
