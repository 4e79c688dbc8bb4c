use Rattle.std.proofs.Common.{◌≡◌, drop}
use Rattle.trace_codec.specs.Awaits.{place_from}
use Rattle.trace_codec.proofs.awaiting.place_of.Given as goal

-- none of the names so far is it
abbrev pub invariant-loop-place : goal.invariant-loop-place
invariant-loop-place l = place_from l.place l.name (drop l.place l.names) ≡ place_from 0 l.name l.names
