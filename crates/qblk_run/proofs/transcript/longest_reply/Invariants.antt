use Rattle.std.proofs.Common.{◌≡◌, ℕ, ◌<◌, ◌≤◌, List, length, Some}
use Rattle.std.specs.Prelude.{slice_get}
use Rattle.blk_history.specs.Line.{reply_by}
use Rattle.blk_history.specs.declared.event.Event.{Event}
use Rattle.qblk_run.proofs.transcript.longest_reply.Given as goal

-- none of the first is longer
abbrev pub invariant-loop-at : goal.invariant-loop-at
invariant-loop-at l = (k : ℕ) (e : Event) (text : List ℕ) → k < l.at → slice_get l.history.events k ≡ Some e → reply_by e ≡ Some text → length text ≤ l.longest
