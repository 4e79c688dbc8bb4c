use Rattle.std.proofs.Common.{◌≡◌, ◌++◌}
use Rattle.std.specs.Prelude.{map}
use Rattle.std.specs.VecDeque.{deque_len}
use Rattle.qblk_run.specs.Beginning.{new_task}
use Rattle.qblk_run.proofs.preparing.new_guests.Given as goal

-- the guests so far, and those of the traces that are left
abbrev pub invariant-loop-wishes : goal.invariant-loop-wishes
invariant-loop-wishes l =
    l.tasks.items ++ map new_task (map (λ t. t.items) l.rest.items) ≡ map new_task (map (λ t. t.items) l.initial.rest.items)

abbrev pub decreases-loop-wishes : goal.decreases-loop-wishes
decreases-loop-wishes l = deque_len l.rest
