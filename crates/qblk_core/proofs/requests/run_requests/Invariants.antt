use Rattle.std.specs.VecDeque.{deque_len}
use Rattle.qblk_core.specs.Requests.{AtRequests}
use Rattle.qblk_core.proofs.requests.run_requests.Given as goal

abbrev pub invariant-loop-op : goal.invariant-loop-op
invariant-loop-op g l = AtRequests l.initial.engine l.engine l.initial.rest.items l.rest.items

abbrev pub decreases-loop-op : goal.decreases-loop-op
decreases-loop-op g l = deque_len l.rest
