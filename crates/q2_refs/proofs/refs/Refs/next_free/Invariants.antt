use Rattle.std.proofs.Common.{◌≡◌, ◌+◌, length}
use Rattle.q2_refs.specs.Free.{will_be_given}
use Rattle.q2_refs.proofs.FreeClusters.{passing}
use Rattle.q2_refs.proofs.refs.Refs.next_free.Given as goal

abbrev pub invariant-loop-cluster : goal.invariant-loop-cluster
invariant-loop-cluster l = length (passing (will_be_given l.self) l.cluster) + l.left ≡ l.k
