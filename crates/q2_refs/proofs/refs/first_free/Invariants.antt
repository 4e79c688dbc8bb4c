use Rattle.q2_refs.specs.Kept.{AreTaken}
use Rattle.q2_refs.proofs.refs.first_free.Given as goal

abbrev pub invariant-loop-cluster : goal.invariant-loop-cluster
invariant-loop-cluster l = AreTaken l.counts l.cluster
