-- At first every number among the zeros is 0.
use Rattle.std.proofs.Common.{◌≡◌, ◌+◌, ◌*◌, arith}
use Rattle.std.proofs.lemmas.Bool.{le-ltb}
use Rattle.q2_format.proofs.ByPlace.{number_at-zeros}
use Rattle.q2_format.proofs.Creating.{made_counts}
use Rattle.q2_format.proofs.refcounts.write_refcount_block.Goals as goal

pub loop-cluster-init : goal.loop-cluster-init
loop-cluster-init c k below =
    let none = le-ltb k 0 (omega arith) in
    rw none (number_at-zeros c.clear.new.out (0 + k * 2) 2 (λ i low high. c.clear.ensures i))

pub returns : goal.returns
returns c size name format small =
    let all : c.loop-cluster.cluster ≡ 4 = omega arith in
    let counts = c.loop-cluster.invariant in
    made_counts c.loop-cluster.out size name format small (rw all at counts)
