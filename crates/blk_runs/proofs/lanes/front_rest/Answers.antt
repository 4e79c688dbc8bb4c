use Rattle.std.proofs.Common.{List, ℕ, subst, arith}
use Rattle.blk_runs.specs.Runs.{IsFront}
use Rattle.blk_runs.proofs.LaneLemmas.{front-ends}
use Rattle.blk_runs.proofs.lanes.front_rest.Goals as goal

pub returns-then-same-lt32 : goal.returns-then-same-lt32
returns-then-same-lt32 c =
    let P : List ℕ → Type 0 = λ lanes. IsFront c.args.byte c.front_lanes-same.result lanes in
    front-ends c.args.byte c.front_lanes-same.result c.args.bytes.now (omega arith) (omega arith) (subst P c.load.ensures c.front_lanes-same.ensures)
