use Rattle.std.proofs.Common.{List, ℕ, subst}
use Rattle.std.proofs.lemmas.List.{take_rest}
use Rattle.blk_runs.specs.Runs.{IsFront}
use Rattle.blk_runs.proofs.LaneLemmas.{front-joined}
use Rattle.blk_runs.proofs.lanes.front_count.Goals as goal

pub returns : goal.returns
returns c =
    let P : List ℕ → Type 0 = λ bytes. IsFront c.args.byte c.front_rest.result bytes in
    front-joined c.args.byte c.whole_lanes-at.result c.front_rest.result c.args.bytes.now c.whole_lanes-at.ensures.within c.whole_lanes-at.ensures.same
    (subst P (take_rest c.args.bytes.now c.whole_lanes-at.result) c.front_rest.ensures)
