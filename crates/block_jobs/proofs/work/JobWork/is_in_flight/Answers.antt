use Rattle.std.proofs.Common.{◌<◌, ◌∙◌, sym, subst}
use Rattle.block_jobs.specs.Work.{JobWork, block_count}
use Rattle.block_jobs.proofs.WorkLemmas.{in_flight_within}
use Rattle.block_jobs.proofs.work.JobWork.is_in_flight.Goals as goal

pub returns-clause-within : goal.returns-clause-within
returns-clause-within c = λ flies.
    subst (λ (x : JobWork). c.args.t.cluster < block_count x.size) c.self.view_is
    (in_flight_within c.self.inside.job c.self.inside.size c.args.t c.self.inside.copies.rows c.self.invariant.copies (sym c.find.ensures ∙ flies))
