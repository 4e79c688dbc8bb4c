use Rattle.std.proofs.Common.{List, get_or, sym, ◌∙◌, ap, Some}
use Rattle.block_jobs.specs.Work.{JobWork}
use Rattle.job_works.proofs.Places.{placed, absent}
use Rattle.job_works.proofs.works.Works.of_job.Goals as goal

pub returns-in_err-at-clause-none : goal.returns-in_err-at-clause-none
returns-in_err-at-clause-none c = λ none. (absent c.args.job (λ work. work) c.args.self.now (sym c.in_err-at.ensures.place)).found

pub returns-clause-some : goal.returns-clause-some
returns-clause-some c =
    (placed c.args.job (λ work. work) c.args.self.now c.in_ok-at.at c.index.result.now (sym c.in_ok-at.ensures.place)).found
    ∙ ap (λ (w : JobWork). Some w) (sym (c.index.ensures ∙ ap (λ (items : List JobWork). get_or items c.in_ok-at.at c.index.result.now) c.self.view_is))
