use Rattle.std.proofs.Common.{List, sym, ◌∙◌, ap}
use Rattle.std.specs.List.{remove}
use Rattle.block_jobs.specs.Work.{JobWork}
use Rattle.job_works.proofs.Places.{placed, absent}
use Rattle.job_works.proofs.works.Works.remove.Goals as goal

pub returns-in-Some : goal.returns-in-Some
returns-in-Some c =
    c.remove.ensures.items
    ∙ ap (λ (works : List JobWork). remove works c.in-Some.at) c.self.view_is
    ∙ sym (placed c.args.job (λ work. work) c.args.self.now c.in-Some.at c.remove.result (sym c.in-Some.ensures.place)).gone

pub returns-in_default : goal.returns-in_default
returns-in_default c = sym (absent c.args.job (λ work. work) c.args.self.now (sym c.in_default.ensures.place)).gone
