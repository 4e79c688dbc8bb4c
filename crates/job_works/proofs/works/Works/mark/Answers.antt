use Rattle.std.proofs.Common.{ℕ, List, set, get_or, sym, ◌∙◌, ap}
use Rattle.block_jobs.specs.Work.{JobWork, left_again}
use Rattle.job_works.proofs.Places.{IsFirstAt, placed, absent}
use Rattle.job_works.proofs.works.Works.mark.Goals as goal

pub returns-in-Some : goal.returns-in-Some
returns-in-Some c =
    let works : List JobWork = c.args.self.now in
    let at : ℕ = c.in-Some.at in
    let seen : JobWork = c.index_mut-work.result.now in
    let first : IsFirstAt c.args.job (left_again c.args.span) works at seen = placed c.args.job (left_again c.args.span) works at seen (sym c.in-Some.ensures.place) in
    ap (λ (items : List JobWork). set items at c.mark.new.self) c.self.view_is
    ∙ ap (λ (w : JobWork). set works at w) (c.mark.ensures ∙ ap (left_again c.args.span) (c.index_mut-work.ensures.value ∙ ap (λ (items : List JobWork). get_or items at seen) c.self.view_is))
    ∙ sym first.changed

pub returns-in_default : goal.returns-in_default
returns-in_default c = sym (absent c.args.job (left_again c.args.span) c.args.self.now (sym c.in_default.ensures.place)).changed
