use Rattle.job_ends.proofs.Ends.{shows_end, end_done, writes}
use Rattle.job_ends.proofs.laws.copies_end_made.Goals as goal

pub returns-clause-shown : goal.returns-clause-shown
returns-clause-shown c = λ first s past row work why old new j run rows here copies reads may loses.
    shows_end s row j run here (writes row.kind copies) first past work why old new reads may loses

pub returns-clause-performed : goal.returns-clause-performed
returns-clause-performed c = λ first s past row work why old new j run rows here copies reads may loses.
    end_done s row j run here copies first past work why old new reads may loses
