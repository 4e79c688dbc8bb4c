use Rattle.job_ends.proofs.Ends.{end_done}
use Rattle.job_ends.proofs.Others.{others_ahead, works_left, noted_works}
use Rattle.job_ends.proofs.laws.others_go_on_behind_ends.Goals as goal

pub returns-clause-ahead : goal.returns-clause-ahead
returns-clause-ahead c = others_ahead

pub returns-clause-copies : goal.returns-clause-copies
returns-clause-copies c = λ first s past row work why offset old new works h j run rows here copies belong reads may loses go.
    others_ahead first s past row why offset old new works h j here belong
    (end_done s row j run here copies first past work why old new reads may loses) go

pub returns-clause-works : goal.returns-clause-works
returns-clause-works c = λ t row outcome works h j here. works_left t row outcome works h j here

pub returns-clause-noted : goal.returns-clause-noted
returns-clause-noted c = noted_works
