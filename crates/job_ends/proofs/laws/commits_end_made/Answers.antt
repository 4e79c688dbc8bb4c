use Rattle.std.proofs.Common.{◌∙◌, ap, sym}
use Rattle.job_tables.specs.Ends.{rebased_by}
use Rattle.flat_machine.specs.Jobs.{outcome_of, writes_target}
use Rattle.job_ends.proofs.Ends.{shows_end, end_done_bare}
use Rattle.job_ends.proofs.Headers.{completed_done, renamed_completed}
use Rattle.job_ends.proofs.laws.commits_end_made.Goals as goal

pub returns-clause-shown : goal.returns-clause-shown
returns-clause-shown c = λ first s past row work why old new j run here kind reads may loses.
    shows_end s row j run here (ap writes_target kind) first past work why old new reads may loses

pub returns-clause-performed : goal.returns-clause-performed
returns-clause-performed c = λ first s past row work why old new j run here kind bare reads may loses.
    end_done_bare s row j run here (ap writes_target kind) first past work why old new reads may loses bare

pub returns-clause-renamed : goal.returns-clause-renamed
returns-clause-renamed c = λ first s past row work why overlay old mid new h j run here kind over reads may renames loses.
    let is = renamed_completed row (outcome_of why) overlay over in
    completed_done s h j row here kind overlay (sym (ap (rebased_by row) kind) ∙ is.1) old mid new renames loses first past work why run is.0 reads may
