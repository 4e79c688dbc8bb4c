use Rattle.job_results.proofs.Results.{whole, by_bitmap, onto_none}
use Rattle.job_results.proofs.laws.backups_show_their_start.Goals as goal

pub returns-clause-whole : goal.returns-clause-whole
returns-clause-whole c = whole

pub returns-clause-by_bitmap : goal.returns-clause-by_bitmap
returns-clause-by_bitmap c = by_bitmap

pub returns-clause-onto_none : goal.returns-clause-onto_none
returns-clause-onto_none c = onto_none
