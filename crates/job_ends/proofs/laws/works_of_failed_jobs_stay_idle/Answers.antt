use Rattle.job_ends.proofs.Idle.{guarded_idle, took_idle, settle_idle, all_marked_idle, pieces_idle, put_idle, gone_idle}
use Rattle.job_ends.proofs.laws.works_of_failed_jobs_stay_idle.Goals as goal

pub returns-clause-guarded : goal.returns-clause-guarded
returns-clause-guarded c = guarded_idle

pub returns-clause-taken : goal.returns-clause-taken
returns-clause-taken c = took_idle

pub returns-clause-settled : goal.returns-clause-settled
returns-clause-settled c = settle_idle

pub returns-clause-marked : goal.returns-clause-marked
returns-clause-marked c = all_marked_idle

pub returns-clause-pieces : goal.returns-clause-pieces
returns-clause-pieces c = pieces_idle

pub returns-clause-put : goal.returns-clause-put
returns-clause-put c = put_idle

pub returns-clause-removed : goal.returns-clause-removed
returns-clause-removed c = gone_idle
