use Rattle.job_results.proofs.Replied.{follows, starts_leave}
use Rattle.job_results.proofs.laws.starts_follow_a_reply.Goals as goal

pub returns-clause-follows : goal.returns-clause-follows
returns-clause-follows c = follows

pub returns-clause-disks : goal.returns-clause-disks
returns-clause-disks c = starts_leave
