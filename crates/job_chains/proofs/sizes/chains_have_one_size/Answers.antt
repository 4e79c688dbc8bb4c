use Rattle.job_chains.proofs.SizesSuit.{changes_keep_sizes}
use Rattle.job_chains.proofs.SizesTurns.{spoiled_sizes, written_sizes, snapshots_keep_sizes}
use Rattle.job_chains.proofs.sizes.chains_have_one_size.Goals as goal

pub returns-clause-changes : goal.returns-clause-changes
returns-clause-changes c = changes_keep_sizes

pub returns-clause-snapshots : goal.returns-clause-snapshots
returns-clause-snapshots c = snapshots_keep_sizes

pub returns-clause-failed : goal.returns-clause-failed
returns-clause-failed c = spoiled_sizes

pub returns-clause-writes : goal.returns-clause-writes
returns-clause-writes c = written_sizes
