use Rattle.job_commands.proofs.CopyBegun.{backup_goes, mirror_goes, commit_goes}
use Rattle.job_commands.proofs.laws.begun_copies_go_on.Goals as goal

pub returns-clause-backup : goal.returns-clause-backup
returns-clause-backup g = λ first s h e told expected c target old new works rests j r at_rest have belong disks met at shows small go.
    backup_goes first s h e told expected target old new works rests j r at_rest have belong disks go c met at shows small

pub returns-clause-mirror : goal.returns-clause-mirror
returns-clause-mirror g = λ first s h e told expected c target old new works rests j r at_rest have belong disks d met at shows small go.
    mirror_goes first s h e told expected target old new works rests j r at_rest have belong disks go d c met at shows small

pub returns-clause-commit : goal.returns-clause-commit
returns-clause-commit g = λ first s h e told expected c base old new works rests j r at_rest have belong disks d met at shows small go.
    commit_goes first s h e told expected base old new works rests j r at_rest have belong disks go d c met at shows small
