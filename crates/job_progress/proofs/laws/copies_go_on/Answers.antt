use Rattle.job_progress.proofs.Copies.{copied_goes, passed_goes, taken_goes, settled_goes}
use Rattle.job_progress.proofs.Others.{others_go}
use Rattle.job_progress.proofs.laws.copies_go_on.Goals as goal

pub returns-clause-copied : goal.returns-clause-copied
returns-clause-copied c = copied_goes

pub returns-clause-passed : goal.returns-clause-passed
returns-clause-passed c = passed_goes

pub returns-clause-taken : goal.returns-clause-taken
returns-clause-taken c = λ first h reads row work t copies sound own next position g. taken_goes first h reads row work t sound own next position g copies

pub returns-clause-settled : goal.returns-clause-settled
returns-clause-settled c = λ first s h reads now row work t copies sound flies writes g.
    settled_goes first s h reads now row work t sound flies g writes copies

pub returns-clause-others : goal.returns-clause-others
returns-clause-others c = λ first s h reads now row work after works j belong here is same kept own go.
    others_go first s h reads now row work after works j here is same kept own go
