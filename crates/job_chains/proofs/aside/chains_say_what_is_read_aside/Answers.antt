use Rattle.job_chains.proofs.AsideChains.{aside_chains, chains_aside}
use Rattle.job_chains.proofs.AsideChanges.{top_plain, under_plain}
use Rattle.job_chains.proofs.aside.chains_say_what_is_read_aside.Goals as goal

pub returns-clause-shown : goal.returns-clause-shown
returns-clause-shown c = λ t row node h j d here there own aside.
    aside_chains t h row (top_plain t j row here) (under_plain t j row here) d.listed node there own aside

pub returns-clause-read : goal.returns-clause-read
returns-clause-read c = λ t row node h j here there own reads.
    chains_aside t h row (top_plain t j row here) (under_plain t j row here) node there own reads
