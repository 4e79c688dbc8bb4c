use Rattle.chain_copies.proofs.StreamOver.{base_sized, rebased_wiring}
use Rattle.chain_copies.proofs.streams.tops_fit_over_bases.Goals as goal

pub returns-clause-size : goal.returns-clause-size
returns-clause-size c = λ nodes top base size joined has over. base_sized nodes joined top base size has over

pub returns-clause-wiring : goal.returns-clause-wiring
returns-clause-wiring c = λ nodes kinds edges top base joined over are alike sound.
    rebased_wiring nodes joined kinds edges top base over are alike sound
