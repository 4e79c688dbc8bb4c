use Rattle.chain_copies.proofs.StreamOwn.{apart_beside, base_apart, below_apart, image_apart, own_image}
use Rattle.chain_copies.proofs.streams.tops_are_apart.Goals as goal

pub returns-clause-over : goal.returns-clause-over
returns-clause-over c = image_apart

pub returns-clause-owns : goal.returns-clause-owns
returns-clause-owns c = own_image

pub returns-clause-below : goal.returns-clause-below
returns-clause-below c = λ nodes top below image may. below_apart nodes top image may below

pub returns-clause-base : goal.returns-clause-base
returns-clause-base c = λ nodes top base image may. base_apart nodes top image may base

pub returns-clause-beside : goal.returns-clause-beside
returns-clause-beside c = apart_beside
