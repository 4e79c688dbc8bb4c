use Rattle.chain_copies.proofs.StreamLeft.{step_leaves_others, step_leaves_top}
use Rattle.chain_copies.proofs.streams.streams_leave_what_is_read.Goals as goal

pub returns-clause-top : goal.returns-clause-top
returns-clause-top c = λ old new was now top must answer joined told may size passes.
    step_leaves_top old new was now top must answer joined told may size passes

pub returns-clause-others : goal.returns-clause-others
returns-clause-others c = λ old new was now top other must answer joined joined_new told image may size passes beside.
    step_leaves_others old new was now top must answer joined told may size passes joined_new image other beside
