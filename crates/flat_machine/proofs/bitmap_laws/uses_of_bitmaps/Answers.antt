use Rattle.flat_machine.proofs.InUse.{use_begins, all_dirtied, use_ends}
use Rattle.flat_machine.proofs.bitmap_laws.uses_of_bitmaps.Goals as goal

pub returns-clause-begins : goal.returns-clause-begins
returns-clause-begins c = use_begins

pub returns-clause-dirtied : goal.returns-clause-dirtied
returns-clause-dirtied c = λ t rows node was. all_dirtied node t rows was

pub returns-clause-ends : goal.returns-clause-ends
returns-clause-ends c = use_ends
