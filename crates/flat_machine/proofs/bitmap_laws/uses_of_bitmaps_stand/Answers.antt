use Rattle.flat_machine.proofs.BitmapUses.{begins_sound, dirtied_sound, ends_sound, ends_use, starts_use}
use Rattle.flat_machine.proofs.bitmap_laws.uses_of_bitmaps_stand.Goals as goal

pub returns-clause-begins : goal.returns-clause-begins
returns-clause-begins c = begins_sound

pub returns-clause-dirtied : goal.returns-clause-dirtied
returns-clause-dirtied c = dirtied_sound

pub returns-clause-ends : goal.returns-clause-ends
returns-clause-ends c = ends_sound

pub returns-clause-started : goal.returns-clause-started
returns-clause-started c = starts_use

pub returns-clause-ended : goal.returns-clause-ended
returns-clause-ended c = ends_use
