use Rattle.blk_lock.proofs.turns.Turns.new.Given as goal

abbrev pub ghost-of : goal.ghost-of
ghost-of g a = g.opening
