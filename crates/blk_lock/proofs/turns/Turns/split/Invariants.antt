use Rattle.blk_lock.proofs.turns.Turns.split.Given as goal

abbrev pub ghosts-divide : goal.ghosts-divide
ghosts-divide g a = record { room = a.room; given = a.actor }
