use Rattle.world_files.proofs.closing.+give_all_back.Given as goal

abbrev pub decreases-give_all_back : goal.decreases-give_all_back
decreases-give_all_back g l = l.count
