use Rattle.world_additions.proofs.AddLooked.{taken-is-out}
use Rattle.world_additions.proofs.looking.open_and_look.Goals as goal

pub give_back-requires : goal.give_back-requires
give_back-requires g c =
    taken-is-out c.args.store.now c.open_file.new.store c.args.filename.now c.in-Ok.out (rw c.in-Ok.is at c.in_ok-refusal.ensures.answer)
