use Rattle.blk_world.proofs.world.World.all_done.Goals as goal

pub returns : goal.returns
returns g c = rw (← c.self.view_is) c.all_done.ensures
