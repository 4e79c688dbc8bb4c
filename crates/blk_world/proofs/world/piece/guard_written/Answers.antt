use Rattle.std.proofs.Common.{◌/◌, sym, subst}
use Rattle.blk_base.specs.Pieces.{Extent}
use Rattle.world_jobs.specs.Guarding.{CanGuard}
use Rattle.blk_world.proofs.world.piece.guard_written.Goals as goal

pub guard-requires : goal.guard-requires
guard-requires g c = record {
  can =
      subst (λ (part : Extent). CanGuard c.args.names.now.table c.args.nodes.now c.args.works.now c.args.node (part.start / 65536)) (sym c.part.view_is)
      (c.requires.can c.in-Some.part c.in-Some.is);
}
