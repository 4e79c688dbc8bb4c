use Rattle.std.proofs.Common.{refl}
use Rattle.blk_nodes.proofs.nodes.renaming.rename_row.Goals as goal

pub returns : goal.returns
returns g c = record {
  row = c.in-Some.taken;
  image = c.in-Qcow2.image;
  now = c.rename_image-answer.new.image;
  there = cc (c.take.ensures.value, c.in-Some.is);
  driver = c.in-Qcow2.is;
  left = refl;
  opened = c.name_fits.ensures.open;
  at = c.rename_image-answer.ensures;
}
