use Rattle.std.proofs.Common.{refl}
use Rattle.qblk_core.specs.ImageNodes.{seen_device}
use Rattle.qblk_core.proofs.Openings.{file-made}
use Rattle.qblk_core.proofs.opening.over_device.Goals as goal

pub returns-in-Ok-add_file-clause-made : goal.returns-in-Ok-add_file-clause-made
returns-in-Ok-add_file-clause-made g c = record {
  node = refl;
  number = refl;
  sized = λ b told. g.met.D.Device.told_size c.args.device b told;
  is = (file-made (seen_device g.D.Device c.args.device) c.in-Ok-new.nodes c.add_file.new.self c.in-Ok-add_file.file c.in-Ok.name.bytes refl c.in-Ok-new.ensures c.in-Ok.ensures
      c.in-Ok-add_file.ensures.lowest c.in-Ok-add_file.ensures.ok).0;
}

pub returns-in-Ok-add_file-clause-file : goal.returns-in-Ok-add_file-clause-file
returns-in-Ok-add_file-clause-file g c =
    (file-made (seen_device g.D.Device c.args.device) c.in-Ok-new.nodes c.add_file.new.self c.in-Ok-add_file.file c.in-Ok.name.bytes refl c.in-Ok-new.ensures c.in-Ok.ensures
    c.in-Ok-add_file.ensures.lowest c.in-Ok-add_file.ensures.ok).1
