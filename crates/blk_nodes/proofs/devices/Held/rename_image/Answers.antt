use Rattle.std.proofs.Common.{ℕ, List, Option, refl, sym}
use Rattle.std.specs.Option.{option_copied}
use Rattle.q2_image.specs.Image.{Known}
use Rattle.blk_nodes.proofs.Renamed.{known_named, renames_seen}
use Rattle.blk_nodes.proofs.devices.Held.rename_image.Goals as goal

pub set_backing_name-made-requires-clause-image : goal.set_backing_name-made-requires-clause-image
set_backing_name-made-requires-clause-image g c = λ file told. let known = rw (sym c.self.view_is) at c.requires.known in known file told

pub returns : goal.returns
returns g c =
    let e = c.set_backing_name-made.ensures in
    let made = c.set_backing_name-made.result in
    let image : Known = c.args.image.now in
    let left : Known = c.set_backing_name-made.new.self in
    let name : Option (List ℕ) = option_copied c.args.name in
    let format : Option (List ℕ) = option_copied c.args.format in
    rw (sym c.self.view_is) (record {
      answer = made;
      is = c.answer.ensures;
      rename = record {
        device = record {
          node = refl;
          number = refl;
          told = e.told;
          capacity = e.capacity;
          faults = e.faults;
        };
        changes = renames_seen g.D.Device c.self.inside.node c.self.inside.number c.self.inside.device c.set_backing_name-made.new.dev image left name format made e.changes;
        stops = e.stops;
        known = known_named g.D.Device image left name format made c.self.inside.device c.set_backing_name-made.new.dev e.changes;
        sound = e.image;
        disk = e.disk;
        named = e.named;
        kept = e.kept;
        no_space = e.no_space;
        cause = e.cause;
      };
    })
