use Rattle.std.proofs.Common.{refl}
use Rattle.qmp_codec.specs.Bitmaps.{seen_bitmap_add}
use Rattle.world_changes.proofs.BitmapsChanged.{never-refused}
use Rattle.world_changes.proofs.bitmaps.new_of.Goals as goal

pub new_bitmap-requires : goal.new_bitmap-requires
new_bitmap-requires c =
    never-refused c.args.names.now.table c.args.bitmaps.now (seen_bitmap_add c.in-BitmapAdd.c) c.requires.alike ((rw c.in-BitmapAdd.is at c.requires.accepted) refl)
