use Rattle.std.proofs.Common.{refl}
use Rattle.qmp_codec.specs.Bitmaps.{seen_bitmap_name}
use Rattle.world_changes.proofs.BitmapsChanged.{clear-idle, disable-idle, enable-idle, remove-idle}
use Rattle.world_changes.proofs.bitmaps.change.Goals as goal

pub remove-requires : goal.remove-requires
remove-requires c =
    remove-idle c.args.names.now.table c.args.bitmaps.now (seen_bitmap_name c.in-BitmapRemove.c) c.requires.alike ((rw c.in-BitmapRemove.is at c.requires.accepted) refl)

pub clear-requires : goal.clear-requires
clear-requires c =
    clear-idle c.args.names.now.table c.args.bitmaps.now (seen_bitmap_name c.in-BitmapClear.c) c.requires.alike ((rw c.in-BitmapClear.is at c.requires.accepted) refl)

pub turn-requires : goal.turn-requires
turn-requires c =
    enable-idle c.args.names.now.table c.args.bitmaps.now (seen_bitmap_name c.in-BitmapEnable.c) c.requires.alike ((rw c.in-BitmapEnable.is at c.requires.accepted) refl)

pub turn-requires-in-BitmapDisable : goal.turn-requires-in-BitmapDisable
turn-requires-in-BitmapDisable c =
    disable-idle c.args.names.now.table c.args.bitmaps.now (seen_bitmap_name c.in-BitmapDisable.c) c.requires.alike ((rw c.in-BitmapDisable.is at c.requires.accepted) refl)
