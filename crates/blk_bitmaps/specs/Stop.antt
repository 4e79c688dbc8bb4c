-- What a refusal of the table of bitmaps prints.
use Rattle.std.specs.Prelude.{ℕ, List, ◌++◌, codes, decimal}
use Rattle.blk_bitmaps.specs.declared.stop.BitmapStop.{BitmapStop}
use Rattle.blk_bitmaps.specs.declared.stop.BitmapStop.TheVariants.{NameTaken, NotFound, Busy, Granularity, SizeDiffers, NoMemory, TooMany}

abbrev pub bitmap_stop_text : BitmapStop → List ℕ
bitmap_stop_text NameTaken = codes "NameTaken"
bitmap_stop_text NotFound = codes "NotFound"
bitmap_stop_text (Busy job) = codes "Busy(" ++ decimal job ++ codes ")"
bitmap_stop_text Granularity = codes "Granularity"
bitmap_stop_text SizeDiffers = codes "SizeDiffers"
bitmap_stop_text NoMemory = codes "NoMemory"
bitmap_stop_text TooMany = codes "TooMany"
