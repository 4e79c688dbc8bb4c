-- How a refusal prints: its name, and its numbers in decimal between parentheses.
use Rattle.std.specs.Prelude.{ℕ, List, ◌++◌, codes, decimal}
use Rattle.q2_format.specs.Text as header
use Rattle.q2_image.specs.declared.stop.ImageStop.{ImageStop}
use Rattle.q2_image.specs.declared.stop.ImageStop.TheVariants.{Header, Offset, Reserved, Compressed, Overlap, Refcount, HeaderFull, Io, NoMemory}

abbrev pub image_stop_text : ImageStop → List ℕ
image_stop_text (Header stop) = header.header_stop_text stop
image_stop_text (Offset offset) = codes "Offset(" ++ decimal offset ++ codes ")"
image_stop_text (Reserved table index) =
    codes "Reserved(" ++ decimal table ++ codes ", " ++ decimal index ++ codes ")"
image_stop_text (Compressed cluster) = codes "Compressed(" ++ decimal cluster ++ codes ")"
image_stop_text (Overlap cluster) = codes "Overlap(" ++ decimal cluster ++ codes ")"
image_stop_text (Refcount cluster) = codes "Refcount(" ++ decimal cluster ++ codes ")"
image_stop_text HeaderFull = codes "HeaderFull"
image_stop_text (Io count) = codes "Io(" ++ decimal count ++ codes ")"
image_stop_text NoMemory = codes "NoMemory"
