-- How answers print: as their names, a number behind in parentheses.
use Rattle.std.specs.Prelude.{ℕ, List, ◌++◌, codes}
use Rattle.std.specs.Fmt.{decimal}
use Rattle.q2_refs.specs.declared.stop.RefsStop.{RefsStop}
use Rattle.q2_refs.specs.declared.stop.RefsStop.TheVariants.{Offset, Reserved, Io, NoMemory}

abbrev pub refs_stop_text : RefsStop → List ℕ
refs_stop_text (Offset at) = codes "Offset(" ++ decimal at ++ codes ")"
refs_stop_text (Reserved index) = codes "Reserved(" ++ decimal index ++ codes ")"
refs_stop_text (Io count) = codes "Io(" ++ decimal count ++ codes ")"
refs_stop_text NoMemory = codes "NoMemory"
