-- How refusals print: as their names, a number behind in parentheses.
use Rattle.std.specs.Prelude.{ℕ, List, ◌++◌, codes}
use Rattle.std.specs.Fmt.{decimal}
use Rattle.q2_format.specs.declared.header.HeaderStop.{HeaderStop}
use Rattle.q2_format.specs.declared.header.HeaderStop.TheVariants.{Short, Magic, Version, ClusterBits, RefcountOrder, Feature, Crypt, Snapshots, BackingName, Extension, TooLarge}

abbrev pub header_stop_text : HeaderStop → List ℕ
header_stop_text Short = codes "Short"
header_stop_text Magic = codes "Magic"
header_stop_text Version = codes "Version"
header_stop_text ClusterBits = codes "ClusterBits"
header_stop_text RefcountOrder = codes "RefcountOrder"
header_stop_text (Feature bit) = codes "Feature(" ++ decimal bit ++ codes ")"
header_stop_text Crypt = codes "Crypt"
header_stop_text Snapshots = codes "Snapshots"
header_stop_text BackingName = codes "BackingName"
header_stop_text Extension = codes "Extension"
header_stop_text TooLarge = codes "TooLarge"
