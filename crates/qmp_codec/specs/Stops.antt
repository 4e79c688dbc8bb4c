-- How a refusal prints: its name, and the name it tells between parentheses.
use Rattle.std.specs.Prelude.{ℕ, List, ◌++◌, codes, String, string_bytes}
use Rattle.std.specs.declared.alloc.Global.{Global}
use Rattle.qmp_codec.specs.declared.stop.CodecStop.{CodecStop}
use Rattle.qmp_codec.specs.declared.stop.CodecStop.TheVariants.{BadJson, UnknownCommand, Missing, Unexpected, BadType, NoMemory}

abbrev pub codec_stop_text : CodecStop (String Global) → List ℕ
codec_stop_text BadJson = codes "BadJson"
codec_stop_text (UnknownCommand name) = codes "UnknownCommand(" ++ string_bytes name ++ codes ")"
codec_stop_text (Missing name) = codes "Missing(" ++ string_bytes name ++ codes ")"
codec_stop_text (Unexpected name) = codes "Unexpected(" ++ string_bytes name ++ codes ")"
codec_stop_text (BadType name) = codes "BadType(" ++ string_bytes name ++ codes ")"
codec_stop_text NoMemory = codes "NoMemory"
