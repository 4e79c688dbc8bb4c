-- What a line is read as.
use Rattle.std.specs.Prelude.{ℕ, Bool, false, bytes_eq, List, codes, if◌then◌else◌, Option, Some, None, option_map, option_and_then, unwrap_or, is_some, Result, Ok, Err, String, string_bytes}
use Rattle.std.specs.declared.alloc.Global.{Global}
use Rattle.serde_json.specs.Data.{Data, null}
use Rattle.serde_json.specs.Read.{read}
use Rattle.serde_json.specs.Find.{get, as_str}
use Rattle.serde_json.specs.Written.{has_float}
use Rattle.qmp_codec.specs.declared.form.Form.TheVariants as form
use Rattle.qmp_codec.specs.declared.walk.Search.TheVariants as search_for
use Rattle.qmp_codec.specs.declared.verb.Verb.{Verb}
use Rattle.qmp_codec.specs.declared.stop.CodecStop.{CodecStop}
use Rattle.qmp_codec.specs.declared.stop.CodecStop.TheVariants.{BadJson, UnknownCommand, Missing, Unexpected, BadType, NoMemory}
use Rattle.qmp_codec.specs.Verbs.{verb_of}
use Rattle.qmp_codec.specs.Forms.{text_in}
use Rattle.qmp_codec.specs.Walk.{Name, first_fault, least_unknown}
use Rattle.qmp_codec.specs.Commands.{Cmd, command_of}

-- a refusal as contracts see it
abbrev pub Stop : Type 0
Stop = CodecStop (List ℕ)

abbrev pub seen_stop : CodecStop (String Global) → Stop
seen_stop BadJson = BadJson
seen_stop (UnknownCommand name) = UnknownCommand (string_bytes name)
seen_stop (Missing name) = Missing (string_bytes name)
seen_stop (Unexpected name) = Unexpected (string_bytes name)
seen_stop (BadType name) = BadType (string_bytes name)
seen_stop NoMemory = NoMemory

-- what has a text `execute`, which only an object can have
abbrev pub with_execute : Data → Option Data
with_execute d = if is_some (option_and_then as_str (get (codes "execute") d)) then Some d else None

-- the object of a line, where it is one with a text `execute`
unfoldable pub line_in : List ℕ → Option Data
line_in text = option_and_then with_execute (read text)

abbrev pub is_capabilities : Data → Bool
is_capabilities line = bytes_eq (text_in (codes "execute") line) (codes "qmp_capabilities")

-- whether a line, be its members accepted or not, asks for capabilities
unfoldable pub asks_for_capabilities : List ℕ → Bool
asks_for_capabilities text = unwrap_or (option_map is_capabilities (line_in text)) false

-- absent arguments are like empty ones
abbrev pub arguments_of : Data → Data
arguments_of line = unwrap_or (get (codes "arguments") line) null

-- the first missing member, the least that is not accepted, the first of another kind: the first of these
abbrev pub first_cause : Option Name → Option Name → Option Name → Option Stop
first_cause (Some name) unexpected mistyped = Some (Missing name)
first_cause None (Some name) mistyped = Some (Unexpected name)
first_cause None None (Some name) = Some (BadType name)
first_cause None None None = None

-- A line, its arguments, an action, the action's data and a bitmap in it lie in one another: five tables deep.
unfoldable pub cause_in : Data → Option Stop
cause_in line = first_cause
    (first_fault 4 search_for.Missing form.Arguments line (arguments_of line))
    (least_unknown 5 form.Line null line)
    (first_fault 5 search_for.Mistyped form.Line null line)

abbrev pub unless : Option Stop → Cmd → Result Cmd Stop
unless (Some stop) command = Err stop
unless None command = Ok command

abbrev pub command_for : Option Verb → Data → Result Cmd Stop
command_for None line = Err (UnknownCommand (text_in (codes "execute") line))
command_for (Some verb) line = unless (cause_in line) (command_of verb (arguments_of line))

abbrev pub command_in : Option Data → Result Cmd Stop
command_in None = Err BadJson
command_in (Some line) = command_for (verb_of (text_in (codes "execute") line)) line

-- the command of a line, or why it is refused
unfoldable pub command_at : List ℕ → Result Cmd Stop
command_at text = command_in (line_in text)

abbrev pub unless_fraction : Data → Option Data
unless_fraction d = if has_float d then None else Some d

-- the id that the answer to a line repeats, whether the line is accepted or not
unfoldable pub id_at : List ℕ → Option Data
id_at text = option_and_then unless_fraction (option_and_then (get (codes "id")) (line_in text))
