-- Lines as they are read.
use Rattle.std.specs.Prelude.{Result, Ok, Err}
use Rattle.qmp_codec.specs.Commands.{Cmd, seen_command}
use Rattle.qmp_codec.specs.Lines.{Stop, seen_stop}
use Rattle.world_lines.specs.declared.line.LineRead.{LineRead}
use Rattle.world_lines.specs.declared.line.LineRead.TheVariants.{Command, Stop as Stopped}

abbrev pub command_or_stop : LineRead → Result Cmd Stop
command_or_stop (Command command) = Ok (seen_command command)
command_or_stop (Stopped stop) = Err (seen_stop stop)
