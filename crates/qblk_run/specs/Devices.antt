-- Which guests have a device, by the entries of a run alone.
use Rattle.std.specs.Prelude.{◌≡◌, ℕ, Bool, false, not, ◌&&◌, ◌||◌, if◌then◌else◌, List, bytes_eq, Some, Result, Ok, is_some}
use Rattle.serde_json.specs.Data.{object, no_members}
use Rattle.serde_json.specs.Written.{compact_text}
use Rattle.qmp_codec.specs.Commands.{Cmd}
use Rattle.qmp_codec.specs.Lines.{Stop, command_at, id_at}
use Rattle.qmp_codec.specs.Replies.{returned_data}
use Rattle.qmp_codec.specs.declared.command.Command.TheVariants as command
use Rattle.qmp_rules.specs.Edits.{place_from}
use Rattle.qmp_rules.specs.Table.{RunTable, device_by_number}
use Rattle.blk_history.specs.Fold.{run}
use Rattle.blk_history.specs.declared.event.Event.{Event}
use Rattle.blk_history.specs.declared.event.Event.TheVariants.{Reply}

-- the reply to a line that is accepted and gives nothing
abbrev pub plain_reply : List ℕ → List ℕ
plain_reply given = compact_text (returned_data (id_at given) (object no_members))

-- what a command that is accepted makes of it for the guest of a name
abbrev pub with_command : List ℕ → Bool → Result Cmd Stop → Bool
with_command name has (Ok (command.DeviceAdd c)) = bytes_eq c.id name || has
with_command name has (Ok (command.DeviceDel id)) = not (bytes_eq id name) && has
with_command name has line = has

abbrev pub has_after : List ℕ → Bool → Event → Bool
has_after name has (Reply line given command text) =
    if bytes_eq text (plain_reply given) then with_command name has (command_at given) else has
has_after name has e = has

-- the last command that was accepted and speaks of the guest's device adds it
abbrev pub has_device : List ℕ → List Event → Bool
has_device name h = run (has_after name) false h

-- so it is in the table, of each guest by its place
abbrev pub HaveDevices : List (List ℕ) → List Event → RunTable → Type 0
HaveDevices guests h t = (name : List ℕ) (g : ℕ)
    → place_from 0 name guests ≡ Some g → is_some (device_by_number t g) ≡ has_device name h
