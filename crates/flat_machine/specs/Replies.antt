-- Answers to lines of the script: which one fits, and what it does.
use Rattle.std.specs.Prelude.{◌≡◌, ℕ, Bool, true, false, ◌||◌, if◌then◌else◌, List, [], codes, nat_eq, Option, Some, None, is_some, option_and_then, Result, Ok, Err}
use Rattle.std.specs.List.{starts_with, list_any}
use Rattle.std.specs.Option.{option_map_or}
use Rattle.serde_json.specs.Read.{read}
use Rattle.serde_json.specs.Find.{get, as_str}
use Rattle.qmp_codec.specs.Commands.{Act, Cmd}
use Rattle.qmp_codec.specs.Lines.{Stop, command_at}
use Rattle.qmp_codec.specs.declared.command.Action.TheVariants as action
use Rattle.qmp_codec.specs.declared.command.Command.TheVariants as command
use Rattle.qmp_rules.specs.declared.change.Change.{Change}
use Rattle.qmp_rules.specs.declared.told.Told.{Told}
use Rattle.qmp_rules.specs.Table.{RunTable}
use Rattle.qmp_rules.specs.Edits.{spoiled}
use Rattle.qmp_rules.specs.Answers.{command_edits, line_text}
use Rattle.flat_machine.specs.State.{State}
use Rattle.flat_machine.specs.Changed.{all_stepped}
use Rattle.flat_machine.specs.Sights.{expected, IsTold}

-- ---- what a text says

-- it is accepted where its object has the member `return`
abbrev pub is_accepted : List ℕ → Bool
is_accepted text = is_some (option_and_then (get (codes "return")) (read text))

-- the words of a refusal
abbrev pub desc_of : List ℕ → Option (List ℕ)
desc_of text =
    option_and_then as_str
    (option_and_then (get (codes "desc")) (option_and_then (get (codes "error")) (read text)))

-- the words of a failed call; no name holds a blank, so no other refusal begins so
abbrev pub is_failed_call : List ℕ → Bool
is_failed_call desc =
    starts_with nat_eq desc (codes "io dev")
    || (starts_with nat_eq desc (codes "io store ")
    || starts_with nat_eq desc (codes "nospace dev"))

abbrev pub tells_failure : List ℕ → Bool
tells_failure text = option_map_or is_failed_call (desc_of text) false

-- ---- what it does

-- an action, and a command, that begins a job once it is accepted
abbrev pub backs_up : Act → Bool
backs_up (action.Backup c) = true
backs_up act = false

abbrev pub begins_job : Cmd → Bool
begins_job (command.BlockStream c) = true
begins_job (command.BlockCommit c) = true
begins_job (command.BlockdevMirror c) = true
begins_job (command.BlockdevBackup c) = true
begins_job (command.Transaction c) = list_any backs_up c.actions
begins_job c = false

-- of the commands of which a call failed a creation alone leaves something: its file used, and a file node unsettled
abbrev pub failed_edits : RunTable → Cmd → List Change
failed_edits t (command.BlockdevCreate c) = spoiled t c.options
failed_edits t c = []

abbrev pub edits_by : State → List ℕ → Result Cmd Stop → List Change
edits_by s text (Err why) = []
edits_by s text (Ok c) =
    if is_accepted text then command_edits s.table (expected s c) c
    else if tells_failure text then failed_edits s.table c
    else []

abbrev pub replied : State → List ℕ → List ℕ → State
replied s given text = all_stepped s (edits_by s text (command_at given))

-- ---- which one fits

-- the command of the line, where it was read as one
abbrev pub command_read : Result Cmd Stop → Option Cmd
command_read (Ok c) = Some c
command_read (Err why) = None

-- what is told of a line; of one that is no command nothing is asked
abbrev pub IsToldOf : State → Option Cmd → Told → Type 0
IsToldOf s None told = Unit {0}
IsToldOf s (Some c) told = IsTold s c told

-- the text is the answer to the line, for something that the files may tell
pub record IsAnswer (s : State) (given : List ℕ) (command : Option Cmd) (text : List ℕ) : Type 0
  where
    pub understood : command ≡ command_read (command_at given)
    pub told : Told
    pub is_told : IsToldOf s (command_read (command_at given)) told
    pub answered : text ≡ line_text s.table told given
