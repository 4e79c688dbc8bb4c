-- The list of asks of each command and action, in the order of the refusals.
use Rattle.std.specs.Prelude.{ℕ, Bool, true, false, ◌==◌, List, [], ◌∷◌, ◌++◌, codes, Option, Some, None, is_none}
use Rattle.qmp_codec.specs.declared.command.Action.{Action}
use Rattle.qmp_codec.specs.declared.command.Action.TheVariants as action
use Rattle.qmp_codec.specs.declared.command.Command.{Command}
use Rattle.qmp_codec.specs.declared.command.Command.TheVariants as command
use Rattle.qmp_codec.specs.declared.command.Transaction.{Transaction}
use Rattle.qmp_codec.specs.Commands.{Act, Cmd}
use Rattle.qmp_asks.specs.declared.ask.Ask.TheVariants.{Good, Kept, Named, Abort}
use Rattle.qmp_asks.specs.Asking.{Asking}
use Rattle.qmp_asks.specs.Values.{absent_or, is_completion_mode}
use Rattle.qmp_asks.specs.NodeAsks.{create_asks, add_asks, del_asks, device_add_asks, device_del_asks, snapshot_values, snapshot_names, snapshot_rest}
use Rattle.qmp_asks.specs.JobAsks.{stream_asks, commit_asks, mirror_asks, backup_values, backup_names, backup_rest, cancel_asks, complete_asks}
use Rattle.qmp_asks.specs.BitmapAsks.{bitmap_add_values, bitmap_add_names, bitmap_add_rest, bitmap_names, bitmap_rest, merge_names, merge_rest}

-- nothing may be enabled
abbrev pub is_nothing : Option (List (List ℕ)) → Bool
is_nothing (Some (text ∷ texts)) = false
is_nothing _ = true

-- ---- actions: values of members, members that are names, and the rest

abbrev pub action_values : Act → List Asking
action_values action.Unknown = Good (codes "type") false ∷ []
action_values (action.Snapshot c) = snapshot_values c
action_values (action.Backup c) = backup_values c
action_values (action.BitmapAdd c) = bitmap_add_values c
action_values _ = []

abbrev pub action_names : Act → List Asking
action_names action.Abort = []
action_names action.Unknown = []
action_names (action.Snapshot c) = snapshot_names c
action_names (action.Backup c) = backup_names c
action_names (action.BitmapAdd c) = bitmap_add_names c
action_names (action.BitmapRemove c) = bitmap_names c
action_names (action.BitmapClear c) = bitmap_names c
action_names (action.BitmapEnable c) = bitmap_names c
action_names (action.BitmapDisable c) = bitmap_names c
action_names (action.BitmapMerge c) = merge_names c

abbrev pub action_rest : Act → List Asking
action_rest action.Abort = Abort ∷ []
action_rest action.Unknown = []
action_rest (action.Snapshot c) = snapshot_rest c
action_rest (action.Backup c) = backup_rest c
action_rest (action.BitmapAdd c) = bitmap_add_rest c
action_rest (action.BitmapRemove c) = bitmap_rest c
action_rest (action.BitmapClear c) = bitmap_rest c
action_rest (action.BitmapEnable c) = bitmap_rest c
action_rest (action.BitmapDisable c) = bitmap_rest c
action_rest (action.BitmapMerge c) = merge_rest c

abbrev pub all_values : List Act → List Asking
all_values [] = []
all_values (a ∷ actions) = action_values a ++ all_values actions

abbrev pub all_names : List Act → List Asking
all_names [] = []
all_names (a ∷ actions) = action_names a ++ all_names actions

-- the mode of completion, and the names that the actions have
abbrev pub transaction_names : Transaction (List Act) → List Asking
transaction_names c =
    Good (codes "completion-mode") (absent_or is_completion_mode c.completion_mode)
    ∷ all_names c.actions

-- what a transaction asks of its whole line; what its actions ask of the table comes behind that, one after another
abbrev pub transaction_asks : Transaction (List Act) → List Asking
transaction_asks c = all_values c.actions ++ transaction_names c

-- ---- commands

unfoldable pub asks_of : Cmd → List Asking
asks_of (command.Capabilities enable) = Good (codes "enable") (is_nothing enable) ∷ []
asks_of (command.BlockdevCreate c) = create_asks c
asks_of (command.JobDismiss id) = Named (codes "id") (Some id) ∷ Kept id ∷ []
asks_of (command.BlockdevAdd c) = add_asks c
asks_of (command.BlockdevDel name) = del_asks name
asks_of (command.DeviceAdd c) = device_add_asks c
asks_of (command.DeviceDel id) = device_del_asks id
asks_of (command.BlockdevSnapshot c) = snapshot_values c ++ snapshot_names c ++ snapshot_rest c
asks_of (command.Transaction c) = transaction_asks c
asks_of (command.BlockStream c) = stream_asks c
asks_of (command.BlockCommit c) = commit_asks c
asks_of (command.BlockdevMirror c) = mirror_asks c
asks_of (command.BlockdevBackup c) = backup_values c ++ backup_names c ++ backup_rest c
asks_of (command.BlockJobCancel job force) = cancel_asks job
asks_of (command.BlockJobComplete job) = complete_asks job
asks_of command.QueryBlockJobs = []
asks_of (command.QueryNamedBlockNodes flat) = []
asks_of (command.BitmapAdd c) = bitmap_add_values c ++ bitmap_add_names c ++ bitmap_add_rest c
asks_of (command.BitmapRemove c) = bitmap_names c ++ bitmap_rest c
asks_of (command.BitmapClear c) = bitmap_names c ++ bitmap_rest c
asks_of (command.BitmapEnable c) = bitmap_names c ++ bitmap_rest c
asks_of (command.BitmapDisable c) = bitmap_names c ++ bitmap_rest c
asks_of (command.BitmapMerge c) = merge_names c ++ merge_rest c

-- ---- names

abbrev pub command_name : Cmd → List ℕ
command_name (command.Capabilities enable) = codes "qmp_capabilities"
command_name (command.BlockdevCreate c) = codes "blockdev-create"
command_name (command.JobDismiss id) = codes "job-dismiss"
command_name (command.BlockdevAdd c) = codes "blockdev-add"
command_name (command.BlockdevDel name) = codes "blockdev-del"
command_name (command.DeviceAdd c) = codes "device_add"
command_name (command.DeviceDel id) = codes "device_del"
command_name (command.BlockdevSnapshot c) = codes "blockdev-snapshot"
command_name (command.Transaction c) = codes "transaction"
command_name (command.BlockStream c) = codes "block-stream"
command_name (command.BlockCommit c) = codes "block-commit"
command_name (command.BlockdevMirror c) = codes "blockdev-mirror"
command_name (command.BlockdevBackup c) = codes "blockdev-backup"
command_name (command.BlockJobCancel job force) = codes "block-job-cancel"
command_name (command.BlockJobComplete job) = codes "block-job-complete"
command_name command.QueryBlockJobs = codes "query-block-jobs"
command_name (command.QueryNamedBlockNodes flat) = codes "query-named-block-nodes"
command_name (command.BitmapAdd c) = codes "block-dirty-bitmap-add"
command_name (command.BitmapRemove c) = codes "block-dirty-bitmap-remove"
command_name (command.BitmapClear c) = codes "block-dirty-bitmap-clear"
command_name (command.BitmapEnable c) = codes "block-dirty-bitmap-enable"
command_name (command.BitmapDisable c) = codes "block-dirty-bitmap-disable"
command_name (command.BitmapMerge c) = codes "block-dirty-bitmap-merge"

-- The commands that are carried out so far. Every other one is not known yet; with what it asks and changes defined, a
-- line here makes it known.
abbrev pub is_built : Cmd → Bool
is_built (command.Capabilities enable) = true
is_built (command.BlockdevCreate c) = true
is_built (command.JobDismiss id) = true
is_built (command.BlockdevAdd c) = true
is_built (command.BlockdevDel name) = true
is_built (command.DeviceAdd c) = true
is_built (command.DeviceDel id) = true
is_built (command.BlockdevSnapshot c) = true
is_built (command.BlockdevMirror c) = true
is_built (command.BlockdevBackup c) = true
is_built (command.BlockJobCancel job force) = true
is_built (command.BlockJobComplete job) = true
is_built command.QueryBlockJobs = true
is_built (command.QueryNamedBlockNodes flat) = true
is_built (command.BitmapAdd c) = true
is_built (command.BitmapRemove c) = true
is_built (command.BitmapClear c) = true
is_built (command.BitmapEnable c) = true
is_built (command.BitmapDisable c) = true
is_built (command.BitmapMerge c) = true
is_built _ = false

abbrev pub negotiates : Cmd → Bool
negotiates (command.Capabilities enable) = true
negotiates _ = false
