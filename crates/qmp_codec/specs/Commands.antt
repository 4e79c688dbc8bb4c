-- The command of a line, as its members say it.
use Rattle.std.specs.Prelude.{ℕ, List, [], ◌∷◌, codes, Option, Some, None, option_map, option_and_then, String, string_bytes, Vec, map}
use Rattle.std.specs.declared.alloc.Global.{Global}
use Rattle.serde_json.specs.Data.{Data, string, array, Items, no_items, item}
use Rattle.serde_json.specs.Find.{get}
use Rattle.qmp_codec.specs.declared.words.CompletionMode.{CompletionMode}
use Rattle.qmp_codec.specs.Words.{completion_mode_of}
use Rattle.qmp_codec.specs.Forms.{text_in}
use Rattle.qmp_codec.specs.Fields.{text_if, flag_if}
use Rattle.qmp_codec.specs.declared.verb.Verb.{Verb}
use Rattle.qmp_codec.specs.declared.verb.Verb.TheVariants as verb
use Rattle.qmp_codec.specs.declared.verb.Deed.{Deed}
use Rattle.qmp_codec.specs.declared.verb.Deed.TheVariants as deed
use Rattle.qmp_codec.specs.Verbs.{deed_of}
use Rattle.qmp_codec.specs.declared.bitmaps.MergeSource.{MergeSource}
use Rattle.qmp_codec.specs.declared.command.Action.{Action}
use Rattle.qmp_codec.specs.declared.command.Action.TheVariants as action
use Rattle.qmp_codec.specs.declared.command.Transaction.{Transaction}
use Rattle.qmp_codec.specs.declared.command.Command.{Command}
use Rattle.qmp_codec.specs.declared.command.Command.TheVariants as command
use Rattle.qmp_codec.specs.Bitmaps.{bitmap_add_in, bitmap_name_in, bitmap_merge_in, seen_bitmap_add, seen_bitmap_name, seen_bitmap_merge}
use Rattle.qmp_codec.specs.Jobs.{stream_in, commit_in, mirror_in, backup_in, seen_stream, seen_commit, seen_mirror, seen_backup}
use Rattle.qmp_codec.specs.Nodes.{blockdev_add_in, blockdev_create_in, device_add_in, snapshot_in, seen_blockdev_add, seen_blockdev_create, seen_device_add, seen_snapshot}

-- ---- values of the code, and the values that contracts compare: texts as bytes, vectors as lists

abbrev pub SeenSources : Type 0
SeenSources = List (MergeSource (List ℕ))

abbrev pub Act : Type 0
Act = Action (List ℕ) SeenSources

-- a command as contracts see it
abbrev pub Cmd : Type 0
Cmd = Command (List ℕ) (List (List ℕ)) SeenSources (List Act)

abbrev pub MadeSources : Type 0
MadeSources = Vec (MergeSource (String Global)) Global

abbrev pub MadeAction : Type 0
MadeAction = Action (String Global) MadeSources

abbrev pub MadeCommand : Type 0
MadeCommand =
    Command (String Global) (Vec (String Global) Global) MadeSources (Vec MadeAction Global)

abbrev pub seen_action : MadeAction → Act
seen_action action.Abort = action.Abort
seen_action (action.Snapshot c) = action.Snapshot (seen_snapshot c)
seen_action (action.Backup c) = action.Backup (seen_backup c)
seen_action (action.BitmapAdd c) = action.BitmapAdd (seen_bitmap_add c)
seen_action (action.BitmapRemove c) = action.BitmapRemove (seen_bitmap_name c)
seen_action (action.BitmapClear c) = action.BitmapClear (seen_bitmap_name c)
seen_action (action.BitmapEnable c) = action.BitmapEnable (seen_bitmap_name c)
seen_action (action.BitmapDisable c) = action.BitmapDisable (seen_bitmap_name c)
seen_action (action.BitmapMerge c) = action.BitmapMerge (seen_bitmap_merge c)
seen_action action.Unknown = action.Unknown

abbrev pub seen_transaction : Transaction (Vec MadeAction Global) → Transaction (List Act)
seen_transaction c = record {
  actions = map seen_action c.actions.items;
  completion_mode = c.completion_mode;
}

abbrev pub seen_command : MadeCommand → Cmd
seen_command (command.Capabilities texts) =
    command.Capabilities (option_map (λ v. map string_bytes v.items) texts)
seen_command (command.BlockdevCreate c) = command.BlockdevCreate (seen_blockdev_create c)
seen_command (command.JobDismiss id) = command.JobDismiss (string_bytes id)
seen_command (command.BlockdevAdd c) = command.BlockdevAdd (seen_blockdev_add c)
seen_command (command.BlockdevDel name) = command.BlockdevDel (string_bytes name)
seen_command (command.DeviceAdd c) = command.DeviceAdd (seen_device_add c)
seen_command (command.DeviceDel id) = command.DeviceDel (string_bytes id)
seen_command (command.BlockdevSnapshot c) = command.BlockdevSnapshot (seen_snapshot c)
seen_command (command.Transaction c) = command.Transaction (seen_transaction c)
seen_command (command.BlockStream c) = command.BlockStream (seen_stream c)
seen_command (command.BlockCommit c) = command.BlockCommit (seen_commit c)
seen_command (command.BlockdevMirror c) = command.BlockdevMirror (seen_mirror c)
seen_command (command.BlockdevBackup c) = command.BlockdevBackup (seen_backup c)
seen_command (command.BlockJobCancel job force) = command.BlockJobCancel (string_bytes job) force
seen_command (command.BlockJobComplete job) = command.BlockJobComplete (string_bytes job)
seen_command command.QueryBlockJobs = command.QueryBlockJobs
seen_command (command.QueryNamedBlockNodes flat) = command.QueryNamedBlockNodes flat
seen_command (command.BitmapAdd c) = command.BitmapAdd (seen_bitmap_add c)
seen_command (command.BitmapRemove c) = command.BitmapRemove (seen_bitmap_name c)
seen_command (command.BitmapClear c) = command.BitmapClear (seen_bitmap_name c)
seen_command (command.BitmapEnable c) = command.BitmapEnable (seen_bitmap_name c)
seen_command (command.BitmapDisable c) = command.BitmapDisable (seen_bitmap_name c)
seen_command (command.BitmapMerge c) = command.BitmapMerge (seen_bitmap_merge c)

-- ---- what the members say

abbrev pub action_by : Deed → Data → Act
action_by deed.Abort d = action.Abort
action_by deed.Snapshot d = action.Snapshot (snapshot_in d)
action_by deed.Backup d = action.Backup (backup_in d)
action_by deed.BitmapAdd d = action.BitmapAdd (bitmap_add_in d)
action_by deed.BitmapRemove d = action.BitmapRemove (bitmap_name_in d)
action_by deed.BitmapClear d = action.BitmapClear (bitmap_name_in d)
action_by deed.BitmapEnable d = action.BitmapEnable (bitmap_name_in d)
action_by deed.BitmapDisable d = action.BitmapDisable (bitmap_name_in d)
action_by deed.BitmapMerge d = action.BitmapMerge (bitmap_merge_in d)
action_by deed.Unknown d = action.Unknown

abbrev pub action_or : Deed → Option Data → Act
action_or kind None = action.Unknown
action_or kind (Some d) = action_by kind d

abbrev pub action_of : Data → Act
action_of d = action_or (deed_of (text_in (codes "type") d)) (get (codes "data") d)

abbrev pub actions_of : Items → List Act
actions_of no_items = []
actions_of (item d ds) = action_of d ∷ actions_of ds

abbrev pub actions_or : Option Data → List Act
actions_or (Some (array ds)) = actions_of ds
actions_or _ = []

abbrev pub completion_in : Data → Option CompletionMode
completion_in d =
    option_map completion_mode_of
    (option_and_then (text_if (codes "completion-mode")) (get (codes "properties") d))

abbrev pub transaction_in : Data → Transaction (List Act)
transaction_in d = record {
  actions = actions_or (get (codes "actions") d);
  completion_mode = completion_in d;
}

abbrev pub item_text : Data → List ℕ
item_text (string s) = s
item_text _ = []

abbrev pub texts_of : Items → List (List ℕ)
texts_of no_items = []
texts_of (item d ds) = item_text d ∷ texts_of ds

abbrev pub texts_if : Option Data → Option (List (List ℕ))
texts_if (Some (array ds)) = Some (texts_of ds)
texts_if _ = None

unfoldable pub command_of : Verb → Data → Cmd
command_of verb.Capabilities d = command.Capabilities (texts_if (get (codes "enable") d))
command_of verb.Create d = command.BlockdevCreate (blockdev_create_in d)
command_of verb.JobDismiss d = command.JobDismiss (text_in (codes "id") d)
command_of verb.Add d = command.BlockdevAdd (blockdev_add_in d)
command_of verb.Del d = command.BlockdevDel (text_in (codes "node-name") d)
command_of verb.DeviceAdd d = command.DeviceAdd (device_add_in d)
command_of verb.DeviceDel d = command.DeviceDel (text_in (codes "id") d)
command_of verb.Snapshot d = command.BlockdevSnapshot (snapshot_in d)
command_of verb.Transaction d = command.Transaction (transaction_in d)
command_of verb.Stream d = command.BlockStream (stream_in d)
command_of verb.Commit d = command.BlockCommit (commit_in d)
command_of verb.Mirror d = command.BlockdevMirror (mirror_in d)
command_of verb.Backup d = command.BlockdevBackup (backup_in d)
command_of verb.JobCancel d =
    command.BlockJobCancel (text_in (codes "device") d) (flag_if (codes "force") d)
command_of verb.JobComplete d = command.BlockJobComplete (text_in (codes "device") d)
command_of verb.ListJobs d = command.QueryBlockJobs
command_of verb.ListNodes d = command.QueryNamedBlockNodes (flag_if (codes "flat") d)
command_of verb.BitmapAdd d = command.BitmapAdd (bitmap_add_in d)
command_of verb.BitmapRemove d = command.BitmapRemove (bitmap_name_in d)
command_of verb.BitmapClear d = command.BitmapClear (bitmap_name_in d)
command_of verb.BitmapEnable d = command.BitmapEnable (bitmap_name_in d)
command_of verb.BitmapDisable d = command.BitmapDisable (bitmap_name_in d)
command_of verb.BitmapMerge d = command.BitmapMerge (bitmap_merge_in d)
