-- Jobs that commands begin have rows of copies, where they are backups or mirrors.
use Rattle.std.proofs.Common.{ℕ, Bool, true, false, List, [], ◌∷◌, ◌++◌, subst, sym, Option, Some, None, Result, Ok, Err}
use Rattle.std.specs.Prelude.{if◌then◌else◌}
use Rattle.std.specs.List.{find}
use Rattle.std.proofs.lemmas.Bool.{false≢true}
use Rattle.qmp_asks.specs.NodeAsks.{backing_name, is_read_only}
use Rattle.qmp_asks.specs.Values.{flag_or_false}
use Rattle.qmp_codec.specs.Commands.{Act, Cmd, SeenSources}
use Rattle.qmp_codec.specs.Lines.{Stop, command_at}
use Rattle.qmp_codec.specs.declared.command.Action.TheVariants as action
use Rattle.qmp_codec.specs.declared.command.Command.TheVariants as command
use Rattle.qmp_codec.specs.declared.nodes.AddRaw.{AddRaw}
use Rattle.qmp_codec.specs.declared.nodes.Added.{Added}
use Rattle.qmp_codec.specs.declared.nodes.Added.TheVariants as added
use Rattle.qmp_codec.specs.declared.nodes.Created.{Created}
use Rattle.qmp_codec.specs.declared.nodes.Created.TheVariants as created
use Rattle.qmp_codec.specs.declared.nodes.DeviceAdd.{DeviceAdd}
use Rattle.qmp_codec.specs.declared.nodes.FileRef.{FileRef}
use Rattle.qmp_codec.specs.declared.nodes.FileRef.TheVariants as file_ref
use Rattle.qmp_rules.specs.Answers.{actions_edits, command_edits, group_of}
use Rattle.qmp_rules.specs.Asks.{is_file}
use Rattle.qmp_rules.specs.Changes.{all_changed}
use Rattle.qmp_rules.specs.Edits.{action_edits, added_edits, asked_by_cancel, backup_job, commit_job, created_change, device_uses, edits_of, file_under, file_uses, goes_with_node, merges, mirror_job, new_device, of_row, qcow2_edits, raw_edits, row_gone, spoiled, stream_job, with_inline}
use Rattle.qmp_rules.specs.Table.{RunTable, device_named, job_named, node_named}
use Rattle.qmp_rules.specs.declared.change.Change.{Change}
use Rattle.qmp_rules.specs.declared.change.Change.TheVariants as change
use Rattle.qmp_rules.specs.declared.rows.AskedEnd.{AskedEnd}
use Rattle.qmp_rules.specs.declared.rows.AskedEnd.TheVariants as asked
use Rattle.qmp_rules.specs.declared.rows.DeviceRow.{DeviceRow}
use Rattle.qmp_rules.specs.declared.rows.JobRecord.{JobRecord}
use Rattle.qmp_rules.specs.declared.rows.NodeRecord.{NodeRecord}
use Rattle.qmp_rules.specs.declared.told.Told.{Told}
use Rattle.flat_machine.specs.Replies.{edits_by, failed_edits, is_accepted, replied, tells_failure}
use Rattle.flat_machine.specs.Sights.{expected}
use Rattle.flat_machine.specs.State.{State}
use Rattle.flat_machine.proofs.Resting.{stepped_table}
use Rattle.job_ends.specs.Rows.{AllBeginCopyRows, AreCopyRows}
use Rattle.job_ends.proofs.Rows.{backup_row, changes_rows, mirror_row, rows-append, start_begins}

-- ---- parts of commands

of_uses : (name : Option (List ℕ)) → AllBeginCopyRows (file_uses name)
of_uses None = tt
of_uses (Some name) = (tt, tt)

of_created : (t : RunTable) (options : Created (List ℕ)) → AllBeginCopyRows (created_change t options)
of_created t (created.File c) = (tt, tt)
of_created t (created.Qcow2 c) = (tt, tt)
of_created t created.Unknown = tt

of_spoiled : (t : RunTable) (options : Created (List ℕ)) → AllBeginCopyRows (spoiled t options)
of_spoiled t (created.File c) = (tt, tt)
of_spoiled t (created.Qcow2 c) = (tt, tt)
of_spoiled t created.Unknown = tt

of_inline : (t : RunTable) (id : ℕ) → AllBeginCopyRows (with_inline t id)
of_inline t id = by_row (find (goes_with_node id) t.nodes)
  where
    by_row : (found : Option NodeRecord) → AllBeginCopyRows (elim found as (λ _. List Change) [ None ↦ [] | Some row ↦ change.RemoveNode row.id ∷ [] ])
    by_row None = tt
    by_row (Some row) = (tt, tt)

of_del : (t : RunTable) (found : Option NodeRecord) → AllBeginCopyRows (of_row (row_gone t) found)
of_del t None = tt
of_del t (Some row) =
    rows-append (file_uses (file_under t row)) (change.RemoveNode row.id ∷ with_inline t row.id) (of_uses (file_under t row)) (tt, of_inline t row.id)

of_device_uses : (row : NodeRecord) → AllBeginCopyRows (device_uses row)
of_device_uses row = by_file (is_file row)
  where
    by_file : (b : Bool) → AllBeginCopyRows (if b then file_uses row.filename else [])
    by_file true = of_uses row.filename
    by_file false = tt

of_device : (t : RunTable) (c : DeviceAdd (List ℕ)) (found : Option NodeRecord)
    → AllBeginCopyRows (of_row (λ row. device_uses row ++ change.AddDevice (new_device t c row) row.id ∷ []) found)
of_device t c None = tt
of_device t c (Some row) = rows-append (device_uses row) (change.AddDevice (new_device t c row) row.id ∷ []) (of_device_uses row) (tt, tt)

of_gone : (found : Option DeviceRow)
    → AllBeginCopyRows (elim found as (λ _. List Change) [ None ↦ [] | Some device ↦ change.RemoveDevice device.number ∷ [] ])
of_gone None = tt
of_gone (Some device) = (tt, tt)

of_raw : (t : RunTable) (told : Told) (name : List ℕ) (read_only : Bool) (raw : AddRaw (List ℕ)) (file : FileRef (List ℕ))
    → AllBeginCopyRows (raw_edits t told name read_only raw file)
of_raw t told name read_only raw (file_ref.Name file) = (tt, tt)
of_raw t told name read_only raw (file_ref.Inline file) = (tt, (tt, tt))

of_qcow2 : (t : RunTable) (told : Told) (name : List ℕ) (read_only : Bool) (back : Option (List ℕ)) (file : FileRef (List ℕ))
    → AllBeginCopyRows (qcow2_edits t told name read_only back file)
of_qcow2 t told name read_only back (file_ref.Name file) = (tt, tt)
of_qcow2 t told name read_only back (file_ref.Inline file) = (tt, (tt, tt))

of_added : (t : RunTable) (told : Told) (name : List ℕ) (read_only : Bool) (driver : Added (List ℕ))
    → AllBeginCopyRows (added_edits t told name read_only driver)
of_added t told name read_only (added.File filename) = (tt, tt)
of_added t told name read_only (added.Raw raw) = of_raw t told name read_only raw raw.file
of_added t told name read_only (added.Qcow2 image) = of_qcow2 t told name read_only (backing_name image.backing) image.file
of_added t told name read_only (added.CopyOnRead file) = (tt, tt)
of_added t told name read_only added.Unknown = tt

of_merges : (t : RunTable) (node target : List ℕ) (sources : SeenSources) → AllBeginCopyRows (merges t node target sources)
of_merges t node target [] = tt
of_merges t node target (source ∷ sources) = (tt, of_merges t node target sources)

of_asked : (ask : JobRecord → AskedEnd) (found : Option JobRecord)
    → AllBeginCopyRows (elim found as (λ _. List Change) [ None ↦ [] | Some job ↦ change.AskJob job.number (ask job) ∷ [] ])
of_asked ask None = tt
of_asked ask (Some job) = (tt, tt)

-- ---- commands

of_action : (t : RunTable) (group : Option ℕ) (a : Act) → AllBeginCopyRows (action_edits t group a)
unfolding action_edits
of_action t group (action.Backup c) = start_begins t (backup_job t group c) (λ copies. backup_row t group c)
of_action t group (action.Snapshot c) = (tt, (tt, tt))
of_action t group (action.BitmapAdd c) = (tt, tt)
of_action t group (action.BitmapRemove c) = (tt, tt)
of_action t group (action.BitmapClear c) = (tt, tt)
of_action t group (action.BitmapEnable c) = (tt, tt)
of_action t group (action.BitmapDisable c) = (tt, tt)
of_action t group (action.BitmapMerge c) = of_merges t c.node c.target c.bitmaps
of_action t group _ = tt

of_actions : (t : RunTable) (group : Option ℕ) (actions : List Act) → AllBeginCopyRows (actions_edits t group actions)
of_actions t group [] = tt
of_actions t group (a ∷ actions) =
    rows-append (action_edits t group a) (actions_edits (all_changed t (action_edits t group a)) group actions) (of_action t group a)
    (of_actions (all_changed t (action_edits t group a)) group actions)

of_command : (t : RunTable) (told : Told) (c : Cmd) → AllBeginCopyRows (command_edits t told c)
unfolding edits_of
of_command t told (command.Capabilities enable) = (tt, tt)
of_command t told (command.BlockdevCreate c) = (tt, of_created t c.options)
of_command t told (command.JobDismiss id) = (tt, tt)
of_command t told (command.BlockdevAdd c) = of_added t told c.node_name (is_read_only c.options) c.driver
of_command t told (command.BlockdevDel name) = of_del t (node_named t name)
of_command t told (command.DeviceAdd c) = of_device t c (node_named t c.drive)
of_command t told (command.DeviceDel id) = of_gone (device_named t id)
of_command t told (command.BlockdevSnapshot c) = (tt, (tt, tt))
of_command t told (command.Transaction c) = of_actions t (group_of t c) c.actions
of_command t told (command.BlockStream c) = start_begins t (stream_job t c) (λ copies. absurd (false≢true copies))
of_command t told (command.BlockCommit c) = start_begins t (commit_job t c) (λ copies. absurd (false≢true copies))
of_command t told (command.BlockdevMirror c) = start_begins t (mirror_job t c) (λ copies. mirror_row t c)
of_command t told (command.BlockdevBackup c) = start_begins t (backup_job t None c) (λ copies. backup_row t None c)
of_command t told (command.BlockJobCancel job force) = of_asked (asked_by_cancel (flag_or_false force)) (job_named t job)
of_command t told (command.BlockJobComplete job) = of_asked (λ row. asked.Complete) (job_named t job)
of_command t told (command.BitmapAdd c) = (tt, tt)
of_command t told (command.BitmapRemove c) = (tt, tt)
of_command t told (command.BitmapClear c) = (tt, tt)
of_command t told (command.BitmapEnable c) = (tt, tt)
of_command t told (command.BitmapDisable c) = (tt, tt)
of_command t told (command.BitmapMerge c) = of_merges t c.node c.target c.bitmaps
of_command t told _ = tt

pub command_rows : (t : RunTable) (told : Told) (c : Cmd) → AreCopyRows t.jobs → AreCopyRows (all_changed t (command_edits t told c)).jobs
command_rows t told c = changes_rows (command_edits t told c) t (of_command t told c)

-- ---- replies

of_failed : (t : RunTable) (c : Cmd) → AllBeginCopyRows (failed_edits t c)
of_failed t (command.BlockdevCreate c) = of_spoiled t c.options
of_failed t _ = tt

of_reply : (s : State) (text : List ℕ) (c : Result Cmd Stop) → AllBeginCopyRows (edits_by s text c)
of_reply s text (Err why) = tt
of_reply s text (Ok c) = by_text (is_accepted text) (tells_failure text)
  where
    by_text : (accepted failed : Bool)
        → AllBeginCopyRows (if accepted then command_edits s.table (expected s c) c else if failed then failed_edits s.table c else [])
    by_text true failed = of_command s.table (expected s c) c
    by_text false true = of_failed s.table c
    by_text false false = tt

pub replied_rows : (s : State) (given text : List ℕ) → AreCopyRows s.table.jobs → AreCopyRows (replied s given text).table.jobs
replied_rows s given text rows =
    subst (λ (t : RunTable). AreCopyRows t.jobs) (sym (stepped_table (edits_by s text (command_at given)) s))
    (changes_rows (edits_by s text (command_at given)) s.table (of_reply s text (command_at given)) rows)
