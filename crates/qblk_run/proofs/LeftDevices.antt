-- Commands that leave the devices of guests as they are.
use Rattle.std.proofs.Common.{◌≡◌, ℕ, Bool, true, false, List, [], ◌∷◌, ◌++◌, map, refl, ◌∙◌, Option, Some, None}
use Rattle.std.specs.Prelude.{if◌then◌else◌, filter, find, option_and_then}
use Rattle.qmp_codec.specs.Commands.{Act, Cmd, SeenSources}
use Rattle.qmp_codec.specs.declared.command.Action.TheVariants as action
use Rattle.qmp_codec.specs.declared.command.Command.TheVariants as command
use Rattle.qmp_codec.specs.declared.nodes.Added.{Added}
use Rattle.qmp_codec.specs.declared.nodes.Added.TheVariants as added
use Rattle.qmp_codec.specs.declared.nodes.Created.{Created}
use Rattle.qmp_codec.specs.declared.nodes.Created.TheVariants as created
use Rattle.qmp_codec.specs.declared.nodes.FileRef.TheVariants as file_ref
use Rattle.qmp_rules.specs.declared.change.Change.{Change}
use Rattle.qmp_rules.specs.declared.change.Change.TheVariants as change
use Rattle.qmp_rules.specs.declared.refusal.Refusal.{Refusal}
use Rattle.qmp_rules.specs.declared.refusal.Refusal.TheVariants as refusal
use Rattle.qmp_rules.specs.declared.rows.AskedEnd.{AskedEnd}
use Rattle.qmp_rules.specs.declared.rows.JobRecord.{JobRecord}
use Rattle.qmp_rules.specs.declared.rows.NodeRecord.{NodeRecord}
use Rattle.qmp_rules.specs.declared.told.Told.{Told}
use Rattle.qmp_rules.specs.Answers.{actions_edits, command_edits, group_of, left_by}
use Rattle.qmp_rules.specs.Changes.{all_changed, changed}
use Rattle.qmp_rules.specs.Edits.{action_edits, added_edits, ask_edits, asked_by_cancel, backup_job, base_edits, commit_job, commit_unsettles, commit_uses, copy_edits, created_change, device_uses, edits_by_kind, edits_of, filter_edits, filter_row, file_below, file_under, file_used, goes_with_node, merges, mirror_job, of_row, qcow2_edits, raw_edits, reads_one_of, row_gone, spoiled, start_edits, stream_job, target_edits, under_top, file_uses, uses_as, uses_target, with_inline, writable_if}
use Rattle.qmp_rules.specs.Table.{RunTable, job_named, node_by_id, node_named}
use Rattle.qmp_rules.specs.Asks.{is_base, is_file}
use Rattle.qmp_asks.specs.NodeAsks.{backing_name, is_read_only}
use Rattle.qmp_asks.specs.Values.{flag_or_false}
use Rattle.qmp_rules.specs.declared.rows.AskedEnd.TheVariants as asked
use Rattle.qmp_codec.specs.declared.event.JobKind.{JobKind}
use Rattle.qmp_codec.specs.declared.event.JobKind.TheVariants as job_kind
use Rattle.blk_graph.specs.declared.kind.Kind.{Kind}
use Rattle.blk_graph.specs.declared.kind.Kind.TheVariants as kind
use Rattle.blk_graph.specs.declared.kind.JobUse.TheVariants.{CommitTop, CommitBetween, CommitBase, StreamTop, StreamBelow}

-- ---- changes that leave devices as they are

abbrev pub LeavesDevices : Change → Type 0
LeavesDevices (change.AddDevice device node) = ⊥
LeavesDevices (change.RemoveDevice number) = ⊥
LeavesDevices _ = Unit {0}

abbrev pub AllLeave : List Change → Type 0
AllLeave [] = Unit {0}
AllLeave (c ∷ changes) = LeavesDevices c × AllLeave changes

pub record SameDevices (t u : RunTable) : Type 0 where
  pub devices : u.devices ≡ t.devices
  pub guests : u.guests ≡ t.guests

change-leaves : (t : RunTable) (c : Change) → LeavesDevices c → SameDevices t (changed t c)
unfolding changed
change-leaves t change.Negotiate leaves = record { devices = refl; guests = refl }
change-leaves t (change.KeepId id) leaves = record { devices = refl; guests = refl }
change-leaves t (change.DropId id) leaves = record { devices = refl; guests = refl }
change-leaves t (change.MakeFile name size) leaves = record { devices = refl; guests = refl }
change-leaves t (change.FormatFile node name size backing_file backing_fmt) leaves = record { devices = refl; guests = refl }
change-leaves t (change.SpoilFile name) leaves = record { devices = refl; guests = refl }
change-leaves t (change.UseFile name) leaves = record { devices = refl; guests = refl }
change-leaves t (change.AddFile row) leaves = record { devices = refl; guests = refl }
change-leaves t (change.AddFormat row file backing) leaves = record { devices = refl; guests = refl }
change-leaves t (change.AddFilter row child) leaves = record { devices = refl; guests = refl }
change-leaves t (change.RemoveNode id) leaves = record { devices = refl; guests = refl }
change-leaves t (change.Unsettle id) leaves = record { devices = refl; guests = refl }
change-leaves t (change.MakeWritable id) leaves = record { devices = refl; guests = refl }
change-leaves t (change.PutFilter row node) leaves = record { devices = refl; guests = refl }
change-leaves t (change.UseNode slot what node) leaves = record { devices = refl; guests = refl }
change-leaves t (change.StartJob row) leaves = record { devices = refl; guests = refl }
change-leaves t (change.AskJob number new) leaves = record { devices = refl; guests = refl }
change-leaves t (change.ReadyJob number) leaves = record { devices = refl; guests = refl }
change-leaves t (change.EndJob number slot drops) leaves = record { devices = refl; guests = refl }
change-leaves t (change.PullFilter filter) leaves = record { devices = refl; guests = refl }
change-leaves t (change.Rebase node backing) leaves = record { devices = refl; guests = refl }
change-leaves t (change.Settle node disk) leaves = record { devices = refl; guests = refl }
change-leaves t (change.MakeReadOnly id) leaves = record { devices = refl; guests = refl }
change-leaves t (change.AddDevice device node) leaves = absurd leaves
change-leaves t (change.RemoveDevice number) leaves = absurd leaves
change-leaves t (change.Attach overlay node) leaves = record { devices = refl; guests = refl }
change-leaves t (change.Move from to but) leaves = record { devices = refl; guests = refl }
change-leaves t (change.AddBitmap row) leaves = record { devices = refl; guests = refl }
change-leaves t (change.RemoveBitmap node name) leaves = record { devices = refl; guests = refl }
change-leaves t (change.TurnBitmap node name on) leaves = record { devices = refl; guests = refl }
change-leaves t (change.ClearBitmap node name) leaves = record { devices = refl; guests = refl }
change-leaves t (change.MergeBitmap node name source_node source) leaves = record { devices = refl; guests = refl }

pub all-leave : (t : RunTable) (changes : List Change) → AllLeave changes → SameDevices t (all_changed t changes)
all-leave t [] leave = record { devices = refl; guests = refl }
all-leave t (c ∷ changes) leave =
    let one = change-leaves t c leave.0 in
    let rest = all-leave (changed t c) changes leave.1 in
    record { devices = rest.devices ∙ one.devices; guests = rest.guests ∙ one.guests }

leave-both : (xs ys : List Change) → AllLeave xs → AllLeave ys → AllLeave (xs ++ ys)
leave-both [] ys front back = back
leave-both (c ∷ xs) ys front back = (front.0, leave-both xs ys front.1 back)

leave-map : {A : Type 0} (f : A → Change) → ((a : A) → LeavesDevices (f a)) → (xs : List A) → AllLeave (map f xs)
leave-map f each [] = tt
leave-map f each (x ∷ xs) = (each x, leave-map f each xs)

leave-row : (f : NodeRecord → List Change) → ((row : NodeRecord) → AllLeave (f row)) → (found : Option NodeRecord) → AllLeave (of_row f found)
leave-row f each None = tt
leave-row f each (Some row) = each row

-- ---- commands

leave-uses : (name : Option (List ℕ)) → AllLeave (file_uses name)
leave-uses None = tt
leave-uses (Some name) = (tt, tt)

pub leave-device-uses : (row : NodeRecord) → AllLeave (device_uses row)
leave-device-uses row = by_file (is_file row)
  where
    by_file : (b : Bool) → AllLeave (if b then file_uses row.filename else [])
    by_file true = leave-uses row.filename
    by_file false = tt

leave-used : (t : RunTable) (node : Option ℕ) → AllLeave (file_used t node)
leave-used t node = leave-row device_uses leave-device-uses (option_and_then (node_by_id t) node)

leave-created : (t : RunTable) (c : Created (List ℕ)) → AllLeave (created_change t c)
leave-created t (created.File c) = (tt, tt)
leave-created t (created.Qcow2 c) = (tt, tt)
leave-created t created.Unknown = tt

leave-spoiled : (t : RunTable) (c : Created (List ℕ)) → AllLeave (spoiled t c)
leave-spoiled t (created.File c) = (tt, tt)
leave-spoiled t (created.Qcow2 c) = (tt, tt)
leave-spoiled t created.Unknown = tt

leave-raw : (t : RunTable) (told : Told) (name : List ℕ) (read_only : Bool) (raw : _) (file : _) → AllLeave (raw_edits t told name read_only raw file)
leave-raw t told name read_only raw (file_ref.Name file) = (tt, tt)
leave-raw t told name read_only raw (file_ref.Inline file) = (tt, (tt, tt))

leave-qcow2 : (t : RunTable) (told : Told) (name : List ℕ) (read_only : Bool) (back : _) (file : _) → AllLeave (qcow2_edits t told name read_only back file)
leave-qcow2 t told name read_only back (file_ref.Name file) = (tt, tt)
leave-qcow2 t told name read_only back (file_ref.Inline file) = (tt, (tt, tt))

leave-added : (t : RunTable) (told : Told) (name : List ℕ) (read_only : Bool) (driver : Added (List ℕ)) → AllLeave (added_edits t told name read_only driver)
leave-added t told name read_only (added.File filename) = (tt, tt)
leave-added t told name read_only (added.Raw raw) = leave-raw t told name read_only raw raw.file
leave-added t told name read_only (added.Qcow2 image) = leave-qcow2 t told name read_only (backing_name image.backing) image.file
leave-added t told name read_only (added.CopyOnRead file) = (tt, tt)
leave-added t told name read_only added.Unknown = tt

leave-gone : (t : RunTable) (row : NodeRecord) → AllLeave (row_gone t row)
leave-gone t row = leave-both (file_uses (file_under t row)) (change.RemoveNode row.id ∷ with_inline t row.id) (leave-uses (file_under t row)) (tt, by_found (find (goes_with_node row.id) t.nodes))
  where
    by_found : (found : Option NodeRecord) → AllLeave (elim found as (λ _. List Change) [ None ↦ [] | Some r ↦ change.RemoveNode r.id ∷ [] ])
    by_found None = tt
    by_found (Some r) = (tt, tt)

leave-ask : (t : RunTable) (id : List ℕ) (ask' : JobRecord → AskedEnd) → AllLeave (ask_edits t id ask')
leave-ask t id ask' = by_job (job_named t id)
  where
    by_job : (found : Option JobRecord) → AllLeave (elim found as (λ _. List Change) [ None ↦ [] | Some job ↦ change.AskJob job.number (ask' job) ∷ [] ])
    by_job None = tt
    by_job (Some job) = (tt, tt)

leave-merges : (t : RunTable) (node target : List ℕ) (sources : SeenSources) → AllLeave (merges t node target sources)
leave-merges t node target [] = tt
leave-merges t node target (s ∷ sources) = (tt, leave-merges t node target sources)

leave-filter : (t : RunTable) (driver : Kind) (job : JobRecord) → AllLeave (filter_edits t driver job)
leave-filter t driver job = leave-row (λ row. change.PutFilter (filter_row t driver job.id row) row.id ∷ []) (λ row. (tt, tt)) (node_by_id t job.source)

leave-target : (t : RunTable) (target : Option ℕ) → AllLeave (target_edits t target)
leave-target t None = tt
leave-target t (Some target) = leave-both (file_used t (Some target)) (change.Unsettle target ∷ []) (leave-used t (Some target)) (tt, tt)

leave-uses-target : (job : JobRecord) (target : Option ℕ) → AllLeave (uses_target job target)
leave-uses-target job None = tt
leave-uses-target job (Some target) = (tt, tt)

leave-copy : (t : RunTable) (driver : Kind) (job : JobRecord) → AllLeave (copy_edits t driver job)
leave-copy t driver job =
    leave-both (target_edits t job.target ++ filter_edits t driver job) (change.StartJob job ∷ uses_target job job.target)
    (leave-both (target_edits t job.target) (filter_edits t driver job) (leave-target t job.target) (leave-filter t driver job))
    (tt, leave-uses-target job job.target)

leave-writable : (b : Bool) (node : Option ℕ) → AllLeave (writable_if b node)
leave-writable true (Some id) = (tt, tt)
leave-writable true None = tt
leave-writable false _ = tt

leave-commit : (t : RunTable) (job : JobRecord) → AllLeave (edits_by_kind t job job_kind.Commit)
leave-commit t job =
    let a = leave-used t job.target in
    let b = leave-map (λ (row : NodeRecord). change.Unsettle row.id) (λ row. tt) (filter (reads_one_of t job.source (under_top job)) t.nodes) in
    let d = leave-both (writable_if job.made_writable.file (file_below t job.target)) (writable_if job.made_writable.base job.target)
    (leave-writable job.made_writable.file (file_below t job.target)) (leave-writable job.made_writable.base job.target) in
    let e = leave-filter t kind.Commit job in
    let f = leave-map (λ id. change.UseNode job.slot (if is_base job.target id then CommitBase else CommitBetween) id) (λ id. tt) (under_top job) in
    leave-both (file_used t job.target ++ commit_unsettles t job ++ base_edits t job ++ filter_edits t kind.Commit job)
    (change.StartJob job ∷ change.UseNode job.slot CommitTop job.source ∷ commit_uses job)
    (leave-both (file_used t job.target ++ commit_unsettles t job ++ base_edits t job) (filter_edits t kind.Commit job)
    (leave-both (file_used t job.target ++ commit_unsettles t job) (base_edits t job) (leave-both (file_used t job.target) (commit_unsettles t job) a b) d) e)
    (tt, (tt, f))

leave-stream : (t : RunTable) (job : JobRecord) → AllLeave (edits_by_kind t job job_kind.Stream)
leave-stream t job =
    leave-both (file_used t job.target) (change.StartJob job ∷ change.UseNode job.slot StreamTop job.source ∷ uses_as job.slot StreamBelow job.read)
    (leave-used t job.target) (tt, (tt, leave-map (change.UseNode job.slot StreamBelow) (λ node. tt) job.read))

leave-kind : (t : RunTable) (job : JobRecord) (what : JobKind) → AllLeave (edits_by_kind t job what)
leave-kind t job job_kind.Stream = leave-stream t job
leave-kind t job job_kind.Commit = leave-commit t job
leave-kind t job job_kind.Mirror = leave-copy t kind.Mirror job
leave-kind t job job_kind.Backup = leave-copy t kind.BeforeWrite job

-- of the start of a job
leave-start : (t : RunTable) (job : JobRecord) → AllLeave (start_edits t job)
unfolding start_edits
leave-start t job = leave-kind t job job.kind

leave-action : (t : RunTable) (group : Option ℕ) (a : Act) → AllLeave (action_edits t group a)
unfolding action_edits
leave-action t group (action.Snapshot c) = (tt, (tt, tt))
leave-action t group (action.Backup c) = leave-start t (backup_job t group c)
leave-action t group (action.BitmapAdd c) = (tt, tt)
leave-action t group (action.BitmapRemove c) = (tt, tt)
leave-action t group (action.BitmapClear c) = (tt, tt)
leave-action t group (action.BitmapEnable c) = (tt, tt)
leave-action t group (action.BitmapDisable c) = (tt, tt)
leave-action t group (action.BitmapMerge c) = leave-merges t c.node c.target c.bitmaps
leave-action t group _ = tt

leave-actions : (t : RunTable) (group : Option ℕ) (actions : List Act) → AllLeave (actions_edits t group actions)
leave-actions t group [] = tt
leave-actions t group (a ∷ actions) =
    leave-both (action_edits t group a) (actions_edits (all_changed t (action_edits t group a)) group actions)
    (leave-action t group a) (leave-actions (all_changed t (action_edits t group a)) group actions)

-- of a device that comes or goes
abbrev pub IsOfDevice : Cmd → Type 0
IsOfDevice (command.DeviceAdd c) = Unit {0}
IsOfDevice (command.DeviceDel id) = Unit {0}
IsOfDevice c = ⊥

pub leave-command : (t : RunTable) (told : Told) (c : Cmd) → (IsOfDevice c → ⊥) → AllLeave (command_edits t told c)
unfolding edits_of
leave-command t told (command.Capabilities enable) other = (tt, tt)
leave-command t told (command.BlockdevCreate c) other = (tt, leave-created t c.options)
leave-command t told (command.JobDismiss id) other = (tt, tt)
leave-command t told (command.BlockdevAdd c) other = leave-added t told c.node_name (is_read_only c.options) c.driver
leave-command t told (command.BlockdevDel name) other = leave-row (row_gone t) (leave-gone t) (node_named t name)
leave-command t told (command.DeviceAdd c) other = absurd (other tt)
leave-command t told (command.DeviceDel id) other = absurd (other tt)
leave-command t told (command.BlockdevSnapshot c) other = (tt, (tt, tt))
leave-command t told (command.BlockStream c) other = leave-start t (stream_job t c)
leave-command t told (command.BlockCommit c) other = leave-start t (commit_job t c)
leave-command t told (command.BlockdevMirror c) other = leave-start t (mirror_job t c)
leave-command t told (command.BlockdevBackup c) other = leave-start t (backup_job t None c)
leave-command t told (command.BlockJobCancel job force) other = leave-ask t job (asked_by_cancel (flag_or_false force))
leave-command t told (command.BlockJobComplete job) other = leave-ask t job (λ j. asked.Complete)
leave-command t told (command.BitmapAdd c) other = (tt, tt)
leave-command t told (command.BitmapRemove c) other = (tt, tt)
leave-command t told (command.BitmapClear c) other = (tt, tt)
leave-command t told (command.BitmapEnable c) other = (tt, tt)
leave-command t told (command.BitmapDisable c) other = (tt, tt)
leave-command t told (command.BitmapMerge c) other = leave-merges t c.node c.target c.bitmaps
leave-command t told (command.Transaction c) other = leave-actions t (group_of t c) c.actions
leave-command t told command.QueryBlockJobs other = tt
leave-command t told (command.QueryNamedBlockNodes flat) other = tt

pub leave-left : (t : RunTable) (c : Cmd) (cause : Refusal) → AllLeave (left_by t c cause)
leave-left t (command.BlockdevCreate c) (refusal.Io from count) = leave-spoiled t c.options
leave-left t (command.BlockdevCreate c) (refusal.NoSpace dev) = leave-spoiled t c.options
leave-left t _ cause = tt
