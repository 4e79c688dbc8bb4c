-- The jobs that accepted commands start: each has the next number, and an id that is a word and was free.
use Rattle.std.proofs.Common.{◌≡◌, ℕ, Bool, true, false, List, [], ◌∷◌, ◌++◌, refl, subst, Option, Some, None, Result, Ok, Err}
use Rattle.std.specs.Prelude.{◌||◌, if◌then◌else◌, map, is_some}
use Rattle.std.specs.List.{find, filter}
use Rattle.std.specs.Option.{option_and_then}
use Rattle.std.proofs.lemmas.Bool.{and_parts, not-false}
use Rattle.serde_json.specs.Written.{compact_text}
use Rattle.blk_graph.specs.declared.kind.Kind.{Kind}
use Rattle.blk_graph.specs.declared.kind.Kind.TheVariants as kind
use Rattle.blk_graph.specs.declared.kind.JobUse.{JobUse}
use Rattle.blk_graph.specs.declared.kind.JobUse.TheVariants.{CommitTop, CommitBetween, CommitBase, StreamTop, StreamBelow}
use Rattle.qmp_codec.specs.Commands.{Act, Cmd, SeenSources}
use Rattle.qmp_codec.specs.Lines.{Stop, command_at, id_at}
use Rattle.qmp_codec.specs.declared.event.JobKind.{JobKind}
use Rattle.qmp_codec.specs.declared.event.JobKind.TheVariants as job_kind
use Rattle.qmp_codec.specs.declared.command.Action.TheVariants as action
use Rattle.qmp_codec.specs.declared.command.Command.TheVariants as command
use Rattle.qmp_codec.specs.declared.nodes.FileRef.{FileRef}
use Rattle.qmp_codec.specs.declared.nodes.FileRef.TheVariants as file_ref
use Rattle.qmp_codec.specs.declared.nodes.AddRaw.{AddRaw}
use Rattle.qmp_codec.specs.declared.nodes.Added.{Added}
use Rattle.qmp_codec.specs.declared.nodes.Added.TheVariants as added
use Rattle.qmp_codec.specs.declared.nodes.Created.{Created}
use Rattle.qmp_codec.specs.declared.nodes.Created.TheVariants as created
use Rattle.qmp_codec.specs.declared.nodes.DeviceAdd.{DeviceAdd}
use Rattle.qmp_asks.specs.declared.ask.Ask.TheVariants as ask
use Rattle.qmp_asks.specs.CommandAsks.{asks_of, action_names, action_rest, all_names, all_values, transaction_names, negotiates}
use Rattle.qmp_asks.specs.JobAsks.{on_error_value, job_values, stream_names, stream_rest, commit_names, commit_rest, mirror_values, mirror_names, mirror_rest, backup_values, backup_names, backup_rest}
use Rattle.qmp_asks.specs.Naming.{is_name}
use Rattle.qmp_asks.specs.NodeAsks.{is_read_only, backing_name}
use Rattle.qmp_asks.specs.Values.{flag_or_false}
use Rattle.qmp_rules.specs.declared.change.Change.{Change}
use Rattle.qmp_rules.specs.declared.change.Change.TheVariants as change
use Rattle.qmp_rules.specs.declared.refusal.Refusal.{Refusal}
use Rattle.qmp_rules.specs.declared.rows.AskedEnd.{AskedEnd}
use Rattle.qmp_rules.specs.declared.rows.AskedEnd.TheVariants as asked
use Rattle.qmp_rules.specs.declared.rows.DeviceRow.{DeviceRow}
use Rattle.qmp_rules.specs.declared.rows.JobRecord.{JobRecord}
use Rattle.qmp_rules.specs.declared.rows.NodeRecord.{NodeRecord}
use Rattle.qmp_rules.specs.declared.told.Told.{Told}
use Rattle.qmp_rules.specs.Answers.{unbuilt, out_of_turn, refusal_to, refusal_behind, command_edits, group_of, action_refusal, action_rewires, conflict_after, actions_refusal, actions_edits, answer, answer_by, answer_for, line_answer, line_text, answer_data}
use Rattle.qmp_rules.specs.Asks.{holds, first_unmet_ask, is_file, is_base}
use Rattle.qmp_rules.specs.Changes.{all_changed}
use Rattle.qmp_rules.specs.Edits.{edits_of, action_edits, file_uses, file_under, with_inline, goes_with_node, row_gone, of_row, created_change, spoiled, raw_edits, qcow2_edits, added_edits, new_device, device_uses, merges, asked_by_cancel, start_edits, edits_by_kind, copy_edits, target_edits, uses_target, filter_row, filter_edits, file_used, file_below, writable_if, base_edits, under_top, reads_one_of, commit_unsettles, commit_uses, uses_as, stream_job, commit_job, mirror_job, backup_job}
use Rattle.qmp_rules.specs.Refusals.{refusal_text, refusal_class}
use Rattle.qmp_rules.specs.Table.{RunTable, device_named, node_named, node_by_id, job_named, has_name}
use Rattle.blk_history.proofs.Lines.{IsWord, name-bytes}
use Rattle.flat_machine.specs.State.{State}
use Rattle.flat_machine.specs.Sights.{expected}
use Rattle.flat_machine.specs.Replies.{edits_by, failed_edits, is_accepted, tells_failure, IsAnswer}
use Rattle.flat_machine.proofs.Asked.{none-both, NoneHolds, none-holds, none-ahead, none-behind, not-refused}
use Rattle.flat_machine.proofs.JobNames.{MayStart, AllStartFresh, fresh-append, AllKeepJobs, keep-append, keep-fresh, start-behind}
use Rattle.flat_machine.proofs.ReadBack.{not_accepted}

-- ---- commands that leave the jobs

keep_uses : (name : Option (List ℕ)) → AllKeepJobs (file_uses name)
keep_uses None = tt
keep_uses (Some name) = (tt, tt)

keep_created : (t : RunTable) (options : Created (List ℕ)) → AllKeepJobs (created_change t options)
keep_created t (created.File c) = (tt, tt)
keep_created t (created.Qcow2 c) = (tt, tt)
keep_created t created.Unknown = tt

keep_spoiled : (t : RunTable) (options : Created (List ℕ)) → AllKeepJobs (spoiled t options)
keep_spoiled t (created.File c) = (tt, tt)
keep_spoiled t (created.Qcow2 c) = (tt, tt)
keep_spoiled t created.Unknown = tt

keep_inline : (t : RunTable) (id : ℕ) → AllKeepJobs (with_inline t id)
keep_inline t id = by_row (find (goes_with_node id) t.nodes)
  where
    by_row : (found : Option NodeRecord) → AllKeepJobs (elim found as (λ _. List Change) [ None ↦ [] | Some row ↦ change.RemoveNode row.id ∷ [] ])
    by_row None = tt
    by_row (Some row) = (tt, tt)

keep_del : (t : RunTable) (found : Option NodeRecord) → AllKeepJobs (of_row (row_gone t) found)
keep_del t None = tt
keep_del t (Some row) =
    keep-append (file_uses (file_under t row)) (change.RemoveNode row.id ∷ with_inline t row.id) (keep_uses (file_under t row))
    (tt, keep_inline t row.id)

keep_device_uses : (row : NodeRecord) → AllKeepJobs (device_uses row)
keep_device_uses row = by_file (is_file row)
  where
    by_file : (b : Bool) → AllKeepJobs (if b then file_uses row.filename else [])
    by_file true = keep_uses row.filename
    by_file false = tt

keep_device : (t : RunTable) (c : DeviceAdd (List ℕ)) (found : Option NodeRecord)
    → AllKeepJobs (of_row (λ row. device_uses row ++ change.AddDevice (new_device t c row) row.id ∷ []) found)
keep_device t c None = tt
keep_device t c (Some row) = keep-append (device_uses row) (change.AddDevice (new_device t c row) row.id ∷ []) (keep_device_uses row) (tt, tt)

keep_gone : (found : Option DeviceRow)
    → AllKeepJobs (elim found as (λ _. List Change) [ None ↦ [] | Some device ↦ change.RemoveDevice device.number ∷ [] ])
keep_gone None = tt
keep_gone (Some device) = (tt, tt)

keep_raw : (t : RunTable) (exp : Told) (name : List ℕ) (read_only : Bool) (raw : AddRaw (List ℕ)) (file : FileRef (List ℕ))
    → AllKeepJobs (raw_edits t exp name read_only raw file)
keep_raw t exp name read_only raw (file_ref.Name file) = (tt, tt)
keep_raw t exp name read_only raw (file_ref.Inline file) = (tt, (tt, tt))

keep_qcow2 : (t : RunTable) (exp : Told) (name : List ℕ) (read_only : Bool) (back : Option (List ℕ)) (file : FileRef (List ℕ))
    → AllKeepJobs (qcow2_edits t exp name read_only back file)
keep_qcow2 t exp name read_only back (file_ref.Name file) = (tt, tt)
keep_qcow2 t exp name read_only back (file_ref.Inline file) = (tt, (tt, tt))

keep_added : (t : RunTable) (exp : Told) (name : List ℕ) (read_only : Bool) (driver : Added (List ℕ))
    → AllKeepJobs (added_edits t exp name read_only driver)
keep_added t exp name read_only (added.File filename) = (tt, tt)
keep_added t exp name read_only (added.Raw raw) = keep_raw t exp name read_only raw raw.file
keep_added t exp name read_only (added.Qcow2 image) = keep_qcow2 t exp name read_only (backing_name image.backing) image.file
keep_added t exp name read_only (added.CopyOnRead file) = (tt, tt)
keep_added t exp name read_only added.Unknown = tt

keep_merges : (t : RunTable) (node target : List ℕ) (sources : SeenSources) → AllKeepJobs (merges t node target sources)
keep_merges t node target [] = tt
keep_merges t node target (source ∷ sources) = (tt, keep_merges t node target sources)

-- ---- what is asked of an id

free-id : (t : RunTable) (told : Told) (id : List ℕ) → holds t told (ask.FreshJob id) ≡ None → job_named t id ≡ None
unfolding holds
free-id t told id h = by_row (job_named t id) refl (not-refused _ _ h)
  where
    by_row : (found : Option JobRecord) → job_named t id ≡ found → (is_some found || has_name id t.kept) ≡ false → job_named t id ≡ None
    by_row None e k = e
    by_row (Some row) e k = absurd cc

id-word : (t : RunTable) (told : Told) (member id : List ℕ) → holds t told (ask.Named member (Some id)) ≡ None → IsWord id
unfolding holds
id-word t told member id h =
    let named : is_name id ≡ true = not-false (is_name id) (not-refused _ _ h) in
    name-bytes id (and_parts _ _ (and_parts _ _ named).1).1

-- ---- starts

module _ (t : RunTable) (job : JobRecord) (may : MayStart t job) where
  keep_used : (node : Option ℕ) → AllKeepJobs (file_used t node)
  keep_used node = by_row (option_and_then (node_by_id t) node)
    where
      by_row : (found : Option NodeRecord) → AllKeepJobs (of_row device_uses found)
      by_row None = tt
      by_row (Some row) = keep_device_uses row

  keep_unsettles : (rows : List NodeRecord) → AllKeepJobs (map (λ row. change.Unsettle row.id) rows)
  keep_unsettles [] = tt
  keep_unsettles (row ∷ rows) = (tt, keep_unsettles rows)

  keep_writable : (b : Bool) (node : Option ℕ) → AllKeepJobs (writable_if b node)
  keep_writable true (Some id) = (tt, tt)
  keep_writable true None = tt
  keep_writable false target = tt

  keep_filter : (driver : Kind) → AllKeepJobs (filter_edits t driver job)
  keep_filter driver = by_row (node_by_id t job.source)
    where
      by_row : (found : Option NodeRecord) → AllKeepJobs (of_row (λ row. change.PutFilter (filter_row t driver job.id row) row.id ∷ []) found)
      by_row None = tt
      by_row (Some row) = (tt, tt)

  keep_target : (target : Option ℕ) → AllKeepJobs (target_edits t target)
  keep_target None = tt
  keep_target (Some target) = keep-append (file_used t (Some target)) (change.Unsettle target ∷ []) (keep_used (Some target)) (tt, tt)

  keep_uses_as : (what : JobUse) (nodes : List ℕ) → AllKeepJobs (uses_as job.slot what nodes)
  keep_uses_as what [] = tt
  keep_uses_as what (node ∷ nodes) = (tt, keep_uses_as what nodes)

  keep_commit_uses : (nodes : List ℕ)
      → AllKeepJobs (map (λ id. change.UseNode job.slot (if is_base job.target id then CommitBase else CommitBetween) id) nodes)
  keep_commit_uses [] = tt
  keep_commit_uses (id ∷ nodes) = (tt, keep_commit_uses nodes)

  keep_uses_target : (target : Option ℕ) → AllKeepJobs (uses_target job target)
  keep_uses_target None = tt
  keep_uses_target (Some target) = (tt, tt)

  -- what comes before and behind the job's row leaves the jobs
  start_between : (before behind : List Change) → AllKeepJobs before → AllKeepJobs behind → AllStartFresh t (before ++ change.StartJob job ∷ behind)
  start_between before behind first last =
      fresh-append before (change.StartJob job ∷ behind) t (keep-fresh before t first)
      (start-behind before t job first may, keep-fresh behind _ last)

  start_copy : (driver : Kind) → AllStartFresh t (copy_edits t driver job)
  start_copy driver =
      start_between (target_edits t job.target ++ filter_edits t driver job) (uses_target job job.target)
      (keep-append (target_edits t job.target) (filter_edits t driver job) (keep_target job.target) (keep_filter driver))
      (keep_uses_target job.target)

  start_commit : AllStartFresh t (edits_by_kind t job job_kind.Commit)
  start_commit =
      start_between (file_used t job.target ++ commit_unsettles t job ++ base_edits t job ++ filter_edits t kind.Commit job)
      (change.UseNode job.slot CommitTop job.source ∷ commit_uses job)
      (keep-append (file_used t job.target ++ commit_unsettles t job ++ base_edits t job) (filter_edits t kind.Commit job)
      (keep-append (file_used t job.target ++ commit_unsettles t job) (base_edits t job)
      (keep-append (file_used t job.target) (commit_unsettles t job) (keep_used job.target)
      (keep_unsettles (filter (reads_one_of t job.source (under_top job)) t.nodes)))
      (keep-append (writable_if job.made_writable.file (file_below t job.target)) (writable_if job.made_writable.base job.target)
      (keep_writable job.made_writable.file (file_below t job.target)) (keep_writable job.made_writable.base job.target)))
      (keep_filter kind.Commit))
      (tt, keep_commit_uses (under_top job))

  start_by : (what : JobKind) → AllStartFresh t (edits_by_kind t job what)
  start_by job_kind.Stream =
      start_between (file_used t job.target) (change.UseNode job.slot StreamTop job.source ∷ uses_as job.slot StreamBelow job.read)
      (keep_used job.target) (tt, keep_uses_as StreamBelow job.read)
  start_by job_kind.Commit = start_commit
  start_by job_kind.Mirror = start_copy kind.Mirror
  start_by job_kind.Backup = start_copy kind.BeforeWrite

  start_fresh : AllStartFresh t (start_edits t job)
  unfolding start_edits
  start_fresh = start_by job.kind

-- ---- actions of a transaction

action_fresh : (t from : RunTable) (told : Told) (group : Option ℕ) (a : Act) → NoneHolds from told (action_names a)
    → NoneHolds t told (action_rest a) → AllStartFresh t (action_edits t group a)
unfolding action_edits
action_fresh t from told group (action.Backup c) names rest = start_fresh t (backup_job t group c) (record {
  number = refl;
  fresh = free-id t told c.job_id rest.1.1.1.0;
  word = id-word from told _ c.job_id names.0;
})
action_fresh t from told group (action.Snapshot c) names rest = (tt, (tt, tt))
action_fresh t from told group (action.BitmapAdd c) names rest = (tt, tt)
action_fresh t from told group (action.BitmapRemove c) names rest = (tt, tt)
action_fresh t from told group (action.BitmapClear c) names rest = (tt, tt)
action_fresh t from told group (action.BitmapEnable c) names rest = (tt, tt)
action_fresh t from told group (action.BitmapDisable c) names rest = (tt, tt)
action_fresh t from told group (action.BitmapMerge c) names rest = keep-fresh (merges t c.node c.target c.bitmaps) t (keep_merges t c.node c.target c.bitmaps)
action_fresh t from told group _ names rest = tt

-- Each action is judged by the table as those before it leave it.
actions_fresh : (from : RunTable) (told : Told) (group : Option ℕ) (actions : List Act) (t : RunTable) → NoneHolds from told (all_names actions)
    → actions_refusal t told group actions ≡ None → AllStartFresh t (actions_edits t group actions)
actions_fresh from told group [] t names quiet = tt
actions_fresh from told group (a ∷ actions) t names quiet =
    let parts = none-both (action_refusal t told group a) (actions_refusal (all_changed t (action_edits t group a)) told group actions) quiet in
    let asks = none-both (first_unmet_ask t told (action_rest a)) (conflict_after (action_rewires a) t (action_edits t group a)) parts.0 in
    fresh-append (action_edits t group a) (actions_edits (all_changed t (action_edits t group a)) group actions) t
    (action_fresh t from told group a (none-ahead from told (action_names a) (all_names actions) names) (none-holds t told (action_rest a) asks.0))
    (actions_fresh from told group actions (all_changed t (action_edits t group a)) (none-behind from told (action_names a) (all_names actions) names) parts.1)

-- ---- commands

asks_met : (t : RunTable) (told : Told) (c : Cmd) → refusal_to t told c ≡ None → NoneHolds t told (asks_of c) × (refusal_behind t told c ≡ None)
unfolding refusal_to
asks_met t told c quiet =
    let known = none-both (unbuilt c) _ quiet in
    let turn = none-both (out_of_turn (negotiates c) t.negotiated) _ known.1 in
    let asks = none-both (first_unmet_ask t told (asks_of c)) (refusal_behind t told c) turn.1 in
    (none-holds t told (asks_of c) asks.0, asks.1)

asked_fresh : (t : RunTable) (ask : JobRecord → AskedEnd) (found : Option JobRecord)
    → AllStartFresh t (elim found as (λ _. List Change) [ None ↦ [] | Some job ↦ change.AskJob job.number (ask job) ∷ [] ])
asked_fresh t ask None = tt
asked_fresh t ask (Some job) = (tt, tt)

command_fresh : (t : RunTable) (told exp : Told) (c : Cmd) → NoneHolds t told (asks_of c) → refusal_behind t told c ≡ None
    → AllStartFresh t (command_edits t exp c)
unfolding edits_of asks_of
command_fresh t told exp (command.Capabilities enable) asks quiet = (tt, tt)
command_fresh t told exp (command.BlockdevCreate c) asks quiet =
    (tt, keep-fresh (created_change t c.options) _ (keep_created t c.options))
command_fresh t told exp (command.JobDismiss id) asks quiet = (tt, tt)
command_fresh t told exp (command.BlockdevAdd c) asks quiet =
    keep-fresh (added_edits t exp c.node_name (is_read_only c.options) c.driver) t (keep_added t exp c.node_name (is_read_only c.options) c.driver)
command_fresh t told exp (command.BlockdevDel name) asks quiet = keep-fresh _ t (keep_del t (node_named t name))
command_fresh t told exp (command.DeviceAdd c) asks quiet = keep-fresh _ t (keep_device t c (node_named t c.drive))
command_fresh t told exp (command.DeviceDel id) asks quiet = keep-fresh _ t (keep_gone (device_named t id))
command_fresh t told exp (command.BlockdevSnapshot c) asks quiet = (tt, (tt, tt))
command_fresh t told exp (command.Transaction c) asks quiet =
    actions_fresh t told (group_of t c) c.actions t (none-behind t told (all_values c.actions) (transaction_names c) asks).1 quiet
command_fresh t told exp (command.BlockStream c) asks quiet = start_fresh t (stream_job t c) (record {
  number = refl;
  fresh = free-id t told c.job_id
      (none-behind t told (on_error_value _ c.on_error ∷ job_values c.options ++ stream_names c) (stream_rest c) asks).1.1.0;
  word = id-word t told _ c.job_id (none-behind t told (on_error_value _ c.on_error ∷ job_values c.options) (stream_names c ++ stream_rest c) asks).0;
})
command_fresh t told exp (command.BlockCommit c) asks quiet = start_fresh t (commit_job t c) (record {
  number = refl;
  fresh = free-id t told c.job_id
      (none-behind t told (on_error_value _ c.on_error ∷ job_values c.options ++ commit_names c) (commit_rest c) asks).1.1.1.0;
  word = id-word t told _ c.job_id (none-behind t told (on_error_value _ c.on_error ∷ job_values c.options) (commit_names c ++ commit_rest c) asks).0;
})
command_fresh t told exp (command.BlockdevMirror c) asks quiet = start_fresh t (mirror_job t c) (record {
  number = refl;
  fresh = free-id t told c.job_id (none-behind t told (mirror_values c ++ mirror_names c) (mirror_rest c) asks).1.1.0;
  word = id-word t told _ c.job_id (none-behind t told (mirror_values c) (mirror_names c ++ mirror_rest c) asks).0;
})
command_fresh t told exp (command.BlockdevBackup c) asks quiet = start_fresh t (backup_job t None c) (record {
  number = refl;
  fresh = free-id t told c.job_id (none-behind t told (backup_values c ++ backup_names c) (backup_rest c) asks).1.1.1.0;
  word = id-word t told _ c.job_id (none-behind t told (backup_values c) (backup_names c ++ backup_rest c) asks).0;
})
command_fresh t told exp (command.BlockJobCancel job force) asks quiet = asked_fresh t (asked_by_cancel (flag_or_false force)) (job_named t job)
command_fresh t told exp (command.BlockJobComplete job) asks quiet = asked_fresh t (λ row. asked.Complete) (job_named t job)
command_fresh t told exp (command.BitmapAdd c) asks quiet = (tt, tt)
command_fresh t told exp (command.BitmapRemove c) asks quiet = (tt, tt)
command_fresh t told exp (command.BitmapClear c) asks quiet = (tt, tt)
command_fresh t told exp (command.BitmapEnable c) asks quiet = (tt, tt)
command_fresh t told exp (command.BitmapDisable c) asks quiet = (tt, tt)
command_fresh t told exp (command.BitmapMerge c) asks quiet = keep-fresh (merges t c.node c.target c.bitmaps) t (keep_merges t c.node c.target c.bitmaps)
command_fresh t told exp _ asks quiet = tt

-- ---- replies

pub answer_fresh : (s : State) (given : List ℕ) (command : Option Cmd) (text : List ℕ) → IsAnswer s given command text
    → AllStartFresh s.table (edits_by s text (command_at given))
unfolding line_text line_answer answer
answer_fresh s given understood text a = by_line (command_at given) a.answered
  where
    failed : (c : Cmd) → AllStartFresh s.table (failed_edits s.table c)
    failed (command.BlockdevCreate c) = keep-fresh (spoiled s.table c.options) s.table (keep_spoiled s.table c.options)
    failed _ = tt

    quiet_to : (c : Cmd) (cause : Option Refusal) → refusal_to s.table a.told c ≡ cause
        → text ≡ compact_text (answer_data (id_at given) (answer_by s.table a.told c cause).reply) → is_accepted text ≡ true
        → refusal_to s.table a.told c ≡ None
    quiet_to c None quiet is accepted = quiet
    quiet_to c (Some cause) quiet is accepted =
        let no = not_accepted given (refusal_class cause) (refusal_text cause) in
        let yes = subst (λ t. is_accepted t ≡ true) is accepted in
        absurd cc

    by_flags : (c : Cmd) (b : Bool) → (b ≡ true → refusal_to s.table a.told c ≡ None) → (told_failure : Bool)
        → AllStartFresh s.table (if b then command_edits s.table (expected s c) c else if told_failure then failed_edits s.table c else [])
    by_flags c true quiet told_failure =
        let met = asks_met s.table a.told c (quiet refl) in
        command_fresh s.table a.told (expected s c) c met.0 met.1
    by_flags c false quiet true = failed c
    by_flags c false quiet false = tt

    by_line : (c : Result Cmd Stop) → text ≡ compact_text (answer_data (id_at given) (answer_for s.table a.told given c).reply)
        → AllStartFresh s.table (edits_by s text c)
    by_line (Err why) is = tt
    by_line (Ok c) is = by_flags c (is_accepted text) (quiet_to c (refusal_to s.table a.told c) refl is) (tells_failure text)
