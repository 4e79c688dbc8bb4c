-- What jobs made writable stays so behind accepted commands.
use Rattle.std.proofs.Common.{◌≡◌, ℕ, Bool, true, false, cond, List, [], ◌∷◌, ◌++◌, refl, sym, ◌∙◌, ap, subst, inl, inr, Option, Some, None}
use Rattle.std.specs.Prelude.{◌||◌, unwrap_or, option_map}
use Rattle.std.specs.List.{list_any}
use Rattle.std.proofs.lemmas.Bool.{false≢true}
use Rattle.blk_graph.proofs.Members.{list_any-there}
use Rattle.qmp_codec.specs.Commands.{Cmd}
use Rattle.qmp_codec.specs.declared.command.Command.TheVariants as command
use Rattle.qmp_codec.specs.declared.jobs.Backup.{Backup}
use Rattle.qmp_codec.specs.declared.jobs.Mirror.{Mirror}
use Rattle.qmp_codec.specs.declared.jobs.Stream.{Stream as StreamCommand}
use Rattle.qmp_codec.specs.declared.jobs.Commit.{Commit as CommitCommand}
use Rattle.qmp_codec.specs.declared.nodes.FileRef.{FileRef}
use Rattle.qmp_codec.specs.declared.nodes.FileRef.TheVariants as file_ref
use Rattle.qmp_codec.specs.declared.nodes.AddRaw.{AddRaw}
use Rattle.qmp_codec.specs.declared.nodes.Added.{Added}
use Rattle.qmp_codec.specs.declared.nodes.Added.TheVariants as added
use Rattle.qmp_asks.specs.declared.ask.Ask.TheVariants as ask
use Rattle.qmp_asks.specs.CommandAsks.{asks_of}
use Rattle.qmp_asks.specs.NodeAsks.{add_values, add_names, added_rest, is_read_only, backing_name}
use Rattle.qmp_asks.specs.Values.{flag_or_false}
use Rattle.qmp_rules.specs.declared.change.Change.{Change}
use Rattle.qmp_rules.specs.declared.change.Change.TheVariants as change
use Rattle.qmp_rules.specs.declared.rows.NodeRecord.{NodeRecord}
use Rattle.qmp_rules.specs.declared.rows.DeviceRow.{DeviceRow}
use Rattle.qmp_rules.specs.declared.rows.JobRecord.{JobRecord}
use Rattle.qmp_rules.specs.declared.rows.AskedEnd.{AskedEnd}
use Rattle.qmp_rules.specs.declared.rows.AskedEnd.TheVariants as asked
use Rattle.qmp_rules.specs.declared.rows.MadeWritable.{MadeWritable}
use Rattle.qmp_rules.specs.declared.told.Told.{Told}
use Rattle.qmp_rules.specs.Answers.{refusal_to, command_edits}
use Rattle.qmp_rules.specs.Asks.{holds, id_or, is_file, lends}
use Rattle.qmp_rules.specs.Changes.{changed, all_changed}
use Rattle.qmp_rules.specs.Edits.{file_uses, raw_edits, qcow2_edits, added_edits, of_row, device_uses, new_device, edits_of, ask_edits, asked_by_cancel, stream_job, commit_job, backup_job, mirror_job}
use Rattle.qmp_rules.specs.Table.{RunTable, device_named, node_named, job_named}
use Rattle.flat_machine.specs.Replies.{begins_job}
use Rattle.flat_machine.specs.Wiring.{TableStands, TableAtRest}
use Rattle.flat_machine.proofs.Asked.{not-refused, NoneHolds, none-holds, none-behind, found-named}
use Rattle.job_tables.specs.Accepted.{IsMet}
use Rattle.job_tables.specs.Ends.{LentSuits}
use Rattle.job_tables.specs.Jobs.{JobsStand, EdgesAreDrawn}
use Rattle.job_tables.specs.Running.{JobsRun}
use Rattle.job_tables.proofs.Commands.{accepted_leave}
use Rattle.job_tables.proofs.DrawnChanges.{TakesEdges, AllTakeEdges}
use Rattle.job_tables.proofs.DrawnCommands.{del_take, device_gone_take, created_take, merges_take}
use Rattle.job_tables.proofs.StartCommands.{accepted_met, met_backup, met_mirror, met_stream, met_commit}
use Rattle.job_chains.specs.Lent.{BasesAreLent, IsNotLent, LeavesLent, AllLeaveLent}
use Rattle.job_chains.proofs.LentKept.{changes_leave_lent, snapshots_leave_lent}
use Rattle.job_chains.proofs.LentRead.{lent_by_read}
use Rattle.job_chains.proofs.LentStarts.{starts_keep_lent}

-- ---- what may be written is lent by no job

not_lent : (t : RunTable) (told : Told) (name : List ℕ) (row : NodeRecord) → node_named t name ≡ Some row → holds t told (ask.Writable name) ≡ None
    → IsNotLent t row.id
unfolding holds
not_lent t told name row found writable job here = by_test (lends row.id job) refl
  where
    unguarded : (row.read_only || list_any (lends row.id) t.jobs) ≡ false
    unguarded = not-refused _ _ (rw found at writable)

    or_false : (a b : Bool) → (a || b) ≡ false → b ≡ false
    or_false false b is = is
    or_false true b is = absurd cc

    by_test : (b : Bool) → lends row.id job ≡ b → lends row.id job ≡ false
    by_test false is = is
    by_test true is =
        absurd (false≢true (sym (or_false row.read_only (list_any (lends row.id) t.jobs) unguarded) ∙ list_any-there (lends row.id) t.jobs job here is))

copied_not_lent : (t : RunTable) (told : Told) (name : List ℕ) → holds t told (ask.Found (Some name)) ≡ None → holds t told (ask.Writable name) ≡ None
    → IsNotLent t (id_or 0 t (Some name))
copied_not_lent t told name found writable =
    let x = found-named t told name found in
    let id : id_or 0 t (Some name) ≡ x.0.id = ap (λ (o : Option NodeRecord). unwrap_or (option_map (λ (r : NodeRecord). r.id) o) 0) x.1 in
    subst (IsNotLent t) (sym id) (not_lent t told name x.0 x.1 writable)

-- ---- lists that put no node that copies what is read

take_leave : (changes : List Change) (t : RunTable) → AllTakeEdges changes → AllLeaveLent t changes
take_leave [] t h = tt
take_leave (c ∷ changes) t h = (one c h.0, take_leave changes (changed t c) h.1)
  where
    one : (c : Change) → TakesEdges c → LeavesLent t c
    one (change.AddFilter row child) k = absurd k
    one c k = tt

raw_lent : (t : RunTable) (exp : Told) (name : List ℕ) (read_only : Bool) (raw : AddRaw (List ℕ)) (file : FileRef (List ℕ)) → AllLeaveLent t (raw_edits t exp name read_only raw file)
raw_lent t exp name read_only raw (file_ref.Name file) = (tt, tt)
raw_lent t exp name read_only raw (file_ref.Inline file) = (tt, (tt, tt))

qcow2_lent : (t : RunTable) (exp : Told) (name : List ℕ) (read_only : Bool) (back : Option (List ℕ)) (file : FileRef (List ℕ))
    → AllLeaveLent t (qcow2_edits t exp name read_only back file)
qcow2_lent t exp name read_only back (file_ref.Name file) = (tt, tt)
qcow2_lent t exp name read_only back (file_ref.Inline file) = (tt, (tt, tt))

added_lent : (t : RunTable) (told exp : Told) (name : List ℕ) (read_only : Bool) (driver : Added (List ℕ)) → NoneHolds t told (added_rest name read_only driver)
    → AllLeaveLent t (added_edits t exp name read_only driver)
added_lent t told exp name read_only (added.File filename) asks = (tt, tt)
added_lent t told exp name read_only (added.Raw raw) asks = raw_lent t exp name read_only raw raw.file
added_lent t told exp name read_only (added.Qcow2 image) asks = qcow2_lent t exp name read_only (backing_name image.backing) image.file
added_lent t told exp name read_only (added.CopyOnRead file) asks = (copied_not_lent t told file asks.0 asks.1.1.1.1.0, tt)
added_lent t told exp name read_only added.Unknown asks = tt

used_then : (t : RunTable) (name : Option (List ℕ)) (device : DeviceRow) (node : ℕ) → AllLeaveLent t (file_uses name ++ change.AddDevice device node ∷ [])
used_then t None device node = (tt, tt)
used_then t (Some name) device node = (tt, (tt, tt))

device_lent : (t : RunTable) (device : NodeRecord → DeviceRow) (found : Option NodeRecord)
    → AllLeaveLent t (of_row (λ row. device_uses row ++ change.AddDevice (device row) row.id ∷ []) found)
device_lent t device None = tt
device_lent t device (Some row) = by_use (is_file row)
  where
    by_use : (b : Bool) → AllLeaveLent t (cond b (file_uses row.filename) [] ++ change.AddDevice (device row) row.id ∷ [])
    by_use true = used_then t row.filename (device row) row.id
    by_use false = (tt, tt)

asked_lent : (t : RunTable) (id : List ℕ) (end : JobRecord → AskedEnd) → AllLeaveLent t (ask_edits t id end)
asked_lent t id end = by_found (job_named t id)
  where
    by_found : (found : Option JobRecord)
        → AllLeaveLent t (elim found as (λ _. List Change) [ None ↦ [] | Some job ↦ change.AskJob job.number (end job) ∷ [] ])
    by_found None = tt
    by_found (Some job) = (tt, tt)

-- ---- commands that begin a job

nothing_lent : (t : RunTable) (row : JobRecord) → row.made_writable ≡ record { base = false; file = false } → LentSuits t row
nothing_lent t row none = record {
  bare = λ base is. absurd (false≢true (sym (ap (λ (m : MadeWritable). m.base) none) ∙ is));
  file = λ is. absurd (false≢true (sym (ap (λ (m : MadeWritable). m.file) none) ∙ is));
}

pub backup_lent : (t : RunTable) (told : Told) (c : Backup (List ℕ)) → TableStands t → JobsStand t → JobsRun t → IsMet t told (command.BlockdevBackup c)
    → BasesAreLent t → BasesAreLent (all_changed t (edits_of t told (command.BlockdevBackup c)))
unfolding edits_of
backup_lent t told c h j r met g =
    starts_keep_lent t (backup_job t None c) h j (met_backup t told c h j r met).job (nothing_lent t (backup_job t None c) refl) g

pub mirror_lent : (t : RunTable) (told : Told) (c : Mirror (List ℕ)) → TableStands t → JobsStand t → JobsRun t → EdgesAreDrawn t
    → IsMet t told (command.BlockdevMirror c) → BasesAreLent t → BasesAreLent (all_changed t (edits_of t told (command.BlockdevMirror c)))
unfolding edits_of
mirror_lent t told c h j r d met g =
    starts_keep_lent t (mirror_job t c) h j (met_mirror t told c h j r d met).job (nothing_lent t (mirror_job t c) refl) g

pub stream_lent : (t : RunTable) (told : Told) (c : StreamCommand (List ℕ)) → TableStands t → JobsStand t → JobsRun t → IsMet t told (command.BlockStream c)
    → BasesAreLent t → BasesAreLent (all_changed t (edits_of t told (command.BlockStream c)))
unfolding edits_of
stream_lent t told c h j r met g =
    starts_keep_lent t (stream_job t c) h j (met_stream t told c h j r met).job (nothing_lent t (stream_job t c) refl) g

pub commit_lent : (t : RunTable) (told : Told) (c : CommitCommand (List ℕ)) → TableStands t → JobsStand t → JobsRun t → EdgesAreDrawn t
    → IsMet t told (command.BlockCommit c) → BasesAreLent t → BasesAreLent (all_changed t (edits_of t told (command.BlockCommit c)))
unfolding edits_of
commit_lent t told c h j r d met g =
    let b = met_commit t told c h j r d met in
    starts_keep_lent t (commit_job t c) h j b (lent_by_read t (commit_job t c) h j d b refl refl) g

-- ---- every command

module _ (t : RunTable) (told exp : Told) (rests : TableAtRest t) (j : JobsStand t) (r : JobsRun t) (d : EdgesAreDrawn t) (g : BasesAreLent t) where
  met : (c : Cmd) → refusal_to t told c ≡ None → IsMet t told c
  met c h = (accepted_met t told c h).1

  goes_by : (c : Cmd) → begins_job c ≡ false → refusal_to t told c ≡ None → AllLeaveLent t (command_edits t exp c) → BasesAreLent (all_changed t (command_edits t exp c))
  goes_by c begins h apart = elim (accepted_leave t told exp c begins rests j h) [
    | inl l ↦ changes_leave_lent (command_edits t exp c) t rests.stands j l.0 l.1.0 apart g
    | inr of ↦ subst (λ (changes : List Change). BasesAreLent (all_changed t changes)) (sym of.is) (snapshots_leave_lent t of.node of.overlay j of.leaves g)
  ]

  by_edges : (c : Cmd) → begins_job c ≡ false → refusal_to t told c ≡ None → AllTakeEdges (command_edits t exp c) → BasesAreLent (all_changed t (command_edits t exp c))
  by_edges c begins h takes = goes_by c begins h (take_leave (command_edits t exp c) t takes)

  pub accepted_lent : (c : Cmd) → refusal_to t told c ≡ None → BasesAreLent (all_changed t (command_edits t exp c))
  unfolding asks_of edits_of
  accepted_lent (command.Capabilities enable) h = by_edges (command.Capabilities enable) refl h (tt, tt)
  accepted_lent (command.BlockdevCreate c) h = by_edges (command.BlockdevCreate c) refl h (tt, created_take t c.options)
  accepted_lent (command.JobDismiss id) h = by_edges (command.JobDismiss id) refl h (tt, tt)
  accepted_lent (command.BlockdevAdd c) h =
      let asks : NoneHolds t told (add_values c ++ add_names c ++ added_rest c.node_name (is_read_only c.options) c.driver) =
      none-holds t told (asks_of (command.BlockdevAdd c)) (met (command.BlockdevAdd c) h).asks in
      goes_by (command.BlockdevAdd c) refl h
      (added_lent t told exp c.node_name (is_read_only c.options) c.driver
      (none-behind t told (add_values c ++ add_names c) (added_rest c.node_name (is_read_only c.options) c.driver) asks))
  accepted_lent (command.BlockdevDel name) h = by_edges (command.BlockdevDel name) refl h (del_take t (node_named t name))
  accepted_lent (command.DeviceAdd c) h = goes_by (command.DeviceAdd c) refl h (device_lent t (new_device t c) (node_named t c.drive))
  accepted_lent (command.DeviceDel id) h = by_edges (command.DeviceDel id) refl h (device_gone_take (device_named t id))
  accepted_lent (command.BlockdevSnapshot c) h = goes_by (command.BlockdevSnapshot c) refl h (tt, (tt, tt))
  accepted_lent (command.BlockStream c) h = stream_lent t told c rests.stands j r (met (command.BlockStream c) h) g
  accepted_lent (command.BlockCommit c) h = commit_lent t told c rests.stands j r d (met (command.BlockCommit c) h) g
  accepted_lent (command.BlockdevMirror c) h = mirror_lent t told c rests.stands j r d (met (command.BlockdevMirror c) h) g
  accepted_lent (command.BlockdevBackup c) h = backup_lent t told c rests.stands j r (met (command.BlockdevBackup c) h) g
  accepted_lent (command.BlockJobCancel job force) h = goes_by (command.BlockJobCancel job force) refl h (asked_lent t job (asked_by_cancel (flag_or_false force)))
  accepted_lent (command.BlockJobComplete job) h = goes_by (command.BlockJobComplete job) refl h (asked_lent t job (λ row. asked.Complete))
  accepted_lent command.QueryBlockJobs h = g
  accepted_lent (command.QueryNamedBlockNodes flat) h = g
  accepted_lent (command.BitmapAdd c) h = by_edges (command.BitmapAdd c) refl h (tt, tt)
  accepted_lent (command.BitmapRemove c) h = by_edges (command.BitmapRemove c) refl h (tt, tt)
  accepted_lent (command.BitmapClear c) h = by_edges (command.BitmapClear c) refl h (tt, tt)
  accepted_lent (command.BitmapEnable c) h = by_edges (command.BitmapEnable c) refl h (tt, tt)
  accepted_lent (command.BitmapDisable c) h = by_edges (command.BitmapDisable c) refl h (tt, tt)
  accepted_lent (command.BitmapMerge c) h = by_edges (command.BitmapMerge c) refl h (merges_take t c.node c.target c.bitmaps)
  accepted_lent (command.Transaction c) h = absurd (let known = (accepted_met t told (command.Transaction c) h).0 in cc known)
