-- Nodes along a chain keep one size behind accepted commands.
use Rattle.std.proofs.Common.{◌≡◌, ℕ, Bool, true, false, cond, List, [], ◌∷◌, ◌++◌, refl, sym, ◌∙◌, ap, subst, inl, inr, Option, Some, None, option_map}
use Rattle.std.specs.Prelude.{◌==◌, bytes_eq, option_and_then, unwrap_or}
use Rattle.blk_graph.proofs.Members.{find-Some}
use Rattle.qmp_codec.specs.Commands.{Cmd}
use Rattle.qmp_codec.specs.declared.command.Command.TheVariants as command
use Rattle.qmp_codec.specs.declared.jobs.Commit.{Commit}
use Rattle.qmp_codec.specs.declared.jobs.Stream.{Stream}
use Rattle.qmp_codec.specs.declared.nodes.FileRef.{FileRef}
use Rattle.qmp_codec.specs.declared.nodes.FileRef.TheVariants as file_ref
use Rattle.qmp_codec.specs.declared.nodes.AddRaw.{AddRaw}
use Rattle.qmp_codec.specs.declared.nodes.AddQcow2.{AddQcow2}
use Rattle.qmp_codec.specs.declared.nodes.Added.{Added}
use Rattle.qmp_codec.specs.declared.nodes.Added.TheVariants as added
use Rattle.qmp_codec.specs.declared.nodes.DeviceAdd.{DeviceAdd}
use Rattle.qmp_asks.specs.declared.ask.Ask.TheVariants as ask
use Rattle.qmp_asks.specs.NodeAsks.{add_values, add_names, added_rest, is_read_only, qcow2_rest, backing_name}
use Rattle.qmp_asks.specs.Values.{flag_or_false}
use Rattle.qmp_asks.specs.CommandAsks.{asks_of}
use Rattle.qmp_rules.specs.declared.change.Change.{Change}
use Rattle.qmp_rules.specs.declared.change.Change.TheVariants as change
use Rattle.qmp_rules.specs.declared.rows.DeviceRow.{DeviceRow}
use Rattle.qmp_rules.specs.declared.rows.JobRecord.{JobRecord}
use Rattle.qmp_rules.specs.declared.rows.NodeRecord.{NodeRecord}
use Rattle.qmp_rules.specs.declared.rows.AskedEnd.{AskedEnd}
use Rattle.qmp_rules.specs.declared.rows.AskedEnd.TheVariants as asked
use Rattle.qmp_rules.specs.declared.told.Told.{Told}
use Rattle.qmp_rules.specs.Answers.{refusal_to, command_edits}
use Rattle.qmp_rules.specs.Asks.{holds, is_file}
use Rattle.qmp_rules.specs.Changes.{changed, all_changed}
use Rattle.qmp_rules.specs.Edits.{free_id, next_free_id, inline_row, image_row, raw_edits, qcow2_edits, added_edits, edits_of, stream_job, commit_job, of_row, file_uses, device_uses, new_device, asked_by_cancel}
use Rattle.qmp_rules.specs.Table.{RunTable, node_by_id, id_named, node_named, device_named, job_named}
use Rattle.flat_machine.specs.Replies.{begins_job}
use Rattle.flat_machine.specs.Wiring.{TableStands, TableAtRest}
use Rattle.flat_machine.proofs.Asked.{NoneHolds, none-holds, none-behind, found-named}
use Rattle.flat_machine.proofs.Fresh.{found-longer}
use Rattle.flat_machine.proofs.TableRests.{command_rests}
use Rattle.job_tables.specs.Jobs.{JobsStand, EdgesAreDrawn}
use Rattle.job_tables.specs.Accepted.{IsMet}
use Rattle.job_tables.specs.Running.{JobsRun}
use Rattle.job_tables.specs.Changes.{LeavesJobs, AllLeaveJobs}
use Rattle.job_tables.proofs.Commands.{accepted_leave}
use Rattle.job_tables.proofs.DrawnChanges.{TakesEdges, AllTakeEdges}
use Rattle.job_tables.proofs.DrawnCommands.{del_take, device_gone_take, created_take, merges_take}
use Rattle.job_tables.proofs.StartCommands.{met_stream, met_commit, accepted_met, accepted_start}
use Rattle.job_chains.specs.Sizes.{ChainsHaveOneSize, IsAsLarge, LeavesSizes, AllLeaveSizes, IsToldAsLarge, TellsSizes}
use Rattle.job_chains.proofs.SizesSuit.{changes_keep_sizes}
use Rattle.job_chains.proofs.SizesTurns.{starts_keep_sizes}

-- ---- lists in which no node gets a backing node and no job begins

take_leaves : (changes : List Change) (t : RunTable) → AllLeaveJobs t changes → AllTakeEdges changes → AllLeaveSizes t changes
take_leaves [] t l h = tt
take_leaves (c ∷ changes) t l h = (one c l.0 h.0, take_leaves changes (changed t c) l.1 h.1)
  where
    one : (c : Change) → LeavesJobs t c → TakesEdges c → LeavesSizes t c
    one (change.AddFormat row file backing) l k = absurd k
    one (change.PutFilter row node) l k = absurd l
    one c l k = tt

used_leaves : (t : RunTable) (name : Option (List ℕ)) (device : DeviceRow) (node : ℕ) → AllLeaveSizes t (file_uses name ++ change.AddDevice device node ∷ [])
used_leaves t None device node = (tt, tt)
used_leaves t (Some name) device node = (tt, (tt, tt))

device_leaves : (t : RunTable) (c : DeviceAdd (List ℕ)) (found : Option NodeRecord)
    → AllLeaveSizes t (of_row (λ row. device_uses row ++ change.AddDevice (new_device t c row) row.id ∷ []) found)
device_leaves t c None = tt
device_leaves t c (Some row) = by_use (is_file row)
  where
    by_use : (b : Bool) → AllLeaveSizes t (cond b (file_uses row.filename) [] ++ change.AddDevice (new_device t c row) row.id ∷ [])
    by_use true = used_leaves t row.filename (new_device t c row) row.id
    by_use false = (tt, tt)

asked_leaves : (t : RunTable) (ask : JobRecord → AskedEnd) (found : Option JobRecord)
    → AllLeaveSizes t (elim found as (λ _. List Change) [ None ↦ [] | Some job ↦ change.AskJob job.number (ask job) ∷ [] ])
asked_leaves t ask None = tt
asked_leaves t ask (Some job) = (tt, tt)

-- ---- additions

module _ (t : RunTable) (told exp : Told) (h : TableStands t) (name : List ℕ) (read_only : Bool) where
  -- what was there while the new node comes is as large as it
  new_large : (image : AddQcow2 (List ℕ)) → IsToldAsLarge t exp (added.Qcow2 image) → holds t told (ask.Found (backing_name image.backing)) ≡ None
      → (now : RunTable) (id node : ℕ) → ((row : NodeRecord) → node_by_id t node ≡ Some row → node_by_id now node ≡ Some row)
      → option_and_then (id_named t) (backing_name image.backing) ≡ Some node → IsAsLarge now (image_row id exp name read_only) node
  new_large image sized found now id node stays is other at = by_name (backing_name image.backing) found is sized
    where
      by_name : (back : Option (List ℕ)) → holds t told (ask.Found back) ≡ None → option_and_then (id_named t) back ≡ Some node
          → ((row : NodeRecord) → option_and_then (node_named t) back ≡ Some row → row.size ≡ unwrap_or exp.size 0) → unwrap_or exp.size 0 ≡ other.size
      by_name None found is sized = absurd (let bad : None ≡ Some node = is in cc bad)
      by_name (Some back) found is sized =
          let named = found-named t told back found in
          let by_id : Some named.0.id ≡ Some node = sym (ap (option_map (λ (r : NodeRecord). r.id)) named.1) ∙ is in
          let same : named.0.id ≡ node = cc in
          let there : node_by_id t named.0.id ≡ Some named.0 = h.apart named.0 (find-Some (λ (r : NodeRecord). bytes_eq r.name back) t.nodes named.0 named.1).0 in
          let both : Some named.0 ≡ Some other = sym (stays named.0 (subst (λ n. node_by_id t n ≡ Some named.0) same there)) ∙ at in
          let one : named.0 ≡ other = cc in
          sym (sized named.0 named.1) ∙ ap (λ (r : NodeRecord). r.size) one

  qcow2_leaves : (image : AddQcow2 (List ℕ)) (file : FileRef (List ℕ)) → IsToldAsLarge t exp (added.Qcow2 image)
      → NoneHolds t told (qcow2_rest name read_only (backing_name image.backing) file)
      → AllLeaveSizes t (qcow2_edits t exp name read_only (backing_name image.backing) file)
  unfolding changed
  qcow2_leaves image (file_ref.Name file) sized asks = (λ node at. new_large image sized asks.1.0 t (free_id t) node (λ row e. e) at, tt)
  qcow2_leaves image (file_ref.Inline file) sized asks = (
    tt,
    (
      λ node at. new_large image sized asks.0 (changed t (change.AddFile (inline_row t exp name file))) (next_free_id t) node
          (λ row e. found-longer (λ (r : NodeRecord). r.id == node) t.nodes (inline_row t exp name file) row e) at,
      tt,
    ),
  )

  no_back : (node : ℕ) → None ≡ Some node → ⊥
  no_back node is = cc

  raw_leaves : (raw : AddRaw (List ℕ)) (file : FileRef (List ℕ)) → AllLeaveSizes t (raw_edits t exp name read_only raw file)
  raw_leaves raw (file_ref.Name file) = (λ node is other at. absurd (no_back node is), tt)
  raw_leaves raw (file_ref.Inline file) = (tt, (λ node is other at. absurd (no_back node is), tt))

  added_leaves : (driver : Added (List ℕ)) → IsToldAsLarge t exp driver → NoneHolds t told (added_rest name read_only driver)
      → AllLeaveSizes t (added_edits t exp name read_only driver)
  added_leaves (added.File filename) sized asks = (tt, tt)
  added_leaves (added.Raw raw) sized asks = raw_leaves raw raw.file
  added_leaves (added.Qcow2 image) sized asks = qcow2_leaves image image.file sized asks
  added_leaves (added.CopyOnRead file) sized asks = (tt, tt)
  added_leaves added.Unknown sized asks = tt

-- ---- every command

module _ (t : RunTable) (told exp : Told) (at_rest : TableAtRest t) (j : JobsStand t) (r : JobsRun t) (d : EdgesAreDrawn t) where
  by_edges : (c : Cmd) → begins_job c ≡ false → refusal_to t told c ≡ None → AllTakeEdges (command_edits t exp c)
      → AllLeaveSizes t (command_edits t exp c)
  by_edges c begins quiet takes = elim (accepted_leave t told exp c begins at_rest j quiet) [
    | inl l ↦ take_leaves (command_edits t exp c) t l.1.0 takes
    | inr of ↦ subst (AllLeaveSizes t) (sym of.is) (tt, (tt, tt))
  ]

  others_leave : (c : Cmd) → begins_job c ≡ false → TellsSizes t exp c
      → refusal_to t told c ≡ None → AllLeaveSizes t (command_edits t exp c)
  unfolding asks_of edits_of
  others_leave (command.Capabilities enable) begins sized quiet = (tt, tt)
  others_leave (command.BlockdevCreate c) begins sized quiet = by_edges (command.BlockdevCreate c) refl quiet (tt, created_take t c.options)
  others_leave (command.JobDismiss id) begins sized quiet = (tt, tt)
  others_leave (command.BlockdevAdd c) begins sized quiet =
      added_leaves t told exp at_rest.stands c.node_name (is_read_only c.options) c.driver sized
      (none-behind t told (add_values c ++ add_names c) (added_rest c.node_name (is_read_only c.options) c.driver)
      (none-holds t told (asks_of (command.BlockdevAdd c)) (accepted_met t told (command.BlockdevAdd c) quiet).1.asks))
  others_leave (command.BlockdevDel name) begins sized quiet = by_edges (command.BlockdevDel name) refl quiet (del_take t (node_named t name))
  others_leave (command.DeviceAdd c) begins sized quiet = device_leaves t c (node_named t c.drive)
  others_leave (command.DeviceDel id) begins sized quiet = by_edges (command.DeviceDel id) refl quiet (device_gone_take (device_named t id))
  others_leave (command.BlockdevSnapshot c) begins sized quiet = (tt, (tt, tt))
  others_leave (command.BlockJobCancel job force) begins sized quiet = asked_leaves t (asked_by_cancel (flag_or_false force)) (job_named t job)
  others_leave (command.BlockJobComplete job) begins sized quiet = asked_leaves t (λ row. asked.Complete) (job_named t job)
  others_leave command.QueryBlockJobs begins sized quiet = tt
  others_leave (command.QueryNamedBlockNodes flat) begins sized quiet = tt
  others_leave (command.BitmapAdd c) begins sized quiet = (tt, tt)
  others_leave (command.BitmapRemove c) begins sized quiet = (tt, tt)
  others_leave (command.BitmapClear c) begins sized quiet = (tt, tt)
  others_leave (command.BitmapEnable c) begins sized quiet = (tt, tt)
  others_leave (command.BitmapDisable c) begins sized quiet = (tt, tt)
  others_leave (command.BitmapMerge c) begins sized quiet =
      by_edges (command.BitmapMerge c) refl quiet (merges_take t c.node c.target c.bitmaps)
  others_leave (command.Transaction c) begins sized quiet =
      absurd (let known = (accepted_met t told (command.Transaction c) quiet).0 in cc known)
  others_leave _ begins sized quiet = absurd cc

  pub accepted_sizes : (c : Cmd) → TellsSizes t exp c → refusal_to t told c ≡ None
      → ChainsHaveOneSize t → ChainsHaveOneSize (all_changed t (command_edits t exp c))
  accepted_sizes c tells quiet sized = by_start (begins_job c) refl
    where
      by_start : (b : Bool) → begins_job c ≡ b → ChainsHaveOneSize (all_changed t (command_edits t exp c))
      by_start true begins =
          let x = accepted_start t told exp c at_rest.stands (record { stand = j; run = r }) d begins quiet in
          subst (λ changes. ChainsHaveOneSize (all_changed t changes)) (sym x.is) (starts_keep_sizes t x.row x.begins.job sized)
      by_start false begins =
          changes_keep_sizes (command_edits t exp c) t at_rest.stands (command_rests t told exp c begins at_rest quiet).0
          (others_leave c begins tells quiet) sized

-- ---- streams and commits

pub stream_sizes : (t : RunTable) (told : Told) (c : Stream (List ℕ)) → TableStands t → JobsStand t → JobsRun t → IsMet t told (command.BlockStream c)
    → ChainsHaveOneSize t → ChainsHaveOneSize (all_changed t (edits_of t told (command.BlockStream c)))
unfolding edits_of
stream_sizes t told c h j r met = starts_keep_sizes t (stream_job t c) (met_stream t told c h j r met).job

pub commit_sizes : (t : RunTable) (told : Told) (c : Commit (List ℕ)) → TableStands t → JobsStand t → JobsRun t → EdgesAreDrawn t
    → IsMet t told (command.BlockCommit c) → ChainsHaveOneSize t → ChainsHaveOneSize (all_changed t (edits_of t told (command.BlockCommit c)))
unfolding edits_of
commit_sizes t told c h j r d met = starts_keep_sizes t (commit_job t c) (met_commit t told c h j r d met)
