-- No disk is left in the files of backing nodes behind accepted commands.
use Rattle.std.proofs.Common.{◌≡◌, ℕ, Bool, true, false, cond, List, [], ◌∷◌, ◌++◌, refl, sym, ◌∙◌, ap, subst, inl, inr, Option, Some, None, option_map}
use Rattle.std.specs.Prelude.{IsSome}
use Rattle.std.specs.Option.{option_and_then}
use Rattle.std.specs.List.{Contains}
use Rattle.blk_graph.proofs.Members.{find-Some}
use Rattle.qmp_codec.specs.Commands.{Cmd}
use Rattle.qmp_codec.specs.declared.command.Command.TheVariants as command
use Rattle.qmp_codec.specs.declared.jobs.Backup.{Backup}
use Rattle.qmp_codec.specs.declared.jobs.Mirror.{Mirror}
use Rattle.qmp_codec.specs.declared.jobs.Stream.{Stream as StreamCommand}
use Rattle.qmp_codec.specs.declared.jobs.Commit.{Commit as CommitCommand}
use Rattle.qmp_codec.specs.declared.nodes.FileRef.{FileRef}
use Rattle.qmp_codec.specs.declared.nodes.FileRef.TheVariants as file_ref
use Rattle.qmp_codec.specs.declared.nodes.AddRaw.{AddRaw}
use Rattle.qmp_codec.specs.declared.nodes.Added.{Added}
use Rattle.qmp_codec.specs.declared.nodes.Added.TheVariants as added
use Rattle.qmp_codec.specs.declared.nodes.Snapshot.{Snapshot}
use Rattle.qmp_asks.specs.declared.ask.Ask.TheVariants as ask
use Rattle.qmp_asks.specs.CommandAsks.{asks_of}
use Rattle.qmp_asks.specs.NodeAsks.{add_values, add_names, added_rest, qcow2_rest, snapshot_values, snapshot_names, snapshot_rest, is_read_only, backing_name}
use Rattle.qmp_asks.specs.Values.{flag_or_false}
use Rattle.qmp_rules.specs.declared.change.Change.{Change}
use Rattle.qmp_rules.specs.declared.change.Change.TheVariants as change
use Rattle.qmp_rules.specs.declared.rows.NodeRecord.{NodeRecord}
use Rattle.qmp_rules.specs.declared.rows.DeviceRow.{DeviceRow}
use Rattle.qmp_rules.specs.declared.rows.JobRecord.{JobRecord}
use Rattle.qmp_rules.specs.declared.rows.AskedEnd.{AskedEnd}
use Rattle.qmp_rules.specs.declared.rows.AskedEnd.TheVariants as asked
use Rattle.qmp_rules.specs.declared.told.Told.{Told}
use Rattle.qmp_rules.specs.Answers.{refusal_to, command_edits}
use Rattle.qmp_rules.specs.Asks.{holds, is_file}
use Rattle.qmp_rules.specs.Changes.{changed}
use Rattle.qmp_rules.specs.Edits.{file_uses, raw_edits, qcow2_edits, added_edits, of_row, device_uses, new_device, edits_of, ask_edits, asked_by_cancel, snapshot_edits, stream_job, commit_job, backup_job, mirror_job}
use Rattle.qmp_rules.specs.Table.{RunTable, device_named, id_named, node_by_id, node_named, job_named}
use Rattle.flat_machine.specs.State.{State}
use Rattle.flat_machine.specs.Changed.{stepped, all_stepped}
use Rattle.flat_machine.specs.Replies.{begins_job}
use Rattle.flat_machine.specs.Standing.{Stands, StandsAtRest}
use Rattle.flat_machine.specs.Suiting.{AllTableSuit, NoneLeftIn}
use Rattle.flat_machine.specs.Wiring.{TableAtRest}
use Rattle.flat_machine.proofs.Asked.{NoneHolds, none-holds, none-behind, settled-node}
use Rattle.flat_machine.proofs.Snapshots.{snapshot_nodes, edits_are}
use Rattle.flat_machine.proofs.TableRests.{command_rests}
use Rattle.flat_machine.proofs.Rows.{same_row}
use Rattle.job_tables.specs.Accepted.{IsMet}
use Rattle.job_tables.specs.Changes.{LeavesJobs, AllLeaveJobs}
use Rattle.job_tables.specs.Jobs.{JobsStand, EdgesAreDrawn}
use Rattle.job_tables.specs.Running.{JobsRun}
use Rattle.job_tables.proofs.Commands.{accepted_leave}
use Rattle.job_tables.proofs.DrawnChanges.{TakesEdges, AllTakeEdges}
use Rattle.job_tables.proofs.DrawnCommands.{del_take, device_gone_take, created_take, merges_take}
use Rattle.job_tables.proofs.StartCommands.{accepted_met, met_backup, met_mirror, met_stream, met_commit}
use Rattle.job_chains.specs.Lent.{BackedAreUnleft, BacksUnleft, AllBackUnleft}
use Rattle.job_chains.proofs.LentLeft.{unleft_kept}
use Rattle.job_chains.proofs.LentLeftKept.{settled_unleft, disk_unleft, changes_unleft}
use Rattle.job_chains.proofs.LentLeftEvents.{starts_unleft}

-- ---- lists that put no edge

take_unleft : (changes : List Change) (t : RunTable) (s : State) → AllTakeEdges changes → AllLeaveJobs t changes → AllBackUnleft s changes
take_unleft [] t s h leaves = tt
take_unleft (c ∷ changes) t s h leaves = (one c h.0 leaves.0, take_unleft changes (changed t c) (stepped s c) h.1 leaves.1)
  where
    one : (c : Change) → TakesEdges c → LeavesJobs t c → BacksUnleft s c
    one (change.AddFormat row file backing) k l = absurd k
    one (change.PullFilter filter) k l = absurd l
    one (change.Attach overlay node) k l = absurd k
    one (change.Move from to but) k l = absurd l
    one (change.Rebase node backing) k l = absurd l
    one c k l = tt

-- ---- additions

backing_unleft : (s : State) (told : Told) → Stands s → (back : Option (List ℕ)) → holds s.table told (ask.Settled back) ≡ None → (node : ℕ)
    → option_and_then (id_named s.table) back ≡ Some node → NoneLeftIn s node
backing_unleft s told h None settled node is = absurd (let bad : None ≡ Some node = is in cc bad)
backing_unleft s told h (Some name) settled node is = by_found (node_named s.table name) refl is
  where
    by_found : (found : Option NodeRecord) → node_named s.table name ≡ found → option_map (λ (x : NodeRecord). x.id) found ≡ Some node → NoneLeftIn s node
    by_found None e at = absurd (let bad : None ≡ Some node = at in cc bad)
    by_found (Some row) e at =
        let id : row.id ≡ node = cc at in
        subst (NoneLeftIn s) id (disk_unleft s h row.id (settled-node s.table told name row e settled))

module _ (s : State) (told exp : Told) (h : Stands s) where
  no_backing : (now : State) (node : ℕ) → None ≡ Some node → NoneLeftIn now node
  no_backing now node is = absurd (let bad : None ≡ Some node = is in cc bad)

  raw_unleft : (name : List ℕ) (read_only : Bool) (raw : AddRaw (List ℕ)) (file : FileRef (List ℕ)) → AllBackUnleft s (raw_edits s.table exp name read_only raw file)
  raw_unleft name read_only raw (file_ref.Name file) = (λ node is. no_backing s node is, tt)
  raw_unleft name read_only raw (file_ref.Inline file) = (tt, (λ node is. no_backing (stepped s (change.AddFile _)) node is, tt))

  qcow2_unleft : (name : List ℕ) (read_only : Bool) (back : Option (List ℕ)) (file : FileRef (List ℕ)) → NoneHolds s.table told (qcow2_rest name read_only back file)
      → AllTableSuit s.table (qcow2_edits s.table exp name read_only back file) → AllBackUnleft s (qcow2_edits s.table exp name read_only back file)
  qcow2_unleft name read_only back (file_ref.Name file) asks suits = (λ node is. backing_unleft s told h back asks.1.1.1.1.1.1.1.1.1.0 node is, tt)
  qcow2_unleft name read_only back (file_ref.Inline file) asks suits = (
    tt,
    (
      λ node is.
          let none : NoneLeftIn s node = backing_unleft s told h back asks.1.1.1.1.1.1.1.1.1.1.1.0 node is in
          unleft_kept s (change.AddFile _) node
          (λ same. (let bad = subst IsSome (ap (node_by_id s.table) (sym same) ∙ suits.0.fresh) (named_there back node is) in cc bad)) (λ l more. absurd more) none,
      tt,
    ),
  )
    where
      named_there : (back : Option (List ℕ)) (node : ℕ) → option_and_then (id_named s.table) back ≡ Some node → IsSome (node_by_id s.table node)
      named_there None node is = absurd (let bad : None ≡ Some node = is in cc bad)
      named_there (Some name) node is = by_found (node_named s.table name) refl is
        where
          by_found : (found : Option NodeRecord) → node_named s.table name ≡ found → option_map (λ (x : NodeRecord). x.id) found ≡ Some node
              → IsSome (node_by_id s.table node)
          by_found None e at = absurd (let bad : None ≡ Some node = at in cc bad)
          by_found (Some row) e at =
              let id : row.id ≡ node = cc at in
              let there = (find-Some _ s.table.nodes row e).0 in
              subst (λ n. IsSome (node_by_id s.table n)) id (subst IsSome (sym (h.table.apart row there)) refl)

  added_unleft : (name : List ℕ) (read_only : Bool) (driver : Added (List ℕ)) → NoneHolds s.table told (added_rest name read_only driver)
      → AllTableSuit s.table (added_edits s.table exp name read_only driver) → AllBackUnleft s (added_edits s.table exp name read_only driver)
  added_unleft name read_only (added.File filename) asks suits = (tt, tt)
  added_unleft name read_only (added.Raw raw) asks suits = raw_unleft name read_only raw raw.file
  added_unleft name read_only (added.Qcow2 image) asks suits = qcow2_unleft name read_only (backing_name image.backing) image.file asks suits
  added_unleft name read_only (added.CopyOnRead file) asks suits = (tt, tt)
  added_unleft name read_only added.Unknown asks suits = tt

  -- ---- devices

  used_then : (name : Option (List ℕ)) (device : DeviceRow) (node : ℕ) → AllBackUnleft s (file_uses name ++ change.AddDevice device node ∷ [])
  used_then None device node = (tt, tt)
  used_then (Some name) device node = (tt, (tt, tt))

  device_unleft : (device : NodeRecord → DeviceRow) (found : Option NodeRecord)
      → AllBackUnleft s (of_row (λ row. device_uses row ++ change.AddDevice (device row) row.id ∷ []) found)
  device_unleft device None = tt
  device_unleft device (Some row) = by_use (is_file row)
    where
      by_use : (b : Bool) → AllBackUnleft s (cond b (file_uses row.filename) [] ++ change.AddDevice (device row) row.id ∷ [])
      by_use true = used_then row.filename (device row) row.id
      by_use false = (tt, tt)

  -- ---- snapshots

  snapshot_unleft : (c : Snapshot (List ℕ)) → NoneHolds s.table told (snapshot_values c ++ snapshot_names c ++ snapshot_rest c)
      → AllBackUnleft s (snapshot_edits s.table c)
  snapshot_unleft c asks =
      let of = snapshot_nodes s.table told c h.table asks in
      subst (AllBackUnleft s) (sym (edits_are s.table c of)) (
        none of.node of.over.node_there of.over.disk.settled,
        (
          unleft_kept s (change.Attach of.overlay.id of.node.id) of.overlay.id tt (λ l more. absurd more) (none of.overlay of.over.overlay_there of.settled),
          tt,
        ),
      )
    where
      none : (row : NodeRecord) → Contains s.table.nodes row → row.is_settled ≡ true → NoneLeftIn s row.id
      none row there settled =
          settled_unleft s h row.id (λ r at same. subst (λ (x : NodeRecord). x.is_settled ≡ true) (sym (same_row s.table h.table.apart row r there at same)) settled)

  -- ---- what jobs are asked

  asked_unleft : (id : List ℕ) (end : JobRecord → AskedEnd) → AllBackUnleft s (ask_edits s.table id end)
  asked_unleft id end = by_found (job_named s.table id)
    where
      by_found : (found : Option JobRecord)
          → AllBackUnleft s (elim found as (λ _. List Change) [ None ↦ [] | Some job ↦ change.AskJob job.number (end job) ∷ [] ])
      by_found None = tt
      by_found (Some job) = (tt, tt)

-- ---- commands that begin a job

module _ (s : State) (told : Told) (h : Stands s) (j : JobsStand s.table) (r : JobsRun s.table) (d : EdgesAreDrawn s.table) (g : BackedAreUnleft s) where
  pub backup_unleft : (c : Backup (List ℕ)) → IsMet s.table told (command.BlockdevBackup c)
      → BackedAreUnleft (all_stepped s (edits_of s.table told (command.BlockdevBackup c)))
  unfolding edits_of
  backup_unleft c met = starts_unleft s (backup_job s.table None c) h.table j d (met_backup s.table told c h.table j r met).job tt g

  pub mirror_unleft : (c : Mirror (List ℕ)) → IsMet s.table told (command.BlockdevMirror c)
      → BackedAreUnleft (all_stepped s (edits_of s.table told (command.BlockdevMirror c)))
  unfolding edits_of
  mirror_unleft c met = starts_unleft s (mirror_job s.table c) h.table j d (met_mirror s.table told c h.table j r d met).job tt g

  pub stream_unleft : (c : StreamCommand (List ℕ)) → IsMet s.table told (command.BlockStream c)
      → BackedAreUnleft (all_stepped s (edits_of s.table told (command.BlockStream c)))
  unfolding edits_of
  stream_unleft c met = starts_unleft s (stream_job s.table c) h.table j d (met_stream s.table told c h.table j r met).job tt g

  pub commit_unleft : (c : CommitCommand (List ℕ)) → IsMet s.table told (command.BlockCommit c)
      → BackedAreUnleft (all_stepped s (edits_of s.table told (command.BlockCommit c)))
  unfolding edits_of
  commit_unleft c met = starts_unleft s (commit_job s.table c) h.table j d (met_commit s.table told c h.table j r d met) refl g

-- ---- every command

module _ (s : State) (told exp : Told) (rests : StandsAtRest s) (j : JobsStand s.table) (r : JobsRun s.table) (d : EdgesAreDrawn s.table) (g : BackedAreUnleft s) where
  h : Stands s
  h = rests.stands

  at_rest : TableAtRest s.table
  at_rest = record { stands = rests.stands.table; inline = rests.inline }

  met : (c : Cmd) → refusal_to s.table told c ≡ None → IsMet s.table told c
  met c quiet = (accepted_met s.table told c quiet).1

  asks_met : (c : Cmd) → refusal_to s.table told c ≡ None → NoneHolds s.table told (asks_of c)
  asks_met c quiet = none-holds s.table told (asks_of c) (met c quiet).asks

  suits : (c : Cmd) → begins_job c ≡ false → refusal_to s.table told c ≡ None → AllTableSuit s.table (command_edits s.table exp c)
  suits c begins quiet = (command_rests s.table told exp c begins at_rest quiet).0

  goes_by : (c : Cmd) → begins_job c ≡ false → refusal_to s.table told c ≡ None → AllBackUnleft s (command_edits s.table exp c)
      → BackedAreUnleft (all_stepped s (command_edits s.table exp c))
  goes_by c begins quiet unleft = changes_unleft (command_edits s.table exp c) s h.table (suits c begins quiet) unleft g

  by_edges : (c : Cmd) → begins_job c ≡ false → refusal_to s.table told c ≡ None → AllTakeEdges (command_edits s.table exp c)
      → BackedAreUnleft (all_stepped s (command_edits s.table exp c))
  by_edges c begins quiet takes = elim (accepted_leave s.table told exp c begins at_rest j quiet) [
    | inl l ↦ goes_by c begins quiet (take_unleft (command_edits s.table exp c) s.table s takes l.1.0)
    | inr of ↦ absurd (subst AllTakeEdges of.is takes).0
  ]

  pub accepted_unleft : (c : Cmd) → refusal_to s.table told c ≡ None → BackedAreUnleft (all_stepped s (command_edits s.table exp c))
  unfolding asks_of edits_of
  accepted_unleft (command.Capabilities enable) quiet = by_edges (command.Capabilities enable) refl quiet (tt, tt)
  accepted_unleft (command.BlockdevCreate c) quiet = by_edges (command.BlockdevCreate c) refl quiet (tt, created_take s.table c.options)
  accepted_unleft (command.JobDismiss id) quiet = by_edges (command.JobDismiss id) refl quiet (tt, tt)
  accepted_unleft (command.BlockdevAdd c) quiet =
      let asks : NoneHolds s.table told (add_values c ++ add_names c ++ added_rest c.node_name (is_read_only c.options) c.driver) =
      asks_met (command.BlockdevAdd c) quiet in
      goes_by (command.BlockdevAdd c) refl quiet
      (added_unleft s told exp h c.node_name (is_read_only c.options) c.driver
      (none-behind s.table told (add_values c ++ add_names c) (added_rest c.node_name (is_read_only c.options) c.driver) asks)
      (suits (command.BlockdevAdd c) refl quiet))
  accepted_unleft (command.BlockdevDel name) quiet = by_edges (command.BlockdevDel name) refl quiet (del_take s.table (node_named s.table name))
  accepted_unleft (command.DeviceAdd c) quiet =
      goes_by (command.DeviceAdd c) refl quiet (device_unleft s told exp h (new_device s.table c) (node_named s.table c.drive))
  accepted_unleft (command.DeviceDel id) quiet = by_edges (command.DeviceDel id) refl quiet (device_gone_take (device_named s.table id))
  accepted_unleft (command.BlockdevSnapshot c) quiet =
      goes_by (command.BlockdevSnapshot c) refl quiet (snapshot_unleft s told exp h c (asks_met (command.BlockdevSnapshot c) quiet))
  accepted_unleft (command.BlockStream c) quiet = stream_unleft s told h j r d g c (met (command.BlockStream c) quiet)
  accepted_unleft (command.BlockCommit c) quiet = commit_unleft s told h j r d g c (met (command.BlockCommit c) quiet)
  accepted_unleft (command.BlockdevMirror c) quiet = mirror_unleft s told h j r d g c (met (command.BlockdevMirror c) quiet)
  accepted_unleft (command.BlockdevBackup c) quiet = backup_unleft s told h j r d g c (met (command.BlockdevBackup c) quiet)
  accepted_unleft (command.BlockJobCancel job force) quiet =
      goes_by (command.BlockJobCancel job force) refl quiet (asked_unleft s told exp h job (asked_by_cancel (flag_or_false force)))
  accepted_unleft (command.BlockJobComplete job) quiet =
      goes_by (command.BlockJobComplete job) refl quiet (asked_unleft s told exp h job (λ row. asked.Complete))
  accepted_unleft command.QueryBlockJobs quiet = g
  accepted_unleft (command.QueryNamedBlockNodes flat) quiet = g
  accepted_unleft (command.BitmapAdd c) quiet = by_edges (command.BitmapAdd c) refl quiet (tt, tt)
  accepted_unleft (command.BitmapRemove c) quiet = by_edges (command.BitmapRemove c) refl quiet (tt, tt)
  accepted_unleft (command.BitmapClear c) quiet = by_edges (command.BitmapClear c) refl quiet (tt, tt)
  accepted_unleft (command.BitmapEnable c) quiet = by_edges (command.BitmapEnable c) refl quiet (tt, tt)
  accepted_unleft (command.BitmapDisable c) quiet = by_edges (command.BitmapDisable c) refl quiet (tt, tt)
  accepted_unleft (command.BitmapMerge c) quiet = by_edges (command.BitmapMerge c) refl quiet (merges_take s.table c.node c.target c.bitmaps)
  accepted_unleft (command.Transaction c) quiet = absurd (let known = (accepted_met s.table told (command.Transaction c) quiet).0 in cc known)
