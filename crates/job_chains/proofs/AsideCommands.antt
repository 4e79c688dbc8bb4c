-- Commits stand aside behind accepted commands, and behind ends and readiness as histories note them.
use Rattle.std.proofs.Common.{◌≡◌, ℕ, Bool, true, false, cond, List, [], ◌∷◌, ◌++◌, refl, sym, ◌∙◌, subst, inl, inr, Option, Some, None, option_map}
use Rattle.std.specs.Prelude.{◌==◌, unwrap_or}
use Rattle.std.specs.Option.{option_and_then}
use Rattle.std.specs.List.{Contains}
use Rattle.blk_graph.proofs.Members.{find-Some}
use Rattle.blk_history.specs.declared.entry.JobEnd.{JobEnd}
use Rattle.qmp_codec.specs.Commands.{Cmd}
use Rattle.qmp_codec.specs.declared.command.Command.TheVariants as command
use Rattle.qmp_codec.specs.declared.jobs.Backup.{Backup}
use Rattle.qmp_codec.specs.declared.jobs.Commit.{Commit as CommitCommand}
use Rattle.qmp_codec.specs.declared.jobs.Mirror.{Mirror}
use Rattle.qmp_codec.specs.declared.jobs.Stream.{Stream as StreamCommand}
use Rattle.qmp_codec.specs.declared.nodes.FileRef.{FileRef}
use Rattle.qmp_codec.specs.declared.nodes.FileRef.TheVariants as file_ref
use Rattle.qmp_codec.specs.declared.nodes.AddRaw.{AddRaw}
use Rattle.qmp_codec.specs.declared.nodes.Added.{Added}
use Rattle.qmp_codec.specs.declared.nodes.Added.TheVariants as added
use Rattle.qmp_codec.specs.declared.nodes.DeviceAdd.{DeviceAdd}
use Rattle.qmp_asks.specs.declared.ask.Ask.TheVariants as ask
use Rattle.qmp_asks.specs.CommandAsks.{asks_of}
use Rattle.qmp_asks.specs.NodeAsks.{add_values, add_names, added_rest, qcow2_rest, is_read_only, backing_name, snapshot_values, snapshot_names, snapshot_rest}
use Rattle.qmp_asks.specs.Values.{flag_or_false}
use Rattle.qmp_rules.specs.declared.change.Change.{Change}
use Rattle.qmp_rules.specs.declared.change.Change.TheVariants as change
use Rattle.qmp_rules.specs.declared.rows.NodeRecord.{NodeRecord}
use Rattle.qmp_rules.specs.declared.rows.DeviceRow.{DeviceRow}
use Rattle.qmp_rules.specs.declared.rows.JobRecord.{JobRecord}
use Rattle.qmp_rules.specs.declared.rows.AskedEnd.{AskedEnd}
use Rattle.qmp_rules.specs.declared.rows.AskedEnd.TheVariants as asked
use Rattle.qmp_rules.specs.declared.told.Told.{Told}
use Rattle.qmp_rules.specs.Answers.{refusal_to, command_edits}
use Rattle.qmp_rules.specs.Asks.{holds, id_or, is_file}
use Rattle.qmp_rules.specs.Changes.{changed, all_changed}
use Rattle.qmp_rules.specs.Edits.{file_uses, raw_edits, qcow2_edits, added_edits, of_row, device_uses, new_device, stream_job, commit_job, backup_job, mirror_job, edits_of, ask_edits, asked_by_cancel}
use Rattle.qmp_rules.specs.Ends.{ready_edits}
use Rattle.qmp_rules.specs.Table.{RunTable, device_named, node_named, id_named, job_named, job_at}
use Rattle.flat_machine.specs.Jobs.{outcome_of, changes_at_end, ended, readied_by, readied}
use Rattle.flat_machine.specs.Replies.{begins_job}
use Rattle.flat_machine.specs.State.{State}
use Rattle.flat_machine.specs.Wiring.{TableStands, TableAtRest}
use Rattle.flat_machine.proofs.Asked.{NoneHolds, none-holds, none-behind, found-named, settled-node}
use Rattle.flat_machine.proofs.Resting.{stepped_table}
use Rattle.job_tables.specs.Accepted.{HaveSmallIds, IsMet, JobsAreDrawn}
use Rattle.job_tables.specs.Jobs.{JobsStand, EdgesAreDrawn}
use Rattle.job_tables.proofs.Commands.{accepted_leave}
use Rattle.job_tables.proofs.DrawnChanges.{TakesEdges, AllTakeEdges}
use Rattle.job_tables.proofs.DrawnCommands.{del_take, device_gone_take, created_take, merges_take}
use Rattle.job_tables.proofs.StartCommands.{met_backup, met_mirror, met_stream, met_commit, accepted_met}
use Rattle.job_chains.specs.Aside.{CommitsStandAside, ReadsNoneAside, LeavesAside, AllLeaveAside}
use Rattle.job_chains.proofs.AsideKept.{job_back, was_aside}
use Rattle.job_chains.proofs.AsideChanges.{settled_none, change_aside, changes_aside, snapshot_aside}
use Rattle.job_chains.proofs.AsideStarts.{start_aside}
use Rattle.job_chains.proofs.AsideEnds.{end_aside}

-- ---- changes that put no edge to a backing node

take_leave : (changes : List Change) (t : RunTable) → AllTakeEdges changes → AllLeaveAside t changes
take_leave [] t h = tt
take_leave (c ∷ changes) t h = (one c h.0, take_leave changes (changed t c) h.1)
  where
    one : (c : Change) → TakesEdges c → LeavesAside t c
    one (change.AddFormat row file backing) k = absurd k
    one c k = tt

-- ---- additions

-- a node that is added has no part in it
file_none : (t : RunTable) (new : NodeRecord) (node : ℕ) → ReadsNoneAside t node → ReadsNoneAside (changed t (change.AddFile new)) node
file_none t new node none row here kind reads = elim (job_back t (change.AddFile new) row here) [
  | inl was ↦
      none was.old was.there (sym was.kind ∙ kind)
      (was_aside t (change.AddFile new) tt row was.old was.source was.held (λ n m other never. absurd never) node reads)
  | inr never ↦ never
]

module _ (t : RunTable) (told exp : Told) (h : TableStands t) (j : JobsStand t) (stands : CommitsStandAside t) where
  no_backing : (node : ℕ) → None ≡ Some node → (now : RunTable) → ReadsNoneAside now node
  no_backing node is now = absurd (let bad : None ≡ Some node = is in cc bad)

  backing_none : (back : Option (List ℕ)) → holds t told (ask.Settled back) ≡ None → (node : ℕ) → option_and_then (id_named t) back ≡ Some node → ReadsNoneAside t node
  backing_none None settled node is = no_backing node is t
  backing_none (Some name) settled node is = by_found (node_named t name) refl is
    where
      by_found : (found : Option NodeRecord) → node_named t name ≡ found → option_map (λ (x : NodeRecord). x.id) found ≡ Some node → ReadsNoneAside t node
      by_found None e at = no_backing node at t
      by_found (Some row) e at =
          let id : row.id ≡ node = cc at in
          subst (ReadsNoneAside t) id (settled_none t h j stands row.id (settled-node t told name row e settled))

  raw_aside : (name : List ℕ) (read_only : Bool) (raw : AddRaw (List ℕ)) (file : FileRef (List ℕ)) → AllLeaveAside t (raw_edits t exp name read_only raw file)
  raw_aside name read_only raw (file_ref.Name file) = (λ node is. no_backing node is t, tt)
  raw_aside name read_only raw (file_ref.Inline file) = (tt, (λ node is. no_backing node is (changed t (change.AddFile _)), tt))

  qcow2_aside : (name : List ℕ) (read_only : Bool) (back : Option (List ℕ)) (file : FileRef (List ℕ)) → NoneHolds t told (qcow2_rest name read_only back file)
      → AllLeaveAside t (qcow2_edits t exp name read_only back file)
  qcow2_aside name read_only back (file_ref.Name file) asks = (λ node is. backing_none back asks.1.1.1.1.1.1.1.1.1.0 node is, tt)
  qcow2_aside name read_only back (file_ref.Inline file) asks =
      (tt, (λ node is. file_none t _ node (backing_none back asks.1.1.1.1.1.1.1.1.1.1.1.0 node is), tt))

  added_aside : (name : List ℕ) (read_only : Bool) (driver : Added (List ℕ)) → NoneHolds t told (added_rest name read_only driver)
      → AllLeaveAside t (added_edits t exp name read_only driver)
  added_aside name read_only (added.File filename) asks = (tt, tt)
  added_aside name read_only (added.Raw raw) asks = raw_aside name read_only raw raw.file
  added_aside name read_only (added.Qcow2 image) asks = qcow2_aside name read_only (backing_name image.backing) image.file asks
  added_aside name read_only (added.CopyOnRead file) asks = (tt, tt)
  added_aside name read_only added.Unknown asks = tt

  -- a node that is named and has a flat disk
  named_none : (name : List ℕ) → holds t told (ask.Found (Some name)) ≡ None → holds t told (ask.Settled (Some name)) ≡ None → ReadsNoneAside t (id_or 0 t (Some name))
  named_none name found settled = by_found (node_named t name) refl
    where
      by_found : (o : Option NodeRecord) → node_named t name ≡ o → ReadsNoneAside t (unwrap_or (option_map (λ (x : NodeRecord). x.id) o) 0)
      by_found None e =
          let row = found-named t told name found in
          absurd (let bad : None ≡ Some row.0 = sym e ∙ row.1 in cc bad)
      by_found (Some row) e = settled_none t h j stands row.id (settled-node t told name row e settled)

-- ---- devices

used_then : (t : RunTable) (name : Option (List ℕ)) (device : DeviceRow) (node : ℕ) → AllLeaveAside t (file_uses name ++ change.AddDevice device node ∷ [])
used_then t None device node = (tt, tt)
used_then t (Some name) device node = (tt, (tt, tt))

device_aside : (t : RunTable) (c : DeviceAdd (List ℕ)) (found : Option NodeRecord)
    → AllLeaveAside t (of_row (λ row. device_uses row ++ change.AddDevice (new_device t c row) row.id ∷ []) found)
device_aside t c None = tt
device_aside t c (Some row) = by_use (is_file row)
  where
    by_use : (b : Bool) → AllLeaveAside t (cond b (file_uses row.filename) [] ++ change.AddDevice (new_device t c row) row.id ∷ [])
    by_use true = used_then t row.filename (new_device t c row) row.id
    by_use false = (tt, tt)

-- ---- changes that begin with no snapshot

abbrev BeginsOtherwise : List Change → Type 0
BeginsOtherwise (change.Attach overlay node ∷ changes) = ⊥
BeginsOtherwise changes = Unit {0}

take_otherwise : (changes : List Change) → AllTakeEdges changes → BeginsOtherwise changes
take_otherwise [] takes = tt
take_otherwise (change.Attach overlay node ∷ changes) takes = takes.0
take_otherwise (c ∷ changes) takes = tt

added_otherwise : (t : RunTable) (exp : Told) (name : List ℕ) (read_only : Bool) (driver : Added (List ℕ)) → BeginsOtherwise (added_edits t exp name read_only driver)
added_otherwise t exp name read_only (added.File filename) = tt
added_otherwise t exp name read_only (added.Raw raw) = by_file raw.file
  where
    by_file : (file : FileRef (List ℕ)) → BeginsOtherwise (raw_edits t exp name read_only raw file)
    by_file (file_ref.Name file) = tt
    by_file (file_ref.Inline file) = tt
added_otherwise t exp name read_only (added.Qcow2 image) = by_file image.file
  where
    by_file : (file : FileRef (List ℕ)) → BeginsOtherwise (qcow2_edits t exp name read_only (backing_name image.backing) file)
    by_file (file_ref.Name file) = tt
    by_file (file_ref.Inline file) = tt
added_otherwise t exp name read_only (added.CopyOnRead file) = tt
added_otherwise t exp name read_only added.Unknown = tt

device_otherwise : (t : RunTable) (c : DeviceAdd (List ℕ)) (found : Option NodeRecord)
    → BeginsOtherwise (of_row (λ row. device_uses row ++ change.AddDevice (new_device t c row) row.id ∷ []) found)
device_otherwise t c None = tt
device_otherwise t c (Some row) = by_use (is_file row) row.filename
  where
    by_use : (b : Bool) (name : Option (List ℕ)) → BeginsOtherwise (cond b (file_uses name) [] ++ change.AddDevice (new_device t c row) row.id ∷ [])
    by_use true None = tt
    by_use true (Some name) = tt
    by_use false name = tt

-- ---- what jobs are asked

asked_aside : (t : RunTable) (id : List ℕ) (end : JobRecord → AskedEnd) → CommitsStandAside t → CommitsStandAside (all_changed t (ask_edits t id end))
asked_aside t id end stands = by_found (job_named t id)
  where
    by_found : (found : Option JobRecord)
        → CommitsStandAside (all_changed t (elim found as (λ _. List Change) [ None ↦ [] | Some job ↦ change.AskJob job.number (end job) ∷ [] ]))
    by_found None = stands
    by_found (Some job) =
        change_aside t (change.AskJob job.number (end job)) tt (λ row never. never) (λ row here kind n m other never. absurd never)
        (λ row here kind later never. absurd never) stands

-- ---- commands that start jobs

pub backup_aside : (t : RunTable) (told : Told) (c : Backup (List ℕ)) → TableStands t → JobsAreDrawn t → IsMet t told (command.BlockdevBackup c) → CommitsStandAside t
    → CommitsStandAside (all_changed t (edits_of t told (command.BlockdevBackup c)))
unfolding edits_of
backup_aside t told c h g met = start_aside t (backup_job t None c) h g.jobs.stand g.edges (met_backup t told c h g.jobs.stand g.jobs.run met).job

pub mirror_aside : (t : RunTable) (told : Told) (c : Mirror (List ℕ)) → TableStands t → JobsAreDrawn t → IsMet t told (command.BlockdevMirror c) → CommitsStandAside t
    → CommitsStandAside (all_changed t (edits_of t told (command.BlockdevMirror c)))
unfolding edits_of
mirror_aside t told c h g met = start_aside t (mirror_job t c) h g.jobs.stand g.edges (met_mirror t told c h g.jobs.stand g.jobs.run g.edges met).job

pub stream_aside : (t : RunTable) (told : Told) (c : StreamCommand (List ℕ)) → TableStands t → JobsAreDrawn t → IsMet t told (command.BlockStream c) → CommitsStandAside t
    → CommitsStandAside (all_changed t (edits_of t told (command.BlockStream c)))
unfolding edits_of
stream_aside t told c h g met = start_aside t (stream_job t c) h g.jobs.stand g.edges (met_stream t told c h g.jobs.stand g.jobs.run met).job

pub commit_aside : (t : RunTable) (told : Told) (c : CommitCommand (List ℕ)) → TableStands t → JobsAreDrawn t → IsMet t told (command.BlockCommit c) → CommitsStandAside t
    → CommitsStandAside (all_changed t (edits_of t told (command.BlockCommit c)))
unfolding edits_of
commit_aside t told c h g met = start_aside t (commit_job t c) h g.jobs.stand g.edges (met_commit t told c h g.jobs.stand g.jobs.run g.edges met)

-- ---- every command

module _ (t : RunTable) (told : Told) (rests : TableAtRest t) (g : JobsAreDrawn t) (stands : CommitsStandAside t) where
  met : (c : Cmd) → refusal_to t told c ≡ None → IsMet t told c
  met c quiet = (accepted_met t told c quiet).1

  -- a command that neither starts a job nor makes a snapshot
  goes_by : (c : Cmd) → begins_job c ≡ false → refusal_to t told c ≡ None → BeginsOtherwise (command_edits t told c) → AllLeaveAside t (command_edits t told c)
      → CommitsStandAside (all_changed t (command_edits t told c))
  goes_by c begins quiet other leaves = elim (accepted_leave t told told c begins rests g.jobs.stand quiet) [
    | inl l ↦ changes_aside (command_edits t told c) t rests.stands g.jobs.stand l.0 l.1.0 leaves stands
    | inr of ↦ absurd (subst BeginsOtherwise of.is other)
  ]

  by_edges : (c : Cmd) → begins_job c ≡ false → refusal_to t told c ≡ None → AllTakeEdges (command_edits t told c) → CommitsStandAside (all_changed t (command_edits t told c))
  by_edges c begins quiet takes =
      goes_by c begins quiet (take_otherwise (command_edits t told c) takes) (take_leave (command_edits t told c) t takes)

  pub accepted_aside : (c : Cmd) → refusal_to t told c ≡ None → CommitsStandAside (all_changed t (command_edits t told c))
  unfolding asks_of edits_of
  accepted_aside (command.Capabilities enable) h = by_edges (command.Capabilities enable) refl h (tt, tt)
  accepted_aside (command.BlockdevCreate c) h = by_edges (command.BlockdevCreate c) refl h (tt, created_take t c.options)
  accepted_aside (command.JobDismiss id) h = by_edges (command.JobDismiss id) refl h (tt, tt)
  accepted_aside (command.BlockdevAdd c) h =
      let asks : NoneHolds t told (add_values c ++ add_names c ++ added_rest c.node_name (is_read_only c.options) c.driver) =
      none-holds t told (asks_of (command.BlockdevAdd c)) (met (command.BlockdevAdd c) h).asks in
      goes_by (command.BlockdevAdd c) refl h (added_otherwise t told c.node_name (is_read_only c.options) c.driver)
      (added_aside t told told rests.stands g.jobs.stand stands c.node_name (is_read_only c.options) c.driver
      (none-behind t told (add_values c ++ add_names c) (added_rest c.node_name (is_read_only c.options) c.driver) asks))
  accepted_aside (command.BlockdevDel name) h = by_edges (command.BlockdevDel name) refl h (del_take t (node_named t name))
  accepted_aside (command.DeviceAdd c) h =
      goes_by (command.DeviceAdd c) refl h (device_otherwise t c (node_named t c.drive)) (device_aside t c (node_named t c.drive))
  accepted_aside (command.DeviceDel id) h = by_edges (command.DeviceDel id) refl h (device_gone_take (device_named t id))
  accepted_aside (command.BlockdevSnapshot c) h =
      let asks : NoneHolds t told (snapshot_values c ++ snapshot_names c ++ snapshot_rest c) =
      none-holds t told (asks_of (command.BlockdevSnapshot c)) (met (command.BlockdevSnapshot c) h).asks in
      let rest = none-behind t told (snapshot_values c ++ snapshot_names c) (snapshot_rest c) asks in
      snapshot_aside t (id_or 0 t (Some c.node)) (id_or 0 t (Some c.overlay))
      (named_none t told told rests.stands g.jobs.stand stands c.node rest.0 rest.1.1.1.1.0)
      (named_none t told told rests.stands g.jobs.stand stands c.overlay rest.1.0 rest.1.1.1.1.1.0) stands
  accepted_aside (command.BlockStream c) h = stream_aside t told c rests.stands g (met (command.BlockStream c) h) stands
  accepted_aside (command.BlockCommit c) h = commit_aside t told c rests.stands g (met (command.BlockCommit c) h) stands
  accepted_aside (command.BlockdevMirror c) h = mirror_aside t told c rests.stands g (met (command.BlockdevMirror c) h) stands
  accepted_aside (command.BlockdevBackup c) h = backup_aside t told c rests.stands g (met (command.BlockdevBackup c) h) stands
  accepted_aside (command.BlockJobCancel job force) h = asked_aside t job (asked_by_cancel (flag_or_false force)) stands
  accepted_aside (command.BlockJobComplete job) h = asked_aside t job (λ row. asked.Complete) stands
  accepted_aside command.QueryBlockJobs h = stands
  accepted_aside (command.QueryNamedBlockNodes flat) h = stands
  accepted_aside (command.BitmapAdd c) h = by_edges (command.BitmapAdd c) refl h (tt, tt)
  accepted_aside (command.BitmapRemove c) h = by_edges (command.BitmapRemove c) refl h (tt, tt)
  accepted_aside (command.BitmapClear c) h = by_edges (command.BitmapClear c) refl h (tt, tt)
  accepted_aside (command.BitmapEnable c) h = by_edges (command.BitmapEnable c) refl h (tt, tt)
  accepted_aside (command.BitmapDisable c) h = by_edges (command.BitmapDisable c) refl h (tt, tt)
  accepted_aside (command.BitmapMerge c) h = by_edges (command.BitmapMerge c) refl h (merges_take t c.node c.target c.bitmaps)
  accepted_aside (command.Transaction c) h = absurd (let known = (accepted_met t told (command.Transaction c) h).0 in cc known)

-- ---- as histories note them

found_job : (t : RunTable) (number : ℕ) (row : JobRecord) → job_at t number ≡ Some row → Contains t.jobs row
found_job t number row is = (find-Some (λ (job : JobRecord). job.number == number) t.jobs row is).0

pub noted_aside : (s : State) (number : ℕ) (why : JobEnd) → TableStands s.table → JobsStand s.table → EdgesAreDrawn s.table → HaveSmallIds s.table
    → CommitsStandAside s.table → CommitsStandAside (ended s (job_at s.table number) why).table
noted_aside s number why h j d small stands = by_found (job_at s.table number) refl
  where
    by_found : (found : Option JobRecord) → job_at s.table number ≡ found → CommitsStandAside (ended s found why).table
    by_found None is = stands
    by_found (Some row) is =
        subst CommitsStandAside (sym (stepped_table (changes_at_end s row why) s))
        (end_aside s.table row (outcome_of why) h j d small (found_job s.table number row is) stands)

pub readied_aside : (s : State) (number : ℕ) → CommitsStandAside s.table → CommitsStandAside (readied number s).table
readied_aside s number stands = by_found (job_at s.table number)
  where
    by_found : (found : Option JobRecord) → CommitsStandAside (readied_by s found).table
    by_found None = stands
    by_found (Some row) =
        subst CommitsStandAside (sym (stepped_table (ready_edits row) s))
        (change_aside s.table (change.ReadyJob row.number) tt (λ b never. never) (λ b here kind n m other never. absurd never)
        (λ b here kind later never. absurd never) stands)
