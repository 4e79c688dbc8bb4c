-- The changes of an accepted command leave jobs standing and running.
use Rattle.std.proofs.Common.{◌≡◌, ℕ, Bool, true, false, cond, List, [], ◌∷◌, ◌++◌, refl, sym, ap, subst, Option, Some, None, ◌⊎◌, inl, inr}
use Rattle.std.specs.Prelude.{codes}
use Rattle.std.specs.List.{find, Contains}
use Rattle.blk_graph.proofs.Members.{find-Some}
use Rattle.qmp_codec.specs.Commands.{Cmd, SeenSources}
use Rattle.qmp_codec.specs.declared.command.Command.TheVariants as command
use Rattle.qmp_codec.specs.declared.nodes.FileRef.{FileRef}
use Rattle.qmp_codec.specs.declared.nodes.FileRef.TheVariants as file_ref
use Rattle.qmp_codec.specs.declared.nodes.AddRaw.{AddRaw}
use Rattle.qmp_codec.specs.declared.nodes.Added.{Added}
use Rattle.qmp_codec.specs.declared.nodes.Added.TheVariants as added
use Rattle.qmp_codec.specs.declared.nodes.Created.{Created}
use Rattle.qmp_codec.specs.declared.nodes.Created.TheVariants as created
use Rattle.qmp_codec.specs.declared.nodes.DeviceAdd.{DeviceAdd}
use Rattle.qmp_codec.specs.declared.nodes.Snapshot.{Snapshot}
use Rattle.qmp_asks.specs.declared.ask.Ask.TheVariants as ask
use Rattle.qmp_asks.specs.CommandAsks.{asks_of, negotiates}
use Rattle.qmp_asks.specs.Naming.{is_name}
use Rattle.qmp_asks.specs.Values.{flag_or_false}
use Rattle.qmp_asks.specs.NodeAsks.{create_values, create_names, create_rest, del_asks, snapshot_values, snapshot_names, snapshot_rest, is_read_only, backing_name}
use Rattle.qmp_rules.specs.declared.change.Change.{Change}
use Rattle.qmp_rules.specs.declared.change.Change.TheVariants as change
use Rattle.qmp_rules.specs.declared.rows.NodeRecord.{NodeRecord}
use Rattle.qmp_rules.specs.declared.rows.AskedEnd.{AskedEnd}
use Rattle.qmp_rules.specs.declared.rows.AskedEnd.TheVariants as asked
use Rattle.qmp_rules.specs.declared.rows.DeviceRow.{DeviceRow}
use Rattle.qmp_rules.specs.declared.rows.JobRecord.{JobRecord}
use Rattle.qmp_rules.specs.declared.told.Told.{Told}
use Rattle.qmp_rules.specs.Answers.{unbuilt, out_of_turn, refusal_to, command_edits}
use Rattle.qmp_rules.specs.Asks.{first_unmet_ask, id_or, is_file}
use Rattle.qmp_rules.specs.Chains.{filter_role}
use Rattle.qmp_rules.specs.Changes.{changed, all_changed}
use Rattle.qmp_rules.specs.Edits.{file_of_node, file_uses, file_under, goes_with_node, with_inline, del_edits, created_change, raw_edits, qcow2_edits, added_edits, of_row, device_uses, new_device, edits_of, merges, snapshot_edits, asked_by_cancel}
use Rattle.qmp_rules.specs.Table.{RunTable, device_named, job_named, node_named}
use Rattle.flat_machine.specs.Replies.{begins_job}
use Rattle.flat_machine.specs.Suiting.{IsAlone, FormattingSuits, AllTableSuit}
use Rattle.flat_machine.specs.Wiring.{TableStands, TableAtRest}
use Rattle.flat_machine.proofs.Asked.{none-both, NoneHolds, none-holds, none-behind, found-named, none-stands, lone-node}
use Rattle.flat_machine.proofs.Accepted.{none-over, no_edge}
use Rattle.flat_machine.proofs.Finds.{same-bytes_eq}
use Rattle.flat_machine.proofs.OwnNames.{named-if}
use Rattle.flat_machine.proofs.Snapshots.{AreSnapshot, snapshot_nodes, edits_are}
use Rattle.flat_machine.proofs.TableRests.{made-goes_with, inline-file, inline-format, command_rests}
use Rattle.flat_machine.proofs.TableSuited.{named-row, NamedFile, named-file}
use Rattle.job_tables.specs.Accepted.{JobsGoOn}
use Rattle.job_tables.specs.Jobs.{JobsStand, EdgesAreDrawn}
use Rattle.job_tables.specs.Changes.{IsNoJobs, AllLeaveJobs, LeavesBySnapshot}
use Rattle.job_tables.specs.Running.{AllLeaveDisks}
use Rattle.job_tables.proofs.Changes.{changes_leave_jobs}
use Rattle.job_tables.proofs.Asked.{snapshots_leave_jobs}
use Rattle.job_tables.proofs.Nobodys.{holder_free, unheld_node, named_no_filter, own_no_filter, under_no_job, bare_no_job, image_reaches_none}
use Rattle.job_tables.proofs.Runs.{changes_leave_run, snapshots_leave_run, source_has}
use Rattle.job_tables.proofs.RunStarts.{starts_run}
use Rattle.job_tables.proofs.StartCommands.{accepted_start}
use Rattle.job_tables.proofs.Started.{starts_stand}

abbrev Leave : RunTable → List Change → Type 0
Leave t changes = AllLeaveJobs t changes × AllLeaveDisks t changes

-- changes that leave jobs and their disks, or a snapshot that has to do with none
pub record IsSnapshot (t : RunTable) (changes : List Change) : Type 0 where
  pub node : ℕ
  pub overlay : ℕ
  pub is : changes ≡ change.Attach overlay node ∷ change.Move node overlay overlay ∷ []
  pub leaves : LeavesBySnapshot t node overlay

abbrev pub LeavesOrSnaps : RunTable → List Change → Type 0
LeavesOrSnaps t changes = (AllTableSuit t changes × (AllLeaveJobs t changes × AllLeaveDisks t changes)) ⊎ IsSnapshot t changes

-- ---- additions

raw_leave : (t : RunTable) (exp : Told) (name : List ℕ) (read_only : Bool) (raw : AddRaw (List ℕ)) (file : FileRef (List ℕ)) → Leave t (raw_edits t exp name read_only raw file)
raw_leave t exp name read_only raw (file_ref.Name file) = ((tt, tt), (tt, tt))
raw_leave t exp name read_only raw (file_ref.Inline file) = ((tt, (tt, tt)), (tt, (tt, tt)))

qcow2_leave : (t : RunTable) (exp : Told) (name : List ℕ) (read_only : Bool) (back : Option (List ℕ)) (file : FileRef (List ℕ))
    → Leave t (qcow2_edits t exp name read_only back file)
qcow2_leave t exp name read_only back (file_ref.Name file) = ((tt, tt), (tt, tt))
qcow2_leave t exp name read_only back (file_ref.Inline file) = ((tt, (tt, tt)), (tt, (tt, tt)))

added_leave : (t : RunTable) (exp : Told) (name : List ℕ) (read_only : Bool) (driver : Added (List ℕ)) → Leave t (added_edits t exp name read_only driver)
added_leave t exp name read_only (added.File filename) = ((tt, tt), (tt, tt))
added_leave t exp name read_only (added.Raw raw) = raw_leave t exp name read_only raw raw.file
added_leave t exp name read_only (added.Qcow2 image) = qcow2_leave t exp name read_only (backing_name image.backing) image.file
added_leave t exp name read_only (added.CopyOnRead file) = ((tt, tt), (tt, tt))
added_leave t exp name read_only added.Unknown = (tt, tt)

-- ---- creations

create_leave : (t : RunTable) (told : Told) (id : List ℕ) (options : Created (List ℕ)) → TableStands t → NoneHolds t told (create_rest id options)
    → Leave t (change.KeepId id ∷ created_change t options)
unfolding changed
create_leave t told id (created.File c) h asks = (
  (tt, (tt, tt)),
  (
    tt,
    (
      λ row over. none-over t c.filename (none-stands t told c.filename asks.1.0) row (record { there = over.there; filename = over.filename }),
      tt,
    ),
  ),
)
create_leave t told id (created.Qcow2 c) h asks =
    let of = named-file t told h c.file asks.0 asks.1.1.0 asks.1.1.1.0 in
    ((tt, (tt, tt)), (tt, (formats of, tt)))
  where
    formats : NamedFile t told h c.file → FormattingSuits (changed t (change.KeepId id)) (id_or 0 t (Some c.file)) (file_of_node t c.file)
    formats of = record {
      row = of.row;
      stands = record { there = of.there; filename = rw (of.found, of.filename) refl };
      is_node = sym of.id_is;
      alone = subst (IsAlone t) (sym of.id_is) of.alone;
    }
create_leave t told id created.Unknown h asks = ((tt, tt), (tt, tt))

-- ---- devices

uses_then : (t : RunTable) (name : Option (List ℕ)) (device : DeviceRow) (node : ℕ) → Leave t (file_uses name ++ change.AddDevice device node ∷ [])
uses_then t None device node = ((tt, tt), (tt, tt))
uses_then t (Some name) device node = ((tt, (tt, tt)), (tt, (tt, tt)))

device_leave : (t : RunTable) (c : DeviceAdd (List ℕ)) (found : Option NodeRecord)
    → Leave t (of_row (λ row. device_uses row ++ change.AddDevice (new_device t c row) row.id ∷ []) found)
device_leave t c None = (tt, tt)
device_leave t c (Some row) = by_use (is_file row)
  where
    by_use : (b : Bool) → Leave t (cond b (file_uses row.filename) [] ++ change.AddDevice (new_device t c row) row.id ∷ [])
    by_use true = uses_then t row.filename (new_device t c row) row.id
    by_use false = ((tt, tt), (tt, tt))

device_gone_leave : (t : RunTable) (found : Option DeviceRow)
    → Leave t (elim found as (λ _. List Change) [ None ↦ [] | Some device ↦ change.RemoveDevice device.number ∷ [] ])
device_gone_leave t None = (tt, tt)
device_gone_leave t (Some device) = ((tt, tt), (tt, tt))

-- ---- bitmaps

merges_leave : (t : RunTable) (node target : List ℕ) (sources : SeenSources) (now : RunTable) → Leave now (merges t node target sources)
merges_leave t node target [] now = (tt, tt)
merges_leave t node target (s ∷ sources) now =
    let rest = merges_leave t node target sources (changed now _) in ((tt, rest.0), (tt, rest.1))

-- ---- blockdev-del

free_named : (t : RunTable) (told : Told) → TableStands t → JobsStand t → (name : List ℕ) (row : NodeRecord) → node_named t name ≡ Some row
    → is_name name ≡ true → NoneHolds t told (ask.Unheld name ∷ []) → IsNoJobs t row.id
free_named t told h j name row found said asks =
    let there = named-row t told h name row found in
    record {
      held = holder_free t row.id (unheld_node t told name row found asks.0);
      filter = named_no_filter t h j row there.0 (subst (λ n. is_name n ≡ true) (sym (same-bytes_eq row.name name there.1)) said);
    }

module _ (t : RunTable) (h : TableAtRest t) (j : JobsStand t) (row : NodeRecord) (there : Contains t.nodes row) (alone : IsAlone t row.id) (free : IsNoJobs t row.id) where
  -- so it is at any table with the same jobs
  free_at : (now : RunTable) → now.jobs ≡ t.jobs → (node : ℕ) → IsNoJobs t node → IsNoJobs now node
  free_at now jobs node f = record {
    held = λ job here. f.held job (subst (λ rows. Contains rows job) jobs here);
    filter = λ job here. f.filter job (subst (λ rows. Contains rows job) jobs here);
  }

  file_free : (file : NodeRecord) → Contains t.nodes file → file.made_with ≡ Some row.id → IsNoJobs t file.id
  file_free file file_there with =
      under_no_job t h.stands j row file (inline-file t row there alone h.stands h.inline file file_there with)
      (h.inline file row.id file_there with).file (inline-format t row there alone h.stands h.inline file file_there with)

  gone_leave : (now : RunTable) → now.jobs ≡ t.jobs → (found : Option NodeRecord) → find (goes_with_node row.id) t.nodes ≡ found
      → Leave now (change.RemoveNode row.id ∷ elim found as (λ _. List Change) [ None ↦ [] | Some file ↦ change.RemoveNode file.id ∷ [] ])
  unfolding changed
  gone_leave now jobs None e = ((free_at now jobs row.id free, tt), (tt, tt))
  gone_leave now jobs (Some file) e =
      let at = find-Some (goes_with_node row.id) t.nodes file e in (
        (
          free_at now jobs row.id free,
          (free_at (changed now (change.RemoveNode row.id)) jobs file.id (file_free file at.0 (made-goes_with row.id file at.1)), tt),
        ),
        (tt, (tt, tt)),
      )

  use_leave : (name : Option (List ℕ)) → Leave t (file_uses name ++ change.RemoveNode row.id ∷ with_inline t row.id)
  unfolding changed
  use_leave None = gone_leave t refl (find (goes_with_node row.id) t.nodes) refl
  use_leave (Some name) =
      let rest = gone_leave (changed t (change.UseFile name)) refl (find (goes_with_node row.id) t.nodes) refl in
      ((tt, rest.0), (tt, rest.1))

del_leave : (t : RunTable) (told : Told) (name : List ℕ) → TableAtRest t → JobsStand t → NoneHolds t told (del_asks name) → Leave t (del_edits t name)
del_leave t told name h j asks = by_row (found-named t told name asks.1.0)
  where
    by_row : ((row : NodeRecord) × (node_named t name ≡ Some row)) → Leave t (del_edits t name)
    by_row named =
        let row : NodeRecord = named.0 in
        rw named.1 (use_leave t h j row (named-row t told h.stands name row named.1).0
        (no_edge row.id t.edges (lone-node t told name row named.1 asks.1.1.1.0))
        (free_named t told h.stands j name row named.1 (named-if t told (codes "node-name") (Some name) asks.0) (asks.1.1.0, tt)) (file_under t row))

-- ---- blockdev-snapshot

snapshot_leaves : (t : RunTable) (told : Told) (c : Snapshot (List ℕ)) (h : TableStands t) → JobsStand t
    → (asks : NoneHolds t told (snapshot_values c ++ snapshot_names c ++ snapshot_rest c)) → (of : AreSnapshot t c) → LeavesBySnapshot t of.node.id of.overlay.id
snapshot_leaves t told c h j asks of = record {
  other = λ same. of.over.other (sym same);
  node_free = record {
    held = holder_free t of.node.id (unheld_node t told c.node of.node of.node_is asks.1.1.1.1.1.1.1.1.1.0);
    filter = own_no_filter t h j of.node of.over.node_there of.over.disk.own;
  };
  overlay_free = bare_no_job t h j of.overlay of.over.overlay_there (ap filter_role of.over.driver) of.over.lone of.bare;
  alone = of.over.lone;
  below = λ job here.
      let stands = j.each job here in
      image_reaches_none t h of.overlay of.over.overlay_there of.over.driver of.bare job.source (stands.plain job.source (source_has t job stands));
}

snapshot_is : (t : RunTable) (told : Told) (c : Snapshot (List ℕ)) → TableStands t → JobsStand t
    → NoneHolds t told (snapshot_values c ++ snapshot_names c ++ snapshot_rest c) → IsSnapshot t (snapshot_edits t c)
snapshot_is t told c h j asks =
    let of = snapshot_nodes t told c h asks in
    record { node = of.node.id; overlay = of.overlay.id; is = edits_are t c of; leaves = snapshot_leaves t told c h j asks of }

-- ---- jobs that are asked to end

asked_leave : (t : RunTable) (ask : JobRecord → AskedEnd) (found : Option JobRecord)
    → Leave t (elim found as (λ _. List Change) [ None ↦ [] | Some job ↦ change.AskJob job.number (ask job) ∷ [] ])
asked_leave t ask None = (tt, tt)
asked_leave t ask (Some job) = ((tt, tt), (tt, tt))

-- ---- every command

-- those of one that begins no job
pub accepted_leave : (t : RunTable) (told exp : Told) (c : Cmd) → begins_job c ≡ false → TableAtRest t → JobsStand t → refusal_to t told c ≡ None
    → LeavesOrSnaps t (command_edits t exp c)
unfolding refusal_to asks_of edits_of
accepted_leave t told exp c begins rests j h =
    let known = none-both (unbuilt c) _ h in
    let turn = none-both (out_of_turn (negotiates c) t.negotiated) _ known.1 in
    let asks = none-both (first_unmet_ask t told (asks_of c)) _ turn.1 in
    by_command c begins (command_rests t told exp c begins rests h).0 known.0 (none-holds t told (asks_of c) asks.0)
  where
    by_command : (c : Cmd) → begins_job c ≡ false → AllTableSuit t (command_edits t exp c) → unbuilt c ≡ None → NoneHolds t told (asks_of c) → LeavesOrSnaps t (command_edits t exp c)
    by_command (command.Capabilities enable) begins suits is asks = inl (suits, ((tt, tt), (tt, tt)))
    by_command (command.BlockdevCreate c) begins suits is asks =
        inl (
          suits,
          create_leave t told c.job_id c.options rests.stands
              (none-behind t told (create_values c.options ++ ask.Named (codes "job-id") (Some c.job_id) ∷ create_names c.options) (create_rest c.job_id c.options) asks),
        )
    by_command (command.JobDismiss id) begins suits is asks = inl (suits, ((tt, tt), (tt, tt)))
    by_command (command.BlockdevAdd c) begins suits is asks = inl (suits, added_leave t exp c.node_name (is_read_only c.options) c.driver)
    by_command (command.BlockdevDel name) begins suits is asks = inl (suits, del_leave t told name rests j asks)
    by_command (command.DeviceAdd c) begins suits is asks = inl (suits, device_leave t c (node_named t c.drive))
    by_command (command.BlockdevSnapshot c) begins suits is asks = inr (snapshot_is t told c rests.stands j asks)
    by_command (command.DeviceDel id) begins suits is asks = inl (suits, device_gone_leave t (device_named t id))
    by_command (command.BlockJobCancel job force) begins suits is asks =
        inl (suits, asked_leave t (asked_by_cancel (flag_or_false force)) (job_named t job))
    by_command (command.BlockJobComplete job) begins suits is asks = inl (suits, asked_leave t (λ row. asked.Complete) (job_named t job))
    by_command command.QueryBlockJobs begins suits is asks = inl (suits, (tt, tt))
    by_command (command.QueryNamedBlockNodes flat) begins suits is asks = inl (suits, (tt, tt))
    by_command (command.BitmapAdd c) begins suits is asks = inl (suits, ((tt, tt), (tt, tt)))
    by_command (command.BitmapRemove c) begins suits is asks = inl (suits, ((tt, tt), (tt, tt)))
    by_command (command.BitmapClear c) begins suits is asks = inl (suits, ((tt, tt), (tt, tt)))
    by_command (command.BitmapEnable c) begins suits is asks = inl (suits, ((tt, tt), (tt, tt)))
    by_command (command.BitmapDisable c) begins suits is asks = inl (suits, ((tt, tt), (tt, tt)))
    by_command (command.BitmapMerge c) begins suits is asks = inl (suits, merges_leave t c.node c.target c.bitmaps t)
    by_command _ begins suits is asks = absurd cc

module _ (t : RunTable) (told exp : Told) (c : Cmd) (rests : TableAtRest t) (g : JobsGoOn t) (h : refusal_to t told c ≡ None) where
  pub others_keep_jobs : begins_job c ≡ false → JobsGoOn (all_changed t (command_edits t exp c))
  others_keep_jobs begins = elim (accepted_leave t told exp c begins rests g.stand h) [
    | inl l ↦ record {
      stand = changes_leave_jobs (command_edits t exp c) t rests.stands g.stand l.0 l.1.0;
      run = changes_leave_run (command_edits t exp c) t rests.stands g.stand l.0 l.1.0 l.1.1 g.run;
    }
    | inr of ↦
        subst (λ (changes : List Change). JobsGoOn (all_changed t changes)) (sym of.is) (record {
          stand = snapshots_leave_jobs t g.stand of.node of.overlay of.leaves;
          run = snapshots_leave_run t of.node of.overlay g.run;
        })
  ]

  pub accepted_keep_jobs : EdgesAreDrawn t → JobsGoOn (all_changed t (command_edits t exp c))
  accepted_keep_jobs d = by_start (begins_job c) refl
    where
      by_start : (b : Bool) → begins_job c ≡ b → JobsGoOn (all_changed t (command_edits t exp c))
      by_start true begins =
          let s = accepted_start t told exp c rests.stands g d begins h in
          subst (λ (changes : List Change). JobsGoOn (all_changed t changes)) (sym s.is) (record {
            stand = starts_stand t s.row rests.stands g.stand s.begins.job;
            run = starts_run t s.row rests.stands g.stand g.run s.begins.job s.begins.run;
          })
      by_start false begins = others_keep_jobs begins
