-- The changes of an accepted command lead nothing to the target of a backup or mirror.
use Rattle.std.proofs.Common.{◌≡◌, ℕ, suc, ◌<◌, Bool, true, false, cond, List, [], ◌∷◌, ◌++◌, refl, sym, ◌∙◌, ap, subst, inl, inr, Option, Some, None, option_map}
use Rattle.std.specs.Prelude.{◌==◌}
use Rattle.std.specs.Option.{option_and_then}
use Rattle.std.specs.List.{Contains}
use Rattle.std.proofs.lemmas.Bool.{false≢true, eqb-true}
use Rattle.blk_graph.specs.declared.edge.Edge.{Edge}
use Rattle.blk_graph.specs.declared.edge.Parent.TheVariants.{Node, Job}
use Rattle.blk_graph.specs.declared.edge.Perm.TheVariants.{Unchanged}
use Rattle.blk_graph.specs.declared.edge.Role.{Role}
use Rattle.blk_graph.specs.declared.edge.Role.TheVariants.{File}
use Rattle.blk_graph.specs.declared.edge.Uses.{Uses}
use Rattle.blk_graph.specs.declared.kind.Kind.{Kind}
use Rattle.blk_graph.specs.declared.kind.Kind.TheVariants as driver
use Rattle.blk_graph.specs.declared.kind.JobUse.TheVariants.{CopyTarget}
use Rattle.blk_graph.specs.declared.kind.NodeKind.{NodeKind}
use Rattle.blk_graph.specs.Edges.{same_parent, ArePermsWithin}
use Rattle.blk_graph.specs.Edits.{with_edge}
use Rattle.blk_graph.specs.Permissions.{derived_uses, job_edge, node_edge}
use Rattle.blk_graph.specs.Refreshed.{kind_at, uses_into, with_uses, ruled, ruled_from, turned_by, refreshed}
use Rattle.blk_graph.specs.Rule.{KeepsPermissions}
use Rattle.blk_graph.proofs.EaseLemmas.{agree-pairs}
use Rattle.blk_graph.proofs.EditLemmas.{Contains-with_edge_new}
use Rattle.blk_graph.proofs.InverseLemmas.{same_parent-refl, same_parent-false}
use Rattle.blk_graph.proofs.Members.{Contains-map, find-Some}
use Rattle.blk_graph.proofs.RefreshLemmas.{ruled-same}
use Rattle.blk_graph.proofs.TakeOutLemmas.{agree_apart}
use Rattle.qmp_codec.specs.Commands.{Cmd}
use Rattle.qmp_codec.specs.declared.command.Command.TheVariants as command
use Rattle.qmp_codec.specs.declared.nodes.FileRef.{FileRef}
use Rattle.qmp_codec.specs.declared.nodes.FileRef.TheVariants as file_ref
use Rattle.qmp_codec.specs.declared.nodes.AddRaw.{AddRaw}
use Rattle.qmp_codec.specs.declared.nodes.Added.{Added}
use Rattle.qmp_codec.specs.declared.nodes.Added.TheVariants as added
use Rattle.qmp_codec.specs.declared.nodes.DeviceAdd.{DeviceAdd}
use Rattle.qmp_asks.specs.declared.ask.Ask.TheVariants as ask
use Rattle.qmp_asks.specs.CommandAsks.{asks_of, negotiates}
use Rattle.qmp_asks.specs.NodeAsks.{add_values, add_names, added_rest, qcow2_rest, is_read_only, backing_name}
use Rattle.qmp_rules.specs.declared.change.Change.{Change}
use Rattle.qmp_rules.specs.declared.change.Change.TheVariants as change
use Rattle.qmp_rules.specs.declared.rows.NodeRecord.{NodeRecord}
use Rattle.qmp_rules.specs.declared.rows.DeviceRow.{DeviceRow}
use Rattle.qmp_rules.specs.declared.rows.JobRecord.{JobRecord}
use Rattle.qmp_rules.specs.declared.rows.AskedEnd.{AskedEnd}
use Rattle.qmp_rules.specs.declared.told.Told.{Told}
use Rattle.qmp_rules.specs.Answers.{told_none, is_joined, conflict_after, unbuilt, out_of_turn, refusal_behind, refusal_to, command_edits}
use Rattle.qmp_rules.specs.Asks.{holds, first_unmet_ask, id_or, is_file}
use Rattle.qmp_rules.specs.Chains.{is_settled}
use Rattle.qmp_rules.specs.Changes.{changed, all_changed}
use Rattle.qmp_rules.specs.Edits.{file_uses, raw_edits, qcow2_edits, added_edits, of_row, device_uses, new_device, edits_of, ask_edits, asked_by_cancel}
use Rattle.qmp_asks.specs.Values.{flag_or_false}
use Rattle.qmp_rules.specs.declared.rows.AskedEnd.TheVariants as asked
use Rattle.qmp_rules.specs.Table.{RunTable, device_named, node_named, id_named, job_named, kinds_of}
use Rattle.flat_machine.specs.Wiring.{TableStands, TableAtRest}
use Rattle.flat_machine.specs.Replies.{begins_job}
use Rattle.flat_machine.proofs.Asked.{none-both, NoneHolds, none-holds, none-behind, room-left, settled-node}
use Rattle.flat_machine.proofs.Kept.{own_disk}
use Rattle.flat_machine.proofs.TableRests.{command_rests}
use Rattle.flat_machine.proofs.Tables.{pushed-new, refreshed-new}
use Rattle.job_tables.specs.Accepted.{IsMet}
use Rattle.job_tables.specs.Jobs.{JobsStand, EdgesAreDrawn}
use Rattle.job_tables.specs.Running.{JobsRun}
use Rattle.job_tables.specs.Copiers.{CopiesGo, IsNoCopyTarget, LeavesTargets, AllLeaveTargets}
use Rattle.job_tables.proofs.NodeKinds.{kind_found}
use Rattle.job_tables.proofs.Commands.{accepted_leave, others_keep_jobs}
use Rattle.job_tables.proofs.Copiers.{copied_written, copied_has, copied_edge, changes_leave_copies, snapshots_leave_copies}
use Rattle.job_tables.proofs.DrawnChanges.{TakesEdges, AllTakeEdges}
use Rattle.job_tables.proofs.DrawnCommands.{free_below, quiet_first, ruled_by, del_take, device_gone_take, created_take, merges_take}
use Rattle.job_tables.proofs.StartCommands.{backup_goes, mirror_goes, stream_goes, commit_goes}

-- ---- what has a flat disk is no target

settled_no_target : (t : RunTable) → JobsStand t → JobsRun t → (node : ℕ) → is_settled t node ≡ true → IsNoCopyTarget t node
settled_no_target t j r node settled row here is =
    let p = (j.each row here).plain node (copied_has t row (j.each row here) node is) in
    let own = own_disk t node p.row p.there p.own in
    let flat : p.row.is_settled ≡ true = rw (own, p.there) at settled in
    let at = find-Some (λ (x : NodeRecord). x.id == node) t.nodes p.row p.there in
    false≢true (sym ((r.targets row node here (copied_written row node is)).unsettled p.row at.0 (eqb-true p.row.id node at.1)) ∙ flat)

backing_no_target : (t : RunTable) (told : Told) → JobsStand t → JobsRun t → (back : Option (List ℕ)) → holds t told (ask.Settled back) ≡ None → (node : ℕ)
    → option_and_then (id_named t) back ≡ Some node → IsNoCopyTarget t node
backing_no_target t told j r None settled node is = absurd (let bad : None ≡ Some node = is in cc bad)
backing_no_target t told j r (Some name) settled node is = by_found (node_named t name) refl is
  where
    by_found : (found : Option NodeRecord) → node_named t name ≡ found → option_map (λ (x : NodeRecord). x.id) found ≡ Some node → IsNoCopyTarget t node
    by_found None e at = absurd (let bad : None ≡ Some node = at in cc bad)
    by_found (Some row) e at =
        let id : row.id ≡ node = cc at in
        subst (IsNoCopyTarget t) id (settled_no_target t j r row.id (settled-node t told name row e settled))

-- ---- a `copy-on-read` node asks that what it is over stays unchanged

-- an edge of the derived list is as its parent's kind says
record IsRuled (kinds : List NodeKind) (e : Edge) : Type 0 where
  edge : Edge
  above : ℕ → Uses
  is : e ≡ ruled kinds above edge

last_turn : (turns : ℕ) (kinds : List NodeKind) (edges : List Edge) (e : Edge) → Contains (turned_by (suc turns) kinds edges) e → IsRuled kinds e
last_turn turns kinds edges e there =
    let above : ℕ → Uses = uses_into (turned_by turns kinds edges) in
    let x = Contains-map (ruled kinds above) (turned_by turns kinds edges) e there in
    record { edge = x.0; above = above; is = x.2 }

derived_ruled : (kinds : List NodeKind) (edges : List Edge) (e : Edge) → Contains (refreshed kinds edges) e → IsRuled kinds e
unfolding refreshed
derived_ruled kinds edges e there = last_turn 63 kinds edges e there

asks_unchanged : (kinds : List NodeKind) (e : Edge) (node : ℕ) → IsRuled kinds e → e.parent ≡ Node node → e.role ≡ File
    → (kind_at kinds node).kind ≡ driver.CopyOnRead → e.perm.unchanged ≡ true
asks_unchanged kinds e node r from role kind =
    let same = ruled-same kinds r.above r.edge in
    let parent : r.edge.parent ≡ Node node = sym same.parent ∙ ap (λ (x : Edge). x.parent) (sym r.is) ∙ from in
    let file : r.edge.role ≡ File = sym same.role ∙ ap (λ (x : Edge). x.role) (sym r.is) ∙ role in
    ap (λ (x : Edge). x.perm.unchanged) (r.is ∙ ap (ruled_from kinds r.above r.edge) parent)
    ∙ by_kind r.edge (kind_at kinds node).kind r.edge.role (kind_at kinds node).writes (r.above node) kind file
  where
    by_kind : (x : Edge) (k : Kind) (own : Role) (writes : Bool) (above : Uses) → k ≡ driver.CopyOnRead → own ≡ File
        → (with_uses x (derived_uses k own writes above)).perm.unchanged ≡ true
    by_kind x k own writes above is_kind is_file = rw (is_kind, is_file) refl

-- so it is over no target, whose edge shares nothing
copying_no_target : (t : RunTable) (new : NodeRecord) (child : ℕ) → new.kind ≡ driver.CopyOnRead → new.id < 64
    → TableStands (changed t (change.AddFilter new child)) → JobsStand (changed t (change.AddFilter new child))
    → KeepsPermissions (changed t (change.AddFilter new child)).edges → IsNoCopyTarget t child
unfolding changed
copying_no_target t new child kind small h j rule row here is =
    let now : RunTable = changed t (change.AddFilter new child) in
    let kinds : List NodeKind = kinds_of now.nodes in
    let there : Contains now.nodes new = pushed-new t.nodes new in
    let own : Contains now.edges (job_edge row.slot CopyTarget child) = copied_edge now row (j.each row here) child is in
    let e = refreshed-new kinds (with_edge (node_edge new.id File child) t.edges) (node_edge new.id File child)
    (Contains-with_edge_new (node_edge new.id File child) t.edges) in
    let of_kind : (kind_at kinds new.id).kind ≡ driver.CopyOnRead =
    ap (λ (k : NodeKind). k.kind) (kind_found now new.id new h.apart small (h.apart new there)) ∙ kind in
    let asks : e.edge.perm.unchanged ≡ true = asks_unchanged kinds e.edge new.id
    (derived_ruled kinds (with_edge (node_edge new.id File child) t.edges) e.edge e.there) e.same.parent e.same.role of_kind in
    let pair : ArePermsWithin (job_edge row.slot CopyTarget child).perm e.edge.shared × ArePermsWithin e.edge.perm (job_edge row.slot CopyTarget child).shared
    = agree_apart (λ x. same_parent x.parent (Job row.slot)) now.edges (agree-pairs now.edges rule) (job_edge row.slot CopyTarget child) e.edge own e.there
    (same_parent-refl (Job row.slot))
    (same_parent-false e.edge.parent (Job row.slot) (λ same. let bad : Node new.id ≡ Job row.slot = sym e.same.parent ∙ same in cc bad)) (sym e.same.child) in
    false≢true (pair.1 Unchanged asks)

-- ---- changes that put no edge

take_leave : (changes : List Change) (t : RunTable) → AllTakeEdges changes → AllLeaveTargets t changes
take_leave [] t h = tt
take_leave (c ∷ changes) t h = (one c h.0, take_leave changes (changed t c) h.1)
  where
    one : (c : Change) → TakesEdges c → LeavesTargets t c
    one (change.AddFormat row file backing) k = absurd k
    one (change.AddFilter row child) k = absurd k
    one (change.AddDevice device node) k = absurd k
    one c k = tt

-- ---- additions

module _ (t : RunTable) (told exp : Told) (j : JobsStand t) (r : JobsRun t) where
  no_backing : (node : ℕ) → None ≡ Some node → (now : RunTable) → IsNoCopyTarget now node
  no_backing node is now = absurd (let bad : None ≡ Some node = is in cc bad)

  raw_targets : (name : List ℕ) (read_only : Bool) (raw : AddRaw (List ℕ)) (file : FileRef (List ℕ)) → AllLeaveTargets t (raw_edits t exp name read_only raw file)
  raw_targets name read_only raw (file_ref.Name file) = (λ node is. no_backing node is t, tt)
  raw_targets name read_only raw (file_ref.Inline file) = (tt, (λ node is. no_backing node is (changed t (change.AddFile _)), tt))

  qcow2_targets : (name : List ℕ) (read_only : Bool) (back : Option (List ℕ)) (file : FileRef (List ℕ)) → NoneHolds t told (qcow2_rest name read_only back file)
      → AllLeaveTargets t (qcow2_edits t exp name read_only back file)
  unfolding changed
  qcow2_targets name read_only back (file_ref.Name file) asks = (λ node is. backing_no_target t told j r back asks.1.1.1.1.1.1.1.1.1.0 node is, tt)
  qcow2_targets name read_only back (file_ref.Inline file) asks =
      (tt, (λ node is row here. backing_no_target t told j r back asks.1.1.1.1.1.1.1.1.1.1.1.0 node is row here, tt))

  added_targets : (name : List ℕ) (read_only : Bool) (driver : Added (List ℕ)) → NoneHolds t told (added_rest name read_only driver)
      → conflict_after (is_joined driver) t (added_edits t told_none name read_only driver) ≡ None
      → TableStands (all_changed t (added_edits t exp name read_only driver)) → JobsStand (all_changed t (added_edits t exp name read_only driver))
      → AllLeaveTargets t (added_edits t exp name read_only driver)
  added_targets name read_only (added.File filename) asks quiet h now = (tt, tt)
  added_targets name read_only (added.Raw raw) asks quiet h now = raw_targets name read_only raw raw.file
  added_targets name read_only (added.Qcow2 image) asks quiet h now = qcow2_targets name read_only (backing_name image.backing) image.file asks
  added_targets name read_only (added.CopyOnRead file) asks quiet h now = (
    copying_no_target t _ (id_or 0 t (Some file)) refl (free_below t (room-left t told 1 asks.1.1.0)) h now
        (ruled_by (all_changed t (added_edits t exp name read_only (added.CopyOnRead file))) h
        (quiet_first (all_changed t (added_edits t exp name read_only (added.CopyOnRead file))) quiet)),
    tt,
  )
  added_targets name read_only added.Unknown asks quiet h now = tt

  -- ---- devices

  used_then : (name : Option (List ℕ)) (device : DeviceRow) (node : ℕ) → IsNoCopyTarget t node → AllLeaveTargets t (file_uses name ++ change.AddDevice device node ∷ [])
  unfolding changed
  used_then None device node none = (none, tt)
  used_then (Some name) device node none = (tt, (none, tt))

  device_targets : (c : DeviceAdd (List ℕ)) → holds t told (ask.Settled (Some c.drive)) ≡ None → (found : Option NodeRecord) → node_named t c.drive ≡ found
      → AllLeaveTargets t (of_row (λ row. device_uses row ++ change.AddDevice (new_device t c row) row.id ∷ []) found)
  device_targets c settled None e = tt
  device_targets c settled (Some row) e = by_use (is_file row) (settled_no_target t j r row.id (settled-node t told c.drive row e settled))
    where
      by_use : (b : Bool) → IsNoCopyTarget t row.id
          → AllLeaveTargets t (cond b (file_uses row.filename) [] ++ change.AddDevice (new_device t c row) row.id ∷ [])
      by_use true none = used_then row.filename (new_device t c row) row.id none
      by_use false none = (none, tt)

-- ---- what jobs are asked

asked_goes : (t : RunTable) (id : List ℕ) (end : JobRecord → AskedEnd) → TableStands t → JobsStand t → CopiesGo t → CopiesGo (all_changed t (ask_edits t id end))
asked_goes t id end h j g = by_found (job_named t id)
  where
    by_found : (found : Option JobRecord)
        → CopiesGo (all_changed t (elim found as (λ _. List Change) [ None ↦ [] | Some job ↦ change.AskJob job.number (end job) ∷ [] ]))
    by_found None = g
    by_found (Some job) = changes_leave_copies (change.AskJob job.number (end job) ∷ []) t h j (tt, tt) (tt, tt) (tt, tt) g

-- ---- every command

module _ (t : RunTable) (told exp : Told) (rests : TableAtRest t) (j : JobsStand t) (r : JobsRun t) (d : EdgesAreDrawn t) (g : CopiesGo t) where
  met : (c : Cmd) → refusal_to t told c ≡ None → IsMet t told c
  unfolding refusal_to
  met c h =
      let known = none-both (unbuilt c) _ h in
      let turn = none-both (out_of_turn (negotiates c) t.negotiated) _ known.1 in
      let asks = none-both (first_unmet_ask t told (asks_of c)) (refusal_behind t told c) turn.1 in
      record { asks = asks.0; behind = asks.1 }

  built : (c : Cmd) → refusal_to t told c ≡ None → unbuilt c ≡ None
  unfolding refusal_to
  built c h = (none-both (unbuilt c) _ h).0

  -- a command that neither starts a job nor asks one to end
  goes_by : (c : Cmd) → begins_job c ≡ false → refusal_to t told c ≡ None → AllLeaveTargets t (command_edits t exp c) → CopiesGo (all_changed t (command_edits t exp c))
  goes_by c begins h apart = elim (accepted_leave t told exp c begins rests j h) [
    | inl l ↦ changes_leave_copies (command_edits t exp c) t rests.stands j l.0 l.1.0 apart g
    | inr of ↦ subst (λ (changes : List Change). CopiesGo (all_changed t changes)) (sym of.is) (snapshots_leave_copies t of.node of.overlay j of.leaves g)
  ]

  by_edges : (c : Cmd) → begins_job c ≡ false → refusal_to t told c ≡ None → AllTakeEdges (command_edits t exp c) → CopiesGo (all_changed t (command_edits t exp c))
  by_edges c begins h takes = goes_by c begins h (take_leave (command_edits t exp c) t takes)

  pub accepted_goes : (c : Cmd) → refusal_to t told c ≡ None → CopiesGo (all_changed t (command_edits t exp c))
  unfolding asks_of edits_of
  accepted_goes (command.Capabilities enable) h = by_edges (command.Capabilities enable) refl h (tt, tt)
  accepted_goes (command.BlockdevCreate c) h = by_edges (command.BlockdevCreate c) refl h (tt, created_take t c.options)
  accepted_goes (command.JobDismiss id) h = by_edges (command.JobDismiss id) refl h (tt, tt)
  accepted_goes (command.BlockdevAdd c) h =
      let m = met (command.BlockdevAdd c) h in
      let asks : NoneHolds t told (add_values c ++ add_names c ++ added_rest c.node_name (is_read_only c.options) c.driver) =
      none-holds t told (asks_of (command.BlockdevAdd c)) m.asks in
      goes_by (command.BlockdevAdd c) refl h
      (added_targets t told exp j r c.node_name (is_read_only c.options) c.driver
      (none-behind t told (add_values c ++ add_names c) (added_rest c.node_name (is_read_only c.options) c.driver) asks) m.behind
      (command_rests t told exp (command.BlockdevAdd c) refl rests h).1.stands
      (others_keep_jobs t told exp (command.BlockdevAdd c) rests (record { stand = j; run = r }) h refl).stand)
  accepted_goes (command.BlockdevDel name) h = by_edges (command.BlockdevDel name) refl h (del_take t (node_named t name))
  accepted_goes (command.DeviceAdd c) h =
      let asks = none-holds t told (asks_of (command.DeviceAdd c)) (met (command.DeviceAdd c) h).asks in
      goes_by (command.DeviceAdd c) refl h (device_targets t told exp j r c asks.1.1.1.1.1.1.1.0 (node_named t c.drive) refl)
  accepted_goes (command.DeviceDel id) h = by_edges (command.DeviceDel id) refl h (device_gone_take (device_named t id))
  accepted_goes (command.BlockdevSnapshot c) h = goes_by (command.BlockdevSnapshot c) refl h (tt, (tt, tt))
  accepted_goes (command.BlockStream c) h = stream_goes t told c rests.stands j r (met (command.BlockStream c) h) g
  accepted_goes (command.BlockCommit c) h = commit_goes t told c rests.stands j r d (met (command.BlockCommit c) h) g
  accepted_goes (command.BlockdevMirror c) h = mirror_goes t told c rests.stands j r d (met (command.BlockdevMirror c) h) g
  accepted_goes (command.BlockdevBackup c) h = backup_goes t told c rests.stands j r (met (command.BlockdevBackup c) h) g
  accepted_goes (command.BlockJobCancel job force) h = asked_goes t job (asked_by_cancel (flag_or_false force)) rests.stands j g
  accepted_goes (command.BlockJobComplete job) h = asked_goes t job (λ row. asked.Complete) rests.stands j g
  accepted_goes command.QueryBlockJobs h = g
  accepted_goes (command.QueryNamedBlockNodes flat) h = g
  accepted_goes (command.BitmapAdd c) h = by_edges (command.BitmapAdd c) refl h (tt, tt)
  accepted_goes (command.BitmapRemove c) h = by_edges (command.BitmapRemove c) refl h (tt, tt)
  accepted_goes (command.BitmapClear c) h = by_edges (command.BitmapClear c) refl h (tt, tt)
  accepted_goes (command.BitmapEnable c) h = by_edges (command.BitmapEnable c) refl h (tt, tt)
  accepted_goes (command.BitmapDisable c) h = by_edges (command.BitmapDisable c) refl h (tt, tt)
  accepted_goes (command.BitmapMerge c) h = by_edges (command.BitmapMerge c) refl h (merges_take t c.node c.target c.bitmaps)
  accepted_goes (command.Transaction c) h = absurd (let known = built (command.Transaction c) h in cc known)
