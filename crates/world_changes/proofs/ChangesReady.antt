-- A command that leaves which nodes there are, and that nothing refuses: the nodes may take the kinds and edges of the table that it leaves.
use Rattle.std.proofs.Common.{◌≡◌, ℕ, Bool, true, false, not, List, [], ◌∷◌, ◌++◌, refl, sym, ap, subst, Option, Some, None}
use Rattle.std.specs.Prelude.{if◌then◌else◌, filter, option_map}
use Rattle.blk_graph.specs.declared.edge.Edge.{Edge}
use Rattle.blk_graph.specs.declared.edge.Parent.TheVariants.{Guest as GuestOf}
use Rattle.blk_graph.specs.declared.kind.NodeKind.{NodeKind}
use Rattle.blk_graph.specs.Edges.{same_parent}
use Rattle.blk_graph.specs.Refreshed.{IsRefreshed, refreshed}
use Rattle.blk_graph.specs.Rule.{KeepsPermissions}
use Rattle.blk_graph.proofs.EaseLemmas.{agree-pairs, eased_filter, eased_pairs, eased_refreshed, pairs-agree}
use Rattle.blk_graph.proofs.RuleLemmas.{None-from_KeepsPermissions}
use Rattle.qmp_asks.specs.CommandAsks.{asks_of, is_built, negotiates}
use Rattle.qmp_codec.specs.Commands.{Cmd, SeenSources}
use Rattle.qmp_codec.specs.declared.command.Command.TheVariants as command
use Rattle.qmp_codec.specs.declared.nodes.DeviceAdd.{DeviceAdd}
use Rattle.qmp_rules.specs.Answers.{command_edits, conflict_in, conflict_refusal, out_of_turn, refusal_behind, refusal_to, unbuilt, told_none}
use Rattle.qmp_rules.specs.Asks.{first_unmet_ask, is_file}
use Rattle.qmp_rules.specs.Changes.{all_changed, changed}
use Rattle.qmp_rules.specs.Edits.{asked_by_cancel, device_uses, edits_of, file_uses, merges, new_device, node_ids, of_row}
use Rattle.qmp_rules.specs.Fitting.{AllChangesFit}
use Rattle.qmp_rules.specs.Table.{RunTable, device_named, job_named, kinds_of, node_named}
use Rattle.qmp_rules.specs.declared.rows.AskedEnd.{AskedEnd}
use Rattle.qmp_rules.specs.declared.rows.AskedEnd.TheVariants as asked
use Rattle.qmp_rules.specs.declared.rows.JobRecord.{JobRecord}
use Rattle.qmp_asks.specs.Values.{flag_or_false}
use Rattle.world_parts.proofs.JobsAnswered.{StartsNoJob, begins_not}
use Rattle.qmp_rules.specs.declared.change.Change.{Change}
use Rattle.qmp_rules.specs.declared.change.Change.TheVariants as change
use Rattle.qmp_rules.specs.declared.rows.DeviceRow.{DeviceRow}
use Rattle.qmp_rules.specs.declared.rows.NodeRecord.{NodeRecord}
use Rattle.qmp_rules.specs.declared.told.Told.{Told}
use Rattle.flat_machine.specs.Rewiring.{AllKeepNodes}
use Rattle.flat_machine.specs.Wiring.{TableAtRest}
use Rattle.flat_machine.proofs.Asked.{none-both}
use Rattle.flat_machine.proofs.TableRests.{command_rests}
use Rattle.blk_nodes.specs.Joined.{IsJoined}
use Rattle.blk_nodes.specs.Nodes.{Nodes}
use Rattle.blk_nodes.specs.Rewiring.{IsWiring}
use Rattle.world_parts.specs.Coherent.{AreNodesOf}
use Rattle.world_parts.proofs.Accepted.{built_accepted}
use Rattle.world_parts.proofs.Rewirings.{changes_wiring}
use Rattle.world_parts.proofs.TableKinds.{kinds_alike}
use Rattle.world_changes.specs.Changing.{is_change}
use Rattle.world_changes.proofs.CarryTables.{table-edits}

-- ---- none of its changes adds or drops a node

keep-both : (xs ys : List Change) → AllKeepNodes xs → AllKeepNodes ys → AllKeepNodes (xs ++ ys)
keep-both [] ys first later = later
keep-both (x ∷ xs) ys first later = (first.0, keep-both xs ys first.1 later)

merges-keep : (t : RunTable) (node target : List ℕ) (sources : SeenSources) → AllKeepNodes (merges t node target sources)
merges-keep t node target [] = tt
merges-keep t node target (s ∷ sources) = (refl, merges-keep t node target sources)

module _ (t : RunTable) (told : Told) where
  device-keep : (c : DeviceAdd (List ℕ)) (found : Option NodeRecord)
      → AllKeepNodes (of_row (λ row. device_uses row ++ change.AddDevice (new_device t c row) row.id ∷ []) found)
  device-keep c None = tt
  device-keep c (Some row) = keep-both (device_uses row) (change.AddDevice (new_device t c row) row.id ∷ []) (used (is_file row)) (refl, tt)
    where
      uses : (name : Option (List ℕ)) → AllKeepNodes (file_uses name)
      uses None = tt
      uses (Some name) = (refl, tt)

      used : (b : Bool) → AllKeepNodes (if b then file_uses row.filename else [])
      used true = uses row.filename
      used false = tt

  gone-keep : (found : Option DeviceRow)
      → AllKeepNodes (elim found as (λ _. List Change) [ None ↦ [] | Some device ↦ change.RemoveDevice device.number ∷ [] ])
  gone-keep None = tt
  gone-keep (Some device) = (refl, tt)

  asked-keep : (ask : JobRecord → AskedEnd) (found : Option JobRecord)
      → AllKeepNodes (elim found as (λ _. List Change) [ None ↦ [] | Some job ↦ change.AskJob job.number (ask job) ∷ [] ])
  asked-keep ask None = tt
  asked-keep ask (Some job) = (refl, tt)

  pub edits_keep : (c : Cmd) → is_change c ≡ true → is_built c ≡ true → AllKeepNodes (command_edits t told c)
  unfolding edits_of
  edits_keep (command.BlockdevAdd c) is built = absurd cc
  edits_keep (command.BlockdevCreate c) is built = absurd cc
  edits_keep (command.BlockdevDel name) is built = absurd cc
  edits_keep (command.BlockdevBackup c) is built = absurd cc
  edits_keep (command.QueryNamedBlockNodes flat) is built = absurd cc
  edits_keep (command.Capabilities enable) is built = (refl, tt)
  edits_keep (command.JobDismiss id) is built = (refl, tt)
  edits_keep (command.DeviceAdd c) is built = device-keep c (node_named t c.drive)
  edits_keep (command.DeviceDel id) is built = gone-keep (device_named t id)
  edits_keep (command.BlockdevSnapshot c) is built = (refl, (refl, tt))
  edits_keep (command.BlockJobCancel id force) is built = asked-keep (asked_by_cancel (flag_or_false force)) (job_named t id)
  edits_keep (command.BlockJobComplete id) is built = asked-keep (λ job. asked.Complete) (job_named t id)
  edits_keep command.QueryBlockJobs is built = tt
  edits_keep (command.BitmapAdd c) is built = (refl, tt)
  edits_keep (command.BitmapRemove c) is built = (refl, tt)
  edits_keep (command.BitmapClear c) is built = (refl, tt)
  edits_keep (command.BitmapEnable c) is built = (refl, tt)
  edits_keep (command.BitmapDisable c) is built = (refl, tt)
  edits_keep (command.BitmapMerge c) is built = merges-keep t c.node c.target c.bitmaps
  edits_keep _ is built = absurd cc

-- those that begin a job are not carried out so
pub starts_none : (t : RunTable) (c : Cmd) → is_change c ≡ true → is_built c ≡ true → StartsNoJob t c
starts_none t (command.Transaction c) is built = absurd cc
starts_none t (command.BlockStream c) is built = absurd cc
starts_none t (command.BlockCommit c) is built = absurd cc
starts_none t (command.BlockdevMirror c) is built = absurd cc
starts_none t (command.BlockdevBackup c) is built = absurd cc
starts_none t _ is built = record { one = tt; none = refl }

-- they are the same whatever is told
pub edits_untold : (t : RunTable) (told : Told) (c : Cmd) → is_change c ≡ true → command_edits t told c ≡ command_edits t told_none c
unfolding edits_of
edits_untold t told (command.BlockdevAdd c) is = absurd cc
edits_untold t told (command.BlockdevCreate c) is = absurd cc
edits_untold t told (command.BlockdevDel name) is = absurd cc
edits_untold t told _ is = refl

-- ---- its edges keep the rule on permissions

no_conflict : (u : RunTable) → KeepsPermissions u.edges → conflict_in u ≡ None
unfolding conflict_in
no_conflict u rule = ap (option_map (conflict_refusal u)) (None-from_KeepsPermissions (node_ids u) u.edges rule)

-- fewer edges
fewer_keep : (kinds : List NodeKind) (edges : List Edge) (p : Edge → Bool) → IsRefreshed kinds edges → KeepsPermissions edges
    → KeepsPermissions (refreshed kinds (filter p edges))
fewer_keep kinds edges p derived rule =
    pairs-agree (refreshed kinds (filter p edges))
    (eased_pairs (refreshed kinds (filter p edges)) edges (eased_refreshed kinds (filter p edges) edges derived (eased_filter p edges)) (agree-pairs edges rule))

module _ (t : RunTable) (told : Told) (c : Cmd) (none : refusal_to t told c ≡ None) where
  pub behind : refusal_behind t told c ≡ None
  unfolding refusal_to
  behind =
      let built = none-both (unbuilt c) _ none in
      let turn = none-both (out_of_turn (negotiates c) t.negotiated) _ built.1 in
      (none-both (first_unmet_ask t told (asks_of c)) (refusal_behind t told c) turn.1).1

module _ (t : RunTable) (told : Told) (rule : KeepsPermissions t.edges) (derived : IsRefreshed (kinds_of t.nodes) t.edges) where
  gone_rule : (found : Option DeviceRow)
      → conflict_in (all_changed t (elim found as (λ _. List Change) [ None ↦ [] | Some device ↦ change.RemoveDevice device.number ∷ [] ])) ≡ None
  unfolding changed
  gone_rule None = no_conflict t rule
  gone_rule (Some device) =
      no_conflict (changed t (change.RemoveDevice device.number))
      (fewer_keep (kinds_of t.nodes) t.edges (λ (e : Edge). not (same_parent e.parent (GuestOf device.number))) derived rule)

  by_command : (c : Cmd) → is_change c ≡ true → is_built c ≡ true → refusal_behind t told c ≡ None
      → conflict_in (all_changed t (command_edits t told_none c)) ≡ None
  unfolding edits_of
  by_command (command.BlockdevAdd c) is built after = absurd cc
  by_command (command.BlockdevCreate c) is built after = absurd cc
  by_command (command.BlockdevDel name) is built after = absurd cc
  by_command (command.DeviceAdd c) is built after = after
  by_command (command.BlockdevSnapshot c) is built after = after
  by_command (command.DeviceDel id) is built after = gone_rule (device_named t id)
  by_command (command.BlockdevBackup c) is built after = absurd cc
  by_command (command.BlockdevMirror c) is built after = absurd cc
  by_command c is built after =
      let shape = table-edits t c refl built (all_changed t (command_edits t told_none c)) refl in
      no_conflict (all_changed t (command_edits t told_none c)) (subst KeepsPermissions (sym shape.edges) rule)

  pub edits_rule : (c : Cmd) → is_change c ≡ true → refusal_to t told c ≡ None → conflict_in (all_changed t (command_edits t told c)) ≡ None
  edits_rule c is none =
      subst (λ (changes : List Change). conflict_in (all_changed t changes) ≡ None) (sym (edits_untold t told c is))
      (by_command c is (built_accepted t told c none) (behind t told c none))

-- ---- the nodes may take them

pub accepted_wiring : (t : RunTable) (nodes : Nodes) (told : Told) (c : Cmd) → is_change c ≡ true → TableAtRest t → AreNodesOf t nodes → IsJoined nodes
    → refusal_to t told c ≡ None → AllChangesFit t (command_edits t told c)
    → IsWiring nodes (kinds_of (all_changed t (command_edits t told c)).nodes) (all_changed t (command_edits t told c)).edges
accepted_wiring t nodes told c is rests alike joined none fit =
    changes_wiring t nodes rests.stands alike joined (command_edits t told c) (edits_keep t told c is (built_accepted t told c none))
    (command_rests t told told c (begins_not t c (starts_none t c is (built_accepted t told c none))) rests none).0 fit (edits_rule t told rule derived c is none)
  where
    rule : KeepsPermissions t.edges
    rule = subst KeepsPermissions alike.edges joined.sound.just.rule

    derived : IsRefreshed (kinds_of t.nodes) t.edges
    derived =
        subst (λ (ks : List NodeKind). IsRefreshed ks t.edges) (sym (kinds_alike t nodes joined rests.stands.apart alike.rows))
        (subst (IsRefreshed nodes.graph.kinds) alike.edges joined.sound.just.refreshed)
