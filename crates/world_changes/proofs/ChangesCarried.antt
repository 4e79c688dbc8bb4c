-- An accepted command that leaves the nodes: what is left of the world once its changes are made.
use Rattle.std.proofs.Common.{◌≡◌, ℕ, true, false, List, length, refl, sym, ◌∙◌, ap, subst, None}
use Rattle.std.specs.Prelude.{find, is_some, option_and_then, ◌==◌}
use Rattle.std.proofs.lemmas.Bool.{false≢true}
use Rattle.blk_base.specs.declared.file.Opened.{Opened}
use Rattle.blk_bitmaps.specs.declared.row.Bitmap.{Bitmap}
use Rattle.blk_graph.specs.Graph.{IsFit}
use Rattle.qmp_codec.specs.Commands.{Cmd}
use Rattle.qmp_codec.specs.declared.command.Command.TheVariants as command
use Rattle.qmp_rules.specs.Answers.{Answer, answer, command_edits, refusal_to, told_none}
use Rattle.qmp_rules.specs.Changes.{all_changed}
use Rattle.qmp_rules.specs.Table.{RunTable}
use Rattle.qmp_rules.specs.declared.change.Change.{Change}
use Rattle.qmp_rules.specs.declared.rows.NodeRecord.{NodeRecord}
use Rattle.qmp_rules.specs.declared.told.Told.{Told}
use Rattle.flat_machine.specs.Bitmaps.{AreBitmapsOf, FollowChanges}
use Rattle.flat_machine.specs.Marks.{AreCalm, drained_by}
use Rattle.flat_machine.specs.Performing.{AllPerformed}
use Rattle.flat_machine.specs.State.{State, filename_of}
use Rattle.flat_machine.specs.Wiring.{TableAtRest}
use Rattle.flat_machine.specs.declared.opening.Opening.{Opening}
use Rattle.flat_machine.proofs.TableRests.{command_rests}
use Rattle.blk_nodes.specs.Contents.{disk_of}
use Rattle.blk_nodes.specs.Joined.{IsJoined}
use Rattle.blk_nodes.specs.Nodes.{Nodes}
use Rattle.blk_nodes.specs.Rewiring.{AreReadings}
use Rattle.world_parts.specs.Carrying.{FitsAll, IsCarried, IsCarriedIn, OpensFor, StopsByFiles, prints_counts}
use Rattle.world_parts.specs.Coherent.{IsCoherent, IsWholeWorld}
use Rattle.world_parts.specs.Comes.{ShowsState}
use Rattle.world_parts.specs.Face.{WorldSeen, contents_of}
use Rattle.world_parts.specs.Handling.{IsRewired}
use Rattle.world_parts.specs.Leaving.{Leaves, clean_told}
use Rattle.world_parts.specs.Looking.{site}
use Rattle.world_parts.specs.Recorded.{AreAfter}
use Rattle.world_parts.specs.Staging.{site_of}
use Rattle.world_parts.proofs.BitmapsLeft.{left-follow}
use Rattle.world_parts.proofs.CountLemmas.{runs-devices, same-devices}
use Rattle.world_parts.proofs.CountsKept.{hides-same}
use Rattle.world_parts.proofs.DisksKept.{as_in}
use Rattle.world_parts.proofs.GuestsKept.{guests_stand}
use Rattle.world_parts.proofs.JobsAnswered.{begins_not, drains_kept, jobs_kept}
use Rattle.world_parts.proofs.NodesRewired.{nodes_rewired, same_rewired}
use Rattle.world_parts.proofs.Placed.{answer-is}
use Rattle.world_parts.proofs.Accepted.{built_accepted}
use Rattle.world_changes.specs.Changing.{TellsMappedAlone, is_change, is_snapshot}
use Rattle.world_changes.proofs.BitmapsChanged.{after-follow}
use Rattle.world_changes.proofs.CarryTables.{alone-performed, table-edits}
use Rattle.world_changes.proofs.ChangesMade.{IsAfter, after_command, performed_added, performed_gone, performed_made, quiet_same}
use Rattle.world_changes.proofs.ChangesReady.{starts_none}
use Rattle.world_changes.proofs.DeviceAdded.{table_is}
use Rattle.world_changes.proofs.SnapshotTold.{told_so}

-- ---- what is so of each such command

pub silent : (c : Cmd) → is_change c ≡ true → prints_counts c ≡ false
silent (command.QueryNamedBlockNodes flat) is = absurd cc
silent _ is = refl

pub opens_none : (c : Cmd) → is_change c ≡ true → (opened : List Opened) → OpensFor c opened opened
opens_none (command.BlockdevAdd c) is opened = absurd cc
opens_none _ is opened = refl

pub fits_ever : (w : WorldSeen) (c : Cmd) → is_change c ≡ true → FitsAll w c
fits_ever w (command.BlockdevCreate c) is = absurd cc
fits_ever w _ is = λ dev called passes. passes

pub stops_not : (t : RunTable) (nodes : Nodes) (c : Cmd) (told : Told) → TellsMappedAlone t nodes c told → told.stopped ≡ None
stops_not t nodes c told tells = ap (λ (x : Told). x.stopped) tells.rest

-- its bitmaps are what its changes make of them
module _ (t : RunTable) (told : Told) (old now : List Bitmap) (was : AreBitmapsOf t.bitmaps old) where
  abbrev Follows : Told → Cmd → Type 0
  Follows x c = FollowChanges t old now (command_edits t x c)

  of_bitmaps : (c : Cmd) → (told ≡ told_none) → refusal_to t told c ≡ None → (refusal_to t told_none c ≡ None → Follows told_none c) → Follows told c
  of_bitmaps c same none follows =
      subst (λ (x : Told). Follows x c) (sym same) (follows (subst (λ (x : Told). refusal_to t x c ≡ None) same none))

  kept : (c : Cmd) → refusal_to t told c ≡ None → now ≡ old → FollowChanges t old old (answer t told c).changes → Follows told c
  kept c none same follows =
      subst (λ (rows : List Bitmap). FollowChanges t old rows (command_edits t told c)) (sym same)
      (subst (FollowChanges t old old) (ap (λ (a : Answer). a.changes) (answer-is t told c None none)) follows)

  follow_command : (c : Cmd) → is_change c ≡ true → (is_snapshot c ≡ false → told ≡ told_none) → refusal_to t told c ≡ None → AreAfter t c old now → Follows told c
  follow_command (command.BlockdevDel name) is untold none after = absurd cc
  follow_command (command.BlockdevBackup c) is untold none after = absurd cc
  follow_command (command.BlockdevMirror c) is untold none after = absurd cc
  follow_command (command.BitmapAdd c) is untold none after =
      of_bitmaps (command.BitmapAdd c) (untold refl) none (λ n. after-follow t old now (command.BitmapAdd c) was refl n after)
  follow_command (command.BitmapRemove c) is untold none after =
      of_bitmaps (command.BitmapRemove c) (untold refl) none (λ n. after-follow t old now (command.BitmapRemove c) was refl n after)
  follow_command (command.BitmapClear c) is untold none after =
      of_bitmaps (command.BitmapClear c) (untold refl) none (λ n. after-follow t old now (command.BitmapClear c) was refl n after)
  follow_command (command.BitmapEnable c) is untold none after =
      of_bitmaps (command.BitmapEnable c) (untold refl) none (λ n. after-follow t old now (command.BitmapEnable c) was refl n after)
  follow_command (command.BitmapDisable c) is untold none after =
      of_bitmaps (command.BitmapDisable c) (untold refl) none (λ n. after-follow t old now (command.BitmapDisable c) was refl n after)
  follow_command (command.BitmapMerge c) is untold none after =
      of_bitmaps (command.BitmapMerge c) (untold refl) none (λ n. after-follow t old now (command.BitmapMerge c) was refl n after)
  follow_command c is untold none after = kept c none after.are (left-follow t told c old refl was)

module _ (w : WorldSeen) (whole : IsWholeWorld w) (joined : IsJoined w.nodes) (c : Cmd) (is : is_change c ≡ true) (told : Told)
    (tells : TellsMappedAlone w.table w.nodes c told) (none : refusal_to w.table told c ≡ None) (calm : AreCalm w.table w.progress.guests (drained_by w.table c))
    (u : RunTable) (table : u ≡ all_changed w.table (command_edits w.table told c)) (after : IsJoined (as_in u w.nodes))
    (reads : (reads : ℕ → List ℕ) → AreReadings (as_in u w.nodes) reads → (node : ℕ) → disk_of (as_in u w.nodes) node ≡ reads node)
    (b : List Bitmap) (recorded : AreAfter w.table c w.bitmaps b) where
  abbrev nodes : Nodes
  nodes = as_in u w.nodes

  abbrev v : WorldSeen
  v = record w { nodes = nodes; table = u; bitmaps = b }

  abbrev t : RunTable
  t = w.table

  abbrev was : IsCoherent w.table w.nodes w.opened w.progress
  was = whole.coherent

  put : IsRewired u w.nodes nodes
  put = record { are = refl; reads = reads }

  made : IsAfter t u w.progress.guests
  made =
      subst (λ (x : RunTable). IsAfter t x w.progress.guests) (sym table)
      (after_command t was.table.stands w.progress.guests told nodes.graph c is tells.none none calm
      (subst (λ (x : RunTable). IsFit nodes.graph x.edges) table after.sound.fit))

  same_filename : (id : ℕ) → filename_of u id ≡ filename_of t id
  same_filename id = ap (option_and_then (λ (r : NodeRecord). r.filename)) (ap (find (λ (r : NodeRecord). r.id == id)) made.rows)

  pub changed_coherent : IsCoherent u nodes w.opened w.progress
  changed_coherent =
      let stands = made.stand (guests_stand t w.nodes w.opened w.progress was) in
      record {
        table = subst TableAtRest (sym table) (command_rests t told told c (begins_not t c (starts_none t c is (built_accepted t told c none))) was.table none).1;
        drives = stands.drives;
        disks = stands.disks;
        alike = nodes_rewired t u w.nodes was.alike was.table.stands.apart joined made.rows;
        asks = stands.asks;
        writable = stands.writable;
        within = stands.within;
        allowed = stands.allowed;
        count = was.count ∙ ap length (sym made.names);
        out = record {
          each = λ d held.
              let out = was.out.each d held in
              record { opening = out.opening; there = out.there; out = out.out; named = same_filename d.node ∙ out.named; capacity = out.capacity; faults = out.faults };
          once = was.out.once;
          order = was.out.order;
          all = was.out.all;
          names = was.out.names;
        };
      }

  -- ---- nodes and files

  untold : is_snapshot c ≡ false → refusal_to t told_none c ≡ None
  untold other = subst (λ (x : Told). refusal_to t x c ≡ None) (tells.none other) none

  module _ (s : State) (some : is_some w.files ≡ true) where
    abbrev Done : Told → Cmd → Type 0
    Done x c = AllPerformed s (command_edits t x c) (contents_of w) (contents_of v)

    performed_by : (c : Cmd) → is_change c ≡ true → TellsMappedAlone t w.nodes c told → refusal_to t told c ≡ None
        → u ≡ all_changed t (command_edits t told c) → Done told c
    performed_by (command.BlockdevAdd c) is tells none table = absurd cc
    performed_by (command.BlockdevCreate c) is tells none table = absurd cc
    performed_by (command.BlockdevDel name) is tells none table = absurd cc
    performed_by (command.BlockdevSnapshot c) is tells none table = performed_made w whole joined u nodes put made.rows s c told none table tells some
    performed_by (command.DeviceAdd c) is tells none table =
        let same = tells.none refl in
        let none' : refusal_to t told_none (command.DeviceAdd c) ≡ None = subst (λ (x : Told). refusal_to t x (command.DeviceAdd c) ≡ None) same none in
        subst (λ (x : Told). Done x (command.DeviceAdd c)) (sym same)
        (performed_added w whole joined u nodes put made.rows s c none'
        (table ∙ ap (λ (x : Told). all_changed t (command_edits t x (command.DeviceAdd c))) same ∙ table_is t was.table.stands c none'))
    performed_by (command.DeviceDel id) is tells none table =
        let same = tells.none refl in
        subst (λ (x : Told). Done x (command.DeviceDel id)) (sym same)
        (performed_gone w whole joined u nodes put made.rows s id (subst (λ (x : Told). refusal_to t x (command.DeviceDel id) ≡ None) same none)
        (table ∙ ap (λ (x : Told). all_changed t (command_edits t x (command.DeviceDel id))) same))
    performed_by (command.BlockdevBackup c) is tells none table = absurd cc
    performed_by (command.BlockdevMirror c) is tells none table = absurd cc
    performed_by c is tells none table =
        let same = tells.none refl in
        let built = built_accepted t told c none in
        let shape = table-edits t c refl built u (table ∙ ap (λ (x : Told). all_changed t (command_edits t x c)) same) in
        subst (λ (x : Told). Done x c) (sym same)
        (alone-performed s c (contents_of w) (contents_of v) refl built (quiet_same w whole joined u nodes put made.rows s shape.edges) t)

    performed : Done told c
    performed = performed_by c is tells none table

  left : Leaves t (clean_told told) c None u (site_of w) (site_of v)
  left = by_command c is tells none table
    where
      by_command : (c : Cmd) → is_change c ≡ true → TellsMappedAlone t w.nodes c told → refusal_to t told c ≡ None
          → u ≡ all_changed t (command_edits t told c) → Leaves t (clean_told told) c None u (site_of w) (site_of v)
      by_command (command.BlockdevAdd c) is tells none table = absurd cc
      by_command (command.BlockdevCreate c) is tells none table = absurd cc
      by_command (command.BlockdevDel name) is tells none table = absurd cc
      by_command (command.BlockdevSnapshot c) is tells none table = (refl, put)
      by_command (command.DeviceAdd c) is tells none table = (refl, put)
      by_command (command.DeviceDel id) is tells none table = (refl, put)
      by_command (command.BlockdevBackup c) is tells none table = absurd cc
      by_command (command.BlockdevMirror c) is tells none table = absurd cc
      by_command c is tells none table =
          let same = tells.none refl in
          let shape = table-edits t c refl (built_accepted t told c none) u (table ∙ ap (λ (x : Told). all_changed t (command_edits t x c)) same) in
          ap (λ (n : Nodes). site (site_of w).store n)
          (same_rewired t u w.nodes was.alike was.table.stands.apart joined after shape.nodes shape.edges)

  -- ---- the whole

  answer_is : (answer t told c).changes ≡ command_edits t told c
  answer_is = ap (λ (a : Answer). a.changes) (answer-is t told c None none)

  shown : is_some w.files ≡ true → (o : Opening) (s : State) → ShowsState o s w → IsCarriedIn s w v c told
  shown some o s shows =
      told_so w whole joined c is told tells o s some shows v
      (subst (λ (changes : List Change). AllPerformed s changes (contents_of w) (contents_of v)) (sym answer_is) (performed s some))

  pub changed_carried : (carried : IsCarried w v c None) × (carried.told ≡ told)
  changed_carried =
      let carried : IsCarried w v c None = record {
        told = told;
        counts = λ prints. absurd (false≢true (sym (silent c is) ∙ prints));
        by_files = subst StopsByFiles (sym (stops_not t w.nodes c told tells)) tt;
        maps = tells.maps;
        answered = none;
        table = table ∙ sym (ap (all_changed t) answer_is);
        progress = refl;
        drains = refl;
        works = refl;
        runs = runs-devices w v refl refl refl refl refl refl (same-devices w.nodes.devices);
        hides = hides-same w v refl refl refl;
        opens = opens_none c is w.opened;
        site = left;
        cause = fits_ever w c is;
        calm = λ accepted. calm;
        coherent = λ before. changed_coherent;
        shows = shown;
      } in
      (carried, refl)

  pub changed_follows : FollowChanges t w.bitmaps b (answer t told c).changes
  changed_follows =
      subst (FollowChanges t w.bitmaps b) (sym answer_is) (follow_command t told w.bitmaps b whole.bitmaps c is tells.none none recorded)

  pub changed_whole : IsWholeWorld v
  changed_whole = record {
    coherent = changed_coherent;
    tell = whole.tell;
    counted = whole.counted;
    bitmaps = subst (λ (x : RunTable). AreBitmapsOf x.bitmaps b) (sym (table ∙ sym (ap (all_changed t) answer_is))) changed_follows.listed;
    jobs = jobs_kept w whole joined c told u (λ accepted. starts_none t c is (built_accepted t told c accepted)) (table ∙ sym (ap (all_changed t) answer_is));
    drains = drains_kept w whole joined c told u (λ accepted. starts_none t c is (built_accepted t told c accepted)) (table ∙ sym (ap (all_changed t) answer_is));
  }
