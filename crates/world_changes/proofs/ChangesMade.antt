-- What the changes of an accepted command, which leaves the nodes, make of the table and of guests by it, and what they do to nodes and files.
use Rattle.std.proofs.Common.{◌≡◌, ℕ, true, false, List, [], ◌∷◌, refl, sym, ◌∙◌, ap, subst, Option, Some, None}
use Rattle.std.specs.Prelude.{Contains, find, is_some, option_map}
use Rattle.std.proofs.lemmas.Bool.{eq-eqb, ne_eqb}
use Rattle.blk_graph.specs.declared.edge.Edge.{Edge}
use Rattle.blk_graph.specs.Graph.{Graph, IsFit}
use Rattle.qmp_codec.specs.Commands.{Cmd}
use Rattle.qmp_codec.specs.declared.command.Command.TheVariants as command
use Rattle.qmp_codec.specs.declared.nodes.DeviceAdd.{DeviceAdd}
use Rattle.qmp_codec.specs.declared.nodes.Snapshot.{Snapshot}
use Rattle.qmp_rules.specs.Answers.{command_edits, refusal_to, told_none}
use Rattle.qmp_rules.specs.Asks.{stands_for}
use Rattle.qmp_rules.specs.Changes.{all_changed, changed}
use Rattle.qmp_rules.specs.Table.{RunTable, kinds_of}
use Rattle.qmp_rules.specs.declared.change.Change.{Change}
use Rattle.qmp_rules.specs.declared.change.Change.TheVariants.{AddDevice, RemoveDevice}
use Rattle.qmp_rules.specs.declared.rows.NodeRecord.{NodeRecord}
use Rattle.qmp_rules.specs.declared.told.Told.{Told}
use Rattle.flat_machine.specs.Marks.{AreCalm, drained_by}
use Rattle.flat_machine.specs.Performing.{AllPerformed, IsQuiet, Puts}
use Rattle.flat_machine.specs.State.{Guest, State}
use Rattle.flat_machine.specs.Wiring.{TableStands}
use Rattle.blk_nodes.specs.Contents.{disk_of}
use Rattle.blk_nodes.specs.Covering.{IsClear}
use Rattle.blk_nodes.specs.Joined.{IsJoined}
use Rattle.blk_nodes.specs.Nodes.{Nodes}
use Rattle.blk_nodes.specs.Rewiring.{rewired, AreChildrenKept, AreReadings}
use Rattle.blk_nodes.proofs.Rewired.{readings_kept}
use Rattle.world_parts.specs.Coherent.{IsWholeWorld}
use Rattle.world_parts.specs.Face.{WorldSeen, contents_of, held_in_file, node_over}
use Rattle.world_parts.specs.Guests.{GuestsStand}
use Rattle.world_parts.specs.Handling.{IsRewired}
use Rattle.world_parts.proofs.Accepted.{built_accepted}
use Rattle.world_parts.proofs.CarryPlain.{quiet-self}
use Rattle.world_parts.proofs.DisksKept.{GoWith, go_first, go_readings, put_at}
use Rattle.world_parts.proofs.GuestsKept.{guests_added, guests_left, guests_same}
use Rattle.world_parts.proofs.Placed.{performed_used, table_with_use}
use Rattle.world_changes.specs.Changing.{TellsMappedAlone, is_change, is_snapshot}
use Rattle.world_changes.proofs.CarryTables.{table-edits}
use Rattle.world_changes.proofs.DeviceAdded as added
use Rattle.world_changes.proofs.DeviceGone as gone
use Rattle.world_changes.proofs.SnapshotMade as made

-- nodes and guests' names stay, and what is so of guests
pub record IsAfter (t u : RunTable) (guests : List Guest) : Type 0 where
  pub rows : u.nodes ≡ t.nodes
  pub names : u.guests ≡ t.guests
  pub stand : GuestsStand t guests → GuestsStand u guests

-- ---- the table

module _ (t : RunTable) (h : TableStands t) (guests : List Guest) (told : Told) (graph : Graph) where
  device_added : (c : DeviceAdd (List ℕ)) → refusal_to t told_none (command.DeviceAdd c) ≡ None
      → IsFit graph (all_changed t (command_edits t told_none (command.DeviceAdd c))).edges
      → IsAfter t (all_changed t (command_edits t told_none (command.DeviceAdd c))) guests
  device_added c none fit =
      let is : all_changed t (command_edits t told_none (command.DeviceAdd c)) ≡ added.table_then t h c none = added.table_is t h c none in
      subst (λ (u : RunTable). IsAfter t u guests) (sym is) (record {
        rows = (added.is_with t h c none).rows;
        names = added.guests_kept t h c none;
        stand = guests_added t (added.table_then t h c none) (added.device t h c none) (added.row t h c none).id (added.is_with t h c none)
            (added.is_on_disk t h c none) h graph (subst (λ (u : RunTable). IsFit graph u.edges) is fit) guests;
      })

  device_gone : (id : List ℕ) → refusal_to t told_none (command.DeviceDel id) ≡ None → AreCalm t guests (drained_by t (command.DeviceDel id))
      → IsAfter t (all_changed t (command_edits t told_none (command.DeviceDel id))) guests
  unfolding changed
  device_gone id none calm =
      let at = gone.device_there t id none in
      subst (λ (changes : List Change). IsAfter t (all_changed t changes) guests) (sym (gone.edits t id at.device at.named)) (record {
        rows = refl;
        names = refl;
        stand = λ was.
            guests_left t (changed t (RemoveDevice at.device.number)) at.device.number refl refl refl h guests (gone.idle t id at.device at.named guests was calm) was;
      })

  snapshot_made : (c : Snapshot (List ℕ)) → refusal_to t told (command.BlockdevSnapshot c) ≡ None
      → IsAfter t (all_changed t (command_edits t told (command.BlockdevSnapshot c))) guests
  snapshot_made c none =
      subst (λ (u : RunTable). IsAfter t u guests) (sym (made.table_is t h c told none)) (record {
        rows = refl;
        names = refl;
        stand = made.guests_then t h c told none guests;
      })

  pub after_command : (c : Cmd) → is_change c ≡ true → (is_snapshot c ≡ false → told ≡ told_none) → refusal_to t told c ≡ None
      → AreCalm t guests (drained_by t c) → IsFit graph (all_changed t (command_edits t told c)).edges
      → IsAfter t (all_changed t (command_edits t told c)) guests
  after_command (command.BlockdevAdd c) is untold none calm fit = absurd cc
  after_command (command.BlockdevCreate c) is untold none calm fit = absurd cc
  after_command (command.BlockdevDel name) is untold none calm fit = absurd cc
  after_command (command.BlockdevSnapshot c) is untold none calm fit = snapshot_made c none
  after_command (command.DeviceAdd c) is untold none calm fit =
      let same : told ≡ told_none = untold refl in
      subst (λ (x : Told). IsAfter t (all_changed t (command_edits t x (command.DeviceAdd c))) guests) (sym same)
      (device_added c (subst (λ (x : Told). refusal_to t x (command.DeviceAdd c) ≡ None) same none)
      (subst (λ (x : Told). IsFit graph (all_changed t (command_edits t x (command.DeviceAdd c))).edges) same fit))
  after_command (command.DeviceDel id) is untold none calm fit =
      let same : told ≡ told_none = untold refl in
      subst (λ (x : Told). IsAfter t (all_changed t (command_edits t x (command.DeviceDel id))) guests) (sym same)
      (device_gone id (subst (λ (x : Told). refusal_to t x (command.DeviceDel id) ≡ None) same none) calm)
  after_command (command.BlockdevBackup c) is untold none calm fit = absurd cc
  after_command (command.BlockdevMirror c) is untold none calm fit = absurd cc
  after_command c is untold none calm fit =
      let same : told ≡ told_none = untold refl in
      let shape = table-edits t c refl (built_accepted t told c none) (all_changed t (command_edits t told c)) (ap (λ (x : Told). all_changed t (command_edits t x c)) same) in
      record {
        rows = shape.nodes;
        names = shape.guests;
        stand = guests_same t (all_changed t (command_edits t told c)) guests shape.nodes shape.edges shape.devices;
      }

-- ---- nodes and files

module _ (w : WorldSeen) (whole : IsWholeWorld w) (joined : IsJoined w.nodes) (u : RunTable) (now : Nodes) (put : IsRewired u w.nodes now)
    (rows : u.nodes ≡ w.table.nodes) (s : State) where
  abbrev v : WorldSeen
  v = record w { nodes = now; table = u }

  devices_same : now.devices ≡ w.nodes.devices
  devices_same = ap (λ (n : Nodes). n.devices) put.are

  -- a file holds what it did
  held_same : (name : List ℕ) → held_in_file v name (node_over u name) ≡ held_in_file w name (node_over w.table name)
  held_same name =
      ap (held_in_file v name) (ap (λ (rs : List NodeRecord). option_map (λ (r : NodeRecord). r.id) (find (stands_for name) rs)) rows)
      ∙ ap (λ (n : Nodes). held_in_file (record w { nodes = n; table = u }) name (node_over w.table name)) put.are ∙ by_over (node_over w.table name)
    where
      by_over : (over : Option ℕ) → held_in_file (record w { nodes = rewired (kinds_of u.nodes) u.edges w.nodes; table = u }) name over ≡ held_in_file w name over
      by_over None = refl
      by_over (Some other) = refl

  -- where each node keeps its children, nothing is done to either
  pub quiet_kept : AreChildrenKept w.table.edges u.edges → IsQuiet (contents_of w) (contents_of v)
  quiet_kept same = record {
    nodes = λ n but. put.reads (disk_of w.nodes) go n;
    files = λ name but. held_same name;
  }
    where
      go : AreReadings now (disk_of w.nodes)
      go =
          subst (λ (n : Nodes). AreReadings n (disk_of w.nodes)) (sym put.are)
          (readings_kept w.nodes (kinds_of u.nodes) u.edges joined
          (subst (λ (es : List Edge). AreChildrenKept es u.edges) (sym whole.coherent.alike.edges) same))

  pub quiet_same : u.edges ≡ w.table.edges → IsQuiet (contents_of w) (contents_of v)
  quiet_same edges = quiet_kept (subst (AreChildrenKept w.table.edges) (sym edges) (λ n role. refl))

  -- a file that is used, and then a device's edge
  module _ (c : DeviceAdd (List ℕ)) (none : refusal_to w.table told_none (command.DeviceAdd c) ≡ None)
      (is : u ≡ added.table_then w.table whole.coherent.table.stands c none) where
    abbrev h : TableStands w.table
    h = whole.coherent.table.stands

    abbrev file : Option (List ℕ)
    file = added.file w.table h c none

    used : (f : Option (List ℕ)) (name : List ℕ) → held_in_file (record w { table = table_with_use w.table f }) name (node_over (table_with_use w.table f) name)
        ≡ held_in_file w name (node_over w.table name)
    unfolding changed
    used None name = refl
    used (Some f) name = refl

    quiet : IsQuiet (contents_of w) (contents_of v)
    quiet = quiet_kept (subst (λ (x : RunTable). AreChildrenKept w.table.edges x.edges) (sym is) (added.children_kept w.table h c none))

    quiet_then : IsQuiet (contents_of (record w { table = table_with_use w.table file })) (contents_of v)
    quiet_then = record { nodes = quiet.nodes; files = λ name but. quiet.files name but ∙ sym (used file name) }

    pub performed_added : AllPerformed s (command_edits w.table told_none (command.DeviceAdd c)) (contents_of w) (contents_of v)
    performed_added =
        subst (λ (changes : List Change). AllPerformed s changes (contents_of w) (contents_of v)) (sym (added.edits w.table h c none))
        (performed_used w s file (AddDevice (added.device w.table h c none) (added.row w.table h c none).id ∷ []) (contents_of v)
        (contents_of v, quiet_then, quiet-self (contents_of v)))

  pub performed_gone : (id : List ℕ) → refusal_to w.table told_none (command.DeviceDel id) ≡ None
      → u ≡ all_changed w.table (command_edits w.table told_none (command.DeviceDel id))
      → AllPerformed s (command_edits w.table told_none (command.DeviceDel id)) (contents_of w) (contents_of v)
  performed_gone id none is =
      let at = gone.device_there w.table id none in
      let edits = gone.edits w.table id at.device at.named in
      let same : u ≡ changed w.table (RemoveDevice at.device.number) = is ∙ ap (all_changed w.table) edits in
      subst (λ (changes : List Change). AllPerformed s changes (contents_of w) (contents_of v)) (sym edits) (
        contents_of v,
        quiet_kept (subst (λ (x : RunTable). AreChildrenKept w.table.edges x.edges) (sym same) (gone.children_kept w.table id at.device at.named)),
        quiet-self (contents_of v),
      )

  -- the overlay reads as the node did
  module _ (c : Snapshot (List ℕ)) (told : Told) (none : refusal_to w.table told (command.BlockdevSnapshot c) ≡ None)
      (is : u ≡ all_changed w.table (command_edits w.table told (command.BlockdevSnapshot c))) (tells : TellsMappedAlone w.table w.nodes (command.BlockdevSnapshot c) told)
      (some : is_some w.files ≡ true) where
    abbrev stands : TableStands w.table
    stands = whole.coherent.table.stands

    abbrev node : ℕ
    node = made.node w.table stands c told none

    abbrev overlay : ℕ
    overlay = made.overlay w.table stands c told none

    clear : IsClear w.nodes overlay
    clear = record {
      fresh = (tells.maps overlay (made.overlay_is w.table stands c told none)).known.0 (made.unmapped w.table stands c told none);
      unused = λ edge there. (made.of w.table stands c told none).over.lone edge (subst (λ (edges : List Edge). Contains edges edge) whole.coherent.alike.edges there);
      told = whole.tell some;
    }

    abbrev reads : ℕ → List ℕ
    reads = put_at w.nodes joined overlay (disk_of w.nodes node) (disk_of w.nodes)

    go : GoWith u w.nodes reads
    go =
        subst (λ (x : RunTable). GoWith x w.nodes reads) (sym (is ∙ made.table_is w.table stands c told none))
        (made.disks_then w.table stands c told none w.nodes whole.coherent.alike joined clear (disk_of w.nodes)
        (go_first w.nodes joined w.table clear.told whole.coherent.alike.edges))

    disks : (n : ℕ) → disk_of now n ≡ reads n
    disks = put.reads reads (subst (λ (n : Nodes). AreReadings n reads) (sym put.are) (go_readings u w.nodes reads joined go))

    puts : Puts overlay (disk_of w.nodes node) (contents_of w) (contents_of v)
    puts = record {
      nodes = λ other apart. disks other ∙ rw (ne_eqb other overlay apart) refl;
      files = λ name but. held_same name;
      reads_as = disks overlay ∙ rw (eq-eqb overlay overlay refl) refl;
    }

    pub performed_made : AllPerformed s (command_edits w.table told (command.BlockdevSnapshot c)) (contents_of w) (contents_of v)
    performed_made =
        subst (λ (changes : List Change). AllPerformed s changes (contents_of w) (contents_of v)) (sym (made.edits w.table stands c told none))
        (contents_of v, puts, (contents_of v, quiet-self (contents_of v), quiet-self (contents_of v)))
