-- A creation that was carried out, refused, or of which a call failed: what it leaves of the world.
use Rattle.std.proofs.Common.{◌≡◌, ℕ, ◌≤◌, Bool, true, List, [], refl, sym, ◌∙◌, ap, arith, Option, Some, None}
use Rattle.std.specs.Prelude.{Contains, IsSome, Result, is_some, option_and_then, option_map, bytes_eq, replicate, unwrap_or}
use Rattle.blk_base.specs.Files.{put_file}
use Rattle.blk_base.specs.Stored.{LeavesOthers}
use Rattle.blk_base.specs.declared.file.File.{File as StoreFile}
use Rattle.qmp_codec.specs.Commands.{Cmd}
use Rattle.qmp_codec.specs.declared.command.Command.TheVariants as command
use Rattle.qmp_codec.specs.declared.nodes.CreateFile.{CreateFile}
use Rattle.qmp_codec.specs.declared.nodes.Created.TheVariants as created
use Rattle.qmp_rules.specs.Answers.{refusal_to}
use Rattle.qmp_rules.specs.Changes.{all_changed}
use Rattle.qmp_rules.specs.Edits.{create_edits, spoiled, file_of_node}
use Rattle.qmp_rules.specs.Looks.{create_told}
use Rattle.qmp_rules.specs.Table.{RunTable}
use Rattle.qmp_asks.specs.Values.{amount_or}
use Rattle.qmp_rules.specs.declared.refusal.Refusal.{Refusal}
use Rattle.std.proofs.lemmas.Bool.{false≢true}
use Rattle.blk_graph.proofs.Members.{find-Some}
use Rattle.q2_format.specs.Created.{Creation}
use Rattle.qmp_codec.specs.declared.nodes.CreateQcow2.{CreateQcow2}
use Rattle.qmp_rules.specs.Asks.{id_or, name_of_file}
use Rattle.qmp_rules.specs.declared.rows.NodeRecord.{NodeRecord}
use Rattle.flat_machine.specs.Wiring.{TableAtRest}
use Rattle.blk_nodes.specs.Formatting.{IsFormatAt}
use Rattle.blk_nodes.specs.Joined.{IsJoined}
use Rattle.blk_nodes.specs.Nodes.{AreTold, DeviceSeen, Nodes, device_in}
use Rattle.blk_nodes.specs.Reading.{OnlyAt}
use Rattle.blk_nodes.specs.declared.stop.FormatStop.{FormatStop}
use Rattle.world_parts.specs.Coherent.{IsWholeWorld}
use Rattle.world_parts.specs.Counting.{AreSameDevices}
use Rattle.world_parts.specs.Creating.{HasMakingFailed, HasFormatted, with_zeroed_file}
use Rattle.world_parts.specs.Deleting.{Ground, ground_of}
use Rattle.world_parts.specs.Face.{WorldSeen}
use Rattle.world_parts.specs.Steps.{StoreSeen}
use Rattle.world_parts.proofs.CountLemmas.{found-before, same-devices, same-only}
use Rattle.world_files.proofs.CreatedAsked.{FormatsNode, file_asked, format_asked}
use Rattle.world_files.proofs.MadeMoves.{IsEasedTo, IsLoneFile, Moves, eased_shape, shape_made, shape_spoiled}
use Rattle.world_parts.proofs.NodesAfter.{AreNodesAfter, after_devices, noded, only_told}
use Rattle.world_parts.proofs.Placed.{placed}

some-map : {A B : Type 0} (f : A → B) (x : Option A) → is_some (option_map f x) ≡ is_some x
some-map f None = refl
some-map f (Some a) = refl

others-told : (name : List ℕ) (old new : Option (List StoreFile)) → LeavesOthers name old new → is_some new ≡ is_some old
others-told name None new left = ap (λ (f : Option (List StoreFile)). is_some f) left
others-told name (Some files) new left = ap (λ (f : Option (List StoreFile)). is_some f) left.1

-- ---- files

module _ (w : WorldSeen) (whole : IsWholeWorld w) (id : List ℕ) (c : CreateFile (List ℕ)) where
  abbrev size : ℕ
  size = amount_or 0 (Some c.size)

  abbrev file_cmd : Cmd
  file_cmd = command.BlockdevCreate (record { job_id = id; options = created.File c })

  same-nodes : AreNodesAfter w.nodes w.nodes
  same-nodes = after_devices w.nodes w.nodes refl (same-devices w.nodes.devices)

  -- the file is made
  abbrev pub made_ground : Ground
  made_ground = record (ground_of w) { store = with_zeroed_file c.filename size (ground_of w).store }

  abbrev pub made_table : RunTable
  made_table = all_changed w.table (create_edits w.table (record { job_id = id; options = created.File c }))

  pub moves_made : Moves w (placed w made_ground made_table)
  moves_made = record {
    table = eased_shape w.table made_table (shape_made w.table id c.filename size);
    nodes = same-nodes;
    progress = refl;
    opened = refl;
    earlier = refl;
    first = refl;
    room = refl;
    told = some-map (put_file (record { name = c.filename; bytes = replicate size 0; capacity = w.room; is_flushed = true })) w.files;
    store = omega arith;
    tell = λ some. whole.tell
        (sym (some-map (put_file (record { name = c.filename; bytes = replicate size 0; capacity = w.room; is_flushed = true })) w.files) ∙ some);
  }

  -- the store failed
  abbrev pub failed_table : RunTable
  failed_table = all_changed w.table (spoiled w.table (created.File c))

  pub moves_failed : (none : refusal_to w.table (create_told (created.File c) w.room) file_cmd ≡ None) (store : StoreSeen) (cause : Refusal)
      → HasMakingFailed c.filename size (ground_of w).store store cause → w.faults ≤ store.faults
      → Moves w (placed w (record { store = store; nodes = w.nodes }) failed_table)
  moves_failed none store cause failed least =
      let asked = file_asked w.table (create_told (created.File c) w.room) id c none in
      record {
        table = eased_shape w.table failed_table (shape_spoiled w.table c.filename asked.closed);
        nodes = same-nodes;
        progress = refl;
        opened = ap (λ (s : StoreSeen). s.opened) failed.kept;
        earlier = refl;
        first = refl;
        room = ap (λ (s : StoreSeen). s.room) failed.kept;
        told = others-told c.filename w.files store.files failed.others;
        store = least;
        tell = λ some. whole.tell (sym (others-told c.filename w.files store.files failed.others) ∙ some);
      }

-- ---- images

-- devices tell as before where that of one file does
told-only : (old new : Nodes) (file : ℕ) (before after : DeviceSeen) → IsJoined old → IsJoined new → AreSameDevices old.devices new.devices → OnlyAt file old.devices new.devices
    → device_in old.devices file ≡ Some before → device_in new.devices file ≡ Some after → is_some after.content ≡ is_some before.content
    → AreTold old.devices → AreTold new.devices
told-only old new file before after joined now same only held left same_told told device there =
    let was = found-before old.devices new.devices device same there in
    let held_was : device_in old.devices was.0.node ≡ Some was.0 = noded old.devices was.0 joined.once was.1 in
    let here : device_in new.devices device.node ≡ Some device = noded new.devices device now.once there in
    let content : Option DeviceSeen → Bool = λ d. is_some (option_and_then (λ (x : DeviceSeen). x.content) d) in
    sym (ap content here)
    ∙ only_told file old.devices new.devices before after only held left same_told device.node
    ∙ ap (λ (n : ℕ). content (device_in old.devices n)) was.2.node
    ∙ ap content held_was
    ∙ told was.0 was.1

module _ (w : WorldSeen) (whole : IsWholeWorld w) (joined : IsJoined w.nodes) (x : Ground) (after : IsJoined x.nodes) (node : ℕ) (image : Creation) (outcome : Result (Unit {0}) FormatStop)
    (formatted : HasFormatted node (ground_of w) x image outcome) where
  abbrev at : IsFormatAt node w.nodes.devices x.nodes.devices image outcome
  at = formatted.format

  pub devices-then : AreSameDevices w.nodes.devices x.nodes.devices
  devices-then =
      same-only node w.nodes.devices x.nodes.devices at.before at.after joined.once at.only at.held at.left
      (record { node = at.formatted.node; number = at.formatted.number; capacity = at.formatted.capacity; faults = at.formatted.faults })

  pub moves_image : (u : RunTable) → IsEasedTo w.table u → Moves w (placed w x u)
  moves_image u eased = record {
    table = eased;
    nodes = after_devices w.nodes x.nodes formatted.kept devices-then;
    progress = refl;
    opened = ap (λ (s : StoreSeen). s.opened) formatted.store;
    earlier = refl;
    first = refl;
    room = ap (λ (s : StoreSeen). s.room) formatted.store;
    told = ap (λ (s : StoreSeen). is_some s.files) formatted.store;
    store = (let same = ap (λ (s : StoreSeen). s.faults) formatted.store in omega (arith, same));
    tell = λ some.
        told-only w.nodes x.nodes node at.before at.after joined after devices-then at.only at.held at.left at.formatted.within.told
        (whole.tell (sym (ap (λ (s : StoreSeen). is_some s.files) formatted.store) ∙ some));
  }

-- the file of the node that is named
module _ (t : RunTable) (rest : TableAtRest t) (id : List ℕ) (c : CreateQcow2 (List ℕ)) (room : ℕ)
    (none : refusal_to t (create_told (created.Qcow2 c) room) (command.BlockdevCreate (record { job_id = id; options = created.Qcow2 c })) ≡ None) where
  pub its : FormatsNode t (create_told (created.Qcow2 c) room) c
  its = format_asked t (create_told (created.Qcow2 c) room) id c none

  pub id_is : id_or 0 t (Some c.file) ≡ its.row.id
  id_is = ap (λ (found : Option NodeRecord). unwrap_or (option_map (λ (r : NodeRecord). r.id) found) 0) its.found

  pub name_is : file_of_node t c.file ≡ name_of_file its.row
  name_is = ap (λ (found : Option NodeRecord). unwrap_or (option_map name_of_file found) []) its.found

  row-there : Contains t.nodes its.row
  row-there = (find-Some (λ (r : NodeRecord). bytes_eq r.name c.file) t.nodes its.row its.found).0

  pub lone_file : IsLoneFile t its.row (file_of_node t c.file)
  lone_file = record {
    there = row-there;
    filename = by_name its.row.filename (rest.stands.names its.row row-there its.driver) ∙ ap (λ (n : List ℕ). Some n) (sym name_is);
    lone = its.lone;
  }
    where
      by_name : (f : Option (List ℕ)) → IsSome f → f ≡ Some (unwrap_or f [])
      by_name None some = absurd (false≢true some)
      by_name (Some n) some = refl
