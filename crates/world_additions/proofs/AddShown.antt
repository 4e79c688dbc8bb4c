-- An addition that nothing refused, as the flat machine sees it.
use Rattle.std.proofs.Common.{◌≡◌, ℕ, ◌+◌, ◌≤◌, true, false, List, [], ◌∷◌, length, refl, sym, ◌∙◌, ap, subst, arith, Option, Some, None}
use Rattle.std.specs.Prelude.{IsSome, bytes_eq, option_and_then, unwrap_or}
use Rattle.blk_graph.specs.declared.kind.Kind.TheVariants as kinds
use Rattle.blk_graph.proofs.Members.{find-Some}
use Rattle.q2_image.specs.Image.{Known}
use Rattle.q2_format.specs.Contents.{image_disk, raw_disk}
use Rattle.blk_nodes.specs.Adding.{raw_row}
use Rattle.blk_nodes.specs.Contents.{disk_under, bytes_of, disk_of}
use Rattle.blk_nodes.specs.Joined.{IsJoined}
use Rattle.blk_nodes.specs.Nodes.{Nodes, node_size}
use Rattle.blk_nodes.specs.Overlays.{backing_node, copying_row, qcow2_row}
use Rattle.blk_nodes.specs.declared.row.Row.{Row}
use Rattle.qmp_codec.specs.declared.command.Command.TheVariants as command
use Rattle.qmp_codec.specs.declared.nodes.AddQcow2.{AddQcow2}
use Rattle.qmp_codec.specs.declared.nodes.AddRaw.{AddRaw}
use Rattle.qmp_codec.specs.declared.nodes.Added.TheVariants as added
use Rattle.qmp_codec.specs.declared.nodes.FileRef.{FileRef}
use Rattle.qmp_codec.specs.declared.nodes.FileRef.TheVariants as file_ref
use Rattle.qmp_codec.specs.declared.nodes.InlineFile.{InlineFile}
use Rattle.qmp_rules.specs.Answers.{refusal_to}
use Rattle.qmp_rules.specs.Changes.{all_changed, changed}
use Rattle.qmp_rules.specs.Edits.{file_row, format_row, free_id, image_row, inline_row, length_told, next_free_id, qcow2_edits, raw_edits, raw_record}
use Rattle.qmp_asks.specs.NodeAsks.{backing_name, is_read_only}
use Rattle.qmp_rules.specs.Looks.{part_look}
use Rattle.qmp_rules.specs.Table.{RunTable, id_named, node_named}
use Rattle.qmp_asks.specs.Values.{part_size}
use Rattle.qmp_asks.specs.declared.ask.Drivers.TheVariants as drivers
use Rattle.qmp_rules.specs.declared.change.Change.TheVariants.{AddFile, AddFilter, AddFormat}
use Rattle.qmp_rules.specs.declared.rows.NodeRecord.{NodeRecord}
use Rattle.qmp_asks.specs.declared.look.Look.TheVariants as look
use Rattle.qmp_rules.specs.declared.told.Told.{Told}
use Rattle.flat_machine.specs.Changed.{stepped}
use Rattle.flat_machine.specs.Performing.{AllPerformed}
use Rattle.flat_machine.specs.State.{State, filename_of}
use Rattle.flat_machine.specs.Wiring.{TableAtRest}
use Rattle.flat_machine.proofs.Accepted.{free_fresh, is_protocol}
use Rattle.flat_machine.proofs.Asked.{room-left, takes-driver}
use Rattle.world_parts.specs.Adding.{Adding, Taken}
use Rattle.world_parts.specs.Coherent.{AreOut}
use Rattle.world_parts.specs.Face.{WorldSeen, contents_of, told_bytes}
use Rattle.world_parts.specs.Joining.{HasAddedImage, HasAddedPart, IsFileAdded, HasInline, HasOver, backing_for, part_in}
use Rattle.world_parts.specs.Stores.{StoreInRun}
use Rattle.world_additions.proofs.AddAsked.{rest-asked, unopened-not}
use Rattle.world_additions.proofs.AddClosed.{closed-in}
use Rattle.world_additions.proofs.AddDid.{did-file, did-filter, did-image, did-part, over-new, over-one}
use Rattle.world_additions.proofs.AddFacts.{filed-filename}
use Rattle.world_additions.proofs.AddMiddle.{Middle}
use Rattle.world_additions.proofs.AddReady.{backing-same}
use Rattle.world_additions.proofs.AddSeen.{AsFile, AsImage, AsPart}
use Rattle.world_additions.proofs.AddWhole.{FreshFor, IsFreshlyTaken, id-is, next1}
use Rattle.world_parts.proofs.CarryPlain.{quiet-self}

-- what is told of the bytes of the device that was opened
abbrev pub HoldsFor : WorldSeen → FileRef (List ℕ) → Option Taken → Type 0
HoldsFor w (file_ref.Inline file) (Some device) = device.content ≡ told_bytes w.files file.filename
HoldsFor w file out = Unit {0}

some-name : (found : Option (List ℕ)) → IsSome found → (name : List ℕ) × (found ≡ Some name)
some-name None some = absurd (let bad : false ≡ true = some in cc bad)
some-name (Some name) some = (name, refl)

module _ (w v : WorldSeen) (told : Told) (c : Adding) (none : refusal_to w.table told (command.BlockdevAdd c) ≡ None) (old now : StoreInRun)
    (out_before : AreOut w.table w.nodes old.opened) (was : Middle w.table w.nodes old.opened w.progress) (rest_at : TableAtRest w.table) (joined : IsJoined w.nodes)
    (files : v.files ≡ w.files) (s : State) (table_is : s.table ≡ w.table) where
  abbrev t : RunTable
  t = w.table

  -- the world behind the first of two nodes
  abbrev middle : RunTable → Nodes → WorldSeen
  middle table nodes = record w { table = table; nodes = nodes }

  pub shown-file : (filename : List ℕ) → c.driver ≡ added.File filename → (device : Taken) → IsFreshlyTaken old now filename device told
      → device.content ≡ told_bytes w.files filename → (id : ℕ) → IsFileAdded c.node_name (is_read_only c.options) device w.nodes v.nodes id
      → v.table ≡ changed t (AddFile (file_row (free_id t) c.node_name (length_told told) (is_read_only c.options) filename None))
      → AllPerformed s (AddFile (file_row (free_id t) c.node_name (length_told told) (is_read_only c.options) filename None) ∷ []) (contents_of w) (contents_of v)
  shown-file filename e device fresh content id has table =
      let rest = rw e at (rest-asked t told c none) in
      let room : length t.nodes + 1 ≤ 64 = room-left t told 1 rest.1.0 in
      let has' = subst (IsFileAdded c.node_name (is_read_only c.options) device w.nodes v.nodes)
      (id-is t told c none old now w.nodes w.nodes v.nodes w.progress was out_before rest_at.stands.apart joined room id has.lowest) has in
      let size : length_told told ≡ device.size = ap (λ (n : Option ℕ). unwrap_or n 0) fresh.length_is in
      let closed = unopened-not t told c none (record { filename = filename; what = look.File }) (AsFile e refl) in (
        contents_of v,
        did-file w v joined (file_row (free_id t) c.node_name (length_told told) (is_read_only c.options) filename None) files s filename device table has' size refl
            (free_fresh t room) closed content,
        quiet-self (contents_of v),
      )

  pub shown-part : (raw : AddRaw (List ℕ)) (file : FileRef (List ℕ)) → c.driver ≡ added.Raw raw → raw.file ≡ file → (out : Option Taken)
      → FreshFor t told c none old now w.nodes w.nodes v.nodes w.progress was out_before rest_at.stands.apart joined file out → HoldsFor w file out
      → HasAddedPart t c raw file out w.nodes v.nodes
      → v.table ≡ all_changed t (raw_edits t told c.node_name (is_read_only c.options) raw file)
      → AllPerformed s (raw_edits t told c.node_name (is_read_only c.options) raw file) (contents_of w) (contents_of v)
  shown-part raw (file_ref.Name name) e f None fresh holds has table =
      let rest = rw (e, f) at (rest-asked t told c none) in
      let room : length t.nodes + 1 ≤ 64 = room-left t told 1 rest.1.1.0 in
      let row = has.row in
      let new_row : NodeRecord = raw_record (free_id t) c.node_name row.size (is_read_only c.options) raw in
      let own : Row = raw_row (part_in raw row.size) (is_read_only c.options) in
      let bytes : List ℕ = raw_disk (part_in raw row.size).start (part_in raw row.size).len (disk_of w.nodes row.id) in
      let has' = subst (HasOver c.node_name own row.id None bytes w.nodes v.nodes)
      (id-is t told c none old now w.nodes w.nodes v.nodes w.progress was out_before rest_at.stands.apart joined room has.node has.next.lowest) has.next in
      let table' : v.table ≡ changed t (AddFormat new_row row.id None) = rw has.found at table in
      rw has.found (
        contents_of v,
        did-part w v joined new_row files s own row.id bytes refl table' has' refl refl,
        quiet-self (contents_of v),
      )
  shown-part raw (file_ref.Name name) e f (Some device) fresh holds has table = absurd has
  shown-part raw (file_ref.Inline file) e f None fresh holds has table = absurd has
  shown-part raw (file_ref.Inline file) e f (Some device) fresh holds has table =
      let rest = rw (e, f) at (rest-asked t told c none) in
      let room : length t.nodes + 2 ≤ 64 = room-left t told 2 rest.1.1.1.0 in
      let closed = unopened-not t told c none (record { filename = file.filename; what = part_look raw }) (AsPart raw file e f refl refl) in
      let row1 : NodeRecord = inline_row t told c.node_name file in
      let m : WorldSeen = middle (changed t (AddFile row1)) has.between in
      let size : length_told told ≡ device.size = ap (λ (n : Option ℕ). unwrap_or n 0) fresh.length_is in
      let under = id-is t told c none old now w.nodes w.nodes has.between w.progress was out_before rest_at.stands.apart joined (omega (arith, room)) has.under has.first.lowest in
      let first' = subst (HasInline c file device w.nodes has.between) under has.first in
      let new_row : NodeRecord = raw_record (next_free_id t) c.node_name (length_told told) (is_read_only c.options) raw in
      let own : Row = raw_row (part_in raw device.size) (is_read_only c.options) in
      let bytes : List ℕ = raw_disk (part_in raw device.size).start (part_in raw device.size).len (disk_of has.between has.under) in
      let next = has.next in
      let bytes_are : bytes ≡ raw_disk new_row.offset new_row.size (disk_of has.between (free_id t)) =
      ap (λ (n : ℕ). raw_disk (part_in raw device.size).start (part_in raw device.size).len (disk_of has.between n)) under
      ∙ ap (λ (n : ℕ). raw_disk (part_in raw device.size).start (part_size raw.offset raw.size n) (disk_of has.between (free_id t))) (sym size) in
      let next_id =
      next1 t told c none old now w.nodes w.nodes v.nodes w.progress was out_before rest_at.stands.apart joined file device fresh has.between has.under has.first
      room (closed-in t w.nodes old.opened file.filename out_before closed) has.node next.lowest in
      let next' = subst (HasOver c.node_name own has.under None bytes has.between v.nodes) next_id next in
      let next'' = subst (λ (n : ℕ). HasOver c.node_name own n None bytes has.between v.nodes (next_free_id t)) under next' in (
        contents_of m,
        did-file w m joined row1 refl s file.filename device refl first' size refl (free_fresh t (omega (arith, room))) closed holds,
        (
          contents_of v,
          did-part m v has.first.joined new_row files (stepped s (AddFile row1)) own (free_id t) bytes refl table next'' refl bytes_are,
          quiet-self (contents_of v),
        ),
      )

  -- over the image in a `file` node that is there
  pub shown-named : (qcow2 : AddQcow2 (List ℕ)) (name : List ℕ) → c.driver ≡ added.Qcow2 qcow2 → qcow2.file ≡ file_ref.Name name
      → (image : Known) → told.size ≡ Some image.header.size → HasAddedImage t c qcow2 (file_ref.Name name) None (Some image) w.nodes v.nodes
      → v.table ≡ all_changed t (qcow2_edits t told c.node_name (is_read_only c.options) (backing_name qcow2.backing) (file_ref.Name name))
      → AllPerformed s (qcow2_edits t told c.node_name (is_read_only c.options) (backing_name qcow2.backing) (file_ref.Name name)) (contents_of w) (contents_of v)
  shown-named qcow2 name e f image sized has table =
      let rest = rw (e, f) at (rest-asked t told c none) in
      let room : length t.nodes + 1 ≤ 64 = room-left t told 1 rest.1.1.1.0 in
      let row = has.row in
      let kind : row.kind ≡ kinds.Protocol = is_protocol row.kind (takes-driver t told name drivers.File row has.found rest.1.1.1.1.0) in
      let there = (find-Some (λ (r : NodeRecord). bytes_eq r.name name) t.nodes row has.found).0 in
      let file = some-name row.filename (rest_at.stands.names row there kind) in
      let over : Option ℕ = option_and_then (id_named t) (backing_name qcow2.backing) in
      let new_row : NodeRecord = image_row (free_id t) told c.node_name (is_read_only c.options) in
      let own : Row = qcow2_row image (is_read_only c.options) in
      let bytes : List ℕ = image_disk (bytes_of w.nodes row.id) (disk_under (disk_of w.nodes) (backing_node (backing_for t qcow2.backing))) in
      let next' = subst (λ (b : Option ℕ). HasOver c.node_name own row.id b bytes w.nodes v.nodes has.node) (backing-same t qcow2.backing) has.next in
      let has' = subst (HasOver c.node_name own row.id over bytes w.nodes v.nodes)
      (id-is t told c none old now w.nodes w.nodes v.nodes w.progress was out_before rest_at.stands.apart joined room has.node has.next.lowest) next' in
      let bytes_are : bytes ≡ image_disk (bytes_of w.nodes row.id) (disk_under (disk_of w.nodes) over) =
      ap (λ (b : Option ℕ). image_disk (bytes_of w.nodes row.id) (disk_under (disk_of w.nodes) b)) (backing-same t qcow2.backing) in
      let named : filename_of t row.id ≡ Some file.0 = ap (option_and_then (λ (r : NodeRecord). r.filename)) (rest_at.stands.apart row there) ∙ file.1 in
      let table' : v.table ≡ changed t (AddFormat new_row row.id over) = rw has.found at table in
      rw has.found (
        contents_of v,
        did-image w v joined new_row files s own row.id bytes refl over file.0 table' has' refl table_is named
            (over-one t row file.0 rest_at.stands.alone there file.1) bytes_are,
        quiet-self (contents_of v),
      )

  -- over the image in a file that was opened
  pub shown-inline : (qcow2 : AddQcow2 (List ℕ)) (file : InlineFile (List ℕ)) → c.driver ≡ added.Qcow2 qcow2 → qcow2.file ≡ file_ref.Inline file
      → (device : Taken) (image : Known) → told.size ≡ Some image.header.size → IsFreshlyTaken old now file.filename device told
      → device.content ≡ told_bytes w.files file.filename
      → HasAddedImage t c qcow2 (file_ref.Inline file) (Some device) (Some image) w.nodes v.nodes
      → v.table ≡ all_changed t (qcow2_edits t told c.node_name (is_read_only c.options) (backing_name qcow2.backing) (file_ref.Inline file))
      → AllPerformed s (qcow2_edits t told c.node_name (is_read_only c.options) (backing_name qcow2.backing) (file_ref.Inline file)) (contents_of w) (contents_of v)
  shown-inline qcow2 file e f device image sized fresh holds has table =
      let rest = rw (e, f) at (rest-asked t told c none) in
      let room : length t.nodes + 2 ≤ 64 = room-left t told 2 rest.1.1.1.1.0 in
      let closed = unopened-not t told c none (record { filename = file.filename; what = look.File }) (AsImage qcow2 file e f refl refl) in
      let row1 : NodeRecord = inline_row t told c.node_name file in
      let m : WorldSeen = middle (changed t (AddFile row1)) has.between in
      let size : length_told told ≡ device.size = ap (λ (n : Option ℕ). unwrap_or n 0) fresh.length_is in
      let under = id-is t told c none old now w.nodes w.nodes has.between w.progress was out_before rest_at.stands.apart joined (omega (arith, room)) has.under has.first.lowest in
      let first' = subst (HasInline c file device w.nodes has.between) under has.first in
      let over : Option ℕ = option_and_then (id_named t) (backing_name qcow2.backing) in
      let new_row : NodeRecord = image_row (next_free_id t) told c.node_name (is_read_only c.options) in
      let own : Row = qcow2_row image (is_read_only c.options) in
      let bytes : List ℕ = image_disk (bytes_of has.between has.under) (disk_under (disk_of has.between) (backing_node (backing_for t qcow2.backing))) in
      let bytes_are : bytes ≡ image_disk (bytes_of has.between (free_id t)) (disk_under (disk_of has.between) over) =
      ap (λ (n : ℕ). image_disk (bytes_of has.between n) (disk_under (disk_of has.between) (backing_node (backing_for t qcow2.backing)))) under
      ∙ ap (λ (b : Option ℕ). image_disk (bytes_of has.between (free_id t)) (disk_under (disk_of has.between) b)) (backing-same t qcow2.backing) in
      let next = has.next in
      let next_id =
      next1 t told c none old now w.nodes w.nodes v.nodes w.progress was out_before rest_at.stands.apart joined file device fresh has.between has.under has.first
      room (closed-in t w.nodes old.opened file.filename out_before closed) has.node next.lowest in
      let next1' = subst (λ (b : Option ℕ). HasOver c.node_name own has.under b bytes has.between v.nodes has.node) (backing-same t qcow2.backing) next in
      let next2' = subst (HasOver c.node_name own has.under over bytes has.between v.nodes) next_id next1' in
      let next3' = subst (λ (n : ℕ). HasOver c.node_name own n over bytes has.between v.nodes (next_free_id t)) under next2' in
      let fresh1 = free_fresh t (omega (arith, room)) in (
        contents_of m,
        did-file w m joined row1 refl s file.filename device refl first' size refl fresh1 closed holds,
        (
          contents_of v,
          did-image m v has.first.joined new_row files (stepped s (AddFile row1)) own (free_id t) bytes refl over file.filename table next3' refl
              (ap (λ (u : RunTable). changed u (AddFile row1)) table_is) (filed-filename t row1 file.filename fresh1 refl) (over-new t row1 file.filename refl closed) bytes_are,
          quiet-self (contents_of v),
        ),
      )

  pub shown-filter : (child : List ℕ) → c.driver ≡ added.CopyOnRead child → (row : NodeRecord) → node_named t child ≡ Some row → (node : ℕ)
      → HasOver c.node_name (copying_row (node_size w.nodes row.id) (is_read_only c.options)) row.id None (disk_of w.nodes row.id) w.nodes v.nodes node
      → v.table ≡ changed t (AddFilter (format_row kinds.CopyOnRead (free_id t) c.node_name row.size 0 (is_read_only c.options)) row.id)
      → AllPerformed s (AddFilter (format_row kinds.CopyOnRead (free_id t) c.node_name row.size 0 (is_read_only c.options)) row.id ∷ []) (contents_of w) (contents_of v)
  shown-filter child e row found node has table =
      let rest = rw e at (rest-asked t told c none) in
      let room : length t.nodes + 1 ≤ 64 = room-left t told 1 rest.1.1.0 in
      let new_row : NodeRecord = format_row kinds.CopyOnRead (free_id t) c.node_name row.size 0 (is_read_only c.options) in
      let own : Row = copying_row (node_size w.nodes row.id) (is_read_only c.options) in
      let has' = subst (HasOver c.node_name own row.id None (disk_of w.nodes row.id) w.nodes v.nodes)
      (id-is t told c none old now w.nodes w.nodes v.nodes w.progress was out_before rest_at.stands.apart joined room node has.lowest) has in (
        contents_of v,
        did-filter w v joined new_row files s own row.id (disk_of w.nodes row.id) refl table has' refl,
        quiet-self (contents_of v),
      )
