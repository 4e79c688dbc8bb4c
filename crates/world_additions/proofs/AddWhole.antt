-- What belongs together does so behind an addition that nothing refused.
use Rattle.std.proofs.Common.{◌≡◌, ◌≢◌, ℕ, ◌+◌, ◌≤◌, ◌==◌, false, List, [], ◌∷◌, ◌++◌, length, map, refl, sym, ◌∙◌, ap, subst, arith, Option, Some, None}
use Rattle.std.proofs.lemmas.List.{length-append, map-append}
use Rattle.std.specs.Prelude.{Contains, bytes_eq, find, option_and_then, unwrap_or}
use Rattle.blk_base.specs.Files.{is_out}
use Rattle.blk_base.specs.declared.file.Opened.{Opened}
use Rattle.blk_graph.specs.declared.edge.Edge.{Edge}
use Rattle.blk_graph.specs.declared.kind.Kind.TheVariants as kinds
use Rattle.blk_graph.specs.Graph.{ids}
use Rattle.blk_graph.specs.Ids.{IsLowestFree, lowest_free}
use Rattle.blk_graph.proofs.Members.{find-Some}
use Rattle.q2_image.specs.Image.{Known}
use Rattle.blk_nodes.specs.Adding.{raw_row}
use Rattle.blk_nodes.specs.Contents.{disk_under, bytes_of, disk_of}
use Rattle.blk_nodes.specs.Joined.{IsJoined}
use Rattle.blk_nodes.specs.Nodes.{Nodes, node_size}
use Rattle.blk_nodes.specs.Overlays.{backing_node, copying_row, qcow2_row}
use Rattle.blk_nodes.specs.declared.row.Row.{Row}
use Rattle.q2_format.specs.Contents.{image_disk, raw_disk}
use Rattle.qmp_codec.specs.declared.command.Command.TheVariants as command
use Rattle.qmp_codec.specs.declared.nodes.AddQcow2.{AddQcow2}
use Rattle.qmp_codec.specs.declared.nodes.AddRaw.{AddRaw}
use Rattle.qmp_codec.specs.declared.nodes.Added.TheVariants as added
use Rattle.qmp_codec.specs.declared.nodes.FileRef.{FileRef}
use Rattle.qmp_codec.specs.declared.nodes.FileRef.TheVariants as file_ref
use Rattle.qmp_codec.specs.declared.nodes.InlineFile.{InlineFile}
use Rattle.qmp_rules.specs.Answers.{refusal_to}
use Rattle.qmp_rules.specs.Changes.{all_changed, changed}
use Rattle.qmp_rules.specs.Edits.{file_row, format_row, free_id, image_row, inline_row, length_told, next_free_id, qcow2_edits, raw_edits, raw_record}
use Rattle.qmp_asks.specs.NodeAsks.{backing_name, is_read_only}
use Rattle.qmp_rules.specs.Looks.{part_look}
use Rattle.qmp_rules.specs.Table.{RunTable, id_named, kinds_of, node_by_id, node_named}
use Rattle.qmp_asks.specs.Values.{most_length, part_size}
use Rattle.qmp_rules.specs.declared.change.Change.TheVariants.{AddFile, AddFilter, AddFormat}
use Rattle.qmp_rules.specs.declared.rows.NodeRecord.{NodeRecord}
use Rattle.qmp_asks.specs.declared.look.Look.TheVariants as look
use Rattle.qmp_rules.specs.declared.told.Told.{Told}
use Rattle.flat_machine.specs.Wiring.{HaveDistinctIds}
use Rattle.flat_machine.proofs.Accepted.{free_fresh, next_fresh}
use Rattle.flat_machine.proofs.Asked.{lone-node, room-left}
use Rattle.flat_machine.proofs.Tables.{refreshed-old}
use Rattle.world_parts.specs.Adding.{Adding, IsTakenOut, Opens, Taken, opening_of}
use Rattle.world_parts.specs.Coherent.{AreOut}
use Rattle.world_parts.specs.Joining.{HasAddedImage, HasAddedPart, IsFileAdded, HasInline, HasOver, backing_for, part_in}
use Rattle.world_parts.specs.Progress.{Progress}
use Rattle.world_parts.specs.Stores.{StoreInRun}
use Rattle.world_additions.proofs.AddAlike.{id_of}
use Rattle.world_additions.proofs.AddAsked.{rest-asked, unopened-not}
use Rattle.world_additions.proofs.AddClosed.{closed-in}
use Rattle.world_additions.proofs.AddMiddle.{Middle}
use Rattle.world_additions.proofs.AddPlaces.{free-lowest}
use Rattle.world_additions.proofs.AddReady.{backing-same, size-alike}
use Rattle.world_additions.proofs.AddSeen.{AsFile, AsImage, AsPart, OpensAs}
use Rattle.world_additions.proofs.AddSteps.{file-step, filter-step, format-step}
use Rattle.world_additions.proofs.AddStops.{lowest-same}
use Rattle.world_additions.proofs.AddTables.{edges-apart, edges-away}

-- ---- the device that is out

-- nothing was written to it, and no fault was met
pub record IsFreshlyTaken (old now : StoreInRun) (filename : List ℕ) (device : Taken) (told : Told) : Type 0 where
  pub opened : now.opened ≡ old.opened ++ opening_of filename device ∷ []
  pub number : device.number ≡ record { 0 = length old.opened }
  pub length_is : told.length ≡ Some device.size
  pub short : device.size ≤ most_length

pub fresh-of : (old now : StoreInRun) (filename : List ℕ) (first device : Taken) (told : Told) → IsTakenOut old now filename first → device ≡ first
    → told.length ≡ Some first.size → first.size ≤ most_length → IsFreshlyTaken old now filename device told
fresh-of old now filename first device told out same length_is short = record {
  opened = ap (λ (s : StoreInRun). s.opened) out.kept ∙ ap (λ (d : Taken). old.opened ++ opening_of filename d ∷ []) (sym same);
  number = ap (λ (d : Taken). d.number) same ∙ out.number;
  length_is = length_is ∙ ap (λ (d : Taken). Some d.size) (sym same);
  short = subst (λ (d : Taken). d.size ≤ most_length) (sym same) short;
}

-- ---- no edge leads to a node that was just added

pub lone-then : (t : RunTable) (row : NodeRecord) → ((edge : Edge) → Contains t.edges edge → edge.child ≢ row.id)
    → (edge : Edge) → Contains (changed t (AddFile row)).edges edge → edge.child ≢ row.id
unfolding changed
lone-then t row away edge there = λ same.
    let old = refreshed-old (kinds_of (t.nodes ++ row ∷ [])) t.edges edge there in
    away old.edge old.there (old.same.child ∙ same)

-- ---- by the driver

module _ (t : RunTable) (told : Told) (c : Adding) (none : refusal_to t told (command.BlockdevAdd c) ≡ None) (old now : StoreInRun)
    (before nodes new : Nodes) (p : Progress) (was : Middle t nodes old.opened p) (out_before : AreOut t before old.opened) (apart : HaveDistinctIds t)
    (joined : IsJoined nodes) where
  -- what is known of the device of a command, by the file that it names
  abbrev pub FreshFor : FileRef (List ℕ) → Option Taken → Type 0
  FreshFor (file_ref.Inline file) (Some device) = IsFreshlyTaken old now file.filename device told
  FreshFor file out = now.opened ≡ old.opened

  -- the id that the table gives is that of the new node
  pub id-is : length t.nodes + 1 ≤ 64 → (id : ℕ) → IsLowestFree (ids nodes.graph) id → id ≡ free_id t
  id-is room id lowest = lowest-same (ids nodes.graph) id (free_id t) lowest (free-lowest t nodes was.alike joined (omega (arith, room)))

  inside : (at : Opens) → OpensAs c at → is_out at.filename old.opened ≡ false
  inside at opener = closed-in t before old.opened at.filename out_before (unopened-not t told c none at opener)

  by-name : (name : List ℕ) (row : NodeRecord) → node_named t name ≡ Some row → node_by_id t row.id ≡ Some row
  by-name name row found = apart row (find-Some (λ (r : NodeRecord). bytes_eq r.name name) t.nodes row found).0

  -- a `file` node alone
  pub whole-file : (filename : List ℕ) → c.driver ≡ added.File filename → (device : Taken) → IsFreshlyTaken old now filename device told
      → (id : ℕ) → IsFileAdded c.node_name (is_read_only c.options) device nodes new id
      → Middle (changed t (AddFile (file_row (free_id t) c.node_name (length_told told) (is_read_only c.options) filename None))) new now.opened p
  whole-file filename e device fresh id has =
      let rest = rw e at (rest-asked t told c none) in
      let room : length t.nodes + 1 ≤ 64 = room-left t told 1 rest.1.0 in
      let has' = subst (IsFileAdded c.node_name (is_read_only c.options) device nodes new) (id-is room id has.lowest) has in
      let size : length_told told ≡ device.size = ap (λ (n : Option ℕ). unwrap_or n 0) fresh.length_is in
      subst (λ (o : List Opened). Middle (changed t (AddFile (file_row (free_id t) c.node_name (length_told told) (is_read_only c.options) filename None))) new o p)
      (sym fresh.opened)
      (file-step t nodes old.opened p was joined (file_row (free_id t) c.node_name (length_told told) (is_read_only c.options) filename None)
      (free_fresh t room) filename device new has' refl size refl refl fresh.number
      (inside (record { filename = filename; what = look.File }) (AsFile e refl)) fresh.short)

  -- one that is made with a node over it
  module _ (file : InlineFile (List ℕ)) (device : Taken) (fresh : IsFreshlyTaken old now file.filename device told) (between : Nodes) (under : ℕ)
      (has : HasInline c file device nodes between under) (room : length t.nodes + 2 ≤ 64) (closed : is_out file.filename old.opened ≡ false) where
    abbrev row1 : NodeRecord
    row1 = inline_row t told c.node_name file

    abbrev t1 : RunTable
    t1 = changed t (AddFile row1)

    under-is : under ≡ free_id t
    under-is = id-is (omega (arith, room)) under has.lowest

    has1 : HasInline c file device nodes between (free_id t)
    has1 = subst (HasInline c file device nodes between) under-is has

    pub whole-inline : Middle t1 between now.opened p
    whole-inline =
        let size : length_told told ≡ device.size = ap (λ (n : Option ℕ). unwrap_or n 0) fresh.length_is in
        subst (λ (o : List Opened). Middle t1 between o p) (sym fresh.opened)
        (file-step t nodes old.opened p was joined row1 (free_fresh t (omega (arith, room))) file.filename device between has1 refl size refl refl fresh.number closed fresh.short)

    pub lone1 : (edge : Edge) → Contains t1.edges edge → edge.child ≢ free_id t
    lone1 = lone-then t row1 (edges-away t nodes (free_id t) was.alike joined has1.lowest.free)

    rows1 : t1.nodes ≡ t.nodes ++ row1 ∷ []
    unfolding changed
    rows1 = refl

    pub next1 : (id : ℕ) → IsLowestFree (ids between.graph) id → id ≡ next_free_id t
    next1 id lowest =
        let more : length t1.nodes ≡ length t.nodes + 1 = ap length rows1 ∙ length-append t.nodes (row1 ∷ []) in
        lowest-same (ids between.graph) id (free_id t1) lowest (free-lowest t1 between whole-inline.alike has.joined (omega (arith, more, room)))
        ∙ ap lowest_free (ap (map id_of) rows1 ∙ map-append id_of t.nodes (row1 ∷ []))

    pub fresh1 : node_by_id t1 (next_free_id t) ≡ None
    fresh1 = ap (find (λ (r : NodeRecord). r.id == next_free_id t)) rows1 ∙ next_fresh t row1 refl room

  pub whole-part : (raw : AddRaw (List ℕ)) (file : FileRef (List ℕ)) → c.driver ≡ added.Raw raw → raw.file ≡ file → (out : Option Taken)
      → FreshFor file out → HasAddedPart t c raw file out nodes new
      → Middle (all_changed t (raw_edits t told c.node_name (is_read_only c.options) raw file)) new now.opened p
  whole-part raw (file_ref.Name name) e f None fresh has =
      let rest = rw (e, f) at (rest-asked t told c none) in
      let room : length t.nodes + 1 ≤ 64 = room-left t told 1 rest.1.1.0 in
      let row = has.row in
      let lone = lone-node t told name row has.found rest.1.1.1.1.1.1.1.0 in
      let new_row : NodeRecord = raw_record (free_id t) c.node_name row.size (is_read_only c.options) raw in
      let own : Row = raw_row (part_in raw row.size) (is_read_only c.options) in
      let has' = subst (HasOver c.node_name own row.id None (raw_disk (part_in raw row.size).start (part_in raw row.size).len (disk_of nodes row.id)) nodes new)
      (id-is room has.node has.next.lowest) has.next in
      rw has.found
      (subst (λ (o : List Opened). Middle (changed t (AddFormat new_row row.id None)) new o p) (sym fresh)
      (format-step t nodes old.opened p was joined new_row (free_fresh t room) own
      (record { kind = refl; size = refl; access = refl; place = refl; small = tt }) row.id _ new None has' (edges-apart row.id t.edges lone)))
  whole-part raw (file_ref.Name name) e f (Some device) fresh has = absurd has
  whole-part raw (file_ref.Inline file) e f None fresh has = absurd has
  whole-part raw (file_ref.Inline file) e f (Some device) fresh has =
      let rest = rw (e, f) at (rest-asked t told c none) in
      let room : length t.nodes + 2 ≤ 64 = room-left t told 2 rest.1.1.1.0 in
      let closed = inside (record { filename = file.filename; what = part_look raw }) (AsPart raw file e f refl refl) in
      let first = whole-inline file device fresh has.between has.under has.first room closed in
      let size : length_told told ≡ device.size = ap (λ (n : Option ℕ). unwrap_or n 0) fresh.length_is in
      let new_row : NodeRecord = raw_record (next_free_id t) c.node_name (length_told told) (is_read_only c.options) raw in
      let own : Row = raw_row (part_in raw device.size) (is_read_only c.options) in
      let part_is : new_row.size ≡ own.size = ap (part_size raw.offset raw.size) size in
      let next' = subst (HasOver c.node_name own has.under None (raw_disk (part_in raw device.size).start (part_in raw device.size).len (disk_of has.between has.under)) has.between new)
      (next1 file device fresh has.between has.under has.first room closed has.node has.next.lowest) has.next in
      let next'' = subst (λ (n : ℕ). HasOver c.node_name own n None (raw_disk (part_in raw device.size).start (part_in raw device.size).len (disk_of has.between has.under)) has.between new (next_free_id t))
      (under-is file device fresh has.between has.under has.first room closed) next' in
      format-step (t1 file device fresh has.between has.under has.first room closed) has.between now.opened p first has.first.joined new_row
      (fresh1 file device fresh has.between has.under has.first room closed) own
      (record { kind = refl; size = part_is; access = refl; place = refl; small = tt }) (free_id t) _ new None next''
      (lone1 file device fresh has.between has.under has.first room closed)

  pub whole-image : (qcow2 : AddQcow2 (List ℕ)) (file : FileRef (List ℕ)) → c.driver ≡ added.Qcow2 qcow2 → qcow2.file ≡ file → (out : Option Taken)
      (image : Option Known) → ((open_image : Known) → image ≡ Some open_image → told.size ≡ Some open_image.header.size)
      → FreshFor file out → HasAddedImage t c qcow2 file out image nodes new
      → Middle (all_changed t (qcow2_edits t told c.node_name (is_read_only c.options) (backing_name qcow2.backing) file)) new now.opened p
  whole-image qcow2 (file_ref.Name name) e f None (Some image) sized fresh has =
      let rest = rw (e, f) at (rest-asked t told c none) in
      let room : length t.nodes + 1 ≤ 64 = room-left t told 1 rest.1.1.1.0 in
      let row = has.row in
      let lone = lone-node t told name row has.found rest.1.1.1.1.1.1.1.1.1.1.1.1.1.0 in
      let new_row : NodeRecord = image_row (free_id t) told c.node_name (is_read_only c.options) in
      let own : Row = qcow2_row image (is_read_only c.options) in
      let size : new_row.size ≡ own.size = ap (λ (n : Option ℕ). unwrap_or n 0) (sized image refl) in
      let over : Option ℕ = option_and_then (id_named t) (backing_name qcow2.backing) in
      let next' = subst (λ (b : Option ℕ). HasOver c.node_name own row.id b (image_disk (bytes_of nodes row.id) (disk_under (disk_of nodes) (backing_node (backing_for t qcow2.backing)))) nodes new has.node)
      (backing-same t qcow2.backing) has.next in
      let has' = subst (HasOver c.node_name own row.id over (image_disk (bytes_of nodes row.id) (disk_under (disk_of nodes) (backing_node (backing_for t qcow2.backing)))) nodes new)
      (id-is room has.node has.next.lowest) next' in
      rw has.found
      (subst (λ (o : List Opened). Middle (changed t (AddFormat new_row row.id over)) new o p) (sym fresh)
      (format-step t nodes old.opened p was joined new_row (free_fresh t room) own
      (record { kind = refl; size = size; access = refl; place = refl; small = tt }) row.id _ new over has' (edges-apart row.id t.edges lone)))
  whole-image qcow2 (file_ref.Inline file) e f (Some device) (Some image) sized fresh has =
      let rest = rw (e, f) at (rest-asked t told c none) in
      let room : length t.nodes + 2 ≤ 64 = room-left t told 2 rest.1.1.1.1.0 in
      let closed = inside (record { filename = file.filename; what = look.File }) (AsImage qcow2 file e f refl refl) in
      let first = whole-inline file device fresh has.between has.under has.first room closed in
      let new_row : NodeRecord = image_row (next_free_id t) told c.node_name (is_read_only c.options) in
      let own : Row = qcow2_row image (is_read_only c.options) in
      let size : new_row.size ≡ own.size = ap (λ (n : Option ℕ). unwrap_or n 0) (sized image refl) in
      let over : Option ℕ = option_and_then (id_named t) (backing_name qcow2.backing) in
      let bytes : List ℕ = image_disk (bytes_of has.between has.under) (disk_under (disk_of has.between) (backing_node (backing_for t qcow2.backing))) in
      let next1' = subst (λ (b : Option ℕ). HasOver c.node_name own has.under b bytes has.between new has.node) (backing-same t qcow2.backing) has.next in
      let next2' = subst (HasOver c.node_name own has.under over bytes has.between new)
      (next1 file device fresh has.between has.under has.first room closed has.node has.next.lowest) next1' in
      let next3' = subst (λ (n : ℕ). HasOver c.node_name own n over bytes has.between new (next_free_id t))
      (under-is file device fresh has.between has.under has.first room closed) next2' in
      format-step (t1 file device fresh has.between has.under has.first room closed) has.between now.opened p first has.first.joined new_row
      (fresh1 file device fresh has.between has.under has.first room closed) own
      (record { kind = refl; size = size; access = refl; place = refl; small = tt }) (free_id t) bytes new over next3'
      (lone1 file device fresh has.between has.under has.first room closed)
  whole-image qcow2 (file_ref.Name name) e f None None sized fresh has = absurd has
  whole-image qcow2 (file_ref.Name name) e f (Some device) image sized fresh has = absurd has
  whole-image qcow2 (file_ref.Inline file) e f None image sized fresh has = absurd has
  whole-image qcow2 (file_ref.Inline file) e f (Some device) None sized fresh has = absurd has

  pub whole-filter : (child : List ℕ) → c.driver ≡ added.CopyOnRead child → now.opened ≡ old.opened
      → (row : NodeRecord) → node_named t child ≡ Some row → (node : ℕ)
      → HasOver c.node_name (copying_row (node_size nodes row.id) (is_read_only c.options)) row.id None (disk_of nodes row.id) nodes new node
      → Middle (changed t (AddFilter (format_row kinds.CopyOnRead (free_id t) c.node_name row.size 0 (is_read_only c.options)) row.id)) new now.opened p
  whole-filter child e kept row found node has =
      let rest = rw e at (rest-asked t told c none) in
      let room : length t.nodes + 1 ≤ 64 = room-left t told 1 rest.1.1.0 in
      let new_row : NodeRecord = format_row kinds.CopyOnRead (free_id t) c.node_name row.size 0 (is_read_only c.options) in
      let own : Row = copying_row (node_size nodes row.id) (is_read_only c.options) in
      let size : new_row.size ≡ own.size = sym (size-alike t nodes row.id row was.alike (by-name child row found)) in
      let has' = subst (HasOver c.node_name own row.id None (disk_of nodes row.id) nodes new) (id-is room node has.lowest) has in
      subst (λ (o : List Opened). Middle (changed t (AddFilter new_row row.id)) new o p) (sym kept)
      (filter-step t nodes old.opened p was joined new_row (free_fresh t room) own
      (record { kind = refl; size = size; access = refl; place = refl; small = tt }) row.id (disk_of nodes row.id) new has')
