-- What additions do to nodes and files.
use Rattle.std.proofs.Common.{◌≡◌, ◌≢◌, ℕ, suc, ◌==◌, Bool, true, false, cond, List, [], ◌∷◌, ◌++◌, set, refl, sym, ◌∙◌, ap, subst, Option, Some, None}
use Rattle.std.specs.Prelude.{IsSome, find, option_map, option_and_then, slice_index_or, unwrap_or}
use Rattle.std.proofs.lemmas.Bool.{eq-eqb, false≢true, ne_eqb}
use Rattle.std.proofs.lemmas.List.{get_or-set_other}
use Rattle.blk_base.specs.declared.file.File.{File}
use Rattle.q2_format.specs.Contents.{file_disk, raw_disk, image_disk}
use Rattle.blk_graph.specs.Graph.{HasNode}
use Rattle.blk_graph.specs.declared.kind.Kind.{Kind}
use Rattle.blk_graph.specs.declared.kind.Kind.TheVariants.{Raw, Qcow2}
use Rattle.blk_nodes.specs.Contents.{disk_under, bytes_by, bytes_of, disk_down, disk_of, told}
use Rattle.blk_nodes.specs.Joined.{IsJoined}
use Rattle.blk_nodes.specs.Nodes.{DeviceSeen, Nodes, device_in, row_at}
use Rattle.blk_nodes.specs.declared.row.Row.{Row}
use Rattle.qmp_rules.specs.Asks.{stands_for, name_of_file}
use Rattle.qmp_rules.specs.Table.{RunTable, node_by_id}
use Rattle.qmp_rules.specs.declared.change.Change.TheVariants.{AddFile, AddFilter, AddFormat}
use Rattle.qmp_rules.specs.declared.rows.NodeRecord.{NodeRecord}
use Rattle.flat_machine.specs.Performing.{Performed, Puts, backing_reads, format_as, held_bytes}
use Rattle.flat_machine.specs.State.{State, filename_of}
use Rattle.flat_machine.proofs.Finds.{same-bytes_eq}
use Rattle.flat_machine.proofs.Fresh.{found-longer, found-new}
use Rattle.world_parts.specs.Adding.{Taken, of_node}
use Rattle.world_parts.specs.Face.{WorldSeen, contents_of, held, held_in_file, node_over, told_bytes}

-- ---- nodes

no-disk : (turns : ℕ) (nodes : Nodes) (node : ℕ) → row_at nodes node ≡ None → disk_down (suc turns) nodes node ≡ []
no-disk turns nodes node none = rw (none, disk_down) refl

pub disk-none : (nodes : Nodes) (node : ℕ) → row_at nodes node ≡ None → disk_of nodes node ≡ []
unfolding disk_of
disk-none nodes node none = no-disk 63 nodes node none

-- nodes that were there read as before, and where no node is nothing is read
pub reads-same : (nodes after : Nodes) (id : ℕ) (row : Row) → IsJoined nodes → after.rows ≡ set nodes.rows id (Some row)
    → ((other : ℕ) → HasNode nodes.graph other → disk_of after other ≡ disk_of nodes other)
    → (node : ℕ) → node ≢ id → disk_of after node ≡ disk_of nodes node
reads-same nodes after id row joined rows disks node other = by_row (row_at nodes node) refl
  where
    same : row_at after node ≡ row_at nodes node
    same = ap (λ (l : List (Option Row)). slice_index_or l node None) rows ∙ get_or-set_other nodes.rows id node (Some row) None other

    by_row : (found : Option Row) → row_at nodes node ≡ found → disk_of after node ≡ disk_of nodes node
    by_row None e = disk-none after node (same ∙ e) ∙ sym (disk-none nodes node e)
    by_row (Some found) e = disks node (joined.only node (subst IsSome (sym e) refl))

-- ---- files

device-behind : (devices : List DeviceSeen) (new : DeviceSeen) (node : ℕ) → node ≢ new.node
    → device_in (devices ++ new ∷ []) node ≡ device_in devices node
device-behind [] new node other = rw (ne_eqb new.node node (λ same. other (sym same))) refl
device-behind (d ∷ devices) new node other = by_test (d.node == node) (device-behind devices new node other)
  where
    by_test : (b : Bool) → device_in (devices ++ new ∷ []) node ≡ device_in devices node
        → cond b (Some d) (device_in (devices ++ new ∷ []) node) ≡ cond b (Some d) (device_in devices node)
    by_test true rest = refl
    by_test false rest = rest

-- a row that is found is that of a node that is there
id-at-head : (x : NodeRecord) (rows : List NodeRecord) (id : ℕ) (b : Bool) → (x.id == id) ≡ b
    → cond b (Some x) (find (λ r. r.id == id) rows) ≡ None → ((x.id == id) ≡ false) × (find (λ (r : NodeRecord). r.id == id) rows ≡ None)
id-at-head x rows id true e none = absurd (cc none)
id-at-head x rows id false e none = (e, none)

head-or-rest : (p : NodeRecord → Bool) (x : NodeRecord) (rows : List NodeRecord) (row : NodeRecord) (id : ℕ) (b : Bool)
    → cond b (Some x) (find p rows) ≡ Some row → (x.id == id) ≡ false → (find p rows ≡ Some row → row.id ≢ id) → row.id ≢ id
head-or-rest p x rows row id true is not rest = λ same.
    let here : x ≡ row = cc is in
    let yes : (x.id == id) ≡ true = eq-eqb x.id id (ap (λ (r : NodeRecord). r.id) here ∙ same) in
    false≢true (sym not ∙ yes)
head-or-rest p x rows row id false is not rest = rest is

has-id : (p : NodeRecord → Bool) (rows : List NodeRecord) (row : NodeRecord) (id : ℕ) → find p rows ≡ Some row
    → find (λ r. r.id == id) rows ≡ None → row.id ≢ id
has-id p [] row id found none = λ same. absurd (cc found)
has-id p (x ∷ rows) row id found none =
    let parts = id-at-head x rows id (x.id == id) refl none in
    head-or-rest p x rows row id (p x) found parts.0 (λ later. has-id p rows row id later parts.1)

-- ---- a `file` node

module _ (w v : WorldSeen) (joined : IsJoined w.nodes) (record' : NodeRecord) (row : Row) (filename : List ℕ) (device : Taken)
    (rows : v.table.nodes ≡ w.table.nodes ++ record' ∷ []) (named : record'.filename ≡ Some filename)
    (fresh : node_by_id w.table record'.id ≡ None) (absent : row_at w.nodes record'.id ≡ None)
    (closed : find (stands_for filename) w.table.nodes ≡ None)
    (after : v.nodes.rows ≡ set w.nodes.rows record'.id (Some row))
    (devices : v.nodes.devices ≡ w.nodes.devices ++ of_node record'.id device ∷ []) (files : v.files ≡ w.files)
    (content : device.content ≡ told_bytes w.files filename) where
  no_device : device_in w.nodes.devices record'.id ≡ None
  no_device = by_found (device_in w.nodes.devices record'.id) refl
    where
      by_found : (found : Option DeviceSeen) → device_in w.nodes.devices record'.id ≡ found → found ≡ None
      by_found None e = refl
      by_found (Some d) e =
          let is_file = joined.devices record'.id (subst IsSome (sym e) refl) in
          let bad : Some is_file.row ≡ None = sym is_file.there ∙ absent in
          absurd (cc bad)

  own_device : device_in v.nodes.devices record'.id ≡ Some (of_node record'.id device)
  own_device =
      ap (λ (l : List DeviceSeen). device_in l record'.id) devices
      ∙ device-new w.nodes.devices no_device
    where
      device-new : (l : List DeviceSeen) → device_in l record'.id ≡ None
          → device_in (l ++ of_node record'.id device ∷ []) record'.id ≡ Some (of_node record'.id device)
      device-new [] none = rw (eq-eqb record'.id record'.id refl) refl
      device-new (d ∷ l) none = by_test (d.node == record'.id) none (device-new l)
        where
          by_test : (b : Bool) → cond b (Some d) (device_in l record'.id) ≡ None
              → (device_in l record'.id ≡ None → device_in (l ++ of_node record'.id device ∷ []) record'.id ≡ Some (of_node record'.id device))
              → cond b (Some d) (device_in (l ++ of_node record'.id device ∷ []) record'.id) ≡ Some (of_node record'.id device)
          by_test true none rest = absurd (cc none)
          by_test false none rest = rest none

  over-found : (name : List ℕ) (found : NodeRecord) → find (stands_for name) w.table.nodes ≡ Some found
      → find (stands_for name) v.table.nodes ≡ Some found
  over-found name found e = ap (find (stands_for name)) rows ∙ found-longer (stands_for name) w.table.nodes record' found e

  over-new : (name : List ℕ) → find (stands_for name) w.table.nodes ≡ None → stands_for name record' ≡ true
      → find (stands_for name) v.table.nodes ≡ Some record'
  over-new name none is = ap (find (stands_for name)) rows ∙ found-new (stands_for name) w.table.nodes record' none is

  over-none : (name : List ℕ) → find (stands_for name) w.table.nodes ≡ None → stands_for name record' ≡ false
      → find (stands_for name) v.table.nodes ≡ None
  over-none name none not = ap (find (stands_for name)) rows ∙ behind w.table.nodes none
    where
      behind : (l : List NodeRecord) → find (stands_for name) l ≡ None → find (stands_for name) (l ++ record' ∷ []) ≡ None
      behind [] none = rw not refl
      behind (x ∷ l) none = by_test (stands_for name x) none (behind l)
        where
          by_test : (b : Bool) → cond b (Some x) (find (stands_for name) l) ≡ None → (find (stands_for name) l ≡ None → find (stands_for name) (l ++ record' ∷ []) ≡ None)
              → cond b (Some x) (find (stands_for name) (l ++ record' ∷ [])) ≡ None
          by_test true none rest = absurd (cc none)
          by_test false none rest = rest none

  pub held-filed : (name : List ℕ) → held v name ≡ held w name
  held-filed name = by_over (find (stands_for name) w.table.nodes) refl
    where
      over_is : (face : WorldSeen) (found : Option NodeRecord) → find (stands_for name) face.table.nodes ≡ found
          → held face name ≡ held_in_file face name (option_map (λ row. row.id) found)
      over_is face found e = ap (λ (f : Option NodeRecord). held_in_file face name (option_map (λ (r : NodeRecord). r.id) f)) e

      by_stands : (b : Bool) → stands_for name record' ≡ b → find (stands_for name) w.table.nodes ≡ None → held v name ≡ held w name
      by_stands true is none =
          let same : filename ≡ name = same-bytes_eq filename name (rw named at is) in
          over_is v (Some record') (over-new name none is)
          ∙ ap (option_and_then (λ (d : DeviceSeen). d.content)) own_device ∙ content ∙ ap (told_bytes w.files) same
          ∙ sym (over_is w None none)
      by_stands false not none =
          over_is v None (over-none name none not) ∙ ap (λ (f : Option (List File)). told_bytes f name) files ∙ sym (over_is w None none)

      by_over : (found : Option NodeRecord) → find (stands_for name) w.table.nodes ≡ found → held v name ≡ held w name
      by_over None e = by_stands (stands_for name record') refl e
      by_over (Some found) e =
          let other : found.id ≢ record'.id = has-id (stands_for name) w.table.nodes found record'.id e fresh in
          over_is v (Some found) (over-found name found e)
          ∙ ap (option_and_then (λ (d : DeviceSeen). d.content))
          (ap (λ (l : List DeviceSeen). device_in l found.id) devices ∙ device-behind w.nodes.devices (of_node record'.id device) found.id other)
          ∙ sym (over_is w (Some found) e)

  held-own : held w filename ≡ told_bytes w.files filename
  held-own = ap (λ (f : Option NodeRecord). held_in_file w filename (option_map (λ (r : NodeRecord). r.id) f)) closed

  pub performed-file : (s : State) → record'.size ≡ row.size
      → ((other : ℕ) → HasNode w.nodes.graph other → disk_of v.nodes other ≡ disk_of w.nodes other)
      → disk_of v.nodes record'.id ≡ file_disk row.size (told device.content) → Performed s (AddFile record') (contents_of w) (contents_of v)
  performed-file s size disks disk = record {
    nodes = λ node other. reads-same w.nodes v.nodes record'.id row joined after disks node other;
    files = λ name but. held-filed name;
    reads_as =
        let bytes : held_bytes (contents_of w) (name_of_file record') ≡ told device.content =
        ap (λ (f : Option (List ℕ)). held_bytes (contents_of w) (unwrap_or f [])) named
        ∙ ap (λ (b : Option (List ℕ)). unwrap_or b []) (held-own ∙ sym content) ∙ told-is device.content in
        disk ∙ ap (λ (n : ℕ). file_disk n (told device.content)) (sym size) ∙ ap (file_disk record'.size) (sym bytes);
  }
    where
      told-is : (found : Option (List ℕ)) → unwrap_or found [] ≡ told found
      told-is None = refl
      told-is (Some bytes) = refl

-- ---- a node over others

module _ (w v : WorldSeen) (joined : IsJoined w.nodes) (record' : NodeRecord) (row : Row)
    (over : (name : List ℕ) → node_over v.table name ≡ node_over w.table name)
    (after : v.nodes.rows ≡ set w.nodes.rows record'.id (Some row)) (devices : v.nodes.devices ≡ w.nodes.devices) (files : v.files ≡ w.files)
    (disks : (other : ℕ) → HasNode w.nodes.graph other → disk_of v.nodes other ≡ disk_of w.nodes other) where
  held-over : (name : List ℕ) → held v name ≡ held w name
  held-over name = ap (held_in_file v name) (over name) ∙ by_node (node_over w.table name)
    where
      by_node : (found : Option ℕ) → held_in_file v name found ≡ held_in_file w name found
      by_node None = ap (λ (f : Option (List File)). told_bytes f name) files
      by_node (Some node) = ap (λ (l : List DeviceSeen). option_and_then (λ (d : DeviceSeen). d.content) (device_in l node)) devices

  puts : (bytes : List ℕ) → disk_of v.nodes record'.id ≡ bytes → Puts record'.id bytes (contents_of w) (contents_of v)
  puts bytes disk = record {
    nodes = λ node other. reads-same w.nodes v.nodes record'.id row joined after disks node other;
    files = λ name but. held-over name;
    reads_as = disk;
  }

  pub performed-filter : (s : State) (child : ℕ) → disk_of v.nodes record'.id ≡ disk_of w.nodes child
      → Performed s (AddFilter record' child) (contents_of w) (contents_of v)
  performed-filter s child disk = puts (disk_of w.nodes child) disk

  pub performed-part : (s : State) (file : ℕ) → record'.kind ≡ Raw
      → disk_of v.nodes record'.id ≡ raw_disk record'.offset record'.size (disk_of w.nodes file)
      → Performed s (AddFormat record' file None) (contents_of w) (contents_of v)
  performed-part s file kind disk =
      subst (λ (k : Kind). Puts record'.id (format_as s (contents_of w) record' file None k) (contents_of w) (contents_of v)) (sym kind)
      (puts (raw_disk record'.offset record'.size (disk_of w.nodes file)) disk)

  pub performed-image : (s : State) (file : ℕ) (backing : Option ℕ) (filename : List ℕ) → record'.kind ≡ Qcow2
      → s.table ≡ w.table → filename_of w.table file ≡ Some filename → node_over w.table filename ≡ Some file
      → disk_of v.nodes record'.id ≡ image_disk (bytes_of w.nodes file) (disk_under (disk_of w.nodes) backing)
      → Performed s (AddFormat record' file backing) (contents_of w) (contents_of v)
  performed-image s file backing filename kind table named alone disk =
      let bytes : held_bytes (contents_of w) (unwrap_or (filename_of s.table file) []) ≡ bytes_of w.nodes file =
      ap (λ (t : RunTable). held_bytes (contents_of w) (unwrap_or (filename_of t file) [])) table
      ∙ ap (λ (f : Option (List ℕ)). held_bytes (contents_of w) (unwrap_or f [])) named
      ∙ ap (λ (f : Option ℕ). unwrap_or (held_in_file w filename f) []) alone ∙ content-is (device_in w.nodes.devices file) in
      let reads : backing_reads (contents_of w) backing ≡ disk_under (disk_of w.nodes) backing = backing-is backing in
      subst (λ (k : Kind). Puts record'.id (format_as s (contents_of w) record' file backing k) (contents_of w) (contents_of v)) (sym kind)
      (puts (image_disk (held_bytes (contents_of w) (unwrap_or (filename_of s.table file) [])) (backing_reads (contents_of w) backing))
      (disk ∙ ap (λ (b : List ℕ). image_disk b (disk_under (disk_of w.nodes) backing)) (sym bytes)
      ∙ ap (image_disk (held_bytes (contents_of w) (unwrap_or (filename_of s.table file) []))) (sym reads)))
    where
      content-is : (found : Option DeviceSeen) → unwrap_or (option_and_then (λ (d : DeviceSeen). d.content) found) [] ≡ bytes_by found
      content-is None = refl
      content-is (Some d) = by_content d.content
        where
          by_content : (c : Option (List ℕ)) → unwrap_or c [] ≡ told c
          by_content None = refl
          by_content (Some b) = refl

      backing-is : (found : Option ℕ) → backing_reads (contents_of w) found ≡ disk_under (disk_of w.nodes) found
      backing-is None = refl
      backing-is (Some node) = refl
