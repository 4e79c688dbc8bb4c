-- What the rows of qcow2 nodes say of their images is so of the files that are held.
use Rattle.std.proofs.Common.{◌≡◌, ℕ, ◌<◌, Bool, true, false, List, refl, sym, ap, subst, ◌∙◌, Option, Some, None}
use Rattle.std.specs.Prelude.{◌==◌, IsSome, option_and_then}
use Rattle.std.proofs.lemmas.Bool.{eqb-true}
use Rattle.q2_format.specs.Sizes.{cluster_size, clusters_for}
use Rattle.q2_format.specs.declared.header.Header.{Header}
use Rattle.q2_format.specs.declared.entries.L2Entry.{L2Entry}
use Rattle.q2_format.specs.declared.entries.L2Entry.TheVariants as entries
use Rattle.q2_image.specs.Image.{Known, IsImageOf, IsOpen, clusters_in, entry_in}
use Rattle.q2_image.specs.Writing.{HasHeaderOf}
use Rattle.q2_image.proofs.Mapped.{entry_of_file, below_words}
use Rattle.blk_graph.specs.declared.edge.Parent.TheVariants.{Node}
use Rattle.blk_graph.specs.declared.edge.Role.TheVariants.{File as FileRole}
use Rattle.blk_graph.specs.declared.kind.Kind.TheVariants as kinds
use Rattle.blk_graph.specs.Edits.{child_of}
use Rattle.blk_graph.proofs.Members.{find-Some}
use Rattle.qmp_rules.specs.declared.rows.NodeRecord.{NodeRecord}
use Rattle.qmp_rules.specs.Table.{RunTable, node_by_id, child}
use Rattle.blk_nodes.specs.Joined.{IsJoined, IsFile, IsOverlay, HasBelow}
use Rattle.blk_nodes.specs.Nodes.{Nodes, DeviceSeen, row_at, device_in, file_of, driver_kind}
use Rattle.blk_nodes.specs.Writing.{StaysMapped}
use Rattle.blk_nodes.specs.declared.row.Driver.{Driver}
use Rattle.blk_nodes.specs.declared.row.Driver.TheVariants as drivers
use Rattle.blk_nodes.specs.declared.row.Row.{Row}
use Rattle.flat_machine.specs.State.{filename_of}
use Rattle.flat_machine.specs.Changed.{own_filename}
use Rattle.flat_machine.specs.Writing.{written_file}
use Rattle.flat_machine.specs.Wiring.{TableStands}
use Rattle.flat_machine.specs.Imaging.{maps_some, is_qcow2_at}
use Rattle.flat_machine.proofs.Mapping.{clusters_of_file, maps-none, none-mapped}
use Rattle.flat_machine.proofs.ImagesKept.{image_in_file, qcow2_row}
use Rattle.world_parts.specs.Coherent.{AreNodesOf, AreAlike, IsRowOf}
use Rattle.world_parts.specs.Face.{node_over}
use Rattle.world_parts.proofs.OverFiles.{over}
use Rattle.world_parts.proofs.JobFilters.{no_image}

-- ---- an image and its file

clusters-same : (file : List ℕ) (image : Known) → IsImageOf file image → clusters_of_file file ≡ clusters_in image
clusters-same file image is = ap (λ (h : Header). clusters_for (cluster_size h.cluster_bits) h.size) is.header

-- the header but for the autoclear field tells how many clusters there are
clusters-kept : (image now : Known) → HasHeaderOf image now → clusters_in now ≡ clusters_in image
clusters-kept image now same = ap (λ (h : Header). clusters_for (cluster_size h.cluster_bits) h.size) same

-- no cluster has an entry, in memory and in the file
abbrev pub IsEmpty : Known → Type 0
IsEmpty image = (cluster : ℕ) → cluster < clusters_in image → entry_in image cluster ≡ entries.Unallocated

pub empty_file : (file : List ℕ) (image : Known) → IsImageOf file image → IsOpen image → IsEmpty image → maps_some file ≡ false
empty_file file image is opened none = maps-none file (λ cluster below.
    let within = subst (λ (n : ℕ). cluster < n) (clusters-same file image is) below in
    entry_of_file file image cluster is (below_words image cluster opened within) ∙ none cluster within)

pub file_empty : (file : List ℕ) (image : Known) → IsImageOf file image → IsOpen image → maps_some file ≡ false → IsEmpty image
file_empty file image is opened none cluster within =
    let below = subst (λ (n : ℕ). cluster < n) (sym (clusters-same file image is)) within in
    sym (entry_of_file file image cluster is (below_words image cluster opened within)) ∙ none-mapped file none cluster below

-- where it mapped a cluster it does
pub still_mapped : (before after : List ℕ) (image now : Known) → IsImageOf before image → IsOpen image → IsImageOf after now → IsOpen now
    → HasHeaderOf image now → StaysMapped image now → maps_some before ≡ true → maps_some after ≡ true
still_mapped before after image now was opened is opened_now header keeps some = by_test (maps_some after) refl
  where
    entry-by : (cluster : ℕ) (entry : L2Entry) → entry_in image cluster ≡ entry → entry_in now cluster ≡ entries.Unallocated
        → entry_in image cluster ≡ entries.Unallocated
    entry-by cluster entries.Unallocated e gone = e
    entry-by cluster (entries.Zero host) e gone = absurd (keeps cluster (λ same. let bad : ⊥ = cc (sym e ∙ same) in bad) gone)
    entry-by cluster (entries.Host host) e gone = absurd (keeps cluster (λ same. let bad : ⊥ = cc (sym e ∙ same) in bad) gone)
    entry-by cluster entries.Compressed e gone = absurd (keeps cluster (λ same. let bad : ⊥ = cc (sym e ∙ same) in bad) gone)
    entry-by cluster entries.Reserved e gone = absurd (keeps cluster (λ same. let bad : ⊥ = cc (sym e ∙ same) in bad) gone)

    by_test : (b : Bool) → maps_some after ≡ b → maps_some after ≡ true
    by_test true e = e
    by_test false e =
        let none = file_empty after now is opened_now e in
        let gone : maps_some before ≡ false =
        empty_file before image was opened
        (λ cluster within. entry-by cluster (entry_in image cluster) refl
        (none cluster (subst (λ (n : ℕ). cluster < n) (sym (clusters-kept image now header)) within))) in
        absurd (let bad : ⊥ = cc (sym some ∙ gone) in bad)

-- ---- the image of a qcow2 node

pub record HasImageFile (t : RunTable) (nodes : Nodes) (node : ℕ) (name : List ℕ) : Type 0 where
  pub file : ℕ
  pub row : Row
  pub image : Known
  pub there : row_at nodes node ≡ Some row
  pub driver : row.driver ≡ drivers.Qcow2 image
  pub over_it : node_over t name ≡ Some file
  pub has_device : IsSome (device_in nodes.devices file)
  pub opened : IsOpen image
  pub known : (device : DeviceSeen) (bytes : List ℕ) → device_in nodes.devices file ≡ Some device → device.content ≡ Some bytes
      → IsImageOf bytes image

module _ (t : RunTable) (nodes : Nodes) (alike : AreNodesOf t nodes) (joined : IsJoined nodes) (stands : TableStands t) where
  row-by : (node : ℕ) (record' : NodeRecord) → node_by_id t node ≡ Some record' → (found : Option Row) → row_at nodes node ≡ found
      → (row : Row) × (row_at nodes node ≡ Some row) × IsRowOf record' row
  row-by node record' at None e =
      absurd (subst (λ (a : Option NodeRecord). AreAlike a None) at (subst (AreAlike (node_by_id t node)) e (alike.rows node)))
  row-by node record' at (Some row) e =
      (row, e, subst (λ (a : Option NodeRecord). AreAlike a (Some row)) at (subst (AreAlike (node_by_id t node)) e (alike.rows node)))

  qcow2-driver : (driver : Driver) → driver_kind driver ≡ kinds.Qcow2 → (image : Known) × (driver ≡ drivers.Qcow2 image)
  qcow2-driver drivers.File is = absurd (let bad : ⊥ = cc is in bad)
  qcow2-driver (drivers.Raw part) is = absurd (let bad : ⊥ = cc is in bad)
  qcow2-driver (drivers.Qcow2 image) is = (image, refl)
  qcow2-driver drivers.CopyOnRead is = absurd (let bad : ⊥ = cc is in bad)
  qcow2-driver (drivers.Filter kind) is = absurd (no_image kind is)

  -- its row, and the image in it
  row_of : (node : ℕ) → is_qcow2_at t node ≡ true
      → (row : Row) × (image : Known) × (row_at nodes node ≡ Some row) × (row.driver ≡ drivers.Qcow2 image) × IsOverlay nodes node image
  row_of node image =
      let own = qcow2_row t node image in
      let row = row-by node own.0 own.1 (row_at nodes node) refl in
      let driver = qcow2-driver row.0.driver (sym row.2.kind ∙ own.2) in
      (row.0, driver.0, row.1, driver.1, subst (HasBelow nodes node row.0.size) driver.1 (joined.below node row.0 row.1))

  has-device : (file : ℕ) → IsFile nodes file → IsSome (device_in nodes.devices file)
  has-device file is = subst (HasBelow nodes file is.row.size) is.driver (joined.below file is.row is.there)

  child-is : (node file : ℕ) → file_of nodes node ≡ Some file → child t node FileRole ≡ Some file
  child-is node file edge = sym (ap (child_of (Node node) FileRole) alike.edges) ∙ edge

  -- it is over a `file` node with a device
  pub image_file : (node : ℕ) (name : List ℕ) → is_qcow2_at t node ≡ true → written_file t node ≡ Some name → HasImageFile t nodes node name
  image_file node name image is =
      let of = image_in_file t stands.apart stands.drivers node name image is in
      let row = row_of node image in
      let same : row.4.file ≡ of.under.id = cc (sym (child-is node row.4.file row.4.edge) ∙ of.below) in
      let named : filename_of t of.under.id ≡ Some name =
      ap (option_and_then (λ (r : NodeRecord). r.filename)) (stands.apart of.under of.there) ∙ of.filename in
      record {
        file = row.4.file;
        row = row.0;
        image = row.1;
        there = row.2;
        driver = row.3;
        over_it = over t stands.alone name of.under.id named ∙ ap (λ (n : ℕ). Some n) (sym same);
        has_device = has-device row.4.file row.4.is_file;
        opened = row.4.opened;
        known = row.4.known;
      }

  -- and writes its file
  pub image_written : (node : ℕ) → is_qcow2_at t node ≡ true → (name : List ℕ) × (written_file t node ≡ Some name)
  image_written node image =
      let own = qcow2_row t node image in
      let row = row_of node image in
      by_file row.4.file (child-is node row.4.file row.4.edge) row.4.is_file own.0 own.1 own.2
    where
      named-by : (record' : NodeRecord) → IsSome record'.filename → (name : List ℕ) × (record'.filename ≡ Some name)
      named-by record' some = by_name record'.filename refl some
        where
          by_name : (filename : Option (List ℕ)) → record'.filename ≡ filename → IsSome filename → (name : List ℕ) × (record'.filename ≡ Some name)
          by_name None e bad = absurd (let no : ⊥ = cc bad in no)
          by_name (Some name) e some = (name, e)

      at-file : (file : ℕ) → IsFile nodes file → (found : Option NodeRecord) → node_by_id t file ≡ found
          → (name : List ℕ) × (filename_of t file ≡ Some name)
      at-file file is None e =
          absurd (subst (λ (b : Option Row). AreAlike None b) is.there (subst (λ (a : Option NodeRecord). AreAlike a (row_at nodes file)) e (alike.rows file)))
      at-file file is (Some under) e =
          let like : IsRowOf under is.row =
          subst (λ (b : Option Row). AreAlike (Some under) b) is.there (subst (λ (a : Option NodeRecord). AreAlike a (row_at nodes file)) e (alike.rows file)) in
          let there = find-Some (λ (r : NodeRecord). r.id == file) t.nodes under e in
          let named = named-by under (stands.names under there.0 (like.kind ∙ ap driver_kind is.driver)) in
          (named.0, ap (option_and_then (λ (r : NodeRecord). r.filename)) e ∙ named.1)

      by_file : (file : ℕ) → child t node FileRole ≡ Some file → IsFile nodes file → (own : NodeRecord) → node_by_id t node ≡ Some own
          → own.kind ≡ kinds.Qcow2 → (name : List ℕ) × (written_file t node ≡ Some name)
      by_file file below is own at kind =
          let named = at-file file is (node_by_id t file) refl in
          let id_is : own.id ≡ node = eqb-true own.id node (find-Some (λ (r : NodeRecord). r.id == node) t.nodes own at).1 in
          (named.0, written-by named.0 own at kind id_is (ap (option_and_then (filename_of t)) (ap (λ (n : ℕ). child t n FileRole) id_is ∙ below) ∙ named.1))
        where
          written-by : (name : List ℕ) (own : NodeRecord) → node_by_id t node ≡ Some own → own.kind ≡ kinds.Qcow2 → own.id ≡ node
              → option_and_then (filename_of t) (child t own.id FileRole) ≡ Some name → written_file t node ≡ Some name
          written-by name own at kind id_is is =
              ap (option_and_then (λ (r : NodeRecord). own_filename t r r.kind)) at ∙ ap (own_filename t own) kind ∙ is
