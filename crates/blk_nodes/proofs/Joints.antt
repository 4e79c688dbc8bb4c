-- The rows, edges and devices of the nodes belong together, also after counts of devices have risen.
use Rattle.std.proofs.Common.{◌≡◌, ℕ, ◌/◌, ◌<◌, List, [], ◌∷◌, length, map, get_or, replicate, Option, Some, None, refl, sym, ◌∙◌, ap, arith, inl, inr}
use Rattle.std.specs.Prelude.{IsSome, AllPairs}
use Rattle.blk_graph.proofs.NodeLemmas.{IsSound-none}
use Rattle.std.proofs.lemmas.List.{length-replicate, length-map, get_or-map, get_or_past, get_or-replicate}
use Rattle.std.proofs.lemmas.Bool.{cases_lt}
use Rattle.q2_format.specs.declared.entries.L2Entry.{L2Entry}
use Rattle.q2_format.specs.declared.entries.L2Entry.TheVariants as entries
use Rattle.q2_image.specs.Image.{Known, IsImageOf, cluster_size_in, entry_in}
use Rattle.blk_nodes.specs.Nodes.{Nodes, DeviceSeen, no_nodes, row_at, device_in, size_by, node_size, file_of, backing_of, filtered_of}
use Rattle.blk_nodes.specs.Joined.{IsFile, HasSize, IsPartOfFile, IsOverlay, IsCopying, IsFiltering, HasBelow, IsJoined, DifferInNode}
use Rattle.blk_nodes.specs.Reading.{HaveRisen}
use Rattle.blk_nodes.specs.Sources.{in_below, step_by_entry, step_by, step_of}
use Rattle.blk_nodes.specs.Walk.{GoesDown}
use Rattle.blk_nodes.specs.declared.row.Driver.{Driver}
use Rattle.blk_nodes.specs.declared.row.Driver.TheVariants.{File, Raw, Qcow2, CopyOnRead, Filter}
use Rattle.blk_nodes.specs.declared.row.Row.{Row}
use Rattle.blk_nodes.specs.declared.source.Source.TheVariants.{Zeros}
use Rattle.blk_nodes.specs.declared.source.Step.{Step}
use Rattle.blk_nodes.specs.declared.source.Step.TheVariants.{Found}
use Rattle.blk_nodes.proofs.HeldDevices.{before_rise, held_after, held_before}

-- the same nodes have devices, one each
nodes_after : (old new : List DeviceSeen) → HaveRisen old new → map (λ (d : DeviceSeen). d.node) new ≡ map (λ (d : DeviceSeen). d.node) old
nodes_after [] [] risen = refl
nodes_after (a ∷ old) (b ∷ new) risen =
    ap (λ (n : ℕ). n ∷ map (λ (d : DeviceSeen). d.node) new) (ap (λ (d : DeviceSeen). d.node) risen.0.same)
    ∙ ap (λ (ns : List ℕ). a.node ∷ ns) (nodes_after old new risen.1)
nodes_after [] (b ∷ new) risen = absurd risen
nodes_after (a ∷ old) [] risen = absurd risen

pub once_by_nodes : (old new : List DeviceSeen) → map (λ (d : DeviceSeen). d.node) new ≡ map (λ (d : DeviceSeen). d.node) old
    → AllPairs DifferInNode old → AllPairs DifferInNode new
once_by_nodes old new lists once i j d below within same =
    let f : DeviceSeen → ℕ = λ d. d.node in
    let lengths : length new ≡ length old = sym (length-map new f) ∙ ap length lists ∙ length-map old f in
    let in_old : j < length old = omega (arith, within, lengths) in
    let node_at : (k : ℕ) → k < length new → (get_or new k d).node ≡ (get_or old k d).node
    = λ k less.
    sym (get_or-map f new k d d.node less) ∙ ap (λ (ns : List ℕ). get_or ns k d.node) lists
    ∙ get_or-map f old k d d.node (omega (arith, less, lengths)) in
    once i j d below in_old (sym (node_at i (omega (arith, below, within))) ∙ same ∙ node_at j within)

once_after : (old new : List DeviceSeen) → HaveRisen old new → AllPairs DifferInNode old → AllPairs DifferInNode new
once_after old new risen = once_by_nodes old new (nodes_after old new risen)

module _ (nodes : Nodes) (new : List DeviceSeen) (risen : HaveRisen nodes.devices new) where
  abbrev after : Nodes
  after = record nodes { devices = new }

  file_after : (file : ℕ) → IsFile nodes file → IsFile after file
  file_after file is = record { row = is.row; there = is.there; driver = is.driver }

  size_after : (node size : ℕ) → HasSize nodes node size → HasSize after node size
  size_after node size has = record { row = has.row; there = has.there; is = has.is }

  known_after : (file : ℕ) (image : Known)
      → ((device : DeviceSeen) (bytes : List ℕ) → device_in nodes.devices file ≡ Some device → device.content ≡ Some bytes → IsImageOf bytes image)
      → (device : DeviceSeen) (bytes : List ℕ) → device_in new file ≡ Some device → device.content ≡ Some bytes → IsImageOf bytes image
  known_after file image known device bytes held told =
      let b = before_rise file nodes.devices new device risen held in
      known b.0 bytes b.1 (sym (ap (λ (d : DeviceSeen). d.content) b.2.same) ∙ told)

  below_after : (node size : ℕ) (driver : Driver) → HasBelow nodes node size driver → HasBelow after node size driver
  below_after node size File is = held_after node nodes.devices new risen is
  below_after node size (Raw part) is = record { file = is.file; edge = is.edge; is_file = file_after is.file is.is_file; within = is.within }
  below_after node size (Qcow2 image) is = record {
    file = is.file;
    edge = is.edge;
    is_file = file_after is.file is.is_file;
    opened = is.opened;
    known = known_after is.file image is.known;
    backing = λ over edge. size_after over image.header.size (is.backing over edge);
  }
  below_after node size CopyOnRead is = record { child = is.child; edge = is.edge; same = size_after is.child size is.same }
  below_after node size (Filter kind) is = λ child edge. size_after child size (is child edge)

  pub joined_after : IsJoined nodes → IsJoined after
  joined_after is = record {
    rows = is.rows;
    sound = is.sound;
    kinds = is.kinds;
    there = is.there;
    only = is.only;
    sized = is.sized;
    below = λ node row there. below_after node row.size row.driver (is.below node row there);
    devices = λ node held. file_after node (is.devices node (held_before node nodes.devices new risen held));
    once = once_after nodes.devices new risen is.once;
  }

no_row : (n k : ℕ) → get_or (replicate {A = Option Row} n None) k None ≡ None
no_row n k = let len = length-replicate {A = Option Row} n None in elim (cases_lt k n) [ inl below ↦ get_or-replicate n k None None below | inr past ↦ get_or_past (replicate n None) k None (omega arith) ]

pub joined_none : IsJoined no_nodes
joined_none = record {
  rows = length-replicate {A = Option Row} 64 None;
  sound = IsSound-none;
  kinds = λ node row there. absurd (nowhere (sym there ∙ no_row 64 node));
  there = λ node has. absurd (omega (arith, has.1));
  only = λ node some. absurd (none some (no_row 64 node));
  sized = λ node row there. absurd (nowhere (sym there ∙ no_row 64 node));
  below = λ node row there. absurd (nowhere (sym there ∙ no_row 64 node));
  devices = λ node some. absurd (cc some);
  once = λ i j d below within. absurd (omega (arith, within));
}
  where
    none : {found : Option Row} → IsSome found → found ≡ None → ⊥
    none some is = let bad = rw is at some in absurd (cc bad)

    nowhere : {row : Row} → Some row ≡ None → ⊥
    nowhere is = absurd (cc is)

-- Down the chain.

pub held_by : (nodes : Nodes) (file : ℕ) → IsJoined nodes → IsFile nodes file → IsSome (device_in nodes.devices file)
held_by nodes file joined is =
    let below = joined.below file is.row is.there in
    rw is.driver at below

mapped_on : (nodes : Nodes) (node place : ℕ) (row : Row) (image : Known) (entry : L2Entry) → IsJoined nodes → row_at nodes node ≡ Some row → row.driver ≡ Qcow2 image → image.header.size ≡ row.size
    → place < row.size → IsOverlay nodes node image → entry_in image (place / cluster_size_in image) ≡ entry → GoesDown nodes place (step_by_entry node (file_of nodes node) (backing_of nodes node) entry)
mapped_on nodes node place row image entries.Unallocated joined there driver size below is entry = over_backing (backing_of nodes node) refl
  where
    over_backing : (backing : Option ℕ) → backing_of nodes node ≡ backing → GoesDown nodes place (in_below backing)
    over_backing None e = tt
    over_backing (Some next) e =
        let has = is.backing next e in
        rw has.there (omega (arith, has.is, size, below))
mapped_on nodes node place row image (entries.Zero host) joined there driver size below is entry = tt
mapped_on nodes node place row image (entries.Host host) joined there driver size below is entry =
    rw is.edge record {
      row = row;
      image = image;
      there = there;
      driver = driver;
      inside = omega (arith, size, below);
      host = rw entry tt;
      held = held_by nodes is.file joined is.is_file;
      known = is.known;
    }
mapped_on nodes node place row image entries.Compressed joined there driver size below is entry = tt
mapped_on nodes node place row image entries.Reserved joined there driver size below is entry = tt

pub goes_by : (nodes : Nodes) (node place : ℕ) (row : Row) (driver : Driver) → IsJoined nodes → row_at nodes node ≡ Some row → row.driver ≡ driver → place < row.size
    → GoesDown nodes place (step_by node (file_of nodes node) (backing_of nodes node) (filtered_of nodes node) place driver)
goes_by nodes node place row File joined there driver below = rw driver at (joined.below node row there)
goes_by nodes node place row (Raw part) joined there driver below =
    let is : IsPartOfFile nodes node part.offset part.size = rw driver at (joined.below node row there) in
    rw is.edge (held_by nodes is.file joined is.is_file)
goes_by nodes node place row (Qcow2 image) joined there driver below =
    let is : IsOverlay nodes node image = rw driver at (joined.below node row there) in
    let size : image.header.size ≡ row.size = rw driver at (joined.sized node row there) in
    mapped_on nodes node place row image (entry_in image (place / cluster_size_in image)) joined there driver size below is refl
goes_by nodes node place row CopyOnRead joined there driver below =
    let is : IsCopying nodes node row.size = rw driver at (joined.below node row there) in
    let has = is.same in
    rw (is.edge, has.there) (omega (arith, has.is, below))
goes_by nodes node place row (Filter kind) joined there driver below = over_child (filtered_of nodes node) refl
  where
    is : IsFiltering nodes node row.size
    is = rw driver at (joined.below node row there)

    over_child : (child : Option ℕ) → filtered_of nodes node ≡ child → GoesDown nodes place (in_below child)
    over_child None e = tt
    over_child (Some next) e = let has = is next e in rw has.there (omega (arith, has.is, below))

pub goes_on : (nodes : Nodes) (node place : ℕ) → IsJoined nodes → place < node_size nodes node → GoesDown nodes place (step_of nodes node place)
goes_on nodes node place joined below = by_row (row_at nodes node) refl below
  where
    by_row : (found : Option Row) → row_at nodes node ≡ found → place < size_by found
        → GoesDown nodes place (elim found as (λ _. Step) [
          | None ↦ Found Zeros
          | Some row ↦ step_by node (file_of nodes node) (backing_of nodes node) (filtered_of nodes node) place row.driver
        ])
    by_row None is inside = absurd (omega (arith, inside))
    by_row (Some row) is inside = goes_by nodes node place row row.driver joined is refl inside

-- a row has one image
pub same_image : (a b : Row) (x y : Known) → Some a ≡ Some b → a.driver ≡ Qcow2 x → b.driver ≡ Qcow2 y → x ≡ y
same_image a b x y rows first second =
    let row : a ≡ b = cc in
    let driver : Qcow2 x ≡ Qcow2 y = sym first ∙ ap (λ (r : Row). r.driver) row ∙ second in
    cc
