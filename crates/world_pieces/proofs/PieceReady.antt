-- A node that a guest's device is on can be asked for a piece, and what doesn't read it is apart from it.
use Rattle.std.proofs.Common.{◌≡◌, ℕ, ◌+◌, ◌-◌, ◌*◌, ◌/◌, ◌<◌, ◌≤◌, ◌==◌, min, max, cond, Bool, true, false, not, List, [], ◌∷◌, Option, Some, None, refl, sym, ◌∙◌, ap, subst, inl, inr, arith}
use Rattle.std.specs.Prelude.{IsSome, Contains, option_map, unwrap_or}
use Rattle.std.proofs.lemmas.Bool.{false≢true}
use Rattle.blk_base.specs.Pieces.{Extent, end_of, count_of_pieces, piece_of}
use Rattle.blk_base.specs.declared.file.Opened.{Opened}
use Rattle.trace_codec.specs.Request.{pieces_of}
use Rattle.trace_codec.specs.declared.op.Op.{Op}
use Rattle.trace_codec.specs.declared.op.Op.TheVariants.{Read, Write, Zero, Flush, Discard}
use Rattle.blk_graph.specs.Edits.{child_of, without_parent}
use Rattle.blk_graph.specs.Paths.{IsPath, Reaches}
use Rattle.blk_graph.specs.declared.edge.Edge.{Edge}
use Rattle.blk_graph.specs.declared.edge.Parent.TheVariants.{Node}
use Rattle.blk_graph.specs.declared.edge.Role.{Role}
use Rattle.blk_graph.specs.declared.edge.Role.TheVariants.{File, Backing, Filtered}
use Rattle.blk_graph.proofs.NodeLemmas.{without_parent-apart}
use Rattle.blk_graph.proofs.PathLemmas.{Reaches-edge, Reaches-joined}
use Rattle.qmp_rules.specs.Chains.{filter_role, filtered, disk_node}
use Rattle.qmp_rules.specs.Table.{RunTable, node_by_id, device_by_number, child}
use Rattle.qmp_rules.specs.declared.rows.DeviceRow.{DeviceRow}
use Rattle.qmp_rules.specs.declared.rows.NodeRecord.{NodeRecord}
use Rattle.qmp_rules.specs.Queries.{bytes_of_node}
use Rattle.blk_history.specs.Disk.{span_of, piece, is_write}
use Rattle.blk_history.specs.Fold.{With}
use Rattle.blk_history.specs.Machine.{Flight}
use Rattle.flat_machine.specs.Agreement.{HasDisk}
use Rattle.flat_machine.specs.Legal.{IsForbidden}
use Rattle.flat_machine.specs.Machine.{copies_through}
use Rattle.flat_machine.specs.State.{drive_of, disk_of_guest}
use Rattle.flat_machine.specs.Wiring.{LeadsToFile, IsUnderOne, IsDiskOf, TableStands}
use Rattle.flat_machine.specs.Writing.{ReadsWritten}
use Rattle.blk_nodes.specs.Contents.{disk_under, disk_through, disk_by, disk_of, Unfolds}
use Rattle.blk_nodes.specs.Copying.{AtEach, IsBeside, images_met}
use Rattle.blk_nodes.specs.Joined.{IsJoined, IsCopying, IsFiltering, HasBelow, HasSize}
use Rattle.blk_nodes.specs.Nodes.{Nodes, row_at, file_of, filtered_of, driver_kind, size_by, node_size}
use Rattle.blk_nodes.specs.Reading.{LeadsTo}
use Rattle.blk_nodes.specs.Writing.{MayWriteThrough, CanBeWritten, IsOverApart, OwnsFile, IsApartFrom, own_file}
use Rattle.blk_nodes.specs.declared.row.Driver.{Driver}
use Rattle.blk_nodes.specs.declared.row.Driver.TheVariants as drivers
use Rattle.blk_nodes.specs.declared.row.Row.{Row}
use Rattle.blk_nodes.proofs.Leading.{leads_on}
use Rattle.world_parts.specs.Coherent.{AreNodesOf, IsRowOf, IsCoherent}
use Rattle.blk_pieces.specs.Pieces.{CanReadFor, CanTransfer}
use Rattle.world_parts.specs.Piecing.{part_of}
use Rattle.world_parts.specs.Progress.{Progress, HasNext, flight_at}
use Rattle.flat_machine.proofs.WritingKept.{RoleEdge, role_edge}
use Rattle.world_parts.proofs.InStep.{with-at}
use Rattle.world_pieces.proofs.PiecePaths.{row_there, acyclic, or-left, or-right, OnlyFilters, leads_reads}
use Rattle.world_pieces.proofs.PieceWriters.{own_row, filter_edge, down_disk}
use Rattle.world_pieces.proofs.PieceCopied.{MeetsOwnImage, images_of}
use Rattle.world_parts.proofs.JobFilters.{filters_role}

-- ---- the last edge of a path

pub record EndsBy (edges : List Edge) (from to : ℕ) : Type 0 where
  pub edge : Edge
  pub parent : ℕ
  pub there : Contains edges edge
  pub from_is : edge.parent ≡ Node parent
  pub to_is : edge.child ≡ to
  pub leads : LeadsTo edges from parent

pub last_edge : (edges : List Edge) (p : List Edge) (e : Edge) (from to : ℕ) → IsPath edges from (e ∷ p) to → EndsBy edges from to
last_edge edges [] e from to path = record {
  edge = e;
  parent = from;
  there = path.0;
  from_is = path.1;
  to_is = path.2;
  leads = inl refl;
}
last_edge edges (f ∷ p) e from to path =
    let rest = last_edge edges p f e.child to path.2 in
    record {
      edge = rest.edge;
      parent = rest.parent;
      there = rest.there;
      from_is = rest.from_is;
      to_is = rest.to_is;
      leads = leads_on edges from e.child rest.parent (inr (Reaches-edge edges from e path.0 path.1)) rest.leads;
    }

-- ---- a node that is no filter, of which filters alone have the file

pub over_disk : (t : RunTable) (nodes : Nodes) (joined : IsJoined nodes) (are : AreNodesOf t nodes) (stands : TableStands t) (row : NodeRecord) → HasDisk row
    → OnlyFilters t nodes joined are stands row
over_disk t nodes joined are stands row has over file = by_name row.filename refl
  where
    by_name : (name : Option (List ℕ)) → row.filename ≡ name → IsSome (filter_role over.kind)
    by_name None is = stands.filtered over row file is
    by_name (Some name) is = by_role (filter_role over.kind) refl
      where
        by_role : (role : Option Role) → filter_role over.kind ≡ role → IsSome (filter_role over.kind)
        by_role (Some role) filter = subst IsSome (sym filter) refl
        by_role None own =
            let taken = stands.taken over row file (subst IsSome (sym is) refl) own in
            absurd (false≢true (sym taken.gone ∙ has.settled))

module _ (t : RunTable) (nodes : Nodes) (joined : IsJoined nodes) (are : AreNodesOf t nodes) (stands : TableStands t)
    (node : ℕ) (row : NodeRecord) (at : node_by_id t node ≡ Some row) (held : Contains t.nodes row) (id_is : row.id ≡ node) (plain : filter_role row.kind ≡ None)
    (filters : OnlyFilters t nodes joined are stands row) where
  -- ---- its file

  record IsOverFile (file : ℕ) : Type 0 where
    under : NodeRecord
    under_is : under.id ≡ file
    taken : IsUnderOne t row under

  over_file : (file : ℕ) → child t node File ≡ Some file → IsOverFile file
  over_file file is =
      let e = role_edge (Node node) File t.edges file is in
      let under = row_there t file (subst (λ (n : ℕ). IsSome (node_by_id t n)) e.to (stands.edges e.edge e.there).child) in
      let below : LeadsToFile t row under.row = record {
        over_there = held;
        under_there = under.held;
        edge = e.edge;
        there = e.there;
        parent = e.from ∙ ap Node (sym id_is);
        role = e.role_is;
        child = e.to ∙ sym under.id_is;
      } in
      let named : IsSome under.row.filename = by_name under.row below under.row.filename refl in
      record { under = under.row; under_is = under.id_is; taken = stands.taken row under.row below named plain }
    where
      by_name : (under : NodeRecord) → LeadsToFile t row under → (name : Option (List ℕ)) → under.filename ≡ name → IsSome under.filename
      by_name under below None is =
          let some : IsSome (filter_role row.kind) = stands.filtered row under below is in
          absurd (false≢true (subst IsSome plain some))
      by_name under below (Some name) is = subst IsSome (sym is) refl

  -- no other edge leads there
  sole : (file : ℕ) (e : Edge) → child t node File ≡ Some file → Contains t.edges e → e.child ≡ file → (e.parent ≡ Node node) × (e.role ≡ File)
  sole file e is there to =
      let over = over_file file is in
      let only = over.taken.sole e there (to ∙ sym over.under_is) in
      (only.0 ∙ ap Node id_is, only.1)

  -- so what leads to it leads to the node
  by_node : (other file : ℕ) → child t node File ≡ Some file → Reaches t.edges other file → LeadsTo t.edges other node
  by_node other file is path =
      let last = last_edge t.edges path.rest path.first other file path.path in
      let only = sole file last.edge is last.there last.to_is in
      let same : last.parent ≡ node = cc (sym last.from_is ∙ only.0) in
      subst (LeadsTo t.edges other) same last.leads

  in_table : (n : ℕ) → file_of nodes n ≡ child t n File
  in_table n = ap (child_of (Node n) File) are.edges

  -- ---- it may be written

  over_apart : IsOverApart nodes node
  over_apart over file on to leads = by_path (subst (λ (es : List Edge). LeadsTo es over file) are.edges leads)
    where
      under : child t node File ≡ Some file
      under = sym (in_table node) ∙ to

      back : RoleEdge t.edges (Node node) Backing over
      back = role_edge (Node node) Backing t.edges over (ap (child_of (Node node) Backing) (sym are.edges) ∙ on)

      to_over : Reaches t.edges node over
      to_over = subst (Reaches t.edges node) back.to (Reaches-edge t.edges node back.edge back.there back.from)

      from_node : LeadsTo t.edges over node → ⊥
      from_node (inl same) = acyclic t nodes joined are stands node (subst (Reaches t.edges node) same to_over)
      from_node (inr path) = acyclic t nodes joined are stands node (Reaches-joined t.edges node over node to_over path)

      by_path : LeadsTo t.edges over file → ⊥
      by_path (inl same) =
          let only = sole file back.edge under back.there (back.to ∙ same) in
          let bad : Backing ≡ File = sym back.role_is ∙ only.1 in
          cc bad
      by_path (inr path) = from_node (by_node over file under path)

  module _ (own : Row) (own_at : row_at nodes node ≡ Some own) (alike : IsRowOf row own) where
    can_write : (d : Driver) → own.driver ≡ d → CanBeWritten nodes node d
    can_write drivers.File is = tt
    can_write (drivers.Raw part) is = tt
    can_write (drivers.Qcow2 image) is = over_apart
    can_write drivers.CopyOnRead is =
        let kind = alike.kind ∙ ap driver_kind is in
        let bad : Some File ≡ None = sym (ap filter_role kind) ∙ plain in
        cc bad
    can_write (drivers.Filter kind) is =
        let filter = alike.kind ∙ ap driver_kind is in
        let bad : Some Filtered ≡ None = sym (ap filter_role filter ∙ filters_role kind) ∙ plain in
        cc bad

    image_under : (file : ℕ) → child t node File ≡ Some file → OwnsFile nodes node file
    image_under file is other has_image =
        let e = role_edge (Node other) File t.edges file (sym (in_table other) ∙ has_image.edge) in
        let only = sole file e.edge is e.there e.to in
        cc (sym e.from ∙ only.0)

    -- no image is in the file of a `file` node with a flat disk
    none_in_it : OwnsFile nodes node node
    none_in_it other has_image =
        let e = role_edge (Node other) File t.edges node (sym (in_table other) ∙ has_image.edge) in
        let over = row_there t other ((stands.edges e.edge e.there).parent other e.from) in
        let file : LeadsToFile t over.row row = record {
          over_there = over.held;
          under_there = held;
          edge = e.edge;
          there = e.there;
          parent = e.from ∙ ap Node (sym over.id_is);
          role = e.role_is;
          child = e.to ∙ sym id_is;
        } in
        let over_own = own_row t nodes joined are stands other over.row over.there in
        let same : over_own.0 ≡ has_image.row = cc in
        let kind : filter_role over.row.kind ≡ None =
        ap filter_role (over_own.2.kind ∙ ap (λ (r : Row). driver_kind r.driver) same ∙ ap driver_kind has_image.driver) in
        absurd (false≢true (subst IsSome kind (filters over.row file)))

    owns_by : (d : Driver) (file : ℕ) → own_file nodes node d ≡ Some file → OwnsFile nodes node file
    owns_by drivers.File file is = let same : node ≡ file = cc is in subst (OwnsFile nodes node) same none_in_it
    owns_by (drivers.Raw part) file is = image_under file (sym (in_table node) ∙ is)
    owns_by (drivers.Qcow2 image) file is = image_under file (sym (in_table node) ∙ is)
    owns_by drivers.CopyOnRead file is = absurd (let bad : ⊥ = cc is in bad)
    owns_by (drivers.Filter kind) file is = absurd (let bad : ⊥ = cc is in bad)

    pub may_write : row.read_only ≡ false → MayWriteThrough nodes node
    may_write writable = record {
      row = own;
      there = own_at;
      writable = sym alike.access ∙ writable;
      can = can_write own.driver refl;
      owns = owns_by own.driver;
    }

    -- ---- what doesn't read it is apart from it

    apart_by : (d : Driver) (other file : ℕ) → (ReadsWritten t node other → ⊥) → own_file nodes node d ≡ Some file → LeadsTo t.edges other file → ⊥
    apart_by d other file none is leads = by_driver d is
      where
        reads : LeadsTo t.edges other node → ⊥
        reads to_node = elim (leads_reads t nodes joined are stands node row at plain filters other to_node) [
          | inl same ↦ none (inl same)
          | inr over ↦ none (inr (inr over))
        ]

        by_file : child t node File ≡ Some file → LeadsTo t.edges other file → ⊥
        by_file under (inl same) = none (inr (inl (under ∙ ap Some (sym same))))
        by_file under (inr path) = reads (by_node other file under path)

        by_driver : (e : Driver) → own_file nodes node e ≡ Some file → ⊥
        by_driver drivers.File here = let same : node ≡ file = cc here in reads (subst (LeadsTo t.edges other) (sym same) leads)
        by_driver (drivers.Raw part) here = by_file (sym (in_table node) ∙ here) leads
        by_driver (drivers.Qcow2 image) here = by_file (sym (in_table node) ∙ here) leads
        by_driver drivers.CopyOnRead here = let bad : ⊥ = cc here in bad
        by_driver (drivers.Filter kind) here = let bad : ⊥ = cc here in bad

    pub is_apart : (other : ℕ) → (ReadsWritten t node other → ⊥) → IsApartFrom nodes other node
    is_apart other none found file there is leads =
        let same : own ≡ found = cc (sym own_at ∙ there) in
        apart_by found.driver other file none is (subst (λ (es : List Edge). LeadsTo es other file) are.edges leads)

    -- nor does it lead to the file but through the node
    pub is_beside : (other : ℕ) → (child t node File ≡ Some other → ⊥) → IsBeside nodes other node
    is_beside other none file edge leads = by_path (subst (λ (es : List Edge). LeadsTo (without_parent (Node node) es) other file) are.edges leads)
      where
        under : child t node File ≡ Some file
        under = sym (in_table node) ∙ edge

        by_path : LeadsTo (without_parent (Node node) t.edges) other file → ⊥
        by_path (inl same) = none (under ∙ ap Some (sym same))
        by_path (inr path) =
            let last = last_edge (without_parent (Node node) t.edges) path.rest path.first other file path.path in
            let kept = without_parent-apart (Node node) t.edges last.edge last.there in
            kept.1 (sole file last.edge under kept.0 last.to_is).0

-- ---- a filter has its child's size, and its child's disk

module _ (t : RunTable) (nodes : Nodes) (joined : IsJoined nodes) (are : AreNodesOf t nodes) (stands : TableStands t) where
  in_filter : (a c : ℕ) → child t a File ≡ Some c → file_of nodes a ≡ Some c
  in_filter a c is = ap (child_of (Node a) File) are.edges ∙ is

  in_job_filter : (a c : ℕ) → child t a Filtered ≡ Some c → filtered_of nodes a ≡ Some c
  in_job_filter a c is = ap (child_of (Node a) Filtered) are.edges ∙ is

  size_below : (a c : ℕ) → filtered t a ≡ Some c → node_size nodes c ≡ node_size nodes a
  size_below a c is =
      let e = filter_edge t nodes joined are stands a c is in
      by_driver e.over e.role e.over.driver refl e.over_at e.filter e.under
    where
      of_same : (over : Row) → row_at nodes a ≡ Some over → HasSize nodes c over.size → node_size nodes c ≡ node_size nodes a
      of_same over at same = ap size_by same.there ∙ same.is ∙ sym (ap size_by at)

      by_driver : (over : Row) (role : Role) (d : Driver) → over.driver ≡ d → row_at nodes a ≡ Some over → filter_role (driver_kind over.driver) ≡ Some role
          → child t a role ≡ Some c → node_size nodes c ≡ node_size nodes a
      by_driver over role drivers.CopyOnRead driver at filter under =
          let below : IsCopying nodes a over.size = subst (HasBelow nodes a over.size) driver (joined.below a over at) in
          let is_file : role ≡ File = cc (sym (ap (λ (d : Driver). filter_role (driver_kind d)) driver) ∙ filter) in
          let edge = in_filter a c (subst (λ (r : Role). child t a r ≡ Some c) is_file under) in
          let same : below.child ≡ c = cc (sym below.edge ∙ edge) in
          of_same over at (subst (λ n. HasSize nodes n over.size) same below.same)
      by_driver over role (drivers.Filter kind) driver at filter under =
          let below : IsFiltering nodes a over.size = subst (HasBelow nodes a over.size) driver (joined.below a over at) in
          let is_filtered : role ≡ Filtered = cc (sym (ap (λ (d : Driver). filter_role (driver_kind d)) driver ∙ filters_role kind) ∙ filter) in
          of_same over at (below c (in_job_filter a c (subst (λ (r : Role). child t a r ≡ Some c) is_filtered under)))
      by_driver over role drivers.File driver at filter under = absurd (let bad : ⊥ = cc (sym (ap (λ (d : Driver). filter_role (driver_kind d)) driver) ∙ filter) in bad)
      by_driver over role (drivers.Raw part) driver at filter under = absurd (let bad : ⊥ = cc (sym (ap (λ (d : Driver). filter_role (driver_kind d)) driver) ∙ filter) in bad)
      by_driver over role (drivers.Qcow2 image) driver at filter under = absurd (let bad : ⊥ = cc (sym (ap (λ (d : Driver). filter_role (driver_kind d)) driver) ∙ filter) in bad)

  disk_size : (drive : ℕ) → node_size nodes (disk_node t drive) ≡ node_size nodes drive
  disk_size drive =
      down_disk t nodes joined are stands (λ n. node_size nodes n ≡ node_size nodes drive) (λ a c is so_far. size_below a c is ∙ so_far) drive refl

  module _ (unfolds : Unfolds nodes) where
    disk_below : (a c : ℕ) → filtered t a ≡ Some c → disk_of nodes c ≡ disk_of nodes a
    disk_below a c is =
        let e = filter_edge t nodes joined are stands a c is in
        sym (unfolds a e.over e.over_at ∙ by_driver e.role e.over.driver e.filter e.under)
      where
        by_driver : (role : Role) (d : Driver) → filter_role (driver_kind d) ≡ Some role → child t a role ≡ Some c → disk_by nodes (disk_of nodes) a d ≡ disk_of nodes c
        by_driver role drivers.CopyOnRead filter under =
            let is_file : role ≡ File = cc filter in
            ap (disk_under (disk_of nodes)) (in_filter a c (subst (λ (r : Role). child t a r ≡ Some c) is_file under))
        by_driver role (drivers.Filter kind) filter under =
            let is_filtered : role ≡ Filtered = cc (sym (filters_role kind) ∙ filter) in
            ap (disk_through (node_size nodes a) (disk_of nodes)) (in_job_filter a c (subst (λ (r : Role). child t a r ≡ Some c) is_filtered under))
        by_driver role drivers.File filter under = absurd (let bad : ⊥ = cc filter in bad)
        by_driver role (drivers.Raw part) filter under = absurd (let bad : ⊥ = cc filter in bad)
        by_driver role (drivers.Qcow2 image) filter under = absurd (let bad : ⊥ = cc filter in bad)

    pub disk_read : (drive : ℕ) → disk_of nodes (disk_node t drive) ≡ disk_of nodes drive
    disk_read drive =
        down_disk t nodes joined are stands (λ n. disk_of nodes n ≡ disk_of nodes drive) (λ a c is so_far. disk_below a c is ∙ so_far) drive refl

-- ---- pieces lie in their requests

span_inside : (span : Extent) (k : ℕ) → k < count_of_pieces span → end_of (piece_of span k) ≤ end_of span
unfolding count_of_pieces piece_of
span_inside span k less = by_len (span.len == 0) less
  where
    by_len : (b : Bool) → k < cond b 0 ((end_of span - 1) / 65536 + 1 - span.start / 65536)
        → max span.start ((span.start / 65536 + k) * 65536)
        + (min (end_of span) ((span.start / 65536 + k) * 65536 + 65536) - max span.start ((span.start / 65536 + k) * 65536)) ≤ end_of span
    by_len true less = absurd (omega (arith, less))
    by_len false less = omega (arith, less)

pub piece_inside : (op : Op) (k : ℕ) → k < pieces_of op → end_of (piece op k) ≤ end_of (span_of op)
unfolding piece_of
piece_inside (Read span) k less = span_inside span k less
piece_inside (Write span payload) k less = span_inside span k less
piece_inside (Zero span) k less = span_inside span k less
piece_inside Flush k less = omega arith
piece_inside (Discard span) k less = absurd (omega (arith, less))

-- what writes asks for a device that may write
pub not_forbidden : (op : Op) (read_only : Bool) → is_write op ≡ true → (IsForbidden op read_only → ⊥) → read_only ≡ false
not_forbidden op false changes allowed = refl
not_forbidden op true changes allowed = absurd (allowed changes)

-- ---- a guest's disk

-- the node that a guest's drive reads as, with its row
pub record IsGuestDisk (t : RunTable) (nodes : Nodes) (g node : ℕ) : Type 0 where
  pub drive : ℕ
  pub on : drive_of t g ≡ Some drive
  pub node_is : node ≡ disk_node t drive
  pub row : NodeRecord
  pub at : node_by_id t node ≡ Some row
  pub held : Contains t.nodes row
  pub id_is : row.id ≡ node
  pub has : HasDisk row
  pub own : Row
  pub own_at : row_at nodes node ≡ Some own
  pub alike : IsRowOf row own

module _ (t : RunTable) (nodes : Nodes) (joined : IsJoined nodes) where
  pub guest_disk : (g drive : ℕ) → AreNodesOf t nodes → TableStands t → With (node_by_id t (disk_node t drive)) HasDisk → drive_of t g ≡ Some drive
      → IsGuestDisk t nodes g (disk_node t drive)
  guest_disk g drive are stands has on = by_row (node_by_id t (disk_node t drive)) refl has
    where
      by_row : (found : Option NodeRecord) → node_by_id t (disk_node t drive) ≡ found → With found HasDisk → IsGuestDisk t nodes g (disk_node t drive)
      by_row None is never = absurd never
      by_row (Some row) is disk =
          let there = row_there t (disk_node t drive) (subst IsSome (sym is) refl) in
          let same : there.row ≡ row = cc (sym there.there ∙ is) in
          let own = own_row t nodes joined are stands (disk_node t drive) row is in
          record {
            drive = drive;
            on = on;
            node_is = refl;
            row = row;
            at = is;
            held = subst (Contains t.nodes) same there.held;
            id_is = subst (λ (r : NodeRecord). r.id ≡ disk_node t drive) same there.id_is;
            has = disk;
            own = own.0;
            own_at = own.1;
            alike = own.2;
          }

module _ (t : RunTable) (nodes : Nodes) (joined : IsJoined nodes) (stands : TableStands t) (are : AreNodesOf t nodes) where
  -- where the drive's row isn't read-only, its disk's isn't
  disk_writable : (g node : ℕ) (d : IsGuestDisk t nodes g node) → With (node_by_id t d.drive) (λ row. row.read_only ≡ false) → d.row.read_only ≡ false
  disk_writable g node d open_drive = by_row (node_by_id t d.drive) refl open_drive
    where
      by_row : (found : Option NodeRecord) → node_by_id t d.drive ≡ found → With found (λ row. row.read_only ≡ false) → d.row.read_only ≡ false
      by_row None is never = absurd never
      by_row (Some top) is writable =
          let at : node_by_id t (disk_node t d.drive) ≡ Some d.row = subst (λ (n : ℕ). node_by_id t n ≡ Some d.row) d.node_is d.at in
          let disk : IsDiskOf t top d.row = with-at (node_by_id t (disk_node t d.drive)) d.row (IsDiskOf t top) at (stands.reads d.drive top is) in
          disk.writable (or-left (not top.read_only) (copies_through t top.id) (ap not writable))

  pub size_there : (g node : ℕ) (d : IsGuestDisk t nodes g node) → bytes_of_node t node ≡ node_size nodes node
  size_there g node d =
      ap (λ (found : Option NodeRecord). unwrap_or (option_map (λ (r : NodeRecord). r.size) found) 0) d.at
      ∙ d.alike.size ∙ sym (ap size_by d.own_at)

-- A guest's disk can be asked for the next piece of its request in flight.
module _ (t : RunTable) (nodes : Nodes) (p : Progress) (joined : IsJoined nodes) where
  pub device_there : (g : ℕ) (f : Flight) (device : Option DeviceRow) → device_by_number t g ≡ device → With device (λ d. IsForbidden f.op d.read_only → ⊥) → is_write f.op ≡ true
      → (d : DeviceRow) × (device_by_number t g ≡ Some d) × (d.read_only ≡ false)
  device_there g f None is never changes = absurd never
  device_there g f (Some device) is allowed changes = (device, is, not_forbidden f.op device.read_only changes allowed)

  module _ (opened : List Opened) (was : IsCoherent t nodes opened p) (g : ℕ) (f : Flight) (drive : ℕ) (on : drive_of t g ≡ Some drive) (flies : flight_at p.guests g ≡ Some f) where
    pub disk_is : IsGuestDisk t nodes g (disk_node t drive)
    disk_is = guest_disk t nodes joined g drive was.alike was.table.stands (was.disks g drive on) on

    pub node_on : disk_of_guest t g ≡ Some (disk_node t drive)
    node_on = ap (option_map (disk_node t)) on

    pub writer : is_write f.op ≡ true → (d : DeviceRow) × (device_by_number t g ≡ Some d) × (d.read_only ≡ false)
    writer changes = device_there g f (device_by_number t g) refl (was.allowed g f flies) changes

    pub writable_row : is_write f.op ≡ true → disk_is.row.read_only ≡ false
    writable_row changes =
        let by = writer changes in
        disk_writable t nodes joined was.table.stands was.alike g (disk_node t drive) disk_is (was.writable g disk_is.drive by.0 by.1 by.2 disk_is.on)

    may_disk : disk_is.row.read_only ≡ false → MayWriteThrough nodes (disk_node t drive)
    may_disk =
        may_write t nodes joined was.alike was.table.stands (disk_node t drive) disk_is.row disk_is.at disk_is.held disk_is.id_is disk_is.has.own
        (over_disk t nodes joined was.alike was.table.stands disk_is.row disk_is.has) disk_is.own disk_is.own_at
        disk_is.alike

    -- an image below a copy-on-read may be written, whatever the guest may
    may_copy : (place : ℕ) → AtEach (MayWriteThrough nodes) (images_met nodes drive place)
    may_copy place = by_images (images_of t nodes joined was.alike was.table.stands drive place)
      where
        by_images : MeetsOwnImage t nodes drive place → AtEach (MayWriteThrough nodes) (images_met nodes drive place)
        by_images (inl none) = subst (AtEach (MayWriteThrough nodes)) (sym none) tt
        by_images (inr one) =
            let disk : IsDiskOf t one.top disk_is.row =
            with-at (node_by_id t (disk_node t drive)) disk_is.row (IsDiskOf t one.top) disk_is.at (was.table.stands.reads drive one.top one.top_at) in
            let writable = disk.writable (or-right (not one.top.read_only) (copies_through t one.top.id) (ap (copies_through t) one.top_id ∙ one.copies)) in
            subst (AtEach (MayWriteThrough nodes)) (sym one.met) (may_disk writable, tt)

    can_read : (op : Op) (part : Extent) → end_of part ≤ node_size nodes (disk_node t drive) → CanReadFor op nodes drive part
    can_read (Read span) part inside =
        let size = disk_size t nodes joined was.alike was.table.stands drive in
        record { inside = omega (arith, inside, size); may = may_copy part.start }
    can_read (Write span payload) part inside = tt
    can_read (Zero span) part inside = tt
    can_read Flush part inside = tt
    can_read (Discard span) part inside = tt

    pub part_within : HasNext f → end_of (part_of f) ≤ bytes_of_node t (disk_node t drive)
    part_within next =
        let within = with-at (disk_of_guest t g) (disk_node t drive) (λ node. end_of (span_of f.op) ≤ bytes_of_node t node) node_on (was.within g f flies) in
        let piece_in = piece_inside f.op f.next next.next in
        omega (arith, within, piece_in)

    pub can_transfer : HasNext f → CanTransfer nodes drive (disk_node t drive) f.op (part_of f)
    can_transfer next =
        let size = size_there t nodes joined was.table.stands was.alike g (disk_node t drive) disk_is in
        let within = part_within next in
        let inside : end_of (part_of f) ≤ node_size nodes (disk_node t drive) = omega (arith, within, size) in
        record {
          there = joined.only (disk_node t drive) (subst IsSome (sym disk_is.own_at) refl);
          inside = inside;
          read = can_read f.op (part_of f) inside;
          may = λ changes. may_disk (writable_row changes);
        }
