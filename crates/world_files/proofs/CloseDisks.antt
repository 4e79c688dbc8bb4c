-- What nodes read as by the files alone, once all devices are back.
use Rattle.std.proofs.Common.{◌≡◌, ℕ, zero, suc, ◌≤◌, ◌<◌, true, false, List, [], ◌∷◌, length, refl, sym, ◌∙◌, ap, subst, arith, Option, Some, None}
use Rattle.std.specs.Prelude.{IsSome, Contains, bytes_eq, find, option_map, option_and_then, unwrap_or, is_some, ◌==◌}
use Rattle.std.proofs.lemmas.Bool.{false≢true, eqb-true}
use Rattle.std.proofs.lemmas.Slice.Eq.{bytes_eq-Decides}
use Rattle.blk_base.specs.declared.file.File.{File}
use Rattle.q2_format.specs.Contents.{file_disk, raw_disk, image_disk}
use Rattle.blk_graph.specs.Edits.{child_of}
use Rattle.blk_graph.specs.declared.edge.Parent.TheVariants.{Node}
use Rattle.blk_graph.specs.declared.edge.Role.{Role}
use Rattle.blk_graph.specs.declared.edge.Role.TheVariants.{File as FileRole, Backing, Filtered}
use Rattle.blk_graph.specs.declared.kind.Kind.{Kind}
use Rattle.blk_graph.specs.declared.kind.Kind.TheVariants.{Protocol}
use Rattle.blk_graph.specs.Graph.{PathsAreShort}
use Rattle.blk_graph.specs.Paths.{IsPath}
use Rattle.blk_graph.specs.declared.edge.Edge.{Edge}
use Rattle.blk_graph.proofs.GraphLemmas.{PathsAreShort-from_IsSound}
use Rattle.blk_graph.proofs.ChildLemmas.{HasEdge, child-edge}
use Rattle.blk_graph.proofs.Members.{find-Some}
use Rattle.blk_nodes.specs.Contents.{told, disk_through, disk_under, bytes_by, bytes_of as bytes_at, file_node_disk, disk_by, disk_down, disk_of, Unfolds}
use Rattle.blk_nodes.specs.Joined.{IsJoined, IsFile, IsPartOfFile, IsOverlay, HasBelow, IsSized}
use Rattle.blk_nodes.specs.Nodes.{Nodes, DeviceSeen, row_at, device_in, driver_kind, filter_kind, size_by, node_size, file_of, backing_of, filtered_of}
use Rattle.blk_nodes.specs.declared.row.Driver.{Driver}
use Rattle.blk_nodes.specs.declared.row.Driver.TheVariants as drivers
use Rattle.blk_nodes.specs.declared.row.FilterKind.{FilterKind}
use Rattle.blk_nodes.specs.declared.row.FilterKind.TheVariants as filters
use Rattle.blk_nodes.specs.declared.row.Row.{Row}
use Rattle.qmp_rules.specs.declared.rows.NodeRecord.{NodeRecord}
use Rattle.qmp_rules.specs.Asks.{stands_for}
use Rattle.qmp_rules.specs.Chains.{filter_role, filtered, disk_from, disk_node, is_settled}
use Rattle.qmp_rules.specs.Table.{RunTable, node_by_id, child}
use Rattle.blk_history.specs.Fold.{With}
use Rattle.flat_machine.specs.Agreement.{ReadAsDisks}
use Rattle.flat_machine.specs.Final.{bytes_named, bytes_under, below_as, row_bytes, node_bytes_in, node_bytes, AreDisks}
use Rattle.flat_machine.specs.State.{State, filename_of, bytes_in}
use Rattle.flat_machine.specs.Wiring.{IsDiskOf}
use Rattle.world_parts.specs.Coherent.{IsCoherent, AreAlike, IsRowOf, offset_by_driver}
use Rattle.world_parts.specs.Face.{WorldSeen, held, held_in_file, told_bytes, contents_of}
use Rattle.world_files.proofs.CloseHeld.{none-passes}
use Rattle.world_parts.proofs.JobFilters.{filters_role}
use Rattle.job_edges.specs.Held.{is_job_filter}
use Rattle.job_tables.specs.Jobs.{JobsStand}
use Rattle.job_tables.proofs.Changes.{filter_of}

-- the node stands for the file of its name, and for no other
over-own : (row : NodeRecord) (name : List ℕ) → row.filename ≡ Some name → stands_for name row ≡ true
over-own row name is = rw (is, (bytes_eq-Decides name name).1 refl) refl

own-over : (row : NodeRecord) (name : List ℕ) → stands_for name row ≡ true → row.filename ≡ Some name
own-over row name over = by_name row.filename refl over
  where
    by_name : (filename : Option (List ℕ)) → row.filename ≡ filename → unwrap_or (option_map (λ f. bytes_eq f name) filename) false ≡ true → row.filename ≡ Some name
    by_name None is over = absurd (false≢true over)
    by_name (Some f) is over = is ∙ ap (λ (x : List ℕ). Some x) ((bytes_eq-Decides f name).0 over)

bytes-same : (device : Option DeviceSeen) → unwrap_or (option_and_then (λ (d : DeviceSeen). d.content) device) [] ≡ bytes_by device
bytes-same None = refl
bytes-same (Some device) = by_content device.content
  where
    by_content : (content : Option (List ℕ)) → unwrap_or content [] ≡ told content
    by_content None = refl
    by_content (Some bytes) = refl

-- a job's filter is over the source of its job
job_filter : (kind : FilterKind) → is_job_filter (filter_kind kind) ≡ true
job_filter filters.BeforeWrite = refl
job_filter filters.Mirror = refl
job_filter filters.Commit = refl

source_below : (t : RunTable) → JobsStand t → (row : NodeRecord) → Contains t.nodes row → is_job_filter row.kind ≡ true → (below : ℕ) × (child t row.id Filtered ≡ Some below)
source_below t jobs row there of_job =
    let its = jobs.filters row there of_job in
    let f = filter_of t its.row its.row.kind (jobs.each its.row its.there).shape row.id its.filter in
    (its.row.source, subst (λ n. child t n Filtered ≡ Some its.row.source) f.3 f.2.over)

-- each path from a node has less edges
abbrev Short : Nodes → ℕ → ℕ → Type 0
Short nodes k n = (path : List Edge) (to : ℕ) → IsPath nodes.graph.edges n path to → length path < k

short-below : (nodes : Nodes) (k n c : ℕ) → Short nodes (suc k) n → HasEdge nodes.graph.edges (Node n) c → Short nodes k c
short-below nodes k n c short edge path to is =
    let less = short (edge.edge ∷ path) to (edge.there, edge.from, rw edge.to is) in
    omega arith

none-long : (nodes : Nodes) (n : ℕ) → IsJoined nodes → Short nodes 64 n
none-long nodes n joined path to is =
    let short : PathsAreShort nodes.graph = PathsAreShort-from_IsSound nodes.graph joined.sound in
    let less = short n to path is in
    omega (arith, less, joined.sound.few_nodes)

module _ (w : WorldSeen) (files : List File) (joined : IsJoined w.nodes) (unfolds : Unfolds w.nodes) (whole : IsCoherent w.table w.nodes w.opened w.progress)
    (jobs : JobsStand w.table) (holds : (name : List ℕ) → bytes_named files name ≡ held w name) where
  -- ---- `file` nodes

  node-over-is : (n : ℕ) (row : NodeRecord) (name : List ℕ) → Contains w.table.nodes row → row.id ≡ n → row.filename ≡ Some name
      → held w name ≡ option_and_then (λ (d : DeviceSeen). d.content) (device_in w.nodes.devices n)
  node-over-is n row name there id named = by_found (find (stands_for name) w.table.nodes) refl
    where
      by_found : (found : Option NodeRecord) → find (stands_for name) w.table.nodes ≡ found
          → held_in_file w name (option_map (λ (r : NodeRecord). r.id) found) ≡ option_and_then (λ (d : DeviceSeen). d.content) (device_in w.nodes.devices n)
      by_found None none = absurd (none-passes (stands_for name) w.table.nodes row none there (over-own row name named))
      by_found (Some other) some =
          let at = find-Some (stands_for name) w.table.nodes other some in
          let same : other.id ≡ row.id = whole.table.stands.alone name other row (record { there = at.0; filename = own-over other name at.1 }) (record { there = there; filename = named }) in
          ap (λ (k : ℕ). option_and_then (λ (d : DeviceSeen). d.content) (device_in w.nodes.devices k)) (same ∙ id)

  file-bytes : (n : ℕ) (row : NodeRecord) → node_by_id w.table n ≡ Some row → row.kind ≡ Protocol → bytes_under files w.table n ≡ bytes_at w.nodes n
  file-bytes n row found kind =
      let at = find-Some (λ (r : NodeRecord). r.id == n) w.table.nodes row found in
      let id : row.id ≡ n = eqb-true row.id n at.1 in
      by_name row.filename refl (whole.table.stands.names row at.0 kind) at.0 id
    where
      by_name : (filename : Option (List ℕ)) → row.filename ≡ filename → IsSome filename → Contains w.table.nodes row → row.id ≡ n → bytes_under files w.table n ≡ bytes_at w.nodes n
      by_name None is some there id = absurd (false≢true some)
      by_name (Some name) is some there id =
          let named : filename_of w.table n ≡ Some name = ap (option_and_then (λ (r : NodeRecord). r.filename)) found ∙ is in
          ap (λ (f : Option (List ℕ)). unwrap_or (option_and_then (bytes_named files) f) []) named
          ∙ ap (λ (b : Option (List ℕ)). unwrap_or b []) (holds name ∙ node-over-is n row name there id is)
          ∙ bytes-same (device_in w.nodes.devices n)

  -- a `file` node has its row in the table
  file-row : (file : ℕ) → IsFile w.nodes file → (row : NodeRecord) × (node_by_id w.table file ≡ Some row) × (row.kind ≡ Protocol)
  file-row file is = by_row (node_by_id w.table file) refl (subst (AreAlike (node_by_id w.table file)) is.there (whole.alike.rows file))
    where
      by_row : (found : Option NodeRecord) → node_by_id w.table file ≡ found → AreAlike (node_by_id w.table file) (Some is.row) → (row : NodeRecord) × (node_by_id w.table file ≡ Some row) × (row.kind ≡ Protocol)
      by_row None none both = absurd (subst (λ x. AreAlike x (Some is.row)) none both)
      by_row (Some row) some both =
          let alike : IsRowOf row is.row = subst (λ x. AreAlike x (Some is.row)) some both in
          (row, some, alike.kind ∙ ap driver_kind is.driver)

  under-bytes : (file : ℕ) → IsFile w.nodes file → bytes_under files w.table file ≡ bytes_at w.nodes file
  under-bytes file is = let row = file-row file is in file-bytes file row.0 row.1 row.2

  -- ---- each kind of node

  child-is : (n : ℕ) (row : NodeRecord) (role : Role) → row.id ≡ n → child w.table row.id role ≡ child_of (Node n) role w.nodes.graph.edges
  child-is n row role id = rw (id, whole.alike.edges) refl

  below-same : (f g : ℕ → List ℕ) (next : Option ℕ) → ((c : ℕ) → next ≡ Some c → f c ≡ g c) → below_as f next ≡ disk_under g next
  below-same f g None each = refl
  below-same f g (Some c) each = each c refl

  filter-bytes : (reads : ℕ → List ℕ) (r : NodeRecord) (kind : FilterKind) → row_bytes files w.table reads r (filter_kind kind) ≡ below_as reads (filtered w.table r.id)
  filter-bytes reads r filters.BeforeWrite = refl
  filter-bytes reads r filters.Mirror = refl
  filter-bytes reads r filters.Commit = refl

  -- what a job's filter is over, in the nodes
  filtered-is : (n : ℕ) (r : NodeRecord) (kind : FilterKind) → node_by_id w.table n ≡ Some r → r.kind ≡ filter_kind kind → filtered w.table n ≡ filtered_of w.nodes n
  filtered-is n r kind found is =
      ap (λ (x : Option NodeRecord). option_and_then (child w.table n) (option_and_then (λ (y : NodeRecord). filter_role y.kind) x)) found
      ∙ ap (λ (k : Kind). option_and_then (child w.table n) (filter_role k)) is
      ∙ ap (option_and_then (child w.table n)) (filters_role kind)
      ∙ ap (child_of (Node n) Filtered) (sym whole.alike.edges)

  by-driver : (n turns : ℕ) (r : NodeRecord) (row : Row) → node_by_id w.table n ≡ Some r → r.id ≡ n → row_at w.nodes n ≡ Some row → IsRowOf r row
      → ((c : ℕ) → HasEdge w.nodes.graph.edges (Node n) c → node_bytes_in turns files w.table c ≡ disk_of w.nodes c)
      → (d : Driver) → row.driver ≡ d → row_bytes files w.table (node_bytes_in turns files w.table) r (driver_kind d) ≡ disk_by w.nodes (disk_of w.nodes) n d
  by-driver n turns r row found id there is next drivers.File driver =
      let size : r.size ≡ node_size w.nodes n = is.size ∙ sym (ap size_by there) in
      ap (λ (s : ℕ). file_disk s (bytes_under files w.table r.id)) size
      ∙ ap (file_disk (node_size w.nodes n)) (ap (bytes_under files w.table) id ∙ file-bytes n r found (is.kind ∙ ap driver_kind driver))
  by-driver n turns r row found id there is next (drivers.Raw part) driver =
      let has : IsPartOfFile w.nodes n part.offset part.size = subst (HasBelow w.nodes n row.size) driver (joined.below n row there) in
      let sized : IsSized row.size (drivers.Raw part) = subst (IsSized row.size) driver (joined.sized n row there) in
      let offset : r.offset ≡ part.offset = is.place ∙ ap offset_by_driver driver in
      let size : r.size ≡ part.size = is.size ∙ sym sized.0 in
      let file : disk_of w.nodes has.file ≡ file_node_disk w.nodes has.file =
      unfolds has.file has.is_file.row has.is_file.there ∙ ap (disk_by w.nodes (disk_of w.nodes) has.file) has.is_file.driver in
      let under : below_as (node_bytes_in turns files w.table) (child w.table r.id FileRole) ≡ disk_under (file_node_disk w.nodes) (file_of w.nodes n) =
      ap (below_as (node_bytes_in turns files w.table)) (child-is n r FileRole id ∙ has.edge)
      ∙ next has.file (child-edge (Node n) FileRole w.nodes.graph.edges has.file has.edge) ∙ file
      ∙ sym (ap (disk_under (file_node_disk w.nodes)) has.edge) in
      ap (λ (o : ℕ). raw_disk o r.size (below_as (node_bytes_in turns files w.table) (child w.table r.id FileRole))) offset
      ∙ ap (λ (s : ℕ). raw_disk part.offset s (below_as (node_bytes_in turns files w.table) (child w.table r.id FileRole))) size
      ∙ ap (raw_disk part.offset part.size) under
  by-driver n turns r row found id there is next (drivers.Qcow2 image) driver =
      let has : IsOverlay w.nodes n image = subst (HasBelow w.nodes n row.size) driver (joined.below n row there) in
      let file : below_as (bytes_under files w.table) (child w.table r.id FileRole) ≡ disk_under (bytes_at w.nodes) (file_of w.nodes n) =
      ap (below_as (bytes_under files w.table)) (child-is n r FileRole id ∙ has.edge) ∙ under-bytes has.file has.is_file
      ∙ sym (ap (disk_under (bytes_at w.nodes)) has.edge) in
      let backing : below_as (node_bytes_in turns files w.table) (child w.table r.id Backing) ≡ disk_under (disk_of w.nodes) (backing_of w.nodes n) =
      ap (below_as (node_bytes_in turns files w.table)) (child-is n r Backing id)
      ∙ below-same (node_bytes_in turns files w.table) (disk_of w.nodes) (backing_of w.nodes n)
      (λ c edge. next c (child-edge (Node n) Backing w.nodes.graph.edges c edge)) in
      ap (λ (b : List ℕ). image_disk b (below_as (node_bytes_in turns files w.table) (child w.table r.id Backing))) file
      ∙ ap (image_disk (disk_under (bytes_at w.nodes) (file_of w.nodes n))) backing
  by-driver n turns r row found id there is next drivers.CopyOnRead driver =
      ap (below_as (node_bytes_in turns files w.table)) (filter-child n r row found id is driver)
      ∙ below-same (node_bytes_in turns files w.table) (disk_of w.nodes) (file_of w.nodes n)
      (λ c edge. next c (child-edge (Node n) FileRole w.nodes.graph.edges c edge))
    where
      filter-child : (n : ℕ) (r : NodeRecord) (row : Row) → node_by_id w.table n ≡ Some r → r.id ≡ n → IsRowOf r row → row.driver ≡ drivers.CopyOnRead → filtered w.table r.id ≡ file_of w.nodes n
      filter-child n r row found id is driver =
          let kind : r.kind ≡ driver_kind drivers.CopyOnRead = is.kind ∙ ap driver_kind driver in
          let its : node_by_id w.table r.id ≡ Some r = ap (node_by_id w.table) id ∙ found in
          rw (its, kind, id, whole.alike.edges) refl
  by-driver n turns r row found id there is next (drivers.Filter kind) driver =
      let of : r.kind ≡ filter_kind kind = is.kind ∙ ap driver_kind driver in
      let at = find-Some (λ (x : NodeRecord). x.id == n) w.table.nodes r found in
      let below = source_below w.table jobs r at.0 (ap is_job_filter of ∙ job_filter kind) in
      let over : filtered_of w.nodes n ≡ Some below.0 =
      ap (child_of (Node n) Filtered) whole.alike.edges ∙ ap (λ (m : ℕ). child w.table m Filtered) (sym id) ∙ below.1 in
      filter-bytes (node_bytes_in turns files w.table) r kind
      ∙ ap (λ (m : ℕ). below_as (node_bytes_in turns files w.table) (filtered w.table m)) id
      ∙ ap (below_as (node_bytes_in turns files w.table)) (filtered-is n r kind found of ∙ over)
      ∙ next below.0 (child-edge (Node n) Filtered w.nodes.graph.edges below.0 over)
      ∙ sym (ap (disk_through (node_size w.nodes n) (disk_of w.nodes)) over)

  by-rows : (n turns : ℕ) (found : Option NodeRecord) (its : Option Row) → node_by_id w.table n ≡ found → row_at w.nodes n ≡ its → AreAlike found its
      → ((c : ℕ) → HasEdge w.nodes.graph.edges (Node n) c → node_bytes_in turns files w.table c ≡ disk_of w.nodes c)
      → node_bytes_in (suc turns) files w.table n ≡ disk_of w.nodes n
  unfolding disk_of
  by-rows n turns None None none gone alike next =
      ap (λ (x : Option NodeRecord). elim x as (λ _. List ℕ) [ None ↦ [] | Some y ↦ row_bytes files w.table (node_bytes_in turns files w.table) y y.kind ]) none
      ∙ sym (ap (λ (x : Option Row). elim x as (λ _. List ℕ) [ None ↦ [] | Some y ↦ disk_by w.nodes (disk_down 63 w.nodes) n y.driver ]) gone)
  by-rows n turns None (Some row) none there alike next = absurd alike
  by-rows n turns (Some r) None found gone alike next = absurd alike
  by-rows n turns (Some r) (Some row) found there alike next =
      let at = find-Some (λ (x : NodeRecord). x.id == n) w.table.nodes r found in
      let id : r.id ≡ n = eqb-true r.id n at.1 in
      ap (λ (x : Option NodeRecord). elim x as (λ _. List ℕ) [ None ↦ [] | Some y ↦ row_bytes files w.table (node_bytes_in turns files w.table) y y.kind ]) found
      ∙ ap (row_bytes files w.table (node_bytes_in turns files w.table) r) alike.kind
      ∙ by-driver n turns r row found id there alike next row.driver refl
      ∙ sym (unfolds n row there)

  reads-are : (k n turns : ℕ) → Short w.nodes k n → k ≤ turns → node_bytes_in turns files w.table n ≡ disk_of w.nodes n
  reads-are zero n turns short le = let less = short [] n refl in absurd (omega arith)
  reads-are (suc k) n zero short le = absurd (omega arith)
  reads-are (suc k) n (suc turns) short le =
      by-rows n turns (node_by_id w.table n) (row_at w.nodes n) refl refl (whole.alike.rows n)
      (λ c edge. reads-are k c turns (short-below w.nodes k n c short edge) (omega arith))

  pub nodes-read : (n : ℕ) → node_bytes files w.table n ≡ disk_of w.nodes n
  unfolding node_bytes
  nodes-read n = reads-are 64 n 64 (none-long w.nodes n joined) (omega arith)

  -- ---- disks

  -- a filter reads as what it is over
  filter-step : (n below' : ℕ) → filtered w.table n ≡ Some below' → disk_of w.nodes below' ≡ disk_of w.nodes n
  filter-step n below' is = by_row (node_by_id w.table n) refl (row_at w.nodes n) refl (whole.alike.rows n)
    where
      by_driver : (r : NodeRecord) (row : Row) → node_by_id w.table n ≡ Some r → row_at w.nodes n ≡ Some row → IsRowOf r row → (d : Driver) → row.driver ≡ d
          → filtered w.table n ≡ Some below' → disk_of w.nodes below' ≡ disk_of w.nodes n
      by_driver r row found there alike drivers.File driver is = absurd (let bad : None ≡ Some below' = sym (filters r row found alike drivers.File driver) ∙ is in let no : ⊥ = cc bad in no)
        where
          filters : (r : NodeRecord) (row : Row) → node_by_id w.table n ≡ Some r → IsRowOf r row → (d : Driver) → row.driver ≡ d → filtered w.table n ≡ option_and_then (child w.table n) (filter_role (driver_kind d))
          filters r row found alike d driver = ap (λ (x : Option NodeRecord). option_and_then (child w.table n) (option_and_then (λ (y : NodeRecord). filter_role y.kind) x)) found
              ∙ ap (λ (k : Kind). option_and_then (child w.table n) (filter_role k)) (alike.kind ∙ ap driver_kind driver)
      by_driver r row found there alike (drivers.Raw part) driver is =
          let none : filtered w.table n ≡ None = ap (λ (x : Option NodeRecord). option_and_then (child w.table n) (option_and_then (λ (y : NodeRecord). filter_role y.kind) x)) found
          ∙ ap (λ (k : Kind). option_and_then (child w.table n) (filter_role k)) (alike.kind ∙ ap driver_kind driver) in
          let bad : None ≡ Some below' = sym none ∙ is in let no : ⊥ = cc bad in absurd no
      by_driver r row found there alike (drivers.Qcow2 image) driver is =
          let none : filtered w.table n ≡ None = ap (λ (x : Option NodeRecord). option_and_then (child w.table n) (option_and_then (λ (y : NodeRecord). filter_role y.kind) x)) found
          ∙ ap (λ (k : Kind). option_and_then (child w.table n) (filter_role k)) (alike.kind ∙ ap driver_kind driver) in
          let bad : None ≡ Some below' = sym none ∙ is in let no : ⊥ = cc bad in absurd no
      by_driver r row found there alike drivers.CopyOnRead driver is =
          let file : filtered w.table n ≡ file_of w.nodes n = ap (λ (x : Option NodeRecord). option_and_then (child w.table n) (option_and_then (λ (y : NodeRecord). filter_role y.kind) x)) found
          ∙ ap (λ (k : Kind). option_and_then (child w.table n) (filter_role k)) (alike.kind ∙ ap driver_kind driver)
          ∙ ap (child_of (Node n) FileRole) (sym whole.alike.edges) in
          sym (unfolds n row there ∙ ap (disk_by w.nodes (disk_of w.nodes) n) driver ∙ ap (disk_under (disk_of w.nodes)) (sym file ∙ is))
      by_driver r row found there alike (drivers.Filter kind) driver is =
          sym (unfolds n row there ∙ ap (disk_by w.nodes (disk_of w.nodes) n) driver
          ∙ ap (disk_through (node_size w.nodes n) (disk_of w.nodes)) (sym (filtered-is n r kind found (alike.kind ∙ ap driver_kind driver)) ∙ is))

      by_row : (found : Option NodeRecord) → node_by_id w.table n ≡ found → (its : Option Row) → row_at w.nodes n ≡ its → AreAlike (node_by_id w.table n) (row_at w.nodes n)
          → disk_of w.nodes below' ≡ disk_of w.nodes n
      by_row None none its there alike =
          let gone : filtered w.table n ≡ None = ap (λ (x : Option NodeRecord). option_and_then (child w.table n) (option_and_then (λ (y : NodeRecord). filter_role y.kind) x)) none in
          let bad : None ≡ Some below' = sym gone ∙ is in let no : ⊥ = cc bad in absurd no
      by_row (Some r) found None gone alike = absurd (rw (found, gone) at alike)
      by_row (Some r) found (Some row) there alike = by_driver r row found there (rw (found, there) at alike) row.driver refl is

  filters-read : (turns n : ℕ) → disk_of w.nodes (disk_from turns w.table n) ≡ disk_of w.nodes n
  filters-read zero n = refl
  filters-read (suc turns) n = by_filter (filtered w.table n) refl (λ c. filters-read turns c)
    where
      by_filter : (x : Option ℕ) → filtered w.table n ≡ x → ((c : ℕ) → disk_of w.nodes (disk_from turns w.table c) ≡ disk_of w.nodes c)
          → disk_of w.nodes (elim x as (λ _. ℕ) [ None ↦ n | Some b ↦ disk_from turns w.table b ]) ≡ disk_of w.nodes n
      by_filter None is rest = refl
      by_filter (Some b) is rest = rest b ∙ filter-step n b is

  disk-node-reads : (n : ℕ) → disk_of w.nodes (disk_node w.table n) ≡ disk_of w.nodes n
  unfolding disk_node
  disk-node-reads n = filters-read 64 n

  -- a node that isn't there reads as itself
  gone-is : (n : ℕ) → node_by_id w.table n ≡ None → disk_node w.table n ≡ n
  unfolding disk_node
  gone-is n none =
      let gone : filtered w.table n ≡ None = ap (λ (x : Option NodeRecord). option_and_then (child w.table n) (option_and_then (λ (y : NodeRecord). filter_role y.kind) x)) none in
      ap (λ (x : Option ℕ). elim x as (λ _. ℕ) [ None ↦ n | Some b ↦ disk_from 63 w.table b ]) gone

  pub disks-read : (s : State) → s.table ≡ w.table → ReadAsDisks s (contents_of w) → AreDisks files s
  disks-read s same agrees = rw same (λ n settled.
      nodes-read n ∙ sym (disk-node-reads n)
      ∙ by_disk n (node_by_id w.table (disk_node w.table n)) refl settled)
    where
      own : (n : ℕ) (row : NodeRecord) → node_by_id w.table (disk_node w.table n) ≡ Some row → filter_role row.kind ≡ None
      own n row found = by_node (node_by_id w.table n) refl
        where
          by_node : (x : Option NodeRecord) → node_by_id w.table n ≡ x → filter_role row.kind ≡ None
          by_node None none = let bad : None ≡ Some row = sym (ap (node_by_id w.table) (gone-is n none) ∙ none) ∙ found in let no : ⊥ = cc bad in absurd no
          by_node (Some r) there =
              let is : IsDiskOf w.table r row = rw found at (whole.table.stands.reads n r there) in
              is.own

      by_disk : (n : ℕ) (x : Option NodeRecord) → node_by_id w.table (disk_node w.table n) ≡ x → is_settled w.table n ≡ true
          → disk_of w.nodes (disk_node w.table n) ≡ bytes_in s.disks (disk_node w.table n)
      by_disk n None none settled = absurd (false≢true (sym (ap (λ (x : Option NodeRecord). unwrap_or (option_map (λ (r : NodeRecord). r.is_settled) x) false) none) ∙ settled))
      by_disk n (Some row) found settled =
          let is : row.is_settled ≡ true = sym (ap (λ (x : Option NodeRecord). unwrap_or (option_map (λ (r : NodeRecord). r.is_settled) x) false) found) ∙ settled in
          agrees (disk_node w.table n) row (ap (λ (t : RunTable). node_by_id t (disk_node w.table n)) same ∙ found) (record { settled = is; own = own n row found })

-- as the store tells its files
pub all-disks : (w : WorldSeen) (files : Option (List File)) → IsJoined w.nodes → Unfolds w.nodes → IsCoherent w.table w.nodes w.opened w.progress → JobsStand w.table
    → is_some files ≡ true → ((name : List ℕ) → told_bytes files name ≡ held w name) → (s : State) → s.table ≡ w.table → ReadAsDisks s (contents_of w) → With files (λ fs. AreDisks fs s)
all-disks w None joined unfolds whole jobs some holds s same agrees = absurd (false≢true some)
all-disks w (Some files) joined unfolds whole jobs some holds s same agrees = disks-read w files joined unfolds whole jobs holds s same agrees
