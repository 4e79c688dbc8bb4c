-- The edges of jobs, and nodes that may be written or no longer: what they leave of the nodes.
use Rattle.std.proofs.Common.{◌≡◌, ◌≢◌, ℕ, zero, suc, ◌<◌, Bool, true, false, not, List, [], ◌∷◌, length, set, get_or, Option, Some, None, Result, Ok, Err, refl, sym, ◌∙◌, ap, subst, arith, inl, inr}
use Rattle.std.specs.Prelude.{◌↔◌, All, IsOk}
use Rattle.std.specs.Option.{option_map}
use Rattle.std.proofs.lemmas.Bool.{cases_eq}
use Rattle.std.proofs.lemmas.List.{length-set, get_or-set_same, get_or-set_other, get_or_default}
use Rattle.std.proofs.lemmas.List.Elements.{All-head, All-tail}
use Rattle.blk_graph.specs.Edits.{child_of, with_edge, without_parent}
use Rattle.blk_graph.specs.Graph.{Graph, HasNode, IsSoundGraph, ids, with_writes}
use Rattle.blk_graph.specs.Judged.{IsJudged, LeadTo}
use Rattle.blk_graph.specs.Paths.{IsAcyclic}
use Rattle.blk_graph.specs.Permissions.{has_role, job_edge, uses_by}
use Rattle.blk_graph.specs.Refreshed.{kind_at, no_kind, refreshed, ruled_from, uses_into, with_uses, IsOf, IsRefreshed}
use Rattle.blk_graph.specs.Rule.{KeepsPermissions, first_conflict}
use Rattle.blk_graph.specs.declared.edge.Conflict.{Conflict as Pair}
use Rattle.blk_graph.specs.declared.edge.Edge.{Edge}
use Rattle.blk_graph.specs.declared.edge.Parent.{Parent}
use Rattle.blk_graph.specs.declared.edge.Parent.TheVariants.{Node, Guest, Job}
use Rattle.blk_graph.specs.declared.edge.Role.{Role}
use Rattle.blk_graph.specs.declared.edge.Role.TheVariants.{File as FileRole, Backing, Filtered}
use Rattle.blk_graph.specs.declared.edge.Uses.{Uses}
use Rattle.blk_graph.specs.declared.kind.Kind.{Kind}
use Rattle.blk_graph.specs.declared.kind.NodeKind.{NodeKind}
use Rattle.blk_graph.specs.declared.stop.GraphStop.{GraphStop}
use Rattle.blk_graph.specs.declared.stop.GraphStop.TheVariants as graphs
use Rattle.blk_graph.proofs.ChildLemmas.{child-kept, child-without}
use Rattle.blk_graph.proofs.DraftLemmas.{acyclic_put}
use Rattle.blk_graph.proofs.FitLemmas.{IsFit-with_edge}
use Rattle.blk_graph.proofs.JudgeLemmas.{children-refreshed}
use Rattle.blk_graph.proofs.RefreshLemmas.{child_of-refreshed}
use Rattle.blk_graph.proofs.StillLemmas.{refreshed-fixed}
use Rattle.blk_nodes.specs.Contents.{disk_by, disk_down, disk_of}
use Rattle.blk_nodes.specs.Jobs.{with_job_edges, with_read_only, with_node_writes}
use Rattle.blk_nodes.specs.Joined.{IsFile, HasSize, HasBelow, IsJoined, IsSized}
use Rattle.blk_nodes.specs.Nodes.{Nodes, row_at, size_by, node_size, file_of, backing_of, filtered_of, driver_kind, node_kind}
use Rattle.blk_nodes.specs.declared.nodes.jobs.NodeUse.{NodeUse}
use Rattle.blk_nodes.specs.declared.row.Driver.{Driver}
use Rattle.blk_nodes.specs.declared.row.Driver.TheVariants.{File, Raw, Qcow2, CopyOnRead, Filter}
use Rattle.blk_nodes.specs.declared.row.Row.{Row}
use Rattle.blk_nodes.proofs.Additions.{some_row}
use Rattle.blk_nodes.proofs.Disks.{by_driver}
use Rattle.blk_nodes.proofs.Drawn.{IsDraft, draft_sound}

-- no edge leads back to a job, so a list with edges of one may be a graph's
module _ (graph : Graph) (job : ℕ) (small : job < 16) where
  put_draft : (used : NodeUse) (edges : List Edge) → HasNode graph used.node → IsDraft graph edges
      → IsDraft graph (with_edge (job_edge job used.what used.node) edges)
  put_draft used edges there draft =
      let new : Edge = job_edge job used.what used.node in
      record {
        fit = IsFit-with_edge graph new edges
            (record { parent = small; child = there; table = record { job = job; what = used.what; is = refl } }) draft.fit;
        acyclic = acyclic_put new edges (λ back. back) draft.acyclic;
      }

  pub uses_draft : (uses : List NodeUse) (edges : List Edge) → All (λ (used : NodeUse). HasNode graph used.node) uses → IsDraft graph edges
      → IsDraft graph (with_job_edges job uses edges)
  uses_draft [] edges there draft = draft
  uses_draft (used ∷ uses) edges there draft =
      uses_draft uses (with_edge (job_edge job used.what used.node) edges) (All-tail (λ (u : NodeUse). HasNode graph u.node) used uses there)
      (put_draft used edges (All-head (λ (u : NodeUse). HasNode graph u.node) used uses there) draft)

  -- what is derived from it leads to nodes of the graph, and is sound, where it keeps the rule
  module _ (uses : List NodeUse) (there : All (λ (used : NodeUse). HasNode graph used.node) uses) (sound : IsSoundGraph graph) (list : List Edge)
      (is : list ≡ refreshed graph.kinds (with_job_edges job uses graph.edges)) where
    drawn_draft : IsDraft graph (with_job_edges job uses graph.edges)
    drawn_draft = uses_draft uses graph.edges there (record { fit = sound.fit; acyclic = sound.just.acyclic })

    pub uses_lead : LeadTo (ids graph) list
    uses_lead = subst (LeadTo (ids graph)) (sym is)
        (children-refreshed (ids graph) graph.kinds (with_job_edges job uses graph.edges) (λ e h. (drawn_draft.fit.each e h).child))

    pub uses_sound : first_conflict (ids graph) list ≡ None → IsSoundGraph (record graph { edges = list })
    uses_sound none =
        subst (λ (l : List Edge). IsSoundGraph (record graph { edges = l })) (sym is)
        (draft_sound graph (with_job_edges job uses graph.edges) sound drawn_draft
        (subst (λ (l : List Edge). first_conflict (ids graph) l ≡ None) is none))

-- with a job's edges each node has the children that it had
uses_children : (job : ℕ) (uses : List NodeUse) (edges : List Edge) (parent : ℕ) (role : Role)
    → child_of (Node parent) role (with_job_edges job uses edges) ≡ child_of (Node parent) role edges
uses_children job [] edges parent role = refl
uses_children job (used ∷ uses) edges parent role =
    let apart : Job job ≢ Node parent = λ same. absurd (cc same) in
    uses_children job uses (with_edge (job_edge job used.what used.node) edges) parent role
    ∙ child-kept (Node parent) role (job_edge job used.what used.node) edges apart

pub job_children : (kinds : List NodeKind) (job : ℕ) (uses : List NodeUse) (edges : List Edge) (parent : ℕ) (role : Role)
    → child_of (Node parent) role (refreshed kinds (with_job_edges job uses edges)) ≡ child_of (Node parent) role edges
job_children kinds job uses edges parent role =
    child_of-refreshed kinds (Node parent) role (with_job_edges job uses edges) ∙ uses_children job uses edges parent role

-- and without them
pub ended_children : (kinds : List NodeKind) (job : ℕ) (edges : List Edge) (parent : ℕ) (role : Role)
    → child_of (Node parent) role (refreshed kinds (without_parent (Job job) edges)) ≡ child_of (Node parent) role edges
ended_children kinds job edges parent role =
    let apart : Job job ≢ Node parent = λ same. absurd (cc same) in
    child_of-refreshed kinds (Node parent) role (without_parent (Job job) edges)
    ∙ child-without (Job job) (Node parent) role edges apart

-- what was judged
module _ (nodes : List ℕ) (kinds : List NodeKind) (edges : List Edge) (acyclic : IsAcyclic edges) (result : Result (Unit {0}) GraphStop)
    (judged : IsJudged nodes kinds edges result) where
  module _ (stop : GraphStop) (pair : Pair) (is : result ≡ Err stop) (named : stop ≡ graphs.Conflict pair) where
    pub refused_denied : (other : Pair) → ◌≡◌ {A = Result (Unit {0}) Pair} (Err pair) (Err other) ↔ (first_conflict nodes (refreshed kinds edges) ≡ Some other)
    refused_denied other = (
      λ same. let is_other : pair ≡ other = cc in ((judged.conflict other).0 (is ∙ ap Err (named ∙ ap graphs.Conflict is_other))).1,
      λ first.
          let own = ((judged.conflict pair).0 (is ∙ ap Err named)).1 in
          let same : pair ≡ other = cc (sym own ∙ first) in
          ap Err same,
    )

    pub refused_rule : KeepsPermissions (refreshed kinds edges) → false ≡ true
    refused_rule rule = subst (λ (r : Result (Unit {0}) GraphStop). IsOk r) is (judged.ok.1 (acyclic, rule))

  pub taken_none : result ≡ Ok tt → (other : Pair) → first_conflict nodes (refreshed kinds edges) ≡ Some other → ⊥
  taken_none is other first = let bad = sym is ∙ (judged.conflict other).1 (acyclic, first) in absurd (cc bad)

  pub taken_rule : result ≡ Ok tt → KeepsPermissions (refreshed kinds edges)
  taken_rule is = (judged.ok.0 (subst (λ (r : Result (Unit {0}) GraphStop). IsOk r) (sym is) refl)).1

-- a row that is set in its place
pub written_rows : (rows : List (Option Row)) (i node : ℕ) (x y : Option Row) (is_read_only : Bool) → i ≡ node → node < length rows → x ≡ get_or rows i x
    → y ≡ option_map (with_read_only is_read_only) x → set rows i y ≡ set rows node (option_map (with_read_only is_read_only) (get_or rows node None))
written_rows rows i node x y is_read_only place within is now =
    let found : x ≡ get_or rows node None
    = is ∙ ap (λ (k : ℕ). get_or rows k x) place ∙ get_or_default rows node x None within in
    ap (λ (k : ℕ). set rows k y) place ∙ ap (set rows node) (now ∙ ap (option_map (with_read_only is_read_only)) found)

-- a row, but for whether its node may be written
abbrev SameBut : Option Row → Option Row → Type 0
SameBut None new = new ≡ None
SameBut (Some row) new = (now : Row) × (new ≡ Some now) × (now.driver ≡ row.driver) × (now.size ≡ row.size)

mapped : (is_read_only : Bool) (found : Option Row) → SameBut found (option_map (with_read_only is_read_only) found)
mapped is_read_only None = refl
mapped is_read_only (Some row) = (with_read_only is_read_only row, refl, refl, refl)

unmapped : (found : Option Row) → SameBut found found
unmapped None = refl
unmapped (Some row) = (row, refl, refl, refl)

not-not : (b : Bool) → not (not b) ≡ b
not-not true = refl
not-not false = refl

-- a node that may be written, or no longer
module _ (nodes : Nodes) (node : ℕ) (writes : Bool) (joined : IsJoined nodes) (there : HasNode nodes.graph node) where
  abbrev new : Nodes
  new = with_node_writes node writes nodes

  abbrev kinds_now : List NodeKind
  kinds_now = with_writes node writes nodes.graph.kinds

  abbrev own_row : Option Row
  own_row = option_map (with_read_only (not writes)) (row_at nodes node)

  own_now : row_at new node ≡ own_row
  own_now =
      let count = joined.rows in
      let small = joined.sound.small node there in
      get_or-set_same nodes.rows node own_row None (omega (arith, count, small))

  other_now : (n : ℕ) → n ≢ node → row_at new n ≡ row_at nodes n
  other_now n other = get_or-set_other nodes.rows node n own_row None other

  rows_same : (n : ℕ) → SameBut (row_at nodes n) (row_at new n)
  rows_same n = elim (cases_eq n node) [
    | inl is ↦
        subst (λ (m : ℕ). SameBut (row_at nodes m) (row_at new m)) (sym is)
        (subst (SameBut (row_at nodes node)) (sym own_now) (mapped (not writes) (row_at nodes node)))
    | inr other ↦ subst (SameBut (row_at nodes n)) (sym (other_now n other)) (unmapped (row_at nodes n))
  ]

  -- from a row to the one that it was, and back
  back : (n : ℕ) (row : Row) → row_at new n ≡ Some row
      → (old : Row) × (row_at nodes n ≡ Some old) × (row.driver ≡ old.driver) × (row.size ≡ old.size)
  back n row is = by (row_at nodes n) refl (rows_same n)
    where
      by : (found : Option Row) → row_at nodes n ≡ found → SameBut found (row_at new n)
          → (old : Row) × (row_at nodes n ≡ Some old) × (row.driver ≡ old.driver) × (row.size ≡ old.size)
      by None was after = let bad : Some row ≡ None = sym is ∙ after in absurd (cc bad)
      by (Some old) was after =
          let same : row ≡ after.0 = cc (sym is ∙ after.1) in
          (old, was, ap (λ (r : Row). r.driver) same ∙ after.2, ap (λ (r : Row). r.size) same ∙ after.3)

  forth : (n : ℕ) (old : Row) → row_at nodes n ≡ Some old
      → (row : Row) × (row_at new n ≡ Some row) × (row.driver ≡ old.driver) × (row.size ≡ old.size)
  forth n old was =
      let P : Option Row → Type 0 = λ found. SameBut found (row_at new n) in
      subst P was (rows_same n)

  sizes_same : (n : ℕ) → node_size new n ≡ node_size nodes n
  sizes_same n = by (row_at nodes n) refl (rows_same n)
    where
      by : (found : Option Row) → row_at nodes n ≡ found → SameBut found (row_at new n) → node_size new n ≡ node_size nodes n
      by None was after = ap size_by after ∙ sym (ap size_by was)
      by (Some old) was after = ap size_by after.1 ∙ after.3 ∙ sym (ap size_by was)

  files_same : (n : ℕ) → file_of new n ≡ file_of nodes n
  files_same n = child_of-refreshed kinds_now (Node n) FileRole nodes.graph.edges

  backings_same : (n : ℕ) → backing_of new n ≡ backing_of nodes n
  backings_same n = child_of-refreshed kinds_now (Node n) Backing nodes.graph.edges

  filters_same : (n : ℕ) → filtered_of new n ≡ filtered_of nodes n
  filters_same n = child_of-refreshed kinds_now (Node n) Filtered nodes.graph.edges

  file_after : (n : ℕ) → IsFile nodes n → IsFile new n
  file_after n is =
      let now = forth n is.row is.there in
      record { row = now.0; there = now.1; driver = now.2 ∙ is.driver }

  size_after : (n size : ℕ) → HasSize nodes n size → HasSize new n size
  size_after n size has =
      let now = forth n has.row has.there in
      record { row = now.0; there = now.1; is = now.3 ∙ has.is }

  below_after : (n size : ℕ) (d : Driver) → HasBelow nodes n size d → HasBelow new n size d
  below_after n size File has = has
  below_after n size (Raw part) has =
      let same = sizes_same has.file in
      let within = has.within in
      record { file = has.file; edge = files_same n ∙ has.edge; is_file = file_after has.file has.is_file; within = omega (arith, same, within) }
  below_after n size (Qcow2 image) has = record {
    file = has.file;
    edge = files_same n ∙ has.edge;
    is_file = file_after has.file has.is_file;
    opened = has.opened;
    known = has.known;
    backing = λ over edge. size_after over image.header.size (has.backing over (sym (backings_same n) ∙ edge));
  }
  below_after n size CopyOnRead has = record { child = has.child; edge = files_same n ∙ has.edge; same = size_after has.child size has.same }
  below_after n size (Filter kind) has = λ child edge. size_after child size (has child (sym (filters_same n) ∙ edge))

  -- what the node itself is
  own_kind : (row : Row) → row_at new node ≡ Some row → kind_at kinds_now node ≡ node_kind row
  own_kind row is =
      let kind_with : Kind → Bool → NodeKind = λ kind may. record { kind = kind; writes = may } in
      let count = joined.sound.kinds in
      let small = joined.sound.small node there in
      let was = some_row (row_at nodes node) (joined.there node there) in
      let now : with_read_only (not writes) was.0 ≡ row = cc (ap (option_map (with_read_only (not writes))) (sym was.1) ∙ sym own_now ∙ is) in
      get_or-set_same nodes.graph.kinds node (kind_with (kind_at nodes.graph.kinds node).kind writes) no_kind (omega (arith, count, small))
      ∙ ap (λ (k : NodeKind). kind_with k.kind writes) (joined.kinds node was.0 was.1)
      ∙ ap (kind_with (driver_kind was.0.driver)) (sym (not-not writes))
      ∙ ap node_kind now

  kinds_after : (n : ℕ) (row : Row) → row_at new n ≡ Some row → kind_at kinds_now n ≡ node_kind row
  kinds_after n row is = elim (cases_eq n node) [
    | inl same ↦
        subst (λ (m : ℕ). kind_at kinds_now m ≡ node_kind row) (sym same)
        (own_kind row (subst (λ (m : ℕ). row_at new m ≡ Some row) same is))
    | inr other ↦
        get_or-set_other nodes.graph.kinds node n (record (kind_at nodes.graph.kinds node) { writes = writes }) no_kind other
        ∙ joined.kinds n row (sym (other_now n other) ∙ is)
  ]

  pub joined_written : IsSoundGraph new.graph → IsJoined new
  joined_written sound = record {
    rows = length-set nodes.rows node own_row ∙ joined.rows;
    sound = sound;
    kinds = kinds_after;
    there = λ n has. let was = some_row (row_at nodes n) (joined.there n has) in let now = forth n was.0 was.1 in rw now.1 refl;
    only = λ n some. let now = some_row (row_at new n) some in let was = back n now.0 now.1 in joined.only n (rw was.1 refl);
    sized = λ n row is.
        let was = back n row is in
        subst (λ (d : Driver). IsSized row.size d) (sym was.2)
        (subst (λ (s : ℕ). IsSized s was.0.driver) (sym was.3) (joined.sized n was.0 was.1));
    below = λ n row is.
        let was = back n row is in
        subst (λ (d : Driver). HasBelow new n row.size d) (sym was.2)
        (subst (λ (s : ℕ). HasBelow new n s was.0.driver) (sym was.3) (below_after n was.0.size was.0.driver (joined.below n was.0 was.1)));
    devices = λ n some. file_after n (joined.devices n some);
    once = joined.once;
  }

  -- each node reads as it did
  abbrev disk_found : Nodes → (ℕ → List ℕ) → ℕ → Option Row → List ℕ
  disk_found all f n found = elim found as (λ _. List ℕ) [ None ↦ [] | Some row ↦ disk_by all f n row.driver ]

  same_found : (f g : ℕ → List ℕ) → ((n : ℕ) → f n ≡ g n) → (n : ℕ) (x y : Option Row) → SameBut x y
      → disk_found new f n y ≡ disk_found nodes g n x
  same_found f g each n None y is = ap (disk_found new f n) is
  same_found f g each n (Some row) y is =
      ap (disk_found new f n) is.1 ∙ ap (disk_by new f n) is.2
      ∙ by_driver nodes new sizes_same (λ m. refl) files_same backings_same filters_same f g each n row.driver

  same_in : (turns n : ℕ) → disk_down turns new n ≡ disk_down turns nodes n
  same_in zero n = refl
  same_in (suc turns) n = same_found (disk_down turns new) (disk_down turns nodes) (same_in turns) n (row_at nodes n) (row_at new n) (rows_same n)

  pub disks_written : (n : ℕ) → disk_of new n ≡ disk_of nodes n
  unfolding disk_of
  disks_written n = same_in 64 n

  -- A `file` node has no edge of its own, so each edge is still as it should be.
  module _ (is_file : IsFile nodes node) where
    abbrev Agrees : Parent → Type 0
    Agrees (Node n) = kind_at kinds_now n ≡ kind_at nodes.graph.kinds n
    Agrees (Guest _) = Unit {0}
    Agrees (Job _) = Unit {0}

    agrees : (e : Edge) (parent : Parent) → IsOf nodes.graph.kinds e parent → Agrees parent
    agrees e (Guest guest) own = tt
    agrees e (Job job) own = tt
    agrees e (Node n) own = elim (cases_eq n node) [
      | inl same ↦
          let kind = ap (λ (k : NodeKind). k.kind) (joined.kinds node is_file.row is_file.there) ∙ ap driver_kind is_file.driver in
          let none : has_role (kind_at nodes.graph.kinds n).kind e.role ≡ false
          = ap (λ (m : ℕ). has_role (kind_at nodes.graph.kinds m).kind e.role) same ∙ ap (λ (k : Kind). has_role k e.role) kind in
          let bad : true ≡ false = sym own ∙ none in
          absurd (cc bad)
      | inr other ↦ get_or-set_other nodes.graph.kinds node n (record (kind_at nodes.graph.kinds node) { writes = writes }) no_kind other
    ]

    ruled_same : (above : ℕ → Uses) (e : Edge) (parent : Parent) → Agrees parent
        → ruled_from kinds_now above e parent ≡ ruled_from nodes.graph.kinds above e parent
    ruled_same above e (Guest guest) is = refl
    ruled_same above e (Job job) is = refl
    ruled_same above e (Node n) is = ap (λ (k : NodeKind). with_uses e (uses_by k e.role (above n))) is

    still : IsRefreshed kinds_now nodes.graph.edges
    still e there = ruled_same (uses_into nodes.graph.edges) e e.parent
        (agrees e e.parent (joined.sound.fit.each e there).table)
        ∙ joined.sound.just.refreshed e there

    pub file_rule : KeepsPermissions (refreshed kinds_now nodes.graph.edges)
    file_rule = subst KeepsPermissions (sym (refreshed-fixed kinds_now nodes.graph.edges still)) joined.sound.just.rule
