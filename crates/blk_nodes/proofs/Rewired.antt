-- Edges and kinds that were judged elsewhere: the nodes with them belong together, and disks that go with these are what they read as.
use Rattle.std.proofs.Common.{◌≡◌, ℕ, zero, suc, ◌<◌, ◌≤◌, Bool, true, false, not, List, [], length, set, get_or, Option, Some, None, refl, sym, ◌∙◌, ap, subst, arith, inl, inr}
use Rattle.std.specs.Prelude.{IsSome}
use Rattle.std.specs.Option.{option_map}
use Rattle.std.proofs.lemmas.Bool.{cases_eq, cases_lt}
use Rattle.std.proofs.lemmas.List.{length-set, get_or-set_same, get_or-set_other}
use Rattle.blk_graph.specs.Edits.{child_of}
use Rattle.blk_graph.specs.Graph.{IsSoundGraph}
use Rattle.blk_graph.specs.declared.edge.Edge.{Edge}
use Rattle.blk_graph.specs.declared.edge.Parent.TheVariants.{Node}
use Rattle.blk_graph.specs.declared.edge.Role.{Role}
use Rattle.blk_graph.specs.declared.edge.Role.TheVariants.{File as FileRole, Backing, Filtered}
use Rattle.blk_graph.proofs.ChildLemmas.{HasEdge, child-edge}
use Rattle.q2_format.specs.Contents.{image_disk}
use Rattle.blk_nodes.specs.Contents.{disk_under, disk_through, disk_by, disk_down, disk_of, bytes_of}
use Rattle.blk_graph.specs.Refreshed.{kind_at}
use Rattle.blk_graph.specs.declared.kind.Kind.{Kind}
use Rattle.blk_graph.specs.declared.kind.NodeKind.{NodeKind}
use Rattle.blk_nodes.specs.Jobs.{with_read_only}
use Rattle.blk_nodes.specs.Joined.{IsFile, HasSize, HasBelow, IsJoined, IsSized}
use Rattle.blk_nodes.specs.Nodes.{Nodes, row_at, size_by, node_size, file_of, backing_of, filtered_of, driver_kind, node_kind}
use Rattle.blk_nodes.specs.Rewiring.{rewired, rows_by, AreChildrenKept, AreKindsKept, AreReadings, IsWiring}
use Rattle.blk_nodes.specs.declared.row.Driver.{Driver}
use Rattle.blk_nodes.specs.declared.row.Driver.TheVariants.{File, Raw, Qcow2, CopyOnRead, Filter}
use Rattle.blk_nodes.specs.declared.row.Row.{Row}
use Rattle.blk_nodes.proofs.Disks.{by_driver as driver_same}
use Rattle.blk_nodes.proofs.Jobs.{written_rows}
use Rattle.blk_nodes.proofs.Unfolding.{StartsAt, no_path, unfolds}

not-not : (b : Bool) → not (not b) ≡ b
not-not true = refl
not-not false = refl

-- ---- rows

abbrev by_kind : NodeKind → Row → Row
by_kind kind row = with_read_only (not kind.writes) row

module _ (kinds : List NodeKind) (rows : List (Option Row)) (count : length rows ≡ 64) where
  length-by : (k : ℕ) → length (rows_by k kinds rows) ≡ 64
  unfolding rows_by
  length-by zero = count
  length-by (suc k) = length-set (rows_by k kinds rows) k (option_map (by_kind (kind_at kinds k)) (get_or (rows_by k kinds rows) k None)) ∙ length-by k

  -- a row is as it was until its turn, and then as its kind says
  not_yet : (k n : ℕ) → k ≤ n → get_or (rows_by k kinds rows) n None ≡ get_or rows n None
  unfolding rows_by
  not_yet zero n most = refl
  not_yet (suc k) n most =
      get_or-set_other (rows_by k kinds rows) k n (option_map (by_kind (kind_at kinds k)) (get_or (rows_by k kinds rows) k None)) None
      (λ same. omega (arith, most, same))
      ∙ not_yet k n (omega (arith, most))

  turned : (k n : ℕ) → n < k → k ≤ 64 → get_or (rows_by k kinds rows) n None ≡ option_map (by_kind (kind_at kinds n)) (get_or rows n None)
  unfolding rows_by
  turned zero n less most = absurd (omega (arith, less))
  turned (suc k) n less most = elim (cases_eq n k) [
    | inl same ↦
        let long = length-by k in
        ap (λ (m : ℕ). get_or (rows_by (suc k) kinds rows) m None) same
        ∙ get_or-set_same (rows_by k kinds rows) k (option_map (by_kind (kind_at kinds k)) (get_or (rows_by k kinds rows) k None)) None (omega (arith, long, most))
        ∙ ap (option_map (by_kind (kind_at kinds k))) (not_yet k k (omega arith))
        ∙ ap (λ (m : ℕ). option_map (by_kind (kind_at kinds m)) (get_or rows m None)) (sym same)
    | inr apart ↦
        get_or-set_other (rows_by k kinds rows) k n (option_map (by_kind (kind_at kinds k)) (get_or (rows_by k kinds rows) k None)) None apart
        ∙ turned k n (omega (arith, less, apart)) (omega (arith, most))
  ]

-- no row, and one more
pub rows-first : (kinds : List NodeKind) (rows : List (Option Row)) → rows ≡ rows_by 0 kinds rows
unfolding rows_by
rows-first kinds rows = refl

pub rows-step : (kinds : List NodeKind) (old rows : List (Option Row)) (i next : ℕ) (x y : Option Row) (may : Bool) → next ≡ suc i → i < length rows
    → rows ≡ rows_by i kinds old → may ≡ (kind_at kinds i).writes → x ≡ get_or rows i x → y ≡ option_map (with_read_only (not may)) x
    → set rows i y ≡ rows_by next kinds old
unfolding rows_by
rows-step kinds old rows i next x y may is within so may_is x_is y_is =
    written_rows rows i i x y (not may) refl within x_is y_is
    ∙ ap (λ (b : Bool). set rows i (option_map (with_read_only (not b)) (get_or rows i None))) may_is
    ∙ ap (λ (rs : List (Option Row)). set rs i (option_map (by_kind (kind_at kinds i)) (get_or rs i None))) so
    ∙ ap (λ (n : ℕ). rows_by n kinds old) (sym is)

module _ (nodes : Nodes) (kinds : List NodeKind) (edges : List Edge) (joined : IsJoined nodes) where
  abbrev now : Nodes
  now = rewired kinds edges nodes

  -- the row of a node
  pub row_then : (n : ℕ) → row_at now n ≡ option_map (by_kind (kind_at kinds n)) (row_at nodes n)
  row_then n = elim (cases_lt n 64) [
    | inl less ↦ turned kinds nodes.rows joined.rows 64 n less (omega arith)
    | inr more ↦ not_yet kinds nodes.rows joined.rows 64 n more ∙ none (row_at nodes n) refl more
  ]
    where
      none : (found : Option Row) → row_at nodes n ≡ found → 64 ≤ n → found ≡ option_map (by_kind (kind_at kinds n)) found
      none None is more = refl
      none (Some row) is more =
          let small = joined.sound.small n (joined.only n (subst IsSome (sym is) refl)) in
          absurd (omega (arith, small, more))

  back : (n : ℕ) (row : Row) → row_at now n ≡ Some row → (old : Row) × (row_at nodes n ≡ Some old) × (row ≡ by_kind (kind_at kinds n) old)
  back n row is = by (row_at nodes n) refl (sym (row_then n) ∙ is)
    where
      by : (found : Option Row) → row_at nodes n ≡ found → option_map (by_kind (kind_at kinds n)) (row_at nodes n) ≡ Some row
          → (old : Row) × (row_at nodes n ≡ Some old) × (row ≡ by_kind (kind_at kinds n) old)
      by None was after = let bad = sym (ap (option_map (by_kind (kind_at kinds n))) was) ∙ after in absurd (cc bad)
      by (Some old) was after =
          let same : Some (by_kind (kind_at kinds n) old) ≡ Some row = sym (ap (option_map (by_kind (kind_at kinds n))) was) ∙ after in
          (old, was, sym (cc same))

  pub file_then : (n : ℕ) → IsFile nodes n → IsFile now n
  file_then n is = record { row = by_kind (kind_at kinds n) is.row; there = row_then n ∙ ap (option_map (by_kind (kind_at kinds n))) is.there; driver = is.driver }

  pub size_then : (n size : ℕ) → HasSize nodes n size → HasSize now n size
  size_then n size has = record { row = by_kind (kind_at kinds n) has.row; there = row_then n ∙ ap (option_map (by_kind (kind_at kinds n))) has.there; is = has.is }

  pub sizes_same : (n : ℕ) → node_size now n ≡ node_size nodes n
  sizes_same n = ap size_by (row_then n) ∙ by (row_at nodes n)
    where
      by : (found : Option Row) → size_by (option_map (by_kind (kind_at kinds n)) found) ≡ size_by found
      by None = refl
      by (Some row) = refl

  -- they belong together
  pub joined_wiring : IsWiring nodes kinds edges → IsJoined now
  joined_wiring wiring = record {
    rows = length-by kinds nodes.rows joined.rows 64;
    sound = wiring.sound;
    kinds = λ n row is. let b = back n row is in kind_of n b.0 b.1 ∙ ap node_kind (sym b.2);
    there = λ n has. subst IsSome (sym (row_then n)) (some (kind_at kinds n) (row_at nodes n) (joined.there n has));
    only = λ n has. joined.only n (unsome (kind_at kinds n) (row_at nodes n) (subst IsSome (row_then n) has));
    sized = λ n row is. let b = back n row is in subst (λ (r : Row). IsSized r.size r.driver) (sym b.2) (joined.sized n b.0 b.1);
    below = λ n row is. let b = back n row is in subst (λ (r : Row). HasBelow now n r.size r.driver) (sym b.2) (wiring.below n b.0 b.1);
    devices = λ n has. file_then n (joined.devices n has);
    once = joined.once;
  }
    where
      kind_of : (n : ℕ) (old : Row) → row_at nodes n ≡ Some old → kind_at kinds n ≡ node_kind (by_kind (kind_at kinds n) old)
      kind_of n old is =
          let kind_with : Kind → Bool → NodeKind = λ kind may. record { kind = kind; writes = may } in
          ap (λ (kind : Kind). kind_with kind (kind_at kinds n).writes) (wiring.alike n old is)
          ∙ ap (kind_with (driver_kind old.driver)) (sym (not-not (kind_at kinds n).writes))

      some : (kind : NodeKind) (found : Option Row) → IsSome found → IsSome (option_map (by_kind kind) found)
      some kind None bad = bad
      some kind (Some row) has = refl

      unsome : (kind : NodeKind) (found : Option Row) → IsSome (option_map (by_kind kind) found) → IsSome found
      unsome kind None bad = bad
      unsome kind (Some row) has = refl

  -- where each node keeps its children, it has below it what it had
  module _ (same : AreChildrenKept nodes.graph.edges edges) where
    below_then : (n size : ℕ) (d : Driver) → HasBelow nodes n size d → HasBelow now n size d
    below_then n size File has = has
    below_then n size (Raw part) has =
        let sizes = sizes_same has.file in
        let within = has.within in
        record { file = has.file; edge = same n FileRole ∙ has.edge; is_file = file_then has.file has.is_file; within = omega (arith, sizes, within) }
    below_then n size (Qcow2 image) has = record {
      file = has.file;
      edge = same n FileRole ∙ has.edge;
      is_file = file_then has.file has.is_file;
      opened = has.opened;
      known = has.known;
      backing = λ over edge. size_then over image.header.size (has.backing over (sym (same n Backing) ∙ edge));
    }
    below_then n size CopyOnRead has = record { child = has.child; edge = same n FileRole ∙ has.edge; same = size_then has.child size has.same }
    below_then n size (Filter kind) has = λ child edge. size_then child size (has child (sym (same n Filtered) ∙ edge))

    pub wiring_kept : IsSoundGraph (record nodes.graph { kinds = kinds; edges = edges }) → AreKindsKept nodes kinds → IsWiring nodes kinds edges
    wiring_kept sound alike = record { sound = sound; alike = alike; below = λ n row there. below_then n row.size row.driver (joined.below n row there) }

-- ---- disks that go with the nodes

no_disk : (nodes : Nodes) (n : ℕ) → row_at nodes n ≡ None → disk_of nodes n ≡ []
unfolding disk_of
no_disk nodes n none =
    ap (λ (found : Option Row). elim found as (λ _. List ℕ) [ None ↦ [] | Some r ↦ disk_by nodes (disk_down 63 nodes) n r.driver ]) none

module _ (nodes : Nodes) (reads : ℕ → List ℕ) (joined : IsJoined nodes) (are : AreReadings nodes reads) where
  abbrev Rest : ℕ → Type 0
  Rest n = (child : ℕ) → HasEdge nodes.graph.edges (Node n) child → disk_of nodes child ≡ reads child

  under : (n : ℕ) (role : Role) → Rest n → (found : Option ℕ) → child_of (Node n) role nodes.graph.edges ≡ found
      → disk_under (disk_of nodes) found ≡ disk_under reads found
  under n role rest None is = refl
  under n role rest (Some child) is = rest child (child-edge (Node n) role nodes.graph.edges child is)

  through : (n : ℕ) → Rest n → (found : Option ℕ) → child_of (Node n) Filtered nodes.graph.edges ≡ found
      → disk_through (node_size nodes n) (disk_of nodes) found ≡ disk_through (node_size nodes n) reads found
  through n rest None is = refl
  through n rest (Some child) is = under n Filtered rest (Some child) is

  by_driver : (n : ℕ) → Rest n → (d : Driver) → disk_by nodes (disk_of nodes) n d ≡ disk_by nodes reads n d
  by_driver n rest File = refl
  by_driver n rest (Raw part) = refl
  by_driver n rest (Qcow2 image) = ap (image_disk (disk_under (bytes_of nodes) (file_of nodes n))) (under n Backing rest (backing_of nodes n) refl)
  by_driver n rest CopyOnRead = under n FileRole rest (file_of nodes n) refl
  by_driver n rest (Filter kind) = through n rest (filtered_of nodes n) refl

  by_row : (n : ℕ) → Rest n → (found : Option Row) → row_at nodes n ≡ found → disk_of nodes n ≡ reads n
  by_row n rest None there = no_disk nodes n there ∙ sym (are.none n there)
  by_row n rest (Some row) there = unfolds nodes joined n row there ∙ by_driver n rest row.driver ∙ sym (are.each n row there)

  down : (k n : ℕ) → (StartsAt nodes.graph.edges k n → ⊥) → disk_of nodes n ≡ reads n
  down zero n none = absurd (none tt)
  down (suc k) n none = by_row n (λ child e. down k child (λ starts. none (e.edge, e.there, e.from, rw e.to starts))) (row_at nodes n) refl

  all : (n : ℕ) → disk_of nodes n ≡ reads n
  all n = down 64 n (no_path nodes joined 64 (omega arith) n)

pub readings : (nodes : Nodes) (reads : ℕ → List ℕ) → IsJoined nodes → AreReadings nodes reads → (node : ℕ) → disk_of nodes node ≡ reads node
readings nodes reads joined are node = all nodes reads joined are node

-- where each node keeps its children, the disks that there were go with it
pub readings_kept : (nodes : Nodes) (kinds : List NodeKind) (edges : List Edge) → IsJoined nodes → AreChildrenKept nodes.graph.edges edges
    → AreReadings (rewired kinds edges nodes) (disk_of nodes)
readings_kept nodes kinds edges joined same = record {
  each = λ n row is.
      let b = back nodes kinds edges joined n row is in
      unfolds nodes joined n b.0 b.1
      ∙ sym (driver_same nodes (rewired kinds edges nodes) (sizes_same nodes kinds edges joined) (λ m. refl) (λ m. same m FileRole) (λ m. same m Backing) (λ m. same m Filtered)
      (disk_of nodes) (disk_of nodes) (λ m. refl) n b.0.driver)
      ∙ ap (λ (r : Row). disk_by (rewired kinds edges nodes) (disk_of nodes) n r.driver) (sym b.2);
  none = λ n none. no_disk nodes n (gone (kind_at kinds n) (row_at nodes n) (sym (row_then nodes kinds edges joined n) ∙ none));
}
  where
    gone : (kind : NodeKind) (found : Option Row) → option_map (by_kind kind) found ≡ None → found ≡ None
    gone kind None is = refl
    gone kind (Some row) is = absurd (let bad : ⊥ = cc is in bad)
