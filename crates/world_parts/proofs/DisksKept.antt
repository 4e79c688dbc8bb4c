-- Disks that go with a table: what nodes read as that have its kinds and edges, behind each kind of change that leaves which nodes there are.
use Rattle.std.proofs.Common.{◌≡◌, ◌≢◌, ℕ, ◌==◌, Bool, true, false, cond, not, List, [], length, Option, Some, None, refl, sym, ◌∙◌, ap, inl, inr}
use Rattle.std.specs.Prelude.{◌&&◌, option_map}
use Rattle.std.proofs.lemmas.Bool.{cases_eq, eq-eqb, eqb-true, ne_eqb}
use Rattle.blk_graph.proofs.CycleLemmas.{and-left}
use Rattle.blk_graph.specs.Edits.{child_after, child_of, stays}
use Rattle.blk_graph.specs.Refreshed.{kind_at}
use Rattle.blk_graph.specs.declared.edge.Edge.{Edge}
use Rattle.blk_graph.specs.declared.edge.Parent.TheVariants.{Node}
use Rattle.blk_graph.specs.declared.edge.Role.{Role}
use Rattle.blk_graph.specs.declared.edge.Role.TheVariants.{File as FileRole, Backing, Filtered}
use Rattle.q2_format.specs.Contents.{file_disk, raw_disk, image_disk}
use Rattle.q2_image.specs.Image.{Known}
use Rattle.qmp_rules.specs.Table.{RunTable, kinds_of}
use Rattle.blk_nodes.specs.Contents.{bytes_of, file_node_disk, disk_by, disk_down, disk_of, disk_through, disk_under}
use Rattle.blk_nodes.specs.Jobs.{with_read_only}
use Rattle.blk_nodes.specs.Joined.{IsJoined}
use Rattle.blk_nodes.specs.Nodes.{Nodes, AreTold, row_at, node_size}
use Rattle.blk_nodes.specs.Rewiring.{rewired, AreChildrenKept, AreReadings}
use Rattle.blk_nodes.specs.declared.row.Driver.{Driver}
use Rattle.blk_nodes.specs.declared.row.Driver.TheVariants.{File, Raw, Qcow2, CopyOnRead, Filter}
use Rattle.blk_nodes.specs.declared.row.Row.{Row}
use Rattle.blk_nodes.proofs.CoveredDisks.{length_disk}
use Rattle.blk_nodes.proofs.Disks.{by_driver as driver_same}
use Rattle.blk_nodes.proofs.Rewired.{row_then, sizes_same}
use Rattle.blk_nodes.proofs.Unfolding.{unfolds}

-- the nodes with the kinds and edges of a table
abbrev pub as_in : RunTable → Nodes → Nodes
as_in t nodes = rewired (kinds_of t.nodes) t.edges nodes

-- These disks go with the table: each is made of those below it, and is of its node's size.
pub record GoWith (t : RunTable) (nodes : Nodes) (reads : ℕ → List ℕ) : Type 0 where
  pub each : (n : ℕ) (row : Row) → row_at nodes n ≡ Some row → reads n ≡ disk_by (as_in t nodes) reads n row.driver
  pub none : (n : ℕ) → row_at nodes n ≡ None → reads n ≡ []
  pub long : (n : ℕ) (row : Row) → row_at nodes n ≡ Some row → length (reads n) ≡ row.size

-- a row may be written as the table says
abbrev turned : RunTable → ℕ → Row → Row
turned t n row = with_read_only (not (kind_at (kinds_of t.nodes) n).writes) row

-- so they go with the nodes that have its kinds and edges
pub go_readings : (t : RunTable) (nodes : Nodes) (reads : ℕ → List ℕ) → IsJoined nodes → GoWith t nodes reads → AreReadings (as_in t nodes) reads
go_readings t nodes reads joined go = record {
  each = λ n row is. by_row n row (row_at nodes n) refl (sym (row_then nodes (kinds_of t.nodes) t.edges joined n) ∙ is);
  none = λ n is. gone n (row_at nodes n) refl (sym (row_then nodes (kinds_of t.nodes) t.edges joined n) ∙ is);
}
  where
    by_row : (n : ℕ) (row : Row) (found : Option Row) → row_at nodes n ≡ found → option_map (turned t n) (row_at nodes n) ≡ Some row
        → reads n ≡ disk_by (as_in t nodes) reads n row.driver
    by_row n row None there is = let bad = sym (ap (option_map (turned t n)) there) ∙ is in absurd (cc bad)
    by_row n row (Some old) there is =
        let same : Some (turned t n old) ≡ Some row = sym (ap (option_map (turned t n)) there) ∙ is in
        let rows : turned t n old ≡ row = cc same in
        go.each n old there ∙ ap (λ (r : Row). disk_by (as_in t nodes) reads n r.driver) rows

    gone : (n : ℕ) (found : Option Row) → row_at nodes n ≡ found → option_map (turned t n) (row_at nodes n) ≡ None → reads n ≡ []
    gone n None there is = go.none n there
    gone n (Some old) there is = let bad : Some (turned t n old) ≡ None = sym (ap (option_map (turned t n)) there) ∙ is in absurd (cc bad)

-- the image of a node over its file shows any disk of its size below it
abbrev pub ShowsBelow : Nodes → List Edge → ℕ → ℕ → Type 0
ShowsBelow nodes edges overlay size =
    (bytes : List ℕ) → length bytes ≡ size → image_disk (disk_under (bytes_of nodes) (child_of (Node overlay) FileRole edges)) bytes ≡ bytes

no_disk : (nodes : Nodes) (n : ℕ) → row_at nodes n ≡ None → disk_of nodes n ≡ []
unfolding disk_of
no_disk nodes n is = ap (λ (found : Option Row). elim found as (λ _. List ℕ) [ None ↦ [] | Some r ↦ disk_by nodes (disk_down 63 nodes) n r.driver ]) is

module _ (nodes : Nodes) (joined : IsJoined nodes) where
  -- the nodes' own disks, where devices tell their bytes
  pub go_first : (t : RunTable) → AreTold nodes.devices → nodes.graph.edges ≡ t.edges → GoWith t nodes (disk_of nodes)
  go_first t told edges = record {
    each = λ n row there.
        unfolds nodes joined n row there
        ∙ sym (driver_same nodes (as_in t nodes) (sizes_same nodes (kinds_of t.nodes) t.edges joined) (λ m. refl)
        (λ m. ap (child_of (Node m) FileRole) (sym edges)) (λ m. ap (child_of (Node m) Backing) (sym edges)) (λ m. ap (child_of (Node m) Filtered) (sym edges)) (disk_of nodes) (disk_of nodes) (λ m. refl) n row.driver);
    none = λ n is. no_disk nodes n is;
    long = λ n row there. length_disk nodes joined told n row there;
  }

  -- sizes are the same whatever the edges are
  sizes : (t u : RunTable) (n : ℕ) → node_size (as_in u nodes) n ≡ node_size (as_in t nodes) n
  sizes t u n = sizes_same nodes (kinds_of u.nodes) u.edges joined n ∙ sym (sizes_same nodes (kinds_of t.nodes) t.edges joined n)

  files : (t u : RunTable) (n : ℕ) → file_node_disk (as_in u nodes) n ≡ file_node_disk (as_in t nodes) n
  files t u n = ap (λ (size : ℕ). file_disk size (bytes_of nodes n)) (sizes t u n)

  -- where each node keeps its children, so do the disks
  pub go_kept : (t u : RunTable) (reads : ℕ → List ℕ) → AreChildrenKept t.edges u.edges → GoWith t nodes reads → GoWith u nodes reads
  go_kept t u reads same go = record {
    each = λ n row there.
        go.each n row there
        ∙ sym (driver_same (as_in t nodes) (as_in u nodes) (sizes t u) (λ m. refl) (λ m. same m FileRole) (λ m. same m Backing) (λ m. same m Filtered) reads reads (λ m. refl) n row.driver);
    none = go.none;
    long = go.long;
  }

  part_same : (t u : RunTable) (found now : Option ℕ) → now ≡ found → (offset size : ℕ)
      → raw_disk offset size (disk_under (file_node_disk (as_in u nodes)) now) ≡ raw_disk offset size (disk_under (file_node_disk (as_in t nodes)) found)
  part_same t u found now same offset size = ap (raw_disk offset size) (ap (disk_under (file_node_disk (as_in u nodes))) same ∙ under found)
    where
      under : (found : Option ℕ) → disk_under (file_node_disk (as_in u nodes)) found ≡ disk_under (file_node_disk (as_in t nodes)) found
      under None = refl
      under (Some file) = files t u file

  -- ---- a node without parents gets a backing node

  -- An image that maps no cluster gets the node below it: each disk of its size shows through.
  pub record IsBacked (t u : RunTable) (overlay node : ℕ) : Type 0 where
    pub apart : node ≢ overlay
    pub row : Row
    pub image : Known
    pub there : row_at nodes overlay ≡ Some row
    pub driver : row.driver ≡ Qcow2 image
    pub below : Row
    pub below_there : row_at nodes node ≡ Some below
    pub size : below.size ≡ row.size
    pub shows : ShowsBelow nodes t.edges overlay row.size
    pub alone : (n : ℕ) (role : Role) → child_of (Node n) role t.edges ≢ Some overlay
    pub others : (n : ℕ) (role : Role) → n ≢ overlay → child_of (Node n) role u.edges ≡ child_of (Node n) role t.edges
    pub file : child_of (Node overlay) FileRole u.edges ≡ child_of (Node overlay) FileRole t.edges
    pub backing : child_of (Node overlay) Backing u.edges ≡ Some node

  -- it reads as that node does
  abbrev pub put_at : ℕ → List ℕ → (ℕ → List ℕ) → ℕ → List ℕ
  put_at overlay bytes reads n = cond (n == overlay) bytes (reads n)

  module _ (t u : RunTable) (overlay node : ℕ) (is : IsBacked t u overlay node) (reads : ℕ → List ℕ) (go : GoWith t nodes reads) where
    abbrev pub then : ℕ → List ℕ
    then = put_at overlay (reads node) reads

    pub then_other : (n : ℕ) → n ≢ overlay → then n ≡ reads n
    then_other n apart = rw (ne_eqb n overlay apart) refl

    pub then_own : then overlay ≡ reads node
    then_own = rw (eq-eqb overlay overlay refl) refl

    under_then : (n : ℕ) (role : Role) (found : Option ℕ) → child_of (Node n) role t.edges ≡ found → disk_under then found ≡ disk_under reads found
    under_then n role None at = refl
    under_then n role (Some child) at = then_other child (λ same. is.alone n role (at ∙ ap (λ (m : ℕ). Some m) same))

    through_then : (n : ℕ) (found : Option ℕ) → child_of (Node n) Filtered t.edges ≡ found
        → disk_through (node_size (as_in t nodes) n) then found ≡ disk_through (node_size (as_in t nodes) n) reads found
    through_then n None at = refl
    through_then n (Some child) at = under_then n Filtered (Some child) at

    other_then : (n : ℕ) (d : Driver) → n ≢ overlay → disk_by (as_in u nodes) then n d ≡ disk_by (as_in t nodes) reads n d
    other_then n File apart = files t u n
    other_then n (Raw part) apart = part_same t u (child_of (Node n) FileRole t.edges) (child_of (Node n) FileRole u.edges) (is.others n FileRole apart) part.offset part.size
    other_then n (Qcow2 image) apart =
        ap (λ (file : Option ℕ). image_disk (disk_under (bytes_of nodes) file) (disk_under then (child_of (Node n) Backing u.edges))) (is.others n FileRole apart)
        ∙ ap (λ (over : Option ℕ). image_disk (disk_under (bytes_of nodes) (child_of (Node n) FileRole t.edges)) (disk_under then over)) (is.others n Backing apart)
        ∙ ap (image_disk (disk_under (bytes_of nodes) (child_of (Node n) FileRole t.edges))) (under_then n Backing (child_of (Node n) Backing t.edges) refl)
    other_then n CopyOnRead apart = ap (disk_under then) (is.others n FileRole apart) ∙ under_then n FileRole (child_of (Node n) FileRole t.edges) refl
    other_then n (Filter kind) apart =
        ap (disk_through (node_size (as_in u nodes) n) then) (is.others n Filtered apart)
        ∙ ap (λ (size : ℕ). disk_through size then (child_of (Node n) Filtered t.edges)) (sizes t u n)
        ∙ through_then n (child_of (Node n) Filtered t.edges) refl

    own_then : disk_by (as_in u nodes) then overlay is.row.driver ≡ reads node
    own_then =
        ap (disk_by (as_in u nodes) then overlay) is.driver
        ∙ ap (λ (file : Option ℕ). image_disk (disk_under (bytes_of nodes) file) (disk_under then (child_of (Node overlay) Backing u.edges))) is.file
        ∙ ap (λ (over : Option ℕ). image_disk (disk_under (bytes_of nodes) (child_of (Node overlay) FileRole t.edges)) (disk_under then over)) is.backing
        ∙ ap (image_disk (disk_under (bytes_of nodes) (child_of (Node overlay) FileRole t.edges))) (then_other node is.apart)
        ∙ is.shows (reads node) (go.long node is.below is.below_there ∙ is.size)

    own_row : (n : ℕ) (row : Row) → row_at nodes n ≡ Some row → n ≡ overlay → row ≡ is.row
    own_row n row there same = let at : Some row ≡ Some is.row = sym there ∙ ap (row_at nodes) same ∙ is.there in cc at

    pub go_backed : GoWith u nodes then
    go_backed = record {
      each = λ n row there. elim (cases_eq n overlay) [
        | inl same ↦
            ap then same ∙ then_own ∙ sym own_then
            ∙ ap (λ (r : Row). disk_by (as_in u nodes) then overlay r.driver) (sym (own_row n row there same))
            ∙ ap (λ (m : ℕ). disk_by (as_in u nodes) then m row.driver) (sym same)
        | inr apart ↦ then_other n apart ∙ go.each n row there ∙ sym (other_then n row.driver apart)
      ];
      none = λ n absent. then_other n (λ same. let bad : None ≡ Some is.row = sym absent ∙ ap (row_at nodes) same ∙ is.there in cc bad) ∙ go.none n absent;
      long = λ n row there. elim (cases_eq n overlay) [
        | inl same ↦
            ap length (ap then same ∙ then_own) ∙ go.long node is.below is.below_there ∙ is.size ∙ ap (λ (r : Row). r.size) (sym (own_row n row there same))
        | inr apart ↦ ap length (then_other n apart) ∙ go.long n row there
      ];
    }

  -- ---- parents go over to a node that reads the same

  pub record AreLedOver (t u : RunTable) (from to but : ℕ) : Type 0 where
    pub children : (n : ℕ) (role : Role) → child_of (Node n) role u.edges
        ≡ option_map (child_after from to (Some (Node but)) (Node n)) (child_of (Node n) role t.edges)
    pub filters : (n : ℕ) (row : Row) → row_at nodes n ≡ Some row → child_of (Node n) FileRole t.edges ≡ Some from → row.driver ≡ CopyOnRead

  module _ (t u : RunTable) (from to but : ℕ) (led : AreLedOver t u from to but) (reads : ℕ → List ℕ) (same : reads to ≡ reads from) (go : GoWith t nodes reads) where
    one_led : (n child : ℕ) → reads (child_after from to (Some (Node but)) (Node n) child) ≡ reads child
    one_led n child = by_test (child == from && not (stays (Some (Node but)) (Node n))) refl
      where
        by_test : (b : Bool) → (child == from && not (stays (Some (Node but)) (Node n))) ≡ b → reads (cond b to child) ≡ reads child
        by_test true is = same ∙ ap reads (sym (eqb-true child from (and-left (child == from) (not (stays (Some (Node but)) (Node n))) is)))
        by_test false is = refl

    under_led : (n : ℕ) (role : Role) → disk_under reads (child_of (Node n) role u.edges) ≡ disk_under reads (child_of (Node n) role t.edges)
    under_led n role = ap (disk_under reads) (led.children n role) ∙ by_child (child_of (Node n) role t.edges)
      where
        by_child : (found : Option ℕ) → disk_under reads (option_map (child_after from to (Some (Node but)) (Node n)) found) ≡ disk_under reads found
        by_child None = refl
        by_child (Some child) = one_led n child

    -- a format node keeps its file
    file_led : (n : ℕ) (row : Row) → row_at nodes n ≡ Some row → row.driver ≢ CopyOnRead → child_of (Node n) FileRole u.edges ≡ child_of (Node n) FileRole t.edges
    file_led n row there format = led.children n FileRole ∙ by_child (child_of (Node n) FileRole t.edges) refl
      where
        by_child : (found : Option ℕ) → child_of (Node n) FileRole t.edges ≡ found → option_map (child_after from to (Some (Node but)) (Node n)) found ≡ found
        by_child None at = refl
        by_child (Some child) at = elim (cases_eq child from) [
          | inl is ↦ absurd (format (led.filters n row there (at ∙ ap (λ (m : ℕ). Some m) is)))
          | inr other ↦ rw (ne_eqb child from other) refl
        ]

    by_driver : (n : ℕ) (row : Row) (d : Driver) → row_at nodes n ≡ Some row → row.driver ≡ d → disk_by (as_in u nodes) reads n d ≡ disk_by (as_in t nodes) reads n d
    by_driver n row File there is = files t u n
    by_driver n row (Raw part) there is =
        part_same t u (child_of (Node n) FileRole t.edges) (child_of (Node n) FileRole u.edges)
        (file_led n row there (λ copies. let bad = sym is ∙ copies in cc bad)) part.offset part.size
    by_driver n row (Qcow2 image) there is =
        ap (λ (file : Option ℕ). image_disk (disk_under (bytes_of nodes) file) (disk_under reads (child_of (Node n) Backing u.edges)))
        (file_led n row there (λ copies. let bad = sym is ∙ copies in cc bad))
        ∙ ap (image_disk (disk_under (bytes_of nodes) (child_of (Node n) FileRole t.edges))) (under_led n Backing)
    by_driver n row CopyOnRead there is = under_led n FileRole
    by_driver n row (Filter kind) there is =
        ap (λ (size : ℕ). disk_through size reads (child_of (Node n) Filtered u.edges)) (sizes t u n)
        ∙ ap (disk_through (node_size (as_in t nodes) n) reads) (led.children n Filtered)
        ∙ by_child (child_of (Node n) Filtered t.edges)
      where
        by_child : (found : Option ℕ) → disk_through (node_size (as_in t nodes) n) reads (option_map (child_after from to (Some (Node but)) (Node n)) found)
            ≡ disk_through (node_size (as_in t nodes) n) reads found
        by_child None = refl
        by_child (Some child) = one_led n child

    pub go_led : GoWith u nodes reads
    go_led = record {
      each = λ n row there. go.each n row there ∙ sym (by_driver n row row.driver there refl);
      none = go.none;
      long = go.long;
    }
