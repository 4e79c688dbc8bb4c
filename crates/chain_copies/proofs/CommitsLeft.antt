-- A write to a base of what its top reads as there leaves the top, and what reads the base through that alone.
use Rattle.std.proofs.Common.{◌≡◌, ◌≢◌, ◌==◌, ℕ, zero, suc, Bool, true, false, cond, List, [], Option, Some, None, refl, sym, ◌∙◌, ap, subst, arith}
use Rattle.std.specs.Prelude.{◌||◌}
use Rattle.std.proofs.lemmas.Bool.{eqb-true, eq-eqb, eqb-false, or_parts}
use Rattle.blk_graph.specs.Edits.{child_of}
use Rattle.blk_graph.specs.declared.edge.Parent.TheVariants.{Node}
use Rattle.blk_graph.specs.declared.edge.Role.{Role}
use Rattle.blk_graph.specs.declared.edge.Role.TheVariants.{File as FileRole, Backing, Filtered}
use Rattle.blk_graph.proofs.ChildLemmas.{HasEdge, child-edge}
use Rattle.q2_format.specs.Contents.{file_disk, raw_disk, image_disk}
use Rattle.q2_image.specs.Image.{Known}
use Rattle.blk_nodes.specs.Contents.{bytes_of, disk_by, disk_down, disk_of, disk_through, disk_under, file_node_disk}
use Rattle.blk_nodes.specs.Joined.{IsFile, IsJoined, IsOverlay, IsPartOfFile}
use Rattle.blk_nodes.specs.Nodes.{Nodes, row_at, node_size, file_of, backing_of, filtered_of}
use Rattle.blk_nodes.specs.Through.{IsOrAsTop}
use Rattle.blk_nodes.specs.Writing.{MayWriteThrough, own_file}
use Rattle.blk_nodes.specs.declared.row.Driver.{Driver}
use Rattle.blk_nodes.specs.declared.row.Driver.TheVariants.{File, Raw, Qcow2, CopyOnRead, Filter}
use Rattle.blk_nodes.specs.declared.row.Row.{Row}
use Rattle.blk_nodes.proofs.Through.{image_through, top_stays}
use Rattle.blk_nodes.proofs.Unfolding.{StartsAt, no_path, unfolds}
use Rattle.node_copies.specs.Between.{below_by, below_of, chain_end, end_in}
use Rattle.node_copies.proofs.Puts.{child_kept, size_kept}
use Rattle.chain_copies.specs.Commits.{PutsOfTop, aside_in, child_is, is_written, reads_aside, reads_one, reads_one_by, reads_one_of, written_by, written_file}
use Rattle.chain_copies.proofs.CommitsKept.{below_in, ends_on, starts_on}

disk_none : (nodes : Nodes) (n : ℕ) → row_at nodes n ≡ None → disk_of nodes n ≡ []
unfolding disk_of
disk_none nodes n none =
    ap (λ (found : Option Row). elim found as (λ _. List ℕ) [ None ↦ [] | Some r ↦ disk_by nodes (disk_down 63 nodes) n r.driver ]) none

-- a top above its base is no node over a device
no_file : (nodes : Nodes) (base top : ℕ) → chain_end nodes (Some base) top ≡ Some base → top ≢ base → IsFile nodes top → ⊥
unfolding chain_end
no_file nodes base top ends apart is =
    let none : below_of nodes top ≡ None = ap (below_in nodes top) is.there ∙ ap (below_by nodes top) is.driver in
    let P : Bool → Type 0 = λ b. cond b (Some top) (ends_on 63 nodes (Some base) (below_of nodes top)) ≡ Some base in
    let bad : None ≡ Some base = ap (ends_on 63 nodes (Some base)) (sym none) ∙ subst P (by (top == base) refl) ends in
    cc bad
  where
    by : (b : Bool) → (top == base) ≡ b → (top == base) ≡ false
    by true is = absurd (apart (eqb-true top base is))
    by false is = is

module _ (old new : Nodes) (base top : ℕ) (joined : IsJoined old) (now : IsJoined new) (may : MayWriteThrough old base) (puts : PutsOfTop old new base top) where
  abbrev T : List ℕ
  T = disk_of old top

  abbrev Stays : ℕ → Type 0
  Stays n = IsOrAsTop T (disk_of old n) (disk_of new n)

  child_same : (n : ℕ) (role : Role) → child_of (Node n) role new.graph.edges ≡ child_of (Node n) role old.graph.edges
  child_same n role = child_kept old new base puts.kept n role

  size_same : (n : ℕ) → node_size new n ≡ node_size old n
  size_same n = size_kept old new base puts.kept n

  -- another image is in another file
  apart_file : (n : ℕ) (row : Row) (image : Known) (file : ℕ) → n ≢ base → row_at old n ≡ Some row → row.driver ≡ Qcow2 image → file_of old n ≡ Some file
      → written_file old base ≢ Some file
  apart_file n row image file other there driver edge is =
      let own : own_file old base may.row.driver ≡ Some file
      = sym (ap (written_by old base) may.there) ∙ is in
      other (may.owns file own n (record { row = row; image = image; there = there; driver = driver; edge = edge }))

  over_of : (n : ℕ) (row : Row) (image : Known) → row_at old n ≡ Some row → row.driver ≡ Qcow2 image → IsOverlay old n image
  over_of n row image there driver = rw driver at (joined.below n row there)

  own_bytes : (n : ℕ) (row : Row) (image : Known) → n ≢ base → row_at old n ≡ Some row → row.driver ≡ Qcow2 image
      → disk_under (bytes_of new) (file_of new n) ≡ disk_under (bytes_of old) (file_of old n)
  own_bytes n row image other there driver =
      let over = over_of n row image there driver in
      ap (disk_under (bytes_of new)) (child_same n FileRole ∙ over.edge)
      ∙ puts.bytes over.file (apart_file n row image over.file other there driver over.edge)
      ∙ ap (disk_under (bytes_of old)) (sym over.edge)

  -- ---- up the chain from the base

  over_driver : (n next : ℕ) (row : Row) (d : Driver) → n ≢ base → row_at old n ≡ Some row → row.driver ≡ d → below_by old n d ≡ Some next → Stays next
      → IsOrAsTop T (disk_by old (disk_of old) n d) (disk_by new (disk_of new) n d)
  over_driver n next row File other there driver below rest = absurd (cc below)
  over_driver n next row (Raw part) other there driver below rest = absurd (cc below)
  over_driver n next row (Qcow2 image) other there driver below rest =
      let own : List ℕ = disk_under (bytes_of old) (file_of old n) in
      let was : image_disk own (disk_of old next) ≡ disk_by old (disk_of old) n (Qcow2 image)
      = ap (λ (b : Option ℕ). image_disk own (disk_under (disk_of old) b)) (sym below) in
      let is : image_disk own (disk_of new next) ≡ disk_by new (disk_of new) n (Qcow2 image)
      = ap (λ (b : Option ℕ). image_disk own (disk_under (disk_of new) b)) (sym below ∙ sym (child_same n Backing))
      ∙ ap (λ (bytes : List ℕ). image_disk bytes (disk_under (disk_of new) (backing_of new n))) (sym (own_bytes n row image other there driver)) in
      subst (λ (a : List ℕ). IsOrAsTop T a (disk_by new (disk_of new) n (Qcow2 image))) was
      (subst (IsOrAsTop T (image_disk own (disk_of old next))) is (image_through T own (disk_of old next) (disk_of new next) rest))
  over_driver n next row CopyOnRead other there driver below rest =
      subst (λ (a : List ℕ). IsOrAsTop T a (disk_by new (disk_of new) n CopyOnRead)) (ap (disk_under (disk_of old)) (sym below))
      (subst (IsOrAsTop T (disk_of old next)) (ap (disk_under (disk_of new)) (sym below ∙ sym (child_same n FileRole))) rest)
  over_driver n next row (Filter kind) other there driver below rest =
      subst (λ (a : List ℕ). IsOrAsTop T a (disk_by new (disk_of new) n (Filter kind))) (ap (disk_through (node_size old n) (disk_of old)) (sym below))
      (subst (IsOrAsTop T (disk_of old next)) (ap (disk_through (node_size new n) (disk_of new)) (sym below ∙ sym (child_same n Filtered))) rest)

  over_row : (n next : ℕ) (found : Option Row) → n ≢ base → row_at old n ≡ found → below_in old n found ≡ Some next → Stays next → Stays n
  over_row n next None other there below rest = absurd (cc below)
  over_row n next (Some row) other there below rest =
      subst (λ (a : List ℕ). IsOrAsTop T a (disk_of new n)) (sym (unfolds old joined n row there))
      (subst (IsOrAsTop T (disk_by old (disk_of old) n row.driver)) (sym (unfolds new now n row (puts.kept.others n other ∙ there)))
      (over_driver n next row row.driver other there refl below rest))

  abbrev Rest : ℕ → Type 0
  Rest turns = (m : ℕ) → end_in turns old (Some base) m ≡ Some base → Stays m

  up : (turns n : ℕ) → end_in turns old (Some base) n ≡ Some base → Stays n
  up zero n ends = absurd (cc ends)
  up (suc turns) n ends = by (n == base) refl ends (up turns)
    where
      over : (found : Option ℕ) → below_of old n ≡ found → n ≢ base → ends_on turns old (Some base) found ≡ Some base → Rest turns → Stays n
      over None is other ends rest = absurd (cc ends)
      over (Some next) is other ends rest = over_row n next (row_at old n) other refl is (rest next ends)

      by : (b : Bool) → (n == base) ≡ b → cond b (Some n) (ends_on turns old (Some base) (below_of old n)) ≡ Some base → Rest turns → Stays n
      by true same ends rest = subst Stays (sym (eqb-true n base same)) puts.put
      by false other ends rest = over (below_of old n) refl (eqb-false n base other) ends rest

  pub chain_left : (n : ℕ) → chain_end old (Some base) n ≡ Some base → IsOrAsTop (disk_of old top) (disk_of old n) (disk_of new n)
  unfolding chain_end
  chain_left n ends = up 64 n ends

  pub top_left : chain_end old (Some base) top ≡ Some base → disk_of new top ≡ disk_of old top
  top_left ends = top_stays T (disk_of new top) (chain_left top ends)

  -- ---- what doesn't read beside the top

  -- a file that isn't written keeps its bytes
  file_bytes : (f : ℕ) → is_written old base f ≡ false → bytes_of new f ≡ bytes_of old f
  file_bytes f free = puts.bytes f (apart (written_file old base) (or_parts (f == base) (child_is (λ (file : ℕ). f == file) (written_file old base)) free).1)
    where
      apart : (found : Option ℕ) → child_is (λ (file : ℕ). f == file) found ≡ false → found ≢ Some f
      apart None free is = cc is
      apart (Some file) free is =
          let same : file ≡ f = cc is in
          let bad : true ≡ false = sym (eq-eqb f file (sym same)) ∙ free in
          cc bad

  file_disks : (f : ℕ) → is_written old base f ≡ false → file_node_disk new f ≡ file_node_disk old f
  file_disks f free =
      ap (λ (n : ℕ). file_disk n (bytes_of new f)) (size_same f) ∙ ap (file_disk (node_size old f)) (file_bytes f free)

  unwritten : (n : ℕ) → is_written old base n ≡ false → n ≢ base
  unwritten n free = eqb-false n base (or_parts (n == base) (child_is (λ (file : ℕ). n == file) (written_file old base)) free).0

  module _ (ends : chain_end old (Some base) top ≡ Some base) (apart : top ≢ base) where
    abbrev Same : ℕ → Type 0
    Same n = disk_of new n ≡ disk_of old n

    -- a `file` node that doesn't read aside isn't written
    free_file : (turns f : ℕ) → (StartsAt old.graph.edges turns f → ⊥) → IsFile old f → aside_in turns old base top f ≡ false → is_written old base f ≡ false
    free_file zero f none is free = absurd (none tt)
    free_file (suc turns) f none is free = by (f == top) refl free
      where
        by : (b : Bool) → (f == top) ≡ b
            → cond b false (is_written old base f || reads_one_of (aside_in turns old base top) old f) ≡ false → is_written old base f ≡ false
        by true same free = absurd (no_file old base top ends apart (subst (IsFile old) (eqb-true f top same) is))
        by false other free = (or_parts (is_written old base f) (reads_one_of (aside_in turns old base top) old f) free).0

    -- the nodes that a node reads, of which none reads aside, down a chain of so many nodes
    module _ (turns n : ℕ) (row : Row) (other : n ≢ base) (there : row_at old n ≡ Some row)
        (none : (child : ℕ) → HasEdge old.graph.edges (Node n) child → StartsAt old.graph.edges turns child → ⊥)
        (rest : (child : ℕ) → HasEdge old.graph.edges (Node n) child → aside_in turns old base top child ≡ false → Same child) where
      abbrev Aside : ℕ → Bool
      Aside child = aside_in turns old base top child

      under : (role : Role) (found : Option ℕ) → child_of (Node n) role old.graph.edges ≡ found → child_is Aside found ≡ false
          → disk_under (disk_of new) found ≡ disk_under (disk_of old) found
      under role None is free = refl
      under role (Some child) is free = rest child (child-edge (Node n) role old.graph.edges child is) free

      through : (size : ℕ) (role : Role) (found : Option ℕ) → child_of (Node n) role old.graph.edges ≡ found → child_is Aside found ≡ false
          → disk_through size (disk_of new) found ≡ disk_through size (disk_of old) found
      through size role None is free = refl
      through size role (Some child) is free = rest child (child-edge (Node n) role old.graph.edges child is) free

      by_driver : (d : Driver) → row.driver ≡ d → is_written old base n ≡ false → reads_one Aside old n d ≡ false
          → disk_by new (disk_of new) n d ≡ disk_by old (disk_of old) n d
      by_driver File driver own free = file_disks n own
      by_driver (Raw part) driver own free =
          let is : IsPartOfFile old n part.offset part.size = rw driver at (joined.below n row there) in
          let below : Aside is.file ≡ false = sym (ap (child_is Aside) is.edge) ∙ free in
          ap (λ (f : Option ℕ). raw_disk part.offset part.size (disk_under (file_node_disk new) f)) (child_same n FileRole ∙ is.edge)
          ∙ ap (raw_disk part.offset part.size) (file_disks is.file (free_file turns is.file (none is.file (child-edge (Node n) FileRole old.graph.edges is.file is.edge)) is.is_file below))
          ∙ ap (λ (f : Option ℕ). raw_disk part.offset part.size (disk_under (file_node_disk old) f)) (sym is.edge)
      by_driver (Qcow2 image) driver own free =
          let parts = or_parts (child_is Aside (file_of old n)) (child_is Aside (backing_of old n)) free in
          ap (λ (bytes : List ℕ). image_disk bytes (disk_under (disk_of new) (backing_of new n))) (own_bytes n row image other there driver)
          ∙ ap (λ (b : Option ℕ). image_disk (disk_under (bytes_of old) (file_of old n)) (disk_under (disk_of new) b)) (child_same n Backing)
          ∙ ap (image_disk (disk_under (bytes_of old) (file_of old n))) (under Backing (backing_of old n) refl parts.1)
      by_driver CopyOnRead driver own free =
          ap (disk_under (disk_of new)) (child_same n FileRole) ∙ under FileRole (file_of old n) refl free
      by_driver (Filter kind) driver own free =
          ap (disk_through (node_size new n) (disk_of new)) (child_same n Filtered)
          ∙ ap (λ (s : ℕ). disk_through s (disk_of new) (filtered_of old n)) (size_same n)
          ∙ through (node_size old n) Filtered (filtered_of old n) refl free

      pub by_row : is_written old base n ≡ false → reads_one Aside old n row.driver ≡ false → Same n
      by_row own free =
          unfolds new now n row (puts.kept.others n other ∙ there) ∙ by_driver row.driver refl own free ∙ sym (unfolds old joined n row there)

    down : (turns n : ℕ) → (StartsAt old.graph.edges turns n → ⊥) → aside_in turns old base top n ≡ false → Same n
    down zero n none free = absurd (none tt)
    down (suc turns) n none free = by (n == top) refl free (λ child e far. down turns child (λ starts. none (starts_on old.graph.edges turns n child e starts)) far)
      where
        by_found : (found : Option Row) → row_at old n ≡ found → is_written old base n ≡ false
            → reads_one_by (aside_in turns old base top) old n found ≡ false
            → ((child : ℕ) → HasEdge old.graph.edges (Node n) child → aside_in turns old base top child ≡ false → Same child) → Same n
        by_found None there own free rest =
            disk_none new n (puts.kept.others n (unwritten n own) ∙ there) ∙ sym (disk_none old n there)
        by_found (Some row) there own free rest =
            by_row turns n row (unwritten n own) there (λ child e starts. none (starts_on old.graph.edges turns n child e starts)) rest own free

        by : (b : Bool) → (n == top) ≡ b → cond b false (is_written old base n || reads_one_of (aside_in turns old base top) old n) ≡ false
            → ((child : ℕ) → HasEdge old.graph.edges (Node n) child → aside_in turns old base top child ≡ false → Same child) → Same n
        by true same free rest = subst Same (sym (eqb-true n top same)) (top_left ends)
        by false other free rest =
            let parts = or_parts (is_written old base n) (reads_one_of (aside_in turns old base top) old n) free in
            by_found (row_at old n) refl parts.0 parts.1 rest

    pub rest_left : (n : ℕ) → reads_aside old base top n ≡ false → Same n
    unfolding reads_aside
    rest_left n free = down 64 n (no_path old joined 64 (omega arith) n) free
