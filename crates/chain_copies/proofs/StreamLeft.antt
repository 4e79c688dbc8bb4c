-- A step of a stream leaves what the nodes read as.
use Rattle.std.proofs.Common.{◌≡◌, ◌≢◌, ℕ, Bool, true, List, Some, refl, sym, ◌∙◌, ap, subst, inl, inr}
use Rattle.std.proofs.lemmas.Bool.{cases_eq}
use Rattle.blk_graph.specs.Edits.{child_of, without_parent}
use Rattle.blk_graph.specs.Permissions.{has_role}
use Rattle.blk_graph.specs.Refreshed.{IsOf, kind_at}
use Rattle.blk_graph.specs.declared.edge.Edge.{Edge}
use Rattle.blk_graph.specs.declared.edge.Parent.TheVariants.{Node}
use Rattle.blk_graph.specs.declared.edge.Role.{Role}
use Rattle.blk_graph.specs.declared.edge.Role.TheVariants.{File as FileRole, Backing, Filtered}
use Rattle.blk_graph.specs.declared.kind.NodeKind.{NodeKind}
use Rattle.blk_graph.proofs.ChildLemmas.{child-without}
use Rattle.q2_image.specs.Image.{Known}
use Rattle.blk_nodes.specs.Contents.{disk_of}
use Rattle.blk_nodes.specs.Copying.{IsBeside}
use Rattle.blk_nodes.specs.Joined.{IsJoined, IsOverlay}
use Rattle.blk_nodes.specs.Nodes.{Nodes, AreTold, row_at, node_size, file_of, backing_of, filtered_of, driver_kind}
use Rattle.blk_nodes.specs.Parts.{IsImage}
use Rattle.blk_nodes.specs.Reading.{LeadsTo}
use Rattle.blk_nodes.specs.Through.{IsOrAsTop, LeavesAllBut}
use Rattle.blk_nodes.specs.Writing.{MayWriteThrough, own_file}
use Rattle.blk_nodes.specs.declared.row.Driver.{Driver}
use Rattle.blk_nodes.specs.declared.row.Driver.TheVariants.{File, Raw, Qcow2, CopyOnRead, Filter}
use Rattle.blk_nodes.specs.declared.row.Row.{Row}
use Rattle.blk_nodes.proofs.Commits.{stays}
use Rattle.blk_nodes.proofs.Leading.{child_leads, leads_on}
use Rattle.blk_nodes.proofs.Rows.{has_image}
use Rattle.blk_nodes.proofs.Through.{top_stays}
use Rattle.block_jobs.specs.Work.{JobWork}
use Rattle.node_copies.proofs.Puts.{size_kept}
use Rattle.job_copies.specs.Passing.{PassesNext}
use Rattle.chain_copies.specs.Commits.{PutsOfTop, written_by, written_file}
use Rattle.chain_copies.proofs.CommitsLinked.{edge_of}
use Rattle.chain_copies.proofs.CommitsPut.{put_next}
use Rattle.chain_copies.proofs.StreamOwn.{fewer_leads, image_apart}

-- a top that gets its own bytes
pub top_left : (old new : Nodes) (top : ℕ) → PutsOfTop old new top top → disk_of new top ≡ disk_of old top
top_left old new top puts = top_stays (disk_of old top) (disk_of new top) puts.put

same_is : (top a b : List ℕ) → b ≡ a → IsOrAsTop top a b
same_is top a b is = subst (IsOrAsTop top a) (sym is) (record { whole = refl; at = λ i. inl refl })

module _ (old new : Nodes) (top : ℕ) (joined : IsJoined old) (now : IsJoined new) (is_image : IsImage old top) (may : MayWriteThrough old top)
    (puts : PutsOfTop old new top top) where
  found : (row : Row) × (image : Known) × (row_at old top ≡ Some row) × (row.driver ≡ Qcow2 image) × Unit {0}
  found = has_image (row_at old top) (λ _. Unit {0}) is_image

  abbrev row : Row
  row = found.0

  driver_is : (r : Row) → row_at old top ≡ Some r → r.driver ≡ Qcow2 found.1
  driver_is r there =
      let same : r ≡ row = cc (sym there ∙ found.2) in
      ap (λ (x : Row). x.driver) same ∙ found.3

  -- an image is the filter of nothing
  no_filtered : (child : ℕ) → filtered_of old top ≡ Some child → ⊥
  no_filtered child is =
      let e = edge_of old.graph.edges top Filtered child is in
      let fit = joined.sound.fit.each e.edge e.there in
      let role : has_role (kind_at old.graph.kinds top).kind Filtered ≡ true
      = subst (λ (r : Role). has_role (kind_at old.graph.kinds top).kind r ≡ true) e.role_is (subst (IsOf old.graph.kinds e.edge) e.from fit.table) in
      let kind : has_role (driver_kind (Qcow2 found.1)) Filtered ≡ true
      = ap (λ (d : Driver). has_role (driver_kind d) Filtered) (sym found.3)
      ∙ sym (ap (λ (k : NodeKind). has_role k.kind Filtered) (joined.kinds top row found.2)) ∙ role in
      cc kind

  module _ (file : ℕ) (edge : file_of old top ≡ Some file) where
    abbrev others : List Edge
    others = without_parent (Node top) old.graph.edges

    abbrev Beside : ℕ → Type 0
    Beside n = LeadsTo others n file → ⊥

    child_beside : (n child : ℕ) (role : Role) → n ≢ top → Beside n → child_of (Node n) role old.graph.edges ≡ Some child → Beside child
    child_beside n child role other beside is leads =
        beside
        (leads_on others n child file
        (child_leads others n child role
        (child-without (Node top) (Node n) role old.graph.edges (λ same. let e : top ≡ n = cc same in other (sym e)) ∙ is)) leads)

    written_is : written_file old top ≡ Some file
    written_is = ap (written_by old top) found.2 ∙ ap (own_file old top) found.3 ∙ edge

    own_beside : (n f : ℕ) (d : Driver) → Beside n → n ≢ top → own_file old n d ≡ Some f → f ≢ file
    own_beside n f File beside other own same = let here : n ≡ f = cc own in beside (inl (here ∙ same))
    own_beside n f (Raw part) beside other own same = child_beside n f FileRole other beside own (inl same)
    own_beside n f (Qcow2 image) beside other own same = child_beside n f FileRole other beside own (inl same)
    own_beside n f CopyOnRead beside other own same = cc own
    own_beside n f (Filter kind) beside other own same = cc own

    over_beside : (n c : ℕ) → Beside n → backing_of old n ≡ Some c → Beside c
    over_beside n c beside is = elim (cases_eq n top) [
      | inl same ↦
          λ leads. image_apart old top is_image may c file (ap (backing_of old) (sym same) ∙ is) edge (fewer_leads old.graph.edges top c file leads)
      | inr other ↦ child_beside n c Backing other beside is
    ]

    filtered_beside : (n c : ℕ) (r : Row) → Beside n → row_at old n ≡ Some r → r.driver ≡ CopyOnRead → file_of old n ≡ Some c → Beside c
    filtered_beside n c r beside there driver is = elim (cases_eq n top) [
      | inl same ↦
          let bad : CopyOnRead ≡ Qcow2 found.1 = sym driver ∙ driver_is r (ap (row_at old) (sym same) ∙ there) in
          absurd (cc bad)
      | inr other ↦ child_beside n c FileRole other beside is
    ]

    passed_beside : (n c : ℕ) → Beside n → filtered_of old n ≡ Some c → Beside c
    passed_beside n c beside is = elim (cases_eq n top) [
      | inl same ↦ absurd (no_filtered c (ap (filtered_of old) (sym same) ∙ is))
      | inr other ↦ child_beside n c Filtered other beside is
    ]

    leaves : LeavesAllBut old new top file Beside
    leaves = record {
      graph = puts.kept.graph;
      rows = puts.kept.others;
      sizes = size_kept old new top puts.kept;
      bytes = λ f other. puts.bytes f (λ is. let same : file ≡ f = cc (sym written_is ∙ is) in other (sym same));
      own = λ n f r beside other there own. own_beside n f r.driver beside other own;
      over = over_beside;
      filtered = filtered_beside;
      passed = passed_beside;
    }

    beside_left : (other : ℕ) → Beside other → disk_of new other ≡ disk_of old other
    beside_left other beside =
        stays old new other top file Beside joined now leaves
        (same_is (disk_of old other) (disk_of old top) (disk_of new top) (top_left old new top puts)) beside

  pub others_left : (other : ℕ) → IsBeside old other top → disk_of new other ≡ disk_of old other
  others_left other beside =
      let overlay : IsOverlay old top found.1 = rw found.3 at (joined.below top row found.2) in
      beside_left overlay.file overlay.edge other (beside overlay.file overlay.edge)

-- behind a step
module _ (old new : Nodes) (was now : JobWork) (top : ℕ) (must : ℕ → Bool) (answer : Bool) (joined : IsJoined old) (told : AreTold old.devices)
    (may : MayWriteThrough old top) (size : node_size old top ≡ was.size) (passes : PassesNext must old new was now top top answer) where
  puts : PutsOfTop old new top top
  puts = put_next old new top top joined told may was now size must answer passes

  pub step_leaves_top : disk_of new top ≡ disk_of old top
  step_leaves_top = top_left old new top puts

  pub step_leaves_others : IsJoined new → IsImage old top → (other : ℕ) → IsBeside old other top → disk_of new other ≡ disk_of old other
  step_leaves_others joined_new is_image other beside = others_left old new top joined joined_new is_image may puts other beside
