-- A piece that is read and written to the images that it met leaves the disks.
use Rattle.std.proofs.Common.{◌≡◌, ◌≢◌, ℕ, zero, suc, ◌+◌, ◌-◌, ◌≤◌, List, [], ◌∷◌, length, get_or, Option, Some, None, refl, sym, ◌∙◌, ap, arith, inl, inr}
use Rattle.std.proofs.lemmas.Bool.{cases_eq, cases_lt}
use Rattle.std.proofs.lemmas.List.{ext_get_or}
use Rattle.blk_base.specs.Content.{bytes_at, with_bytes}
use Rattle.blk_base.specs.declared.fault.Outcome.{Outcome}
use Rattle.blk_base.specs.declared.fault.Outcome.TheVariants.{Good, Torn, Io, NoSpace}
use Rattle.blk_base.proofs.Contents.{get_or-bytes_at, get_or-with_bytes_inside, get_or-with_bytes_outside, length-with_bytes_within}
use Rattle.blk_graph.specs.Edits.{child_of, without_parent}
use Rattle.blk_graph.specs.Graph.{Graph}
use Rattle.blk_graph.specs.declared.edge.Edge.{Edge}
use Rattle.blk_graph.specs.declared.edge.Parent.TheVariants.{Node}
use Rattle.blk_graph.specs.declared.edge.Role.{Role}
use Rattle.blk_graph.specs.declared.edge.Role.TheVariants.{File as FileRole, Backing, Filtered}
use Rattle.blk_graph.proofs.ChildLemmas.{HasEdge, child-edge, child-without}
use Rattle.q2_format.specs.Contents.{file_disk, raw_disk, image_disk}
use Rattle.blk_nodes.specs.Contents.{disk_under, disk_through, disk_by, disk_down, disk_of, bytes_of, file_node_disk}
use Rattle.blk_nodes.specs.Copying.{AtEach, GoesWhole, LeavesRest}
use Rattle.blk_nodes.specs.Joined.{IsOverlay, IsJoined}
use Rattle.blk_nodes.specs.Nodes.{Nodes, row_at, node_size, file_of, backing_of, filtered_of}
use Rattle.blk_nodes.specs.Reading.{LeadsTo}
use Rattle.blk_nodes.specs.Writing.{HasImageIn, MayWriteThrough, taken_by}
use Rattle.blk_nodes.specs.declared.row.Driver.{Driver}
use Rattle.blk_nodes.specs.declared.row.Driver.TheVariants.{File, Raw, Qcow2, CopyOnRead, Filter}
use Rattle.blk_nodes.specs.declared.row.Row.{Row}
use Rattle.blk_nodes.proofs.Copied.{IsOver, IsPutInto, mid_child, files_apart}
use Rattle.blk_nodes.proofs.Leading.{leads_on, child_leads}
use Rattle.blk_nodes.proofs.Unfolding.{StartsAt, no_path, unfolds}

-- the bytes of a place, written there again
pub with_same : (d : List ℕ) (start n : ℕ) (bytes : List ℕ) → bytes ≡ bytes_at d start n → length bytes ≡ n → start + n ≤ length d → with_bytes d start bytes ≡ d
with_same d start n bytes is whole inside =
    let within : start + length bytes ≤ length d = omega (arith, whole, inside) in
    ext_get_or 0 (with_bytes d start bytes) d (length-with_bytes_within d start bytes within) (λ k less. by_place k)
  where
    by_place : (k : ℕ) → get_or (with_bytes d start bytes) k 0 ≡ get_or d k 0
    by_place k = elim (cases_lt k start) [
      | inl before ↦ get_or-with_bytes_outside d start bytes k (inl before)
      | inr from ↦ elim (cases_lt k (start + n)) [
        | inl less ↦
            let i : ℕ = k - start in
            let at : start + i ≡ k = omega (arith, from) in
            ap (λ (j : ℕ). get_or (with_bytes d start bytes) j 0) (sym at)
            ∙ get_or-with_bytes_inside d start bytes i (omega (arith, from, less, whole))
            ∙ ap (λ (b : List ℕ). get_or b i 0) is
            ∙ get_or-bytes_at d start n i (omega (arith, from, less))
            ∙ ap (λ (j : ℕ). get_or d j 0) at
        | inr past ↦ get_or-with_bytes_outside d start bytes k (inr (omega (arith, past, whole)))
      ]
    ]

-- and what was taken of them
pub with_taken : (outcome : Outcome) (d : List ℕ) (start : ℕ) (bytes : List ℕ) → GoesWhole outcome → with_bytes d start bytes ≡ d → with_bytes d start (taken_by outcome bytes) ≡ d
with_taken Good d start bytes whole same = same
with_taken (Torn done dev count) d start bytes whole same = absurd whole
with_taken (Io dev count) d start bytes whole same = refl
with_taken (NoSpace dev) d start bytes whole same = absurd whole

disk_none : (nodes : Nodes) (n : ℕ) → row_at nodes n ≡ None → disk_of nodes n ≡ []
unfolding disk_of
disk_none nodes n none =
    ap (λ (found : Option Row). elim found as (λ _. List ℕ) [ None ↦ [] | Some r ↦ disk_by nodes (disk_down 63 nodes) n r.driver ]) none

-- where an image's disk stays, so does each disk that doesn't stand in its file beside it
module _ (old new : Nodes) (joined : IsJoined old) (now : IsJoined new) (node : ℕ) (outcome : Outcome) (one : LeavesRest (node ∷ []) old new outcome)
    (own : disk_of new node ≡ disk_of old node) (file : ℕ) (edge : file_of old node ≡ Some file) where
  abbrev others : List Edge
  others = without_parent (Node node) old.graph.edges

  abbrev Apart : ℕ → Type 0
  Apart n = LeadsTo others n file → ⊥

  bytes_same : (f : ℕ) → f ≢ file → bytes_of new f ≡ bytes_of old f
  bytes_same f apart = one.bytes f ((λ is. let same : file ≡ f = cc (sym edge ∙ is) in apart (sym same)), tt)

  child_same : (n : ℕ) (role : Role) → child_of (Node n) role new.graph.edges ≡ child_of (Node n) role old.graph.edges
  child_same n role = ap (λ (g : Graph). child_of (Node n) role g.edges) one.graph

  child_apart : (n child : ℕ) (role : Role) → n ≢ node → Apart n → child_of (Node n) role old.graph.edges ≡ Some child → Apart child
  child_apart n child role other apart is leads =
      apart (leads_on others n child file (child_leads others n child role (child-without (Node node) (Node n) role old.graph.edges (λ same. let e : node ≡ n = cc same in other (sym e)) ∙ is)) leads)

  bytes_below : (found : Option ℕ) → ((child : ℕ) → found ≡ Some child → Apart child) → disk_under (bytes_of new) found ≡ disk_under (bytes_of old) found
  bytes_below None each = refl
  bytes_below (Some child) each = bytes_same child (λ same. each child refl (inl same))

  file_below : (found : Option ℕ) → ((child : ℕ) → found ≡ Some child → Apart child) → disk_under (file_node_disk new) found ≡ disk_under (file_node_disk old) found
  file_below None each = refl
  file_below (Some child) each =
      ap (λ (n : ℕ). file_disk n (bytes_of new child)) (one.sizes child) ∙ ap (file_disk (node_size old child)) (bytes_same child (λ same. each child refl (inl same)))

  abbrev Rest : ℕ → Type 0
  Rest n = (child : ℕ) → HasEdge old.graph.edges (Node n) child → Apart child → disk_of new child ≡ disk_of old child

  over_same : (n : ℕ) (role : Role) → n ≢ node → Apart n → Rest n → (found : Option ℕ) → child_of (Node n) role old.graph.edges ≡ found
      → disk_under (disk_of new) found ≡ disk_under (disk_of old) found
  over_same n role other apart rest None is = refl
  over_same n role other apart rest (Some child) is = rest child (child-edge (Node n) role old.graph.edges child is) (child_apart n child role other apart is)

  through_same : (n : ℕ) → n ≢ node → Apart n → Rest n → (found : Option ℕ) → child_of (Node n) Filtered old.graph.edges ≡ found
      → disk_through (node_size old n) (disk_of new) found ≡ disk_through (node_size old n) (disk_of old) found
  through_same n other apart rest None is = refl
  through_same n other apart rest (Some child) is = over_same n Filtered other apart rest (Some child) is

  by_driver : (n : ℕ) → n ≢ node → Apart n → Rest n → (d : Driver) → disk_by new (disk_of new) n d ≡ disk_by old (disk_of old) n d
  by_driver n other apart rest File =
      ap (λ (s : ℕ). file_disk s (bytes_of new n)) (one.sizes n) ∙ ap (file_disk (node_size old n)) (bytes_same n (λ same. apart (inl same)))
  by_driver n other apart rest (Raw part) =
      ap (λ (f : Option ℕ). raw_disk part.offset part.size (disk_under (file_node_disk new) f)) (child_same n FileRole)
      ∙ ap (raw_disk part.offset part.size) (file_below (file_of old n) (λ child is. child_apart n child FileRole other apart is))
  by_driver n other apart rest (Qcow2 image) =
      ap (λ (f : Option ℕ). image_disk (disk_under (bytes_of new) f) (disk_under (disk_of new) (backing_of new n))) (child_same n FileRole)
      ∙ ap (λ (b : Option ℕ). image_disk (disk_under (bytes_of new) (file_of old n)) (disk_under (disk_of new) b)) (child_same n Backing)
      ∙ ap (λ (b : List ℕ). image_disk b (disk_under (disk_of new) (backing_of old n))) (bytes_below (file_of old n) (λ child is. child_apart n child FileRole other apart is))
      ∙ ap (image_disk (disk_under (bytes_of old) (file_of old n))) (over_same n Backing other apart rest (backing_of old n) refl)
  by_driver n other apart rest CopyOnRead =
      ap (disk_under (disk_of new)) (child_same n FileRole) ∙ over_same n FileRole other apart rest (file_of old n) refl
  by_driver n other apart rest (Filter kind) =
      ap (disk_through (node_size new n) (disk_of new)) (child_same n Filtered)
      ∙ ap (λ (s : ℕ). disk_through s (disk_of new) (filtered_of old n)) (one.sizes n)
      ∙ through_same n other apart rest (filtered_of old n) refl

  by_row : (n : ℕ) → n ≢ node → Apart n → Rest n → (found : Option Row) → row_at old n ≡ found → disk_of new n ≡ disk_of old n
  by_row n other apart rest None there = disk_none new n (one.rows n (other, tt) ∙ there) ∙ sym (disk_none old n there)
  by_row n other apart rest (Some row) there =
      unfolds new now n row (one.rows n (other, tt) ∙ there) ∙ by_driver n other apart rest row.driver ∙ sym (unfolds old joined n row there)

  beside_in : (k n : ℕ) → (StartsAt old.graph.edges k n → ⊥) → Apart n → disk_of new n ≡ disk_of old n
  beside_in zero n none apart = absurd (none tt)
  beside_in (suc k) n none apart = elim (cases_eq n node) [
    | inl same ↦ ap (disk_of new) same ∙ own ∙ ap (disk_of old) (sym same)
    | inr other ↦
        by_row n other apart (λ child e far. beside_in k child (λ starts. none (e.edge, e.there, e.from, rw e.to starts)) far) (row_at old n) refl
  ]

  pub beside_stays : (n : ℕ) → Apart n → disk_of new n ≡ disk_of old n
  beside_stays n apart = beside_in 64 n (no_path old joined 64 (omega arith) n) apart

-- where the disk below a step stays, so does that of the node
module _ (old new : Nodes) (joined : IsJoined old) (now : IsJoined new) (images : List ℕ) (outcome : Outcome) (left : LeavesRest images old new outcome)
    (node place next : ℕ) (over : IsOver old node place next) (apart : AtEach (λ n. node ≢ n) images) (may : AtEach (MayWriteThrough old) images)
    (into : AtEach (λ n. IsPutInto old n place) images) (same : disk_of new next ≡ disk_of old next) where
  old_is : (d : Driver) → over.row.driver ≡ d → disk_of old node ≡ disk_by old (disk_of old) node d
  old_is d is = unfolds old joined node over.row over.there ∙ ap (disk_by old (disk_of old) node) is

  new_is : (d : Driver) → over.row.driver ≡ d → disk_of new node ≡ disk_by new (disk_of new) node d
  new_is d is = unfolds new now node over.row (left.rows node apart ∙ over.there) ∙ ap (disk_by new (disk_of new) node) is

  child_now : (role : Role) → child_of (Node node) role new.graph.edges ≡ child_of (Node node) role old.graph.edges
  child_now role = mid_child old new images outcome left node role

  pub chain_stays : disk_of new node ≡ disk_of old node
  chain_stays = elim over.how [
    | inl filter ↦ elim filter [
      | inl copies ↦
          new_is CopyOnRead copies.0 ∙ ap (disk_under (disk_of new)) (child_now FileRole ∙ copies.1) ∙ same ∙ ap (disk_under (disk_of old)) (sym copies.1)
          ∙ sym (old_is CopyOnRead copies.0)
      | inr passes ↦
          new_is (Filter passes.0) passes.1 ∙ ap (disk_through (node_size new node) (disk_of new)) (child_now Filtered ∙ passes.2) ∙ same
          ∙ ap (disk_through (node_size old node) (disk_of old)) (sym passes.2) ∙ sym (old_is (Filter passes.0) passes.1)
    ]
    | inr image ↦
        let is : IsOverlay old node image.0 = rw image.1 at (joined.below node over.row over.there) in
        let has : HasImageIn old node is.file = record { row = over.row; image = image.0; there = over.there; driver = image.1; edge = is.edge } in
        new_is (Qcow2 image.0) image.1
        ∙ ap (λ (f : Option ℕ). image_disk (disk_under (bytes_of new) f) (disk_under (disk_of new) (backing_of new node))) (child_now FileRole ∙ is.edge)
        ∙ ap (λ (b : Option ℕ). image_disk (bytes_of new is.file) (disk_under (disk_of new) b)) (child_now Backing ∙ image.3)
        ∙ ap (λ (b : List ℕ). image_disk b (disk_of new next)) (left.bytes is.file (files_apart old new images outcome left place node apart may into is.file has))
        ∙ ap (image_disk (bytes_of old is.file)) same
        ∙ ap (λ (b : Option ℕ). image_disk (bytes_of old is.file) (disk_under (disk_of old) b)) (sym image.3)
        ∙ ap (λ (f : Option ℕ). image_disk (disk_under (bytes_of old) f) (disk_under (disk_of old) (backing_of old node))) (sym is.edge)
        ∙ sym (old_is (Qcow2 image.0) image.1)
  ]
