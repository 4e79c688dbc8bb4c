-- A base that gets bytes of its top leaves the top as it reads.
use Rattle.std.proofs.Common.{◌≡◌, ◌≢◌, ℕ, zero, suc, Bool, true, List, [], length, replicate, Option, Some, None, refl, sym, ◌∙◌, ap, subst, inl, inr, arith}
use Rattle.std.specs.Prelude.{slice_index}
use Rattle.std.proofs.lemmas.Bool.{cases_eq}
use Rattle.blk_graph.specs.Edits.{child_of}
use Rattle.blk_graph.specs.Graph.{Graph}
use Rattle.blk_graph.specs.declared.edge.Parent.TheVariants.{Node}
use Rattle.blk_graph.specs.declared.edge.Role.{Role}
use Rattle.blk_graph.specs.declared.edge.Role.TheVariants.{File as FileRole, Backing, Filtered}
use Rattle.blk_graph.proofs.ChildLemmas.{HasEdge, child-edge}
use Rattle.q2_format.specs.Contents.{file_disk, raw_disk, image_disk}
use Rattle.blk_nodes.specs.Contents.{disk_under, disk_through, disk_by, disk_down, disk_of, bytes_of, file_node_disk}
use Rattle.blk_nodes.specs.Joined.{IsJoined}
use Rattle.blk_nodes.specs.Nodes.{Nodes, row_at, node_size, file_of, backing_of, filtered_of}
use Rattle.blk_nodes.specs.Writing.{own_file}
use Rattle.blk_nodes.specs.declared.row.Driver.{Driver}
use Rattle.blk_nodes.specs.declared.row.Driver.TheVariants.{File, Raw, Qcow2, CopyOnRead, Filter}
use Rattle.blk_nodes.specs.declared.row.Row.{Row}
use Rattle.blk_nodes.proofs.Unfolding.{StartsAt, no_path, unfolds}
use Rattle.blk_nodes.specs.Through.{IsOrAsTop, LeavesAllBut}
use Rattle.blk_nodes.proofs.Through.{image_through, top_stays}

same_is : (top a b : List ℕ) → b ≡ a → IsOrAsTop top a b
same_is top a b is = record { whole = ap length is; at = λ i. inl (ap (λ (xs : List ℕ). slice_index xs i) is) }

module _ (old new : Nodes) (top base file : ℕ) (Q : ℕ → Type 0) (joined : IsJoined old) (now : IsJoined new) (left : LeavesAllBut old new base file Q)
    (put : IsOrAsTop (disk_of old top) (disk_of old base) (disk_of new base)) where
  abbrev T : List ℕ
  T = disk_of old top

  abbrev Rest : ℕ → Type 0
  Rest n = (child : ℕ) → HasEdge old.graph.edges (Node n) child → Q child → IsOrAsTop T (disk_of old child) (disk_of new child)

  child_same : (n : ℕ) (role : Role) → child_of (Node n) role new.graph.edges ≡ child_of (Node n) role old.graph.edges
  child_same n role = ap (λ (g : Graph). child_of (Node n) role g.edges) left.graph

  under : (n : ℕ) (role : Role) → Rest n → (found : Option ℕ) → child_of (Node n) role old.graph.edges ≡ found → ((c : ℕ) → found ≡ Some c → Q c)
      → IsOrAsTop T (disk_under (disk_of old) found) (disk_under (disk_of new) found)
  under n role rest None is each = same_is T [] [] refl
  under n role rest (Some child) is each = rest child (child-edge (Node n) role old.graph.edges child is) (each child refl)

  through : (n : ℕ) → Rest n → (found : Option ℕ) → child_of (Node n) Filtered old.graph.edges ≡ found → ((c : ℕ) → found ≡ Some c → Q c)
      → IsOrAsTop T (disk_through (node_size old n) (disk_of old) found) (disk_through (node_size old n) (disk_of new) found)
  through n rest None is each = same_is T (replicate (node_size old n) 0) (replicate (node_size old n) 0) refl
  through n rest (Some child) is each = under n Filtered rest (Some child) is each

  bytes_below : (found : Option ℕ) → ((f : ℕ) → found ≡ Some f → f ≢ file) → disk_under (bytes_of new) found ≡ disk_under (bytes_of old) found
  bytes_below None each = refl
  bytes_below (Some f) each = left.bytes f (each f refl)

  file_below : (found : Option ℕ) → ((f : ℕ) → found ≡ Some f → f ≢ file) → disk_under (file_node_disk new) found ≡ disk_under (file_node_disk old) found
  file_below None each = refl
  file_below (Some f) each =
      ap (λ (n : ℕ). file_disk n (bytes_of new f)) (left.sizes f) ∙ ap (file_disk (node_size old f)) (left.bytes f (each f refl))

  by_driver : (n : ℕ) (row : Row) → Q n → n ≢ base → row_at old n ≡ Some row → Rest n → (d : Driver) → row.driver ≡ d
      → IsOrAsTop T (disk_by old (disk_of old) n d) (disk_by new (disk_of new) n d)
  by_driver n row q other there rest File is =
      let apart : n ≢ file = left.own n n row q other there (ap (own_file old n) is) in
      same_is T (disk_by old (disk_of old) n File) (disk_by new (disk_of new) n File)
      (ap (λ (s : ℕ). file_disk s (bytes_of new n)) (left.sizes n) ∙ ap (file_disk (node_size old n)) (left.bytes n apart))
  by_driver n row q other there rest (Raw part) is =
      same_is T (disk_by old (disk_of old) n (Raw part)) (disk_by new (disk_of new) n (Raw part))
      (ap (λ (f : Option ℕ). raw_disk part.offset part.size (disk_under (file_node_disk new) f)) (child_same n FileRole)
      ∙ ap (raw_disk part.offset part.size) (file_below (file_of old n) (λ f at. left.own n f row q other there (ap (own_file old n) is ∙ at))))
  by_driver n row q other there rest (Qcow2 image) is =
      let own : disk_under (bytes_of new) (file_of new n) ≡ disk_under (bytes_of old) (file_of old n) =
      ap (disk_under (bytes_of new)) (child_same n FileRole)
      ∙ bytes_below (file_of old n) (λ f at. left.own n f row q other there (ap (own_file old n) is ∙ at)) in
      let below : disk_under (disk_of new) (backing_of new n) ≡ disk_under (disk_of new) (backing_of old n) = ap (disk_under (disk_of new)) (child_same n Backing) in
      subst (λ (b : List ℕ). IsOrAsTop T (disk_by old (disk_of old) n (Qcow2 image)) (image_disk b (disk_under (disk_of new) (backing_of new n)))) (sym own)
      (subst (λ (b : List ℕ). IsOrAsTop T (disk_by old (disk_of old) n (Qcow2 image)) (image_disk (disk_under (bytes_of old) (file_of old n)) b)) (sym below)
      (image_through T (disk_under (bytes_of old) (file_of old n)) (disk_under (disk_of old) (backing_of old n)) (disk_under (disk_of new) (backing_of old n))
      (under n Backing rest (backing_of old n) refl (λ c at. left.over n c q at))))
  by_driver n row q other there rest CopyOnRead is =
      subst (λ (b : List ℕ). IsOrAsTop T (disk_by old (disk_of old) n CopyOnRead) b) (sym (ap (disk_under (disk_of new)) (child_same n FileRole)))
      (under n FileRole rest (file_of old n) refl (λ c at. left.filtered n c row q there is at))
  by_driver n row q other there rest (Filter kind) is =
      subst (λ (b : List ℕ). IsOrAsTop T (disk_by old (disk_of old) n (Filter kind)) b)
      (sym (ap (disk_through (node_size new n) (disk_of new)) (child_same n Filtered) ∙ ap (λ (s : ℕ). disk_through s (disk_of new) (filtered_of old n)) (left.sizes n)))
      (through n rest (filtered_of old n) refl (λ c at. left.passed n c q at))

  disk_none : (nodes : Nodes) (n : ℕ) → row_at nodes n ≡ None → disk_of nodes n ≡ []
  unfolding disk_of
  disk_none nodes n none =
      ap (λ (found : Option Row). elim found as (λ _. List ℕ) [ None ↦ [] | Some r ↦ disk_by nodes (disk_down 63 nodes) n r.driver ]) none

  by_row : (n : ℕ) → Q n → n ≢ base → Rest n → (found : Option Row) → row_at old n ≡ found → IsOrAsTop T (disk_of old n) (disk_of new n)
  by_row n q other rest None there = same_is T (disk_of old n) (disk_of new n) (disk_none new n (left.rows n other ∙ there) ∙ sym (disk_none old n there))
  by_row n q other rest (Some row) there =
      subst (λ (a : List ℕ). IsOrAsTop T a (disk_of new n)) (sym (unfolds old joined n row there))
      (subst (λ (b : List ℕ). IsOrAsTop T (disk_by old (disk_of old) n row.driver) b) (sym (unfolds new now n row (left.rows n other ∙ there)))
      (by_driver n row q other there rest row.driver refl))

  down : (k n : ℕ) → (StartsAt old.graph.edges k n → ⊥) → Q n → IsOrAsTop T (disk_of old n) (disk_of new n)
  down zero n none q = absurd (none tt)
  down (suc k) n none q = elim (cases_eq n base) [
    | inl same ↦ subst (λ (m : ℕ). IsOrAsTop T (disk_of old m) (disk_of new m)) (sym same) put
    | inr other ↦ by_row n q other (λ child e far. down k child (λ starts. none (e.edge, e.there, e.from, rw e.to starts)) far) (row_at old n) refl
  ]

  pub stays : Q top → disk_of new top ≡ disk_of old top
  stays q = top_stays T (disk_of new top) (down 64 top (no_path old joined 64 (omega arith) top) q)

pub commits : (old new : Nodes) (top base file : ℕ) (q : ℕ → Bool) → IsJoined old → IsJoined new
    → LeavesAllBut old new base file (λ n. q n ≡ true) → IsOrAsTop (disk_of old top) (disk_of old base) (disk_of new base) → q top ≡ true
    → disk_of new top ≡ disk_of old top
commits old new top base file q joined now left put is = stays old new top base file (λ n. q n ≡ true) joined now left put is
