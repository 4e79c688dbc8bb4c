-- Steps of a commit one after the other, and the sizes of the nodes of its chain.
use Rattle.std.proofs.Common.{◌≡◌, ℕ, zero, suc, Bool, true, false, cond, List, Option, Some, None, refl, sym, ◌∙◌, ap, subst, inl, inr}
use Rattle.blk_nodes.specs.Contents.{disk_of}
use Rattle.blk_nodes.specs.Joined.{HasSize, IsCopying, IsFiltering, IsJoined, IsOverlay}
use Rattle.blk_nodes.specs.Nodes.{Nodes, row_at, node_size, size_by}
use Rattle.blk_nodes.specs.Through.{IsOrAsTop}
use Rattle.blk_nodes.specs.declared.row.Driver.{Driver}
use Rattle.blk_nodes.specs.declared.row.Driver.TheVariants.{File, Raw, Qcow2, CopyOnRead, Filter}
use Rattle.blk_nodes.specs.declared.row.Row.{Row}
use Rattle.node_copies.specs.Between.{below_by, below_of, chain_end, end_in, is_base}
use Rattle.node_copies.proofs.Puts.{then_leaves}
use Rattle.chain_copies.specs.Commits.{PutsOfTop}
use Rattle.chain_copies.proofs.CommitsKept.{below_in, ends_on}
use Rattle.chain_copies.proofs.CommitsPut.{files_then}

or_top_then : (top old mid new : List ℕ) → IsOrAsTop top old mid → IsOrAsTop top mid new → IsOrAsTop top old new
or_top_then top old mid new first last = record {
  whole = last.whole ∙ first.whole;
  at = λ i. elim (last.at i) [
    | inl same ↦ elim (first.at i) [ inl was ↦ inl (same ∙ was) | inr up ↦ inr (same ∙ up) ]
    | inr up ↦ inr up
  ];
}

pub put_then : (old mid new : Nodes) (base top : ℕ) → disk_of mid top ≡ disk_of old top → PutsOfTop old mid base top → PutsOfTop mid new base top → PutsOfTop old new base top
put_then old mid new base top same first last = record {
  kept = then_leaves old mid new base first.kept last.kept;
  bytes = files_then base old mid new first.kept first.bytes last.bytes;
  put = or_top_then (disk_of old top) (disk_of old base) (disk_of mid base) (disk_of new base) first.put
      (subst (λ (t : List ℕ). IsOrAsTop t (disk_of mid base) (disk_of new base)) same last.put);
}

module _ (nodes : Nodes) (joined : IsJoined nodes) (base : Option ℕ) where
  has_size : (n size : ℕ) → HasSize nodes n size → node_size nodes n ≡ size
  has_size n size has = ap size_by has.there ∙ has.is

  below_sized : (n next : ℕ) (row : Row) (d : Driver) → row_at nodes n ≡ Some row → row.driver ≡ d → below_by nodes n d ≡ Some next → node_size nodes next ≡ row.size
  below_sized n next row File there driver below = absurd (cc below)
  below_sized n next row (Raw part) there driver below = absurd (cc below)
  below_sized n next row (Qcow2 image) there driver below =
      let is : IsOverlay nodes n image = rw driver at (joined.below n row there) in
      let sized : image.header.size ≡ row.size = rw driver at (joined.sized n row there) in
      has_size next image.header.size (is.backing next below) ∙ sized
  below_sized n next row CopyOnRead there driver below =
      let is : IsCopying nodes n row.size = rw driver at (joined.below n row there) in
      let same : is.child ≡ next = cc (sym is.edge ∙ below) in
      ap (node_size nodes) (sym same) ∙ has_size is.child row.size is.same
  below_sized n next row (Filter kind) there driver below =
      let is : IsFiltering nodes n row.size = rw driver at (joined.below n row there) in
      has_size next row.size (is next below)

  row_sized : (n next : ℕ) (found : Option Row) → row_at nodes n ≡ found → below_in nodes n found ≡ Some next → node_size nodes next ≡ node_size nodes n
  row_sized n next None there below = absurd (cc below)
  row_sized n next (Some row) there below = below_sized n next row row.driver there refl below ∙ sym (ap size_by there)

  abbrev Sized : ℕ → Type 0
  Sized turns = (n end : ℕ) → end_in turns nodes base n ≡ Some end → node_size nodes end ≡ node_size nodes n

  end_sized_in : (turns : ℕ) → Sized turns
  end_sized_in zero n end ends = absurd (cc ends)
  end_sized_in (suc turns) n end ends = by (is_base base n) ends (end_sized_in turns)
    where
      on : (found : Option ℕ) → below_of nodes n ≡ found → ends_on turns nodes base found ≡ Some end → Sized turns → node_size nodes end ≡ node_size nodes n
      on None is ends rest = absurd (cc ends)
      on (Some next) is ends rest = rest next end ends ∙ row_sized n next (row_at nodes n) refl is

      by : (b : Bool) → cond b (Some n) (ends_on turns nodes base (below_of nodes n)) ≡ Some end → Sized turns → node_size nodes end ≡ node_size nodes n
      by true ends rest =
          let same : n ≡ end = cc ends in
          ap (node_size nodes) (sym same)
      by false ends rest = on (below_of nodes n) refl ends rest

  pub end_sized : (top end : ℕ) → chain_end nodes base top ≡ Some end → node_size nodes end ≡ node_size nodes top
  unfolding chain_end
  end_sized top end ends = end_sized_in 64 top end ends
