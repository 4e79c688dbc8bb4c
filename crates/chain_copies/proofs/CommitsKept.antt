-- The chains, what reads beside their tops, and what may be written stay where one node is written.
use Rattle.std.proofs.Common.{◌≡◌, ◌==◌, ℕ, zero, suc, Bool, false, cond, List, [], ◌∷◌, Option, Some, None, refl, sym, ◌∙◌, ap, subst, inl, inr}
use Rattle.std.specs.Prelude.{◌||◌, option_map}
use Rattle.std.proofs.lemmas.Bool.{cases_eq}
use Rattle.blk_graph.specs.declared.edge.Edge.{Edge}
use Rattle.blk_graph.specs.declared.edge.Parent.TheVariants.{Node}
use Rattle.blk_graph.specs.declared.edge.Role.TheVariants.{File as FileRole, Backing, Filtered}
use Rattle.blk_nodes.specs.Nodes.{Nodes, driver_kind, kind_in, row_at, file_of, backing_of, filtered_of}
use Rattle.blk_nodes.specs.Writing.{AreRowsAfter, IsDriverAfter, LeavesNodes, own_file}
use Rattle.blk_nodes.specs.declared.row.Driver.{Driver}
use Rattle.blk_nodes.specs.declared.row.Driver.TheVariants.{File, Raw, Qcow2, CopyOnRead, Filter}
use Rattle.blk_nodes.specs.declared.row.Row.{Row}
use Rattle.blk_graph.proofs.ChildLemmas.{HasEdge}
use Rattle.blk_nodes.proofs.Unfolding.{StartsAt}
use Rattle.node_copies.specs.Between.{below_by, below_of, chain_end, end_in, is_base}
use Rattle.node_copies.proofs.Puts.{child_kept, leaves_called}
use Rattle.chain_copies.specs.Commits.{AreLinkedIn, aside_in, child_is, is_written, reads_aside, reads_one, reads_one_by, reads_one_of, written_by, written_file}

-- a path, one edge longer at its start
pub starts_on : (edges : List Edge) (turns n child : ℕ) → HasEdge edges (Node n) child → StartsAt edges turns child → StartsAt edges (suc turns) n
starts_on edges turns n child e starts = (e.edge, e.there, e.from, rw e.to starts)

-- where the node below is, by the row
abbrev pub below_in : Nodes → ℕ → Option Row → Option ℕ
below_in nodes node found = elim found as (λ _. Option ℕ) [ None ↦ None | Some row ↦ below_by nodes node row.driver ]

-- and what lies on from it
abbrev pub ends_on : ℕ → Nodes → Option ℕ → Option ℕ → Option ℕ
ends_on turns nodes base found = elim found as (λ _. Option ℕ) [ None ↦ None | Some next ↦ end_in turns nodes base next ]

-- the test of a child, by one that says the same
child_is_same : (f g : ℕ → Bool) → ((n : ℕ) → f n ≡ g n) → (found : Option ℕ) → child_is f found ≡ child_is g found
child_is_same f g each None = refl
child_is_same f g each (Some n) = each n

module _ (old new : Nodes) (node : ℕ) (kept : LeavesNodes old new node) where
  rows_after : (n : ℕ) → AreRowsAfter (row_at old n) (row_at new n)
  rows_after n = elim (cases_eq n node) [
    | inl same ↦ subst (λ (m : ℕ). AreRowsAfter (row_at old m) (row_at new m)) (sym same) kept.own
    | inr other ↦ subst (AreRowsAfter (row_at old n)) (sym (kept.others n other)) (leaves_called old old n refl).own
  ]

  files_kept : (n : ℕ) → file_of new n ≡ file_of old n
  files_kept n = child_kept old new node kept n FileRole

  backings_kept : (n : ℕ) → backing_of new n ≡ backing_of old n
  backings_kept n = child_kept old new node kept n Backing

  -- what a node is
  kind_after : (d e : Driver) → IsDriverAfter d e → driver_kind e ≡ driver_kind d
  kind_after File e is = ap driver_kind is
  kind_after (Raw part) e is = ap driver_kind is
  kind_after (Qcow2 image) e is = ap driver_kind is.1
  kind_after CopyOnRead e is = ap driver_kind is
  kind_after (Filter kind) e is = ap driver_kind is

  kind_row : (a b : Option Row) → AreRowsAfter a b → option_map kind_in b ≡ option_map kind_in a
  kind_row None b is = ap (option_map kind_in) is
  kind_row (Some row) b is = ap (option_map kind_in) is.1 ∙ ap Some (kind_after row.driver is.0.driver is.2.driver)

  pub kinds_kept : (n : ℕ) → option_map kind_in (row_at new n) ≡ option_map kind_in (row_at old n)
  kinds_kept n = kind_row (row_at old n) (row_at new n) (rows_after n)

  -- ---- the file that is written through a node

  own_kept : (n : ℕ) (d e : Driver) → IsDriverAfter d e → own_file new n e ≡ own_file old n d
  own_kept n File e is = ap (own_file new n) is
  own_kept n (Raw part) e is = ap (own_file new n) is ∙ files_kept n
  own_kept n (Qcow2 image) e is = ap (own_file new n) is.1 ∙ files_kept n
  own_kept n CopyOnRead e is = ap (own_file new n) is
  own_kept n (Filter kind) e is = ap (own_file new n) is

  own_kept_by : (n : ℕ) (a b : Option Row) → AreRowsAfter a b → written_by new n b ≡ written_by old n a
  own_kept_by n None b is = ap (written_by new n) is
  own_kept_by n (Some row) b is = ap (written_by new n) is.1 ∙ own_kept n row.driver is.0.driver is.2.driver

  pub written_kept : (n : ℕ) → written_file new n ≡ written_file old n
  written_kept n = own_kept_by n (row_at old n) (row_at new n) (rows_after n)

  -- ---- the node below

  below_driver : (n : ℕ) (d e : Driver) → IsDriverAfter d e → below_by new n e ≡ below_by old n d
  below_driver n File e is = ap (below_by new n) is
  below_driver n (Raw part) e is = ap (below_by new n) is
  below_driver n (Qcow2 image) e is = ap (below_by new n) is.1 ∙ backings_kept n
  below_driver n CopyOnRead e is = ap (below_by new n) is ∙ files_kept n
  below_driver n (Filter kind) e is = ap (below_by new n) is ∙ child_kept old new node kept n Filtered

  below_row : (n : ℕ) (a b : Option Row) → AreRowsAfter a b → below_in new n b ≡ below_in old n a
  below_row n None b is = ap (below_in new n) is
  below_row n (Some row) b is = ap (below_in new n) is.1 ∙ below_driver n row.driver is.0.driver is.2.driver

  pub below_kept : (n : ℕ) → below_of new n ≡ below_of old n
  below_kept n = below_row n (row_at old n) (row_at new n) (rows_after n)

  end_kept : (base : Option ℕ) (turns n : ℕ) → end_in turns new base n ≡ end_in turns old base n
  end_kept base zero n = refl
  end_kept base (suc turns) n =
      ap (λ (found : Option ℕ). cond (is_base base n) (Some n) found)
      (ap (ends_on turns new base) (below_kept n) ∙ on (below_of old n) (end_kept base turns))
    where
      on : (found : Option ℕ) → ((m : ℕ) → end_in turns new base m ≡ end_in turns old base m) → ends_on turns new base found ≡ ends_on turns old base found
      on None rest = refl
      on (Some next) rest = rest next

  pub ends_kept : (base : Option ℕ) (top : ℕ) → chain_end new base top ≡ chain_end old base top
  unfolding chain_end
  ends_kept base top = end_kept base 64 top

  pub links_kept : (top : ℕ) (ids : List ℕ) → AreLinkedIn old top ids → AreLinkedIn new top ids
  links_kept top [] linked = tt
  links_kept top (below ∷ ids) linked = (backings_kept top ∙ linked.0, links_kept below ids linked.1)

  -- ---- who reads beside a top

  reads_driver : (f g : ℕ → Bool) → ((n : ℕ) → f n ≡ g n) → (n : ℕ) (d e : Driver) → IsDriverAfter d e → reads_one f new n e ≡ reads_one g old n d
  reads_driver f g each n File e is = ap (reads_one f new n) is
  reads_driver f g each n (Raw part) e is = ap (reads_one f new n) is ∙ ap (child_is f) (files_kept n) ∙ child_is_same f g each (file_of old n)
  reads_driver f g each n (Qcow2 image) e is =
      ap (reads_one f new n) is.1
      ∙ ap (λ (b : Bool). b || child_is f (backing_of new n)) (ap (child_is f) (files_kept n) ∙ child_is_same f g each (file_of old n))
      ∙ ap (λ (b : Bool). child_is g (file_of old n) || b) (ap (child_is f) (backings_kept n) ∙ child_is_same f g each (backing_of old n))
  reads_driver f g each n CopyOnRead e is = ap (reads_one f new n) is ∙ ap (child_is f) (files_kept n) ∙ child_is_same f g each (file_of old n)
  reads_driver f g each n (Filter kind) e is =
      ap (reads_one f new n) is ∙ ap (child_is f) (child_kept old new node kept n Filtered) ∙ child_is_same f g each (filtered_of old n)

  reads_row : (f g : ℕ → Bool) → ((n : ℕ) → f n ≡ g n) → (n : ℕ) (a b : Option Row) → AreRowsAfter a b → reads_one_by f new n b ≡ reads_one_by g old n a
  reads_row f g each n None b is = ap (reads_one_by f new n) is
  reads_row f g each n (Some row) b is = ap (reads_one_by f new n) is.1 ∙ reads_driver f g each n row.driver is.0.driver is.2.driver

  aside_kept_in : (base top turns n : ℕ) → aside_in turns new base top n ≡ aside_in turns old base top n
  aside_kept_in base top zero n = refl
  aside_kept_in base top (suc turns) n =
      let reads : reads_one_of (aside_in turns new base top) new n ≡ reads_one_of (aside_in turns old base top) old n
      = reads_row (aside_in turns new base top) (aside_in turns old base top) (aside_kept_in base top turns) n (row_at old n) (row_at new n) (rows_after n) in
      ap (λ (b : Bool). cond (n == top) false (is_written new base n || b)) reads
      ∙ ap (λ (found : Option ℕ). cond (n == top) false (((n == base) || child_is (λ (file : ℕ). n == file) found) || reads_one_of (aside_in turns old base top) old n)) (written_kept base)

  pub aside_kept : (base top n : ℕ) → reads_aside new base top n ≡ reads_aside old base top n
  unfolding reads_aside
  aside_kept base top n = aside_kept_in base top 64 n
