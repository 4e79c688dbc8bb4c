-- A node reads aside only where a node of its chain, down to above the top, shares the base's file.
use Rattle.std.proofs.Common.{◌≡◌, ◌≢◌, ◌==◌, ℕ, zero, suc, Bool, true, false, cond, List, [], ◌∷◌, Option, Some, None, refl, sym, ◌∙◌, ap, subst}
use Rattle.std.specs.Prelude.{◌||◌}
use Rattle.std.specs.List.{list_any}
use Rattle.std.proofs.lemmas.Bool.{eq-eqb, or_from, or_parts}
use Rattle.blk_nodes.specs.Joined.{IsFile, IsJoined, IsOverlay, IsPartOfFile}
use Rattle.blk_nodes.specs.Nodes.{Nodes, row_at, file_of, backing_of, filtered_of}
use Rattle.blk_nodes.specs.Writing.{own_file}
use Rattle.blk_nodes.specs.declared.row.Driver.{Driver}
use Rattle.blk_nodes.specs.declared.row.Driver.TheVariants.{File, Raw, Qcow2, CopyOnRead, Filter}
use Rattle.blk_nodes.specs.declared.row.Row.{Row}
use Rattle.node_copies.specs.Between.{below_by, below_of, between_in, nodes_between}
use Rattle.chain_copies.specs.Commits.{aside_in, child_is, is_written, reads_aside, reads_one, reads_one_by, reads_one_of, shares_file, written_by, written_file}
use Rattle.chain_copies.proofs.CommitsAside.{neither, not_written}
use Rattle.chain_copies.proofs.CommitsKept.{below_in}

module _ (nodes : Nodes) (base top : ℕ) (joined : IsJoined nodes) where
  -- the file that a node writes is a `file` node
  own_is_file : (n f : ℕ) (row : Row) (d : Driver) → row_at nodes n ≡ Some row → row.driver ≡ d → own_file nodes n d ≡ Some f → IsFile nodes f
  own_is_file n f row File there driver own =
      let same : n ≡ f = cc own in
      subst (IsFile nodes) same (record { row = row; there = there; driver = driver })
  own_is_file n f row (Raw part) there driver own =
      let is : IsPartOfFile nodes n part.offset part.size = rw driver at (joined.below n row there) in
      let same : is.file ≡ f = cc (sym is.edge ∙ own) in
      subst (IsFile nodes) same is.is_file
  own_is_file n f row (Qcow2 image) there driver own =
      let is : IsOverlay nodes n image = rw driver at (joined.below n row there) in
      let same : is.file ≡ f = cc (sym is.edge ∙ own) in
      subst (IsFile nodes) same is.is_file
  own_is_file n f row CopyOnRead there driver own = absurd (cc own)
  own_is_file n f row (Filter kind) there driver own = absurd (cc own)

  written_is_file : (n f : ℕ) → written_file nodes n ≡ Some f → IsFile nodes f
  written_is_file n f = by (row_at nodes n) refl
    where
      by : (found : Option Row) → row_at nodes n ≡ found → written_by nodes n found ≡ Some f → IsFile nodes f
      by None there own = absurd (cc own)
      by (Some row) there own = own_is_file n f row row.driver there refl own

  -- and that writes itself
  file_writes : (f : ℕ) → IsFile nodes f → written_file nodes f ≡ Some f
  file_writes f is = ap (written_by nodes f) is.there ∙ ap (own_file nodes f) is.driver

  abbrev Shares : ℕ → Bool
  Shares n = shares_file nodes base n

  shared : (n f : ℕ) → written_file nodes n ≡ Some f → written_file nodes base ≡ Some f → Shares n ≡ false → ⊥
  shared n f own base_own free =
      let parts = or_parts (n == base) (child_is (λ (file : ℕ). child_is (λ (o : ℕ). o == file) (written_file nodes n)) (written_file nodes base)) free in
      let it : (f == f) ≡ false
      = sym (ap (child_is (λ (file : ℕ). child_is (λ (o : ℕ). o == file) (written_file nodes n))) base_own ∙ ap (child_is (λ (o : ℕ). o == f)) own) ∙ parts.1 in
      let bad : true ≡ false = sym (eq-eqb f f refl) ∙ it in
      cc bad

  not_base : (n : ℕ) → Shares n ≡ false → n ≢ base
  not_base n free same =
      let parts = or_parts (n == base) (child_is (λ (file : ℕ). child_is (λ (o : ℕ). o == file) (written_file nodes n)) (written_file nodes base)) free in
      let bad : true ≡ false = sym (eq-eqb n base same) ∙ parts.0 in
      cc bad

  -- a node that doesn't share it isn't written
  node_free : (n : ℕ) → Shares n ≡ false → is_written nodes base n ≡ false
  node_free n free =
      not_written nodes base n (not_base n free) (λ f own same.
      shared n f (ap (written_file nodes) same ∙ file_writes f (written_is_file base f own)) own free)

  -- nor is its file
  own_free : (n f : ℕ) → written_file nodes n ≡ Some f → Shares n ≡ false → is_written nodes base f ≡ false
  own_free n f own free =
      not_written nodes base f (λ same.
      shared n f own (ap (written_file nodes) (sym same) ∙ file_writes f (written_is_file n f own)) free)
      (λ g base_own same. shared n f own (base_own ∙ ap Some (sym same)) free)

  file_free : (turns n f : ℕ) → written_file nodes n ≡ Some f → Shares n ≡ false → aside_in turns nodes base top f ≡ false
  file_free zero n f own free = refl
  file_free (suc turns) n f own free =
      ap (cond (f == top) false)
      (or_from (is_written nodes base f) (reads_one_of (aside_in turns nodes base top) nodes f) (own_free n f own free)
      (let is = written_is_file n f own in
      ap (reads_one_by (aside_in turns nodes base top) nodes f) is.there ∙ ap (reads_one (aside_in turns nodes base top) nodes f) is.driver))
      ∙ neither (f == top)

  -- ---- down a chain

  abbrev rest_in : ℕ → Option ℕ → List ℕ
  rest_in turns found = elim found as (λ _. List ℕ) [ None ↦ [] | Some next ↦ between_in turns nodes (Some top) next ]

  abbrev Free : ℕ → Type 0
  Free turns = (n : ℕ) → list_any Shares (between_in turns nodes (Some top) n) ≡ false → aside_in turns nodes base top n ≡ false

  child_free : (turns : ℕ) → Free turns → (found : Option ℕ) → list_any Shares (rest_in turns found) ≡ false → child_is (aside_in turns nodes base top) found ≡ false
  child_free turns rest None free = refl
  child_free turns rest (Some next) free = rest next free

  own_child : (turns n : ℕ) (found : Option ℕ) → written_file nodes n ≡ found → Shares n ≡ false → child_is (aside_in turns nodes base top) found ≡ false
  own_child turns n None own free = refl
  own_child turns n (Some f) own free = file_free turns n f own free

  module _ (turns n : ℕ) (rest : Free turns) (row : Row) (there : row_at nodes n ≡ Some row) (own : Shares n ≡ false) where
    by_driver : (d : Driver) → row.driver ≡ d → list_any Shares (rest_in turns (below_by nodes n d)) ≡ false → reads_one (aside_in turns nodes base top) nodes n d ≡ false
    by_driver File driver free = refl
    by_driver (Raw part) driver free =
        own_child turns n (file_of nodes n) (ap (written_by nodes n) there ∙ ap (own_file nodes n) driver) own
    by_driver (Qcow2 image) driver free =
        or_from (child_is (aside_in turns nodes base top) (file_of nodes n)) (child_is (aside_in turns nodes base top) (backing_of nodes n))
        (own_child turns n (file_of nodes n) (ap (written_by nodes n) there ∙ ap (own_file nodes n) driver) own)
        (child_free turns rest (backing_of nodes n) free)
    by_driver CopyOnRead driver free = child_free turns rest (file_of nodes n) free
    by_driver (Filter kind) driver free = child_free turns rest (filtered_of nodes n) free

  reads_free : (turns n : ℕ) → Free turns → Shares n ≡ false → list_any Shares (rest_in turns (below_of nodes n)) ≡ false
      → reads_one_of (aside_in turns nodes base top) nodes n ≡ false
  reads_free turns n rest own = by (row_at nodes n) refl
    where
      by : (found : Option Row) → row_at nodes n ≡ found → list_any Shares (rest_in turns (below_in nodes n found)) ≡ false
          → reads_one_by (aside_in turns nodes base top) nodes n found ≡ false
      by None there free = refl
      by (Some row) there free = by_driver turns n rest row there own row.driver refl free

  along_in : (turns : ℕ) → Free turns
  along_in zero n free = refl
  along_in (suc turns) n free = by (n == top) free (along_in turns)
    where
      by : (b : Bool) → list_any Shares (cond b [] (n ∷ rest_in turns (below_of nodes n))) ≡ false → Free turns
          → cond b false (is_written nodes base n || reads_one_of (aside_in turns nodes base top) nodes n) ≡ false
      by true free rest = refl
      by false free rest =
          let parts = or_parts (Shares n) (list_any Shares (rest_in turns (below_of nodes n))) free in
          or_from (is_written nodes base n) (reads_one_of (aside_in turns nodes base top) nodes n) (node_free n parts.0) (reads_free turns n rest parts.0 parts.1)

  pub along_free : (node : ℕ) → list_any (shares_file nodes base) (nodes_between nodes (Some top) node) ≡ false → reads_aside nodes base top node ≡ false
  unfolding nodes_between reads_aside
  along_free node free = along_in 64 node free
