-- Who reads beside a top.
use Rattle.std.proofs.Common.{◌≡◌, ◌≢◌, ◌==◌, ℕ, zero, suc, ◌≤◌, Bool, true, false, not, cond, Option, Some, None, refl, sym, ◌∙◌, ap, arith, inl}
use Rattle.std.specs.Prelude.{◌||◌}
use Rattle.std.proofs.lemmas.Bool.{eqb-false, eq-eqb, ne_eqb, or_from, or_parts}
use Rattle.blk_graph.specs.Edits.{child_of}
use Rattle.blk_graph.specs.declared.edge.Parent.TheVariants.{Node}
use Rattle.blk_graph.specs.declared.edge.Role.{Role}
use Rattle.blk_graph.specs.declared.edge.Role.TheVariants.{File as FileRole, Backing, Filtered}
use Rattle.blk_graph.proofs.ChildLemmas.{HasEdge, child-edge}
use Rattle.blk_nodes.specs.Joined.{IsJoined, IsOverlay, IsPartOfFile}
use Rattle.blk_nodes.specs.Nodes.{Nodes, row_at, file_of, backing_of, filtered_of}
use Rattle.blk_nodes.specs.Reading.{LeadsTo}
use Rattle.blk_nodes.specs.Writing.{CanBeWritten, IsApartFrom, MayWriteThrough, own_file}
use Rattle.blk_nodes.specs.declared.row.Driver.{Driver}
use Rattle.blk_nodes.specs.declared.row.Driver.TheVariants.{File, Raw, Qcow2, CopyOnRead, Filter}
use Rattle.blk_nodes.specs.declared.row.Row.{Row}
use Rattle.blk_nodes.proofs.Leading.{child_leads, leads_on}
use Rattle.blk_nodes.proofs.Unfolding.{StartsAt, no_path}
use Rattle.chain_copies.specs.Commits.{aside_in, child_is, is_written, reads_aside, reads_one, reads_one_by, reads_one_of, written_by, written_file}
use Rattle.chain_copies.proofs.CommitsKept.{starts_on}

-- neither way
pub neither : (b : Bool) → cond b false false ≡ false
neither true = refl
neither false = refl

module _ (nodes : Nodes) (base : ℕ) where
  -- a node that is neither the base nor its file isn't written
  pub not_written : (n : ℕ) → n ≢ base → ((f : ℕ) → written_file nodes base ≡ Some f → n ≢ f) → is_written nodes base n ≡ false
  not_written n other off =
      or_from (n == base) (child_is (λ (file : ℕ). n == file) (written_file nodes base)) (ne_eqb n base other) (by (written_file nodes base) refl)
    where
      by : (found : Option ℕ) → written_file nodes base ≡ found → child_is (λ (file : ℕ). n == file) found ≡ false
      by None is = refl
      by (Some file) is = ne_eqb n file (off file is)

module _ (nodes : Nodes) (base top : ℕ) where
  pub aside_top : reads_aside nodes base top top ≡ false
  unfolding reads_aside
  aside_top = rw (eq-eqb top top refl) refl

  -- ---- among nodes that read no others

  child_less : (f g : ℕ → Bool) → ((n : ℕ) → g n ≡ false → f n ≡ false) → (found : Option ℕ) → child_is g found ≡ false → child_is f found ≡ false
  child_less f g each None free = refl
  child_less f g each (Some n) free = each n free

  one_less : (f g : ℕ → Bool) → ((n : ℕ) → g n ≡ false → f n ≡ false) → (n : ℕ) (d : Driver) → reads_one g nodes n d ≡ false → reads_one f nodes n d ≡ false
  one_less f g each n File free = refl
  one_less f g each n (Raw part) free = child_less f g each (file_of nodes n) free
  one_less f g each n (Qcow2 image) free =
      let parts = or_parts (child_is g (file_of nodes n)) (child_is g (backing_of nodes n)) free in
      or_from (child_is f (file_of nodes n)) (child_is f (backing_of nodes n)) (child_less f g each (file_of nodes n) parts.0) (child_less f g each (backing_of nodes n) parts.1)
  one_less f g each n CopyOnRead free = child_less f g each (file_of nodes n) free
  one_less f g each n (Filter kind) free = child_less f g each (filtered_of nodes n) free

  row_less : (f g : ℕ → Bool) → ((n : ℕ) → g n ≡ false → f n ≡ false) → (n : ℕ) (found : Option Row) → reads_one_by g nodes n found ≡ false → reads_one_by f nodes n found ≡ false
  row_less f g each n None free = refl
  row_less f g each n (Some row) free = one_less f g each n row.driver free

  module _ (among : ℕ → Bool)
      (each : (n : ℕ) → among n ≡ true → n ≢ top → (is_written nodes base n ≡ false) × (reads_one_of (λ c. not (among c)) nodes n ≡ false)) where
    in_among : (b : Bool) → not b ≡ false → b ≡ true
    in_among true is = refl
    in_among false is = absurd (cc is)

    among_in : (turns n : ℕ) → among n ≡ true → aside_in turns nodes base top n ≡ false
    among_in zero n is = refl
    among_in (suc turns) n is = by (n == top) refl (among_in turns)
      where
        by : (b : Bool) → (n == top) ≡ b → ((m : ℕ) → among m ≡ true → aside_in turns nodes base top m ≡ false)
            → cond b false (is_written nodes base n || reads_one_of (aside_in turns nodes base top) nodes n) ≡ false
        by true same rest = refl
        by false other rest =
            let free = each n is (eqb-false n top other) in
            or_from (is_written nodes base n) (reads_one_of (aside_in turns nodes base top) nodes n) free.0
            (row_less (aside_in turns nodes base top) (λ c. not (among c)) (λ c out. rest c (in_among (among c) out)) n (row_at nodes n) free.1)

    pub among_free : (node : ℕ) → among node ≡ true → reads_aside nodes base top node ≡ false
    unfolding reads_aside
    among_free node is = among_in 64 node is

  -- ---- by the children

  module _ (f g : ℕ → Bool) (n : ℕ) (each : (c : ℕ) → HasEdge nodes.graph.edges (Node n) c → f c ≡ g c) where
    child_same : (role : Role) (found : Option ℕ) → child_of (Node n) role nodes.graph.edges ≡ found → child_is f found ≡ child_is g found
    child_same role None is = refl
    child_same role (Some c) is = each c (child-edge (Node n) role nodes.graph.edges c is)

    one_same : (d : Driver) → reads_one f nodes n d ≡ reads_one g nodes n d
    one_same File = refl
    one_same (Raw part) = child_same FileRole (file_of nodes n) refl
    one_same (Qcow2 image) =
        ap (λ (b : Bool). b || child_is f (backing_of nodes n)) (child_same FileRole (file_of nodes n) refl)
        ∙ ap (λ (b : Bool). child_is g (file_of nodes n) || b) (child_same Backing (backing_of nodes n) refl)
    one_same CopyOnRead = child_same FileRole (file_of nodes n) refl
    one_same (Filter kind) = child_same Filtered (filtered_of nodes n) refl

    row_same : (found : Option Row) → reads_one_by f nodes n found ≡ reads_one_by g nodes n found
    row_same None = refl
    row_same (Some row) = one_same row.driver

  abbrev Turn : ℕ → (ℕ → Bool) → Bool
  Turn n test = cond (n == top) false (is_written nodes base n || reads_one_of test nodes n)

  turn_same : (f g : ℕ → Bool) (n : ℕ) → ((c : ℕ) → HasEdge nodes.graph.edges (Node n) c → f c ≡ g c) → Turn n f ≡ Turn n g
  turn_same f g n each = ap (λ (b : Bool). cond (n == top) false (is_written nodes base n || b)) (row_same f g n each (row_at nodes n))

  -- where no path is as long as the turns, more turns give the same
  stable : (k n turns : ℕ) → (StartsAt nodes.graph.edges k n → ⊥) → k ≤ turns → aside_in turns nodes base top n ≡ aside_in k nodes base top n
  stable zero n turns none h = absurd (none tt)
  stable (suc k) n zero none h = absurd (omega (arith, h))
  stable (suc k) n (suc turns) none h =
      turn_same (aside_in turns nodes base top) (aside_in k nodes base top) n
      (λ c e. stable k c turns (λ starts. none (starts_on nodes.graph.edges k n c e starts)) (omega (arith, h)))

  module _ (joined : IsJoined nodes) where
    pub aside_by : (n : ℕ) → reads_aside nodes base top n ≡ Turn n (reads_aside nodes base top)
    unfolding reads_aside
    aside_by n =
        turn_same (aside_in 63 nodes base top) (aside_in 64 nodes base top) n
        (λ c e. sym (stable 63 c 64 (λ starts. no_path nodes joined 64 (omega arith) n (starts_on nodes.graph.edges 63 n c e starts)) (omega arith)))

    -- ---- where no path leads to what is written

    record Apart (n : ℕ) : Type 0 where
      base_off : ¬ LeadsTo nodes.graph.edges n base
      file_off : (file : ℕ) → written_file nodes base ≡ Some file → ¬ LeadsTo nodes.graph.edges n file

    apart_below : (n child : ℕ) (role : Role) → child_of (Node n) role nodes.graph.edges ≡ Some child → Apart n → Apart child
    apart_below n child role is apart =
        let on = child_leads nodes.graph.edges n child role is in
        record {
          base_off = λ leads. apart.base_off (leads_on nodes.graph.edges n child base on leads);
          file_off = λ file own leads. apart.file_off file own (leads_on nodes.graph.edges n child file on leads);
        }

    unwritten : (n : ℕ) → Apart n → is_written nodes base n ≡ false
    unwritten n apart =
        not_written nodes base n (λ same. apart.base_off (inl same)) (λ file own same. apart.file_off file own (inl same))

    child_apart : (test : ℕ → Bool) → ((m : ℕ) → Apart m → test m ≡ false) → (n : ℕ) → Apart n → (role : Role) (found : Option ℕ)
        → child_of (Node n) role nodes.graph.edges ≡ found → child_is test found ≡ false
    child_apart test each n apart role None is = refl
    child_apart test each n apart role (Some child) is = each child (apart_below n child role is apart)

    one_apart : (test : ℕ → Bool) → ((m : ℕ) → Apart m → test m ≡ false) → (n : ℕ) → Apart n → (d : Driver) → reads_one test nodes n d ≡ false
    one_apart test each n apart File = refl
    one_apart test each n apart (Raw part) = child_apart test each n apart FileRole (file_of nodes n) refl
    one_apart test each n apart (Qcow2 image) =
        or_from (child_is test (file_of nodes n)) (child_is test (backing_of nodes n)) (child_apart test each n apart FileRole (file_of nodes n) refl)
        (child_apart test each n apart Backing (backing_of nodes n) refl)
    one_apart test each n apart CopyOnRead = child_apart test each n apart FileRole (file_of nodes n) refl
    one_apart test each n apart (Filter kind) = child_apart test each n apart Filtered (filtered_of nodes n) refl

    row_apart : (test : ℕ → Bool) → ((m : ℕ) → Apart m → test m ≡ false) → (n : ℕ) → Apart n → (found : Option Row) → reads_one_by test nodes n found ≡ false
    row_apart test each n apart None = refl
    row_apart test each n apart (Some row) = one_apart test each n apart row.driver

    apart_in : (turns n : ℕ) → Apart n → aside_in turns nodes base top n ≡ false
    apart_in zero n apart = refl
    apart_in (suc turns) n apart =
        ap (cond (n == top) false)
        (or_from (is_written nodes base n) (reads_one_of (aside_in turns nodes base top) nodes n) (unwritten n apart)
        (row_apart (aside_in turns nodes base top) (apart_in turns) n apart (row_at nodes n)))
        ∙ neither (n == top)

    -- a base that may be written leads to the file that it writes
    module _ (may : MayWriteThrough nodes base) where
      record HasOwn : Type 0 where
        file : ℕ
        own : own_file nodes base may.row.driver ≡ Some file
        leads : LeadsTo nodes.graph.edges base file

      has_own_by : (d : Driver) → may.row.driver ≡ d → CanBeWritten nodes base d → HasOwn
      has_own_by File driver can = record { file = base; own = ap (own_file nodes base) driver; leads = inl refl }
      has_own_by (Raw part) driver can =
          let is : IsPartOfFile nodes base part.offset part.size = rw driver at (joined.below base may.row may.there) in
          record { file = is.file; own = ap (own_file nodes base) driver ∙ is.edge; leads = child_leads nodes.graph.edges base is.file FileRole is.edge }
      has_own_by (Qcow2 image) driver can =
          let is : IsOverlay nodes base image = rw driver at (joined.below base may.row may.there) in
          record { file = is.file; own = ap (own_file nodes base) driver ∙ is.edge; leads = child_leads nodes.graph.edges base is.file FileRole is.edge }
      has_own_by CopyOnRead driver can = absurd can
      has_own_by (Filter kind) driver can = absurd can

      has_own : HasOwn
      has_own = has_own_by may.row.driver refl may.can

      apart_of : (n : ℕ) → IsApartFrom nodes n base → Apart n
      apart_of n off = record {
        base_off = λ leads. off may.row has_own.file may.there has_own.own (leads_on nodes.graph.edges n base has_own.file leads has_own.leads);
        file_off = λ file own. off may.row file may.there (sym (ap (written_by nodes base) may.there) ∙ own);
      }

      pub apart_free : (n : ℕ) → IsApartFrom nodes n base → reads_aside nodes base top n ≡ false
      unfolding reads_aside
      apart_free n off = apart_in 64 n (apart_of n off)
