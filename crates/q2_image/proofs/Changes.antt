-- The steps of a put and of a zero write, made one behind the other or stopped within one of them.
use Rattle.std.proofs.Common.{◌≡◌, inl, inr, ℕ, ◌≤◌, Bool, List, [], ◌∷◌, ◌++◌, Some, None, Result, Ok, Err, OnOk, OnErr, refl, sym, ap, subst, ◌∙◌, arith}
use Rattle.std.specs.Prelude.{IfErr}
use Rattle.std.proofs.lemmas.List.{append-nil}
use Rattle.blk_base.specs.Content.{Write}
use Rattle.blk_base.specs.Device.{Writes, stop_of}
use Rattle.blk_base.specs.Writes.{write_of, first_bytes, end_of_writes, IsCutBy, IsTorn}
use Rattle.blk_base.specs.declared.device.Device.{Ghosts}
use Rattle.blk_base.specs.declared.fault.DevStop.{DevStop}
use Rattle.blk_base.specs.declared.fault.DevStop.TheVariants.{Io, NoSpace}
use Rattle.blk_base.proofs.DeviceLemmas.{beyond-within}
use Rattle.blk_base.proofs.WriteLists.{end_of_writes-append, part-later, stopped_at-later}
use Rattle.byteorder.specs.Numbers.{length-bytes_high_first}
use Rattle.q2_format.specs.Entry.{host_of, l2_spelling}
use Rattle.q2_format.specs.declared.entries.L2Entry.{L2Entry}
use Rattle.q2_format.specs.declared.entries.L2Entry.TheVariants.{Zero, Host}
use Rattle.q2_refs.specs.Allocating.{StopsAllocating, all_but_count, allocation_writes, block_writes_for, count_write, end_of_allocation, with_block_for, with_one}
use Rattle.q2_refs.specs.Free.{free_cluster}
use Rattle.q2_refs.specs.Kept as refs
use Rattle.q2_tables.specs.Kept as tables
use Rattle.q2_tables.specs.Linking.{link_writes, with_entry}
use Rattle.q2_image.specs.Image.{Known, entry_in}
use Rattle.q2_image.specs.Made.{WriteStep, MakesSteps, clear_writes, clear_steps, take_steps, table_steps, host_steps, data_steps, entry_steps, fill_steps, clean_steps, word_for}
use Rattle.q2_image.specs.Writing.{TellsFault, autocleared, counts_once, host_for, table_for, with_host, with_table}
use Rattle.q2_image.proofs.Plans.{IsPut, host_for_it}
use Rattle.q2_image.proofs.StepsMade.{makes_one, makes_sooner, makes_then}

on_ok_map : {A P Q : Type 0} (r : Result A DevStop) → (P → Q) → OnOk r P → OnOk r Q
on_ok_map (Ok done) f ok = f ok
on_ok_map (Err stop) f ok = tt

on_err_map : {A P Q : Type 0} (r : Result A DevStop) → (P → Q) → OnErr r P → OnErr r Q
on_err_map (Ok done) f err = tt
on_err_map (Err stop) f err = f err

-- The steps of a put, by the images in between.
abbrev pub fill_by : Known → Known → Known → ℕ → List ℕ → ℕ → ℕ → List WriteStep
fill_by zeroth first second cluster bytes host table =
    table_steps zeroth cluster ++ (host_steps first cluster ++ (data_steps second host bytes ++ entry_steps second cluster (Host host) table))

pub fill_are : (zeroth first second : Known) (cluster table host capacity : ℕ) (bytes : List ℕ) → IsPut zeroth first second cluster table host capacity
    → fill_by zeroth first second cluster bytes host table ≡ fill_steps zeroth cluster bytes
fill_are zeroth first second cluster table host capacity bytes put =
    let next = put.second_is ∙ ap (λ (k : Known). with_host k cluster) put.first_is in
    ap (λ (k : Known). fill_by zeroth k second cluster bytes host table) put.first_is
    ∙ ap (λ (k : Known). fill_by zeroth (with_table zeroth cluster) k cluster bytes host table) next
    ∙ ap (λ (h : ℕ). fill_by zeroth (with_table zeroth cluster) (with_host (with_table zeroth cluster) cluster) cluster bytes h table)
    (host_for_it zeroth first second cluster table host capacity put)
    ∙ ap (λ (t : ℕ). fill_by zeroth (with_table zeroth cluster) (with_host (with_table zeroth cluster) cluster) cluster bytes (host_for zeroth cluster) t) put.table_is

-- Taking a cluster.

count_torn : (kept : refs.KeptRefs) (n : ℕ) → IsTorn (count_write kept n) (first_bytes 0 (count_write kept n))
unfolding count_write
count_torn kept n = record { n = 0; short = omega (arith, length-bytes_high_first 2 1); sector = inl refl; first = refl }

-- nothing of a refcount may be made, however its write stops
count_cut : (stop : DevStop) (kept : refs.KeptRefs) (n : ℕ) → IsCutBy stop (count_write kept n) (first_bytes 0 (count_write kept n))
count_cut (Io count) kept n = count_torn kept n
count_cut NoSpace kept n = refl

module _ {D : Type 0} (g : Ghosts D) where
  pub take_made : (image : Known) (n : ℕ) (next : refs.KeptRefs) (a b : D) → n ≡ free_cluster image.refs 0 → Writes g (allocation_writes image.refs n) None a b
      → next ≡ with_one (with_block_for image.refs n) n → MakesSteps g image (take_steps image) None (record image { refs = next }) a b
  take_made image n next a b first writes kept =
      let W : ℕ → Type 0 = λ k. Writes g (allocation_writes image.refs k) None a b in
      record {
        writes = subst W first writes;
        known = ap (λ (r : refs.KeptRefs). record image { refs = r }) (kept ∙ ap (λ (k : ℕ). with_one (with_block_for image.refs k) k) first);
      }

  -- or it stopped
  pub take_stopped : (image : Known) (stop : DevStop) (next : refs.KeptRefs) (a b : D) → StopsAllocating g image.refs (free_cluster image.refs 0) stop next a b
      → MakesSteps g image (take_steps image) (Some stop) (record image { refs = next }) a b
  take_stopped image stop next a b stops =
      let n : ℕ = free_cluster image.refs 0 in
      let block : refs.KeptRefs = with_block_for image.refs n in
      let put : WriteStep = record { writes = block_writes_for image.refs n; known = record image { refs = block } } in
      let count : WriteStep = record { writes = count_write block n ∷ []; known = record image { refs = with_one block n } } in
      let made : List Write = stops.writes.made in
      let kept : (k : refs.KeptRefs) → next ≡ k → (record image { refs = next }) ≡ (record image { refs = k }) = λ k is. ap (λ (r : refs.KeptRefs). record image { refs = r }) is in
      record {
        writes = stops.writes;
        known = elim stops.known [
          | inl (same, part) ↦ record { before = []; step = put; behind = count ∷ []; steps_are = refl; cut = made; part = part; made_are = refl; known = kept image.refs same }
          | inr (placed, all) ↦ record {
            before = put ∷ [];
            step = count;
            behind = [];
            steps_are = refl;
            cut = first_bytes 0 (count_write block n) ∷ [];
            part = inr (count_cut stop block n, refl);
            made_are = all ∙ ap (λ (ws : List Write). ws ++ first_bytes 0 (count_write block n) ∷ []) (sym (append-nil (block_writes_for image.refs n)));
            known = kept block placed;
          }
        ];
      }

  -- An entry.

  pub entry_made : (image : Known) (cluster : ℕ) (entry : L2Entry) (single : Bool) (table : ℕ) (next : tables.KeptTables) (r : Result (Unit {0}) DevStop) (a b : D)
      → single ≡ counts_once image (host_of entry) → Writes g (link_writes image.tables cluster (l2_spelling entry single) table) (stop_of r) a b
      → OnOk r (next ≡ with_entry image.tables cluster (l2_spelling entry single) table) → OnErr r (next ≡ image.tables)
      → MakesSteps g image (entry_steps image cluster entry table) (stop_of r) (record image { tables = next }) a b
  entry_made image cluster entry single table next r a b counted writes linked kept =
      let K : tables.KeptTables → Known = λ t. record image { tables = t } in
      let word = ap (l2_spelling entry) counted in
      let W : ℕ → Type 0 = λ w. Writes g (link_writes image.tables cluster w table) (stop_of r) a b in
      makes_one g image (K (with_entry image.tables cluster (word_for image entry) table)) (K next) (link_writes image.tables cluster (word_for image entry) table) r a b
      (subst W word writes)
      (on_ok_map r (λ is. ap K (is ∙ ap (λ (w : ℕ). with_entry image.tables cluster w table) word)) linked)
      (on_err_map r (λ is. ap K is) kept)

  -- The autoclear field.

  pub clear_made : (image left : Known) (r : Result (Unit {0}) DevStop) (a b : D) → Writes g (clear_writes image) (stop_of r) a b → OnOk r (left ≡ autocleared image) → OnErr r (left ≡ image)
      → MakesSteps g image (clear_steps image) (stop_of r) left a b
  clear_made image left r a b writes cleared kept = makes_one g image (autocleared image) left (clear_writes image) r a b writes cleared kept

  -- steps behind the cleared field
  pub behind_clear : {A : Type 0} (image cleared left : Known) (steps : Known → List WriteStep) (r : Result A DevStop) (a b c : D) → Writes g (clear_writes image) None a b → cleared ≡ autocleared image
      → MakesSteps g cleared (steps cleared) (stop_of r) left b c → MakesSteps g image (clear_steps image ++ steps (autocleared image)) (stop_of r) left a c
  behind_clear image cleared left steps r a b c writes is later =
      let M : Known → Type 0 = λ k. MakesSteps g k (steps k) (stop_of r) left b c in
      let done : Result (Unit {0}) DevStop = Ok tt in
      makes_then g image (autocleared image) left (clear_steps image) (steps (autocleared image)) (stop_of r) a b c
      (clear_made image (autocleared image) done a b writes refl tt) (subst M is later)

  pub clear_stopped : (image left : Known) (steps : List WriteStep) (stop : DevStop) (a b : D) → Writes g (clear_writes image) (Some stop) a b → left ≡ image
      → MakesSteps g image (clear_steps image ++ steps) (Some stop) left a b
  clear_stopped image left steps stop a b writes kept =
      let r : Result (Unit {0}) DevStop = Err stop in
      makes_sooner g image left (clear_steps image) steps stop a b (clear_made image left r a b writes tt kept)

  -- A put.

  -- no cluster was taken for the table
  pub fill_stopped_first : (zeroth left : Known) (cluster : ℕ) (bytes : List ℕ) (stop : DevStop) (a b : D) → MakesSteps g zeroth (table_steps zeroth cluster) (Some stop) left a b
      → MakesSteps g zeroth (fill_steps zeroth cluster bytes) (Some stop) left a b
  fill_stopped_first zeroth left cluster bytes stop a b stopped =
      let first : Known = with_table zeroth cluster in
      let second : Known = with_host first cluster in
      let host : ℕ = host_for zeroth cluster in
      makes_sooner g zeroth left (table_steps zeroth cluster)
      (host_steps first cluster ++ (data_steps second host bytes ++ entry_steps second cluster (Host host) (table_for zeroth cluster))) stop a b stopped

  -- none for the data
  pub fill_stopped_second : (zeroth first left : Known) (cluster : ℕ) (bytes : List ℕ) (stop : DevStop) (a b c : D) → first ≡ with_table zeroth cluster
      → MakesSteps g zeroth (table_steps zeroth cluster) None first a b → MakesSteps g first (host_steps first cluster) (Some stop) left b c
      → MakesSteps g zeroth (fill_steps zeroth cluster bytes) (Some stop) left a c
  fill_stopped_second zeroth first left cluster bytes stop a b c is one stopped =
      let F : Known → List WriteStep = λ k. fill_by zeroth k (with_host k cluster) cluster bytes (host_for zeroth cluster) (table_for zeroth cluster) in
      let M : Known → Type 0 = λ k. MakesSteps g zeroth (F k) (Some stop) left a c in
      let second : Known = with_host first cluster in
      let host : ℕ = host_for zeroth cluster in
      let rest : List WriteStep = data_steps second host bytes ++ entry_steps second cluster (Host host) (table_for zeroth cluster) in
      subst M is (makes_then g zeroth first left (table_steps zeroth cluster) (host_steps first cluster ++ rest) (Some stop) a b c one
      (makes_sooner g first left (host_steps first cluster) rest stop b c stopped))

  module _ (zeroth first second : Known) (cluster table host capacity : ℕ) (bytes : List ℕ) (put : IsPut zeroth first second cluster table host capacity) where
    -- both are taken
    pub fill_behind : {A : Type 0} (left : Known) (r : Result A DevStop) (a b c e : D) → MakesSteps g zeroth (table_steps zeroth cluster) None first a b
        → MakesSteps g first (host_steps first cluster) None second b c
        → MakesSteps g second (data_steps second host bytes ++ entry_steps second cluster (Host host) table) (stop_of r) left c e
        → MakesSteps g zeroth (fill_steps zeroth cluster bytes) (stop_of r) left a e
    fill_behind left r a b c e one two rest =
        let M : List WriteStep → Type 0 = λ steps. MakesSteps g zeroth steps (stop_of r) left a e in
        let last : List WriteStep = data_steps second host bytes ++ entry_steps second cluster (Host host) table in
        subst M (fill_are zeroth first second cluster table host capacity bytes put)
        (makes_then g zeroth first left (table_steps zeroth cluster) (host_steps first cluster ++ last) (stop_of r) a b e one
        (makes_then g first second left (host_steps first cluster) last (stop_of r) b c e two rest))

  -- the data were not written
  pub data_stopped : (image : Known) (cluster host table : ℕ) (bytes : List ℕ) (stop : DevStop) (a b : D) → Writes g (write_of host bytes ∷ []) (Some stop) a b
      → MakesSteps g image (data_steps image host bytes ++ entry_steps image cluster (Host host) table) (Some stop) image a b
  data_stopped image cluster host table bytes stop a b writes =
      let r : Result (Unit {0}) DevStop = Err stop in
      makes_sooner g image image (data_steps image host bytes) (entry_steps image cluster (Host host) table) stop a b
      (makes_one g image image image (write_of host bytes ∷ []) r a b writes tt refl)

  -- they are, and then the entry
  pub data_made : {A : Type 0} (image left : Known) (cluster host table : ℕ) (bytes : List ℕ) (r : Result A DevStop) (a b c : D) → Writes g (write_of host bytes ∷ []) None a b
      → MakesSteps g image (entry_steps image cluster (Host host) table) (stop_of r) left b c
      → MakesSteps g image (data_steps image host bytes ++ entry_steps image cluster (Host host) table) (stop_of r) left a c
  data_made image left cluster host table bytes r a b c writes entry =
      let done : Result (Unit {0}) DevStop = Ok tt in
      makes_then g image image left (data_steps image host bytes) (entry_steps image cluster (Host host) table) (stop_of r) a b c
      (makes_one g image image image (write_of host bytes ∷ []) done a b writes refl tt) entry

  -- A zero write.

  abbrev pub clean_by : Known → Known → ℕ → L2Entry → ℕ → List WriteStep
  clean_by zeroth first cluster entry table = table_steps zeroth cluster ++ entry_steps first cluster entry table

  pub clean_stopped : (zeroth left : Known) (cluster : ℕ) (stop : DevStop) (a b : D) → MakesSteps g zeroth (table_steps zeroth cluster) (Some stop) left a b
      → MakesSteps g zeroth (clean_steps zeroth cluster) (Some stop) left a b
  clean_stopped zeroth left cluster stop a b stopped =
      makes_sooner g zeroth left (table_steps zeroth cluster)
      (entry_steps (with_table zeroth cluster) cluster (Zero (host_of (entry_in zeroth cluster))) (table_for zeroth cluster)) stop a b stopped

  pub clean_made : {A : Type 0} (zeroth first left : Known) (cluster host table : ℕ) (r : Result A DevStop) (a b c : D) → first ≡ with_table zeroth cluster
      → host ≡ host_of (entry_in zeroth cluster) → table ≡ table_for zeroth cluster → MakesSteps g zeroth (table_steps zeroth cluster) None first a b
      → MakesSteps g first (entry_steps first cluster (Zero host) table) (stop_of r) left b c
      → MakesSteps g zeroth (clean_steps zeroth cluster) (stop_of r) left a c
  clean_made zeroth first left cluster host table r a b c is host_is table_is one entry =
      let M : List WriteStep → Type 0 = λ steps. MakesSteps g zeroth steps (stop_of r) left a c in
      let same : clean_by zeroth first cluster (Zero host) table ≡ clean_steps zeroth cluster =
      ap (λ (k : Known). clean_by zeroth k cluster (Zero host) table) is
      ∙ ap (λ (h : ℕ). clean_by zeroth (with_table zeroth cluster) cluster (Zero h) table) host_is
      ∙ ap (λ (t : ℕ). clean_by zeroth (with_table zeroth cluster) cluster (Zero (host_of (entry_in zeroth cluster))) t) table_is
      in
      subst M same (makes_then g zeroth first left (table_steps zeroth cluster) (entry_steps first cluster (Zero host) table) (stop_of r) a b c one entry)

-- The write of the data, as its caller sees it.

pub one_fault : {D : Type 0} (g : Ghosts D) (ws : List Write) (r : Result (Unit {0}) DevStop) (a b : D) → end_of_writes ws ≤ g.capacity a → Writes g ws (stop_of r) a b
    → IfErr r TellsFault
one_fault g ws (Ok done) a b fits writes = tt
one_fault g ws (Err (Io count)) a b fits writes = tt
one_fault g ws (Err NoSpace) a b fits writes = let beyond = beyond-within g ws writes.made (g.capacity a) writes.cause.0 in absurd (omega (arith, fits, beyond))
