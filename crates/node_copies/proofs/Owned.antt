-- A node that got a whole block has that of its own, and keeps what it has.
use Rattle.std.proofs.Common.{◌≡◌, ◌≢◌, ℕ, zero, suc, ◌/◌, ◌<◌, ◌==◌, Bool, true, false, not, cond, List, [], ◌∷◌, replicate, Option, Some, None, Result, Ok, refl, sym, ◌∙◌, ap, subst, inl, inr, arith}
use Rattle.std.proofs.lemmas.Bool.{cases_eq}
use Rattle.blk_base.specs.Pieces.{Extent}
use Rattle.blk_base.specs.declared.fault.Fault.{Fault}
use Rattle.blk_base.specs.declared.fault.Outcome.{Outcome}
use Rattle.blk_base.specs.declared.fault.Outcome.TheVariants.{Good, Torn, Io, NoSpace}
use Rattle.q2_format.specs.declared.entries.L2Entry.{L2Entry}
use Rattle.q2_format.specs.declared.entries.L2Entry.TheVariants as entries
use Rattle.q2_format.specs.Sizes.{cluster_size}
use Rattle.q2_format.specs.declared.header.Header.{Header}
use Rattle.q2_image.specs.Image.{Known, cluster_size_in, entry_in}
use Rattle.q2_image.specs.Reading.{IsHost}
use Rattle.q2_image.specs.Room.{entry_for, is_whole}
use Rattle.q2_image.specs.Writing.{HasHeaderOf}
use Rattle.blk_nodes.specs.Changing.{ChangesAround, ChangesPart, ChangesRow, IsImageWritten, IsZeroed, LeavesRow, ZeroesBy, ZeroesPart}
use Rattle.blk_nodes.specs.Contents.{IsToldDisk}
use Rattle.blk_nodes.specs.Copying.{is_unallocated}
use Rattle.blk_nodes.specs.Nodes.{Nodes, DeviceSeen, row_at}
use Rattle.blk_nodes.specs.Owning.{has_own, has_own_by}
use Rattle.blk_nodes.specs.Parts.{IsImage}
use Rattle.blk_nodes.specs.Reading.{IsReadBelow}
use Rattle.blk_nodes.specs.Writing.{AreRowsAfter, IsDriverAfter, LeavesNodes, WritesBy, WritesPiece, ZerosBy, ZerosPiece}
use Rattle.blk_nodes.specs.declared.row.Driver.{Driver}
use Rattle.blk_nodes.specs.declared.row.Driver.TheVariants.{File, Raw, Qcow2, CopyOnRead, Filter}
use Rattle.blk_nodes.specs.declared.row.Row.{Row}
use Rattle.blk_nodes.proofs.Rows.{has_image}
use Rattle.node_copies.specs.Putting.{CopiesBehind, CopiesBlock, PutsRun, PutsRuns, answer_of}
use Rattle.node_copies.specs.Sectors.{has_sector, run_bytes, run_span, runs_from, runs_of, sector_count, with_sector}
use Rattle.node_copies.specs.declared.sectors.Run.{Run}

-- ---- entries

mapped_so : (e : L2Entry) → e ≢ entries.Unallocated → not (is_unallocated e) ≡ true
mapped_so entries.Unallocated bare = absurd (bare refl)
mapped_so (entries.Zero host) bare = refl
mapped_so (entries.Host host) bare = refl
mapped_so entries.Compressed bare = refl
mapped_so entries.Reserved bare = refl

not_bare : (e : L2Entry) → not (is_unallocated e) ≡ true → e ≢ entries.Unallocated
not_bare entries.Unallocated is = λ same. absurd (cc is)
not_bare (entries.Zero host) is = λ same. cc same
not_bare (entries.Host host) is = λ same. cc same
not_bare entries.Compressed is = λ same. cc same
not_bare entries.Reserved is = λ same. cc same

bare_is : (e : L2Entry) → not (is_unallocated e) ≡ false → e ≡ entries.Unallocated
bare_is entries.Unallocated is = refl
bare_is (entries.Zero host) is = absurd (cc is)
bare_is (entries.Host host) is = absurd (cc is)
bare_is entries.Compressed is = absurd (cc is)
bare_is entries.Reserved is = absurd (cc is)

host_mapped : (e : L2Entry) → IsHost e → e ≢ entries.Unallocated
host_mapped entries.Unallocated is = absurd is
host_mapped (entries.Zero host) is = absurd is
host_mapped (entries.Host host) is = λ same. cc same
host_mapped entries.Compressed is = absurd is
host_mapped entries.Reserved is = absurd is

clusters_same : (old now : Known) → HasHeaderOf old now → cluster_size_in now ≡ cluster_size_in old
clusters_same old now same = ap (λ (h : Header). cluster_size h.cluster_bits) same

-- ---- what a node has stays its own

module _ (old new : Nodes) (node : ℕ) (kept : LeavesNodes old new node) (place : ℕ) where
  by_driver : (d e : Driver) → IsDriverAfter d e → has_own_by place d ≡ true → has_own_by place e ≡ true
  by_driver File e is own = ap (has_own_by place) is
  by_driver (Raw part) e is own = ap (has_own_by place) is
  by_driver (Qcow2 image) e is own =
      let size = clusters_same image is.0 is.2 in
      let mapped : entry_in is.0 (place / cluster_size_in is.0) ≢ entries.Unallocated
      = λ bare. is.4 (place / cluster_size_in image) (not_bare (entry_in image (place / cluster_size_in image)) own)
      (ap (λ (c : ℕ). entry_in is.0 (place / c)) (sym size) ∙ bare) in
      ap (has_own_by place) is.1 ∙ mapped_so (entry_in is.0 (place / cluster_size_in is.0)) mapped
  by_driver CopyOnRead e is own = absurd (cc own)
  by_driver (Filter kind) e is own = absurd (cc own)

  by_rows : (a b : Option Row) → AreRowsAfter a b → has_own place a ≡ true → has_own place b ≡ true
  by_rows None b is own = absurd (cc own)
  by_rows (Some row) b is own = ap (has_own place) is.1 ∙ by_driver row.driver is.0.driver is.2.driver own

  pub own_kept : (n : ℕ) → has_own place (row_at old n) ≡ true → has_own place (row_at new n) ≡ true
  own_kept n own = elim (cases_eq n node) [
    | inl same ↦ rw same (by_rows (row_at old node) (row_at new node) kept.own (rw same at own))
    | inr apart ↦ ap (has_own place) (kept.others n apart) ∙ own
  ]

-- ---- a piece that was written or zeroed

module _ (old new : Nodes) (node : ℕ) (kept : LeavesNodes old new node) (span : Extent) where
  abbrev Owns : Type 0
  Owns = has_own span.start (row_at new node) ≡ true

  -- what is known of the image then
  owns_now : (row : Row) (now : Known) → row_at new node ≡ Some (record row { driver = Qcow2 now }) → entry_in now (span.start / cluster_size_in now) ≢ entries.Unallocated → Owns
  owns_now row now left mapped = ap (has_own span.start) left ∙ mapped_so (entry_in now (span.start / cluster_size_in now)) mapped

  module _ (row : Row) (image : Known) (there : row_at old node ≡ Some row) (driver : row.driver ≡ Qcow2 image) where
    -- a cluster that was mapped before still is
    owned_before : not (is_unallocated (entry_for image span)) ≡ true → Owns
    owned_before own = own_kept old new node kept span.start node (ap (has_own span.start) there ∙ ap (has_own_by span.start) driver ∙ own)

    -- the image behind the change
    size_now : (now : Known) → row_at new node ≡ Some (record row { driver = Qcow2 now }) → cluster_size_in now ≡ cluster_size_in image
    size_now now left =
        let after : AreRowsAfter (Some row) (row_at new node) = subst (λ (f : Option Row). AreRowsAfter f (row_at new node)) there kept.own in
        let is : IsDriverAfter (Qcow2 image) after.0.driver = subst (λ (d : Driver). IsDriverAfter d after.0.driver) driver after.2.driver in
        let rows : after.0 ≡ record row { driver = Qcow2 now } = cc (sym after.1 ∙ left) in
        let drivers : Qcow2 is.0 ≡ Qcow2 now = sym is.1 ∙ ap (λ (r : Row). r.driver) rows in
        let same : is.0 ≡ now = cc drivers in
        ap cluster_size_in (sym same) ∙ clusters_same image is.0 is.2

    owns_at : (now : Known) → row_at new node ≡ Some (record row { driver = Qcow2 now }) → entry_in now (span.start / cluster_size_in image) ≢ entries.Unallocated → Owns
    owns_at now left mapped = owns_now row now left (λ bare. mapped (ap (λ (c : ℕ). entry_in now (span.start / c)) (sym (size_now now left)) ∙ bare))

    module _ (IsDisk : List ℕ → Type 0) (bytes : List ℕ) (now : Known) (left : row_at new node ≡ Some (record row { driver = Qcow2 now })) (before after : DeviceSeen) where
      by_part : (b : Bool) → not (is_unallocated (entry_for image span)) ≡ b → ChangesPart IsDisk (entry_for image span) span bytes image now before after Good → Owns
      by_part true own changed = owned_before own
      by_part false bare changed =
          let around : ChangesAround IsDisk span bytes image now before after Good
          = subst (λ (e : L2Entry). ChangesPart IsDisk e span bytes image now before after Good) (bare_is (entry_for image span) bare) changed in
          owns_at now left (host_mapped (entry_in now (span.start / cluster_size_in image)) around.1)

    by_zeros : (IsDisk : List ℕ → Type 0) (now : Known) → row_at new node ≡ Some (record row { driver = Qcow2 now }) → (before after : DeviceSeen)
        → (whole : Bool) → ZeroesBy IsDisk whole span image now before after Good → (b : Bool) → not (is_unallocated (entry_for image span)) ≡ b → Owns
    by_zeros IsDisk now left before after true cleared b at = owns_at now left (λ bare. let bad = sym cleared.1 ∙ bare in cc bad)
    by_zeros IsDisk now left before after false zeroed true own = owned_before own
    by_zeros IsDisk now left before after false zeroed false bare =
        let around : ChangesAround IsDisk span (replicate span.len 0) image now before after Good
        = subst (λ (e : L2Entry). ZeroesPart IsDisk e span image now before after Good) (bare_is (entry_for image span) bare) zeroed in
        owns_at now left (host_mapped (entry_in now (span.start / cluster_size_in image)) around.1)

  pub written_owns : (bytes : List ℕ) → IsImage old node → WritesPiece old new node span bytes Good → Owns
  written_owns bytes is_image wrote =
      let found = has_image (row_at old node) (λ _. Unit {0}) is_image in
      let row : Row = found.0 in
      let image : Known = found.1 in
      let rows : wrote.row ≡ row = cc (sym wrote.there ∙ found.2) in
      let driver : wrote.row.driver ≡ Qcow2 image = ap (λ (r : Row). r.driver) rows ∙ found.3 in
      let put : WritesBy (Qcow2 image) old new node span bytes Good = subst (λ (d : Driver). WritesBy d old new node span bytes Good) driver wrote.wrote in
      let left : ChangesRow (IsImageWritten (IsToldDisk old node) span bytes) image wrote.row old new node Good
      = subst (λ (d : Driver). LeavesRow (IsImageWritten (IsToldDisk old node) span bytes) d wrote.row old new node Good) driver wrote.left in
      by_part wrote.row image wrote.there driver (IsToldDisk old node) bytes left.now left.left put.before put.after
      (not (is_unallocated (entry_for image span))) refl (left.changed put.file put.before put.after put.edge put.held put.left)

  pub zeroed_owns : IsImage old node → ZerosPiece old new node span Good → Owns
  zeroed_owns is_image wrote =
      let found = has_image (row_at old node) (λ _. Unit {0}) is_image in
      let row : Row = found.0 in
      let image : Known = found.1 in
      let rows : wrote.row ≡ row = cc (sym wrote.there ∙ found.2) in
      let driver : wrote.row.driver ≡ Qcow2 image = ap (λ (r : Row). r.driver) rows ∙ found.3 in
      let put : ZerosBy (Qcow2 image) old new node span Good = subst (λ (d : Driver). ZerosBy d old new node span Good) driver wrote.wrote in
      let left : ChangesRow (IsZeroed (IsToldDisk old node) span) image wrote.row old new node Good
      = subst (λ (d : Driver). LeavesRow (IsZeroed (IsToldDisk old node) span) d wrote.row old new node Good) driver wrote.left in
      by_zeros wrote.row image wrote.there driver (IsToldDisk old node) left.now left.left put.before put.after (is_whole image span)
      (left.changed put.file put.before put.after put.edge put.held put.left) (not (is_unallocated (entry_for image span))) refl

-- ---- runs

-- what is its own stays so over runs that are put
runs_keep : (runs : List Run) (block : Extent) (old new : Nodes) (to : ℕ) (bytes : List ℕ) (outcome : Outcome) (place : ℕ) → PutsRuns runs block old new to bytes outcome
    → has_own place (row_at old to) ≡ true → has_own place (row_at new to) ≡ true
runs_keep [] block old new to bytes outcome place puts own = ap (λ (n : Nodes). has_own place (row_at n to)) puts.0 ∙ own
runs_keep (run ∷ runs) block old new to bytes outcome place puts own = elim puts.3 [
  | inl on ↦ runs_keep runs block puts.0 new to bytes outcome place on.1 mid
  | inr ends ↦ ap (λ (n : Nodes). has_own place (row_at n to)) ends.1 ∙ mid
]
  where
    mid : has_own place (row_at puts.0 to) ≡ true
    mid = own_kept old puts.0 to puts.2.kept place to own

-- the first of the runs begins with the first sector, where that is asked for
first_from : (run : Run) (runs : List Run) (b : Bool) → (first : Run) × (rest : List Run)
    × (cond b (record { from = 0; to = run.to } ∷ runs) (record { from = 0; to = 1 } ∷ run ∷ runs) ≡ first ∷ rest) × (first.from ≡ 0)
first_from run runs true = (record { from = 0; to = run.to }, runs, refl, refl)
first_from run runs false = (record { from = 0; to = 1 }, run ∷ runs, refl, refl)

first_with : (runs : List Run) → (first : Run) × (rest : List Run) × (with_sector 0 true runs ≡ first ∷ rest) × (first.from ≡ 0)
first_with [] = (record { from = 0; to = 1 }, [], refl, refl)
first_with (run ∷ runs) = first_from run runs (run.from == 1)

first_run : (sectors n : ℕ) → has_sector sectors 0 ≡ true → (first : Run) × (rest : List Run) × (runs_from (suc n) sectors 0 ≡ first ∷ rest) × (first.from ≡ 0)
first_run sectors n asked =
    let by = first_with (runs_from n sectors 1) in
    (by.0, by.1, ap (λ (b : Bool). with_sector 0 b (runs_from n sectors 1)) asked ∙ by.2, by.3)

runs_first : (block : Extent) (sectors : ℕ) → has_sector sectors 0 ≡ true → 0 < block.len → (first : Run) × (rest : List Run) × (runs_of block sectors ≡ first ∷ rest) × (first.from ≡ 0)
runs_first block sectors asked some = by (sector_count block) refl
  where
    by : (n : ℕ) → sector_count block ≡ n → (first : Run) × (rest : List Run) × (runs_from n sectors 0 ≡ first ∷ rest) × (first.from ≡ 0)
    by zero is = absurd (omega (arith, is, some))
    by (suc n) is = first_run sectors n asked

-- a block whose first sector is asked for is the image's own then
pub block_owned : (block : Extent) (sectors : ℕ) (old new : Nodes) (to : ℕ) (bytes : List ℕ) → has_sector sectors 0 ≡ true → 0 < block.len → IsImage old to
    → PutsRuns (runs_of block sectors) block old new to bytes Good → has_own block.start (row_at new to) ≡ true
block_owned block sectors old new to bytes asked some is_image puts =
    let first = runs_first block sectors asked some in
    by first.0 first.1 first.3 (subst (λ (runs : List Run). PutsRuns runs block old new to bytes Good) first.2 puts)
  where
    by : (run : Run) (rest : List Run) → run.from ≡ 0 → PutsRuns (run ∷ rest) block old new to bytes Good → has_own block.start (row_at new to) ≡ true
    by run rest from puts = elim puts.3 [
      | inl on ↦ runs_keep rest block puts.0 new to bytes Good block.start on.1 (begun on.0)
      | inr ends ↦ absurd (ends.0 (sym ends.2))
    ]
      where
        start : (run_span block run).start ≡ block.start
        start = omega (arith, from)

        begun : puts.1 ≡ Good → has_own block.start (row_at puts.0 to) ≡ true
        begun good =
            let did : PutsRun block old puts.0 to (run_span block run) (run_bytes block bytes run) Good
            = subst (PutsRun block old puts.0 to (run_span block run) (run_bytes block bytes run)) good puts.2 in
            subst (λ (s : ℕ). has_own s (row_at puts.0 to) ≡ true) start (elim did.made [
              | inl zeros ↦ zeroed_owns old puts.0 to did.kept (run_span block run) is_image zeros.1
              | inr bytes' ↦ written_owns old puts.0 to did.kept (run_span block run) (run_bytes block bytes run) is_image bytes'.1
            ])

-- a copy that went well
good_of : (o : Outcome) (done : Unit {0}) → ◌≡◌ {A = Result (Unit {0}) Fault} (Ok done) (answer_of o) → o ≡ Good
good_of Good it is = refl
good_of (Torn n dev count) it is = absurd (cc is)
good_of (Io dev count) it is = absurd (cc is)
good_of (NoSpace dev) it is = absurd (cc is)

pub copied_owns : (old new : Nodes) (from to : ℕ) (block : Extent) (sectors : ℕ) (done : Unit {0}) → has_sector sectors 0 ≡ true → 0 < block.len → IsImage old to
    → CopiesBlock old new from to block sectors (Ok done) → has_own block.start (row_at new to) ≡ true
copied_owns old new from to block sectors done asked some is_image copies = by copies.read copies.went copies.behind
  where
    by : (read : Outcome) → IsReadBelow old copies.between from read → CopiesBehind read copies.between new to block sectors copies.bytes (Ok done)
        → has_own block.start (row_at new to) ≡ true
    by Good went behind =
        let good : behind.0 ≡ Good = good_of behind.0 done behind.2 in
        block_owned block sectors copies.between new to copies.bytes asked some (subst (λ (n : Nodes). IsImage n to) (sym went) is_image)
        (subst (PutsRuns (runs_of block sectors) block copies.between new to copies.bytes) good behind.1)
    by (Torn n dev count) went behind = absurd (cc (behind.1))
    by (Io dev count) went behind = absurd (cc (behind.1))
    by (NoSpace dev) went behind = absurd (cc (behind.1))
