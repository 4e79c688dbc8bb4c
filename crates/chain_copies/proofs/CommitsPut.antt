-- What the copies of a commit write to its base.
use Rattle.std.proofs.Common.{◌≡◌, ◌≢◌, ℕ, ◌*◌, ◌≤◌, Bool, true, false, List, [], ◌∷◌, length, replicate, Option, Some, Result, refl, sym, ◌∙◌, ap, subst, arith, inl, inr}
use Rattle.std.specs.Prelude.{slice_index}
use Rattle.blk_base.specs.Pieces.{Extent, end_of}
use Rattle.blk_base.specs.declared.fault.Fault.{Fault}
use Rattle.blk_base.specs.declared.fault.Outcome.{Outcome}
use Rattle.blk_base.specs.declared.fault.Outcome.TheVariants.{Good, Torn, Io, NoSpace}
use Rattle.blk_base.proofs.Contents.{length-bytes_at}
use Rattle.q2_image.specs.Image.{Known}
use Rattle.blk_nodes.specs.Contents.{bytes_by, bytes_of, disk_of}
use Rattle.blk_nodes.specs.Joined.{IsJoined}
use Rattle.blk_nodes.specs.Nodes.{Nodes, AreTold, node_size, row_at}
use Rattle.blk_nodes.specs.Reading.{HaveRisen, IsReadBelow, OnlyAt, ReadsDisk}
use Rattle.blk_nodes.specs.Through.{IsOrAsTop}
use Rattle.blk_nodes.specs.Writing.{LeavesNodes, MayWriteThrough, WritesBy, WritesFile, WritesImage, WritesPiece, ZerosBy, ZerosPiece, own_file}
use Rattle.blk_nodes.specs.declared.row.Driver.{Driver}
use Rattle.blk_nodes.specs.declared.row.Driver.TheVariants as drivers
use Rattle.blk_nodes.specs.declared.row.Row.{Row}
use Rattle.blk_nodes.proofs.Disks.{bytes_risen, disks_risen}
use Rattle.block_jobs.specs.Work.{JobWork, next_block}
use Rattle.block_jobs.proofs.PartLemmas.{next_is}
use Rattle.node_copies.specs.Putting.{CopiesBehind, CopiesBlock, IsPut, PutsRun, PutsRuns}
use Rattle.node_copies.specs.Sectors.{block_of, run_bytes, run_span, runs_of}
use Rattle.node_copies.proofs.Puts.{disk_whole, is_put, leaves_called, runs_kept}
use Rattle.job_copies.specs.Passing.{PassesBlock, PassesNext, all_sectors}
use Rattle.job_copies.proofs.Passed.{bytes_in, put_none}
use Rattle.chain_copies.specs.Commits.{PutsOfTop, written_by, written_file}
use Rattle.chain_copies.proofs.CommitsKept.{written_kept}

-- ---- no other file is written

module _ (base : ℕ) where
  abbrev pub KeepsFiles : Nodes → Nodes → Type 0
  KeepsFiles old new = (file : ℕ) → written_file old base ≢ Some file → bytes_of new file ≡ bytes_of old file

  files_only : (old new : Nodes) (file : ℕ) → OnlyAt file old.devices new.devices → written_file old base ≡ Some file → KeepsFiles old new
  files_only old new file only is f other = ap bytes_by (only.others f (λ same. other (is ∙ ap Some (sym same))))

  files_risen : (old new : Nodes) → HaveRisen old.devices new.devices → KeepsFiles old new
  files_risen old new risen f other = bytes_risen old.devices new.devices risen f

  pub files_then : (old mid new : Nodes) → LeavesNodes old mid base → KeepsFiles old mid → KeepsFiles mid new → KeepsFiles old new
  files_then old mid new kept first last f other = last f (λ is. other (sym (written_kept old mid base kept base) ∙ is)) ∙ first f other

  module _ (old new : Nodes) where
    files_file : (place : ℕ) (bytes : List ℕ) (outcome : Outcome) → WritesFile old new base place bytes outcome → KeepsFiles old new
    files_file place bytes outcome is = files_only old new is.file is.at.only (ap (written_by old base) is.there ∙ is.own)

    files_image : (row : Row) (image : Known) → row_at old base ≡ Some row → row.driver ≡ drivers.Qcow2 image → (fits : ℕ → Type 0) (own : Option ℕ) (rest : Option Extent)
        (n : ℕ) (outcome : Outcome) → WritesImage fits own rest old new base n outcome → KeepsFiles old new
    files_image row image there driver fits own rest n outcome is = elim is.devices [
      | inl only ↦ files_only old new is.file only (ap (written_by old base) there ∙ ap (own_file old base) driver ∙ is.edge)
      | inr risen ↦ files_risen old new risen
    ]

    files_written : (span : Extent) (bytes : List ℕ) (outcome : Outcome) → WritesPiece old new base span bytes outcome → KeepsFiles old new
    files_written span bytes outcome is = by is.row.driver refl is.wrote
      where
        by : (d : Driver) → is.row.driver ≡ d → WritesBy d old new base span bytes outcome → KeepsFiles old new
        by drivers.File driver wrote = files_file span.start bytes outcome wrote
        by (drivers.Raw part) driver wrote = files_file span.start bytes outcome wrote
        by (drivers.Qcow2 image) driver wrote = files_image is.row image is.there driver _ _ _ (length bytes) outcome wrote
        by drivers.CopyOnRead driver wrote = files_file span.start bytes outcome wrote
        by (drivers.Filter kind) driver wrote = files_file span.start bytes outcome wrote

    files_zeroed : (span : Extent) (outcome : Outcome) → ZerosPiece old new base span outcome → KeepsFiles old new
    files_zeroed span outcome is = by is.row.driver refl is.wrote
      where
        by : (d : Driver) → is.row.driver ≡ d → ZerosBy d old new base span outcome → KeepsFiles old new
        by drivers.File driver wrote = files_file span.start (replicate span.len 0) outcome wrote
        by (drivers.Raw part) driver wrote = files_file span.start (replicate span.len 0) outcome wrote
        by (drivers.Qcow2 image) driver wrote = files_image is.row image is.there driver _ _ _ span.len outcome wrote
        by drivers.CopyOnRead driver wrote = files_file span.start (replicate span.len 0) outcome wrote
        by (drivers.Filter kind) driver wrote = files_file span.start (replicate span.len 0) outcome wrote

    files_run : (block span : Extent) (bytes : List ℕ) (outcome : Outcome) → PutsRun block old new base span bytes outcome → KeepsFiles old new
    files_run block span bytes outcome is = elim is.made [
      | inl zeros ↦ files_zeroed span outcome zeros.1
      | inr wrote ↦ files_written span bytes outcome wrote.1
    ]

  pub files_runs : (block : Extent) (bytes : List ℕ) (runs : _) (old new : Nodes) (outcome : Outcome) → PutsRuns runs block old new base bytes outcome
      → KeepsFiles old new
  files_runs block bytes [] old new outcome is = λ f other. ap (λ (n : Nodes). bytes_of n f) is.0
  files_runs block bytes (run ∷ runs) old new outcome (mid, first, put, rest) = elim rest [
    | inl on ↦
        files_then old mid new put.kept (files_run old mid block (run_span block run) (run_bytes block bytes run) first put) (files_runs block bytes runs mid new outcome on.1)
    | inr stop ↦
        subst (KeepsFiles old) (sym stop.1) (files_run old mid block (run_span block run) (run_bytes block bytes run) first put)
  ]

-- ---- what is written is the top's

-- of all sectors of a block
put_as_top : (block : Extent) (top old new : List ℕ) (done : Type 0) → IsPut block all_sectors (bytes_in top block) old new done → IsOrAsTop top old new
put_as_top block top old new done put = record {
  whole = put.whole;
  at = λ place. elim (put.at place) [
    | inl same ↦ inl same
    | inr asked ↦ inr (asked.1 ∙ sym ((put_none block top top refl).all tt place asked.0))
  ];
}

same_is : (top a b : List ℕ) → b ≡ a → IsOrAsTop top a b
same_is top a b is = record { whole = ap length is; at = λ i. inl (ap (λ (xs : List ℕ). slice_index xs i) is) }

module _ (old new : Nodes) (base top : ℕ) where
  -- nothing was
  put_nothing : new ≡ old → PutsOfTop old new base top
  put_nothing is = record {
    kept = leaves_called old new base (is ∙ ap (λ (n : Nodes). record old { devices = n.devices }) (sym is));
    bytes = λ f other. ap (λ (n : Nodes). bytes_of n f) is;
    put = same_is (disk_of old top) (disk_of old base) (disk_of new base) (ap (λ (n : Nodes). disk_of n base) is);
  }

  module _ (joined : IsJoined old) (told : AreTold old.devices) (may : MayWriteThrough old base) (block : Extent) (within : end_of block ≤ node_size old base) where
    -- a read was stopped
    put_read : (between : Nodes) → between ≡ record old { devices = between.devices } → HaveRisen old.devices between.devices → new ≡ between → PutsOfTop old new base top
    put_read between kept risen is = subst (λ (n : Nodes). PutsOfTop old n base top) (sym is) (record {
      kept = leaves_called old between base kept;
      bytes = files_risen base old between risen;
      put = same_is (disk_of old top) (disk_of old base) (disk_of between base)
          (ap (λ (n : Nodes). disk_of n base) kept ∙ disks_risen old between.devices risen base);
    })

    put_runs : (bytes : List ℕ) (wrote : Outcome) → bytes ≡ bytes_in (disk_of old top) block → PutsRuns (runs_of block all_sectors) block old new base bytes wrote
        → PutsOfTop old new base top
    put_runs bytes wrote is puts =
        let whole : length bytes ≡ block.len = ap length is ∙ length-bytes_at (disk_of old top) block.start block.len in
        let all = disk_whole old base (end_of block) joined told may.row may.there within in
        let put = is_put block all_sectors base bytes whole old new wrote puts told all in
        record {
          kept = runs_kept block base bytes (runs_of block all_sectors) old new wrote puts;
          bytes = files_runs base block bytes (runs_of block all_sectors) old new wrote puts;
          put = put_as_top block (disk_of old top) (disk_of old base) (disk_of new base) (wrote ≡ Good)
              (subst (λ (xs : List ℕ). IsPut block all_sectors xs (disk_of old base) (disk_of new base) (wrote ≡ Good)) is put);
        }

    pub put_copied : (result : Result (Unit {0}) Fault) → CopiesBlock old new top base block all_sectors result → PutsOfTop old new base top
    put_copied result is = by is.read is.went (is.found told) is.behind
      where
        by : (read : Outcome) → IsReadBelow old is.between top read → ReadsDisk read (disk_of old top) block is.bytes
            → CopiesBehind read is.between new base block all_sectors is.bytes result → PutsOfTop old new base top
        by Good went found behind =
            put_runs is.bytes behind.0 found (subst (λ (n : Nodes). PutsRuns (runs_of block all_sectors) block n new base is.bytes behind.0) went behind.1)
        by (Torn done dev count) went found behind = put_read is.between is.kept is.risen behind.0
        by (Io dev count) went found behind = put_read is.between is.kept is.risen behind.0
        by (NoSpace dev) went found behind = put_read is.between is.kept is.risen behind.0

  module _ (joined : IsJoined old) (told : AreTold old.devices) (may : MayWriteThrough old base) (was now : JobWork) (size : node_size old base ≡ was.size) where
    put_block : (must : Bool) (block : ℕ) → next_block was ≡ Some block → PassesBlock must old new was now top base block → PutsOfTop old new base top
    put_block true block next is =
        let less = (next_is was block next).0 in
        put_copied joined told may (block_of was.size block) (omega (arith, less, size)) is.result is.copies
    put_block false block next is = put_nothing is.0

    pub put_next : (must : ℕ → Bool) (answer : Bool) → PassesNext must old new was now top base answer → PutsOfTop old new base top
    put_next must true is = put_block (must (is.0 * 65536)) is.0 is.1 is.2
    put_next must false is = put_nothing is.1
