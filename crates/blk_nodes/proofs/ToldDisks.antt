-- What the writing of a piece makes of an image stays so where more is known of the disk's bytes.
use Rattle.std.proofs.Common.{ℕ, Bool, true, false, List, replicate, Option, inl, inr}
use Rattle.blk_base.specs.Pieces.{Extent}
use Rattle.blk_base.specs.declared.fault.DevStop.{DevStop}
use Rattle.blk_base.specs.declared.fault.Outcome.{Outcome}
use Rattle.blk_base.specs.declared.fault.Outcome.TheVariants.{Good, Torn, Io, NoSpace}
use Rattle.q2_format.specs.declared.entries.L2Entry.{L2Entry}
use Rattle.q2_format.specs.declared.entries.L2Entry.TheVariants as entries
use Rattle.q2_image.specs.Image.{Known}
use Rattle.q2_image.specs.Room.{entry_for, is_whole}
use Rattle.blk_nodes.specs.Changing.{ImageChange, ChangesAround, ChangesPart, IsClusterAround, IsImageWritten, IsZeroed, LeavesRow, PutsAround, ZeroesBy, ZeroesPart}
use Rattle.blk_nodes.specs.Nodes.{Nodes, DeviceSeen}
use Rattle.blk_nodes.specs.declared.row.Driver.TheVariants.{Qcow2}
use Rattle.blk_nodes.specs.declared.row.Row.{Row}

module _ (Less More : List ℕ → Type 0) (each : (disk : List ℕ) → More disk → Less disk) (part : Extent) (image now : Known) (before after : DeviceSeen) where
  cluster_told : (bytes cluster : List ℕ) → IsClusterAround Less image part bytes cluster → IsClusterAround More image part bytes cluster
  cluster_told bytes cluster around = record {
    whole = around.whole;
    holds = around.holds;
    behind = around.behind;
    is = λ disk is. around.is disk (each disk is);
  }

  puts_told : (bytes : List ℕ) (stop : Option DevStop) → PutsAround Less part bytes stop image now before after → PutsAround More part bytes stop image now before after
  puts_told bytes stop is = record { cluster = is.cluster; around = cluster_told bytes is.cluster is.around; puts = is.puts }

  around_told : (bytes : List ℕ) (o : Outcome) → ChangesAround Less part bytes image now before after o → ChangesAround More part bytes image now before after o
  around_told bytes Good is = (puts_told bytes _ is.0, is.1)
  around_told bytes (Torn done dev count) is = absurd is
  around_told bytes (Io dev count) (inl puts) = inl (puts_told bytes _ puts)
  around_told bytes (Io dev count) (inr read) = inr read
  around_told bytes (NoSpace dev) is = is

  part_told : (e : L2Entry) (bytes : List ℕ) (o : Outcome) → ChangesPart Less e part bytes image now before after o → ChangesPart More e part bytes image now before after o
  part_told entries.Unallocated bytes o is = around_told bytes o is
  part_told (entries.Zero host) bytes o is = around_told bytes o is
  part_told (entries.Host host) bytes o is = is
  part_told entries.Compressed bytes o is = around_told bytes o is
  part_told entries.Reserved bytes o is = around_told bytes o is

  zeroes_told : (e : L2Entry) (o : Outcome) → ZeroesPart Less e part image now before after o → ZeroesPart More e part image now before after o
  zeroes_told entries.Unallocated o is = around_told (replicate part.len 0) o is
  zeroes_told (entries.Zero host) o is = is
  zeroes_told (entries.Host host) o is = is
  zeroes_told entries.Compressed o is = around_told (replicate part.len 0) o is
  zeroes_told entries.Reserved o is = around_told (replicate part.len 0) o is

  whole_told : (b : Bool) (o : Outcome) → ZeroesBy Less b part image now before after o → ZeroesBy More b part image now before after o
  whole_told true o is = is
  whole_told false o is = zeroes_told (entry_for image part) o is

  written_told : (bytes : List ℕ) (o : Outcome) → IsImageWritten Less part bytes image now before after o → IsImageWritten More part bytes image now before after o
  written_told bytes o is = part_told (entry_for image part) bytes o is

  zeroed_told : (o : Outcome) → IsZeroed Less part image now before after o → IsZeroed More part image now before after o
  zeroed_told o is = whole_told (is_whole image part) o is

-- of a node's row
module _ (old new : Nodes) (node : ℕ) (row : Row) (image : Known) (outcome : Outcome) (Less More : List ℕ → Type 0) (each : (disk : List ℕ) → More disk → Less disk) (span : Extent) where
  row_told : (change to : ImageChange) → ((now : Known) (before after : DeviceSeen) → change image now before after outcome → to image now before after outcome)
      → LeavesRow change (Qcow2 image) row old new node outcome → LeavesRow to (Qcow2 image) row old new node outcome
  row_told change to as_to is =
      record { now = is.now; left = is.left; changed = λ file before after edge held left. as_to is.now before after (is.changed file before after edge held left) }

  pub row_written : (bytes : List ℕ) → LeavesRow (IsImageWritten Less span bytes) (Qcow2 image) row old new node outcome
      → LeavesRow (IsImageWritten More span bytes) (Qcow2 image) row old new node outcome
  row_written bytes =
      row_told (IsImageWritten Less span bytes) (IsImageWritten More span bytes) (λ now before after is. written_told Less More each span image now before after bytes outcome is)

  pub row_zeroed : LeavesRow (IsZeroed Less span) (Qcow2 image) row old new node outcome → LeavesRow (IsZeroed More span) (Qcow2 image) row old new node outcome
  row_zeroed = row_told (IsZeroed Less span) (IsZeroed More span) (λ now before after is. zeroed_told Less More each span image now before after outcome is)
