-- A piece leaves its device's capacity.
use Rattle.std.proofs.Common.{◌≡◌, ℕ, ◌*◌, Bool, true, false, List, replicate, Option, Some, None, inl, inr, ap}
use Rattle.blk_base.specs.Pieces.{Extent}
use Rattle.blk_base.specs.declared.fault.DevStop.{DevStop}
use Rattle.blk_base.specs.declared.fault.Outcome.{Outcome}
use Rattle.blk_base.specs.declared.fault.Outcome.TheVariants.{Good, Torn, Io, NoSpace}
use Rattle.q2_format.specs.Entry.{host_of}
use Rattle.q2_format.specs.declared.entries.L2Entry.{L2Entry}
use Rattle.q2_format.specs.declared.entries.L2Entry.TheVariants as entries
use Rattle.q2_image.specs.Image.{Known, cluster_size_in, entry_in}
use Rattle.q2_image.specs.Made.{WriteStep, WroteOwn, zero_steps}
use Rattle.q2_image.specs.Room.{cluster_of, entry_for, is_whole}
use Rattle.blk_nodes.specs.Changing.{seen, ChangesAround, ChangesBySteps, ChangesInPlace, ChangesPart, IsUnchanged, IsImageWritten, IsZeroed, MakesChange, PutsAround, ZeroesBy, ZeroesPart}
use Rattle.blk_nodes.specs.Nodes.{DeviceSeen}

module _ (IsDisk : List ℕ → Type 0) (image now : Known) (before after : DeviceSeen) where
  abbrev HasCapacity : Type 0
  HasCapacity = after.capacity ≡ before.capacity

  unchanged : IsUnchanged image now before after → HasCapacity
  unchanged is = ap (λ (d : DeviceSeen). d.capacity) is.1

  own : (part : Extent) (bytes : List ℕ) (stop : Option ℕ) → WroteOwn seen image now part bytes stop before after → HasCapacity
  own part bytes None is = is.1.capacity
  own part bytes (Some n) (inl is) = is.2.capacity
  own part bytes (Some n) (inr is) = is.3.capacity

  by-steps : (steps : List WriteStep) (place : ℕ) (bytes : List ℕ) (made : Known → Type 0) (o : Outcome) → ChangesBySteps steps place bytes made image now before after o → HasCapacity
  by-steps steps place bytes made Good is = is.0.made.writes.wrote.capacity
  by-steps steps place bytes made (Torn done dev count) is = absurd is
  by-steps steps place bytes made (Io dev count) is = is.made.writes.wrote.capacity
  by-steps steps place bytes made (NoSpace dev) is = unchanged is

  in-place : (part : Extent) (bytes : List ℕ) (o : Outcome) → ChangesInPlace part bytes image now before after o → HasCapacity
  in-place part bytes Good is = own part bytes None is.wrote
  in-place part bytes (Torn done dev count) is = own part bytes (Some done) is.wrote
  in-place part bytes (Io dev count) is = own part bytes (Some 0) is.wrote
  in-place part bytes (NoSpace dev) is = unchanged is

  put-around : (part : Extent) (bytes : List ℕ) (stop : Option DevStop) → PutsAround IsDisk part bytes stop image now before after → HasCapacity
  put-around part bytes stop is = is.puts.made.writes.wrote.capacity

  around : (part : Extent) (bytes : List ℕ) (o : Outcome) → ChangesAround IsDisk part bytes image now before after o → HasCapacity
  around part bytes Good is = put-around part bytes _ is.0
  around part bytes (Torn done dev count) is = absurd is
  around part bytes (Io dev count) (inl puts) = put-around part bytes _ puts
  around part bytes (Io dev count) (inr is) = unchanged is
  around part bytes (NoSpace dev) is = unchanged is

  of-part : (entry : L2Entry) (part : Extent) (bytes : List ℕ) (o : Outcome) → ChangesPart IsDisk entry part bytes image now before after o → HasCapacity
  of-part (entries.Host host) part bytes o is = in-place part bytes o is
  of-part entries.Unallocated part bytes o is = around part bytes o is
  of-part (entries.Zero host) part bytes o is = around part bytes o is
  of-part entries.Compressed part bytes o is = around part bytes o is
  of-part entries.Reserved part bytes o is = around part bytes o is

  zeroes-part : (entry : L2Entry) (part : Extent) (o : Outcome) → ZeroesPart IsDisk entry part image now before after o → HasCapacity
  zeroes-part (entries.Zero host) part o is = unchanged is.0
  zeroes-part (entries.Host host) part o is = of-part (entries.Host host) part (replicate part.len 0) o is
  zeroes-part entries.Unallocated part o is = of-part entries.Unallocated part (replicate part.len 0) o is
  zeroes-part entries.Compressed part o is = of-part entries.Compressed part (replicate part.len 0) o is
  zeroes-part entries.Reserved part o is = of-part entries.Reserved part (replicate part.len 0) o is

  zeroes-by : (whole : Bool) (part : Extent) (o : Outcome) → ZeroesBy IsDisk whole part image now before after o → HasCapacity
  zeroes-by true part o is =
      by-steps (zero_steps image (cluster_of image part)) (cluster_of image part * cluster_size_in image) (replicate (cluster_size_in image) 0)
      (λ k. entry_in k (cluster_of image part) ≡ entries.Zero (host_of (entry_in image (cluster_of image part)))) o is
  zeroes-by false part o is = zeroes-part (entry_for image part) part o is

  pub written-capacity : (part : Extent) (bytes : List ℕ) (o : Outcome) → IsImageWritten IsDisk part bytes image now before after o → HasCapacity
  written-capacity part bytes o is = of-part (entry_for image part) part bytes o is

  pub zeroed-capacity : (part : Extent) (o : Outcome) → IsZeroed IsDisk part image now before after o → HasCapacity
  zeroed-capacity part o is = zeroes-by (is_whole image part) part o is
