-- A write in place, as its device tells it.
use Rattle.std.proofs.Common.{◌≡◌, ℕ, ◌+◌, ◌*◌, ◌/◌, ◌%◌, ◌<◌, ◌≤◌, inl, inr, List, [], length, Option, Some, Result, Ok, Err, option_map, refl, sym, ◌∙◌, subst, arith}
use Rattle.std.specs.Prelude.{IfErr}
use Rattle.std.proofs.lemmas.List.{length-take}
use Rattle.blk_base.specs.Calls.{FailedLast, IsWriteAfter, IsWriteAfterStop}
use Rattle.blk_base.specs.Content.{with_bytes}
use Rattle.blk_base.specs.Counts.{IsFailedWrite, taken}
use Rattle.blk_base.specs.Device.{Wrote}
use Rattle.blk_base.specs.Pieces.{Extent}
use Rattle.blk_base.specs.declared.device.Device.{Ghosts}
use Rattle.blk_base.specs.declared.device.DeviceCall.TheVariants as calls
use Rattle.blk_base.specs.declared.device.Stop.{Stop}
use Rattle.blk_base.specs.declared.device.Stop.TheVariants as why
use Rattle.blk_base.specs.declared.device.WriteStop.{WriteStop}
use Rattle.q2_format.specs.declared.entries.L2Entry.TheVariants.{Host}
use Rattle.q2_refs.proofs.Placing.{told_before}
use Rattle.q2_image.specs.Image.{Known, IsImageOf, IsOpen, cluster_size_in, entry_in}
use Rattle.q2_image.specs.Made.{StoppedOwn, WroteOwn, own_writes, stopped_after}
use Rattle.q2_image.specs.Writing.{IsDiskWith, IsSameDisk, autocleared, own_place}
use Rattle.q2_image.proofs.HostUses.{host_entry, size_in}
use Rattle.q2_image.proofs.OwnWrites.{own_image, own_disk}
use Rattle.q2_image.proofs.Payload.{told_now}

-- an image whose autoclear field was cleared is as open
pub open_cleared : (image : Known) → IsOpen image → IsOpen (autocleared image)
open_cleared image ready = record {
  cluster_bits = ready.cluster_bits;
  tables_size = ready.tables_size;
  disk = ready.disk;
  l1 = ready.l1;
  words = ready.words;
  plain = ready.plain;
  l1_place = ready.l1_place;
  l1_size = ready.l1_size;
  hosts = ready.hosts;
  reach = ready.reach;
  refcounts = ready.refcounts;
  first = ready.first;
  name = ready.name;
  format = ready.format;
  list = ready.list;
  ended = ready.ended;
  room = ready.room;
}

pub part_within : {A : Type 0} (result : Result A WriteStop) (bytes : List ℕ) (start : ℕ) → start % 65536 + length bytes ≤ 65536 → start % 65536 + length (taken result bytes) ≤ 65536
part_within (Ok a) bytes start h = h
part_within (Err stop) bytes start h = omega (arith, length-take stop.done bytes, h)

-- what the write of a part leaves behind a cleared autoclear field
pub own_wrote : {D : Type 0} (g : Ghosts D) (image left : Known) (span : Extent) (place : ℕ) (bytes : List ℕ) (result : Result (Unit {0}) WriteStop) (before mid now : D)
    → place ≡ own_place image span → length bytes ≡ span.len → place + length bytes ≤ g.capacity mid → left ≡ autocleared image
    → Wrote g (own_writes image span (taken result bytes)) before now
    → IfErr result (λ stop. stop.why ≡ why.NoSpace → (g.capacity mid < place + length bytes) × (stop.done ≡ 0) × (g.faults now ≡ g.faults mid))
    → IfErr result (λ stop. stop.why ≡ why.Failed → (place + length bytes ≤ g.capacity mid) × IsFailedWrite place stop.done (length bytes) (g.faults mid) (g.faults now))
    → g.failed_call mid ≡ g.failed_call before → IsWriteAfter result (calls.Write place (length bytes)) (g.failed_call mid) (g.failed_call now)
    → WroteOwn g image left span bytes (stopped_after result) before now
own_wrote g image left span place bytes (Ok done) before mid now at whole fits known wrote no_space failed first later = (known, wrote, later ∙ first)
own_wrote g image left span place bytes (Err stop) before mid now at whole fits known wrote no_space failed first later = by stop.why refl
  where
    by : (reason : Stop) → stop.why ≡ reason → StoppedOwn g image left span bytes stop.done before now
    by why.NoSpace is = let beyond = (no_space is).0 in absurd (omega (arith, beyond, fits))
    by why.Failed is =
        let few = (failed is).1.part in
        let call : FailedLast (calls.Write place (length bytes)) (g.failed_call now)
        = subst (λ (r : Stop). IsWriteAfterStop r (calls.Write place (length bytes)) (g.failed_call mid) (g.failed_call now)) is later in
        let F : ℕ → Type 0 = λ p. FailedLast (calls.Write p (length bytes)) (g.failed_call now) in
        let G : ℕ → Type 0 = λ n. FailedLast (calls.Write (own_place image span) n) (g.failed_call now) in
        inl (omega (arith, few, whole), known, wrote, subst G whole (subst F at call))

-- where a mapped part of the disk is
abbrev pub IsOwnPlace : Known → ℕ → ℕ → Type 0
IsOwnPlace image start place = (host : ℕ) × (entry_in image (start / 65536) ≡ Host host) × (place ≡ host + start % 65536)

module _ (o n : Option (List ℕ)) (image : Known) (start place : ℕ) (bytes : List ℕ) (is : n ≡ option_map (λ b. with_bytes b place bytes) o)
    (of_image : (file : List ℕ) → o ≡ Some file → IsImageOf file image) (ready : IsOpen image) (below : start / 65536 < length image.tables.words)
    (at : IsOwnPlace image start place) (within : start % 65536 + length bytes ≤ 65536) where
  small : at.0 < 549755813888
  small =
      let own = host_entry _ at.0 at.1 in
      let size = size_in image ready in
      let few = ready.reach in
      let reached = ready.hosts (start / 65536) below in
      let bound : length image.refs.counts * cluster_size_in image ≤ 549755813888 = rw size (omega (arith, few)) in
      omega (arith, own.0, reached, bound)

  pub own_told_image : (file : List ℕ) → n ≡ Some file → IsImageOf file image
  own_told_image file told =
      let was = told_before (λ b. with_bytes b place bytes) o n file is told in
      let P : List ℕ → Type 0 = λ f. IsImageOf f image in
      let Q : ℕ → Type 0 = λ p. IsImageOf (with_bytes was.0 p bytes) image in
      subst P was.2 (subst Q (sym at.2) (own_image was.0 image start at.0 bytes (of_image was.0 was.1) ready below at.1 within small))

  pub own_told_disk : (old new : List ℕ) → o ≡ Some old → n ≡ Some new → IsDiskWith old new start bytes
  own_told_disk old new was told =
      let P : List ℕ → Type 0 = λ f. IsDiskWith old f start bytes in
      let Q : ℕ → Type 0 = λ p. IsDiskWith old (with_bytes old p bytes) start bytes in
      subst P (told_now (λ b. with_bytes b place bytes) o n old new is was told) (subst Q (sym at.2) (own_disk old image start at.0 bytes (of_image old was) ready below at.1 within small))

-- no byte changed, wherever that is said of
pub same_at : (old new : List ℕ) (at : ℕ) → IsSameDisk old new → IsDiskWith old new at []
same_at old new at same = record {
  size = same.size;
  inside = λ backing i none below. absurd (omega arith);
  outside = λ backing place below side. same.outside backing place below (inr (omega arith));
}
