-- A write in place, wherever it stops.
use Rattle.std.proofs.Common.{◌≡◌, ℕ, ◌+◌, ◌*◌, ◌/◌, ◌%◌, ◌<◌, ◌≤◌, inl, inr, List, [], ◌∷◌, ◌++◌, length, take, replicate, refl, sym, subst, arith}
use Rattle.std.proofs.lemmas.Bool.{cases_eq, eq-eqb, ne_eqb}
use Rattle.std.proofs.lemmas.List.{length-take}
use Rattle.std.proofs.Math.Seq.{take-length}
use Rattle.blk_base.specs.Content.{Write, with_bytes, after_writes}
use Rattle.blk_base.specs.Pieces.{Extent}
use Rattle.blk_base.specs.Writes.{write_of, AtEachStop}
use Rattle.blk_base.proofs.WriteLists.{at_each_stop-none, at_each_stop-one, at_each_stop-sector, at_each_stop-then, at_each_stop-weaker}
use Rattle.q2_format.specs.Entry.{host_of}
use Rattle.q2_format.specs.Sound.{IsSound}
use Rattle.q2_format.specs.declared.entries.L2Entry.{L2Entry}
use Rattle.q2_format.specs.declared.entries.L2Entry.TheVariants.{Unallocated, Zero, Host, Compressed, Reserved}
use Rattle.q2_image.specs.BackingName.{KeepsHeader}
use Rattle.q2_image.specs.Image.{Known, IsImageOf, IsOpen, cluster_size_in, clusters_in, entry_in}
use Rattle.q2_image.specs.Reading.{IsHost, IsWithinCluster}
use Rattle.q2_image.specs.Made.{clear_writes, own_writes, IsOwnPart}
use Rattle.q2_image.specs.Writing.{IsSameDisk, autocleared, own_place}
use Rattle.q2_image.proofs.Autocleared.{cleared, cleared_image, cleared_disk}
use Rattle.q2_image.proofs.HeaderKept.{KeepsFirst, first_cleared, first_itself, first_then, first_without, header_kept}
use Rattle.q2_image.proofs.HostUses.{host_entry, size_in}
use Rattle.q2_image.proofs.Mapped.{below_words}
use Rattle.q2_image.proofs.OwnTold.{IsOwnPlace, open_cleared, same_at}
use Rattle.q2_image.proofs.OwnWrites.{disk_then, own_image, own_disk, own_tables}

pub same_disk_as : (file : List ℕ) → IsSameDisk file file
same_disk_as file = record {
  size = refl;
  inside = λ backing i none below. absurd (omega arith);
  outside = λ backing place below side. refl;
}

cleared_same : (image : Known) → image.header.autoclear ≡ 0 → autocleared image ≡ image
cleared_same image none = rw none refl

-- the file behind the write of the autoclear field
pub record IsBehindClear (file mid : List ℕ) (image : Known) : Type 0 where
  pub image_is : IsImageOf mid (autocleared image)
  pub disk : IsSameDisk file mid

pub behind_clear : (file : List ℕ) (image : Known) → IsImageOf file image → IsBehindClear file (after_writes file (clear_writes image)) image
behind_clear file image is = elim (cases_eq image.header.autoclear 0) [
  | inl none ↦
      let test = eq-eqb image.header.autoclear 0 none in
      let P : Known → Type 0 = IsImageOf file in
      rw test (record { image_is = subst P (sym (cleared_same image none)) is; disk = same_disk_as file })
  | inr some ↦
      let test = ne_eqb image.header.autoclear 0 some in
      rw test (record { image_is = cleared_image file image is; disk = cleared_disk file is.sound })
]

module _ (file : List ℕ) (image : Known) (start place : ℕ) (bytes : List ℕ) (is : IsImageOf file image) (ready : IsOpen image)
    (below : start / 65536 < length image.tables.words) (at : IsOwnPlace image start place) (within : start % 65536 + length bytes ≤ 65536) where
  abbrev P : List ℕ → Type 0
  P = IsOwnPart start bytes file

  nothing_yet : (now : List ℕ) → IsSound now → IsSameDisk file now → P now
  nothing_yet now sound same = (0, sound, same_at file now start same)

  clear_stops : AtEachStop P (clear_writes image) file
  clear_stops = elim (cases_eq image.header.autoclear 0) [
    | inl none ↦
        let test = eq-eqb image.header.autoclear 0 none in
        rw test (at_each_stop-none P file (nothing_yet file is.sound (same_disk_as file)))
    | inr some ↦
        let test = ne_eqb image.header.autoclear 0 some in
        rw test (at_each_stop-sector P (write_of 88 (replicate 8 0)) file (omega arith) (nothing_yet file is.sound (same_disk_as file))
        (nothing_yet (cleared file) (cleared_image file image is).sound (cleared_disk file is.sound)))
  ]

  abbrev mid : List ℕ
  mid = after_writes file (clear_writes image)

  behind : IsBehindClear file mid image
  behind = behind_clear file image is

  small : at.0 < 549755813888
  small =
      let own = host_entry _ at.0 at.1 in
      let size = size_in image ready in
      let few = ready.reach in
      let reached = ready.hosts (start / 65536) below in
      let bound : length image.refs.counts * cluster_size_in image ≤ 549755813888 = rw size (omega (arith, few)) in
      omega (arith, own.0, reached, bound)

  part : (n : ℕ) → P (with_bytes mid place (take n bytes))
  part n =
      let some : List ℕ = take n bytes in
      let inside : start % 65536 + length some ≤ 65536 = omega (arith, length-take n bytes, within) in
      let open_mid = open_cleared image ready in
      let Q : ℕ → Type 0 = λ p. IsSound (with_bytes mid p some) in
      let R : ℕ → Type 0 = λ p. IsSameDisk file mid → P (with_bytes mid p some) in
      let whole = own_image mid (autocleared image) start at.0 some behind.image_is open_mid below at.1 inside small in
      let disk = own_disk mid (autocleared image) start at.0 some behind.image_is open_mid below at.1 inside small in
      subst R (sym at.2) (λ same. (n, whole.sound, disk_then file mid (with_bytes mid (at.0 + start % 65536) some) start some same disk)) behind.disk

  bytes_stop : AtEachStop P (write_of place bytes ∷ []) mid
  bytes_stop =
      let W : List ℕ → Type 0 = λ b. P (with_bytes mid place b) in
      at_each_stop-one P (write_of place bytes) mid (λ n short border. part n) (subst W (take-length bytes) (part (length bytes)))

  pub own_stops_at : AtEachStop P (clear_writes image ++ write_of place bytes ∷ []) file
  own_stops_at = at_each_stop-then P (clear_writes image) (write_of place bytes ∷ []) file clear_stops bytes_stop

  -- the header's cluster
  clear_header : AtEachStop (KeepsFirst file) (clear_writes image) file
  clear_header = elim (cases_eq image.header.autoclear 0) [
    | inl none ↦
        let test = eq-eqb image.header.autoclear 0 none in
        rw test (at_each_stop-none (KeepsFirst file) file (first_itself file))
    | inr some ↦
        let test = ne_eqb image.header.autoclear 0 some in
        rw test (at_each_stop-sector (KeepsFirst file) (write_of 88 (replicate 8 0)) file (omega arith) (first_itself file) (first_without file))
  ]

  first_part : (n : ℕ) → KeepsFirst file (with_bytes mid place (take n bytes))
  first_part n =
      let some : List ℕ = take n bytes in
      let inside : start % 65536 + length some ≤ 65536 = omega (arith, length-take n bytes, within) in
      let tables = own_tables mid (autocleared image) start at.0 some behind.image_is (open_cleared image ready) below at.1 inside small in
      let K : ℕ → Type 0 = λ p. KeepsFirst file (with_bytes mid p some) in
      subst K (sym at.2) (first_then file mid (with_bytes mid (at.0 + start % 65536) some) (first_cleared file image) tables.first)

  pub own_header_at : AtEachStop (KeepsHeader file) (clear_writes image ++ write_of place bytes ∷ []) file
  own_header_at =
      let ws : List Write = clear_writes image ++ write_of place bytes ∷ [] in
      let W : List ℕ → Type 0 = λ b. KeepsFirst file (with_bytes mid place b) in
      at_each_stop-weaker (KeepsFirst file) (KeepsHeader file) ws file (λ now first. header_kept file now is.sound first)
      (at_each_stop-then (KeepsFirst file) (clear_writes image) (write_of place bytes ∷ []) file clear_header
      (at_each_stop-one (KeepsFirst file) (write_of place bytes) mid (λ n short border. first_part n) (subst W (take-length bytes) (first_part (length bytes)))))

host_named : (e : L2Entry) → IsHost e → e ≡ Host (host_of e)
host_named Unallocated is = absurd is
host_named (Zero host) is = absurd is
host_named (Host host) is = refl
host_named Compressed is = absurd is
host_named Reserved is = absurd is

-- where a part of a mapped cluster begins
pub own_place_at : (image : Known) (span : Extent) → IsOpen image → IsHost (entry_in image (span.start / cluster_size_in image)) → IsOwnPlace image span.start (own_place image span)
own_place_at image span ready mapped =
    let P : ℕ → Type 0 = λ c. IsHost (entry_in image (span.start / c)) → (host : ℕ) × (entry_in image (span.start / 65536) ≡ Host host) × (host_of (entry_in image (span.start / c)) + span.start % c ≡ host + span.start % 65536) in
    let here : P 65536 = λ is. (host_of (entry_in image (span.start / 65536)), host_named (entry_in image (span.start / 65536)) is, refl) in
    subst P (sym (size_in image ready)) here mapped

-- The same of a span of the disk.
module _ (file : List ℕ) (image : Known) (span : Extent) (bytes : List ℕ) (is : IsImageOf file image) (ready : IsOpen image) (disk : span.start / cluster_size_in image < clusters_in image)
    (mapped : IsHost (entry_in image (span.start / cluster_size_in image))) (within : IsWithinCluster (cluster_size_in image) span) (whole : length bytes ≡ span.len) where
  below : span.start / 65536 < length image.tables.words
  below =
      let C : ℕ → Type 0 = λ c. span.start / c < length image.tables.words in
      subst C (size_in image ready) (below_words image (span.start / cluster_size_in image) ready disk)

  inside : span.start % 65536 + length bytes ≤ 65536
  inside =
      let W : ℕ → Type 0 = λ c. span.start % c + span.len ≤ c in
      let ends : W 65536 = subst W (size_in image ready) within in
      omega (arith, ends, whole)

  pub own_stops : AtEachStop (IsOwnPart span.start bytes file) (own_writes image span bytes) file
  own_stops = own_stops_at file image span.start (own_place image span) bytes is ready below (own_place_at image span ready mapped) inside

  pub own_header : AtEachStop (KeepsHeader file) (own_writes image span bytes) file
  own_header = own_header_at file image span.start (own_place image span) bytes is ready below (own_place_at image span ready mapped) inside
