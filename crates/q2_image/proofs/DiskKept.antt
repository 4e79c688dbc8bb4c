-- What a write into the file changes of the disk: nothing where each entry and what it names stays.
use Rattle.std.proofs.Common.{◌≡◌, ℕ, ◌+◌, ◌/◌, ◌%◌, ◌<◌, List, length, slice_index, refl, sym, ap, ◌∙◌, arith}
use Rattle.q2_format.specs.Contents.{byte_by_entry, guest_byte}
use Rattle.q2_format.specs.Header.{header_of}
use Rattle.q2_format.specs.declared.header.Header.{Header}
use Rattle.q2_format.specs.declared.entries.L2Entry.{L2Entry}
use Rattle.q2_format.specs.declared.entries.L2Entry.TheVariants.{Unallocated, Zero, Host, Compressed, Reserved}
use Rattle.q2_image.specs.Image.{Known, IsImageOf, IsOpen, entry_in}
use Rattle.q2_image.specs.Writing.{IsSameDisk}
use Rattle.q2_image.proofs.Mapped.{entry_of_file, below_words}

-- a byte of the disk, by the kept entry of its cluster
pub guest_by_entry : (file backing : List ℕ) (image : Known) (place : ℕ) → IsImageOf file image → IsOpen image → place / 65536 < length image.tables.words
    → guest_byte file backing place ≡ byte_by_entry file 65536 backing place (entry_in image (place / 65536))
unfolding guest_byte
guest_by_entry file backing image place is ready below =
    let bits : (header_of file).cluster_bits ≡ 16 = ap (λ (h : Header). h.cluster_bits) is.header ∙ ready.cluster_bits in
    let entry = entry_of_file file image (place / 65536) is below in
    let e = rw bits at entry in
    rw (bits, e) refl

-- what an entry names reads the same
abbrev pub HostStays : List ℕ → List ℕ → L2Entry → Type 0
HostStays old new entry = (host i : ℕ) → entry ≡ Host host → i < 65536 → slice_index new (host + i) ≡ slice_index old (host + i)

byte_same : (old new backing : List ℕ) (place : ℕ) (e : L2Entry) → HostStays old new e → byte_by_entry new 65536 backing place e ≡ byte_by_entry old 65536 backing place e
byte_same old new backing place Unallocated same = refl
byte_same old new backing place (Zero host) same = refl
byte_same old new backing place (Host host) same = same host (place % 65536) refl (omega arith)
byte_same old new backing place Compressed same = refl
byte_same old new backing place Reserved same = refl

-- Two images of which each is open, with disks of one size.
pub record AreImages (old new : List ℕ) (before after : Known) : Type 0 where
  pub old_image : IsImageOf old before
  pub new_image : IsImageOf new after
  pub old_open : IsOpen before
  pub new_open : IsOpen after
  pub size : after.header.size ≡ before.header.size

-- a place of the disk has an entry
pub in_words : (image : Known) (place : ℕ) → IsOpen image → place < image.header.size → place / 65536 < length image.tables.words
in_words image place ready below =
    below_words image (place / 65536) ready (let bits = ready.cluster_bits in rw bits (omega arith))

module _ (old new : List ℕ) (before after : Known) (images : AreImages old new before after) where
  pub same_size : (header_of new).size ≡ (header_of old).size
  same_size = ap (λ (h : Header). h.size) images.new_image.header ∙ images.size ∙ sym (ap (λ (h : Header). h.size) images.old_image.header)

  known_size : (header_of old).size ≡ before.header.size
  known_size = ap (λ (h : Header). h.size) images.old_image.header

  pub same_byte : (backing : List ℕ) (place : ℕ) → place < (header_of old).size
      → entry_in after (place / 65536) ≡ entry_in before (place / 65536) → HostStays old new (entry_in before (place / 65536))
      → guest_byte new backing place ≡ guest_byte old backing place
  same_byte backing place below entry stays =
      let size = known_size in
      guest_by_entry new backing after place images.new_image images.new_open (in_words after place images.new_open (omega (arith, below, size, images.size)))
      ∙ ap (byte_by_entry new 65536 backing place) entry
      ∙ byte_same old new backing place (entry_in before (place / 65536)) stays
      ∙ sym (guest_by_entry old backing before place images.old_image images.old_open (in_words before place images.old_open (omega (arith, below, size))))

  pub same_disk : ((q : ℕ) → q < length before.tables.words → entry_in after q ≡ entry_in before q) → ((q : ℕ) → q < length before.tables.words → HostStays old new (entry_in before q))
      → IsSameDisk old new
  same_disk entries stays =
      let size = known_size in
      record {
        size = same_size;
        inside = λ backing i none below. absurd (omega arith);
        outside = λ backing place below side.
            let q_below = in_words before place images.old_open (omega (arith, below, size)) in
            same_byte backing place below (entries (place / 65536) q_below) (stays (place / 65536) q_below);
      }
