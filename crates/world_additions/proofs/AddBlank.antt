-- What a created image tells when it is opened, by how long its file is.
use Rattle.std.proofs.Common.{◌≡◌, ℕ, ◌<◌, List, [], ◌∷◌, length, refl, arith, Option, Some, None}
use Rattle.std.specs.Prelude.{nat_lt}
use Rattle.std.proofs.lemmas.Bool.{le-ltb, lt-ltb}
use Rattle.q2_format.specs.Created.{CanBeCreated, HasCreatedFields, IsCreated, created_header, creation_of}
use Rattle.q2_format.specs.Header.{first, refused_where, format_refusal, header_of, header_refusal, name_refusal, profile_refusal, extension_refusal, size_refusal}
use Rattle.q2_format.specs.Sizes.{clusters_for}
use Rattle.q2_format.specs.Sound.{InHeader, image_refusal}
use Rattle.q2_format.specs.declared.header.HeaderStop.TheVariants.{Short, TooLarge}
use Rattle.q2_format.proofs.ReadBack.{created_header_accepted, header_read}

first-none : {R : Type 0} (a : Option R) (rest : List (Option R)) → first (a ∷ rest) ≡ None → (a ≡ None) × (first rest ≡ None)
first-none None rest none = (refl, none)
first-none (Some r) rest none = absurd (let bad : ⊥ = cc none in bad)

module _ (file : List ℕ) (size : ℕ) (name format : Option (List ℕ)) (can : CanBeCreated size name format) (created : IsCreated (creation_of size name format) file) where
  fields : HasCreatedFields (creation_of size name format) file
  fields = created.header.fields

  -- where so many bytes are short enough, the header alone refuses nothing
  parts : (profile_refusal file ≡ None) × (name_refusal file ≡ None) × (extension_refusal file ≡ None)
  unfolding header_refusal
  parts =
      let accepted = created_header_accepted file size 262144 name format created.header can.name_fits can.name_is_text can.format_fits can.small (omega arith) (omega arith) in
      let rest1 = (first-none (refused_where (nat_lt 262144 104) Short) (format_refusal file 262144 ∷ profile_refusal file ∷ name_refusal file ∷ extension_refusal file ∷ size_refusal file 262144 ∷ []) accepted).1 in
      let rest2 = (first-none (format_refusal file 262144) (profile_refusal file ∷ name_refusal file ∷ extension_refusal file ∷ size_refusal file 262144 ∷ []) rest1).1 in
      let third = first-none (profile_refusal file) (name_refusal file ∷ extension_refusal file ∷ size_refusal file 262144 ∷ []) rest2 in
      let fourth = first-none (name_refusal file) (extension_refusal file ∷ size_refusal file 262144 ∷ []) third.1 in
      let fifth = first-none (extension_refusal file) (size_refusal file 262144 ∷ []) fourth.1 in
      (third.0, fourth.0, fifth.0)

  module _ (large : 8388608 < clusters_for 65536 (length file)) where
    format-none : format_refusal file (length file) ≡ None
    unfolding format_refusal
    format-none =
        let within = le-ltb (length file) 112 (omega (arith, large)) in
        rw (fields.magic, fields.version, fields.header_length, within) refl

    size-large : size_refusal file (length file) ≡ Some TooLarge
    unfolding size_refusal
    size-large =
        let small = can.small in
        let disk = le-ltb 274877906944 size small in
        let guest = le-ltb 4194304 (clusters_for 65536 size) (omega arith) in
        let clusters = lt-ltb 8388608 (clusters_for 65536 (length file)) large in
        rw (fields.cluster_bits, fields.size, disk, guest, clusters) refl

    header-large : header_refusal file (length file) ≡ Some TooLarge
    unfolding header_refusal
    header-large =
        let there = le-ltb (length file) 104 (omega (arith, large)) in
        rw (there, format-none, parts.0, parts.1, parts.2, size-large) refl

    pub image-large : image_refusal file ≡ Some (InHeader TooLarge)
    unfolding image_refusal
    image-large = rw header-large refl

  pub header-is : header_of file ≡ created_header (creation_of size name format)
  header-is = header_read file size name format created.header can.name_fits can.format_fits
