-- A header is judged and read by the file's first cluster.
use Rattle.std.proofs.Common.{◌≡◌, ℕ, ◌≤◌, ◌<◌, ltb, List, [], ◌∷◌, Some, None, get_or, refl, sym, ap, ◌∙◌, arith}
use Rattle.std.specs.Option.{option_map}
use Rattle.std.proofs.lemmas.Bool.{lt-ltb}
use Rattle.blk_base.specs.Content.{bytes_at}
use Rattle.blk_base.proofs.Contents.{get_or-bytes_at}
use Rattle.q2_format.specs.Bytes.{ReadsAlike}
use Rattle.q2_format.specs.Sizes.{cluster_size}
use Rattle.q2_format.specs.Header.{header_of, header_refusal, format_refusal, profile_refusal, name_refusal, extension_refusal, size_refusal, refused_where, area_end}
use Rattle.q2_format.specs.declared.header.HeaderStop.{HeaderStop}
use Rattle.q2_format.specs.declared.header.HeaderStop.TheVariants.{Short}
use Rattle.q2_format.proofs.Firsts.{first-none}
use Rattle.q2_format.proofs.HeaderFrames as frames
use Rattle.q2_format.specs.Sound.{InHeader}
use Rattle.q2_image.specs.Opening.{header_stops}

-- a buffer that was read from a file's beginning reads as the file there
pub buffer_alike : (file cluster : List ℕ) → cluster ≡ bytes_at file 0 65536 → ReadsAlike file cluster 0 65536
buffer_alike file cluster is = record {
  same = λ i low high. ap (λ (b : List ℕ). get_or b i 0) is ∙ get_or-bytes_at file 0 65536 i (omega arith) ∙ ap (λ (j : ℕ). get_or file j 0) (omega arith);
}

pub refusal_alike : (file cluster : List ℕ) (len : ℕ) → cluster ≡ bytes_at file 0 65536 → header_refusal cluster len ≡ header_refusal file len
refusal_alike file cluster len is = frames.header_refusal_alike file cluster len (buffer_alike file cluster is)

-- a file that is too short
pub short_refused : (file : List ℕ) (len : ℕ) → len < 104 → header_stops file len ≡ Some (InHeader Short)
unfolding header_refusal
short_refused file len few = let test = lt-ltb len 104 few in rw test refl

-- refused and accepted
pub refused_alike : (file cluster : List ℕ) (len : ℕ) (stop : HeaderStop) → cluster ≡ bytes_at file 0 65536 → Some stop ≡ header_refusal cluster len
    → header_stops file len ≡ Some (InHeader stop)
refused_alike file cluster len stop is refused = ap (option_map InHeader) (sym (refused ∙ refusal_alike file cluster len is))

pub accepted_alike : (file cluster : List ℕ) (len : ℕ) → cluster ≡ bytes_at file 0 65536 → None ≡ header_refusal cluster len
    → header_stops file len ≡ None
accepted_alike file cluster len is accepted = ap (option_map InHeader) (sym (accepted ∙ refusal_alike file cluster len is))

-- an accepted header lies in the first cluster
area_within : (file : List ℕ) (len : ℕ) → header_refusal file len ≡ None → area_end file ≤ 65536
unfolding header_refusal
area_within file len none =
    let each = first-none (refused_where (ltb len 104) Short ∷ format_refusal file len ∷ profile_refusal file ∷ name_refusal file ∷ extension_refusal file ∷ size_refusal file len ∷ []) none in
    let bits = frames.profile_bits file each.1.1.0 in
    let area = frames.name_area file each.1.1.1.0 in
    let size = ap cluster_size bits in
    omega arith

pub header_alike : (file cluster : List ℕ) (len : ℕ) → cluster ≡ bytes_at file 0 65536 → None ≡ header_refusal cluster len
    → header_of file ≡ header_of cluster
header_alike file cluster len is accepted =
    let none : header_refusal file len ≡ None = sym (accepted ∙ refusal_alike file cluster len is) in
    sym (frames.header_alike file cluster 65536 (buffer_alike file cluster is) (omega arith) (area_within file len none))
