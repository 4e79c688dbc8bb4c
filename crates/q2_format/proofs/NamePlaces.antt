-- Where a new backing name stands, and the numbers that are read where a part of a new one's bytes was written.
use Rattle.std.proofs.Common.{◌≡◌, ◌≢◌, ℕ, zero, suc, ◌+◌, ◌-◌, ◌*◌, ◌/◌, ◌^◌, ◌<◌, ◌≤◌, ◌⊎◌, inl, inr, Bool, true, false, ◌&&◌, cond, ltb, List, ◌++◌, length, take, get_or, slice_index, Option, Some, None, IfSome, refl, sym, ap, subst, ◌∙◌, arith, length-append}
use Rattle.std.proofs.Math.Nat.{mul-le-mul_right}
use Rattle.std.proofs.Math.Seq.{get_or-append_right}
use Rattle.std.proofs.lemmas.List.{get_or-take, length-take}
use Rattle.std.proofs.lemmas.Bool.{cases_lt, ne_eqb, lt-ltb, le-ltb}
use Rattle.std.proofs.lemmas.Bool.Decides.{nat_tests}
use Rattle.std.specs.Option.{option_map_or}
use Rattle.byteorder.specs.Endian.{big_bytes, big_from}
use Rattle.byteorder.specs.Numbers.{length-bytes_high_first, big_number-reads_back}
use Rattle.q2_format.specs.Bytes.{number_at, IsWritten}
use Rattle.q2_format.specs.Sizes.{cluster_size}
use Rattle.q2_format.specs.Header.{name_place_of}
use Rattle.q2_format.specs.Renamed.{middle_of, is_in_middle, new_name_offset}
use Rattle.q2_format.specs.declared.header.Header.{Header}
use Rattle.q2_format.specs.declared.header.Place.{Place}
use Rattle.q2_format.proofs.ByPlace.{big_from-moved, number_at-alike, number_at-zeros}
use Rattle.q2_format.proofs.NameWrites.{IsBeside}

-- Numbers in bytes that were written.

pub number_within : (old new : List ℕ) (at i n : ℕ) (bytes : List ℕ) → IsWritten old new at bytes → i + n ≤ length bytes → number_at new (at + i) n ≡ number_at bytes i n
unfolding number_at
number_within old new at i n bytes w fits =
    big_from-moved n (at + i) i new bytes (λ k h.
    let inside = w.inside (i + k) (omega arith) in
    let place : at + (i + k) ≡ at + i + k = omega arith in
    rw place at inside)

pub number_behind : (front bytes : List ℕ) (n : ℕ) → number_at (front ++ bytes) (length front) n ≡ number_at bytes 0 n
unfolding number_at
number_behind front bytes n =
    big_from-moved n (length front) 0 (front ++ bytes) bytes (λ k h.
    let place : length front + k - length front ≡ 0 + k = omega arith in
    get_or-append_right front bytes (length front + k) 0 (omega arith) ∙ ap (λ (j : ℕ). get_or bytes j 0) place)

pub number_first : (n value : ℕ) (rest : List ℕ) → value < 256 ^ n → number_at (big_bytes n value ++ rest) 0 n ≡ value
unfolding number_at
number_first n value rest fits = big_number-reads_back n value rest fits

-- The fields of a name.

name_by_fields : (file : List ℕ) (offset len : ℕ) → number_at file 8 8 ≡ offset → number_at file 16 4 ≡ len → offset ≢ 0 → len ≢ 0 → name_place_of file ≡ Some (record { at = offset; len = len })
unfolding name_place_of
name_by_fields file offset len at size there some =
    let first = ne_eqb offset 0 there in
    let second = ne_eqb len 0 some in
    rw (at, size, first, second) refl

pub name_written : (old new : List ℕ) (offset len : ℕ) (rest : List ℕ) → IsWritten old new 8 (big_bytes 8 offset ++ (big_bytes 4 len ++ rest)) → offset ≢ 0 → len ≢ 0
    → offset < 256 ^ 8 → len < 256 ^ 4 → name_place_of new ≡ Some (record { at = offset; len = len })
name_written old new offset len rest w there some fits short =
    let front : List ℕ = big_bytes 8 offset in
    let behind : List ℕ = big_bytes 4 len ++ rest in
    let eight : length front ≡ 8 = length-bytes_high_first 8 offset in
    let four : length (big_bytes 4 len) ≡ 4 = length-bytes_high_first 4 len in
    let rest_length = length-append (big_bytes 4 len) rest in
    let whole = length-append front behind in
    let at : number_at new 8 8 ≡ offset = number_within old new 8 0 8 (front ++ behind) w (omega arith) ∙ number_first 8 offset behind fits in
    let P : ℕ → Type 0 = λ k. number_at (front ++ behind) k 4 ≡ number_at behind 0 4 in
    let size : number_at new 16 4 ≡ len =
    number_within old new 8 8 4 (front ++ behind) w (omega arith) ∙ subst P eight (number_behind front behind 4) ∙ number_first 4 len rest short in
    name_by_fields new offset len at size there some

pub no_name_written : (file : List ℕ) → ((i : ℕ) → 8 ≤ i → i < 20 → slice_index file i ≡ 0) → name_place_of file ≡ None
unfolding name_place_of
no_name_written file zeros = let at = number_at-zeros file 8 8 (λ i low high. zeros i low (omega arith)) in rw at refl

-- A number whose bytes were lowered is lower.

big_from-lower : (n at : ℕ) (old new : List ℕ) → ((i : ℕ) → at ≤ i → i < at + n → slice_index new i ≤ slice_index old i) → big_from at n new ≤ big_from at n old
big_from-lower zero at old new lower = omega arith
big_from-lower (suc n) at old new lower =
    let here = lower at (omega arith) (omega arith) in
    let rest = big_from-lower n (suc at) old new (λ i low high. lower i (omega arith) (omega arith)) in
    omega (arith, mul-le-mul_right (256 ^ n) here, rest)

pub number_lower : (old new : List ℕ) (at n : ℕ) → ((i : ℕ) → at ≤ i → i < at + n → slice_index new i ≤ slice_index old i) → number_at new at n ≤ number_at old at n
unfolding number_at
number_lower old new at n lower = big_from-lower n at old new lower

-- The length of the format's data, where a part of it was written: the old one or the new one.

first_zeros : (file : List ℕ) (at : ℕ) → number_at file at 4 ≤ 8 → (slice_index file at ≡ 0) × (slice_index file (at + 1) ≡ 0) × (slice_index file (at + 2) ≡ 0)
unfolding number_at
first_zeros file at small =
    let one : suc at ≡ at + 1 = omega arith in
    let two : suc (suc at) ≡ at + 2 = omega arith in
    let P : ℕ → ℕ → Type 0 = λ a b. slice_index file at * 16777216 + (slice_index file a * 65536 + slice_index file b * 256) ≤ 8 in
    let all : P (suc at) (suc (suc at)) = omega (arith, small) in
    let Q : ℕ → Type 0 = λ b. P (suc at) b in
    let R : ℕ → Type 0 = λ a. P a (at + 2) in
    let last = subst R one (subst Q two all) in
    (omega (arith, last), omega (arith, last), omega (arith, last))

high_zeros : (value j : ℕ) (rest : List ℕ) → value ≤ 8 → j < 3 → slice_index (big_bytes 4 value ++ rest) j ≡ 0
high_zeros value zero rest small below = omega (arith, small)
high_zeros value (suc zero) rest small below = omega (arith, small)
high_zeros value (suc (suc zero)) rest small below = omega (arith, small)
high_zeros value (suc (suc (suc j))) rest small below = absurd (omega arith)

old_zeros : (file : List ℕ) (at j : ℕ) → number_at file at 4 ≤ 8 → j < 3 → slice_index file (at + j) ≡ 0
old_zeros file at zero small below = let same : at + 0 ≡ at = omega arith in rw same (first_zeros file at small).0
old_zeros file at (suc zero) small below = (first_zeros file at small).1
old_zeros file at (suc (suc zero)) small below = (first_zeros file at small).2
old_zeros file at (suc (suc (suc j))) small below = absurd (omega arith)

pub part_of_length : (old new : List ℕ) (from k value : ℕ) (rest : List ℕ) → IsWritten old new from (take k (big_bytes 4 value ++ rest)) → value ≤ 8 → number_at old from 4 ≤ 8
    → number_at new from 4 ≡ cond (ltb k 4) (number_at old from 4) value
part_of_length old new from k value rest w small old_small =
    let all : List ℕ = big_bytes 4 value ++ rest in
    let four : length (big_bytes 4 value) ≡ 4 = length-bytes_high_first 4 value in
    let whole = length-append (big_bytes 4 value) rest in
    let cut = length-take k all in
    elim (cases_lt k 4) [
      | inl short ↦
          let test = lt-ltb k 4 short in
          rw test (number_at-alike old new from 4 (record {
            same = λ i low high. elim (cases_lt i (from + k)) [
              | inl inside ↦
                  let j : ℕ = i - from in
                  let place : from + j ≡ i = omega arith in
                  let written = w.inside j (omega arith) in
                  let byte = get_or-take k all j 0 (omega arith) in
                  let P : ℕ → Type 0 = λ n. slice_index new n ≡ slice_index old n in
                  subst P place (written ∙ byte ∙ high_zeros value j rest small (omega arith) ∙ sym (old_zeros old from j old_small (omega arith)))
              | inr past ↦ w.outside i (inr (omega arith))
            ];
          }))
      | inr long ↦
          let test = le-ltb k 4 long in
          let same : number_at (take k all) 0 4 ≡ number_at all 0 4 = number_at-alike all (take k all) 0 4 (record { same = λ i low high. get_or-take k all i 0 (omega arith) }) in
          let number = number_within old new from 0 4 (take k all) w (omega arith) in
          let place : from + 0 ≡ from = omega arith in
          rw test (rw place at number ∙ same ∙ number_first 4 value rest (omega arith))
    ]

-- The text's place.

beside_middle : (m at len size : ℕ) → at + len ≤ 65536 → len ≤ 1023 → m ≡ 32768 → size ≤ 1023 → (t : Bool) → (ltb at (m + 1023) && ltb m (at + len)) ≡ t
    → (cond t (m + m / 2) m + size ≤ at) ⊎ (at + len ≤ cond t (m + m / 2) m)
beside_middle m at len size whole short is fits true test = inr (grind (arith, nat_tests))
beside_middle m at len size whole short is fits false test = elim (cases_lt m (at + len)) [
  | inl above ↦ inl (grind (arith, nat_tests))
  | inr below ↦ inr below
]

beside_name : (h : Header) (name : Option Place) (size : ℕ) → h.cluster_bits ≡ 16 → size ≤ 1023 → IfSome name (λ name. (name.at + name.len ≤ 65536) × (name.len ≤ 1023))
    → IsBeside (cond (option_map_or (is_in_middle h) name false) (middle_of h + middle_of h / 2) (middle_of h)) (cond (option_map_or (is_in_middle h) name false) (middle_of h + middle_of h / 2) (middle_of h) + size) name
beside_name h None size bits fits lies = tt
beside_name h (Some name) size bits fits lies =
    let m : middle_of h ≡ 32768 = rw bits refl in
    beside_middle (middle_of h) name.at name.len size lies.0 lies.1 m fits (is_in_middle h name) refl

pub offset_beside : (h : Header) (size : ℕ) → h.cluster_bits ≡ 16 → size ≤ 1023 → IfSome h.name (λ name. (name.at + name.len ≤ 65536) × (name.len ≤ 1023))
    → IsBeside (new_name_offset h) (new_name_offset h + size) h.name
offset_beside h size bits fits lies = beside_name h h.name size bits fits lies

offset_by : (m : ℕ) (t : Bool) → (m ≤ cond t (m + m / 2) m) × (cond t (m + m / 2) m ≤ m + m / 2)
offset_by m true = (omega arith, omega arith)
offset_by m false = (omega arith, omega arith)

-- it lies in the second half of the header's cluster, and ends in front of the cluster's end
pub offset_within : (h : Header) → h.cluster_bits ≡ 16 → (cluster_size h.cluster_bits / 2 ≤ new_name_offset h) × (new_name_offset h + 1023 ≤ cluster_size h.cluster_bits)
offset_within h bits =
    let m : middle_of h ≡ 32768 = rw bits refl in
    let c : cluster_size h.cluster_bits ≡ 65536 = rw bits refl in
    let both = offset_by (middle_of h) (option_map_or (is_in_middle h) h.name false) in
    (both.0, omega (arith, both.1, m, c))
