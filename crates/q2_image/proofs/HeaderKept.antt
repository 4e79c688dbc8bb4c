-- The header's cluster, in which only the autoclear field is written, and the name that the header says then.
use Rattle.std.proofs.Common.{◌≡◌, ◌≢◌, ℕ, ◌/◌, ◌<◌, ◌≤◌, ◌⊎◌, inl, inr, List, length, replicate, slice_index, Option, Some, None, IfSome, refl, ap, subst, ◌∙◌, arith}
use Rattle.std.proofs.lemmas.Bool.{cases_eq, eq-eqb, ne_eqb}
use Rattle.std.proofs.lemmas.List.{length-replicate}
use Rattle.blk_base.specs.Content.{after_writes}
use Rattle.q2_format.specs.Bytes.{ReadsAlike}
use Rattle.q2_format.specs.Header.{LiesWithin, header_of, name_place_of}
use Rattle.q2_format.specs.References.{uses, structure_uses}
use Rattle.q2_format.specs.Sizes.{cluster_size}
use Rattle.q2_format.specs.Sound.{IsSound}
use Rattle.q2_format.specs.Tables.{refcount_of}
use Rattle.q2_format.specs.declared.header.Header.{Header}
use Rattle.q2_format.specs.declared.header.Place.{Place}
use Rattle.q2_format.proofs.ByPlace.{bytes_at-alike, number_at-alike}
use Rattle.q2_format.proofs.Consistent.{sound_header, sound_is_consistent}
use Rattle.q2_format.proofs.Limits.{within_limits}
use Rattle.q2_refs.specs.Allocating.{KeepsCounted, refcount_uses}
use Rattle.q2_refs.proofs.Placing.{written_with}
use Rattle.q2_image.specs.BackingName.{HasSameName, KeepsHeader}
use Rattle.q2_image.specs.Creating.{text_at}
use Rattle.q2_image.specs.Image.{Known}
use Rattle.q2_image.specs.Made.{clear_writes}
use Rattle.q2_image.proofs.Autocleared.{cleared}

-- its bytes beside the field
abbrev pub KeepsFirst : List ℕ → List ℕ → Type 0
KeepsFirst before now = (i : ℕ) → i < 65536 → (i < 88) ⊎ (96 ≤ i) → slice_index now i ≡ slice_index before i

pub first_itself : (file : List ℕ) → KeepsFirst file file
first_itself file = λ i inside side. refl

pub first_then : (a b c : List ℕ) → KeepsFirst a b → ReadsAlike b c 0 65536 → KeepsFirst a c
first_then a b c first next = λ i inside side. next.same i (omega arith) (omega (arith, inside)) ∙ first i inside side

pub first_without : (file : List ℕ) → KeepsFirst file (cleared file)
first_without file = λ i inside side.
    let eight = length-replicate {A = ℕ} 8 0 in
    (written_with file 88 (replicate 8 0)).outside i (elim side [ inl before ↦ inl before | inr behind ↦ inr (omega (arith, behind, eight)) ])

pub first_cleared : (file : List ℕ) (image : Known) → KeepsFirst file (after_writes file (clear_writes image))
first_cleared file image = elim (cases_eq image.header.autoclear 0) [
  | inl none ↦ let test = eq-eqb image.header.autoclear 0 none in rw test (first_itself file)
  | inr some ↦ let test = ne_eqb image.header.autoclear 0 some in rw test (first_without file)
]

first_size : (file : List ℕ) → IsSound file → cluster_size (header_of file).cluster_bits ≡ 65536
first_size file sound = let bits = (within_limits file (length file) (sound_header file sound)).cluster_bits in rw bits refl

-- It counts, and holds no table, so an allocation leaves its bytes.
module _ (old new : List ℕ) (sound : IsSound old) (keeps : KeepsCounted old new (header_of old)) where
  abbrev h : Header
  h = header_of old

  size : cluster_size h.cluster_bits ≡ 65536
  size = first_size old sound

  own : uses old h 0 ≡ 1
  unfolding uses structure_uses
  own = let once = (sound_is_consistent old sound).once 0 in omega (arith, once)

  counted : refcount_of old h 0 ≢ 0
  counted none = let least = (sound_is_consistent old sound).counted 0 in omega (arith, own, least, none)

  no_table : refcount_uses old h 0 ≡ 0
  unfolding uses structure_uses
  no_table = let once = (sound_is_consistent old sound).once 0 in omega (arith, once)

  pub first_counted : ReadsAlike old new 0 65536
  first_counted = record {
    same = λ i low high.
        let number : 0 ≡ i / cluster_size h.cluster_bits = rw size (omega (arith, high)) in
        keeps.bytes i (subst (λ (k : ℕ). refcount_of old h k ≢ 0) number counted) (subst (λ (k : ℕ). refcount_uses old h k ≡ 0) number no_table);
  }

-- The name.

same_place : (before now : List ℕ) → KeepsFirst before now → name_place_of now ≡ name_place_of before
unfolding name_place_of
same_place before now keeps =
    let offset = number_at-alike before now 8 8 (record { same = λ i low high. keeps i (omega (arith, high)) (inl (omega (arith, high))) }) in
    let len = number_at-alike before now 16 4 (record { same = λ i low high. keeps i (omega (arith, high)) (inl (omega (arith, high))) }) in
    rw (offset, len) refl

same_text : (before now : List ℕ) (name : Option Place) (low c limit : ℕ) → KeepsFirst before now → 104 ≤ low → c ≡ 65536
    → IfSome name (λ name. LiesWithin low c name × (name.len ≤ limit)) → text_at now name ≡ text_at before name
same_text before now None low c limit keeps long size lies = refl
same_text before now (Some name) low c limit keeps long size lies =
    let begins = lies.0.begins in
    let ends = lies.0.ends in
    ap (λ (text : List ℕ). Some text) (bytes_at-alike before now name.at name.len (record {
      same = λ i from below. keeps i (omega (arith, below, ends, size)) (inr (omega (arith, from, begins, long)));
    }))

-- So it is wherever only the field of a sound file's first cluster is written.

name_kept : (before now : List ℕ) → IsSound before → KeepsFirst before now → HasSameName before now
unfolding header_of
name_kept before now sound keeps =
    let limits = within_limits before (length before) (sound_header before sound) in
    let place : (header_of now).name ≡ (header_of before).name = same_place before now keeps in
    record { place = place; text = ap (text_at now) place ∙ same_text before now (name_place_of before) _ _ _ keeps limits.header_whole (first_size before sound) limits.name }

pub header_kept : (before now : List ℕ) → IsSound before → KeepsFirst before now → KeepsHeader before now
header_kept before now sound keeps = record {
  bytes = λ i inside side. let I : ℕ → Type 0 = λ c. i < c in keeps i (subst I (first_size before sound) inside) side;
  name = name_kept before now sound keeps;
}
