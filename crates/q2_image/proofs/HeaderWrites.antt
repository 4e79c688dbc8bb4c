-- A write into the header's cluster: the tables, the refcounts and the disk stay, and the image is that of the header then.
use Rattle.std.proofs.Common.{◌≡◌, ◌≢◌, ℕ, ◌+◌, ◌/◌, ◌%◌, ◌<◌, ◌≤◌, ◌⊎◌, inl, inr, Bool, false, true, not, ◌&&◌, ◌||◌, cond, eqb, ltb, List, [], length, slice_index, Option, Some, None, IfSome, is_some, refl, sym, ap, subst, ◌∙◌, arith}
use Rattle.std.proofs.lemmas.Bool.{cases_eq, eqb-false}
use Rattle.std.proofs.lemmas.Bool.Decides.{nat_tests}
use Rattle.blk_base.specs.Content.{with_bytes}
use Rattle.blk_base.proofs.Contents.{get_or-with_bytes_outside, length-with_bytes_within}
use Rattle.q2_format.specs.Sizes.{cluster_size}
use Rattle.q2_format.specs.Header.{LiesWithin, header_of}
use Rattle.q2_format.specs.References.{in_run, structure_uses, uses}
use Rattle.q2_format.specs.Sound.{IsSound, bad_refcount_table, is_header_full, is_misplaced}
use Rattle.q2_format.specs.Tables.{Tree, active_tree, refcount_table, refcount_of}
use Rattle.q2_format.specs.declared.header.Header.{Header}
use Rattle.q2_format.specs.declared.header.Place.{Place}
use Rattle.q2_format.proofs.ByPlace.{bytes_at-alike}
use Rattle.q2_format.proofs.Consistent.{sound_header, sound_is_consistent, sound_tables}
use Rattle.q2_format.proofs.Firsts.{refused_where-none}
use Rattle.q2_format.proofs.HeaderCluster.{with_naming, first_count, first_table, first_tree}
use Rattle.q2_format.proofs.Limits.{within_limits}
use Rattle.q2_format.proofs.NameSound.{StaysSound}
use Rattle.q2_format.proofs.NameWrites.{IsBeside}
use Rattle.q2_refs.specs.Kept.{IsCountsOf}
use Rattle.q2_tables.specs.Kept.{IsTreeOf}
use Rattle.q2_image.specs.BackingName.{HasSameName}
use Rattle.q2_image.specs.Creating.{text_at}
use Rattle.q2_image.specs.Image.{Known, IsImageOf, IsOpen, cluster_size_in}
use Rattle.q2_image.specs.Writing.{IsSameDisk}
use Rattle.q2_image.proofs.DiskKept.{same_disk}
use Rattle.q2_image.proofs.HostUses.{host_entry, held_by}
use Rattle.q2_image.proofs.OwnStops.{same_disk_as}
use Rattle.q2_image.proofs.OwnWrites.{disk_then}

-- Another header over the same tables.

abbrev pub renaming : Known → Option Place → Option Place → ℕ → Bool → Known
renaming image name format ext_end ended = record image { header = with_naming image.header name format ext_end ended }

-- what is kept of the refcounts is as it was
counts_stay : (old new : List ℕ) (image next : Known) → next.header.cluster_bits ≡ image.header.cluster_bits → refcount_table new next.header ≡ refcount_table old image.header
    → ((k : ℕ) → refcount_of new next.header k ≡ refcount_of old image.header k) → next.header.refcount_order ≡ image.header.refcount_order
    → next.header.ref_offset ≡ image.header.ref_offset → IsCountsOf old image.header image.refs → IsCountsOf new next.header image.refs
counts_stay old new image next bits table count order offset counts = record {
  shape = record {
    cluster_bits = counts.shape.cluster_bits ∙ sym bits;
    refcount_order = counts.shape.refcount_order ∙ sym order;
    table_offset = counts.shape.table_offset ∙ sym offset;
  };
  table = counts.table ∙ sym table;
  counts = λ k below. counts.counts k below ∙ sym (count k);
}

module _ (old new : List ℕ) (image : Known) (is : IsImageOf old image) (ready : IsOpen image) (same : (i : ℕ) → 65536 ≤ i → slice_index new i ≡ slice_index old i)
    (name format : Option Place) (ext_end : ℕ) (ended : Bool) (sound : IsSound new)
    (header : header_of new ≡ with_naming image.header name format ext_end ended) where
  abbrev next : Known
  next = renaming image name format ext_end ended

  size : cluster_size (header_of old).cluster_bits ≡ 65536
  size = let bits = ap (λ (h : Header). h.cluster_bits) is.header ∙ ready.cluster_bits in rw bits refl

  high : (i : ℕ) → cluster_size (header_of old).cluster_bits ≤ i → slice_index new i ≡ slice_index old i
  high i above = same i (omega (arith, above, size))

  table_there : refcount_table new image.header ≡ refcount_table old image.header
  table_there = let T : Header → Type 0 = λ h. refcount_table new h ≡ refcount_table old h in subst T is.header (first_table old new is.sound high)

  count_there : (k : ℕ) → refcount_of new image.header k ≡ refcount_of old image.header k
  count_there = let C : Header → Type 0 = λ h. (k : ℕ) → refcount_of new h k ≡ refcount_of old h k in subst C is.header (first_count old new is.sound high)

  tree_there : active_tree new image.header ≡ active_tree old image.header
  tree_there = let T : Header → Type 0 = λ h. active_tree new h ≡ active_tree old h in subst T is.header (first_tree old new is.sound high)

  pub renaming_image : IsImageOf new next
  unfolding refcount_table refcount_of
  renaming_image =
      let K : Tree → Type 0 = λ t. IsTreeOf (cluster_size_in image) image.tables t in
      record {
        sound = sound;
        header = header;
        tables = subst K (sym tree_there) is.tables;
        refs = counts_stay old new image next refl table_there count_there refl refl is.refs;
      }

  pub renaming_disk : IsOpen next → IsSameDisk old new
  renaming_disk open_next =
      same_disk old new image next (record { old_image = is; new_image = renaming_image; old_open = ready; new_open = open_next; size = refl }) (λ q below. refl)
      (λ q below. λ host i entry inside.
      let own = host_entry _ host entry in
      let held = held_by old image is ready q host below own.0 own.1 in
      let aligned = held.whole in
      let some = held.some in
      same (host + i) (omega (arith, behind_first host aligned some)))
    where
      behind_first : (host : ℕ) → host % 65536 ≡ 0 → host ≢ 0 → 65536 ≤ host
      behind_first host aligned some = elim (cases_eq host 0) [
        | inl none ↦ absurd (some none)
        | inr there ↦ omega (arith, aligned, there)
      ]

-- a header with another name is as open
pub open_renaming : (image : Known) (name format : Option Place) (ext_end : ℕ) (ended : Bool) → IsOpen image
    → IfSome name (LiesWithin 104 (cluster_size_in image)) → IfSome format (LiesWithin 104 (cluster_size_in image)) → 104 ≤ ext_end → (ended ≡ false → is_some name ≡ true)
    → is_header_full (with_naming image.header name format ext_end ended) ≡ false → IsOpen (renaming image name format ext_end ended)
open_renaming image name format ext_end ended ready name_lies format_lies list ends room = record {
  cluster_bits = ready.cluster_bits;
  tables_size = ready.tables_size;
  disk = ready.disk;
  l1 = ready.l1;
  words = ready.words;
  plain = ready.plain;
  l1_place = ready.l1_place;
  l1_size = ready.l1_size;
  hosts = ready.hosts;
  reach = ready.reach;
  refcounts = ready.refcounts;
  first = ready.first;
  name = name_lies;
  format = format_lies;
  list = list;
  ended = ends;
  room = room;
}

-- The file of an image has the header's whole cluster.

run_behind : (n count : ℕ) → ◌≡◌ {A = ℕ} (cond (not (ltb 0 n) && ltb 0 (n + count)) 1 0) 0 → count ≢ 0 → 0 < n
run_behind n count none some = elim (cases_eq n 0) [
  | inl first ↦ absurd (some (grind (arith, nat_tests)))
  | inr there ↦ omega (arith, there)
]

table_test : (a : Bool) (c len offset : ℕ) → ((a || is_misplaced c len offset) ≡ false) → (a ≡ false) × (offset < len)
table_test true c len offset test = absurd (cc)
table_test false c len offset test = (refl, grind (arith, nat_tests))

pub file_long : (file : List ℕ) → IsSound file → 65536 ≤ length file
unfolding bad_refcount_table uses structure_uses
file_long file sound =
    let h : Header = header_of file in
    let c : ℕ = cluster_size h.cluster_bits in
    let bits = (within_limits file (length file) (sound_header file sound)).cluster_bits in
    let size : c ≡ 65536 = rw bits refl in
    let once = (sound_is_consistent file sound).once 0 in
    let none : in_run c 0 h.ref_offset h.ref_clusters ≡ 0 = omega (arith, once) in
    let place = (sound_tables file sound).refcount_table in
    let test = table_test (eqb h.ref_clusters 0) c (length file) h.ref_offset (refused_where-none (eqb h.ref_clusters 0 || is_misplaced c (length file) h.ref_offset) h.ref_offset place) in
    let behind = run_behind (h.ref_offset / c) h.ref_clusters none (eqb-false h.ref_clusters 0 test.0) in
    let Q : ℕ → Type 0 = λ x. 0 < h.ref_offset / x in
    let above = subst Q size behind in
    omega (arith, above, test.1)

-- Bytes that are written within it.
module _ (old : List ℕ) (image : Known) (is : IsImageOf old image) (ready : IsOpen image) (at : ℕ) (xs : List ℕ) (within : at + length xs ≤ 65536) where
  abbrev new : List ℕ
  new = with_bytes old at xs

  pub written_outside : (i : ℕ) → (i < at) ⊎ (at + length xs ≤ i) → slice_index new i ≡ slice_index old i
  written_outside i apart = get_or-with_bytes_outside old at xs i apart

  pub written_length : length new ≡ length old
  written_length = length-with_bytes_within old at xs (omega (arith, within, file_long old is.sound))

  pub written_high : (i : ℕ) → 65536 ≤ i → slice_index new i ≡ slice_index old i
  written_high i above = written_outside i (inr (omega (arith, above, within)))

  same_text : (name : Option Place) → IsBeside at (at + length xs) name → text_at new name ≡ text_at old name
  same_text None beside = refl
  same_text (Some name) beside = ap (λ (text : List ℕ). Some text) (bytes_at-alike old new name.at name.len (record {
    same = λ i low below. written_outside i (elim beside [ inl ends ↦ inr (omega (arith, ends, low)) | inr begins ↦ inl (omega (arith, begins, below)) ]);
  }))

-- The image, the disk and the name, behind such a write that leaves the name.

pub record KeepsName (old now : List ℕ) (known : Known) : Type 0 where
  pub image : IsImageOf now known
  pub disk : IsSameDisk old now
  pub name : HasSameName old now

abbrev pub reformatted : Known → Option Place → Known
reformatted image format = record image { header = record image.header { format = format } }

module _ (old : List ℕ) (image : Known) (is : IsImageOf old image) (ready : IsOpen image) (at : ℕ) (xs : List ℕ) (within : at + length xs ≤ 65536)
    (beside : IsBeside at (at + length xs) image.header.name) (format : Option Place) (open_next : IsOpen (reformatted image format))
    (stays : StaysSound (with_bytes old at xs) (record (header_of old) { format = format })) where
  abbrev now : List ℕ
  now = with_bytes old at xs

  next_header : header_of now ≡ record image.header { format = format }
  next_header = stays.header ∙ ap (λ (h : Header). record h { format = format }) is.header

  name_stays : (header_of now).name ≡ (header_of old).name
  name_stays = ap (λ (h : Header). h.name) stays.header

  pub keeps_name : KeepsName old now (reformatted image format)
  keeps_name =
      let h : Header = image.header in
      let old_name = ap (λ (x : Header). x.name) is.header in
      let P : Option Place → Type 0 = IsBeside at (at + length xs) in
      let text = same_text old image is ready at xs within (header_of old).name (subst P (sym old_name) beside) in
      record {
        image = renaming_image old now image is ready (written_high old image is ready at xs within) h.name format h.ext_end h.ended stays.sound next_header;
        disk = renaming_disk old now image is ready (written_high old image is ready at xs within) h.name format h.ext_end h.ended stays.sound next_header open_next;
        name = record { place = name_stays; text = ap (text_at now) name_stays ∙ text };
      }

pub kept : (file : List ℕ) (image : Known) → IsImageOf file image → KeepsName file file image
kept file image is = record { image = is; disk = same_disk_as file; name = record { place = refl; text = refl } }

pub keeps_then : (old mid new : List ℕ) (before after : Known) → KeepsName old mid before → KeepsName mid new after → KeepsName old new after
keeps_then old mid new before after first later = record {
  image = later.image;
  disk = disk_then old mid new 0 [] first.disk later.disk;
  name = record { place = later.name.place ∙ first.name.place; text = later.name.text ∙ first.name.text };
}
