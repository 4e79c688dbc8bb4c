-- What writes that create an image leave of what a device tells.
use Rattle.std.proofs.Common.{◌≡◌, ◌⊎◌, ℕ, ◌+◌, ◌-◌, ◌<◌, ◌≤◌, inl, inr, List, [], ◌∷◌, length, slice_index, Option, None, Some, Result, Ok, Err, OnErr, is_some, option_map, refl, sym, ap, ◌∙◌, arith}
use Rattle.std.proofs.lemmas.Bool.{cases_lt, le-ltb}
use Rattle.blk_base.specs.Content.{with_bytes, size_with}
use Rattle.blk_base.proofs.Contents.{get_or-with_bytes_inside, get_or-with_bytes_outside, length-with_bytes}
use Rattle.q2_format.specs.Bytes.{ReadsAlike, Holds}
use Rattle.q2_format.specs.Created.{creation_of, created_header, CanBeCreated, HasCreatedName, HasCreatedExtensions, HasCreatedTable, HasCreatedCounts, HasCreatedTables, IsCreated}
use Rattle.q2_format.specs.Header.{header_of, header_refusal, format_refusal}
use Rattle.q2_format.specs.Sizes.{cluster_size, clusters_for}
use Rattle.q2_format.specs.Sound.{image_refusal, IsSound, InHeader}
use Rattle.q2_format.specs.declared.header.HeaderStop.TheVariants.{Magic}
use Rattle.q2_format.proofs.ByPlace.{number_at-zeros}
use Rattle.q2_format.proofs.CreatedSound.{created_is_sound}
use Rattle.q2_format.proofs.ReadBack.{header_read}
use Rattle.q2_format.proofs.Creating.{l1_table_behind, block_behind, length_created}
use Rattle.q2_format.proofs.Placed.{table_held, table_alike, counts_held, counts_alike, zeros_held}
use Rattle.q2_image.specs.Creating.{ChangesWithin, LacksHeader, text_at}

pub on_err : {T E P : Type 0} (r : Result T E) → P → OnErr r P
on_err (Ok value) holds = tt
on_err (Err error) holds = holds

-- One write.

grown : (size at : ℕ) (bytes : List ℕ) → size ≤ size_with size at bytes
grown size at [] = omega arith
grown size at (byte ∷ bytes) = omega arith

reached : (size at : ℕ) (bytes : List ℕ) → 0 < length bytes → at + length bytes ≤ size_with size at bytes
reached size at [] some = absurd (omega arith)
reached size at (byte ∷ bytes) some = omega arith

pub held_after : (old new : Option (List ℕ)) (file : List ℕ) (at : ℕ) (bytes : List ℕ) → 0 < length bytes → new ≡ option_map (λ b. with_bytes b at bytes) old → new ≡ Some file
    → Holds file at bytes
held_after None new file at bytes some is told = absurd (cc)
held_after (Some before) new file at bytes some is told =
    let after : file ≡ with_bytes before at bytes = cc in
    rw after (record {
      each = λ i below. get_or-with_bytes_inside before at bytes i below;
      ends = rw length-with_bytes (reached (length before) at bytes some);
    })

beside : (i at n to : ℕ) → at + n ≤ to → (i < at) ⊎ (to ≤ i) → (i < at) ⊎ (at + n ≤ i)
beside i at n to ends (inl low) = inl low
beside i at n to ends (inr high) = inr (omega arith)

some-change : (old : Option (List ℕ)) (change : List ℕ → List ℕ) → is_some (option_map change old) ≡ is_some old
some-change None change = refl
some-change (Some b) change = refl

pub write_changes : (old new : Option (List ℕ)) (at to : ℕ) (bytes : List ℕ) → at + length bytes ≤ to → new ≡ option_map (λ b. with_bytes b at bytes) old
    → ChangesWithin old new at to
write_changes old new at to bytes ends is = record {
  told = ap is_some is ∙ some-change old (λ b. with_bytes b at bytes);
  outside = λ before after was now i side.
      let then : after ≡ with_bytes before at bytes = written old new at bytes before after is was now in
      rw then (get_or-with_bytes_outside before at bytes i (beside i at (length bytes) to ends side));
  grows = λ before after was now.
      let then : after ≡ with_bytes before at bytes = written old new at bytes before after is was now in
      rw (then, length-with_bytes) (grown (length before) at bytes);
}
  where
    written : (old new : Option (List ℕ)) (at : ℕ) (bytes before after : List ℕ) → new ≡ option_map (λ b. with_bytes b at bytes) old → old ≡ Some before → new ≡ Some after
        → after ≡ with_bytes before at bytes
    written None new at bytes before after is was now = absurd (cc)
    written (Some b) new at bytes before after is was now = cc

-- Several writes.

pub changes_more : (old new : Option (List ℕ)) (from to low high : ℕ) → low ≤ from → to ≤ high → ChangesWithin old new from to → ChangesWithin old new low high
changes_more old new from to low high lower higher changes = record {
  told = changes.told;
  outside = λ before after was now i side. changes.outside before after was now i (elim side [ inl below ↦ inl (omega arith) | inr above ↦ inr (omega arith) ]);
  grows = changes.grows;
}

changes_then : (a b z : Option (List ℕ)) (from to : ℕ) → ChangesWithin a b from to → ChangesWithin b z from to → ChangesWithin a z from to
changes_then a None z from to first second = record {
  told = second.told ∙ first.told;
  outside = λ before after was now i side. let none = second.told in absurd (cc);
  grows = λ before after was now. let none = second.told in absurd (cc);
}
changes_then a (Some b) z from to first second = record {
  told = second.told ∙ first.told;
  outside = λ before after was now i side. second.outside b after refl now i side ∙ first.outside before b was refl i side;
  grows = λ before after was now. let one = first.grows before b was refl in let two = second.grows b after refl now in omega arith;
}

pub changes_both : (a b z : Option (List ℕ)) (from1 to1 from2 to2 from to : ℕ) → ChangesWithin a b from1 to1 → ChangesWithin b z from2 to2
    → from ≤ from1 → to1 ≤ to → from ≤ from2 → to2 ≤ to → ChangesWithin a z from to
changes_both a b z from1 to1 from2 to2 from to first second low1 high1 low2 high2 =
    changes_then a b z from to (changes_more a b from1 to1 from to low1 high1 first) (changes_more b z from2 to2 from to low2 high2 second)

-- what was told before
pub told_before : (old new : Option (List ℕ)) (from to : ℕ) (file : List ℕ) → ChangesWithin old new from to → new ≡ Some file → (before : List ℕ) × (old ≡ Some before)
told_before None new from to file changes now = let none = changes.told in absurd (cc)
told_before (Some before) new from to file changes now = (before, refl)

-- The tables, in the order of their writes: the L1 table, the block, the refcount table.
pub tables_made : (t1 t2 t3 : Option (List ℕ)) (zeros block table file : List ℕ) (size : ℕ) (name format : Option (List ℕ)) → size ≤ 274877906944
    → length zeros ≡ 65536 → length block ≡ 65536 → length table ≡ 65536
    → ((i : ℕ) → slice_index zeros i ≡ 0) → HasCreatedCounts (creation_of size name format) block 0 → HasCreatedTable (creation_of size name format) table 0
    → ((f : List ℕ) → t1 ≡ Some f → Holds f 196608 zeros) → ((f : List ℕ) → t2 ≡ Some f → Holds f 131072 block) → ((f : List ℕ) → t3 ≡ Some f → Holds f 65536 table)
    → ChangesWithin t1 t2 131072 196608 → ChangesWithin t2 t3 65536 131072 → t3 ≡ Some file
    → HasCreatedTables (creation_of size name format) file
tables_made t1 t2 t3 zeros block table file size name format small len_zeros len_block len_table are_zeros counts entries hold1 hold2 hold3 change2 change3 now =
    let b = told_before t2 t3 65536 131072 file change3 now in
    let a = told_before t1 t2 131072 196608 b.0 change2 b.1 in
    let first = hold1 a.0 a.1 in
    let second = hold2 b.0 b.1 in
    let grown2 = change2.grows a.0 b.0 a.1 b.1 in
    let grown3 = change3.grows b.0 file b.1 now in
    let long : 262144 ≤ length a.0 = omega (arith, first.ends, len_zeros) in
    let end = length_created size name format small in
    let l1 = l1_table_behind size name format small in
    let place = block_behind size name format small in
    let zeros_there = zeros_held a.0 zeros 196608 262144 (omega arith) first are_zeros in
    record {
      whole = omega arith;
      refcount_table = table_held size name format file table 65536 small len_table (hold3 file now) entries;
      refcounts = rw place (counts_alike size name format b.0 file 131072 (record { same = λ i low high. change3.outside b.0 file b.1 now i (inr low) })
          (counts_held size name format b.0 block 131072 len_block second counts));
      l1_table = λ i low high.
          change3.outside b.0 file b.1 now i (inr (omega arith)) ∙ change2.outside a.0 b.0 a.1 b.1 i (inr (omega arith)) ∙ zeros_there i (omega arith) (omega arith);
    }

-- The header's cluster, its first sector written last.
pub cluster_put : (t1 t2 : Option (List ℕ)) (cluster sector rest file : List ℕ) → length sector ≡ 512 → length rest ≡ 65024
    → ((i : ℕ) → i < 512 → slice_index sector i ≡ slice_index cluster i) → ((i : ℕ) → slice_index rest i ≡ slice_index cluster (512 + i))
    → ((f : List ℕ) → t1 ≡ Some f → Holds f 512 rest) → ((f : List ℕ) → t2 ≡ Some f → Holds f 0 sector) → ChangesWithin t1 t2 0 512 → t2 ≡ Some file
    → ReadsAlike cluster file 0 65536
cluster_put t1 t2 cluster sector rest file len_sector len_rest is_sector is_rest hold1 hold2 change now =
    let a = told_before t1 t2 0 512 file change now in
    record {
      same = λ i low high. elim (cases_lt i 512) [
        | inl inside ↦
            let here : 0 + i ≡ i = omega arith in
            ap (λ (p : ℕ). slice_index file p) (sym here) ∙ (hold2 file now).each i (omega arith) ∙ is_sector i inside
        | inr behind ↦
            let there : 512 + (i - 512) ≡ i = omega arith in
            change.outside a.0 file a.1 now i (inr behind) ∙ ap (λ (p : ℕ). slice_index a.0 p) (sym there) ∙ (hold1 a.0 a.1).each (i - 512) (omega arith)
            ∙ is_rest (i - 512) ∙ ap (λ (p : ℕ). slice_index cluster p) there
      ];
    }

-- What is written behind the first sector leaves it as it is.
pub headless_stays : (t1 t2 : Option (List ℕ)) (from to : ℕ) → 512 ≤ from → ((f : List ℕ) → t1 ≡ Some f → LacksHeader f) → ChangesWithin t1 t2 from to
    → (f : List ℕ) → t2 ≡ Some f → LacksHeader f
headless_stays t1 t2 from to behind lacks change f now =
    let a = told_before t1 t2 from to f change now in
    let before = lacks a.0 a.1 in
    let grown = change.grows a.0 f a.1 now in
    record {
      sector = λ i low high. change.outside a.0 f a.1 now i (inl (omega arith)) ∙ before.sector i low high;
      whole = omega (arith, before.whole, grown);
    }

-- What is written to the header's cluster leaves the tables as they are.
pub tables_stay : (t1 t2 : Option (List ℕ)) (size : ℕ) (name format : Option (List ℕ)) (file : List ℕ) → size ≤ 274877906944
    → ((f : List ℕ) → t1 ≡ Some f → HasCreatedTables (creation_of size name format) f) → ChangesWithin t1 t2 0 65536 → t2 ≡ Some file
    → HasCreatedTables (creation_of size name format) file
tables_stay t1 t2 size name format file small tables change now =
    let a = told_before t1 t2 0 65536 file change now in
    let before = tables a.0 a.1 in
    let grown = change.grows a.0 file a.1 now in
    let l1 = l1_table_behind size name format small in
    let place = block_behind size name format small in
    let counts : HasCreatedCounts (creation_of size name format) a.0 131072 = rw place at before.refcounts in
    record {
      whole = omega (arith, before.whole, grown);
      refcount_table = table_alike size name format a.0 file 65536 small (record { same = λ i low high. change.outside a.0 file a.1 now i (inr low) }) before.refcount_table;
      refcounts = rw place (counts_alike size name format a.0 file 131072 (record { same = λ i low high. change.outside a.0 file a.1 now i (inr (omega arith)) }) counts);
      l1_table = λ i low high. change.outside a.0 file a.1 now i (inr (omega (arith, l1))) ∙ before.l1_table i low high;
    }

-- A file whose first sector is zeros is refused.
pub headless_refused : (file : List ℕ) → LacksHeader file → image_refusal file ≡ Some (InHeader Magic)
unfolding image_refusal header_refusal format_refusal
headless_refused file lacks =
    let magic = number_at-zeros file 0 4 (λ i low high. lacks.sector i low (omega arith)) in
    let whole = le-ltb (length file) 104 (omega (arith, lacks.whole)) in
    rw (whole, magic) refl

-- What a created image says.

name_read : (file : List ℕ) (size : ℕ) (name format : Option (List ℕ)) → HasCreatedName (creation_of size name format) file
    → text_at file (created_header (creation_of size name format)).name ≡ name
name_read file size None format named = refl
name_read file size (Some name) format named = ap Some named.text

format_read : (file : List ℕ) (size : ℕ) (name format : Option (List ℕ)) → HasCreatedExtensions (creation_of size name format) file
    → text_at file (created_header (creation_of size name format)).format ≡ format
format_read file size name None extensions = refl
format_read file size name (Some format) extensions = ap Some extensions.format.text

module _ (file : List ℕ) (size : ℕ) (name format : Option (List ℕ)) (can : CanBeCreated size name format) (created : IsCreated (creation_of size name format) file) where
  pub made_header : header_of file ≡ created_header (creation_of size name format)
  made_header = header_read file size name format created.header can.name_fits can.format_fits

  pub made_texts : (text_at file (header_of file).name ≡ name) × (text_at file (header_of file).format ≡ format)
  made_texts = let header = made_header in rw header (name_read file size name format created.header.name, format_read file size name format created.header.extensions)

  pub made_sound : clusters_for (cluster_size (header_of file).cluster_bits) (length file) ≤ 8388608 → IsSound file
  made_sound short = let header = made_header in let few = rw header at short in created_is_sound file size name format can created few
