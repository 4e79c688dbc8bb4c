-- A link, whatever it answers, as its callers see it.
use Rattle.std.proofs.Common.{◌≡◌, ◌≢◌, ℕ, ◌+◌, ◌*◌, ◌/◌, ◌%◌, ◌<◌, ◌≤◌, ◌⊎◌, inl, inr, max, Bool, true, false, not, ◌&&◌, cond, eqb, List, length, get_or, Option, Some, Result, Ok, Err, OnOk, OnErr, is_ok, refl, sym, ap, subst, ◌∙◌, arith, eq-eqb}
use Rattle.std.proofs.lemmas.Bool.{cases_eq, ne_eqb, eqb-true}
use Rattle.std.specs.Prelude.{IfErr}
use Rattle.blk_base.specs.Device.{Writes, stop_of}
use Rattle.blk_base.proofs.DeviceLemmas.{beyond-within}
use Rattle.blk_base.specs.declared.device.Device.{Ghosts}
use Rattle.blk_base.specs.declared.fault.DevStop.{DevStop}
use Rattle.blk_base.specs.declared.fault.DevStop.TheVariants.{Io, NoSpace}
use Rattle.q2_tables.proofs.LinkWrites.{end-link_writes}
use Rattle.q2_format.specs.Bytes.{ReadsAlike}
use Rattle.q2_format.specs.Contents.{byte_by_entry}
use Rattle.q2_format.specs.Entry.{l2_entry, l2_spelling, host_of, host_offset, is_compressed, has_reserved_in_l2, reads_as_zeros, IsWritable}
use Rattle.q2_format.specs.References.{own_offset}
use Rattle.q2_format.specs.Sizes.{entries_in_cluster}
use Rattle.q2_format.specs.Tables.{tree_at}
use Rattle.q2_format.specs.declared.entries.L2Entry.{L2Entry}
use Rattle.q2_format.specs.declared.entries.L2Entry.TheVariants.{Unallocated, Zero, Host, Compressed, Reserved}
use Rattle.q2_format.proofs.ByPlace.{get_or-bytes_at}
use Rattle.q2_format.proofs.Words.{entry_of_spelling}
use Rattle.q2_tables.specs.Kept.{IsTreeOf, is_plain}
use Rattle.q2_tables.specs.Kept as tables
use Rattle.q2_tables.specs.Linking.{CanLink, FileAfter, entry_at, l1_index, link_end, link_writes, table_len, with_entry}
use Rattle.std.proofs.lemmas.List.{get_or-set_same, get_or-set_other}
use Rattle.q2_image.specs.Image.{Known, IsImageOf, IsOpen, cluster_size_in, entry_in}
use Rattle.q2_image.specs.Writing.{IsDiskWith, TellsFault, IsSameDisk, HasEntriesBut, IsSpelled, counts_once, IsSpare, MayName, Shows}
use Rattle.q2_image.proofs.EntryFrames.{counts_stay}
use Rattle.q2_image.proofs.EntryWrites.{entry_place, short}
use Rattle.q2_image.proofs.HostUses.{host_entry, zero_entry, size_in}
use Rattle.q2_image.proofs.LinkedImage.{open_linked}
use Rattle.q2_image.proofs.LinkedDisk.{image_stopped, disk_stopped, image_linked, disk_linked, host_same}

-- The word that a link writes.

none_by_bits : (o : ℕ) (a b z n : Bool) → cond a Compressed (cond b Reserved (cond z (Zero o) (cond n Unallocated (Host o)))) ≡ Unallocated → (a ≡ false) × (n ≡ true)
none_by_bits o true b z n is = absurd (cc)
none_by_bits o false true z n is = absurd (cc)
none_by_bits o false false true n is = absurd (cc)
none_by_bits o false false false true is = (refl, refl)
none_by_bits o false false false false is = absurd (cc)

none_entry : (word : ℕ) → l2_entry word ≡ Unallocated → own_offset word ≡ 0
unfolding l2_entry
none_entry word is =
    let parts = none_by_bits (host_offset word) (is_compressed word) (has_reserved_in_l2 word) (reads_as_zeros word) (eqb (host_offset word) 0) is in
    let plain = parts.0 in
    rw plain (eqb-true (host_offset word) 0 parts.1)

own_of : (word : ℕ) (e : L2Entry) → l2_entry word ≡ e → IsWritable e → own_offset word ≡ host_of e
own_of word Unallocated is can = none_entry word is
own_of word (Zero host) is can = zero_entry word host is
own_of word (Host host) is can = (host_entry word host is).0
own_of word Compressed is can = absurd can
own_of word Reserved is can = absurd can

own_by_bits : (o : ℕ) (a b z n : Bool) → (not a && not b) ≡ true → (n ≡ true → o ≡ 0)
    → cond a 0 o ≡ host_of (cond a Compressed (cond b Reserved (cond z (Zero o) (cond n Unallocated (Host o)))))
own_by_bits o true b z n plain none = absurd (cc)
own_by_bits o false true z n plain none = absurd (cc)
own_by_bits o false false true n plain none = refl
own_by_bits o false false false true plain none = none refl
own_by_bits o false false false false plain none = refl

-- the host offset of an entry in order
pub own_of_plain : (word : ℕ) → is_plain word ≡ true → own_offset word ≡ host_of (l2_entry word)
unfolding l2_entry
own_of_plain word plain = own_by_bits (host_offset word) (is_compressed word) (has_reserved_in_l2 word) (reads_as_zeros word) (eqb (host_offset word) 0) plain (eqb-true (host_offset word) 0)

plain_by_bits : (o : ℕ) (e : L2Entry) (a b z n : Bool) → cond a Compressed (cond b Reserved (cond z (Zero o) (cond n Unallocated (Host o)))) ≡ e → IsWritable e → (not a && not b) ≡ true
plain_by_bits o e true b z n is can = absurd (subst IsWritable (sym is) can)
plain_by_bits o e false true z n is can = absurd (subst IsWritable (sym is) can)
plain_by_bits o e false false z n is can = refl

plain_of : (word : ℕ) (e : L2Entry) → l2_entry word ≡ e → IsWritable e → is_plain word ≡ true
unfolding l2_entry
plain_of word e is can = plain_by_bits (host_offset word) e (is_compressed word) (has_reserved_in_l2 word) (reads_as_zeros word) (eqb (host_offset word) 0) is can

-- The rows.

row_below : (image : Known) (cluster : ℕ) → IsOpen image → cluster < length image.tables.words → l1_index image.tables cluster < length image.tables.l1
row_below image cluster ready below =
    let size = size_in image ready in
    let same = ready.tables_size ∙ size in
    let e : entries_in_cluster image.tables.c ≡ 8192 = rw same refl in
    let all : length image.tables.words ≡ length image.tables.l1 * 8192 = ready.words ∙ ap (λ (n : ℕ). length image.tables.l1 * entries_in_cluster n) size in
    rw e (omega (arith, all, below))

pub tree_by_kept : (file : List ℕ) (image : Known) → IsImageOf file image → IsOpen image
    → IsTreeOf image.tables.c image.tables (tree_at file image.tables.c image.tables.l1_offset (length image.tables.l1))
tree_by_kept file image is ready =
    let P : ℕ → ℕ → ℕ → Type 0 = λ n at count. IsTreeOf n image.tables (tree_at file n at count) in
    let one : P (cluster_size_in image) image.header.l1_offset (length image.tables.l1) = subst (λ (count : ℕ). P (cluster_size_in image) image.header.l1_offset count) (sym ready.l1_size) is.tables in
    let two : P (cluster_size_in image) image.tables.l1_offset (length image.tables.l1) = subst (λ (at : ℕ). P (cluster_size_in image) at (length image.tables.l1)) (sym ready.l1_place) one in
    subst (λ (n : ℕ). P n image.tables.l1_offset (length image.tables.l1)) (sym ready.tables_size) two

-- What is known behind a link.
module _ (image : Known) (cluster table single_word : ℕ) (entry : L2Entry) (single : Bool) (ready : IsOpen image) (below : cluster < length image.tables.words) (can : CanLink image.tables cluster table)
    (writable : IsWritable entry) (is_word : single_word ≡ l2_spelling entry single) (reached : host_of entry < length image.refs.counts * cluster_size_in image) where
  is_entry : l2_entry single_word ≡ entry
  is_entry = ap l2_entry is_word ∙ entry_of_spelling entry single writable

  own : own_offset single_word ≡ host_of entry
  own = own_of single_word entry is_entry writable

  plain : is_plain single_word ≡ true
  plain = plain_of single_word entry is_entry writable

  pub open_after : (next : tables.KeptTables) (result : Result (Unit {0}) DevStop) → OnOk result (next ≡ with_entry image.tables cluster single_word table) → OnErr result (next ≡ image.tables)
      → IsOpen (record image { tables = next })
  open_after next (Ok t) linked kept =
      let P : tables.KeptTables → Type 0 = λ k. IsOpen (record image { tables = k }) in
      subst P (sym linked) (open_linked image cluster table single_word (host_of entry) ready below can (row_below image cluster ready below) own plain reached)
  open_after next (Err stop) linked kept = let P : tables.KeptTables → Type 0 = λ k. IsOpen (record image { tables = k }) in subst P (sym kept) ready

  pub entry_after : (next : tables.KeptTables) (result : Result (Unit {0}) DevStop) → OnOk result (next ≡ with_entry image.tables cluster single_word table) → OnOk result (entry_in (record image { tables = next }) cluster ≡ entry)
  entry_after next (Ok t) linked =
      let P : tables.KeptTables → Type 0 = λ k. entry_in (record image { tables = k }) cluster ≡ entry in
      subst P (sym linked) (ap l2_entry (get_or-set_same image.tables.words cluster single_word 0 below) ∙ is_entry)
  entry_after next (Err stop) linked = tt

  pub spelled_after : (next : tables.KeptTables) (result : Result (Unit {0}) DevStop) → single ≡ counts_once image (host_of entry)
      → OnOk result (next ≡ with_entry image.tables cluster single_word table) → OnOk result (IsSpelled (record image { tables = next }) cluster)
  spelled_after next (Ok t) counted linked =
      let P : tables.KeptTables → Type 0 = λ k. IsSpelled (record image { tables = k }) cluster in
      let word = get_or-set_same image.tables.words cluster single_word 0 below in
      let same = ap l2_entry word ∙ is_entry in
      subst P (sym linked) (word ∙ is_word ∙ ap (l2_spelling entry) counted ∙ ap (λ (e : L2Entry). l2_spelling e (counts_once image (host_of e))) (sym same))
  spelled_after next (Err stop) counted linked = tt

  pub others_after : (next : tables.KeptTables) (result : Result (Unit {0}) DevStop) → OnOk result (next ≡ with_entry image.tables cluster single_word table) → OnErr result (next ≡ image.tables)
      → HasEntriesBut image (record image { tables = next }) cluster
  others_after next (Ok t) linked kept =
      let P : tables.KeptTables → Type 0 = λ k. HasEntriesBut image (record image { tables = k }) cluster in
      subst P (sym linked) (λ q other. get_or-set_other image.tables.words cluster q single_word 0 other)
  others_after next (Err stop) linked kept =
      let P : tables.KeptTables → Type 0 = λ k. HasEntriesBut image (record image { tables = k }) cluster in
      subst P (sym kept) (λ q other. refl)

  -- The file.
  module _ (old new : List ℕ) (is : IsImageOf old image) (spare : table ≢ 0 → IsSpare old (table / 65536)) (whole : table % 65536 ≡ 0) (near : table + 65536 ≤ 549755813888)
      (may : MayName 65536 old image cluster table (host_of entry)) (grows : length old ≤ length new) (bound : length new ≤ max (length old) (link_end image.tables cluster table)) where
    len_cases : table_len image.tables table ≤ 65536
    len_cases = elim (cases_eq table 0) [
      | inl none ↦ let test = eq-eqb table 0 none in rw test (omega arith)
      | inr some ↦ let test = ne_eqb table 0 some in let c = ready.tables_size ∙ size_in image ready in rw test (omega (arith, c))
    ]

    small : length new ≤ 549755813888
    small =
        let place = entry_place old image is ready cluster table below can in
        let len = len_cases in
        let short_old = short old image is ready in
        omega (arith, place.near, len, near, short_old, bound)

    -- what a link tells of the new file itself
    record Behind (kept : tables.KeptTables) (n : ℕ) : Type 0 where
      tree : IsTreeOf kept.c kept (tree_at new kept.c kept.l1_offset (length kept.l1))
      outside : (i : ℕ) → (i < entry_at image.tables cluster table) ⊎ (entry_at image.tables cluster table + n ≤ i)
          → (i < table) ⊎ (table + table_len image.tables table ≤ i) → get_or new i 0 ≡ get_or old i 0

    behind : (kept : tables.KeptTables) (n : ℕ) (told : Option (List ℕ)) → told ≡ Some new
        → (after : FileAfter kept old told (entry_at image.tables cluster table) n table (table_len image.tables table)) → Behind kept n
    behind kept n told is_new after =
        let same : after.file ≡ new = let e : Some after.file ≡ Some new = sym after.is ∙ is_new in cc in
        record {
          tree = let P : List ℕ → Type 0 = λ f. IsTreeOf kept.c kept (tree_at f kept.c kept.l1_offset (length kept.l1)) in subst P same after.tree;
          outside = λ i side table_side. let P : List ℕ → Type 0 = λ f. get_or f i 0 ≡ get_or old i 0 in subst P same (after.outside i side table_side);
        }

    wider : (kept : tables.KeptTables) → Behind kept 0 → (i : ℕ) → (i < entry_at image.tables cluster table) ⊎ (entry_at image.tables cluster table + 8 ≤ i)
        → (i < table) ⊎ (table + table_len image.tables table ≤ i) → get_or new i 0 ≡ get_or old i 0
    wider kept b i (inl before) table_side = b.outside i (inl before) table_side
    wider kept b i (inr past) table_side = b.outside i (inr (omega arith)) table_side

    stopped_image : Behind image.tables 0 → IsImageOf new image
    stopped_image b = image_stopped old new image cluster table is ready below can spare whole (wider image.tables b) grows small b.tree

    stopped_disk : Behind image.tables 0 → IsSameDisk old new
    stopped_disk b = disk_stopped old new image cluster table is ready below can spare whole (wider image.tables b) grows small b.tree

    module _ (b : Behind (with_entry image.tables cluster single_word table) 8) (long : table + table_len image.tables table ≤ length new) where
      inside_new : table ≢ 0 → table < length new
      inside_new some =
          let test = ne_eqb table 0 some in
          let c = ready.tables_size ∙ size_in image ready in
          let len : table_len image.tables table ≡ 65536 = rw test c in
          omega (arith, long, len)

      linked_image : IsImageOf new (record image { tables = with_entry image.tables cluster single_word table })
      linked_image = image_linked old new image cluster table is ready below can spare whole b.outside grows small single_word (host_of entry) entry is_entry own plain reached may inside_new b.tree

      -- the bytes that the entry shows
      shown : (e : L2Entry) (bytes : List ℕ) → e ≡ entry → Shows 65536 old e bytes → (backing : List ℕ) (i : ℕ) → i < 65536
          → byte_by_entry new 65536 backing (cluster * 65536 + i) e ≡ get_or bytes i 0
      shown Unallocated bytes same shows backing i inside = absurd shows
      shown (Zero host) bytes same shows backing i inside = sym (shows i)
      shown (Host host) bytes same shows backing i inside =
          let place : host + (cluster * 65536 + i) % 65536 ≡ host + i = omega (arith, inside) in
          let named : host_of entry ≡ host = ap host_of (sym same) in
          let can_be : IsWritable (Host host) = subst IsWritable (sym same) writable in
          let stays = host_same old new image cluster table is ready below can spare whole b.outside grows small single_word (host_of entry) entry is_entry own plain reached may inside_new b.tree i inside (λ none. let some = can_be.1 in omega (arith, named, none, some)) in
          ap (λ (n : ℕ). get_or new n 0) place ∙ ap (λ (n : ℕ). get_or new (n + i) 0) (sym named) ∙ stays ∙ ap (λ (n : ℕ). get_or old (n + i) 0) named
          ∙ sym (get_or-bytes_at old host 65536 i inside) ∙ ap (λ (xs : List ℕ). get_or xs i 0) shows
      shown Compressed bytes same shows backing i inside = absurd shows
      shown Reserved bytes same shows backing i inside = absurd shows

      linked_disk : (bytes : List ℕ) → length bytes ≡ 65536 → Shows 65536 old entry bytes → IsDiskWith old new (cluster * 65536) bytes
      linked_disk bytes len shows =
          disk_linked old new image cluster table is ready below can spare whole b.outside grows small single_word (host_of entry) entry is_entry own plain reached may inside_new b.tree
          bytes len (shown entry bytes refl shows)

    -- the header's cluster, whose bytes are as before
    pub first_kept : FileAfter image.tables old (Some new) (entry_at image.tables cluster table) 0 table (table_len image.tables table) → ReadsAlike old new 0 65536
    first_kept after =
        (counts_stay old new image cluster table is ready below can spare whole (wider image.tables (behind image.tables 0 (Some new) refl after)) grows small).first

    pub first_linked : FileAfter (with_entry image.tables cluster single_word table) old (Some new) (entry_at image.tables cluster table) 8 table (table_len image.tables table)
        → ReadsAlike old new 0 65536
    first_linked after =
        let b = behind (with_entry image.tables cluster single_word table) 8 (Some new) refl after in
        (counts_stay old new image cluster table is ready below can spare whole b.outside grows small).first

    -- by the answer
    module _ (next : tables.KeptTables) (told : Option (List ℕ)) (is_new : told ≡ Some new) where
      pub image_after : (result : Result (Unit {0}) DevStop) → OnOk result (next ≡ with_entry image.tables cluster single_word table) → OnErr result (next ≡ image.tables)
          → FileAfter next old told (entry_at image.tables cluster table) (cond (is_ok result) 8 0) table (table_len image.tables table)
          → OnOk result (table + table_len image.tables table ≤ length new) → IsImageOf new (record image { tables = next })
      image_after (Ok t) linked kept after long =
          let P : tables.KeptTables → Type 0 = λ k. FileAfter k old told (entry_at image.tables cluster table) 8 table (table_len image.tables table) in
          let Q : tables.KeptTables → Type 0 = λ k. IsImageOf new (record image { tables = k }) in
          subst Q (sym linked) (linked_image (behind (with_entry image.tables cluster single_word table) 8 told is_new (subst P linked after)) long)
      image_after (Err stop) linked kept after long =
          let P : tables.KeptTables → Type 0 = λ k. FileAfter k old told (entry_at image.tables cluster table) 0 table (table_len image.tables table) in
          let Q : tables.KeptTables → Type 0 = λ k. IsImageOf new (record image { tables = k }) in
          subst Q (sym kept) (stopped_image (behind image.tables 0 told is_new (subst P kept after)))

      pub disk_after : (t : Unit {0}) → next ≡ with_entry image.tables cluster single_word table
          → FileAfter next old told (entry_at image.tables cluster table) 8 table (table_len image.tables table)
          → table + table_len image.tables table ≤ length new → (bytes : List ℕ) → length bytes ≡ 65536 → Shows 65536 old entry bytes → IsDiskWith old new (cluster * 65536) bytes
      disk_after t linked after long bytes len shows =
          let P : tables.KeptTables → Type 0 = λ k. FileAfter k old told (entry_at image.tables cluster table) 8 table (table_len image.tables table) in
          linked_disk (behind (with_entry image.tables cluster single_word table) 8 told is_new (subst P linked after)) long bytes len shows

      pub disk_kept : (stop : DevStop) → next ≡ image.tables → FileAfter next old told (entry_at image.tables cluster table) 0 table (table_len image.tables table) → IsSameDisk old new
      disk_kept stop kept after =
          let P : tables.KeptTables → Type 0 = λ k. FileAfter k old told (entry_at image.tables cluster table) 0 table (table_len image.tables table) in
          stopped_disk (behind image.tables 0 told is_new (subst P kept after))

-- a stop of a link, where all that it writes has room
pub link_fault : {D : Type 0} (g : Ghosts D) (kept : tables.KeptTables) (cluster word table : ℕ) (r : Result (Unit {0}) DevStop) (a b : D) → link_end kept cluster table ≤ g.capacity a
    → Writes g (link_writes kept cluster word table) (stop_of r) a b → IfErr r TellsFault
link_fault g kept cluster word table (Ok done) a b fits writes = tt
link_fault g kept cluster word table (Err (Io count)) a b fits writes = tt
link_fault g kept cluster word table (Err NoSpace) a b fits writes =
    let beyond = beyond-within g (link_writes kept cluster word table) writes.made (g.capacity a) writes.cause.0 in
    absurd (omega (arith, fits, beyond, end-link_writes kept cluster word table))
