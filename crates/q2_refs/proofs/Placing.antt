-- The device's told bytes before and after the writes of an allocation.
use Rattle.std.proofs.Common.{◌≡◌, ◌≢◌, ℕ, ◌+◌, ◌*◌, ◌/◌, ◌%◌, ◌^◌, ◌<◌, ◌≤◌, max, inl, inr, List, [], ◌∷◌, length, take, get_or, slice_index, Option, Some, None, option_map, refl, sym, ap, subst, ◌∙◌, arith}
use Rattle.std.proofs.lemmas.List.{length-take, take_all, get_or_past}
use Rattle.std.proofs.lemmas.Bool.{cases_lt}
use Rattle.std.proofs.lemmas.Grind.{div_ceil_times}
use Rattle.std.proofs.Math.Nat.{mul-le-mul_left}
use Rattle.blk_base.specs.Content.{with_bytes, size_with}
use Rattle.blk_base.proofs.Contents.{get_or-with_bytes_inside, get_or-with_bytes_outside, length-with_bytes}
use Rattle.byteorder.specs.Endian.{big_bytes}
use Rattle.byteorder.specs.Numbers.{length-bytes_high_first}
use Rattle.q2_format.specs.Bytes.{number_at, IsWritten}
use Rattle.q2_format.specs.Entry.{block_offset}
use Rattle.q2_format.specs.Header.{header_of}
use Rattle.q2_format.specs.References.{uses}
use Rattle.q2_format.specs.Sizes.{cluster_size}
use Rattle.q2_format.specs.Tables.{refcount_table, refcount_of}
use Rattle.q2_format.specs.declared.header.Header.{Header}
use Rattle.q2_format.proofs.ByPlace.{big_from-moved}
use Rattle.q2_format.proofs.Consistent.{sound_is_consistent, sound_header, sound_tables}
use Rattle.q2_format.proofs.Limits.{within_limits}
use Rattle.q2_refs.specs.Allocating.{IsInStep, KeepsCounted, with_one, with_block, place_of_block, count_place}
use Rattle.q2_refs.specs.Kept.{KeptRefs, per_block}
use Rattle.q2_refs.specs.Loading.{HasShape}
use Rattle.q2_refs.proofs.Ranges.{in_block, block_at, refcount_of-absent}
use Rattle.q2_refs.proofs.Uses.{unused_apart}
use Rattle.q2_refs.proofs.Writes.{IsWithin, table_placed, block_placed, whole_of, below_of}
use Rattle.q2_refs.proofs.Steps.{sound_shape, cluster_is, block_is, unused_keeps, unused_in_step}
use Rattle.q2_refs.proofs.BlockStep.{IsNewBlock, block_keeps, block_in_step}
use Rattle.q2_refs.proofs.CountStep.{count_at, count_keeps, count_in_step, same_uses}

-- what was told before a change that is told after it
pub told_before : (change : List ℕ → List ℕ) (old new : Option (List ℕ)) (file : List ℕ) → new ≡ option_map change old → new ≡ Some file
    → (before : List ℕ) × (old ≡ Some before) × (change before ≡ file)
told_before change None new file is told = absurd (cc)
told_before change (Some before) new file is told = (before, refl, cc)

pub written_with : (old : List ℕ) (at : ℕ) (bytes : List ℕ) → IsWritten old (with_bytes old at bytes) at bytes
written_with old at bytes = record {
  inside = λ i h. get_or-with_bytes_inside old at bytes i h;
  outside = λ i apart. get_or-with_bytes_outside old at bytes i apart;
}

add_zero : (n : ℕ) → n ≡ n + 0
add_zero n = omega arith

grown : (size at : ℕ) (bytes : List ℕ) → (size ≤ size_with size at bytes) × (size_with size at bytes ≤ max size (at + length bytes))
grown size at [] = (omega arith, omega arith)
grown size at (byte ∷ bytes) = (omega arith, omega arith)

reached : (size at : ℕ) (bytes : List ℕ) → 0 < length bytes → at + length bytes ≤ size_with size at bytes
reached size at [] some = absurd (omega arith)
reached size at (byte ∷ bytes) some = omega arith

-- a number in the bytes that were written
number_inside : (old new : List ℕ) (at : ℕ) (bytes : List ℕ) (i n : ℕ) → IsWritten old new at bytes → i + n ≤ length bytes → number_at new (at + i) n ≡ number_at bytes i n
unfolding number_at
number_inside old new at bytes i n written fits = big_from-moved n (at + i) i new bytes
    (λ k h. ap (λ (p : ℕ). get_or new p 0) (omega arith) ∙ written.inside (i + k) (omega arith))

-- What stays over two writes.
pub keeps_trans : (a b z : List ℕ) → KeepsCounted a b (header_of a) → KeepsCounted b z (header_of b) → KeepsCounted a z (header_of a)
keeps_trans a b z first second =
    let h : Header = header_of a in
    let P : Header → Type 0 = λ x. KeepsCounted b z x in
    let next : KeepsCounted b z h = subst P first.header second in
    let counted : (k : ℕ) → refcount_of a h k ≢ 0 → refcount_of b h k ≢ 0 = λ k some none. some (sym (first.refcounts_stay k some) ∙ none) in
    record {
      header = next.header;
      tree = next.tree ∙ first.tree;
      uses_stay = λ k some. next.uses_stay k (counted k some) ∙ first.uses_stay k some;
      refcounts_stay = λ k some. next.refcounts_stay k (counted k some) ∙ first.refcounts_stay k some;
      structure = λ k some. next.structure k (counted k some) ∙ first.structure k some;
      bytes = λ i some none.
          next.bytes i (counted (i / cluster_size h.cluster_bits) some) (first.structure (i / cluster_size h.cluster_bits) some ∙ none)
          ∙ first.bytes i some none;
    }

pub keeps_all : (file : List ℕ) → KeepsCounted file file (header_of file)
keeps_all file = record {
  header = refl;
  tree = refl;
  uses_stay = λ k some. refl;
  refcounts_stay = λ k some. refl;
  structure = λ k some. refl;
  bytes = λ i some none. refl;
}

-- The facts of what is kept that a step needs, by the file's.

-- an image's file ends within its limit
pub short_file : (file : List ℕ) (kept : KeptRefs) → IsInStep file kept → length file ≤ 549755813888
short_file file kept step =
    let h : Header = header_of file in
    let c : ℕ = cluster_size h.cluster_bits in
    let size = cluster_is h (sound_shape file step.sound) in
    let within = within_limits file (length file) (sound_header file step.sound) in
    let clusters = within.file_clusters in
    let enough = div_ceil_times (length file) c (omega (arith, size)) in
    let all = mul-le-mul_left c clusters in
    omega (arith, enough.0, all, size)

-- what the write of an entry needs, over a header
record EntryFacts (b z : List ℕ) (i f : ℕ) (x : Header) : Type 0 where
  place : f ≡ i * in_block x
  there : f * cluster_size x.cluster_bits < length b
  fresh : IsNewBlock b (f * cluster_size x.cluster_bits) (in_block x)
  written : IsWritten b z (x.ref_offset + 8 * i) (big_bytes 8 (f * cluster_size x.cluster_bits))

first_rows : (i f n : ℕ) → f ≡ i * 32768 → f < n → n ≤ 8388608 → i < 256
first_rows i f n is below few = omega arith

-- A new block: its bytes are written into the first cluster of its range, and then its entry.
module _ (old : List ℕ) (kept : KeptRefs) (i : ℕ) (block : List ℕ) (step : IsInStep old kept) (in_table : i < length kept.table)
    (absent : block_offset (slice_index kept.table i) ≡ 0) (kept_too : place_of_block kept i < length kept.counts) (few : length kept.counts ≤ 8388608)
    (whole : length block ≡ cluster_size kept.cluster_bits)
    (own : number_at block 0 2 ≡ 1) (others : (j : ℕ) → 0 < j → number_at block (j * 2) 2 ≡ 0) where
  abbrev h : Header
  h = header_of old

  abbrev c : ℕ
  c = cluster_size h.cluster_bits

  shape : HasShape h
  shape = sound_shape old step.sound

  size : c ≡ 65536
  size = cluster_is h shape

  same_size : cluster_size kept.cluster_bits ≡ c
  same_size = ap cluster_size step.counts.shape.cluster_bits

  same_block : per_block kept ≡ in_block h
  same_block = let shaped = step.counts.shape in rw (shaped.cluster_bits, shaped.refcount_order) refl

  -- the block's cluster
  abbrev f : ℕ
  f = place_of_block kept i

  abbrev at : ℕ
  at = f * cluster_size kept.cluster_bits

  place : f ≡ i * in_block h
  place = ap (λ (n : ℕ). i * n) same_block

  at_is : at ≡ f * c
  at_is = ap (λ (n : ℕ). f * n) same_size

  at_number : at ≡ f * 65536
  at_number = at_is ∙ ap (λ (n : ℕ). f * n) size

  absent_too : block_at old h i ≡ 0
  absent_too = ap (λ (table : List ℕ). block_offset (get_or table i 0)) (sym step.counts.table) ∙ absent

  pub free : refcount_of old h f ≡ 0
  free =
      let e = block_is h shape in
      let first : 0 < in_block h = rw e (omega arith) in
      let here : f ≡ i * in_block h + 0 = omega (arith, place) in
      ap (refcount_of old h) here ∙ refcount_of-absent old h i 0 first absent_too

  unused : uses old h f ≡ 0
  unused = let counted = (sound_is_consistent old step.sound).counted f in omega (arith, counted, free)

  -- it isn't the header's
  pub some_place : at ≢ 0
  some_place none = (unused_apart old h f unused).0.header (let e = at_number in omega (arith, none, e))

  -- some of its bytes are written
  partly_within : (n : ℕ) → IsWithin f c at (take n block)
  partly_within n = record { low = omega (arith, at_is); high = omega (arith, at_is, whole, same_size, length-take n block) }

  partly_small : (n : ℕ) → length (with_bytes old at (take n block)) ≤ 549755813888
  partly_small n =
      let len = length-with_bytes old at (take n block) in
      let bound = grown (length old) at (take n block) in
      let short = short_file old kept step in
      let e = at_number in omega (arith, len, bound.1, short, e, size, same_size, whole, length-take n block)

  partly_grows : (n : ℕ) → length old ≤ length (with_bytes old at (take n block))
  partly_grows n = let len = length-with_bytes old at (take n block) in let bound = grown (length old) at (take n block) in omega (arith, len, bound.0)

  pub partly_in_step : (n : ℕ) → IsInStep (with_bytes old at (take n block)) kept
  partly_in_step n = unused_in_step old (with_bytes old at (take n block)) kept f at (take n block) step free (written_with old at (take n block)) (partly_within n) (partly_grows n) (partly_small n)

  pub partly_keeps : (n : ℕ) → KeepsCounted old (with_bytes old at (take n block)) h
  partly_keeps n = unused_keeps old (with_bytes old at (take n block)) kept f at (take n block) step free (written_with old at (take n block)) (partly_within n) (partly_grows n) (partly_small n)

  -- All of its bytes are written: b is the file then.

  all_taken : take (length block) block ≡ block
  all_taken = take_all (length block) block (omega arith)

  abbrev b : List ℕ
  b = with_bytes old at block

  b_is : with_bytes old at (take (length block) block) ≡ b
  b_is = ap (with_bytes old at) all_taken

  b_step : IsInStep b kept
  b_step = let P : List ℕ → Type 0 = λ x. IsInStep x kept in subst P b_is (partly_in_step (length block))

  b_keeps : KeepsCounted old b h
  b_keeps = let P : List ℕ → Type 0 = λ x. KeepsCounted old x h in subst P b_is (partly_keeps (length block))

  b_header : header_of b ≡ h
  b_header = b_keeps.header

  b_long : at + 65536 ≤ length b
  b_long = let len = length-with_bytes old at block in let all = reached (length old) at block (omega (arith, whole, same_size, size)) in omega (arith, len, all, whole, same_size, size)

  b_short : length b ≤ 549755813888
  b_short = short_file b kept b_step

  new_block : IsNewBlock b at (in_block h)
  new_block = record {
    own = ap (λ (p : ℕ). number_at b p 2) (add_zero at) ∙ number_inside old b at block 0 2 (written_with old at block) (omega (arith, whole, same_size, size)) ∙ own;
    others = λ j some below.
        let e = block_is h shape in
        let inside : j < 32768 = rw e at below in
        number_inside old b at block (j * 2) 2 (written_with old at block) (omega (arith, inside, whole, same_size, size)) ∙ others j some;
  }

  -- Then its entry is written: z is the file then.

  abbrev entry : ℕ
  entry = kept.table_offset + 8 * i

  abbrev z : List ℕ
  z = with_bytes b entry (big_bytes 8 at)

  z_grows : length b ≤ length z
  z_grows = let len = length-with_bytes b entry (big_bytes 8 at) in let bound = grown (length b) entry (big_bytes 8 at) in omega (arith, len, bound.0)

  -- the entry lies in the table's first cluster, which begins in the file
  z_short : length z ≤ 549755813888
  z_short =
      let len = length-with_bytes b entry (big_bytes 8 at) in
      let bound = grown (length b) entry (big_bytes 8 at) in
      let eight = length-bytes_high_first 8 at in
      let table = (table_placed h (length old) (sound_tables old step.sound).refcount_table).1 in
      let begins = below_of c (length old) h.ref_offset table in
      let whole_table = rw size at (whole_of c (length old) h.ref_offset table) in
      let short = short_file old kept step in
      let offset = step.counts.shape.table_offset in
      let e = block_is h shape in
      let low : i < 256 = first_rows i f (length kept.counts) (place ∙ ap (λ (n : ℕ). i * n) e) kept_too few in
      omega (arith, len, bound.1, eight, begins, whole_table, short, offset, low, b_short)

  z_written : IsWritten b z (h.ref_offset + 8 * i) (big_bytes 8 (f * c))
  z_written =
      let P : ℕ → Type 0 = λ o. IsWritten b z (o + 8 * i) (big_bytes 8 at) in
      let Q : ℕ → Type 0 = λ w. IsWritten b z (h.ref_offset + 8 * i) (big_bytes 8 w) in
      subst Q at_is (subst P step.counts.shape.table_offset (written_with b entry (big_bytes 8 at)))

  -- the same facts over the header as b has it
  z_facts : EntryFacts b z i f (header_of b)
  z_facts =
      let there : f * c < length b = let e = at_is in omega (arith, e, b_long) in
      let fresh : IsNewBlock b (f * c) (in_block h) = let P : ℕ → Type 0 = λ o. IsNewBlock b o (in_block h) in subst P at_is new_block in
      let facts : EntryFacts b z i f h = record { place = place; there = there; fresh = fresh; written = z_written } in
      let R : Header → Type 0 = λ x. EntryFacts b z i f x in
      subst R (sym b_header) facts

  in_table_b : i < length (refcount_table b (header_of b))
  in_table_b = let P : List ℕ → Type 0 = λ t. i < length t in subst P b_step.counts.table in_table

  absent_b : block_at b (header_of b) i ≡ 0
  absent_b = let P : List ℕ → Type 0 = λ t. block_offset (get_or t i 0) ≡ 0 in subst P b_step.counts.table absent

  few_b : f < 2 ^ 30
  few_b = omega (arith, kept_too, few)

  pub placed_in_step : IsInStep z (with_block kept i)
  placed_in_step = block_in_step b z kept i f b_step z_facts.place in_table_b absent_b kept_too few_b z_facts.there z_facts.fresh z_facts.written z_grows z_short

  pub placed_keeps : KeepsCounted old z h
  placed_keeps = keeps_trans old b z b_keeps (block_keeps b z kept i f b_step z_facts.place in_table_b absent_b kept_too few_b z_facts.there z_facts.fresh z_facts.written z_grows z_short)

-- A refcount is written.

entry_end : (block j at len : ℕ) → at ≡ block + j * 2 → j < 32768 → block % 65536 ≡ 0 → block < len → len ≤ 549755813888 → at + 2 ≤ 549755813888
entry_end block j at len is column whole inside short = omega arith

module _ (old : List ℕ) (kept : KeptRefs) (n : ℕ) (step : IsInStep old kept) (below : n < length kept.counts) (few : length kept.counts ≤ 8388608)
    (there : block_offset (slice_index kept.table (n / per_block kept)) ≢ 0) (zero_count : slice_index kept.counts n ≡ 0) where
  abbrev h' : Header
  h' = header_of old

  same_entries : per_block kept ≡ in_block h'
  same_entries = let shaped = step.counts.shape in rw (shaped.cluster_bits, shaped.refcount_order) refl

  block_is_it : block_offset (slice_index kept.table (n / per_block kept)) ≡ block_at old h' (n / in_block h')
  block_is_it = ap (λ (e : ℕ). block_offset (get_or kept.table (n / e) 0)) same_entries
      ∙ ap (λ (t : List ℕ). block_offset (get_or t (n / in_block h') 0)) step.counts.table

  place_is_it : count_place kept n ≡ count_at old h' n
  place_is_it = ap (λ (o : ℕ). o + n % per_block kept * 2) block_is_it ∙ ap (λ (e : ℕ). block_at old h' (n / in_block h') + n % e * 2) same_entries

  abbrev counted : List ℕ
  counted = with_bytes old (count_place kept n) (big_bytes 2 1)

  free_too : refcount_of old h' n ≡ 0
  free_too = sym (step.counts.counts n below) ∙ zero_count

  there_too : block_at old h' (n / in_block h') ≢ 0
  there_too e = there (block_is_it ∙ e)

  counted_grows : length old ≤ length counted
  counted_grows = let len = length-with_bytes old (count_place kept n) (big_bytes 2 1) in let bound = grown (length old) (count_place kept n) (big_bytes 2 1) in omega (arith, len, bound.0)

  -- the block lies in the file's clusters, of which the last may be cut short
  counted_short : length counted ≤ 549755813888
  counted_short =
      let len = length-with_bytes old (count_place kept n) (big_bytes 2 1) in
      let bound = grown (length old) (count_place kept n) (big_bytes 2 1) in
      let two = length-bytes_high_first 2 1 in
      let short = short_file old kept step in
      let sh = sound_shape old step.sound in
      let size = cluster_is h' sh in
      let c : ℕ = cluster_size h'.cluster_bits in
      let i : ℕ = n / in_block h' in
      let in_table : i < length (refcount_table old h') = elim (cases_lt i (length (refcount_table old h'))) [
        | inl inside ↦ inside
        | inr past ↦ absurd (there_too (ap block_offset (get_or_past (refcount_table old h') i 0 past)))
      ] in
      let placed = block_placed c (length old) (refcount_table old h') (sound_tables old step.sound).blocks i in_table in
      let begins = below_of c (length old) (block_at old h' i) placed in
      let whole_block = sym (ap (λ (m : ℕ). block_at old h' i % m) size) ∙ whole_of c (length old) (block_at old h' i) placed in
      let e = block_is h' sh in
      let column : n % in_block h' < 32768 = rw e (omega arith) in
      let end = entry_end (block_at old h' i) (n % in_block h') (count_place kept n) (length old) place_is_it column whole_block begins short in
      omega (arith, len, bound.1, two, short, end)

  counted_written : IsWritten old counted (count_at old h' n) (big_bytes 2 1)
  counted_written = let P : ℕ → Type 0 = λ o. IsWritten old counted o (big_bytes 2 1) in subst P place_is_it (written_with old (count_place kept n) (big_bytes 2 1))

  pub counted_in_step : IsInStep counted (with_one kept n)
  counted_in_step = count_in_step old counted kept n step below there_too free_too counted_written counted_grows counted_short

  pub counted_keeps : KeepsCounted old counted h'
  counted_keeps = count_keeps old counted kept n step below there_too free_too counted_written counted_grows counted_short

  -- nothing uses the cluster
  pub counted_unused : uses counted (header_of counted) n ≡ 0
  counted_unused =
      let header = counted_keeps.header in
      let same = same_uses old counted kept n step below there_too free_too counted_written counted_grows counted_short n in
      let P : Header → Type 0 = λ x. uses counted x n ≡ 0 in
      subst P (sym header) (same ∙ (let used = (sound_is_consistent old step.sound).counted n in omega (arith, used, free_too)))

-- nothing uses a cluster whose kept count is 0
pub unused_by_count : (file : List ℕ) (kept : KeptRefs) (n : ℕ) → IsInStep file kept → n < length kept.counts → slice_index kept.counts n ≡ 0 → uses file (header_of file) n ≡ 0
unused_by_count file kept n step below free =
    let used = (sound_is_consistent file step.sound).counted n in
    omega (arith, used, step.counts.counts n below, free)
