-- The writes of an allocation, made or cut off: what the file is then, and whose refcounts are kept.
use Rattle.std.proofs.Common.{◌≡◌, ◌≢◌, inl, inr, ℕ, ◌+◌, ◌-◌, ◌*◌, ◌/◌, ◌%◌, ◌<◌, ◌≤◌, max, true, cond, eqb, eq-eqb, List, [], ◌∷◌, length, take, replicate, slice_index, refl, sym, ap, subst, ◌∙◌, arith, length-append}
use Rattle.std.proofs.lemmas.Bool.{cases_eq, ne_eqb}
use Rattle.std.proofs.lemmas.List.{get_or-set_same, get_or-set_other, length-replicate, take_all}
use Rattle.std.proofs.Math.ListN.{length-set}
use Rattle.std.proofs.lemmas.Nat.{div-add-mod', div_below, mod-mul-add}
use Rattle.blk_base.specs.Content.{Write, with_bytes, after_writes}
use Rattle.blk_base.specs.Writes.{write_of, end_of_writes, first_bytes, IsCutBy, IsPart, AtEachStop}
use Rattle.blk_base.specs.declared.fault.DevStop.{DevStop}
use Rattle.blk_base.specs.declared.fault.DevStop.TheVariants.{Io}
use Rattle.blk_base.proofs.WriteLists.{after_writes-append, end_of_writes-append, part-split, cut-bytes, cut-sector}
use Rattle.byteorder.specs.Endian.{big_bytes}
use Rattle.byteorder.specs.Numbers.{length-bytes_high_first}
use Rattle.q2_format.specs.Bytes.{number_at}
use Rattle.q2_format.specs.Entry.{block_offset}
use Rattle.q2_format.specs.Header.{header_of}
use Rattle.q2_format.specs.References.{uses}
use Rattle.q2_format.specs.Sizes.{cluster_size}
use Rattle.q2_format.specs.declared.header.Header.{Header}
use Rattle.q2_format.proofs.Consistent.{sound_tables}
use Rattle.q2_refs.specs.Allocating.{IsInStep, KeepsCounted, KeepsSound, with_one, with_block, with_block_for, place_of_block, offset_of_block, new_block, block_writes, block_writes_for, count_place, count_write, allocation_writes, all_but_count, end_of_allocation}
use Rattle.q2_refs.specs.Free.{will_be_given}
use Rattle.q2_refs.specs.Kept.{KeptRefs, per_block}
use Rattle.q2_refs.proofs.BlockStep.{reads_back}
use Rattle.q2_refs.proofs.FreeClusters.{given_count, given_beside, for_absent, for_present}
use Rattle.q2_refs.proofs.Made.{counts_itself, counts_no_other}
use Rattle.q2_refs.proofs.Placing.{keeps_all, keeps_trans, partly_in_step, partly_keeps, placed_in_step, placed_keeps, some_place, counted_in_step, counted_keeps, counted_unused}
use Rattle.q2_refs.proofs.Steps.{sound_shape, cluster_is}
use Rattle.q2_refs.proofs.Writes.{table_placed, whole_of}

pub length-new_block : (len : ℕ) → 2 ≤ len → length (new_block len) ≡ len
unfolding new_block
length-new_block len some =
    omega (arith, length-append (big_bytes 2 1) (replicate (len - 2) 0), length-bytes_high_first 2 1, length-replicate {A = ℕ} (len - 2) 0)

-- a file whose refcounts are kept, and in which what counted stays
pub record Holds (old new : List ℕ) (kept : KeptRefs) : Type 0 where
  pub step : IsInStep new kept
  pub keeps : KeepsCounted old new (header_of old)

pub holds-sound : (old new : List ℕ) (kept : KeptRefs) → Holds old new kept → KeepsSound old new
holds-sound old new kept holds = record { sound = holds.step.sound; keeps = holds.keeps }

-- a block that can be put
pub record CanBePut (kept : KeptRefs) (i : ℕ) : Type 0 where
  pub in_table : i < length kept.table
  pub absent : block_offset (slice_index kept.table i) ≡ 0
  pub place : place_of_block kept i < length kept.counts
  pub few : length kept.counts ≤ 8388608

entry_in_sector : (table i : ℕ) → table % 65536 ≡ 0 → (table + 8 * i) % 512 + 8 ≤ 512
entry_in_sector table i whole = omega arith

module _ (file : List ℕ) (kept : KeptRefs) (i : ℕ) (step : IsInStep file kept) (can : CanBePut kept i) where
  size : cluster_size kept.cluster_bits ≡ 65536
  size = ap cluster_size step.counts.shape.cluster_bits ∙ cluster_is (header_of file) (sound_shape file step.sound)

  abbrev block : List ℕ
  block = new_block (cluster_size kept.cluster_bits)

  whole : length block ≡ cluster_size kept.cluster_bits
  whole = length-new_block (cluster_size kept.cluster_bits) (omega (arith, size))

  own : number_at block 0 2 ≡ 1
  unfolding new_block
  own = counts_itself (replicate (cluster_size kept.cluster_bits - 2) 0)

  others : (j : ℕ) → 0 < j → number_at block (j * 2) 2 ≡ 0
  unfolding new_block
  others j some = counts_no_other (cluster_size kept.cluster_bits - 2) j some

  abbrev offset : ℕ
  offset = offset_of_block kept i

  -- some of the block's bytes are written
  partly : (n : ℕ) → Holds file (with_bytes file offset (take n block)) kept
  partly n = record {
    step = partly_in_step file kept i block step can.in_table can.absent can.place can.few whole own others n;
    keeps = partly_keeps file kept i block step can.in_table can.absent can.place can.few whole own others n;
  }

  wholly : Holds file (with_bytes file offset block) kept
  wholly = let all = take_all (length block) block (omega arith) in subst (λ bytes. Holds file (with_bytes file offset bytes) kept) all (partly (length block))

  sector : (kept.table_offset + 8 * i) % 512 + length (big_bytes 8 offset) ≤ 512
  sector =
      let h : Header = header_of file in
      let table = (table_placed h (length file) (sound_tables file step.sound).refcount_table).1 in
      let c = cluster_is h (sound_shape file step.sound) in
      let aligned = rw c at (whole_of (cluster_size h.cluster_bits) (length file) h.ref_offset table) in
      let place = step.counts.shape.table_offset in
      let same : kept.table_offset % 65536 ≡ 0 = ap (λ (o : ℕ). o % 65536) place ∙ aligned in
      omega (arith, entry_in_sector kept.table_offset i same, length-bytes_high_first 8 offset)

  pub block_cut : (stop : DevStop) (made : List Write) → IsPart (IsCutBy stop) (block_writes kept i) made → Holds file (after_writes file made) kept
  unfolding block_writes
  block_cut stop [] part = absurd part
  block_cut stop (m ∷ made) (inr (cut, none)) =
      let bytes = cut-bytes stop (write_of offset block) m cut in
      let is : m ∷ made ≡ write_of offset (take bytes.0 block) ∷ [] = ap (λ ms. m ∷ ms) none ∙ ap (λ x. x ∷ []) bytes.1 in
      subst (λ ms. Holds file (after_writes file ms) kept) (sym is) (partly bytes.0)
  block_cut stop (m ∷ []) (inl (same, part)) = absurd part
  block_cut stop (m ∷ (e ∷ made)) (inl (same, inl (is, part))) = absurd part
  block_cut stop (m ∷ (e ∷ made)) (inl (same, inr (cut, none))) =
      let entry = cut-sector stop (write_of (kept.table_offset + 8 * i) (big_bytes 8 offset)) e sector cut in
      let is : m ∷ (e ∷ made) ≡ write_of offset block ∷ (write_of (kept.table_offset + 8 * i) [] ∷ []) =
      ap (λ ms. m ∷ (e ∷ ms)) none ∙ ap (λ x. x ∷ (e ∷ [])) same ∙ ap (λ x. write_of offset block ∷ (x ∷ [])) entry in
      subst (λ ms. Holds file (after_writes file ms) kept) (sym is) wholly

  pub block_done : Holds file (after_writes file (block_writes kept i)) (with_block kept i)
  unfolding block_writes
  block_done = record {
    step = placed_in_step file kept i block step can.in_table can.absent can.place can.few whole own others;
    keeps = placed_keeps file kept i block step can.in_table can.absent can.place can.few whole own others;
  }

  -- it isn't put where the header is
  pub block_there : block_offset (slice_index (with_block kept i).table i) ≢ 0
  block_there none =
      let f : ℕ = place_of_block kept i in
      let word = get_or-set_same kept.table i offset 0 can.in_table in
      let number = ap (λ (c : ℕ). f * c) size in
      let below = can.place in let few = can.few in
      let reads = reads_back f (omega (arith, below, few)) in
      let back = ap block_offset number ∙ reads ∙ sym number in
      some_place file kept i block step can.in_table can.absent can.place can.few whole own others (sym back ∙ ap block_offset (sym word) ∙ none)

-- The same for the block of a cluster, which is put only where it is absent.

-- a cluster that can be given
pub record CanBeGiven (kept : KeptRefs) (n : ℕ) : Type 0 where
  pub below : n < length kept.counts
  pub few : length kept.counts ≤ 8388608
  pub given : will_be_given kept n ≡ true
  pub reach : length kept.counts ≤ length kept.table * per_block kept

writes_absent : (kept : KeptRefs) (n : ℕ) → block_offset (slice_index kept.table (n / per_block kept)) ≡ 0 → block_writes_for kept n ≡ block_writes kept (n / per_block kept)
writes_absent kept n absent = let test = eq-eqb (block_offset (slice_index kept.table (n / per_block kept))) 0 absent in rw test refl

writes_present : (kept : KeptRefs) (n : ℕ) → block_offset (slice_index kept.table (n / per_block kept)) ≢ 0 → block_writes_for kept n ≡ []
writes_present kept n there = let test = ne_eqb (block_offset (slice_index kept.table (n / per_block kept))) 0 there in rw test refl

-- a cluster that can count one
record CanCount (kept : KeptRefs) (n : ℕ) : Type 0 where
  below : n < length kept.counts
  few : length kept.counts ≤ 8388608
  free : slice_index kept.counts n ≡ 0
  there : block_offset (slice_index kept.table (n / per_block kept)) ≢ 0

holds-then : (a b c : List ℕ) (kept after : KeptRefs) → Holds a b kept → Holds b c after → Holds a c after
holds-then a b c kept after first second = record { step = second.step; keeps = keeps_trans a b c first.keeps second.keeps }

holds-itself : (file : List ℕ) (kept : KeptRefs) → IsInStep file kept → Holds file file kept
holds-itself file kept step = record { step = step; keeps = keeps_all file }

count_in_sector : (word column : ℕ) → (block_offset word + column * 2) % 512 + 2 ≤ 512
count_in_sector word column = omega arith

-- of a refcount all is written or nothing
pub count_part : (kept : KeptRefs) (n : ℕ) (stop : DevStop) (made : List Write) → IsPart (IsCutBy stop) (count_write kept n ∷ []) made
    → made ≡ first_bytes 0 (count_write kept n) ∷ []
unfolding count_write
count_part kept n stop [] part = absurd part
count_part kept n stop (m ∷ made) (inl (same, part)) = absurd part
count_part kept n stop (m ∷ made) (inr (cut, none)) =
    let within : count_place kept n % 512 + length (big_bytes 2 1) ≤ 512 =
    omega (arith, count_in_sector (slice_index kept.table (n / per_block kept)) (n % per_block kept), length-bytes_high_first 2 1) in
    ap (λ ms. m ∷ ms) none ∙ ap (λ x. x ∷ []) (cut-sector stop (write_of (count_place kept n) (big_bytes 2 1)) m within cut)

-- the refcount
module _ (file : List ℕ) (kept : KeptRefs) (n : ℕ) (step : IsInStep file kept) (can : CanCount kept n) where
  count_cut : (stop : DevStop) (made : List Write) → IsPart (IsCutBy stop) (count_write kept n ∷ []) made → Holds file (after_writes file made) kept
  count_cut stop made part =
      let is = count_part kept n stop made part in
      subst (λ ms. Holds file (after_writes file ms) kept) (sym is) (holds-itself file kept step)

  count_done : Holds file (after_writes file (count_write kept n ∷ [])) (with_one kept n)
  unfolding count_write
  count_done = record {
    step = counted_in_step file kept n step can.below can.few can.there can.free;
    keeps = counted_keeps file kept n step can.below can.few can.there can.free;
  }

  count_unused : (new : List ℕ) → new ≡ after_writes file (count_write kept n ∷ []) → uses new (header_of new) n ≡ 0
  unfolding count_write
  count_unused new is = subst (λ z. uses z (header_of z) n ≡ 0) (sym is) (counted_unused file kept n step can.below can.few can.there can.free)

module _ (file : List ℕ) (kept : KeptRefs) (n : ℕ) (step : IsInStep file kept) (can : CanBeGiven kept n) where
  abbrev i : ℕ
  i = n / per_block kept

  per : per_block kept ≡ 32768
  per =
      let shape = sound_shape file step.sound in
      let bits = step.counts.shape.cluster_bits ∙ shape.cluster_bits in
      let order = step.counts.shape.refcount_order ∙ shape.refcount_order in
      rw (bits, order) refl

  can_put : block_offset (slice_index kept.table i) ≡ 0 → CanBePut kept i
  can_put absent =
      let below = can.below in let reach = can.reach in
      let parts = div-add-mod' n (per_block kept) in
      record {
        in_table = div_below n (per_block kept) (length kept.table) (omega (arith, per)) (omega (arith, below, reach));
        absent = absent;
        place = omega (arith, parts, below);
        few = can.few;
      }

  pub block_for_cut : (stop : DevStop) (made : List Write) → IsPart (IsCutBy stop) (block_writes_for kept n) made → Holds file (after_writes file made) kept
  block_for_cut stop made part = elim (cases_eq (block_offset (slice_index kept.table i)) 0) [
    | inl absent ↦ block_cut file kept i step (can_put absent) stop made (subst (λ ws. IsPart (IsCutBy stop) ws made) (writes_absent kept n absent) part)
    | inr there ↦ absurd (subst (λ ws. IsPart (IsCutBy stop) ws made) (writes_present kept n there) part)
  ]

  block_for_done : Holds file (after_writes file (block_writes_for kept n)) (with_block_for kept n)
  block_for_done = elim (cases_eq (block_offset (slice_index kept.table i)) 0) [
    | inl absent ↦
        subst (λ ws. Holds file (after_writes file ws) (with_block_for kept n)) (sym (writes_absent kept n absent))
        (subst (λ k. Holds file (after_writes file (block_writes kept i)) k) (sym (for_absent kept n absent)) (block_done file kept i step (can_put absent)))
    | inr there ↦
        subst (λ ws. Holds file (after_writes file ws) (with_block_for kept n)) (sym (writes_present kept n there))
        (subst (λ k. Holds file file k) (sym (for_present kept n there)) (holds-itself file kept step))
  ]

  can_count : CanCount (with_block_for kept n) n
  can_count = elim (cases_eq (block_offset (slice_index kept.table i)) 0) [
    | inl absent ↦ subst (λ k. CanCount k n) (sym (for_absent kept n absent)) (beside absent)
    | inr there ↦
        subst (λ k. CanCount k n) (sym (for_present kept n there))
        (record { below = can.below; few = can.few; free = given_count kept n can.given; there = there })
  ]
    where
      beside : block_offset (slice_index kept.table i) ≡ 0 → CanCount (with_block kept i) n
      beside absent =
          let f : ℕ = place_of_block kept i in
          let len = length-set kept.counts f 1 in
          let below = can.below in let few = can.few in
          let start : i * per_block kept ≡ i * per_block kept + 0 = omega arith in
          let column : f % per_block kept ≡ 0 = ap (λ (a : ℕ). a % per_block kept) start ∙ mod-mul-add i (per_block kept) 0 (omega (arith, per)) in
          record {
            below = omega (arith, len, below);
            few = omega (arith, len, few);
            free = get_or-set_other kept.counts f n 1 0 (λ is. given_beside kept n can.given absent (ap (λ (a : ℕ). a % per_block kept) is ∙ column))
                ∙ given_count kept n can.given;
            there = block_there file kept i step (can_put absent);
          }

  abbrev between : List ℕ
  between = after_writes file (block_writes_for kept n)

  -- all is written
  pub allocation_done : Holds file (after_writes file (allocation_writes kept n)) (with_one (with_block_for kept n) n)
  allocation_done =
      let all = after_writes-append file (block_writes_for kept n) (count_write (with_block_for kept n) n ∷ []) in
      subst (λ z. Holds file z (with_one (with_block_for kept n) n)) (sym all)
      (holds-then file between (after_writes between (count_write (with_block_for kept n) n ∷ [])) (with_block_for kept n) (with_one (with_block_for kept n) n) block_for_done
      (count_done between (with_block_for kept n) n block_for_done.step can_count))

  pub allocation_unused : (new : List ℕ) → new ≡ after_writes file (allocation_writes kept n) → uses new (header_of new) n ≡ 0
  allocation_unused new is =
      count_unused between (with_block_for kept n) n block_for_done.step can_count new
      (is ∙ after_writes-append file (block_writes_for kept n) (count_write (with_block_for kept n) n ∷ []))

  -- the block is there, and the refcount isn't written
  pub allocation_left : Holds file (after_writes file (all_but_count kept n)) (with_block_for kept n)
  unfolding count_write
  allocation_left =
      let all = after_writes-append file (block_writes_for kept n) (first_bytes 0 (count_write (with_block_for kept n) n) ∷ []) in
      subst (λ z. Holds file z (with_block_for kept n)) (sym all) block_for_done

  -- wherever it is cut off
  pub allocation_cut : (stop : DevStop) (made : List Write) → IsPart (IsCutBy stop) (allocation_writes kept n) made → KeepsSound file (after_writes file made)
  allocation_cut stop made part = elim (part-split (IsCutBy stop) (block_writes_for kept n) (count_write (with_block_for kept n) n ∷ []) made part) [
    | inl sooner ↦ holds-sound file (after_writes file made) kept (block_for_cut stop made sooner)
    | inr later ↦
        let all = ap (after_writes file) later.1 ∙ after_writes-append file (block_writes_for kept n) later.0 in
        let cut = count_cut between (with_block_for kept n) n block_for_done.step can_count stop later.0 later.2 in
        subst (λ z. KeepsSound file z) (sym all)
        (holds-sound file (after_writes between later.0) (with_block_for kept n)
        (holds-then file between (after_writes between later.0) (with_block_for kept n) (with_block_for kept n) block_for_done cut))
  ]

  pub allocation_stops : AtEachStop (KeepsSound file) (allocation_writes kept n) file
  allocation_stops = record {
    stopped = λ made part. allocation_cut (Io 0) made part;
    done = holds-sound file (after_writes file (allocation_writes kept n)) (with_one (with_block_for kept n) n) allocation_done;
  }

-- Where it ends.

-- behind the bytes of a new block and its entry in the table
abbrev pub end_of_block : KeptRefs → ℕ → ℕ
end_of_block kept i = let c = cluster_size kept.cluster_bits in
    max (place_of_block kept i * c + c) (kept.table_offset + 8 * i + 8)

-- the same for the block of a cluster, and 0 where it is there
abbrev pub end_of_block_for : KeptRefs → ℕ → ℕ
end_of_block_for kept n =
    let i = n / per_block kept in
    cond (eqb (block_offset (slice_index kept.table i)) 0) (end_of_block kept i) 0

end-block_writes : (kept : KeptRefs) (i : ℕ) → cluster_size kept.cluster_bits ≡ 65536 → end_of_writes (block_writes kept i) ≡ end_of_block kept i
unfolding block_writes
end-block_writes kept i size =
    omega (arith, length-new_block (cluster_size kept.cluster_bits) (omega (arith, size)), length-bytes_high_first 8 (offset_of_block kept i))

end-of_some : (kept : KeptRefs) (i word : ℕ) → cluster_size kept.cluster_bits ≡ 65536
    → end_of_writes (cond (eqb word 0) (block_writes kept i) []) ≡ cond (eqb word 0) (end_of_block kept i) 0
end-of_some kept i word size = elim (cases_eq word 0) [
  | inl absent ↦ let test = eq-eqb word 0 absent in rw test (end-block_writes kept i size)
  | inr there ↦ let test = ne_eqb word 0 there in rw test refl
]

pub end-allocation_writes : (kept : KeptRefs) (n : ℕ) → cluster_size kept.cluster_bits ≡ 65536 → end_of_allocation kept n ≡ max (end_of_block_for kept n) (count_place (with_block_for kept n) n + 2)
unfolding count_write
end-allocation_writes kept n size =
    let all = end_of_writes-append (block_writes_for kept n) (count_write (with_block_for kept n) n ∷ []) in
    let blocks = end-of_some kept (n / per_block kept) (block_offset (slice_index kept.table (n / per_block kept))) size in
    omega (arith, all, blocks, length-bytes_high_first 2 1)
