-- The refcounts of the clusters that one block counts.
use Rattle.std.proofs.Common.{◌≡◌, ◌≢◌, ℕ, ◌+◌, ◌-◌, ◌*◌, ◌/◌, ◌<◌, ◌≤◌, List, get_or, refl, sym, ap, ◌∙◌, arith, eq-eqb, inl, inr}
use Rattle.std.proofs.lemmas.Bool.{cases_lt, ne_eqb}
use Rattle.std.proofs.lemmas.Nat.{div-mul-add, mod-mul-add}
use Rattle.blk_base.specs.Content.{bytes_at as read_bytes}
use Rattle.q2_format.specs.Bytes.{number_at}
use Rattle.q2_format.specs.Entry.{block_offset}
use Rattle.q2_format.specs.Sizes.{cluster_size, refcount_bytes, block_entries}
use Rattle.q2_format.specs.Tables.{refcount_table, refcount_of}
use Rattle.q2_format.specs.declared.header.Header.{Header}
use Rattle.q2_refs.specs.Kept.{AreAbsentZero}
use Rattle.q2_refs.specs.Loading.{AreZeroFrom, HasShape}
use Rattle.q2_refs.proofs.Decoding.{number_read}

-- how many clusters a block counts
abbrev pub in_block : Header → ℕ
in_block h = block_entries (cluster_size h.cluster_bits) h.refcount_order

-- the offset of block i
abbrev pub block_at : List ℕ → Header → ℕ → ℕ
block_at file h i = block_offset (get_or (refcount_table file h) i 0)

-- a cluster whose block is absent
pub refcount_of-absent : (file : List ℕ) (h : Header) (i j : ℕ) → j < in_block h → block_at file h i ≡ 0 → refcount_of file h (i * in_block h + j) ≡ 0
unfolding refcount_of
refcount_of-absent file h i j below none =
    let row = div-mul-add i (in_block h) j below in
    let test = eq-eqb (block_at file h i) 0 none in
    rw (row, test) refl

-- and one whose block is there
pub refcount_of-present : (file : List ℕ) (h : Header) (i j : ℕ) → j < in_block h → block_at file h i ≢ 0
    → refcount_of file h (i * in_block h + j) ≡ number_at file (block_at file h i + j * refcount_bytes h.refcount_order) (refcount_bytes h.refcount_order)
unfolding refcount_of
refcount_of-present file h i j below some =
    let row = div-mul-add i (in_block h) j below in
    let column = mod-mul-add i (in_block h) j below in
    let test = ne_eqb (block_at file h i) 0 some in
    rw (row, column, test) refl

-- counts of absent blocks, one block further
pub absent_further : (n i : ℕ) (table old new : List ℕ) → AreAbsentZero n table old (i * n) → AreZeroFrom old (i * n)
    → ((k : ℕ) → k < i * n → get_or new k 0 ≡ get_or old k 0) → (block_offset (get_or table i 0) ≡ 0 → new ≡ old) → AreAbsentZero n table new ((i + 1) * n)
absent_further n i table old new had zeros same here = λ k below none. elim (cases_lt k (i * n)) [
  | inl before ↦ same k before ∙ had k before none
  | inr from ↦
      let place : i * n + (k - i * n) ≡ k = omega arith in
      let row : (i + 1) * n ≡ i * n + n = omega arith in
      let column : k - i * n < n = omega (arith, row) in
      let at : k / n ≡ i = ap (λ (m : ℕ). m / n) (sym place) ∙ div-mul-add i n (k - i * n) column in
      ap (λ (counts : List ℕ). get_or counts k 0) (here (ap (λ (m : ℕ). block_offset (get_or table m 0)) (sym at) ∙ none)) ∙ zeros k from
]

-- in the shape that is supported
pub width_two : (h : Header) → HasShape h → refcount_bytes h.refcount_order ≡ 2
width_two h shape = rw shape.refcount_order refl

pub block_is_whole : (h : Header) → HasShape h → 2 * in_block h ≡ cluster_size h.cluster_bits
block_is_whole h shape = rw (shape.cluster_bits, shape.refcount_order) refl

-- a refcount in a block that was read
pub refcount_of-read : (file : List ℕ) (h : Header) (i k offset : ℕ) → HasShape h → i * in_block h ≤ k → k < i * in_block h + in_block h
    → block_at file h i ≡ offset → offset ≢ 0
    → number_at (read_bytes file offset (cluster_size h.cluster_bits)) ((k - i * in_block h) * 2) 2 ≡ refcount_of file h k
refcount_of-read file h i k offset shape low high is some =
    let b : ℕ = in_block h in
    let j : ℕ = k - i * b in
    let place : i * b + j ≡ k = omega arith in
    let read = number_read file offset (cluster_size h.cluster_bits) (j * 2) 2 (omega (arith, block_is_whole h shape)) in
    let width = ap (λ (w : ℕ). number_at file (offset + j * w) w) (sym (width_two h shape)) in
    let there = ap (λ (at : ℕ). number_at file (at + j * refcount_bytes h.refcount_order) (refcount_bytes h.refcount_order)) (sym is) in
    read ∙ width ∙ there ∙ sym (refcount_of-present file h i j (omega arith) (λ e. some (sym is ∙ e))) ∙ ap (refcount_of file h) place
