-- The sectors that are left of a block, and what a copy of them makes of what is owed.
use Rattle.std.proofs.Common.{◌≡◌, ℕ, ◌+◌, ◌-◌, ◌*◌, ◌/◌, ◌%◌, ◌^◌, ◌<◌, ◌≤◌, ◌==◌, nat_le, nat_lt, Bool, true, false, not, cond, List, length, get_or, Some, Result, Ok, refl, sym, ◌∙◌, ap, subst, arith, inl, inr}
use Rattle.std.specs.Prelude.{◌&&◌, IsOk, slice_index}
use Rattle.std.specs.Simd.Lanes.{mask_l}
use Rattle.std.proofs.lemmas.Bool.{cases_eq, cases_lt, eq-eqb, ne_eqb}
use Rattle.std.proofs.lemmas.Bool.Decides.{nat_tests}
use Rattle.std.proofs.lemmas.List.{get_or_past}
use Rattle.std.proofs.lemmas.Simd.{bit_mask_l}
use Rattle.blk_base.specs.Content.{bytes_at}
use Rattle.blk_base.specs.Pieces.{Extent, end_of}
use Rattle.blk_base.proofs.Contents.{get_or-bytes_at}
use Rattle.std.proofs.Math.Nat.{div-div-eq-div-mul, zero-div}
use Rattle.blk_bits.specs.Granules.{contains, those_below}
use Rattle.blk_bits.proofs.GranuleLemmas.{contains-those_below}
use Rattle.blk_base.specs.declared.fault.Fault.{Fault}
use Rattle.blk_nodes.specs.Contents.{disk_of}
use Rattle.blk_nodes.specs.Joined.{IsJoined}
use Rattle.blk_nodes.specs.Nodes.{Nodes, AreTold, node_size, row_at, size_by}
use Rattle.blk_nodes.specs.declared.row.Row.{Row}
use Rattle.blk_nodes.proofs.CoveredDisks.{length_disk}
use Rattle.block_jobs.specs.Ahead.{CopiesOwed, IsAhead, IsPlaceAhead, is_owed}
use Rattle.block_jobs.specs.Work.{IsJobWork, JobWork, after_copy, block_at, is_left, sectors_left}
use Rattle.block_jobs.proofs.Steps.{copied_is_paid}
use Rattle.qmp_codec.specs.declared.event.JobKind.TheVariants.{Backup}
use Rattle.node_copies.specs.Putting.{IsPut}
use Rattle.node_copies.specs.Sectors.{block_of, has_sector, is_asked, sector_at}

-- ---- which sectors are left

pub bit_is : (b : Bool) (n : ℕ) → n ≡ cond b 1 0 → (n == 1) ≡ b
bit_is true n is = eq-eqb n 1 is
bit_is false n is = ne_eqb n 1 (λ one. let bad : 0 ≡ 1 = sym is ∙ one in absurd (omega (arith, bad)))

module _ (work : JobWork) (is : IsJobWork work) (block : ℕ) where
  abbrev start : ℕ
  start = block * 65536

  abbrev Test : ℕ → Bool
  Test s = is_left work (start + s * 512)

  sector_is : (s : ℕ) → s < 128 → has_sector (sectors_left work block) s ≡ Test s
  unfolding sectors_left
  sector_is s less =
      bit_is (contains (those_below 128 Test) s) (mask_l (those_below 128 Test) / 2 ^ s % 2) (bit_mask_l (those_below 128 Test) s)
      ∙ contains-those_below 128 Test s less

  -- a place and the beginning of its sector are in one part
  same_part : (a b : ℕ) → a / 512 ≡ b / 512 → a / work.part ≡ b / work.part
  same_part a b same =
      let m : ℕ = work.part / 512 in
      ap (λ (p : ℕ). a / p) (sym is.sectors) ∙ sym (div-div-eq-div-mul a 512 m) ∙ ap (λ (n : ℕ). n / m) same ∙ div-div-eq-div-mul b 512 m
      ∙ ap (λ (p : ℕ). b / p) is.sectors

  place_left : (place : ℕ) → start ≤ place → place < start + 65536 → has_sector (sectors_left work block) ((place - start) / 512) ≡ is_left work place
  place_left place from below =
      let s : ℕ = (place - start) / 512 in
      let same : (start + s * 512) / 512 ≡ place / 512 = omega (arith, from) in
      sector_is s (omega (arith, from, below)) ∙ ap (contains work.left) (same_part (start + s * 512) place same)

  abbrev Span : Extent
  Span = block_of work.size block

  pub asked_is : (place : ℕ) → place < work.size → block_at place ≡ block → is_asked Span (sectors_left work block) place ≡ is_left work place
  asked_is place less at =
      let low : start ≤ place = omega (arith, at) in
      let high : place < start + 65536 = omega (arith, at) in
      let first : nat_le start place ≡ true = grind (arith, nat_tests) in
      let ends : place < end_of Span = omega (arith, low, high, less) in
      let last : nat_lt place (end_of Span) ≡ true = grind (arith, nat_tests) in
      rw (first, last) (place_left place low high)

  three : (a b c : Bool) → (a && b && c) ≡ true → (a ≡ true) × (b ≡ true) × (c ≡ true)
  three true true c is = (refl, refl, is)
  three true false c is = absurd (cc is)
  three false b c is = absurd (cc is)

  pub of_asked : (place : ℕ) → is_asked Span (sectors_left work block) place ≡ true → (place < work.size) × (block_at place ≡ block) × (is_left work place ≡ true)
  of_asked place asked =
      let parts = three (nat_le start place) (nat_lt place (end_of Span)) (has_sector (sectors_left work block) (sector_at Span place)) asked in
      let low : start ≤ place = let a = parts.0 in grind (arith, nat_tests) in
      let ends : place < end_of Span = let b = parts.1 in grind (arith, nat_tests) in
      let less : place < work.size = omega (arith, low, ends) in
      let at : block_at place ≡ block = omega (arith, low, ends) in
      (less, at, sym (asked_is place less at) ∙ asked)

  -- none
  pub none_left : sectors_left work block ≡ 0 → (place : ℕ) → place < work.size → block_at place ≡ block → is_left work place ≡ false
  none_left none place less at =
      let low : start ≤ place = omega (arith, at) in
      let high : place < start + 65536 = omega (arith, at) in
      sym (place_left place low high) ∙ ap (λ (n : ℕ). has_sector n ((place - start) / 512)) none ∙ bit_is false (0 / 2 ^ ((place - start) / 512) % 2) (ap (λ (n : ℕ). n % 2) (zero-div (2 ^ ((place - start) / 512))))

  -- a block that was copied isn't owed
  pub paid_free : (place : ℕ) → block_at place ≡ block → is_owed Backup (after_copy block work) place ≡ false
  paid_free place at =
      let test = eq-eqb (block_at place) block at in
      copied_is_paid Backup work block place is ∙ rw test (and_false (is_owed Backup work place))
    where
      and_false : (b : Bool) → b && false ≡ false
      and_false true = refl
      and_false false = refl

  -- what is paid of it
  pub owed_left : (b c : Bool) → b && c ≡ true → b ≡ true
  owed_left true c is = refl
  owed_left false c is = absurd (cc is)

  pub now_is : (place : ℕ) → is_owed Backup (after_copy block work) place ≡ (is_owed Backup work place && not (block_at place == block))
  now_is place = copied_is_paid Backup work block place is

  pub here : (place : ℕ) → is_left work place ≡ true → is_owed Backup (after_copy block work) place ≡ false → block_at place ≡ block
  here place owed paid = elim (cases_eq (block_at place) block) [
    | inl same ↦ same
    | inr apart ↦
        let test = ne_eqb (block_at place) block apart in
        let still : is_owed Backup (after_copy block work) place ≡ true = now_is place ∙ rw (owed, test) refl in
        let bad : true ≡ false = sym still ∙ paid in
        absurd (cc bad)
  ]

  -- what was put is what was owed of it
  module _ (source made left : List ℕ) (whole : length made ≡ work.size) (alike : length source ≡ length made)
      (put : IsPut Span (sectors_left work block) (bytes_at source start Span.len) made left (Unit {0})) where
    pub copies_owed : (due : ℕ → Bool) → CopiesOwed due (is_owed Backup work) (is_owed Backup (after_copy block work)) source made left
    copies_owed due = record {
      whole = put.whole;
      less = λ place now. owed_left (is_owed Backup work place) (not (block_at place == block)) (sym (now_is place) ∙ now);
      copied = λ place _ owed paid. elim (cases_lt place work.size) [
        | inl less ↦
            let at = here place owed paid in
            let low : start ≤ place = omega (arith, at) in
            let k : ℕ = place - start in
            let few : k < Span.len = omega (arith, at, less) in
            let e : start + k ≡ place = omega (arith, low) in
            put.all tt place (asked_is place less at ∙ owed) ∙ get_or-bytes_at source start Span.len k few ∙ ap (λ (j : ℕ). get_or source j 0) e
        | inr past ↦
            let len = put.whole in
            get_or_past left place 0 (omega (arith, past, len, whole)) ∙ sym (get_or_past source place 0 (omega (arith, past, alike, whole)))
      ];
      kept = λ place _ owed. elim (put.at place) [
        | inl same ↦ same
        | inr asked ↦
            let bad : true ≡ false = sym (of_asked place asked.0).2 ∙ owed in
            absurd (cc bad)
      ];
    }

    pub stays_ahead : (due : ℕ → Bool) (goal : List ℕ) → IsAhead due (is_owed Backup work) source goal made → IsAhead due (is_owed Backup (after_copy block work)) source goal left
    stays_ahead due goal ahead = record {
      source_whole = ahead.source_whole;
      made_whole = put.whole ∙ ahead.made_whole;
      at = λ place must. by place must (is_owed Backup work place) refl (is_owed Backup (after_copy block work) place) refl (ahead.at place must);
    }
      where
        paid : CopiesOwed due (is_owed Backup work) (is_owed Backup (after_copy block work)) source made left
        paid = copies_owed due

        by : (place : ℕ) → due place ≡ true → (was : Bool) → is_owed Backup work place ≡ was → (now : Bool) → is_owed Backup (after_copy block work) place ≡ now
            → IsPlaceAhead was (slice_index source place) (slice_index goal place) (slice_index made place)
            → IsPlaceAhead now (slice_index source place) (slice_index goal place) (slice_index left place)
        by place must true owed true still before = before
        by place must true owed false gone before = paid.copied place must owed gone ∙ before
        by place must false free true still before =
            let bad : true ≡ false = sym (paid.less place still) ∙ free in
            absurd (cc bad)
        by place must false free false gone before = paid.kept place must free ∙ before

-- ---- of the nodes

-- the disk of a node has its size
pub length_is : (nodes : Nodes) (node size : ℕ) → IsJoined nodes → AreTold nodes.devices → (row : Row) → row_at nodes node ≡ Some row → node_size nodes node ≡ size
    → length (disk_of nodes node) ≡ size
length_is nodes node size joined told row there is = length_disk nodes joined told node row there ∙ sym (ap size_by there) ∙ is

pub put_left : (work : JobWork) (block size sectors : ℕ) (source made left : List ℕ) (done : Type 0) → size ≡ work.size → sectors ≡ sectors_left work block → done
    → IsPut (block_of size block) sectors (bytes_at source (block * 65536) (block_of size block).len) made left done
    → IsPut (block_of work.size block) (sectors_left work block) (bytes_at source (block * 65536) (block_of work.size block).len) made left (Unit {0})
put_left work block size sectors source made left done same asked ok put =
    let any : IsPut (block_of size block) sectors (bytes_at source (block * 65536) (block_of size block).len) made left (Unit {0})
    = record { whole = put.whole; at = put.at; all = λ _. put.all ok } in
    subst (λ (n : ℕ). IsPut (block_of n block) (sectors_left work block) (bytes_at source (block * 65536) (block_of n block).len) made left (Unit {0})) same
    (subst (λ (bits : ℕ). IsPut (block_of size block) bits (bytes_at source (block * 65536) (block_of size block).len) made left (Unit {0})) asked any)

pub is_ok_of : (r : Result (Unit {0}) Fault) (done : Unit {0}) → r ≡ Ok done → IsOk r
is_ok_of r done is = rw is refl
