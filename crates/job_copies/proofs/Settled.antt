-- What a block that is written for a job makes of what is owed.
use Rattle.std.proofs.Common.{◌≡◌, ◌≢◌, ℕ, ◌+◌, ◌-◌, ◌*◌, ◌/◌, ◌%◌, ◌^◌, ◌<◌, ◌≤◌, ◌==◌, nat_le, nat_lt, Bool, true, false, not, cond, List, [], ◌∷◌, length, replicate, Result, Ok, Err, refl, sym, ◌∙◌, ap, subst, arith, inl, inr}
use Rattle.std.specs.Prelude.{◌&&◌, ◌||◌, slice_index}
use Rattle.std.specs.Simd.Lanes.{mask_l}
use Rattle.std.proofs.lemmas.Bool.{cases_eq, cases_lt, eq-eqb, ne_eqb}
use Rattle.std.proofs.lemmas.Bool.Decides.{nat_tests}
use Rattle.std.proofs.lemmas.List.{get_or-replicate, get_or_past}
use Rattle.std.proofs.lemmas.Simd.{bit_mask_l}
use Rattle.blk_base.specs.Pieces.{end_of}
use Rattle.blk_base.specs.declared.fault.Fault.{Fault}
use Rattle.blk_base.specs.declared.fault.Fault.TheVariants as faults
use Rattle.blk_base.specs.declared.fault.Outcome.{Outcome}
use Rattle.blk_base.specs.declared.fault.Outcome.TheVariants.{Good, Torn, Io, NoSpace}
use Rattle.blk_copy.specs.Rows.{has_row, is_in_flight, is_of}
use Rattle.blk_copy.specs.declared.transfers.Transfer.{Transfer}
use Rattle.block_jobs.specs.Ahead.{IsAhead, IsPlaceAhead, is_owed}
use Rattle.block_jobs.specs.Work.{IsJobWork, JobWork, after_copy, after_settle, block_at, has_open, is_left, sectors_left}
use Rattle.block_jobs.proofs.Steps.{settled_is_left}
use Rattle.qmp_codec.specs.declared.event.JobKind.{JobKind}
use Rattle.qmp_codec.specs.declared.event.JobKind.TheVariants.{Backup, Commit, Mirror, Stream}
use Rattle.node_copies.specs.Putting.{IsPut, answer_of}
use Rattle.node_copies.specs.Sectors.{block_of, has_sector, is_asked, sector_at}
use Rattle.job_copies.specs.Settling.{HoldsGoal, settled_sectors}
use Rattle.job_copies.proofs.Left.{asked_is, bit_is, here, now_is, of_asked, owed_left}

-- ---- all sectors

pub all_set : (s : ℕ) → s < 128 → has_sector (2 ^ 128 - 1) s ≡ true
all_set s less =
    let all : mask_l (replicate 128 true) ≡ 2 ^ 128 - 1 = refl in
    ap (λ (n : ℕ). has_sector n s) (sym all)
    ∙ bit_is true (mask_l (replicate 128 true) / 2 ^ s % 2)
    (bit_mask_l (replicate 128 true) s ∙ ap (λ (b : Bool). cond b 1 0) (get_or-replicate 128 s true false less))

pub all_asked : (size block place : ℕ) → place < size → block_at place ≡ block → is_asked (block_of size block) (2 ^ 128 - 1) place ≡ true
all_asked size block place less at =
    let low : block * 65536 ≤ place = omega (arith, at) in
    let high : place < block * 65536 + 65536 = omega (arith, at) in
    let first : nat_le (block * 65536) place ≡ true = grind (arith, nat_tests) in
    let ends : place < end_of (block_of size block) = omega (arith, low, high, less) in
    let last : nat_lt place (end_of (block_of size block)) ≡ true = grind (arith, nat_tests) in
    rw (first, last) (all_set ((place - block * 65536) / 512) (omega (arith, low, high)))

pub asked_inside : (size block sectors place : ℕ) → is_asked (block_of size block) sectors place ≡ true → block_at place ≡ block
asked_inside size block sectors place asked =
    let parts = two (nat_le (block * 65536) place) (nat_lt place (end_of (block_of size block))) (has_sector sectors (sector_at (block_of size block) place)) asked in
    let low : block * 65536 ≤ place = let a = parts.0 in grind (arith, nat_tests) in
    let ends : place < end_of (block_of size block) = let b = parts.1 in grind (arith, nat_tests) in
    omega (arith, low, ends)
  where
    two : (a b c : Bool) → (a && b && c) ≡ true → (a ≡ true) × (b ≡ true)
    two true true c is = (refl, refl)
    two true false c is = absurd (cc is)
    two false b c is = absurd (cc is)

-- a copy in flight is open
pub flies_open : (work : JobWork) (t : Transfer) → t.job ≡ work.job → is_in_flight t work.rows ≡ true → has_open work t.cluster ≡ true
flies_open work t own flies = ap (λ (j : ℕ). has_row j t.cluster work.rows) (sym own) ∙ among work.rows flies
  where
    both : (a b c d : Bool) → ((a && b) || c) ≡ true → (c ≡ true → d ≡ true) → (a || d) ≡ true
    both true b c d is later = refl
    both false b c d is later = later is

    among : (rows : List Transfer) → is_in_flight t rows ≡ true → has_row t.job t.cluster rows ≡ true
    among [] is = absurd (cc is)
    among (row ∷ rows) is = both (is_of t.job t.cluster row) (row.position == t.position) (is_in_flight t rows) (has_row t.job t.cluster rows) is (among rows)

module _ (work : JobWork) (is : IsJobWork work) (block : ℕ) (source goal made left bytes : List ℕ) (due : ℕ → Bool) (whole : length made ≡ work.size) where
  -- of a mirror all of its block is written
  module _ (flies : has_open work block ≡ true) (put : IsPut (block_of work.size block) (2 ^ 128 - 1) bytes made left (Unit {0}))
      (holds : HoldsGoal Mirror work block due goal bytes) (ahead : IsAhead due (is_owed Mirror work) source goal made) where
    abbrev After : JobWork
    After = after_settle Mirror block work

    abbrev Here : Bool → ℕ → ℕ → Type 0
    Here owed place byte = IsPlaceAhead owed (slice_index source place) (slice_index goal place) byte

    past_end : (place : ℕ) → work.size ≤ place → slice_index left place ≡ slice_index goal place
    past_end place past =
        let len = put.whole in
        let all = ahead.made_whole in
        get_or_past left place 0 (omega (arith, past, len, whole)) ∙ sym (get_or_past goal place 0 (omega (arith, past, all, whole)))

    at_block : (place : ℕ) → due place ≡ true → block_at place ≡ block → Here (is_owed Mirror After place) place (slice_index left place)
    at_block place must at =
        let opens : has_open work (block_at place) ≡ true = ap (has_open work) at ∙ flies in
        let owed : is_owed Mirror work place ≡ true = ap (λ (b : Bool). is_left work place || b) opens ∙ or_true (is_left work place) in
        let before : slice_index source place ≡ slice_index goal place = subst (λ (b : Bool). Here b place (slice_index made place)) owed (ahead.at place must) in
        let test = eq-eqb (block_at place) block at in
        let now : is_owed Mirror After place ≡ is_left work place
        = settled_is_left work block place ∙ rw (test, opens) (or_none (is_left work place)) in
        subst (λ (b : Bool). Here b place (slice_index left place)) (sym now) (by (is_left work place) refl before)
      where
        or_true : (b : Bool) → b || true ≡ true
        or_true true = refl
        or_true false = refl

        or_none : (b : Bool) → b || false ≡ b
        or_none true = refl
        or_none false = refl

        by : (b : Bool) → is_left work place ≡ b → slice_index source place ≡ slice_index goal place → Here b place (slice_index left place)
        by true still before = before
        by false gone before = elim (cases_lt place work.size) [
          | inl less ↦ put.all tt place (all_asked work.size block place less at) ∙ holds place less at (ap not gone) must
          | inr past ↦ past_end place past
        ]

    apart_block : (place : ℕ) → due place ≡ true → block_at place ≢ block → Here (is_owed Mirror After place) place (slice_index left place)
    apart_block place must apart =
        let test = ne_eqb (block_at place) block apart in
        let now : is_owed Mirror After place ≡ is_owed Mirror work place
        = settled_is_left work block place ∙ rw test (ap (λ (b : Bool). is_left work place || b) (and_true (has_open work (block_at place)))) in
        let same : slice_index left place ≡ slice_index made place = elim (put.at place) [
          | inl stays ↦ stays
          | inr asked ↦ absurd (apart (asked_inside work.size block (2 ^ 128 - 1) place asked.0))
        ] in
        subst (λ (b : Bool). Here b place (slice_index left place)) (sym now)
        (subst (Here (is_owed Mirror work place) place) (sym same) (ahead.at place must))
      where
        and_true : (b : Bool) → b && true ≡ b
        and_true true = refl
        and_true false = refl

    pub mirror_ahead : IsAhead due (is_owed Mirror After) source goal left
    mirror_ahead = record {
      source_whole = ahead.source_whole;
      made_whole = put.whole ∙ ahead.made_whole;
      at = λ place must. elim (cases_eq (block_at place) block) [
        | inl at ↦ at_block place must at
        | inr apart ↦ apart_block place must apart
      ];
    }

  -- of any other what is left of it
  module _ (put : IsPut (block_of work.size block) (sectors_left work block) bytes made left (Unit {0})) (holds : HoldsGoal Backup work block due goal bytes)
      (ahead : IsAhead due (is_owed Backup work) source goal made) where
    abbrev Then : JobWork
    Then = after_copy block work

    by_owed : (place : ℕ) → due place ≡ true → (was : Bool) → is_owed Backup work place ≡ was → (now : Bool) → is_owed Backup Then place ≡ now
        → IsPlaceAhead was (slice_index source place) (slice_index goal place) (slice_index made place)
        → IsPlaceAhead now (slice_index source place) (slice_index goal place) (slice_index left place)
    by_owed place must true owed true still before = before
    by_owed place must true owed false gone before =
        let at : block_at place ≡ block = here work is block place owed gone in
        elim (cases_lt place work.size) [
          | inl less ↦ put.all tt place (asked_is work is block place less at ∙ owed) ∙ holds place less at owed must
          | inr past ↦
              let len = put.whole in
              let all = ahead.made_whole in
              get_or_past left place 0 (omega (arith, past, len, whole)) ∙ sym (get_or_past goal place 0 (omega (arith, past, all, whole)))
        ]
    by_owed place must false free true still before =
        let was : is_owed Backup work place ≡ true = owed_left work is block (is_owed Backup work place) (not (block_at place == block)) (sym (now_is work is block place) ∙ still) in
        let bad : true ≡ false = sym was ∙ free in
        absurd (cc bad)
    by_owed place must false free false gone before = elim (put.at place) [
      | inl same ↦ same ∙ before
      | inr asked ↦
          let bad : true ≡ false = sym (of_asked work is block place asked.0).2 ∙ free in
          absurd (cc bad)
    ]

    pub other_ahead : IsAhead due (is_owed Backup Then) source goal left
    other_ahead = record {
      source_whole = ahead.source_whole;
      made_whole = put.whole ∙ ahead.made_whole;
      at = λ place must. by_owed place must (is_owed Backup work place) refl (is_owed Backup Then place) refl (ahead.at place must);
    }

  -- by kind
  pub settle_ahead : (kind : JobKind) → has_open work block ≡ true → IsPut (block_of work.size block) (settled_sectors kind work block) bytes made left (Unit {0})
      → HoldsGoal kind work block due goal bytes → IsAhead due (is_owed kind work) source goal made → IsAhead due (is_owed kind (after_settle kind block work)) source goal left
  settle_ahead Mirror flies put holds ahead = mirror_ahead flies put holds ahead
  settle_ahead Stream flies put holds ahead = as_ahead (other_ahead put holds (from_ahead ahead))
    where
      from_ahead : IsAhead due (is_owed Stream work) source goal made → IsAhead due (is_owed Backup work) source goal made
      from_ahead a = record { source_whole = a.source_whole; made_whole = a.made_whole; at = a.at }

      as_ahead : IsAhead due (is_owed Backup (after_copy block work)) source goal left → IsAhead due (is_owed Stream (after_settle Stream block work)) source goal left
      as_ahead a = record { source_whole = a.source_whole; made_whole = a.made_whole; at = a.at }
  settle_ahead Commit flies put holds ahead = as_ahead (other_ahead put holds (from_ahead ahead))
    where
      from_ahead : IsAhead due (is_owed Commit work) source goal made → IsAhead due (is_owed Backup work) source goal made
      from_ahead a = record { source_whole = a.source_whole; made_whole = a.made_whole; at = a.at }

      as_ahead : IsAhead due (is_owed Backup (after_copy block work)) source goal left → IsAhead due (is_owed Commit (after_settle Commit block work)) source goal left
      as_ahead a = record { source_whole = a.source_whole; made_whole = a.made_whole; at = a.at }
  settle_ahead Backup flies put holds ahead = other_ahead put holds ahead

-- ---- of a write that went well

pub good_of : (o : Outcome) (r : Result (Unit {0}) Fault) (done : Unit {0}) → r ≡ answer_of o → r ≡ Ok done → o ≡ Good
good_of Good r done is ok = refl
good_of (Torn n dev count) r done is ok = let bad : Err (faults.Io dev count) ≡ Ok done = sym is ∙ ok in absurd (cc bad)
good_of (Io dev count) r done is ok = let bad : Err (faults.Io dev count) ≡ Ok done = sym is ∙ ok in absurd (cc bad)
good_of (NoSpace dev) r done is ok = let bad : Err (faults.NoSpace dev) ≡ Ok done = sym is ∙ ok in absurd (cc bad)

pub put_settled : (work : JobWork) (kind : JobKind) (block size sectors : ℕ) (bytes made left : List ℕ) (done : Type 0) → size ≡ work.size
    → sectors ≡ settled_sectors kind work block → done → IsPut (block_of size block) sectors bytes made left done
    → IsPut (block_of work.size block) (settled_sectors kind work block) bytes made left (Unit {0})
put_settled work kind block size sectors bytes made left done same asked ok put =
    let any : IsPut (block_of size block) sectors bytes made left (Unit {0}) = record { whole = put.whole; at = put.at; all = λ _. put.all ok } in
    subst (λ (n : ℕ). IsPut (block_of n block) (settled_sectors kind work block) bytes made left (Unit {0})) same
    (subst (λ (bits : ℕ). IsPut (block_of size block) bits bytes made left (Unit {0})) asked any)
