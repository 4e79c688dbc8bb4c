-- What a block that is copied of a top makes of the disks, and of what a commit owes.
use Rattle.std.proofs.Common.{◌≡◌, ℕ, ◌+◌, ◌-◌, ◌<◌, ◌≤◌, ◌==◌, nat_le, nat_lt, Bool, true, false, not, List, length, get_or, Some, None, Result, Ok, Err, refl, sym, ◌∙◌, ap, subst, arith, inl, inr}
use Rattle.std.specs.Prelude.{◌&&◌, slice_index, unwrap_or}
use Rattle.std.proofs.lemmas.Bool.{cases_eq, cases_lt, ne_eqb}
use Rattle.std.proofs.lemmas.Bool.Decides.{nat_tests}
use Rattle.std.proofs.lemmas.List.{ext_get_or, get_or_past}
use Rattle.blk_base.specs.Content.{bytes_at}
use Rattle.blk_base.specs.Pieces.{Extent, end_of}
use Rattle.blk_base.specs.declared.fault.Fault.{Fault}
use Rattle.blk_base.proofs.Contents.{get_or-bytes_at}
use Rattle.blk_nodes.specs.Contents.{disk_of}
use Rattle.blk_nodes.specs.Nodes.{Nodes}
use Rattle.block_jobs.specs.Ahead.{IsAhead, IsPlaceAhead, is_owed}
use Rattle.block_jobs.specs.Work.{IsJobWork, JobWork, after_copy, block_at}
use Rattle.block_jobs.proofs.Steps.{copied_is_paid}
use Rattle.qmp_codec.specs.declared.event.JobKind.TheVariants.{Commit}
use Rattle.node_copies.specs.Putting.{IsPut}
use Rattle.node_copies.specs.Sectors.{block_of, has_sector, is_asked, sector_at}
use Rattle.job_copies.specs.Guarding.{after_guard}
use Rattle.job_copies.specs.Passing.{PassesBlock, all_sectors}
use Rattle.job_copies.proofs.Settled.{all_asked, asked_inside}

-- the bytes of a block
abbrev pub bytes_in : List ℕ → Extent → List ℕ
bytes_in disk block = bytes_at disk block.start block.len

inside : (block : Extent) (sectors place : ℕ) → is_asked block sectors place ≡ true → (block.start ≤ place) × (place < end_of block)
inside block sectors place asked =
    let parts = two (nat_le block.start place) (nat_lt place (end_of block)) (has_sector sectors (sector_at block place)) asked in (
      let a = parts.0 in grind (arith, nat_tests),
      let b = parts.1 in grind (arith, nat_tests),
    )
  where
    two : (a b c : Bool) → (a && b && c) ≡ true → (a ≡ true) × (b ≡ true)
    two true true c is = (refl, refl)
    two true false c is = absurd (cc is)
    two false b c is = absurd (cc is)

-- a byte of a block
byte_in : (disk : List ℕ) (block : Extent) (place : ℕ) → block.start ≤ place → place < end_of block
    → get_or (bytes_in disk block) (place - block.start) 0 ≡ get_or disk place 0
byte_in disk block place from below =
    let k : ℕ = place - block.start in
    let at : block.start + k ≡ place = omega (arith, from) in
    get_or-bytes_at disk block.start block.len k (omega (arith, from, below)) ∙ ap (λ (j : ℕ). get_or disk j 0) at

-- a disk that gets its own bytes stays, however many of them
pub put_same : (block : Extent) (sectors : ℕ) (disk left : List ℕ) (done : Type 0) → IsPut block sectors (bytes_in disk block) disk left done → left ≡ disk
put_same block sectors disk left done put = ext_get_or 0 left disk put.whole (λ place less. elim (put.at place) [
  | inl same ↦ same
  | inr asked ↦ let at = inside block sectors place asked.0 in asked.1 ∙ byte_in disk block place at.0 at.1
])

-- one that has the bytes of another there
pub put_none : (block : Extent) (disk made : List ℕ) → bytes_in disk block ≡ bytes_in made block → IsPut block all_sectors (bytes_in disk block) made made (Unit {0})
put_none block disk made same = record {
  whole = refl;
  at = λ place. inl refl;
  all = λ done place asked.
      let at = inside block all_sectors place asked in
      sym (byte_in made block place at.0 at.1) ∙ ap (λ (b : List ℕ). get_or b (place - block.start) 0) (sym same);
}

module _ (work : JobWork) (is : IsJobWork work) (block : ℕ) (disk made left : List ℕ) (whole : length made ≡ work.size) (alike : length disk ≡ length made)
    (put : IsPut (block_of work.size block) all_sectors (bytes_in disk (block_of work.size block)) made left (Unit {0}))
    (due : ℕ → Bool) (ahead : IsAhead due (is_owed Commit work) disk disk made) where
  abbrev Now : ℕ → Bool
  Now place = is_owed Commit (after_copy block work) place

  -- what is copied
  copied : (place : ℕ) → block_at place ≡ block → slice_index left place ≡ slice_index disk place
  copied place here = elim (cases_lt place work.size) [
    | inl less ↦
        let asked = all_asked work.size block place less here in
        let at = inside (block_of work.size block) all_sectors place asked in
        put.all tt place asked ∙ byte_in disk (block_of work.size block) place at.0 at.1
    | inr past ↦
        let len = put.whole in
        get_or_past left place 0 (omega (arith, past, len, whole)) ∙ sym (get_or_past disk place 0 (omega (arith, past, alike, whole)))
  ]

  -- and what isn't
  stays : (place : ℕ) → (block_at place ≡ block → ⊥) → slice_index left place ≡ slice_index made place
  stays place apart = elim (put.at place) [
    | inl same ↦ same
    | inr asked ↦ absurd (apart (asked_inside work.size block all_sectors place asked.0))
  ]

  free_before : (place : ℕ) → (block_at place ≡ block → ⊥) → Now place ≡ false → is_owed Commit work place ≡ false
  free_before place apart free =
      let test = ne_eqb (block_at place) block apart in
      let paid : (is_owed Commit work place && not (block_at place == block)) ≡ false = sym (copied_is_paid Commit work block place is) ∙ free in
      by (is_owed Commit work place) (rw test at paid)
    where
      by : (b : Bool) → (b && true) ≡ false → b ≡ false
      by true bad = bad
      by false same = refl

  pub commit_ahead : IsAhead due (is_owed Commit (after_copy block work)) disk disk left
  commit_ahead = record {
    source_whole = refl;
    made_whole = put.whole ∙ ahead.made_whole;
    at = λ place must. by place must (Now place) refl;
  }
    where
      by : (place : ℕ) → due place ≡ true → (now : Bool) → Now place ≡ now
          → IsPlaceAhead now (slice_index disk place) (slice_index disk place) (slice_index left place)
      by place must true owed = refl
      by place must false free = elim (cases_eq (block_at place) block) [
        | inl here ↦ copied place here
        | inr apart ↦
            stays place apart
            ∙ subst (λ (b : Bool). IsPlaceAhead b (slice_index disk place) (slice_index disk place) (slice_index made place)) (free_before place apart free) (ahead.at place must)
      ]

-- ---- of the nodes

-- a put is said by the size of the work, and where that went well which is told so
pub put_sized : (size whole block : ℕ) (disk made left : List ℕ) (done told : Type 0) → size ≡ whole → (told → done)
    → IsPut (block_of size block) all_sectors (bytes_in disk (block_of size block)) made left done
    → IsPut (block_of whole block) all_sectors (bytes_in disk (block_of whole block)) made left told
put_sized size whole block disk made left done told same to put =
    subst (λ (n : ℕ). IsPut (block_of n block) all_sectors (bytes_in disk (block_of n block)) made left told) same
    (record { whole = put.whole; at = put.at; all = λ is. put.all (to is) })

-- a work that has met no fault is behind its copy
behind_copy : (work now : JobWork) (block : ℕ) (result : Result (Unit {0}) Fault) → now ≡ after_guard result block work → now.met ≡ None → now ≡ after_copy block work
behind_copy work now block (Ok done) is none = is
behind_copy work now block (Err fault) is none =
    let bad : Some (unwrap_or work.met fault) ≡ None = sym (ap (λ (w : JobWork). w.met) is) ∙ none in
    absurd (cc bad)

module _ (old new : Nodes) (work now : JobWork) (top to block : ℕ) where
  abbrev Span : Extent
  Span = block_of work.size block

  abbrev Put : Type 0 → Type 0
  Put done = IsPut Span all_sectors (bytes_in (disk_of old top) Span) (disk_of old to) (disk_of new to) done

  -- a top that gets its own bytes reads as before
  pub passed_disk : (must : Bool) (done : Type 0) → top ≡ to → PassesBlock must old new work now top to block → (must ≡ true → Put done) → disk_of new to ≡ disk_of old to
  passed_disk true done same passes put =
      put_same Span all_sectors (disk_of old to) (disk_of new to) done
      (subst (λ (n : ℕ). IsPut Span all_sectors (bytes_in (disk_of old n) Span) (disk_of old to) (disk_of new to) done) same (put refl))
  passed_disk false done same passes put = ap (λ (n : Nodes). disk_of n to) passes.0

  module _ (is : IsJobWork work) (whole : length (disk_of old to) ≡ work.size) (none : now.met ≡ None)
      (due : ℕ → Bool) (ahead : IsAhead due (is_owed Commit work) (disk_of old top) (disk_of old top) (disk_of old to)) where
    after : (left : List ℕ) → now ≡ after_copy block work → IsPut Span all_sectors (bytes_in (disk_of old top) Span) (disk_of old to) left (Unit {0})
        → IsAhead due (is_owed Commit now) (disk_of old top) (disk_of old top) left
    after left same put =
        subst (λ (w : JobWork). IsAhead due (is_owed Commit w) (disk_of old top) (disk_of old top) left) (sym same)
        (commit_ahead work is block (disk_of old top) (disk_of old to) left whole (sym ahead.made_whole) put due ahead)

    pub passed_ahead : (must : Bool) → PassesBlock must old new work now top to block → (must ≡ true → Put (now.met ≡ None))
        → (must ≡ false → bytes_in (disk_of old top) Span ≡ bytes_in (disk_of old to) Span)
        → IsAhead due (is_owed Commit now) (disk_of old top) (disk_of old top) (disk_of new to)
    passed_ahead true passes put bare =
        after (disk_of new to) (behind_copy work now block passes.result passes.work none)
        (put_sized work.size work.size block (disk_of old top) (disk_of old to) (disk_of new to) (now.met ≡ None) (Unit {0}) refl (λ _. none) (put refl))
    passed_ahead false passes put bare =
        subst (λ (n : Nodes). IsAhead due (is_owed Commit now) (disk_of old top) (disk_of old top) (disk_of n to)) (sym passes.0)
        (after (disk_of old to) passes.1 (put_none Span (disk_of old top) (disk_of old to) (bare refl)))
