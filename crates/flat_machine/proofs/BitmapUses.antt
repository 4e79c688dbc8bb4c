-- A use of a bitmap by a job leaves what holds of bitmaps, and which job copies by which.
use Rattle.std.proofs.Common.{◌≡◌, ◌≢◌, ◌⊎◌, inl, inr, ℕ, Bool, true, false, cond, List, [], ◌∷◌, ◌++◌, length, map, refl, sym, ap, subst, ◌∙◌, Option, Some, None}
use Rattle.std.specs.Prelude.{◌==◌, ◌||◌, not}
use Rattle.std.specs.List.{find, Contains}
use Rattle.std.proofs.lemmas.Bool.{cases_eq, eq-eqb, eqb-true, ne_eqb}
use Rattle.std.proofs.lemmas.List.{length-replicate}
use Rattle.std.proofs.lemmas.List.FromFn.{length-map-range_with_len}
use Rattle.blk_graph.proofs.Members.{Contains-cases, Contains-here, Contains-map, Contains-nil, Contains-there}
use Rattle.blk_bits.specs.Granules.{contains}
use Rattle.blk_bitmaps.specs.declared.row.Bitmap.{Bitmap}
use Rattle.blk_bitmaps.specs.Calls.{rows_after_call, with_first, where_so, Freeze, NoteAll, Release}
use Rattle.blk_bitmaps.specs.Rows.{filled, use_ended, used, with_frozen}
use Rattle.qmp_rules.specs.declared.change.Change.TheVariants as change
use Rattle.qmp_rules.specs.declared.rows.BitmapRow.{BitmapRow}
use Rattle.qmp_rules.specs.declared.rows.JobRecord.{JobRecord}
use Rattle.qmp_rules.specs.declared.rows.UsedBitmap.{UsedBitmap}
use Rattle.qmp_rules.specs.Changes.{bitmap_changed, busy_by, changed, given_back, is_used_by, without_job}
use Rattle.qmp_rules.specs.Table.{RunTable, is_bitmap, job_at}
use Rattle.flat_machine.specs.Bitmaps.{AreBitmapsOf, IsSoundBitmap}
use Rattle.flat_machine.specs.InUse.{AreInUse, AreListed, IsUnused, is_copied_by, is_use_of}
use Rattle.flat_machine.proofs.Finds.{find-filter}
use Rattle.flat_machine.proofs.Fresh.{found-new}
use Rattle.flat_machine.proofs.InUse.{all_dirtied, use_begins, use_ends}

-- ---- a set stands aside exactly where a job uses a bitmap

abbrev AreSound : List Bitmap → Type 0
AreSound rows = (row : Bitmap) → Contains rows row → IsSoundBitmap row

sound-first : (test : Bitmap → Bool) (f : Bitmap → Bitmap) → ((row : Bitmap) → IsSoundBitmap row → IsSoundBitmap (f row)) → (rows : List Bitmap)
    → AreSound rows → AreSound (with_first test f rows)
sound-first test f keeps [] each row there = absurd (Contains-nil row there)
sound-first test f keeps (x ∷ rows) each row there = by_test (test x) there (sound-first test f keeps rows (λ r is. each r (Contains-there x rows r is)) row)
  where
    by_test : (b : Bool) → Contains (cond b (f x ∷ rows) (x ∷ with_first test f rows)) row → (Contains (with_first test f rows) row → IsSoundBitmap row) → IsSoundBitmap row
    by_test true there rest = elim (Contains-cases (f x) rows row there) [
      | inl here ↦ subst IsSoundBitmap (sym here) (keeps x (each x (Contains-here x rows)))
      | inr further ↦ each row (Contains-there x rows row further)
    ]
    by_test false there rest = elim (Contains-cases x (with_first test f rows) row there) [
      | inl here ↦ subst IsSoundBitmap (sym here) (each x (Contains-here x rows))
      | inr further ↦ rest further
    ]

sound-where : (test : Bitmap → Bool) (f : Bitmap → Bitmap) → ((row : Bitmap) → IsSoundBitmap row → IsSoundBitmap (f row)) → (rows : List Bitmap)
    → AreSound rows → AreSound (where_so test f rows)
sound-where test f keeps rows each row there =
    let from = Contains-map (λ r. cond (test r) (f r) r) rows row there in
    subst IsSoundBitmap (sym from.2) (by_test (test from.0) (each from.0 from.1))
  where
    by_test : {r : Bitmap} (b : Bool) → IsSoundBitmap r → IsSoundBitmap (cond b (f r) r)
    by_test {r} true sound = keeps r sound
    by_test false sound = sound

used-sound : (job : ℕ) (row : Bitmap) → IsSoundBitmap row → IsSoundBitmap (used job row)
used-sound job row sound = record {
  aside = refl;
  alike = λ set is. let same : row.dirty ≡ set = cc in ap length (sym same) ∙ sym (length-replicate (length row.dirty) false);
  countable = rw (length-replicate (length row.dirty) false) sound.countable;
}

filled-sound : (row : Bitmap) → IsSoundBitmap row → IsSoundBitmap (filled row)
filled-sound row sound = record {
  aside = sound.aside;
  alike = λ set is. sound.alike set is ∙ sym (length-replicate (length row.dirty) true);
  countable = rw (length-replicate (length row.dirty) true) sound.countable;
}

ended-sound : (drops : Bool) (row : Bitmap) → IsSoundBitmap row → IsSoundBitmap (use_ended drops row)
ended-sound drops row sound = record {
  aside = refl;
  alike = λ set is. absurd cc;
  countable = rw (long drops row.frozen) sound.countable;
}
  where
    long : (b : Bool) (frozen : Option (List Bool)) → length (cond b row.dirty (with_frozen row.dirty frozen)) ≡ length row.dirty
    long true frozen = refl
    long false None = refl
    long false (Some old) = length-map-range_with_len (λ k. contains row.dirty k || contains old k) 0 (length row.dirty)

listed-of : (old : List BitmapRow) (rows : List Bitmap) → AreBitmapsOf old rows → AreListed old rows
listed-of old rows was = record { listed = was.listed; single = was.single }

pub begins_sound : (old : List BitmapRow) (rows : List Bitmap) (source job : ℕ) (by : UsedBitmap) → AreBitmapsOf old rows
    → AreBitmapsOf (busy_by job (Some by) source old) (rows_after_call rows (Freeze source by.name job))
begins_sound old rows source job by was =
    let now = (use_begins old rows source job by (listed-of old rows was)).named in
    record { listed = now.listed; single = now.single; each = sound-first _ (used job) (used-sound job) rows was.each }

pub dirtied_sound : (t : RunTable) (rows : List Bitmap) (node : ℕ) → AreBitmapsOf t.bitmaps rows
    → AreBitmapsOf t.bitmaps (rows_after_call rows (NoteAll node))
dirtied_sound t rows node was =
    let now = (all_dirtied node t rows (listed-of t.bitmaps rows was)).named in
    record { listed = now.listed; single = now.single; each = sound-where _ filled filled-sound rows was.each }

pub ends_sound : (t : RunTable) (number : ℕ) (drops : Bool) (rows : List Bitmap) → AreInUse t → AreBitmapsOf t.bitmaps rows
    → AreBitmapsOf (map (given_back number) t.bitmaps) (rows_after_call rows (Release number drops))
ends_sound t number drops rows uses was =
    let now = (use_ends t number drops rows uses (listed-of t.bitmaps rows was)).named in
    record { listed = now.listed; single = now.single; each = sound-where _ (use_ended drops) (ended-sound drops) rows was.each }

-- ---- each by the job that uses it

-- the job of a new row is the one of its number
new_job : (t : RunTable) (row : JobRecord) → job_at t row.number ≡ None → (number : ℕ)
    → ((number ≡ row.number) × (job_at (changed t (change.StartJob row)) number ≡ Some row))
    ⊎ ((number ≢ row.number) × (job_at (changed t (change.StartJob row)) number ≡ job_at t number))
unfolding changed
new_job t row fresh number = elim (cases_eq number row.number) [
  | inl same ↦ inl (
    same,
    subst (λ n. find (λ j. j.number == n) (t.jobs ++ row ∷ []) ≡ Some row) (sym same)
        (found-new (λ j. j.number == row.number) t.jobs row fresh (eq-eqb row.number row.number refl)),
  )
  | inr other ↦ inr (other, still other t.jobs)
]
  where
    still : number ≢ row.number → (jobs : List JobRecord) → find (λ j. j.number == number) (jobs ++ row ∷ []) ≡ find (λ j. j.number == number) jobs
    still other [] = rw (ne_eqb row.number number (λ same. other (sym same))) refl
    still other (j ∷ jobs) = ap (λ (found : Option JobRecord). cond (j.number == number) (Some j) found) (still other jobs)

same_use_of : (found : Option JobRecord) (row : BitmapRow) (busy : Option ℕ) → is_use_of found (record row { busy = busy }) ≡ is_use_of found row
same_use_of None row busy = refl
same_use_of (Some job) row busy = by_bitmap job.bitmap
  where
    by_bitmap : (by : Option UsedBitmap) → is_copied_by job.source by (record row { busy = busy }) ≡ is_copied_by job.source by row
    by_bitmap None = refl
    by_bitmap (Some used) = refl

-- a job begins that is to copy by a bitmap in nobody's use
pub starts_use : (t : RunTable) (row : JobRecord) → AreInUse t → job_at t row.number ≡ None → IsUnused t row.source row.bitmap
    → AreInUse (changed t (change.StartJob row))
unfolding changed
starts_use t row uses fresh unused = by_bitmap row.bitmap refl
  where
    now : RunTable
    now = changed t (change.StartJob row)

    -- who isn't there uses none
    nobody : (r : BitmapRow) → Contains t.bitmaps r → is_used_by row.number r.busy ≡ false
    nobody r there = uses r there row.number ∙ ap (λ (j : Option JobRecord). is_use_of j r) fresh

    kept : (r : BitmapRow) → Contains t.bitmaps r → is_copied_by row.source row.bitmap r ≡ false → (number : ℕ)
        → is_used_by number r.busy ≡ is_use_of (job_at now number) r
    kept r there other number = elim (new_job t row fresh number) [
      | inl is ↦ ap (λ n. is_used_by n r.busy) is.0 ∙ nobody r there ∙ sym other ∙ sym (ap (λ (j : Option JobRecord). is_use_of j r) is.1)
      | inr is ↦ uses r there number ∙ sym (ap (λ (j : Option JobRecord). is_use_of j r) is.1)
    ]

    taken : (r : BitmapRow) → Contains t.bitmaps r → is_copied_by row.source row.bitmap r ≡ true → (number : ℕ)
        → is_used_by number (Some row.number) ≡ is_use_of (job_at now number) (record r { busy = Some row.number })
    taken r there copies number = elim (new_job t row fresh number) [
      | inl is ↦
          eq-eqb row.number number (sym is.0) ∙ sym copies ∙ sym (same_use_of (Some row) r (Some row.number))
          ∙ sym (ap (λ (j : Option JobRecord). is_use_of j (record r { busy = Some row.number })) is.1)
      | inr is ↦
          ne_eqb row.number number (λ same. is.0 (sym same))
          ∙ sym (ap (is_used_by number) (unused r there copies)) ∙ uses r there number ∙ sym (same_use_of (job_at t number) r (Some row.number))
          ∙ sym (ap (λ (j : Option JobRecord). is_use_of j (record r { busy = Some row.number })) is.1)
    ]

    by_bitmap : (by : Option UsedBitmap) → row.bitmap ≡ by → (r : BitmapRow) → Contains (busy_by row.number by row.source t.bitmaps) r → (number : ℕ)
        → is_used_by number r.busy ≡ is_use_of (job_at now number) r
    by_bitmap None is r there number = kept r there (ap (λ b. is_copied_by row.source b r) is) number
    by_bitmap (Some used) is r there number =
        let from = Contains-map (bitmap_changed row.source used.name (λ b. record b { busy = Some row.number })) t.bitmaps r there in
        subst (λ (x : BitmapRow). is_used_by number x.busy ≡ is_use_of (job_at now number) x) (sym from.2)
        (by_test from.0 from.1 (is_bitmap row.source used.name from.0) (ap (λ b. is_copied_by row.source b from.0) is))
      where
        by_test : (x : BitmapRow) → Contains t.bitmaps x → (b : Bool) → is_copied_by row.source row.bitmap x ≡ b
            → is_used_by number (cond b (record x { busy = Some row.number }) x).busy ≡ is_use_of (job_at now number) (cond b (record x { busy = Some row.number }) x)
        by_test x there true copies = taken x there copies number
        by_test x there false other = kept x there other number

-- a job is over
pub ends_use : (t : RunTable) (number slot : ℕ) (drops : Bool) → AreInUse t → AreInUse (changed t (change.EndJob number slot drops))
unfolding changed
ends_use t number slot drops uses r there n =
    let from = Contains-map (given_back number) t.bitmaps r there in
    subst (λ (x : BitmapRow). is_used_by n x.busy ≡ is_use_of (job_at now n) x) (sym from.2) (by_test from.0 from.1 (is_used_by number from.0.busy) refl (cases_eq n number))
  where
    now : RunTable
    now = changed t (change.EndJob number slot drops)

    gone : (jobs : List JobRecord) → find (λ j. j.number == number) (without_job number jobs) ≡ None
    gone [] = refl
    gone (j ∷ jobs) = by_number (j.number == number) refl (gone jobs)
      where
        by_number : (b : Bool) → (j.number == number) ≡ b → find (λ x. x.number == number) (without_job number jobs) ≡ None
            → find (λ x. x.number == number) (cond (not b) (j ∷ without_job number jobs) (without_job number jobs)) ≡ None
        by_number true is rest = rest
        by_number false is rest = rw is rest

    other : n ≢ number → job_at now n ≡ job_at t n
    other differ = find-filter (λ j. j.number == n) (λ j. not (j.number == number))
        (λ j e. ap not (ne_eqb j.number number (λ same. differ (sym (eqb-true j.number n e) ∙ same)))) t.jobs

    -- who uses it is one
    alone : (busy : Option ℕ) → is_used_by number busy ≡ true → n ≢ number → is_used_by n busy ≡ false
    alone None used differ = refl
    alone (Some job) used differ = ne_eqb job n (λ same. differ (sym same ∙ eqb-true job number used))

    by_test : (x : BitmapRow) → Contains t.bitmaps x → (b : Bool) → is_used_by number x.busy ≡ b → ((n ≡ number) ⊎ (n ≢ number))
        → is_used_by n (cond b (record x { busy = None }) x).busy ≡ is_use_of (job_at now n) (cond b (record x { busy = None }) x)
    by_test x at true used (inl same) = sym (ap (λ (j : Option JobRecord). is_use_of j (record x { busy = None })) (ap (job_at now) same ∙ gone t.jobs))
    by_test x at true used (inr differ) =
        sym (alone x.busy used differ) ∙ uses x at n ∙ sym (same_use_of (job_at t n) x None)
        ∙ sym (ap (λ (j : Option JobRecord). is_use_of j (record x { busy = None })) (other differ))
    by_test x at false unused (inl same) =
        ap (λ m. is_used_by m x.busy) same ∙ unused ∙ sym (ap (λ (j : Option JobRecord). is_use_of j x) (ap (job_at now) same ∙ gone t.jobs))
    by_test x at false unused (inr differ) = uses x at n ∙ sym (ap (λ (j : Option JobRecord). is_use_of j x) (other differ))
