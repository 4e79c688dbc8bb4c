-- A use of a bitmap by a job, from its start to its end: what calls of the table of bitmaps make of its rows is what starts and
-- ends make of the table of names and of dirty granules.
use Rattle.std.proofs.Common.{◌≡◌, inl, inr, ℕ, Bool, true, false, cond, List, [], ◌∷◌, map, refl, sym, ap, subst, ◌∙◌, Option, Some, None, option_map}
use Rattle.std.specs.Prelude.{◌==◌, ◌&&◌}
use Rattle.std.specs.List.{find, Contains}
use Rattle.blk_graph.proofs.Members.{Contains-cases, Contains-here, Contains-nil, Contains-there}
use Rattle.blk_bitmaps.specs.declared.row.Bitmap.{Bitmap}
use Rattle.blk_bitmaps.specs.Rows.{is_named, records, used, filled, use_ended}
use Rattle.blk_bitmaps.specs.Rows as rows_of
use Rattle.blk_bitmaps.specs.Calls.{with_first, where_so}
use Rattle.blk_bitmaps.proofs.Views.{changed-view, found-view, first-view, mapped-view, where-view, found-itself, single-same}
use Rattle.qmp_rules.specs.declared.rows.BitmapRow.{BitmapRow}
use Rattle.qmp_rules.specs.declared.rows.JobRecord.{JobRecord}
use Rattle.qmp_rules.specs.declared.rows.UsedBitmap.{UsedBitmap}
use Rattle.qmp_rules.specs.Changes.{busy_by, given_back, is_used_by}
use Rattle.qmp_rules.specs.Table.{RunTable, is_bitmap, job_at}
use Rattle.flat_machine.specs.Bitmaps.{bitmap_of, dirty_in}
use Rattle.flat_machine.specs.Changed.{back_of, back_by}
use Rattle.flat_machine.specs.InUse.{AreListed, AreWith, AreInUse, is_copied_by, is_use_of}
use Rattle.flat_machine.specs.Jobs.{aside_by}
use Rattle.flat_machine.specs.Marking.{is_dirty_of, made_dirty, put_aside, taken_back, records_writes, where_recording}

-- ---- a use begins

pub use_begins : (old : List BitmapRow) (rows : List Bitmap) (source job : ℕ) (by : UsedBitmap) → AreListed old rows
    → AreWith (busy_by job (Some by) source old) (aside_by source (Some by) (map dirty_in rows)) (with_first (is_named source by.name) (used job) rows)
use_begins old rows source job by was = record {
  named = record {
    listed = ap (busy_by job (Some by) source) was.listed
        ∙ sym (changed-view bitmap_of source by.name (is_bitmap source by.name) (λ row. refl) (λ row. record row { busy = Some job }) (used job) (λ row. refl) rows was.single);
    single = single-same rows (with_first (is_named source by.name) (used job) rows)
        (first-view (λ row. row.node) (is_named source by.name) (used job) (λ row. refl) rows)
        (first-view (λ row. row.name.bytes) (is_named source by.name) (used job) (λ row. refl) rows) was.single;
  };
  holds = changed-view dirty_in source by.name (is_dirty_of source by.name) (λ row. refl) put_aside (used job) (λ row. refl) rows was.single;
}

-- ---- each bitmap of a node is wholly dirty

module _ (node : ℕ) where
  same_if : {V : Type 0} (view : Bitmap → V) → ((row : Bitmap) → view (filled row) ≡ view row) → (row : Bitmap) (b : Bool) → view (cond b (filled row) row) ≡ view row
  same_if view same row true = same row
  same_if view same row false = refl

  same_filled : {V : Type 0} (view : Bitmap → V) → ((row : Bitmap) → view (filled row) ≡ view row) → (rows : List Bitmap)
      → map view (where_so (records node) filled rows) ≡ map view rows
  same_filled view same rows = mapped-view view (λ row. cond (records node row) (filled row) row) (λ row. same_if view same row (records node row)) rows

  pub all_dirtied : (t : RunTable) (rows : List Bitmap) → AreListed t.bitmaps rows
      → AreWith t.bitmaps (where_recording t node made_dirty (map dirty_in rows)) (where_so (records node) filled rows)
  all_dirtied t rows was = record {
    named = record {
      listed = was.listed ∙ sym (same_filled bitmap_of (λ row. refl) rows);
      single = single-same rows (where_so (records node) filled rows) (same_filled (λ row. row.node) (λ row. refl) rows)
          (same_filled (λ row. row.name.bytes) (λ row. refl) rows) was.single;
    };
    holds = where-view dirty_in (records node) filled (λ d. (d.node == node) && records_writes t d) made_dirty rows tells (λ row. refl);
  }
    where
      tells : (row : Bitmap) → Contains rows row → ((row.node == node) && records_writes t (dirty_in row)) ≡ records node row
      tells row there =
          let here : find (is_bitmap row.node row.name.bytes) t.bitmaps ≡ Some (bitmap_of row) =
          ap (find (is_bitmap row.node row.name.bytes)) was.listed
          ∙ found-view bitmap_of row.node row.name.bytes (is_bitmap row.node row.name.bytes) (λ row. refl) rows
          ∙ ap (option_map bitmap_of) (found-itself rows row was.single there) in
          rw here refl

-- ---- a use ends

-- rows that none passes stay
nobody : {V : Type 0} (g : V → V) (vs : List V) → map (λ v. cond false (g v) v) vs ≡ vs
nobody g [] = refl
nobody g (v ∷ vs) = ap (λ rest. v ∷ rest) (nobody g vs)

viewed : (rows : List Bitmap) (row : Bitmap) → Contains rows row → Contains (map bitmap_of rows) (bitmap_of row)
viewed [] row there = absurd (Contains-nil row there)
viewed (x ∷ rows) row there = elim (Contains-cases x rows row there) [
  | inl here ↦ subst (λ r. Contains (bitmap_of x ∷ map bitmap_of rows) (bitmap_of r)) (sym here) (Contains-here (bitmap_of x) (map bitmap_of rows))
  | inr later ↦ Contains-there (bitmap_of x) (map bitmap_of rows) (bitmap_of row) (viewed rows row later)
]

same_use : (number : ℕ) (busy : Option ℕ) → is_used_by number busy ≡ rows_of.is_busy_with number busy
same_use number None = refl
same_use number (Some job) = refl

module _ (t : RunTable) (number : ℕ) (drops : Bool) (rows : List Bitmap) (uses : AreInUse t) (was : AreListed t.bitmaps rows) where
  abbrev pub ended : List Bitmap
  ended = where_so (rows_of.is_used_by number) (use_ended drops) rows

  -- a row is used by the job exactly where the job copies by it
  tells_use : (row : Bitmap) → Contains rows row → rows_of.is_used_by number row ≡ is_use_of (job_at t number) (bitmap_of row)
  tells_use row there = sym (same_use number row.busy)
      ∙ uses (bitmap_of row) (subst (λ rs. Contains rs (bitmap_of row)) (sym was.listed) (viewed rows row there)) number

  ended_if : {V : Type 0} (view : Bitmap → V) → ((row : Bitmap) → view (use_ended drops row) ≡ view row) → (row : Bitmap) (b : Bool) → view (cond b (use_ended drops row) row) ≡ view row
  ended_if view same row true = same row
  ended_if view same row false = refl

  same_ended : {V : Type 0} (view : Bitmap → V) → ((row : Bitmap) → view (use_ended drops row) ≡ view row) → map view ended ≡ map view rows
  same_ended view same = mapped-view view (λ row. cond (rows_of.is_used_by number row) (use_ended drops row) row)
      (λ row. ended_if view same row (rows_of.is_used_by number row)) rows

  given_rows : map (given_back number) t.bitmaps ≡ map bitmap_of ended
  given_rows = ap (map (given_back number)) was.listed
      ∙ sym (where-view bitmap_of (rows_of.is_used_by number) (use_ended drops) (λ v. is_used_by number v.busy) (λ v. record v { busy = None }) rows
      (λ row there. same_use number row.busy) (λ row. refl))

  back : (job : Option JobRecord) → job_at t number ≡ job → map dirty_in ended ≡ back_by job drops (map dirty_in rows)
  back None is = where-view dirty_in (rows_of.is_used_by number) (use_ended drops) (λ d. false) (taken_back drops) rows
      (λ row there. sym (tells_use row there ∙ ap (λ j. is_use_of j (bitmap_of row)) is)) (λ row. refl)
      ∙ nobody (taken_back drops) (map dirty_in rows)
  back (Some job) is = by_use job.bitmap refl
    where
      by_use : (by : Option UsedBitmap) → job.bitmap ≡ by → map dirty_in ended ≡ back_of job.source by drops (map dirty_in rows)
      by_use None none = where-view dirty_in (rows_of.is_used_by number) (use_ended drops) (λ d. false) (taken_back drops) rows
          (λ row there. sym (tells_use row there ∙ ap (λ j. is_use_of j (bitmap_of row)) is ∙ ap (λ b. is_copied_by job.source b (bitmap_of row)) none)) (λ row. refl)
          ∙ nobody (taken_back drops) (map dirty_in rows)
      by_use (Some by) some = where-view dirty_in (rows_of.is_used_by number) (use_ended drops) (is_dirty_of job.source by.name) (taken_back drops) rows
          (λ row there. sym (tells_use row there ∙ ap (λ j. is_use_of j (bitmap_of row)) is ∙ ap (λ b. is_copied_by job.source b (bitmap_of row)) some)) (λ row. refl)

  pub use_ends : AreWith (map (given_back number) t.bitmaps) (back_by (job_at t number) drops (map dirty_in rows)) ended
  use_ends = record {
    named = record {
      listed = given_rows;
      single = single-same rows ended (same_ended (λ row. row.node) (λ row. refl)) (same_ended (λ row. row.name.bytes) (λ row. refl)) was.single;
    };
    holds = back (job_at t number) refl;
  }
