-- What calls of the table of bitmaps make of its rows is what the changes and the pieces of a run make of the table of names
-- and of dirty granules.
use Rattle.std.proofs.Common.{◌≡◌, ℕ, zero, suc, ◌+◌, append-nil, ◌*◌, ◌<◌, ◌≤◌, ◌^◌, inl, inr, Bool, true, false, cond, List, [], ◌∷◌, ◌++◌, length, map, take, refl, sym, ap, subst, ◌∙◌, arith, Option, Some, None, option_map}
use Rattle.std.specs.Prelude.{◌==◌, ◌&&◌, ◌||◌, not, count_by, is_some}
use Rattle.std.specs.List.{find, filter, list_any, list_all, Contains}
use Rattle.std.proofs.lemmas.List.{map-append, length-replicate}
use Rattle.std.proofs.Math.Seq.{take-length}
use Rattle.std.proofs.lemmas.List.FromFn.{length-map-range_with_len}
use Rattle.std.proofs.lemmas.List.Sums.{count_by-le-length, count_by_more_no, count_by_more_yes}
use Rattle.std.proofs.Math.Nat.{mul-le-mul_right, mul_comm}
use Rattle.blk_graph.proofs.Members.{Contains-here, Contains-there, Contains-cases, Contains-nil, Contains-filter}
use Rattle.blk_base.specs.Pieces.{Extent}
use Rattle.blk_bits.specs.Granules.{contains, those_below}
use Rattle.blk_bits.proofs.GranuleLemmas.{contains-those_below}
use Rattle.blk_bitmaps.specs.declared.row.Bitmap.{Bitmap}
use Rattle.blk_bitmaps.specs.Rows.{is_named, switched, emptied, written, merged_row, records, dirty_below, is_aside, is_dirty, with_frozen}
use Rattle.blk_bitmaps.specs.Refusals.{first_row}
use Rattle.blk_bitmaps.specs.Refusals as refusals
use Rattle.blk_bitmaps.specs.Calls.{with_first, without_first, where_so, with_source}
use Rattle.blk_bitmaps.proofs.Views.{changed-view, removed-view, found-view, named-view, left-view, mapped-view, first-view, where-view, found-itself, single-same, single-fewer, single-push, without-filter}
use Rattle.qmp_rules.specs.declared.rows.BitmapRow.{BitmapRow}
use Rattle.qmp_rules.specs.Table.{RunTable, is_bitmap}
use Rattle.qmp_rules.specs.declared.change.Change.{Change}
use Rattle.qmp_rules.specs.declared.change.Change.TheVariants as change
use Rattle.qmp_rules.specs.Changes.{changed, all_changed, bitmap_changed, bitmaps_but_of, without_bitmap}
use Rattle.qmp_rules.specs.Changes as table
use Rattle.qmp_rules.specs.Queries.{bytes_of_node}
use Rattle.flat_machine.specs.State.{Dirty}
use Rattle.flat_machine.specs.Marking.{is_dirty_of, dirty_at, clean, marked, where_recording, merge_from, dirty_bytes}
use Rattle.flat_machine.specs.Marking as marking
use Rattle.flat_machine.specs.Machine.{noted}
use Rattle.flat_machine.specs.Bitmaps.{bitmap_of, dirty_in, noted_rows, IsFreeBitmap, IsSoundBitmap, AreBitmapsOf, FollowChanges}
use Rattle.flat_machine.specs.Recording.{dirty_beside, dirty_after}

and-both : (a b : Bool) → (a && b) ≡ true → (a ≡ true) × (b ≡ true)
and-both true true h = (refl, refl)
and-both true false h = absurd cc
and-both false b h = absurd cc

-- ---- rows that are as they were but for what they record and hold

record IsLater (row later : Bitmap) : Type 0 where
  node : later.node ≡ row.node
  name : later.name.bytes ≡ row.name.bytes
  granularity : later.granularity ≡ row.granularity
  busy : later.busy ≡ row.busy
  frozen : later.frozen ≡ row.frozen
  count : length later.dirty ≡ length row.dirty

abbrev AreLater : List Bitmap → List Bitmap → Type 0
AreLater [] [] = Unit {0}
AreLater (row ∷ rows) (later ∷ now) = IsLater row later × AreLater rows now
AreLater rows now = ⊥

itself : (row : Bitmap) → IsLater row row
itself row = record { node = refl; name = refl; granularity = refl; busy = refl; frozen = refl; count = refl }

later-self : (rows : List Bitmap) → AreLater rows rows
later-self [] = tt
later-self (row ∷ rows) = (itself row, later-self rows)

later-first : (test : Bitmap → Bool) (f : Bitmap → Bitmap) → ((row : Bitmap) → IsLater row (f row)) → (rows : List Bitmap) → AreLater rows (with_first test f rows)
later-first test f like [] = tt
later-first test f like (row ∷ rows) = at (test row) (later-first test f like rows)
  where
    at : (b : Bool) → AreLater rows (with_first test f rows) → AreLater (row ∷ rows) (cond b (f row ∷ rows) (row ∷ with_first test f rows))
    at true rest = (like row, later-self rows)
    at false rest = (itself row, rest)

later-where : (test : Bitmap → Bool) (f : Bitmap → Bitmap) → ((row : Bitmap) → IsLater row (f row)) → (rows : List Bitmap) → AreLater rows (where_so test f rows)
later-where test f like [] = tt
later-where test f like (row ∷ rows) = (at (test row), later-where test f like rows)
  where
    at : (b : Bool) → IsLater row (cond b (f row) row)
    at true = like row
    at false = itself row

later-nodes : (rows now : List Bitmap) → AreLater rows now → map (λ row. row.node) now ≡ map (λ row. row.node) rows
later-nodes [] [] like = refl
later-nodes [] (y ∷ now) like = absurd like
later-nodes (x ∷ rows) [] like = absurd like
later-nodes (x ∷ rows) (y ∷ now) like = rw (like.0.node, later-nodes rows now like.1) refl

later-names : (rows now : List Bitmap) → AreLater rows now → map (λ row. row.name.bytes) now ≡ map (λ row. row.name.bytes) rows
later-names [] [] like = refl
later-names [] (y ∷ now) like = absurd like
later-names (x ∷ rows) [] like = absurd like
later-names (x ∷ rows) (y ∷ now) like = rw (like.0.name, later-names rows now like.1) refl

later-sound : (row later : Bitmap) → IsLater row later → IsSoundBitmap row → IsSoundBitmap later
later-sound row later like free = record {
  aside = ap is_some like.busy ∙ free.aside ∙ ap is_some (sym like.frozen);
  alike = λ set is. free.alike set (sym like.frozen ∙ is) ∙ sym like.count;
  countable = rw (like.count, like.granularity) free.countable;
}

free-sound : (row : Bitmap) → IsFreeBitmap row → IsSoundBitmap row
free-sound row free = record {
  aside = ap is_some free.free ∙ sym (ap is_some free.whole);
  alike = λ set is. absurd (let none = free.whole in cc);
  countable = free.countable;
}

later-each : (rows now : List Bitmap) → AreLater rows now → ((row : Bitmap) → Contains rows row → IsSoundBitmap row) → (row : Bitmap) → Contains now row → IsSoundBitmap row
later-each rows [] like each row there = absurd (Contains-nil row there)
later-each [] (y ∷ now) like each row there = absurd like
later-each (x ∷ rows) (y ∷ now) like each row there = elim (Contains-cases y now row there) [
  | inl here ↦ subst IsSoundBitmap (sym here) (later-sound x y like.0 (each x (Contains-here x rows)))
  | inr further ↦ later-each rows now like.1 (λ r is. each r (Contains-there x rows r is)) row further
]

later-bitmaps : (old new : List BitmapRow) (rows now : List Bitmap) → AreLater rows now → new ≡ map bitmap_of now → AreBitmapsOf old rows → AreBitmapsOf new now
later-bitmaps old new rows now like listed was = record {
  listed = listed;
  single = single-same rows now (later-nodes rows now like) (later-names rows now like) was.single;
  each = later-each rows now like was.each;
}

-- ---- the parts of a row that are changed

counted : (n : ℕ) (test : ℕ → Bool) → length (those_below n test) ≡ n
counted n test = length-map-range_with_len test 0 n

turned-later : (on : Bool) (row : Bitmap) → IsLater row (switched on row)
turned-later on row = record { node = refl; name = refl; granularity = refl; busy = refl; frozen = refl; count = refl }

emptied-later : (row : Bitmap) → IsLater row (emptied row)
emptied-later row = record { node = refl; name = refl; granularity = refl; busy = refl; frozen = refl; count = length-replicate (length row.dirty) false }

written-later : (span : Extent) (row : Bitmap) → IsLater row (written span row)
written-later span row = record { node = refl; name = refl; granularity = refl; busy = refl; frozen = refl; count = counted (length row.dirty) _ }

joined-later : (source row : Bitmap) → IsLater row (merged_row source row)
joined-later source row = record { node = refl; name = refl; granularity = refl; busy = refl; frozen = refl; count = counted (length row.dirty) _ }

-- ---- each kind of change

module _ (n : ℕ) (m : List ℕ) (old : List BitmapRow) (rows : List Bitmap) (was : AreBitmapsOf old rows) where
  -- bitmaps are turned on and off
  pub turned-bitmaps : (on : Bool) → AreBitmapsOf (table.with_turned n m on old) (with_first (is_named n m) (switched on) rows)
  turned-bitmaps on = later-bitmaps old _ rows _ (later-first (is_named n m) (switched on) (turned-later on) rows)
      (ap (table.with_turned n m on) was.listed
      ∙ sym (changed-view bitmap_of n m (is_bitmap n m) (λ row. refl) (table.with_recording on) (switched on) (λ row. refl) rows was.single)) was

  pub turned-dirty : (on : Bool) → map dirty_in (with_first (is_named n m) (switched on) rows) ≡ map dirty_in rows
  turned-dirty on = first-view dirty_in (is_named n m) (switched on) (λ row. refl) rows

  -- they are cleared
  pub cleared-bitmaps : AreBitmapsOf old (with_first (is_named n m) emptied rows)
  cleared-bitmaps = later-bitmaps old old rows _ (later-first (is_named n m) emptied emptied-later rows)
      (was.listed ∙ sym (first-view bitmap_of (is_named n m) emptied (λ row. refl) rows)) was

  pub cleared-dirty : map dirty_in (with_first (is_named n m) emptied rows) ≡ marking.where_dirty (is_dirty_of n m) marking.made_clean (map dirty_in rows)
  cleared-dirty = changed-view dirty_in n m (is_dirty_of n m) (λ row. refl) marking.made_clean emptied (λ row. refl) rows was.single

  -- they are removed
  pub removed-bitmaps : AreBitmapsOf (without_bitmap n m old) (without_first (is_named n m) rows)
  removed-bitmaps =
      let fewer = without-filter n m rows was.single in
      record {
        listed = ap (without_bitmap n m) was.listed ∙ sym (removed-view bitmap_of n m (is_bitmap n m) (λ row. refl) rows was.single);
        single = rw fewer (single-fewer (λ row. not (is_named n m row)) rows was.single);
        each = λ row there. was.each row (Contains-filter (λ r. not (is_named n m r)) rows row (subst (λ rs. Contains rs row) fewer there)).0;
      }

  pub removed-dirty : map dirty_in (without_first (is_named n m) rows) ≡ filter (λ d. not (is_dirty_of n m d)) (map dirty_in rows)
  removed-dirty = removed-view dirty_in n m (is_dirty_of n m) (λ row. refl) rows was.single

  -- one is merged into them
  pub merged-bitmaps : (source : Option Bitmap) → AreBitmapsOf old (with_source rows n m source)
  merged-bitmaps None = was
  merged-bitmaps (Some source) = later-bitmaps old old rows _ (later-first (is_named n m) (merged_row source) (joined-later source) rows)
      (was.listed ∙ sym (first-view bitmap_of (is_named n m) (merged_row source) (λ row. refl) rows)) was

  merged-by : (source : Option Bitmap) → map dirty_in (with_source rows n m source) ≡ merge_from (option_map dirty_in source) n m (map dirty_in rows)
  merged-by None = refl
  merged-by (Some source) = changed-view dirty_in n m (is_dirty_of n m) (λ row. refl) (marking.dirtied_by (dirty_in source)) (merged_row source) (λ row. refl) rows was.single

  pub merged-dirty : (k : ℕ) (other : List ℕ)
      → map dirty_in (with_source rows n m (refusals.find rows k other)) ≡ merge_from (dirty_at (map dirty_in rows) k other) n m (map dirty_in rows)
  merged-dirty k other = merged-by (refusals.find rows k other)
      ∙ ap (λ found. merge_from found n m (map dirty_in rows)) (sym (found-view dirty_in k other (is_dirty_of k other) (λ row. refl) rows))

  -- whether the table has one
  pub found-bitmap : find (is_bitmap n m) old ≡ option_map bitmap_of (first_row (is_named n m) rows)
  found-bitmap = ap (find (is_bitmap n m)) was.listed ∙ found-view bitmap_of n m (is_bitmap n m) (λ row. refl) rows

  named-bitmap : list_any (is_bitmap n m) old ≡ list_any (is_named n m) rows
  named-bitmap = ap (list_any (is_bitmap n m)) was.listed ∙ named-view bitmap_of n m (is_bitmap n m) (λ row. refl) rows

module _ (old : List BitmapRow) (rows : List Bitmap) (was : AreBitmapsOf old rows) where
  -- all of a node go
  pub left-bitmaps : (node : ℕ) → AreBitmapsOf (bitmaps_but_of node old) (filter (λ row. not (row.node == node)) rows)
  left-bitmaps node = record {
    listed = ap (bitmaps_but_of node) was.listed ∙ sym (left-view bitmap_of (λ row. row.node) (λ row. refl) node rows);
    single = single-fewer (λ row. not (row.node == node)) rows was.single;
    each = λ row there. was.each row (Contains-filter (λ r. not (r.node == node)) rows row there).0;
  }

  pub left-dirty : (node : ℕ) → map dirty_in (filter (λ row. not (row.node == node)) rows) ≡ filter (λ d. not (d.node == node)) (map dirty_in rows)
  left-dirty node = left-view dirty_in (λ d. d.node) (λ row. refl) node rows

  -- one more
  pub pushed-bitmaps : (new : Bitmap) → find (is_bitmap new.node new.name.bytes) old ≡ None → IsSoundBitmap new → AreBitmapsOf (old ++ bitmap_of new ∷ []) (rows ++ new ∷ [])
  pushed-bitmaps new fresh free = record {
    listed = ap (λ rs. rs ++ bitmap_of new ∷ []) was.listed ∙ sym (map-append bitmap_of rows (new ∷ []));
    single = single-push new rows (sym (named-bitmap new.node new.name.bytes old rows was) ∙ none-there old fresh) was.single;
    each = λ row there. pushed-each rows row was.each there;
  }
    where
      none-there : (rs : List BitmapRow) → find (is_bitmap new.node new.name.bytes) rs ≡ None → list_any (is_bitmap new.node new.name.bytes) rs ≡ false
      none-there [] none = refl
      none-there (r ∷ rs) none = at (is_bitmap new.node new.name.bytes r) none (λ h. none-there rs h)
        where
          at : (b : Bool) → cond b (Some r) (find (is_bitmap new.node new.name.bytes) rs) ≡ None
              → (find (is_bitmap new.node new.name.bytes) rs ≡ None → list_any (is_bitmap new.node new.name.bytes) rs ≡ false)
              → (b || list_any (is_bitmap new.node new.name.bytes) rs) ≡ false
          at true h rest = absurd cc
          at false h rest = rest h

      pushed-each : (rs : List Bitmap) (row : Bitmap) → ((r : Bitmap) → Contains rs r → IsSoundBitmap r) → Contains (rs ++ new ∷ []) row → IsSoundBitmap row
      pushed-each [] row each there = elim (Contains-cases new [] row there) [
        | inl here ↦ subst IsSoundBitmap (sym here) free
        | inr none ↦ absurd (Contains-nil row none)
      ]
      pushed-each (r ∷ rs) row each there = elim (Contains-cases r (rs ++ new ∷ []) row there) [
        | inl here ↦ subst IsSoundBitmap (sym here) (each r (Contains-here r rs))
        | inr later ↦ pushed-each rs row (λ x is. each x (Contains-there r rs x is)) later
      ]

  -- ---- a write

  pub written-bitmaps : (node : ℕ) (span : Extent) → AreBitmapsOf old (where_so (records node) (written span) rows)
  written-bitmaps node span = later-bitmaps old old rows _ (later-where (records node) (written span) (written-later span) rows)
      (was.listed ∙ sym (mapped-view bitmap_of (λ row. cond (records node row) (written span row) row) (λ row. same row (records node row)) rows)) was
    where
      same : (row : Bitmap) (b : Bool) → bitmap_of (cond b (written span row) row) ≡ bitmap_of row
      same row true = refl
      same row false = refl

  pub written-dirty : (t : RunTable) → t.bitmaps ≡ old → (node : ℕ) (span : Extent)
      → map dirty_in (where_so (records node) (written span) rows) ≡ where_recording t node (marked span) (map dirty_in rows)
  written-dirty t is node span = where-view dirty_in (records node) (written span) (λ d. (d.node == node) && marking.records_writes t d) (marked span) rows tells (λ row. refl)
    where
      tells : (row : Bitmap) → Contains rows row → ((row.node == node) && marking.records_writes t (dirty_in row)) ≡ records node row
      tells row there =
          let here : find (is_bitmap row.node row.name.bytes) t.bitmaps ≡ Some (bitmap_of row) =
          ap (find (is_bitmap row.node row.name.bytes)) is ∙ found-bitmap row.node row.name.bytes old rows was
          ∙ ap (option_map bitmap_of) (found-itself rows row was.single there) in
          rw here refl

pub noted-bitmaps : (old : List BitmapRow) (span : Extent) (nodes : List ℕ) (rows : List Bitmap) → AreBitmapsOf old rows → AreBitmapsOf old (noted_rows span rows nodes)
noted-bitmaps old span [] rows was = was
noted-bitmaps old span (node ∷ nodes) rows was =
    noted-bitmaps old span nodes (where_so (records node) (written span) rows) (written-bitmaps old rows was node span)

pub noted-dirty : (t : RunTable) (span : Extent) (nodes : List ℕ) (rows : List Bitmap) → AreBitmapsOf t.bitmaps rows
    → map dirty_in (noted_rows span rows nodes) ≡ noted t span (map dirty_in rows) nodes
noted-dirty t span [] rows was = refl
noted-dirty t span (node ∷ nodes) rows was =
    noted-dirty t span nodes (where_so (records node) (written span) rows) (written-bitmaps t.bitmaps rows was node span)
    ∙ ap (λ ds. noted t span ds nodes) (written-dirty t.bitmaps rows was t refl node span)

-- ---- counts

-- the bytes of dirty granules, which 64 bits hold
pub record HasCount (row : Bitmap) : Type 0 where
  pub few : dirty_below row (length row.dirty) * row.granularity < 2 ^ 64
  pub same : dirty_below row (length row.dirty) * row.granularity ≡ dirty_bytes (dirty_in row)

-- a granule is dirty or stands aside exactly where one of all that is dirty is
whole-dirty : (row : Bitmap) → IsSoundBitmap row → (length (with_frozen row.dirty row.frozen) ≡ length row.dirty)
    × ((k : ℕ) → k < length row.dirty → is_dirty row k ≡ contains (with_frozen row.dirty row.frozen) k)
whole-dirty row sound = by_frozen row.frozen refl
  where
    by_frozen : (frozen : Option (List Bool)) → row.frozen ≡ frozen
        → (length (with_frozen row.dirty frozen) ≡ length row.dirty)
        × ((k : ℕ) → k < length row.dirty → (contains row.dirty k || is_aside frozen k) ≡ contains (with_frozen row.dirty frozen) k)
    by_frozen None is = (refl, λ k less. last (contains row.dirty k))
      where
        last : (b : Bool) → (b || false) ≡ b
        last true = refl
        last false = refl
    by_frozen (Some old) is = (
      counted (length row.dirty) (λ k. contains row.dirty k || contains old k),
      λ k less. sym (contains-those_below (length row.dirty) (λ k. contains row.dirty k || contains old k) k less),
    )

-- so that many are counted
aside-count : (row : Bitmap) (all : List Bool) → length all ≡ length row.dirty → ((k : ℕ) → k < length row.dirty → is_dirty row k ≡ contains all k)
    → (k : ℕ) → k ≤ length row.dirty → dirty_below row k ≡ count_by (λ member. member) (take k all)
aside-count row all long same zero few = refl
aside-count row all long same (suc k) few = at (contains all k) refl (aside-count row all long same k (omega arith))
  where
    at : (b : Bool) → contains all k ≡ b → dirty_below row k ≡ count_by (λ member. member) (take k all) → dirty_below row (suc k) ≡ count_by (λ member. member) (take (suc k) all)
    at true e rest =
        let more : count_by (λ member. member) (take (k + 1) all) ≡ count_by (λ member. member) (take k all) + 1 = count_by_more_yes (λ member. member) all k false (omega (arith, long)) e in
        let further : suc k ≡ k + 1 = omega arith in
        let dirty : is_dirty row k ≡ true = same k (omega arith) ∙ e in
        rw (further, dirty) (ap (λ n. n + 1) rest ∙ sym more)
    at false e rest =
        let more : count_by (λ member. member) (take (k + 1) all) ≡ count_by (λ member. member) (take k all) = count_by_more_no (λ member. member) all k false (omega (arith, long)) e in
        let further : suc k ≡ k + 1 = omega arith in
        let clear : is_dirty row k ≡ false = same k (omega arith) ∙ e in
        rw (further, clear) (let none : dirty_below row k + 0 ≡ dirty_below row k = omega arith in none ∙ rest ∙ sym more)

pub sound-count : (row : Bitmap) → IsSoundBitmap row → HasCount row
sound-count row sound =
    let whole = whole-dirty row sound in
    let all : List Bool = with_frozen row.dirty row.frozen in
    let long : length all ≡ length row.dirty = whole.0 in
    let cut : take (length row.dirty) all ≡ all = ap (λ n. take n all) (sym long) ∙ take-length all in
    let count : dirty_below row (length row.dirty) ≡ count_by (λ member. member) all =
    aside-count row all long whole.1 (length row.dirty) (omega arith) ∙ ap (count_by (λ member. member)) cut in
    let low : count_by (λ member. member) all ≤ length all = count_by-le-length (λ member. member) all in
    let low_row : count_by (λ member. member) all ≤ length row.dirty = omega (arith, low, long) in
    let bytes : count_by (λ member. member) all * row.granularity ≤ length row.dirty * row.granularity = mul-le-mul_right row.granularity low_row in
    let most = sound.countable in
    record {
      few = rw count (omega arith);
      same = rw count (mul_comm (count_by (λ member. member) all) row.granularity);
    }

-- ---- changes of commands

-- a change that leaves bitmaps as they are
abbrev pub leaves_bitmaps : Change → Bool
leaves_bitmaps (change.AddBitmap row) = false
leaves_bitmaps (change.RemoveBitmap node name) = false
leaves_bitmaps (change.TurnBitmap node name on) = false
leaves_bitmaps (change.ClearBitmap node name) = false
leaves_bitmaps (change.MergeBitmap node name source_node source) = false
leaves_bitmaps (change.RemoveNode node) = false
leaves_bitmaps (change.StartJob row) = false
leaves_bitmaps (change.EndJob number slot drops) = false
leaves_bitmaps c = true

left-rows : (t : RunTable) (c : Change) → leaves_bitmaps c ≡ true → (changed t c).bitmaps ≡ t.bitmaps
unfolding changed
left-rows t (change.AddBitmap row) leaves = absurd cc
left-rows t (change.RemoveBitmap node name) leaves = absurd cc
left-rows t (change.TurnBitmap node name on) leaves = absurd cc
left-rows t (change.RemoveNode node) leaves = absurd cc
left-rows t (change.StartJob row) leaves = absurd cc
left-rows t (change.EndJob number slot drops) leaves = absurd cc
left-rows t _ leaves = refl

left-sets : (t : RunTable) (ds : List Dirty) (c : Change) → leaves_bitmaps c ≡ true → dirty_beside t ds c ≡ ds
left-sets t ds (change.AddBitmap row) leaves = absurd cc
left-sets t ds (change.RemoveBitmap node name) leaves = absurd cc
left-sets t ds (change.ClearBitmap node name) leaves = absurd cc
left-sets t ds (change.MergeBitmap node name source_node source) leaves = absurd cc
left-sets t ds (change.RemoveNode node) leaves = absurd cc
left-sets t ds (change.EndJob number slot drops) leaves = absurd cc
left-sets t ds _ leaves = refl

pub follow-none : (t : RunTable) (rows : List Bitmap) → AreBitmapsOf t.bitmaps rows → FollowChanges t rows rows []
follow-none t rows was = record { listed = was; dirty = refl }

-- a change, and those behind it
pub follow-then : (t : RunTable) (old mid now : List Bitmap) (c : Change) (changes : List Change)
    → map dirty_in mid ≡ dirty_beside t (map dirty_in old) c → FollowChanges (changed t c) mid now changes → FollowChanges t old now (c ∷ changes)
follow-then t old mid now c changes one rest = record {
  listed = rest.listed;
  dirty = rest.dirty ∙ ap (λ ds. dirty_after (changed t c) ds changes) one;
}

pub follow-left : (changes : List Change) (t : RunTable) (rows now : List Bitmap) (more : List Change) → list_all leaves_bitmaps changes ≡ true → AreBitmapsOf t.bitmaps rows
    → (AreBitmapsOf (all_changed t changes).bitmaps rows → FollowChanges (all_changed t changes) rows now more) → FollowChanges t rows now (changes ++ more)
follow-left [] t rows now more leaves was rest = rest was
follow-left (c ∷ changes) t rows now more leaves was rest =
    let parts = and-both (leaves_bitmaps c) (list_all leaves_bitmaps changes) leaves in
    let kept : AreBitmapsOf (changed t c).bitmaps rows = subst (λ rs. AreBitmapsOf rs rows) (sym (left-rows t c parts.0)) was in
    follow-then t rows rows now c (changes ++ more) (sym (left-sets t (map dirty_in rows) c parts.0)) (follow-left changes (changed t c) rows now more parts.1 kept rest)

-- of such changes alone
pub follow-all : (changes : List Change) (t : RunTable) (rows : List Bitmap) → list_all leaves_bitmaps changes ≡ true → AreBitmapsOf t.bitmaps rows → FollowChanges t rows rows changes
follow-all changes t rows leaves was =
    subst (λ cs. FollowChanges t rows rows cs) (append-nil changes)
    (follow-left changes t rows rows [] leaves was (λ kept. follow-none (all_changed t changes) rows kept))

module _ (t : RunTable) (rows : List Bitmap) (was : AreBitmapsOf t.bitmaps rows) (n : ℕ) where
  pub follow-turned : (m : List ℕ) (on : Bool) → FollowChanges t rows (with_first (is_named n m) (switched on) rows) (change.TurnBitmap n m on ∷ [])
  unfolding changed
  follow-turned m on = record { listed = turned-bitmaps n m t.bitmaps rows was on; dirty = turned-dirty n m t.bitmaps rows was on }

  pub follow-cleared : (m : List ℕ) → FollowChanges t rows (with_first (is_named n m) emptied rows) (change.ClearBitmap n m ∷ [])
  unfolding changed
  follow-cleared m = record { listed = cleared-bitmaps n m t.bitmaps rows was; dirty = cleared-dirty n m t.bitmaps rows was }

  pub follow-removed : (m : List ℕ) → FollowChanges t rows (without_first (is_named n m) rows) (change.RemoveBitmap n m ∷ [])
  unfolding changed
  follow-removed m = record { listed = removed-bitmaps n m t.bitmaps rows was; dirty = removed-dirty n m t.bitmaps rows was }

  pub follow-merged : (m : List ℕ) (k : ℕ) (other : List ℕ) (now : List Bitmap) (changes : List Change)
      → FollowChanges t (with_source rows n m (refusals.find rows k other)) now changes
      → FollowChanges t rows now (change.MergeBitmap n m k other ∷ changes)
  unfolding changed
  follow-merged m k other now changes rest =
      follow-then t rows (with_source rows n m (refusals.find rows k other)) now (change.MergeBitmap n m k other) changes (merged-dirty n m t.bitmaps rows was k other) rest

  -- a node goes
  pub follow-gone : (now : List Bitmap) (changes : List Change)
      → (AreBitmapsOf (changed t (change.RemoveNode n)).bitmaps (filter (λ row. not (row.node == n)) rows)
      → FollowChanges (changed t (change.RemoveNode n)) (filter (λ row. not (row.node == n)) rows) now changes)
      → FollowChanges t rows now (change.RemoveNode n ∷ changes)
  unfolding changed
  follow-gone now changes rest =
      follow-then t rows (filter (λ row. not (row.node == n)) rows) now (change.RemoveNode n) changes (left-dirty t.bitmaps rows was n)
      (rest (left-bitmaps t.bitmaps rows was n))

-- a new one
pub follow-added : (t : RunTable) (rows : List Bitmap) → AreBitmapsOf t.bitmaps rows → (new : Bitmap) → find (is_bitmap new.node new.name.bytes) t.bitmaps ≡ None
    → IsFreeBitmap new → dirty_in new ≡ clean (bitmap_of new) (bytes_of_node t new.node) → FollowChanges t rows (rows ++ new ∷ []) (change.AddBitmap (bitmap_of new) ∷ [])
unfolding changed
follow-added t rows was new fresh free is_clean = record {
  listed = pushed-bitmaps t.bitmaps rows was new fresh (free-sound new free);
  dirty = map-append dirty_in rows (new ∷ []) ∙ ap (λ d. map dirty_in rows ++ d ∷ []) is_clean;
}
