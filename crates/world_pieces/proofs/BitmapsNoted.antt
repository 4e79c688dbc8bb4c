-- What a piece notes in the bitmaps of the nodes from its drive down to the one that it reads as.
use Rattle.std.proofs.Common.{◌≡◌, ℕ, zero, suc, ◌+◌, ◌-◌, ◌<◌, ◌≤◌, Bool, true, false, cond, List, [], ◌∷◌, map, refl, sym, ap, subst, ◌∙◌, arith, Option, Some, None}
use Rattle.blk_base.specs.Pieces.{Extent}
use Rattle.blk_base.specs.declared.fault.Outcome.{Outcome}
use Rattle.blk_bitmaps.specs.declared.row.Bitmap.{Bitmap}
use Rattle.qmp_rules.specs.Table.{RunTable}
use Rattle.qmp_rules.specs.Chains.{filtered, written_under}
use Rattle.trace_codec.specs.declared.op.Op.{Op}
use Rattle.trace_codec.specs.declared.op.Op.TheVariants.{Read, Write, Zero, Flush, Discard}
use Rattle.flat_machine.specs.Bitmaps.{AreBitmapsOf, dirty_in, noted_rows}
use Rattle.flat_machine.specs.Machine.{is_noted, noted, path, path_from}
use Rattle.flat_machine.specs.Recording.{dirty_by}
use Rattle.flat_machine.proofs.BitmapRows.{noted-bitmaps, noted-dirty}
use Rattle.world_parts.proofs.Accepted.{asked}
use Rattle.world_parts.specs.Piecing.{table_after}
use Rattle.world_pieces.specs.Pieces.{noted_after, noted_where, written_in}

-- ---- paths

-- what is still to be noted, where so many steps are made
pub path_start : (t : RunTable) (drive : ℕ) → path_from (64 - 0) t drive ≡ path t drive
unfolding path
path_start t drive = refl

none_at : (n : ℕ) (t : RunTable) (node : ℕ) → filtered t node ≡ None → path_from n t node ≡ node ∷ []
none_at zero t node h = refl
none_at (suc n) t node h = ap (λ f. node ∷ (elim f as (λ _. List ℕ) [ None ↦ [] | Some below ↦ path_from n t below ])) h

pub path_none : (i : ℕ) (t : RunTable) (node : ℕ) → filtered t node ≡ None → path_from (64 - i) t node ≡ node ∷ []
path_none i t node h = none_at (64 - i) t node h

pub path_some : (i : ℕ) (t : RunTable) (node below : ℕ) → i < 64 → filtered t node ≡ Some below
    → path_from (64 - i) t node ≡ node ∷ path_from (64 - (i + 1)) t below
path_some i t node below less h =
    let one : 64 - i ≡ suc (64 - (i + 1)) = omega arith in
    ap (λ n. path_from n t node) one ∙ ap (λ f. node ∷ (elim f as (λ _. List ℕ) [ None ↦ [] | Some under ↦ path_from (64 - (i + 1)) t under ])) h

pub path_end : (i : ℕ) (t : RunTable) (node : ℕ) → 64 ≤ i → path_from (64 - i) t node ≡ node ∷ []
path_end i t node past =
    let none : 64 - i ≡ 0 = omega arith in ap (λ n. path_from n t node) none

-- ---- pieces

same_rows : (op : Op) (node : ℕ) (t : RunTable) → (table_after op node t).bitmaps ≡ t.bitmaps
unfolding written_under
same_rows (Read span) node t = refl
same_rows (Write span payload) node t = refl
same_rows (Zero span) node t = refl
same_rows Flush node t = refl
same_rows (Discard span) node t = refl

module _ (op : Op) (part : Extent) (outcome : Outcome) (drive : ℕ) (t : RunTable) (rows : List Bitmap) (was : AreBitmapsOf t.bitmaps rows) where
  by_noted : (b : Bool) → map dirty_in (cond b (noted_rows part rows (path t drive)) rows) ≡ cond b (noted t part (map dirty_in rows) (path t drive)) (map dirty_in rows)
  by_noted true = noted-dirty t part (path t drive) rows was
  by_noted false = refl

  unnoted : (b : Bool) → map dirty_in (cond b rows rows) ≡ map dirty_in rows
  unnoted true = refl
  unnoted false = refl

  by_op : (o : Op) → map dirty_in (noted_after outcome (written_in o part) drive t rows) ≡ dirty_by o outcome part drive t (map dirty_in rows)
  by_op (Read span) = unnoted (is_noted outcome)
  by_op (Write span payload) = by_noted (is_noted outcome)
  by_op (Zero span) = by_noted (is_noted outcome)
  by_op Flush = unnoted (is_noted outcome)
  by_op (Discard span) = unnoted (is_noted outcome)

listed_where : (written : Option Extent) (drive : ℕ) (t : RunTable) (rows : List Bitmap) → AreBitmapsOf t.bitmaps rows → AreBitmapsOf t.bitmaps (noted_where written drive t rows)
listed_where None drive t rows was = was
listed_where (Some part) drive t rows was = noted-bitmaps t.bitmaps part (path t drive) rows was

listed_after : (outcome : Outcome) (written : Option Extent) (drive : ℕ) (t : RunTable) (rows : List Bitmap) → AreBitmapsOf t.bitmaps rows → AreBitmapsOf t.bitmaps (noted_after outcome written drive t rows)
listed_after outcome written drive t rows was = by_flag (is_noted outcome)
  where
    by_flag : (b : Bool) → AreBitmapsOf t.bitmaps (cond b (noted_where written drive t rows) rows)
    by_flag true = listed_where written drive t rows was
    by_flag false = was

-- the table is that behind the piece
pub noted-follow : (op : Op) (part : Extent) (outcome : Outcome) (drive : ℕ) (rows : List Bitmap) (written : Option Extent) (now : List Bitmap) (t u : RunTable) (node : ℕ) (asked : Op)
    → u ≡ table_after asked node t → written ≡ written_in op part → now ≡ noted_after outcome written drive u rows → AreBitmapsOf t.bitmaps rows
    → map dirty_in now ≡ dirty_by op outcome part drive u (map dirty_in rows)
noted-follow op part outcome drive rows written now t u node asked table writes is was =
    let here : AreBitmapsOf u.bitmaps rows = subst (λ rs. AreBitmapsOf rs rows) (sym (ap (λ (x : RunTable). x.bitmaps) table ∙ same_rows asked node t)) was in
    ap (map dirty_in) (is ∙ ap (λ w. noted_after outcome w drive u rows) writes) ∙ by_op op part outcome drive u rows here op

pub noted-listed : (outcome : Outcome) (drive : ℕ) (rows : List Bitmap) (written : Option Extent) (now : List Bitmap) (t u : RunTable) (node : ℕ) (asked : Op)
    → u ≡ table_after asked node t → now ≡ noted_after outcome written drive u rows → AreBitmapsOf t.bitmaps rows → AreBitmapsOf u.bitmaps now
noted-listed outcome drive rows written now t u node asked table is was =
    let here : AreBitmapsOf u.bitmaps rows = subst (λ rs. AreBitmapsOf rs rows) (sym (ap (λ (x : RunTable). x.bitmaps) table ∙ same_rows asked node t)) was in
    subst (AreBitmapsOf u.bitmaps) (sym is) (listed_after outcome written drive u rows here)
