-- Writes in a log, and bytes that a log tells.
use Rattle.std.proofs.Common.{◌≡◌, ℕ, zero, suc, ◌+◌, ◌-◌, ◌<◌, ◌≤◌, Bool, true, false, cond, List, [], ◌∷◌, ◌++◌, length, map, get_or, take, drop, refl, sym, subst, ◌∙◌, ap, arith, Some, IsTrue, length-drop}
use Rattle.std.specs.Prelude.{slice_range, slice_get}
use Rattle.std.proofs.lemmas.List.{take-append-le, drop-append-le, drop_at, take_all}
use Rattle.std.proofs.lemmas.Bool.Decides.{nat_tests}
use Rattle.blk_base.specs.Content.{Write, after_writes, with_bytes}
use Rattle.blk_fakes.specs.declared.log.Row.{Row}
use Rattle.blk_fakes.specs.Rows.{logged_write, AllWithin}
use Rattle.blk_fakes.specs.Disk.{LogState, goes_in, with_write, logged_with, told_by}

-- a part of the front of a list
range-append : (bytes more : List ℕ) (i j : ℕ) → i ≤ j → j ≤ length bytes → slice_range (bytes ++ more) i j ≡ slice_range bytes i j
range-append bytes more i j le within =
    ap (take (j - i)) (drop-append-le i bytes more (omega arith)) ∙ take-append-le (j - i) (drop i bytes) more (omega (arith, length-drop i bytes))

range_last : (bytes more : List ℕ) (i j : ℕ) → i ≡ length bytes → j ≡ length bytes + length more → slice_range (bytes ++ more) i j ≡ more
range_last bytes more i j from to = ap (take (j - i)) (drop_at bytes more i (sym from)) ∙ take_all (j - i) more (omega arith)

pub writes_push : (bytes more : List ℕ) (rows : List Row) (r : Row) → AllWithin (length bytes) rows → r.from ≡ length bytes → r.to ≡ length bytes + length more
    → map (logged_write (bytes ++ more)) (rows ++ r ∷ []) ≡ map (logged_write bytes) rows ++ record { offset = r.off; bytes = more } ∷ []
writes_push bytes more [] r all from to = ap (λ (xs : List ℕ). let w : Write = record { offset = r.off; bytes = xs } in w ∷ []) (range_last bytes more r.from r.to from to)
writes_push bytes more (x ∷ rows) r all from to =
    let one = range-append bytes more x.from x.to all.0 all.1 in
    let rest = writes_push bytes more rows r all.2 from to in
    cc

pub within_push : (n m : ℕ) (rows : List Row) (r : Row) → AllWithin n rows → n ≤ m → r.from ≤ r.to → r.to ≤ m → AllWithin m (rows ++ r ∷ [])
within_push n m [] r all le order end = (order, end, tt)
within_push n m (x ∷ rows) r all le order end = (all.0, omega arith, within_push n m rows r all.2 le order end)

pub within_read : (n : ℕ) (rows : List Row) (k : ℕ) (r : Row) → AllWithin n rows → k < length rows → r ≡ get_or rows k r → (r.from ≤ r.to) × (r.to ≤ n)
within_read n [] k r all below read = absurd (omega arith)
within_read n (x ∷ rows) zero r all below read = let P : Row → Type 0 = λ v. (v.from ≤ v.to) × (v.to ≤ n) in subst P (sym read) (all.0, all.1)
within_read n (x ∷ rows) (suc k) r all below read = within_read n rows k r all.2 (omega arith) read

pub row_read : (bytes : List ℕ) (rows : List Row) (k : ℕ) (r : Row) → k < length rows → r ≡ get_or rows k r → slice_get (map (logged_write bytes) rows) k ≡ Some (logged_write bytes r)
row_read bytes [] k r below read = absurd (omega arith)
row_read bytes (x ∷ rows) zero r below read = ap (λ (v : Row). Some (logged_write bytes v)) (sym read)
row_read bytes (x ∷ rows) (suc k) r below read = row_read bytes rows k r (omega arith) read

-- what goes in finds room
pub goes : (log : LogState) (n : ℕ) → IsTrue (goes_in log n) → (0 < log.writes_left) × (n ≤ log.bytes_left)
goes log n in_room = (grind (arith, nat_tests), grind (arith, nat_tests))

-- one more write
after_push : (bytes : List ℕ) (writes : List Write) (w : Write) → after_writes bytes (writes ++ w ∷ []) ≡ with_bytes (after_writes bytes writes) w.offset w.bytes
after_push bytes [] w = refl
after_push bytes (v ∷ writes) w = after_push (with_bytes bytes v.offset v.bytes) writes w

told_push : (b before : List ℕ) (writes : List Write) (offset : ℕ) (xs : List ℕ) (kept : Bool) → cond kept (after_writes before writes) b ≡ b
    → cond kept (after_writes before (writes ++ record { offset = offset; bytes = xs } ∷ [])) (with_bytes b offset xs) ≡ with_bytes b offset xs
told_push b before writes offset xs true told = after_push before writes (record { offset = offset; bytes = xs }) ∙ ap (λ ys. with_bytes ys offset xs) told
told_push b before writes offset xs false told = refl

told_either : (b : List ℕ) (log : LogState) (offset : ℕ) (xs : List ℕ) (fits : Bool) → told_by b log ≡ b
    → told_by (with_bytes b offset xs) (cond fits (with_write log offset xs) (record log { is_kept = false })) ≡ with_bytes b offset xs
told_either b log offset xs true told = told_push b log.before log.writes offset xs log.is_kept told
told_either b log offset xs false told = refl

pub told_with : (b : List ℕ) (log : LogState) (offset : ℕ) (xs : List ℕ) → told_by b log ≡ b → told_by (with_bytes b offset xs) (logged_with log offset xs) ≡ with_bytes b offset xs
told_with b log offset xs told = told_either b log offset xs (goes_in log (length xs)) told
