-- Room that is counted wish by wish.
use Rattle.std.proofs.Common.{◌≡◌, ℕ, ◌+◌, ◌<◌, ◌≤◌, List, [], ◌∷◌, ◌++◌, length, take, get_or, zero, suc, ap, sym, arith}
use Rattle.std.specs.Prelude.{map}
use Rattle.blk_base.specs.declared.memory.Room.{Room}
use Rattle.trace_codec.specs.declared.wish.Wish.{Wish}
use Rattle.trace_codec.specs.declared.wish.Wish.TheVariants.{Ask, Wait}
use Rattle.qblk_inputs.specs.Room.{entries_for, bytes_for, HaveNumbers, entries_for_all, bytes_for_all, CanCount, AllCanCount, IsRoomFor, HoldsMore, CanHaveRoom}

-- a room with that of these wishes, and of an end
pub record SoFar (first : Room) (wishes : List Wish) (room : Room) : Type 0 where
  pub entries : room.entries ≡ first.entries + (entries_for wishes + 1)
  pub bytes : room.bytes ≡ first.bytes + bytes_for wishes
  pub pieces : HaveNumbers wishes

entries-push : (ws : List Wish) (w : Wish) → entries_for (ws ++ w ∷ []) ≡ entries_for ws + entries_for (w ∷ [])
entries-push [] w = refl'
  where
    refl' : entries_for (w ∷ []) ≡ 0 + entries_for (w ∷ [])
    refl' = omega arith
entries-push (Ask op ∷ ws) w = omega (arith, entries-push ws w)
entries-push (Wait line ∷ ws) w = entries-push ws w

bytes-push : (ws : List Wish) (w : Wish) → bytes_for (ws ++ w ∷ []) ≡ bytes_for ws + bytes_for (w ∷ [])
bytes-push [] w = refl'
  where
    refl' : bytes_for (w ∷ []) ≡ 0 + bytes_for (w ∷ [])
    refl' = omega arith
bytes-push (Ask op ∷ ws) w = omega (arith, bytes-push ws w)
bytes-push (Wait line ∷ ws) w = bytes-push ws w

numbers-push : (ws : List Wish) (w : Wish) → HaveNumbers ws → HaveNumbers (w ∷ []) → HaveNumbers (ws ++ w ∷ [])
numbers-push [] w h one = one
numbers-push (Ask op ∷ ws) w h one = (h.0, numbers-push ws w h.1 one)
numbers-push (Wait line ∷ ws) w h one = numbers-push ws w h one

pub take_next : {X : Type 0} (ws : List X) (i : ℕ) (w : X) → i < length ws → w ≡ get_or ws i w → take (i + 1) ws ≡ take i ws ++ w ∷ []
take_next [] i w below is = absurd (omega arith)
take_next (x ∷ ws) zero w below is = ap (λ y. y ∷ []) (sym is)
take_next (x ∷ ws) (suc i) w below is =
    let e : suc i + 1 ≡ suc (i + 1) = omega arith in
    rw e (ap (λ r. x ∷ r) (take_next ws i w (omega arith) is))

pub so_far_next : (first before after : Room) (ws : List Wish) (i : ℕ) (w : Wish) → i < length ws → w ≡ get_or ws i w → SoFar first (take i ws) before
    → after.entries ≡ before.entries + entries_for (w ∷ []) → after.bytes ≡ before.bytes + bytes_for (w ∷ []) → HaveNumbers (w ∷ [])
    → SoFar first (take (i + 1) ws) after
so_far_next first before after ws i w below is had entries bytes pieces =
    rw (take_next ws i w below is) (record {
      entries = omega (arith, entries-push (take i ws) w, had.entries, entries);
      bytes = omega (arith, bytes-push (take i ws) w, had.bytes, bytes);
      pieces = numbers-push (take i ws) w had.pieces pieces;
    })

-- ---- one trace after another

entries-all-push : (ts : List (List Wish)) (t : List Wish) → entries_for_all (ts ++ t ∷ []) ≡ entries_for_all ts + (entries_for t + 1)
entries-all-push [] t = omega arith
entries-all-push (x ∷ ts) t = omega (arith, entries-all-push ts t)

bytes-all-push : (ts : List (List Wish)) (t : List Wish) → bytes_for_all (ts ++ t ∷ []) ≡ bytes_for_all ts + bytes_for t
bytes-all-push [] t = omega arith
bytes-all-push (x ∷ ts) t = omega (arith, bytes-all-push ts t)

count-all-push : (ts : List (List Wish)) (t : List Wish) → AllCanCount ts → CanCount t → AllCanCount (ts ++ t ∷ [])
count-all-push [] t all one = (one, tt)
count-all-push (x ∷ ts) t all one = (all.0, count-all-push ts t all.1 one)

pub room_next : (lines : ℕ) (before after : Room) (ts : List (List Wish)) (t : List Wish) → IsRoomFor lines ts before
    → after.entries ≡ before.entries + (entries_for t + 1) → after.bytes ≡ before.bytes + bytes_for t → CanCount t → IsRoomFor lines (ts ++ t ∷ []) after
room_next lines before after ts t had entries bytes count = record {
  entries = omega (arith, entries-all-push ts t, had.entries, entries);
  bytes = omega (arith, bytes-all-push ts t, had.bytes, bytes);
  numbers = count-all-push ts t had.numbers count;
}

-- ---- where it can't be counted

entries-within : (ws : List Wish) (i : ℕ) (w : Wish) → i < length ws → w ≡ get_or ws i w → entries_for (take i ws) + entries_for (w ∷ []) ≤ entries_for ws
entries-within [] i w below is = absurd (omega arith)
entries-within (x ∷ ws) zero w below is = rw is (by_first x)
  where
    by_first : (x : Wish) → 0 + entries_for (x ∷ []) ≤ entries_for (x ∷ ws)
    by_first (Ask op) = omega arith
    by_first (Wait line) = omega arith
entries-within (Ask op ∷ ws) (suc i) w below is = let rest = entries-within ws i w (omega arith) is in omega (arith, rest)
entries-within (Wait line ∷ ws) (suc i) w below is = entries-within ws i w (omega arith) is

bytes-within : (ws : List Wish) (i : ℕ) (w : Wish) → i < length ws → w ≡ get_or ws i w → bytes_for (take i ws) + bytes_for (w ∷ []) ≤ bytes_for ws
bytes-within [] i w below is = absurd (omega arith)
bytes-within (x ∷ ws) zero w below is = rw is (by_first x)
  where
    by_first : (x : Wish) → 0 + bytes_for (x ∷ []) ≤ bytes_for (x ∷ ws)
    by_first (Ask op) = omega arith
    by_first (Wait line) = omega arith
bytes-within (Ask op ∷ ws) (suc i) w below is = let rest = bytes-within ws i w (omega arith) is in omega (arith, rest)
bytes-within (Wait line ∷ ws) (suc i) w below is = bytes-within ws i w (omega arith) is

numbers-at : (ws : List Wish) (i : ℕ) (w : Wish) → i < length ws → w ≡ get_or ws i w → HaveNumbers ws → HaveNumbers (w ∷ [])
numbers-at [] i w below is h = absurd (omega arith)
numbers-at (x ∷ ws) zero w below is h = rw is (by_first x h)
  where
    by_first : (x : Wish) → HaveNumbers (x ∷ ws) → HaveNumbers (x ∷ [])
    by_first (Ask op) h = (h.0, tt)
    by_first (Wait line) h = tt
numbers-at (Ask op ∷ ws) (suc i) w below is h = numbers-at ws i w (omega arith) is h.1
numbers-at (Wait line ∷ ws) (suc i) w below is h = numbers-at ws i w (omega arith) is h

-- a wish that can't be counted behind others
pub trace_none : (first room : Room) (ws : List Wish) (i : ℕ) (w : Wish) → i < length ws → w ≡ get_or ws i w → SoFar first (take i ws) room
    → (HoldsMore room (entries_for (w ∷ [])) (bytes_for (w ∷ [])) → HaveNumbers (w ∷ []) → ⊥) → HoldsMore first (entries_for ws + 1) (bytes_for ws) → CanCount ws → ⊥
trace_none first room ws i w below is had none holds count =
    none (record {
      entries_end = omega (arith, entries-within ws i w below is, had.entries, holds.entries_end);
      bytes_end = omega (arith, bytes-within ws i w below is, had.bytes, holds.bytes_end);
    }) (numbers-at ws i w below is count.pieces)

entries-all-within : {X : Type 0} (f : X → List Wish) (ts : List X) (i : ℕ) (t : X) → i < length ts → t ≡ get_or ts i t
    → entries_for_all (map f (take i ts)) + (entries_for (f t) + 1) ≤ entries_for_all (map f ts)
entries-all-within f [] i t below is = absurd (omega arith)
entries-all-within f (x ∷ ts) zero t below is = rw is (omega arith)
entries-all-within f (x ∷ ts) (suc i) t below is = let rest = entries-all-within f ts i t (omega arith) is in omega (arith, rest)

bytes-all-within : {X : Type 0} (f : X → List Wish) (ts : List X) (i : ℕ) (t : X) → i < length ts → t ≡ get_or ts i t
    → bytes_for_all (map f (take i ts)) + bytes_for (f t) ≤ bytes_for_all (map f ts)
bytes-all-within f [] i t below is = absurd (omega arith)
bytes-all-within f (x ∷ ts) zero t below is = rw is (omega arith)
bytes-all-within f (x ∷ ts) (suc i) t below is = let rest = bytes-all-within f ts i t (omega arith) is in omega (arith, rest)

count-at : {X : Type 0} (f : X → List Wish) (ts : List X) (i : ℕ) (t : X) → i < length ts → t ≡ get_or ts i t → AllCanCount (map f ts) → CanCount (f t)
count-at f [] i t below is h = absurd (omega arith)
count-at f (x ∷ ts) zero t below is h = rw is h.0
count-at f (x ∷ ts) (suc i) t below is h = count-at f ts i t (omega arith) is h.1

-- a trace that can't be counted behind others
pub room_none : {X : Type 0} (f : X → List Wish) (lines : ℕ) (room : Room) (ts : List X) (i : ℕ) (t : X) → i < length ts → t ≡ get_or ts i t
    → IsRoomFor lines (map f (take i ts)) room → (HoldsMore room (entries_for (f t) + 1) (bytes_for (f t)) → CanCount (f t) → ⊥) → CanHaveRoom lines (map f ts) → ⊥
room_none f lines room ts i t below is had none can =
    none (record {
      entries_end = omega (arith, entries-all-within f ts i t below is, had.entries, can.entries);
      bytes_end = omega (arith, bytes-all-within f ts i t below is, had.bytes, can.bytes);
    }) (count-at f ts i t below is can.numbers)
