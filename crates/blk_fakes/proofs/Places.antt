-- Bytes copied out of a vector, and written into one that is filled up with zeros.
use Rattle.std.proofs.Common.{◌≡◌, ◌⊎◌, ℕ, ◌+◌, ◌-◌, ◌<◌, ◌≤◌, min, max, List, [], ◌∷◌, ◌++◌, length, get_or, take, drop, replicate, refl, sym, ◌∙◌, ap, arith, inl, inr, length-append, length-drop}
use Rattle.std.proofs.lemmas.List.{length-replicate, length-take, get_or-take, get_or-drop, get_or_append_left, get_or-append_right, get_or-replicate, get_or_past, ext_get_or}
use Rattle.std.proofs.lemmas.Bool.{cases_lt}
use Rattle.blk_base.specs.Content.{bytes_at, with_bytes, size_with}
use Rattle.blk_base.proofs.Contents.{bytes_at-by_place, length-with_bytes, get_or-with_bytes_outside, get_or-with_bytes_inside}

pub zeros_past : (b : List ℕ) (off n : ℕ) → length b ≤ off → replicate n 0 ≡ bytes_at b off n
zeros_past b off n past = bytes_at-by_place b (replicate n 0) off n (length-replicate n 0)
    (λ k below. get_or-replicate n k 0 0 below ∙ sym (get_or_past b (off + k) 0 (omega arith)))

-- what stands at the offset, and zeros behind it
shown_at : (b : List ℕ) (off n m k : ℕ) → off ≤ length b → m ≡ min n (length b - off) → k < n → (k < m) ⊎ (m ≤ k)
    → get_or (take m (drop off b) ++ drop m (replicate n 0)) k 0 ≡ get_or b (off + k) 0
shown_at b off n m k within is below (inl here) =
    get_or_append_left (take m (drop off b)) (drop m (replicate n 0)) 0 k (omega (arith, length-take m (drop off b), length-drop off b))
    ∙ get_or-take m (drop off b) k 0 here ∙ get_or-drop off b k 0
shown_at b off n m k within is below (inr past) =
    get_or-append_right (take m (drop off b)) (drop m (replicate n 0)) m k 0 (omega (arith, length-take m (drop off b), length-drop off b)) past
    ∙ get_or-drop m (replicate n 0) (k - m) 0 ∙ get_or-replicate n (m + (k - m)) 0 0 (omega arith)
    ∙ sym (get_or_past b (off + k) 0 (omega arith))

pub shown : (b : List ℕ) (off n m : ℕ) → off ≤ length b → m ≡ min n (length b - off) → take m (drop off b) ++ drop m (replicate n 0) ≡ bytes_at b off n
shown b off n m within is = bytes_at-by_place b (take m (drop off b) ++ drop m (replicate n 0)) off n
    (omega (arith, length-append (take m (drop off b)) (drop m (replicate n 0)), length-take m (drop off b), length-drop off b, length-drop m (replicate {A = ℕ} n 0), length-replicate {A = ℕ} n 0))
    (λ k below. shown_at b off n m k within is below (cases_lt k m))

-- zeros at the end read as what was not there
grown_at : (b : List ℕ) (end k : ℕ) → length b < end → (k < length b) ⊎ (length b ≤ k) → (k < end) ⊎ (end ≤ k) → get_or (take end b ++ replicate (end - length b) 0) k 0 ≡ get_or b k 0
grown_at b end k short (inl below) there =
    get_or_append_left (take end b) (replicate (end - length b) 0) 0 k (omega (arith, length-take end b))
    ∙ get_or-take end b k 0 (omega arith)
grown_at b end k short (inr past) (inl there) =
    get_or-append_right (take end b) (replicate (end - length b) 0) (length b) k 0 (omega (arith, length-take end b)) past
    ∙ get_or-replicate (end - length b) (k - length b) 0 0 (omega arith) ∙ sym (get_or_past b k 0 past)
grown_at b end k short (inr past) (inr out) =
    get_or_past (take end b ++ replicate (end - length b) 0) k 0 (omega (arith, length-append (take end b) (replicate (end - length b) 0), length-take end b, length-replicate {A = ℕ} (end - length b) 0))
    ∙ sym (get_or_past b k 0 past)

pub grown : (b : List ℕ) (end k : ℕ) → length b < end → get_or (take end b ++ replicate (end - length b) 0) k 0 ≡ get_or b k 0
grown b end k short = grown_at b end k short (cases_lt k (length b)) (cases_lt k end)

-- bytes put at a place of a list that reads as another one
put_at : (b g xs : List ℕ) (at k : ℕ) → at + length xs ≤ length g → ((k : ℕ) → get_or g k 0 ≡ get_or b k 0) → (k < at) ⊎ (at ≤ k) → (k < at + length xs) ⊎ (at + length xs ≤ k)
    → get_or ((take at g ++ xs) ++ drop (at + length xs) g) k 0 ≡ get_or (with_bytes b at xs) k 0
put_at b g xs at k within same (inl before) there =
    get_or_append_left (take at g ++ xs) (drop (at + length xs) g) 0 k (omega (arith, length-append (take at g) xs, length-take at g))
    ∙ get_or_append_left (take at g) xs 0 k (omega (arith, length-take at g))
    ∙ get_or-take at g k 0 before ∙ same k ∙ sym (get_or-with_bytes_outside b at xs k (inl before))
put_at b g xs at k within same (inr from) (inl inside) =
    let e : at + (k - at) ≡ k = omega arith in
    get_or_append_left (take at g ++ xs) (drop (at + length xs) g) 0 k (omega (arith, length-append (take at g) xs, length-take at g))
    ∙ get_or-append_right (take at g) xs at k 0 (omega (arith, length-take at g)) from
    ∙ sym (get_or-with_bytes_inside b at xs (k - at) (omega arith)) ∙ ap (λ i. get_or (with_bytes b at xs) i 0) e
put_at b g xs at k within same (inr from) (inr behind) =
    let e : at + length xs + (k - (at + length xs)) ≡ k = omega arith in
    get_or-append_right (take at g ++ xs) (drop (at + length xs) g) (at + length xs) k 0 (omega (arith, length-append (take at g) xs, length-take at g)) behind
    ∙ get_or-drop (at + length xs) g (k - (at + length xs)) 0 ∙ ap (λ i. get_or g i 0) e ∙ same k
    ∙ sym (get_or-with_bytes_outside b at xs k (inr behind))

size_some : (size at : ℕ) (xs : List ℕ) → 0 < length xs → size_with size at xs ≡ max size (at + length xs)
size_some size at [] some = absurd (omega arith)
size_some size at (x ∷ xs) some = refl

pub put_over : (b g xs : List ℕ) (at : ℕ) → 0 < length xs → length g ≡ max (length b) (at + length xs) → ((k : ℕ) → get_or g k 0 ≡ get_or b k 0)
    → (take at g ++ xs) ++ drop (at + length xs) g ≡ with_bytes b at xs
put_over b g xs at some long same = ext_get_or 0 ((take at g ++ xs) ++ drop (at + length xs) g) (with_bytes b at xs)
    (omega (arith, length-append (take at g ++ xs) (drop (at + length xs) g), length-append (take at g) xs, length-take at g, length-drop (at + length xs) g, length-with_bytes b at xs, size_some (length b) at xs some))
    (λ k below. put_at b g xs at k (omega arith) same (cases_lt k at) (cases_lt k (at + length xs)))
