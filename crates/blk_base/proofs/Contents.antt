-- Reading and writing bytes at an offset, by the byte at each place.
use Rattle.std.proofs.Common.{◌≡◌, ◌⊎◌, ℕ, ◌+◌, ◌-◌, ◌<◌, ◌≤◌, max, List, [], ◌∷◌, ◌++◌, length, get_or, take, drop, replicate, refl, sym, ◌∙◌, ap, arith, inl, inr, length-append, length-drop}
use Rattle.std.proofs.lemmas.List.{length-replicate, length-take-le, get_or-take, get_or-drop, get_or_append_left, get_or-append_right, get_or-replicate, get_or_past, ext_get_or, take-append-le}
use Rattle.std.proofs.lemmas.Bool.{cases_lt}
use Rattle.blk_base.specs.Content.{bytes_at, AreZeroPast, overwritten, with_bytes, size_with}

abbrev zeros : ℕ → List ℕ
zeros n = replicate n 0

-- zeros are zero, and so is what is behind them
zero_at : (n i : ℕ) → (i < n) ⊎ (n ≤ i) → get_or (zeros n) i 0 ≡ 0
zero_at n i (inl below) = get_or-replicate n i 0 0 below
zero_at n i (inr past) = get_or_past (zeros n) i 0 (omega (arith, length-replicate {A = ℕ} n 0))

-- a byte of a list that is filled up with zeros
padded : (b : List ℕ) (n k : ℕ) → (k < length b) ⊎ (length b ≤ k) → get_or (b ++ zeros n) k 0 ≡ get_or b k 0
padded b n k (inl below) = get_or_append_left b (zeros n) 0 k below
padded b n k (inr past) =
    get_or-append_right b (zeros n) (length b) k 0 refl past
    ∙ zero_at n (k - length b) (cases_lt (k - length b) n) ∙ sym (get_or_past b k 0 past)

get_or-padded : (b : List ℕ) (n k : ℕ) → get_or (b ++ zeros n) k 0 ≡ get_or b k 0
get_or-padded b n k = padded b n k (cases_lt k (length b))

pub length-bytes_at : (b : List ℕ) (at n : ℕ) → length (bytes_at b at n) ≡ n
unfolding bytes_at
length-bytes_at b at n = length-take-le n (drop at b ++ zeros n) (omega (arith, length-append (drop at b) (zeros n), length-replicate {A = ℕ} n 0))

pub get_or-bytes_at : (b : List ℕ) (at n k : ℕ) → k < n → get_or (bytes_at b at n) k 0 ≡ get_or b (at + k) 0
unfolding bytes_at
get_or-bytes_at b at n k below = get_or-take n (drop at b ++ zeros n) k 0 below ∙ get_or-padded (drop at b) n k ∙ get_or-drop at b k 0

-- past the end all is 0
pub zero_past : (b read : List ℕ) (at n : ℕ) → read ≡ bytes_at b at n → AreZeroPast (length b) at read
zero_past b read at n is k past = ap (λ (xs : List ℕ). get_or xs k 0) is ∙ elim (cases_lt k n) [
  | inl below ↦ get_or-bytes_at b at n k below ∙ get_or_past b (at + k) 0 past
  | inr beyond ↦ get_or_past (bytes_at b at n) k 0 (omega (arith, length-bytes_at b at n, beyond))
]

-- bytes of which each is given by its place
pub bytes_at-by_place : (b xs : List ℕ) (at n : ℕ) → length xs ≡ n → ((k : ℕ) → k < n → get_or xs k 0 ≡ get_or b (at + k) 0) → xs ≡ bytes_at b at n
bytes_at-by_place b xs at n len each = ext_get_or 0 xs (bytes_at b at n) (len ∙ sym (length-bytes_at b at n))
    (λ k below. each k (omega arith) ∙ sym (get_or-bytes_at b at n k (omega arith)))

pub bytes_at-within : (b : List ℕ) (at n : ℕ) → at + n ≤ length b → bytes_at b at n ≡ take n (drop at b)
unfolding bytes_at
bytes_at-within b at n within = take-append-le n (drop at b) (zeros n) (omega (arith, length-drop at b))

front : (b : List ℕ) (at : ℕ) → length (take at (b ++ zeros at)) ≡ at
front b at = length-take-le at (b ++ zeros at) (omega (arith, length-append b (zeros at), length-replicate {A = ℕ} at 0))

pub length-overwritten : (b : List ℕ) (at : ℕ) (xs : List ℕ) → length (overwritten b at xs) ≡ max (length b) (at + length xs)
unfolding overwritten
length-overwritten b at xs =
    let whole = length-append (take at (b ++ zeros at) ++ xs) (drop (at + length xs) b) in
    let head = length-append (take at (b ++ zeros at)) xs in
    omega (arith, whole, head, front b at, length-drop (at + length xs) b)

pub length-with_bytes : (b : List ℕ) (at : ℕ) (xs : List ℕ) → length (with_bytes b at xs) ≡ size_with (length b) at xs
length-with_bytes b at [] = refl
length-with_bytes b at (x ∷ xs) = length-overwritten b at (x ∷ xs)

-- in front of a write, in it, and behind it
before : (b : List ℕ) (at : ℕ) (xs : List ℕ) (k : ℕ) → k < at → get_or (overwritten b at xs) k 0 ≡ get_or b k 0
unfolding overwritten
before b at xs k below =
    get_or_append_left (take at (b ++ zeros at) ++ xs) (drop (at + length xs) b) 0 k (omega (arith, length-append (take at (b ++ zeros at)) xs, front b at))
    ∙ get_or_append_left (take at (b ++ zeros at)) xs 0 k (omega (arith, front b at))
    ∙ get_or-take at (b ++ zeros at) k 0 below ∙ get_or-padded b at k

inside : (b : List ℕ) (at : ℕ) (xs : List ℕ) (k : ℕ) → k < length xs → get_or (overwritten b at xs) (at + k) 0 ≡ get_or xs k 0
unfolding overwritten
inside b at xs k below =
    let e : at + k - at ≡ k = omega arith in
    get_or_append_left (take at (b ++ zeros at) ++ xs) (drop (at + length xs) b) 0 (at + k) (omega (arith, length-append (take at (b ++ zeros at)) xs, front b at))
    ∙ get_or-append_right (take at (b ++ zeros at)) xs at (at + k) 0 (front b at) (omega arith)
    ∙ ap (λ i. get_or xs i 0) e

behind : (b : List ℕ) (at : ℕ) (xs : List ℕ) (k : ℕ) → at + length xs ≤ k → get_or (overwritten b at xs) k 0 ≡ get_or b k 0
unfolding overwritten
behind b at xs k past =
    let e : at + length xs + (k - (at + length xs)) ≡ k = omega arith in
    get_or-append_right (take at (b ++ zeros at) ++ xs) (drop (at + length xs) b) (at + length xs) k 0
    (length-append (take at (b ++ zeros at)) xs ∙ ap (λ n. n + length xs) (front b at)) past
    ∙ get_or-drop (at + length xs) b (k - (at + length xs)) 0 ∙ ap (λ i. get_or b i 0) e

-- a byte that a write does not reach
pub get_or-with_bytes_outside : (b : List ℕ) (at : ℕ) (xs : List ℕ) (k : ℕ) → (k < at) ⊎ (at + length xs ≤ k) → get_or (with_bytes b at xs) k 0 ≡ get_or b k 0
get_or-with_bytes_outside b at [] k apart = refl
get_or-with_bytes_outside b at (x ∷ xs) k (inl below) = before b at (x ∷ xs) k below
get_or-with_bytes_outside b at (x ∷ xs) k (inr past) = behind b at (x ∷ xs) k past

-- a byte that it does
pub get_or-with_bytes_inside : (b : List ℕ) (at : ℕ) (xs : List ℕ) (k : ℕ) → k < length xs → get_or (with_bytes b at xs) (at + k) 0 ≡ get_or xs k 0
get_or-with_bytes_inside b at [] k below = absurd (omega arith)
get_or-with_bytes_inside b at (x ∷ xs) k below = inside b at (x ∷ xs) k below

-- what stands apart from a write reads as before
pub bytes_at-with_bytes_apart : (b : List ℕ) (at : ℕ) (xs : List ℕ) (from n : ℕ) → (from + n ≤ at) ⊎ (at + length xs ≤ from) → bytes_at (with_bytes b at xs) from n ≡ bytes_at b from n
bytes_at-with_bytes_apart b at xs from n apart = bytes_at-by_place b (bytes_at (with_bytes b at xs) from n) from n (length-bytes_at (with_bytes b at xs) from n)
    (λ k below. get_or-bytes_at (with_bytes b at xs) from n k below
    ∙ get_or-with_bytes_outside b at xs (from + k) (elim apart [ inl left ↦ inl (omega arith) | inr right ↦ inr (omega arith) ]))

-- what was written is read
pub bytes_at-with_bytes : (b : List ℕ) (at : ℕ) (xs : List ℕ) (n : ℕ) → length xs ≡ n → bytes_at (with_bytes b at xs) at n ≡ xs
bytes_at-with_bytes b at xs n len = sym (bytes_at-by_place (with_bytes b at xs) xs at n len
    (λ k below. sym (get_or-with_bytes_inside b at xs k (omega arith))))

-- a write within the bytes
pub overwritten-within : (b : List ℕ) (at : ℕ) (xs : List ℕ) → at + length xs ≤ length b → overwritten b at xs ≡ take at b ++ xs ++ drop (at + length xs) b
unfolding overwritten
overwritten-within b at xs within = ap (λ head. head ++ xs ++ drop (at + length xs) b) (take-append-le at b (zeros at) (omega arith))

pub length-with_bytes_within : (b : List ℕ) (at : ℕ) (xs : List ℕ) → at + length xs ≤ length b → length (with_bytes b at xs) ≡ length b
length-with_bytes_within b at [] within = refl
length-with_bytes_within b at (x ∷ xs) within = length-overwritten b at (x ∷ xs) ∙ omega arith
