-- A write of a part of a file is that write of the file, further on.
use Rattle.std.proofs.Common.{◌≡◌, ◌⊎◌, ℕ, ◌+◌, ◌-◌, ◌<◌, ◌≤◌, List, length, get_or, sym, ◌∙◌, ap, arith, inl, inr}
use Rattle.std.proofs.lemmas.Bool.{cases_lt}
use Rattle.blk_base.specs.Content.{bytes_at, with_bytes}
use Rattle.blk_base.proofs.Contents.{length-bytes_at, get_or-bytes_at, bytes_at-by_place, get_or-with_bytes_outside, get_or-with_bytes_inside, length-with_bytes_within}

pub with_bytes-part : (b : List ℕ) (offset size start : ℕ) (xs : List ℕ) → start + length xs ≤ size
    → bytes_at (with_bytes b (offset + start) xs) offset size ≡ with_bytes (bytes_at b offset size) start xs
with_bytes-part b offset size start xs within =
    sym (bytes_at-by_place (with_bytes b (offset + start) xs) (with_bytes (bytes_at b offset size) start xs) offset size
    (length-with_bytes_within (bytes_at b offset size) start xs (omega (arith, length-bytes_at b offset size))
    ∙ length-bytes_at b offset size)
    each)
  where
    outside : (k : ℕ) → k < size → (k < start) ⊎ (start + length xs ≤ k)
        → (offset + k < offset + start) ⊎ (offset + start + length xs ≤ offset + k)
        → get_or (with_bytes (bytes_at b offset size) start xs) k 0 ≡ get_or (with_bytes b (offset + start) xs) (offset + k) 0
    outside k low apart further =
        get_or-with_bytes_outside (bytes_at b offset size) start xs k apart ∙ get_or-bytes_at b offset size k low
        ∙ sym (get_or-with_bytes_outside b (offset + start) xs (offset + k) further)

    inside : (k : ℕ) → start ≤ k → k < start + length xs
        → get_or (with_bytes (bytes_at b offset size) start xs) k 0 ≡ get_or (with_bytes b (offset + start) xs) (offset + k) 0
    inside k from to =
        let at : k ≡ start + (k - start) = omega (arith, from) in
        let place : offset + k ≡ offset + start + (k - start) = omega (arith, from) in
        let low : k - start < length xs = omega (arith, from, to) in
        ap (λ i. get_or (with_bytes (bytes_at b offset size) start xs) i 0) at
        ∙ get_or-with_bytes_inside (bytes_at b offset size) start xs (k - start) low
        ∙ sym (get_or-with_bytes_inside b (offset + start) xs (k - start) low)
        ∙ ap (λ i. get_or (with_bytes b (offset + start) xs) i 0) (sym place)

    each : (k : ℕ) → k < size
        → get_or (with_bytes (bytes_at b offset size) start xs) k 0 ≡ get_or (with_bytes b (offset + start) xs) (offset + k) 0
    each k low = elim (cases_lt k start) [
      | inl before ↦ outside k low (inl before) (inl (omega (arith, before)))
      | inr from ↦ elim (cases_lt k (start + length xs)) [
        | inl to ↦ inside k from to
        | inr past ↦ outside k low (inr past) (inr (omega (arith, past)))
      ]
    ]
