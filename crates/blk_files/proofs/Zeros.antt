-- A list that ends in zeros.
use Rattle.std.proofs.Common.{◌≡◌, ℕ, ◌-◌, ◌≤◌, List, ◌++◌, length, get_or, drop, take, replicate, ◌∙◌, ap, arith, inl, inr}
use Rattle.std.proofs.lemmas.Bool.{cases_lt}
use Rattle.std.proofs.lemmas.List.{get_or-append_right, get_or-replicate, get_or_append_left, get_or_past, length-drop, length-replicate, length-take-le}

zeros_past : (n i : ℕ) (post : List ℕ) → length post ≡ 0 → get_or (replicate n 0 ++ post) i 0 ≡ 0
zeros_past n i post none = elim (cases_lt i n) [
  | inl below ↦ get_or_append_left (replicate n 0) post 0 i (omega (arith, length-replicate {A = ℕ} n 0, below)) ∙ get_or-replicate n i 0 0 below
  | inr past ↦ get_or-append_right (replicate n 0) post n i 0 (length-replicate {A = ℕ} n 0) past ∙ get_or_past post (i - n) 0 (omega (arith, none))
]

-- what is behind a place, where zeros were put
pub zeros_from : (xs zs : List ℕ) (n w k : ℕ) → w ≤ length xs → zs ≡ replicate n 0 → w ≤ k
    → get_or (take w xs ++ (zs ++ drop (length xs - w) (drop w xs))) k 0 ≡ 0
zeros_from xs zs n w k fits zeros past =
    let post : List ℕ = drop (length xs - w) (drop w xs) in
    let none : length post ≡ 0 = omega (arith, length-drop (length xs - w) (drop w xs), length-drop w xs) in
    get_or-append_right (take w xs) (zs ++ post) w k 0 (length-take-le w xs fits) past
    ∙ ap (λ (ys : List ℕ). get_or (ys ++ post) (k - w) 0) zeros ∙ zeros_past n (k - w) post none
