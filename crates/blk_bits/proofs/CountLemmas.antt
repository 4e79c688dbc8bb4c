-- How many members there are, by words.
use Rattle.std.proofs.Common.{◌≡◌, ℕ, zero, suc, ◌+◌, ◌-◌, ◌*◌, ◌/◌, ◌<◌, ◌≤◌, Bool, cond, List, [], ◌∷◌, length, get_or, map, take, drop, refl, sym, ◌∙◌, ap, arith, add-one}
use Rattle.std.specs.Prelude.{count_ones}
use Rattle.std.specs.List.{sum_by, range_with_len}
use Rattle.std.specs.Simd.Lanes.{mask_l}
use Rattle.std.proofs.lemmas.Simd.{ones-mask_l_cons}
use Rattle.std.proofs.lemmas.List.{nil_from_length, length-drop, same_lists, get_or-drop}
use Rattle.std.proofs.lemmas.List.Sums.{sum_by-cons, sum_by-take-drop, count_by-le-length}
use Rattle.blk_bits.specs.Granules.{member_count}
use Rattle.blk_bits.specs.Words.{word_count, words_of_bits}
use Rattle.blk_bits.proofs.LevelLemmas.{WordsKeep, words-kept}

ones-part : (bits : List Bool) → count_ones (mask_l bits) ≡ member_count bits
unfolding lib.Count.ones
ones-part [] = refl
ones-part (m ∷ ms) = ones-mask_l_cons m ms ∙ ap (λ n. cond m 1 0 + n) (ones-part ms) ∙ sym (sum_by-cons (λ x. cond x 1 0) m ms)

drop-further : (set : List Bool) (a b c : ℕ) → a + b ≡ c → drop b (drop a set) ≡ drop c set
drop-further set a b c is =
    same_lists (drop b (drop a set)) (drop c set)
    (omega (arith, length-drop b (drop a set), length-drop a set, length-drop c set))
    (λ k d below. get_or-drop b (drop a set) k d ∙ get_or-drop a set (b + k) d ∙ ap (λ i. get_or set i d) (let e : a + (b + k) ≡ c + k = omega arith in e) ∙ sym (get_or-drop c set k d))

by_parts : (set : List Bool) (a n : ℕ)
    → sum_by count_ones (map (λ w. mask_l (take (64 * w + 64 - 64 * w) (drop (64 * w) set))) (range_with_len a n)) + member_count (drop (64 * (a + n)) set)
    ≡ member_count (drop (64 * a) set)
by_parts set a zero =
    let same = ap (λ i. member_count (drop i set)) (let e : 64 * (a + 0) ≡ 64 * a = omega arith in e) in
    omega (arith, same)
by_parts set a (suc n) =
    let part = take (64 * a + 64 - 64 * a) (drop (64 * a) set) in
    let first = sum_by-cons count_ones (mask_l part) (map (λ w. mask_l (take (64 * w + 64 - 64 * w) (drop (64 * w) set))) (range_with_len (a + 1) n)) in
    let rest = by_parts set (a + 1) n in
    let ones = ones-part part in
    let split = sum_by-take-drop (λ x. cond x 1 0) (drop (64 * a) set) (64 * a + 64 - 64 * a) in
    let behind = ap member_count (drop-further set (64 * a) (64 * a + 64 - 64 * a) (64 * (a + 1)) (omega arith)) in
    let end = ap (λ i. member_count (drop i set)) (let e : 64 * (a + 1 + n) ≡ 64 * (a + suc n) = omega arith in e) in
    omega (arith, first, rest, ones, split, behind, end)

pub count-kept : (set : List Bool) (words : List ℕ) → WordsKeep set words → sum_by count_ones words ≡ member_count set
unfolding words_of_bits
count-kept set words keeps =
    let parts = by_parts set 0 (word_count (length set)) in
    let none = ap member_count (nil_from_length (drop (64 * (0 + word_count (length set))) set) (omega (arith, length-drop (64 * (0 + word_count (length set))) set))) in
    ap (sum_by count_ones) (words-kept set words keeps) ∙ omega (arith, parts, none)

pub count-le : (set : List Bool) → member_count set ≤ length set
count-le set = count_by-le-length (λ m. m) set
