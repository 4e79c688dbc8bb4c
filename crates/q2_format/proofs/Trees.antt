-- The entries of a tree by place.
use Rattle.std.proofs.Common.{◌≡◌, ℕ, ◌+◌, ◌*◌, ◌<◌, ◌≤◌, Bool, true, false, cond, eqb, List, [], length, get_or, slice_index, refl, ap, ◌∙◌, arith}
use Rattle.std.proofs.lemmas.List.{get_or-map, length-map}
use Rattle.std.proofs.lemmas.Nat.{div-mul-add, mod-mul-add}
use Rattle.q2_format.specs.Bytes.{words_at}
use Rattle.q2_format.specs.Sizes.{entries_in_cluster}
use Rattle.q2_format.specs.Entry.{host_offset}
use Rattle.q2_format.specs.Tables.{Tree, tree_at, l2_table, l2_word_of}
use Rattle.q2_format.proofs.ByPlace.{length-words_at}

-- entry j of the L2 table of L1 entry i
pub l2_word_of-at : (tree : Tree) (c i j : ℕ) → j < entries_in_cluster c
    → l2_word_of tree c (i * entries_in_cluster c + j) ≡ slice_index (get_or tree.l2 i []) j
unfolding l2_word_of
l2_word_of-at tree c i j h =
    let row = div-mul-add i (entries_in_cluster c) j h in
    let column = mod-mul-add i (entries_in_cluster c) j h in
    rw (row, column) refl

pub l1_of_tree : (file : List ℕ) (c at n : ℕ) → (tree_at file c at n).l1 ≡ words_at file at n
unfolding tree_at
l1_of_tree file c at n = refl

pub length_l1 : (file : List ℕ) (c at n : ℕ) → length (tree_at file c at n).l1 ≡ n
length_l1 file c at n = ap length (l1_of_tree file c at n) ∙ length-words_at file at n

pub length_l2 : (file : List ℕ) (c at n : ℕ) → length (tree_at file c at n).l2 ≡ n
unfolding tree_at
length_l2 file c at n = length-map (words_at file at n) (l2_table file c) ∙ length-words_at file at n

-- the L2 table of L1 entry i is the one that its word names
pub l2_of_tree : (file : List ℕ) (c at n i : ℕ) → i < n
    → get_or (tree_at file c at n).l2 i [] ≡ l2_table file c (get_or (tree_at file c at n).l1 i 0)
unfolding tree_at
l2_of_tree file c at n i h = get_or-map (l2_table file c) (words_at file at n) i 0 [] (omega (arith, length-words_at file at n))

table_cases : (file : List ℕ) (c word : ℕ) (none : Bool)
    → length (cond none [] (words_at file (host_offset word) (entries_in_cluster c))) ≤ entries_in_cluster c
table_cases file c word true = omega arith
table_cases file c word false = omega (arith, length-words_at file (host_offset word) (entries_in_cluster c))

-- an L2 table has at most a cluster of entries
pub length-l2_table : (file : List ℕ) (c word : ℕ) → length (l2_table file c word) ≤ entries_in_cluster c
unfolding l2_table
length-l2_table file c word = table_cases file c word (eqb (host_offset word) 0)

pub length_of_l2 : (file : List ℕ) (c at n i : ℕ) → i < n → length (get_or (tree_at file c at n).l2 i []) ≤ entries_in_cluster c
length_of_l2 file c at n i h =
    let table = l2_of_tree file c at n i h in
    rw table (length-l2_table file c (get_or (tree_at file c at n).l1 i 0))
