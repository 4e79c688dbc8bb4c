-- The references of a tree, counted in the words that are kept: the lemma for the crates above.
use Rattle.std.proofs.Common.{◌≡◌, ℕ, suc, ◌+◌, ◌*◌, ◌<◌, ◌≤◌, Bool, false, cond, List, [], ◌∷◌, length, take, drop, get_or, count_by, refl, sym, ap, ◌∙◌, arith}
use Rattle.std.specs.List.{sum_by}
use Rattle.std.proofs.lemmas.List.{get_or-take, get_or-drop, length-take, length-drop}
use Rattle.std.proofs.lemmas.List.Sums.{sum_by-cons, sum_by-take-drop}
use Rattle.q2_format.specs.Sizes.{entries_in_cluster}
use Rattle.q2_format.specs.Entry.{host_offset}
use Rattle.q2_format.specs.References.{names_cluster, own_offset, tree_uses}
use Rattle.q2_format.specs.Tables.{Tree, tree_at}
use Rattle.q2_format.proofs.Consistent.{count_none}
use Rattle.q2_format.proofs.Trees.{l2_word_of-at, length_l1, length_l2, length_of_l2}
use Rattle.q2_tables.specs.Kept.{KeptTables, IsTreeOf}

-- zeros behind a list count for nothing, where 0 doesn't pass
count_padded : (p : ℕ → Bool) → p 0 ≡ false → (xs table : List ℕ) → length table ≤ length xs
    → ((j : ℕ) → j < length xs → get_or xs j 0 ≡ get_or table j 0) → count_by p xs ≡ count_by p table
count_padded p none xs [] len same = count_none p xs (λ i below. ap p (same i below) ∙ none)
count_padded p none [] (y ∷ table) len same = absurd (omega arith)
count_padded p none (x ∷ xs) (y ∷ table) len same =
    let here : x ≡ y = same 0 (omega arith) in
    let term : ◌≡◌ {A = ℕ} (cond (p x) 1 0) (cond (p y) 1 0) = ap (λ (w : ℕ). cond (p w) 1 0) here in
    let rest = count_padded p none xs table (omega arith) (λ j below. same (suc j) (omega arith)) in
    let left = sum_by-cons (λ w. cond (p w) 1 0) x xs in
    let right = sum_by-cons (λ w. cond (p w) 1 0) y table in
    omega (arith, term, rest, left, right)

-- lists one behind the other, each filled up with zeros to one length
record AreRows (e : ℕ) (tables : List (List ℕ)) (words : List ℕ) : Type 0 where
  whole : length words ≡ length tables * e
  short : (i : ℕ) → i < length tables → length (get_or tables i []) ≤ e
  each : (i j : ℕ) → i < length tables → j < e → get_or words (i * e + j) 0 ≡ get_or (get_or tables i []) j 0

count_rows : (p : ℕ → Bool) → p 0 ≡ false → (e : ℕ) (tables : List (List ℕ)) (words : List ℕ) → AreRows e tables words
    → count_by p words ≡ sum_by (λ table. count_by p table) tables
count_rows p none e [] words rows = let empty = rows.whole in count_none p words (λ i below. absurd (omega (arith, empty)))
count_rows p none e (table ∷ tables) words rows =
    let whole : length words ≡ e + length tables * e = rows.whole ∙ omega arith in
    let front : length (take e words) ≡ e = rw length-take (omega (arith, whole)) in
    let back : length (drop e words) ≡ length tables * e = rw length-drop (omega (arith, whole)) in
    let here : count_by p (take e words) ≡ count_by p table =
    count_padded p none (take e words) table (omega (arith, front, rows.short 0 (omega arith)))
    (λ j below. let column : j < e = omega (arith, front) in
    let place : 0 * e + j ≡ j = omega arith in
    get_or-take e words j 0 column ∙ ap (λ (k : ℕ). get_or words k 0) (sym place) ∙ rows.each 0 j (omega arith) column) in
    let rest = count_rows p none e tables (drop e words) (record {
      whole = back;
      short = λ i below. rows.short (suc i) (omega arith);
      each = λ i j below column.
          let place : e + (i * e + j) ≡ suc i * e + j = omega arith in
          get_or-drop e words (i * e + j) 0 ∙ ap (λ (k : ℕ). get_or words k 0) place ∙ rows.each (suc i) j (omega arith) column;
    }) in
    let split = sum_by-take-drop (λ w. cond (p w) 1 0) words e in
    let cons = sum_by-cons (λ (t : List ℕ). count_by p t) table tables in
    omega (arith, here, rest, split, cons)

row_place : (i n e j len : ℕ) → i < n → j < e → len ≡ n * e → i * e + j < len
row_place i n e j len below column is = grind arith

-- so the uses of a tree are counted in the words
pub tree_uses_of : (file : List ℕ) (c at n cluster : ℕ) (kept : KeptTables) → IsTreeOf c kept (tree_at file c at n)
    → tree_uses c (tree_at file c at n) cluster
    ≡ count_by (λ word. names_cluster c cluster (host_offset word)) kept.l1 + count_by (λ word. names_cluster c cluster (own_offset word)) kept.words
unfolding tree_uses
tree_uses_of file c at n cluster kept is =
    let tree : Tree = tree_at file c at n in
    let e : ℕ = entries_in_cluster c in
    let tables : length tree.l2 ≡ n = length_l2 file c at n in
    let len : length kept.words ≡ length tree.l2 * e =
    is.entries ∙ ap (λ (m : ℕ). m * e) (ap length is.l1 ∙ length_l1 file c at n ∙ sym tables) in
    let rows : AreRows e tree.l2 kept.words = record {
      whole = len;
      short = λ i below. length_of_l2 file c at n i (omega (arith, tables));
      each = λ i j below column.
          is.words (i * e + j) (row_place i (length tree.l2) e j (length kept.words) below column len) ∙ l2_word_of-at tree c i j column;
    } in
    let l2 = count_rows (λ word. names_cluster c cluster (own_offset word)) refl e tree.l2 kept.words rows in
    let l1 = ap (λ (words : List ℕ). count_by (λ word. names_cluster c cluster (host_offset word)) words) is.l1 in
    omega (arith, l1, l2)
