-- Where no cluster is named twice, tables lie apart: what a sound image gives to a link.
use Rattle.std.proofs.Common.{◌≡◌, ◌≢◌, ℕ, ◌+◌, ◌*◌, ◌/◌, ◌%◌, ◌<◌, ◌≤◌, inl, inr, Bool, true, false, cond, List, length, get_or, slice_index, count_by, refl, sym, ap, ◌∙◌, arith}
use Rattle.std.proofs.Math.ListN.{set, length-set}
use Rattle.std.proofs.Math.Nat.{div-add-mod'}
use Rattle.std.proofs.lemmas.Bool.{cases_lt, cases_eq, cases_order, eq-eqb, ne_eqb, lt-ltb, le-ltb}
use Rattle.std.proofs.lemmas.List.{get_or-set_other}
use Rattle.std.proofs.lemmas.List.Sums.{sum_by-set, get_or-le-sum_by}
use Rattle.q2_format.specs.Sizes.{cluster_size, clusters_for}
use Rattle.q2_format.specs.Entry.{host_offset}
use Rattle.q2_format.specs.References.{names_cluster, in_run, uses, structure_uses, tree_uses}
use Rattle.q2_format.specs.Tables.{active_tree}
use Rattle.q2_format.specs.declared.header.Header.{Header}
use Rattle.q2_format.proofs.Frames.{cluster_before}
use Rattle.q2_tables.specs.Kept.{KeptTables}
use Rattle.q2_tables.specs.Linking.{Apart, IsFreeBut, LieBesideL1}

-- an offset names its cluster
pub names_own : (c offset : ℕ) → offset ≢ 0 → names_cluster c (offset / c) offset ≡ true
names_own c offset some =
    let named = ne_eqb offset 0 some in
    let same = eq-eqb (offset / c) (offset / c) refl in
    rw (named, same) refl

-- two places of a list that pass count twice
pub count_two : (p : ℕ → Bool) (xs : List ℕ) (i j : ℕ) → p 0 ≡ false → i < length xs → j < length xs → i ≢ j → p (get_or xs i 0) ≡ true → p (get_or xs j 0) ≡ true → 2 ≤ count_by p xs
count_two p xs i j none below_i below_j apart at_i at_j =
    let f : ℕ → ℕ = λ w. cond (p w) 1 0 in
    let cleared = sum_by-set (λ w. cond (p w) 1 0) xs i 0 0 below_i in
    let first : ◌≡◌ {A = ℕ} (cond (p (get_or xs i 0)) 1 0) 1 = ap (λ (b : Bool). cond b 1 0) at_i in
    let zero_counts : ◌≡◌ {A = ℕ} (cond (p 0) 1 0) 0 = ap (λ (b : Bool). cond b 1 0) none in
    let length_kept = length-set {A = ℕ} xs i 0 in
    let second = get_or-le-sum_by (λ w. cond (p w) 1 0) (set xs i 0) j 0 (omega (arith, length_kept)) in
    let still : get_or (set xs i 0) j 0 ≡ get_or xs j 0 = get_or-set_other xs i j 0 0 (λ same. apart (sym same)) in
    let counts : ◌≡◌ {A = ℕ} (cond (p (get_or (set xs i 0) j 0)) 1 0) 1 = ap (λ (w : ℕ). cond (p w) 1 0) still ∙ ap (λ (b : Bool). cond b 1 0) at_j in
    omega (arith, cleared, first, zero_counts, second, counts)

whole_clusters : (c offset : ℕ) → offset % c ≡ 0 → offset / c * c ≡ offset
whole_clusters c offset aligned = let parts = div-add-mod' offset c in omega (arith, parts, aligned)

-- clusters that differ lie apart
clusters_apart : (c a b : ℕ) → a % c ≡ 0 → b % c ≡ 0 → a ≢ b → Apart a c b c
clusters_apart c a b at_a at_b differ =
    let left = whole_clusters c a at_a in
    let right = whole_clusters c b at_b in
    elim (cases_order (a / c) (b / c)) [
      | inl same ↦ absurd (differ (sym left ∙ ap (λ (k : ℕ). k * c) same ∙ right))
      | inr (inl before) ↦ let h = cluster_before c (a / c) (b / c) before in inl (omega (arith, h, left, right))
      | inr (inr behind) ↦ let h = cluster_before c (b / c) (a / c) behind in inr (omega (arith, h, left, right))
    ]

-- n bytes end within the clusters that they take
fill_clusters : (n c : ℕ) → 0 < c → n ≤ clusters_for c n * c
fill_clusters n c some =
    let parts = div-add-mod' n c in
    let row : (n / c + 1) * c ≡ n / c * c + c = omega arith in
    elim (cases_eq (n % c) 0) [
      | inl none ↦
          let count : clusters_for c n ≡ n / c = omega (arith, none) in
          rw count (omega (arith, parts, none))
      | inr rest ↦
          let count : clusters_for c n ≡ n / c + 1 = omega arith in
          rw count (omega (arith, parts, row))
    ]

in_run-inside : (c k offset count : ℕ) → offset / c ≤ k → k < offset / c + count → in_run c k offset count ≡ 1
in_run-inside c k offset count from below =
    let low = le-ltb k (offset / c) from in
    let high = lt-ltb k (offset / c + count) below in
    rw (low, high) refl

more_rows : (a b c : ℕ) → a ≤ b → a * c ≤ b * c
more_rows a b c h = grind arith

-- How often the L1 table and its entries name a cluster.
pub l1_names : KeptTables → ℕ → ℕ
l1_names kept k =
    in_run kept.c k kept.l1_offset (clusters_for kept.c (8 * length kept.l1))
    + count_by (λ word. names_cluster kept.c k (host_offset word)) kept.l1

-- no cluster is named twice, and each table begins with a cluster
pub record AreNamedOnce (kept : KeptTables) : Type 0 where
  pub some : 0 < kept.c
  pub once : (k : ℕ) → l1_names kept k ≤ 1
  pub l1_aligned : kept.l1_offset % kept.c ≡ 0
  pub aligned : (i : ℕ) → i < length kept.l1 → host_offset (slice_index kept.l1 i) % kept.c ≡ 0

one_name : (kept : KeptTables) (i : ℕ) → i < length kept.l1 → host_offset (slice_index kept.l1 i) ≢ 0
    → 1 ≤ count_by (λ word. names_cluster kept.c (host_offset (slice_index kept.l1 i) / kept.c) (host_offset word)) kept.l1
one_name kept i below some =
    let k : ℕ = host_offset (slice_index kept.l1 i) / kept.c in
    let here = get_or-le-sum_by (λ w. cond (names_cluster kept.c k (host_offset w)) 1 0) kept.l1 i 0 below in
    let counts : ◌≡◌ {A = ℕ} (cond (names_cluster kept.c k (host_offset (get_or kept.l1 i 0))) 1 0) 1 =
    ap (λ (b : Bool). cond b 1 0) (names_own kept.c (host_offset (get_or kept.l1 i 0)) some) in
    omega (arith, here, counts)

-- a cluster that isn't of the run lies apart from the L1 table
beside_run : (kept : KeptTables) (offset : ℕ) → 0 < kept.c → kept.l1_offset % kept.c ≡ 0 → offset % kept.c ≡ 0
    → in_run kept.c (offset / kept.c) kept.l1_offset (clusters_for kept.c (8 * length kept.l1)) ≡ 0
    → Apart offset kept.c kept.l1_offset (8 * length kept.l1)
beside_run kept offset some l1_aligned aligned out =
    let c : ℕ = kept.c in
    let k : ℕ = offset / c in
    let q : ℕ = kept.l1_offset / c in
    let m : ℕ = clusters_for c (8 * length kept.l1) in
    let place = whole_clusters c offset aligned in
    let l1_place = whole_clusters c kept.l1_offset l1_aligned in
    let filled = fill_clusters (8 * length kept.l1) c some in
    elim (cases_lt k q) [
      | inl before ↦ let h = cluster_before c k q before in inl (omega (arith, h, place, l1_place))
      | inr from ↦ elim (cases_lt k (q + m)) [
        | inl inside ↦ let run = in_run-inside c k kept.l1_offset m from inside in absurd (omega (arith, run, out))
        | inr behind ↦
            let h = more_rows (q + m) k c behind in
            let row : (q + m) * c ≡ q * c + m * c = omega arith in
            inr (omega (arith, h, row, place, l1_place, filled))
      ]
    ]

out_of_run : (kept : KeptTables) (offset : ℕ) → l1_names kept (offset / kept.c) ≤ 1
    → 1 ≤ count_by (λ word. names_cluster kept.c (offset / kept.c) (host_offset word)) kept.l1
    → in_run kept.c (offset / kept.c) kept.l1_offset (clusters_for kept.c (8 * length kept.l1)) ≡ 0
unfolding l1_names
out_of_run kept offset once count = omega (arith, once, count)

no_run : (kept : KeptTables) (offset : ℕ) → l1_names kept (offset / kept.c) ≡ 0
    → in_run kept.c (offset / kept.c) kept.l1_offset (clusters_for kept.c (8 * length kept.l1)) ≡ 0
unfolding l1_names
no_run kept offset none = omega (arith, none)

twice : (kept : KeptTables) (i j : ℕ) → l1_names kept (host_offset (slice_index kept.l1 i) / kept.c) ≤ 1 → i < length kept.l1 → j < length kept.l1 → i ≢ j
    → host_offset (slice_index kept.l1 i) ≢ 0 → host_offset (slice_index kept.l1 i) ≡ host_offset (slice_index kept.l1 j) → ⊥
unfolding l1_names
twice kept i j once below_i below_j apart some same =
    let o : ℕ = host_offset (slice_index kept.l1 i) in
    let own = names_own kept.c o some in
    let other : names_cluster kept.c (o / kept.c) (host_offset (slice_index kept.l1 j)) ≡ true = ap (names_cluster kept.c (o / kept.c)) (sym same) ∙ own in
    let two = count_two (λ word. names_cluster kept.c (o / kept.c) (host_offset word)) kept.l1 i j refl below_i below_j apart own other in
    omega (arith, once, two)

unnamed_twice : (kept : KeptTables) (table j : ℕ) → l1_names kept (table / kept.c) ≡ 0 → j < length kept.l1
    → host_offset (slice_index kept.l1 j) ≢ 0 → table ≡ host_offset (slice_index kept.l1 j) → ⊥
unfolding l1_names
unnamed_twice kept table j none below some same =
    let count = one_name kept j below some in
    let here : count_by (λ word. names_cluster kept.c (table / kept.c) (host_offset word)) kept.l1 ≡ count_by (λ word. names_cluster kept.c (host_offset (slice_index kept.l1 j) / kept.c) (host_offset word)) kept.l1 =
    ap (λ (o : ℕ). count_by (λ word. names_cluster kept.c (o / kept.c) (host_offset word)) kept.l1) same in
    omega (arith, none, count, here)

-- then the tables lie beside the L1 table, and each is free but for itself
pub tables_beside : (kept : KeptTables) → AreNamedOnce kept → LieBesideL1 kept
tables_beside kept named = record {
  each = λ i below some.
      let o : ℕ = host_offset (slice_index kept.l1 i) in
      let count = one_name kept i below some in
      beside_run kept o named.some named.l1_aligned (named.aligned i below) (out_of_run kept o (named.once (o / kept.c)) count);
}

pub table_free : (kept : KeptTables) (i : ℕ) → AreNamedOnce kept → i < length kept.l1 → host_offset (slice_index kept.l1 i) ≢ 0 → IsFreeBut kept (host_offset (slice_index kept.l1 i)) i
table_free kept i named below some = record {
  l1_table = (tables_beside kept named).each i below some;
  l2_tables = λ j below_j other some_j.
      clusters_apart kept.c (host_offset (slice_index kept.l1 i)) (host_offset (slice_index kept.l1 j)) (named.aligned i below) (named.aligned j below_j)
      (λ same. twice kept i j (named.once (host_offset (slice_index kept.l1 i) / kept.c)) below below_j (λ e. other (sym e)) some same);
}

-- a cluster that nothing names is free for a new table
pub unnamed_free : (kept : KeptTables) (table but : ℕ) → AreNamedOnce kept → table % kept.c ≡ 0 → l1_names kept (table / kept.c) ≡ 0 → IsFreeBut kept table but
unnamed_free kept table but named aligned unnamed = record {
  l1_table = beside_run kept table named.some named.l1_aligned aligned (no_run kept table unnamed);
  l2_tables = λ j below other some.
      clusters_apart kept.c table (host_offset (slice_index kept.l1 j)) aligned (named.aligned j below)
      (λ same. unnamed_twice kept table j unnamed below some same);
}

-- That no cluster is named twice follows from the references of the image.
pub l1_of_uses : (file : List ℕ) (h : Header) (kept : KeptTables) (k : ℕ) → kept.c ≡ cluster_size h.cluster_bits → kept.l1_offset ≡ h.l1_offset
    → kept.l1 ≡ (active_tree file h).l1 → length kept.l1 ≡ h.l1_size → l1_names kept k ≤ uses file h k
unfolding l1_names uses structure_uses tree_uses
l1_of_uses file h kept k size place l1 entries = rw (size, place, entries, l1) (omega arith)
