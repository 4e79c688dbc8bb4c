-- How often clusters are named, and what a cluster that isn't named, or named by one thing alone, is apart from.
use Rattle.std.proofs.Common.{◌≡◌, ◌≢◌, ℕ, zero, suc, ◌+◌, ◌*◌, ◌/◌, ◌<◌, ◌≤◌, ◌⊎◌, inl, inr, Bool, true, false, cond, eqb, List, [], ◌∷◌, length, get_or, count_by, refl, sym, ap, ◌∙◌, arith, eq-eqb}
use Rattle.std.specs.List.{sum_by}
use Rattle.std.proofs.lemmas.Bool.{ne_eqb, cases_lt, le-ltb, lt-ltb, false≢true}
use Rattle.std.proofs.lemmas.List.Sums.{sum_by-cons}
use Rattle.q2_format.specs.Entry.{host_offset, block_offset}
use Rattle.q2_format.specs.References.{names_cluster, in_run, own_offset, structure_uses, tree_uses, uses}
use Rattle.q2_format.specs.Sizes.{cluster_size, clusters_for}
use Rattle.q2_format.specs.Tables.{Tree, active_tree, refcount_table}
use Rattle.q2_format.specs.declared.header.Header.{Header}

-- Counts of words that pass a test.

pub count_some : (p : ℕ → Bool) (words : List ℕ) (i : ℕ) → i < length words → p (get_or words i 0) ≡ true → 1 ≤ count_by p words
count_some p [] i below passes = absurd (omega arith)
count_some p (word ∷ words) zero below passes =
    let split = sum_by-cons (λ w. cond (p w) 1 0) word words in
    let term : ◌≡◌ {A = ℕ} (cond (p word) 1 0) 1 = ap (λ (b : Bool). cond b 1 0) passes in
    omega (arith, split, term)
count_some p (word ∷ words) (suc i) below passes =
    let split = sum_by-cons (λ w. cond (p w) 1 0) word words in
    let rest = count_some p words i (omega arith) passes in
    omega (arith, split, rest)

count_two : (p : ℕ → Bool) (words : List ℕ) (i j : ℕ) → i < j → j < length words → p (get_or words i 0) ≡ true → p (get_or words j 0) ≡ true → 2 ≤ count_by p words
count_two p [] i j order below first second = absurd (omega arith)
count_two p (word ∷ words) i zero order below first second = absurd (omega arith)
count_two p (word ∷ words) zero (suc j) order below first second =
    let split = sum_by-cons (λ w. cond (p w) 1 0) word words in
    let term : ◌≡◌ {A = ℕ} (cond (p word) 1 0) 1 = ap (λ (b : Bool). cond b 1 0) first in
    let rest = count_some p words j (omega arith) second in
    omega (arith, split, term, rest)
count_two p (word ∷ words) (suc i) (suc j) order below first second =
    let split = sum_by-cons (λ w. cond (p w) 1 0) word words in
    let rest = count_two p words i j (omega arith) (omega arith) first second in
    omega (arith, split, rest)

pub false_unless : (b : Bool) → (b ≡ true → ⊥) → b ≡ false
false_unless true h = absurd (h refl)
false_unless false h = refl

pub count_zero : (p : ℕ → Bool) (words : List ℕ) (i : ℕ) → count_by p words ≡ 0 → i < length words → p (get_or words i 0) ≡ false
count_zero p words i none below = false_unless (p (get_or words i 0)) (λ passes. let some = count_some p words i below passes in omega (arith, none, some))

-- Names of clusters.

pub names_it : (c cluster offset : ℕ) → offset ≢ 0 → offset / c ≡ cluster → names_cluster c cluster offset ≡ true
names_it c cluster offset some here =
    let a = ne_eqb offset 0 some in
    let b = eq-eqb (offset / c) cluster here in
    rw (a, b) refl

pub names_another : (c cluster offset : ℕ) → offset ≢ 0 → names_cluster c cluster offset ≡ false → offset / c ≢ cluster
names_another c cluster offset some none = λ here. false≢true (sym none ∙ names_it c cluster offset some here)

pub run_has : (c cluster offset count : ℕ) → offset / c ≤ cluster → cluster < offset / c + count → in_run c cluster offset count ≡ 1
run_has c cluster offset count low high =
    let a = le-ltb cluster (offset / c) low in
    let b = lt-ltb cluster (offset / c + count) high in
    rw (a, b) refl

pub run_lacks : (c cluster offset count : ℕ) → in_run c cluster offset count ≡ 0 → (cluster < offset / c) ⊎ (offset / c + count ≤ cluster)
run_lacks c cluster offset count none = elim (cases_lt cluster (offset / c)) [
  | inl before ↦ inl before
  | inr low ↦ elim (cases_lt cluster (offset / c + count)) [
    | inl high ↦ absurd (let some = run_has c cluster offset count low high in omega (arith, none, some))
    | inr behind ↦ inr behind
  ]
]

-- The parts of a cluster's uses.

abbrev pub header_uses : ℕ → ℕ
header_uses cluster = cond (eqb cluster 0) 1 0

abbrev pub block_uses : List ℕ → Header → ℕ → ℕ
block_uses file h cluster = count_by (λ word. names_cluster (cluster_size h.cluster_bits) cluster (block_offset word)) (refcount_table file h)

abbrev pub table_uses_in : ℕ → Tree → ℕ → ℕ
table_uses_in c tree cluster = count_by (λ word. names_cluster c cluster (host_offset word)) tree.l1

abbrev pub table_uses : List ℕ → Header → ℕ → ℕ
table_uses file h cluster = table_uses_in (cluster_size h.cluster_bits) (active_tree file h) cluster

abbrev pub host_uses_in : ℕ → Tree → ℕ → ℕ
host_uses_in c tree cluster = sum_by (λ table. count_by (λ word. names_cluster c cluster (own_offset word)) table) tree.l2

abbrev pub host_uses : List ℕ → Header → ℕ → ℕ
host_uses file h cluster = host_uses_in (cluster_size h.cluster_bits) (active_tree file h) cluster

abbrev pub table_run : Header → ℕ → ℕ
table_run h cluster = in_run (cluster_size h.cluster_bits) cluster h.ref_offset h.ref_clusters

abbrev pub l1_run : Header → ℕ → ℕ
l1_run h cluster = let c = cluster_size h.cluster_bits in in_run c cluster h.l1_offset (clusters_for c (8 * h.l1_size))

pub uses_parts : (file : List ℕ) (h : Header) (cluster : ℕ) → uses file h cluster
    ≡ header_uses cluster + table_run h cluster + block_uses file h cluster + l1_run h cluster + (table_uses file h cluster + host_uses file h cluster)
unfolding uses structure_uses tree_uses
uses_parts file h cluster = refl

-- a cluster that holds no part of the header, of the L1 table or of an L2 table
pub record IsApart (file : List ℕ) (h : Header) (cluster : ℕ) : Type 0 where
  pub header : cluster ≢ 0
  pub l1 : l1_run h cluster ≡ 0
  pub l2 : table_uses file h cluster ≡ 0

header_named : (cluster : ℕ) → cluster ≡ 0 → header_uses cluster ≡ 1
header_named cluster is = let test = eq-eqb cluster 0 is in rw test refl

-- an unused cluster
pub unused_apart : (file : List ℕ) (h : Header) (cluster : ℕ) → uses file h cluster ≡ 0
    → IsApart file h cluster × (table_run h cluster ≡ 0) × (block_uses file h cluster ≡ 0)
unused_apart file h cluster none =
    let parts = uses_parts file h cluster in (
      record {
        header = λ is. let one = header_named cluster is in omega (arith, parts, none, one);
        l1 = omega (arith, parts, none);
        l2 = omega (arith, parts, none);
      },
      omega (arith, parts, none),
      omega (arith, parts, none),
    )

-- the cluster of a refcount block
pub block_apart : (file : List ℕ) (h : Header) (cluster i : ℕ) → uses file h cluster ≤ 1 → i < length (refcount_table file h)
    → names_cluster (cluster_size h.cluster_bits) cluster (block_offset (get_or (refcount_table file h) i 0)) ≡ true
    → IsApart file h cluster × (table_run h cluster ≡ 0)
block_apart file h cluster i once below named =
    let parts = uses_parts file h cluster in
    let some = count_some (λ word. names_cluster (cluster_size h.cluster_bits) cluster (block_offset word)) (refcount_table file h) i below named in (
      record {
        header = λ is. let one = header_named cluster is in omega (arith, parts, once, one, some);
        l1 = omega (arith, parts, once, some);
        l2 = omega (arith, parts, once, some);
      },
      omega (arith, parts, once, some),
    )

-- two entries of the refcount table name two clusters
pub blocks_differ : (file : List ℕ) (h : Header) (cluster i j : ℕ) → uses file h cluster ≤ 1 → i < length (refcount_table file h) → j < length (refcount_table file h) → i ≢ j
    → names_cluster (cluster_size h.cluster_bits) cluster (block_offset (get_or (refcount_table file h) i 0)) ≡ true
    → names_cluster (cluster_size h.cluster_bits) cluster (block_offset (get_or (refcount_table file h) j 0)) ≡ true → ⊥
blocks_differ file h cluster i j once in_i in_j other first second =
    let p : ℕ → Bool = λ word. names_cluster (cluster_size h.cluster_bits) cluster (block_offset word) in
    let parts = uses_parts file h cluster in
    elim (cases_lt i j) [
      | inl order ↦ let two = count_two (λ word. names_cluster (cluster_size h.cluster_bits) cluster (block_offset word)) (refcount_table file h) i j order in_j first second in omega (arith, parts, once, two)
      | inr order ↦ let two = count_two (λ word. names_cluster (cluster_size h.cluster_bits) cluster (block_offset word)) (refcount_table file h) j i (omega arith) in_i second first in omega (arith, parts, once, two)
    ]

-- a cluster of the refcount table
pub table_apart : (file : List ℕ) (h : Header) (cluster : ℕ) → uses file h cluster ≤ 1 → table_run h cluster ≡ 1
    → IsApart file h cluster × (block_uses file h cluster ≡ 0)
table_apart file h cluster once run =
    let parts = uses_parts file h cluster in (
      record {
        header = λ is. let one = header_named cluster is in omega (arith, parts, once, one, run);
        l1 = omega (arith, parts, once, run);
        l2 = omega (arith, parts, once, run);
      },
      omega (arith, parts, once, run),
    )
