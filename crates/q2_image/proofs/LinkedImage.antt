-- An image of which a guest cluster was mapped: what it then names, and its disk.
use Rattle.std.proofs.Common.{◌≡◌, ◌≢◌, ℕ, ◌+◌, ◌*◌, ◌/◌, ◌%◌, ◌^◌, ◌<◌, ◌≤◌, ◌⊎◌, inl, inr, true, false, cond, List, length, get_or, slice_set, count_by, refl, sym, ap, subst, ◌∙◌, arith, eq-eqb}
use Rattle.std.proofs.Math.ListN.{length-set}
use Rattle.std.proofs.lemmas.Bool.{cases_eq, ne_eqb}
use Rattle.std.proofs.lemmas.List.{get_or-set_same, get_or-set_other}
use Rattle.std.proofs.lemmas.List.Sums.{sum_by-set}
use Rattle.q2_format.specs.Entry.{host_offset, has_reserved_in_l1}
use Rattle.q2_format.specs.References.{names_cluster, own_offset, uses}
use Rattle.q2_format.specs.Tables.{refcount_table, refcount_of}
use Rattle.q2_format.specs.declared.header.Header.{Header}
use Rattle.q2_tables.specs.Kept.{is_plain}
use Rattle.q2_tables.specs.Linking.{CanLink, l1_index, l1_spelling, with_entry}
use Rattle.q2_tables.proofs.Links.{plain_set}
use Rattle.q2_image.specs.Opening.{uses_in}
use Rattle.q2_image.specs.Image.{Known, IsImageOf, IsOpen, cluster_size_in}
use Rattle.q2_image.specs.Writing.{IsSpare, MayName}
use Rattle.q2_image.proofs.HostUses.{consistent, size_in}
use Rattle.q2_image.proofs.Opened.{same_uses}

-- the L1 table behind a link
abbrev pub l1_with : Known → ℕ → ℕ → List ℕ
l1_with image cluster table = (with_entry image.tables cluster 0 table).l1

tally : ℕ → ℕ → ℕ → ℕ
tally c k offset = cond (names_cluster c k offset) 1 0

named_cases : (c k offset : ℕ) → (◌≡◌ {A = ℕ} (cond (names_cluster c k offset) 1 0) 0) ⊎ ((◌≡◌ {A = ℕ} (cond (names_cluster c k offset) 1 0) 1) × (offset ≢ 0) × (offset / c ≡ k))
named_cases c k offset = elim (cases_eq offset 0) [
  | inl none ↦ let test = eq-eqb offset 0 none in inl (rw test refl)
  | inr some ↦
      let test = ne_eqb offset 0 some in
      elim (cases_eq (offset / c) k) [
        | inl here ↦ let same = eq-eqb (offset / c) k here in inr (rw (test, same) refl, some, here)
        | inr other ↦ let differ = ne_eqb (offset / c) k other in inl (rw (test, differ) refl)
      ]
]

pub l1_bits : (table : ℕ) → table % 512 ≡ 0 → table < 2 ^ 56 → has_reserved_in_l1 (l1_spelling table) ≡ false
l1_bits table aligned small =
    let low : (l1_spelling table / 2 ^ 0) % 2 ^ 9 ≡ 0 = omega arith in
    let high : (l1_spelling table / 2 ^ 56) % 2 ^ 7 ≡ 0 = omega arith in
    let a = eq-eqb ((l1_spelling table / 2 ^ 0) % 2 ^ 9) 0 low in
    let b = eq-eqb ((l1_spelling table / 2 ^ 56) % 2 ^ 7) 0 high in
    rw (a, b) refl

pub spelled_offset : (table : ℕ) → table % 512 ≡ 0 → table < 2 ^ 56 → host_offset (l1_spelling table) ≡ table
spelled_offset table aligned small = omega arith

module _ (image : Known) (cluster table word host : ℕ) (ready : IsOpen image) (below : cluster < length image.tables.words) (can : CanLink image.tables cluster table)
    (in_l1 : l1_index image.tables cluster < length image.tables.l1)
    (own : own_offset word ≡ host) (plain : is_plain word ≡ true) (reached : host < length image.refs.counts * cluster_size_in image) where
  abbrev pub linked : Known
  linked = record image { tables = with_entry image.tables cluster word table }

  abbrev row : ℕ
  row = l1_index image.tables cluster

  abbrev words : List ℕ
  words = slice_set image.tables.words cluster word

  -- the L1 table, by whether there is a new one
  pub l1_cases : ((table ≡ 0) × (linked.tables.l1 ≡ image.tables.l1)) ⊎ ((table ≢ 0) × (linked.tables.l1 ≡ slice_set image.tables.l1 row (l1_spelling table)))
  l1_cases = elim (cases_eq table 0) [
    | inl none ↦ let test = eq-eqb table 0 none in inl (none, rw test refl)
    | inr some ↦ let test = ne_eqb table 0 some in inr (some, rw test refl)
  ]

  pub l1_length : length linked.tables.l1 ≡ length image.tables.l1
  l1_length = elim l1_cases [ inl (none, same) ↦ ap length same | inr (some, set_there) ↦ ap length set_there ∙ length-set {A = ℕ} image.tables.l1 row (l1_spelling table) ]

  pub open_linked : IsOpen linked
  open_linked =
      let len = length-set {A = ℕ} image.tables.words cluster word in
      let l1 = l1_length in
      record {
        cluster_bits = ready.cluster_bits;
        tables_size = ready.tables_size;
        disk = ready.disk;
        l1 = omega (arith, l1, ready.l1);
        words = len ∙ ready.words ∙ ap (λ (n : ℕ). n * (cluster_size_in image / 8)) (sym l1);
        plain = plain_set image.tables.words cluster word plain below ready.plain;
        l1_place = ready.l1_place;
        l1_size = l1 ∙ ready.l1_size;
        hosts = λ q in_words. elim (cases_eq q cluster) [
          | inl here ↦
              let is = ap (λ (m : ℕ). own_offset (get_or words m 0)) here ∙ ap own_offset (get_or-set_same image.tables.words cluster word 0 below) ∙ own in
              omega (arith, is, reached)
          | inr other ↦
              let is = ap own_offset (get_or-set_other image.tables.words cluster q word 0 other) in
              omega (arith, is, ready.hosts q (omega (arith, in_words, len)))
        ];
        reach = ready.reach;
        refcounts = ready.refcounts;
        first = ready.first;
        name = ready.name;
        format = ready.format;
        list = ready.list;
        ended = ready.ended;
        room = ready.room;
      }

  -- How often a cluster is named then.

  l1_names : (c k : ℕ) → count_by (λ w. names_cluster c k (host_offset w)) linked.tables.l1
      ≡ count_by (λ w. names_cluster c k (host_offset w)) image.tables.l1 + cond (names_cluster c k table) 1 0
  l1_names c k = elim l1_cases [
    | inl (none, same) ↦
        let zero_there : ◌≡◌ {A = ℕ} (cond (names_cluster c k table) 1 0) 0 = ap (λ (o : ℕ). cond (names_cluster c k o) 1 0) none in
        let words_same = ap (λ (xs : List ℕ). count_by (λ w. names_cluster c k (host_offset w)) xs) same in
        omega (arith, zero_there, words_same)
    | inr (some, set_there) ↦
        let change = sum_by-set (λ w. cond (names_cluster c k (host_offset w)) 1 0) image.tables.l1 row (l1_spelling table) 0 in_l1 in
        let before : ◌≡◌ {A = ℕ} (cond (names_cluster c k (host_offset (get_or image.tables.l1 row 0))) 1 0) 0 = ap (λ (o : ℕ). cond (names_cluster c k o) 1 0) (can.new some) in
        let after : ◌≡◌ {A = ℕ} (cond (names_cluster c k (host_offset (l1_spelling table))) 1 0) (cond (names_cluster c k table) 1 0) = ap (λ (o : ℕ). cond (names_cluster c k o) 1 0) (spelled_offset table can.aligned can.small) in
        let words_set = ap (λ (xs : List ℕ). count_by (λ w. names_cluster c k (host_offset w)) xs) set_there in
        omega (arith, change, before, after, words_set)
  ]

  own_names : (c k : ℕ) → count_by (λ w. names_cluster c k (own_offset w)) words + cond (names_cluster c k (own_offset (get_or image.tables.words cluster 0))) 1 0
      ≡ count_by (λ w. names_cluster c k (own_offset w)) image.tables.words + cond (names_cluster c k host) 1 0
  own_names c k =
      let change = sum_by-set (λ w. cond (names_cluster c k (own_offset w)) 1 0) image.tables.words cluster word 0 below in
      let after : ◌≡◌ {A = ℕ} (cond (names_cluster c k (own_offset word)) 1 0) (cond (names_cluster c k host) 1 0) = ap (λ (o : ℕ). cond (names_cluster c k o) 1 0) own in
      omega (arith, change, after)

  uses_linked : (refcounts : List ℕ) (k : ℕ) → uses_in image.header refcounts linked.tables.l1 words k + cond (names_cluster (cluster_size_in image) k (own_offset (get_or image.tables.words cluster 0))) 1 0
      ≡ uses_in image.header refcounts image.tables.l1 image.tables.words k + cond (names_cluster (cluster_size_in image) k host) 1 0 + cond (names_cluster (cluster_size_in image) k table) 1 0
  uses_linked refcounts k =
      let l1 = l1_names (cluster_size_in image) k in
      let mine = own_names (cluster_size_in image) k in
      omega (arith, l1, mine)

  module _ (old : List ℕ) (is : IsImageOf old image) (spare : table ≢ 0 → IsSpare old (table / 65536)) (may : MayName 65536 old image cluster table host) where
    abbrev refcounts : List ℕ
    refcounts = refcount_table old image.header

    pub uses_old : (k : ℕ) → uses old image.header k ≡ uses_in image.header refcounts image.tables.l1 image.tables.words k
    uses_old k = same_uses old image.header image.refs image.tables k is.refs is.tables ∙ ap (λ (xs : List ℕ). uses_in image.header xs image.tables.l1 image.tables.words k) is.refs.table

    -- a spare cluster, by the kept header
    spare_by : (k : ℕ) → IsSpare old k → (uses old image.header k ≡ 0) × (refcount_of old image.header k ≢ 0)
    spare_by k s = let P : Header → Type 0 = λ h. (uses old h k ≡ 0) × (refcount_of old h k ≢ 0) in subst P is.header (s.unnamed, s.counted)

    c_is : cluster_size_in image ≡ 65536
    c_is = size_in image ready

    pub fits_uses : (k : ℕ) → (uses_in image.header refcounts linked.tables.l1 words k ≤ 1) × (uses_in image.header refcounts linked.tables.l1 words k ≤ refcount_of old image.header k)
    fits_uses k =
        let all = uses_linked refcounts k in
        let was = uses_old k in
        let once = (consistent old image is).once k in
        let counted = (consistent old image is).counted k in
        let c : ℕ = cluster_size_in image in
        elim (named_cases c k table) [
          | inl no_table ↦ elim may [
            | inl none ↦
                let no_host : ◌≡◌ {A = ℕ} (cond (names_cluster c k host) 1 0) 0 = ap (λ (o : ℕ). cond (names_cluster c k o) 1 0) none in
                (omega (arith, all, was, once, no_table, no_host), omega (arith, all, was, counted, no_table, no_host))
            | inr (inl same) ↦
                let same_host : ◌≡◌ {A = ℕ} (cond (names_cluster c k host) 1 0) (cond (names_cluster c k (own_offset (get_or image.tables.words cluster 0))) 1 0) = ap (λ (o : ℕ). cond (names_cluster c k o) 1 0) same in
                (omega (arith, all, was, once, no_table, same_host), omega (arith, all, was, counted, no_table, same_host))
            | inr (inr (free, _, _, _)) ↦ elim (named_cases c k host) [
              | inl no_host ↦ (omega (arith, all, was, once, no_table, no_host), omega (arith, all, was, counted, no_table, no_host))
              | inr (one, some, here) ↦
                  let at : host / 65536 ≡ k = ap (λ (n : ℕ). host / n) (sym c_is) ∙ here in
                  let none = spare_by (host / 65536) free in
                  let unnamed = ap (uses old image.header) (sym at) ∙ none.0 in
                  let count = λ (z : refcount_of old image.header k ≡ 0). none.1 (ap (refcount_of old image.header) at ∙ z) in
                  (omega (arith, all, was, unnamed, no_table, one), omega (arith, all, was, unnamed, no_table, one, count))
            ]
          ]
          | inr (one_table, some_table, here_table) ↦
              let at_table : table / 65536 ≡ k = ap (λ (n : ℕ). table / n) (sym c_is) ∙ here_table in
              let none_table = spare_by (table / 65536) (spare some_table) in
              let unnamed = ap (uses old image.header) (sym at_table) ∙ none_table.0 in
              let count = λ (z : refcount_of old image.header k ≡ 0). none_table.1 (ap (refcount_of old image.header) at_table ∙ z) in
              elim may [
                | inl none ↦
                    let no_host : ◌≡◌ {A = ℕ} (cond (names_cluster c k host) 1 0) 0 = ap (λ (o : ℕ). cond (names_cluster c k o) 1 0) none in
                    (omega (arith, all, was, unnamed, one_table, no_host), omega (arith, all, was, unnamed, one_table, no_host, count))
                | inr (inl same) ↦
                    let same_host : ◌≡◌ {A = ℕ} (cond (names_cluster c k host) 1 0) (cond (names_cluster c k (own_offset (get_or image.tables.words cluster 0))) 1 0) = ap (λ (o : ℕ). cond (names_cluster c k o) 1 0) same in
                    (omega (arith, all, was, unnamed, one_table, same_host), omega (arith, all, was, unnamed, one_table, same_host, count))
                | inr (inr (free, _, _, differ)) ↦ elim (named_cases c k host) [
                  | inl no_host ↦ (omega (arith, all, was, unnamed, one_table, no_host), omega (arith, all, was, unnamed, one_table, no_host, count))
                  | inr (one, some, here) ↦ absurd (differ some_table (ap (λ (n : ℕ). host / n) (sym c_is) ∙ here ∙ sym at_table))
                ]
              ]
        ]
