-- What is refused of the words is what is refused of the tree.
use Rattle.std.proofs.Common.{◌≡◌, ℕ, zero, suc, ◌+◌, ◌*◌, ◌/◌, ◌%◌, ◌<◌, Bool, true, false, not, ◌&&◌, ◌||◌, cond, eqb, ltb, List, [], ◌∷◌, length, get_or, slice_index, Option, None, Some, refl, sym, ap, ◌∙◌, arith}
use Rattle.std.specs.Option.{option_map}
use Rattle.std.specs.List.{find, range_with_len, position, position_or_len}
use Rattle.std.proofs.lemmas.List.Quantifiers.{position-Some}
use Rattle.std.proofs.Math.Nat.{div-add-mod', mul-mod_right}
use Rattle.std.proofs.lemmas.List.Sums.{fails_before_first}
use Rattle.std.proofs.lemmas.Bool.{ltb-false, ltb-true, eqb-true, or_parts, not-false}
use Rattle.q2_format.specs.Sizes.{cluster_size, entries_in_cluster, l1_entries_for}
use Rattle.q2_format.specs.Entry.{host_offset, is_compressed, has_reserved_in_l1, has_reserved_in_l2}
use Rattle.q2_format.specs.Header.{refused_where}
use Rattle.q2_format.specs.References.{own_offset}
use Rattle.q2_format.specs.Sound.{lowest, is_misplaced, bad_l1_table, bad_l2_table, bad_host, reserved_in_l1, reserved_in_l2, compressed_cluster, guest_clusters}
use Rattle.q2_format.specs.Tables.{Tree, l2_word_of}
use Rattle.q2_format.specs.declared.header.Header.{Header}
use Rattle.q2_format.proofs.Firsts.{lowest_at, none_lowest, first-none, option_map-none, refused_where-none}
use Rattle.q2_tables.specs.Kept.{KeptTables, IsTreeOf, is_plain}
use Rattle.q2_tables.specs.Loading.{load_refusal}
use Rattle.q2_tables.specs.Words.{misplaced_table, misplaced_host, reserved_in_table, reserved_in_words, compressed_in_words, refused_words}
use Rattle.q2_tables.specs.declared.stop.TablesStop.{TablesStop}
use Rattle.q2_tables.specs.declared.stop.TablesStop.TheVariants.{Offset, ReservedInL1, ReservedInL2, Compressed}

-- The lowest place of an entry that passes is the first such entry's.

none_at : (p : ℕ → Bool) (xs : List ℕ) (b : Bool) → ltb (position_or_len p xs) (length xs) ≡ b → cond b (Some (position_or_len p xs)) None ≡ None
    → (k : ℕ) → k < length xs → p (get_or xs k 0) ≡ false
none_at p xs true is none k below = absurd (cc)
none_at p xs false is none k below =
    let past = ltb-false (position_or_len p xs) (length xs) is in
    fails_before_first p xs k 0 (omega (arith, past))

pub position-none : (p : ℕ → Bool) (xs : List ℕ) → position p xs ≡ None → (k : ℕ) → k < length xs → p (get_or xs k 0) ≡ false
position-none p xs none k below = none_at p xs (ltb (position_or_len p xs) (length xs)) refl none k below

position_cases : (p : ℕ → Bool) (xs : List ℕ) (o : Option ℕ) → position p xs ≡ o → lowest (λ i. p (get_or xs i 0)) (length xs) ≡ o
position_cases p xs None is = none_lowest (λ i. p (get_or xs i 0)) (length xs) (position-none p xs is)
position_cases p xs (Some i) is =
    let found = position-Some p xs i 0 is in
    lowest_at (λ j. p (get_or xs j 0)) (length xs) i found.0 found.1 found.2

pub lowest_is_position : (p : ℕ → Bool) (xs : List ℕ) → lowest (λ i. p (get_or xs i 0)) (length xs) ≡ position p xs
lowest_is_position p xs = position_cases p xs (position p xs) refl

-- what is named of the lowest, in two forms
one_of : {R : Type 0} (f g : ℕ → R) (from : ℕ) (a b : Bool) (x y : Option ℕ) → a ≡ b → f from ≡ g from → option_map f x ≡ option_map g y
    → option_map f (cond a (Some from) x) ≡ option_map g (cond b (Some from) y)
one_of f g from true b x y same here rest = rw (← same, here) refl
one_of f g from false b x y same here rest = rw (← same) rest

mapped_find : {R : Type 0} (p q : ℕ → Bool) (f g : ℕ → R) (from n : ℕ) → ((k : ℕ) → k < from + n → p k ≡ q k) → ((k : ℕ) → k < from + n → f k ≡ g k)
    → option_map f (find p (range_with_len from n)) ≡ option_map g (find q (range_with_len from n))
mapped_find p q f g from zero tests names = refl
mapped_find p q f g from (suc n) tests names =
    one_of f g from (p from) (q from) (find p (range_with_len (from + 1) n)) (find q (range_with_len (from + 1) n))
    (tests from (omega arith)) (names from (omega arith))
    (mapped_find p q f g (from + 1) n (λ k below. tests k (omega arith)) (λ k below. names k (omega arith)))

mapped_lowest : {R : Type 0} (p q : ℕ → Bool) (f g : ℕ → R) (n : ℕ) → ((k : ℕ) → k < n → p k ≡ q k) → ((k : ℕ) → k < n → f k ≡ g k)
    → option_map f (lowest p n) ≡ option_map g (lowest q n)
mapped_lowest p q f g n tests names = mapped_find p q f g 0 n (λ k below. tests k (omega arith)) (λ k below. names k (omega arith))

map_twice : {A B C : Type 0} (f : A → B) (g : B → C) (o : Option A) → option_map g (option_map f o) ≡ option_map (λ x. g (f x)) o
map_twice f g None = refl
map_twice f g (Some x) = refl

-- The words of the L1 table.

pub tables_refused : (c len : ℕ) (tree : Tree) → option_map Offset (bad_l2_table c len tree) ≡ misplaced_table c len tree.l1
unfolding bad_l2_table misplaced_table
tables_refused c len tree =
    map_twice (λ (i : ℕ). host_offset (slice_index tree.l1 i)) Offset (lowest (λ i. is_misplaced c len (host_offset (slice_index tree.l1 i))) (length tree.l1))
    ∙ ap (option_map (λ (i : ℕ). Offset (host_offset (slice_index tree.l1 i)))) (lowest_is_position (λ word. is_misplaced c len (host_offset word)) tree.l1)

pub l1_refused : (tree : Tree) → option_map ReservedInL1 (reserved_in_l1 tree) ≡ reserved_in_table tree.l1
unfolding reserved_in_l1 reserved_in_table
l1_refused tree = ap (option_map ReservedInL1) (lowest_is_position has_reserved_in_l1 tree.l1)

-- The words of the L2 tables, each of which is the tree's.

module _ (c len : ℕ) (tree : Tree) (words : List ℕ) (count : length words ≡ guest_clusters c tree)
    (same : (k : ℕ) → k < length words → slice_index words k ≡ l2_word_of tree c k) where
  -- by a test of the word
  by_word : {R : Type 0} (p : ℕ → Bool) (f g : ℕ → R) → ((k : ℕ) → k < length words → f k ≡ g k)
      → option_map f (lowest (λ k. p (l2_word_of tree c k)) (guest_clusters c tree)) ≡ option_map g (position p words)
  by_word p f g names =
      ap (λ (n : ℕ). option_map f (lowest (λ k. p (l2_word_of tree c k)) n)) (sym count)
      ∙ mapped_lowest (λ k. p (l2_word_of tree c k)) (λ k. p (get_or words k 0)) f g (length words) (λ k below. ap p (sym (same k below))) names
      ∙ ap (option_map g) (lowest_is_position p words)

  hosts_refused : option_map Offset (bad_host c len tree) ≡ misplaced_host c len words
  unfolding bad_host misplaced_host
  hosts_refused =
      map_twice (λ (k : ℕ). own_offset (l2_word_of tree c k)) Offset (lowest (λ k. is_misplaced c len (own_offset (l2_word_of tree c k))) (guest_clusters c tree))
      ∙ by_word (λ word. is_misplaced c len (own_offset word)) (λ k. Offset (own_offset (l2_word_of tree c k))) (λ k. Offset (own_offset (slice_index words k)))
      (λ k below. ap (λ (word : ℕ). Offset (own_offset word)) (sym (same k below)))

  l2_refused : option_map (λ (entry : ℕ × ℕ). ReservedInL2 entry.0 entry.1) (reserved_in_l2 c tree) ≡ reserved_in_words (entries_in_cluster c) tree.l1 words
  unfolding reserved_in_l2 reserved_in_words
  l2_refused =
      let name : ℕ → TablesStop = λ k. ReservedInL2 (host_offset (slice_index tree.l1 (k / entries_in_cluster c))) (k % entries_in_cluster c) in
      let place : ℕ → ℕ × ℕ = λ k. (host_offset (slice_index tree.l1 (k / entries_in_cluster c)), k % entries_in_cluster c) in
      map_twice place (λ (entry : ℕ × ℕ). ReservedInL2 entry.0 entry.1)
      (lowest (λ k. not (is_compressed (l2_word_of tree c k)) && has_reserved_in_l2 (l2_word_of tree c k)) (guest_clusters c tree))
      ∙ by_word (λ word. not (is_compressed word) && has_reserved_in_l2 word) name name (λ k below. refl)

  compressed_refused : option_map Compressed (compressed_cluster c tree) ≡ compressed_in_words words
  unfolding compressed_cluster compressed_in_words
  compressed_refused = by_word is_compressed Compressed Compressed (λ k below. refl)

-- All of them, in their order.

pub refused_at_table : (h : Header) (len : ℕ) (tree : Tree) (stop : TablesStop) → option_map Offset (bad_l1_table h len) ≡ Some stop → load_refusal h len tree ≡ Some stop
unfolding load_refusal
refused_at_table h len tree stop is = rw is refl

pub refused_at_l1 : (h : Header) (c len : ℕ) (tree : Tree) (l1 : List ℕ) (stop : TablesStop) → c ≡ cluster_size h.cluster_bits → l1 ≡ tree.l1
    → option_map Offset (bad_l1_table h len) ≡ None → misplaced_table c len l1 ≡ Some stop → load_refusal h len tree ≡ Some stop
unfolding load_refusal
refused_at_l1 h c len tree l1 stop size same table is =
    let here : option_map Offset (bad_l2_table (cluster_size h.cluster_bits) len tree) ≡ Some stop =
    tables_refused (cluster_size h.cluster_bits) len tree ∙ rw (← size, ← same) is in
    rw (table, here) refl

-- behind the offsets of the tables
pub refused_in_words : (h : Header) (len : ℕ) (kept : KeptTables) (tree : Tree) → IsTreeOf (cluster_size h.cluster_bits) kept tree
    → option_map Offset (bad_l1_table h len) ≡ None → misplaced_table (cluster_size h.cluster_bits) len kept.l1 ≡ None
    → load_refusal h len tree ≡ refused_words (cluster_size h.cluster_bits) len kept.l1 kept.words
unfolding load_refusal refused_words
refused_in_words h len kept tree is table l1 =
    let c : ℕ = cluster_size h.cluster_bits in
    let count : length kept.words ≡ guest_clusters c tree = is.entries ∙ ap (λ (l : List ℕ). length l * entries_in_cluster c) is.l1 in
    let tables : option_map Offset (bad_l2_table c len tree) ≡ None = tables_refused c len tree ∙ rw (← is.l1) l1 in
    let hosts = hosts_refused c len tree kept.words count is.words in
    let bits = l1_refused tree in
    let l2 = l2_refused c len tree kept.words count is.words in
    let compressed = compressed_refused c len tree kept.words count is.words in
    rw (table, tables, hosts, bits, l2, compressed, is.l1) refl

-- the same with the cluster size that was kept
pub refused_of : (h : Header) (len : ℕ) (kept : KeptTables) (tree : Tree) → kept.c ≡ cluster_size h.cluster_bits → IsTreeOf (cluster_size h.cluster_bits) kept tree
    → option_map Offset (bad_l1_table h len) ≡ None → misplaced_table kept.c len kept.l1 ≡ None → load_refusal h len tree ≡ refused_words kept.c len kept.l1 kept.words
refused_of h len kept tree size is table tables =
    let here : misplaced_table (cluster_size h.cluster_bits) len kept.l1 ≡ None = ap (λ (n : ℕ). misplaced_table n len kept.l1) (sym size) ∙ tables in
    refused_in_words h len kept tree is table here ∙ ap (λ (n : ℕ). refused_words n len kept.l1 kept.words) (sym size)

-- Where nothing is refused of the words, they are in order.

pub tables_placed : (c len : ℕ) (l1 : List ℕ) → misplaced_table c len l1 ≡ None → (i : ℕ) → i < length l1 → is_misplaced c len (host_offset (slice_index l1 i)) ≡ false
unfolding misplaced_table
tables_placed c len l1 none =
    position-none (λ word. is_misplaced c len (host_offset word)) l1
    (option_map-none (λ i. Offset (host_offset (slice_index l1 i))) (position (λ word. is_misplaced c len (host_offset word)) l1) none)

pub record AreInOrder (c len : ℕ) (l1 words : List ℕ) : Type 0 where
  pub hosts : (k : ℕ) → k < length words → is_misplaced c len (own_offset (slice_index words k)) ≡ false
  pub unreserved : (i : ℕ) → i < length l1 → has_reserved_in_l1 (slice_index l1 i) ≡ false
  pub plain : (k : ℕ) → k < length words → is_plain (slice_index words k) ≡ true

plain_word : (compressed reserved : Bool) → compressed ≡ false → (not compressed && reserved) ≡ false → (not compressed && not reserved) ≡ true
plain_word false false c r = refl
plain_word false true c r = absurd (cc)
plain_word true reserved c r = absurd (cc)

pub in_order : (c len : ℕ) (l1 words : List ℕ) → refused_words c len l1 words ≡ None → AreInOrder c len l1 words
unfolding refused_words misplaced_host reserved_in_table reserved_in_words compressed_in_words
in_order c len l1 words none =
    let all = first-none (misplaced_host c len words ∷ reserved_in_table l1 ∷ reserved_in_words (entries_in_cluster c) l1 words ∷ compressed_in_words words ∷ []) none in
    let compressed = position-none is_compressed words (option_map-none Compressed (position is_compressed words) all.1.1.1.0) in
    let reserved = position-none (λ word. not (is_compressed word) && has_reserved_in_l2 word) words
    (option_map-none (λ i. ReservedInL2 (host_offset (slice_index l1 (i / entries_in_cluster c))) (i % entries_in_cluster c))
    (position (λ word. not (is_compressed word) && has_reserved_in_l2 word) words) all.1.1.0) in
    record {
      hosts = position-none (λ word. is_misplaced c len (own_offset word)) words
          (option_map-none (λ i. Offset (own_offset (slice_index words i))) (position (λ word. is_misplaced c len (own_offset word)) words) all.0);
      unreserved = position-none has_reserved_in_l1 l1 (option_map-none ReservedInL1 (position has_reserved_in_l1 l1) all.1.0);
      plain = λ k below. plain_word (is_compressed (slice_index words k)) (has_reserved_in_l2 (slice_index words k)) (compressed k below) (reserved k below);
    }

-- The L1 table's own place.

unrefused : (test : Bool) (o : ℕ) → option_map Offset (refused_where test o) ≡ None → test ≡ false
unrefused test o none = refused_where-none test o (option_map-none Offset (refused_where test o) none)

pub l1_placed : (h : Header) (len : ℕ) → option_map Offset (bad_l1_table h len) ≡ None → is_misplaced (cluster_size h.cluster_bits) len h.l1_offset ≡ false
unfolding bad_l1_table
l1_placed h len none =
    let c : ℕ = cluster_size h.cluster_bits in
    (or_parts (ltb h.l1_size (l1_entries_for c h.size)) (is_misplaced c len h.l1_offset)
    (unrefused (ltb h.l1_size (l1_entries_for c h.size) || is_misplaced c len h.l1_offset) h.l1_offset none)).1

pub placed_parts : (c len offset : ℕ) → is_misplaced c len offset ≡ false → (offset % c ≡ 0) × (offset < len)
placed_parts c len offset placed =
    let parts = or_parts (not (eqb (offset % c) 0)) (not (ltb offset len)) placed in
    (eqb-true (offset % c) 0 (not-false (eqb (offset % c) 0) parts.0), ltb-true offset len (not-false (ltb offset len) parts.1))

pub aligned_to_entries : (offset c e : ℕ) → c ≡ 8 * e → offset % c ≡ 0 → offset % 8 ≡ 0
aligned_to_entries offset c e is aligned =
    let q : ℕ = offset / c in
    let parts : q * c + offset % c ≡ offset = div-add-mod' offset c in
    let product : q * c ≡ q * (8 * e) = ap (λ (m : ℕ). q * m) is in
    let whole : offset ≡ 8 * (e * q) = omega (arith, parts, product, aligned) in
    ap (λ (m : ℕ). m % 8) whole ∙ mul-mod_right 8 (e * q)
