-- What a write changes of a tree, of the refcounts, of the references and of the guest's bytes: the lemmas for the crates above.
use Rattle.std.proofs.Common.{◌≡◌, ◌≢◌, ℕ, suc, ◌+◌, ◌*◌, ◌/◌, ◌%◌, ◌^◌, ◌<◌, inl, inr, cond, List, [], ◌∷◌, length, map, get_or, slice_index, count_by, refl, sym, ap, ◌∙◌, arith}
use Rattle.std.proofs.Math.ListN.{set, length-set}
use Rattle.std.proofs.Math.Nat.{div-add-mod'}
use Rattle.std.proofs.lemmas.Bool.{cases_eq, eq-eqb, ne_eqb}
use Rattle.std.proofs.lemmas.List.{ext_get_or, get_or-map, get_or-set_same, get_or-set_other}
use Rattle.std.proofs.lemmas.List.Sums.{sum_by-set}
use Rattle.std.proofs.lemmas.Nat.{div_below}
use Rattle.byteorder.specs.Endian.{big_bytes}
use Rattle.q2_format.specs.Bytes.{number_at, words_at, ReadsAlike, IsWritten}
use Rattle.q2_format.specs.Sizes.{cluster_size, entries_in_cluster, block_entries, refcount_bytes}
use Rattle.q2_format.specs.Entry.{host_offset, block_offset, l2_entry}
use Rattle.q2_format.specs.Header.{header_of}
use Rattle.q2_format.specs.Tables.{Tree, tree_at, active_tree, l2_table, l2_word_of, refcount_table, refcount_of}
use Rattle.q2_format.specs.Contents.{byte_by_entry, guest_byte}
use Rattle.q2_format.specs.References.{names_cluster, own_offset, tree_uses}
use Rattle.q2_format.specs.declared.header.Header.{Header}
use Rattle.q2_format.specs.declared.entries.L2Entry.{L2Entry}
use Rattle.q2_format.specs.declared.entries.L2Entry.TheVariants.{Unallocated, Zero, Host, Compressed, Reserved}
use Rattle.q2_format.proofs.ByPlace.{length-words_at}
use Rattle.q2_format.proofs.Frames.{words_at-alike, words_at-set}
use Rattle.q2_format.proofs.Trees.{l1_of_tree, length_l2, l2_word_of-at}

-- A write beside the tables of a tree leaves it.

pub l2_table-alike : (old new : List ℕ) (c word : ℕ) → (host_offset word ≢ 0 → ReadsAlike old new (host_offset word) (8 * entries_in_cluster c))
    → l2_table new c word ≡ l2_table old c word
unfolding l2_table
l2_table-alike old new c word alike = elim (cases_eq (host_offset word) 0) [
  | inl none ↦ let test = eq-eqb (host_offset word) 0 none in rw test refl
  | inr some ↦
      let test = ne_eqb (host_offset word) 0 some in
      let row = words_at-alike old new (host_offset word) (entries_in_cluster c) (alike some) in
      rw (test, row) refl
]

map_alike : (f g : ℕ → List ℕ) (xs : List ℕ) → ((i : ℕ) → i < length xs → f (get_or xs i 0) ≡ g (get_or xs i 0)) → map f xs ≡ map g xs
map_alike f g [] h = refl
map_alike f g (x ∷ xs) h =
    let here : f x ≡ g x = h 0 (omega arith) in
    let rest = map_alike f g xs (λ i below. h (suc i) (omega arith)) in
    rw (here, rest) refl

-- the L2 tables of a tree, but for one, read the same
pub record TablesAlike (old new : List ℕ) (c at n but : ℕ) : Type 0 where
  pub l1 : ReadsAlike old new at (8 * n)
  pub l2 : (i : ℕ) → i < n → i ≢ but → host_offset (get_or (words_at old at n) i 0) ≢ 0
      → ReadsAlike old new (host_offset (get_or (words_at old at n) i 0)) (8 * entries_in_cluster c)

-- with `but` behind the last table, all of them do
pub tree_at-alike : (old new : List ℕ) (c at n : ℕ) → TablesAlike old new c at n n → tree_at new c at n ≡ tree_at old c at n
unfolding tree_at
tree_at-alike old new c at n alike =
    let row = words_at-alike old new at n alike.l1 in
    let len = length-words_at old at n in
    let tables = map_alike (l2_table new c) (l2_table old c) (words_at old at n)
    (λ i h. l2_table-alike old new c (get_or (words_at old at n) i 0) (λ some. alike.l2 i (omega (arith, len)) (λ e. omega (arith, len)) some)) in
    rw (row, tables) refl

-- One entry of an L2 table was written.

-- a tree is its two parts
tree_ext : (tree : Tree) (l1 : List ℕ) (l2 : List (List ℕ)) → tree.l1 ≡ l1 → tree.l2 ≡ l2 → tree ≡ record { l1 = l1; l2 = l2 }
tree_ext tree l1 l2 a b = rw (← a, ← b) refl

module _ (old new : List ℕ) (c at n i j word : ℕ) (in_l1 : i < n) (in_table : j < entries_in_cluster c) (alike : TablesAlike old new c at n i)
    (named : host_offset (get_or (words_at old at n) i 0) ≢ 0)
    (written : IsWritten old new (host_offset (get_or (words_at old at n) i 0) + 8 * j) (big_bytes 8 word)) (fits : word < 256 ^ 8) where
  other_table : (k : ℕ) → k < n → k ≢ i → get_or (tree_at new c at n).l2 k [] ≡ get_or (tree_at old c at n).l2 k []
  unfolding tree_at
  other_table k below other =
      let row = words_at-alike old new at n alike.l1 in
      let len = length-words_at old at n in
      let table = l2_table-alike old new c (get_or (words_at old at n) k 0) (λ some. alike.l2 k below other some) in
      let left = get_or-map (l2_table new c) (words_at old at n) k 0 [] (omega (arith, len)) in
      let right = get_or-map (l2_table old c) (words_at old at n) k 0 [] (omega (arith, len)) in
      rw (row, left, right) table

  old_length : length (get_or (tree_at old c at n).l2 i []) ≡ entries_in_cluster c
  unfolding tree_at l2_table
  old_length =
      let len = length-words_at old at n in
      let test = ne_eqb (host_offset (get_or (words_at old at n) i 0)) 0 named in
      let table = get_or-map (l2_table old c) (words_at old at n) i 0 [] (omega (arith, len)) in
      rw (table, test) (length-words_at old (host_offset (get_or (words_at old at n) i 0)) (entries_in_cluster c))

  this_table : get_or (tree_at new c at n).l2 i [] ≡ set (get_or (tree_at old c at n).l2 i []) j word
  unfolding tree_at l2_table
  this_table =
      let row = words_at-alike old new at n alike.l1 in
      let len = length-words_at old at n in
      let test = ne_eqb (host_offset (get_or (words_at old at n) i 0)) 0 named in
      let table = words_at-set old new (host_offset (get_or (words_at old at n) i 0)) (entries_in_cluster c) j word in_table written fits in
      let left = get_or-map (l2_table new c) (words_at old at n) i 0 [] (omega (arith, len)) in
      let right = get_or-map (l2_table old c) (words_at old at n) i 0 [] (omega (arith, len)) in
      rw (row, left, right, test) table

  -- the tree is as it was but for that entry
  pub tree_at-entry : tree_at new c at n ≡ record { l1 = (tree_at old c at n).l1; l2 = set (tree_at old c at n).l2 i (set (get_or (tree_at old c at n).l2 i []) j word) }
  tree_at-entry =
      let row : (tree_at new c at n).l1 ≡ (tree_at old c at n).l1 = l1_of_tree new c at n ∙ words_at-alike old new at n alike.l1 ∙ sym (l1_of_tree old c at n) in
      let len_new = length_l2 new c at n in
      let len_old = length_l2 old c at n in
      let table : List ℕ = set (get_or (tree_at old c at n).l2 i []) j word in
      let tables : (tree_at new c at n).l2 ≡ set (tree_at old c at n).l2 i table =
      ext_get_or [] (tree_at new c at n).l2 (set (tree_at old c at n).l2 i table) (rw length-set (len_new ∙ sym len_old))
      (λ k below. elim (cases_eq k i) [
        | inl here ↦
            ap (λ (m : ℕ). get_or (tree_at new c at n).l2 m []) here ∙ this_table
            ∙ sym (get_or-set_same (tree_at old c at n).l2 i table [] (omega (arith, len_old)))
            ∙ ap (λ (m : ℕ). get_or (set (tree_at old c at n).l2 i table) m []) (sym here)
        | inr other ↦ other_table k (omega (arith, len_new)) other ∙ sym (get_or-set_other (tree_at old c at n).l2 i k table [] other)
      ]) in
      tree_ext (tree_at new c at n) (tree_at old c at n).l1 (set (tree_at old c at n).l2 i table) row tables

  -- the entry that was written
  pub l2_word_of-here : l2_word_of (tree_at new c at n) c (i * entries_in_cluster c + j) ≡ word
  l2_word_of-here =
      l2_word_of-at (tree_at new c at n) c i j in_table
      ∙ ap (λ (table : List ℕ). get_or table j 0) this_table
      ∙ get_or-set_same (get_or (tree_at old c at n).l2 i []) j word 0 (omega (arith, old_length))

  -- every other entry is as it was
  pub l2_word_of-elsewhere : (cluster : ℕ) → cluster < n * entries_in_cluster c → cluster ≢ i * entries_in_cluster c + j → l2_word_of (tree_at new c at n) c cluster ≡ l2_word_of (tree_at old c at n) c cluster
  unfolding l2_word_of
  l2_word_of-elsewhere cluster below other =
      let e : ℕ = entries_in_cluster c in
      let row_below = div_below cluster e n (omega arith) below in
      elim (cases_eq (cluster / e) i) [
        | inl here ↦
            let column : cluster % e ≢ j = λ same. other (sym (div-add-mod' cluster e) ∙ ap (λ (k : ℕ). k * e + cluster % e) here ∙ ap (λ (k : ℕ). i * e + k) same) in
            ap (λ (k : ℕ). get_or (get_or (tree_at new c at n).l2 k []) (cluster % e) 0) here
            ∙ ap (λ (table : List ℕ). get_or table (cluster % e) 0) this_table
            ∙ get_or-set_other (get_or (tree_at old c at n).l2 i []) j (cluster % e) word 0 column
            ∙ ap (λ (k : ℕ). get_or (get_or (tree_at old c at n).l2 k []) (cluster % e) 0) (sym here)
        | inr elsewhere ↦ ap (λ (table : List ℕ). get_or table (cluster % e) 0) (other_table (cluster / e) row_below elsewhere)
      ]

-- The references after one entry changed.

pub tree_uses-entry : (c cluster i j word : ℕ) (tree : Tree) → i < length tree.l2 → j < length (get_or tree.l2 i [])
    → tree_uses c (record { l1 = tree.l1; l2 = set tree.l2 i (set (get_or tree.l2 i []) j word) }) cluster
    + cond (names_cluster c cluster (own_offset (get_or (get_or tree.l2 i []) j 0))) 1 0
    ≡ tree_uses c tree cluster + cond (names_cluster c cluster (own_offset word)) 1 0
unfolding tree_uses
tree_uses-entry c cluster i j word tree in_tree in_table =
    let p : ℕ → ℕ = λ w. cond (names_cluster c cluster (own_offset w)) 1 0 in
    let old_table : List ℕ = get_or tree.l2 i [] in
    let tables = sum_by-set (λ table. count_by (λ w. names_cluster c cluster (own_offset w)) table) tree.l2 i (set old_table j word) [] in_tree in
    let entries = sum_by-set (λ w. cond (names_cluster c cluster (own_offset w)) 1 0) old_table j word 0 in_table in
    omega (arith, tables, entries)

-- A refcount.

pub refcount_of-alike : (old new : List ℕ) (h : Header) (cluster : ℕ) → refcount_table new h ≡ refcount_table old h
    → (let per_block = block_entries (cluster_size h.cluster_bits) h.refcount_order in
    let block = block_offset (slice_index (refcount_table old h) (cluster / per_block)) in
    let width = refcount_bytes h.refcount_order in
    number_at new (block + cluster % per_block * width) width ≡ number_at old (block + cluster % per_block * width) width)
    → refcount_of new h cluster ≡ refcount_of old h cluster
unfolding refcount_of
refcount_of-alike old new h cluster table count = rw (table, count) refl

-- A byte of the guest.

byte_alike : (old new : List ℕ) (c : ℕ) (backing : List ℕ) (place : ℕ) (e : L2Entry) → ((host : ℕ) → e ≡ Host host → slice_index new (host + place % c) ≡ slice_index old (host + place % c))
    → byte_by_entry new c backing place e ≡ byte_by_entry old c backing place e
byte_alike old new c backing place Unallocated same = refl
byte_alike old new c backing place (Zero host) same = refl
byte_alike old new c backing place (Host host) same = same host refl
byte_alike old new c backing place Compressed same = refl
byte_alike old new c backing place Reserved same = refl

-- it depends on the header, its cluster's entry, and the byte that the entry names
pub guest_byte-alike : (old new backing : List ℕ) (place : ℕ) → header_of new ≡ header_of old
    → (let h = header_of old in let c = cluster_size h.cluster_bits in l2_word_of (active_tree new h) c (place / c) ≡ l2_word_of (active_tree old h) c (place / c))
    → (let h = header_of old in let c = cluster_size h.cluster_bits in (host : ℕ) → l2_entry (l2_word_of (active_tree old h) c (place / c)) ≡ Host host
    → slice_index new (host + place % c) ≡ slice_index old (host + place % c))
    → guest_byte new backing place ≡ guest_byte old backing place
unfolding guest_byte
guest_byte-alike old new backing place header word byte =
    let h : Header = header_of old in
    let c : ℕ = cluster_size h.cluster_bits in
    rw (header, word) (byte_alike old new c backing place (l2_entry (l2_word_of (active_tree old h) c (place / c))) byte)
