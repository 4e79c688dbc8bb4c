-- What a created image's sizes come to, and what its bytes of 0 read as.
use Rattle.std.proofs.Common.{◌≡◌, ℕ, ◌+◌, ◌*◌, ◌<◌, ◌≤◌, inl, inr, true, cond, eqb, ltb, List, Option, None, Some, length, Bor, refl, sym, ◌∙◌, arith}
use Rattle.std.proofs.lemmas.Bool.{cases_eq, ne_eqb}
use Rattle.std.specs.Option.{ForSome, option_copied}
use Rattle.q2_format.specs.Bytes.{number_at, ReadsAlike}
use Rattle.q2_format.specs.Created.{Creation, creation_of, created_table_clusters, created_clusters, created_block_offset, created_l1_offset, created_length, AreZeros, HasCreatedFields, HasCreatedName, HasCreatedTable, HasCreatedCounts, IsNewName}
use Rattle.q2_format.proofs.ByPlace.{number_at-zeros, number_at-within, bytes_at-within}

-- a number among bytes that are 0
pub zero_number : (file : List ℕ) (from to at n : ℕ) → AreZeros file from to → from ≤ at → at + n ≤ to → number_at file at n ≡ 0
zero_number file from to at n zeros_there low high = number_at-zeros file at n (λ i above below. zeros_there i (omega arith) (omega arith))

-- no supported disk needs a second cluster of the refcount table
pub one_table_cluster : (size : ℕ) (name format : Option (List ℕ)) → size ≤ 274877906944 → created_table_clusters (creation_of size name format) ≡ 1
one_table_cluster size name format h = omega arith

pub l1_table_behind : (size : ℕ) (name format : Option (List ℕ)) → size ≤ 274877906944 → created_l1_offset (creation_of size name format) ≡ 196608
l1_table_behind size name format h = let one = one_table_cluster size name format h in omega (arith, one)

-- a table whose first word is the block's offset, among zeros
table_word : (file : List ℕ) (k block : ℕ) → block ≡ 131072 → number_at file 0 8 ≡ 131072 → ((i : ℕ) → 8 ≤ i → number_at file i 8 ≡ 0)
    → number_at file (0 + 8 * k) 8 ≡ cond (eqb k 0) block 0
table_word file k block is first others = elim (cases_eq k 0) [
  | inl here ↦ let place : 0 + 8 * k ≡ 0 = omega arith in let test : eqb k 0 ≡ true = rw here refl in rw (place, test) (first ∙ sym is)
  | inr other ↦ let none = ne_eqb k 0 (λ e. other e) in rw none (others (0 + 8 * k) (omega arith))
]

pub made_table : (file : List ℕ) (size : ℕ) (name format : Option (List ℕ)) → size ≤ 274877906944 → number_at file 0 8 ≡ 131072 → ((i : ℕ) → 8 ≤ i → number_at file i 8 ≡ 0)
    → HasCreatedTable (creation_of size name format) file 0
made_table file size name format small first others = record {
  entry = λ k below. let one = one_table_cluster size name format small in
      table_word file k (created_block_offset (creation_of size name format)) (omega (arith, one)) first others;
}

-- a block in which four clusters count one
pub four_clusters : (size : ℕ) (name format : Option (List ℕ)) → size ≤ 274877906944 → created_clusters (creation_of size name format) ≡ 4
four_clusters size name format small = let one = one_table_cluster size name format small in omega (arith, one)

pub block_behind : (size : ℕ) (name format : Option (List ℕ)) → size ≤ 274877906944 → created_block_offset (creation_of size name format) ≡ 131072
block_behind size name format small = let one = one_table_cluster size name format small in omega (arith, one)

pub length_created : (size : ℕ) (name format : Option (List ℕ)) → size ≤ 274877906944 → created_length (creation_of size name format) ≡ 262144
length_created size name format small = let four = four_clusters size name format small in omega (arith, four)

pub made_counts : (file : List ℕ) (size : ℕ) (name format : Option (List ℕ)) → size ≤ 274877906944
    → ((k : ℕ) → k < 32768 → number_at file (0 + k * 2) 2 ≡ cond (ltb k 4) 1 0) → HasCreatedCounts (creation_of size name format) file 0
made_counts file size name format small counts = record {
  count = λ k below. let four = four_clusters size name format small in rw four (counts k below);
}

-- the fields read the same where their bytes do
pub fields_alike : (new : Creation) (old file : List ℕ) → HasCreatedFields new old → ReadsAlike old file 0 112 → HasCreatedFields new file
fields_alike new old file fields alike = record {
  magic = number_at-within old file 0 112 0 4 alike (omega arith) (omega arith) ∙ fields.magic;
  version = number_at-within old file 0 112 4 4 alike (omega arith) (omega arith) ∙ fields.version;
  name_offset = number_at-within old file 0 112 8 8 alike (omega arith) (omega arith) ∙ fields.name_offset;
  name_length = number_at-within old file 0 112 16 4 alike (omega arith) (omega arith) ∙ fields.name_length;
  cluster_bits = number_at-within old file 0 112 20 4 alike (omega arith) (omega arith) ∙ fields.cluster_bits;
  size = number_at-within old file 0 112 24 8 alike (omega arith) (omega arith) ∙ fields.size;
  crypt_method = number_at-within old file 0 112 32 4 alike (omega arith) (omega arith) ∙ fields.crypt_method;
  l1_size = number_at-within old file 0 112 36 4 alike (omega arith) (omega arith) ∙ fields.l1_size;
  l1_offset = number_at-within old file 0 112 40 8 alike (omega arith) (omega arith) ∙ fields.l1_offset;
  refcount_table_offset = number_at-within old file 0 112 48 8 alike (omega arith) (omega arith) ∙ fields.refcount_table_offset;
  refcount_table_clusters = number_at-within old file 0 112 56 4 alike (omega arith) (omega arith) ∙ fields.refcount_table_clusters;
  nb_snapshots = number_at-within old file 0 112 60 4 alike (omega arith) (omega arith) ∙ fields.nb_snapshots;
  snapshots_offset = number_at-within old file 0 112 64 8 alike (omega arith) (omega arith) ∙ fields.snapshots_offset;
  incompatible = number_at-within old file 0 112 72 8 alike (omega arith) (omega arith) ∙ fields.incompatible;
  compatible = number_at-within old file 0 112 80 8 alike (omega arith) (omega arith) ∙ fields.compatible;
  autoclear = number_at-within old file 0 112 88 8 alike (omega arith) (omega arith) ∙ fields.autoclear;
  refcount_order = number_at-within old file 0 112 96 4 alike (omega arith) (omega arith) ∙ fields.refcount_order;
  header_length = number_at-within old file 0 112 100 4 alike (omega arith) (omega arith) ∙ fields.header_length;
  compression_type = λ i low high. alike.same i (omega arith) (omega arith) ∙ fields.compression_type i low high;
}

-- the fields of an image with a name are those without, but for the name's own
pub named_fields : (size : ℕ) (format : Option (List ℕ)) (name old file : List ℕ) → HasCreatedFields (creation_of size None format) old
    → number_at file 8 8 ≡ 32768 → number_at file 16 4 ≡ length name → ReadsAlike old file 0 8 → ReadsAlike old file 20 92
    → HasCreatedFields (creation_of size (Some name) format) file
named_fields size format name old file fields offset len first rest = record {
  magic = number_at-within old file 0 8 0 4 first (omega arith) (omega arith) ∙ fields.magic;
  version = number_at-within old file 0 8 4 4 first (omega arith) (omega arith) ∙ fields.version;
  name_offset = offset;
  name_length = len;
  cluster_bits = number_at-within old file 20 92 20 4 rest (omega arith) (omega arith) ∙ fields.cluster_bits;
  size = number_at-within old file 20 92 24 8 rest (omega arith) (omega arith) ∙ fields.size;
  crypt_method = number_at-within old file 20 92 32 4 rest (omega arith) (omega arith) ∙ fields.crypt_method;
  l1_size = number_at-within old file 20 92 36 4 rest (omega arith) (omega arith) ∙ fields.l1_size;
  l1_offset = number_at-within old file 20 92 40 8 rest (omega arith) (omega arith) ∙ fields.l1_offset;
  refcount_table_offset = number_at-within old file 20 92 48 8 rest (omega arith) (omega arith) ∙ fields.refcount_table_offset;
  refcount_table_clusters = number_at-within old file 20 92 56 4 rest (omega arith) (omega arith) ∙ fields.refcount_table_clusters;
  nb_snapshots = number_at-within old file 20 92 60 4 rest (omega arith) (omega arith) ∙ fields.nb_snapshots;
  snapshots_offset = number_at-within old file 20 92 64 8 rest (omega arith) (omega arith) ∙ fields.snapshots_offset;
  incompatible = number_at-within old file 20 92 72 8 rest (omega arith) (omega arith) ∙ fields.incompatible;
  compatible = number_at-within old file 20 92 80 8 rest (omega arith) (omega arith) ∙ fields.compatible;
  autoclear = number_at-within old file 20 92 88 8 rest (omega arith) (omega arith) ∙ fields.autoclear;
  refcount_order = number_at-within old file 20 92 96 4 rest (omega arith) (omega arith) ∙ fields.refcount_order;
  header_length = number_at-within old file 20 92 100 4 rest (omega arith) (omega arith) ∙ fields.header_length;
  compression_type = λ i low high. rest.same i (omega arith) (omega arith) ∙ fields.compression_type i low high;
}

-- the name and the bytes behind it read the same where their bytes do
pub no_name_alike : (size : ℕ) (format : Option (List ℕ)) (old file : List ℕ) → HasCreatedName (creation_of size None format) old
    → ReadsAlike old file 32768 32768 → HasCreatedName (creation_of size None format) file
no_name_alike size format old file named alike = record {
  text = named.text;
  behind = λ i low high. alike.same i (omega arith) (omega arith) ∙ named.behind i low high;
}

pub name_alike : (size : ℕ) (name : List ℕ) (format : Option (List ℕ)) (old file : List ℕ) → length name ≤ 1023 → HasCreatedName (creation_of size (Some name) format) old
    → ReadsAlike old file 32768 32768 → HasCreatedName (creation_of size (Some name) format) file
name_alike size name format old file short named alike = record {
  text = bytes_at-within old file 32768 32768 32768 (length name) alike (omega arith) (omega arith) ∙ named.text;
  behind = λ i low high. alike.same i (omega arith) (omega arith) ∙ named.behind i low high;
}

-- the same for a name that may be absent
pub given_name_alike : (size : ℕ) (name : Option (Bor (List ℕ))) (format : Option (List ℕ)) (old file : List ℕ)
    → ForSome name (λ name. IsNewName name.now) → HasCreatedName (creation_of size (option_copied name) format) old
    → ReadsAlike old file 32768 32768 → HasCreatedName (creation_of size (option_copied name) format) file
given_name_alike size None format old file short named alike = no_name_alike size format old file named alike
given_name_alike size (Some name) format old file short named alike = name_alike size name.now format old file (short name refl).1 named alike
