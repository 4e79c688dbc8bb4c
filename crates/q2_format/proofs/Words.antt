-- An L2 entry and its word, both ways.
use Rattle.std.proofs.Common.{◌≡◌, ℕ, ◌+◌, ◌-◌, ◌*◌, ◌%◌, ◌^◌, ◌<◌, Bool, true, false, not, cond, eqb, refl, sym, ap, ◌∙◌, subst, arith}
use Rattle.std.proofs.Math.Nat.{mod-eq_of_lt}
use Rattle.std.proofs.lemmas.Bool.{eqb-true, eqb-false, ne_eqb, or_parts, not-false}
use Rattle.std.proofs.lemmas.Nat.{pow_below, and_mask}
use Rattle.std.proofs.lemmas.Bool.Decides.{nat_tests}
use Rattle.std.specs.Int.Bits.{bit_and}
use Rattle.q2_format.specs.Entry.{bits_of, host_offset, is_single, is_compressed, reads_as_zeros, has_reserved_in_l2, l2_entry, IsHostOffset, IsWritable, host_of, zero_flag, l2_spelling}
use Rattle.q2_format.specs.declared.entries.L2Entry.{L2Entry}
use Rattle.q2_format.specs.declared.entries.L2Entry.TheVariants.{Unallocated, Zero, Host, Compressed, Reserved}

-- a mask of `count` ones keeps the lowest bits
pub masked : (n count : ℕ) → count < 64 → bit_and n (1 * 2 ^ count % 18446744073709551616 - 1) ≡ n % 2 ^ count
masked n count h =
    let below : 2 ^ count < 18446744073709551616 = pow_below count 64 h in
    let one : 1 * 2 ^ count ≡ 2 ^ count = omega arith in
    let whole : 1 * 2 ^ count % 18446744073709551616 ≡ 2 ^ count = rw one (mod-eq_of_lt below) in
    rw whole (and_mask n count)

-- what a word reads as, by its parts

no_reserved : (word : ℕ) → bits_of word 1 8 ≡ 0 → bits_of word 56 6 ≡ 0 → has_reserved_in_l2 word ≡ false
no_reserved word low high = rw (low, high) refl

-- a word that is neither compressed nor reserved
plain_entry : (word : ℕ) → bits_of word 62 1 ≡ 0 → bits_of word 1 8 ≡ 0 → bits_of word 56 6 ≡ 0
    → l2_entry word ≡ cond (reads_as_zeros word) (Zero (host_offset word)) (cond (eqb (host_offset word) 0) Unallocated (Host (host_offset word)))
unfolding l2_entry
plain_entry word not_compressed low high = rw (not_compressed, low, high) refl

-- a host offset with its flags, as a word
record IsFlagged (word host zero_bit single : ℕ) : Type 0 where
  word_is : word ≡ host + zero_bit + single * 9223372036854775808
  zeros_fit : zero_bit < 2
  single_fits : single < 2
  aligned : host % 512 ≡ 0
  fits : host < 72057594037927936

flagged_compressed : (word host zero_bit single : ℕ) → IsFlagged word host zero_bit single → bits_of word 62 1 ≡ 0
flagged_compressed word host zero_bit single f = omega (arith, f.word_is, f.zeros_fit, f.single_fits, f.aligned, f.fits)

flagged_low : (word host zero_bit single : ℕ) → IsFlagged word host zero_bit single → bits_of word 1 8 ≡ 0
flagged_low word host zero_bit single f = omega (arith, f.word_is, f.zeros_fit, f.single_fits, f.aligned, f.fits)

flagged_high : (word host zero_bit single : ℕ) → IsFlagged word host zero_bit single → bits_of word 56 6 ≡ 0
flagged_high word host zero_bit single f = omega (arith, f.word_is, f.zeros_fit, f.single_fits, f.aligned, f.fits)

flagged_zeros : (word host zero_bit single : ℕ) → IsFlagged word host zero_bit single → bits_of word 0 1 ≡ zero_bit
flagged_zeros word host zero_bit single f = omega (arith, f.word_is, f.zeros_fit, f.single_fits, f.aligned, f.fits)

flagged_single : (word host zero_bit single : ℕ) → IsFlagged word host zero_bit single → bits_of word 63 1 ≡ single
flagged_single word host zero_bit single f = omega (arith, f.word_is, f.zeros_fit, f.single_fits, f.aligned, f.fits)

flagged_host : (word host zero_bit single : ℕ) → IsFlagged word host zero_bit single → host_offset word ≡ host
flagged_host word host zero_bit single f = omega (arith, f.word_is, f.zeros_fit, f.single_fits, f.aligned, f.fits)

flagged_entry : (word host zero_bit single : ℕ) → IsFlagged word host zero_bit single
    → l2_entry word ≡ cond (eqb zero_bit 1) (Zero host) (cond (eqb host 0) Unallocated (Host host))
flagged_entry word host zero_bit single f =
    let plain = plain_entry word (flagged_compressed word host zero_bit single f) (flagged_low word host zero_bit single f) (flagged_high word host zero_bit single f) in
    let bit = flagged_zeros word host zero_bit single f in
    let offset = flagged_host word host zero_bit single f in
    rw (bit, offset) at plain

-- the word of an entry reads as that entry

flagged_by_spelling : (e : L2Entry) (single : Bool) → IsHostOffset (host_of e)
    → IsFlagged (l2_spelling e single) (host_of e) (zero_flag e) (cond single 1 0)
flagged_by_spelling e single h = record {
  word_is = elim single as (λ b. l2_spelling e b ≡ host_of e + zero_flag e + cond b 1 0 * 9223372036854775808) [ true ↦ omega arith | false ↦ omega arith ];
  zeros_fit = elim e as (λ e'. zero_flag e' < 2) [ Unallocated ↦ omega arith | Zero host ↦ omega arith | Host host ↦ omega arith | Compressed ↦ omega arith | Reserved ↦ omega arith ];
  single_fits = elim single as (λ b. cond b 1 0 < 2) [ true ↦ omega arith | false ↦ omega arith ];
  aligned = h.0;
  fits = h.1;
}

pub entry_of_spelling : (e : L2Entry) (single : Bool) → IsWritable e → l2_entry (l2_spelling e single) ≡ e
entry_of_spelling Unallocated single w =
    flagged_entry (l2_spelling Unallocated single) 0 0 (cond single 1 0) (flagged_by_spelling Unallocated single (refl, omega arith))
entry_of_spelling (Zero host) single w =
    flagged_entry (l2_spelling (Zero host) single) host 1 (cond single 1 0) (flagged_by_spelling (Zero host) single w)
entry_of_spelling (Host host) single w =
    let some : eqb host 0 ≡ false = ne_eqb host 0 (λ e. omega (arith, w.1)) in
    let entry = flagged_entry (l2_spelling (Host host) single) host 0 (cond single 1 0) (flagged_by_spelling (Host host) single w.0) in
    rw some at entry
entry_of_spelling Compressed single w = absurd w
entry_of_spelling Reserved single w = absurd w

-- a written entry's host offset fits
writable_host : (e : L2Entry) → IsWritable e → IsHostOffset (host_of e)
writable_host Unallocated w = (refl, omega arith)
writable_host (Zero host) w = w
writable_host (Host host) w = w.0
writable_host Compressed w = absurd w
writable_host Reserved w = absurd w

flag_test : (single : Bool) → eqb (cond single 1 0) 1 ≡ single
flag_test true = refl
flag_test false = refl

pub single_of_spelling : (e : L2Entry) (single : Bool) → IsWritable e → is_single (l2_spelling e single) ≡ single
single_of_spelling e single w =
    let flagged = flagged_by_spelling e single (writable_host e w) in
    let bit = flagged_single (l2_spelling e single) (host_of e) (zero_flag e) (cond single 1 0) flagged in
    ap (λ (b : ℕ). eqb b 1) bit ∙ flag_test single

-- each word that reads as an entry that is written is the word of that entry

flag_value : (bit : ℕ) → bit < 2 → cond (eqb bit 1) 9223372036854775808 0 ≡ bit * 9223372036854775808
flag_value bit h = grind (arith, nat_tests)

-- the parts of a word with no reserved bit
word_by_parts : (word : ℕ) → word < 18446744073709551616 → bits_of word 62 1 ≡ 0 → bits_of word 1 8 ≡ 0 → bits_of word 56 6 ≡ 0
    → word ≡ host_offset word + bits_of word 0 1 + bits_of word 63 1 * 9223372036854775808
word_by_parts word h compressed low high = omega arith

bit_of_test : (bit : ℕ) → bit < 2 → eqb bit 1 ≡ false → bit ≡ 0
bit_of_test bit h e = let ne = eqb-false bit 1 e in omega (arith, ne)

-- the word of the entry that a word with no reserved bit reads as
plain_spelling : (word : ℕ) (zero_bit no_host : Bool) → word < 18446744073709551616
    → bits_of word 62 1 ≡ 0 → bits_of word 1 8 ≡ 0 → bits_of word 56 6 ≡ 0
    → reads_as_zeros word ≡ zero_bit → eqb (host_offset word) 0 ≡ no_host
    → word ≡ l2_spelling (cond zero_bit (Zero (host_offset word)) (cond no_host Unallocated (Host (host_offset word)))) (is_single word)
plain_spelling word true no_host h compressed low high z n =
    let bit = eqb-true (bits_of word 0 1) 1 z in
    let parts = word_by_parts word h compressed low high in
    let flag = flag_value (bits_of word 63 1) (omega arith) in
    omega (arith, bit, parts, flag)
plain_spelling word false true h compressed low high z n =
    let bit = bit_of_test (bits_of word 0 1) (omega arith) z in
    let host = eqb-true (host_offset word) 0 n in
    let parts = word_by_parts word h compressed low high in
    let flag = flag_value (bits_of word 63 1) (omega arith) in
    omega (arith, bit, host, parts, flag)
plain_spelling word false false h compressed low high z n =
    let bit = bit_of_test (bits_of word 0 1) (omega arith) z in
    let parts = word_by_parts word h compressed low high in
    let flag = flag_value (bits_of word 63 1) (omega arith) in
    omega (arith, bit, parts, flag)

by_tests : (word : ℕ) (compressed reserved : Bool) → word < 18446744073709551616
    → is_compressed word ≡ compressed → has_reserved_in_l2 word ≡ reserved
    → IsWritable (cond compressed Compressed (cond reserved Reserved (cond (reads_as_zeros word) (Zero (host_offset word)) (cond (eqb (host_offset word) 0) Unallocated (Host (host_offset word))))))
    → word ≡ l2_spelling (cond compressed Compressed (cond reserved Reserved (cond (reads_as_zeros word) (Zero (host_offset word)) (cond (eqb (host_offset word) 0) Unallocated (Host (host_offset word)))))) (is_single word)
by_tests word true reserved h c r w = absurd w
by_tests word false true h c r w = absurd w
by_tests word false false h c r w =
    let compressed = bit_of_test (bits_of word 62 1) (omega arith) c in
    let parts = or_parts (not (eqb (bits_of word 1 8) 0)) (not (eqb (bits_of word 56 6) 0)) r in
    let low = eqb-true (bits_of word 1 8) 0 (not-false (eqb (bits_of word 1 8) 0) parts.0) in
    let high = eqb-true (bits_of word 56 6) 0 (not-false (eqb (bits_of word 56 6) 0) parts.1) in
    plain_spelling word (reads_as_zeros word) (eqb (host_offset word) 0) h compressed low high refl refl

pub spelling_of_entry : (word : ℕ) → word < 18446744073709551616 → IsWritable (l2_entry word) → word ≡ l2_spelling (l2_entry word) (is_single word)
unfolding l2_entry
spelling_of_entry word h w = by_tests word (is_compressed word) (has_reserved_in_l2 word) h refl refl w

-- so two words of one entry with one flag are one word
pub one_spelling : (a b : ℕ) → a < 18446744073709551616 → b < 18446744073709551616 → IsWritable (l2_entry a)
    → l2_entry a ≡ l2_entry b → is_single a ≡ is_single b → a ≡ b
one_spelling a b ha hb w e s =
    let w' : IsWritable (l2_entry b) = subst IsWritable e w in
    spelling_of_entry a ha w ∙ ap (λ (x : L2Entry). l2_spelling x (is_single a)) e ∙ ap (λ (x : Bool). l2_spelling (l2_entry b) x) s ∙ sym (spelling_of_entry b hb w')
