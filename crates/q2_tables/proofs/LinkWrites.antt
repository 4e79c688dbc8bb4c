-- The writes of a link: an entry is written whole or not at all, and how far they reach.
use Rattle.std.proofs.Common.{◌≡◌, ◌≢◌, inl, inr, ℕ, ◌+◌, ◌-◌, ◌*◌, ◌%◌, ◌<◌, ◌≤◌, max, eq-eqb, List, [], ◌∷◌, ◌++◌, length, take, drop, replicate, Option, Some, None, Result, Ok, Err, refl, sym, ap, subst, ◌∙◌, arith, length-append}
use Rattle.std.specs.Option.{option_map}
use Rattle.std.specs.Prelude.{OnOk, OnErr}
use Rattle.std.proofs.lemmas.Bool.{cases_eq, ne_eqb}
use Rattle.std.proofs.Math.Seq.{take-append-add}
use Rattle.std.proofs.lemmas.List.{length-take, length-take-le, length-replicate, take_all, take-replicate, drop-replicate}
use Rattle.blk_base.specs.Content.{Write, with_bytes, size_with}
use Rattle.blk_base.specs.Device.{Wrote, Writes, IsMade, stop_of}
use Rattle.blk_base.specs.Writes.{write_of, end_of_write, end_of_writes, size_after_writes, first_bytes, IsCutBy, IsPart}
use Rattle.blk_base.specs.declared.device.Device.{Ghosts}
use Rattle.blk_base.specs.declared.fault.DevStop.{DevStop}
use Rattle.blk_base.proofs.WriteLists.{cut-bytes, cut-sector}
use Rattle.byteorder.specs.Endian.{big_bytes}
use Rattle.byteorder.specs.Numbers.{length-bytes_high_first}
use Rattle.q2_format.specs.Sizes.{entries_in_cluster}
use Rattle.q2_tables.specs.Kept.{KeptTables}
use Rattle.q2_tables.specs.Linking.{TableAfter, entry_write, new_table, link_writes, link_end, l1_index, table_len, l1_spelling}
use Rattle.q2_tables.proofs.Written.{table_after}

-- The bytes of a new table.

pub length-new_table : (n column word : ℕ) → length (new_table n column word) ≡ n
unfolding new_table
length-new_table n column word =
    let zeros : List ℕ = replicate n 0 in
    length-take-le n (replicate (8 * column) 0 ++ big_bytes 8 word ++ zeros)
    (omega (arith, length-append (replicate (8 * column) 0 ++ big_bytes 8 word) zeros, length-replicate {A = ℕ} n 0))

take_over : (n : ℕ) (xs ys : List ℕ) → length xs ≤ n → take n (xs ++ ys) ≡ xs ++ take (n - length xs) ys
take_over n xs ys few = ap (λ (m : ℕ). take m (xs ++ ys)) (omega arith) ∙ take-append-add xs ys (n - length xs)

-- an entry put among zeros
pub table_made : (n column word : ℕ) (cleared bytes new : List ℕ) → cleared ≡ replicate n 0 → bytes ≡ big_bytes 8 word → 8 * column + 8 ≤ n
    → new ≡ take (8 * column) cleared ++ bytes ++ drop (8 * column + length bytes) cleared → new ≡ new_table n column word
unfolding new_table
table_made n column word cleared bytes new zeros eight fits is =
    let head : List ℕ = replicate (8 * column) 0 ++ big_bytes 8 word in
    let len = length-append (replicate (8 * column) 0) (big_bytes 8 word) in
    let size : length (replicate (8 * column) 0 ++ big_bytes 8 word) ≡ 8 * column + 8 =
    omega (arith, len, length-replicate {A = ℕ} (8 * column) 0, length-bytes_high_first 8 word) in
    let few : length (replicate (8 * column) 0 ++ big_bytes 8 word) ≤ n = omega (arith, size) in
    let eight_too = length-bytes_high_first 8 word in
    is
    ∙ ap (λ (bs : List ℕ). take (8 * column) cleared ++ bs ++ drop (8 * column + length bs) cleared) eight
    ∙ ap (λ (z : List ℕ). take (8 * column) z ++ big_bytes 8 word ++ drop (8 * column + length (big_bytes 8 word)) z) zeros
    ∙ ap (λ (z : List ℕ). z ++ big_bytes 8 word ++ drop (8 * column + length (big_bytes 8 word)) (replicate n 0)) (take-replicate (8 * column) n 0 (omega arith))
    ∙ ap (λ (z : List ℕ). head ++ z) (drop-replicate (8 * column + length (big_bytes 8 word)) n 0)
    ∙ ap (λ (m : ℕ). head ++ replicate m 0) (omega (arith, size, eight_too))
    ∙ sym (take_over n head (replicate n 0) few ∙ ap (λ (z : List ℕ). head ++ z) (take-replicate (n - length head) n 0 (omega arith)))

-- What one write leaves.

one_made : (stop : Option DevStop) (w : Write) (made : List Write) → IsMade stop (w ∷ []) made → (k : ℕ) × (made ≡ first_bytes k w ∷ [])
one_made None w made is = (length w.bytes, is ∙ ap (λ (bs : List ℕ). write_of w.offset bs ∷ []) (sym (take_all (length w.bytes) w.bytes (omega arith))))
one_made (Some stop) w [] part = absurd part
one_made (Some stop) w (m ∷ made) (inl (same, part)) = absurd part
one_made (Some stop) w (m ∷ made) (inr (cut, none)) =
    let bytes = cut-bytes stop w m cut in
    (bytes.0, ap (λ ms. m ∷ ms) none ∙ ap (λ x. x ∷ []) bytes.1)

none_made : (stop : DevStop) (w : Write) (made : List Write) → w.offset % 512 + length w.bytes ≤ 512 → IsPart (IsCutBy stop) (w ∷ []) made → made ≡ first_bytes 0 w ∷ []
none_made stop w [] within part = absurd part
none_made stop w (m ∷ made) within (inl (same, part)) = absurd part
none_made stop w (m ∷ made) within (inr (cut, none)) = ap (λ ms. m ∷ ms) none ∙ ap (λ x. x ∷ []) (cut-sector stop w m within cut)

same_content : (o : Option (List ℕ)) → option_map (λ (b : List ℕ). b) o ≡ o
same_content None = refl
same_content (Some b) = refl

module _ {D : Type 0} (g : Ghosts D) (a b : D) where
  pub entry_made : (r : Result (Unit {0}) DevStop) (at word : ℕ) → Writes g (entry_write at word ∷ []) (stop_of r) a b
      → OnOk r (g.content b ≡ option_map (λ f. with_bytes f at (big_bytes 8 word)) (g.content a))
  unfolding entry_write
  entry_made (Ok done) at word writes =
      let wrote : Wrote g (write_of at (big_bytes 8 word) ∷ []) a b = subst (λ ws. Wrote g ws a b) writes.part writes.wrote in
      wrote.content
  entry_made (Err stop) at word writes = tt

  pub entry_kept : (r : Result (Unit {0}) DevStop) (at word : ℕ) → at % 8 ≡ 0 → Writes g (entry_write at word ∷ []) (stop_of r) a b → OnErr r (g.content b ≡ g.content a)
  unfolding entry_write
  entry_kept (Ok done) at word whole writes = tt
  entry_kept (Err stop) at word whole writes =
      let within : at % 512 + length (big_bytes 8 word) ≤ 512 = omega (arith, length-bytes_high_first 8 word) in
      let nothing = none_made stop (write_of at (big_bytes 8 word)) writes.made within writes.part in
      let wrote : Wrote g (write_of at [] ∷ []) a b = subst (λ ws. Wrote g ws a b) nothing writes.wrote in
      wrote.content ∙ same_content (g.content a)

  -- a table that was written, whole or not
  pub table_told : (stop : Option DevStop) (at n : ℕ) (xs file : List ℕ) → Writes g (write_of at xs ∷ []) stop a b → length xs ≤ n → g.content a ≡ Some file
      → TableAfter file (g.content b) at n
  table_told stop at n xs file writes few told =
      let one = one_made stop (write_of at xs) writes.made writes.part in
      let wrote : Wrote g (write_of at (take one.0 xs) ∷ []) a b = subst (λ ws. Wrote g ws a b) one.1 writes.wrote in
      table_after (g.content a) (g.content b) file (take one.0 xs) at n told wrote.content (omega (arith, length-take one.0 xs))

  pub table_written : (at : ℕ) (xs : List ℕ) → Writes g (write_of at xs ∷ []) None a b → g.content b ≡ option_map (λ f. with_bytes f at xs) (g.content a)
  table_written at xs writes =
      let wrote : Wrote g (write_of at xs ∷ []) a b = subst (λ ws. Wrote g ws a b) writes.part writes.wrote in
      wrote.content

-- How far they reach.

pub end-link_writes : (kept : KeptTables) (cluster word table : ℕ) → end_of_writes (link_writes kept cluster word table) ≡ link_end kept cluster table
unfolding entry_write
end-link_writes kept cluster word table = elim (cases_eq table 0) [
  | inl none ↦
      let test = eq-eqb table 0 none in
      let eight = length-bytes_high_first 8 word in
      rw test (omega (arith, eight, none))
  | inr some ↦
      let test = ne_eqb table 0 some in
      let eight = length-bytes_high_first 8 (l1_spelling table) in
      let whole = length-new_table kept.c (cluster % entries_in_cluster kept.c) word in
      rw test (omega (arith, eight, whole))
]

-- the writes of a new table, by what they were made of
pub writes_are : (kept : KeptTables) (cluster word table n column at l1 : ℕ) → table ≢ 0 → n ≡ kept.c → column ≡ cluster % entries_in_cluster kept.c
    → at ≡ kept.l1_offset + 8 * l1_index kept cluster → l1 ≡ l1_spelling table
    → write_of table (new_table n column word) ∷ entry_write at l1 ∷ [] ≡ link_writes kept cluster word table
writes_are kept cluster word table n column at l1 some len col place spelled =
    let test = ne_eqb table 0 some in
    let both : write_of table (new_table kept.c (cluster % entries_in_cluster kept.c) word)
    ∷ entry_write (kept.l1_offset + 8 * l1_index kept cluster) (l1_spelling table) ∷ [] ≡ link_writes kept cluster word table = rw test refl in
    ap (λ (m : ℕ). write_of table (new_table m column word) ∷ entry_write at l1 ∷ []) len
    ∙ ap (λ (q : ℕ). write_of table (new_table kept.c q word) ∷ entry_write at l1 ∷ []) col
    ∙ ap (λ (o : ℕ). write_of table (new_table kept.c (cluster % entries_in_cluster kept.c) word) ∷ entry_write o l1 ∷ []) place
    ∙ ap (λ (w : ℕ). write_of table (new_table kept.c (cluster % entries_in_cluster kept.c) word) ∷ entry_write (kept.l1_offset + 8 * l1_index kept cluster) w ∷ []) spelled
    ∙ both

size_with_bound : (size at : ℕ) (xs : List ℕ) → size_with size at xs ≤ max size (at + length xs)
size_with_bound size at [] = omega arith
size_with_bound size at (x ∷ xs) = omega arith

size_with_reaches : (size at : ℕ) (xs : List ℕ) → 0 < length xs → at + length xs ≤ size_with size at xs
size_with_reaches size at [] some = absurd (omega arith)
size_with_reaches size at (x ∷ xs) some = omega arith

pub table_len_few : (kept : KeptTables) (table : ℕ) → table_len kept table ≤ kept.c
table_len_few kept table = elim (cases_eq table 0) [
  | inl none ↦ let test = eq-eqb table 0 none in rw test (omega arith)
  | inr some ↦ let test = ne_eqb table 0 some in rw test (omega arith)
]

size-bound : (size : ℕ) (ws : List Write) → size_after_writes size ws ≤ max size (end_of_writes ws)
size-bound size [] = omega arith
size-bound size (w ∷ ws) =
    let more = size-bound (size_with size w.offset w.bytes) ws in
    omega (arith, more, size_with_bound size w.offset w.bytes)

end-part : (stop : DevStop) (ws made : List Write) → IsPart (IsCutBy stop) ws made → end_of_writes made ≤ end_of_writes ws
end-part stop [] made part = absurd part
end-part stop (w ∷ ws) [] part = absurd part
end-part stop (w ∷ ws) (m ∷ made) (inl (same, part)) =
    let more = end-part stop ws made part in
    let first = ap end_of_write same in
    omega (arith, more, first)
end-part stop (w ∷ ws) (m ∷ made) (inr (cut, none)) =
    let bytes = cut-bytes stop w m cut in
    let first = ap end_of_write bytes.1 in
    let rest = ap end_of_writes none in
    let few = length-take bytes.0 w.bytes in
    omega (arith, first, rest, few)

end-made : (stop : Option DevStop) (ws made : List Write) → IsMade stop ws made → end_of_writes made ≤ end_of_writes ws
end-made None ws made is = let same = ap end_of_writes is in omega (arith, same)
end-made (Some stop) ws made part = end-part stop ws made part

module _ {D : Type 0} (g : Ghosts D) (a b : D) where
  pub link_bound : (kept : KeptTables) (cluster word table : ℕ) (stop : Option DevStop) → Writes g (link_writes kept cluster word table) stop a b
      → g.size b ≤ max (g.size a) (link_end kept cluster table)
  link_bound kept cluster word table stop writes =
      let size = writes.wrote.size in
      let bound = size-bound (g.size a) writes.made in
      let few = end-made stop (link_writes kept cluster word table) writes.made writes.part in
      omega (arith, size, bound, few, end-link_writes kept cluster word table)

  pub table_reaches : (r : Result (Unit {0}) DevStop) (at n : ℕ) (xs : List ℕ) → Writes g (write_of at xs ∷ []) (stop_of r) a b → length xs ≡ n → 0 < n → OnOk r (at + n ≤ g.size b)
  table_reaches (Err stop) at n xs writes len some = tt
  table_reaches (Ok done) at n xs writes len some =
      let wrote : Wrote g (write_of at xs ∷ []) a b = subst (λ ws. Wrote g ws a b) writes.part writes.wrote in
      let size = wrote.size in
      omega (arith, size, len, size_with_reaches (g.size a) at xs (omega (arith, len, some)))
