-- A line that was written asks for its request.
use Rattle.std.proofs.Common.{◌≡◌, ℕ, ◌^◌, ◌≤◌, List, [], ◌∷◌, ◌++◌, length, true, false, Some, eqb, ltb, ltb-true, ne_eqb, refl, ap, sym, subst, ◌∙◌, arith}
use Rattle.std.specs.Prelude.{codes, decimal}
use Rattle.std.specs.List.{AllByRecursion, list_all, join_with_byte}
use Rattle.std.proofs.lemmas.Bool.{and_parts}
use Rattle.std.proofs.lemmas.List.Elements.{All-from_recursion}
use Rattle.std.proofs.lemmas.List.Splits.{slice_split_none, slice_split_at}
use Rattle.blk_base.specs.Pieces.{Extent}
use Rattle.trace_codec.specs.declared.op.Op.{Op}
use Rattle.trace_codec.specs.declared.op.Op.TheVariants.{Read, Write, Zero, Flush, Discard}
use Rattle.trace_codec.specs.declared.op.Payload.TheVariants.{Fill, Raw}
use Rattle.trace_codec.specs.declared.line.TraceLine.TheVariants.{Asks}
use Rattle.trace_codec.specs.Number.{◌>>=◌, number_of, below}
use Rattle.trace_codec.specs.Hex.{hex, payload_of}
use Rattle.trace_codec.specs.Line.{words_of, offset_of, span_in, request_in, asked, line_of}
use Rattle.trace_codec.specs.Traced.{IsRange, IsRequest}
use Rattle.trace_codec.specs.Spelling.{span_words, words_for, line_for}
use Rattle.trace_codec.proofs.Figures.{IsWord, decimal_below, decimal_word, payload_read, hex_word}

-- all are words
abbrev AreWords : List (List ℕ) → Type 0
AreWords words = AllByRecursion IsWord words

no_separator : (s : ℕ) (word : List ℕ) → s ≤ 32 → IsWord word → AllByRecursion (λ c. eqb c s ≡ false) word
no_separator s [] low all = tt
no_separator s (c ∷ word) low all = (ne_eqb _ _ (omega (arith, all.0)), no_separator s word low all.1)

-- words that were joined are cut where they were joined
pub words_cut : (word : List ℕ) (words : List (List ℕ)) → IsWord word → AreWords words → words_of (join_with_byte 32 (word ∷ words)) ≡ word ∷ words
words_cut word [] one all = slice_split_none (λ b. eqb b 32) word (All-from_recursion (λ c. eqb c 32 ≡ false) word (no_separator 32 word (omega arith) one))
words_cut word (next ∷ words) one all =
    slice_split_at (λ b. eqb b 32) word 32 (join_with_byte 32 (next ∷ words)) (All-from_recursion (λ c. eqb c 32 ≡ false) word (no_separator 32 word (omega arith) one)) refl
    ∙ ap (λ rest. word ∷ rest) (words_cut next words all.0 all.1)

-- no line feed is in a line of words
append_all : (P : ℕ → Type 0) (xs ys : List ℕ) → AllByRecursion P xs → AllByRecursion P ys → AllByRecursion P (xs ++ ys)
append_all P [] ys one all = all
append_all P (x ∷ xs) ys one all = (one.0, append_all P xs ys one.1 all)

one_line : (word : List ℕ) (words : List (List ℕ)) → IsWord word → AreWords words → AllByRecursion (λ c. eqb c 10 ≡ false) (join_with_byte 32 (word ∷ words))
one_line word [] one all = no_separator 10 word (omega arith) one
one_line word (next ∷ words) one all =
    append_all (λ c. eqb c 10 ≡ false) word (32 ∷ join_with_byte 32 (next ∷ words)) (no_separator 10 word (omega arith) one) (refl, one_line next words all.0 all.1)

-- `OFF LEN`
span_read : (span : Extent) → IsRange span → span_in (span_words span) ≡ Some span
span_read span is =
    let start : offset_of (decimal span.start) ≡ Some span.start = decimal_below (2 ^ 62) span.start (omega arith) is.start in
    let whole : below 2097153 (number_of (decimal span.len)) ≡ Some span.len = decimal_below 2097153 span.len (omega arith) (omega (arith, is.most)) in
    let some : eqb span.len 0 ≡ false = ne_eqb _ _ (omega (arith, is.some)) in
    rw start (rw whole (rw some refl))

range_words : (span : Extent) → IsRange span → AreWords (span_words span)
range_words span is = (decimal_word span.start (omega (arith, is.start)), (decimal_word span.len (omega (arith, is.most)), tt))

-- a literal word
literal : (word : List ℕ) → list_all (λ c. ltb 32 c) word ≡ true → IsWord word
literal [] all = tt
literal (c ∷ word) all = let parts = and_parts (ltb 32 c) (list_all (λ d. ltb 32 d) word) all in (ltb-true 32 c parts.0, literal word parts.1)

-- a request's words make it, and its line is cut into them
record IsSpelled (op : Op) : Type 0 where
  name : List ℕ
  words : List (List ℕ)
  whole : words_for op ≡ name ∷ words
  one : IsWord name
  all : AreWords words
  first : line_of (line_for op) ≡ asked (request_in (words_of (line_for op)))
  read : request_in (name ∷ words) ≡ Some op

spelled_span : (name : List ℕ) (op : Op) (span : Extent) → IsRange span → IsWord name → words_for op ≡ name ∷ span_words span →
    line_of (line_for op) ≡ asked (request_in (words_of (line_for op))) → request_in (name ∷ span_words span) ≡ Some op → IsSpelled op
spelled_span name op span is one whole first read = record { name = name; words = span_words span; whole = whole; one = one; all = range_words span is; first = first; read = read }

spelled : (op : Op) → IsRequest op → IsSpelled op
spelled (Read span) is =
    spelled_span (codes "read") (Read span) span is (literal (codes "read") refl) refl refl (ap (λ found. found >>= (λ s. Some (Read s))) (span_read span is))
spelled (Discard span) is =
    spelled_span (codes "discard") (Discard span) span is (literal (codes "discard") refl) refl refl (ap (λ found. found >>= (λ s. Some (Discard s))) (span_read span is))
spelled (Zero span) is = record {
  name = codes "write";
  words = codes "-z" ∷ span_words span;
  whole = refl;
  one = literal (codes "write") refl;
  all = (literal (codes "-z") refl, range_words span is);
  first = refl;
  read = ap (λ found. found >>= (λ s. Some (Zero s))) (span_read span is);
}
spelled (Write span (Fill byte)) is =
    let value : below 256 (number_of (decimal byte)) ≡ Some byte = decimal_below 256 byte (omega arith) is.1 in
    record {
      name = codes "write";
      words = codes "-P" ∷ decimal byte ∷ span_words span;
      whole = refl;
      one = literal (codes "write") refl;
      all = (literal (codes "-P") refl, (decimal_word byte (omega (arith, is.1)), range_words span is.0));
      first = refl;
      read = ap (λ found. found >>= (λ v. span_in (span_words span) >>= (λ s. Some (Write s (Fill v))))) value
          ∙ ap (λ found. found >>= (λ s. Some (Write s (Fill byte)))) (span_read span is.0);
    }
spelled (Write span (Raw bytes)) is =
    let start : offset_of (decimal span.start) ≡ Some span.start = decimal_below (2 ^ 62) span.start (omega arith) is.0.start in
    let payload : payload_of (hex bytes) ≡ Some bytes = payload_read bytes is.1.1 (omega (arith, is.0.some, is.1.0)) (omega (arith, is.0.most, is.1.0)) in
    record {
      name = codes "bytes";
      words = decimal span.start ∷ hex bytes ∷ [];
      whole = refl;
      one = literal (codes "bytes") refl;
      all = (decimal_word span.start (omega (arith, is.0.start)), (hex_word bytes, tt));
      first = refl;
      read = ap (λ found. found >>= (λ n. payload_of (hex bytes) >>= (λ b. Some (Write (record { start = n; len = length b }) (Raw b))))) start
          ∙ ap (λ found. found >>= (λ b. Some (Write (record { start = span.start; len = length b }) (Raw b)))) payload
          ∙ ap (λ n. Some (Write (record { start = span.start; len = n }) (Raw bytes))) is.1.0;
    }
spelled Flush is = record {
  name = codes "flush";
  words = [];
  whole = refl;
  one = literal (codes "flush") refl;
  all = tt;
  first = refl;
  read = refl;
}

-- the line of a request asks for it
pub line_read : (op : Op) → IsRequest op → line_of (line_for op) ≡ Asks op
line_read op is =
    let s = spelled op is in
    s.first ∙ ap (λ words. asked (request_in words)) (ap (λ words. words_of (join_with_byte 32 words)) s.whole ∙ words_cut s.name s.words s.one s.all) ∙ ap asked s.read

-- and is one line
pub line_whole : (op : Op) → IsRequest op → AllByRecursion (λ c. eqb c 10 ≡ false) (line_for op)
line_whole op is =
    let s = spelled op is in
    let P : List (List ℕ) → Type 0 = λ words. AllByRecursion (λ c. eqb c 10 ≡ false) (join_with_byte 32 words) in
    subst P (sym s.whole) (one_line s.name s.words s.one s.all)
