-- Texts that are read as the runs that they are.
use Rattle.std.proofs.Common.{◌≡◌, ◌≢◌, ℕ, zero, suc, ◌+◌, ◌-◌, ◌/◌, ◌%◌, ◌<◌, ◌≤◌, List, [], ◌∷◌, ◌++◌, true, false, eqb, map, length, get_or, take, drop, replicate, refl, sym, ◌∙◌, ap, subst, arith, append_assoc, append-nil, eq-eqb, ne_eqb, inl, inr, Some, length-take, get_or-take, take-append-drop}
use Rattle.std.specs.Prelude.{All, decimal}
use Rattle.std.specs.Fmt.{digit_glyph}
use Rattle.std.specs.List.{join_with_byte}
use Rattle.std.proofs.lemmas.Bool.{cases_lt, lt-ltb, le-ltb}
use Rattle.std.proofs.Math.Dec.{ltb}
use Rattle.std.proofs.lemmas.Fmt.{decimal_injective, decimal-digits_of}
use Rattle.std.proofs.lemmas.List.{drop_more, take_rest, get_or_default, length-append, length-replicate}
use Rattle.std.proofs.lemmas.List.Elements.{All-nil, All-cons, All-head, All-tail, All-append, All-map, All-replicate}
use Rattle.std.proofs.lemmas.List.Splits.{slice_split_at, slice_split_none, join_with_byte-slice_split}
use Rattle.std.specs.Int.Digits.{digits_of}
use Rattle.blk_runs.specs.Runs.{Run, run_text, text_of, bytes_of_runs, runs_of, runs_text, AreLongest}
use Rattle.blk_runs.proofs.Longest.{bytes_of-runs_of, AreLongest-runs_of, runs_of-bytes_of}
use Rattle.blk_runs.specs.declared.reading.Read.{Read}
use Rattle.blk_runs.specs.Reading.{IsBlockRun, IsBlock, AreBlockRuns, HasRead, IsFirstSpace, last_byte, words_of}

-- ---- the text of one run

glyph-low : (d : ℕ) → d < 10 → digit_glyph false d ≡ 48 + d
glyph-low d small = let is : ltb d 10 ≡ true = lt-ltb d 10 small in rw is refl

glyph-high : (d : ℕ) → 10 ≤ d → digit_glyph false d ≡ 87 + d
glyph-high d large = let is : ltb d 10 ≡ false = le-ltb d 10 large in rw is refl

glyphs : (c d : ℕ) → c < 16 → d < 16 → digit_glyph false c ≡ digit_glyph false d → c ≡ d
glyphs c d c-small d-small same = elim (cases_lt c 10) [
  | inl low ↦ elim (cases_lt d 10) [
    | inl below ↦ omega (arith, glyph-low c low, glyph-low d below)
    | inr above ↦ omega (arith, glyph-low c low, glyph-high d above)
  ]
  | inr high ↦ elim (cases_lt d 10) [
    | inl below ↦ omega (arith, glyph-high c high, glyph-low d below)
    | inr above ↦ omega (arith, glyph-high c high, glyph-high d above)
  ]
]

glyph-shown : (d : ℕ) → eqb (digit_glyph false d) 32 ≡ false
glyph-shown d = ne_eqb (digit_glyph false d) 32 (λ is. elim (cases_lt d 10) [
  | inl low ↦ omega (arith, glyph-low d low)
  | inr high ↦ omega (arith, glyph-high d high)
])

pub same-run : (r q : Run) → IsBlockRun r → IsBlockRun q → run_text r ≡ run_text q → r ≡ q
same-run r q is are same =
    let high = glyphs (r.byte / 16) (q.byte / 16) (omega (arith, is.byte)) (omega (arith, are.byte)) (cc same) in
    let low = glyphs (r.byte % 16) (q.byte % 16) (omega arith) (omega arith) (cc same) in
    let byte : r.byte ≡ q.byte = omega (arith, high, low) in
    let count = decimal_injective r.count q.count (omega (arith, is.count)) (omega (arith, are.count)) (cc same) in
    rw (byte, count) refl

-- no blank stands in it
pub run-shown : (r : Run) → IsBlockRun r → All (λ b. eqb b 32 ≡ false) (run_text r)
run-shown r is =
    let P : ℕ → Type 0 = λ b. eqb b 32 ≡ false in
    let digits : All P (decimal r.count) =
    subst (All P) (sym (decimal-digits_of r.count is.some (omega (arith, is.count))))
    (All-map P (λ d. 48 + d) (digits_of 10 r.count) (λ k d below. ne_eqb _ _ (λ same. omega arith))) in
    All-cons P (digit_glyph false (r.byte / 16)) (digit_glyph false (r.byte % 16) ∷ 42 ∷ decimal r.count) (glyph-shown (r.byte / 16))
    (All-cons P (digit_glyph false (r.byte % 16)) (42 ∷ decimal r.count) (glyph-shown (r.byte % 16)) (All-cons P 42 (decimal r.count) refl digits))

-- ---- the words of a text of runs

pub words-of-runs : (r : Run) (rs : List Run) → All IsBlockRun (r ∷ rs) → words_of (text_of (r ∷ rs)) ≡ map run_text (r ∷ rs)
words-of-runs r [] are = slice_split_none (λ b. eqb b 32) (run_text r) (run-shown r (All-head IsBlockRun r [] are))
words-of-runs r (q ∷ rs) are =
    slice_split_at (λ b. eqb b 32) (run_text r) 32 (text_of (q ∷ rs)) (run-shown r (All-head IsBlockRun r (q ∷ rs) are)) refl
    ∙ ap (λ ws. run_text r ∷ ws) (words-of-runs q rs (All-tail IsBlockRun r (q ∷ rs) are))

-- a text that isn't empty is that of some runs, whose texts are its words
pub runs-in-words : (rs : List Run) (text : List ℕ) → All IsBlockRun rs → text_of rs ≡ text → text ≢ [] → map run_text rs ≡ words_of text
runs-in-words [] text are is some = absurd (some (sym is))
runs-in-words (r ∷ rs) text are is some = sym (words-of-runs r rs are) ∙ ap words_of is

pub words-of-text : (rs : List Run) (text : List ℕ) → map run_text rs ≡ words_of text → text_of rs ≡ text
words-of-text rs text is = ap (join_with_byte 32) is ∙ join_with_byte-slice_split 32 text

-- the text of no runs is empty, and of some it isn't
pub no-runs : (rs : List Run) → text_of rs ≡ [] → rs ≡ []
no-runs [] is = refl
no-runs (r ∷ []) is = absurd (let bad : ⊥ = cc is in bad)
no-runs (r ∷ q ∷ rs) is = absurd (let bad : ⊥ = cc is in bad)

-- ---- runs whose first words are those of others

both : {A : Type 0} (x y : A) (xs ys : List A) → x ≡ y → xs ≡ ys → x ∷ xs ≡ y ∷ ys
both x y xs ys first rest = rw (first, rest) refl

pub record HasNextRun (front rs : List Run) (word : List ℕ) (more : List (List ℕ)) : Type 0 where
  pub run : Run
  pub back : List Run
  pub whole : rs ≡ front ++ run ∷ back
  pub is : IsBlockRun run
  pub text : run_text run ≡ word
  pub rest : map run_text back ≡ more

pub goes : (front rs : List Run) (word : List ℕ) (more : List (List ℕ)) → All IsBlockRun front → All IsBlockRun rs
    → map run_text rs ≡ map run_text front ++ word ∷ more → HasNextRun front rs word more
goes [] [] word more fronts are same = absurd (let bad : ⊥ = cc same in bad)
goes [] (q ∷ rs) word more fronts are same =
    record { run = q; back = rs; whole = refl; is = All-head IsBlockRun q rs are; text = cc same; rest = cc same }
goes (r ∷ front) [] word more fronts are same = absurd (let bad : ⊥ = cc same in bad)
goes (r ∷ front) (q ∷ rs) word more fronts are same =
    let first : q ≡ r = same-run q r (All-head IsBlockRun q rs are) (All-head IsBlockRun r front fronts) (cc same) in
    let further = goes front rs word more (All-tail IsBlockRun r front fronts) (All-tail IsBlockRun q rs are) (cc same) in
    record {
      run = further.run;
      back = further.back;
      whole = both q r rs (front ++ further.run ∷ further.back) first further.whole;
      is = further.is;
      text = further.text;
      rest = further.rest;
    }

-- and no words are left
pub all-gone : (front rs : List Run) → All IsBlockRun front → All IsBlockRun rs → map run_text rs ≡ map run_text front → rs ≡ front
all-gone [] [] fronts are same = refl
all-gone [] (q ∷ rs) fronts are same = absurd (let bad : ⊥ = cc same in bad)
all-gone (r ∷ front) [] fronts are same = absurd (let bad : ⊥ = cc same in bad)
all-gone (r ∷ front) (q ∷ rs) fronts are same =
    let first : q ≡ r = same-run q r (All-head IsBlockRun q rs are) (All-head IsBlockRun r front fronts) (cc same) in
    let rest = all-gone front rs (All-tail IsBlockRun r front fronts) (All-tail IsBlockRun q rs are) (cc same) in
    both q r rs front first rest

-- ---- one run more

pub bytes-joined : (front back : List Run) → length (bytes_of_runs (front ++ back)) ≡ length (bytes_of_runs front) + length (bytes_of_runs back)
bytes-joined [] back = omega arith
bytes-joined (r ∷ front) back =
    let here = length-append (replicate r.count r.byte) (bytes_of_runs (front ++ back)) in
    let there = length-append (replicate r.count r.byte) (bytes_of_runs front) in
    omega (arith, here, there, bytes-joined front back)

run-length : (r : Run) (back : List Run) → length (bytes_of_runs (r ∷ back)) ≡ r.count + length (bytes_of_runs back)
run-length r back = length-append (replicate r.count r.byte) (bytes_of_runs back) ∙ ap (λ n. n + length (bytes_of_runs back)) (length-replicate r.count r.byte)

pub bytes-with : (front back : List Run) (r : Run) → length (bytes_of_runs (front ++ r ∷ back)) ≡ length (bytes_of_runs front) + (r.count + length (bytes_of_runs back))
bytes-with front back r = bytes-joined front (r ∷ back) ∙ ap (λ n. length (bytes_of_runs front) + n) (run-length r back)

longest-with : (front : List Run) (r : Run) → AreLongest front → 0 < r.count → last_byte front ≢ Some r.byte → AreLongest (front ++ r ∷ [])
longest-with [] r are some apart = some
longest-with (x ∷ []) r are some apart = (are, (λ same. apart (ap Some same)), some)
longest-with (x ∷ y ∷ front) r are some apart = (are.0, are.1, longest-with (y ∷ front) r are.2 some apart)

longest-apart : (front back : List Run) (r : Run) → AreLongest (front ++ r ∷ back) → last_byte front ≢ Some r.byte
longest-apart [] back r are same = let bad : ⊥ = cc same in bad
longest-apart (x ∷ []) back r are same = are.1 (cc same)
longest-apart (x ∷ y ∷ front) back r are same = longest-apart (y ∷ front) back r are.2 same

last-with : (front : List Run) (r : Run) → last_byte (front ++ r ∷ []) ≡ Some r.byte
last-with [] r = refl
last-with (x ∷ []) r = refl
last-with (x ∷ y ∷ front) r = last-with (y ∷ front) r

pub read-with : (front : List Run) (read next : Read) (r : Run) → IsBlockRun r → HasRead front read → read.last ≢ Some r.byte → read.len + r.count ≤ 65536
    → next.last ≡ Some r.byte → next.len ≡ read.len + r.count → HasRead (front ++ r ∷ []) next
read-with front read next r is has apart within last len =
    let more = bytes-with front [] r in
    record {
      are = record {
        each = All-append IsBlockRun front (r ∷ []) has.are.each (All-cons IsBlockRun r [] is (All-nil IsBlockRun));
        longest = longest-with front r has.are.longest is.some (λ same. apart (has.last ∙ same));
        within = omega (arith, more, within, has.len);
      };
      last = last ∙ sym (last-with front r);
      len = omega (arith, len, more, has.len);
    }

-- what is read of longer lists
pub read-apart : (front back : List Run) (read : Read) (r : Run) → HasRead front read → AreBlockRuns (front ++ r ∷ back) → read.last ≢ Some r.byte
read-apart front back read r has are same = longest-apart front back r are.longest (sym has.last ∙ same)

pub read-within : (front back : List Run) (read : Read) (r : Run) → HasRead front read → AreBlockRuns (front ++ r ∷ back) → read.len + r.count ≤ 65536
read-within front back read r has are = omega (arith, bytes-with front back r, are.within, has.len)

-- ---- the first word

none-before : (at : ℕ) (text : List ℕ) → IsFirstSpace at text → All (λ b. eqb b 32 ≡ false) (take at text)
none-before at text is k d below =
    let near : k < at = omega (arith, length-take at text) in
    let inside : k < length text = omega (arith, is.within) in
    ne_eqb _ _ (rw get_or-take (rw (get_or_default text k d 0 inside) (is.before k near)))

pub cut-at : (at : ℕ) (text : List ℕ) → IsFirstSpace at text
    → words_of text ≡ take at text ∷ words_of (take (length text - (at + 1)) (drop (at + 1) text))
cut-at at text is =
    let back = sym (take-append-drop at text) ∙ ap (λ rest. take at text ++ rest) (drop_more text at 0 is.within) in
    rw (take_rest text (at + 1)) (ap words_of back
    ∙ slice_split_at (λ b. eqb b 32) (take at text) (get_or text at 0) (drop (at + 1) text) (none-before at text is) (eq-eqb _ _ is.here))

pub uncut : (text : List ℕ) → All (λ b. b ≢ 32) text → words_of text ≡ text ∷ []
uncut text none = slice_split_none (λ b. eqb b 32) text (λ k d below. ne_eqb _ _ (none k d below))

-- ---- reading on

-- so it is where these runs were read so far and these words are left
pub record HasReadRuns (text : List ℕ) (front : List Run) (left : List (List ℕ)) : Type 0 where
  pub some : text ≢ []
  pub are : All IsBlockRun front
  pub words : map run_text front ++ left ≡ words_of text

pub goes-on : (text : List ℕ) (front rs : List Run) (word : List ℕ) (more : List (List ℕ)) → HasReadRuns text front (word ∷ more)
    → All IsBlockRun rs → text_of rs ≡ text → HasNextRun front rs word more
goes-on text front rs word more reads are is =
    goes front rs word more reads.are are (runs-in-words rs text are is reads.some ∙ sym reads.words)

pub map-with : (front : List Run) (r : Run) (left : List (List ℕ)) → map run_text (front ++ r ∷ []) ++ left ≡ map run_text front ++ run_text r ∷ left
map-with [] r left = refl
map-with (x ∷ front) r left = ap (λ ws. run_text x ∷ ws) (map-with front r left)

pub reads-with : (text : List ℕ) (front : List Run) (r : Run) (word : List ℕ) (more : List (List ℕ)) → HasReadRuns text front (word ∷ more)
    → IsBlockRun r → run_text r ≡ word → HasReadRuns text (front ++ r ∷ []) more
reads-with text front r word more reads is same = record {
  some = reads.some;
  are = All-append IsBlockRun front (r ∷ []) reads.are (All-cons IsBlockRun r [] is (All-nil IsBlockRun));
  words = map-with front r more ∙ ap (λ w. map run_text front ++ w ∷ more) same ∙ reads.words;
}

-- nothing is left
pub read-all : (text : List ℕ) (front : List Run) → HasReadRuns text front [] → text_of front ≡ text
read-all text front reads = words-of-text front text (sym (append-nil (map run_text front)) ∙ reads.words)

pub only-read : (text : List ℕ) (front rs : List Run) → HasReadRuns text front [] → All IsBlockRun rs → text_of rs ≡ text → rs ≡ front
only-read text front rs reads are is =
    all-gone front rs reads.are are (runs-in-words rs text are is reads.some ∙ sym reads.words ∙ append-nil (map run_text front))

pub begin : (text : List ℕ) → text ≢ [] → HasReadRuns text [] (words_of text)
begin text some = record { some = some; are = All-nil IsBlockRun; words = refl }

pub bytes-pushed : (front : List Run) (r : Run) → bytes_of_runs front ++ replicate r.count r.byte ≡ bytes_of_runs (front ++ r ∷ [])
bytes-pushed [] r = sym (append-nil (replicate r.count r.byte))
bytes-pushed (x ∷ front) r =
    append_assoc (replicate x.count x.byte) (bytes_of_runs front) (replicate r.count r.byte)
    ∙ ap (λ bs. replicate x.count x.byte ++ bs) (bytes-pushed front r)

-- ---- the runs of a block

longest-tail : (r : Run) (rs : List Run) → AreLongest (r ∷ rs) → AreLongest rs
longest-tail r [] are = tt
longest-tail r (q ∷ rs) are = are.2

longest-some : (r : Run) (rs : List Run) → AreLongest (r ∷ rs) → 0 < r.count
longest-some r [] are = are
longest-some r (q ∷ rs) are = are.0

-- a run that isn't empty begins with its byte
first-byte : (P : ℕ → Type 0) (r : Run) (bytes : List ℕ) → 0 < r.count → All P (replicate r.count r.byte ++ bytes) → P r.byte
first-byte P r bytes some all = at r.count refl
  where
    at : (n : ℕ) → r.count ≡ n → P r.byte
    at zero is = absurd (omega (arith, some, is))
    at (suc n) is = All-head P r.byte (replicate n r.byte ++ bytes) (subst (λ k. All P (replicate k r.byte ++ bytes)) is all)

behind : (P : ℕ → Type 0) (n b : ℕ) (bytes : List ℕ) → All P (replicate n b ++ bytes) → All P bytes
behind P zero b bytes all = all
behind P (suc n) b bytes all = behind P n b bytes (All-tail P b (replicate n b ++ bytes) all)

small-runs : (rs : List Run) → AreLongest rs → length (bytes_of_runs rs) ≤ 65536 → All (λ b. b < 256) (bytes_of_runs rs) → All IsBlockRun rs
small-runs [] are within small = All-nil IsBlockRun
small-runs (r ∷ rs) are within small =
    let len = run-length r rs in
    let some = longest-some r rs are in
    All-cons IsBlockRun r rs
    (record { byte = first-byte (λ b. b < 256) r (bytes_of_runs rs) some small; some = some; count = omega (arith, len, within) })
    (small-runs rs (longest-tail r rs are) (omega (arith, len, within)) (behind (λ b. b < 256) r.count r.byte (bytes_of_runs rs) small))

pub block-read : (bytes : List ℕ) → IsBlock bytes → AreBlockRuns (runs_of bytes)
block-read bytes block =
    let whole = bytes_of-runs_of bytes in
    let longest = AreLongest-runs_of bytes in
    let within : length (bytes_of_runs (runs_of bytes)) ≤ 65536 = omega (arith, ap length whole, block.within) in
    record {
      each = small-runs (runs_of bytes) longest within (subst (All (λ b. b < 256)) (sym whole) block.small);
      longest = longest;
      within = within;
    }

small-bytes : (rs : List Run) → All IsBlockRun rs → All (λ b. b < 256) (bytes_of_runs rs)
small-bytes [] are = All-nil (λ b. b < 256)
small-bytes (r ∷ rs) are =
    All-append (λ b. b < 256) (replicate r.count r.byte) (bytes_of_runs rs)
    (All-replicate (λ b. b < 256) r.count r.byte (All-head IsBlockRun r rs are).byte)
    (small-bytes rs (All-tail IsBlockRun r rs are))

pub read-block : (rs : List Run) → AreBlockRuns rs → IsBlock (bytes_of_runs rs)
read-block rs are = record { within = are.within; small = small-bytes rs are.each }

pub text-of-read : (rs : List Run) → AreBlockRuns rs → runs_text (bytes_of_runs rs) ≡ text_of rs
unfolding runs_text
text-of-read rs are = ap text_of (runs_of-bytes_of rs are.longest)

pub text-of-block : (bytes text : List ℕ) → runs_text bytes ≡ text → text_of (runs_of bytes) ≡ text
unfolding runs_text
text-of-block bytes text is = is
