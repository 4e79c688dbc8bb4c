-- What a line of a transcript tells: words end at blanks, and lines at line feeds.
use Rattle.std.proofs.Common.{◌≡◌, ◌≢◌, ℕ, pos, negsuc, zero, suc, ◌+◌, Bool, true, false, cond, List, [], ◌∷◌, ◌++◌, refl, sym, ap, subst, ◌∙◌, arith}
use Rattle.std.specs.Prelude.{◌==◌, ◌||◌, ◌&&◌, ◌/◌, ◌%◌, not, nat_lt, flat_map, decimal}
use Rattle.std.specs.List.{list_all}
use Rattle.std.proofs.lemmas.Bool.{eqb-false, ne_eqb, ltb-false, and_parts}
use Rattle.std.proofs.lemmas.List.{append_assoc, append_cancel_left}
use Rattle.std.specs.Fmt.{digit_glyph, digits_onto, digits}
use Rattle.std.specs.Char.{digit_char}
use Rattle.json.specs.Print.{escape_letter, escape_byte, escape, quoted}
use Rattle.serde_json.specs.Data.{Num, unsigned, negative, float, Data, null, boolean, number, string, array, object, Items, no_items, item, Members, no_members, member}
use Rattle.serde_json.specs.Written.{number_text, comma_if, compact_text, items_text, members_text}
use Rattle.blk_history.specs.Transcript.{sentence}
use Rattle.trace_codec.specs.Awaits.{is_name, is_name_byte}

-- ---- bytes

-- one within a line, and one within a word
abbrev pub in_line : ℕ → Bool
in_line x = not (x == 10)

abbrev pub in_word : ℕ → Bool
in_word x = not (x == 32) && in_line x

abbrev pub IsLine : List ℕ → Type 0
IsLine xs = list_all in_line xs ≡ true

abbrev pub IsWord : List ℕ → Type 0
IsWord xs = list_all in_word xs ≡ true

not-other : (x y : ℕ) → not (x == y) ≡ true → x ≢ y
not-other x y h = eqb-false x y (by_test (x == y) h)
  where
    by_test : (b : Bool) → not b ≡ true → b ≡ false
    by_test true e = absurd cc
    by_test false e = refl

both-true : (a b : Bool) → a ≡ true → b ≡ true → (a && b) ≡ true
both-true a b h k = rw (h, k) refl

pub all-append : (p : ℕ → Bool) (xs ys : List ℕ) → list_all p xs ≡ true → list_all p ys ≡ true → list_all p (xs ++ ys) ≡ true
all-append p [] ys h k = k
all-append p (x ∷ xs) ys h k = let parts = and_parts (p x) (list_all p xs) h in both-true (p x) (list_all p (xs ++ ys)) parts.0 (all-append p xs ys parts.1 k)

word-line : (xs : List ℕ) → IsWord xs → IsLine xs
word-line [] h = refl
word-line (x ∷ xs) h =
    let parts = and_parts (in_word x) (list_all in_word xs) h in
    both-true (in_line x) (list_all in_line xs) (and_parts (not (x == 32)) (in_line x) parts.0).1 (word-line xs parts.1)

-- ---- where words and lines end

abbrev IsBreak : ℕ → Type 0
IsBreak x = in_word x ≡ false

word-ends : (a b r q : List ℕ) (x y : ℕ) → IsWord a → IsWord b → IsBreak x → IsBreak y → a ++ x ∷ r ≡ b ++ y ∷ q
    → (a ≡ b) × (x ∷ r ≡ y ∷ q)
word-ends [] [] r q x y wa wb bx by e = (refl, e)
word-ends [] (b ∷ bs) r q x y wa wb bx by e =
    let head = (and_parts (in_word b) (list_all in_word bs) wb).0 in
    let same : x ≡ b = cc in
    let never : in_word b ≡ false = subst (λ n. in_word n ≡ false) same bx in
    absurd cc
word-ends (a ∷ more) [] r q x y wa wb bx by e =
    let head = (and_parts (in_word a) (list_all in_word more) wa).0 in
    let same : y ≡ a = cc in
    let never : in_word a ≡ false = subst (λ n. in_word n ≡ false) same by in
    absurd cc
word-ends (a ∷ more) (b ∷ bs) r q x y wa wb bx by e =
    let head_a = and_parts (in_word a) (list_all in_word more) wa in
    let head_b = and_parts (in_word b) (list_all in_word bs) wb in
    let same : a ≡ b = cc in
    let rest : more ++ x ∷ r ≡ bs ++ y ∷ q = cc in
    let k = word-ends more bs r q x y head_a.1 head_b.1 bx by rest in
    (ap (λ z. z ∷ more) same ∙ ap (λ zs. b ∷ zs) k.0, k.1)

pub line-ends : (a b r q : List ℕ) → IsLine a → IsLine b → a ++ 10 ∷ r ≡ b ++ 10 ∷ q → (a ≡ b) × (r ≡ q)
line-ends [] [] r q la lb e = (refl, cc)
line-ends [] (b ∷ bs) r q la lb e =
    let head = (and_parts (in_line b) (list_all in_line bs) lb).0 in
    let same : 10 ≡ b = cc in
    let never : in_line b ≡ false = subst (λ n. in_line n ≡ false) same refl in
    absurd cc
line-ends (a ∷ more) [] r q la lb e =
    let head = (and_parts (in_line a) (list_all in_line more) la).0 in
    let same : 10 ≡ a = cc in
    let never : in_line a ≡ false = subst (λ n. in_line n ≡ false) same refl in
    absurd cc
line-ends (a ∷ more) (b ∷ bs) r q la lb e =
    let head_a = and_parts (in_line a) (list_all in_line more) la in
    let head_b = and_parts (in_line b) (list_all in_line bs) lb in
    let same : a ≡ b = cc in
    let rest : more ++ 10 ∷ r ≡ bs ++ 10 ∷ q = cc in
    let k = line-ends more bs r q head_a.1 head_b.1 rest in
    (ap (λ z. z ∷ more) same ∙ ap (λ zs. b ∷ zs) k.0, k.1)

-- ---- sentences

-- words, each behind a blank, and what follows the line
pub words_then : List (List ℕ) → List ℕ → List ℕ
words_then [] r = 10 ∷ r
words_then (word ∷ words) r = 32 ∷ (word ++ words_then words r)

blanked-then : (words : List (List ℕ)) (r : List ℕ) → flat_map (λ word. 32 ∷ word) words ++ 10 ∷ r ≡ words_then words r
unfolding words_then
blanked-then [] r = refl
blanked-then (word ∷ words) r =
    append_assoc (32 ∷ word) (flat_map (λ w. 32 ∷ w) words) (10 ∷ r) ∙ ap (λ rest. 32 ∷ (word ++ rest)) (blanked-then words r)

pub sentence-then : (verb : List ℕ) (words : List (List ℕ)) (r : List ℕ) → sentence verb words ++ r ≡ verb ++ words_then words r
sentence-then verb words r =
    append_assoc (verb ++ flat_map (λ w. 32 ∷ w) words) (10 ∷ []) r
    ∙ append_assoc verb (flat_map (λ w. 32 ∷ w) words) (10 ∷ r)
    ∙ ap (λ rest. verb ++ rest) (blanked-then words r)

-- after one verb, the words are the same
pub after-verb : (verb : List ℕ) (ws vs : List (List ℕ)) (r q : List ℕ) → sentence verb ws ++ r ≡ sentence verb vs ++ q
    → words_then ws r ≡ words_then vs q
after-verb verb ws vs r q e =
    append_cancel_left verb (words_then ws r) (words_then vs q) (sym (sentence-then verb ws r) ∙ e ∙ sentence-then verb vs q)

-- the first words are one, where both are words
pub first-word : (w v : List ℕ) (ws vs : List (List ℕ)) (r q : List ℕ) → IsWord w → IsWord v
    → words_then (w ∷ ws) r ≡ words_then (v ∷ vs) q → (w ≡ v) × (words_then ws r ≡ words_then vs q)
unfolding words_then
first-word w v [] [] r q hw hv e = let rest : w ++ 10 ∷ r ≡ v ++ 10 ∷ q = cc in word-ends w v r q 10 10 hw hv refl refl rest
first-word w v [] (y ∷ ys) r q hw hv e =
    let rest : w ++ 10 ∷ r ≡ v ++ 32 ∷ (y ++ words_then ys q) = cc in word-ends w v r (y ++ words_then ys q) 10 32 hw hv refl refl rest
first-word w v (x ∷ xs) [] r q hw hv e =
    let rest : w ++ 32 ∷ (x ++ words_then xs r) ≡ v ++ 10 ∷ q = cc in word-ends w v (x ++ words_then xs r) q 32 10 hw hv refl refl rest
first-word w v (x ∷ xs) (y ∷ ys) r q hw hv e =
    let rest : w ++ 32 ∷ (x ++ words_then xs r) ≡ v ++ 32 ∷ (y ++ words_then ys q) = cc in
    word-ends w v (x ++ words_then xs r) (y ++ words_then ys q) 32 32 hw hv refl refl rest

-- one word less on both sides
pub same-word : (w : List ℕ) (ws vs : List (List ℕ)) (r q : List ℕ) → words_then (w ∷ ws) r ≡ words_then (w ∷ vs) q → words_then ws r ≡ words_then vs q
unfolding words_then
same-word w ws vs r q e =
    let rest : w ++ words_then ws r ≡ w ++ words_then vs q = cc in append_cancel_left w (words_then ws r) (words_then vs q) rest

-- the last word may hold blanks
pub last-word : (w v : List ℕ) (r q : List ℕ) → IsLine w → IsLine v → words_then (w ∷ []) r ≡ words_then (v ∷ []) q → (w ≡ v) × (r ≡ q)
unfolding words_then
last-word w v r q hw hv e = let rest : w ++ 10 ∷ r ≡ v ++ 10 ∷ q = cc in line-ends w v r q hw hv rest

-- ---- words that are printed

glyph-word : (d : ℕ) → in_word (digit_glyph false d) ≡ true
glyph-word d = by_test (nat_lt d 10)
  where
    other : (x y : ℕ) → x ≢ y → not (x == y) ≡ true
    other x y differ = ap not (ne_eqb x y differ)

    by_test : (b : Bool) → in_word (cond b (48 + d) (87 + d)) ≡ true
    by_test true = both-true (not ((48 + d) == 32)) (in_line (48 + d)) (other (48 + d) 32 (λ e. omega arith)) (other (48 + d) 10 (λ e. omega arith))
    by_test false = both-true (not ((87 + d) == 32)) (in_line (87 + d)) (other (87 + d) 32 (λ e. omega arith)) (other (87 + d) 10 (λ e. omega arith))

digits-word : (k n : ℕ) (acc : List ℕ) → IsWord acc → IsWord (digits_onto k 10 false n acc)
digits-word zero n acc h = h
digits-word (suc k) n acc h =
    by_test (n / 10 == 0) (both-true (in_word (digit_glyph false (n % 10))) (list_all in_word acc) (glyph-word (n % 10)) h)
    (λ more. digits-word k (n / 10) (digit_glyph false (n % 10) ∷ acc) more)
  where
    by_test : (b : Bool) → IsWord (digit_glyph false (n % 10) ∷ acc)
        → (IsWord (digit_glyph false (n % 10) ∷ acc) → IsWord (digits_onto k 10 false (n / 10) (digit_glyph false (n % 10) ∷ acc)))
        → IsWord (cond b (digit_glyph false (n % 10) ∷ acc) (digits_onto k 10 false (n / 10) (digit_glyph false (n % 10) ∷ acc)))
    by_test true more rest = more
    by_test false more rest = rest more

pub decimal-word : (n : ℕ) → IsWord (decimal n)
unfolding digits
decimal-word n = digits-word 64 n [] refl

name-byte : (x : ℕ) → is_name_byte x ≡ true → in_word x ≡ true
name-byte x h = both-true (not (x == 32)) (in_line x) (other 32 refl) (other 10 refl)
  where
    other : (y : ℕ) → is_name_byte y ≡ false → not (x == y) ≡ true
    other y none = ap not (ne_eqb x y (λ same. let never = subst (λ n. is_name_byte n ≡ true) same h in cc))

pub name-bytes : (xs : List ℕ) → list_all is_name_byte xs ≡ true → IsWord xs
name-bytes [] h = refl
name-bytes (x ∷ xs) h =
    let parts = and_parts (is_name_byte x) (list_all is_name_byte xs) h in
    both-true (in_word x) (list_all in_word xs) (name-byte x parts.0) (name-bytes xs parts.1)

pub name-word : (name : List ℕ) → is_name name ≡ true → IsWord name
name-word name h = name-bytes name (and_parts _ _ (and_parts _ _ h).1).1

-- ---- texts of values have no line feed

letter-line : (x : ℕ) → in_line (escape_letter x) ≡ true
letter-line x = by_quote ((x == 34) || (x == 92)) refl
  where
    by_quote : (b : Bool) → ((x == 34) || (x == 92)) ≡ b
        → in_line (cond b x (cond (x == 8) 98 (cond (x == 12) 102 (cond (x == 10) 110 (cond (x == 13) 114 (cond (x == 9) 116 0)))))) ≡ true
    by_quote true e = ap not (ne_eqb x 10 (λ same. let never = subst (λ n. ((n == 34) || (n == 92)) ≡ true) same e in cc))
    by_quote false e = by_rest (x == 8) (x == 12) (x == 10) (x == 13) (x == 9)
      where
        by_rest : (a b c d e : Bool) → in_line (cond a 98 (cond b 102 (cond c 110 (cond d 114 (cond e 116 0))))) ≡ true
        by_rest true b c d e = refl
        by_rest false true c d e = refl
        by_rest false false true d e = refl
        by_rest false false false true e = refl
        by_rest false false false false true = refl
        by_rest false false false false false = refl

char-line : (d : ℕ) → in_line (digit_char d) ≡ true
char-line d = by_test (nat_lt d 10)
  where
    by_test : (b : Bool) → in_line (cond b (48 + d) (87 + d)) ≡ true
    by_test true = ap not (ne_eqb (48 + d) 10 (λ e. omega arith))
    by_test false = ap not (ne_eqb (87 + d) 10 (λ e. omega arith))

byte-line : (x : ℕ) → IsLine (escape_byte x)
unfolding escape_byte
byte-line x = by_letter (nat_lt 0 (escape_letter x))
  where
    by_low : (b : Bool) → nat_lt x 32 ≡ b → IsLine (cond b (92 ∷ 117 ∷ 48 ∷ 48 ∷ digit_char (x / 16) ∷ digit_char (x % 16) ∷ []) (x ∷ []))
    by_low true e = both-true (in_line (digit_char (x / 16))) (list_all in_line (digit_char (x % 16) ∷ [])) (char-line (x / 16))
        (both-true (in_line (digit_char (x % 16))) true (char-line (x % 16)) refl)
    by_low false e = both-true (in_line x) true (ap not (ne_eqb x 10 (λ same. let above = ltb-false x 32 e in omega arith))) refl

    by_letter : (b : Bool) → IsLine (cond b (92 ∷ escape_letter x ∷ []) (cond (nat_lt x 32) (92 ∷ 117 ∷ 48 ∷ 48 ∷ digit_char (x / 16) ∷ digit_char (x % 16) ∷ []) (x ∷ [])))
    by_letter true = both-true (in_line (escape_letter x)) true (letter-line x) refl
    by_letter false = by_low (nat_lt x 32) refl

escape-line : (s : List ℕ) → IsLine (escape s)
escape-line [] = refl
escape-line (x ∷ xs) = all-append in_line (escape_byte x) (escape xs) (byte-line x) (escape-line xs)

quoted-line : (s : List ℕ) → IsLine (quoted s)
quoted-line s = all-append in_line (escape s) (34 ∷ []) (escape-line s) refl

number-line : (n : Num) → IsLine (number_text n)
number-line (unsigned n) = word-line (decimal n) (decimal-word n)
number-line (negative (pos n)) = word-line (decimal n) (decimal-word n)
number-line (negative (negsuc n)) = word-line (decimal (suc n)) (decimal-word (suc n))
number-line (float x) = refl

comma-line : (b : Bool) → IsLine (comma_if b)
comma-line true = refl
comma-line false = refl

mutual
  pub text-line : (d : Data) → IsLine (compact_text d)
  text-line null = refl
  text-line (boolean true) = refl
  text-line (boolean false) = refl
  text-line (number n) = number-line n
  text-line (string s) = quoted-line s
  text-line (array ds) = items-line false ds
  text-line (object ms) = members-line false ms

  items-line : (b : Bool) (ds : Items) → IsLine (items_text b ds)
  items-line b no_items = refl
  items-line b (item d ds) =
      all-append in_line (comma_if b) (compact_text d ++ items_text true ds) (comma-line b)
      (all-append in_line (compact_text d) (items_text true ds) (text-line d) (items-line true ds))

  members-line : (b : Bool) (ms : Members) → IsLine (members_text b ms)
  members-line b no_members = refl
  members-line b (member k d ms) =
      all-append in_line (comma_if b) (quoted k ++ 58 ∷ (compact_text d ++ members_text true ms)) (comma-line b)
      (all-append in_line (quoted k) (58 ∷ (compact_text d ++ members_text true ms)) (quoted-line k)
      (all-append in_line (compact_text d) (members_text true ms) (text-line d) (members-line true ms)))
