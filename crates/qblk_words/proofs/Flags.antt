-- No word of a form begins with `-`.
use Rattle.std.proofs.Common.{◌≡◌, ◌∙◌, ◌==◌, ◌&&◌, ◌<◌, zero, suc, take, arith, ℕ, Bool, true, false, refl, sym, ap, subst, List, [], ◌∷◌, length, codes}
use Rattle.std.specs.Prelude.{not, slice_index, map, nat_lt}
use Rattle.std.specs.List.{list_all, list_any, before_first, position_or_len}
use Rattle.std.specs.Char.{is_ascii_alphabetic}
use Rattle.std.proofs.lemmas.Bool.{eqb-true}
use Rattle.clap.proofs.WalkLemmas.{both}
use Rattle.blk_base.specs.Written.{Written}
use Rattle.qblk_words.specs.Words.{is_flag, none_flags, texts_in, is_file_word, is_player, are_players, player_of, is_guest_name, IsIo, IsRunOf, Cast, format_word}
use Rattle.qblk_words.specs.Reading.{IsNoForm}
use Rattle.qblk_words.specs.declared.words.Format.{Format}
use Rattle.qblk_words.specs.declared.words.Format.TheVariants.{Raw, Qcow2}

third_no : (a b c d : Bool) → (a && b && not c && d) ≡ true → c ≡ false
third_no a b false d e = refl
third_no true true true d e = cc
third_no true false true d e = cc
third_no false b true d e = cc

pub file-plain : (w : List ℕ) → is_file_word w ≡ true → is_flag w ≡ false
file-plain w e = third_no (nat_lt 0 (length w)) (nat_lt (length w) 1024) (is_flag w) (not (list_any (λ b. b == 0) w)) e

-- what stands before the `=` of a word that begins with `-` begins so too
first_taken : (n x : ℕ) (xs : List ℕ) → 0 < n → slice_index (take n (x ∷ xs)) 0 ≡ x
first_taken zero x xs h = absurd (omega arith)
first_taken (suc n) x xs h = refl

dash_first : (xs : List ℕ) → slice_index (before_first (λ b. b == 61) (45 ∷ xs)) 0 ≡ 45
dash_first xs = first_taken (position_or_len (λ b. b == 61) (45 ∷ xs)) 45 xs (omega arith)

no_letter : is_ascii_alphabetic 45 ≡ false
no_letter = refl

letter_plain : (w : List ℕ) → is_ascii_alphabetic (slice_index (before_first (λ b. b == 61) w) 0) ≡ true → is_flag w ≡ false
letter_plain [] e = refl
letter_plain (x ∷ xs) e = go (x == 45) refl
  where
    go : (b : Bool) → (x == 45) ≡ b → (x == 45) ≡ false
    go false is = is
    go true is =
        let same : x ≡ 45 = eqb-true x 45 is in
        let is-letter : is_ascii_alphabetic (slice_index (before_first (λ b. b == 61) (45 ∷ xs)) 0) ≡ true =
        subst (λ (y : ℕ). is_ascii_alphabetic (slice_index (before_first (λ b. b == 61) (y ∷ xs)) 0) ≡ true) same e in
        let bad : false ≡ true = sym (ap is_ascii_alphabetic (dash_first xs) ∙ no_letter) ∙ is-letter in
        cc

player-plain : (w : List ℕ) → is_player w ≡ true → is_flag w ≡ false
player-plain w e = letter_plain w (both _ _ (both _ _ (both _ _ (both _ _ e).1).0).0).0

players-plain : (ws : List (List ℕ)) → list_all is_player ws ≡ true → none_flags ws ≡ true
players-plain [] e = refl
players-plain (w ∷ ws) e =
    let p = both (is_player w) _ e in
    rw (player-plain w p.0) (players-plain ws p.1)

format_plain : (format : Format) → is_flag (format_word format) ≡ false
format_plain Raw = refl
format_plain Qcow2 = refl

pub io-plain : (format : Format) (image trace : List ℕ) → is_file_word image ≡ true → is_file_word trace ≡ true → none_flags (codes "io" ∷ format_word format ∷ image ∷ trace ∷ []) ≡ true
io-plain format image trace i t = rw (format_plain format, file-plain image i, file-plain trace t) refl

pub run-plain : (script : List ℕ) (rest : List (List ℕ)) → is_file_word script ≡ true → are_players rest ≡ true → none_flags (codes "run" ∷ codes "1" ∷ script ∷ rest) ≡ true
run-plain script rest s p = rw (file-plain script s) (players-plain rest (both _ _ (both _ _ p).1).0)

true_no : true ≡ false → ⊥
true_no e = cc

-- words of which one begins with `-` are of no form
pub flags-none : (words : List (List ℕ)) → none_flags words ≡ false → IsNoForm words
flags-none words e = record {
  io = λ format image trace is. true_no (sym (ap none_flags is.form ∙ io-plain format image trace is.image_name is.trace_name) ∙ e);
  run = λ cast is. true_no (sym (ap none_flags is.form ∙ run-plain cast.script is.rest is.script_name is.players) ∙ e);
}

flags_by_text : (words : List Written) → list_all (λ (w : Written). not (is_flag w.bytes)) words ≡ none_flags (texts_in words)
flags_by_text [] = refl
flags_by_text (w ∷ words) = ap (λ (b : Bool). not (is_flag w.bytes) && b) (flags_by_text words)

pub flagged-none : (words : List Written) → list_all (λ (w : Written). not (is_flag w.bytes)) words ≡ false → IsNoForm (texts_in words)
flagged-none words e = flags-none (texts_in words) (sym (flags_by_text words) ∙ e)

pub all-plain : (words : List Written) (lent : List (List ℕ)) → list_all (λ (w : Written). not (is_flag w.bytes)) words ≡ true → lent ≡ texts_in words → none_flags lent ≡ true
all-plain words lent e same = ap none_flags same ∙ (sym (flags_by_text words) ∙ e)
