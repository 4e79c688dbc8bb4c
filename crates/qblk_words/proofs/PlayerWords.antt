-- The words of a run, and no others.
use Rattle.std.proofs.Common.{◌≡◌, ℕ, ◌+◌, ◌-◌, ◌<◌, ◌≤◌, Bool, true, false, leb, List, [], ◌∷◌, length, get_or, take, drop, refl, sym, ap, ◌∙◌, arith}
use Rattle.std.specs.Prelude.{map, codes, bytes_eq, ◌||◌, ◌&&◌}
use Rattle.std.specs.List.{list_any, list_all}
use Rattle.std.proofs.lemmas.List.{drop_more, drop_all, take_all, length-map}
use Rattle.std.proofs.lemmas.List.Folds.{list_all-map}
use Rattle.std.proofs.lemmas.Slice.Eq.{bytes_eq-Decides}
use Rattle.blk_base.specs.Written.{Written}
use Rattle.qblk_words.specs.Words.{texts_in, is_file_word, player_of, player_names, all_differ, is_player, are_players}

-- a guest is among those that words name
pub names_it : (name : List ℕ) (words : List Written)
    → list_any (λ other. bytes_eq name other) (player_names (map player_of (texts_in words))) ≡ list_any (λ w. bytes_eq name (player_of w.bytes).name) words
names_it name [] = refl
names_it name (w ∷ words) = ap (λ b. bytes_eq name (player_of w.bytes).name || b) (names_it name words)

-- words of which the first names a guest that is among the others, or that is not
pub differ_no : (w : Written) (words : List Written) → list_any (λ v. bytes_eq (player_of w.bytes).name (player_of v.bytes).name) words ≡ true
    → all_differ (player_names (map player_of (texts_in (w ∷ words)))) ≡ false
differ_no w words is = rw (names_it (player_of w.bytes).name words, is) refl

pub differ_on : (w : Written) (words : List Written) → list_any (λ v. bytes_eq (player_of w.bytes).name (player_of v.bytes).name) words ≡ false
    → all_differ (player_names (map player_of (texts_in (w ∷ words)))) ≡ all_differ (player_names (map player_of (texts_in words)))
differ_on w words is = rw (names_it (player_of w.bytes).name words, is) refl

-- the words from one on
pub players_from : (words : List Written) (i : ℕ) (w : Written) → i < length words → w ≡ get_or words i w
    → map player_of (texts_in (drop i words)) ≡ player_of w.bytes ∷ map player_of (texts_in (drop (i + 1) words))
players_from words i w below is = rw (drop_more words i w below, ← is) refl

pub players_none : (words : List Written) (i : ℕ) → length words ≤ i → map player_of (texts_in (drop i words)) ≡ []
players_none words i le = rw (drop_all i words le) refl

-- ---- the tests of a run's words

pub players_many : (words : List Written) → 16 < length words → false ≡ are_players (texts_in words)
players_many words h =
    let many : leb (length (texts_in words)) 16 ≡ false = grind (arith, length-map words (λ (w : Written). w.bytes), h) in
    rw many refl

pub players_other : (words : List Written) → false ≡ list_all (λ w. is_player w.bytes) words → false ≡ are_players (texts_in words)
players_other words h =
    let other : list_all is_player (texts_in words) ≡ false = list_all-map is_player (λ (w : Written). w.bytes) words ∙ sym h in
    rw other (sym (right-false (leb (length (texts_in words)) 16)))
  where
    right-false : (b : Bool) → (b && false) ≡ false
    right-false true = refl
    right-false false = refl

pub players_all : (words : List Written) → length words ≤ 16 → true ≡ list_all (λ w. is_player w.bytes) words
    → all_differ (player_names (map player_of (texts_in words))) ≡ are_players (texts_in words)
players_all words le h =
    let few : leb (length (texts_in words)) 16 ≡ true = grind (arith, length-map words (λ (w : Written). w.bytes), le) in
    let all : list_all is_player (texts_in words) ≡ true = list_all-map is_player (λ (w : Written). w.bytes) words ∙ sym h in
    rw (few, all) refl

-- ---- patterns

pub first_rest : (ws : List Written) (w : Written) → 1 ≤ length ws → w ≡ get_or ws 0 w → ws ≡ w ∷ take (length ws - 1) (drop 1 ws)
first_rest [] w h is = absurd (omega arith)
first_rest (x ∷ ws) w h is = rw is (ap (λ r. x ∷ r) (sym (take_all (length (x ∷ ws) - 1) ws (omega arith))))
