-- Lists of values and members, one by one.
use Rattle.std.proofs.Common.{◌≡◌, ℕ, ◌+◌, ◌<◌, ◌≤◌, List, [], ◌∷◌, ◌++◌, length, get_or, drop, map, refl, sym, ap, ◌∙◌}
use Rattle.std.specs.Borrow.{Bor}
use Rattle.qmp_codec.specs.declared.row.Row.{Row}
use Rattle.qmp_codec.specs.Tables.{named}
use Rattle.qmp_codec.specs.declared.verb.Verb.{Verb}
use Rattle.qmp_codec.specs.Verbs.{verb_row}
use Rattle.std.proofs.lemmas.List.{at_drop_more, at_drop_all}
use Rattle.serde_json.specs.Data.{no_items, item}
use Rattle.serde_json.specs.declared.value.Value.{Value}
use Rattle.serde_json.specs.View.{view, items_view}

-- the items from one on
pub items_step : (xs : List Value) (i : ℕ) (v : Value) → i < length xs → v ≡ get_or xs i v
    → items_view (drop i xs) ≡ item (view v) (items_view (drop (i + 1) xs))
items_step xs i v within is =
    at_drop_more items_view xs i v within ∙ ap (λ x. item (view x) (items_view (drop (i + 1) xs))) (sym is)

pub items_end : (xs : List Value) (i : ℕ) → length xs ≤ i → items_view (drop i xs) ≡ no_items
items_end xs i past = at_drop_all items_view xs i past

-- the rows from one on
pub rows_step : (rows : List (Row (Bor (List ℕ)))) (i : ℕ) (row : Row (Bor (List ℕ))) → i < length rows → row ≡ get_or rows i row
    → map named (drop i rows) ≡ named row ∷ map named (drop (i + 1) rows)
rows_step rows i row within is =
    at_drop_more (map named) rows i row within ∙ ap (λ x. named x ∷ map named (drop (i + 1) rows)) (sym is)

pub rows_end : (rows : List (Row (Bor (List ℕ)))) (i : ℕ) → length rows ≤ i → map named (drop i rows) ≡ []
rows_end rows i past = at_drop_all (map named) rows i past

-- names of commands from one on
pub verbs_step : (rows : List (Bor (List ℕ) × Verb)) (i : ℕ) (row : Bor (List ℕ) × Verb) → i < length rows → row ≡ get_or rows i row
    → map verb_row (drop i rows) ≡ verb_row row ∷ map verb_row (drop (i + 1) rows)
verbs_step rows i row within is =
    at_drop_more (map verb_row) rows i row within ∙ ap (λ x. verb_row x ∷ map verb_row (drop (i + 1) rows)) (sym is)

pub verbs_end : (rows : List (Bor (List ℕ) × Verb)) (i : ℕ) → length rows ≤ i → map verb_row (drop i rows) ≡ []
verbs_end rows i past = at_drop_all (map verb_row) rows i past

-- one more at the end, before what is left
pub map_push : {A B : Type 0} → (f : A → B) (xs : List A) (x : A) (later : List B) → map f (xs ++ x ∷ []) ++ later ≡ map f xs ++ f x ∷ later
map_push f [] x later = refl
map_push f (y ∷ xs) x later = ap (λ ys. f y ∷ ys) (map_push f xs x later)
