-- Lists of values that grow at their end.
use Rattle.std.proofs.Common.{◌≡◌, ℕ, ◌+◌, ◌<◌, ◌≤◌, ◌⊎◌, List, [], ◌∷◌, ◌++◌, length, get_or, drop, refl, sym, ap, ◌∙◌, inl, inr, if◌then◌else◌, arith, min}
use Rattle.std.proofs.lemmas.Bool.{cases_order}
use Rattle.std.specs.Prelude.{◌==◌}
use Rattle.std.proofs.lemmas.List.{at_drop_more, at_drop_all}
use Rattle.serde_json.specs.Data.{Items, no_items, item}
use Rattle.serde_json.specs.View.{view, items_view}
use Rattle.serde_json.specs.declared.value.Value.{Value}
use Rattle.qmp_rules.specs.declared.rows.BitmapRow.{BitmapRow}
use Rattle.qmp_rules.specs.Printed.{items_joined}
use Rattle.qmp_rules.specs.Queries.{bitmap_data, bitmap_items}

pub joined_push : (xs : List Value) (v : Value) (rest : Items)
    → items_joined (items_view (xs ++ v ∷ [])) rest ≡ items_joined (items_view xs) (item (view v) rest)
joined_push [] v rest = refl
joined_push (x ∷ xs) v rest = ap (λ ds. item (view x) ds) (joined_push xs v rest)

pub joined_none : (ds : Items) → items_joined ds no_items ≡ ds
joined_none no_items = refl
joined_none (item d ds) = ap (λ rest. item d rest) (joined_none ds)

-- the bitmaps of a node from one row and count on
pub bitmaps_step : (node : ℕ) (rows : List BitmapRow) (counts : List ℕ) (i : ℕ) (row : BitmapRow) (dirty : ℕ)
    → i < length rows → i < length counts → row ≡ get_or rows i row → dirty ≡ get_or counts i dirty
    → bitmap_items node (drop i rows) (drop i counts)
    ≡ (if row.node == node then item (bitmap_data row dirty) (bitmap_items node (drop (i + 1) rows) (drop (i + 1) counts))
    else bitmap_items node (drop (i + 1) rows) (drop (i + 1) counts))
bitmaps_step node rows counts i row dirty less_rows less_counts at_row at_count =
    at_drop_more (λ rs. bitmap_items node rs (drop i counts)) rows i row less_rows
    ∙ ap (λ r. bitmap_items node (r ∷ drop (i + 1) rows) (drop i counts)) (sym at_row)
    ∙ at_drop_more (λ cs. bitmap_items node (row ∷ drop (i + 1) rows) cs) counts i dirty less_counts
    ∙ ap (λ d. bitmap_items node (row ∷ drop (i + 1) rows) (d ∷ drop (i + 1) counts)) (sym at_count)

no_counts : (node : ℕ) (rows : List BitmapRow) → bitmap_items node rows [] ≡ no_items
no_counts node [] = refl
no_counts node (row ∷ rows) = refl

pub bitmaps_end : (node : ℕ) (rows : List BitmapRow) (counts : List ℕ) (i : ℕ) → (length rows ≤ i) ⊎ (length counts ≤ i)
    → bitmap_items node (drop i rows) (drop i counts) ≡ no_items
bitmaps_end node rows counts i (inl past) = at_drop_all (λ rs. bitmap_items node rs (drop i counts)) rows i past
bitmaps_end node rows counts i (inr past) =
    at_drop_all (λ cs. bitmap_items node (drop i rows) cs) counts i past ∙ no_counts node (drop i rows)

-- all have been gone through
pub bitmaps_all : (node : ℕ) (rows : List BitmapRow) (counts : List ℕ) (i : ℕ) → min (length rows) (length counts) ≤ i
    → bitmap_items node (drop i rows) (drop i counts) ≡ no_items
bitmaps_all node rows counts i past = elim (cases_order (length rows) (length counts)) [
  | inl same ↦ bitmaps_end node rows counts i (inl (omega (arith, same, past)))
  | inr differs ↦ elim differs [
    | inl less ↦ bitmaps_end node rows counts i (inl (omega (arith, less, past)))
    | inr more ↦ bitmaps_end node rows counts i (inr (omega (arith, more, past)))
  ]
]

-- the values so far are all, where nothing is left
pub joined_end : (ds rest all : Items) → rest ≡ no_items → items_joined ds rest ≡ all → ds ≡ all
joined_end ds rest all none is = sym (joined_none ds) ∙ ap (λ r. items_joined ds r) (sym none) ∙ is
