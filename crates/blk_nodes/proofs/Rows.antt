-- Rows by their places.
use Rattle.std.proofs.Common.{◌≡◌, ℕ, ◌<◌, List, length, get_or, Option, Some, None, refl, sym, ◌∙◌, ap, subst, inl, inr}
use Rattle.std.proofs.lemmas.Bool.{cases_lt}
use Rattle.std.proofs.lemmas.List.{get_or_default, get_or_past}
use Rattle.q2_image.specs.Image.{Known}
use Rattle.blk_nodes.specs.Parts.{OfImage, OfImageBy, row_in}
use Rattle.blk_nodes.specs.declared.row.Driver.{Driver}
use Rattle.blk_nodes.specs.declared.row.Driver.TheVariants.{File, Raw, Qcow2, CopyOnRead, Filter}
use Rattle.blk_nodes.specs.declared.row.Row.{Row}

-- a row that was read at a place
pub row_found : (rows : List (Option Row)) (index node : ℕ) (found : Option Row) → index ≡ node → index < length rows → found ≡ get_or rows index found
    → row_in rows node ≡ found
row_found rows index node found same below is =
    ap (λ (k : ℕ). get_or rows k None) (sym same) ∙ get_or_default rows index None found below ∙ sym is

-- a row that is there has a place
pub row_below : (rows : List (Option Row)) (node : ℕ) (row : Row) → row_in rows node ≡ Some row → node < length rows
row_below rows node row there = elim (cases_lt node (length rows)) [
  | inl below ↦ below
  | inr past ↦ let bad : Some row ≡ None = sym there ∙ get_or_past rows node None past in absurd (cc bad)
]

-- an image in a row
pub image_found : (found : Option Row) (row : Row) (image : Known) (P : Known → Type 0) → found ≡ Some row → row.driver ≡ Qcow2 image → OfImage found P → P image
image_found found row image P there driver holds =
    let in_row : OfImage (Some row) P = subst (λ (f : Option Row). OfImage f P) there holds in
    subst (λ (d : Driver). OfImageBy d P) driver in_row

pub of_image : (found : Option Row) (row : Row) (image : Known) (P : Known → Type 0) → found ≡ Some row → row.driver ≡ Qcow2 image → P image → OfImage found P
of_image found row image P there driver holds =
    subst (λ (f : Option Row). OfImage f P) (sym there) (subst (λ (d : Driver). OfImageBy d P) (sym driver) holds)

image_by : (driver : Driver) (P : Known → Type 0) → OfImageBy driver P → (image : Known) × (driver ≡ Qcow2 image) × P image
image_by File P holds = absurd holds
image_by (Raw part) P holds = absurd holds
image_by (Qcow2 image) P holds = (image, refl, holds)
image_by CopyOnRead P holds = absurd holds
image_by (Filter kind) P holds = absurd holds

-- where a fact of an image holds there is one
pub has_image : (found : Option Row) (P : Known → Type 0) → OfImage found P → (row : Row) × (image : Known) × (found ≡ Some row) × (row.driver ≡ Qcow2 image) × P image
has_image None P holds = absurd holds
has_image (Some row) P holds = let found = image_by row.driver P holds in (row, found.0, refl, found.1, found.2)
