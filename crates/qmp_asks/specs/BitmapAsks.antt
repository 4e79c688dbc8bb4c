-- What the commands on bitmaps ask.
use Rattle.std.specs.Prelude.{ℕ, List, [], ◌∷◌, ◌++◌, codes, Some}
use Rattle.qmp_codec.specs.declared.bitmaps.BitmapAdd.{BitmapAdd}
use Rattle.qmp_codec.specs.declared.bitmaps.BitmapName.{BitmapName}
use Rattle.qmp_codec.specs.declared.bitmaps.BitmapMerge.{BitmapMerge}
use Rattle.qmp_codec.specs.declared.bitmaps.MergeSource.{MergeSource}
use Rattle.qmp_codec.specs.declared.bitmaps.MergeSource.TheVariants as source
use Rattle.qmp_codec.specs.Commands.{SeenSources}
use Rattle.qmp_asks.specs.declared.ask.Ask.TheVariants.{Good, Named, Found, BitmapFound, FreshBitmap, RoomForBitmap, BitmapFree, SameSize}
use Rattle.qmp_asks.specs.Asking.{Asking}
use Rattle.qmp_asks.specs.Values.{is_granularity, is_false}

-- ---- block-dirty-bitmap-add

abbrev pub bitmap_add_values : BitmapAdd (List ℕ) → List Asking
bitmap_add_values c =
    Good (codes "granularity") (is_granularity c.granularity)
    ∷ Good (codes "persistent") (is_false c.persistent) ∷ []

abbrev pub bitmap_add_names : BitmapAdd (List ℕ) → List Asking
bitmap_add_names c = Named (codes "node") (Some c.node) ∷ Named (codes "name") (Some c.name) ∷ []

abbrev pub bitmap_add_rest : BitmapAdd (List ℕ) → List Asking
bitmap_add_rest c = Found (Some c.node) ∷ FreshBitmap c.node c.name ∷ RoomForBitmap ∷ []

-- ---- those that change one bitmap

abbrev pub bitmap_names : BitmapName (List ℕ) → List Asking
bitmap_names c = Named (codes "node") (Some c.node) ∷ Named (codes "name") (Some c.name) ∷ []

abbrev pub bitmap_rest : BitmapName (List ℕ) → List Asking
bitmap_rest c =
    Found (Some c.node) ∷ BitmapFound c.node (Some c.name) ∷ BitmapFree c.node (Some c.name) ∷ []

-- ---- block-dirty-bitmap-merge

-- a source's node and name: that of the command, where it names none
abbrev pub source_node : List ℕ → MergeSource (List ℕ) → List ℕ
source_node node (source.Name name) = node
source_node node (source.Of bitmap) = bitmap.node

abbrev pub source_name : MergeSource (List ℕ) → List ℕ
source_name (source.Name name) = name
source_name (source.Of bitmap) = bitmap.name

abbrev pub source_names : MergeSource (List ℕ) → List Asking
source_names (source.Name name) = Named (codes "bitmaps") (Some name) ∷ []
source_names (source.Of bitmap) = bitmap_names bitmap

abbrev pub all_source_names : SeenSources → List Asking
all_source_names [] = []
all_source_names (s ∷ sources) = source_names s ++ all_source_names sources

abbrev pub sources_found : List ℕ → SeenSources → List Asking
sources_found node [] = []
sources_found node (s ∷ sources) =
    Found (Some (source_node node s)) ∷ BitmapFound (source_node node s) (Some (source_name s))
    ∷ sources_found node sources

abbrev pub sources_free : List ℕ → SeenSources → List Asking
sources_free node [] = []
sources_free node (s ∷ sources) =
    BitmapFree (source_node node s) (Some (source_name s)) ∷ sources_free node sources

abbrev pub sources_equal : List ℕ → SeenSources → List Asking
sources_equal node [] = []
sources_equal node (s ∷ sources) = SameSize node (source_node node s) ∷ sources_equal node sources

abbrev pub merge_names : BitmapMerge (List ℕ) SeenSources → List Asking
merge_names c =
    Named (codes "node") (Some c.node) ∷ Named (codes "target") (Some c.target)
    ∷ all_source_names c.bitmaps

abbrev pub merge_rest : BitmapMerge (List ℕ) SeenSources → List Asking
merge_rest c =
    Found (Some c.node) ∷ BitmapFound c.node (Some c.target) ∷ sources_found c.node c.bitmaps
    ++ BitmapFree c.node (Some c.target) ∷ sources_free c.node c.bitmaps
    ++ sources_equal c.node c.bitmaps
