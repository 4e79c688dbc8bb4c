-- The commands on bitmaps.
use Rattle.std.specs.Prelude.{ℕ, List, [], ◌∷◌, codes, Option, Some, String, string_bytes, Vec, map}
use Rattle.std.specs.declared.alloc.Global.{Global}
use Rattle.serde_json.specs.Data.{Data, string, array, Items, no_items, item}
use Rattle.serde_json.specs.Find.{get}
use Rattle.qmp_codec.specs.Forms.{text_in}
use Rattle.qmp_codec.specs.Fields.{flag_if, amount_if}
use Rattle.qmp_codec.specs.declared.bitmaps.BitmapAdd.{BitmapAdd}
use Rattle.qmp_codec.specs.declared.bitmaps.BitmapName.{BitmapName}
use Rattle.qmp_codec.specs.declared.bitmaps.MergeSource.{MergeSource}
use Rattle.qmp_codec.specs.declared.bitmaps.BitmapMerge.{BitmapMerge}
use Rattle.qmp_codec.specs.declared.bitmaps.MergeSource.TheVariants as source

abbrev pub bitmap_add_in : Data → BitmapAdd (List ℕ)
bitmap_add_in d = record {
  node = text_in (codes "node") d;
  name = text_in (codes "name") d;
  granularity = amount_if (codes "granularity") d;
  persistent = flag_if (codes "persistent") d;
  disabled = flag_if (codes "disabled") d;
}

abbrev pub seen_bitmap_add : BitmapAdd (String Global) → BitmapAdd (List ℕ)
seen_bitmap_add c = record {
  node = string_bytes c.node;
  name = string_bytes c.name;
  granularity = c.granularity;
  persistent = c.persistent;
  disabled = c.disabled;
}

abbrev pub bitmap_name_in : Data → BitmapName (List ℕ)
bitmap_name_in d = record {
  node = text_in (codes "node") d;
  name = text_in (codes "name") d;
}

abbrev pub seen_bitmap_name : BitmapName (String Global) → BitmapName (List ℕ)
seen_bitmap_name c = record {
  node = string_bytes c.node;
  name = string_bytes c.name;
}

-- a bitmap of the command's node by its name, or with its node
abbrev pub bitmap_source_in : Data → MergeSource (List ℕ)
bitmap_source_in (string name) = source.Name name
bitmap_source_in d = source.Of (bitmap_name_in d)

abbrev pub sources_of : Items → List (MergeSource (List ℕ))
sources_of no_items = []
sources_of (item d ds) = bitmap_source_in d ∷ sources_of ds

abbrev pub sources_or : Option Data → List (MergeSource (List ℕ))
sources_or (Some (array ds)) = sources_of ds
sources_or _ = []

abbrev pub seen_source : MergeSource (String Global) → MergeSource (List ℕ)
seen_source (source.Name name) = source.Name (string_bytes name)
seen_source (source.Of bitmap) = source.Of (seen_bitmap_name bitmap)

abbrev pub bitmap_merge_in : Data → BitmapMerge (List ℕ) (List (MergeSource (List ℕ)))
bitmap_merge_in d = record {
  node = text_in (codes "node") d;
  target = text_in (codes "target") d;
  bitmaps = sources_or (get (codes "bitmaps") d);
}

abbrev pub seen_bitmap_merge :
    BitmapMerge (String Global) (Vec (MergeSource (String Global)) Global)
    → BitmapMerge (List ℕ) (List (MergeSource (List ℕ)))
seen_bitmap_merge c = record {
  node = string_bytes c.node;
  target = string_bytes c.target;
  bitmaps = map seen_source c.bitmaps.items;
}
