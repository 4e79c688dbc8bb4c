-- An image that was opened is the file's.
use Rattle.std.proofs.Common.{◌≡◌, ℕ, ◌≤◌, min, max, List, length, take, None, Result, Ok, Err, IfOk, sym, subst, ◌∙◌, arith}
use Rattle.std.proofs.lemmas.List.{get_or-take, length-take}
use Rattle.q2_format.specs.Sizes.{cluster_size}
use Rattle.q2_format.specs.Header.{header_of}
use Rattle.q2_format.specs.Tables.{active_tree, refcount_table}
use Rattle.q2_format.specs.References.{cluster_bound, reach_of}
use Rattle.q2_format.specs.Sound.{image_refusal}
use Rattle.q2_format.specs.declared.header.Header.{Header}
use Rattle.q2_refs.specs.Kept.{IsCountsOf}
use Rattle.q2_refs.specs.Kept as refs
use Rattle.q2_tables.specs.Kept.{IsTreeOf}
use Rattle.q2_tables.specs.Kept as tables
use Rattle.q2_image.specs.declared.stop.ImageStop.{ImageStop}
use Rattle.q2_image.specs.Opening.{Judges, Names, header_stops, place_stops, overlap_stop, uses_in}
use Rattle.q2_image.specs.Loading.{table_stops, counts_loaded, HasCounts, IsReadFrom}
use Rattle.q2_image.specs.Placed.{kept_stops}
use Rattle.q2_image.specs.Image.{Known, IsImageOf}
use Rattle.q2_image.proofs.Opened.{header_names, place_names, word_names, overlap_of_image, last_names, is_sound}

-- what is so of a file's header, its tables' places and words, up to their last refusals
pub record IsLoadedFrom (file : List ℕ) (h : Header) (len : ℕ) (r : refs.KeptRefs) (t : tables.KeptTables) : Type 0 where
  size : len ≡ length file
  header : header_of file ≡ h
  headers : header_stops file len ≡ None
  places : place_stops h len ≡ None
  words : table_stops h len (refcount_table file h) (active_tree file h) ≡ None
  counts : IsCountsOf file h r
  tree : IsTreeOf (cluster_size h.cluster_bits) t (active_tree file h)
  room : cluster_bound h len ≤ length r.counts

-- what a device told of a file, whose size was asked for before
pub read_from : (file : List ℕ) (h : Header) (first then : ℕ) (table : List ℕ) (t : tables.KeptTables) → then ≡ first → first ≡ length file → header_of file ≡ h → header_stops file first ≡ None
    → table_stops h then (refcount_table file h) (active_tree file h) ≡ None → table ≡ refcount_table file h → IsTreeOf (cluster_size h.cluster_bits) t (active_tree file h) → IsReadFrom file h table t
read_from file h first then table t same size header headers words is tree =
    let H : ℕ → Type 0 = λ n. header_stops file n ≡ None in
    let W : ℕ → Type 0 = λ n. table_stops h n (refcount_table file h) (active_tree file h) ≡ None in
    record { header = header; headers = subst H size headers; stops = subst W (same ∙ size) words; same = is; tree = tree }

pub loaded_from : (file : List ℕ) (h : Header) (len size : ℕ) (table : List ℕ) (r : refs.KeptRefs) (t : tables.KeptTables) → len ≡ size → size ≡ length file → place_stops h size ≡ None
    → IsReadFrom file h table t → IsCountsOf file h r → HasCounts h size (counts_loaded h size) r → IsLoadedFrom file h len r t
loaded_from file h len size table r t asked whole places read counts has =
    let H : ℕ → Type 0 = λ n. header_stops file n ≡ None in
    let P : ℕ → Type 0 = λ n. place_stops h n ≡ None in
    let W : ℕ → Type 0 = λ n. table_stops h n (refcount_table file h) (active_tree file h) ≡ None in
    let C : ℕ → Type 0 = λ n. length r.counts ≡ counts_loaded h n in
    let all : length r.counts ≡ max (cluster_bound h len) (reach_of h len) = subst C (sym asked) has.reach in
    let bound : ℕ = cluster_bound h len in
    let reach : ℕ = reach_of h len in
    let fits : bound ≤ max bound reach = omega arith in
    record {
      size = asked ∙ whole;
      header = read.header;
      headers = subst H (sym (asked ∙ whole)) read.headers;
      places = subst P (sym asked) places;
      words = subst W (sym (asked ∙ whole)) read.stops;
      counts = counts;
      tree = read.tree;
      room = rw all fits;
    }

-- a cluster that is named twice, by the words that were read
pub overlap_named : (file : List ℕ) (h : Header) (len size : ℕ) (table : List ℕ) (t : tables.KeptTables) (stop : ImageStop) → len ≡ size → size ≡ length file → place_stops h size ≡ None
    → IsReadFrom file h table t → Names (overlap_stop (uses_in h table t.l1 t.words) (cluster_bound h len)) stop → Names (image_refusal file) stop
overlap_named file h len size table t stop asked whole places read is =
    let P : ℕ → Type 0 = λ n. place_stops h n ≡ None in
    let O : ℕ → Type 0 = λ n. Names (overlap_stop (uses_in h table t.l1 t.words) (cluster_bound h n)) stop in
    overlap_of_image file h table t stop read.header read.headers (subst P whole places) read.stops read.same read.tree (subst O (asked ∙ whole) is)

pub header_named : (file : List ℕ) (len : ℕ) (stop : ImageStop) → len ≡ length file → Names (header_stops file len) stop → Names (image_refusal file) stop
header_named file len stop size is = let P : ℕ → Type 0 = λ n. Names (header_stops file n) stop in header_names file stop (subst P size is)

pub place_named : (file : List ℕ) (h : Header) (len : ℕ) (stop : ImageStop) → len ≡ length file → header_of file ≡ h → header_stops file len ≡ None
    → Names (place_stops h len) stop → Names (image_refusal file) stop
place_named file h len stop size same header is =
    let P : ℕ → Type 0 = λ n. (header_stops file n ≡ None) × Names (place_stops h n) stop in
    let at = subst P size (header, is) in
    place_names file h stop same at.0 at.1

pub word_named : (file : List ℕ) (h : Header) (len : ℕ) (stop : ImageStop) → len ≡ length file → header_of file ≡ h → header_stops file len ≡ None
    → place_stops h len ≡ None → Names (table_stops h len (refcount_table file h) (active_tree file h)) stop → Names (image_refusal file) stop
word_named file h len stop size same header places is =
    let P : ℕ → Type 0 = λ n. (header_stops file n ≡ None) × (place_stops h n ≡ None) × Names (table_stops h n (refcount_table file h) (active_tree file h)) stop in
    let at = subst P size (header, places, is) in
    word_names file h stop same at.0 at.1 at.2

abbrev AtEnd : List ℕ → Header → refs.KeptRefs → tables.KeptTables → ℕ → Type 0
AtEnd file h r t n = (header_stops file n ≡ None) × (place_stops h n ≡ None) × (table_stops h n (refcount_table file h) (active_tree file h) ≡ None) × (cluster_bound h n ≤ length r.counts)

at_end : (file : List ℕ) (h : Header) (len : ℕ) (r : refs.KeptRefs) (t : tables.KeptTables) → IsLoadedFrom file h len r t → AtEnd file h r t (length file)
at_end file h len r t from = let P : ℕ → Type 0 = AtEnd file h r t in subst P from.size (from.headers, from.places, from.words, from.room)

-- the refusal of a file, by the last stage's answer
pub last_judged : {A : Type 0} (file : List ℕ) (h : Header) (len : ℕ) (r : refs.KeptRefs) (t : tables.KeptTables) (result : Result A ImageStop) → IsLoadedFrom file h len r t
    → Judges (kept_stops h len r t) result → Judges (image_refusal file) result
last_judged file h len r t (Ok image) from none =
    let at = at_end file h len r t from in
    let P : ℕ → Type 0 = λ n. kept_stops h n r t ≡ None in
    is_sound file h r t from.header at.0 at.1 at.2 from.counts from.tree at.3 (subst P from.size none)
last_judged file h len r t (Err stop) from is =
    let at = at_end file h len r t from in
    let P : ℕ → Type 0 = λ n. Names (kept_stops h n r t) stop in
    last_names file h r t stop from.header at.0 at.1 at.2 from.counts from.tree at.3 (subst P from.size is)

-- fewer counts are still the file's
fewer_counts : (file : List ℕ) (h : Header) (r : refs.KeptRefs) (n : ℕ) → IsCountsOf file h r → IsCountsOf file h (record r { counts = take n r.counts })
fewer_counts file h r n counts = record {
  shape = record { cluster_bits = counts.shape.cluster_bits; refcount_order = counts.shape.refcount_order; table_offset = counts.shape.table_offset };
  table = counts.table;
  counts = λ k below. let len = length-take n r.counts in get_or-take n r.counts k 0 (omega arith) ∙ counts.counts k (omega arith);
}

-- the image of what was loaded
abbrev pub image_with : Header → ℕ → refs.KeptRefs → tables.KeptTables → Known
image_with h len r t = record { header = h; tables = t; refs = record r { counts = take (reach_of h len) r.counts } }

pub is_image : (file : List ℕ) (h : Header) (len : ℕ) (r : refs.KeptRefs) (t : tables.KeptTables) → IsLoadedFrom file h len r t → kept_stops h len r t ≡ None → IsImageOf file (image_with h len r t)
is_image file h len r t from none =
    let at = at_end file h len r t from in
    let P : ℕ → Type 0 = λ n. kept_stops h n r t ≡ None in
    record {
      sound = is_sound file h r t from.header at.0 at.1 at.2 from.counts from.tree at.3 (subst P from.size none);
      header = from.header;
      tables = from.tree;
      refs = fewer_counts file h r (reach_of h len) from.counts;
    }

pub ok_image : {T : List ℕ → Type 0} (h : Header) (len : ℕ) (r : refs.KeptRefs) (t : tables.KeptTables) (result : Result Known ImageStop)
    → ((file : List ℕ) → T file → IsLoadedFrom file h len r t) → Judges (kept_stops h len r t) result → IfOk result (λ image. image ≡ image_with h len r t)
    → IfOk result (λ image. (file : List ℕ) → T file → IsImageOf file image)
ok_image h len r t (Ok image) from none is = λ file told. let P : Known → Type 0 = λ k. IsImageOf file k in subst P (sym is) (is_image file h len r t (from file told) none)
ok_image h len r t (Err stop) from none is = tt

pub ok_reach : (h : Header) (len : ℕ) (r : refs.KeptRefs) (t : tables.KeptTables) (result : Result Known ImageStop) → length r.counts ≡ counts_loaded h len
    → IfOk result (λ image. image ≡ image_with h len r t) → IfOk result (λ image. length image.refs.counts ≡ reach_of image.header len)
ok_reach h len r t (Ok image) count is =
    let P : Known → Type 0 = λ k. length k.refs.counts ≡ reach_of k.header len in
    let taken = length-take (reach_of h len) r.counts in
    let n : ℕ = reach_of h len in
    let m : ℕ = cluster_bound h len in
    let whole : length r.counts ≡ max m n = count in
    let cut : length (take n r.counts) ≡ min n (length r.counts) = taken in
    subst P (sym is) (omega arith)
ok_reach h len r t (Err stop) count is = tt

-- what was said of a device before is so of it now
pub ok_told : {T U : List ℕ → Type 0} (result : Result Known ImageStop) → ((file : List ℕ) → T file → U file)
    → IfOk result (λ image. (file : List ℕ) → U file → IsImageOf file image) → IfOk result (λ image. (file : List ℕ) → T file → IsImageOf file image)
ok_told (Ok image) same is = λ file told. is file (same file told)
ok_told (Err stop) same is = tt

pub ok_reach_at : (result : Result Known ImageStop) (n m : ℕ) → n ≡ m → IfOk result (λ image. length image.refs.counts ≡ reach_of image.header n)
    → IfOk result (λ image. length image.refs.counts ≡ reach_of image.header m)
ok_reach_at result n m same is = let P : ℕ → Type 0 = λ k. IfOk result (λ image. length image.refs.counts ≡ reach_of image.header k) in subst P same is
