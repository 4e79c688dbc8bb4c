-- The first refusal of an image, by its stages.
use Rattle.std.proofs.Common.{◌≡◌, ℕ, ◌%◌, ◌*◌, ◌<◌, ◌≤◌, ◌≢◌, Bool, true, false, not, ◌&&◌, ◌||◌, eqb, ltb, List, [], ◌∷◌, ◌++◌, length, take, get_or, max, Option, Some, None, IfSome, refl, sym, ap, subst, ◌∙◌, arith, eq-eqb, lt-ltb}
use Rattle.std.specs.Option.{option_map}
use Rattle.std.proofs.lemmas.Bool.Decides.{nat_tests}
use Rattle.std.proofs.lemmas.Grind.{div_ceil_times}
use Rattle.std.proofs.lemmas.List.{get_or-take, length-take}
use Rattle.q2_format.specs.Sizes.{cluster_size, l1_entries_for, block_entries}
use Rattle.q2_format.specs.Entry.{host_offset, block_offset}
use Rattle.q2_format.specs.Header.{LiesWithin, CanBeRead, first, refused_where, header_of, IsWithinLimits}
use Rattle.q2_format.specs.Tables.{active_tree, refcount_table, refcount_of}
use Rattle.q2_format.specs.References.{uses, structure_uses, cluster_bound, reach_of, own_offset}
use Rattle.q2_format.specs.Sound.{Refusal, IsSound, image_refusal, table_refusals, overlap, uncounted, lowest, is_header_full, is_misplaced, bad_refcount_table, bad_l1_table, bad_block, bad_l2_table, bad_host, reserved_in_l1, reserved_in_l2, reserved_in_refcount_table, compressed_cluster}
use Rattle.q2_format.specs.Sound as sound
use Rattle.q2_format.specs.declared.header.Header.{Header}
use Rattle.q2_format.specs.declared.header.Place.{Place}
use Rattle.q2_format.proofs.Firsts.{lowest_alike, lowest-none, first-none, option_map-none, refused_where-none}
use Rattle.q2_refs.specs.Kept.{IsCountsOf}
use Rattle.q2_refs.specs.Kept as refs
use Rattle.q2_refs.specs.Loading.{table_entries, refcounts_refusal}
use Rattle.q2_refs.proofs.Shapes.{blocks_whole, blocks_below}
use Rattle.q2_tables.specs.Kept.{IsTreeOf}
use Rattle.q2_tables.specs.Kept as tables
use Rattle.q2_tables.specs.Loading.{IsLoaded}
use Rattle.q2_tables.proofs.Uses.{tree_uses_of}
use Rattle.q2_image.specs.declared.stop.ImageStop.{ImageStop}
use Rattle.q2_image.specs.Opening.{Names, refusal_of, header_stops, place_stops, names_stops, overlap_stop, uncounted_stop, uses_in, ArePlaced}
use Rattle.q2_image.specs.Loading.{table_stops, HasCounts, counts_loaded}
use Rattle.q2_image.specs.Image.{IsOpen}
use Rattle.q2_image.proofs.Counted.{both_placed, some_cluster}
use Rattle.q2_image.proofs.NameRoom.{list_ends}
use Rattle.q2_image.proofs.Order.{names_head}

-- one refusal, or the next
abbrev pub or_else : Option Refusal → Option Refusal → Option Refusal
or_else None next = next
or_else (Some r) next = Some r

first-append : (xs ys : List (Option Refusal)) → first (xs ++ ys) ≡ or_else (first xs) (first ys)
first-append [] ys = refl
first-append (None ∷ xs) ys = first-append xs ys
first-append (Some r ∷ xs) ys = refl

-- the refusals behind the tables' words, straight from the file
abbrev names_of : List ℕ → Header → ℕ → Option Refusal
names_of file h len = first (option_map sound.Overlap (overlap file h len) ∷ option_map sound.Refcount (uncounted file h len) ∷ refused_where (is_header_full h) sound.HeaderFull ∷ [])

place_list : Header → ℕ → List (Option Refusal)
place_list h len = option_map sound.Offset (bad_refcount_table h len) ∷ option_map sound.Offset (bad_l1_table h len) ∷ []

tables_by_stages : (file : List ℕ) (h : Header) (len : ℕ)
    → first (table_refusals file h len) ≡ or_else (place_stops h len) (or_else (table_stops h len (refcount_table file h) (active_tree file h)) (names_of file h len))
unfolding table_refusals table_stops place_list
tables_by_stages file h len =
    let c : ℕ = cluster_size h.cluster_bits in
    let words : List (Option Refusal) = option_map sound.Offset (bad_block c len (refcount_table file h))
    ∷ option_map sound.Offset (bad_l2_table c len (active_tree file h))
    ∷ option_map sound.Offset (bad_host c len (active_tree file h))
    ∷ option_map (sound.Reserved h.l1_offset) (reserved_in_l1 (active_tree file h))
    ∷ option_map (sound.Reserved h.ref_offset) (reserved_in_refcount_table (refcount_table file h))
    ∷ option_map (λ entry. sound.Reserved entry.0 entry.1) (reserved_in_l2 c (active_tree file h))
    ∷ option_map sound.Compressed (compressed_cluster c (active_tree file h))
    ∷ [] in
    let names : List (Option Refusal) = option_map sound.Overlap (overlap file h len) ∷ option_map sound.Refcount (uncounted file h len) ∷ refused_where (is_header_full h) sound.HeaderFull ∷ [] in
    first-append (place_list h len) (words ++ names) ∙ ap (or_else (first (place_list h len))) (first-append words names)

image_by_stages : (file : List ℕ)
    → image_refusal file ≡ or_else (header_stops file (length file)) (or_else (place_stops (header_of file) (length file))
    (or_else (table_stops (header_of file) (length file) (refcount_table file (header_of file)) (active_tree file (header_of file))) (names_of file (header_of file) (length file))))
unfolding image_refusal
image_by_stages file = two (header_stops file (length file)) (first (table_refusals file (header_of file) (length file)))
    ∙ ap (or_else (header_stops file (length file))) (tables_by_stages file (header_of file) (length file))
  where
    two : (a b : Option Refusal) → first (a ∷ b ∷ []) ≡ or_else a b
    two None None = refl
    two None (Some r) = refl
    two (Some r) b = refl

-- where the words that were read are a file's, they name what the file names
same_uses_by : (file : List ℕ) (h : Header) (table : List ℕ) (t : tables.KeptTables) (k : ℕ) → table ≡ refcount_table file h → IsTreeOf (cluster_size h.cluster_bits) t (active_tree file h)
    → uses file h k ≡ uses_in h table t.l1 t.words k
unfolding uses
same_uses_by file h table t k is tree =
    let words = tree_uses_of file (cluster_size h.cluster_bits) h.l1_offset h.l1_size k t tree in
    let structure = ap (λ (xs : List ℕ). structure_uses h xs k) is in
    omega arith

pub same_uses : (file : List ℕ) (h : Header) (r : refs.KeptRefs) (t : tables.KeptTables) (k : ℕ) → IsCountsOf file h r → IsTreeOf (cluster_size h.cluster_bits) t (active_tree file h)
    → uses file h k ≡ uses_in h r.table t.l1 t.words k
same_uses file h r t k counts tree = same_uses_by file h r.table t k counts.table tree

overlap_of_file : (file : List ℕ) (h : Header) (len : ℕ) (table : List ℕ) (t : tables.KeptTables) → table ≡ refcount_table file h → IsTreeOf (cluster_size h.cluster_bits) t (active_tree file h)
    → overlap_stop (uses_in h table t.l1 t.words) (cluster_bound h len) ≡ option_map sound.Overlap (overlap file h len)
unfolding overlap
overlap_of_file file h len table t is tree =
    let n : ℕ = cluster_bound h len in
    let u : ℕ → ℕ = uses_in h table t.l1 t.words in
    let twice : lowest (λ k. ltb 1 (u k)) n ≡ lowest (λ k. ltb 1 (uses file h k)) n =
    lowest_alike (λ k. ltb 1 (u k)) (λ k. ltb 1 (uses file h k)) n (λ k below. ap (ltb 1) (sym (same_uses_by file h table t k is tree))) in
    rw twice refl

names_of_file : (file : List ℕ) (h : Header) (len : ℕ) (r : refs.KeptRefs) (t : tables.KeptTables) → IsCountsOf file h r → IsTreeOf (cluster_size h.cluster_bits) t (active_tree file h)
    → cluster_bound h len ≤ length r.counts
    → names_stops h (uses_in h r.table t.l1 t.words) r.counts (cluster_bound h len) ≡ names_of file h len
unfolding overlap uncounted
names_of_file file h len r t counts tree room =
    let n : ℕ = cluster_bound h len in
    let u : ℕ → ℕ = uses_in h r.table t.l1 t.words in
    let twice : lowest (λ k. ltb 1 (u k)) n ≡ lowest (λ k. ltb 1 (uses file h k)) n =
    lowest_alike (λ k. ltb 1 (u k)) (λ k. ltb 1 (uses file h k)) n (λ k below. ap (ltb 1) (sym (same_uses file h r t k counts tree))) in
    let bare : lowest (λ k. not (eqb (u k) 0) && eqb (get_or r.counts k 0) 0) n ≡ lowest (λ k. not (eqb (uses file h k) 0) && eqb (refcount_of file h k) 0) n =
    lowest_alike (λ k. not (eqb (u k) 0) && eqb (get_or r.counts k 0) 0) (λ k. not (eqb (uses file h k) 0) && eqb (refcount_of file h k) 0) n
    (λ k below. let same = same_uses file h r t k counts tree in let count = counts.counts k (omega arith) in rw (same, count) refl) in
    rw (twice, bare) refl

-- a stop that names the first refusal of a stage, where the stages before it have none
named_by : (a b : Option Refusal) (stop : ImageStop) → a ≡ b → Names b stop → Names a stop
named_by a b stop same is = rw same is

first_stage : (a b : Option Refusal) (named : Option Refusal) → IfSome named (λ n. a ≡ Some n) → IfSome named (λ n. or_else a b ≡ Some n)
first_stage a b None is = tt
first_stage a b (Some n) is = rw is refl

pub header_names : (file : List ℕ) (stop : ImageStop) → Names (header_stops file (length file)) stop → Names (image_refusal file) stop
header_names file stop is = named_by _ _ stop (image_by_stages file) (first_stage (header_stops file (length file)) _ (refusal_of stop) is)

pub place_names : (file : List ℕ) (h : Header) (stop : ImageStop) → header_of file ≡ h → header_stops file (length file) ≡ None
    → Names (place_stops h (length file)) stop → Names (image_refusal file) stop
place_names file h stop same header is =
    let P : Header → Type 0 = λ x. Names (place_stops x (length file)) stop in
    let here = first_stage (place_stops (header_of file) (length file)) _ (refusal_of stop) (subst P (sym same) is) in
    named_by _ _ stop (image_by_stages file) (rw header here)

pub word_names : (file : List ℕ) (h : Header) (stop : ImageStop) → header_of file ≡ h → header_stops file (length file) ≡ None
    → place_stops h (length file) ≡ None → Names (table_stops h (length file) (refcount_table file h) (active_tree file h)) stop → Names (image_refusal file) stop
word_names file h stop same header places is =
    let P : Header → Type 0 = λ x. (place_stops x (length file) ≡ None) × Names (table_stops x (length file) (refcount_table file x) (active_tree file x)) stop in
    let both = subst P (sym same) (places, is) in
    let here = first_stage (table_stops (header_of file) (length file) (refcount_table file (header_of file)) (active_tree file (header_of file))) _ (refusal_of stop) both.1 in
    let placed = both.0 in
    named_by _ _ stop (image_by_stages file) (rw (header, placed) here)

-- all stages but the last have none
last_stage : (file : List ℕ) (h : Header) → header_of file ≡ h → header_stops file (length file) ≡ None → place_stops h (length file) ≡ None
    → table_stops h (length file) (refcount_table file h) (active_tree file h) ≡ None → image_refusal file ≡ names_of file h (length file)
last_stage file h same header places words =
    let P : Header → Type 0 = λ x. (place_stops x (length file) ≡ None) × (table_stops x (length file) (refcount_table file x) (active_tree file x) ≡ None) in
    let both = subst P (sym same) (places, words) in
    let placed = both.0 in
    let plain = both.1 in
    image_by_stages file ∙ rw (header, placed, plain) (ap (λ (x : Header). names_of file x (length file)) same)

-- what is named twice is judged before any refcount is known
pub overlap_of_image : (file : List ℕ) (h : Header) (table : List ℕ) (t : tables.KeptTables) (stop : ImageStop) → header_of file ≡ h → header_stops file (length file) ≡ None
    → place_stops h (length file) ≡ None → table_stops h (length file) (refcount_table file h) (active_tree file h) ≡ None
    → table ≡ refcount_table file h → IsTreeOf (cluster_size h.cluster_bits) t (active_tree file h)
    → Names (overlap_stop (uses_in h table t.l1 t.words) (cluster_bound h (length file))) stop → Names (image_refusal file) stop
overlap_of_image file h table t stop same header places words is tree names =
    named_by _ _ stop (last_stage file h same header places words)
    (names_head (option_map sound.Overlap (overlap file h (length file))) _ stop
    (named_by _ _ stop (sym (overlap_of_file file h (length file) table t is tree)) names))

pub last_names : (file : List ℕ) (h : Header) (r : refs.KeptRefs) (t : tables.KeptTables) (stop : ImageStop) → header_of file ≡ h → header_stops file (length file) ≡ None
    → place_stops h (length file) ≡ None → table_stops h (length file) (refcount_table file h) (active_tree file h) ≡ None
    → IsCountsOf file h r → IsTreeOf (cluster_size h.cluster_bits) t (active_tree file h) → cluster_bound h (length file) ≤ length r.counts
    → Names (names_stops h (uses_in h r.table t.l1 t.words) r.counts (cluster_bound h (length file))) stop → Names (image_refusal file) stop
last_names file h r t stop same header places words counts tree room is =
    named_by _ _ stop (last_stage file h same header places words ∙ sym (names_of_file file h (length file) r t counts tree room)) is

pub is_sound : (file : List ℕ) (h : Header) (r : refs.KeptRefs) (t : tables.KeptTables) → header_of file ≡ h → header_stops file (length file) ≡ None
    → place_stops h (length file) ≡ None → table_stops h (length file) (refcount_table file h) (active_tree file h) ≡ None
    → IsCountsOf file h r → IsTreeOf (cluster_size h.cluster_bits) t (active_tree file h) → cluster_bound h (length file) ≤ length r.counts
    → names_stops h (uses_in h r.table t.l1 t.words) r.counts (cluster_bound h (length file)) ≡ None → IsSound file
is_sound file h r t same header places words counts tree room none =
    last_stage file h same header places words ∙ sym (names_of_file file h (length file) r t counts tree room) ∙ none

-- What is loaded lies in its place.
placed_by_parts : (c len offset : ℕ) → offset % c ≡ 0 → offset < len → is_misplaced c len offset ≡ false
placed_by_parts c len offset whole below =
    let first = eq-eqb (offset % c) 0 whole in
    let second = lt-ltb offset len below in
    rw (first, second) refl

second_false : (a b : Bool) → (a || b) ≡ false → b ≡ false
second_false true b h = absurd (cc)
second_false false b h = h

first_false : (a b : Bool) → (a || b) ≡ false → a ≡ false
first_false true b h = absurd (cc)
first_false false b h = refl

refs_placed : (h : Header) (len : ℕ) → bad_refcount_table h len ≡ None → is_misplaced (cluster_size h.cluster_bits) len h.ref_offset ≡ false
unfolding bad_refcount_table
refs_placed h len none = second_false (eqb h.ref_clusters 0) _ (refused_where-none (eqb h.ref_clusters 0 || is_misplaced (cluster_size h.cluster_bits) len h.ref_offset) h.ref_offset none)

l1_placed : (h : Header) (len : ℕ) → bad_l1_table h len ≡ None → (ltb h.l1_size (l1_entries_for (cluster_size h.cluster_bits) h.size) ≡ false) × (is_misplaced (cluster_size h.cluster_bits) len h.l1_offset ≡ false)
unfolding bad_l1_table
l1_placed h len none =
    let test = refused_where-none (ltb h.l1_size (l1_entries_for (cluster_size h.cluster_bits) h.size) || is_misplaced (cluster_size h.cluster_bits) len h.l1_offset) h.l1_offset none in
    (first_false (ltb h.l1_size (l1_entries_for (cluster_size h.cluster_bits) h.size)) _ test, second_false (ltb h.l1_size (l1_entries_for (cluster_size h.cluster_bits) h.size)) _ test)

pub are_placed : (h : Header) (len : ℕ) (table : List ℕ) (t : tables.KeptTables) → place_stops h len ≡ None → refcounts_refusal h len table ≡ None → IsLoaded h len t → ArePlaced h len table t.l1 t.words
are_placed h len table t places accepted loaded =
    let both = both_placed h len places in
    let C : ℕ → Type 0 = λ c. ((i : ℕ) → i < length t.l1 → is_misplaced c len (host_offset (get_or t.l1 i 0)) ≡ false) in
    let H : ℕ → Type 0 = λ c. ((i : ℕ) → i < length t.words → is_misplaced c len (own_offset (get_or t.words i 0)) ≡ false) in
    record {
      refcount_table = refs_placed h len both.0;
      l1_table = (l1_placed h len both.1).1;
      blocks = λ i below. placed_by_parts (cluster_size h.cluster_bits) len (block_offset (get_or table i 0)) (blocks_whole h len table accepted i below) (blocks_below h len table accepted i below);
      tables = subst C loaded.c loaded.tables;
      hosts = subst H loaded.c loaded.hosts;
    }

-- an image that was loaded can be looked up
enough : (n m : ℕ) → ltb n m ≡ false → m ≤ n
enough n m h = grind (arith, nat_tests)

-- the header's cluster is named, so it counts
first_named : (uses count : ℕ) → 1 ≤ uses → (not (eqb uses 0) && eqb count 0) ≡ false → count ≢ 0
first_named uses count some test = grind (arith, nat_tests)

header_use : (h : Header) (table l1 words : List ℕ) → 1 ≤ uses_in h table l1 words 0
unfolding structure_uses
header_use h table l1 words = omega arith

first_counts : (h : Header) (len : ℕ) (r : refs.KeptRefs) (t : tables.KeptTables) → IsWithinLimits h len
    → names_stops h (uses_in h r.table t.l1 t.words) r.counts (cluster_bound h len) ≡ None → get_or r.counts 0 0 ≢ 0
first_counts h len r t limits none =
    let u : ℕ → ℕ = uses_in h r.table t.l1 t.words in
    let n : ℕ = cluster_bound h len in
    let each = first-none (overlap_stop u n ∷ uncounted_stop u r.counts n ∷ refused_where (is_header_full h) sound.HeaderFull ∷ []) none in
    let nowhere = option_map-none sound.Refcount (lowest (λ k. not (eqb (u k) 0) && eqb (get_or r.counts k 0) 0) n) each.1.0 in
    let bits = limits.cluster_bits in
    let whole = limits.header_whole in
    let in_file = limits.header_in_file in
    let some : 0 < n = rw bits (omega arith) in
    first_named (u 0) (get_or r.counts 0 0) (header_use h r.table t.l1 t.words) (lowest-none (λ k. not (eqb (u k) 0) && eqb (get_or r.counts k 0) 0) n nowhere 0 some)

-- the header has room for another name
not_full : (h : Header) (len : ℕ) (r : refs.KeptRefs) (t : tables.KeptTables) → names_stops h (uses_in h r.table t.l1 t.words) r.counts (cluster_bound h len) ≡ None → is_header_full h ≡ false
not_full h len r t none =
    let u : ℕ → ℕ = uses_in h r.table t.l1 t.words in
    let n : ℕ = cluster_bound h len in
    let each = first-none (overlap_stop u n ∷ uncounted_stop u r.counts n ∷ refused_where (is_header_full h) sound.HeaderFull ∷ []) none in
    refused_where-none (is_header_full h) sound.HeaderFull each.1.1.0

-- the name and the format begin behind the fields
behind_fields : (h : Header) (len : ℕ) → IsWithinLimits h len → (name : Option Place) → IfSome name (λ name. LiesWithin h.header_length (cluster_size h.cluster_bits) name × (name.len ≤ 1023))
    → IfSome name (LiesWithin 104 (cluster_size h.cluster_bits))
behind_fields h len limits None lies = tt
behind_fields h len limits (Some name) lies = let low = lies.0.begins in let long = limits.header_whole in record { begins = omega (arith, low, long); ends = lies.0.ends }

format_behind : (h : Header) (len : ℕ) → IsWithinLimits h len → (format : Option Place) → IfSome format (LiesWithin h.header_length (cluster_size h.cluster_bits))
    → IfSome format (LiesWithin 104 (cluster_size h.cluster_bits))
format_behind h len limits None lies = tt
format_behind h len limits (Some format) lies = let low = lies.begins in let long = limits.header_whole in record { begins = omega (arith, low, long); ends = lies.ends }

-- the file's clusters lie below the reach
file_below : (h : Header) (len : ℕ) → IsWithinLimits h len → 1 ≤ h.ref_clusters → len ≤ reach_of h len * 65536
file_below h len limits some =
    let bits = limits.cluster_bits in
    let order = limits.refcount_order in
    let files = rw bits at limits.file_clusters in
    let enough = div_ceil_times len 65536 (omega arith) in
    rw (bits, order) (omega (arith, enough.0, files))

below_of : (c len offset : ℕ) → is_misplaced c len offset ≡ false → offset < len
below_of c len offset placed = let second = second_false (not (eqb (offset % c) 0)) (not (ltb offset len)) placed in grind (arith, nat_tests)

below_reach : (own len n m bits : ℕ) → own < len → len ≤ n * 65536 → m ≡ n → bits ≡ 16 → own < m * cluster_size bits
below_reach own len n m bits below within same is = rw (same, is) (omega arith)

table_is : (h : Header) → {len : ℕ} → IsWithinLimits h len → table_entries h ≡ h.ref_clusters * 8192
table_is h limits = let bits = limits.cluster_bits in rw bits refl

reach_covered : (h : Header) (len : ℕ) → IsWithinLimits h len → reach_of h len ≤ h.ref_clusters * 8192 * 32768
reach_covered h len limits =
    let bits = limits.cluster_bits in
    let order = limits.refcount_order in
    rw (bits, order) (omega arith)

covered_by : (n m clusters table bits order : ℕ) → m ≡ n → table ≡ clusters * 8192 → bits ≡ 16 → order ≡ 4 → n ≤ clusters * 8192 * 32768 → m ≤ table * block_entries (cluster_size bits) order
covered_by n m clusters table bits order same is b o h = rw (same, is, b, o) h

pub is_open : (h : Header) (len : ℕ) (r : refs.KeptRefs) (t : tables.KeptTables) → CanBeRead h len → IsWithinLimits h len → place_stops h len ≡ None → IsLoaded h len t
    → HasCounts h len (counts_loaded h len) r → names_stops h (uses_in h r.table t.l1 t.words) r.counts (cluster_bound h len) ≡ None
    → IsOpen (record { header = h; tables = t; refs = record r { counts = take (reach_of h len) r.counts } })
is_open h len r t readable limits places loaded counts names =
    let l1 = enough h.l1_size (l1_entries_for (cluster_size h.cluster_bits) h.size) (l1_placed h len (both_placed h len places).1).0 in
    let size = loaded.l1_size in
    let entries = loaded.entries in
    let c = loaded.c in
    let n : ℕ = reach_of h len in
    let all : length r.counts ≡ max (cluster_bound h len) n = counts.reach in
    let cut = length-take n r.counts in
    let kept : length (take n r.counts) ≡ n = omega (arith, cut, all) in
    let bits = limits.cluster_bits in
    let order = limits.refcount_order in
    let small : n ≤ 8388608 = omega arith in
    let some : 0 < n = let one = some_cluster h len (both_placed h len places).0 in rw (bits, order) (omega (arith, one)) in
    let file = file_below h len limits (some_cluster h len (both_placed h len places).0) in
    let room = not_full h len r t names in
    let list = list_ends h len readable room in
    record {
      cluster_bits = limits.cluster_bits;
      tables_size = c;
      disk = limits.disk;
      l1 = omega arith;
      words = rw c at entries;
      plain = loaded.plain;
      l1_place = loaded.l1_offset;
      l1_size = loaded.l1_size;
      hosts = λ k below. below_reach (own_offset (get_or t.words k 0)) len n (length (take n r.counts)) h.cluster_bits (below_of t.c len (own_offset (get_or t.words k 0)) (loaded.hosts k below)) file kept bits;
      reach = omega (arith, kept, small);
      refcounts = record {
        cluster_bits = counts.shape.cluster_bits ∙ bits;
        refcount_order = counts.shape.refcount_order ∙ order;
        covered = covered_by n (length (take n r.counts)) h.ref_clusters (length r.table) r.cluster_bits r.refcount_order kept (counts.table ∙ table_is h limits)
            (counts.shape.cluster_bits ∙ bits) (counts.shape.refcount_order ∙ order) (reach_covered h len limits);
      };
      first = λ none. first_counts h len r t limits names (sym (get_or-take n r.counts 0 0 some) ∙ none);
      name = behind_fields h len limits h.name limits.name;
      format = format_behind h len limits h.format limits.format;
      list = list.0;
      ended = list.1;
      room = room;
    }
