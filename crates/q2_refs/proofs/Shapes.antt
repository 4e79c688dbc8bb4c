-- Headers of the shape that is supported, and tables that nothing refuses.
use Rattle.std.proofs.Common.{◌≤◌, ◌≡◌, ℕ, ◌%◌, ◌<◌, not, ◌||◌, ◌∙◌, arith, sym, false, eqb, ltb, List, ◌∷◌, length, get_or, None, Some, Option, Err, refl}
use Rattle.std.proofs.lemmas.Bool.{or_parts, not-false, ltb-true, eqb-true}
use Rattle.std.specs.Option.{option_map}
use Rattle.std.proofs.Math.Nat.{mul-le-mul_left}
use Rattle.std.proofs.lemmas.Grind.{div_ceil_times}
use Rattle.q2_format.specs.Entry.{block_offset}
use Rattle.q2_format.specs.Header.{first, CanBeRead}
use Rattle.q2_format.specs.Sizes.{cluster_size}
use Rattle.q2_format.specs.Sound.{lowest, is_misplaced, bad_block, bad_refcount_table}
use Rattle.q2_format.specs.declared.header.Header.{Header}
use Rattle.q2_format.proofs.Firsts.{lowest-none, option_map-none, first-cons-none, refused_where-none}
use Rattle.q2_format.proofs.Limits.{read_within}
use Rattle.q2_refs.specs.Kept.{AreWholeClusters, BeginBelow}
use Rattle.q2_refs.specs.Loading.{HasShape, words_refusal, refcounts_refusal, RefusedBy}
use Rattle.q2_refs.specs.declared.stop.RefsStop.{RefsStop}
use Rattle.q2_refs.specs.declared.stop.RefsStop.TheVariants.{Offset, Reserved, Io, NoMemory}

pub shape_of : (h : Header) (len : ℕ) → CanBeRead h len → HasShape h
shape_of h len r = let within = read_within h len r in record { cluster_bits = within.cluster_bits; refcount_order = within.refcount_order; table = within.refcount_table }

placed : (c len : ℕ) (table : List ℕ) → bad_block c len table ≡ None → (i : ℕ) → i < length table → is_misplaced c len (block_offset (get_or table i 0)) ≡ false
unfolding bad_block
placed c len table none i below =
    lowest-none (λ i. is_misplaced c len (block_offset (get_or table i 0))) (length table)
    (option_map-none (λ i. block_offset (get_or table i 0)) (lowest (λ i. is_misplaced c len (block_offset (get_or table i 0))) (length table)) none) i below

words_parts : (h : Header) (len : ℕ) (table : List ℕ) → refcounts_refusal h len table ≡ None → bad_block (cluster_size h.cluster_bits) len table ≡ None
unfolding refcounts_refusal
words_parts h len table none =
    let behind = first-cons-none (option_map Offset (bad_refcount_table h len)) _ none in
    let blocks = first-cons-none (option_map Offset (bad_block (cluster_size h.cluster_bits) len table)) _ behind.1 in
    option_map-none Offset (bad_block (cluster_size h.cluster_bits) len table) blocks.0

pub blocks_whole : (h : Header) (len : ℕ) (table : List ℕ) → refcounts_refusal h len table ≡ None → AreWholeClusters (cluster_size h.cluster_bits) table
blocks_whole h len table none = λ i below.
    let c : ℕ = cluster_size h.cluster_bits in
    let offset : ℕ = block_offset (get_or table i 0) in
    let parts = or_parts (not (eqb (offset % c) 0)) (not (ltb offset len)) (placed c len table (words_parts h len table none) i below) in
    eqb-true (offset % c) 0 (not-false (eqb (offset % c) 0) parts.0)

pub blocks_below : (h : Header) (len : ℕ) (table : List ℕ) → refcounts_refusal h len table ≡ None → BeginBelow len table
blocks_below h len table none = λ i below.
    let c : ℕ = cluster_size h.cluster_bits in
    let offset : ℕ = block_offset (get_or table i 0) in
    let parts = or_parts (not (eqb (offset % c) 0)) (not (ltb offset len)) (placed c len table (words_parts h len table none) i below) in
    ltb-true offset len (not-false (ltb offset len) parts.1)

-- the refusals one after the other

first_is : (a : Option RefsStop) (rest : List (Option RefsStop)) (e : RefsStop) → Some e ≡ a → first (a ∷ rest) ≡ Some e
first_is a rest e is = rw (sym is) refl

first_passes : (a : Option RefsStop) (rest : List (Option RefsStop)) → None ≡ a → first (a ∷ rest) ≡ first rest
first_passes a rest is = rw (sym is) refl

pub place_refused : (h : Header) (len : ℕ) (table : List ℕ) (e : RefsStop) → Some e ≡ option_map Offset (bad_refcount_table h len)
    → refcounts_refusal h len table ≡ Some e
unfolding refcounts_refusal
place_refused h len table e is = first_is (option_map Offset (bad_refcount_table h len)) _ e is

pub words_refused : (h : Header) (len : ℕ) (table : List ℕ) (e : RefsStop) → None ≡ option_map Offset (bad_refcount_table h len)
    → Some e ≡ words_refusal (cluster_size h.cluster_bits) len table → refcounts_refusal h len table ≡ Some e
unfolding refcounts_refusal
words_refused h len table e passes is = first_passes (option_map Offset (bad_refcount_table h len)) _ passes ∙ sym is

pub none_refused : (h : Header) (len : ℕ) (table : List ℕ) → None ≡ option_map Offset (bad_refcount_table h len)
    → None ≡ words_refusal (cluster_size h.cluster_bits) len table → refcounts_refusal h len table ≡ None
unfolding refcounts_refusal
none_refused h len table passes is = first_passes (option_map Offset (bad_refcount_table h len)) _ passes ∙ sym is

pub refused_by : (A : Type 0) (e : RefsStop) (refusal : Option RefsStop) → refusal ≡ Some e → RefusedBy {A = A} (Err e) refusal
refused_by A (Offset at) refusal is = is
refused_by A (Reserved index) refusal is = is
refused_by A (Io count) refusal is = tt
refused_by A NoMemory refusal is = tt

table_parts : (h : Header) (len : ℕ) (table : List ℕ) → refcounts_refusal h len table ≡ None → bad_refcount_table h len ≡ None
unfolding refcounts_refusal
table_parts h len table none =
    let behind = first-cons-none (option_map Offset (bad_refcount_table h len)) _ none in
    option_map-none Offset (bad_refcount_table h len) behind.0

placed_table : (h : Header) (len : ℕ) → bad_refcount_table h len ≡ None → is_misplaced (cluster_size h.cluster_bits) len h.ref_offset ≡ false
unfolding bad_refcount_table
placed_table h len none =
    (or_parts (eqb h.ref_clusters 0) (is_misplaced (cluster_size h.cluster_bits) len h.ref_offset)
    (refused_where-none (eqb h.ref_clusters 0 || is_misplaced (cluster_size h.cluster_bits) len h.ref_offset) h.ref_offset none)).1

-- an accepted table lies at a multiple of the cluster size
pub table_whole : (h : Header) (len : ℕ) (table : List ℕ) → refcounts_refusal h len table ≡ None → h.ref_offset % cluster_size h.cluster_bits ≡ 0
table_whole h len table none =
    let c : ℕ = cluster_size h.cluster_bits in
    let parts = or_parts (not (eqb (h.ref_offset % c) 0)) (not (ltb h.ref_offset len)) (placed_table h len (table_parts h len table none)) in
    eqb-true (h.ref_offset % c) 0 (not-false (eqb (h.ref_offset % c) 0) parts.0)

-- a file that is within the limits ends below 2^39
short_file : (h : Header) (len : ℕ) → CanBeRead h len → len ≤ 549755813888
short_file h len r =
    let within = read_within h len r in
    let bits = within.cluster_bits in
    let c : ℕ = cluster_size h.cluster_bits in
    let size : c ≡ 65536 = rw bits refl in
    let clusters = within.file_clusters in
    let enough = div_ceil_times len c (omega (arith, size)) in
    let all = mul-le-mul_left c clusters in
    omega (arith, enough.0, all, size)

-- and so does the place of its table
pub table_low : (h : Header) (len : ℕ) (table : List ℕ) → CanBeRead h len → refcounts_refusal h len table ≡ None → h.ref_offset < 1099511627776
table_low h len table r none =
    let c : ℕ = cluster_size h.cluster_bits in
    let parts = or_parts (not (eqb (h.ref_offset % c) 0)) (not (ltb h.ref_offset len)) (placed_table h len (table_parts h len table none)) in
    let inside = ltb-true h.ref_offset len (not-false (ltb h.ref_offset len) parts.1) in
    let short = short_file h len r in
    omega (arith, inside, short)
