-- What a refusal says, whatever the file holds.
use Rattle.std.proofs.Common.{◌≡◌, ℕ, ◌+◌, ◌*◌, ◌<◌, Bool, true, false, List, [], ◌∷◌, get_or, replicate, Option, Some, None, Result, Ok, Err, IfErr, refl, sym, ◌∙◌, subst, arith, inl, inr, lt-ltb}
use Rattle.std.proofs.lemmas.Bool.{cases_lt}
use Rattle.std.proofs.lemmas.List.{get_or-replicate, get_or_past, length-replicate}
use Rattle.std.specs.Option.{option_map}
use Rattle.q2_format.specs.Header.{CanBeRead, IsWithinLimits, first, header_refusal, refused_where}
use Rattle.q2_format.specs.Entry.{block_offset}
use Rattle.q2_format.specs.References.{cluster_bound}
use Rattle.q2_format.specs.Sizes.{refcount_bytes}
use Rattle.q2_format.proofs.Standing.{file_with, length-file_with, number_of_none, number_stands}
use Rattle.q2_format.specs.Sound.{Refusal, bad_l1_table, bad_refcount_table, is_header_full, lowest}
use Rattle.q2_format.specs.Sound as sound
use Rattle.q2_format.specs.declared.header.Header.{Header}
use Rattle.q2_format.specs.declared.header.HeaderStop.{HeaderStop}
use Rattle.q2_format.specs.declared.header.HeaderStop.TheVariants.{Short}
use Rattle.q2_refs.specs.Kept.{StandsAsBlock}
use Rattle.q2_refs.specs.Kept as refs
use Rattle.q2_refs.proofs.Shapes.{blocks_below, blocks_whole}
use Rattle.q2_tables.specs.Kept as kept
use Rattle.q2_tables.specs.Loading.{IsLoaded}
use Rattle.q2_tables.specs.declared.stop.TablesStop.{TablesStop}
use Rattle.q2_tables.specs.declared.stop.TablesStop.TheVariants as tables
use Rattle.q2_image.specs.Merge.{merged_stop}
use Rattle.q2_image.specs.Loading.{AnswersTables, CanBeWords, ImageWords, IsTableRead, counts_loaded, table_stops}
use Rattle.q2_image.specs.Opening.{IsNoHeader, Judges, Names, overlap_stop, place_stops, refusal_of, uses_in}
use Rattle.q2_image.specs.Placed.{AreKept, kept_stops}
use Rattle.q2_image.specs.Refusals.{CanBegin, IsBehindHeader, IsRefusalFor}
use Rattle.q2_image.specs.declared.stop.ImageStop.{ImageStop}
use Rattle.q2_image.specs.declared.stop.ImageStop.TheVariants as stops
use Rattle.q2_image.proofs.Order.{names_head}

-- no bytes are a header
pub short_for : (len : ℕ) → len < 104 → header_refusal [] len ≡ Some Short
unfolding header_refusal
short_for len few = let test = lt-ltb len 104 few in rw test refl

pub none_begin : (len : ℕ) → CanBegin len []
none_begin len = (λ k. omega arith, λ k past. refl)

-- a stop that names no refusal
pub unnamed_for : (stop : ImageStop) (len : ℕ) → refusal_of stop ≡ None → IsRefusalFor stop len
unnamed_for (stops.Header s) len none = absurd (cc)
unnamed_for (stops.Offset o) len none = absurd (cc)
unnamed_for (stops.Reserved t i) len none = absurd (cc)
unnamed_for (stops.Compressed c) len none = absurd (cc)
unnamed_for (stops.Overlap c) len none = absurd (cc)
unnamed_for (stops.Refcount c) len none = absurd (cc)
unnamed_for stops.HeaderFull len none = absurd (cc)
unnamed_for (stops.Io n) len none = tt
unnamed_for stops.NoMemory len none = tt

-- one that comes behind the header, by the refusal that it names
pub behind_header : (h : Header) (len : ℕ) (refusal : Option Refusal) (stop : ImageStop) → CanBeRead h len → IsWithinLimits h len
    → ((named : Option Refusal) → refusal ≡ named → IsBehindHeader h len named) → IsNoHeader stop → Names refusal stop → IsRefusalFor stop len
behind_header h len refusal (stops.Header s) readable limits behind none is = absurd none
behind_header h len refusal (stops.Offset o) readable limits behind none is = (h, readable, limits, behind (Some (sound.Offset o)) is)
behind_header h len refusal (stops.Reserved t i) readable limits behind none is = (h, readable, limits, behind (Some (sound.Reserved t i)) is)
behind_header h len refusal (stops.Compressed c) readable limits behind none is = (h, readable, limits, behind (Some (sound.Compressed c)) is)
behind_header h len refusal (stops.Overlap c) readable limits behind none is = (h, readable, limits, behind (Some (sound.Overlap c)) is)
behind_header h len refusal (stops.Refcount c) readable limits behind none is = (h, readable, limits, behind (Some (sound.Refcount c)) is)
behind_header h len refusal stops.HeaderFull readable limits behind none is = (h, readable, limits, behind (Some sound.HeaderFull) is)
behind_header h len refusal (stops.Io n) readable limits behind none is = tt
behind_header h len refusal stops.NoMemory readable limits behind none is = tt

-- one whose refusal is none of the header
not_header : (refusal : Option Refusal) (stop : ImageStop) → ((s : HeaderStop) → refusal ≡ Some (sound.InHeader s) → ⊥) → Names refusal stop → IsNoHeader stop
not_header refusal (stops.Header s) never is = never s is
not_header refusal (stops.Offset o) never is = tt
not_header refusal (stops.Reserved t i) never is = tt
not_header refusal (stops.Compressed c) never is = tt
not_header refusal (stops.Overlap c) never is = tt
not_header refusal (stops.Refcount c) never is = tt
not_header refusal stops.HeaderFull never is = tt
not_header refusal (stops.Io n) never is = tt
not_header refusal stops.NoMemory never is = tt

offsets_apart : (a b : Option ℕ) (s : HeaderStop) → first (option_map sound.Offset a ∷ option_map sound.Offset b ∷ []) ≡ Some (sound.InHeader s) → ⊥
offsets_apart (Some a) b s is = cc
offsets_apart None (Some b) s is = cc
offsets_apart None None s is = cc

pub place_behind : (h : Header) (len : ℕ) (stop : ImageStop) → Names (place_stops h len) stop → IsNoHeader stop
place_behind h len stop is = not_header (place_stops h len) stop (offsets_apart (bad_refcount_table h len) (bad_l1_table h len)) is

overlap_apart : (a : Option ℕ) (s : HeaderStop) → option_map sound.Overlap a ≡ Some (sound.InHeader s) → ⊥
overlap_apart (Some a) s is = cc
overlap_apart None s is = cc

pub overlap_behind : (uses : ℕ → ℕ) (n : ℕ) (stop : ImageStop) → Names (overlap_stop uses n) stop → IsNoHeader stop
overlap_behind uses n stop is = not_header (overlap_stop uses n) stop (λ s same. overlap_apart _ s same) is

names_apart : (a b : Option ℕ) (full : Bool) (s : HeaderStop)
    → first (option_map sound.Overlap a ∷ option_map sound.Refcount b ∷ refused_where full sound.HeaderFull ∷ []) ≡ Some (sound.InHeader s) → ⊥
names_apart (Some a) b full s is = cc
names_apart None (Some b) full s is = cc
names_apart None None true s is = cc
names_apart None None false s is = cc

-- the kinds of refusals behind a header
pub of_words : (h : Header) (len : ℕ) (words : ImageWords) → place_stops h len ≡ None → CanBeWords h len words → (named : Option Refusal)
    → table_stops h len words.table words.tree ≡ named → IsBehindHeader h len named
of_words h len words places sizes named is = inr (places, inl (words, sizes, is))

pub of_names : (h : Header) (len : ℕ) (r : refs.KeptRefs) (t : kept.KeptTables) → place_stops h len ≡ None → AreKept h len r t → (named : Option Refusal)
    → kept_stops h len r t ≡ named → IsBehindHeader h len named
of_names h len r t places are named is = inr (places, inr (r, t, are, is))

-- refcounts that are not read
abbrev pub zero_refs : Header → ℕ → List ℕ → refs.KeptRefs
zero_refs h len table = record {
  cluster_bits = h.cluster_bits;
  refcount_order = h.refcount_order;
  table_offset = h.ref_offset;
  table = table;
  counts = replicate (counts_loaded h len) 0;
}

zero_at : (n k : ℕ) → get_or (replicate {A = ℕ} n 0) k 0 ≡ 0
zero_at n k = elim (cases_lt k n) [ inl below ↦ get_or-replicate n k 0 0 below | inr past ↦ get_or_past (replicate n 0) k 0 (omega (arith, length-replicate {A = ℕ} n 0)) ]

-- counts that are 0 are those of a block of zeros
zero_block : (len offset w n from total : ℕ) → StandsAsBlock None len offset w n from (replicate total 0)
zero_block len offset w n from total = record {
  file = file_with len offset [];
  is = tt;
  size = length-file_with len offset [];
  are = λ k few below. zero_at total (from + k) ∙ sym (sym (number_stands len offset [] (λ j past. refl) (k * w) w) ∙ number_of_none (k * w) w);
}

pub zeros_kept : (h : Header) (len : ℕ) (table : List ℕ) (t : kept.KeptTables) → IsTableRead h len table → IsLoaded h len t → AreKept h len (zero_refs h len table) t
zeros_kept h len table t read loaded = record {
  table = read;
  tables = loaded;
  counts = record {
    shape = record { cluster_bits = refl; refcount_order = refl; table_offset = refl };
    table = read.entries;
    reach = length-replicate (counts_loaded h len) 0;
    blocks = blocks_whole h len table read.accepted;
    below = blocks_below h len table read.accepted;
    stands = λ i below there. zero_block len (block_offset (get_or table i 0)) (refcount_bytes h.refcount_order) _ _ (counts_loaded h len);
  };
  absent = λ k below none. zero_at (counts_loaded h len) k;
}

-- a cluster that is named twice, before refcounts are read
pub overlap_refused : (h : Header) (len : ℕ) (table : List ℕ) (t : kept.KeptTables) (stop : ImageStop) → CanBeRead h len → IsWithinLimits h len → place_stops h len ≡ None
    → IsTableRead h len table → IsLoaded h len t → Names (overlap_stop (uses_in h table t.l1 t.words) (cluster_bound h len)) stop → IsRefusalFor stop len
overlap_refused h len table t stop readable limits places read loaded is =
    let r = zero_refs h len table in
    behind_header h len (kept_stops h len r t) stop readable limits (of_names h len r t places (zeros_kept h len table t read loaded))
    (overlap_behind (uses_in h table t.l1 t.words) (cluster_bound h len) stop is)
    (names_head (overlap_stop (uses_in h table t.l1 t.words) (cluster_bound h len)) _ stop is)

-- the last answer
pub last_refused : {A : Type 0} (h : Header) (len : ℕ) (r : refs.KeptRefs) (t : kept.KeptTables) (result : Result A ImageStop) → CanBeRead h len → IsWithinLimits h len
    → place_stops h len ≡ None → AreKept h len r t → Judges (kept_stops h len r t) result → IfErr result (λ stop. IsRefusalFor stop len)
last_refused h len r t (Ok a) readable limits places are is = tt
last_refused h len r t (Err stop) readable limits places are is =
    behind_header h len (kept_stops h len r t) stop readable limits (of_names h len r t places are)
    (not_header (kept_stops h len r t) stop (λ s same. names_apart _ _ (is_header_full h) s same) is) is

-- an answer by the words of the tables
pub words_refused : {A : Type 0} (h : Header) (len : ℕ) (table_of : A → List ℕ) (tables_of : A → kept.KeptTables) (stop : ImageStop) (words : ImageWords) → CanBeRead h len → IsWithinLimits h len
    → place_stops h len ≡ None → IsNoHeader stop → AnswersTables h len table_of tables_of (Err stop) words → IsRefusalFor stop len
words_refused h len table_of tables_of stop words readable limits places none answers =
    behind_header h len (table_stops h len words.table words.tree) stop readable limits (of_words h len words places answers.sizes) none answers.judged

-- the place of a table
pub place_refused : (h : Header) (len : ℕ) (stop : ImageStop) → CanBeRead h len → IsWithinLimits h len → Names (place_stops h len) stop → IsRefusalFor stop len
place_refused h len stop readable limits is = behind_header h len (place_stops h len) stop readable limits (λ named same. inl same) (place_behind h len stop is) is

-- the stop that comes first of two
pub merged_behind : (h : Header) (reserved : Option ℕ) (stop : TablesStop) → IsNoHeader (merged_stop h reserved stop)
merged_behind h reserved (tables.Offset offset) = tt
merged_behind h reserved (tables.ReservedInL1 index) = tt
merged_behind h None (tables.ReservedInL2 table index) = tt
merged_behind h (Some i) (tables.ReservedInL2 table index) = tt
merged_behind h None (tables.Compressed cluster) = tt
merged_behind h (Some i) (tables.Compressed cluster) = tt
merged_behind h reserved (tables.Io count) = tt
merged_behind h reserved tables.NoMemory = tt

-- in a file of that length
pub err_refused_at : {A : Type 0} (result : Result A ImageStop) (n m : ℕ) → n ≡ m → IfErr result (λ stop. IsRefusalFor stop n) → IfErr result (λ stop. IsRefusalFor stop m)
err_refused_at result n m same is = let P : ℕ → Type 0 = λ k. IfErr result (λ stop. IsRefusalFor stop k) in subst P same is
