-- The refusals of both loaders in one order.
use Rattle.std.proofs.Common.{◌≡◌, ℕ, List, [], ◌∷◌, Option, Some, None, refl, ap, ◌∙◌}
use Rattle.std.specs.Option.{option_map}
use Rattle.q2_format.specs.Sizes.{cluster_size}
use Rattle.q2_format.specs.Header.{first}
use Rattle.q2_format.specs.Tables.{Tree}
use Rattle.q2_format.specs.Sound.{Refusal, bad_l1_table, bad_block, bad_l2_table, bad_host, reserved_in_l1, reserved_in_l2, reserved_in_refcount_table, compressed_cluster}
use Rattle.q2_format.specs.Sound as sound
use Rattle.q2_format.specs.declared.header.Header.{Header}
use Rattle.q2_tables.specs.Loading.{load_refusal, IsTableRefusal}
use Rattle.q2_tables.specs.declared.stop.TablesStop.{TablesStop}
use Rattle.q2_tables.specs.declared.stop.TablesStop.TheVariants as tables
use Rattle.q2_image.specs.declared.stop.ImageStop.{ImageStop}
use Rattle.q2_image.specs.declared.stop.ImageStop.TheVariants as stops
use Rattle.q2_image.specs.Opening.{Names, refusal_of, place_stops}
use Rattle.q2_image.specs.Loading.{table_stops, TableTells}
use Rattle.q2_image.specs.Merge.{merged_refusal, merged_stop}
use Rattle.q2_image.proofs.Counted.{both_placed}
use Rattle.q2_image.proofs.Order.{names_head}

-- the refusals of the loader of tables, whose L1 table lies in its place
abbrev tables_first : Option ℕ → Option ℕ → Option ℕ → Option (ℕ × ℕ) → Option ℕ → Option TablesStop
tables_first l2 host in_l1 in_l2 compressed = first (
    option_map tables.Offset l2
    ∷ option_map tables.Offset host
    ∷ option_map tables.ReservedInL1 in_l1
    ∷ option_map (λ entry. tables.ReservedInL2 entry.0 entry.1) in_l2
    ∷ option_map tables.Compressed compressed
    ∷ [])

abbrev all_first : Header → Option ℕ → Option ℕ → Option ℕ → Option ℕ → Option (ℕ × ℕ) → Option ℕ → Option Refusal
all_first h l2 host in_l1 in_refs in_l2 compressed = first (
    option_map sound.Offset l2
    ∷ option_map sound.Offset host
    ∷ option_map (sound.Reserved h.l1_offset) in_l1
    ∷ option_map (sound.Reserved h.ref_offset) in_refs
    ∷ option_map (λ entry. sound.Reserved entry.0 entry.1) in_l2
    ∷ option_map sound.Compressed compressed
    ∷ [])

merges : (h : Header) (l2 host in_l1 in_refs : Option ℕ) (in_l2 : Option (ℕ × ℕ)) (compressed : Option ℕ)
    → all_first h l2 host in_l1 in_refs in_l2 compressed ≡ merged_refusal h in_refs (tables_first l2 host in_l1 in_l2 compressed)
merges h (Some o) host in_l1 in_refs in_l2 compressed = refl
merges h None (Some o) in_l1 in_refs in_l2 compressed = refl
merges h None None (Some i) in_refs in_l2 compressed = refl
merges h None None None (Some r) (Some e) compressed = refl
merges h None None None (Some r) None (Some c) = refl
merges h None None None (Some r) None None = refl
merges h None None None None (Some e) compressed = refl
merges h None None None None None (Some c) = refl
merges h None None None None None None = refl

-- the tables' first refusal is the merged one
pub stops_merged : (table : List ℕ) (h : Header) (len : ℕ) (in_refs : Option ℕ) (tree : Tree) → place_stops h len ≡ None → TableTells h len table in_refs
    → table_stops h len table tree ≡ merged_refusal h in_refs (load_refusal h len tree)
unfolding table_stops load_refusal
stops_merged table h len in_refs tree placed tells =
    let l1 = (both_placed h len placed).1 in
    let block = tells.block in
    let reserved = tells.reserved in
    rw (block, reserved, l1) (merges h (bad_l2_table (cluster_size h.cluster_bits) len tree) (bad_host (cluster_size h.cluster_bits) len tree)
    (reserved_in_l1 tree) in_refs (reserved_in_l2 (cluster_size h.cluster_bits) tree) (compressed_cluster (cluster_size h.cluster_bits) tree))

-- an answer that is the refusal judges it
pub judges_by : (refusal : Option Refusal) (stop : ImageStop) → refusal ≡ refusal_of stop → Names refusal stop
judges_by refusal (stops.Header s) is = is
judges_by refusal (stops.Offset o) is = is
judges_by refusal (stops.Reserved t i) is = is
judges_by refusal (stops.Compressed c) is = is
judges_by refusal (stops.Overlap c) is = is
judges_by refusal (stops.Refcount c) is = is
judges_by refusal stops.HeaderFull is = is
judges_by refusal (stops.Io n) is = tt
judges_by refusal stops.NoMemory is = tt

-- what the loaders' answers say of the tables' first refusal
pub judged_ok : (table : List ℕ) (h : Header) (len : ℕ) (tree : Tree) → place_stops h len ≡ None → TableTells h len table None
    → load_refusal h len tree ≡ None → table_stops h len table tree ≡ None
judged_ok table h len tree placed tells none = stops_merged table h len None tree placed tells ∙ ap (merged_refusal h None) none

pub judged_reserved : (table : List ℕ) (h : Header) (len index : ℕ) (tree : Tree) → place_stops h len ≡ None → TableTells h len table (Some index)
    → load_refusal h len tree ≡ None → table_stops h len table tree ≡ Some (sound.Reserved h.ref_offset index)
judged_reserved table h len index tree placed tells none = stops_merged table h len (Some index) tree placed tells ∙ ap (merged_refusal h (Some index)) none

pub judged_stop : (table : List ℕ) (h : Header) (len : ℕ) (in_refs : Option ℕ) (tree : Tree) (stop : TablesStop) → place_stops h len ≡ None
    → TableTells h len table in_refs → (IsTableRefusal stop → load_refusal h len tree ≡ Some stop)
    → Names (table_stops h len table tree) (merged_stop h in_refs stop)
judged_stop table h len in_refs tree (tables.Offset o) placed tells is =
    judges_by (table_stops h len table tree) (merged_stop h in_refs (tables.Offset o)) (stops_merged table h len in_refs tree placed tells ∙ ap (merged_refusal h in_refs) (is tt))
judged_stop table h len in_refs tree (tables.ReservedInL1 i) placed tells is =
    judges_by (table_stops h len table tree) (merged_stop h in_refs (tables.ReservedInL1 i)) (stops_merged table h len in_refs tree placed tells ∙ ap (merged_refusal h in_refs) (is tt))
judged_stop table h len in_refs tree (tables.ReservedInL2 t i) placed tells is =
    judges_by (table_stops h len table tree) (merged_stop h in_refs (tables.ReservedInL2 t i)) (stops_merged table h len in_refs tree placed tells ∙ ap (merged_refusal h in_refs) (is tt))
judged_stop table h len in_refs tree (tables.Compressed c) placed tells is =
    judges_by (table_stops h len table tree) (merged_stop h in_refs (tables.Compressed c)) (stops_merged table h len in_refs tree placed tells ∙ ap (merged_refusal h in_refs) (is tt))
judged_stop table h len in_refs tree (tables.Io n) placed tells is = tt
judged_stop table h len in_refs tree tables.NoMemory placed tells is = tt

-- a refusal of the refcount table's blocks comes before all of it
pub judged_block : (table : List ℕ) (h : Header) (len : ℕ) (tree : Tree) (stop : ImageStop) → Names (option_map sound.Offset (bad_block (cluster_size h.cluster_bits) len table)) stop
    → Names (table_stops h len table tree) stop
unfolding table_stops
judged_block table h len tree stop is = names_head (option_map sound.Offset (bad_block (cluster_size h.cluster_bits) len table)) _ stop is
