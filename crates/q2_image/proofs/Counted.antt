-- The refusals of the refcount table, and how many refcounts it has.
use Rattle.std.proofs.Common.{◌≡◌, ℕ, ◌≤◌, ◌||◌, eqb, List, [], ◌∷◌, Option, Some, None, Ok, Err, Vec, Global, refl, sym, ap, subst, ◌∙◌, arith}
use Rattle.std.specs.Option.{option_map}
use Rattle.std.proofs.lemmas.Bool.Decides.{nat_tests}
use Rattle.q2_format.specs.Sizes.{cluster_size}
use Rattle.q2_format.specs.Header.{first, IsWithinLimits}
use Rattle.q2_format.specs.Sound.{bad_refcount_table, bad_l1_table, bad_block, reserved_in_refcount_table, is_misplaced}
use Rattle.q2_format.specs.Sound as sound
use Rattle.q2_format.specs.declared.header.Header.{Header}
use Rattle.q2_format.proofs.Firsts.{first-none, option_map-none, refused_where-none}
use Rattle.q2_refs.specs.Loading.{refcounts_refusal, table_reach}
use Rattle.q2_refs.specs.Loading as refs
use Rattle.q2_refs.specs.declared.stop.RefsStop.TheVariants.{Offset, Reserved}
use Rattle.q2_image.specs.Opening.{place_stops}
use Rattle.q2_image.specs.Loading.{AnswersTable, IsTableRead, TableTells, counts_loaded}
use Rattle.q2_image.specs.declared.counting.RefTable.TheVariants.{Read}
use Rattle.q2_image.specs.declared.counting.RefTable.TheVariants as tables
use Rattle.q2_image.specs.declared.stop.ImageStop.TheVariants as stops

-- both tables lie in their places
pub both_placed : (h : Header) (len : ℕ) → place_stops h len ≡ None → (bad_refcount_table h len ≡ None) × (bad_l1_table h len ≡ None)
both_placed h len none =
    let each = first-none (option_map sound.Offset (bad_refcount_table h len) ∷ option_map sound.Offset (bad_l1_table h len) ∷ []) none in
    (option_map-none sound.Offset (bad_refcount_table h len) each.0, option_map-none sound.Offset (bad_l1_table h len) each.1.0)

-- the refcount table lies in its place, so its words alone are refused
words_alone : (h : Header) (len : ℕ) (table : List ℕ) → bad_refcount_table h len ≡ None
    → refcounts_refusal h len table ≡ first (option_map Offset (bad_block (cluster_size h.cluster_bits) len table) ∷ option_map Reserved (reserved_in_refcount_table table) ∷ [])
unfolding refcounts_refusal
words_alone h len table placed = rw placed refl

nothing : (b r : Option ℕ) → first (option_map Offset b ∷ option_map Reserved r ∷ []) ≡ None → (b ≡ None) × (r ≡ None)
nothing None None h = (refl, refl)
nothing None (Some i) h = absurd (cc)
nothing (Some o) r h = absurd (cc)

a_block : (b r : Option ℕ) (offset : ℕ) → first (option_map Offset b ∷ option_map Reserved r ∷ []) ≡ Some (Offset offset) → b ≡ Some offset
a_block None None offset h = absurd (cc)
a_block None (Some i) offset h = absurd (cc)
a_block (Some o) r offset h = cc

an_entry : (b r : Option ℕ) (index : ℕ) → first (option_map Offset b ∷ option_map Reserved r ∷ []) ≡ Some (Reserved index) → (b ≡ None) × (r ≡ Some index)
an_entry None None index h = absurd (cc)
an_entry None (Some i) index h = (refl, cc)
an_entry (Some o) r index h = absurd (cc)

-- what each answer tells of the words of a refcount table
pub accepted_tells : (h : Header) (len : ℕ) (table : List ℕ) → place_stops h len ≡ None → refcounts_refusal h len table ≡ None → TableTells h len table None
accepted_tells h len table placed none =
    let both = nothing (bad_block (cluster_size h.cluster_bits) len table) (reserved_in_refcount_table table) (sym (words_alone h len table (both_placed h len placed).0) ∙ none) in
    record { block = both.0; reserved = both.1 }

pub reserved_tells : (h : Header) (len index : ℕ) (table : List ℕ) → place_stops h len ≡ None → refcounts_refusal h len table ≡ Some (Reserved index) → TableTells h len table (Some index)
reserved_tells h len index table placed some =
    let both = an_entry (bad_block (cluster_size h.cluster_bits) len table) (reserved_in_refcount_table table) index (sym (words_alone h len table (both_placed h len placed).0) ∙ some) in
    record { block = both.0; reserved = both.1 }

pub offset_tells : (h : Header) (len offset : ℕ) (table : List ℕ) → place_stops h len ≡ None → refcounts_refusal h len table ≡ Some (Offset offset)
    → option_map sound.Offset (bad_block (cluster_size h.cluster_bits) len table) ≡ Some (sound.Offset offset)
offset_tells h len offset table placed some = ap (option_map sound.Offset)
    (a_block (bad_block (cluster_size h.cluster_bits) len table) (reserved_in_refcount_table table) offset (sym (words_alone h len table (both_placed h len placed).0) ∙ some))

-- what reading a refcount table in its place answers, as its reading in an image does
module _ (h : Header) (len : ℕ) (placed : place_stops h len ≡ None) where
  pub table_answered : (kept : Vec ℕ Global) (words : List ℕ) → refs.AnswersWords h len (λ (table : Vec ℕ Global). table.items) (Ok kept) words → AnswersTable h len (Ok (Read kept)) words
  table_answered kept words answers =
      record { entries = answers.entries; stands = answers.stands; tells = (accepted_tells h len words placed answers.refused, answers.kept) }

  pub reserved_answered : (index : ℕ) (words : List ℕ) → refs.AnswersWords h len (λ (table : Vec ℕ Global). table.items) (Err (Reserved index)) words
      → AnswersTable h len (Ok (tables.Reserved index)) words
  reserved_answered index words answers = record { entries = answers.entries; stands = answers.stands; tells = (reserved_tells h len index words placed answers.refused, tt) }

  pub offset_answered : (offset : ℕ) (words : List ℕ) → refs.AnswersWords h len (λ (table : Vec ℕ Global). table.items) (Err (Offset offset)) words → AnswersTable h len (Err (stops.Offset offset)) words
  offset_answered offset words answers = record { entries = answers.entries; stands = answers.stands; tells = offset_tells h len offset words placed answers.refused }

-- an accepted table's words
pub accepted_words : (h : Header) (len : ℕ) (kept : Vec ℕ Global) (words : List ℕ) → refs.AnswersWords h len (λ (table : Vec ℕ Global). table.items) (Ok kept) words → IsTableRead h len kept.items
accepted_words h len kept words answers = subst (IsTableRead h len) (sym answers.kept) (record { accepted = answers.refused; entries = answers.entries; stands = answers.stands })

-- a refcount table in its place has a cluster
pub some_cluster : (h : Header) (len : ℕ) → bad_refcount_table h len ≡ None → 1 ≤ h.ref_clusters
unfolding bad_refcount_table
some_cluster h len none =
    let test = refused_where-none (eqb h.ref_clusters 0 || is_misplaced (cluster_size h.cluster_bits) len h.ref_offset) h.ref_offset none in
    grind (arith, nat_tests)

pub loaded_fits : (h : Header) (len : ℕ) → IsWithinLimits h len → place_stops h len ≡ None → counts_loaded h len ≤ table_reach h
loaded_fits h len limits placed =
    let some = some_cluster h len (both_placed h len placed).0 in
    let files = limits.file_clusters in
    let l1 = limits.l1_size in
    let tables = limits.refcount_table in
    let bits = limits.cluster_bits in
    let order = limits.refcount_order in
    rw (bits, order) (let files' = rw bits at files in omega arith)
