-- When the image in a file maps a cluster, and what is found of that where a node is added over it.
use Rattle.std.proofs.Common.{◌≡◌, ℕ, zero, suc, ◌+◌, ◌≤◌, ◌<◌, Bool, true, false, cond, List, refl, sym, ap, subst, ◌∙◌, Option, Some, None, arith}
use Rattle.std.specs.Prelude.{◌&&◌, not, slice_index_or}
use Rattle.std.specs.List.{list_all, range_with_len}
use Rattle.std.proofs.lemmas.List.Folds.{list_all_at}
use Rattle.std.proofs.lemmas.List.FromFn.{length-range_with_len, get_or-range_with_len}
use Rattle.q2_format.specs.Sizes.{cluster_size, clusters_for}
use Rattle.q2_format.specs.Header.{header_of}
use Rattle.q2_format.specs.Created.{Creation, IsCreated}
use Rattle.q2_format.specs.declared.entries.L2Entry.{L2Entry}
use Rattle.q2_format.specs.declared.entries.L2Entry.TheVariants.{Unallocated, Zero, Host, Compressed, Reserved}
use Rattle.q2_format.proofs.Unmapped.{created_entry}
use Rattle.q2_image.specs.Guest.{file_entry}
use Rattle.blk_history.specs.Fold.{With}
use Rattle.flat_machine.specs.State.{Content, Bytes, Blank, Unknown, MapsNone, MapsSome}
use Rattle.flat_machine.specs.Contents.{is_unallocated, maps_none, mapped_in}
use Rattle.flat_machine.specs.Sights.{AgreesWith}
use Rattle.flat_machine.specs.Agreement.{IsBlank, IsAsKnown}
use Rattle.flat_machine.specs.Imaging.{maps_some}

-- ---- each cluster

both-true : (a b : Bool) → a ≡ true → b ≡ true → (a && b) ≡ true
both-true true b e f = f
both-true false b e f = absurd cc

range-all : (p : ℕ → Bool) (a n : ℕ) → ((k : ℕ) → a ≤ k → k < a + n → p k ≡ true) → list_all p (range_with_len a n) ≡ true
range-all p a zero each = refl
range-all p a (suc n) each =
    both-true (p a) (list_all p (range_with_len (a + 1) n)) (each a (omega arith) (omega arith))
    (range-all p (a + 1) n (λ k low high. each k (omega arith) (omega arith)))

all-range : (p : ℕ → Bool) (n : ℕ) → list_all p (range_with_len 0 n) ≡ true → (k : ℕ) → k < n → p k ≡ true
all-range p n all k below = by_test (p k) refl
  where
    by_test : (b : Bool) → p k ≡ b → p k ≡ true
    by_test true e = e
    by_test false e =
        let plain : 0 + k ≡ k = omega arith in
        let at : slice_index_or (range_with_len 0 n) k 0 ≡ k = get_or-range_with_len 0 n k 0 below ∙ plain in
        let fails : p (slice_index_or (range_with_len 0 n) k 0) ≡ false = ap p at ∙ e in
        let none = list_all_at p (range_with_len 0 n) k 0 (omega (arith, length-range_with_len 0 n)) fails in
        absurd (let both = sym all ∙ none in cc)

unallocated-true : (entry : L2Entry) → is_unallocated entry ≡ true → entry ≡ Unallocated
unallocated-true Unallocated e = refl
unallocated-true (Zero host) e = absurd cc
unallocated-true (Host host) e = absurd cc
unallocated-true Compressed e = absurd cc
unallocated-true Reserved e = absurd cc

-- the clusters of the disk of the image in a file
abbrev pub clusters_of_file : List ℕ → ℕ
clusters_of_file file = clusters_for (cluster_size (header_of file).cluster_bits) (header_of file).size

-- it maps none exactly where no cluster has an entry
abbrev pub MapsNoCluster : List ℕ → Type 0
MapsNoCluster file = (cluster : ℕ) → cluster < clusters_of_file file → file_entry file cluster ≡ Unallocated

pub maps-none : (file : List ℕ) → MapsNoCluster file → maps_some file ≡ false
unfolding maps_some
maps-none file none =
    ap not (range-all (λ cluster. is_unallocated (file_entry file cluster)) 0 (clusters_of_file file)
    (λ k low high. ap is_unallocated (none k (omega arith))))

pub none-mapped : (file : List ℕ) → maps_some file ≡ false → MapsNoCluster file
unfolding maps_some
none-mapped file e cluster below =
    unallocated-true (file_entry file cluster)
    (all-range (λ c. is_unallocated (file_entry file c)) (clusters_of_file file) (turned (maps_none file (header_of file)) e) cluster below)
  where
    turned : (b : Bool) → not b ≡ false → b ≡ true
    turned true e = refl
    turned false e = absurd cc

pub created-maps-none : (new : Creation) (file : List ℕ) → IsCreated new file → maps_some file ≡ false
created-maps-none new file created = maps-none file (λ cluster below. created_entry new file created cluster)

-- ---- what is found

mapped-bytes : (file : List ℕ) → AgreesWith (mapped_in (Some (Bytes file))) (maps_some file)
unfolding maps_some
mapped-bytes file = by_test (maps_none file (header_of file))
  where
    by_test : (b : Bool) → AgreesWith (cond b MapsNone MapsSome) (not b)
    by_test true = refl
    by_test false = refl

-- what is said of the image in a file by what is known of it
pub found_maps : (content : Option Content) (held : Option (List ℕ)) (file : List ℕ) → held ≡ Some file
    → ((known : Content) → content ≡ Some known → IsAsKnown known held) → AgreesWith (mapped_in content) (maps_some file)
found_maps None held file is known = tt
found_maps (Some (Bytes bytes)) held file is known =
    let so : held ≡ Some bytes = known (Bytes bytes) refl in
    let same : bytes ≡ file = cc in
    subst (λ b. AgreesWith (mapped_in (Some (Bytes bytes))) (maps_some b)) same (mapped-bytes bytes)
found_maps (Some (Blank new len)) held file is known =
    let blank : IsBlank new len file = subst (λ h. With h (IsBlank new len)) is (known (Blank new len) refl) in
    created-maps-none new file blank.created
found_maps (Some Unknown) held file is known = tt
