-- All that an image names lies below a bound, and is named in one pass.
use Rattle.std.proofs.Common.{◌≡◌, ℕ, ◌+◌, ◌*◌, ◌/◌, ◌<◌, ◌≤◌, false, List, length, get_or, arith}
use Rattle.q2_format.specs.Sizes.{cluster_size, clusters_for}
use Rattle.q2_format.specs.References.{structure_uses}
use Rattle.q2_format.specs.Sound.{is_misplaced}
use Rattle.q2_format.specs.declared.header.Header.{Header}
use Rattle.q2_format.proofs.Consistent.{placed_below}
use Rattle.q2_image.specs.Seen.{Sightings, IsSeen, named_at, named_in_run, times_named, AreNamedBelow, offset_in}
use Rattle.q2_image.specs.Opening.{uses_in}
use Rattle.q2_image.specs.declared.seen.Naming.{Naming}
use Rattle.q2_image.specs.declared.seen.Naming.TheVariants.{Block, Table, Own}
use Rattle.q2_image.proofs.Sightings.{seen_alike}

-- words whose offsets lie in their places name clusters of the file
pub below_by_place : (c len n : ℕ) (kind : Naming) (words : List ℕ) → 0 < c → clusters_for c len ≤ n
    → ((i : ℕ) → i < length words → is_misplaced c len (offset_in kind (get_or words i 0)) ≡ false) → AreNamedBelow c kind words n
below_by_place c len n kind words some room placed = λ i h.
    let below = placed_below c len (offset_in kind (get_or words i 0)) some (placed i h) in omega arith

-- the names one after another
abbrev pub uses_so_far : Header → List ℕ → List ℕ → List ℕ → ℕ → ℕ
uses_so_far h table l1 words k = let c = cluster_size h.cluster_bits in
    (((((0 + named_at 0 k) + named_in_run (h.ref_offset / c) h.ref_clusters k) + times_named c Block table k)
    + named_in_run (h.l1_offset / c) (clusters_for c (8 * h.l1_size)) k) + times_named c Table l1 k) + times_named c Own words k

-- the order does not matter
pub named_all : (h : Header) (table l1 words : List ℕ) (s : Sightings) → IsSeen (uses_so_far h table l1 words) s → IsSeen (uses_in h table l1 words) s
unfolding structure_uses
named_all h table l1 words s seen = seen_alike _ _ _ (λ k. omega arith) seen

-- the same by numbers that were computed before
pub named_by_numbers : (h : Header) (table l1 words : List ℕ) (s : Sightings) (c ref_clusters l1_clusters : ℕ)
    → c ≡ cluster_size h.cluster_bits → ref_clusters ≡ h.ref_clusters → l1_clusters ≡ clusters_for (cluster_size h.cluster_bits) (8 * h.l1_size)
    → IsSeen (λ k. (((((0 + named_at 0 k) + named_in_run (h.ref_offset / c) ref_clusters k) + times_named c Block table k)
    + named_in_run (h.l1_offset / c) l1_clusters k) + times_named c Table l1 k) + times_named c Own words k) s
    → IsSeen (uses_in h table l1 words) s
named_by_numbers h table l1 words s c ref_clusters l1_clusters size refs l1s seen = named_all h table l1 words s (rw (size, refs, l1s) at seen)
