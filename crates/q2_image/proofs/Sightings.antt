-- What one more naming leaves.
use Rattle.std.proofs.Common.{◌≡◌, ℕ, ◌+◌, ◌/◌, ◌<◌, ◌≤◌, ◌≢◌, Bool, true, false, cond, not, ◌&&◌, eqb, ltb, List, length, take, get_or, refl, sym, ap, ◌∙◌, arith, count_by, eq-eqb, Some, None, lt-ltb, le-ltb}
use Rattle.std.proofs.lemmas.Bool.Decides.{nat_tests}
use Rattle.std.proofs.lemmas.List.Sums.{count_by_more_yes, count_by_more_no}
use Rattle.std.specs.Option.{option_map}
use Rattle.q2_format.specs.References.{names_cluster}
use Rattle.q2_format.specs.Sound.{lowest, Refusal}
use Rattle.q2_format.specs.Sound as sound
use Rattle.q2_format.proofs.Firsts.{lowest_at, none_lowest, lowest_alike}
use Rattle.q2_image.specs.Opening.{overlap_stop, uncounted_stop}
use Rattle.q2_image.specs.Seen.{Sightings, IsSeen, named_at, named_once, named_in_run, times_named, offset_in, twice_in, is_uncounted}
use Rattle.q2_image.specs.declared.seen.Naming.{Naming}

-- what is seen depends on how often alone
pub seen_alike : (u v : ℕ → ℕ) (s : Sightings) → ((k : ℕ) → u k ≡ v k) → IsSeen u s → IsSeen v s
seen_alike u v s same seen = record {
  named = λ k h. seen.named k h ∙ ap (ltb 0) (same k);
  bound = seen.bound;
  before = λ k h. let e = same k in let b = seen.before k h in omega arith;
  again = λ h. let e = same s.twice in let b = seen.again h in omega arith;
}

-- a run that is one longer
pub run-more : (first n k : ℕ) → named_in_run first (n + 1) k ≡ named_in_run first n k + named_at (first + n) k
run-more first n k = grind (arith, nat_tests)

-- no run
pub run-none : (first k : ℕ) → named_in_run first 0 k ≡ 0
run-none first k = grind (arith, nat_tests)

-- an offset that names none, and one that names a cluster
pub once-none : (c offset k : ℕ) → offset ≡ 0 → named_once c offset k ≡ 0
once-none c offset k none = let test = eq-eqb offset 0 none in rw test refl

pub once-some : (c offset k : ℕ) → offset ≢ 0 → named_once c offset k ≡ named_at (offset / c) k
once-some c offset k some = grind (arith, nat_tests)

count_more : (p : ℕ → Bool) (words : List ℕ) (i : ℕ) (b : Bool) → i < length words → p (get_or words i 0) ≡ b
    → count_by p (take (i + 1) words) ≡ count_by p (take i words) + cond b 1 0
count_more p words i true h e = let m = count_by_more_yes p words i 0 h e in omega arith
count_more p words i false h e = let m = count_by_more_no p words i 0 h e in omega arith

pub words-more : (c : ℕ) (kind : Naming) (words : List ℕ) (i k : ℕ) → i < length words
    → times_named c kind (take (i + 1) words) k ≡ times_named c kind (take i words) k + named_once c (offset_in kind (get_or words i 0)) k
words-more c kind words i k h = count_more (λ word. names_cluster c k (offset_in kind word)) words i _ h refl

below_same : (n m k : ℕ) → eqb n m ≡ true → k < m → k < n
below_same n m k same h = grind (arith, nat_tests)

below_end : (n m : ℕ) → n ≤ m → eqb n m ≡ false → n < m
below_end n m h apart = grind (arith, nat_tests)

-- the lowest cluster that was named twice, by the number that is kept of it
lowest_by : (uses : ℕ → ℕ) (s : Sightings) → IsSeen uses s → (b : Bool) → eqb s.twice (length s.named) ≡ b
    → lowest (λ k. ltb 1 (uses k)) (length s.named) ≡ cond b None (Some s.twice)
lowest_by uses s seen true none = none_lowest (λ k. ltb 1 (uses k)) (length s.named)
    (λ k h. le-ltb 1 (uses k) (seen.before k (below_same s.twice (length s.named) k none h)))
lowest_by uses s seen false some =
    let within : s.twice < length s.named = below_end s.twice (length s.named) seen.bound some in
    lowest_at (λ k. ltb 1 (uses k)) (length s.named) s.twice within (lt-ltb 1 (uses s.twice) (seen.again within))
    (λ j below. le-ltb 1 (uses j) (seen.before j below))

pub twice_lowest : (uses : ℕ → ℕ) (s : Sightings) → IsSeen uses s → overlap_stop uses (length s.named) ≡ option_map sound.Overlap (twice_in s)
twice_lowest uses s seen = ap (option_map sound.Overlap) (lowest_by uses s seen (eqb s.twice (length s.named)) refl)

above_zero : (n : ℕ) → ltb 0 n ≡ not (eqb n 0)
above_zero n = grind (arith, nat_tests)

-- a cluster that is named and not counted, by how often it is named
pub uncounted_seen : (uses : ℕ → ℕ) (s : Sightings) (counts : List ℕ) → IsSeen uses s
    → uncounted_stop uses counts (length s.named) ≡ option_map sound.Refcount (lowest (is_uncounted s.named counts) (length s.named))
uncounted_seen uses s counts seen = ap (option_map sound.Refcount)
    (lowest_alike (λ k. not (eqb (uses k) 0) && eqb (get_or counts k 0) 0) (is_uncounted s.named counts) (length s.named)
    (λ k h. ap (λ (b : Bool). b && eqb (get_or counts k 0) 0) (sym (seen.named k h ∙ above_zero (uses k)))))
