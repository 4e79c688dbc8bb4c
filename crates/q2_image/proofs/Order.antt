-- The first refusal of stages one after another.
use Rattle.std.proofs.Common.{◌≡◌, ℕ, List, [], ◌∷◌, length, Option, Some, None, IfSome, Result, Ok, Err, refl, sym, subst, ◌∙◌}
use Rattle.q2_format.specs.Header.{first, refused_where}
use Rattle.q2_format.specs.Sound.{Refusal, is_header_full}
use Rattle.q2_format.specs.Sound as sound
use Rattle.q2_format.specs.declared.header.Header.{Header}
use Rattle.q2_image.specs.declared.stop.ImageStop.{ImageStop}
use Rattle.q2_image.specs.Opening.{Judges, Names, refusal_of, overlap_stop, uncounted_stop, names_stops}
use Rattle.q2_image.specs.Seen.{Sightings}

named_head : (o : Option Refusal) (rest : List (Option Refusal)) (named : Option Refusal) → IfSome named (λ n. o ≡ Some n) → IfSome named (λ n. first (o ∷ rest) ≡ Some n)
named_head o rest None is = tt
named_head o rest (Some n) is = rw is refl

-- a stop that names the first of a list of refusals names the list's first
pub names_head : (o : Option Refusal) (rest : List (Option Refusal)) (stop : ImageStop) → Names o stop → Names (first (o ∷ rest)) stop
names_head o rest stop is = named_head o rest (refusal_of stop) is

-- and so it does behind one that isn't there
pub names_tail : (o : Option Refusal) (rest : List (Option Refusal)) (stop : ImageStop) → o ≡ None → Names (first rest) stop → Names (first (o ∷ rest)) stop
names_tail o rest stop none is = rw none is

pub uncounted_names : (h : Header) (uses : ℕ → ℕ) (counts : List ℕ) (n : ℕ) (s : Sightings) (stop : ImageStop) → length s.named ≡ n
    → overlap_stop uses (length s.named) ≡ None → Names (uncounted_stop uses counts (length s.named)) stop → Names (names_stops h uses counts n) stop
uncounted_names h uses counts n s stop len none is =
    let P : ℕ → Type 0 = λ m. Names (uncounted_stop uses counts m) stop in
    let N : ℕ → Type 0 = λ m. overlap_stop uses m ≡ None in
    names_tail (overlap_stop uses n) (uncounted_stop uses counts n ∷ refused_where (is_header_full h) sound.HeaderFull ∷ []) stop (subst N len none)
    (names_head (uncounted_stop uses counts n) (refused_where (is_header_full h) sound.HeaderFull ∷ []) stop (subst P len is))

-- behind what is named twice and what isn't counted only a full header is refused
alone : (o : Option Refusal) → first (o ∷ []) ≡ o
alone None = refl
alone (Some r) = refl

behind : (o : Option Refusal) (rest : List (Option Refusal)) → o ≡ None → first rest ≡ None → first (o ∷ rest) ≡ None
behind o rest none is = rw none is

pub full_judges : (A : Type 0) (h : Header) (uses : ℕ → ℕ) (counts : List ℕ) (n : ℕ) (result : Result A ImageStop) → overlap_stop uses n ≡ None → uncounted_stop uses counts n ≡ None
    → Judges (refused_where (is_header_full h) sound.HeaderFull) result → Judges (names_stops h uses counts n) result
full_judges A h uses counts n (Ok a) once counted none =
    let full : Option Refusal = refused_where (is_header_full h) sound.HeaderFull in
    behind (overlap_stop uses n) (uncounted_stop uses counts n ∷ full ∷ []) once (behind (uncounted_stop uses counts n) (full ∷ []) counted (alone full ∙ none))
full_judges A h uses counts n (Err stop) once counted is =
    let full : Option Refusal = refused_where (is_header_full h) sound.HeaderFull in
    names_tail (overlap_stop uses n) (uncounted_stop uses counts n ∷ full ∷ []) stop once (names_tail (uncounted_stop uses counts n) (full ∷ []) stop counted (names_head full [] stop is))

-- the same where the clusters were counted elsewhere
pub judges_at : (A : Type 0) (h : Header) (uses : ℕ → ℕ) (counts : List ℕ) (n m : ℕ) (result : Result A ImageStop) → n ≡ m → overlap_stop uses m ≡ None
    → (overlap_stop uses n ≡ None → Judges (names_stops h uses counts n) result) → Judges (names_stops h uses counts m) result
judges_at A h uses counts n m result same once judged =
    let N : ℕ → Type 0 = λ k. overlap_stop uses k ≡ None in
    let J : ℕ → Type 0 = λ k. Judges (names_stops h uses counts k) result in
    subst J same (judged (subst N (sym same) once))

-- a stop that names no refusal
pub none_named : (refusal : Option Refusal) (stop : ImageStop) → refusal_of stop ≡ None → Names refusal stop
none_named refusal stop none = rw none tt
