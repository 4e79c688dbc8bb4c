-- The causes of faults: each one named is a rise of its count, and no rise is named twice, but where the count is at its last value.
use Rattle.std.specs.Prelude.{◌≡◌, ℕ, ◌+◌, ◌-◌, ◌*◌, ◌≤◌, ◌==◌, if◌then◌else◌, List, [], ◌∷◌, slice_get, drop, fold, codes, nat_eq, AllPairs, All, Option, Some, None, option_and_then}
use Rattle.std.specs.List.{slice_split, starts_with, filter_map}
use Rattle.std.specs.Str.{bytes_eq}
use Rattle.blk_base.specs.Counts.{HasFailedSince}
use Rattle.blk_base.specs.declared.fault.Fault.TheVariants as faults
use Rattle.blk_base.specs.declared.fault.FaultAt.{FaultAt}
use Rattle.blk_base.specs.declared.fault.FaultFrom.{FaultFrom}
use Rattle.blk_base.specs.declared.fault.FaultFrom.TheVariants.{Store, Dev, Sink}
use Rattle.blk_base.specs.declared.fault.Outcome.{Outcome}
use Rattle.blk_base.specs.declared.fault.Outcome.TheVariants.{Torn, Io}
use Rattle.blk_history.specs.Fold.{With}
use Rattle.flat_machine.specs.Replies.{desc_of}
use Rattle.blk_history.specs.declared.entry.JobEnd.{JobEnd}
use Rattle.blk_history.specs.declared.entry.JobEnd.TheVariants.{Failed}
use Rattle.blk_history.specs.declared.event.Event.{Event}
use Rattle.blk_history.specs.declared.event.Event.TheVariants.{Piece, Reply, End}

-- ---- the fault that an entry names: whose, and its count

abbrev pub fault_at : FaultFrom → ℕ → FaultAt
fault_at source count = record { from = source; count = count }

abbrev pub named_by : Outcome → Option FaultAt
named_by (Torn done dev count) = Some (fault_at (Dev dev) count)
named_by (Io dev count) = Some (fault_at (Dev dev) count)
named_by outcome = None

abbrev pub named_at_end : JobEnd → Option FaultAt
named_at_end (Failed (faults.Io dev count)) = Some (fault_at (Dev dev) count)
named_at_end outcome = None

-- the number that digits write
abbrev pub value_of : List ℕ → ℕ
value_of digits = fold (λ n digit. n * 10 + (digit - 48)) 0 digits

abbrev pub fault_source : List ℕ → Option FaultFrom
fault_source word =
    if bytes_eq word (codes "store") then Some Store
    else if starts_with nat_eq word (codes "dev")
    then Some (Dev (record { 0 = value_of (drop 3 word) }))
    else None

-- `io store COUNT` and `io devN COUNT`
abbrev pub named_in_words : List (List ℕ) → Option FaultAt
named_in_words (verb ∷ source ∷ count ∷ []) =
    if bytes_eq verb (codes "io")
    then option_and_then (λ from. Some (fault_at from (value_of count))) (fault_source source)
    else None
named_in_words words = None

-- that of a refused command
abbrev pub named_in_text : List ℕ → Option FaultAt
named_in_text text =
    option_and_then (λ desc. named_in_words (slice_split (λ byte. byte == 32) desc)) (desc_of text)

abbrev pub named_in : Event → Option FaultAt
named_in (Piece g r k outcome got) = named_by outcome
named_in (Reply line given command text) = named_in_text text
named_in (End job outcome offset) = named_at_end outcome
named_in e = None

-- ---- counts of the store and of the openings of a run, by number

pub record Counts : Type 0 where
  pub store : ℕ
  pub devices : List ℕ

abbrev pub source_count : Counts → FaultFrom → Option ℕ
source_count counts Store = Some counts.store
source_count counts (Dev dev) = slice_get counts.devices dev.0
source_count counts Sink = None

-- ---- all that a history names

abbrev pub faults_of : List Event → List FaultAt
faults_of h = filter_map named_in h

-- the count lies above the one at the opening, and is at most the one at the end
pub record IsBetweenCounts (opening closing : Counts) (fault : FaultAt) : Type 0 where
  pub risen : With (source_count opening fault.from) (λ before. HasFailedSince before fault.count)
  pub reached : With (source_count closing fault.from) (λ now. fault.count ≤ now)

-- a count stands still at its last value
abbrev pub Differ : FaultAt → FaultAt → Type 0
Differ a b = a.from ≡ b.from → a.count ≡ b.count → a.count ≡ 18446744073709551615

-- each fault that the history names is a rise, and no two entries name the same
pub record AreLicensed (opening closing : Counts) (h : List Event) : Type 0 where
  pub rises : All (IsBetweenCounts opening closing) (faults_of h)
  pub once : AllPairs Differ (faults_of h)
