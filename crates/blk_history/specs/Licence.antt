-- The causes of faults: each one named is a rise of that device's count, and no rise is named twice.
use Rattle.std.specs.Prelude.{◌≡◌, ℕ, ◌<◌, List, [], ◌∷◌, length, set, get_or, Option, Some, None}
use Rattle.blk_base.specs.Counts.{HasFailedSince}
use Rattle.blk_base.specs.declared.fault.Outcome.{Outcome}
use Rattle.blk_base.specs.declared.fault.Outcome.TheVariants.{Good, Torn, Io, NoSpace}
use Rattle.blk_history.specs.Fold.{run, Each}
use Rattle.blk_history.specs.declared.event.Event.{Event}
use Rattle.blk_history.specs.declared.event.Event.TheVariants.{Piece}

-- a device and its count of faults, as an entry names them
pub record Named : Type 0 where
  pub dev : ℕ
  pub count : ℕ

abbrev pub device_fault_by : Outcome → Option Named
device_fault_by Good = None
device_fault_by (Torn done dev count) = Some (record { dev = dev.0; count = count })
device_fault_by (Io dev count) = Some (record { dev = dev.0; count = count })
device_fault_by (NoSpace dev) = None

abbrev pub device_fault_in : Event → Option Named
device_fault_in (Piece g r k outcome got) = device_fault_by outcome
device_fault_in e = None

-- for each device the count that was named last, at first that of its opening
abbrev pub last_named : List ℕ → Option Named → List ℕ
last_named counts None = counts
last_named counts (Some n) = set counts n.dev n.count

-- it is a device that was opened, and its count rose
abbrev pub RoseSince : List ℕ → Option Named → Type 0
RoseSince counts None = Unit {0}
RoseSince counts (Some n) = (n.dev < length counts) × HasFailedSince (get_or counts n.dev 0) n.count

-- each fault's count lies above the one named before it, so no two name the same
abbrev pub counted : List ℕ → List Event → List ℕ
counted = run (λ counts e. last_named counts (device_fault_in e))

abbrev pub NameRises : List ℕ → List Event → Type 0
NameRises =
    Each (λ counts e. last_named counts (device_fault_in e))
    (λ counts e. RoseSince counts (device_fault_in e))

-- no entry names a fault
abbrev pub NameNone : List Event → Type 0
NameNone [] = Unit {0}
NameNone (e ∷ es) = (device_fault_in e ≡ None) × NameNone es
