-- What the start of a backup found, and what the copy is made of.
use Rattle.std.specs.Prelude.{ℕ, ◌+◌, ◌/◌, ◌==◌, Bool, if◌then◌else◌, List, [], ◌∷◌, find, Option, Some, None}
use Rattle.blk_bits.specs.Granules.{contains}
use Rattle.flat_machine.specs.State.{Begun, Dirty}

-- the bytes whose places pass a test from the one list, and the others from the other
abbrev pub mixed : (ℕ → Bool) → ℕ → List ℕ → List ℕ → List ℕ
mixed test at (a ∷ ones) (b ∷ others) = (if test at then a else b) ∷ mixed test (at + 1) ones others
mixed test at ones others = []

-- all of the source, or the granules that the bitmap held
abbrev pub backed_up : Begun → Option Dirty → List ℕ
backed_up b None = b.source
backed_up b (Some d) = mixed (λ place. contains d.set (place / d.granularity)) 0 b.source b.target

abbrev pub begun_of : List Begun → ℕ → Option Begun
begun_of begun job = find (λ b. b.job == job) begun

abbrev pub copy_bytes : Option Begun → List ℕ
copy_bytes None = []
copy_bytes (Some b) = backed_up b b.granules
