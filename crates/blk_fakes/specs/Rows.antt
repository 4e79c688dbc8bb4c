-- How a log keeps its writes: the bytes of all stand one after the other.
use Rattle.std.specs.Prelude.{ℕ, ◌≤◌, List, [], ◌∷◌, slice_range}
use Rattle.blk_base.specs.Content.{Write}
use Rattle.blk_fakes.specs.declared.log.Row.{Row}

abbrev pub logged_write : List ℕ → Row → Write
logged_write bytes row = record { offset = row.off; bytes = slice_range bytes row.from row.to }

-- each row's bytes are among so many
abbrev pub AllWithin : ℕ → List Row → Type 0
AllWithin n [] = Unit {0}
AllWithin n (r ∷ rows) = (r.from ≤ r.to) × (r.to ≤ n) × AllWithin n rows
