-- The transfers in flight: the rows in the order of their beginning, and how many there is room for.
use Rattle.std.specs.Prelude.{ℕ, ◌==◌, Bool, not, ◌&&◌, List, filter}
use Rattle.std.specs.List.{list_any}
use Rattle.blk_copy.specs.declared.transfers.Transfer.{Transfer}

-- a row of this job and cluster
abbrev pub is_of : ℕ → ℕ → Transfer → Bool
is_of job cluster row = (row.job == job) && (row.cluster == cluster)

abbrev pub has_row : ℕ → ℕ → List Transfer → Bool
has_row job cluster rows = list_any (is_of job cluster) rows

-- just this row is there, its position too
abbrev pub is_in_flight : Transfer → List Transfer → Bool
is_in_flight t rows =
    list_any (λ row. is_of t.job t.cluster row && (row.position == t.position)) rows

-- all rows but that of this job and cluster
abbrev pub without_row : ℕ → ℕ → List Transfer → List Transfer
without_row job cluster rows = filter (λ row. not (is_of job cluster row)) rows
