-- The id that a node gets: the lowest that no node has.
use Rattle.std.specs.Prelude.{ℕ, zero, suc, ◌+◌, ◌<◌, nat_eq, if◌then◌else◌, List, Contains}
use Rattle.std.specs.List.{list_any}

pub record IsLowestFree (taken : List ℕ) (id : ℕ) : Type 0 where
  pub free : ¬ Contains taken id
  pub lowest : (below : ℕ) → below < id → Contains taken below

-- the lowest of so many ids from one on that isn't taken, or else the one behind them
abbrev pub lowest_from : ℕ → ℕ → List ℕ → ℕ
lowest_from zero id taken = id
lowest_from (suc more) id taken =
    if list_any (nat_eq id) taken then lowest_from more (id + 1) taken else id

-- among 64, which a graph has at most
unfoldable pub lowest_free : List ℕ → ℕ
lowest_free taken = lowest_from 64 0 taken
