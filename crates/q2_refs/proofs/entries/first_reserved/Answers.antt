use Rattle.std.proofs.Common.{ℕ, List, length, get_or, arith}
use Rattle.q2_format.specs.Entry.{has_reserved_in_refcount_table}
use Rattle.q2_format.specs.Sound.{reserved_in_refcount_table}
use Rattle.q2_format.proofs.Firsts.{lowest_at}
use Rattle.q2_refs.proofs.entries.first_reserved.Goals as goal

pub returns-then-has_reserved : goal.returns-then-has_reserved
unfolding reserved_in_refcount_table
returns-then-has_reserved c =
    let table : List ℕ = c.args.table.now in
    let at = lowest_at (λ i. has_reserved_in_refcount_table (get_or table i 0)) (length table) c.loop-index.index (omega arith) (cc) c.loop-index.invariant in
    cc
