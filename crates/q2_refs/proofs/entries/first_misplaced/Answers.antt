use Rattle.std.proofs.Common.{◌≡◌, ℕ, true, List, length, get_or, Some, ap, sym, subst, ◌∙◌, arith}
use Rattle.q2_format.specs.Entry.{block_offset}
use Rattle.q2_format.specs.Sound.{is_misplaced, bad_block}
use Rattle.q2_format.proofs.Firsts.{lowest_at}
use Rattle.q2_refs.proofs.entries.first_misplaced.Goals as goal

pub returns-then-is_misplaced : goal.returns-then-is_misplaced
unfolding bad_block
returns-then-is_misplaced c =
    let table : List ℕ = c.args.table.now in
    let is = c.block_offset-offset.ensures in
    let passes = subst (λ (o : ℕ). is_misplaced c.args.c c.args.len o ≡ true) is (sym c.is_misplaced.ensures ∙ c.if-is_misplaced.true) in
    let at = lowest_at (λ i. is_misplaced c.args.c c.args.len (block_offset (get_or table i 0))) (length table) c.loop-word.word-index (omega arith) passes c.loop-word.invariant in
    rw at (ap Some is)
