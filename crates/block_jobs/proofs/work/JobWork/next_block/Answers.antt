use Rattle.std.proofs.Common.{◌≡◌, ◌<◌, ◌≤◌, ◌+◌, ◌-◌, ◌/◌, ◌∙◌, ℕ, false, Some, None, sym, subst}
use Rattle.block_jobs.specs.Work.{JobWork, block_count, is_next, next_block}
use Rattle.block_jobs.proofs.PartLemmas.{falls, next_found, next_none, next_open, seen_within}
use Rattle.block_jobs.proofs.work.JobWork.next_block.Goals as goal

abbrev NoneBelow : ℕ → JobWork → Type 0
NoneBelow seen w = (b : ℕ) → b < seen → is_next w b ≡ false

pub returns-else-has_row : goal.returns-else-has_row
returns-else-has_row c =
    let w : JobWork = record {
      job = c.self.inside.job;
      size = c.self.inside.size;
      part = c.self.inside.part;
      left = c.self.inside.left;
      rows = c.self.inside.copies.rows;
      room = c.self.inside.copies.room;
      met = c.self.inside.met;
    } in
    let below : NoneBelow c.loop-part.seen w = subst (NoneBelow c.loop-part.seen) (sym c.self.view_is) c.loop-part.invariant.1 in
    subst (λ (x : JobWork). Some (c.in-Some.part / (65536 / c.self.inside.part)) ≡ next_block x) c.self.view_is
    (sym (next_found w c.self.invariant c.loop-part.seen c.in-Some.part below c.in-Some.ensures (sym c.has_row.ensures ∙ c.if-has_row.false)))

pub returns : goal.returns
returns c =
    let w : JobWork = record {
      job = c.self.inside.job;
      size = c.self.inside.size;
      part = c.self.inside.part;
      left = c.self.inside.left;
      rows = c.self.inside.copies.rows;
      room = c.self.inside.copies.room;
      met = c.self.inside.met;
    } in
    let below : NoneBelow c.loop-part.seen w = subst (NoneBelow c.loop-part.seen) (sym c.self.view_is) c.loop-part.invariant.1 in
    sym (subst (λ (x : JobWork). next_block x ≡ None) c.self.view_is (next_none w c.self.invariant c.loop-part.seen below c.in_default.ensures))

pub loop-part-smaller : goal.loop-part-smaller
loop-part-smaller c =
    let w : JobWork = record {
      job = c.self.inside.job;
      size = c.self.inside.size;
      part = c.self.inside.part;
      left = c.self.inside.left;
      rows = c.self.inside.copies.rows;
      room = c.self.inside.copies.room;
      met = c.self.inside.met;
    } in
    subst (λ (x : JobWork). block_count x.size - (c.in-Some.part / (65536 / c.self.inside.part) + 1) < block_count x.size - c.loop-part.seen) c.self.view_is
    (falls w c.self.invariant c.loop-part.seen c.in-Some.part c.in-Some.ensures)

pub loop-part-preserved : goal.loop-part-preserved
loop-part-preserved c =
    let w : JobWork = record {
      job = c.self.inside.job;
      size = c.self.inside.size;
      part = c.self.inside.part;
      left = c.self.inside.left;
      rows = c.self.inside.copies.rows;
      room = c.self.inside.copies.room;
      met = c.self.inside.met;
    } in
    let below : NoneBelow c.loop-part.seen w = subst (NoneBelow c.loop-part.seen) (sym c.self.view_is) c.loop-part.invariant.1 in
    subst
    (λ (x : JobWork). (c.in-Some.part / (65536 / c.self.inside.part) + 1 ≤ block_count x.size)
    × ((b : ℕ) → b < c.in-Some.part / (65536 / c.self.inside.part) + 1 → is_next x b ≡ false)) c.self.view_is (
      seen_within w c.self.invariant c.loop-part.seen c.in-Some.part c.in-Some.ensures,
      next_open w c.self.invariant c.loop-part.seen c.in-Some.part below c.in-Some.ensures (sym c.has_row.ensures ∙ c.if-has_row.true),
    )
