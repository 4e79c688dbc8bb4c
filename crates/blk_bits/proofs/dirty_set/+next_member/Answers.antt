use Rattle.std.proofs.Common.{◌≡◌, ◌+◌, ◌/◌, ◌∷◌, suc, arith, rules, ap, length, subst}
use Rattle.blk_bits.specs.Granules.{HasNoneFrom, LeastFrom}
use Rattle.blk_bits.specs.Words.{AreAbove}
use Rattle.blk_bits.proofs.FindLemmas.{none-above, least-above}
use Rattle.blk_bits.proofs.TowerLemmas.{levels-above, next-level, last-level, none-at-top}
use Rattle.blk_bits.proofs.dirty_set.+next_member.Goals as goal

pub next_member-requires : goal.next_member-requires
next_member-requires t c =
    let above : AreAbove c.args.level.now (c.in_ok-next.next.now ∷ c.in_ok-next.rest.now) = subst (AreAbove c.args.level.now) c.in_ok-next.ensures.cases.0 c.requires in
    (omega (arith, c.in_ok-next.ensures.cases.1), levels-above c.args.level.now c.in_ok-next.next.now c.in_ok-next.rest.now above)

pub returns-in_err-word : goal.returns-in_err-word
returns-in_err-word t c =
    let above : AreAbove c.args.level.now (c.in_ok-next.next.now ∷ c.in_ok-next.rest.now) = subst (AreAbove c.args.level.now) c.in_ok-next.ensures.cases.0 c.requires in
    let next = next-level c.args.level.now c.in_ok-next.next.now c.in_ok-next.rest.now above in
    rw c.from_residual-in_err-word.ensures (none-above c.args.level.now c.args.from c.in_default.ensures
    (subst (λ set. HasNoneFrom set (c.args.from / 64 + 1)) next c.in_err-word.ensures))

pub returns : goal.returns
returns t c =
    let above : AreAbove c.args.level.now (c.in_ok-next.next.now ∷ c.in_ok-next.rest.now) = subst (AreAbove c.args.level.now) c.in_ok-next.ensures.cases.0 c.requires in
    let next = next-level c.args.level.now c.in_ok-next.next.now c.in_ok-next.rest.now above in
    least-above c.args.level.now c.args.from c.in_ok-word.word c.first_in_word.result c.in_default.ensures
    (subst (λ set. LeastFrom set (c.args.from / 64 + 1) c.in_ok-word.word) next c.in_ok-word.ensures) c.first_in_word.ensures
