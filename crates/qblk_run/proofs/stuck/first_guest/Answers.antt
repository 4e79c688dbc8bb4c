use Rattle.std.proofs.Common.{◌≡◌, Some, refl, arith}
use Rattle.std.specs.Prelude.{slice_get}
use Rattle.qblk_run.proofs.Lists.{get-is, below-get}
use Rattle.qblk_run.proofs.Firsts.{next-done}
use Rattle.qblk_run.proofs.stuck.first_guest.Goals as goal

pub returns-in-Some : goal.returns-in-Some
returns-in-Some c = λ w rests.
    let item = c.index-tasks-guest.result in
    let there : slice_get c.args.tasks.now c.loop-guest.guest ≡ Some item = get-is c.args.tasks.now c.loop-guest.guest item (omega arith) c.index-tasks-guest.is in
    let waits = c.in-Some.ensures w c.loop-guest.guest (rests c.loop-guest.guest item (omega arith) there) in
    (c.loop-guest.guest, refl, record { task = item; there = there; runs = waits.0; waits = waits.1; before = c.loop-guest.invariant w rests })

pub loop-guest-preserved : goal.loop-guest-preserved
loop-guest-preserved c = λ w rests other task less is.
    let item = c.index-tasks-guest.result in
    let there : slice_get c.args.tasks.now c.loop-guest.guest ≡ Some item = get-is c.args.tasks.now c.loop-guest.guest item (omega arith) c.index-tasks-guest.is in
    next-done c.args.tasks.now c.loop-guest.guest item there (c.in_default.ensures w c.loop-guest.guest (rests c.loop-guest.guest item (omega arith) there)) (c.loop-guest.invariant w rests) other task less is

pub returns : goal.returns
returns c = λ w rests g task is.
    let below = below-get c.args.tasks.now g task is in
    c.loop-guest.invariant w rests g task (omega arith) is
