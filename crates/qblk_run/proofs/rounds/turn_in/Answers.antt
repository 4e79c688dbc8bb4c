use Rattle.std.proofs.Common.{refl, arith}
use Rattle.std.specs.Prelude.{slice_index_or}
use Rattle.qblk_run.proofs.Lists.{at-index}
use Rattle.qblk_run.proofs.Sums.{entries-one, bytes-one}
use Rattle.qblk_run.proofs.rounds.turn_in.Goals as goal

pub guest_turn-requires-clause-task : goal.guest_turn-requires-clause-task
guest_turn-requires-clause-task g c =
    c.requires.can.1.guests c.args.guest (slice_index_or c.args.tasks.now c.args.guest c.index-tasks-guest.result) (at-index c.args.tasks.now c.args.guest c.index-tasks-guest.result c.requires.known)

pub guest_turn-requires-clause-entries : goal.guest_turn-requires-clause-entries
guest_turn-requires-clause-entries g c =
    let one = entries-one c.args.tasks.now c.args.guest (slice_index_or c.args.tasks.now c.args.guest c.index-tasks-guest.result) (at-index c.args.tasks.now c.args.guest c.index-tasks-guest.result c.requires.known) in
    let all = c.requires.can.1.entries in
    omega arith

pub guest_turn-requires-clause-bytes : goal.guest_turn-requires-clause-bytes
guest_turn-requires-clause-bytes g c =
    let one = bytes-one c.args.tasks.now c.args.guest (slice_index_or c.args.tasks.now c.args.guest c.index-tasks-guest.result) (at-index c.args.tasks.now c.args.guest c.index-tasks-guest.result c.requires.known) in
    let all = c.requires.can.1.bytes in
    omega arith

pub returns-clause-turn : goal.returns-clause-turn
returns-clause-turn g c = record {
  task = slice_index_or c.args.tasks.now c.args.guest c.index-tasks-guest.result;
  now = c.guest_turn.new.task;
  there = at-index c.args.tasks.now c.args.guest c.index-tasks-guest.result c.requires.known;
  after_is = refl;
  turn = c.guest_turn.ensures.turn;
}
