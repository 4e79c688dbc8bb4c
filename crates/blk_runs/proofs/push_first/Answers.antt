use Rattle.std.proofs.Common.{ap, length, arith, length-drop}
use Rattle.std.proofs.lemmas.List.{take_rest}
use Rattle.blk_runs.proofs.FirstRun.{run_room, written_next, written_last}
use Rattle.blk_runs.proofs.push_first.Goals as goal

pub push_run-requires : goal.push_run-requires
push_run-requires c =
    let within = c.front_count-more.ensures.within in
    let enough = run_room c.args.byte c.front_count-more.result (omega arith) in
    omega (arith, enough, within)

pub push_ascii-requires-clause-room : goal.push_ascii-requires-clause-room
push_ascii-requires-clause-room c =
    let within = c.front_count-more.ensures.within in
    let enough = run_room c.args.byte c.front_count-more.result (omega arith) in
    omega (arith, enough, within, c.push_run.ensures.room)

pub returns-then-not-is_empty-clause-written : goal.returns-then-not-is_empty-clause-written
returns-then-not-is_empty-clause-written c =
    rw (take_rest c.args.after.now c.front_count-more.result)
    (written_next c.args.byte c.front_count-more.result c.args.after.now _ _ _ c.front_count-more.ensures (grind (arith, ap length (take_rest c.args.after.now c.front_count-more.result))) c.push_run.ensures.written c.push_ascii.ensures.bytes)

pub returns-then-not-is_empty-clause-room : goal.returns-then-not-is_empty-clause-room
returns-then-not-is_empty-clause-room c =
    let within = c.front_count-more.ensures.within in
    let enough = run_room c.args.byte c.front_count-more.result (omega arith) in
    rw (take_rest c.args.after.now c.front_count-more.result) (omega (arith, enough, within, length-drop c.front_count-more.result c.args.after.now, c.push_run.ensures.room))

pub returns-else-not-is_empty-clause-written : goal.returns-else-not-is_empty-clause-written
returns-else-not-is_empty-clause-written c =
    rw (take_rest c.args.after.now c.front_count-more.result)
    (written_last c.args.byte c.front_count-more.result c.args.after.now _ _ c.front_count-more.ensures (grind (arith, ap length (take_rest c.args.after.now c.front_count-more.result))) c.push_run.ensures.written)

pub returns-else-not-is_empty-clause-room : goal.returns-else-not-is_empty-clause-room
returns-else-not-is_empty-clause-room c =
    let within = c.front_count-more.ensures.within in
    let enough = run_room c.args.byte c.front_count-more.result (omega arith) in
    rw (take_rest c.args.after.now c.front_count-more.result) (omega (arith, enough, within, length-drop c.front_count-more.result c.args.after.now, c.push_run.ensures.room))
