use Rattle.std.proofs.Common.{◌≡◌, ◌+◌, ◌≤◌, ◌++◌}
use Rattle.blk_lock.specs.Stamps.{made_by_actor}
use Rattle.blk_lock.specs.Views.{view, lock_of}
use Rattle.lock_probe.specs.Replay.{actor_of, script}
use Rattle.lock_probe.proofs.calls.write_script.Given as goal

abbrev pub invariant-loop-value : goal.invariant-loop-value
invariant-loop-value g l = record {
  lock : lock_of l.pass ≡ lock_of l.initial.pass;
  same : view l.pass ≡ record (view l.initial.pass) { seen = (view l.pass).seen; room = (view l.pass).room };
  room : l.rounds ≤ (view l.pass).room.entries + l.value;
  own : made_by_actor actor_of l.actor (view l.pass).seen ≡ made_by_actor actor_of l.actor (view l.initial.pass).seen ++ script l.actor l.value;
}
