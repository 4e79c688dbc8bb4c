use Rattle.qblk_run.proofs.session.play.Goals as goal

pub returns-in-Ok-clause-made : goal.returns-in-Ok-clause-made
returns-in-Ok-clause-made g c = record {
  now = c.run_rounds-went.new.world;
  after = c.run_rounds-went.new.actors;
  so = c.in-Ok.ensures.goes;
  rest = c.in-Ok.ensures.rest;
  stays = c.in-Ok.ensures.stays;
  comes = c.in-Ok.ensures.comes;
  log_is = c.close_world-store.ensures.history;
  jobs_are = c.close_world-store.ensures.jobs;
  end = record {
    closed = c.close_world-store.ensures.closed;
    faults = c.close_world-store.ensures.faults;
    room = c.close_world-store.ensures.room;
    none_out = c.close_world-store.ensures.none_out;
    flushed = c.close_world-store.ensures.named;
    disks = c.close_world-store.ensures.disks;
    held = c.close_world-store.ensures.held;
  };
  named = c.first_waiting-waiting.ensures c.run_rounds-went.new.world c.in-Ok.ensures.rest;
}

pub returns-in-Err-clause-stopped : goal.returns-in-Err-clause-stopped
returns-in-Err-clause-stopped g c = λ none. record {
  now = c.run_rounds-went.new.world;
  gives = c.in-Err.ensures.stop;
  stays = c.in-Err.ensures.stays;
  fault = c.close_world-store.result.2;
  end = record {
    closed = c.close_world-store.ensures.closed;
    faults = c.close_world-store.ensures.faults;
    room = c.close_world-store.ensures.room;
    none_out = c.close_world-store.ensures.none_out;
    flushed = c.close_world-store.ensures.named;
    disks = c.close_world-store.ensures.disks;
    held = c.close_world-store.ensures.held;
  };
}
