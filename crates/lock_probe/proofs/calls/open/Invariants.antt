use Rattle.lock_probe.proofs.calls.open.Given as goal

abbrev pub ghost-new : goal.ghost-new
ghost-new a = record { value = a.world.value }
