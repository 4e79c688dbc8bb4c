-- What was written is what the device says of its bytes.
use Rattle.std.proofs.Common.{ℕ, [], ◌∷◌, inr, refl, sym, subst}
use Rattle.blk_base.specs.Counts.{Rose}
use Rattle.blk_base.specs.Writes.{write_of}
use Rattle.blk_base.proofs.Calls.{write_failed}
use Rattle.std.proofs.Common.{◌+◌, length, take, arith}
use Rattle.std.proofs.lemmas.List.{length-take}
use Rattle.q2_image.proofs.Creations.{held_after, write_changes}
use Rattle.q2_image.proofs.create.write.Goals as goal

pub returns-in-Ok-clause-holds : goal.returns-in-Ok-clause-holds
returns-in-Ok-clause-holds g c = λ file told.
    held_after (g.D.Device.content c.args.dev.now) (g.D.Device.content c.write_at.new.self) file c.args.at c.args.bytes.now c.requires.some c.in-Ok.ensures.written told

pub returns-in-Ok-clause-within : goal.returns-in-Ok-clause-within
returns-in-Ok-clause-within g c =
    write_changes (g.D.Device.content c.args.dev.now) (g.D.Device.content c.write_at.new.self) c.args.at (c.args.at + length c.args.bytes.now) c.args.bytes.now
    (omega arith) c.in-Ok.ensures.written

pub returns-in-Failed-clause-within : goal.returns-in-Failed-clause-within
returns-in-Failed-clause-within g c =
    write_changes (g.D.Device.content c.args.dev.now) (g.D.Device.content c.write_at.new.self) c.args.at (c.args.at + length c.args.bytes.now)
    (take c.in-Err.stop.done c.args.bytes.now) (rw length-take (omega arith)) c.in-Err.ensures.written

pub returns-in-Ok-clause-writes : goal.returns-in-Ok-clause-writes
returns-in-Ok-clause-writes g c =
    let fits = c.in-Ok.ensures.fits in
    record {
      made = write_of c.args.at c.args.bytes.now ∷ [];
      part = refl;
      wrote = record {
        content = c.in-Ok.ensures.written;
        size = c.in-Ok.ensures.size;
        log = c.in-Ok.ensures.log;
        same_log = λ none. let bad : ⊥ = cc none in absurd bad;
        flushed = c.in-Ok.ensures.flushed;
        capacity = c.in-Ok.ensures.capacity;
        faults = c.in-Ok.ensures.faults;
      };
      cause = (omega (arith, fits), c.in-Ok.ensures.quiet);
      call = c.in-Ok.ensures.call;
    }

pub returns-in-Failed-clause-writes : goal.returns-in-Failed-clause-writes
returns-in-Failed-clause-writes g c =
    let done : ℕ = c.in-Err.stop.done in
    let stopped = c.in-Err.ensures.failed c.in-Failed.is in
    let failed = stopped.1 in
    record {
      made = write_of c.args.at (take done c.args.bytes.now) ∷ [];
      part = inr (record { n = done; short = failed.part; sector = failed.sector; first = refl }, refl);
      wrote = record {
        content = c.in-Err.ensures.written;
        size = c.in-Err.ensures.size;
        log = c.in-Err.ensures.log;
        same_log = λ none. let bad : ⊥ = cc none in absurd bad;
        flushed = c.in-Err.ensures.flushed;
        capacity = c.in-Err.ensures.capacity;
        faults = c.in-Err.ensures.faults;
      };
      cause = (
        (write_of c.args.at c.args.bytes.now, refl, stopped.0),
        subst (λ (n : ℕ). Rose (g.D.Device.faults c.args.dev.now) n) (sym c.faults.ensures) failed.rose,
        c.faults.ensures,
      );
      call = write_failed c.args.at 0 c.args.bytes.now (write_of c.args.at (take done c.args.bytes.now)) c.in-Err.stop.why _ _ c.in-Failed.is c.in-Err.ensures.call;
    }
