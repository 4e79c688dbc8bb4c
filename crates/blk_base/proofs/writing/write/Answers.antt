use Rattle.std.proofs.Common.{[], ◌∷◌, ℕ, List, take, refl, sym, ap, subst, inr}
use Rattle.blk_base.specs.Counts.{Rose}
use Rattle.blk_base.specs.Writes.{write_of}
use Rattle.blk_base.proofs.Calls.{write_failed, write_refused}
use Rattle.blk_base.proofs.writing.write.Goals as goal

pub returns-in-Failed : goal.returns-in-Failed
returns-in-Failed g c =
    let done : ℕ = c.in-Err.stop.done in
    let bytes : List ℕ = c.args.bytes.now in
    let stopped = c.in-Err.ensures.failed c.in-Failed.is in
    let failed = stopped.1 in
    record {
      made = write_of c.args.at (take done bytes) ∷ [];
      part = inr (record { n = done; short = failed.part; sector = failed.sector; first = refl }, refl);
      wrote = record {
        content = c.in-Err.ensures.written;
        size = c.in-Err.ensures.size;
        log = c.in-Err.ensures.log;
        same_log = λ none. let bad : ⊥ = cc none in absurd bad;
        flushed = c.in-Err.ensures.flushed;
        capacity = c.in-Err.ensures.capacity;
        faults = c.in-Err.ensures.faults;
      };
      cause = (
        (write_of c.args.at bytes, refl, stopped.0),
        subst (λ n. Rose (g.D.Device.faults c.args.dev.now) n) (sym c.faults.ensures) failed.rose,
        c.faults.ensures,
      );
      call = write_failed c.args.at 0 bytes (write_of c.args.at (take done bytes)) c.in-Err.stop.why _ _ c.in-Failed.is c.in-Err.ensures.call;
    }

pub returns-in-NoSpace : goal.returns-in-NoSpace
returns-in-NoSpace g c =
    let done : ℕ = c.in-Err.stop.done in
    let bytes : List ℕ = c.args.bytes.now in
    let refused = c.in-Err.ensures.no_space c.in-NoSpace.is in
    record {
      made = write_of c.args.at (take done bytes) ∷ [];
      part = inr (ap (λ n. write_of c.args.at (take n bytes)) refused.1, refl);
      wrote = record {
        content = c.in-Err.ensures.written;
        size = c.in-Err.ensures.size;
        log = c.in-Err.ensures.log;
        same_log = λ none. let bad : ⊥ = cc none in absurd bad;
        flushed = c.in-Err.ensures.flushed;
        capacity = c.in-Err.ensures.capacity;
        faults = c.in-Err.ensures.faults;
      };
      cause = ((write_of c.args.at bytes, refl, refused.0), refused.2);
      call = write_refused c.args.at bytes (write_of c.args.at (take done bytes)) c.in-Err.stop.why _ _ c.in-NoSpace.is c.in-Err.ensures.call;
    }
