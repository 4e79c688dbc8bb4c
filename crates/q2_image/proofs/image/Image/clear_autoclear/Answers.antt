use Rattle.std.proofs.Common.{◌≢◌, ℕ, sym, ap, subst, ◌∙◌}
use Rattle.blk_base.specs.Counts.{Rose}
use Rattle.q2_image.specs.Image.{Known, IsImageOf}
use Rattle.q2_image.specs.Writing.{autocleared}
use Rattle.q2_image.proofs.Autocleared.{told_image, told_disk, nothing_done, untouched}
use Rattle.q2_image.proofs.ClearWrites.{cleared_all, cleared_part, clear_fits, failed_by_why, rose_by_why}
use Rattle.q2_image.proofs.image.Image.clear_autoclear.Goals as goal

pub returns-in-Ok-clause-image : goal.returns-in-Ok-clause-image
returns-in-Ok-clause-image g c = λ file told.
    let P : Known → Type 0 = λ image. IsImageOf file (autocleared image) in
    subst P (sym c.self.view_is)
    (told_image (g.D.Device.content c.args.dev.now) (g.D.Device.content c.write_at.new.self) c.args.self.now c.requires.image c.in-Ok.ensures.written file told)

pub returns-in-Ok-clause-disk : goal.returns-in-Ok-clause-disk
returns-in-Ok-clause-disk g c =
    told_disk (g.D.Device.content c.args.dev.now) (g.D.Device.content c.write_at.new.self) c.args.self.now c.requires.image c.in-Ok.ensures.written

pub returns-in-Err-clause-untouched : goal.returns-in-Err-clause-untouched
returns-in-Err-clause-untouched g c =
    let none = nothing_done c.in-Err.field-0 _ _ _ c.in-Err.ensures.no_space c.in-Err.ensures.failed in
    untouched (g.D.Device.content c.args.dev.now) (g.D.Device.content c.write_at.new.self) c.in-Err.field-0.done none c.in-Err.ensures.written

pub returns-in-Err-clause-image : goal.returns-in-Err-clause-image
returns-in-Err-clause-image g c = λ file told.
    let none = nothing_done c.in-Err.field-0 _ _ _ c.in-Err.ensures.no_space c.in-Err.ensures.failed in
    let same = untouched (g.D.Device.content c.args.dev.now) (g.D.Device.content c.write_at.new.self) c.in-Err.field-0.done none c.in-Err.ensures.written in
    c.requires.image file (sym same ∙ told)

pub returns-in-Ok-clause-writes : goal.returns-in-Ok-clause-writes
returns-in-Ok-clause-writes g c =
    let some : c.args.self.now.header.autoclear ≢ 0 = λ none. c.if-self-eq0.false (ap (λ (k : Known). k.header.autoclear) c.self.view_is ∙ none) in
    cleared_all g.D.Device c.args.self.now c.args.dev.now c.write_at.new.self some
    (record {
      content = c.in-Ok.ensures.written;
      size = c.in-Ok.ensures.size;
      log = c.in-Ok.ensures.log;
      same_log = λ none. let bad : ⊥ = cc none in absurd bad;
      flushed = c.in-Ok.ensures.flushed;
      capacity = c.in-Ok.ensures.capacity;
      faults = c.in-Ok.ensures.faults;
    }) c.in-Ok.ensures.fits c.in-Ok.ensures.quiet c.in-Ok.ensures.call

pub returns-in-Err-clause-writes : goal.returns-in-Err-clause-writes
returns-in-Err-clause-writes g c =
    let some : c.args.self.now.header.autoclear ≢ 0 = λ none. c.if-self-eq0.false (ap (λ (k : Known). k.header.autoclear) c.self.view_is ∙ none) in
    let stop = c.in-Err.field-0 in
    let nothing = nothing_done stop _ _ _ c.in-Err.ensures.no_space c.in-Err.ensures.failed in
    let fits = clear_fits c.args.self.now (g.D.Device.capacity c.args.dev.now) some c.requires.fits in
    let rose = rose_by_why stop.why stop.done _ _ _ c.in-Err.ensures.no_space c.in-Err.ensures.failed fits in
    let failed = failed_by_why stop.why stop.done _ _ _ c.in-Err.ensures.no_space fits in
    let R : ℕ → Type 0 = λ n. Rose (g.D.Device.faults c.args.dev.now) n in
    cleared_part g.D.Device c.args.self.now stop.done c.faults.result stop.why c.args.dev.now c.write_at.new.self some nothing
    (record {
      content = c.in-Err.ensures.written;
      size = c.in-Err.ensures.size;
      log = c.in-Err.ensures.log;
      same_log = λ none. let bad : ⊥ = cc none in absurd bad;
      flushed = c.in-Err.ensures.flushed;
      capacity = c.in-Err.ensures.capacity;
      faults = c.in-Err.ensures.faults;
    }) fits (subst R (sym c.faults.ensures) rose) c.faults.ensures failed c.in-Err.ensures.call
