use Rattle.std.proofs.Common.{◌≡◌, ℕ, ◌*◌, List, [], Some, Result, Ok, Err, OnErr, sym, ap, subst, ◌∙◌}
use Rattle.std.proofs.lemmas.Result.{err_from_is_err_and, on_ok_weaker}
use Rattle.blk_base.specs.declared.fault.DevStop.{DevStop}
use Rattle.q2_image.specs.Image.{Known, cluster_size_in}
use Rattle.q2_image.specs.Made.{WriteStep, MakesSteps, fill_steps, put_steps}
use Rattle.q2_image.specs.Writing.{IsDiskWith, autocleared}
use Rattle.q2_image.proofs.Changes.{behind_clear, clear_stopped}
use Rattle.q2_image.proofs.OwnWrites.{disk_then}
use Rattle.q2_image.proofs.Taken.{told_too}
use Rattle.q2_image.proofs.image.Image.put_cleared.Goals as goal

on_err_weaker : {T E P Q : Type 0} (r : Result T E) → (P → Q) → OnErr r P → OnErr r Q
on_err_weaker (Ok t) f h = tt
on_err_weaker (Err e) f h = f h

pub put_into-requires-clause-whole : goal.put_into-requires-clause-whole
put_into-requires-clause-whole g c = c.requires.whole ∙ ap cluster_size_in (sym c.in_ok-clear_autoclear.ensures.cleared)

pub returns-clause-disk : goal.returns-clause-disk
returns-clause-disk g c =
    let same : cluster_size_in c.clear_autoclear.new.self ≡ cluster_size_in c.args.self.now = ap cluster_size_in c.in_ok-clear_autoclear.ensures.cleared in
    on_ok_weaker c.put_into.result (λ made. λ old new told_old told_new.
    let mid = told_too (g.D.Device.content c.clear_autoclear.new.dev) (g.D.Device.content c.put_into.new.dev) new c.put_into.ensures.told told_new in
    let at : ℕ = c.args.cluster * cluster_size_in c.args.self.now in
    let P : ℕ → Type 0 = λ n. IsDiskWith mid.0 new (c.args.cluster * n) c.args.bytes.now in
    disk_then old mid.0 new at c.args.bytes.now (c.in_ok-clear_autoclear.ensures.disk old mid.0 told_old mid.1) (subst P same (made mid.0 new mid.1 told_new))) c.put_into.ensures.disk

pub returns-clause-kept : goal.returns-clause-kept
returns-clause-kept g c = on_err_weaker c.put_into.result (λ kept. λ old new told_old told_new.
    let mid = told_too (g.D.Device.content c.clear_autoclear.new.dev) (g.D.Device.content c.put_into.new.dev) new c.put_into.ensures.told told_new in
    disk_then old mid.0 new 0 [] (c.in_ok-clear_autoclear.ensures.disk old mid.0 told_old mid.1) (kept mid.0 new mid.1 told_new)) c.put_into.ensures.kept

pub returns-in_err-clear_autoclear-clause-steps : goal.returns-in_err-clear_autoclear-clause-steps
returns-in_err-clear_autoclear-clause-steps g c =
    let p = err_from_is_err_and c.from_residual.result c.from_residual.ensures.1 in
    let stop : DevStop = c.in_err-clear_autoclear.field-0.0 in
    let Q : DevStop → Type 0 = λ x. MakesSteps g.D.Device c.args.self.now (put_steps c.args.self.now c.args.cluster c.args.bytes.now) (Some x) c.clear_autoclear.new.self c.args.dev.now c.clear_autoclear.new.dev in
    rw p.1 (subst Q (sym p.2) (clear_stopped g.D.Device c.args.self.now c.clear_autoclear.new.self (fill_steps (autocleared c.args.self.now) c.args.cluster c.args.bytes.now) stop
    c.args.dev.now c.clear_autoclear.new.dev c.in_err-clear_autoclear.ensures.writes c.in_err-clear_autoclear.ensures.kept))

pub returns-clause-steps : goal.returns-clause-steps
returns-clause-steps g c =
    let S : Known → List WriteStep = λ k. fill_steps k c.args.cluster c.args.bytes.now in
    behind_clear g.D.Device c.args.self.now c.clear_autoclear.new.self c.put_into.new.self S c.put_into.result c.args.dev.now c.clear_autoclear.new.dev c.put_into.new.dev
    c.in_ok-clear_autoclear.ensures.writes c.in_ok-clear_autoclear.ensures.cleared c.put_into.ensures.steps
