-- The fields are written alone, or with what stands behind them and an ending extension.
use Rattle.std.proofs.Common.{◌≡◌, ◌-◌, ℕ, true, false, [], Some, sym, ap, subst, ◌∙◌}
use Rattle.std.proofs.lemmas.Result.{err_from_is_err_and}
use Rattle.std.specs.Prelude.{OnErr}
use Rattle.blk_base.specs.Calls.{FailedLast}
use Rattle.blk_base.specs.Device.{stop_of}
use Rattle.blk_base.specs.declared.device.DeviceCall.TheVariants as calls
use Rattle.blk_base.specs.declared.fault.DevStop.{DevStop}
use Rattle.q2_format.specs.Renamed.{ending_place, needs_ending, next_extension}
use Rattle.q2_image.specs.BackingName.{EndsWithFields}
use Rattle.q2_image.specs.Image.{Known}
use Rattle.q2_image.proofs.NameCalls.{fields_alone, fields_read, place_needed, read_failed}
use Rattle.q2_image.proofs.image.Image.put_fields.Goals as goal

pub returns-then-not-needs_ending : goal.returns-then-not-needs_ending
returns-then-not-needs_ending g c = λ name is.
    let none : needs_ending c.args.self.now.header ≡ false = ap (λ (k : Known). needs_ending k.header) (sym c.self.view_is) ∙ sym c.needs_ending.ensures ∙ c.if-not-needs_ending.true in
    fields_alone g.D.Device c.args.self.now name c.args.fields.now is (stop_of c.write.result) c.args.dev.now c.write.new.dev (g.met.D.Device.told_size c.args.dev.now) none c.write.ensures

pub returns-in_err-read_between : goal.returns-in_err-read_between
returns-in_err-read_between g c = λ name is.
    let p = err_from_is_err_and c.from_residual.result c.from_residual.ensures.1 in
    let stop : DevStop = c.in_err-read_between.field-0.0 in
    let some : needs_ending c.args.self.now.header ≡ true = ap (λ (k : Known). needs_ending k.header) (sym c.self.view_is) ∙ sym c.needs_ending.ensures ∙ c.if-not-needs_ending.false in
    let place : c.ending_place.result ≡ ending_place c.args.self.now.header = c.ending_place.ensures ∙ ap (λ (k : Known). ending_place k.header) c.self.view_is in
    let len : c.ending_place.result - 20 ≡ next_extension c.args.self.now.header - 20 = ap (λ (e : ℕ). e - 20) (place ∙ place_needed c.args.self.now.header some) in
    let C : ℕ → Type 0 = λ n. OnErr c.read_between.result (FailedLast (calls.Read 20 n) (g.D.Device.failed_call c.read_between.new.dev)) in
    let Q : DevStop → Type 0 = λ x. EndsWithFields g.D.Device c.args.self.now.header [] name (Some x) c.args.dev.now c.read_between.new.dev in
    rw p.1 (subst Q (sym p.2) (read_failed g.D.Device c.args.self.now name c.args.fields.now is [] some c.read_between.result stop c.args.dev.now c.read_between.new.dev
    c.in_err-read_between.was c.read_between.ensures.reads (subst C len c.read_between.ensures.call) c.read_between.ensures.cause))

pub returns : goal.returns
returns g c = λ name is.
    let some : needs_ending c.args.self.now.header ≡ true = ap (λ (k : Known). needs_ending k.header) (sym c.self.view_is) ∙ sym c.needs_ending.ensures ∙ c.if-not-needs_ending.false in
    let place : c.ending_place.result ≡ ending_place c.args.self.now.header = c.ending_place.ensures ∙ ap (λ (k : Known). ending_place k.header) c.self.view_is in
    let n : ℕ = c.ending_place.result - 20 in
    fields_read g.D.Device c.args.self.now name c.args.fields.now is (stop_of c.write-2.result) c.read_between.new.bytes n c.args.dev.now c.read_between.new.dev c.write-2.new.dev some
    (ap (λ (e : ℕ). e - 20) (place ∙ place_needed c.args.self.now.header some)) c.in_ok-read_between.ensures.put c.in_ok-read_between.ensures.reads c.write-2.ensures
