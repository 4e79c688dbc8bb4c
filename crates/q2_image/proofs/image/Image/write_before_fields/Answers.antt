-- Each call's writes come behind those of the calls before it.
use Rattle.std.proofs.Common.{ℕ, List, Option, Some, refl, sym, ap, subst, ◌∙◌}
use Rattle.std.proofs.lemmas.Result.{err_from_is_err_and}
use Rattle.std.specs.Option.{option_copied}
use Rattle.blk_base.specs.Device.{stop_of}
use Rattle.blk_base.specs.declared.fault.DevStop.{DevStop}
use Rattle.q2_format.specs.Created.{IsNewName, IsNewFormat}
use Rattle.q2_format.proofs.Placed.{copied_fits}
use Rattle.q2_image.specs.BackingName.{MakesEarly, with_format}
use Rattle.q2_image.specs.Image.{Known, IsOpen}
use Rattle.q2_image.specs.Writing.{autocleared}
use Rattle.q2_image.proofs.NameAnswers.{made_1, made_2, made_3, made_4, text_image, ending_image}
use Rattle.q2_image.proofs.NameStops.{open_with_format}
use Rattle.q2_image.proofs.OwnTold.{open_cleared}
use Rattle.q2_image.proofs.image.Image.write_before_fields.Goals as goal

pub returns-in_err-clear_autoclear-clause-makes : goal.returns-in_err-clear_autoclear-clause-makes
returns-in_err-clear_autoclear-clause-makes g c =
    let p = err_from_is_err_and c.from_residual.result c.from_residual.ensures.1 in
    let stop : DevStop = c.in_err-clear_autoclear.field-0.0 in
    let Q : DevStop → Type 0 = λ x. MakesEarly g.D.Device c.args.self.now c.args.length (option_copied c.args.name) (option_copied c.args.format) (Some x) c.clear_autoclear.new.self c.args.dev.now c.clear_autoclear.new.dev in
    rw p.1 (subst Q (sym p.2) (made_1 g.D.Device c.args.self.now (autocleared c.args.self.now) (autocleared c.args.self.now) (option_copied c.args.name) (option_copied c.args.format) c.args.length refl c.clear_autoclear.new.self stop c.args.dev.now c.clear_autoclear.new.dev
    c.in_err-clear_autoclear.ensures.writes c.in_err-clear_autoclear.ensures.kept))

pub returns-in_err-write_text-clause-makes : goal.returns-in_err-write_text-clause-makes
returns-in_err-write_text-clause-makes g c =
    let p = err_from_is_err_and c.from_residual-in_err-write_text.result c.from_residual-in_err-write_text.ensures.1 in
    let stop : DevStop = c.in_err-write_text.field-0.0 in
    let Q : DevStop → Type 0 = λ x. MakesEarly g.D.Device c.args.self.now c.args.length (option_copied c.args.name) (option_copied c.args.format) (Some x) c.clear_autoclear.new.self c.args.dev.now c.write_text.new.dev in
    rw p.1 (subst Q (sym p.2) (made_2 g.D.Device c.args.self.now c.clear_autoclear.new.self c.clear_autoclear.new.self (option_copied c.args.name) (option_copied c.args.format) c.args.length
    c.in_ok-clear_autoclear.ensures.cleared stop c.args.dev.now c.clear_autoclear.new.dev c.write_text.new.dev c.in_ok-clear_autoclear.ensures.writes c.in_err-write_text.ensures))

pub returns-in_err-write_text-clause-image : goal.returns-in_err-write_text-clause-image
returns-in_err-write_text-clause-image g c =
    let k : Known = c.clear_autoclear.new.self in
    let ready : IsOpen k = subst IsOpen (sym c.in_ok-clear_autoclear.ensures.cleared) (open_cleared c.args.self.now c.requires.open) in
    text_image g.D.Device k (option_copied c.args.name) (stop_of c.write_text.result) c.clear_autoclear.new.dev c.write_text.new.dev ready
    (copied_fits IsNewName c.args.name c.requires.name) c.in_ok-clear_autoclear.ensures.image c.write_text.ensures

pub write_format-requires-clause-image : goal.write_format-requires-clause-image
write_format-requires-clause-image g c =
    let k : Known = c.clear_autoclear.new.self in
    let ready : IsOpen k = subst IsOpen (sym c.in_ok-clear_autoclear.ensures.cleared) (open_cleared c.args.self.now c.requires.open) in
    text_image g.D.Device k (option_copied c.args.name) (stop_of c.write_text.result) c.clear_autoclear.new.dev c.write_text.new.dev ready
    (copied_fits IsNewName c.args.name c.requires.name) c.in_ok-clear_autoclear.ensures.image c.write_text.ensures

pub returns-in_err-write_format-clause-makes : goal.returns-in_err-write_format-clause-makes
returns-in_err-write_format-clause-makes g c =
    let p = err_from_is_err_and c.from_residual-in_err-write_format.result c.from_residual-in_err-write_format.ensures.1 in
    let stop : DevStop = c.in_err-write_format.field-0.0 in
    let Q : DevStop → Type 0 = λ x. MakesEarly g.D.Device c.args.self.now c.args.length (option_copied c.args.name) (option_copied c.args.format) (Some x) c.write_format.new.self c.args.dev.now c.write_format.new.dev in
    rw p.1 (subst Q (sym p.2) (made_3 g.D.Device c.args.self.now c.clear_autoclear.new.self c.clear_autoclear.new.self (option_copied c.args.name) (option_copied c.args.format) c.args.length
    c.in_ok-clear_autoclear.ensures.cleared c.write_format.new.self stop c.args.dev.now c.clear_autoclear.new.dev c.write_text.new.dev c.write_format.new.dev
    c.in_ok-clear_autoclear.ensures.writes c.in_ok-write_text.ensures c.in_err-write_format.ensures.makes))

pub returns-clause-makes : goal.returns-clause-makes
returns-clause-makes g c =
    made_4 g.D.Device c.args.self.now c.clear_autoclear.new.self c.write_format.new.self (option_copied c.args.name) (option_copied c.args.format) c.args.length
    c.in_ok-clear_autoclear.ensures.cleared c.in_ok-write_format.ensures.ok (stop_of c.shorten_ending.result) c.args.dev.now c.clear_autoclear.new.dev c.write_text.new.dev c.write_format.new.dev
    c.shorten_ending.new.dev (copied_fits IsNewFormat c.args.format c.requires.format) c.in_ok-clear_autoclear.ensures.writes c.in_ok-write_text.ensures c.in_ok-write_format.ensures.makes c.shorten_ending.ensures

pub returns-clause-image : goal.returns-clause-image
returns-clause-image g c =
    let k : Known = c.write_format.new.self in
    let format : Option (List ℕ) = option_copied c.args.format in
    let known = c.in_ok-write_format.ensures.ok ∙ ap (λ (x : Known). with_format x format) c.in_ok-clear_autoclear.ensures.cleared in
    let ready : IsOpen k = subst IsOpen (sym known) (open_with_format _ format (open_cleared c.args.self.now c.requires.open) (copied_fits IsNewFormat c.args.format c.requires.format)) in
    ending_image g.D.Device k (option_copied c.args.name) c.args.length (stop_of c.shorten_ending.result) c.write_format.new.dev c.shorten_ending.new.dev ready c.write_format.ensures.image c.shorten_ending.ensures
